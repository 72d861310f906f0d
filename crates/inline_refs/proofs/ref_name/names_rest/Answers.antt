use Rattle.inline_refs.proofs.Tests.{rest-second, rest-third}
use Rattle.inline_refs.proofs.ref_name.names_rest.Goals as goal

pub returns-then-get_u64_le-name : goal.returns-then-get_u64_le-name
returns-then-get_u64_le-name c =
    let a = c.args in
    rest-second a.start a.body.now a.name.objectid a.name.offset _ c.get_u64_le.ensures c.if-get_u64_le-name.true

pub returns : goal.returns
returns c =
    let a = c.args in
    rest-third a.start a.body.now a.name.objectid a.name.offset _ c.get_u64_le.ensures _ c.get_u64_le-2.ensures c.if-get_u64_le-name.false
