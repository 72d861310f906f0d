use mathlib.Core.Path.{◌∙◌}
use native.Mathlib.Omega.{arith}
use lib.ListN.{drop}
use Rattle.format.specs.Bodies.{triple}
use Rattle.inline_refs.proofs.Tests.{first-differs, first-agrees}
use Rattle.inline_refs.proofs.ref_name.names_triple.Goals as goal

pub returns-then-get_u64_le-name : goal.returns-then-get_u64_le-name
returns-then-get_u64_le-name c =
    let a = c.args in
    first-differs (drop a.start a.body.now) _ c.get_u64_le.ensures (triple a.name) (omega arith) c.if-get_u64_le-name.true

pub returns : goal.returns
returns c =
    let a = c.args in
    c.names_rest.ensures
    ∙ first-agrees (drop a.start a.body.now) _ c.get_u64_le.ensures (triple a.name) (omega arith) c.if-get_u64_le-name.false
