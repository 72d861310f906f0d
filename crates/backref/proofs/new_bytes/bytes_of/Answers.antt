use mathlib.Core.Path.{sym, ap, subst, ◌∙◌}
use Rattle.inline_refs.specs.declared.ref_name.RefName.{RefName}
use Rattle.backref.proofs.NewBytes.{Holds, made, holds}
use Rattle.backref.proofs.new_bytes.bytes_of.Goals as goal

pub returns-in-Block : goal.returns-in-Block
returns-in-Block c =
    let a = c.args in
    let e = c.field_bytes.ensures ∙ sym (ap (λ (w : RefName). made w a.count) c.in-Block.is) in
    let h = subst (Holds a.wanted a.count) (sym e) (holds a.wanted a.count) in record { result_value = h.front; result_len = h.long }

pub returns-in-Data : goal.returns-in-Data
returns-in-Data c =
    let a = c.args in
    let e = c.triple_bytes.ensures ∙ sym (ap (λ (w : RefName). made w a.count) c.in-Data.is) in
    let h = subst (Holds a.wanted a.count) (sym e) (holds a.wanted a.count) in record { result_value = h.front; result_len = h.long }

pub returns-in-SharedBlock : goal.returns-in-SharedBlock
returns-in-SharedBlock c =
    let a = c.args in
    let e = c.field_bytes-in-SharedBlock.ensures ∙ sym (ap (λ (w : RefName). made w a.count) c.in-SharedBlock.is) in
    let h = subst (Holds a.wanted a.count) (sym e) (holds a.wanted a.count) in record { result_value = h.front; result_len = h.long }

pub returns-in-SharedData : goal.returns-in-SharedData
returns-in-SharedData c =
    let a = c.args in
    let e = c.field_bytes-in-SharedData.ensures ∙ sym (ap (λ (w : RefName). made w a.count) c.in-SharedData.is) in
    let h = subst (Holds a.wanted a.count) (sym e) (holds a.wanted a.count) in record { result_value = h.front; result_len = h.long }
