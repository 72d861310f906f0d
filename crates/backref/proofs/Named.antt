-- The plans by wanted name, as the definitions have them. Assumes nothing.
use mathlib.Core.Path.{◌≡◌, refl, sym, subst, ◌∙◌}
use mathlib.Core.Bool.{true, false}
use mathlib.Core.List.{List}
use Prim.Native.Nat.{ℕ}
use lib.Dec.{T, eqb, eqb→eq}
use borrow.Author.Tests.{ne_eqb}
use Rattle.std.specs.Prelude.{Result}
use Rattle.format.specs.declared.Refusal.{Refusal}
use Rattle.format.specs.declared.BlockRef.{BlockRef}
use Rattle.format.specs.declared.DataRef.{DataRef}
use Rattle.format.specs.declared.Keyed.{Keyed}
use Rattle.format.specs.declared.Keyed.TheVariants.{Block as Tree, Data as File}
use Rattle.format.specs.declared.SharedRef.{SharedRef}
use Rattle.format.specs.declared.Edited.{Edited}
use Rattle.format.specs.Questions.{ask, Answered, denied}
use Rattle.format.specs.Bodies.{held_body, one, shared_kind, add_inline_shared, add_inline_keyed, take_inline_shared}
use Rattle.format.specs.References.{rank_of}
use Rattle.inline_refs.specs.Scans.{kind_of, fields_of}
use Rattle.inline_refs.specs.declared.ref_name.RefName.{RefName}
use Rattle.inline_refs.specs.declared.ref_name.RefName.TheVariants.{Block, Data, SharedBlock, SharedData}
use Rattle.backref.specs.declared.plan.Plan.{Plan}
use Rattle.backref.specs.Plans.{Planned, PlannedTaken}
use Rattle.backref.specs.ByName.{own_rank, position_of, add_inline, add_keyed, shared_ref, SharedName, take_inline}
use Rattle.backref.proofs.Gives.{add_is}
use Rattle.backref.proofs.Outcomes.{plan-refused, plan-same}
use Rattle.backref.proofs.TakenPlans.{taken_refused, taken-same}

pub other-kind : (kind : ℕ) → shared_kind kind ≡ true → (kind ≡ 182 → ⊥) → kind ≡ 184
unfolding shared_kind
other-kind kind t h = eqb→eq kind 184 (subst T (sym (rw (ne_eqb kind 182 h) at t)) tt)

not-data : (kind : ℕ) → shared_kind kind ≡ true → eqb kind 178 ≡ false
unfolding shared_kind
not-data kind t = ne_eqb kind 178 (λ e. subst T (sym (subst (λ (k : ℕ). shared_kind k ≡ true) e t)) tt)

pub shared-named : (s : SharedRef) (kind : ℕ) → s.kind ≡ kind → s ≡ shared_ref kind s.parent
shared-named s kind e = λ j. record { kind = e j; parent = s.parent }

-- a name that is the shared reference's
named_by : (s : SharedRef) (w : RefName) → SharedName s w → (kind_of w ≡ s.kind) × (fields_of w ≡ one s.parent) × (own_rank w ≡ s.parent)
unfolding kind_of fields_of own_rank rank_of
named_by s (Block name) h = absurd h
named_by s (Data name) h = absurd h
named_by s (SharedBlock parent) h = rw h (refl, refl, refl)
named_by s (SharedData parent) h = rw h (refl, refl, refl)

-- of a kind that is shared
module _ (type : ℕ) (d : List ℕ) (s : SharedRef) (plan : Result Plan Refusal) where
  module _ (w : RefName) (shared : shared_kind s.kind ≡ true) (name : SharedName s w) where
    names : (kind_of w ≡ s.kind) × (fields_of w ≡ one s.parent) × (own_rank w ≡ s.parent)
    names = named_by s w name

    pub shared-is : (amount : ℕ) → Planned plan d (add_inline type d w amount) → Planned plan d (add_inline_shared type d s amount)
    unfolding add_inline_shared position_of ask
    shared-is amount h =
        plan-same plan d _ _ (add_is type d w amount ∙ rw (names.0, not-data s.kind shared, names.0, names.1, names.2, shared) refl) h

    pub take-is : PlannedTaken plan d (take_inline type d w) → PlannedTaken plan d (take_inline_shared type d s)
    unfolding take_inline_shared take_inline ask
    take-is h = taken-same plan d _ _ (rw (shared, names.0, names.1) refl) h

  module _ (other : shared_kind s.kind ≡ false) (o : plan ≡ denied 3) where
    pub shared-other : (amount : ℕ) → Planned plan d (add_inline_shared type d s amount)
    unfolding add_inline_shared ask
    shared-other amount = plan-refused plan d _ 3 o (rw other refl)

    pub take-other : PlannedTaken plan d (take_inline_shared type d s)
    unfolding take_inline_shared ask
    take-other = taken_refused plan d _ 3 o (rw other refl)

-- the two cases of a keyed reference
module _ (type : ℕ) (d : List ℕ) (keyed : Keyed) (count room : ℕ) {r : Result Edited Refusal} {old new : List ℕ} where
  pub keyed-block : (name : BlockRef) → keyed ≡ Tree name → Answered (held_body room (add_keyed type d (Block name) name.tree 1)) r old new
      → Answered (held_body room (add_inline_keyed type d keyed count)) r old new
  unfolding add_inline_keyed add_keyed kind_of fields_of
  keyed-block name e h = rw e h

  pub keyed-data : (name : DataRef) → keyed ≡ File name → Answered (held_body room (add_keyed type d (Data name) 0 count)) r old new
      → Answered (held_body room (add_inline_keyed type d keyed count)) r old new
  unfolding add_inline_keyed add_keyed kind_of fields_of
  keyed-data name e h = rw e h
