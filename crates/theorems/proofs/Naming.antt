-- The four types that name something, and what the table and the order say of each. Assumes nothing.
use mathlib.Core.Path.{◌≡◌, refl, sym, subst}
use mathlib.Core.Logic.{◌⊎◌, inl, inr}
use Prim.Native.Nat.{ℕ, ◌<◌}
use native.Mathlib.Omega.{arith}
use mathlib.Core.Bool.{false, not}
use lib.Dec.{T, eqb, eqb→eq}
use lib.ListN.{length}
use mir.Facts.{or_yes}
use Rattle.format.specs.declared.Change.{Change}
use Rattle.format.specs.declared.Change.TheVariants.{AddBlock, AddData, AddShared, DropBlock, DropData, DropShared}
use Rattle.format.specs.References.{known, payload_length, count_position, counted, field_count, row_in, weight_of, rank_of}
use Rattle.format.specs.Bodies.{one, shared_kind}
use Rattle.format.specs.Items.{Item}
use Rattle.format.specs.Apply.{is_record}
use Rattle.format.specs.Names.{Name}
use Rattle.format.specs.Ledger.{name_of, kind_fits}

pub data Naming (kind : ℕ) : Type 0 where
  is176 : kind ≡ 176 → Naming kind
  is178 : kind ≡ 178 → Naming kind
  is182 : kind ≡ 182 → Naming kind
  is184 : kind ≡ 184 → Naming kind

pub above-172 : (kind : ℕ) → Naming kind → 172 < kind
above-172 kind (is176 e) = omega arith
above-172 kind (is178 e) = omega arith
above-172 kind (is182 e) = omega arith
above-172 kind (is184 e) = omega arith

pub not-172 : (kind : ℕ) → Naming kind → eqb kind 172 ≡ false
not-172 kind (is176 e) = rw e refl
not-172 kind (is178 e) = rw e refl
not-172 kind (is182 e) = rw e refl
not-172 kind (is184 e) = rw e refl

pub naming-known : (kind : ℕ) → Naming kind → T (known kind)
unfolding known row_in
naming-known kind (is176 e) = rw e tt
naming-known kind (is178 e) = rw e tt
naming-known kind (is182 e) = rw e tt
naming-known kind (is184 e) = rw e tt

pub naming-no-record : (i : Item) → Naming i.key.kind → T (not (is_record i))
unfolding is_record
naming-no-record i (is176 e) = rw e tt
naming-no-record i (is178 e) = rw e tt
naming-no-record i (is182 e) = rw e tt
naming-no-record i (is184 e) = rw e tt

-- but for 178 there is one field
pub one_field : (kind : ℕ) → Naming kind → eqb kind 178 ≡ false → field_count kind ≡ 1
unfolding field_count payload_length counted count_position row_in
one_field kind (is176 e) q = rw e refl
one_field kind (is178 e) q = absurd (subst (λ (k : ℕ). eqb k 178 ≡ false → T false) (sym e) (λ z. subst T z tt) q)
one_field kind (is182 e) q = rw e refl
one_field kind (is184 e) q = rw e refl

-- a type without a count weighs 1
pub weighs-one : (kind : ℕ) → Naming kind → (n : ℕ) → T (not (counted kind)) → weight_of kind n ≡ 1
unfolding weight_of counted count_position row_in
weighs-one kind (is176 e) n t = rw e refl
weighs-one kind (is178 e) n t = absurd (rw e at t)
weighs-one kind (is182 e) n t = rw e refl
weighs-one kind (is184 e) n t = absurd (rw e at t)

-- the types of shared references
pub shared-naming : (kind : ℕ) → T (shared_kind kind) → Naming kind
unfolding shared_kind
shared-naming kind t = go (or_yes (eqb kind 182) (eqb kind 184) t)
  where
    go : T (eqb kind 182) ⊎ T (eqb kind 184) → Naming kind
    go (inl h) = is182 (eqb→eq _ _ h)
    go (inr h) = is184 (eqb→eq _ _ h)

pub shared-field : (kind : ℕ) → T (shared_kind kind) → field_count kind ≡ 1
unfolding shared_kind field_count payload_length counted count_position row_in
shared-field kind t = go (or_yes (eqb kind 182) (eqb kind 184) t)
  where
    go : T (eqb kind 182) ⊎ T (eqb kind 184) → field_count kind ≡ 1
    go (inl h) = let e : kind ≡ 182 = eqb→eq _ _ h in rw e refl
    go (inr h) = let e : kind ≡ 184 = eqb→eq _ _ h in rw e refl

pub shared-rank : (kind parent : ℕ) → T (shared_kind kind) → rank_of kind (one parent) ≡ parent
unfolding shared_kind rank_of
shared-rank kind parent t = go (or_yes (eqb kind 182) (eqb kind 184) t)
  where
    go : T (eqb kind 182) ⊎ T (eqb kind 184) → rank_of kind (one parent) ≡ parent
    go (inl h) = let e : kind ≡ 182 = eqb→eq _ _ h in rw e refl
    go (inr h) = let e : kind ≡ 184 = eqb→eq _ _ h in rw e refl

-- ---- the name of a change: one of the four types, with as many fields as the type has

pub record Formed (m : Name) : Type 0 where
  pub naming : Naming m.kind
  pub size : length m.fields ≡ field_count m.kind

pub formed : (c : Change) → T (kind_fits c) → Formed (name_of c)
unfolding field_count payload_length counted count_position row_in
formed (AddBlock extent name) k = record { naming = is176 refl; size = refl }
formed (AddData extent name amount) k = record { naming = is178 refl; size = refl }
formed (AddShared extent name amount) k = record { naming = shared-naming name.kind k; size = sym (shared-field name.kind k) }
formed (DropBlock extent name) k = record { naming = is176 refl; size = refl }
formed (DropData extent name) k = record { naming = is178 refl; size = refl }
formed (DropShared extent name amount) k = record { naming = shared-naming name.kind k; size = sym (shared-field name.kind k) }
