-- The form of a reference item, as code tests it. Assumes nothing.
use mathlib.Core.Path.{◌≡◌, refl, sym, ap, ap₂, ◌∙◌}
use Prim.Native.Nat.{ℕ}
use native.Mathlib.Omega.{arith}
use mathlib.Core.List.{List}
use lib.Dec.{T}
use lib.ListN.{length, take, drop}
use lib.Seq.{take_all}
use borrow.Author.Tests.{eq-eqb, ne_eqb}
use Rattle.fields.proofs.Lists.{and-false}
use Rattle.fields.specs.Numbers.{le, words}
use Rattle.fields.specs.Parts.{part}
use Rattle.format.specs.declared.DataRef.{DataRef}
use Rattle.format.specs.References.{row_in, count_position, counted, field_count, weight_of, make_ref, ref_at, rank, rank_of}
use Rattle.format.specs.Bodies.{one, triple}
use Rattle.format.specs.Items.{Item}
use Rattle.format.specs.Names.{reference, is_ref_item, in_form, view_ref_item}
use Rattle.inline_refs.specs.declared.ref_name.RefName.{RefName}
use Rattle.inline_refs.specs.declared.ref_name.RefName.TheVariants.{Block, Data, SharedBlock, SharedData}
use Rattle.inline_refs.specs.Scans.{kind_of, fields_of}
use Rattle.balance.proofs.Says.{naming-of}
use Rattle.theorems.proofs.Naming.{Naming as Kinds, is176, is178, is182, is184}
use Rattle.std.specs.Prelude.{Option, Some, None}
use Rattle.balance.specs.declared.reference.Named.{Named}
use Rattle.balance.specs.Groups.{Naming}

abbrev pub of : ℕ → ℕ → RefName → Option Named
of weight rank wanted = Some (record { weight = weight; rank = rank; wanted = wanted })

module _ (i : Item) where
  module _ (k : i.key.kind ≡ 178) where
    pub data-short : (length i.bytes ≡ 28 → ⊥) → Naming i None
    unfolding Naming view_ref_item in_form
    data-short h = simp (eq-eqb _ _ k, ne_eqb _ _ h)

    module _ (own-rank : ℕ) (e : own-rank ≡ rank (ref_at 178 (drop 0 i.bytes))) where
      pub data-elsewhere : (own-rank ≡ i.key.offset → ⊥) → Naming i None
      unfolding Naming view_ref_item in_form
      data-elsewhere h =
          let n : i.key.offset ≡ rank (ref_at 178 i.bytes) → ⊥ = (λ q. h (e ∙ sym q)) in
          simp (eq-eqb _ _ k, ne_eqb _ _ n, and-false)

      pub data-form : (weight : ℕ) (d : DataRef) → length i.bytes ≡ 28 → own-rank ≡ i.key.offset → weight ≡ le (part 24 4 i.bytes)
          → triple d ≡ words 3 (drop 0 i.bytes) → Naming i (of weight own-rank (Data d))
      unfolding Naming view_ref_item in_form kind_of fields_of ref_at field_count counted count_position row_in weight_of rank
      data-form weight d l o w t =
          let q : i.key.offset ≡ rank (ref_at 178 i.bytes) = sym o ∙ e in
          record {
            says = simp (eq-eqb _ _ k, eq-eqb _ _ l, eq-eqb _ _ q) (ap₂ (λ (f : List ℕ) (n : ℕ). reference (make_ref 178 f n)) (sym t) (sym w));
            kind = sym k;
            rank_is = e ∙ ap (rank_of 178) (sym t);
          }

  module _ (k : i.key.kind ≡ 178 → ⊥) where
    module _ (m : i.key.kind ≡ 184) where
      pub shared-short : (length i.bytes ≡ 4 → ⊥) → Naming i None
      unfolding Naming view_ref_item in_form
      shared-short h = simp (ne_eqb _ _ k, eq-eqb _ _ m, ne_eqb _ _ h)

      pub shared-form : (weight : ℕ) → length i.bytes ≡ 4 → weight ≡ le (part 0 4 i.bytes) → Naming i (of weight i.key.offset (SharedData i.key.offset))
      unfolding Naming view_ref_item in_form kind_of fields_of rank_of
      shared-form weight l w =
          let a : take 4 i.bytes ≡ i.bytes = take_all 4 i.bytes (omega arith) in
          record {
            says = simp (ne_eqb _ _ k, eq-eqb _ _ m, eq-eqb _ _ l) (ap (λ (n : ℕ). reference (make_ref 184 (one i.key.offset) n)) (sym (w ∙ ap le a)));
            kind = sym m;
            rank_is = refl;
          }

    module _ (m : i.key.kind ≡ 184 → ⊥) where
      pub plain-long : (length i.bytes ≡ 0 → ⊥) → Naming i None
      unfolding Naming view_ref_item in_form
      plain-long h = simp (ne_eqb _ _ k, ne_eqb _ _ m, ne_eqb _ _ h)

      plain_form : (w : RefName) → kind_of w ≡ i.key.kind → fields_of w ≡ one i.key.offset → length i.bytes ≡ 0 → Naming i (of 1 i.key.offset w)
      unfolding Naming view_ref_item in_form rank_of
      plain_form w p q l = record {
        says = simp (ne_eqb _ _ k, ne_eqb _ _ m, eq-eqb _ _ l) (ap₂ (λ (n : ℕ) (f : List ℕ). reference (make_ref n f 1)) (sym p) (sym q));
        kind = p;
        rank_is = rw (p, q) (simp (ne_eqb _ _ k));
      }

      pub block-form : i.key.kind ≡ 176 → length i.bytes ≡ 0 → Naming i (of 1 i.key.offset (Block (record { tree = i.key.offset })))
      unfolding kind_of fields_of
      block-form e l = plain_form (Block (record { tree = i.key.offset })) (sym e) refl l

      pub parent-form : T (is_ref_item i) → (i.key.kind ≡ 176 → ⊥) → length i.bytes ≡ 0 → Naming i (of 1 i.key.offset (SharedBlock i.key.offset))
      unfolding kind_of fields_of
      parent-form t n l = plain_form (SharedBlock i.key.offset) (go (naming-of i t)) refl l
        where
          go : Kinds i.key.kind → 182 ≡ i.key.kind
          go (is176 e) = absurd (n e)
          go (is178 e) = absurd (k e)
          go (is182 e) = sym e
          go (is184 e) = absurd (m e)
