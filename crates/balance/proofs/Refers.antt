-- A reference item as code reads it, and what it says to the pass. Assumes nothing.
use mathlib.Core.Path.{◌≡◌, refl, sym, ap, ◌∙◌, subst}
use mathlib.Core.Logic.{◌≢◌}
use Prim.Native.Nat.{ℕ, ◌+◌, ◌≤◌, ◌<◌}
use native.Mathlib.Omega.{arith}
use mathlib.Core.Bool.{Bool, true, false, not, ◌&&◌, cond}
use mathlib.Core.Option.{none, some}
use mathlib.Core.List.{List}
use lib.Dec.{T, leb}
use mir.Facts.{not_T}
use borrow.Author.Tests.{le-leb, lt-leb}
use Rattle.fields.proofs.Lists.{and-false}
use Rattle.format.specs.declared.Key.{Key}
use Rattle.format.specs.References.{known, Ref, make_ref}
use Rattle.format.specs.Items.{Item}
use Rattle.format.specs.Names.{reference, malformed, is_ref_item, view_ref_item, view_of}
use Rattle.theorems.proofs.Naming.{above-172, naming-known}
use Rattle.theorems.proofs.Order.{named-yes}
use Rattle.theorems.proofs.Facts.{view-item}
use Rattle.inline_refs.specs.Scans.{kind_of, fields_of, is_wanted}
use Rattle.balance.specs.Tally.{taken, unnamed}
use Rattle.balance.proofs.Says.{naming-of}
use Rattle.balance.specs.declared.span.Span.{Span}
use Rattle.balance.specs.Ranks.{Spanned, absent_in}
use Rattle.balance.proofs.Spanning.{spanned-near}
use Rattle.balance.specs.declared.group.Group.{Group}
use Rattle.balance.specs.declared.reference.Named.{Named}
use Rattle.balance.specs.declared.group.Marked.{Marked}
use Rattle.std.specs.Prelude.{Option, Some, None}
use Rattle.balance.specs.Groups.{item_of, body_of, tally_of, NamedBy, Naming, GroupBody, GroupKept, Taking}

pub ref-known : (i : Item) → T (is_ref_item i) → T (known i.key.kind)
ref-known i t = naming-known i.key.kind (naming-of i t)

pub ref-owner : (i : Item) → T (is_ref_item i) → i.key.kind ≡ 172 → ⊥
ref-owner i t e = let h = above-172 i.key.kind (naming-of i t) in omega arith

pub named-form : (i : Item) (r : Option Named) (n : Named) → r ≡ Some n → Naming i r → NamedBy i n
unfolding Naming
named-form i r n e f = subst (Naming i) e f

never : {A : Type 0} (a b : Bool) (x : A) → cond (a && (b && false)) (some x) none ≡ none
never true true x = refl
never true false x = refl
never false b x = refl

module _ (s : List ℕ) (g : Group) (at next : ℕ) (key : Key) (is_ref : T (is_ref_item (item_of s at next key))) where
  abbrev it : Item
  it = item_of s at next key

  view-is : view_of it ≡ view_ref_item it
  view-is = view-item it (naming-of it is_ref)

  pub name-missing : (r : Option Named) → r ≡ None → Naming it r → Taking s g it next None
  unfolding Naming Taking taken
  name-missing r e n =
      let m : view_ref_item it ≡ malformed = subst (Naming it) e n in
      ap (taken (tally_of s g)) (view-is ∙ m)

  module _ (n : Named) (b : NamedBy it n) where
    abbrev named-ref : Ref
    named-ref = make_ref (kind_of n.wanted) (fields_of n.wanted) n.weight

    taken_is : taken (tally_of s g) (view_of it) ≡ taken (tally_of s g) (reference named-ref)
    taken_is = ap (taken (tally_of s g)) (view-is ∙ b.says)

    -- without a record
    pub name-unmarked : g.marked ≡ None → Taking s g it next None
    unfolding Taking taken tally_of
    name-unmarked m = taken_is ∙ rw m refl

    pub name-light : n.weight ≡ 0 → Taking s g it next None
    unfolding Taking taken
    name-light e =
        let z : leb 1 n.weight ≡ false = lt-leb 1 n.weight (omega arith) in
        taken_is ∙ rw z (simp (and-false (tally_of s g).marked))

    module _ (m : Marked) (q : g.marked ≡ Some m) (span : Span) (sp : Spanned (body_of s m) m.start span) (sk : span.kind ≡ key.kind) where
      other-kind : (r : Ref) → r.kind ≢ span.kind → T (not (is_wanted n.wanted r))
      other-kind r ne = not_T (is_wanted n.wanted r) (λ y. ne ((named-yes (kind_of n.wanted) (fields_of n.wanted) r y).0 ∙ b.kind ∙ sym sk))

      absent-is : unnamed (tally_of s g).refs named-ref ≡ absent_in (body_of s m) span n.wanted
      unfolding unnamed tally_of absent_in
      absent-is = rw q (sp.only (λ r. not (is_wanted n.wanted r)) other-kind)

      pub name-twice : absent_in (body_of s m) span n.wanted ≡ false → Taking s g it next None
      unfolding Taking taken
      name-twice a = taken_is ∙ rw (absent-is ∙ a) (never (tally_of s g).marked (leb 1 n.weight) _)

      module _ (k : GroupKept s g at) (order : at + 21 ≤ next) (light : n.weight < 4294967296) (near : ℕ) where
        abbrev near-span : Span
        near-span = record { kind = span.kind; from = span.from; n = span.n; near = near }

        body-near : (x : Marked) → Some m ≡ Some x → GroupBody s x g.span → GroupBody s x (Some near-span)
        body-near x e h =
            let z : m ≡ x = cc in
            record {
              order = h.order;
              inside = h.inside;
              begins = h.begins;
              reads = h.reads;
              sorted = h.sorted;
              spans = λ y f.
                  let u : near-span ≡ y = cc in
                  subst (λ (v : Span). Spanned (body_of s x) x.start v) u
                  (subst (λ (w : Marked). Spanned (body_of s w) w.start near-span) z (spanned-near (body_of s m) m.start span near sp));
            }

        pub name-good : (n.weight ≡ 0 → ⊥) → absent_in (body_of s m) span n.wanted ≡ true
            → Taking s g it next (Some (record { extent = g.extent; marked = g.marked; weight = g.weight + n.weight; span = Some near-span }))
        unfolding Taking taken tally_of
        name-good h a =
            let z : leb 1 n.weight ≡ true = le-leb 1 n.weight (omega arith) in (
              taken_is ∙ rw (absent-is ∙ a, z) (simp q refl),
              record { body = λ x e. body-near x (sym q ∙ e) (k.body x e); light = omega (arith, k.light) },
            )
