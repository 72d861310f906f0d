-- One change of the items under one name, and how a record's references spliced make such a change. Assumes nothing.
use mathlib.Core.Path.{◌≡◌, sym, ap, ◌∙◌, subst}
use Prim.Native.Nat.{ℕ, ◌+◌}
use native.Mathlib.Omega.{arith}
use mathlib.Core.Bool.{Bool, not, ◌&&◌, ◌||◌}
use mathlib.Core.Option.{Option, some}
use mathlib.Core.List.{List, ◌∷◌, ◌++◌}
use lib.ListN.{length}
use lib.Dec.{T, leb, ltb, eqb→eq, leb→le, ltb→lt, lt→ltb}
use mir.Facts.{and_yes, yes_and, yes_eqb}
use Rattle.fields.specs.Lists.{sum, all, Cut, first_cut}
use Rattle.fields.specs.Numbers.{le_bytes, are_bytes}
use Rattle.fields.specs.Parts.{written}
use Rattle.fields.proofs.Lists.{T-eq, imp-out, all_map, all-mid, all_rest, all-put, Found, cut-some}
use Rattle.format.specs.Questions.{Answer, accepted, bind, needed}
use Rattle.format.specs.References.{field_count, Body, body_with, total_of, read_body, body_bytes, ordered}
use Rattle.format.specs.Bodies.{named, body_fits, on_body, on_head, on_total}
use Rattle.format.specs.Items.{Item, data_fits, with_bytes, put_back}
use Rattle.format.specs.Apply.{is_record, record_of, on_record}
use Rattle.format.specs.Names.{Name, extent_record, is_ref_item, view_of, ref_entries, item_entries, entries, good, records, paired, stands}
use Rattle.format.specs.Ledger.{not_its_own}
use Rattle.format.proofs.Answers.{ask-ok, bind_ok, bind-yes, needed-ok, accepted-inj}
use Rattle.format.proofs.Refs.{whole, whole_out}
use Rattle.format.proofs.Bodies.{Sound, read-total, read-sound, body_bytes-read, set-total, are_bytes-body_bytes}
use Rattle.format.proofs.Items.{sane, sane-in, sane-out}
use Rattle.theorems.proofs.Sums.{empty, sum-mid, sum-two}
use Rattle.theorems.proofs.Naming.{Naming}
use Rattle.theorems.proofs.Order.{long}
use Rattle.theorems.proofs.Edit.{only, worth, Edit, Balanced, Fresh, Splice, lone, edit-inline, record-entries, good-record}
use Rattle.theorems.proofs.Facts.{view-record, view-written, good-reads, rest-none, refs-none}

-- ---- items as bytes can hold them, but for the length of their data

unfoldable pub tidy : Item → Bool
tidy i =
    ltb i.key.objectid 18446744073709551616
    && (ltb i.key.kind 256 && (ltb i.key.offset 18446744073709551616 && are_bytes i.bytes))

pub tidy-with : (i : Item) (d : List ℕ) → T (tidy i) → T (are_bytes d) → T (tidy (with_bytes i d))
unfolding tidy
tidy-with i d t h =
    let h₁ = and_yes (ltb i.key.objectid 18446744073709551616) _ t in
    let h₂ = and_yes (ltb i.key.kind 256) _ h₁.1 in
    let h₃ = and_yes (ltb i.key.offset 18446744073709551616) _ h₂.1 in
    yes_and (ltb i.key.objectid 18446744073709551616) _ h₁.0
    (yes_and (ltb i.key.kind 256) _ h₂.0 (yes_and (ltb i.key.offset 18446744073709551616) _ h₃.0 h))

pub tidy-bytes : (i : Item) → T (tidy i) → T (are_bytes i.bytes)
unfolding tidy
tidy-bytes i t =
    let h₁ = and_yes (ltb i.key.objectid 18446744073709551616) _ t in
    let h₂ = and_yes (ltb i.key.kind 256) _ h₁.1 in
    (and_yes (ltb i.key.offset 18446744073709551616) _ h₂.1).1

pub sane-tidy : (i : Item) → T (sane i) → T (tidy i)
unfolding tidy
sane-tidy i t =
    let s = sane-out i t in
    yes_and (ltb i.key.objectid 18446744073709551616) _ (lt→ltb _ _ s.objectid_small)
    (yes_and (ltb i.key.kind 256) _ (lt→ltb _ _ s.kind_small)
    (yes_and (ltb i.key.offset 18446744073709551616) _ (lt→ltb _ _ s.offset_small) s.bytes_small))

pub tidy-sane : (i : Item) → T (tidy i) → T (data_fits i.bytes) → T (sane i)
unfolding tidy data_fits
tidy-sane i t f =
    let h₁ = and_yes (ltb i.key.objectid 18446744073709551616) _ t in
    let h₂ = and_yes (ltb i.key.kind 256) _ h₁.1 in
    let h₃ = and_yes (ltb i.key.offset 18446744073709551616) _ h₂.1 in
    sane-in i
    (record {
      objectid_small = ltb→lt _ _ h₁.0;
      kind_small = ltb→lt _ _ h₂.0;
      offset_small = ltb→lt _ _ h₃.0;
      bytes_fit = leb→le _ _ f;
      bytes_small = h₃.1;
    })

-- ---- names that a change can have

pub record NameOk (m : Name) : Type 0 where
  pub naming : Naming m.kind
  pub size : length m.fields ≡ field_count m.kind
  pub small : T (all (λ w. ltb w 18446744073709551616) m.fields)

-- ---- a step: under the name m, `given` comes and `out` goes

pub record Step (m : Name) (given out : ℕ) (items after : List Item) : Type 0 where
  pub old : Option ℕ
  pub new : Option ℕ
  pub edit : Edit m old new items after
  pub moves : worth new + out ≡ worth old + given
  pub nonempty : sum empty (only m new) ≡ 0
  pub free : Fresh old new (sum (stands m) (entries items))
  pub tidied : T (all tidy after)

-- ---- the extent's record, and what is known of it

pub record Here (m : Name) (items : List Item) (c : Cut Item) (b : Body) : Type 0 where
  pub found : Found (record_of m.extent) items c
  pub is_rec : T (is_record c.hit)
  pub extent : c.hit.key.objectid ≡ m.extent
  pub bytes : T (are_bytes c.hit.bytes)
  pub reads : read_body c.hit.key.kind c.hit.bytes ≡ accepted b
  pub view : view_of c.hit ≡ extent_record b
  pub sound : Sound c.hit.key.kind b

-- on a balanced sheet the record that is found reads
pub here_of : (m : Name) (items : List Item) (c : Cut Item) → Balanced items → T (all tidy items)
    → first_cut (record_of m.extent) items ≡ some c
    → (b : Body) × Here m items c b
here_of m items c balance tidies e =
    let f = cut-some (record_of m.extent) items e in
    let h = and_yes (is_record c.hit) _ f.hit in
    let g : T (good c.hit) = all-mid good c.front c.hit c.back (rw f.same at balance.goods) in
    let t : T (are_bytes c.hit.bytes) =
    tidy-bytes c.hit (all-mid tidy c.front c.hit c.back (rw f.same at tidies)) in
    let (b, r) = good-reads c.hit h.0 g in (
      b,
      record {
        found = f;
        is_rec = h.0;
        extent = eqb→eq _ _ h.1;
        bytes = t;
        reads = r;
        view = view-record c.hit b h.0 r;
        sound = read-sound c.hit.key.kind c.hit.bytes b t r;
      },
    )

pub on-record : (m : Name) (items after : List Item) (next : Cut Item → Answer (List Item)) → Balanced items
    → T (all tidy items)
    → on_record m.extent items next ≡ accepted after
    → (c : Cut Item) × (b : Body) × Here m items c b × (next c ≡ accepted after)
unfolding on_record
on-record m items after next balance tidies e =
    let h = bind_ok (needed 5 (first_cut (record_of m.extent) items)) next e in
    let (b, H) = here_of m items h.0 balance tidies (needed-ok 5 (first_cut (record_of m.extent) items) h.1) in
    (h.0, b, H, h.2)

-- ---- calls on a body that reads

pub on-body : {A : Type 0} (type : ℕ) (d : List ℕ) (b : Body) (next : Body → Answer A) {a : A} → read_body type d ≡ accepted b
    → on_body type d next ≡ accepted a → next b ≡ accepted a
unfolding on_body
on-body type d b next r e = sym (bind-yes (read_body type d) next r) ∙ (ask-ok (body_fits d) 3 (bind (read_body type d) next) e).1

-- a total moved: the references stand
pub on-total : (type : ℕ) (d : List ℕ) (b : Body) (next : ℕ → Answer ℕ) (body : List ℕ) → T (are_bytes d)
    → read_body type d ≡ accepted b
    → on_total d next ≡ accepted body
    → (total : ℕ) × (next b.total ≡ accepted total) × (body_bytes (body_with b total b.refs) ≡ body)
unfolding on_total on_head
on-total type d b next body t r e =
    let h₁ = ask-ok (body_fits d) 3 _ e in
    let h₂ = ask-ok (leb 24 (length d)) 6 _ h₁.1 in
    let h₃ = bind_ok (next (total_of d)) _ h₂.1 in
    let n : ℕ = h₃.0 in (
      n,
      ap next (sym (read-total type d b r)) ∙ h₃.1,
      sym (set-total b n) ∙ ap (λ (l : List ℕ). written 0 (le_bytes 8 n) l) (body_bytes-read type d b t r) ∙ accepted-inj h₃.2,
    )

-- ---- a change inline

module _ (m : Name) (items : List Item) (c : Cut Item) (b : Body) (H : Here m items c b) (balance : Balanced items)
    (tidies : T (all tidy items)) where
  pub balanced-at : Balanced (c.front ++ c.hit ∷ c.back)
  balanced-at = rw H.found.same at balance

  pub tidy-at : T (all tidy (c.front ++ c.hit ∷ c.back))
  tidy-at = rw H.found.same at tidies

  pub ordered_at : T (ordered b.refs)
  ordered_at = good-record c.hit b H.view (all-mid good c.front c.hit c.back balanced-at.goods)

  pub long-at : T (all long b.refs)
  unfolding long
  long-at = all_map whole long (λ r t. (yes_eqb (whole_out r t).fields_long)) b.refs H.sound.wholes

  pub inline-step : (old new : Option ℕ) (b' : Body) → Splice m old new b b' → T (ordered b'.refs)
      → b'.total + worth old ≡ b.total + worth new
      → Sound c.hit.key.kind b' → (out given : ℕ) → worth new + out ≡ worth old + given → sum empty (only m new) ≡ 0
      → Fresh old new (sum (stands m) (entries items)) → Step m given out items (put_back c (body_bytes b'))
  inline-step old new b' splice order total sound out given moves nonempty free =
      let d : List ℕ = body_bytes b' in
      record {
        old = old;
        new = new;
        edit = rw H.found.same
            (edit-inline m old new c.front c.hit c.back d b b' balanced-at H.is_rec H.extent H.view
            (view-written c.hit b' H.is_rec sound) splice order total);
        moves = moves;
        nonempty = nonempty;
        free = free;
        tidied = all-put tidy c.front (with_bytes c.hit d) c.back (all_rest tidy c.front c.hit c.back tidy-at)
            (tidy-with c.hit d (all-mid tidy c.front c.hit c.back tidy-at) (are_bytes-body_bytes c.hit.key.kind b' sound));
      }

  -- the name stands nowhere
  pub nowhere : T (all (λ r. not (named m.kind m.fields r)) b.refs) → T (all (not_its_own m) items)
      → sum (stands m) (entries items) ≡ 0
  nowhere t u =
      let a : List Item = c.front in let r : Item = c.hit in let z : List Item = c.back in
      let lo : records r.key.objectid (a ++ r ∷ z) ≡ 1 =
      eqb→eq _ 1 (imp-out (is_record r || is_ref_item r) _ (all-mid (paired (a ++ r ∷ z)) a r z balanced-at.pairs) (rw (T-eq (is_record r) H.is_rec) tt)) in
      let l : T (all (λ i. not (record_of r.key.objectid i)) (a ++ z)) = lone a r z H.is_rec lo in
      let l' : T (all (λ i. not (record_of m.extent i)) (a ++ z)) =
      subst (λ (x : ℕ). T (all (λ i. not (record_of x i)) (a ++ z))) H.extent l in
      let u' : T (all (not_its_own m) (a ++ z)) = all_rest (not_its_own m) a r z (rw H.found.same at u) in
      let e₁ = rest-none m (a ++ z) l' u' in
      let e₂ : sum (stands m) (item_entries r) ≡ 0 =
      ap (sum (stands m)) (record-entries r b H.view ∙ ap (λ (x : ℕ). ref_entries x b.refs) H.extent)
      ∙ refs-none m b.refs t in
      let e₃ = sum-mid (stands m) a r z in
      let e₄ = sum-two (stands m) a z in
      ap (λ (l : List Item). sum (stands m) (entries l)) H.found.same ∙ omega arith
