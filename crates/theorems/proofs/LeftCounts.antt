-- What a name counts after a drop (document 02, ticket 5): what is left under it in the record's new body where it stands inline,
-- else what is left at its own item, since it stands in one place alone. Assumes nothing.
use mathlib.Core.Path.{◌≡◌, refl, sym, ap, ◌∙◌, subst}
use mathlib.Core.Bool.{Bool, true, false, not, cond}
use mathlib.Core.List.{List, [], ◌∷◌, append-nil}
use mathlib.Core.Option.{some}
use Prim.Native.Nat.{ℕ, ◌-◌}
use native.Mathlib.Omega.{arith}
use lib.Dec.{T, eqb}
use lib.ListN.{length}
use lib.Seq.{take_all}
use mir.Facts.{yes_and, yes_eqb}
use Rattle.fields.specs.Lists.{sum, all, Cut, first_cut}
use Rattle.fields.specs.Numbers.{le}
use Rattle.fields.specs.Parts.{part}
use Rattle.fields.proofs.Lists.{by-test, cond_yes, sum-append, cut-some}
use Rattle.format.specs.Questions.{Answer, refused, absent, remove, accepted, bind, if_absent, needed, found as found_of, result_or}
use Rattle.format.specs.References.{Ref, Body, read_body}
use Rattle.format.specs.Bodies.{named, on_total, drop_inline, keyed_count}
use Rattle.format.specs.Items.{Item, with_bytes, put_back}
use Rattle.format.specs.Sheets.{has_key}
use Rattle.format.specs.Apply.{is_record, record_of}
use Rattle.format.specs.Names.{Name, Entry, unrelated, is_ref_item, view_record, view_ref_item, view_of, ref_entry, ref_entries, view_entries, item_entries, entries, under, count, good, stands}
use Rattle.format.specs.Ledger.{dropped_at, shared_count}
use Rattle.format.specs.Left.{weight_under, left_among, left_in}
use Rattle.format.proofs.Answers.{bind_ok, needed-ok, found_ok, refused-not, remove-not, accepted-inj}
use Rattle.theorems.proofs.Sums.{same_name-refl, sum-mid, sum-two}
use Rattle.theorems.proofs.Naming.{is184, not-172}
use Rattle.theorems.proofs.Order.{named-yes}
use Rattle.theorems.proofs.Edit.{only, only-stands, only-counts, Balanced}
use Rattle.theorems.proofs.Facts.{plain_form, refs-none, named-entry, unstood}
use Rattle.theorems.proofs.Steps.{tidy, Here, here_of, on-body}
use Rattle.theorems.proofs.OneDrop.{Drop, item_key, in_body, at_item, dropped}
use Rattle.theorems.proofs.Posting.{record-in}
use Rattle.theorems.proofs.Counts.{data-form, inline-one}
use Rattle.theorems.proofs.DropCalls.{Proper, key-found, drop-step}
use Rattle.theorems.proofs.Changes.{moved}

-- ---- the references of one name, as entries and as references

refs-as : (extent : ℕ) (g : Entry → ℕ) (f : Ref → ℕ) → ((r : Ref) → sum g (ref_entry extent r) ≡ f r) → (refs : List Ref)
    → sum g (ref_entries extent refs) ≡ sum f refs
unfolding ref_entries
refs-as extent g f h [] = refl
refs-as extent g f h (r ∷ refs) =
    let e₁ = sum-append g (ref_entry extent r) (ref_entries extent refs) in
    let e₂ = h r in
    let e₃ = refs-as extent g f h refs in
    omega arith

module _ (m : Name) (no172 : eqb m.kind 172 ≡ false) where
  -- a reference of another name
  none-at : (r : Ref) → named m.kind m.fields r ≡ false → sum (stands m) (ref_entry m.extent r) ≡ 0
  unfolding ref_entries
  none-at r q =
      ap (sum (stands m)) (sym (append-nil (ref_entry m.extent r)))
      ∙ refs-none m (r ∷ []) (yes_and (not (named m.kind m.fields r)) true (subst (λ (c : Bool). T (not c)) (sym q) tt) tt)

  one_at : (r : Ref) → named m.kind m.fields r ≡ true → ref_entry m.extent r ≡ only m (some r.weight)
  one_at r q = let h = named-yes m.kind m.fields r (subst T (sym q) tt) in named-entry m r no172 h.0 h.1

  pub under-refs : (refs : List Ref) → sum (under m) (ref_entries m.extent refs) ≡ left_among m.kind m.fields refs
  under-refs refs = refs-as m.extent (under m) (weight_under m.kind m.fields) go refs
    where
      go : (r : Ref) → sum (under m) (ref_entry m.extent r) ≡ weight_under m.kind m.fields r
      go r =
          by-test (named m.kind m.fields r)
          (λ q. ap (sum (under m)) (one_at r q) ∙ only-counts m r.weight ∙ ap (λ (c : Bool). cond c r.weight 0) (sym q))
          (λ q. unstood m (ref_entry m.extent r) (none-at r q) ∙ ap (λ (c : Bool). cond c r.weight 0) (sym q))

  pub stands-refs : (refs : List Ref)
      → sum (stands m) (ref_entries m.extent refs) ≡ sum (λ r. cond (named m.kind m.fields r) 1 0) refs
  stands-refs refs = refs-as m.extent (stands m) (λ r. cond (named m.kind m.fields r) 1 0) go refs
    where
      go : (r : Ref) → sum (stands m) (ref_entry m.extent r) ≡ cond (named m.kind m.fields r) 1 0
      go r =
          by-test (named m.kind m.fields r)
          (λ q. ap (sum (stands m)) (one_at r q) ∙ only-stands m r.weight ∙ ap (λ (c : Bool). cond c 1 0) (sym q))
          (λ q. none-at r q ∙ ap (λ (c : Bool). cond c 1 0) (sym q))

  -- what a record says of the name, whether its body reads or not
  pub record-left : (r : Item) → T (is_record r) → r.key.objectid ≡ m.extent
      → sum (under m) (item_entries r) ≡ left_in r.key.kind m.kind m.fields r.bytes
  unfolding item_entries view_of view_record view_entries left_in
  record-left r t e = go (is_record r) t (read_body r.key.kind r.bytes)
    where
      go : (c : Bool) → T c → (a : Answer Body)
          → sum (under m) (view_entries r.key.objectid (cond c (view_record a) (cond (is_ref_item r) (view_ref_item r) unrelated)))
          ≡ result_or 0 (λ b. left_among m.kind m.fields b.refs) a
      go false t a = absurd t
      go true t (refused n) = refl
      go true t absent = refl
      go true t remove = refl
      go true t (accepted b) = ap (λ (x : ℕ). sum (under m) (ref_entries x b.refs)) e ∙ under-refs b.refs

-- ---- an item's count: its last four bytes, of a data reference and of shared data

pub data-last : (i : Item) → i.key.kind ≡ 178 → T (good i) → le (part (length i.bytes - 4) 4 i.bytes) ≡ keyed_count i.bytes
unfolding keyed_count
data-last i e g = ap (λ (n : ℕ). le (part (n - 4) 4 i.bytes)) (data-form i e g).0

pub shared_last : (i : Item) → i.key.kind ≡ 184 → T (good i) → le (part (length i.bytes - 4) 4 i.bytes) ≡ shared_count i
unfolding shared_count
shared_last i e g =
    let kind : T (eqb i.key.kind 184) = yes_eqb e in
    let size : length i.bytes ≡ 4 =
    plain_form i (is184 e) (ap (λ (n : ℕ). eqb n 178) e) g ∙ cond_yes (eqb i.key.kind 184) 4 0 kind in
    ap (λ (n : ℕ). le (part (n - 4) 4 i.bytes)) size ∙ ap le (take_all 4 i.bytes (omega (arith, size)))
    ∙ sym (cond_yes (eqb i.key.kind 184) (le i.bytes) 1 kind)

-- ---- what a drop leaves

-- in the body that the inline drop makes, or else at the item
unfoldable pub dropped_left : Drop → List Item → Cut Item → Answer (List ℕ) → ℕ
dropped_left p items c (refused number) = 0
dropped_left p items c absent =
    result_or 0 (λ k. p.counts k.hit - p.amount) (needed 5 (first_cut (has_key (item_key p c.hit.key.objectid)) items))
dropped_left p items c remove = 0
dropped_left p items c (accepted body) = left_in c.hit.key.kind p.name.kind p.name.fields body

module _ (p : Drop) (P : Proper p) (items : List Item) (bal : Balanced items) (td : T (all tidy items)) (c : Cut Item)
    (found : first_cut (record_of p.name.extent) items ≡ some c) where
  abbrev m : Name
  m = p.name

  -- a name that stands inline has no item, so the record's other body says all of it
  pub inline-left : (b : Body) → Here m items c b → (x : Cut Ref) → first_cut (named m.kind m.fields) b.refs ≡ some x
      → (body : List ℕ) → count m (put_back c body) ≡ left_in c.hit.key.kind m.kind m.fields body
  unfolding entries is_record
  inline-left b H x e body =
      let f = cut-some (named m.kind m.fields) b.refs e in
      let (_, rest, _) = inline-one m items c b H bal td P.form.naming x f.same f.hit in
      let e₁ = sum-mid (under m) c.front (with_bytes c.hit body) c.back in
      let e₂ = sum-two (under m) c.front c.back in
      let e₃ = record-left m (not-172 m.kind P.form.naming) (with_bytes c.hit body) H.is_rec H.extent in
      omega arith

  -- a name that stands as an item counts what that item has left
  pub item-left : (k : Cut Item) → first_cut (has_key (item_key p c.hit.key.objectid)) items ≡ some k → (after : List Item)
      → dropped p items c ≡ accepted after → at_item p c k ≡ accepted after → count m after ≡ p.counts k.hit - p.amount
  unfolding needed
  item-left k e after done at =
      let (b, H) = here_of m items c bal td found in
      let h₁ = bind_ok (on_total c.hit.bytes (p.lowered (p.counts k.hit))) _ at in
      let h₂ = bind_ok (dropped_at k (p.left k.hit)) _ h₁.2 in
      let (same, key) = key-found (item_key p c.hit.key.objectid) items k (ap (needed 5) e) in
      let O = P.owns items bal k same (key ∙ ap (item_key p) H.extent) h₂.0 h₂.1 in
      let s = drop-step p P items after bal td (record-in m.extent items (dropped p items) c found ∙ done) in
      let e₁ = moved m 0 p.amount items after s m (same_name-refl m) in
      let e₂ = O.counts in
      omega arith

  pub drop-left : (after : List Item) → dropped p items c ≡ accepted after → count m after ≡ dropped_left p items c (in_body p c)
  unfolding dropped drop_inline dropped_left needed bind if_absent
  drop-left after done = go (in_body p c) refl done
    where
      other : Answer (List Item)
      other = bind (needed 5 (first_cut (has_key (item_key p c.hit.key.objectid)) items)) (at_item p c)

      go : (a : Answer (List ℕ)) → in_body p c ≡ a → if_absent (bind a (λ body. accepted (put_back c body))) other ≡ accepted after
          → count m after ≡ dropped_left p items c a
      go (refused n) q e = refused-not e
      go absent q e =
          let h = bind_ok (needed 5 (first_cut (has_key (item_key p c.hit.key.objectid)) items)) (at_item p c) e in
          let f = needed-ok 5 (first_cut (has_key (item_key p c.hit.key.objectid)) items) h.1 in
          item-left h.0 f after done h.2 ∙ ap (result_or 0 (λ k. p.counts k.hit - p.amount)) (sym h.1)
      go remove q e = remove-not e
      go (accepted body) q e =
          let (b, H) = here_of m items c bal td found in
          let h = bind_ok (found_of (first_cut (named m.kind m.fields) b.refs)) _
          (on-body c.hit.key.kind c.hit.bytes b _ H.reads q) in
          ap (count m) (sym (accepted-inj e))
          ∙ inline-left b H h.0 (found_ok (first_cut (named m.kind m.fields) b.refs) h.1) body
