-- What a drop gives on a balanced sheet where the name stands: the questions that are left, and how much shorter the sheet
-- becomes. Assumes nothing.
use mathlib.Core.Path.{◌≡◌, refl, sym, ap, ap₂, ◌∙◌, subst}
use mathlib.Core.Logic.{◌≢◌}
use mathlib.Core.Bool.{Bool, true, false, not, cond}
use mathlib.Core.List.{List, [], ◌∷◌, ◌++◌}
use mathlib.Core.Option.{Option, none, some}
use Prim.Native.Nat.{ℕ, ◌+◌, ◌-◌, ◌≤◌, ◌<◌}
use native.Mathlib.Omega.{arith}
use lib.Dec.{T, leb, ltb, eqb, eqb→eq, leb→le, le→leb, ltb→lt, nltb→le}
use lib.ListN.{length, length-append}
use mir.Facts.{and_yes, yes_and, T_not, not_T, yes_eqb, no_eqb, eqb_no}
use Rattle.fields.specs.Lists.{sum, all, same, Cut, first_cut}
use Rattle.fields.specs.Numbers.{le_bytes}
use Rattle.fields.specs.Parts.{written}
use Rattle.fields.proofs.Lists.{cond_yes, cond_no, some_inj, no-some, sum-append, all_map, all_both, all_left, all_right, all-mid, all_rest, cut-some, cut-none}
use Rattle.fields.proofs.Numbers.{length-le_bytes}
use Rattle.fields.proofs.Parts.{length-written}
use Rattle.format.specs.declared.Key.{Key}
use Rattle.format.specs.Questions.{Answer, refused, accepted, bind, needed}
use Rattle.format.specs.References.{known, payload_length, field_count, Ref, refs_bytes, Body, body_with, total_of, body_bytes}
use Rattle.format.specs.Bodies.{named, weighed, body_fits, on_head, on_total, less}
use Rattle.format.specs.Items.{Item, data_fits, sheet_holds, with_bytes, put_back, without}
use Rattle.format.specs.Sheets.{has_key}
use Rattle.format.specs.Apply.{is_record, record_of, replaced}
use Rattle.format.specs.Names.{Name, count, good}
use Rattle.format.specs.Ledger.{dropped_at}
use Rattle.format.proofs.Answers.{ask-yes, bind_ok, bind-yes}
use Rattle.format.proofs.Bodies.{read-total, read-long, body_bytes-read}
use Rattle.format.proofs.Keys.{same_key-refl, cut-at-key}
use Rattle.theorems.proofs.Naming.{Naming, naming-known, naming-no-record}
use Rattle.theorems.proofs.Order.{named-yes}
use Rattle.theorems.proofs.Facts.{plain_form}
use Rattle.theorems.proofs.Steps.{Here}
use Rattle.theorems.proofs.OneDrop.{Drop, item_key, at_item, dropped, inline-is, apart-is}
use Rattle.theorems.proofs.Drops.{first, first-at, first_found, first-skip, key-record, before-record, Own, own-bytes, Left, goes, stays}
use Rattle.theorems.specs.Acceptance.{inline, freed}
use Rattle.theorems.proofs.Counts.{count-split, inline-none, inline-one, data-form}
use Rattle.theorems.proofs.DropCalls.{Proper, key-found}
use Rattle.theorems.proofs.AddsAccepted.{length-ref, length_none, length-edit, length_at}
use Rattle.theorems.proofs.Posting.{item_size, holds-out, holds-in, size-put, few-put, fit-put, SheetFacts}

-- ---- inline or else by its item

pub bind-no : {A B : Type 0} (r : Answer A) (k : A → Answer B) {n : ℕ} → r ≡ refused n → bind r k ≡ refused n
unfolding bind
bind-no r k e = ap (λ z. bind z k) e

-- a total moved
pub total-in : (d : List ℕ) (next : ℕ → Answer ℕ) → length d ≤ 65535 → 24 ≤ length d
    → on_total d next ≡ bind (next (total_of d)) (λ total. accepted (written 0 (le_bytes 8 total) d))
unfolding on_total on_head body_fits
total-in d next l h = ask-yes (body_fits d) 3 _ (le→leb (length d) 65535 l) ∙ ask-yes (leb 24 (length d)) 6 _
    (le→leb 24 (length d) h)

length-total : (d : List ℕ) (total : ℕ) → 24 ≤ length d → length (written 0 (le_bytes 8 total) d) ≡ length d
length-total d total h = let e = length-le_bytes 8 total in length-written 0 (le_bytes 8 total) d (omega arith)

-- ---- the list that a drop makes, so much shorter

pub record Shorter (sheet : List ℕ) (gone : ℕ) (after : List Item) : Type 0 where
  pub size : 1 + sum item_size after + gone ≡ length sheet
  pub few : length after ≤ 4096
  pub fit : T (all (λ i. data_fits i.bytes) after)

pub shorter-out : (sheet : List ℕ) (gone room : ℕ) (after : List Item) → Shorter sheet gone after → T (sheet_holds room after)
    → length sheet - gone ≤ room
shorter-out sheet gone room after s t = let h = (holds-out room after t).0 in let e = s.size in omega arith

pub shorter-in : (sheet : List ℕ) (gone room : ℕ) (after : List Item) → Shorter sheet gone after → length sheet ≤ 262144
    → length sheet - gone ≤ room
    → T (sheet_holds room after)
shorter-in sheet gone room after s l h = let e = s.size in holds-in room after (omega arith) (omega arith) s.few s.fit

-- ---- the record found again by its key, after another item went or changed

first-none : {A : Type 0} (p : A → Bool) (l : List A) → T (all (λ x. not (p x)) l) → first p l ≡ none
first-none p [] t = refl
first-none p (x ∷ l) t =
    let h = and_yes (not (p x)) _ t in
    cond_no (p x) (some x) (first p l) h.0 ∙ first-none p l h.1

first-cut : {A : Type 0} (p : A → Bool) (l : List A) (x : A) → first p l ≡ some x → (c : Cut A) × (first_cut p l ≡ some c) × (c.hit ≡ x)
first-cut {A} p l x e = go (first_cut p l) refl
  where
    go : (o : Option (Cut A)) → first_cut p l ≡ o → (c : Cut A) × (first_cut p l ≡ some c) × (c.hit ≡ x)
    go none q = no-some (sym (first-none p l (cut-none p l q)) ∙ e)
    go (some c) q = (c, q, some_inj (sym (first_found p l c (cut-some p l q)) ∙ e))

module _ (sheet : List ℕ) (items : List Item) (S : SheetFacts sheet items) (m : Name) (c : Cut Item) (b : Body) (H : Here m items c b)
    (k : Cut Item) (ek : items ≡ k.front ++ k.hit ∷ k.back) (nr : T (not (is_record k.hit))) where
  kept-first : (o : List Item) → T (all (λ i. not (is_record i)) o)
      → first (has_key c.hit.key) (k.front ++ (o ++ k.back)) ≡ some c.hit
  kept-first o t =
      let p : Item → Bool = has_key c.hit.key in
      let r : T (record_of m.extent c.hit) = H.found.hit in
      let front = before-record m.extent c.hit c.front r H.found.miss in
      let no_key : (i : Item) → T (not (is_record i)) → T (not (p i)) =
      (λ i u. not_T (p i) (λ v. T_not (is_record i) (and_yes (is_record i) _ (key-record m.extent c.hit i r v)).0 u)) in
      first-skip p k.front o k.back (all_map (λ i. not (is_record i)) (λ i. not (p i)) no_key o t)
      ∙ sym (first-skip p k.front (k.hit ∷ []) k.back (yes_and (not (p k.hit)) true (no_key k.hit nr) tt))
      ∙ ap (first p) (sym ek ∙ H.found.same)
      ∙ first-at p c.front c.hit c.back front (same_key-refl c.hit.key)

  -- the record with another body of the same length, and the other item with what stands in its place
  kept : (o : List Item) → T (all (λ i. not (is_record i)) o) → T (all (λ i. data_fits i.bytes) o) → (gone : ℕ)
      → sum item_size o + gone ≡ item_size k.hit → length o ≤ 1 → (d : List ℕ) → length d ≡ length c.hit.bytes
      → (after : List Item) × (replaced c.hit.key d (k.front ++ (o ++ k.back)) ≡ accepted after) × Shorter sheet gone after
  unfolding replaced needed data_fits
  kept o t fo gone e lo d ld =
      let others : List Item = k.front ++ (o ++ k.back) in
      let (c', first_cut', hit') = first-cut (has_key c.hit.key) others c.hit (kept-first o t) in
      let f = cut-some (has_key c.hit.key) others first_cut' in
      let fits : T (all (λ i. data_fits i.bytes) (k.front ++ k.hit ∷ k.back)) = rw ek at S.fit in
      let fits' : T (all (λ i. data_fits i.bytes) others) =
      all_both (λ i. data_fits i.bytes) k.front (o ++ k.back)
      (all_left (λ i. data_fits i.bytes) k.front (k.hit ∷ k.back) fits)
      (all_both (λ i. data_fits i.bytes) o k.back fo
      (all_right (λ i. data_fits i.bytes) k.front k.back
      (all_rest (λ i. data_fits i.bytes) k.front k.hit k.back fits))) in
      let at : T (all (λ i. data_fits i.bytes) (c'.front ++ c'.hit ∷ c'.back)) = rw f.same at fits' in
      let l₀ : length c'.hit.bytes ≤ 65535 =
      leb→le _ _ (all-mid (λ i. data_fits i.bytes) c'.front c'.hit c'.back at) in
      let lh : length c'.hit.bytes ≡ length c.hit.bytes = ap (λ (i : Item). length i.bytes) hit' in
      let s₁ = size-put c' d in
      let s₂ = ap (sum item_size) f.same in
      let s₃ = sum-append item_size k.front (o ++ k.back) in
      let s₄ = sum-append item_size o k.back in
      let s₅ = ap (sum item_size) ek ∙ sum-append item_size k.front (k.hit ∷ k.back) in
      let s₆ = S.size in
      let n₁ = few-put c' d in
      let n₂ = ap length f.same in
      let n₃ = length-append k.front (o ++ k.back) in
      let n₄ = length-append o k.back in
      let n₅ = ap length ek ∙ length-append k.front (k.hit ∷ k.back) in
      let n₆ = S.few in (
        put_back c' d,
        bind-yes (needed 5 (first_cut (has_key c.hit.key) others)) _ (ap (needed 5) first_cut'),
        record { size = omega arith; few = omega arith; fit = fit-put c' d at (omega arith) },
      )

-- the key of an item of a sheet finds it
key-at : (sheet : List ℕ) (items : List Item) → SheetFacts sheet items → (k : Cut Item) → items ≡ k.front ++ k.hit ∷ k.back
    → (key : Key) → k.hit.key ≡ key
    → first_cut (has_key key) items ≡ some k
key-at sheet items S k e key q =
    ap₂ (λ (x : Key) (l : List Item). first_cut (has_key x) l) (sym q) e ∙ cut-at-key k.front k.hit k.back (rw e at S.rise)

-- an item with other data of its form is as long
form-length : (i : Item) (d : List ℕ) → Naming i.key.kind → T (good i) → T (good (with_bytes i d)) → length d ≡ length i.bytes
form-length i d k g g' = go (eqb i.key.kind 178) refl
  where
    go : (z : Bool) → eqb i.key.kind 178 ≡ z → length d ≡ length i.bytes
    go true q =
        let e : i.key.kind ≡ 178 = eqb→eq _ _ (subst T (sym q) tt) in
        (data-form (with_bytes i d) e g').0 ∙ sym (data-form i e g).0
    go false q = plain_form (with_bytes i d) k q g' ∙ sym (plain_form i k q g)

-- what is left of a reference with so much off
less-length : (r : Ref) (n : ℕ) → T (known r.kind) → length r.fields ≡ field_count r.kind → n ≤ r.weight
    → length (refs_bytes (less r n)) + cond (eqb r.weight n) (1 + payload_length r.kind) 0 ≡ 1 + payload_length r.kind
unfolding less
less-length r n k l h = go (ltb n r.weight) (eqb r.weight n) refl refl
  where
    go : (c d : Bool) → ltb n r.weight ≡ c → eqb r.weight n ≡ d
        → length (refs_bytes (cond c (weighed r (r.weight - n) ∷ []) [])) + cond d
        (1 + payload_length r.kind) 0 ≡ 1 + payload_length r.kind
    go true true p q =
        let u : n < r.weight = ltb→lt n r.weight (subst T (sym p) tt) in
        let v : r.weight ≡ n = eqb→eq r.weight n (subst T (sym q) tt) in
        absurd (omega arith)
    go true false p q = omega (arith, length-ref (weighed r (r.weight - n)) k l)
    go false true p q = omega (arith, length_none)
    go false false p q =
        let u : r.weight ≤ n = nltb→le n r.weight (subst (λ (z : Bool). T (not z)) (sym p) tt) in
        let v : r.weight ≢ n = eqb_no (subst (λ (z : Bool). T (not z)) (sym q) tt) in
        absurd (omega arith)

-- ---- a drop on the record of its name, by what its rule says of the total: the same refusal, or a list that is so much shorter

pub record Gives (sheet : List ℕ) (gone : ℕ) (lowers : Answer ℕ) (answer : Answer (List Item)) : Type 0 where
  pub no : (number : ℕ) → lowers ≡ refused number → answer ≡ refused number
  pub yes : (rest : ℕ) → lowers ≡ accepted rest → (after : List Item) × (answer ≡ accepted after) × Shorter sheet gone after

module _ (sheet : List ℕ) (p : Drop) (P : Proper p) (items : List Item) (S : SheetFacts sheet items) (c : Cut Item) (b : Body)
    (H : Here p.name items c b) where
  abbrev m : Name
  m = p.name

  abbrev d : List ℕ
  d = c.hit.bytes

  abbrev is_named : Ref → Bool
  is_named = named m.kind m.fields

  fits : length d ≤ 65535
  fits = length_at sheet items S m c b H

  -- where it stands inline, it is counted
  pub inline-counts : (x : Cut Ref) → first_cut is_named b.refs ≡ some x
      → (x.hit.weight ≡ count m items) × (inline m c ≢ 0) × (1 ≤ count m items)
  inline-counts x e =
      let g = cut-some is_named b.refs e in
      let (i₀, i₁, i₂) = inline-one m items c b H S.balance S.tidied P.form.naming x g.same g.hit in
      let cs = count-split m items c b H S.balance S.tidied in
      (omega arith, λ (z : inline m c ≡ 0). omega arith, omega arith)

  -- where it does not, the item decides
  pub by-item : first_cut is_named b.refs ≡ none
      → dropped p items c ≡ bind (needed 5 (first_cut (has_key (item_key p c.hit.key.objectid)) items)) (at_item p c)
  by-item e = apart-is p items c b fits H.reads e

  -- and there is one
  pub item-own : first_cut is_named b.refs ≡ none → 1 ≤ count m items
      → (inline m c ≡ 0) × ((k : Cut Item) × Own m items k (p.counts k.hit) × (k.hit.key ≡ item_key p m.extent))
  item-own e n =
      let z : inline m c ≡ 0 = inline-none m items c b H S.balance S.tidied (cut-none is_named b.refs e) in
      let cs = count-split m items c b H S.balance S.tidied in
      (z, P.stands items c b H S.balance S.tidied (omega arith))

  pub key-item : (k : Cut Item) → needed 5 (first_cut (has_key (item_key p c.hit.key.objectid)) items) ≡ accepted k
      → (items ≡ k.front ++ k.hit ∷ k.back) × (k.hit.key ≡ item_key p m.extent)
  key-item k e =
      let (same, key) = key-found (item_key p c.hit.key.objectid) items k e in
      (same, key ∙ ap (item_key p) H.extent)

  -- an accepted drop: the name stands
  pub drop-counts : (after : List Item) → dropped p items c ≡ accepted after → 1 ≤ count m items
  drop-counts after e = go (first_cut is_named b.refs) refl
    where
      go : (o : Option (Cut Ref)) → first_cut is_named b.refs ≡ o → 1 ≤ count m items
      go (some x) q = (inline-counts x q).2
      go none q =
          let h₁ = bind_ok (needed 5 (first_cut (has_key (item_key p c.hit.key.objectid)) items)) _ (sym (by-item q) ∙ e) in
          let k : Cut Item = h₁.0 in
          let h₂ = bind_ok (on_total d (p.lowered (p.counts k.hit))) _ h₁.2 in
          let h₃ = bind_ok (dropped_at k (p.left k.hit)) _ h₂.2 in
          let (same, key) = key-item k h₁.1 in
          let O = P.owns items S.balance k same key h₃.0 h₃.1 in
          omega (arith, O.counts, O.positive)

  -- the record with a shorter body
  shorter-put : (body : List ℕ) (gone : ℕ) → length body + gone ≡ length d → Shorter sheet gone (put_back c body)
  shorter-put body gone e =
      let l₀ = fits in
      let s₁ = size-put c body in
      let s₂ = ap (sum item_size) H.found.same in
      let s₃ = S.size in
      let n₁ = few-put c body in
      let n₂ = ap length H.found.same in
      let n₃ = S.few in
      record { size = omega arith; few = omega arith; fit = fit-put c body (rw H.found.same at S.fit) (omega arith) }

  module _ (size item : ℕ) (sized : 1 + payload_length m.kind ≡ size)
      (itemed : (i : Item) → i.key.kind ≡ m.kind → T (good i) → item_size i ≡ item) where
    abbrev gone : ℕ
    gone = cond (eqb (count m items) p.amount) (freed m c size item) 0

    abbrev lowers : Answer ℕ
    lowers = p.lowered (count m items) (total_of d)

    inline-gives : (x : Cut Ref) → first_cut is_named b.refs ≡ some x → Gives sheet gone lowers (dropped p items c)
    inline-gives x e =
        record {
          no = λ number r. is ∙ bind-no lowers _ r;
          yes = λ rest r. (put_back c (body rest), is ∙ bind-yes lowers _ r, shorter-put (body rest) gone (short rest r));
        }
      where
        body : ℕ → List ℕ
        body rest = body_bytes (body_with b rest (x.front ++ (less x.hit p.amount ++ x.back)))

        is : dropped p items c ≡ bind lowers (λ rest. accepted (put_back c (body rest)))
        is =
            inline-is p items c b fits H.reads P.lowers.sure x e
            ∙ ap₂ (λ (w t : ℕ). bind (p.lowered w t) (λ rest. accepted (put_back c (body rest))))
            (inline-counts x e).0 (sym (read-total c.hit.key.kind d b H.reads))

        short : (rest : ℕ) → lowers ≡ accepted rest → length (body rest) + gone ≡ length d
        short rest r =
            let t = cut-some is_named b.refs e in
            let (w, ne, positive) = inline-counts x e in
            let (_, within, _) = P.lowers.out (count m items) (total_of d) rest positive r in
            let n = named-yes m.kind m.fields x.hit t.hit in
            let k : T (known x.hit.kind) =
            subst (λ (z : ℕ). T (known z)) (sym n.0) (naming-known m.kind P.form.naming) in
            let l : length x.hit.fields ≡ field_count x.hit.kind = ap length n.1 ∙ P.form.size ∙ ap field_count (sym n.0) in
            let p₁ : payload_length x.hit.kind ≡ payload_length m.kind = ap payload_length n.0 in
            let e₁ = length-edit b rest x.front (x.hit ∷ []) (less x.hit p.amount) x.back t.same in
            let e₂ = length-ref x.hit k l in
            let e₃ = less-length x.hit p.amount k l (omega arith) in
            let e₄ = ap length (body_bytes-read c.hit.key.kind d b H.bytes H.reads) in
            let e₅ : gone ≡ cond (eqb x.hit.weight p.amount) (1 + payload_length x.hit.kind) 0 =
            ap₂ (λ (a z : ℕ). cond (eqb a p.amount) z 0) (sym w)
            (cond_no {A = ℕ} (eqb (inline m c) 0) item size (no_eqb ne) ∙ sym sized ∙ ap (λ (z : ℕ). 1 + z) (sym p₁)) in
            omega arith

    item-gives : inline m c ≡ 0 → (k : Cut Item) → Own m items k (p.counts k.hit) → k.hit.key ≡ item_key p m.extent
        → Gives sheet gone lowers (at_item p c k)
    unfolding bind dropped_at data_fits is_record
    item-gives z k O key =
        record {
          no = λ number r. bind-no (on_total d (p.lowered w)) _ (at-total ∙ bind-no lowers _ r);
          yes = λ rest r.
              (let (one≤, within, _) = P.lowers.out w (total_of d) rest O.positive (ap (λ (n : ℕ). p.lowered n (total_of d)) (sym O.counts) ∙ r) in
              let (after, q, short) = left (written 0 (le_bytes 8 rest) d) (length-total d rest long)
              (P.lefts items k O (own-bytes m items k w O S.tidied) key one≤ within) in
              (after, bind-yes (on_total d (p.lowered w)) _ (at-total ∙ bind-yes lowers _ r) ∙ q, short));
        }
      where
        w : ℕ
        w = p.counts k.hit

        long : 24 ≤ length d
        long = read-long c.hit.key.kind d b H.reads

        at-total : on_total d (p.lowered w) ≡ bind lowers (λ rest. accepted (written 0 (le_bytes 8 rest) d))
        at-total =
            total-in d (p.lowered w) fits long
            ∙ ap (λ (n : ℕ). bind (p.lowered n (total_of d)) (λ rest. accepted (written 0 (le_bytes 8 rest) d))) (sym O.counts)

        naming : Naming k.hit.key.kind
        naming = subst Naming (sym O.kind) P.form.naming

        no_record : T (not (is_record k.hit))
        no_record = naming-no-record k.hit naming

        fit-k : length k.hit.bytes ≤ 65535
        fit-k = leb→le _ _ (all-mid (λ i. data_fits i.bytes) k.front k.hit k.back (rw O.same at S.fit))

        made : (d' : List ℕ) (others : List Item) → dropped_at k (p.left k.hit) ≡ accepted others
            → (after : List Item) × (replaced c.hit.key d' others ≡ accepted after) × Shorter sheet gone after
            → (after : List Item)
            × (bind (dropped_at k (p.left k.hit)) (λ others. replaced c.hit.key d' others) ≡ accepted after) × Shorter sheet gone after
        made d' others e (after, r, short) = (after, bind-yes (dropped_at k (p.left k.hit)) _ e ∙ r, short)

        left : (d' : List ℕ) → length d' ≡ length d → Left m k.hit w p.amount (p.left k.hit) → (after : List Item)
            × (bind (dropped_at k (p.left k.hit)) (λ others. replaced c.hit.key d' others) ≡ accepted after) × Shorter sheet gone after
        left d' l (goes all e) =
            let g : gone ≡ item_size k.hit =
            cond_yes {A = ℕ} (eqb (count m items) p.amount) (freed m c size item) 0 (yes_eqb (O.counts ∙ all))
            ∙ cond_yes {A = ℕ} (eqb (inline m c) 0) item size (yes_eqb z) ∙ sym (itemed k.hit O.kind O.is_good) in
            made d' (without k) (ap (dropped_at k) e)
            (kept sheet items S m c b H k O.same no_record [] tt tt gone (omega arith) (omega arith) d' l)
        left d' l (stays more v e _ gv _) =
            let g : gone ≡ 0 =
            cond_no {A = ℕ} (eqb (count m items) p.amount) (freed m c size item) 0
            (no_eqb (λ (q : count m items ≡ p.amount). omega (arith, O.counts))) in
            let lv : length v ≡ length k.hit.bytes = form-length k.hit v naming O.is_good gv in
            let lk = fit-k in
            made d' (put_back k v) (ap (dropped_at k) e)
            (kept sheet items S m c b H k O.same no_record (with_bytes k.hit v ∷ [])
            (yes_and (not (is_record k.hit)) true no_record tt)
            (yes_and (leb (length v) 65535) true (le→leb (length v) 65535 (omega arith)) tt) gone (omega arith) (omega arith) d' l)

    pub gives : 1 ≤ count m items → Gives sheet gone lowers (dropped p items c)
    unfolding needed
    gives n = go (first_cut is_named b.refs) refl
      where
        go : (o : Option (Cut Ref)) → first_cut is_named b.refs ≡ o → Gives sheet gone lowers (dropped p items c)
        go (some x) e = inline-gives x e
        go none e =
            let (z, (k, O, key)) = item-own e n in
            let at : first_cut (has_key (item_key p c.hit.key.objectid)) items ≡ some k =
            key-at sheet items S k O.same (item_key p c.hit.key.objectid) (key ∙ ap (item_key p) (sym H.extent)) in
            subst (Gives sheet gone lowers)
            (sym (by-item e
            ∙ bind-yes (needed 5 (first_cut (has_key (item_key p c.hit.key.objectid)) items)) (at_item p c) (ap (needed 5) at)))
            (item-gives z k O key)
