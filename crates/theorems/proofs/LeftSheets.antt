-- How many are left by a call on a sheet (document 02, ticket 5): the written sheet is read back, its record stands, and the
-- reported number is read off the record's body. Assumes nothing.
use mathlib.Core.Path.{◌≡◌, refl, sym, ap, ap₂, ◌∙◌, subst}
use mathlib.Core.Logic.{◌⊎◌, inl, inr}
use mathlib.Core.Bool.{Bool, true, false, ◌&&◌, cond}
use mathlib.Core.List.{List, ◌∷◌, ◌++◌}
use mathlib.Core.Option.{some}
use Prim.Native.Nat.{ℕ, ◌+◌, ◌-◌, ◌/◌, ◌%◌, ◌≤◌}
use native.Mathlib.Omega.{arith}
use lib.Bits.{bit_or}
use lib.Dec.{T, leb, eqb, le→leb}
use lib.ListN.{length, take, drop, length-append}
use lib.Seq.{drop_at, length-take-le}
use Rattle.std.specs.Prelude.{Ok}
use Rattle.fields.specs.Lists.{all, Cut, first_cut}
use Rattle.fields.specs.Numbers.{le_bytes, are_bytes}
use Rattle.fields.specs.Parts.{written}
use Rattle.fields.proofs.Lists.{all_map, all-mid, all_rest, all-put, Found, cut-some}
use Rattle.fields.proofs.Parts.{length-written}
use Rattle.fields.proofs.Numbers.{are_bytes-le_bytes, are_bytes-written, length-le_bytes}
use Rattle.format.specs.declared.BlockRef.{BlockRef}
use Rattle.format.specs.declared.SharedRef.{SharedRef}
use Rattle.format.specs.declared.Key.{Key}
use Rattle.format.specs.declared.Dropped.TheVariants.{Written}
use Rattle.format.specs.Questions.{Answer, decides, refused, absent, remove, accepted, ask, bind, needed, if_absent, result_or, AnsweredDropped}
use Rattle.format.specs.References.{Body, body_with, total_of, flags_of, start_of, read_refs, read_body}
use Rattle.format.specs.Bodies.{body_fits, shared_kind, on_head, one, reduced_by, lowered_by_one, on_total, reduce_total, lower_total, with_flags, on_body, drop_inline, drop_inline_tree_ref}
use Rattle.format.specs.Items.{Item, key_of, rising, read_sheet, sheet_bytes, sheet_holds, on_sheet, held_sheet, with_bytes, put_back}
use Rattle.format.specs.Sheets.{has_key, deleted}
use Rattle.format.specs.Apply.{is_record, record_of, on_record, replaced, shared_rest, apply_shared_drop, apply_shared_drop_to, flagged, drop_tree_ref, drop_kept_tree_ref, drop_kept_tree_ref_from}
use Rattle.format.specs.Left.{left_in, left_at, apply_shared_drop_left, drop_kept_tree_ref_left}
use Rattle.format.proofs.Answers.{ask-ok, ask-yes, bind_ok, bind-yes, needed-ok, if_absent-ok, refused-not, remove-not, accepted-inj}
use Rattle.format.proofs.Bodies.{sound-with, read_out, read-sound}
use Rattle.format.proofs.Decisions.{decides-ask, body-decides}
use Rattle.format.proofs.Items.{sane, sheet-sane}
use Rattle.format.proofs.Keys.{same_key-yes, rising-drop, rising-swap, cut-here}
use Rattle.theorems.proofs.Lowered.{one_out}
use Rattle.theorems.proofs.Steps.{tidy, tidy-with, tidy-bytes, sane-tidy, on-total}
use Rattle.theorems.proofs.Posting.{held-sheet-out}
use Rattle.theorems.proofs.Changes.{read-after}
use Rattle.theorems.proofs.LeftBodies.{wrote-out, Made, made_of, left-in, drop-made, take-made}
use Rattle.theorems.specs.Left.{LeftInSheet, SharedDropLeft, SharedDropAsItem, KeptDropLeft}

-- ---- a list in which the record has another body

-- a list in key order, as bytes can hold it
record Listed (items : List Item) : Type 0 where
  rise : T (rising items)
  tidied : T (all tidy items)

listed_of : (sheet : List ℕ) (items : List Item) → T (are_bytes sheet) → read_sheet sheet ≡ accepted items → Listed items
listed_of sheet items t e =
    let s = sheet-sane sheet items t e in
    record { rise = s.2; tidied = all_map sane tidy sane-tidy items s.0 }

listed-bytes : (items : List Item) → Listed items → (c : Cut Item) → items ≡ c.front ++ c.hit ∷ c.back → T (are_bytes c.hit.bytes)
listed-bytes items L c e = tidy-bytes c.hit (all-mid tidy c.front c.hit c.back (rw e at L.tidied))

record Again (is_it : Item → Bool) (after : List Item) : Type 0 where
  items : List Item
  listed : Listed items
  at : Cut Item
  found : Found is_it items at
  body : List ℕ
  made : Made at.hit.key.kind body
  same : put_back at body ≡ after

-- `is_it` asks for the key alone
module _ (is_it : Item → Bool) (keyed : (i : Item) (d : List ℕ) → T (is_it i) → T (is_it (with_bytes i d))) (kind : ℕ) (fields : List ℕ) where
  again-left : (items : List Item) → Listed items → (c : Cut Item) → Found is_it items c → (d : List ℕ) → Made c.hit.key.kind d
      → (room : ℕ) → T (sheet_holds room (put_back c d)) → (n : ℕ) → n ≡ left_at is_it kind fields (put_back c d)
      → LeftInSheet is_it kind fields (sheet_bytes (put_back c d)) n
  unfolding left_at needed
  again-left items L c f d m room holds n q =
      let a : List Item = c.front in let r : Item = c.hit in let z : List Item = c.back in
      let td : T (all tidy (a ++ r ∷ z)) = rw f.same at L.tidied in
      let rise : T (rising (a ++ r ∷ z)) = rw f.same at L.rise in
      let k : Cut Item = record { front = a; hit = with_bytes r d; back = z } in
      let finds : first_cut is_it (put_back c d) ≡ some k = cut-here is_it a (with_bytes r d) z f.miss (keyed r d f.hit) in
      record {
        items = put_back c d;
        at = k;
        reads = (read-after (put_back c d) room (rising-swap a r d z rise)
            (all-put tidy a (with_bytes r d) z (all_rest tidy a r z td) (tidy-with r d (all-mid tidy a r z td) m.raw)) holds).1;
        found = finds;
        in_body = left-in r.key.kind kind fields d n m
            (q ∙ ap (λ o. result_or 0 (λ (x : Cut Item). left_in x.hit.key.kind kind fields x.hit.bytes) (needed 5 o)) finds);
      }

  -- a call that makes such a list of the sheet's items
  sheet-left : (sheet : List ℕ) (three : Bool) (next : List Item → Answer (List Item)) → T (are_bytes sheet)
      → ((items after : List Item) → Listed items → next items ≡ accepted after → Again is_it after) → (room : ℕ) (old new : List ℕ) (size n : ℕ)
      → AnsweredDropped (held_sheet room (on_sheet sheet three next)) (result_or 0 (left_at is_it kind fields) (on_sheet sheet three next))
      (Ok (Written size n)) old new
      → LeftInSheet is_it kind fields (take size new) n
  unfolding on_sheet
  sheet-left sheet three next t makes room old new size n w =
      let a : Answer (List Item) = on_sheet sheet three next in
      let o = wrote-out (held_sheet room a) (result_or 0 (left_at is_it kind fields) a) old new size n w in
      let (after, e, holds, bytes) = held-sheet-out room a o.result o.answers in
      let (items, reads, h) = bind_ok (read_sheet sheet) _ e in
      subst (λ (l : List ℕ). LeftInSheet is_it kind fields l n) (bytes ∙ sym o.writes)
      (go after holds (o.reports ∙ ap (result_or 0 (left_at is_it kind fields)) e)
      (makes items after (listed_of sheet items t reads) (ask-ok three 3 _ h).1))
    where
      go : (after : List Item) → T (sheet_holds room after) → n ≡ left_at is_it kind fields after → Again is_it after
          → LeftInSheet is_it kind fields (sheet_bytes after) n
      go after holds e g =
          subst (λ (l : List Item). LeftInSheet is_it kind fields (sheet_bytes l) n) g.same
          (again-left g.items g.listed g.at g.found g.body g.made room
          (subst (λ (l : List Item). T (sheet_holds room l)) (sym g.same) holds) n (e ∙ ap (left_at is_it kind fields) (sym g.same)))

-- ---- another total

total_made : (type : ℕ) (d : List ℕ) (next : ℕ → Answer ℕ) → ((total rest : ℕ) → next total ≡ accepted rest → rest ≤ total) → Made type d
    → (body : List ℕ) → on_total d next ≡ accepted body → Made type body
total_made type d next falls m body e =
    let b : Body = m.body in
    let (total, lowers, is) = on-total type d b next body m.raw m.reads e in
    let s = read-sound type d b m.raw m.reads in
    let fits = s.fits in
    let low = falls b.total total lowers in
    made_of type body (body_with b total b.refs) (sound-with type b total b.refs s (omega arith) s.wholes) is

-- ---- apply_shared_drop

not-absent : {A : Type 0} (a : Answer A) (number : ℕ) {result : A} → if_absent a (refused number) ≡ accepted result → a ≡ accepted result
not-absent {A} a number {result} e = go (if_absent-ok a (refused number) e)
  where
    go : (a ≡ accepted result) ⊎ ((a ≡ absent) × (◌≡◌ {A = Answer A} (refused number) (accepted result))) → a ≡ accepted result
    go (inl h) = h
    go (inr (_, h)) = refused-not h

reduced-falls : (amount total rest : ℕ) → reduced_by amount total ≡ accepted rest → rest ≤ total
unfolding reduced_by
reduced-falls amount total rest e =
    let q : total - amount ≡ rest = accepted-inj (ask-ok (leb amount total) 14 _ e).1 in
    omega arith

shared-again : (extent : ℕ) (s : SharedRef) (count : ℕ) (items after : List Item) → Listed items
    → apply_shared_drop extent s count false items ≡ accepted after → Again (record_of extent) after
unfolding apply_shared_drop on_record shared_rest reduce_total
shared-again extent s count items after L e =
    let (c, finds, h₁) = bind_ok (needed 5 (first_cut (record_of extent) items)) _ e in
    let (rest, takes, h₂) = bind_ok (shared_rest c.hit s false) _ h₁ in
    let (body, lowers, is) = bind_ok (reduce_total rest count) _ h₂ in
    let f = cut-some (record_of extent) items (needed-ok 5 (first_cut (record_of extent) items) finds) in
    let type : ℕ = c.hit.key.kind in
    record {
      items = items;
      listed = L;
      at = c;
      found = f;
      body = body;
      made = total_made type rest (reduced_by count) (reduced-falls count)
          (take-made type c.hit.bytes s (listed-bytes items L c f.same) rest (not-absent _ 5 takes)) body lowers;
      same = accepted-inj is;
    }

pub shared-drop-left : SharedDropLeft
unfolding apply_shared_drop_to apply_shared_drop_left is_record
shared-drop-left sheet extent s count room old new size n t w =
    sheet-left (record_of extent) (λ i d h. h) s.kind (one s.parent) sheet (shared_kind s.kind) (apply_shared_drop extent s count false) t
    (shared-again extent s count) room old new size n w

pub shared-drop-as-item : SharedDropAsItem
unfolding apply_shared_drop_left
shared-drop-as-item sheet extent s count room old new size n w =
    (wrote-out (held_sheet room (apply_shared_drop_to sheet extent s count true)) 0 old new size n w).reports

-- ---- drop_kept_tree_ref

-- other flags leave the references where they are, but of type 168
flags-made : (type : ℕ) → eqb type 168 ≡ false → (d : List ℕ) → Made type d → (word : List ℕ) → length word ≡ 8 → T (are_bytes word)
    → Made type (written 16 word d)
unfolding read_body start_of
flags-made type no168 d m word size raw =
    let R = read_out type d m.body m.reads in
    let long : 24 ≤ length d = R.long in
    let d' : List ℕ = written 16 word d in
    let same : length d' ≡ length d = length-written 16 word d (omega arith) in
    let front : length (take 16 d ++ word) ≡ 24 = length-append (take 16 d) word ∙ omega (arith, length-take-le 16 d (omega arith), size) in
    let at : 16 + length word ≡ 24 = omega arith in
    let rest : drop 24 d' ≡ drop 24 d = drop_at (take 16 d ++ word) (drop (16 + length word) d) 24 front ∙ ap (λ (k : ℕ). drop k d) at in
    let start : (l : List ℕ) → start_of type l ≡ 24 = (λ l. ap (λ (c : Bool). cond (c && eqb (flags_of l / 2 % 2) 1) 42 24) no168) in
    let refs : read_refs (length d') (drop (start_of type d') d') ≡ accepted m.body.refs =
    ap (λ (k : ℕ). read_refs (length d') (drop k d')) (start d') ∙ ap₂ read_refs same rest
    ∙ sym (ap (λ (k : ℕ). read_refs (length d) (drop k d)) (start d)) ∙ R.refs_read in
    record {
      body = record { total = total_of d'; fixed = drop 8 (take (start_of type d') d'); refs = m.body.refs };
      reads = ask-yes (leb 24 (length d')) 6 _ (le→leb 24 (length d') (rw same long))
          ∙ ask-yes (leb (start_of type d') (length d')) 6 _ (le→leb (start_of type d') (length d') (rw (start d', same) long))
          ∙ bind-yes (read_refs (length d') (drop (start_of type d') d')) _ refs;
      raw = are_bytes-written 16 word d raw m.raw;
    }

flagged-made : (type : ℕ) → eqb type 168 ≡ false → (own : Bool) (d : List ℕ) → Made type d → (body : List ℕ) → flagged own d ≡ accepted body
    → Made type body
unfolding flagged with_flags on_head
flagged-made type no168 true d m body e =
    let word : List ℕ = le_bytes 8 (bit_or (flags_of d) 256) in
    let h₁ = ask-ok (body_fits d) 3 _ e in
    let h₂ = ask-ok (leb 24 (length d)) 6 _ h₁.1 in
    subst (Made type) (accepted-inj h₂.1)
    (flags-made type no168 d m word (length-le_bytes 8 (bit_or (flags_of d) 256)) (are_bytes-le_bytes 8 (bit_or (flags_of d) 256)))
flagged-made type no168 false d m body e = subst (Made type) (accepted-inj e) m

flagged-decides : (own : Bool) (d : List ℕ) → T (decides (flagged own d))
unfolding flagged with_flags on_head
flagged-decides true d = decides-ask (body_fits d) 3 tt _ (decides-ask (leb 24 (length d)) 6 tt _ tt)
flagged-decides false d = tt

-- a search that says absent has read the body
absent-read : (type : ℕ) (d : List ℕ) (next : Body → Answer (List ℕ)) → on_body type d next ≡ absent → (b : Body) × (read_body type d ≡ accepted b)
unfolding on_body ask bind
absent-read type d next e = go (body_fits d) (read_body type d) refl (body-decides type d) e
  where
    go : (c : Bool) (a : Answer Body) → read_body type d ≡ a → T (decides a) → ask c 3 (bind a next) ≡ absent → (b : Body) × (read_body type d ≡ accepted b)
    go false a q t e = absurd (subst (λ (x : Answer (List ℕ)). T (decides x)) e tt)
    go true (refused k) q t e = absurd (subst (λ (x : Answer (List ℕ)). T (decides x)) e t)
    go true absent q t e = absurd t
    go true remove q t e = absurd t
    go true (accepted b) q t e = (b, q)

lowered-falls : (total rest : ℕ) → lowered_by_one total ≡ accepted rest → rest ≤ total
lowered-falls total rest e = let h = one_out total rest e in omega (arith, h.1)

module _ (bytenr level : ℕ) (block : BlockRef) (own : Bool) (items after : List Item) (L : Listed items) where
  abbrev key : Key
  key = key_of bytenr 169 level

  module _ (c : Cut Item) (f : Found (has_key key) items c) where
    abbrev type : ℕ
    type = c.hit.key.kind

    no168 : eqb type 168 ≡ false
    no168 = ap (λ (k : Key). eqb k.kind 168) (same_key-yes c.hit.key key f.hit)

    raw : T (are_bytes c.hit.bytes)
    raw = listed-bytes items L c f.same

    abbrev by_item : Answer (List Item)
    by_item =
        bind (deleted (key_of c.hit.key.objectid 176 block.tree) items) (λ others.
        bind (lower_total c.hit.bytes) (λ rest. bind (flagged own rest) (λ body. replaced c.hit.key body others)))

    -- the reference was an item of its own, which went
    item-again : (b : Body) → read_body type c.hit.bytes ≡ accepted b → by_item ≡ accepted after → Again (has_key key) after
    unfolding deleted lower_total replaced
    item-again b reads e =
        let (others, goes, h₁) = bind_ok (deleted (key_of c.hit.key.objectid 176 block.tree) items) _ e in
        let (rest, lowers, h₂) = bind_ok (lower_total c.hit.bytes) _ h₁ in
        let (body, flags, h₃) = bind_ok (flagged own rest) _ h₂ in
        let (c', finds, is) = bind_ok (needed 5 (first_cut (has_key c.hit.key) others)) _ h₃ in
        let (k, at, out) = bind_ok (needed 5 (first_cut (has_key (key_of c.hit.key.objectid 176 block.tree)) items)) _ goes in
        let fk = cut-some (has_key (key_of c.hit.key.objectid 176 block.tree)) items (needed-ok 5 _ at) in
        let same : c.hit.key ≡ key = same_key-yes c.hit.key key f.hit in
        let f' = cut-some (has_key c.hit.key) others (needed-ok 5 (first_cut (has_key c.hit.key) others) finds) in
        let type' : type ≡ c'.hit.key.kind = ap (λ (z : Key). z.kind) (sym (same_key-yes c'.hit.key c.hit.key f'.hit)) in
        let m : Made type body = flagged-made type no168 own rest
        (total_made type c.hit.bytes lowered_by_one lowered-falls (record { body = b; reads = reads; raw = raw }) rest lowers) body flags in
        record {
          items = others;
          listed = subst Listed (accepted-inj out)
              (record {
                rise = rising-drop k.front k.hit k.back (rw fk.same at L.rise);
                tidied = all_rest tidy k.front k.hit k.back (rw fk.same at L.tidied);
              });
          at = c';
          found = subst (λ (z : Key). Found (has_key z) others c') same f';
          body = body;
          made = subst (λ (z : ℕ). Made z body) type' m;
          same = accepted-inj is;
        }

    record-again : drop_tree_ref block own items c ≡ accepted after → Again (has_key key) after
    unfolding drop_tree_ref drop_inline_tree_ref drop_inline bind if_absent
    record-again e = go (drop_inline_tree_ref type c.hit.bytes block) refl e
      where
        put : List ℕ → Answer (List Item)
        put rest = bind (flagged own rest) (λ body. accepted (put_back c body))

        flags : (rest : List ℕ) → Made type rest → (x : Answer (List ℕ)) → flagged own rest ≡ x → T (decides x)
            → if_absent (bind x (λ body. accepted (put_back c body))) by_item ≡ accepted after → Again (has_key key) after
        flags rest m (refused k) q t e = refused-not e
        flags rest m absent q t e = absurd t
        flags rest m remove q t e = absurd t
        flags rest m (accepted body) q t e =
            record { items = items; listed = L; at = c; found = f; body = body; made = flagged-made type no168 own rest m body q; same = accepted-inj e }

        go : (a : Answer (List ℕ)) → drop_inline_tree_ref type c.hit.bytes block ≡ a → if_absent (bind a put) by_item ≡ accepted after
            → Again (has_key key) after
        go (refused k) q e = refused-not e
        go absent q e = let (b, r) = absent-read type c.hit.bytes _ q in item-again b r e
        go remove q e = remove-not e
        go (accepted rest) q e =
            flags rest (drop-made type c.hit.bytes 176 (one block.tree) raw rest q) (flagged own rest) refl
            (flagged-decides own rest) e

  kept_again : drop_kept_tree_ref bytenr level block own items ≡ accepted after → Again (has_key key) after
  unfolding drop_kept_tree_ref
  kept_again e =
      let (c, finds, h) = bind_ok (needed 5 (first_cut (has_key key) items)) _ e in
      record-again c (cut-some (has_key key) items (needed-ok 5 (first_cut (has_key key) items) finds)) h

pub kept-drop-left : KeptDropLeft
unfolding drop_kept_tree_ref_from drop_kept_tree_ref_left
kept-drop-left sheet bytenr level block own room old new size n t w =
    sheet-left (has_key (key_of bytenr 169 level)) (λ i d h. h) 176 (one block.tree) sheet true (drop_kept_tree_ref bytenr level block own) t
    (kept_again bytenr level block own) room old new size n w
