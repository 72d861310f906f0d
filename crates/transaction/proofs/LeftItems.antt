-- What is left under a name in the items that a call makes, where a record has another body; and that of drop_kept_tree_ref is
-- what the drop leaves, with the own-flag and without it. Assumes nothing.
use mathlib.Core.Path.{◌≡◌, refl, sym, ap, ◌∙◌}
use mathlib.Core.Bool.{Bool, true, false}
use mathlib.Core.Option.{Option, some}
use mathlib.Core.List.{List}
use Prim.Native.Nat.{ℕ}
use lib.Dec.{T, leb}
use lib.ListN.{length}
use Rattle.fields.specs.Lists.{Cut, first_cut}
use Rattle.fields.proofs.Lists.{Found, cut-some}
use Rattle.format.specs.declared.BlockRef.{BlockRef}
use Rattle.format.specs.declared.Key.{Key}
use Rattle.format.specs.Questions.{Answer, refused, absent, remove, accepted, bind, needed, if_absent, result_or}
use Rattle.format.specs.References.{rank_of}
use Rattle.format.specs.Bodies.{body_fits, on_head, one, lower_total, with_flags, drop_inline_tree_ref}
use Rattle.format.specs.Items.{Item, key_of, with_bytes, put_back}
use Rattle.format.specs.Sheets.{has_key, deleted}
use Rattle.format.specs.Apply.{replaced, flagged, drop_tree_ref}
use Rattle.format.specs.Left.{left_in, left_at}
use Rattle.format.proofs.Answers.{bind_ok, needed-ok, accepted-inj, refused-not, remove-not}
use Rattle.format.proofs.Keys.{same_key-yes, cut-here}
use Rattle.inline_refs.specs.declared.ref_name.RefName.TheVariants.{Block}
use Rattle.inline_refs.specs.Scans.{kind_of, fields_of}
use Rattle.transaction.specs.Drops.{item_left, on_key_left, own_left, left_by, ref_left}
use Rattle.transaction.proofs.Turns.{accepted-absent, asked-absent, stays}
use Rattle.transaction.proofs.LeftBodies.{total_left, flagged-left, absent-left}

-- the item that was found, with other data that passes too, is found again
pub left-put : (p : Item → Bool) (kind : ℕ) (fields : List ℕ) (items : List Item) (k : Cut Item) (body : List ℕ) → first_cut p items ≡ some k
    → T (p (with_bytes k.hit body)) → left_at p kind fields (put_back k body) ≡ left_in k.hit.key.kind kind fields body
unfolding left_at needed
left-put p kind fields items k body e t =
    ap (λ (o : Option (Cut Item)). result_or 0 (λ (c : Cut Item). left_in c.hit.key.kind kind fields c.hit.bytes) (needed 5 o))
    (cut-here p k.front (with_bytes k.hit body) k.back (cut-some p items e).miss t)

-- ---- drop_kept_tree_ref

flagged-there : (own : Bool) (rest : List ℕ) → flagged own rest ≡ absent → ⊥
unfolding flagged with_flags on_head
flagged-there false rest e = accepted-absent e
flagged-there true rest e = accepted-absent (asked-absent (leb 24 (length rest)) 6 _ (asked-absent (body_fits rest) 3 _ e))

module _ (name : BlockRef) (own : Bool) (items : List Item) (bytenr level : ℕ) (c : Cut Item) where
  abbrev key : Key
  key = key_of bytenr 169 level

  abbrev fields : List ℕ
  fields = one name.tree

  abbrev other : Answer (List Item)
  other =
      bind (deleted (key_of c.hit.key.objectid 176 name.tree) items) (λ others.
      bind (lower_total c.hit.bytes) (λ rest. bind (flagged own rest) (λ body. replaced c.hit.key body others)))

  abbrev call : Answer (List ℕ) → Answer (List Item)
  call a = if_absent (bind a (λ rest. bind (flagged own rest) (λ body. accepted (put_back c body)))) other

  -- an item of a block reference has no count
  own-none : left_by (Block name) 1 items c absent ≡ 0
  unfolding left_by on_key_left own_left item_left kind_of fields_of rank_of
  own-none = go (needed 5 (first_cut (has_key (key_of c.hit.key.objectid 176 name.tree)) items))
    where
      go : (a : Answer (Cut Item)) → ◌≡◌ {A = ℕ} (result_or 0 (λ (k : Cut Item). 0) a) 0
      go (refused n) = refl
      go absent = refl
      go remove = refl
      go (accepted k) = refl

  module _ (finds : first_cut (has_key key) items ≡ some c) where
    key-is : c.hit.key ≡ key
    key-is = same_key-yes c.hit.key key (cut-some (has_key key) items finds).hit

    -- the record's new body, with the flag or without it
    inline-way : (rest : List ℕ) (after : List Item) → bind (flagged own rest) (λ body. accepted (put_back c body)) ≡ accepted after
        → left_in c.hit.key.kind 176 fields rest ≡ left_at (has_key key) 176 fields after
    inline-way rest after e =
        let h = bind_ok (flagged own rest) _ e in
        let kind-is : c.hit.key.kind ≡ 169 = ap (λ (k : Key). k.kind) key-is in
        ap (λ (n : ℕ). left_in n 176 fields rest) kind-is
        ∙ sym (flagged-left 176 fields own rest h.0 h.1)
        ∙ ap (λ (n : ℕ). left_in n 176 fields h.0) (sym kind-is)
        ∙ sym (left-put (has_key key) 176 fields items c h.0 finds (cut-some (has_key key) items finds).hit)
        ∙ ap (left_at (has_key key) 176 fields) (accepted-inj h.2)

    -- the name stands nowhere in the body, so nowhere in it with a lower total
    item-way : (after : List Item) → left_in c.hit.key.kind 176 fields c.hit.bytes ≡ 0 → other ≡ accepted after
        → 0 ≡ left_at (has_key key) 176 fields after
    unfolding replaced lower_total
    item-way after none e =
        let h₁ = bind_ok (deleted (key_of c.hit.key.objectid 176 name.tree) items) _ e in
        let h₂ = bind_ok (lower_total c.hit.bytes) _ h₁.2 in
        let h₃ = bind_ok (flagged own h₂.0) _ h₂.2 in
        let h₄ = bind_ok (needed 5 (first_cut (has_key c.hit.key) h₁.0)) _ h₃.2 in
        let body : List ℕ = h₃.0 in
        let k : Cut Item = h₄.0 in
        let again : first_cut (has_key key) h₁.0 ≡ some k =
        ap (λ (x : Key). first_cut (has_key x) h₁.0) (sym key-is) ∙ needed-ok 5 _ h₄.1 in
        let f : Found (has_key key) h₁.0 k = cut-some (has_key key) h₁.0 again in
        let kind-is : k.hit.key.kind ≡ 169 = ap (λ (x : Key). x.kind) (same_key-yes k.hit.key key f.hit) in
        let was : 169 ≡ c.hit.key.kind = ap (λ (x : Key). x.kind) (sym key-is) in
        sym none
        ∙ ap (λ (n : ℕ). left_in n 176 fields c.hit.bytes) (sym was)
        ∙ sym (total_left 169 176 fields _ c.hit.bytes h₂.0 h₂.1)
        ∙ sym (flagged-left 176 fields own h₂.0 body h₃.1)
        ∙ ap (λ (n : ℕ). left_in n 176 fields body) (sym kind-is)
        ∙ sym (left-put (has_key key) 176 fields h₁.0 k body again f.hit)
        ∙ ap (left_at (has_key key) 176 fields) (accepted-inj h₄.2)

    pub kept-left : (after : List Item) → drop_tree_ref name own items c ≡ accepted after
        → ref_left (Block name) 1 items c ≡ left_at (has_key key) 176 fields after
    unfolding drop_tree_ref ref_left left_by kind_of fields_of if_absent bind
    kept-left after e = go (drop_inline_tree_ref c.hit.key.kind c.hit.bytes name) refl e
      where
        go : (a : Answer (List ℕ)) → drop_inline_tree_ref c.hit.key.kind c.hit.bytes name ≡ a → call a ≡ accepted after
            → left_by (Block name) 1 items c a ≡ left_at (has_key key) 176 fields after
        go (refused n) q f = refused-not f
        go absent q f = own-none ∙ item-way after (absent-left name c.hit.key.kind c.hit.bytes q) f
        go remove q f = remove-not f
        go (accepted rest) q f = inline-way rest after (sym (stays (flagged own rest) (put_back c) other (flagged-there own rest)) ∙ f)
