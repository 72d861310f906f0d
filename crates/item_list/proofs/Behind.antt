-- The items behind one that stands in a list: what is read from its end on, and a search that starts there. Assumes nothing.
use mathlib.Core.Path.{◌≡◌, sym, ap, ap₂, ◌∙◌, subst}
use mathlib.Core.List.{List, [], ◌∷◌, ◌++◌, append_assoc}
use Prim.Native.Nat.{ℕ, ◌+◌, ◌≤◌}
use native.Mathlib.Omega.{arith}
use lib.Dec.{T}
use lib.ListN.{length, drop, length-append, length-drop}
use mir.Facts.{and_yes}
use Rattle.fields.specs.Lists.{all, Cut}
use Rattle.fields.proofs.Lists.{T-eq, all_right, all_map, Found, cut-some}
use Rattle.format.specs.declared.Key.{Key}
use Rattle.format.specs.Questions.{accepted}
use Rattle.format.specs.Items.{Item, key_below, rising, item_bytes, items_bytes, sheet_bytes, read_items}
use Rattle.format.specs.Sheets.{has_key}
use Rattle.format.proofs.Items.{sane, length-item_bytes, length-sheet_bytes, items_bytes-append, read-items_bytes}
use Rattle.format.proofs.Keys.{below, below-trans, rising-before}
use Rattle.format.proofs.Splices.{sheet-from, sheet-join}
use Rattle.item_list.specs.declared.Sought.TheVariants.{Present}
use Rattle.item_list.specs.Steps.{items_in, list_items, list_items_from, ListedFrom}
use Rattle.item_list.specs.Seeks.{item_size_of, seek_in}
use Rattle.item_list.proofs.Reading.{Counted}
use Rattle.item_list.proofs.Positions.{Sits, sits}

further : (at : ℕ) (i : Item) (front : List Item) → at + item_size_of i + length (items_bytes front) ≡ at + length (items_bytes (i ∷ front))
unfolding item_size_of items_bytes
further at i front = omega (arith, length-append (item_bytes i) (items_bytes front), length-item_bytes i)

bytes-long : (i : Item) (more : List Item) → length (items_bytes (i ∷ more)) ≡ 21 + length i.bytes + length (items_bytes more)
unfolding items_bytes
bytes-long i more = length-append (item_bytes i) (items_bytes more) ∙ omega (arith, length-item_bytes i)

-- a search for a key above those of the first items goes over them
seek-over : (key : Key) (at : ℕ) (front back : List Item) → T (all (below key) front)
    → seek_in key at (front ++ back) ≡ seek_in key (at + length (items_bytes front)) back
unfolding seek_in items_bytes
seek-over key at [] back t = ap (λ (n : ℕ). seek_in key n back) (omega arith)
seek-over key at (i ∷ front) back t =
    let h = and_yes (key_below i.key key) _ t in
    rw (T-eq (key_below i.key key) h.0)
    (seek-over key (at + item_size_of i) front back h.1 ∙ ap (λ (n : ℕ). seek_in key n back) (further at i front))

module _ {s : List ℕ} {n : ℕ} (list : Counted s n) (front : List Item) (hit : Item) (back : List Item) (same : list_items s ≡ front ++ hit ∷ back)
    (end : ℕ) (ends : length (sheet_bytes front) + (21 + length hit.bytes) ≡ end) where
  bytes-from : drop end s ≡ items_bytes back
  unfolding items_bytes
  bytes-from =
      let l₁ = ap length (sheet-join front hit []) ∙ length-append (sheet_bytes front) (item_bytes hit ++ []) in
      let l₂ = length-append (item_bytes hit) [] in
      let l₃ = length-item_bytes hit in
      let at : length (sheet_bytes (front ++ hit ∷ [])) ≡ end = omega arith in
      let bytes : sheet_bytes ((front ++ hit ∷ []) ++ back) ≡ s =
      ap sheet_bytes (append_assoc front (hit ∷ []) back ∙ sym same) ∙ list.bytes-are in
      ap₂ (λ (k : ℕ) (l : List ℕ). drop k l) (sym at) (sym bytes) ∙ sheet-from (front ++ hit ∷ []) back

  behind-reads : read_items 4096 (drop end s) ≡ accepted back
  behind-reads =
      let sanes : T (all sane (front ++ hit ∷ back)) = subst (λ (l : List Item). T (all sane l)) same list.sane-all in
      let l = ap length (sym same) ∙ list.count in
      let m = length-append front (hit ∷ back) in
      let few = list.few in
      let short : length back ≤ 4096 = omega arith in
      ap (read_items 4096) bytes-from ∙ read-items_bytes 4096 back (and_yes (sane hit) _ (all_right sane front (hit ∷ back) sanes)).1 short

  pub behind-are : list_items_from s end ≡ back
  unfolding items_in
  behind-are = ap items_in behind-reads

  pub behind-listed : ListedFrom s end
  behind-listed = record { reads = behind-reads ∙ ap accepted (sym behind-are) }

  -- what is found from there on stands behind the item
  pub found-behind : (key : Key) (from to : ℕ) → seek_in key end (list_items_from s end) ≡ Present from to → (end ≤ from) × (from + 21 ≤ to) × (to ≤ length s)
  found-behind key from to e =
      let k : Sits key back end from to = sits key end back from to (ap (seek_in key end) (sym behind-are) ∙ e) in
      let c : Cut Item = k.at_cut in
      let f : Found (has_key key) back c = cut-some (has_key key) back k.is in
      let starts = k.stands.starts in
      let stops = k.stands.ends in
      let l₁ = ap length bytes-from in
      let l₂ = length-drop end s in
      let l₃ = ap (λ (l : List Item). length (items_bytes l)) f.same ∙ ap length (items_bytes-append c.front (c.hit ∷ c.back))
      ∙ length-append (items_bytes c.front) (items_bytes (c.hit ∷ c.back)) in
      let l₄ = bytes-long c.hit c.back in
      (omega arith, omega arith, omega arith)

  next : 1 + length (items_bytes front) + item_size_of hit ≡ end
  unfolding item_size_of
  next = omega (arith, length-sheet_bytes front, ends)

  over : (key : Key) (at : ℕ) → T (key_below hit.key key) → seek_in key at (hit ∷ back) ≡ seek_in key (at + item_size_of hit) back
  unfolding seek_in
  over key at h = rw (T-eq (key_below hit.key key) h)

  -- in rising keys, a key above the item's is found behind it where it is found in the whole list
  pub seek-behind : (key : Key) → T (key_below hit.key key) → seek_in key end (list_items_from s end) ≡ seek_in key 1 (list_items s)
  seek-behind key high =
      let rise : T (rising (front ++ hit ∷ back)) = subst (λ (l : List Item). T (rising l)) same list.rises in
      let low : T (all (below key) front) =
      all_map (below hit.key) (below key) (λ i h. below-trans i.key hit.key key h high) front (rising-before front hit back rise) in
      ap (seek_in key end) behind-are ∙ ap (λ (k : ℕ). seek_in key k back) (sym next) ∙ sym (over key (1 + length (items_bytes front)) high)
      ∙ sym (seek-over key 1 front (hit ∷ back) low) ∙ ap (seek_in key 1) (sym same)
