-- Bytes inside an item's data written over: in the data, and in the bytes of the list. Assumes nothing.
use mathlib.Core.Path.{◌≡◌, sym, ap, ap₂, ◌∙◌}
use mathlib.Core.List.{List, ◌∷◌, ◌++◌, append_assoc}
use Prim.Native.Nat.{ℕ, ◌+◌, ◌-◌, ◌≤◌}
use native.Mathlib.Omega.{arith}
use lib.ListN.{length, take, drop, take-append-drop}
use lib.Seq.{take-add, take-take, drop_at, drop-drop, drop-append-le}
use Rattle.std.specs.Int.{to_le_bytes, w32}
use Rattle.fields.specs.Numbers.{le_bytes}
use Rattle.fields.specs.Parts.{part, written}
use Rattle.fields.proofs.Numbers.{to_le}
use Rattle.fields.proofs.Parts.{length_part, length-written, part-add}
use Rattle.format.specs.Items.{Item, sheet_bytes, with_bytes}
use Rattle.format.proofs.Splices.{item_at, sheet-data, sheet-rewrite}
use Rattle.record_edit.specs.Records.{data_of}

-- a part with a write in it, written back, is that write
written-inside : (p at : ℕ) (new bytes all : List ℕ) → part p (length bytes) all ≡ bytes → at + length new ≤ length bytes
    → written p (written at new bytes) all ≡ written (p + at) new all
written-inside p at new bytes all is h =
    let m : ℕ = at + length new in
    let n : ℕ = length bytes in
    let w : List ℕ = take p all in
    let x : List ℕ = take at bytes in
    let z : List ℕ = drop m bytes in
    let rest : List ℕ = drop (p + n) all in
    let long : length (written at new bytes) ≡ n = length-written at new bytes h in
    let at≤ : at ≤ n = omega arith in
    let front : take (p + at) all ≡ w ++ x =
    take-add p at all ∙ ap (λ (l : List ℕ). w ++ l) (sym (take-take at n (drop p all) at≤) ∙ ap (take at) is) in
    let from : drop p all ≡ bytes ++ rest =
    sym (take-append-drop n (drop p all)) ∙ ap₂ (λ (a b : List ℕ). a ++ b) is (drop-drop n p all) in
    let same : p + at + length new ≡ p + m = omega arith in
    let back : drop (p + at + length new) all ≡ z ++ rest =
    ap (λ (k : ℕ). drop k all) same ∙ sym (drop-drop m p all) ∙ ap (drop m) from ∙ drop-append-le m bytes rest h in
    ap (λ (k : ℕ). w ++ written at new bytes ++ drop (p + k) all) long
    ∙ append_assoc w (written at new bytes) rest
    ∙ ap (λ (l : List ℕ). w ++ l) (append_assoc (x ++ new) z rest ∙ append_assoc x new (z ++ rest))
    ∙ sym (append_assoc w x (new ++ (z ++ rest)))
    ∙ sym (append_assoc (w ++ x) new (z ++ rest))
    ∙ sym (ap₂ (λ (a b : List ℕ). a ++ new ++ b) front back)

pub sheet-part : (items front : List Item) (i : Item) (at : ℕ) (new : List ℕ) (back : List Item) → items ≡ front ++ i ∷ back
    → at + length new ≤ length i.bytes
    → sheet_bytes (front ++ with_bytes i (written at new i.bytes) ∷ back) ≡ written (item_at front + 21 + at) new (sheet_bytes items)
sheet-part items front i at new back e h =
    sheet-rewrite items front i (written at new i.bytes) back e (length-written at new i.bytes h)
    ∙ written-inside (item_at front + 21) at new i.bytes (sheet_bytes items) (sheet-data items front i back e) h

-- a part of a part
pub part-inside : (p n at m : ℕ) (all : List ℕ) → at + m ≤ n → p + at ≤ length all → part at m (part p n all) ≡ part (p + at) m all
part-inside p n at m all h k =
    let n-is : at + (n - at) ≡ n = omega arith in
    let m≤ : m ≤ n - at = omega arith in
    ap (λ (j : ℕ). part at m (part p j all)) (sym n-is)
    ∙ ap (part at m) (part-add at (n - at) p all)
    ∙ ap (take m) (drop_at (part p at all) (part (p + at) (n - at) all) at (length_part at p all k))
    ∙ take-take m (n - at) (drop (p + at) all) m≤

-- the last four bytes of an item's data
pub last-four : (s : List ℕ) (from to at : ℕ) → from + 21 ≤ to → to ≤ length s → length (data_of s from to) ≡ at + 4
    → part at 4 (data_of s from to) ≡ part (to - 4) 4 s
last-four s from to at a b l =
    let long : length (data_of s from to) ≡ to - (from + 21) = length_part (to - (from + 21)) (from + 21) s (omega arith) in
    let there : from + 21 + at ≡ to - 4 = omega arith in
    part-inside (from + 21) (to - (from + 21)) at 4 s (omega arith) (omega arith) ∙ ap (λ (k : ℕ). part k 4 s) there

-- a number of four bytes as the library writes it
pub four_bytes : (count : ℕ) → to_le_bytes w32 count ≡ le_bytes 4 count
four_bytes count = to_le w32 count
