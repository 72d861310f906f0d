-- Document 02, ticket 5, "How many are left": what each drop reports beside its result. No result moves for it: the number is read
-- off what the call's definition answers, and is 0 where that has no result. No call hands it back so far. Assumes nothing.
use Rattle.std.specs.Prelude.{Bool, true, false, cond, List, ℕ}
use Rattle.fields.specs.Lists.{sum, first_cut}
use Rattle.format.specs.declared.BlockRef.{BlockRef}
use Rattle.format.specs.declared.DataRef.{DataRef}
use Rattle.format.specs.declared.SharedRef.{SharedRef}
use Rattle.format.specs.declared.Change.{Change}
use Rattle.format.specs.declared.Change.TheVariants.{AddBlock, AddData, AddShared, DropBlock, DropData, DropShared}
use Rattle.format.specs.Questions.{Answer, needed, result_or, bytes_of}
use Rattle.format.specs.References.{Ref, read_body}
use Rattle.format.specs.Bodies.{named, one, triple, drop_inline_tree_ref, drop_inline_data_ref, take_inline_shared, keyed_count, drop_keyed_data_ref}
use Rattle.format.specs.Items.{Item, key_of}
use Rattle.format.specs.Sheets.{has_key}
use Rattle.format.specs.Apply.{record_of, apply_shared_drop_to, drop_kept_tree_ref_from}
use Rattle.format.specs.Names.{count}
use Rattle.format.specs.Ledger.{name_of, post}

-- ---- "the count remaining under the name it touched, summed over that body"

abbrev pub weight_under : ℕ → List ℕ → Ref → ℕ
weight_under kind fields r = cond (named kind fields r) r.weight 0

abbrev pub left_among : ℕ → List ℕ → List Ref → ℕ
left_among kind fields refs = sum (weight_under kind fields) refs

unfoldable pub left_in : ℕ → ℕ → List ℕ → List ℕ → ℕ
left_in type kind fields body = result_or 0 (λ b. left_among kind fields b.refs) (read_body type body)

-- ---- calls on bodies

unfoldable pub drop_inline_tree_ref_left : ℕ → List ℕ → BlockRef → ℕ
drop_inline_tree_ref_left type body block = result_or 0 (left_in type 176 (one block.tree)) (drop_inline_tree_ref type body block)

unfoldable pub drop_inline_data_ref_left : ℕ → List ℕ → DataRef → ℕ
drop_inline_data_ref_left type body d = result_or 0 (left_in type 178 (triple d)) (drop_inline_data_ref type body d)

unfoldable pub take_inline_shared_left : ℕ → List ℕ → SharedRef → ℕ
take_inline_shared_left type body s =
    result_or 0 (left_in type s.kind (one s.parent)) (bytes_of (take_inline_shared type body s))

-- "or item": it has one count
unfoldable pub drop_keyed_data_ref_left : List ℕ → DataRef → ℕ
drop_keyed_data_ref_left item d = result_or 0 keyed_count (drop_keyed_data_ref item d)

-- ---- "sheet calls .. pass it up": over the body of the record, in the items that the call makes

unfoldable pub left_at : (Item → Bool) → ℕ → List ℕ → List Item → ℕ
left_at is_it kind fields items =
    result_or 0 (λ c. left_in c.hit.key.kind kind fields c.hit.bytes) (needed 5 (first_cut is_it items))

-- "calls with the item flag report 0"
unfoldable pub apply_shared_drop_left : List ℕ → ℕ → SharedRef → ℕ → Bool → ℕ
apply_shared_drop_left sheet extent s count true = 0
apply_shared_drop_left sheet extent s count false =
    result_or 0 (left_at (record_of extent) s.kind (one s.parent)) (apply_shared_drop_to sheet extent s count false)

-- a reference that goes as an item of its own stood nowhere in the body, so that 0 is left there too
unfoldable pub drop_kept_tree_ref_left : List ℕ → ℕ → ℕ → BlockRef → Bool → ℕ
drop_kept_tree_ref_left sheet bytenr level block own =
    result_or 0 (left_at (has_key (key_of bytenr 169 level)) 176 (one block.tree)) (drop_kept_tree_ref_from sheet bytenr level block own)

-- ---- "and the books": "Takes are drops here; gives .. report 0". What the name counts: in a balanced sheet it stands in one place

abbrev pub is_drop : Change → Bool
is_drop (AddBlock extent name) = false
is_drop (AddData extent name amount) = false
is_drop (AddShared extent name amount) = false
is_drop (DropBlock extent name) = true
is_drop (DropData extent name) = true
is_drop (DropShared extent name amount) = true

unfoldable pub changed_left : Change → Answer (List Item) → ℕ
changed_left change answer = cond (is_drop change) (result_or 0 (count (name_of change)) answer) 0

unfoldable pub post_left : ℕ → List ℕ → Change → ℕ
post_left nodesize sheet change = changed_left change (post nodesize sheet change)
