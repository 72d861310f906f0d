-- Document 01, "Below it: calls on sheets": record_of, the three apply_ calls and drop_kept_tree_ref, on the items of a sheet;
-- the public calls below them read the sheet first. Assumes nothing.
use Rattle.std.specs.Prelude.{Bool, true, false, ◌&&◌, ◌||◌, List, ℕ, zero, suc, ◌-◌, ◌/◌, leb, eqb, length}
use Rattle.fields.specs.Lists.{Cut, first_cut}
use Rattle.format.specs.declared.BlockRef.{BlockRef}
use Rattle.format.specs.declared.SharedRef.{SharedRef}
use Rattle.format.specs.declared.Keyed.{Keyed}
use Rattle.format.specs.declared.Keyed.TheVariants.{Block, Data}
use Rattle.format.specs.declared.Key.{Key}
use Rattle.format.specs.Questions.{Answer, refused, accepted, ask, bind, needed, if_absent, bytes_of}
use Rattle.format.specs.Bodies.{shared_kind, raise_total, lower_total, reduce_total, with_flags, add_inline_tree_ref, add_inline_data, add_inline_shared, drop_inline_tree_ref, take_inline_shared}
use Rattle.format.specs.Items.{Item, key_of, on_sheet, nodesize_fits, put_back}
use Rattle.format.specs.Sheets.{has_key, deleted}

-- ---- max_inline_extent_item: "(nodesize - 101) / 16, rounded down, minus 25"

unfoldable pub inline_limit : ℕ → ℕ
inline_limit nodesize = (nodesize - 101) / 16 - 25

unfoldable pub max_inline_extent_item : ℕ → Answer ℕ
max_inline_extent_item nodesize = ask (nodesize_fits nodesize) 3 (accepted (inline_limit nodesize))

-- ---- record_of: "the first item of type 168 or 169 with that objectid"

unfoldable pub is_record : Item → Bool
is_record i = eqb i.key.kind 168 || eqb i.key.kind 169

abbrev pub record_of : ℕ → Item → Bool
record_of extent i = is_record i && eqb i.key.objectid extent

-- question 5, then the record and what stands around it
unfoldable pub on_record : {A : Type 0} → ℕ → List Item → (Cut Item → Answer A) → Answer A
on_record extent items next = bind (needed 5 (first_cut (record_of extent) items)) next

unfoldable pub record_number : List ℕ → ℕ → Answer ℕ
record_number sheet extent = on_sheet sheet true (λ items. on_record extent items (λ c. accepted (length c.front)))

-- other data under a key that stands
unfoldable pub replaced : Key → List ℕ → List Item → Answer (List Item)
replaced key bytes items = bind (needed 5 (first_cut (has_key key) items)) (λ c. accepted (put_back c bytes))

-- ---- apply_keyed_add

-- the new body. With the item flag "only the total" moves; "its Block case inline ignores the count; its Data case inline with
-- amount 0 leaves the body unread"
unfoldable pub keyed_body : Item → Keyed → ℕ → Bool → Answer (List ℕ)
keyed_body i keyed count true = raise_total i.bytes count
keyed_body i (Block block) count false = add_inline_tree_ref i.key.kind i.bytes block
keyed_body i (Data d) zero false = accepted i.bytes
keyed_body i (Data d) (suc count) false = add_inline_data i.key.kind i.bytes d (suc count)

-- 17: "tests the inline limit only if the body grew"
unfoldable pub apply_keyed_add : ℕ → ℕ → Keyed → ℕ → Bool → List Item → Answer (List Item)
apply_keyed_add nodesize extent keyed count as_item items =
    on_record extent items (λ c.
    bind (keyed_body c.hit keyed count as_item) (λ body.
    ask (leb (length body) (length c.hit.bytes) || leb (length body) (inline_limit nodesize)) 17
    (accepted (put_back c body))))

-- ---- apply_shared_add: the limit "always"

unfoldable pub shared_body : Item → SharedRef → ℕ → Bool → Answer (List ℕ)
shared_body i s count true = raise_total i.bytes count
shared_body i s count false = add_inline_shared i.key.kind i.bytes s count

unfoldable pub apply_shared_add : ℕ → ℕ → SharedRef → ℕ → Bool → List Item → Answer (List Item)
apply_shared_add nodesize extent s count as_item items =
    on_record extent items (λ c.
    bind (shared_body c.hit s count as_item) (λ body.
    ask (leb (length body) (inline_limit nodesize)) 17 (accepted (put_back c body))))

-- ---- apply_shared_drop: the reference goes whole, a missing one is 5, and the total falls by the count that was passed

unfoldable pub shared_rest : Item → SharedRef → Bool → Answer (List ℕ)
shared_rest i s true = accepted i.bytes
shared_rest i s false = if_absent (bytes_of (take_inline_shared i.key.kind i.bytes s)) (refused 5)

unfoldable pub apply_shared_drop : ℕ → SharedRef → ℕ → Bool → List Item → Answer (List Item)
apply_shared_drop extent s count as_item items =
    on_record extent items (λ c.
    bind (shared_rest c.hit s as_item) (λ rest.
    bind (reduce_total rest count) (λ body. accepted (put_back c body))))

-- ---- drop_kept_tree_ref

-- "its own-flag sets bit 8 (256)"
unfoldable pub flagged : Bool → List ℕ → Answer (List ℕ)
flagged true body = with_flags body 256
flagged false body = accepted body

-- a block reference out of the record at a cut: inline, or else the item (extent, 176, tree), with the total lowered by 1
unfoldable pub drop_tree_ref : BlockRef → Bool → List Item → Cut Item → Answer (List Item)
drop_tree_ref block own items c =
    if_absent
    (bind (drop_inline_tree_ref c.hit.key.kind c.hit.bytes block) (λ rest.
    bind (flagged own rest) (λ body. accepted (put_back c body))))
    (bind (deleted (key_of c.hit.key.objectid 176 block.tree) items) (λ others.
    bind (lower_total c.hit.bytes) (λ rest.
    bind (flagged own rest) (λ body. replaced c.hit.key body others))))

-- "wants a record of type 169 whose offset is the level"
unfoldable pub drop_kept_tree_ref : ℕ → ℕ → BlockRef → Bool → List Item → Answer (List Item)
drop_kept_tree_ref bytenr level block own items =
    bind (needed 5 (first_cut (has_key (key_of bytenr 169 level)) items)) (drop_tree_ref block own items)

-- ---- the public calls: questions 1 to 3 first. A shared kind is asked with the item flag too

unfoldable pub apply_keyed_add_to : ℕ → List ℕ → ℕ → Keyed → ℕ → Bool → Answer (List Item)
apply_keyed_add_to nodesize sheet extent keyed count as_item =
    on_sheet sheet (nodesize_fits nodesize) (apply_keyed_add nodesize extent keyed count as_item)

unfoldable pub apply_shared_add_to : ℕ → List ℕ → ℕ → SharedRef → ℕ → Bool → Answer (List Item)
apply_shared_add_to nodesize sheet extent s count as_item =
    on_sheet sheet (nodesize_fits nodesize && shared_kind s.kind) (apply_shared_add nodesize extent s count as_item)

unfoldable pub apply_shared_drop_to : List ℕ → ℕ → SharedRef → ℕ → Bool → Answer (List Item)
apply_shared_drop_to sheet extent s count as_item =
    on_sheet sheet (shared_kind s.kind) (apply_shared_drop extent s count as_item)

unfoldable pub drop_kept_tree_ref_from : List ℕ → ℕ → ℕ → BlockRef → Bool → Answer (List Item)
drop_kept_tree_ref_from sheet bytenr level block own = on_sheet sheet true (drop_kept_tree_ref bytenr level block own)
