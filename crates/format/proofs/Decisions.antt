-- Which calls are never absent or remove, and refused with the number of a question alone: those that answer a number or a judgement, the readers of bodies and of item lists,
-- the lookup, and the calls on leaf images; and that a reference taken out is never remove. Assumes nothing.
use mathlib.Core.Bool.{Bool, true, false, ◌&&◌}
use mathlib.Core.List.{List}
use mathlib.Core.Option.{Option, none, some}
use Prim.Native.Nat.{ℕ, zero, suc, ◌-◌, ◌*◌}
use lib.Dec.{T, leb, eqb}
use lib.ListN.{length, drop, get_elem?}
use Rattle.fields.specs.Lists.{first_cut}
use Rattle.format.specs.declared.DataRef.{DataRef}
use Rattle.format.specs.declared.SharedRef.{SharedRef}
use Rattle.format.specs.Questions.{Answer, refused, absent, remove, accepted, is_refusal, decides, keeps, ask, bind, needed, found}
use Rattle.format.specs.References.{read_refs, Body, read_body}
use Rattle.format.specs.Bodies.{body_fits, on_body, on_head, named, one, shared_kind, flags, ref_numbered, inline_ref, shared_add_key, holds_inline_data_ref, take_inline_shared, shared_add_inline_size, keyed_data_ref_names, held_only_by}
use Rattle.format.specs.Items.{Item, read_sheet, sheet_bytes, on_sheet, nodesize_fits, data_fits}
use Rattle.format.specs.Sheets.{space_of, fit, fits, item_data, item_start}
use Rattle.format.specs.Apply.{max_inline_extent_item, record_of, on_record, record_number}
use Rattle.format.specs.LeafImage.{count_in, is_leaf, data_position, image_items, items_in_image, read_image, write_image}
use Rattle.format.proofs.Refs.{Reads, read, strange as strange-ref, cut_off as cut-ref, read_refs-decides}
use Rattle.format.proofs.Bodies.{ReadsBody, body, short, strange, cut_off, read_body-decides}
use Rattle.format.proofs.Items.{ReadsSheet, sheet, broken, unsorted, read_sheet-decides}

-- ---- by the questions

pub decides-ask : {A : Type 0} (b : Bool) (n : ℕ) → T (is_refusal n) → (next : Answer A) → T (decides next) → T (decides (ask b n next))
unfolding ask
decides-ask true n r next t = t
decides-ask false n r next t = r

pub decides-bind : {A B : Type 0} (r : Answer A) (next : A → Answer B) → T (decides r) → ((a : A) → T (decides (next a))) → T (decides (bind r next))
unfolding bind
decides-bind (refused n) next t f = t
decides-bind absent next t f = absurd t
decides-bind remove next t f = absurd t
decides-bind (accepted a) next t f = f a

pub decides-needed : {A : Type 0} (n : ℕ) → T (is_refusal n) → (o : Option A) → T (decides (needed n o))
unfolding needed
decides-needed n r none = r
decides-needed n r (some a) = tt

-- ---- the readers

pub refs-decide : (n : ℕ) (l : List ℕ) → T (decides (read_refs n l))
refs-decide n l = go (read_refs-decides n l)
  where
    go : Reads (read_refs n l) → T (decides (read_refs n l))
    go (read refs e) = rw e tt
    go (strange-ref e) = rw e tt
    go (cut-ref e) = rw e tt

pub body-decides : (type : ℕ) (d : List ℕ) → T (decides (read_body type d))
body-decides type d = go (read_body-decides type d)
  where
    go : ReadsBody (read_body type d) → T (decides (read_body type d))
    go (body b e) = rw e tt
    go (short e) = rw e tt
    go (strange e) = rw e tt
    go (cut_off e) = rw e tt

pub sheet-decides : (s : List ℕ) → T (decides (read_sheet s))
sheet-decides s = go (read_sheet-decides s)
  where
    go : ReadsSheet (read_sheet s) → T (decides (read_sheet s))
    go (sheet items e) = rw e tt
    go (broken e) = rw e tt
    go (unsorted e) = rw e tt

pub on-body-decides : {A : Type 0} (type : ℕ) (d : List ℕ) (next : Body → Answer A) → ((b : Body) → T (decides (next b))) → T (decides (on_body type d next))
unfolding on_body
on-body-decides type d next f = decides-ask (body_fits d) 3 tt _ (decides-bind (read_body type d) next (body-decides type d) f)

pub on-sheet-decides : {A : Type 0} (s : List ℕ) (three : Bool) (next : List Item → Answer A) → ((items : List Item) → T (decides (next items)))
    → T (decides (on_sheet s three next))
unfolding on_sheet
on-sheet-decides s three next f = decides-bind (read_sheet s) _ (sheet-decides s) (λ items. decides-ask three 3 tt (next items) (f items))

-- ---- calls that answer a number

pub flags-decide : (d : List ℕ) → T (decides (flags d))
unfolding flags on_head
flags-decide d = decides-ask (body_fits d) 3 tt _ (decides-ask (leb 24 (length d)) 6 tt _ tt)

pub count-decides : (type : ℕ) (d : List ℕ) → T (decides (on_body type d (λ b. accepted (length b.refs))))
count-decides type d = on-body-decides type d _ (λ b. tt)

pub limit-decides : (nodesize : ℕ) → T (decides (max_inline_extent_item nodesize))
unfolding max_inline_extent_item
limit-decides nodesize = decides-ask (nodesize_fits nodesize) 3 tt _ tt

pub inline-size-decides : (kind : ℕ) → T (decides (shared_add_inline_size kind))
unfolding shared_add_inline_size
inline-size-decides kind = decides-ask (shared_kind kind) 3 tt _ tt

pub record-decides : (s : List ℕ) (extent : ℕ) → T (decides (record_number s extent))
unfolding record_number on_record
record-decides s extent =
    on-sheet-decides s true _ (λ items. decides-bind (needed 5 (first_cut (record_of extent) items)) _ (decides-needed 5 tt _) (λ c. tt))

-- ---- calls that judge

pub holds-decides : (type : ℕ) (d : List ℕ) (name : DataRef) → T (decides (holds_inline_data_ref type d name))
unfolding holds_inline_data_ref
holds-decides type d name = on-body-decides type d _ (λ b. tt)

pub names-decides : (d : List ℕ) (name : DataRef) → T (decides (keyed_data_ref_names d name))
unfolding keyed_data_ref_names
names-decides d name = decides-ask (body_fits d) 3 tt _ tt

pub held-decides : (d : List ℕ) (root ino : ℕ) (offsets : List ℕ) → T (decides (held_only_by d root ino offsets))
unfolding held_only_by
held-decides d root ino offsets = decides-ask (body_fits d && leb (length offsets) 4096) 3 tt _ tt

pub fit-decides : (nodesize : ℕ) (s : List ℕ) → T (decides (fit nodesize s))
unfolding fit
fit-decides nodesize s = on-sheet-decides s (nodesize_fits nodesize) _ (λ items. tt)

pub fits-decides : (nodesize : ℕ) (s bytes : List ℕ) → T (decides (fits nodesize s bytes))
unfolding fits
fits-decides nodesize s bytes = on-sheet-decides s (nodesize_fits nodesize && data_fits bytes) _ (λ items. tt)

-- ---- the lookup

pub item-decides : (s : List ℕ) (number : ℕ) → T (decides (item_data s number))
unfolding item_data
item-decides s number =
    on-sheet-decides s true _ (λ items. decides-bind (needed 5 (get_elem? items number)) _ (decides-needed 5 tt _) (λ i. tt))

pub item-start-decides : (s : List ℕ) (number : ℕ) → T (decides (item_start s number))
unfolding item_start
item-start-decides s number =
    on-sheet-decides s true _ (λ items. decides-bind (needed 5 (get_elem? items number)) _ (decides-needed 5 tt _) (λ i. tt))

-- ---- a reference by its number, and the key of a shared reference's item

pub inline-ref-decides : (type : ℕ) (d : List ℕ) (number : ℕ) → T (decides (inline_ref type d number))
unfolding inline_ref ref_numbered
inline-ref-decides type d number =
    on-body-decides type d _ (λ b. decides-bind (needed 5 (get_elem? b.refs number)) _ (decides-needed 5 tt _) (λ r. tt))

pub shared-key-decides : (bytenr : ℕ) (name : SharedRef) → T (decides (shared_add_key bytenr name))
unfolding shared_add_key
shared-key-decides bytenr name = decides-ask (shared_kind name.kind) 3 tt _ tt

-- ---- leaf images

pub image-items-decide : (least : ℕ) (area : List ℕ) (count end : ℕ) (headers : List ℕ) → T (decides (image_items least area count end headers))
unfolding image_items
image-items-decide least area zero end headers = tt
image-items-decide least area (suc count) end headers =
    decides-ask _ 24 tt _
    (decides-bind (image_items least area count (data_position headers) (drop 25 headers)) _
    (image-items-decide least area count (data_position headers) (drop 25 headers)) (λ items. tt))

pub read-image-decides : (nodesize : ℕ) (image : List ℕ) → T (decides (read_image nodesize image))
unfolding read_image
read-image-decides nodesize image =
    decides-ask (nodesize_fits nodesize) 3 tt _
    (decides-ask (is_leaf nodesize image) 23 tt _
    (decides-bind (items_in_image nodesize image) _
    (image-items-decide (25 * count_in image) (drop 101 image) (count_in image) (nodesize - 101) (drop 101 image)) (λ items. sheet-decides (sheet_bytes items))))

pub write-image-decides : (nodesize : ℕ) (header s : List ℕ) → T (decides (write_image nodesize header s))
unfolding write_image
write-image-decides nodesize header s =
    on-sheet-decides s (nodesize_fits nodesize && eqb (length header) 101) _ (λ items. decides-ask (leb (space_of items) nodesize) 18 tt _ tt)

-- ---- a reference taken out

pub keeps-ask : {A : Type 0} (b : Bool) (n : ℕ) → T (is_refusal n) → (next : Answer A) → T (keeps next) → T (keeps (ask b n next))
unfolding ask
keeps-ask true n r next t = t
keeps-ask false n r next t = r

pub keeps-bind : {A B : Type 0} (r : Answer A) (next : A → Answer B) → T (keeps r) → ((a : A) → T (keeps (next a))) → T (keeps (bind r next))
unfolding bind
keeps-bind (refused n) next t f = t
keeps-bind absent next t f = tt
keeps-bind remove next t f = absurd t
keeps-bind (accepted a) next t f = f a

pub decides-keeps : {A : Type 0} (r : Answer A) → T (decides r) → T (keeps r)
decides-keeps (refused n) t = t
decides-keeps absent t = absurd t
decides-keeps remove t = absurd t
decides-keeps (accepted a) t = tt

pub keeps-found : {A : Type 0} (o : Option A) → T (keeps (found o))
unfolding found
keeps-found none = tt
keeps-found (some a) = tt

pub take-keeps : (type : ℕ) (d : List ℕ) (name : SharedRef) → T (keeps (take_inline_shared type d name))
unfolding take_inline_shared on_body
take-keeps type d name =
    keeps-ask (shared_kind name.kind) 3 tt _
    (keeps-ask (body_fits d) 3 tt _
    (keeps-bind (read_body type d) _ (decides-keeps (read_body type d) (body-decides type d))
    (λ b. keeps-bind (found (first_cut (named name.kind (one name.parent)) b.refs)) _ (keeps-found _) (λ c. tt))))
