-- A posting taken apart and put together: the questions around its change, the sheet's items, and the size of what they become.
-- Assumes nothing.
use mathlib.Core.Path.{◌≡◌, sym, ap, ◌∙◌}
use mathlib.Core.Bool.{Bool, ◌&&◌}
use mathlib.Core.List.{List, ◌∷◌, ◌++◌}
use mathlib.Core.Option.{some}
use Prim.Native.Nat.{ℕ, ◌+◌, ◌*◌, ◌≤◌}
use native.Mathlib.Omega.{arith}
use lib.Dec.{T, leb, leb→le, le→leb}
use lib.ListN.{length, length-append}
use mir.Facts.{and_yes, yes_and}
use Rattle.fields.specs.Lists.{sum, all, Cut, first_cut}
use Rattle.fields.specs.Numbers.{are_bytes}
use Rattle.fields.proofs.Lists.{sum-append, all_map, all_rest, all-put}
use Rattle.format.specs.declared.Change.{Change}
use Rattle.format.specs.Questions.{Answer, accepted, needed, held}
use Rattle.format.specs.References.{Body}
use Rattle.format.specs.Items.{Item, rising, read_sheet, sheet_bytes, nodesize_fits, data_fits, on_sheet, sheet_holds, held_sheet, with_bytes, put_back}
use Rattle.format.specs.Apply.{inline_limit, record_of, on_record}
use Rattle.format.specs.Names.{Name, balanced}
use Rattle.format.specs.Ledger.{kind_fits, changed, post, posted}
use Rattle.format.proofs.Answers.{ask-ok, ask-yes, bind_ok, bind-yes, needed-ok, held-ok, accepted-inj}
use Rattle.format.proofs.Items.{sane, sane-fit, nodesize-out, nodesize-in, sheet-sane, sheet_bytes-read, length-items_bytes, length-sheet_bytes}
use Rattle.theorems.proofs.Edit.{Balanced, balanced-out}
use Rattle.theorems.proofs.Steps.{tidy, sane-tidy, Here, here_of}
use Rattle.theorems.proofs.Bounds.{total-bound}
use Rattle.theorems.specs.Acceptance.{Accepts, Made}

-- ---- the questions around a change

-- question 21 of a sheet
pub held-sheet-out : (room : ℕ) (answer : Answer (List Item)) (sheet : List ℕ) → held_sheet room answer ≡ accepted sheet
    → (items : List Item) × (answer ≡ accepted items) × T (sheet_holds room items) × (sheet_bytes items ≡ sheet)
unfolding held_sheet
held-sheet-out room answer sheet e =
    let h₁ = bind_ok (held (sheet_holds room) answer) _ e in
    let h₂ = held-ok (sheet_holds room) answer h₁.1 in
    (h₁.0, h₂.0, h₂.1, accepted-inj h₁.2)

pub held-sheet-in : (room : ℕ) (answer : Answer (List Item)) (items : List Item) → answer ≡ accepted items → T (sheet_holds room items)
    → held_sheet room answer ≡ accepted (sheet_bytes items)
unfolding held_sheet held
held-sheet-in room answer items e t =
    bind-yes (held (sheet_holds room) answer) _ (bind-yes answer _ e ∙ ask-yes (sheet_holds room items) 21 (accepted items) t)

pub record Posts (nodesize : ℕ) (sheet : List ℕ) (change : Change) (room : ℕ) : Type 0 where
  pub items : List Item
  pub after : List Item
  pub reads : read_sheet sheet ≡ accepted items
  pub least : 501 ≤ nodesize
  pub most : nodesize ≤ 65536
  pub kind : T (kind_fits change)
  pub balance : T (balanced items)
  pub done : changed nodesize change items ≡ accepted after
  pub holds : T (sheet_holds room after)

pub posts-out : (nodesize : ℕ) (sheet : List ℕ) (change : Change) (room : ℕ) → Accepts nodesize sheet change room
    → Posts nodesize sheet change room
unfolding posted post on_sheet
posts-out nodesize sheet change room (t, e) =
    let h₁ = held-sheet-out room (post nodesize sheet change) t e in
    let h₂ = bind_ok (read_sheet sheet) _ h₁.1 in
    let h₃ = ask-ok (nodesize_fits nodesize && kind_fits change) 3 _ h₂.2 in
    let h₄ = ask-ok (balanced h₂.0) 4 _ h₃.1 in
    let n = and_yes (nodesize_fits nodesize) (kind_fits change) h₃.0 in
    let k = nodesize-out nodesize n.0 in
    record {
      items = h₂.0;
      after = h₁.0;
      reads = h₂.1;
      least = k.0;
      most = k.1;
      kind = n.1;
      balance = h₄.0;
      done = h₄.1;
      holds = h₁.2;
    }

-- questions 1 to 4 answered yes
pub post_is : (nodesize : ℕ) (sheet : List ℕ) (change : Change) (items : List Item) → read_sheet sheet ≡ accepted items
    → 501 ≤ nodesize → nodesize ≤ 65536 → T (kind_fits change) → T (balanced items)
    → post nodesize sheet change ≡ changed nodesize change items
unfolding post on_sheet
post_is nodesize sheet change items reads least most kind balance =
    bind-yes (read_sheet sheet) _ reads
    ∙ ask-yes (nodesize_fits nodesize && kind_fits change) 3 _
    (yes_and (nodesize_fits nodesize) (kind_fits change) (nodesize-in nodesize least most) kind)
    ∙ ask-yes (balanced items) 4 _ balance

pub posts-give : (nodesize : ℕ) (sheet : List ℕ) (change : Change) (room : ℕ) (p : Posts nodesize sheet change room)
    → posted nodesize sheet change room ≡ accepted (sheet_bytes p.after)
unfolding posted
posts-give nodesize sheet change room p =
    held-sheet-in room (post nodesize sheet change) p.after
    (post_is nodesize sheet change p.items p.reads p.least p.most p.kind p.balance ∙ p.done)
    p.holds

pub posts-in : (nodesize : ℕ) (sheet : List ℕ) (change : Change) (room : ℕ) → Posts nodesize sheet change room
    → Accepts nodesize sheet change room
posts-in nodesize sheet change room p = (sheet_bytes p.after, posts-give nodesize sheet change room p)

-- the sheet that it makes
pub posts-writes : (nodesize : ℕ) (sheet : List ℕ) (change : Change) (room : ℕ) (t : List ℕ)
    → posted nodesize sheet change room ≡ accepted t → (p : Posts nodesize sheet change room) → t ≡ sheet_bytes p.after
posts-writes nodesize sheet change room t e p = accepted-inj (sym e ∙ posts-give nodesize sheet change room p)

pub posts-made : (nodesize : ℕ) (sheet : List ℕ) (change : Change) (room : ℕ) (t : List ℕ)
    → posted nodesize sheet change room ≡ accepted t → Made nodesize sheet change t
posts-made nodesize sheet change room t e =
    let p = posts-out nodesize sheet change room (t, e) in
    record {
      items = p.items;
      after = p.after;
      reads = p.reads;
      changes = p.done;
      writes = posts-writes nodesize sheet change room t e p;
    }

-- ---- sizes

abbrev pub item_size : Item → ℕ
item_size i = 21 + length i.bytes

pub sheet-size : (items : List Item) → length (sheet_bytes items) ≡ 1 + sum item_size items
sheet-size items = let e₁ = length-sheet_bytes items in let e₂ = length-items_bytes items in omega arith

-- question 21 of a list with as many items as a sheet may have
pub holds-out : (room : ℕ) (items : List Item) → T (sheet_holds room items)
    → (1 + sum item_size items ≤ room) × (1 + sum item_size items ≤ 262144) × (length items ≤ 4096)
    × T (all (λ i. data_fits i.bytes) items)
unfolding sheet_holds
holds-out room items t =
    let b₁ : Bool = leb (length (sheet_bytes items)) room in
    let b₂ : Bool = b₁ && leb (length (sheet_bytes items)) 262144 in
    let h₁ = and_yes (b₂ && leb (length items) 4096) _ t in
    let h₂ = and_yes b₂ (leb (length items) 4096) h₁.0 in
    let h₃ = and_yes b₁ (leb (length (sheet_bytes items)) 262144) h₂.0 in
    let k₁ : length (sheet_bytes items) ≤ room = leb→le _ _ h₃.0 in
    let k₂ : length (sheet_bytes items) ≤ 262144 = leb→le _ _ h₃.1 in
    let e = sheet-size items in
    (omega arith, omega arith, leb→le _ _ h₂.1, h₁.1)

pub holds-in : (room : ℕ) (items : List Item) → 1 + sum item_size items ≤ room → 1 + sum item_size items ≤ 262144
    → length items ≤ 4096
    → T (all (λ i. data_fits i.bytes) items) → T (sheet_holds room items)
unfolding sheet_holds
holds-in room items h k few fit =
    let e = sheet-size items in
    let b₁ : Bool = leb (length (sheet_bytes items)) room in
    let b₂ : Bool = b₁ && leb (length (sheet_bytes items)) 262144 in
    yes_and (b₂ && leb (length items) 4096) _
    (yes_and b₂ (leb (length items) 4096)
    (yes_and b₁ (leb (length (sheet_bytes items)) 262144) (le→leb (length (sheet_bytes items)) room (omega arith))
    (le→leb (length (sheet_bytes items)) 262144 (omega arith)))
    (le→leb (length items) 4096 few))
    fit

-- other data at a cut
pub size-put : (c : Cut Item) (d : List ℕ)
    → sum item_size (put_back c d) + length c.hit.bytes ≡ sum item_size (c.front ++ c.hit ∷ c.back) + length d
size-put c d =
    let e₁ = sum-append item_size c.front (with_bytes c.hit d ∷ c.back) in
    let e₂ = sum-append item_size c.front (c.hit ∷ c.back) in
    omega arith

pub few-put : (c : Cut Item) (d : List ℕ) → length (put_back c d) ≡ length (c.front ++ c.hit ∷ c.back)
few-put c d = length-append c.front (with_bytes c.hit d ∷ c.back) ∙ sym (length-append c.front (c.hit ∷ c.back))

pub fit-put : (c : Cut Item) (d : List ℕ) → T (all (λ i. data_fits i.bytes) (c.front ++ c.hit ∷ c.back)) → length d ≤ 65535
    → T (all (λ i. data_fits i.bytes) (put_back c d))
unfolding data_fits
fit-put c d t h =
    all-put (λ i. data_fits i.bytes) c.front (with_bytes c.hit d) c.back
    (all_rest (λ i. data_fits i.bytes) c.front c.hit c.back t) (le→leb (length d) 65535 h)

-- the inline limit is far below the largest body
pub limit-small : (nodesize : ℕ) → nodesize ≤ 65536 → inline_limit nodesize ≤ 65535
unfolding inline_limit
limit-small nodesize h = omega arith

-- ---- a balanced sheet

pub record SheetFacts (sheet : List ℕ) (items : List Item) : Type 0 where
  pub balance : Balanced items
  pub tidied : T (all tidy items)
  pub fit : T (all (λ i. data_fits i.bytes) items)
  pub rise : T (rising items)
  pub few : length items ≤ 4096
  pub short : length sheet ≤ 262144
  pub size : length sheet ≡ 1 + sum item_size items
  pub light : (m : Name) (c : Cut Item) (b : Body) → Here m items c b → b.total ≤ 4294967296 * 262144

pub sheet-facts : (sheet : List ℕ) (items : List Item) → T (are_bytes sheet) → read_sheet sheet ≡ accepted items → T (balanced items)
    → SheetFacts sheet items
sheet-facts sheet items raw reads balance =
    let s = sheet-sane sheet items raw reads in
    let bal = balanced-out items balance in
    let td = all_map sane tidy sane-tidy items s.0 in
    record {
      balance = bal;
      tidied = td;
      fit = sane-fit items s.0;
      rise = s.2;
      few = s.1;
      short = s.3;
      size = sym (ap length (sheet_bytes-read sheet items raw reads)) ∙ sheet-size items;
      light = λ m c b H. total-bound sheet m items c b raw reads H bal td;
    }

-- ---- question 5 of the record

pub record AtRecord (m : Name) (items : List Item) (next : Cut Item → Answer (List Item)) (after : List Item) : Type 0 where
  pub at : Cut Item
  pub stands : first_cut (record_of m.extent) items ≡ some at
  pub body : Body
  pub here : Here m items at body
  pub then : next at ≡ accepted after

pub record-out : (sheet : List ℕ) (m : Name) (items after : List Item) (next : Cut Item → Answer (List Item)) → SheetFacts sheet items
    → on_record m.extent items next ≡ accepted after → AtRecord m items next after
unfolding on_record
record-out sheet m items after next s e =
    let h = bind_ok (needed 5 (first_cut (record_of m.extent) items)) next e in
    let k = needed-ok 5 (first_cut (record_of m.extent) items) h.1 in
    let (b, H) = here_of m items h.0 s.balance s.tidied k in
    record { at = h.0; stands = k; body = b; here = H; then = h.2 }

pub record-in : (extent : ℕ) (items : List Item) (next : Cut Item → Answer (List Item)) (c : Cut Item)
    → first_cut (record_of extent) items ≡ some c
    → on_record extent items next ≡ next c
unfolding on_record needed
record-in extent items next c e = bind-yes (needed 5 (first_cut (record_of extent) items)) next (ap (needed 5) e)
