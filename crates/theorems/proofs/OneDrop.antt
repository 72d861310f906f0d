-- The three drops as one: so much off inline, or else off the reference's own item. Assumes nothing.
use mathlib.Core.Path.{◌≡◌, refl, ap, ◌∙◌}
use mathlib.Core.Bool.{Bool, false}
use mathlib.Core.List.{List, ◌++◌}
use mathlib.Core.Option.{Option, none, some}
use Prim.Native.Nat.{ℕ, ◌≤◌}
use lib.Dec.{T}
use lib.ListN.{length}
use Rattle.fields.specs.Lists.{Cut, first_cut}
use Rattle.format.specs.declared.BlockRef.{BlockRef}
use Rattle.format.specs.declared.DataRef.{DataRef}
use Rattle.format.specs.declared.SharedRef.{SharedRef}
use Rattle.format.specs.declared.Key.{Key}
use Rattle.format.specs.declared.Change.TheVariants.{DropBlock, DropData, DropShared}
use Rattle.format.specs.Questions.{Answer, decides, refused, absent, remove, accepted, bind, needed, found, if_absent}
use Rattle.format.specs.References.{Ref, Body, body_with, read_body, body_bytes, rank_of}
use Rattle.format.specs.Bodies.{named, triple, lowered_by_one, lowered_by_part, on_total, lower_total, less, drop_inline, drop_inline_tree_ref, drop_inline_data_ref, keyed_count, drop_keyed_data_ref}
use Rattle.format.specs.Items.{Item, key_of, put_back, without}
use Rattle.format.specs.Sheets.{has_key, deleted}
use Rattle.format.specs.Apply.{on_record, replaced, flagged, drop_tree_ref}
use Rattle.format.specs.Names.{Name}
use Rattle.format.specs.Ledger.{name_of, dropped_at, drop_data_ref, shared_count, less_item, drop_shared_ref, changed}
use Rattle.format.proofs.Answers.{bind-yes}
use Rattle.format.proofs.Bodies.{on-body}

-- the name and the amount; the rule by which the total falls; the offset of the item's key, what it counts and what is left of it
pub record Drop : Type 0 where
  pub name : Name
  pub amount : ℕ
  pub lowered : ℕ → ℕ → Answer ℕ
  pub offset : ℕ
  pub counts : Item → ℕ
  pub left : Item → Answer (List ℕ)

abbrev pub item_key : Drop → ℕ → Key
item_key p extent = key_of extent p.name.kind p.offset

abbrev pub in_body : Drop → Cut Item → Answer (List ℕ)
in_body p c = drop_inline c.hit.key.kind c.hit.bytes p.name.kind p.name.fields p.amount p.lowered

abbrev pub at_item : Drop → Cut Item → Cut Item → Answer (List Item)
at_item p c k =
    bind (on_total c.hit.bytes (p.lowered (p.counts k.hit))) (λ body.
    bind (dropped_at k (p.left k.hit)) (λ others. replaced c.hit.key body others))

unfoldable pub dropped : Drop → List Item → Cut Item → Answer (List Item)
dropped p items c =
    if_absent (bind (in_body p c) (λ body. accepted (put_back c body)))
    (bind (needed 5 (first_cut (has_key (item_key p c.hit.key.objectid)) items)) (at_item p c))

-- ---- the three

abbrev pub block_drop : ℕ → BlockRef → Drop
block_drop extent name =
    record {
      name = name_of (DropBlock extent name);
      amount = 1;
      lowered = λ standing. lowered_by_one;
      offset = name.tree;
      counts = shared_count;
      left = λ i. remove;
    }

abbrev pub data_drop : ℕ → DataRef → Drop
data_drop extent name =
    record {
      name = name_of (DropData extent name);
      amount = 1;
      lowered = λ standing. lowered_by_one;
      offset = rank_of 178 (triple name);
      counts = λ i. keyed_count i.bytes;
      left = λ i. drop_keyed_data_ref i.bytes name;
    }

abbrev pub shared_drop : ℕ → SharedRef → ℕ → Drop
shared_drop extent name amount =
    record {
      name = name_of (DropShared extent name amount);
      amount = amount;
      lowered = lowered_by_part amount;
      offset = name.parent;
      counts = shared_count;
      left = λ i. less_item (shared_count i) amount;
    }

-- a block reference's item is deleted before the total is lowered: neither asks what the other did
block-is : (extent : ℕ) (name : BlockRef) (items : List Item) (c : Cut Item)
    → drop_tree_ref name false items c ≡ dropped (block_drop extent name) items c
unfolding drop_tree_ref drop_inline_tree_ref deleted flagged lower_total dropped_at needed bind dropped
block-is extent name items c =
    ap (if_absent (bind (in_body (block_drop extent name) c) (λ body. accepted (put_back c body))))
    (go (first_cut (has_key (item_key (block_drop extent name) c.hit.key.objectid)) items))
  where
    go : (o : Option (Cut Item))
        → bind (bind (needed 5 o) (λ k. accepted (without k))) (λ others.
        bind (lower_total c.hit.bytes) (λ rest. bind (flagged false rest) (λ body. replaced c.hit.key body others)))
        ≡ bind (needed 5 o) (at_item (block_drop extent name) c)
    go none = refl
    go (some k) = refl

pub block-changes : (nodesize extent : ℕ) (name : BlockRef) (items : List Item)
    → changed nodesize (DropBlock extent name) items ≡ on_record extent items (dropped (block_drop extent name) items)
unfolding changed
block-changes nodesize extent name items i = on_record extent items (λ c. block-is extent name items c i)

pub data-changes : (nodesize extent : ℕ) (name : DataRef) (items : List Item)
    → changed nodesize (DropData extent name) items ≡ on_record extent items (dropped (data_drop extent name) items)
unfolding changed drop_data_ref drop_inline_data_ref lower_total dropped
data-changes nodesize extent name items = refl

pub shared-changes : (nodesize extent : ℕ) (name : SharedRef) (amount : ℕ) (items : List Item)
    → changed nodesize (DropShared extent name amount) items ≡ on_record extent items (dropped (shared_drop extent name amount) items)
unfolding changed drop_shared_ref dropped
shared-changes nodesize extent name amount items = refl

-- ---- where the record's body reads

-- a total that is lowered or refused inline is not looked for elsewhere
decided-way : {A B : Type 0} (call : Answer A) (lowers : Answer ℕ) (make : ℕ → A) (put : A → B) (other : Answer B) → T (decides lowers)
    → call ≡ bind lowers (λ rest. accepted (make rest))
    → if_absent (bind call (λ a. accepted (put a))) other ≡ bind lowers (λ rest. accepted (put (make rest)))
unfolding bind if_absent
decided-way {A} call lowers make put other t e = ap (λ (r : Answer A). if_absent (bind r (λ a. accepted (put a))) other) e ∙ go lowers t
  where
    go : (l : Answer ℕ) → T (decides l)
        → if_absent (bind (bind l (λ rest. accepted (make rest))) (λ a. accepted (put a))) other ≡ bind l (λ rest. accepted (put (make rest)))
    go (refused n) t = refl
    go absent t = absurd t
    go remove t = absurd t
    go (accepted rest) t = refl

absent-way : {A B : Type 0} (call : Answer A) (put : A → Answer B) (other : Answer B) → call ≡ absent → if_absent (bind call put) other ≡ other
unfolding bind if_absent
absent-way call put other e = ap (λ r. if_absent (bind r put) other) e

found_none : {A B : Type 0} (o : Option A) (next : A → Answer B) → o ≡ none → bind (found o) next ≡ absent
unfolding bind found
found_none o next e = ap (λ z. bind (found z) next) e

module _ (p : Drop) (items : List Item) (c : Cut Item) (b : Body) (fits : length c.hit.bytes ≤ 65535)
    (reads : read_body c.hit.key.kind c.hit.bytes ≡ accepted b) where
  abbrev is_named : Ref → Bool
  is_named = named p.name.kind p.name.fields

  -- the reference stands inline
  pub inline-is : ((standing total : ℕ) → T (decides (p.lowered standing total))) → (x : Cut Ref) → first_cut is_named b.refs ≡ some x
      → dropped p items c
      ≡ bind (p.lowered x.hit.weight b.total) (λ rest.
      accepted (put_back c (body_bytes (body_with b rest (x.front ++ (less x.hit p.amount ++ x.back))))))
  unfolding dropped drop_inline found
  inline-is sure x e =
      decided-way (in_body p c) (p.lowered x.hit.weight b.total)
      (λ rest. body_bytes (body_with b rest (x.front ++ (less x.hit p.amount ++ x.back)))) (put_back c) _ (sure x.hit.weight b.total)
      (on-body c.hit.key.kind c.hit.bytes b _ fits reads ∙ bind-yes (found (first_cut is_named b.refs)) _ (ap found e))

  -- it does not: the item decides
  pub apart-is : first_cut is_named b.refs ≡ none
      → dropped p items c ≡ bind (needed 5 (first_cut (has_key (item_key p c.hit.key.objectid)) items)) (at_item p c)
  unfolding dropped drop_inline
  apart-is e =
      absent-way (in_body p c) _ _
      (on-body c.hit.key.kind c.hit.bytes b _ fits reads ∙ found_none (first_cut is_named b.refs) _ e)
