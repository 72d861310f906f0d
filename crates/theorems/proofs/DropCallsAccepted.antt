-- The three drops are accepted exactly if their questions are answered yes. Assumes nothing.
use mathlib.Core.Path.{◌≡◌, refl, sym, ap, ◌∙◌, subst}
use mathlib.Core.Bool.{Bool, true, false, not, cond}
use mathlib.Core.List.{List}
use mathlib.Core.Option.{Option, none, some}
use Prim.Native.Nat.{ℕ, ◌+◌, ◌-◌, ◌≤◌}
use lib.Dec.{T, eqb}
use lib.ListN.{length}
use mir.Facts.{yes_eqb}
use Rattle.fields.specs.Lists.{Cut, first_cut}
use Rattle.fields.specs.Numbers.{are_bytes}
use Rattle.fields.proofs.Lists.{cond_yes, all-mid, cut-some}
use Rattle.format.specs.declared.BlockRef.{BlockRef}
use Rattle.format.specs.declared.DataRef.{DataRef}
use Rattle.format.specs.declared.SharedRef.{SharedRef}
use Rattle.format.specs.declared.Change.{Change}
use Rattle.format.specs.declared.Change.TheVariants.{DropBlock, DropData, DropShared}
use Rattle.format.specs.Questions.{Answer, decides, refused, absent, remove, accepted}
use Rattle.format.specs.References.{payload_length, count_position, counted, row_in, weight_of, Ref, Body, total_of}
use Rattle.format.specs.Bodies.{named, one, shared_kind}
use Rattle.format.specs.Items.{Item, sheet_holds}
use Rattle.format.specs.Apply.{on_record}
use Rattle.format.specs.Names.{Name, count, good}
use Rattle.format.specs.Ledger.{name_of, kind_fits, changed}
use Rattle.format.proofs.Answers.{accepted-inj, refused-not}
use Rattle.format.proofs.Refs.{whole, whole_out}
use Rattle.theorems.proofs.Naming.{Naming, is176, shared-naming}
use Rattle.theorems.proofs.Order.{named-yes}
use Rattle.theorems.proofs.Facts.{plain_form}
use Rattle.theorems.proofs.Steps.{Here, here_of}
use Rattle.theorems.proofs.Lowered.{one_out, one_in, part_out, part_in}
use Rattle.theorems.proofs.OneDrop.{Drop, dropped, block_drop, data_drop, shared_drop, block-changes, data-changes, shared-changes}
use Rattle.theorems.proofs.DropCalls.{Proper, block_one, block-proper, data-proper, not-178, shared-proper}
use Rattle.theorems.specs.Acceptance.{Accepts, Exactly, UpToFive, shared_size, shared_item, freed, DropsBlock, DropsData, DropsShared}
use Rattle.theorems.proofs.Posting.{Posts, posts-out, posts-in, item_size, SheetFacts, sheet-facts, AtRecord, record-out, record-in}
use Rattle.theorems.proofs.Counts.{data-form}
use Rattle.theorems.proofs.AddsAccepted.{shared-size}
use Rattle.theorems.proofs.DropsAccepted.{inline-counts, item-own, drop-counts, shorter-out, shorter-in, gives}

-- ---- a drop as its questions, for whatever rule lowers the total and whatever sizes its reference has

record DropFacts (nodesize : ℕ) (sheet : List ℕ) (p : Drop) (room size item : ℕ) : Type 0 where
  items : List Item
  at : Cut Item
  up_to_five : UpToFive nodesize sheet p.name.extent items at
  counts : 1 ≤ count p.name items
  rest : ℕ
  lowers : p.lowered (count p.name items) (total_of at.hit.bytes) ≡ accepted rest
  roomy : length sheet - cond (eqb (count p.name items) p.amount) (freed p.name at size item) 0 ≤ room

module _ (nodesize : ℕ) (sheet : List ℕ) (room : ℕ) (raw : T (are_bytes sheet)) (change : Change) (kind : T (kind_fits change))
    (p : Drop) (P : Proper p)
    (changes : (items : List Item) → changed nodesize change items ≡ on_record p.name.extent items (dropped p items))
    (size item : ℕ) (sized : 1 + payload_length p.name.kind ≡ size)
    (itemed : (i : Item) → i.key.kind ≡ p.name.kind → T (good i) → item_size i ≡ item) where
  from-record : (Q : Posts nodesize sheet change room) → SheetFacts sheet Q.items
      → AtRecord p.name Q.items (dropped p Q.items) Q.after
      → DropFacts nodesize sheet p room size item
  from-record Q S F = go (p.lowered (count p.name Q.items) (total_of F.at.hit.bytes)) refl
      (P.lowers.sure (count p.name Q.items) (total_of F.at.hit.bytes))
    where
      n : 1 ≤ count p.name Q.items
      n = drop-counts sheet p P Q.items S F.at F.body F.here Q.after F.then

      go : (a : Answer ℕ) → p.lowered (count p.name Q.items) (total_of F.at.hit.bytes) ≡ a → T (decides a)
          → DropFacts nodesize sheet p room size item
      go (refused number) e t =
          refused-not (sym ((gives sheet p P Q.items S F.at F.body F.here size item sized itemed n).no number e) ∙ F.then)
      go absent e t = absurd t
      go remove e t = absurd t
      go (accepted rest) e t =
          let (after, r, short) = (gives sheet p P Q.items S F.at F.body F.here size item sized itemed n).yes rest e in
          record {
            items = Q.items;
            at = F.at;
            up_to_five = record { reads = Q.reads; least = Q.least; most = Q.most; balance = Q.balance; stands = F.stands };
            counts = n;
            rest = rest;
            lowers = e;
            roomy = shorter-out sheet _ room after short
                (subst (λ (x : List Item). T (sheet_holds room x)) (accepted-inj (sym F.then ∙ r)) Q.holds);
          }

  drop-only : Accepts nodesize sheet change room → DropFacts nodesize sheet p room size item
  drop-only acc =
      let Q = posts-out nodesize sheet change room acc in
      let S = sheet-facts sheet Q.items raw Q.reads Q.balance in
      from-record Q S (record-out sheet p.name Q.items Q.after (dropped p Q.items) S (sym (changes Q.items) ∙ Q.done))

  drop-enough : DropFacts nodesize sheet p room size item → Accepts nodesize sheet change room
  drop-enough f =
      let S = sheet-facts sheet f.items raw f.up_to_five.reads f.up_to_five.balance in
      let (b, H) = here_of p.name f.items f.at S.balance S.tidied f.up_to_five.stands in
      let (after, e, short) = (gives sheet p P f.items S f.at b H size item sized itemed f.counts).yes f.rest f.lowers in
      posts-in nodesize sheet change room
      (record {
        items = f.items;
        after = after;
        reads = f.up_to_five.reads;
        least = f.up_to_five.least;
        most = f.up_to_five.most;
        kind = kind;
        balance = f.up_to_five.balance;
        done = changes f.items
            ∙ record-in p.name.extent f.items (dropped p f.items) f.at f.up_to_five.stands ∙ e;
        holds = shorter-in sheet _ room after short S.short f.roomy;
      })

  drop-exactly : Exactly (Accepts nodesize sheet change room) (DropFacts nodesize sheet p room size item)
  drop-exactly = record { only = drop-only; enough = drop-enough }

-- ---- a block reference

-- an item of one field: its head and data
pub plain_size : (kind : ℕ) → Naming kind → eqb kind 178 ≡ false → (i : Item) → i.key.kind ≡ kind → T (good i) → item_size i ≡ shared_item kind
plain_size kind naming no178 i e g =
    ap (λ (n : ℕ). 21 + n)
    (plain_form i (subst Naming (sym e) naming) (ap (λ (n : ℕ). eqb n 178) e ∙ no178) g ∙ ap (λ (n : ℕ). cond (eqb n 184) 4 0) e)
    ∙ go (eqb kind 184)
  where
    go : (c : Bool) → 21 + cond c 4 0 ≡ cond c 25 21
    go true = refl
    go false = refl

-- a block reference counts 1
once : (nodesize : ℕ) (sheet : List ℕ) (extent : ℕ) (name : BlockRef) (items : List Item) (c : Cut Item) → T (are_bytes sheet)
    → UpToFive nodesize sheet extent items c → 1 ≤ count (name_of (DropBlock extent name)) items
    → count (name_of (DropBlock extent name)) items ≡ 1
unfolding counted count_position row_in weight_of
once nodesize sheet extent name items c raw u n =
    let S = sheet-facts sheet items raw u.reads u.balance in
    let (b, H) = here_of (name_of (DropBlock extent name)) items c S.balance S.tidied u.stands in
    go S b H (first_cut is_named b.refs) refl
  where
    is_named : Ref → Bool
    is_named = named 176 (one name.tree)

    go : (S : SheetFacts sheet items) (b : Body) (H : Here (name_of (DropBlock extent name)) items c b) (o : Option (Cut Ref))
        → first_cut is_named b.refs ≡ o → count (name_of (DropBlock extent name)) items ≡ 1
    go S b H (some x) e =
        let f = cut-some is_named b.refs e in
        let k = named-yes 176 (one name.tree) x.hit f.hit in
        let w = whole_out x.hit (all-mid whole x.front x.hit x.back (rw f.same at H.sound.wholes)) in
        sym (inline-counts sheet (block_drop extent name) (block-proper extent name) items S c b H x e).0
        ∙ w.weight_fixed (subst (λ (z : ℕ). T (not (counted z))) (sym k.0) tt) ∙ ap (λ (z : ℕ). weight_of z 0) k.0
    go S b H none e =
        let (_, (k, O, _)) = item-own sheet (block_drop extent name) (block-proper extent name) items S c b H e n in
        O.counts ∙ block_one k.hit O.kind

pub drops-block : (nodesize : ℕ) (sheet : List ℕ) (extent : ℕ) (name : BlockRef) (room : ℕ) → T (are_bytes sheet)
    → Exactly (Accepts nodesize sheet (DropBlock extent name) room)
    (DropsBlock nodesize sheet (name_of (DropBlock extent name)) room)
unfolding payload_length row_in
drops-block nodesize sheet extent name room raw =
    record {
      only = λ acc.
          (let d = f.only acc in
          record {
            items = d.items;
            at = d.at;
            up_to_five = d.up_to_five;
            named = d.counts;
            two = (one_out (total_of d.at.hit.bytes) d.rest d.lowers).0;
            roomy = subst (λ (n : ℕ). length sheet - n ≤ room) (frees d.items d.at d.up_to_five d.counts) d.roomy;
          });
      enough = λ d.
          f.enough
          (record {
            items = d.items;
            at = d.at;
            up_to_five = d.up_to_five;
            counts = d.named;
            rest = total_of d.at.hit.bytes - 1;
            lowers = one_in (total_of d.at.hit.bytes) d.two;
            roomy = subst (λ (n : ℕ). length sheet - n ≤ room) (sym (frees d.items d.at d.up_to_five d.named)) d.roomy;
          });
    }
  where
    m : Name
    m = name_of (DropBlock extent name)

    f : Exactly (Accepts nodesize sheet (DropBlock extent name) room) (DropFacts nodesize sheet (block_drop extent name) room 9 21)
    f =
        drop-exactly nodesize sheet room raw (DropBlock extent name) tt (block_drop extent name) (block-proper extent name)
        (block-changes nodesize extent name) 9 21 refl (plain_size 176 (is176 refl) refl)

    frees : (items : List Item) (c : Cut Item) → UpToFive nodesize sheet extent items c → 1 ≤ count m items
        → cond (eqb (count m items) 1) (freed m c 9 21) 0 ≡ freed m c 9 21
    frees items c u n =
        cond_yes {A = ℕ} (eqb (count m items) 1) (freed m c 9 21) 0 (yes_eqb (once nodesize sheet extent name items c raw u n))

-- ---- a data reference

pub drops-data : (nodesize : ℕ) (sheet : List ℕ) (extent : ℕ) (name : DataRef) (room : ℕ) → T (are_bytes sheet)
    → Exactly (Accepts nodesize sheet (DropData extent name) room) (DropsData nodesize sheet (name_of (DropData extent name)) room)
unfolding payload_length row_in
drops-data nodesize sheet extent name room raw =
    record {
      only = λ acc.
          (let d = f.only acc in
          record {
            items = d.items;
            at = d.at;
            up_to_five = d.up_to_five;
            named = d.counts;
            two = (one_out (total_of d.at.hit.bytes) d.rest d.lowers).0;
            roomy = d.roomy;
          });
      enough = λ d.
          f.enough
          (record {
            items = d.items;
            at = d.at;
            up_to_five = d.up_to_five;
            counts = d.named;
            rest = total_of d.at.hit.bytes - 1;
            lowers = one_in (total_of d.at.hit.bytes) d.two;
            roomy = d.roomy;
          });
    }
  where
    f : Exactly (Accepts nodesize sheet (DropData extent name) room) (DropFacts nodesize sheet (data_drop extent name) room 29 49)
    f =
        drop-exactly nodesize sheet room raw (DropData extent name) tt (data_drop extent name) (data-proper extent name)
        (data-changes nodesize extent name) 29 49 refl (λ i e g. ap (λ (n : ℕ). 21 + n) (data-form i e g).0)

-- ---- a shared reference

pub drops-shared : (nodesize : ℕ) (sheet : List ℕ) (extent : ℕ) (name : SharedRef) (amount room : ℕ) → T (are_bytes sheet)
    → Exactly (Accepts nodesize sheet (DropShared extent name amount) room)
    (DropsShared nodesize sheet (name_of (DropShared extent name amount)) amount room)
drops-shared nodesize sheet extent name amount room raw =
    record {
      only = λ acc.
          (let k = (posts-out nodesize sheet (DropShared extent name amount) room acc).kind in
          let d = (f k).only acc in
          let (positive, within, _) = part_out amount (count m d.items) (total_of d.at.hit.bytes) d.rest d.lowers in
          record {
            items = d.items;
            at = d.at;
            kind = k;
            up_to_five = d.up_to_five;
            named = d.counts;
            positive = positive;
            within = within;
            roomy = d.roomy;
          });
      enough = λ d.
          (f d.kind).enough
          (record {
            items = d.items;
            at = d.at;
            up_to_five = d.up_to_five;
            counts = d.named;
            rest = total_of d.at.hit.bytes - amount;
            lowers = part_in amount (count m d.items) (total_of d.at.hit.bytes) d.positive d.within;
            roomy = d.roomy;
          });
    }
  where
    m : Name
    m = name_of (DropShared extent name amount)

    f : T (shared_kind name.kind) → Exactly (Accepts nodesize sheet (DropShared extent name amount) room)
        (DropFacts nodesize sheet (shared_drop extent name amount) room (shared_size name.kind) (shared_item name.kind))
    f k =
        drop-exactly nodesize sheet room raw (DropShared extent name amount) k (shared_drop extent name amount)
        (shared-proper extent name amount k) (shared-changes nodesize extent name amount) (shared_size name.kind)
        (shared_item name.kind) (shared-size name.kind k)
        (plain_size name.kind (shared-naming name.kind k) (not-178 name.kind k))
