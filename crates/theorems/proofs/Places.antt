-- The drop of a part of a shared reference, as an equation: where the reference stands inline, and where it is an item behind the
-- extent's record. Assumes nothing.
use mathlib.Core.Path.{◌≡◌, refl, sym, ap, ap₂, ◌∙◌}
use mathlib.Core.Logic.{◌⊎◌, inl, inr}
use mathlib.Core.Bool.{Bool, true, false, not, cond}
use mathlib.Core.List.{List, [], ◌∷◌, ◌++◌, append_assoc}
use mathlib.Core.Option.{Option, none, some}
use Prim.Native.Nat.{ℕ, ◌+◌, ◌-◌, ◌≤◌, ◌<◌}
use native.Mathlib.Omega.{arith}
use lib.Dec.{T, ltb, eqb, eqb→eq, leb→le}
use lib.ListN.{length}
use borrow.Author.Tests.{lt-ltb, le-ltb}
use mir.Facts.{and_yes, yes_and, or_yes, T_not}
use Rattle.fields.specs.Lists.{all, Cut, first_cut}
use Rattle.fields.specs.Numbers.{le_bytes, are_bytes}
use Rattle.fields.specs.Parts.{written}
use Rattle.fields.proofs.Lists.{lt-or, all_map, all_both, all-mid, cut-some, cut-none}
use Rattle.format.specs.declared.SharedRef.{SharedRef}
use Rattle.format.specs.declared.Change.TheVariants.{DropShared}
use Rattle.format.specs.declared.Key.{Key}
use Rattle.format.specs.Questions.{Answer, remove, accepted, bind, needed}
use Rattle.format.specs.References.{Ref, Body, body_with, read_body, body_bytes}
use Rattle.format.specs.Bodies.{named, one, shared_kind, on_total, lowered_by_part, less}
use Rattle.format.specs.Items.{Item, key_of, key_below, rising, data_fits, with_bytes, put_back}
use Rattle.format.specs.Sheets.{has_key}
use Rattle.format.specs.Apply.{is_record, record_of, replaced}
use Rattle.format.specs.Names.{Name}
use Rattle.format.specs.Ledger.{name_of, dropped_at, shared_count, less_item, drop_shared_ref, changed}
use Rattle.format.proofs.Answers.{bind_ok, bind-yes, bind-next, needed-ok, accepted-inj}
use Rattle.format.proofs.Bodies.{Sound, are_bytes-body_bytes, read-body_bytes, read-total, read-long, body_bytes-read, set-total}
use Rattle.format.proofs.Keys.{same_key-refl, below_in, below-trans, below-not-same, below, rising-before, cut-here}
use Rattle.theorems.proofs.Naming.{above-172, shared-naming}
use Rattle.theorems.proofs.Lowered.{part_in, part_out, part-lowers}
use Rattle.theorems.proofs.OneDrop.{at_item, shared_drop, shared-changes, inline-is, apart-is}
use Rattle.theorems.proofs.Drops.{before-record}
use Rattle.theorems.proofs.Steps.{Here}
use Rattle.theorems.proofs.Posting.{SheetFacts, record-out, record-in}
use Rattle.theorems.proofs.AddsAccepted.{length_at}
use Rattle.theorems.proofs.DropsAccepted.{total-in}

-- ---- what is left of a number with so much off: something made of it, or nothing

abbrev pub left : {A : Type 0} → (ℕ → A) → ℕ → ℕ → List A
left make w n = cond (ltb n w) (make (w - n) ∷ []) []

pub left-some : {A : Type 0} (make : ℕ → A) (w n : ℕ) → n < w → left make w n ≡ make (w - n) ∷ []
left-some {A} make w n h = ap (λ (c : Bool). cond {A = List A} c (make (w - n) ∷ []) []) (lt-ltb n w h)

pub left-none : {A : Type 0} (make : ℕ → A) (w n : ℕ) → w ≤ n → left make w n ≡ []
left-none {A} make w n h = ap (λ (c : Bool). cond {A = List A} c (make (w - n) ∷ []) []) (le-ltb n w h)

pub left-twice : {A : Type 0} (make : ℕ → A) (w a b : ℕ) → a ≤ w → left make (w - a) b ≡ left make w (a + b)
left-twice make w a b h = go (lt-or (a + b) w)
  where
    go : (a + b < w) ⊎ (w ≤ a + b) → left make (w - a) b ≡ left make w (a + b)
    go (inl k) =
        let e : w - a - b ≡ w - (a + b) = omega arith in
        left-some make (w - a) b (omega arith) ∙ ap (λ v. make v ∷ []) e ∙ sym (left-some make w (a + b) k)
    go (inr k) = left-none make (w - a) b (omega arith) ∙ sym (left-none make w (a + b) k)

-- ---- what is made of a total with a part off

pub made-out : {A : Type 0} (n w total : ℕ) (make : ℕ → A) {z : A}
    → bind (lowered_by_part n w total) (λ rest. accepted (make rest)) ≡ accepted z → (1 ≤ n) × (n ≤ w) × (make (total - n) ≡ z)
made-out n w total make e =
    let h = bind_ok (lowered_by_part n w total) _ e in
    let (one≤, within, rest) = part_out n w total h.0 h.1 in
    (one≤, within, ap make rest ∙ accepted-inj h.2)

pub made_in : {A : Type 0} (n w total : ℕ) (make : ℕ → A) → 1 ≤ n → n ≤ w
    → bind (lowered_by_part n w total) (λ rest. accepted (make rest)) ≡ accepted (make (total - n))
made_in n w total make one≤ within = bind-yes (lowered_by_part n w total) _ (part_in n w total one≤ within)

bind-made : {A B : Type 0} (r : Answer ℕ) (make : ℕ → A) (next : A → Answer B)
    → bind (bind r (λ rest. accepted (make rest))) next ≡ bind r (λ rest. next (make rest))
unfolding bind
bind-made r make next = sym (bind-next r (λ rest. accepted (make rest)) next)

-- ---- the names of a shared reference: inline, and as the key of an item behind its record

abbrev pub is_shared : SharedRef → Ref → Bool
is_shared s = named s.kind (one s.parent)

abbrev key_beside : SharedRef → Item → Key
key_beside s r = key_of r.key.objectid s.kind s.parent

-- ---- the extent's record

-- where it stands in a list, and what it reads
pub record Recorded (extent : ℕ) (items : List Item) (c : Cut Item) (b : Body) : Type 0 where
  pub stands : first_cut (record_of extent) items ≡ some c
  pub bytes : T (are_bytes c.hit.bytes)
  pub fits : length c.hit.bytes ≤ 65535
  pub reads : read_body c.hit.key.kind c.hit.bytes ≡ accepted b

abbrev fitting : Item → Bool
fitting i = data_fits i.bytes

pub recorded-of : (sheet : List ℕ) (m : Name) (items : List Item) (c : Cut Item) (b : Body) → SheetFacts sheet items
    → first_cut (record_of m.extent) items ≡ some c → Here m items c b → Recorded m.extent items c b
recorded-of sheet m items c b S e H = record { stands = e; bytes = H.bytes; fits = length_at sheet items S m c b H; reads = H.reads }

-- with another body, and whatever stands behind it
pub recorded-again : (extent : ℕ) (a : List Item) (r : Item) (z : List Item) (b : Body) → T (all (λ i. not (record_of extent i)) a)
    → T (record_of extent r) → Sound r.key.kind b → T (all fitting (a ++ with_bytes r (body_bytes b) ∷ z))
    → Recorded extent (a ++ with_bytes r (body_bytes b) ∷ z) (record { front = a; hit = with_bytes r (body_bytes b); back = z }) b
unfolding is_record data_fits
recorded-again extent a r z b t u s fit =
    record {
      stands = cut-here (record_of extent) a (with_bytes r (body_bytes b)) z t u;
      bytes = are_bytes-body_bytes r.key.kind b s;
      fits = leb→le _ _ (all-mid fitting a (with_bytes r (body_bytes b)) z fit);
      reads = read-body_bytes r.key.kind b s;
    }

-- where keys rise, neither it nor an item before it has the key of a shared reference's item
before-key : (a : List Item) (r : Item) (z : List Item) → T (rising (a ++ r ∷ z)) → T (is_record r) → (s : SharedRef) → T (shared_kind s.kind)
    → T (all (λ i. not (has_key (key_beside s r) i)) a) × T (not (has_key (key_beside s r) r))
unfolding is_record
before-key a r z rise t s sk = (
  all_map (below r.key) (λ i. not (has_key key i)) (λ i h. below-not-same i.key key (below-trans i.key r.key key h low)) a
      (rising-before a r z rise),
  below-not-same r.key key low,
)
  where
    key : Key
    key = key_beside s r

    go : 172 < s.kind → T (eqb r.key.kind 168) ⊎ T (eqb r.key.kind 169) → r.key.kind < s.kind
    go h (inl k) = let e : r.key.kind ≡ 168 = eqb→eq _ _ k in omega arith
    go h (inr k) = let e : r.key.kind ≡ 169 = eqb→eq _ _ k in omega arith

    low : T (key_below r.key key)
    low = below_in r.key key (inr (refl, inl (go (above-172 s.kind (shared-naming s.kind sk)) (or_yes (eqb r.key.kind 168) _ t))))

-- its total moved
total-is : (type : ℕ) (d : List ℕ) (b : Body) (next : ℕ → Answer ℕ) → T (are_bytes d) → length d ≤ 65535 → read_body type d ≡ accepted b
    → on_total d next ≡ bind (next b.total) (λ total. accepted (body_bytes (body_with b total b.refs)))
total-is type d b next t fits e =
    total-in d next fits (read-long type d b e)
    ∙ ap₂ (λ (n : ℕ) (l : List ℕ). bind (next n) (λ total. accepted (written 0 (le_bytes 8 total) l))) (read-total type d b e)
    (sym (body_bytes-read type d b t e))
    ∙ (λ j. bind (next b.total) (λ total. accepted (set-total b total j)))

-- ---- an item with so much off

abbrev pub less_items : Item → ℕ → List Item
less_items i n = left (λ v. with_bytes i (le_bytes 4 v)) (shared_count i) n

dropped-less : (k : Cut Item) (n : ℕ)
    → dropped_at k (less_item (shared_count k.hit) n) ≡ accepted (k.front ++ (less_items k.hit n ++ k.back))
unfolding less_item dropped_at
dropped-less k n = go (ltb n (shared_count k.hit))
  where
    go : (c : Bool) → dropped_at k (cond c (accepted (le_bytes 4 (shared_count k.hit - n))) remove)
        ≡ accepted (k.front ++ (cond c (with_bytes k.hit (le_bytes 4 (shared_count k.hit - n)) ∷ []) [] ++ k.back))
    go true = refl
    go false = refl

-- a record, what stands at an item's place behind it, and the rest
abbrev pub besides : List Item → Item → List Item → List Item → List Item → List Item
besides a r z o y = a ++ r ∷ (z ++ (o ++ y))

-- ---- a body with so much off the reference at a cut, and that total

abbrev pub lessened : Body → Cut Ref → ℕ → ℕ → Body
lessened b x n rest = body_with b rest (x.front ++ (less x.hit n ++ x.back))

module _ (extent : ℕ) (s : SharedRef) where
  -- ---- inline

  pub drop-inline : (nodesize : ℕ) (items : List Item) (c : Cut Item) (b : Body) → Recorded extent items c b → (x : Cut Ref)
      → first_cut (is_shared s) b.refs ≡ some x → (n : ℕ)
      → changed nodesize (DropShared extent s n) items
      ≡ bind (lowered_by_part n x.hit.weight b.total) (λ rest. accepted (put_back c (body_bytes (lessened b x n rest))))
  drop-inline nodesize items c b R x e n =
      shared-changes nodesize extent s n items ∙ record-in extent items _ c R.stands
      ∙ inline-is (shared_drop extent s n) items c b R.fits R.reads (part-lowers n).sure x e

  -- ---- as an item

  -- not inline: the item decides
  by_key : (nodesize : ℕ) (items : List Item) (c : Cut Item) (b : Body) → Recorded extent items c b → first_cut (is_shared s) b.refs ≡ none → (n : ℕ)
      → changed nodesize (DropShared extent s n) items
      ≡ bind (needed 5 (first_cut (has_key (key_beside s c.hit)) items)) (at_item (shared_drop extent s n) c)
  by_key nodesize items c b R e n =
      shared-changes nodesize extent s n items ∙ record-in extent items _ c R.stands
      ∙ apart-is (shared_drop extent s n) items c b R.fits R.reads e

  -- the item of the name stands behind the record
  pub record Beside (a : List Item) (r : Item) (z : List Item) (i : Item) (y : List Item) (b : Body) : Type 0 where
    pub recorded : Recorded extent (besides a r z (i ∷ []) y) (record { front = a; hit = r; back = z ++ i ∷ y }) b
    pub gone : first_cut (is_shared s) b.refs ≡ none
    pub before : T (all (λ j. not (has_key (key_beside s r) j)) a)
    pub other : T (not (has_key (key_beside s r) r))
    pub between : T (all (λ j. not (has_key (key_beside s r) j)) z)
    pub key : T (has_key (key_beside s r) i)

  pub drop-item : (nodesize : ℕ) (a : List Item) (r : Item) (z : List Item) (i : Item) (y : List Item) (b : Body) → Beside a r z i y b → (n : ℕ)
      → changed nodesize (DropShared extent s n) (besides a r z (i ∷ []) y)
      ≡ bind (lowered_by_part n (shared_count i) b.total) (λ rest.
      accepted (besides a (with_bytes r (body_bytes (body_with b rest b.refs))) z (less_items i n) y))
  unfolding needed replaced
  drop-item nodesize a r z i y b B n =
      let R = B.recorded in
      let items : List Item = besides a r z (i ∷ []) y in
      let k : Cut Item = record { front = a ++ r ∷ z; hit = i; back = y } in
      let lowers : Answer ℕ = lowered_by_part n (shared_count i) b.total in
      let f = cut-some (record_of extent) items R.stands in
      let key : first_cut (has_key (key_beside s r)) items ≡ some k =
      ap (first_cut (has_key (key_beside s r))) (sym (append_assoc a (r ∷ z) (i ∷ y)))
      ∙ cut-here (has_key (key_beside s r)) (a ++ r ∷ z) i y
      (all_both (λ j. not (has_key (key_beside s r) j)) a (r ∷ z) B.before (yes_and (not (has_key (key_beside s r) r)) _ B.other B.between))
      B.key in
      let put : (d : List ℕ) → bind (dropped_at k (less_item (shared_count i) n)) (λ others. replaced r.key d others)
      ≡ accepted (besides a (with_bytes r d) z (less_items i n) y) =
      (λ d.
      bind-yes (dropped_at k (less_item (shared_count i) n)) _ (dropped-less k n)
      ∙ ap (replaced r.key d) (append_assoc a (r ∷ z) (less_items i n ++ y))
      ∙ bind-yes (needed 5 (first_cut (has_key r.key) (besides a r z (less_items i n) y))) _
      (ap (needed 5) (cut-here (has_key r.key) a r (z ++ (less_items i n ++ y)) (before-record extent r a f.hit f.miss) (same_key-refl r.key)))) in
      by_key nodesize items _ b R B.gone n ∙ bind-yes (needed 5 (first_cut (has_key (key_beside s r)) items)) _ (ap (needed 5) key)
      ∙ ap (λ (l : Answer (List ℕ)). bind l (λ body. bind (dropped_at k (less_item (shared_count i) n)) (λ others. replaced r.key body others)))
      (total-is r.key.kind r.bytes b (lowered_by_part n (shared_count i)) R.bytes R.fits R.reads)
      ∙ bind-made lowers (λ rest. body_bytes (body_with b rest b.refs)) _
      ∙ (λ j. bind lowers (λ rest. put (body_bytes (body_with b rest b.refs)) j))

  -- ---- one of the two, where a drop is accepted

  pub data Place (items : List Item) : Type 0 where
    inline : (c : Cut Item) (b : Body) → Recorded extent items c b → (x : Cut Ref) → first_cut (is_shared s) b.refs ≡ some x → Place items
    apart : (a : List Item) (r : Item) (z : List Item) (i : Item) (y : List Item) (b : Body) → items ≡ besides a r z (i ∷ []) y
        → Beside a r z i y b → Place items

  pub place_of : (nodesize : ℕ) (sheet : List ℕ) (items : List Item) (n : ℕ) (after : List Item) → SheetFacts sheet items → T (shared_kind s.kind)
      → changed nodesize (DropShared extent s n) items ≡ accepted after → Place items
  unfolding changed
  place_of nodesize sheet items n after S sk e =
      let A = record-out sheet (name_of (DropShared extent s n)) items after (drop_shared_ref s n items) S e in
      let R = recorded-of sheet (name_of (DropShared extent s n)) items A.at A.body S A.stands A.here in
      by-refs A.at A.body R (first_cut (is_shared s) A.body.refs) refl
    where
      by-items : (c : Cut Item) (b : Body) → Recorded extent items c b → first_cut (is_shared s) b.refs ≡ none → (o : Option (Cut Item))
          → first_cut (has_key (key_beside s c.hit)) c.back ≡ o → Place items
      by-items c b R g none q =
          let key : Key = key_beside s c.hit in
          let f = cut-some (record_of extent) items R.stands in
          let (before, other) = before-key c.front c.hit c.back (rw f.same at S.rise) (and_yes (is_record c.hit) _ f.hit).0 s sk in
          let h = bind_ok (needed 5 (first_cut (has_key key) items)) _ (sym (by_key nodesize items c b R g n) ∙ e) in
          let F = cut-some (has_key key) items (needed-ok 5 (first_cut (has_key key) items) h.1) in
          let nowhere : T (all (λ j. not (has_key key j)) (c.front ++ c.hit ∷ c.back)) =
          all_both (λ j. not (has_key key j)) c.front (c.hit ∷ c.back) before
          (yes_and (not (has_key key c.hit)) _ other (cut-none (has_key key) c.back q)) in
          absurd (T_not (has_key key h.0.hit) F.hit
          (all-mid (λ j. not (has_key key j)) h.0.front h.0.hit h.0.back (rw (sym f.same ∙ F.same) at nowhere)))
      by-items c b R g (some k) q =
          let f = cut-some (record_of extent) items R.stands in
          let F = cut-some (has_key (key_beside s c.hit)) c.back q in
          let (before, other) = before-key c.front c.hit c.back (rw f.same at S.rise) (and_yes (is_record c.hit) _ f.hit).0 s sk in
          apart c.front c.hit k.front k.hit k.back b (f.same ∙ ap (λ (l : List Item). c.front ++ c.hit ∷ l) F.same)
          (record {
            recorded = record {
              stands = cut-here (record_of extent) c.front c.hit (k.front ++ k.hit ∷ k.back) f.miss f.hit;
              bytes = R.bytes;
              fits = R.fits;
              reads = R.reads;
            };
            gone = g;
            before = before;
            other = other;
            between = F.miss;
            key = F.hit;
          })

      by-refs : (c : Cut Item) (b : Body) → Recorded extent items c b → (o : Option (Cut Ref)) → first_cut (is_shared s) b.refs ≡ o → Place items
      by-refs c b R (some x) q = inline c b R x q
      by-refs c b R none q = by-items c b R q (first_cut (has_key (key_beside s c.hit)) c.back) refl
