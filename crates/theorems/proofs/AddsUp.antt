-- A drop of one part of a shared reference and then of another is the drop of their sum. Assumes nothing.
use mathlib.Core.Path.{◌≡◌, sym, ap, ap₂, ◌∙◌, subst}
use mathlib.Core.Bool.{Bool}
use mathlib.Core.List.{List, [], ◌∷◌, ◌++◌}
use mathlib.Core.Option.{some}
use Prim.Native.Nat.{ℕ, ◌+◌, ◌-◌, ◌≤◌, ◌<◌}
use native.Mathlib.Omega.{arith}
use lib.Dec.{T, eqb}
use lib.ListN.{length}
use mir.Facts.{and_yes}
use Rattle.fields.specs.Lists.{all, Cut, first_cut}
use Rattle.fields.specs.Numbers.{le_bytes, are_bytes}
use Rattle.fields.proofs.Lists.{all-mid, all_right, cut-some}
use Rattle.format.specs.declared.SharedRef.{SharedRef}
use Rattle.format.specs.declared.Key.{Key}
use Rattle.format.specs.declared.Change.{Change}
use Rattle.format.specs.declared.Change.TheVariants.{DropShared}
use Rattle.format.specs.Questions.{accepted}
use Rattle.format.specs.References.{Ref, Body, body_with, body_bytes}
use Rattle.format.specs.Bodies.{named, one, weighed, shared_kind, less}
use Rattle.format.specs.Items.{Item, key_of, sheet_bytes, data_fits, sheet_holds, with_bytes, put_back}
use Rattle.format.specs.Apply.{record_of}
use Rattle.format.specs.Names.{Name, count, good}
use Rattle.format.specs.Ledger.{name_of, shared_count, changed, posted}
use Rattle.format.proofs.Answers.{accepted-inj}
use Rattle.format.proofs.Bodies.{Sound, sound-with, read-sound}
use Rattle.format.proofs.Keys.{same_key-yes, cut-here}
use Rattle.theorems.specs.Acceptance.{DropsShared}
use Rattle.theorems.specs.PartDrops.{InTwoParts, AddsUp}
use Rattle.theorems.proofs.Sums.{same_name-refl}
use Rattle.theorems.proofs.Naming.{Naming, shared-naming}
use Rattle.theorems.proofs.Order.{named-yes}
use Rattle.theorems.proofs.Facts.{shared-fits, shared-set}
use Rattle.theorems.proofs.Steps.{tidy, tidy-bytes, Step}
use Rattle.theorems.proofs.OneDrop.{shared_drop, shared-changes}
use Rattle.theorems.proofs.Drops.{less-whole}
use Rattle.theorems.proofs.DropCalls.{not-178, drop-step, shared-proper}
use Rattle.theorems.proofs.Posting.{Posts, posts-out, posts-writes, holds-out, SheetFacts, sheet-facts}
use Rattle.theorems.proofs.Changes.{moved, On, step-on, post-on}
use Rattle.theorems.proofs.Acceptance.{acceptance}
use Rattle.theorems.proofs.Places.{left, left-some, left-twice, made-out, made_in, Recorded, recorded-again, less_items, besides, is_shared, lessened, drop-inline, Beside, drop-item, Place, inline, apart, place_of}

-- the item behind a record is one of the list
at_item : (p : Item → Bool) (a : List Item) (r : Item) (z : List Item) (i : Item) (y : List Item) → T (all p (besides a r z (i ∷ []) y))
    → T (p i)
at_item p a r z i y t = all-mid p z i y (and_yes (p r) _ (all_right p a (r ∷ (z ++ i ∷ y)) t)).1

module _ (nodesize extent : ℕ) (s : SharedRef) (sk : T (shared_kind s.kind)) (first second : ℕ) (one≤ : 1 ≤ first) (two≤ : 1 ≤ second) where
  -- ---- inline

  inline-twice : (items : List Item) (c : Cut Item) (b : Body) → Recorded extent items c b → (x : Cut Ref)
      → first_cut (is_shared s) b.refs ≡ some x → first + second ≤ x.hit.weight
      → T (all (λ i. data_fits i.bytes) (put_back c (body_bytes (lessened b x first (b.total - first)))))
      → changed nodesize (DropShared extent s second) (put_back c (body_bytes (lessened b x first (b.total - first))))
      ≡ accepted (put_back c (body_bytes (lessened b x (first + second) (b.total - (first + second)))))
  unfolding named less
  inline-twice items c b R x e within fit =
      let w : ℕ = x.hit.weight in
      let x₁ : Cut Ref = record { front = x.front; hit = weighed x.hit (w - first); back = x.back } in
      let b₁ : Body = body_with b (b.total - first) (x.front ++ x₁.hit ∷ x.back) in
      let type : ℕ = c.hit.key.kind in
      let S = read-sound type c.hit.bytes b R.bytes R.reads in
      let f = cut-some (is_shared s) b.refs e in
      let g = cut-some (record_of extent) items R.stands in
      let lt : first < w = omega arith in
      let fits = S.fits in
      let less₁ : lessened b x first (b.total - first) ≡ b₁ =
      ap (λ (l : List Ref). body_with b (b.total - first) (x.front ++ (l ++ x.back))) (left-some (weighed x.hit) w first lt) in
      let naming = subst Naming (sym (named-yes s.kind (one s.parent) x.hit f.hit).0) (shared-naming s.kind sk) in
      let sound : Sound type b₁ =
      sound-with type b (b.total - first) b₁.refs S (omega arith) (less-whole x naming (rw f.same at S.wholes) first one≤ lt) in
      let R₁ = recorded-again extent c.front c.hit c.back b₁ g.miss g.hit sound (rw less₁ at fit) in
      let within₁ : second ≤ w - first = omega arith in
      let total : b.total - first - second ≡ b.total - (first + second) = omega arith in
      ap (λ (d : Body). changed nodesize (DropShared extent s second) (put_back c (body_bytes d))) less₁
      ∙ drop-inline extent s nodesize (put_back c (body_bytes b₁)) _ b₁ R₁ x₁
      (cut-here (is_shared s) x.front x₁.hit x.back f.miss f.hit) second
      ∙ made_in second (w - first) b₁.total (λ rest. put_back c (body_bytes (lessened b₁ x₁ second rest))) two≤ within₁
      ∙ ap₂ (λ (t : ℕ) (l : List Ref). accepted (put_back c (body_bytes (body_with b t (x.front ++ (l ++ x.back)))))) total
      (left-twice (weighed x.hit) w first second (omega arith))

  -- ---- as an item

  item-twice : (a : List Item) (r : Item) (z : List Item) (i : Item) (y : List Item) (b : Body) → Beside extent s a r z i y b
      → shared_count i < 4294967296 → first + second ≤ shared_count i
      → T (all (λ j. data_fits j.bytes) (besides a (with_bytes r (body_bytes (body_with b (b.total - first) b.refs))) z (less_items i first) y))
      → changed nodesize (DropShared extent s second)
      (besides a (with_bytes r (body_bytes (body_with b (b.total - first) b.refs))) z (less_items i first) y)
      ≡ accepted (besides a (with_bytes r (body_bytes (body_with b (b.total - (first + second)) b.refs))) z (less_items i (first + second)) y)
  item-twice a r z i y b B small within fit =
      let R = B.recorded in
      let w : ℕ = shared_count i in
      let b₁ : Body = body_with b (b.total - first) b.refs in
      let r₁ : Item = with_bytes r (body_bytes b₁) in
      let i₁ : Item = with_bytes i (le_bytes 4 (w - first)) in
      let S = read-sound r.key.kind r.bytes b R.bytes R.reads in
      let g = cut-some (record_of extent) (besides a r z (i ∷ []) y) R.stands in
      let fits = S.fits in
      let sound : Sound r.key.kind b₁ = sound-with r.key.kind b (b.total - first) b.refs S (omega arith) S.wholes in
      let lt : first < w = omega arith in
      let some₁ : less_items i first ≡ i₁ ∷ [] = left-some (λ v. with_bytes i (le_bytes 4 v)) w first lt in
      let B₁ : Beside extent s a r₁ z i₁ y b₁ =
      record {
        recorded = recorded-again extent a r (z ++ i₁ ∷ y) b₁ g.miss g.hit sound (rw some₁ at fit);
        gone = B.gone;
        before = B.before;
        other = B.other;
        between = B.between;
        key = B.key;
      } in
      let count₁ : shared_count i₁ ≡ w - first = shared-set i (w - first) (omega arith) (omega arith) in
      let total : b.total - first - second ≡ b.total - (first + second) = omega arith in
      ap (λ (o : List Item). changed nodesize (DropShared extent s second) (besides a r₁ z o y)) some₁
      ∙ drop-item extent s nodesize a r₁ z i₁ y b₁ B₁ second
      ∙ made_in second (shared_count i₁) b₁.total
      (λ rest. besides a (with_bytes r (body_bytes (body_with b rest b.refs))) z (less_items i₁ second) y) two≤ (omega arith)
      ∙ ap₂ (λ (t : ℕ) (o : List Item). accepted (besides a (with_bytes r (body_bytes (body_with b t b.refs))) z o y)) total
      (ap (λ (v : ℕ). left (λ u. with_bytes i (le_bytes 4 u)) v second) count₁ ∙ left-twice (λ v. with_bytes i (le_bytes 4 v)) w first second (omega arith))

  -- ---- the parts and the sum

  in_parts : (sheet : List ℕ) (items mid after : List Item) → SheetFacts sheet items → T (all (λ i. data_fits i.bytes) mid)
      → changed nodesize (DropShared extent s first) items ≡ accepted mid
      → changed nodesize (DropShared extent s (first + second)) items ≡ accepted after
      → changed nodesize (DropShared extent s second) mid ≡ accepted after
  in_parts sheet items mid after S fit e₁ e₂ = go (place_of extent s nodesize sheet items first mid S sk e₁)
    where
      go : Place extent s items → changed nodesize (DropShared extent s second) mid ≡ accepted after
      go (inline c b R x q) =
          let h₁ = made-out first x.hit.weight b.total _ (sym (drop-inline extent s nodesize items c b R x q first) ∙ e₁) in
          let h₂ = made-out (first + second) x.hit.weight b.total _ (sym (drop-inline extent s nodesize items c b R x q (first + second)) ∙ e₂) in
          ap (changed nodesize (DropShared extent s second)) (sym h₁.2)
          ∙ inline-twice items c b R x q h₂.1 (rw (← h₁.2) at fit) ∙ ap accepted h₂.2
      go (apart a r z i y b same B) =
          let h₁ = made-out first (shared_count i) b.total _
          (sym (drop-item extent s nodesize a r z i y b B first) ∙ ap (changed nodesize (DropShared extent s first)) (sym same) ∙ e₁) in
          let h₂ = made-out (first + second) (shared_count i) b.total _
          (sym (drop-item extent s nodesize a r z i y b B (first + second))
          ∙ ap (changed nodesize (DropShared extent s (first + second))) (sym same) ∙ e₂) in
          let key : i.key ≡ key_of r.key.objectid s.kind s.parent = same_key-yes i.key _ B.key in
          let kind : i.key.kind ≡ s.kind = ap (λ (k : Key). k.kind) key in
          let small : shared_count i < 4294967296 =
          shared-fits i (subst Naming (sym kind) (shared-naming s.kind sk)) (ap (λ (n : ℕ). eqb n 178) kind ∙ not-178 s.kind sk)
          (at_item good a r z i y (rw same at S.balance.goods)) (tidy-bytes i (at_item tidy a r z i y (rw same at S.tidied))) in
          ap (changed nodesize (DropShared extent s second)) (sym h₁.2)
          ∙ item-twice a r z i y b B small h₂.1 (rw (← h₁.2) at fit) ∙ ap accepted h₂.2

-- ---- the sheets

module _ (nodesize : ℕ) (sheet : List ℕ) (extent : ℕ) (name : SharedRef) (raw : T (are_bytes sheet)) where
  abbrev drop : ℕ → Change
  drop n = DropShared extent name n

  abbrev m : Name
  m = name_of (DropShared extent name 0)

  facts : (n room : ℕ) (P : Posts nodesize sheet (drop n) room) → SheetFacts sheet P.items
  facts n room P = sheet-facts sheet P.items raw P.reads P.balance

  -- what the first part leaves
  after_first : (first room : ℕ) (between : List ℕ) → posted nodesize sheet (drop first) room ≡ accepted between
      → (P : Posts nodesize sheet (drop first) room)
      → On between P.after × (count m P.after + first ≡ count m P.items)
  after_first first room between e P =
      let S = facts first room P in
      let s : Step m 0 first P.items P.after =
      drop-step (shared_drop extent name first) (shared-proper extent name first P.kind) P.items P.after S.balance S.tidied
      (sym (shared-changes nodesize extent name first P.items) ∙ P.done) in
      let c = moved m 0 first P.items P.after s m (same_name-refl m) in (
        subst (λ (z : List ℕ). On z P.after) (sym (posts-writes nodesize sheet (drop first) room between e P))
            (step-on m 0 first sheet P.items P.after room S s P.holds),
        omega arith,
      )

  -- the second part after it
  then-second : (first second room₁ room : ℕ) → 1 ≤ first → 1 ≤ second → (P₁ : Posts nodesize sheet (drop first) room₁)
      → (P : Posts nodesize sheet (drop (first + second)) room)
      → changed nodesize (drop second) P₁.after ≡ accepted P.after
  then-second first second room₁ room one≤ two≤ P₁ P =
      let same : P.items ≡ P₁.items = accepted-inj (sym P.reads ∙ P₁.reads) in
      in_parts nodesize extent name P.kind first second one≤ two≤ sheet P₁.items P₁.after P.after (facts first room₁ P₁)
      (holds-out room₁ P₁.after P₁.holds).3 P₁.done (ap (changed nodesize (drop (first + second))) (sym same) ∙ P.done)

  -- with another amount of what the name counts, where there is room enough
  another : (n k room enough : ℕ) (d : DropsShared nodesize sheet m n room) → 1 ≤ k
      → k ≤ count m d.items → length sheet ≤ enough → DropsShared nodesize sheet m k enough
  another n k room enough d one≤ within long =
      record {
        items = d.items;
        at = d.at;
        kind = d.kind;
        up_to_five = d.up_to_five;
        named = d.named;
        positive = one≤;
        within = within;
        roomy = omega arith;
      }

  module _ (first second enough room : ℕ) (result : List ℕ) (one≤ : 1 ≤ first) (two≤ : 1 ≤ second) (long : length sheet ≤ enough) where
    to-sum : (between : List ℕ) → posted nodesize sheet (drop first) enough ≡ accepted between
        → posted nodesize between (drop second) room ≡ accepted result
        → posted nodesize sheet (drop (first + second)) room ≡ accepted result
    to-sum between e₁ e₂ =
        let P₁ = posts-out nodesize sheet (drop first) enough (between, e₁) in
        let P₂ = posts-out nodesize between (drop second) room (result, e₂) in
        let (O, counts) = after_first first enough between e₁ P₁ in
        let d₁ = (acceptance nodesize sheet (drop first) enough raw).only (between, e₁) in
        let d₂ = (acceptance nodesize between (drop second) room O.raw).only (result, e₂) in
        let n₁ = ap (count m) (accepted-inj (sym d₁.up_to_five.reads ∙ P₁.reads)) in
        let n₂ = ap (count m) (accepted-inj (sym d₂.up_to_five.reads ∙ O.reads)) in
        let within₂ = d₂.within in
        let within : first + second ≤ count m d₁.items = omega arith in
        let P = posts-out nodesize sheet (drop (first + second)) enough ((acceptance nodesize sheet (drop (first + second)) enough raw).enough
        (another first (first + second) enough enough d₁ (omega arith) within long)) in
        let same : P₂.after ≡ P.after =
        accepted-inj (sym P₂.done ∙ ap (changed nodesize (drop second)) (accepted-inj (sym P₂.reads ∙ O.reads))
        ∙ then-second first second enough enough one≤ two≤ P₁ P) in
        post-on nodesize sheet P.items P.after (drop (first + second)) room (record { raw = raw; reads = P.reads; balance = P.balance })
        P.least P.most P.kind P.done (subst (λ (l : List Item). T (sheet_holds room l)) same P₂.holds)
        ∙ ap (λ (l : List Item). accepted (sheet_bytes l)) (sym same)
        ∙ ap accepted (sym (posts-writes nodesize between (drop second) room result e₂ P₂))

    to-parts : posted nodesize sheet (drop (first + second)) room ≡ accepted result
        → InTwoParts nodesize sheet extent name first second enough room result
    to-parts e =
        let d = (acceptance nodesize sheet (drop (first + second)) room raw).only (result, e) in
        let within = d.within in
        let (between, e₁) = (acceptance nodesize sheet (drop first) enough raw).enough
        (another (first + second) first room enough d one≤ (omega arith) long) in
        let P = posts-out nodesize sheet (drop (first + second)) room (result, e) in
        let P₁ = posts-out nodesize sheet (drop first) enough (between, e₁) in
        record {
          between = between;
          drops-first = e₁;
          drops-second = post-on nodesize between P₁.after P.after (drop second) room (after_first first enough between e₁ P₁).0
              P.least P.most P.kind (then-second first second enough room one≤ two≤ P₁ P) P.holds
              ∙ ap accepted (sym (posts-writes nodesize sheet (drop (first + second)) room result e P));
        }

pub adds-up : AddsUp
adds-up nodesize sheet extent name first second enough room result raw one≤ two≤ long =
    record {
      only = λ p. to-sum nodesize sheet extent name raw first second enough room result one≤ two≤ long p.between p.drops-first p.drops-second;
      enough = to-parts nodesize sheet extent name raw first second enough room result one≤ two≤ long;
    }
