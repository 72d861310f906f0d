-- A record as code reads it, and what it says to the pass. Assumes nothing.
use mathlib.Core.Path.{◌≡◌, refl, sym, ap, ◌∙◌, subst}
use Prim.Native.Nat.{ℕ, ◌+◌, ◌-◌, ◌≤◌}
use native.Mathlib.Nat.{le_refl}
use native.Mathlib.Omega.{arith}
use mathlib.Core.Bool.{Bool, true, false, not, ◌&&◌, cond}
use mathlib.Core.Option.{none, some}
use mathlib.Core.List.{List}
use lib.Dec.{T, leb}
use lib.ListN.{length, take, drop, length-drop}
use borrow.Author.Tests.{le-leb}
use Rattle.fields.specs.Lists.{sum}
use Rattle.fields.specs.Numbers.{le}
use Rattle.fields.specs.Parts.{part}
use Rattle.fields.proofs.Lists.{and-false, T-eq}
use Rattle.fields.proofs.Parts.{length_part}
use Rattle.format.specs.declared.Key.{Key}
use Rattle.format.specs.Questions.{Answer, refused, absent, remove, accepted, ask, bind}
use Rattle.format.specs.References.{Ref, Body, total_of, start_of, read_refs, read_body, ordered}
use Rattle.format.specs.Bodies.{body_fits, on_body}
use Rattle.format.specs.Items.{Item}
use Rattle.format.specs.Apply.{is_record}
use Rattle.format.specs.Names.{view_record, view_of}
use Rattle.format.proofs.Answers.{refused-not, absent-not, remove-not, accepted-inj}
use Rattle.format.proofs.Refs.{read_refs-enough}
use Rattle.std.specs.Prelude.{Option, Some, None, Ok, Err, is_some}
use Rattle.format.specs.declared.Refusal.{Refusal}
use Rattle.inline_refs.specs.Steps.{read_from, open_of}
use Rattle.inline_refs.specs.Scans.{refs_in}
use Rattle.inline_refs.proofs.Notes.{Opens, opens}
use Rattle.balance.specs.Tally.{start, sound, GroupTally, weight_in, taken}
use Rattle.balance.proofs.Sorted.{sound-out}
use Rattle.balance.specs.Ranks.{refs_read, refs_from}
use Rattle.balance.proofs.Steps.{read_is}
use Rattle.balance.specs.Spans.{weighing, weighed_of, Light}
use Rattle.balance.specs.declared.group.Group.{Group}
use Rattle.balance.specs.declared.group.Marked.{Marked}
use Rattle.balance.specs.Groups.{item_of, tally_of, GroupBody, Taking}

-- ---- a weight comes from references that read

record Weighty (a : Answer (List Ref)) (weight : ℕ) : Type 0 where
  pub refs : List Ref
  pub reads : a ≡ accepted refs
  pub passes : T (sound start refs)
  pub sums : weight ≡ sum weight_in refs

weighed-of : (a : Answer (List Ref)) (weight : ℕ) → Some weight ≡ weighed_of a → Weighty a weight
unfolding weighed_of weighing
weighed-of (refused n) weight e = let z : ◌≡◌ {A = ℕ} 0 1 = cc in absurd (omega arith)
weighed-of absent weight e = let z : ◌≡◌ {A = ℕ} 0 1 = cc in absurd (omega arith)
weighed-of remove weight e = let z : ◌≡◌ {A = ℕ} 0 1 = cc in absurd (omega arith)
weighed-of (accepted refs) weight e = go (sound start refs) refl e
  where
    go : (c : Bool) → sound start refs ≡ c → Some weight ≡ cond c (Some (0 + sum weight_in refs)) None → Weighty (accepted refs) weight
    go true q e =
        let z : weight ≡ 0 + sum weight_in refs = cc in
        record { refs = refs; reads = refl; passes = subst T (sym q) tt; sums = z ∙ omega arith }
    go false q e = let z : ◌≡◌ {A = ℕ} 0 1 = cc in absurd (omega arith)

weighed-bad : (a : Answer (List Ref)) → None ≡ weighed_of a → (refs : List Ref) → a ≡ accepted refs → sound start refs ≡ false
unfolding weighed_of weighing
weighed-bad a e refs q = go (sound start refs) refl (e ∙ ap weighed_of q)
  where
    go : (c : Bool) → sound start refs ≡ c → None ≡ cond c (Some (0 + sum weight_in refs)) None → sound start refs ≡ false
    go true q e = let z : ◌≡◌ {A = ℕ} 0 1 = cc in absurd (omega arith)
    go false q e = q

-- ---- a body that opens

abbrev body_from : ℕ → List ℕ → List Ref → Body
body_from type s refs = record { total = total_of s; fixed = drop 8 (take (start_of type s) s); refs = refs }

opens-read : (type : ℕ) (s : List ℕ) (from : ℕ) → Opens type s from → read_body type s ≡ bind (read_from s from) (λ refs. accepted (body_from type s refs))
unfolding read_body read_from ask
opens-read type s from o =
    let z : length (drop from s) ≤ length s = rw length-drop (omega arith) in
    let b : leb (start_of type s) (length s) ≡ true = le-leb _ _ (subst (λ (n : ℕ). n ≤ length s) o.at o.inside) in
    rw (le-leb _ _ o.long, b)
    (ap (λ (n : ℕ). bind (read_refs (length s) (drop n s)) (λ refs. accepted (body_from type s refs))) (sym o.at)
    ∙ ap (λ (a : Answer (List Ref)). bind a (λ refs. accepted (body_from type s refs)))
    (read_refs-enough (length s) (length (drop from s)) (drop from s) z (le_refl (length (drop from s)))))

pub inner-long : (s : List ℕ) (at next : ℕ) → at + 21 ≤ next → next ≤ length s → length (part (at + 21) (next - (at + 21)) s) ≡ next - (at + 21)
inner-long s at next a b = length_part (next - (at + 21)) (at + 21) s (omega arith)

pub light-of : (size : ℕ) (r : Option ℕ) (weight : ℕ) → r ≡ Some weight → Light size r → Light size (Some weight)
light-of size r weight e l = subst (Light size) e l

-- ---- what a record says to the pass

module _ (t : GroupTally) (i : Item) (rec : T (is_record i)) where
  view-is : view_of i ≡ view_record (read_body i.key.kind i.bytes)
  unfolding view_of
  view-is = rw (T-eq (is_record i) rec) refl

  -- one that does not read, or that may not stand
  refused-by : ((b : Body) → read_body i.key.kind i.bytes ≡ accepted b → (not t.marked && sound start b.refs) ≡ false)
      → taken t (view_of i) ≡ none
  unfolding view_record taken
  refused-by f = ap (taken t) view-is ∙ go (read_body i.key.kind i.bytes) f
    where
      go : (a : Answer Body) → ((b : Body) → a ≡ accepted b → (not t.marked && sound start b.refs) ≡ false) → taken t (view_record a) ≡ none
      go (refused n) f = refl
      go absent f = refl
      go remove f = refl
      go (accepted b) f = rw (f b refl) refl

  taken-by : (b : Body) → read_body i.key.kind i.bytes ≡ accepted b → t.marked ≡ false → T (sound start b.refs)
      → taken t (view_of i) ≡ some (record { extent = t.extent; marked = true; refs = b.refs; total = b.total; weight = sum weight_in b.refs })
  unfolding view_record taken
  taken-by b e m s = ap (taken t) (view-is ∙ ap view_record e) ∙ rw (m, T-eq (sound start b.refs) s) refl

module _ (s : List ℕ) (g : Group) (at next : ℕ) (key : Key) (rec : T (is_record (item_of s at next key))) where
  abbrev inner : List ℕ
  inner = part (at + 21) (next - (at + 21)) s

  refused-mark : ((b : Body) → read_body key.kind inner ≡ accepted b → (not (tally_of s g).marked && sound start b.refs) ≡ false)
      → Taking s g (item_of s at next key) next None
  unfolding Taking
  refused-mark f = refused-by (tally_of s g) (item_of s at next key) rec f

  pub mark-twice : is_some g.marked ≡ true → Taking s g (item_of s at next key) next None
  unfolding tally_of
  mark-twice m = refused-mark (λ b e. rw m refl)

  module _ (fits : length inner ≤ 65535) where
    pub mark-shut : (refusal : Refusal) → Err refusal ≡ open_of key.kind inner → Taking s g (item_of s at next key) next None
    unfolding refs_in on_body body_fits ask bind
    mark-shut refusal e =
        refused-mark (λ b r.
        let a : refs_in key.kind inner ≡ refused refusal.number = opens key.kind inner (Err refusal) e in
        let c : refs_in key.kind inner ≡ accepted b.refs = rw (le-leb (length inner) 65535 fits, r) refl in
        refused-not (sym a ∙ c))

  module _ (from : ℕ) (e : Ok from ≡ open_of key.kind inner) where
    pub opened : Opens key.kind inner from
    opened = opens key.kind inner (Ok from) e

    read-refs : (refs : List Ref) → read_from inner from ≡ accepted refs → read_body key.kind inner ≡ accepted (body_from key.kind inner refs)
    unfolding bind
    read-refs refs q = opens-read key.kind inner from opened ∙ ap (λ (a : Answer (List Ref)). bind a (λ l. accepted (body_from key.kind inner l))) q

    bad-refs : (a : Answer (List Ref)) → ((refs : List Ref) → a ≡ accepted refs → sound start refs ≡ false)
        → (b : Body) → bind a (λ l. accepted (body_from key.kind inner l)) ≡ accepted b → sound start b.refs ≡ false
    unfolding bind
    bad-refs (refused n) f b q = refused-not q
    bad-refs absent f b q = absent-not q
    bad-refs remove f b q = remove-not q
    bad-refs (accepted refs) f b q = subst (λ (x : Body). sound start x.refs ≡ false) (accepted-inj q) (f refs refl)

    pub mark-unfit : None ≡ weighed_of (read_from inner from) → Taking s g (item_of s at next key) next None
    mark-unfit w =
        refused-mark (λ b r.
        ap (λ (c : Bool). not (tally_of s g).marked && c)
        (bad-refs (read_from inner from) (weighed-bad (read_from inner from) w) b (sym (opens-read key.kind inner from opened) ∙ r))
        ∙ and-false (not (tally_of s g).marked))

    module _ (order : at + 21 ≤ next) (within : next ≤ length s) (total weight : ℕ) where
      abbrev mark : Marked
      mark = record { from = at + 21; to = next; start = from; total = total }

      pub mark-good : is_some g.marked ≡ false → Some weight ≡ weighed_of (read_from inner from) → Light (length inner) (Some weight) → total ≡ le (part 0 8 inner)
          → Taking s g (item_of s at next key) next (Some (record { extent = g.extent; marked = Some mark; weight = weight; span = None }))
      unfolding Taking tally_of total_of refs_read
      mark-good m w l q =
          let h = weighed-of (read_from inner from) weight w in
          let r : read_from inner from ≡ accepted h.refs = h.reads in
          let f : refs_from inner from ≡ h.refs = ap refs_read r in
          let n : length inner ≡ next - (at + 21) = length_part (next - (at + 21)) (at + 21) s (omega arith) in
          let y = taken-by (tally_of s g) (item_of s at next key) rec (body_from key.kind inner h.refs) (read-refs h.refs r) m h.passes in
          let b : GroupBody s mark None =
          record {
            order = order;
            inside = within;
            begins = opened.inside;
            reads = record { reads = read_is inner from h.refs r };
            sorted = subst (λ (k : List Ref). T (ordered k)) (sym f) (sound-out 0 h.refs h.passes).order;
            spans = λ sp z. let z : ◌≡◌ {A = ℕ} 0 1 = cc in absurd (omega arith);
          } in (
            y ∙ (λ i. some (record { extent = g.extent; marked = true; refs = sym f i; total = sym q i; weight = sym h.sums i })),
            record { body = λ k e. let z : mark ≡ k = cc in subst (λ (x : Marked). GroupBody s x None) z b; light = omega arith },
          )
