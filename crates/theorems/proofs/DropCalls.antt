-- The three drops: an accepted one is a step that takes one count, or an amount, from its name. Assumes nothing.
use mathlib.Core.Path.{◌≡◌, refl, sym, ap, ◌∙◌, subst}
use mathlib.Core.Logic.{◌≢◌, ◌⊎◌, inl, inr}
use Prim.Native.Nat.{ℕ, ◌+◌, ◌-◌, ◌≤◌, ◌<◌}
use native.Mathlib.Omega.{arith}
use mathlib.Core.Bool.{Bool, true, false, not, ◌&&◌, ◌||◌, cond}
use mathlib.Core.Option.{some}
use mathlib.Core.List.{List, [], ◌∷◌, ◌++◌, append_assoc}
use lib.ListN.{length, take, drop}
use lib.Dec.{T, leb, ltb, eqb, eqb→eq, le→leb, ltb→lt, nltb→le}
use mir.Facts.{and_yes, yes_and, yes_eqb, eqb_no}
use Rattle.fields.specs.Lists.{all, same, Cut, first_cut}
use Rattle.fields.specs.Numbers.{le, le_bytes, words, word_bytes, are_bytes}
use Rattle.fields.specs.Parts.{written}
use Rattle.fields.proofs.Lists.{cond_no, all-mid, same-yes, same_refl, Found, cut-some}
use Rattle.fields.proofs.Parts.{length-written, part-written}
use Rattle.fields.proofs.Numbers.{are_bytes-le_bytes, are_bytes-written, length-le_bytes, le-le_bytes, words-word_bytes, word_bytes-words, words-bound}
use Rattle.format.specs.declared.BlockRef.{BlockRef}
use Rattle.format.specs.declared.DataRef.{DataRef}
use Rattle.format.specs.declared.SharedRef.{SharedRef}
use Rattle.format.specs.declared.Key.{Key}
use Rattle.format.specs.declared.Change.TheVariants.{DropBlock, DropData, DropShared}
use Rattle.format.specs.Questions.{Answer, absent, remove, accepted, ask, bind, needed, found}
use Rattle.format.specs.References.{Ref, Body, body_with, body_bytes, rank_of, rank}
use Rattle.format.specs.Bodies.{named, one, triple, weighed, body_fits, shared_kind, on_total, less, drop_inline, keyed_count, drop_keyed_data_ref}
use Rattle.format.specs.Items.{Item, key_of, with_bytes, put_back}
use Rattle.format.specs.Sheets.{has_key}
use Rattle.format.specs.Apply.{on_record, replaced}
use Rattle.format.specs.Names.{Name, item_entries, good}
use Rattle.format.specs.Ledger.{name_of, dropped_at, shared_count, less_item}
use Rattle.format.proofs.Answers.{ask-yes, bind_ok, needed-ok, found_ok, if_absent-ok, accepted-inj, refused-not}
use Rattle.format.proofs.Keys.{same_key-yes}
use Rattle.theorems.proofs.Naming.{Naming, is176, is178, is182, is184, shared-naming, Formed, formed}
use Rattle.theorems.proofs.Edit.{only, only-name, Balanced}
use Rattle.theorems.proofs.Facts.{plain_entry, data-entry, data-good, shared-good, count_fits, shared-fits, shared-set}
use Rattle.theorems.proofs.Steps.{tidy, Step, Here, on-record, on-body, on-total}
use Rattle.theorems.proofs.Lowered.{Lowers, one-lowers, part-lowers}
use Rattle.theorems.proofs.OneDrop.{Drop, item_key, in_body, at_item, dropped, block_drop, data_drop, shared_drop}
use Rattle.theorems.proofs.Drops.{weight-at, inline-less, inline-gone, Own, own_of, own-bytes, Left, goes, stays, item-left}
use Rattle.theorems.specs.Acceptance.{apart}
use Rattle.theorems.proofs.Counts.{data-form, plain-own, data-own}

-- ---- what is asked of a drop, so that it takes its amount from its name

pub record Proper (p : Drop) : Type 0 where
  pub form : Formed p.name
  pub lowers : Lowers p.amount p.lowered
  -- where the name counts something apart from the record, an item at the key stands for it
  pub stands : (items : List Item) (c : Cut Item) (b : Body) → Here p.name items c b → Balanced items → T (all tidy items)
      → 1 ≤ apart p.name c
      → (k : Cut Item) × Own p.name items k (p.counts k.hit) × (k.hit.key ≡ item_key p p.name.extent)
  -- so does an item at the key that loses something
  pub owns : (items : List Item) → Balanced items → (k : Cut Item) → items ≡ k.front ++ k.hit ∷ k.back
      → k.hit.key ≡ item_key p p.name.extent → (others : List Item) → dropped_at k (p.left k.hit) ≡ accepted others
      → Own p.name items k (p.counts k.hit)
  pub lefts : (items : List Item) (k : Cut Item) → Own p.name items k (p.counts k.hit) → T (are_bytes k.hit.bytes)
      → k.hit.key ≡ item_key p p.name.extent → 1 ≤ p.amount → p.amount ≤ p.counts k.hit
      → Left p.name k.hit (p.counts k.hit) p.amount (p.left k.hit)

-- the item of a key
pub key-found : (key : Key) (items : List Item) (k : Cut Item) → needed 5 (first_cut (has_key key) items) ≡ accepted k
    → (items ≡ k.front ++ k.hit ∷ k.back) × (k.hit.key ≡ key)
key-found key items k e =
    let f = cut-some (has_key key) items (needed-ok 5 (first_cut (has_key key) items) e) in
    (f.same, same_key-yes k.hit.key key f.hit)

pub drop-step : (p : Drop) → Proper p → (items after : List Item) → Balanced items → T (all tidy items)
    → on_record p.name.extent items (dropped p items) ≡ accepted after → Step p.name 0 p.amount items after
unfolding dropped drop_inline less
drop-step p P items after balance tidies e =
    let (c, b, H, e₁) = on-record m items after _ balance tidies e in
    go c b H
    (if_absent-ok (bind (in_body p c) (λ body. accepted (put_back c body)))
    (bind (needed 5 (first_cut (has_key (item_key p c.hit.key.objectid)) items)) (at_item p c)) e₁)
  where
    m : Name
    m = p.name

    n : ℕ
    n = p.amount

    -- inline
    part : (c : Cut Item) (b : Body) → Here m items c b → (x : Cut Ref) → Found (named m.kind m.fields) b.refs x
        → 1 ≤ n → n ≤ x.hit.weight → (d : Bool) → ltb n x.hit.weight ≡ d
        → Step m 0 n items
        (put_back c (body_bytes (body_with b (b.total - n) (x.front ++ (cond d (weighed x.hit (x.hit.weight - n) ∷ []) [] ++ x.back)))))
    part c b H x f one≤ within true q =
        inline-less m P.form.naming items c b H balance tidies x f.same f.hit n one≤
        (ltb→lt n x.hit.weight (subst T (sym q) tt))
    part c b H x f one≤ within false q =
        let l : x.hit.weight ≤ n = nltb→le n x.hit.weight (subst (λ (z : Bool). T (not z)) (sym q) tt) in
        inline-gone m P.form.naming items c b H balance tidies x f.same f.hit n (omega arith)

    go : (c : Cut Item) (b : Body) → Here m items c b
        → (bind (in_body p c) (λ body. accepted (put_back c body)) ≡ accepted after)
        ⊎ ((bind (in_body p c) (λ body. accepted (put_back c body)) ≡ absent)
        × (bind (needed 5 (first_cut (has_key (item_key p c.hit.key.objectid)) items)) (at_item p c) ≡ accepted after))
        → Step m 0 n items after
    go c b H (inl e) =
        let h = bind_ok (in_body p c) _ e in
        let h₁ = bind_ok (found (first_cut (named m.kind m.fields) b.refs)) _
        (on-body c.hit.key.kind c.hit.bytes b _ H.reads h.1) in
        let x : Cut Ref = h₁.0 in
        let f =
        cut-some (named m.kind m.fields) b.refs (found_ok (first_cut (named m.kind m.fields) b.refs) h₁.1) in
        let h₂ = bind_ok (p.lowered x.hit.weight b.total) _ h₁.2 in
        let (one≤, within, te) = P.lowers.out x.hit.weight b.total h₂.0
        (weight-at m P.form.naming items c b H balance tidies x f.same f.hit) h₂.1 in
        let q : body_bytes (body_with b (b.total - n) (x.front ++ (less x.hit n ++ x.back))) ≡ h.0 =
        ap (λ (t : ℕ). body_bytes (body_with b t (x.front ++ (less x.hit n ++ x.back)))) te ∙ accepted-inj h₂.2 in
        subst (Step m 0 n items) (ap (put_back c) q ∙ accepted-inj h.2) (part c b H x f one≤ within (ltb n x.hit.weight) refl)
    go c b H (inr (_, e)) =
        let h₁ = bind_ok (needed 5 (first_cut (has_key (item_key p c.hit.key.objectid)) items)) _ e in
        let k : Cut Item = h₁.0 in
        let w : ℕ = p.counts k.hit in
        let h₂ = bind_ok (on_total c.hit.bytes (p.lowered w)) _ h₁.2 in
        let h₃ = bind_ok (dropped_at k (p.left k.hit)) _ h₂.2 in
        let (same, key₀) = key-found (item_key p c.hit.key.objectid) items k h₁.1 in
        let key : k.hit.key ≡ item_key p m.extent = key₀ ∙ ap (item_key p) H.extent in
        let O = P.owns items balance k same key h₃.0 h₃.1 in
        let (t, te, be) = on-total c.hit.key.kind c.hit.bytes b (p.lowered w) h₂.0 H.bytes H.reads h₂.1 in
        let (one≤, within, tt') = P.lowers.out w b.total t O.positive te in
        item-left m P.form.naming items c b H balance tidies k w O n (p.left k.hit)
        (P.lefts items k O (own-bytes m items k w O tidies) key one≤ within) h₃.0 after h₃.1
        (ap (λ (d : List ℕ). replaced c.hit.key d h₃.0) (ap (λ (n : ℕ). body_bytes (body_with b n b.refs)) tt' ∙ be) ∙ h₃.2)

-- ---- a reference with one field

-- the entry of a reference item without three fields
keyed-entry : (i : Item) (extent kind field : ℕ) → i.key ≡ key_of extent kind field → Naming kind → eqb kind 178 ≡ false
    → T (good i)
    → item_entries i ≡ only (record { extent = extent; kind = kind; fields = one field }) (some (shared_count i))
keyed-entry i extent kind field e k q g =
    let ek : i.key.kind ≡ kind = ap (λ (key : Key). key.kind) e in
    plain_entry i (subst Naming (sym ek) k) (ap (λ (n : ℕ). eqb n 178) ek ∙ q) g
    ∙ ap (λ (key : Key). only (record { extent = key.objectid; kind = key.kind; fields = one key.offset }) (some (shared_count i))) e

-- an item at the key stands for it
pub keyed-own : (extent kind field : ℕ) → Naming kind → eqb kind 178 ≡ false → (items : List Item) → Balanced items → (k : Cut Item)
    → items ≡ k.front ++ k.hit ∷ k.back → k.hit.key ≡ key_of extent kind field
    → Own (record { extent = extent; kind = kind; fields = one field }) items k (shared_count k.hit)
keyed-own extent kind field naming no178 items balance k same key =
    own_of (record { extent = extent; kind = kind; fields = one field }) items k (shared_count k.hit) balance same
    (ap (λ (z : Key). z.kind) key) (ap (λ (z : Key). z.objectid) key)
    (keyed-entry k.hit extent kind field key naming no178
    (all-mid good k.front k.hit k.back (rw same at balance.goods)))

-- ---- a block reference

pub block_one : (i : Item) → i.key.kind ≡ 176 → shared_count i ≡ 1
unfolding shared_count
block_one i e = cond_no (eqb i.key.kind 184) (le i.bytes) 1 (rw e tt)

pub block-proper : (extent : ℕ) (name : BlockRef) → Proper (block_drop extent name)
block-proper extent name =
    record {
      form = formed (DropBlock extent name) tt;
      lowers = one-lowers;
      stands = λ items c b H balance tidies. plain-own (name_of (DropBlock extent name)) items c b H balance tidies name.tree refl refl;
      owns = λ items balance k same key others e. keyed-own extent 176 name.tree (is176 refl) refl items balance k same key;
      lefts = λ items k O bytes key one≤ within. goes (block_one k.hit O.kind) refl;
    }

-- ---- a data reference

dropped-ask : (k : Cut Item) (b : Bool) (n : ℕ) (next : Answer (List ℕ)) {others : List Item}
    → dropped_at k (ask b n next) ≡ accepted others → T b × (dropped_at k next ≡ accepted others)
unfolding dropped_at ask
dropped-ask k true n next e = (tt, e)
dropped-ask k false n next e = refused-not e

-- an item that drops one has the three fields
dropped-triple : (k : Cut Item) (d : DataRef) (others : List Item)
    → dropped_at k (drop_keyed_data_ref k.hit.bytes d) ≡ accepted others
    → words 3 k.hit.bytes ≡ triple d
unfolding drop_keyed_data_ref
dropped-triple k d others e =
    let bytes : List ℕ = k.hit.bytes in
    let h₃ = dropped-ask k (body_fits bytes) 3 _ e in
    let h₁₅ = dropped-ask k (eqb (length bytes) 28 && same (words 3 bytes) (triple d)) 15 _ h₃.1 in
    same-yes (words 3 bytes) (triple d) (and_yes (eqb (length bytes) 28) (same (words 3 bytes) (triple d)) h₁₅.0).1

-- what is left of it
module _ (extent : ℕ) (d : DataRef) (i : Item) (key : i.key ≡ key_of extent 178 (rank_of 178 (triple d))) (g : T (good i))
    (entry : item_entries i ≡ only (name_of (DropData extent d)) (some (keyed_count i.bytes))) (bytes : T (are_bytes i.bytes))
    (positive : 1 ≤ keyed_count i.bytes) where
  abbrev w : ℕ
  w = keyed_count i.bytes

  abbrev again : List ℕ
  again = written 24 (le_bytes 4 (w - 1)) i.bytes

  kind : i.key.kind ≡ 178
  kind = ap (λ (z : Key). z.kind) key

  size : length i.bytes ≡ 28
  size = (data-form i kind g).0

  triples : words 3 i.bytes ≡ triple d
  triples = ap (λ (m : Name). m.fields) (only-name _ _ (sym (data-entry i kind g) ∙ entry))

  again-size : length again ≡ 28
  again-size =
      let n = length-le_bytes 4 (w - 1) in
      length-written 24 (le_bytes 4 (w - 1)) i.bytes (omega (arith, size)) ∙ size

  again-words : words 3 again ≡ triple d
  again-words =
      let n : List ℕ = le_bytes 4 (w - 1) in
      let rest : List ℕ = drop (24 + length n) i.bytes in
      let front : take 24 i.bytes ≡ word_bytes (triple d) =
      sym (word_bytes-words 3 i.bytes (omega (arith, size)) bytes) ∙ ap word_bytes triples in
      ap (λ (l : List ℕ). words 3 (l ++ n ++ rest)) front ∙ ap (words 3) (append_assoc (word_bytes (triple d)) n rest)
      ∙ words-word_bytes (triple d) (n ++ rest) (rw triples at (words-bound 3 i.bytes (omega (arith, size)) bytes))

  again-count : keyed_count again ≡ w - 1
  unfolding keyed_count
  again-count =
      let fits = count_fits i.bytes size bytes in
      ap le (part-written 24 4 (le_bytes 4 (w - 1)) i.bytes (length-le_bytes 4 (w - 1)) (omega (arith, size)))
      ∙ le-le_bytes 4 (w - 1) (omega arith)

  again-good : T (good (with_bytes i again))
  unfolding rank
  again-good =
      data-good (with_bytes i again) kind again-size
      (ap (λ (z : Key). z.offset) key ∙ ap (rank_of 178) (sym again-words))

  again-entry : item_entries (with_bytes i again) ≡ only (record { extent = extent; kind = 178; fields = triple d }) (some (w - 1))
  again-entry =
      data-entry (with_bytes i again) kind again-good
      ∙ (λ j. only (record { extent = (key j).objectid; kind = 178; fields = again-words j }) (some (again-count j)))

  data-left : Left (name_of (DropData extent d)) i w 1 (drop_keyed_data_ref i.bytes d)
  unfolding drop_keyed_data_ref body_fits
  data-left =
      subst (Left m i w 1)
      (sym (ask-yes (body_fits i.bytes) 3 _ (le→leb (length i.bytes) 65535 (omega (arith, size)))
      ∙ ask-yes (eqb (length i.bytes) 28 && same (words 3 i.bytes) (triple d)) 15 _
      (yes_and (eqb (length i.bytes) 28) _ (yes_eqb size)
      (subst (λ (x : List ℕ). T (same x (triple d))) (sym triples) (same_refl (triple d))))
      ∙ ask-yes (leb 1 w) 16 _ (le→leb 1 w positive)))
      (go (eqb w 1) refl)
    where
      m : Name
      m = name_of (DropData extent d)

      go : (z : Bool) → eqb w 1 ≡ z → Left m i w 1 (cond z remove (accepted again))
      go true q = goes (eqb→eq _ _ (subst T (sym q) tt)) refl
      go false q =
          let ne : w ≢ 1 = eqb_no (subst (λ (z : Bool). T (not z)) (sym q) tt) in
          stays (omega arith) again refl (are_bytes-written 24 (le_bytes 4 (w - 1)) i.bytes (are_bytes-le_bytes 4 (w - 1)) bytes)
          again-good again-entry

pub data-proper : (extent : ℕ) (name : DataRef) → Proper (data_drop extent name)
data-proper extent name =
    record {
      form = formed (DropData extent name) tt;
      lowers = one-lowers;
      stands = λ items c b H balance tidies. data-own m items c b H balance tidies refl;
      owns = λ items balance k same key others e.
          (let kind : k.hit.key.kind ≡ 178 = ap (λ (z : Key). z.kind) key in
          let ox : k.hit.key.objectid ≡ extent = ap (λ (z : Key). z.objectid) key in
          let triples = dropped-triple k name others e in
          own_of m items k (keyed_count k.hit.bytes) balance same kind ox
          (data-entry k.hit kind (all-mid good k.front k.hit k.back (rw same at balance.goods))
          ∙ (λ j. only (record { extent = ox j; kind = 178; fields = triples j }) (some (keyed_count k.hit.bytes)))));
      lefts = λ items k O bytes key one≤ within. data-left extent name k.hit key O.is_good O.entry bytes O.positive;
    }
  where
    m : Name
    m = name_of (DropData extent name)

-- ---- a shared reference

pub not-178 : (kind : ℕ) → T (shared_kind kind) → eqb kind 178 ≡ false
unfolding shared_kind
not-178 kind t = go (shared-naming kind t) t
  where
    go : Naming kind → T (eqb kind 182 || eqb kind 184) → eqb kind 178 ≡ false
    go (is176 e) t = rw e refl
    go (is178 e) t = absurd (rw e at t)
    go (is182 e) t = rw e refl
    go (is184 e) t = rw e refl

-- what is left of its item. Only 184 has more than 1 to take
module _ (extent : ℕ) (name : SharedRef) (sk : T (shared_kind name.kind)) (i : Item)
    (key : i.key ≡ key_of extent name.kind name.parent) (g : T (good i)) (bytes : T (are_bytes i.bytes))
    (amount : ℕ) (one≤ : 1 ≤ amount) (within : amount ≤ shared_count i) where
  abbrev left : ℕ
  left = shared_count i - amount

  more-184 : amount < shared_count i → i.key.kind ≡ 184
  unfolding shared_count
  more-184 h = go (eqb i.key.kind 184) refl h
    where
      go : (z : Bool) → eqb i.key.kind 184 ≡ z → amount < cond z (le i.bytes) 1 → i.key.kind ≡ 184
      go true q h = eqb→eq _ _ (subst T (sym q) tt)
      go false q h = absurd (omega arith)

  shared-stays : amount < shared_count i → Left (name_of (DropShared extent name amount)) i (shared_count i) amount (accepted (le_bytes 4 left))
  shared-stays less =
      let kind : i.key.kind ≡ 184 = more-184 less in
      let fits = shared-fits i (is184 kind) (ap (λ (n : ℕ). eqb n 178) kind) g bytes in
      let gd : T (good (with_bytes i (le_bytes 4 left))) = shared-good (with_bytes i (le_bytes 4 left)) kind (length-le_bytes 4 left) in
      stays less (le_bytes 4 left) refl (are_bytes-le_bytes 4 left) gd
      (keyed-entry (with_bytes i (le_bytes 4 left)) extent name.kind name.parent key (shared-naming name.kind sk) (not-178 name.kind sk) gd
      ∙ ap (λ (n : ℕ). only (name_of (DropShared extent name amount)) (some n)) (shared-set i left (omega arith) (omega arith)))

  shared-left : Left (name_of (DropShared extent name amount)) i (shared_count i) amount (less_item (shared_count i) amount)
  unfolding less_item
  shared-left = go (ltb amount (shared_count i)) refl
    where
      go : (z : Bool) → ltb amount (shared_count i) ≡ z
          → Left (name_of (DropShared extent name amount)) i (shared_count i) amount (cond z (accepted (le_bytes 4 left)) remove)
      go true q = shared-stays (ltb→lt amount (shared_count i) (subst T (sym q) tt))
      go false q =
          let l : shared_count i ≤ amount = nltb→le amount (shared_count i) (subst (λ (z : Bool). T (not z)) (sym q) tt) in
          goes (omega arith) refl

pub shared-proper : (extent : ℕ) (name : SharedRef) (amount : ℕ) → T (shared_kind name.kind) → Proper (shared_drop extent name amount)
shared-proper extent name amount sk =
    record {
      form = formed (DropShared extent name amount) sk;
      lowers = part-lowers amount;
      stands = λ items c b H balance tidies.
          plain-own (name_of (DropShared extent name amount)) items c b H balance tidies name.parent refl (not-178 name.kind sk);
      owns = λ items balance k same key others e. keyed-own extent name.kind name.parent (shared-naming name.kind sk) (not-178 name.kind sk) items balance k same key;
      lefts = λ items k O bytes key. shared-left extent name sk k.hit key O.is_good bytes amount;
    }
