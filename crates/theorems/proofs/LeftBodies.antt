-- How many are left in a body or at an item (document 02, ticket 5): the reported number is read off the bytes that were written,
-- and these are a body that reads. Assumes nothing.
use mathlib.Core.Path.{◌≡◌, refl, sym, ap, ◌∙◌, subst}
use mathlib.Core.Bool.{Bool, true, false, ◌&&◌}
use mathlib.Core.List.{List, ◌∷◌, ◌++◌}
use Prim.Native.Nat.{ℕ}
use native.Mathlib.Omega.{arith}
use lib.Dec.{T, leb}
use lib.ListN.{length, take, drop}
use lib.Seq.{take-append_seam}
use Rattle.std.specs.Prelude.{Result, Ok, Err, Option, Some, None}
use Rattle.fields.specs.Lists.{all, Cut, first_cut}
use Rattle.fields.specs.Numbers.{are_bytes}
use Rattle.fields.proofs.Lists.{all_rest, cut-some}
use Rattle.format.specs.declared.SharedRef.{SharedRef}
use Rattle.format.specs.declared.Dropped.TheVariants.{Written}
use Rattle.format.specs.declared.Taken.{Taken}
use Rattle.format.specs.declared.Refusal.{Refusal}
use Rattle.format.specs.Questions.{Answer, refused, absent, remove, accepted, ask, bind, found, held, result_or, dropped_of, taken_of, TakenOut, bytes_of, lent, AnsweredDropped, AnsweredTaken}
use Rattle.format.specs.References.{Ref, Body, body_with, read_body, body_bytes}
use Rattle.format.specs.Bodies.{body_fits, held_body, held_taken, shared_kind, on_body, named, one, triple, lowered_by_one, less, drop_inline, drop_inline_tree_ref, drop_inline_data_ref, take_inline_shared, drop_keyed_data_ref}
use Rattle.format.specs.Left.{left_among, left_in, drop_inline_tree_ref_left, drop_inline_data_ref_left, take_inline_shared_left, drop_keyed_data_ref_left}
use Rattle.format.proofs.Answers.{ask-ok, bind_ok, found_ok, held-ok, accepted-inj}
use Rattle.format.proofs.Refs.{whole}
use Rattle.format.proofs.Left.{less-wholes}
use Rattle.format.proofs.Bodies.{Sound, sound-with, read-sound, read-body_bytes, are_bytes-body_bytes}
use Rattle.theorems.proofs.Lowered.{one_out}
use Rattle.theorems.specs.Left.{ReadsOff, LeftInBody, TreeRefLeft, DataRefLeft, SharedLeft, KeyedLeft}

-- ---- what an accepted call wrote and reported

pub record Wrote (a : Answer (List ℕ)) (left : ℕ) (new : List ℕ) (size n : ℕ) : Type 0 where
  pub result : List ℕ
  pub answers : a ≡ accepted result
  pub writes : take size new ≡ result
  pub reports : n ≡ left

pub wrote-out : (a : Answer (List ℕ)) (left : ℕ) (old new : List ℕ) (size n : ℕ) → AnsweredDropped a left (Ok (Written size n)) old new
    → Wrote a left new size n
unfolding dropped_of lent
wrote-out (refused k) left old new size n w = let e = w.result in absurd cc
wrote-out absent left old new size n w = let e = w.result in absurd cc
wrote-out remove left old new size n w = let e = w.result in absurd cc
wrote-out (accepted result) left old new size n w =
    record { result = result; answers = refl; writes = rw (sizes, w.output) (take-append_seam result (drop (length result) old)); reports = counts }
  where
    sizes : size ≡ length result
    sizes = let e = w.result in cc

    counts : n ≡ left
    counts = let e = w.result in cc

-- ---- whatever is read off a body

pub reads-off : ReadsOff
unfolding held_body
reads-off left a room old new size n w =
    let o = wrote-out (held_body room a) (result_or 0 left a) old new size n w in
    o.reports ∙ ap (result_or 0 left) (held-ok _ a o.answers).0 ∙ ap left (sym o.writes)

pub keyed-left : KeyedLeft
unfolding drop_keyed_data_ref_left
keyed-left item d room old new size n w = reads-off _ (drop_keyed_data_ref item d) room old new size n w

-- ---- the bytes of a body that reads

pub record Made (type : ℕ) (bytes : List ℕ) : Type 0 where
  pub body : Body
  pub reads : read_body type bytes ≡ accepted body
  pub raw : T (are_bytes bytes)

pub made_of : (type : ℕ) (bytes : List ℕ) (b : Body) → Sound type b → body_bytes b ≡ bytes → Made type bytes
made_of type bytes b s e =
    subst (Made type) e (record { body = b; reads = read-body_bytes type b s; raw = are_bytes-body_bytes type b s })

pub left-in : (type kind : ℕ) (fields bytes : List ℕ) (n : ℕ) → Made type bytes → n ≡ left_in type kind fields bytes
    → LeftInBody type kind fields bytes n
unfolding left_in
left-in type kind fields bytes n m e =
    record { body = m.body; reads = m.reads; sums = e ∙ ap (result_or 0 (λ b. left_among kind fields b.refs)) m.reads }

-- a body that reads, and where the reference stands in it
record Stood (type : ℕ) (d : List ℕ) (kind : ℕ) (fields : List ℕ) {A : Type 0} (next : Body → Cut Ref → Answer A) (a : A) : Type 0 where
  body : Body
  at : Cut Ref
  sound : Sound type body
  refs : body.refs ≡ at.front ++ at.hit ∷ at.back
  then : next body at ≡ accepted a

stood-out : {A : Type 0} (type : ℕ) (d : List ℕ) (kind : ℕ) (fields : List ℕ) (next : Body → Cut Ref → Answer A) (a : A) → T (are_bytes d)
    → on_body type d (λ b. bind (found (first_cut (named kind fields) b.refs)) (next b)) ≡ accepted a → Stood type d kind fields next a
unfolding on_body
stood-out type d kind fields next a t e =
    let h₁ = ask-ok (body_fits d) 3 _ e in
    let (b, reads, h₂) = bind_ok (read_body type d) _ h₁.1 in
    let (x, finds, h₃) = bind_ok (found (first_cut (named kind fields) b.refs)) _ h₂ in
    let f = cut-some (named kind fields) b.refs (found_ok (first_cut (named kind fields) b.refs) finds) in
    record { body = b; at = x; sound = read-sound type d b t reads; refs = f.same; then = h₃ }

pub drop-made : (type : ℕ) (d : List ℕ) (kind : ℕ) (fields : List ℕ) → T (are_bytes d) → (result : List ℕ)
    → drop_inline type d kind fields 1 (λ standing. lowered_by_one) ≡ accepted result → Made type result
unfolding drop_inline
drop-made type d kind fields t result e =
    let s = stood-out type d kind fields _ result t e in
    let b : Body = s.body in
    let x : Cut Ref = s.at in
    let (total, lowers, is) = bind_ok (lowered_by_one b.total) _ s.then in
    let (two, rest) = one_out b.total total lowers in
    let fits = s.sound.fits in
    let ws : T (all whole (x.front ++ x.hit ∷ x.back)) = rw s.refs at s.sound.wholes in
    made_of type result (body_with b total (x.front ++ (less x.hit 1 ++ x.back)))
    (sound-with type b total _ s.sound (omega arith) (less-wholes x ws 1)) (accepted-inj is)

pub take-made : (type : ℕ) (d : List ℕ) (s : SharedRef) → T (are_bytes d) → (result : List ℕ)
    → bytes_of (take_inline_shared type d s) ≡ accepted result → Made type result
unfolding take_inline_shared
take-made type d s t result e =
    let (out, takes, is) = bind_ok (take_inline_shared type d s) _ e in
    let h = ask-ok (shared_kind s.kind) 3 _ takes in
    let f = stood-out type d s.kind (one s.parent) _ out t h.1 in
    let b : Body = f.body in
    let x : Cut Ref = f.at in
    let ws : T (all whole (x.front ++ x.hit ∷ x.back)) = rw f.refs at f.sound.wholes in
    made_of type result (body_with b b.total (x.front ++ x.back))
    (sound-with type b b.total _ f.sound f.sound.fits (all_rest whole x.front x.hit x.back ws))
    (ap (λ (o : TakenOut). o.bytes) (accepted-inj f.then) ∙ accepted-inj is)

-- ---- the calls on bodies

-- by what their answer is made of
body-left : (type kind : ℕ) (fields : List ℕ) (a : Answer (List ℕ)) → ((result : List ℕ) → a ≡ accepted result → Made type result)
    → (room : ℕ) (old new : List ℕ) (size n : ℕ)
    → AnsweredDropped (held_body room a) (result_or 0 (left_in type kind fields) a) (Ok (Written size n)) old new
    → LeftInBody type kind fields (take size new) n
unfolding held_body
body-left type kind fields a makes room old new size n w =
    let o = wrote-out (held_body room a) (result_or 0 (left_in type kind fields) a) old new size n w in
    left-in type kind fields (take size new) n
    (makes (take size new) ((held-ok _ a o.answers).0 ∙ ap accepted (sym o.writes)))
    (reads-off (left_in type kind fields) a room old new size n w)

pub tree-ref-left : TreeRefLeft
unfolding drop_inline_tree_ref_left drop_inline_tree_ref
tree-ref-left type body block room old new size n t w =
    let fields : List ℕ = one block.tree in
    body-left type 176 fields (drop_inline_tree_ref type body block) (drop-made type body 176 fields t) room old new size n w

pub data-ref-left : DataRefLeft
unfolding drop_inline_data_ref_left drop_inline_data_ref
data-ref-left type body d room old new size n t w =
    body-left type 178 (triple d) (drop_inline_data_ref type body d) (drop-made type body 178 (triple d) t) room old new size n w

-- how many bytes a call that took a reference out wrote
abbrev out_size : Result (Option Taken) Refusal → ℕ
out_size (Ok (Some out)) = out.size
out_size (Ok None) = 0
out_size (Err refusal) = 0

-- a reference that is taken out goes as a drop that writes the same bytes
as_dropped : (a : Answer TakenOut) (left : ℕ) (old new : List ℕ) (size taken : ℕ) → AnsweredTaken a (Ok (Some (record { size = size; count = taken }))) old new
    → AnsweredDropped (bytes_of a) left (Ok (Written size left)) old new
unfolding taken_of dropped_of bind
as_dropped (refused k) left old new size taken w = let e = w.result in absurd cc
as_dropped absent left old new size taken w = let e = w.result in absurd cc
as_dropped remove left old new size taken w = let e = w.result in absurd cc
as_dropped (accepted out) left old new size taken w =
    record { result = ap (λ (k : ℕ). Ok (Written k left)) (ap out_size w.result); output = w.output }

held_bytes : (room : ℕ) (a : Answer TakenOut) → bytes_of (held_taken room a) ≡ held_body room (bytes_of a)
unfolding held_taken held_body held bind ask
held_bytes room (refused k) = refl
held_bytes room absent = refl
held_bytes room remove = refl
held_bytes room (accepted out) = go (leb (length out.bytes) room && body_fits out.bytes)
  where
    go : (c : Bool) → bytes_of (ask c 21 (accepted out)) ≡ ask c 21 (accepted out.bytes)
    go true = refl
    go false = refl

pub shared-left : SharedLeft
unfolding take_inline_shared_left
shared-left type body s room old new size taken t w =
    let a : Answer TakenOut = take_inline_shared type body s in
    let fields : List ℕ = one s.parent in
    let left : ℕ = take_inline_shared_left type body s in
    body-left type s.kind fields (bytes_of a) (take-made type body s t) room old new size left
    (subst (λ (x : Answer (List ℕ)). AnsweredDropped x left (Ok (Written size left)) old new) (held_bytes room a)
    (as_dropped (held_taken room a) left old new size taken w))
