-- From a call's own contract, and its answer as numbers, to what C is handed. Assumes nothing.
use mathlib.Core.Path.{◌≡◌, refl, sym, ap, ◌∙◌}
use mathlib.Core.Bool.{Bool, false, cond}
use mathlib.Core.List.{List, [], ◌∷◌}
use Prim.Native.Nat.{ℕ}
use lib.ListN.{length}
use Rattle.std.specs.Prelude.{Option, Result, Ok, Err}
use Rattle.std.specs.Result.{result_unwrap_or}
use Rattle.format.specs.declared.Refusal.{Refusal}
use Rattle.format.specs.declared.Edited.{Edited}
use Rattle.format.specs.declared.Taken.{Taken}
use Rattle.format.specs.declared.Key.{Key}
use Rattle.format.specs.declared.InlineRef.{InlineRef}
use Rattle.format.specs.Questions.{Answer, refused, absent, remove, accepted, bind, result_or, lent_number, lent_part, code_of, edited_of, TakenOut, bytes_of, taken_of, told_of, Answered, AnsweredTaken}
use Rattle.format.specs.Sheets.{item_data, item_start}
use Rattle.fields.proofs.Parts.{length_part}
use Rattle.leaf_edit.specs.declared.lookup.ItemRange.{ItemRange}
use Rattle.leaf_edit.specs.Lookups.{Ranged}
use Rattle.extent_refs.specs.Exports.{plain_code, Coded, CodedTaken, CodedNumber, CodedKey, CodedBool, CodedPart, CodedRef, edited_numbers, taken_numbers, told_numbers, filed_numbers, judged_numbers, picked_numbers, ranged_numbers}

edited-numbers : (a : Answer (List ℕ)) → edited_numbers (edited_of a) ≡ code_of a ∷ length (lent_part a) ∷ []
unfolding edited_of code_of lent_part
edited-numbers (refused refusal) = refl
edited-numbers absent = refl
edited-numbers remove = refl
edited-numbers (accepted result) = refl

pub coded : {a : Answer (List ℕ)} {answer : Result Edited Refusal} {r len : ℕ} {old new : List ℕ} → Answered a answer old new
    → r ∷ len ∷ [] ≡ edited_numbers answer → Coded a r len old new
coded {a} h e =
    let p = e ∙ ap edited_numbers h.result ∙ edited-numbers a in record { code = cc; size = cc; output = h.output }

taken-numbers : (a : Answer TakenOut) → taken_numbers (taken_of a) ≡ code_of a ∷ length (lent_part (bytes_of a)) ∷ result_or 0 (λ out. out.count) a ∷ []
unfolding taken_of code_of lent_part bind
taken-numbers (refused refusal) = refl
taken-numbers absent = refl
taken-numbers remove = refl
taken-numbers (accepted result) = refl

pub coded-taken : {a : Answer TakenOut} {answer : Result (Option Taken) Refusal} {r len count : ℕ} {old new : List ℕ} → AnsweredTaken a answer old new
    → r ∷ len ∷ count ∷ [] ≡ taken_numbers answer → CodedTaken a r len count old new
coded-taken {a} h e =
    let p = e ∙ ap taken_numbers h.result ∙ taken-numbers a in record { code = cc; size = cc; number = cc; output = h.output }

told-numbers : (a : Answer ℕ) → told_numbers (told_of a) ≡ code_of a ∷ lent_number a ∷ []
unfolding told_of code_of lent_number
told-numbers (refused refusal) = refl
told-numbers absent = refl
told-numbers remove = refl
told-numbers (accepted result) = refl

pub coded-number : {a : Answer ℕ} {answer : Result ℕ Refusal} {r value : ℕ} → answer ≡ told_of a → r ∷ value ∷ [] ≡ told_numbers answer
    → CodedNumber a r value
coded-number {a} h e = let p = e ∙ ap told_numbers h ∙ told-numbers a in record { code = cc; number = cc }

filed-numbers : (a : Answer Key) → filed_numbers (told_of a) ≡ code_of a ∷ result_or 0 (λ key. key.objectid) a ∷ result_or 0 (λ key. key.kind) a ∷ result_or 0 (λ key. key.offset) a ∷ []
unfolding told_of code_of
filed-numbers (refused refusal) = refl
filed-numbers absent = refl
filed-numbers remove = refl
filed-numbers (accepted result) = refl

pub coded-key : {a : Answer Key} {answer : Result Key Refusal} {r objectid kind offset : ℕ} → answer ≡ told_of a
    → r ∷ objectid ∷ kind ∷ offset ∷ [] ≡ filed_numbers answer → CodedKey a r objectid kind offset
coded-key {a} h e = let p = e ∙ ap filed_numbers h ∙ filed-numbers a in record { code = cc; first = cc; second = cc; third = cc }

judged-numbers : (a : Answer Bool) → judged_numbers (told_of a) ≡ code_of a ∷ result_or 0 (λ judgement. cond judgement 1 0) a ∷ []
unfolding told_of code_of
judged-numbers (refused refusal) = refl
judged-numbers absent = refl
judged-numbers remove = refl
judged-numbers (accepted result) = refl

pub coded-bool : {a : Answer Bool} {answer : Result Bool Refusal} {r value : ℕ} → answer ≡ told_of a → r ∷ value ∷ [] ≡ judged_numbers answer
    → CodedBool a r value
coded-bool {a} h e = let p = e ∙ ap judged_numbers h ∙ judged-numbers a in record { code = cc; number = cc }

picked-numbers : (a : Answer InlineRef) → picked_numbers (told_of a) ≡ code_of a ∷ result_or 0 (λ x. x.kind) a ∷ result_or 0 (λ x. x.offset) a ∷ result_or 0 (λ x. x.start) a ∷ result_or 0 (λ x. x.len) a ∷ []
unfolding told_of code_of
picked-numbers (refused refusal) = refl
picked-numbers absent = refl
picked-numbers remove = refl
picked-numbers (accepted result) = refl

pub coded-ref : {a : Answer InlineRef} {answer : Result InlineRef Refusal} {r kind offset start len : ℕ} → answer ≡ told_of a
    → r ∷ kind ∷ offset ∷ start ∷ len ∷ [] ≡ picked_numbers answer → CodedRef a r kind offset start len
coded-ref {a} h e =
    let p = e ∙ ap picked_numbers h ∙ picked-numbers a in record { code = cc; type = cc; field = cc; first = cc; size = cc }

-- ---- the numbers of a result or a refusal, from its code and what stands for a result that is not there

pub told_coded : (answer : Result ℕ Refusal) → plain_code answer ∷ result_unwrap_or answer 0 ∷ [] ≡ told_numbers answer
unfolding plain_code
told_coded (Ok number) = refl
told_coded (Err refusal) = refl

pub judged_coded : (answer : Result Bool Refusal) → plain_code answer ∷ cond (result_unwrap_or answer false) 1 0 ∷ [] ≡ judged_numbers answer
unfolding plain_code
judged_coded (Ok judgement) = refl
judged_coded (Err refusal) = refl

abbrev no_key : Key
no_key = record { objectid = 0; kind = 0; offset = 0 }

pub filed_coded : (answer : Result Key Refusal)
    → plain_code answer ∷ (result_unwrap_or answer no_key).objectid ∷ (result_unwrap_or answer no_key).kind ∷ (result_unwrap_or answer no_key).offset ∷ []
    ≡ filed_numbers answer
unfolding plain_code
filed_coded (Ok key) = refl
filed_coded (Err refusal) = refl

abbrev no_ref : InlineRef
no_ref = record { kind = 0; offset = 0; start = 0; len = 0 }

pub picked_coded : (answer : Result InlineRef Refusal)
    → plain_code answer ∷ (result_unwrap_or answer no_ref).kind ∷ (result_unwrap_or answer no_ref).offset ∷ (result_unwrap_or answer no_ref).start
    ∷ (result_unwrap_or answer no_ref).len ∷ []
    ≡ picked_numbers answer
unfolding plain_code
picked_coded (Ok reference) = refl
picked_coded (Err refusal) = refl

abbrev no_range : ItemRange
no_range = record { start = 0; size = 0 }

pub ranged_coded : (answer : Result ItemRange Refusal)
    → plain_code answer ∷ (result_unwrap_or answer no_range).start ∷ (result_unwrap_or answer no_range).size ∷ [] ≡ ranged_numbers answer
unfolding plain_code
ranged_coded (Ok range) = refl
ranged_coded (Err refusal) = refl

-- ---- an item's range

pub coded-part : (sheet : List ℕ) (number : ℕ) (answer : Result ItemRange Refusal) {r start len : ℕ} → Ranged sheet number answer
    → r ∷ start ∷ len ∷ [] ≡ ranged_numbers answer → CodedPart (item_data sheet number) (item_start sheet number) r start len
unfolding code_of lent_number lent_part
coded-part sheet number (Ok range) {r} {start} {len} (d, at, fits) e =
    let z : r ≡ 0 = cc in
    let p : start ≡ range.start = cc in
    let q : len ≡ range.size = cc in
    record {
      code = z ∙ sym (ap code_of d);
      first = p ∙ sym (ap lent_number at);
      size = q ∙ sym (length_part range.size range.start sheet fits) ∙ sym (ap (λ (a : Answer (List ℕ)). length (lent_part a)) d);
    }
coded-part sheet number (Err refusal) {r} {start} {len} (d, at) e =
    let z : r ≡ refusal.number = cc in
    let p : start ≡ 0 = cc in
    let q : len ≡ 0 = cc in
    record {
      code = z ∙ sym (ap code_of d);
      first = p ∙ sym (ap lent_number at);
      size = q ∙ sym (ap (λ (a : Answer (List ℕ)). length (lent_part a)) d);
    }
