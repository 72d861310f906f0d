-- A planned body put into an extent's record, with question 17: from the bytes to the items. Assumes nothing.
use mathlib.Core.Path.{◌≡◌, refl, sym, ap, ◌∙◌, subst}
use mathlib.Core.Bool.{Bool, true, false}
use mathlib.Core.List.{List}
use Prim.Native.Nat.{ℕ}
use lib.Dec.{leb}
use lib.ListN.{length}
use Rattle.fields.specs.Lists.{Cut}
use Rattle.std.specs.Prelude.{Result, Ok, Err}
use Rattle.format.specs.declared.Edited.{Edited}
use Rattle.format.specs.declared.Refusal.{Refusal}
use Rattle.format.specs.Questions.{Answer, refused, accepted, ask, bind, held, denied, told_of, Answered}
use Rattle.format.specs.Items.{Item, held_sheet, put_back}
use Rattle.format.specs.Apply.{record_number}
use Rattle.backref.specs.declared.plan.Plan.{Plan}
use Rattle.backref.specs.Plans.{plan_answer}
use Rattle.record_edit.specs.declared.RecordAt.{RecordAt}
use Rattle.record_edit.specs.Records.{data_of, nothing, edited_sheet, held_record, held_edit, asked_sheet, RecordMissing, RecordFound}
use Rattle.record_edit.proofs.Held.{held-bind}
use Rattle.record_edit.proofs.Stands.{Stands}
use Rattle.record_edit.proofs.Searches.{on-refused, on-missing, on-found}
use Rattle.transaction.proofs.Puts.{held-second, as_it_was}

-- ---- record_of

pub number-refused : (s : List ℕ) (extent : ℕ) (x : Refusal) → asked_sheet s true ≡ refused x.number → Err x ≡ told_of (record_number s extent)
unfolding record_number told_of
number-refused s extent x e = sym (ap told_of (on-refused s true x.number _ e))

pub number-missing : {s : List ℕ} {extent : ℕ} → RecordMissing s extent true → denied 5 ≡ told_of (record_number s extent)
unfolding record_number told_of
number-missing l = sym (ap told_of (on-missing l (λ items c. accepted (length c.front))))

pub number-told : {s : List ℕ} {extent index : ℕ} {target : RecordAt} → RecordFound s extent true index target → Ok index ≡ told_of (record_number s extent)
unfolding record_number told_of
number-told h = ap Ok h.index_is ∙ sym (ap told_of (on-found h (λ items c. accepted (length c.front))))

-- ---- another body

module _ {s : List ℕ} {c : Cut Item} {target : RecordAt} (st : Stands s c target) (room limit : ℕ) where
  abbrev put : List ℕ → Answer (List ℕ)
  put d = held_edit room target.item_count limit (edited_sheet s target (nothing (length s))) d

  -- question 17 as the call puts it
  limited : (test : Bool) (d : List ℕ) → test ≡ leb (length d) limit → held_sheet room (ask test 17 (accepted (put_back c d))) ≡ put d
  unfolding held_edit ask held_sheet held bind
  limited test d e = rw e (go (leb (length d) limit))
    where
      go : (b : Bool)
          → held_sheet room (ask b 17 (accepted (put_back c d)))
          ≡ ask b 17 (held_record room target.item_count (length d) (edited_sheet s target (nothing (length s)) d))
      go true = held-second st (as_it_was st) room d
      go false = refl

  pub put-limited : (plan : Result Plan Refusal) (a : Answer (List ℕ)) (test : List ℕ → Bool) (call : Answer (List Item)) (r : Result Edited Refusal) (old new : List ℕ)
      → ((d : List ℕ) → a ≡ accepted d → test d ≡ leb (length d) limit)
      → call ≡ bind a (λ d. ask (test d) 17 (accepted (put_back c d)))
      → plan_answer plan (data_of s target.start target.end) ≡ a
      → Answered (bind (plan_answer plan (data_of s target.start target.end)) put) r old new
      → Answered (held_sheet room call) r old new
  put-limited plan a test call r old new tests is says w =
      let h : held_sheet room call ≡ bind a put = ap (held_sheet room) is ∙ held-bind room a _ _ (λ d e. limited (test d) d (tests d e)) in
      subst (λ (x : Answer (List ℕ)). Answered x r old new) (ap (λ (x : Answer (List ℕ)). bind x put) says ∙ sym h) w
