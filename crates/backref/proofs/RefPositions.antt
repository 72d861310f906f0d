-- Laws of the pass that writes, and of the call's ways out. Assumes nothing.
use mathlib.Core.Path.{◌≡◌, refl, sym, ap, subst, ◌∙◌}
use mathlib.Core.Bool.{cond}
use mathlib.Core.List.{List, [], ◌∷◌, ◌++◌, append_assoc, append-nil}
use Prim.Native.Nat.{ℕ, suc, ◌+◌, ◌*◌, ◌≤◌, ◌<◌}
use native.Mathlib.Omega.{arith}
use lib.ListN.{length, drop, set, length-append}
use borrow.Author.Tests.{le-leb, lt-leb}
use Rattle.std.specs.Prelude.{Ok}
use Rattle.fields.specs.Parts.{written}
use Rattle.fields.proofs.Numbers.{length-words}
use Rattle.fields.proofs.Parts.{stores_one, written_next, length-written}
use Rattle.format.specs.declared.Edited.TheVariants.{Written}
use Rattle.format.specs.Questions.{Answer, refused, accepted, ask, bind, denied, held, Answered}
use Rattle.format.specs.References.{counted, field_count, Ref, ref_at, start_of}
use Rattle.format.specs.Bodies.{positions, inline_refs}
use Rattle.format.specs.Sheets.{held_cuts}
use Rattle.format.proofs.Answers.{accepted-inj, refused-not, bind_ok}
use Rattle.format.proofs.Outputs.{answered-refused, answered-written}
use Rattle.format.proofs.Refs.{read_refs-decides}
use Rattle.format.proofs.Rows.{payload-fields}
use Rattle.inline_refs.specs.Steps.{read_from}
use Rattle.inline_refs.specs.Scans.{refs_in, ref_count_of}
use Rattle.inline_refs.proofs.Steps.{At}
use Rattle.inline_refs.proofs.Notes.{Opens, on-refs}
use Rattle.inline_refs.proofs.Counts.{count-reads, fault-reads}
use Rattle.backref.specs.Reads.{positions_in}

-- ---- one reference further

module _ (s : List ℕ) (at k p n q next : ℕ) (h : At s at k p n q next) where
  next-is : at + (1 + 8 * length (ref_at k (drop p s)).fields + cond (counted k) 4 0) ≡ next
  unfolding ref_at
  next-is = omega (arith, h.further, h.long, payload-fields k h.kind_known, length-words (field_count k) (drop p s))

  -- what is left to read, behind a reference
  pub record Further (rest : List Ref) : Type 0 where
    pub others : List Ref
    pub is : rest ≡ ref_at k (drop p s) ∷ others
    pub reads : read_from s next ≡ accepted others
    pub places : positions at rest ≡ at ∷ positions next others

  pub further : (rest : List Ref) → read_from s at ≡ accepted rest → Further rest
  unfolding positions ref_at
  further rest e =
      let w = bind_ok (read_from s next) _ (sym h.reads ∙ e) in
      record {
        others = w.0;
        is = sym (accepted-inj w.2);
        reads = w.1;
        places = ap (positions at) (sym (accepted-inj w.2)) ∙ ap (λ (m : ℕ). at ∷ positions m w.0) next-is;
      }

length-positions : (at : ℕ) (refs : List Ref) → length (positions at refs) ≡ length refs
unfolding positions
length-positions at [] = refl
length-positions at (r ∷ refs) = ap suc (length-positions (at + (1 + 8 * length r.fields + cond {A = ℕ} (counted r.kind) 4 0)) refs)

-- ---- the pass

pub record Placing (s lent₀ now : List ℕ) (start at i : ℕ) : Type 0 where
  pub rest : List Ref
  pub done : List ℕ
  pub reads : read_from s at ≡ accepted rest
  pub all : positions_in start (read_from s start) ≡ done ++ positions at rest
  pub wrote : now ≡ written 0 done lent₀
  pub many : length done ≡ i
  pub long : length now ≡ length lent₀
  pub room : i + length (positions at rest) ≤ length lent₀

module _ (s lent₀ : List ℕ) (start : ℕ) where
  pub placing-none : (count : ℕ) → Ok count ≡ ref_count_of (read_from s start) → count ≤ length lent₀ → Placing s lent₀ lent₀ start start 0
  unfolding positions_in
  placing-none count e h =
      let w = count-reads (read_from s start) count e in
      record {
        rest = w.refs;
        done = [];
        reads = w.is;
        all = ap (positions_in start) w.is;
        wrote = refl;
        many = refl;
        long = refl;
        room = omega (arith, w.many, length-positions start w.refs);
      }

  module _ (now : List ℕ) (at i : ℕ) (w : Placing s lent₀ now start at i) where
    pub placing-all : read_from s at ≡ accepted [] → now ≡ written 0 (positions_in start (read_from s start)) lent₀
    unfolding positions
    placing-all e =
        let z : [] ≡ w.rest = accepted-inj (sym e ∙ w.reads) in
        let d : positions_in start (read_from s start) ≡ w.done =
        w.all ∙ ap (λ (l : List Ref). w.done ++ positions at l) (sym z) ∙ append-nil w.done in
        w.wrote ∙ ap (λ (l : List ℕ). written 0 l lent₀) (sym d)

    pub placing-fault : {X : Type 0} (n : ℕ) → read_from s at ≡ refused n → X
    placing-fault n e = refused-not (sym e ∙ w.reads)

    module _ (k p n q next : ℕ) (h : At s at k p n q next) where
      abbrev more : Further s at k p n q next h w.rest
      more = further s at k p n q next h w.rest w.reads

      pub room-left : i < length now
      room-left = omega (arith, w.room, w.long, ap length more.places)

      pub placing-next : Placing s lent₀ (set now i at) start next (i + 1)
      placing-next =
          let m = more in
          let l : length (positions at w.rest) ≡ 1 + length (positions next m.others) = omega (arith, ap length m.places) in
          let r : i + 1 ≤ length now = omega (arith, w.room, w.long) in
          let z : i + length (at ∷ []) ≤ length lent₀ = omega (arith, w.room) in
          let both : length (w.done ++ at ∷ []) ≡ i + 1 = omega (arith, length-append w.done (at ∷ []), w.many) in
          let new : set now i at ≡ written 0 (w.done ++ at ∷ []) lent₀ =
          stores_one now i at r ∙ ap (written i (at ∷ [])) w.wrote ∙ written_next w.done (at ∷ []) lent₀ i w.many z in
          let y : 0 + length (w.done ++ at ∷ []) ≤ length lent₀ = omega arith in
          record {
            rest = m.others;
            done = w.done ++ at ∷ [];
            reads = m.reads;
            all = w.all ∙ ap (λ (x : List ℕ). w.done ++ x) m.places ∙ sym (append_assoc w.done (at ∷ []) (positions next m.others));
            wrote = new;
            many = both;
            long = ap length new ∙ length-written 0 (w.done ++ at ∷ []) lent₀ y;
            room = omega (arith, w.room);
          }

-- ---- the call

module _ (type : ℕ) (s : List ℕ) where
  calls : inline_refs type s ≡ bind (refs_in type s) (λ refs. accepted (positions (start_of type s) refs))
  unfolding inline_refs
  calls = on-refs type s (λ refs. accepted (positions (start_of type s) refs))

  pub call-shut : (n : ℕ) (old : List ℕ) → refs_in type s ≡ refused n → Answered (held_cuts (length old) (inline_refs type s)) (denied n) old old
  unfolding held_cuts held bind
  call-shut n old e =
      answered-refused old (ap (held_cuts (length old)) (calls ∙ ap (λ (x : Answer (List Ref)). bind x (λ refs. accepted (positions (start_of type s) refs))) e))

  module _ (start : ℕ) (o : Opens type s start) where
    pub call-fault : (n : ℕ) (old : List ℕ) → denied n ≡ ref_count_of (read_from s start)
        → Answered (held_cuts (length old) (inline_refs type s)) (denied n) old old
    unfolding read_from
    call-fault n old e = call-shut n old (o.reads ∙ fault-reads (read_from s start) n (read_refs-decides (length (drop start s)) (drop start s)) e)

    module _ (count : ℕ) (e : Ok count ≡ ref_count_of (read_from s start)) where
      call-is : (inline_refs type s ≡ accepted (positions_in start (read_from s start))) × (count ≡ length (positions_in start (read_from s start)))
      unfolding positions_in bind
      call-is =
          let w = count-reads (read_from s start) count e in
          let z : positions_in start (read_from s start) ≡ positions start w.refs = ap (positions_in start) w.is in (
            calls ∙ ap (λ (x : Answer (List Ref)). bind x (λ refs. accepted (positions (start_of type s) refs))) (o.reads ∙ w.is)
                ∙ ap (λ (m : ℕ). accepted (positions m w.refs)) (sym o.at) ∙ ap accepted (sym z),
            w.many ∙ sym (ap length z ∙ length-positions start w.refs),
          )

      pub call-short : (old : List ℕ) → length old < count → Answered (held_cuts (length old) (inline_refs type s)) (denied 21) old old
      unfolding held_cuts held bind ask
      call-short old h =
          let l : length old < length (positions_in start (read_from s start)) = omega (arith, call-is.1) in
          answered-refused old (ap (held_cuts (length old)) call-is.0 ∙ simp (lt-leb _ _ l))

      pub call-writes : (old new : List ℕ) → count ≤ length old → new ≡ written 0 (positions_in start (read_from s start)) old
          → Answered (held_cuts (length old) (inline_refs type s)) (Ok (Written count)) old new
      unfolding held_cuts held bind ask
      call-writes old new h w =
          let l : length (positions_in start (read_from s start)) ≤ length old = omega (arith, call-is.1) in
          let fits : held_cuts (length old) (accepted (positions_in start (read_from s start))) ≡ accepted (positions_in start (read_from s start)) = simp (le-leb _ _ l) in
          subst (λ (m : ℕ). Answered (held_cuts (length old) (inline_refs type s)) (Ok (Written m)) old new) (sym call-is.1)
          (answered-written (ap (held_cuts (length old)) call-is.0 ∙ fits) w)
