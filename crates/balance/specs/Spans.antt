-- The pass over a record's references as code makes it. Assumes nothing.
use Rattle.std.specs.Prelude.{◌≡◌, Bool, true, false, not, cond, List, ℕ, ◌+◌, ◌*◌, ◌≤◌, ◌<◌, length, drop, Option, Some, None, IsSome}
use Rattle.std.specs.Option.{unwrap_or}
use Rattle.fields.specs.Lists.{sum, all, same}
use Rattle.format.specs.Questions.{Answer, result_or}
use Rattle.format.specs.References.{payload_length, Ref, ref_at, rank}
use Rattle.data_refs.specs.Triples.{triple_size, Distinct}
use Rattle.balance.specs.Ranks.{span_refs}
use Rattle.balance.specs.Tally.{RefRun, start, kept_run, admits, sound, weight_in}
use Rattle.balance.specs.declared.record.Run.{Run as Passed}
use Rattle.balance.specs.declared.record.Admitted.{Admitted}

-- the triple of the data reference at `at` is none of theirs
unfoldable pub clear : List ℕ → ℕ → ℕ → ℕ → Bool
clear body at from n = all (λ s. not (same s.fields (ref_at 178 (drop (at + 1) body)).fields)) (span_refs 178 body from n)

-- what the references passed are ordered by: as it was computed, else as the first of them has it
unfoldable pub last_rank : List ℕ → Passed → ℕ
last_rank body p = unwrap_or p.rank (rank (ref_at p.kind (drop (p.from + 1) body)))

unfoldable pub run_of : List ℕ → Passed → RefRun
run_of body p = record { kind = p.kind; rank = last_rank body p; back = span_refs p.kind body p.from p.n }

-- the data references from number n on, up to number m, have that rank
pub record OneRank (body : List ℕ) (from n m own : ℕ) : Type 0 where
  pub ranks : (i : ℕ) → n ≤ i → i < m → rank (ref_at 178 (drop (from + triple_size * i + 1) body)) ≡ own

-- the data references passed end where the next one stands; a rank that was not computed can be read; the triples of so many from
-- the first on differ, and those of them that were not passed are data references of the same hash
pub record RunKept (body : List ℕ) (p : Passed) (at : ℕ) : Type 0 where
  pub reaches : p.kind ≡ 178 → p.from + triple_size * p.n ≡ at
  pub inside : p.rank ≡ None → p.from + 1 + payload_length p.kind ≤ length body
  pub apart : Distinct body p.from p.known
  pub hashed : p.n < p.known → (p.kind ≡ 178) × IsSome p.rank
  pub ahead : OneRank body p.from p.n p.known (last_rank body p)

-- the data references passed and one more of their hash
abbrev pub one_more : Passed → Option ℕ → ℕ → Passed
one_more p rank known = record { kind = 178; rank = rank; from = p.from; n = p.n + 1; known = known }

-- what the answer says of the reference that ends at `next`
unfoldable pub Admitting : List ℕ → Passed → Ref → ℕ → Option Admitted → Type 0
Admitting body p r next None = admits (run_of body p) r ≡ false
Admitting body p r next (Some a) =
    (admits (run_of body p) r ≡ true) × ((run_of body a.run ≡ kept_run (run_of body p) r) × ((a.weight ≡ r.weight) × RunKept body a.run next))

-- the weight of the references that are left, after those of a run and their weight
unfoldable pub weighing : RefRun → ℕ → Answer (List Ref) → Option ℕ
weighing run weight answer = result_or None (λ refs. cond (sound run refs) (Some (weight + sum weight_in refs)) None) answer

unfoldable pub weighed_of : Answer (List Ref) → Option ℕ
weighed_of answer = weighing start 0 answer

-- each reference weighs less than 2 ^ 32
abbrev pub Light : ℕ → Option ℕ → Type 0
Light size (Some weight) = weight ≤ 4294967296 * size
Light size None = Unit {0}
