-- Faults by their ranks.
use Rattle.std.proofs.Common.{◌≡◌, ℕ, ◌+◌, ◌<◌, ◌≤◌, inl, inr, refl, ⊎_elim, arith, length, zero, suc, Result, Ok, Err, MatchResult}
use Rattle.std.proofs.lemmas.Bool.{cases_lt}
use Rattle.book_files.specs.declared.records.FileKind.TheVariants as kinds
use Rattle.book_design.specs.declared.fault.DesignFault.{DesignFault}
use Rattle.book_design.specs.declared.fault.DesignFault.TheVariants as faults
use Rattle.book_design.specs.declared.fault.JoinError.{JoinError}
use Rattle.book_design.specs.declared.fault.JoinError.TheVariants as errors
use Rattle.book_design.specs.declared.rules.TheConstants.{MOST_NODES, MOST_PINS, MOST_SUBROWS}
use Rattle.book_design.specs.Records.{Records, node_at, pin_at, pin_lines, strips, strip_at}
use Rattle.book_design.specs.Faults.{IsFirst, HasEarlierName, IsUnknownPin, IsWithoutPlace, IsMixedRow, IsOverlapping, IsTall, HasManySites, HasBadWeight, IsPastEnd, IsFault, IsPastLimit, IsFirstFault, HasNoFault, rank}
use Rattle.book_design.specs.Values.{DesignValue}
use Rattle.book_design.specs.Joined.{HasSite, Joins}
use Rattle.book_design.specs.Answers.{Answers}
use Rattle.book_design.specs.Forms.Steps.{HasKnownNames, IsFreeFrom, IsFirstFrom, Stops}

-- Of each kind: without it, its rank is free.
pub free_names : (records : Records) → ((i : ℕ) → HasEarlierName records i → ⊥) → IsFreeFrom records 1 2
free_names records none (faults.DuplicateName line) above below h = none h.0 h.1.here
free_names records none _ above below h = omega arith

pub free_known : (records : Records) → HasKnownNames records → IsFreeFrom records 2 3
free_known records known (faults.UnknownName kinds.Nets line) above below h = known.pins h.0 h.1.here
free_known records known (faults.UnknownName kinds.Pl line) above below h = known.places h.1.0 h.1.1.here
free_known records known (faults.UnknownName _ line) above below h = h
free_known records known _ above below h = omega arith

pub free_placed : (records : Records) → ((i : ℕ) → IsWithoutPlace records i → ⊥) → IsFreeFrom records 3 4
free_placed records none (faults.NoPosition node) above below h = none node h.here
free_placed records none _ above below h = omega arith

pub free_some : (records : Records) → (s : ℕ) × HasSite records s → IsFreeFrom records 4 5
free_some records some faults.NoRows above below h = let none = h some.0 some.1.0 in let more = some.1.1 in omega arith
free_some records some _ above below h = omega arith

pub free_even : (records : Records) → ((r : ℕ) → IsMixedRow records r → ⊥) → IsFreeFrom records 5 6
free_even records none (faults.MixedRows row) above below h = none row h.here
free_even records none _ above below h = omega arith

pub free_apart : (records : Records) → ((s : ℕ) → IsOverlapping (strips records) s → ⊥) → IsFreeFrom records 6 7
free_apart records none (faults.RowsOverlap row) above below h = none h.0 h.1.here
free_apart records none _ above below h = omega arith

-- a limit's kind is one of six
pub limit_kind : (records : Records) (kind number : ℕ) → IsPastLimit records kind number → (1 ≤ kind) × (kind ≤ 6)
limit_kind records kind number (inl h) = (omega arith, omega arith)
limit_kind records kind number (inr (inl h)) = (omega arith, omega arith)
limit_kind records kind number (inr (inr (inl h))) = (omega arith, omega arith)
limit_kind records kind number (inr (inr (inr (inl h)))) = (omega arith, omega arith)
limit_kind records kind number (inr (inr (inr (inr (inl h))))) = (omega arith, omega arith)
limit_kind records kind number (inr (inr (inr (inr (inr h))))) = (omega arith, omega arith)

pub free_tall : (records : Records) → ((i : ℕ) → IsTall records i → ⊥) → IsFreeFrom records 7 8
free_tall records none (faults.TallCell node) above below h = none node h.here
free_tall records none (faults.Limit kind number) above below h = let within = limit_kind records kind number h in omega arith
free_tall records none _ above below h = omega arith

pub free_nodes : (records : Records) → (length records.nodes ≤ MOST_NODES) → IsFreeFrom records 8 9
free_nodes records free (faults.Limit kind number) above below (inl h) = omega (arith, h.1, h.2)
free_nodes records free (faults.Limit kind number) above below (inr (inl h)) = omega (arith, h.0)
free_nodes records free (faults.Limit kind number) above below (inr (inr (inl h))) = omega (arith, h.0)
free_nodes records free (faults.Limit kind number) above below (inr (inr (inr (inl h)))) = omega (arith, h.0)
free_nodes records free (faults.Limit kind number) above below (inr (inr (inr (inr (inl h))))) = omega (arith, h.0)
free_nodes records free (faults.Limit kind number) above below (inr (inr (inr (inr (inr h))))) = omega (arith, h.0)
free_nodes records free _ above below h = omega arith

pub free_pins : (records : Records) → (length (pin_lines records) ≤ MOST_PINS) → IsFreeFrom records 9 10
free_pins records free (faults.Limit kind number) above below (inl h) = omega (arith, h.0)
free_pins records free (faults.Limit kind number) above below (inr (inl h)) = omega (arith, h.1, h.2)
free_pins records free (faults.Limit kind number) above below (inr (inr (inl h))) = omega (arith, h.0)
free_pins records free (faults.Limit kind number) above below (inr (inr (inr (inl h)))) = omega (arith, h.0)
free_pins records free (faults.Limit kind number) above below (inr (inr (inr (inr (inl h))))) = omega (arith, h.0)
free_pins records free (faults.Limit kind number) above below (inr (inr (inr (inr (inr h))))) = omega (arith, h.0)
free_pins records free _ above below h = omega arith

pub free_subrows : (records : Records) → (length (strips records) ≤ MOST_SUBROWS) → IsFreeFrom records 10 11
free_subrows records free (faults.Limit kind number) above below (inl h) = omega (arith, h.0)
free_subrows records free (faults.Limit kind number) above below (inr (inl h)) = omega (arith, h.0)
free_subrows records free (faults.Limit kind number) above below (inr (inr (inl h))) = omega (arith, h.1, h.2)
free_subrows records free (faults.Limit kind number) above below (inr (inr (inr (inl h)))) = omega (arith, h.0)
free_subrows records free (faults.Limit kind number) above below (inr (inr (inr (inr (inl h))))) = omega (arith, h.0)
free_subrows records free (faults.Limit kind number) above below (inr (inr (inr (inr (inr h))))) = omega (arith, h.0)
free_subrows records free _ above below h = omega arith

pub free_sites : (records : Records) → ((s : ℕ) → HasManySites records s → ⊥) → IsFreeFrom records 11 12
free_sites records free (faults.Limit kind number) above below (inl h) = omega (arith, h.0)
free_sites records free (faults.Limit kind number) above below (inr (inl h)) = omega (arith, h.0)
free_sites records free (faults.Limit kind number) above below (inr (inr (inl h))) = omega (arith, h.0)
free_sites records free (faults.Limit kind number) above below (inr (inr (inr (inl h)))) = free h.1.0 h.1.1.here
free_sites records free (faults.Limit kind number) above below (inr (inr (inr (inr (inl h))))) = omega (arith, h.0)
free_sites records free (faults.Limit kind number) above below (inr (inr (inr (inr (inr h))))) = omega (arith, h.0)
free_sites records free _ above below h = omega arith

pub free_weights : (records : Records) → ((n : ℕ) → HasBadWeight records n → ⊥) → IsFreeFrom records 12 13
free_weights records free (faults.Limit kind number) above below (inl h) = omega (arith, h.0)
free_weights records free (faults.Limit kind number) above below (inr (inl h)) = omega (arith, h.0)
free_weights records free (faults.Limit kind number) above below (inr (inr (inl h))) = omega (arith, h.0)
free_weights records free (faults.Limit kind number) above below (inr (inr (inr (inl h)))) = omega (arith, h.0)
free_weights records free (faults.Limit kind number) above below (inr (inr (inr (inr (inl h))))) = free number h.1.here
free_weights records free (faults.Limit kind number) above below (inr (inr (inr (inr (inr h))))) = omega (arith, h.0)
free_weights records free _ above below h = omega arith

pub free_ends : (records : Records) → ((r : ℕ) → IsPastEnd records r → ⊥) → IsFreeFrom records 13 14
free_ends records free (faults.Limit kind number) above below (inl h) = omega (arith, h.0)
free_ends records free (faults.Limit kind number) above below (inr (inl h)) = omega (arith, h.0)
free_ends records free (faults.Limit kind number) above below (inr (inr (inl h))) = omega (arith, h.0)
free_ends records free (faults.Limit kind number) above below (inr (inr (inr (inl h)))) = omega (arith, h.0)
free_ends records free (faults.Limit kind number) above below (inr (inr (inr (inr (inl h))))) = omega (arith, h.0)
free_ends records free (faults.Limit kind number) above below (inr (inr (inr (inr (inr h))))) = free number h.1.here
free_ends records free _ above below h = omega arith

pub free_both : (records : Records) (low mid high : ℕ) → IsFreeFrom records low mid → IsFreeFrom records mid high → IsFreeFrom records low high
free_both records low mid high one two fault above below h = ⊎_elim (λ less. one fault above less h) (λ more. two fault more below h) (cases_lt (rank fault) mid)

-- What has no first place has no place.
pub none_of : (Holds : ℕ → Type 0) → ((i : ℕ) → IsFirst Holds i → ⊥) → (i : ℕ) → Holds i → ⊥
none_of Holds never i h = below (i + 1) i (omega arith) h where
  below : (n j : ℕ) → j < n → Holds j → ⊥
  below zero j less h = omega arith
  below (suc n) j less h = never j (record { here = h; not_before = λ k before. below n k (omega arith) })

-- Where no rank has a fault, there is nothing of any kind.
pub distinct_of : (records : Records) → IsFreeFrom records 1 14 → (i : ℕ) → HasEarlierName records i → ⊥
distinct_of records free = none_of (HasEarlierName records) (λ i first. free (faults.DuplicateName (node_at records i).line) (omega arith) (omega arith) (i, first, refl))

pub pins_of : (records : Records) → IsFreeFrom records 1 14 → (i : ℕ) → IsUnknownPin records i → ⊥
pins_of records free = none_of (IsUnknownPin records) (λ i first. free (faults.UnknownName kinds.Nets (pin_at records i).line) (omega arith) (omega arith) (i, first, refl))

pub even_of : (records : Records) → IsFreeFrom records 1 14 → (r : ℕ) → IsMixedRow records r → ⊥
even_of records free = none_of (IsMixedRow records) (λ r first. free (faults.MixedRows r) (omega arith) (omega arith) first)

pub apart_of : (records : Records) → IsFreeFrom records 1 14 → (s : ℕ) → IsOverlapping (strips records) s → ⊥
apart_of records free = none_of (IsOverlapping (strips records)) (λ s first. free (faults.RowsOverlap (strip_at records s).row) (omega arith) (omega arith) (s, first, refl))

pub low_of : (records : Records) → IsFreeFrom records 1 14 → (i : ℕ) → IsTall records i → ⊥
low_of records free = none_of (IsTall records) (λ i first. free (faults.TallCell i) (omega arith) (omega arith) first)

pub nodes_of : (records : Records) → IsFreeFrom records 1 14 → length records.nodes ≤ MOST_NODES
nodes_of records free = ⊎_elim (λ less. absurd (free (faults.Limit 1 (length records.nodes)) (omega arith) (omega arith) (inl (refl, refl, less)))) (λ more. more) (cases_lt MOST_NODES (length records.nodes))

pub pin_count_of : (records : Records) → IsFreeFrom records 1 14 → length (pin_lines records) ≤ MOST_PINS
pin_count_of records free = ⊎_elim (λ less. absurd (free (faults.Limit 2 (length (pin_lines records))) (omega arith) (omega arith) (inr (inl (refl, refl, less))))) (λ more. more) (cases_lt MOST_PINS (length (pin_lines records)))

pub subrows_of : (records : Records) → IsFreeFrom records 1 14 → length (strips records) ≤ MOST_SUBROWS
subrows_of records free = ⊎_elim (λ less. absurd (free (faults.Limit 3 (length (strips records))) (omega arith) (omega arith) (inr (inr (inl (refl, refl, less)))))) (λ more. more) (cases_lt MOST_SUBROWS (length (strips records)))

pub sites_of : (records : Records) → IsFreeFrom records 1 14 → (s : ℕ) → HasManySites records s → ⊥
sites_of records free = none_of (HasManySites records) (λ s first. free (faults.Limit 4 (strip_at records s).sites) (omega arith) (omega arith) (inr (inr (inr (inl (refl, (s, first, refl)))))))

pub weights_of : (records : Records) → IsFreeFrom records 1 14 → (n : ℕ) → HasBadWeight records n → ⊥
weights_of records free = none_of (HasBadWeight records) (λ n first. free (faults.Limit 5 n) (omega arith) (omega arith) (inr (inr (inr (inr (inl (refl, first)))))))

pub ends_of : (records : Records) → IsFreeFrom records 1 14 → (r : ℕ) → IsPastEnd records r → ⊥
ends_of records free = none_of (IsPastEnd records) (λ r first. free (faults.Limit 6 r) (omega arith) (omega arith) (inr (inr (inr (inr (inr (refl, first)))))))

-- a fault before whose rank no other goes
pub first_after : (records : Records) (low : ℕ) (fault : DesignFault) → IsFreeFrom records low (rank fault) → IsFault records fault → IsFirstFrom records low fault
first_after records low fault free h = record { holds = h; before = λ other above there. ⊎_elim (λ less. absurd (free other above less there)) (λ more. more) (cases_lt (rank other) (rank fault)) }

pub first_of_rank : (records : Records) (low : ℕ) (fault : DesignFault) → rank fault ≡ low → IsFault records fault → IsFirstFrom records low fault
first_of_rank records low fault e h = record { holds = h; before = λ other above there. omega arith }

pub first_later : (records : Records) (low high : ℕ) (fault : DesignFault) → IsFreeFrom records low high → IsFirstFrom records high fault → IsFirstFrom records low fault
first_later records low high fault free h = record { holds = h.holds; before = λ other above there. ⊎_elim (λ less. absurd (free other above less there)) (λ more. h.before other more there) (cases_lt (rank other) high) }

pub stops_later : (records : Records) (low high : ℕ) (error : JoinError) → IsFreeFrom records low high → Stops records high error → Stops records low error
stops_later records low high (errors.Fault fault) free h = first_later records low high fault free h
stops_later records low high errors.Memory free h = tt

-- the ranks of the faults
rank_within : (records : Records) (fault : DesignFault) → IsFault records fault → (1 ≤ rank fault) × (rank fault < 14)
rank_within records (faults.Limit kind number) h = let within = limit_kind records kind number h in (omega arith, omega arith)
rank_within records _ h = (omega arith, omega arith)

-- no rank has a fault
pub no_fault : (records : Records) → IsFreeFrom records 1 14 → HasNoFault records
no_fault records free fault h = let within = rank_within records fault h in free fault within.0 within.1 h

pub first_fault : (records : Records) (fault : DesignFault) → IsFirstFrom records 1 fault → IsFirstFault records fault
first_fault records fault h = record { holds = h.holds; first = λ other there. h.before other (rank_within records other there).0 there }

-- what the whole join answers, from what its steps found
pub answered : (records : Records) (outcome : Result DesignValue JoinError) → MatchResult outcome (λ design. IsFreeFrom records 1 14 × Joins records design) (Stops records 1) → Answers records outcome
answered records (Ok design) h = record { joins = h.1; none = no_fault records h.0 }
answered records (Err (errors.Fault fault)) h = first_fault records fault h
answered records (Err errors.Memory) h = tt

-- the first ranks
pub free_two : (records : Records) → ((i : ℕ) → HasEarlierName records i → ⊥) → HasKnownNames records → IsFreeFrom records 1 3
free_two records one two = free_both records 1 2 3 (free_names records one) (free_known records two)

pub free_three : (records : Records) → ((i : ℕ) → HasEarlierName records i → ⊥) → HasKnownNames records → ((i : ℕ) → IsWithoutPlace records i → ⊥) → IsFreeFrom records 1 4
free_three records one two three = free_both records 1 3 4 (free_two records one two) (free_placed records three)

pub free_rows : (records : Records) → (s : ℕ) × HasSite records s → ((r : ℕ) → IsMixedRow records r → ⊥) → IsFreeFrom records 4 6
free_rows records some even = free_both records 4 5 6 (free_some records some) (free_even records even)

pub free_six : (records : Records) → IsFreeFrom records 1 4 → (s : ℕ) × HasSite records s → ((r : ℕ) → IsMixedRow records r → ⊥) → ((s : ℕ) → IsOverlapping (strips records) s → ⊥) → IsFreeFrom records 1 7
free_six records three some even apart = free_both records 1 6 7 (free_both records 1 4 6 three (free_rows records some even)) (free_apart records apart)
