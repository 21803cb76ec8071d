-- All records make a design or have a first fault.
use Rattle.std.proofs.Common.{◌≡◌, ℕ, ◌<◌, ◌⊎◌, inl, inr, ℤ, ◌<ℤ◌, ◌≤ℤ◌, ◌+ℤ◌, true, false, List, length, map, refl, sym, subst, ⊎_elim, arith, zero, suc}
use Rattle.std.proofs.lemmas.Bool.{cases_lt, cases_eq}
use Rattle.std.proofs.lemmas.Int.{ints, by_lt_z}
use Rattle.book_files.specs.declared.records.FileKind.TheVariants.{Nets, Pl}
use Rattle.book_design.specs.declared.fault.DesignFault.{DesignFault}
use Rattle.book_design.specs.declared.fault.DesignFault.TheVariants.{DuplicateName, UnknownName, NoPosition, NoRows, MixedRows, RowsOverlap, TallCell, Limit}
use Rattle.book_design.specs.declared.rules.TheConstants.{MOST_NODES, MOST_PINS, MOST_SUBROWS, MOST_SITES, ROWS_END}
use Rattle.book_design.specs.declared.parts.Core.{Core}
use Rattle.book_design.specs.Records.{Records, Strip, node_at, pin_at, pin_lines, row_at, net_at, strips, strip_in, strip_at}
use Rattle.book_design.specs.Faults.{HasEarlierName, IsUnknown, IsUnknownPin, IsUnknownPlace, IsWithoutPlace, IsMixedRow, ShareArea, IsOverlapping, IsTall, HasManySites, HasBadWeight, IsPastEnd, IsFault, IsFirstFault, HasNoFault, rank}
use Rattle.book_design.specs.Joined.{place_at, is_fixed, weight_of, joined_node, joined_net, joined_subrow, HasSite, HasEnd, IsCore}
use Rattle.book_design.specs.Values.{DesignValue}
use Rattle.book_design.specs.Answers.{IsJoined}
use Rattle.book_design.specs.Forms.Steps.{IsFreeFrom}
use Rattle.book_design.proofs.Deciding.{IsDecided, decided_by, decided_both, decided_either, decided_not, decide_less, decide_less_int, decide_same_int, decide_name, decide_flag, decide_some, first_or_none}
use Rattle.book_design.proofs.ValuesWithin.{whole_or_none}
use Rattle.book_design.proofs.Ranks.{first_after, first_fault, no_fault, free_names, free_known, free_placed, free_some, free_even, free_apart, free_tall, free_nodes, free_pins, free_subrows, free_sites, free_weights, free_ends, free_both}

decide_earlier : (records : Records) (i : ℕ) → IsDecided (HasEarlierName records i)
decide_earlier records i = decided_by
    (λ h. record { there = h.0; earlier = h.1.0; before = h.1.1; same = h.1.2 })
    (λ h. (h.there, (h.earlier, h.before, h.same)))
    (decided_both (decide_less i (length records.nodes)) (decide_some (λ j. (node_at records j).name ≡ (node_at records i).name) i (λ j. decide_name (node_at records j).name (node_at records i).name)))

decide_unknown : (records : Records) (name : List ℕ) → IsDecided (IsUnknown records name)
decide_unknown records name = decided_by
    (λ none i there same. none (i, there, same))
    (λ h some. h some.0 some.1 some.2)
    (decided_not (decide_some (λ i. (node_at records i).name ≡ name) (length records.nodes) (λ i. decide_name (node_at records i).name name)))

decide_without : (records : Records) (i : ℕ) → IsDecided (IsWithoutPlace records i)
decide_without records i = decided_by
    (λ h. record { there = h.0; fixed = h.1.0; absent = λ k there same. h.1.1 (k, there, same) })
    (λ h. (h.there, (h.fixed, λ some. h.absent some.0 some.1 some.2)))
    (decided_both (decide_less i (length records.nodes)) (decided_both (decide_flag (node_at records i).fixed true)
    (decided_not (decide_some (λ k. (place_at records k).name ≡ (node_at records i).name) (length records.places) (λ k. decide_name (place_at records k).name (node_at records i).name)))))

decide_mixed : (records : Records) (r : ℕ) → IsDecided (IsMixedRow records r)
decide_mixed records r = decided_by
    (λ h. record { there = h.0; other = h.1 })
    (λ h. (h.there, h.other))
    (decided_both (decide_less r (length records.rows)) (decided_either (decided_not (decide_same_int (row_at records r).height (row_at records 0).height)) (decided_not (decide_same_int (row_at records r).pitch (row_at records 0).pitch))))

decide_shared : (a b : Strip) → IsDecided (ShareArea a b)
decide_shared a b = decided_by
    (λ h. record { a_wide = h.0.0; b_wide = h.0.1; a_high = h.1.0; b_high = h.1.1; left_right = h.2.0; right_left = h.2.1; lower_upper = h.3.0; upper_lower = h.3.1 })
    (λ h. ((h.a_wide, h.b_wide), (h.a_high, h.b_high), (h.left_right, h.right_left), (h.lower_upper, h.upper_lower)))
    (four (two (decide_less_int a.left a.right) (decide_less_int b.left b.right)) (two (decide_less_int a.lower a.upper) (decide_less_int b.lower b.upper)) (two (decide_less_int a.left b.right) (decide_less_int b.left a.right)) (two (decide_less_int a.lower b.upper) (decide_less_int b.lower a.upper))) where
      two : {A B : Type 0} → IsDecided A → IsDecided B → IsDecided (A × B)
      two x y = decided_both x y

      four : {A B C D : Type 0} → IsDecided A → IsDecided B → IsDecided C → IsDecided D → IsDecided (A × B × C × D)
      four w x y z = decided_by (λ h. (h.0.0, h.0.1, h.1.0, h.1.1)) (λ h. ((h.0, h.1), (h.2, h.3))) (decided_both (decided_both w x) (decided_both y z))

decide_overlap : (all : List Strip) (s : ℕ) → IsDecided (IsOverlapping all s)
decide_overlap all s = decided_by
    (λ h. record { there = h.0; earlier = h.1.0; before = h.1.1; shared = h.1.2 })
    (λ h. (h.there, (h.earlier, h.before, h.shared)))
    (decided_both (decide_less s (length all)) (decide_some (λ t. ShareArea (strip_in all t) (strip_in all s)) s (λ t. decide_shared (strip_in all t) (strip_in all s))))

decide_tall : (records : Records) (i : ℕ) → IsDecided (IsTall records i)
decide_tall records i = decided_by
    (λ h. record { there = h.0; movable = h.1.0; higher = h.1.1 })
    (λ h. (h.there, (h.movable, h.higher)))
    (decided_both (decide_less i (length records.nodes)) (decided_both (decide_flag (is_fixed records (node_at records i)) false) (decide_less_int (row_at records 0).height (node_at records i).height)))

decide_weight : (records : Records) (n : ℕ) → IsDecided (HasBadWeight records n)
decide_weight records n = decided_both (decide_less n (length records.nets)) (decided_not (⊎_elim (λ whole. inl whole) (λ none. inr none.1) (whole_or_none (weight_of records (net_at records n)))))

decide_end : (records : Records) (r : ℕ) → IsDecided (IsPastEnd records r)
decide_end records r = decided_by
    (λ h. record { there = h.0; past = ⊎_elim (λ high. inl high) (λ wide. inr (wide.0, wide.1, wide.2.0, wide.2.1)) h.1 })
    (λ h. (h.there, ⊎_elim (λ high. inl high) (λ wide. inr (wide.0, wide.1, (wide.2, wide.3))) h.past))
    (decided_both (decide_less r (length records.rows)) (decided_either
    (decide_less_int ROWS_END ((row_at records r).y +ℤ (row_at records r).height))
    (decide_some (λ s. ((strip_at records s).row ≡ r) × (ROWS_END <ℤ (strip_at records s).right)) (length (strips records))
    (λ s. decided_both (⊎_elim (λ e. inl e) (λ apart. inr (λ e. omega arith)) (cases_eq (strip_at records s).row r)) (decide_less_int ROWS_END (strip_at records s).right)))))

-- The extremal end of the subrows that have a site, in an order of ends.
module _ (records : Records) (end : Strip → ℤ) (Before : ℤ → ℤ → Type 0) (same : (x : ℤ) → Before x x) (across : (x y z : ℤ) → Before x y → Before y z → Before x z) (either : (x y : ℤ) → Before x y ⊎ Before y x) where
  abbrev IsEndOf : ℕ → ℤ → Type 0
  IsEndOf n v = ((s : ℕ) → s < n → HasSite records s → Before v (end (strip_at records s))) × HasEnd records end v

  next : (n : ℕ) → ((v : ℤ) × IsEndOf n v) ⊎ ((s : ℕ) → s < n → HasSite records s → ⊥) → IsDecided (HasSite records n) → ((v : ℤ) × IsEndOf (suc n) v) ⊎ ((s : ℕ) → s < suc n → HasSite records s → ⊥)
  next n (inl found) (inr never) = inl (found.0, (λ s below w. ⊎_elim (λ (e : s ≡ n). absurd (never (subst (HasSite records) e w))) (λ apart. found.1.0 s (omega arith) w) (cases_eq s n), found.1.1))
  next n (inr none) (inr never) = inr (λ s below w. ⊎_elim (λ (e : s ≡ n). never (subst (HasSite records) e w)) (λ apart. none s (omega arith) w) (cases_eq s n))
  next n (inr none) (inl here) = inl (end (strip_at records n), (λ s below w. ⊎_elim (λ (e : s ≡ n). let P : ℕ → Type 0 = λ k. Before (end (strip_at records n)) (end (strip_at records k)) in subst P (sym e) (same (end (strip_at records n)))) (λ apart. absurd (none s (omega arith) w)) (cases_eq s n), (n, here, refl)))
  next n (inl found) (inl here) = ⊎_elim
      (λ old. inl (found.0, (λ s below w. ⊎_elim (λ (e : s ≡ n). let P : ℕ → Type 0 = λ k. Before found.0 (end (strip_at records k)) in subst P (sym e) old) (λ apart. found.1.0 s (omega arith) w) (cases_eq s n), found.1.1)))
      (λ new. inl (end (strip_at records n), (λ s below w. ⊎_elim (λ (e : s ≡ n). let P : ℕ → Type 0 = λ k. Before (end (strip_at records n)) (end (strip_at records k)) in subst P (sym e) (same (end (strip_at records n)))) (λ apart. across (end (strip_at records n)) found.0 (end (strip_at records s)) new (found.1.0 s (omega arith) w)) (cases_eq s n), (n, here, refl))))
      (either found.0 (end (strip_at records n)))

  upto : (n : ℕ) → ((v : ℤ) × IsEndOf n v) ⊎ ((s : ℕ) → s < n → HasSite records s → ⊥)
  upto zero = inr (λ s below w. omega arith)
  upto (suc n) = next n (upto n) (decided_both (decide_less n (length (strips records))) (decide_less 0 (strip_at records n).sites))

  some_end : (s : ℕ) × HasSite records s → (v : ℤ) × ((s : ℕ) → HasSite records s → Before v (end (strip_at records s))) × HasEnd records end v
  some_end some = ⊎_elim (λ found. (found.0, λ s w. found.1.0 s w.0 w, found.1.1)) (λ none. absurd (none some.0 some.1.0 some.1)) (upto (length (strips records)))

low_end : (records : Records) (end : Strip → ℤ) → (s : ℕ) × HasSite records s → (v : ℤ) × ((s : ℕ) → HasSite records s → v ≤ℤ end (strip_at records s)) × HasEnd records end v
low_end records end some = some_end records end (λ x y. x ≤ℤ y) (λ x. omega (arith, ints)) (λ x y z p q. omega (arith, ints)) (λ x y. by_lt_z x y (λ less. inl (omega (arith, ints))) (λ more. inr more)) some

high_end : (records : Records) (end : Strip → ℤ) → (s : ℕ) × HasSite records s → (v : ℤ) × ((s : ℕ) → HasSite records s → end (strip_at records s) ≤ℤ v) × HasEnd records end v
high_end records end some = some_end records end (λ x y. y ≤ℤ x) (λ x. omega (arith, ints)) (λ x y z p q. omega (arith, ints)) (λ x y. by_lt_z x y (λ less. inr (omega (arith, ints))) (λ more. inl more)) some

some_core : (records : Records) → (s : ℕ) × HasSite records s → (core : Core) × IsCore records core
some_core records some =
    let left = low_end records (λ strip. strip.left) some in
    let right = high_end records (λ strip. strip.right) some in
    let lower = low_end records (λ strip. strip.lower) some in
    let upper = high_end records (λ strip. strip.upper) some in (
      record { xlo = left.0; xhi = right.0; ylo = lower.0; yhi = upper.0 },
      record { left = left.1; right = right.1; lower = lower.1; upper = upper.1; at_left = left.2; at_right = right.2; at_lower = lower.2; at_upper = upper.2 },
    )

made : (records : Records) → HasNoFault records → (s : ℕ) × HasSite records s → (design : DesignValue) × IsJoined records design
made records none some =
    let core = some_core records some in (
      record {
        nodes = map (joined_node records) records.nodes;
        nets = map (joined_net records) records.nets;
        subrows = map joined_subrow (strips records);
        core = core.0;
        pitch = (row_at records 0).pitch;
        row_height = (row_at records 0).height;
      },
      record {
        joins = record { nodes = refl; nets = refl; subrows = refl; core = core.1; pitch = refl; row_height = refl };
        none = none;
      },
    )

-- a fault before which the ranks are free
abbrev IsStopped : Records → Type 0
IsStopped records = (fault : DesignFault) × IsFirstFault records fault

stop : (records : Records) (fault : DesignFault) → IsFreeFrom records 1 (rank fault) → IsFault records fault → IsStopped records
stop records fault free h = (fault, first_fault records fault (first_after records 1 fault free h))

-- the records' limits by number, then by value
past_ends : (records : Records) → IsFreeFrom records 1 13 → IsStopped records ⊎ IsFreeFrom records 1 14
past_ends records free = ⊎_elim (λ found. inl (stop records (Limit 6 found.0) free (inr (inr (inr (inr (inr (refl, found.1))))))))
    (λ none. inr (free_both records 1 13 14 free (free_ends records none)))
    (first_or_none (IsPastEnd records) (length records.rows) (λ r h. h.there) (decide_end records))

past_weights : (records : Records) → IsFreeFrom records 1 12 → IsStopped records ⊎ IsFreeFrom records 1 14
past_weights records free = ⊎_elim (λ found. inl (stop records (Limit 5 found.0) free (inr (inr (inr (inr (inl (refl, found.1))))))))
    (λ none. past_ends records (free_both records 1 12 13 free (free_weights records none)))
    (first_or_none (HasBadWeight records) (length records.nets) (λ n h. h.0) (decide_weight records))

past_sites : (records : Records) → IsFreeFrom records 1 11 → IsStopped records ⊎ IsFreeFrom records 1 14
past_sites records free = ⊎_elim (λ found. inl (stop records (Limit 4 (strip_at records found.0).sites) free (inr (inr (inr (inl (refl, (found.0, found.1, refl))))))))
    (λ none. past_weights records (free_both records 1 11 12 free (free_sites records none)))
    (first_or_none (HasManySites records) (length (strips records)) (λ s h. h.0) (λ s. decided_both (decide_less s (length (strips records))) (decide_less MOST_SITES (strip_at records s).sites)))

past_subrows : (records : Records) → IsFreeFrom records 1 10 → IsStopped records ⊎ IsFreeFrom records 1 14
past_subrows records free = ⊎_elim (λ many. inl (stop records (Limit 3 (length (strips records))) free (inr (inr (inl (refl, refl, many))))))
    (λ few. past_sites records (free_both records 1 10 11 free (free_subrows records few))) (cases_lt MOST_SUBROWS (length (strips records)))

past_pins : (records : Records) → IsFreeFrom records 1 9 → IsStopped records ⊎ IsFreeFrom records 1 14
past_pins records free = ⊎_elim (λ many. inl (stop records (Limit 2 (length (pin_lines records))) free (inr (inl (refl, refl, many)))))
    (λ few. past_subrows records (free_both records 1 9 10 free (free_pins records few))) (cases_lt MOST_PINS (length (pin_lines records)))

past_nodes : (records : Records) → IsFreeFrom records 1 8 → IsStopped records ⊎ IsFreeFrom records 1 14
past_nodes records free = ⊎_elim (λ many. inl (stop records (Limit 1 (length records.nodes)) free (inl (refl, refl, many))))
    (λ few. past_pins records (free_both records 1 8 9 free (free_nodes records few))) (cases_lt MOST_NODES (length records.nodes))

tall : (records : Records) → IsFreeFrom records 1 7 → IsStopped records ⊎ IsFreeFrom records 1 14
tall records free = ⊎_elim (λ found. inl (stop records (TallCell found.0) free found.1))
    (λ none. past_nodes records (free_both records 1 7 8 free (free_tall records none)))
    (first_or_none (IsTall records) (length records.nodes) (λ i h. h.there) (decide_tall records))

overlaps : (records : Records) → IsFreeFrom records 1 6 → IsStopped records ⊎ IsFreeFrom records 1 14
overlaps records free = ⊎_elim (λ found. inl (stop records (RowsOverlap (strip_at records found.0).row) free (found.0, found.1, refl)))
    (λ none. tall records (free_both records 1 6 7 free (free_apart records none)))
    (first_or_none (IsOverlapping (strips records)) (length (strips records)) (λ s h. h.there) (decide_overlap (strips records)))

mixed : (records : Records) → IsFreeFrom records 1 5 → IsStopped records ⊎ IsFreeFrom records 1 14
mixed records free = ⊎_elim (λ found. inl (stop records (MixedRows found.0) free found.1))
    (λ none. overlaps records (free_both records 1 5 6 free (free_even records none)))
    (first_or_none (IsMixedRow records) (length records.rows) (λ r h. h.there) (decide_mixed records))

-- the rows have a site, from here on
rows : (records : Records) → IsFreeFrom records 1 4 → IsStopped records ⊎ ((design : DesignValue) × IsJoined records design)
rows records free = ⊎_elim
    (λ found. let some : (s : ℕ) × HasSite records s = (found.0, found.1.here) in
    ⊎_elim (λ stopped. inl stopped) (λ all. inr (made records (no_fault records all) some)) (mixed records (free_both records 1 4 5 free (free_some records some))))
    (λ none. inl (stop records NoRows free (λ s there. ⊎_elim (λ more. absurd (none s (there, more))) (λ zero. omega arith) (cases_lt 0 (strip_at records s).sites))))
    (first_or_none (HasSite records) (length (strips records)) (λ s h. h.0) (λ s. decided_both (decide_less s (length (strips records))) (decide_less 0 (strip_at records s).sites)))

without : (records : Records) → IsFreeFrom records 1 3 → IsStopped records ⊎ ((design : DesignValue) × IsJoined records design)
without records free = ⊎_elim (λ found. inl (stop records (NoPosition found.0) free found.1))
    (λ none. rows records (free_both records 1 3 4 free (free_placed records none)))
    (first_or_none (IsWithoutPlace records) (length records.nodes) (λ i h. h.there) (decide_without records))

unknown_places : (records : Records) → ((i : ℕ) → IsUnknownPin records i → ⊥) → IsFreeFrom records 1 2 → IsStopped records ⊎ ((design : DesignValue) × IsJoined records design)
unknown_places records pins free = ⊎_elim (λ found. inl (stop records (UnknownName Pl (place_at records found.0).line) free (pins, (found.0, found.1, refl))))
    (λ none. without records (free_both records 1 2 3 free (free_known records (record { pins = pins; places = none }))))
    (first_or_none (IsUnknownPlace records) (length records.places) (λ i h. h.0) (λ i. decided_both (decide_less i (length records.places)) (decide_unknown records (place_at records i).name)))

unknown_pins : (records : Records) → IsFreeFrom records 1 2 → IsStopped records ⊎ ((design : DesignValue) × IsJoined records design)
unknown_pins records free = ⊎_elim (λ found. inl (stop records (UnknownName Nets (pin_at records found.0).line) free (found.0, found.1, refl)))
    (λ none. unknown_places records none free)
    (first_or_none (IsUnknownPin records) (length (pin_lines records)) (λ i h. h.0) (λ i. decided_both (decide_less i (length (pin_lines records))) (decide_unknown records (pin_at records i).node)))

pub some_join : (records : Records) → ((fault : DesignFault) × IsFirstFault records fault) ⊎ ((design : DesignValue) × IsJoined records design)
some_join records = ⊎_elim (λ found. inl (stop records (DuplicateName (node_at records found.0).line) (λ fault above below h. omega arith) (found.0, found.1, refl)))
    (λ none. unknown_pins records (free_names records none))
    (first_or_none (HasEarlierName records) (length records.nodes) (λ i h. h.there) (decide_earlier records))
