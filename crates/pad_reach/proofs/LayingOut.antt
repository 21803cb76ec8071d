-- The entries of a web are laid out, one after another.
use Rattle.std.proofs.Common.{◌≡◌, ◌≢◌, ℕ, ◌+◌, ◌-◌, ◌<◌, ◌≤◌, inl, inr, List, length, get_or, slice_index, slice_range, take, set, sym, ap, ◌∙◌, subst, arith}
use Rattle.std.proofs.lemmas.List.{length-set, get_or-set_same, get_or-set_other, get_or_default, take_all}
use Rattle.std.proofs.lemmas.List.Edits.{length-between, get_or-between}
use Rattle.std.proofs.lemmas.Bool.{cases_eq, cases_lt}
use Rattle.pad_reach.specs.Chain.{Joint, joint_at, IsNeighbour}
use Rattle.pad_reach.specs.Forms.InNeighbours.{count_in, entries_to, entries_before, entries, AreEnds, IsEarlier, StandsAt, IsLaidOut, IsReversed}
use Rattle.pad_reach.proofs.Entries.{count_in-none, count_in-yes, count_in-no, count_in-take-le, entries_to-none, entries_to-all, entries_to-more, entries_to-more-le, entries_before-more, entries_before-mono, entries_before-le-entries}

-- none is laid out where the ends stand
pub IsLaidOut-start : (web : List Joint) (starts points : List ℕ) → AreEnds web starts → entries web ≤ length points → IsLaidOut web 0 0 starts points
IsLaidOut-start web starts points ends room = record {
  all = ends.all;
  room = omega (arith, entries_before-le-entries (length web + 1) web);
  left = λ q h. omega (arith, ends.each q h, entries_to-none q web, count_in-none q (joint_at web 0).near);
  sound = λ q j h from to. absurd (omega (arith, ends.each q (omega (arith, ends.all))));
  complete = λ p m earlier h. absurd (elim earlier [ inl l ↦ omega arith | inr r ↦ omega (arith, r.0, r.1) ]);
}

-- the room of one point is apart from those of the others
module _ (web : List Joint) (i k : ℕ) (starts points : List ℕ) (laid : IsLaidOut web i k starts points) (there : i < length web) where
  -- no more than lead to q are laid out already
  pub starts-ge : (q : ℕ) → q < length web → entries_before q web ≤ slice_index starts q
  starts-ge q h =
      let left = laid.left q (omega (arith, laid.all)) in
      let some = count_in-take-le q (joint_at web i).near k in
      omega (arith, entries_to-more-le q web i there, entries_before-more q web)

  pub apart : (q r j : ℕ) → q < length web → r < length web → entries_before q web ≤ j → j < entries_before (q + 1) web → entries_before r web ≤ j → j < entries_before (r + 1) web → q ≡ r
  apart q r j hq hr a b c d =
      elim (cases_eq q r) [
        | inl e ↦ e
        | inr n ↦ absurd (elim (cases_lt q r) [ inl l ↦ omega (arith, entries_before-mono web (q + 1) r (omega arith)) | inr g ↦ omega (arith, entries_before-mono web (r + 1) q (omega arith)) ])
      ]

  module _ (in_row : k < length (joint_at web i).near) (t : ℕ) (is_t : slice_index (joint_at web i).near k ≡ t) (t_there : t < length web) where
    -- the slot of the entry k is the last free one of its neighbour
    pub slot-free : entries_before t web < slice_index starts t
    slot-free =
        let left = laid.left t (omega (arith, laid.all)) in
        let yes = count_in-yes t (joint_at web i).near k in_row is_t in
        let some = count_in-take-le t (joint_at web i).near (k + 1) in
        omega (arith, entries_to-more-le t web i there, entries_before-more t web)

    pub slot-below : slice_index starts t - 1 < entries_before (t + 1) web
    slot-below =
        let left = laid.left t (omega (arith, laid.all)) in
        omega (arith, slot-free)

    pub slot-inside : slice_index starts t - 1 < length points
    slot-inside = omega (arith, slot-below, laid.room, entries_before-mono web (t + 1) (length web + 1) (omega arith))

    starts' : List ℕ
    starts' = set starts t (slice_index starts t - 1)

    points' : List ℕ
    points' = set points (slice_index starts t - 1) i

    starts'-same : slice_index starts' t ≡ slice_index starts t - 1
    unfolding starts'
    starts'-same = get_or-set_same starts t (slice_index starts t - 1) 0 (omega (arith, laid.all))

    starts'-other : (q : ℕ) → q ≢ t → slice_index starts' q ≡ slice_index starts q
    unfolding starts'
    starts'-other q n = get_or-set_other starts t q (slice_index starts t - 1) 0 n

    starts'-le : (q : ℕ) → slice_index starts' q ≤ slice_index starts q
    starts'-le q = elim (cases_eq q t) [ inl e ↦ let P : ℕ → Type 0 = λ x. slice_index starts' x ≤ slice_index starts x in subst P (sym e) (omega (arith, starts'-same)) | inr n ↦ omega (arith, starts'-other q n) ]

    points'-same : slice_index points' (slice_index starts t - 1) ≡ i
    unfolding points'
    points'-same = get_or-set_same points (slice_index starts t - 1) i 0 slot-inside

    points'-other : (j : ℕ) → j ≢ slice_index starts t - 1 → slice_index points' j ≡ slice_index points j
    unfolding points'
    points'-other j n = get_or-set_other points (slice_index starts t - 1) j i 0 n

    -- what stood in the room of q stays there
    not_slot : (q j : ℕ) → q < length web → slice_index starts q ≤ j → j < entries_before (q + 1) web → j ≢ slice_index starts t - 1
    not_slot q j h from to e =
        let first = starts-ge q h in
        let same = apart q t j h t_there (omega arith) to (omega (arith, slot-free)) (omega (arith, slot-below)) in
        let P : ℕ → Type 0 = λ x. slice_index starts x ≤ j in
        let late = subst P same from in
        omega (arith, slot-free)

    left'-same : slice_index starts' t + (entries_to t (take i web) + count_in t (take (k + 1) (joint_at web i).near)) ≡ entries_before (t + 1) web
    left'-same =
        let left = laid.left t (omega (arith, laid.all)) in
        omega (arith, starts'-same, slot-free, count_in-yes t (joint_at web i).near k in_row is_t)

    left' : (q : ℕ) → q < length starts → slice_index starts' q + (entries_to q (take i web) + count_in q (take (k + 1) (joint_at web i).near)) ≡ entries_before (q + 1) web
    left' q h =
        let left = laid.left q h in
        let P : ℕ → Type 0 = λ x. slice_index starts' x + (entries_to x (take i web) + count_in x (take (k + 1) (joint_at web i).near)) ≡ entries_before (x + 1) web in
        elim (cases_eq q t) [ inl e ↦ subst P (sym e) left'-same | inr n ↦ omega (arith, starts'-other q n, count_in-no q (joint_at web i).near k in_row (λ s. n (sym s ∙ is_t))) ]

    stays : (p q : ℕ) → StandsAt web starts points p q → StandsAt web starts' points' p q
    stays p q s = record {
      there = s.there;
      at = s.at;
      from = omega (arith, s.from, starts'-le q);
      to = s.to;
      is = points'-other s.at (not_slot q s.at s.there s.from s.to) ∙ s.is;
    }

    stands : StandsAt web starts' points' i t
    stands = record {
      there = t_there;
      at = slice_index starts t - 1;
      from = omega (arith, starts'-same);
      to = slot-below;
      is = points'-same;
    }

    -- the one that stands at j is an in-neighbour of q
    IsInNeighbour : List ℕ → ℕ → ℕ → Type 0
    IsInNeighbour stand j q = (slice_index stand j < length web) × IsNeighbour web (slice_index stand j) q

    sound'-same : (j : ℕ) → slice_index starts' t ≤ j → j < entries_before (t + 1) web → IsInNeighbour points' j t
    unfolding IsInNeighbour
    sound'-same j from to =
        let P : ℕ → Type 0 = λ p. (p < length web) × IsNeighbour web p t in
        elim (cases_eq j (slice_index starts t - 1)) [
          | inl e ↦ subst P (sym (ap (slice_index points') e ∙ points'-same)) (there, (k, in_row, get_or_default (joint_at web i).near k t 0 in_row ∙ is_t))
          | inr n ↦ subst P (sym (points'-other j n)) (laid.sound t j t_there (omega (arith, starts'-same)) to)
        ]

    sound' : (q j : ℕ) → q < length web → slice_index starts' q ≤ j → j < entries_before (q + 1) web → (slice_index points' j < length web) × IsNeighbour web (slice_index points' j) q
    unfolding IsInNeighbour
    sound' q j h from to =
        let P : ℕ → Type 0 = λ x. slice_index starts' x ≤ j → j < entries_before (x + 1) web → IsInNeighbour points' j x in
        let Q : ℕ → Type 0 = λ p. (p < length web) × IsNeighbour web p q in
        elim (cases_eq q t) [
          | inl e ↦ subst P (sym e) (sound'-same j) from to
          | inr n ↦ let late : slice_index starts q ≤ j = omega (arith, starts'-other q n) in subst Q (sym (points'-other j (not_slot q j h late to))) (laid.sound q j h late to)
        ]

    complete' : (p m : ℕ) → IsEarlier p m i (k + 1) → m < length (joint_at web p).near → StandsAt web starts' points' p (slice_index (joint_at web p).near m)
    complete' p m earlier h =
        let P : ℕ → Type 0 = λ x. StandsAt web starts' points' x (slice_index (joint_at web x).near m) in
        let Q : ℕ → Type 0 = λ x. StandsAt web starts' points' i (slice_index (joint_at web i).near x) in
        elim earlier [
          | inl l ↦ stays _ _ (laid.complete p m (inl l) h)
          | inr r ↦ elim (cases_eq m k) [
            | inl e ↦ subst P (sym r.0) (subst Q (sym e) (subst (λ x. StandsAt web starts' points' i x) (sym is_t) stands))
            | inr n ↦ stays _ _ (laid.complete p m (inr (r.0, omega (arith, r.1))) h)
          ]
        ]

    pub IsLaidOut-step : IsLaidOut web i (k + 1) (set starts t (slice_index starts t - 1)) (set points (slice_index starts t - 1) i)
    unfolding starts' points'
    IsLaidOut-step = record {
      all = length-set starts t (slice_index starts t - 1) ∙ laid.all;
      room = omega (arith, laid.room, length-set points (slice_index starts t - 1) i);
      left = λ q h. left' q (omega (arith, length-set starts t (slice_index starts t - 1)));
      sound = sound';
      complete = complete';
    }

-- a joint whose entries are all laid out
pub IsLaidOut-row : (web : List Joint) (i k : ℕ) (starts points : List ℕ) → i < length web → length (joint_at web i).near ≤ k → IsLaidOut web i k starts points → IsLaidOut web (i + 1) 0 starts points
IsLaidOut-row web i k starts points there whole laid = record {
  all = laid.all;
  room = laid.room;
  left = λ q h. let left = laid.left q h in let row = ap (count_in q) (take_all k (joint_at web i).near whole) in omega (arith, entries_to-more q web i there, count_in-none q (joint_at web i).near);
  sound = laid.sound;
  complete = λ p m earlier h. laid.complete p m (elim earlier [ inl l ↦ elim (cases_eq p i) [ inl e ↦ inr (e, (let P : ℕ → Type 0 = λ x. m < length (joint_at web x).near in let short = subst P e h in omega arith)) | inr n ↦ inl (omega arith) ] | inr r ↦ absurd (omega (arith, r.1)) ]) h;
}

-- once all are laid out, the room of each point reaches from its start up to the next one
pub IsReversed-laid_out : (web : List Joint) (starts points : List ℕ) → IsLaidOut web (length web) 0 starts points → IsReversed web starts points
IsReversed-laid_out web starts points laid =
    let begins : (q : ℕ) → q < length starts → slice_index starts q ≡ entries_before q web = λ q h. omega (arith, laid.left q h, entries_to-all q web, entries_before-more q web, count_in-none q (joint_at web (length web)).near) in
    record {
      all = laid.all;
      ordered = λ q h. omega (arith, laid.all, begins q, begins (q + 1), entries_before-mono web q (q + 1) (omega arith));
      within = λ q h. omega (arith, laid.all, begins (q + 1), laid.room, entries_before-mono web (q + 1) (length web + 1) (omega arith));
      sound = λ q j h from to. laid.sound q j h from (omega (arith, laid.all, begins (q + 1)));
      complete = λ p q hp hq near.
          let same : slice_index (joint_at web p).near near.0 ≡ q = get_or_default (joint_at web p).near near.0 0 q near.1 ∙ near.2 in
          let Stands : ℕ → Type 0 = λ x. StandsAt web starts points p x in
          let s = subst Stands same (laid.complete p near.0 (inl hp) near.1) in
          (s.at, s.from, omega (arith, s.to, laid.all, begins (q + 1)), s.is);
    }

-- the in-neighbours of q, one after another
module _ (web : List Joint) (starts points : List ℕ) (reversed : IsReversed web starts points) (q : ℕ) (there : q < length web) (row : List ℕ) (row_is : row ≡ slice_range points (slice_index starts q) (slice_index starts (q + 1))) where
  row_length : length row ≡ slice_index starts (q + 1) - slice_index starts q
  row_length = ap length row_is ∙ length-between points (slice_index starts q) (slice_index starts (q + 1)) (reversed.within q there)

  row_at : (m : ℕ) → m < length row → get_or row m 0 ≡ slice_index points (slice_index starts q + m)
  row_at m h = ap (λ (xs : List ℕ). get_or xs m 0) row_is ∙ get_or-between points (slice_index starts q) (slice_index starts (q + 1)) m 0 (omega (arith, row_length))

  pub row_sound : (m : ℕ) → m < length row → (get_or row m 0 < length web) × IsNeighbour web (get_or row m 0) q
  row_sound m h =
      let P : ℕ → Type 0 = λ p. (p < length web) × IsNeighbour web p q in
      subst P (sym (row_at m h)) (reversed.sound q (slice_index starts q + m) there (omega arith) (omega (arith, row_length, reversed.ordered q there)))

  pub row_complete : (p : ℕ) → p < length web → IsNeighbour web p q → (m : ℕ) × (m < length row) × (get_or row m 0 ≡ p)
  row_complete p hp near =
      let j = reversed.complete p q hp there near in
      let m : ℕ = j.0 - slice_index starts q in
      let inside : m < length row = omega (arith, row_length, j.1, j.2) in
      let at : slice_index starts q + m ≡ j.0 = omega (arith, j.1) in
      (m, inside, row_at m inside ∙ ap (slice_index points) at ∙ j.3)
