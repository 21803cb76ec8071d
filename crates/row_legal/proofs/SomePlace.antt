-- Cells with their segments have places.
use Rattle.std.proofs.Common.{◌≡◌, ℕ, zero, suc, ◌+◌, ◌-◌, ◌<◌, ◌≤◌, Bool, true, false, cond, eqb, min, List, [], ◌∷◌, ◌++◌, length, get_or, take, drop, refl, sym, ap, ◌∙◌, subst, inl, inr, arith}
use Rattle.std.specs.Prelude.{slice_index, sum}
use Rattle.std.specs.List.{filter, range_with_len}
use Rattle.std.proofs.lemmas.Bool.{cases_lt, cases_eq, cases_order}
use Rattle.std.proofs.lemmas.Bool.Decides.{nat_tests}
use Rattle.std.proofs.lemmas.List.{get_or-map, length-map, get_or-take, length-take, length_push, get_or_append_left, get_or_at}
use Rattle.std.proofs.lemmas.List.Sums.{sum_by-cons, sum_by_more_le, get_or-le-sum_by}
use Rattle.std.proofs.lemmas.List.Sorted.{Contains-permutation, IsPermutation-sym}
use Rattle.row_space.specs.Values.{SegmentsValue, segment_at}
use Rattle.row_legal.specs.declared.parts.Place.{Place}
use Rattle.row_legal.specs.Cells.{CellsValue, count}
use Rattle.row_legal.specs.Greedy.{Pick, cells_in, pick_at, IsTakingOrder, IsGreedy}
use Rattle.row_legal.specs.Line.{shoved, IsFirst}
use Rattle.row_legal.specs.Places.{row_order, cells_at, IsRow, desires, widths, IsPlace, place_at, IsLegalised}
use Rattle.row_legal.proofs.Locating.{cell_of, stands, contains, HasPick, pick_of, in_row}
use Rattle.row_legal.proofs.Orders.{one_if_same, often, one_if, none_if, often_moved, in_order}
use Rattle.row_legal.proofs.CellOrders.{row_tells, are_cells}

-- ---- no cell stands twice

rare_below : (x a n : ℕ) → x < a → often x (range_with_len a n) ≡ 0
rare_below x a zero lt = refl
rare_below x a (suc n) lt = omega (arith, sum_by-cons (one_if_same x) a (range_with_len (a + 1) n), none_if x a (λ same. absurd (omega arith)), rare_below x (a + 1) n (omega arith))

rare : (x a n : ℕ) → often x (range_with_len a n) ≤ 1
rare x a zero = omega arith
rare x a (suc n) = elim (cases_eq a x) [
  | inl same ↦ omega (arith, sum_by-cons (one_if_same x) a (range_with_len (a + 1) n), one_if x a same, rare_below x (a + 1) n (omega arith))
  | inr other ↦ omega (arith, sum_by-cons (one_if_same x) a (range_with_len (a + 1) n), none_if x a other, rare x (a + 1) n)
]

twice : (x : ℕ) (xs : List ℕ) (i j : ℕ) → i < j → j < length xs → slice_index xs i ≡ x → slice_index xs j ≡ x → 2 ≤ often x xs
twice x xs i j lt there at_i at_j =
    let more = sum_by_more_le (one_if_same x) xs j 0 there in
    let long = length-take j xs in
    let first = get_or-le-sum_by (one_if_same x) (take j xs) i 0 (omega (arith, long)) in
    let is_i : one_if_same x (get_or (take j xs) i 0) ≡ 1 = one_if x (get_or (take j xs) i 0) (get_or-take j xs i 0 lt ∙ at_i) in
    let is_j : one_if_same x (get_or xs j 0) ≡ 1 = one_if x (get_or xs j 0) at_j in
    omega (arith, more, first, is_i, is_j)

-- a number that doesn't stand twice stands at one place
one_stand : (x : ℕ) (xs : List ℕ) (i j : ℕ) → often x xs ≤ 1 → i < length xs → j < length xs → slice_index xs i ≡ x → slice_index xs j ≡ x → i ≡ j
one_stand x xs i j few there_i there_j at_i at_j = elim (cases_order i j) [
  | inl same ↦ same
  | inr differ ↦ elim differ [
    | inl less ↦ absurd (omega (arith, few, twice x xs i j less there_j at_i at_j))
    | inr more ↦ absurd (omega (arith, few, twice x xs j i more there_i at_j at_i))
  ]
]

few_taken : (cells : CellsValue) (picks : List Pick) (c : ℕ) → IsTakingOrder cells (cells_in picks) → often c (cells_in picks) ≤ 1
few_taken cells picks c order = omega (arith, often_moved c (range_with_len 0 (count cells)) (cells_in picks) order.all, rare c 0 (count cells))

few_at : (picks : List Pick) (s c : ℕ) → often c (cells_at picks s) ≤ often c (cells_in picks)
few_at [] s c = omega arith
few_at (pick ∷ picks) s c = by_test (few_at picks s c) (eqb pick.segment s) where
  kept : List Pick
  kept = filter (λ pick. eqb pick.segment s) picks

  by_test : often c (cells_in kept) ≤ often c (cells_in picks) → (b : Bool) → often c (cells_in (cond b (pick ∷ kept) kept)) ≤ often c (cells_in (pick ∷ picks))
  by_test rest true = omega (arith, rest, sum_by-cons (one_if_same c) pick.cell (cells_in kept), sum_by-cons (one_if_same c) pick.cell (cells_in picks))
  by_test rest false = omega (arith, rest, sum_by-cons (one_if_same c) pick.cell (cells_in picks))

-- ---- rows

-- a pick of this cell for this segment
record HasPickAt (picks : List Pick) (s c : ℕ) : Type 0 where
  at : ℕ
  there : at < length picks
  cell : (pick_at picks at).cell ≡ c
  segment : (pick_at picks at).segment ≡ s

later_pick : (pick : Pick) (picks : List Pick) (s c : ℕ) → HasPickAt picks s c → HasPickAt (pick ∷ picks) s c
later_pick pick picks s c has = record { at = suc has.at; there = omega (arith, has.there); cell = has.cell; segment = has.segment }

picked_at : (picks : List Pick) (s c k : ℕ) → k < length (cells_at picks s) → slice_index (cells_at picks s) k ≡ c → HasPickAt picks s c
picked_at [] s c k there is = absurd (omega arith)
picked_at (pick ∷ picks) s c k there is = by_test (λ (j : ℕ). picked_at picks s c j) (eqb pick.segment s) refl there is where
  kept : List Pick
  kept = filter (λ pick. eqb pick.segment s) picks

  by_place : ((j : ℕ) → j < length (cells_in kept) → slice_index (cells_in kept) j ≡ c → HasPickAt picks s c) → (k : ℕ) → pick.segment ≡ s
      → k < length (cells_in (pick ∷ kept)) → slice_index (cells_in (pick ∷ kept)) k ≡ c → HasPickAt (pick ∷ picks) s c
  by_place rest zero same there is = record { at = 0; there = omega arith; cell = is; segment = same }
  by_place rest (suc j) same there is = later_pick pick picks s c (rest j (omega arith) is)

  by_test : ((j : ℕ) → j < length (cells_in kept) → slice_index (cells_in kept) j ≡ c → HasPickAt picks s c) → (b : Bool) → eqb pick.segment s ≡ b
      → k < length (cells_in (cond b (pick ∷ kept) kept)) → slice_index (cells_in (cond b (pick ∷ kept) kept)) k ≡ c → HasPickAt (pick ∷ picks) s c
  by_test rest true test there is = by_place rest k (grind (arith, nat_tests)) there is
  by_test rest false test there is = later_pick pick picks s c (rest k there is)

some_row : (cells : CellsValue) (picks : List Pick) (s : ℕ) → (row : List ℕ) × IsRow cells picks s row
some_row cells picks s =
    let row = in_order (row_order cells) (row_tells cells).total (cells_at picks s) in
    (row.list, record { all = row.all; sorted = row.sorted })

abbrev row_of : CellsValue → List Pick → ℕ → List ℕ
row_of cells picks s = (some_row cells picks s).0

row_is : (cells : CellsValue) (picks : List Pick) (s : ℕ) → IsRow cells picks s (row_of cells picks s)
row_is cells picks s = (some_row cells picks s).1

-- ---- places

-- the greatest of the first n numbers and the one behind them
record IsTop (f : ℕ → ℕ) (n top : ℕ) : Type 0 where
  above : (j : ℕ) → j ≤ n → f j ≤ top
  at : ℕ
  up_to : at ≤ n
  reached : f at ≡ top

some_top : (f : ℕ → ℕ) (n : ℕ) → (top : ℕ) × IsTop f n top
some_top f zero = (f 0, record { above = λ j le. let same : 0 ≡ j = omega arith in subst (λ (k : ℕ). f k ≤ f 0) same (omega arith); at = 0; up_to = omega arith; reached = refl })
some_top f (suc n) = by_cases (some_top f n) where
  on : (top : ℕ) → ((j : ℕ) → j ≤ n → f j ≤ top) → f (suc n) ≤ top → (j : ℕ) → j ≤ suc n → f j ≤ top
  on top before here j le = elim (cases_lt n j) [
    | inl last ↦ let same : suc n ≡ j = omega arith in subst (λ (k : ℕ). f k ≤ top) same here
    | inr earlier ↦ before j earlier
  ]

  by_cases : (top : ℕ) × IsTop f n top → (top : ℕ) × IsTop f (suc n) top
  by_cases before = elim (cases_lt before.0 (f (suc n))) [
    | inl more ↦ (f (suc n), record { above = on (f (suc n)) (λ j le. let low = before.1.above j le in omega arith) (omega arith); at = suc n; up_to = omega arith; reached = refl })
    | inr less ↦ (before.0, record { above = on before.0 before.1.above less; at = before.1.at; up_to = omega (arith, before.1.up_to); reached = before.1.reached })
  ]

some_first : (ds ws : List ℕ) (i : ℕ) → (e : ℕ) × IsFirst ds ws i e
some_first ds ws i =
    let top = some_top (shoved ds ws i) i in
    (top.0, record { above = top.1.above; at = top.1.at; up_to = top.1.up_to; reached = top.1.reached })

some_place : (rows : SegmentsValue) (cells : CellsValue) (s : ℕ) (row : List ℕ) (i : ℕ) → (place : Place) × IsPlace rows cells s row i place
some_place rows cells s row i =
    let first = some_first (desires rows cells s row) (widths cells row) i in
    let site : ℕ = min first.0 ((segment_at rows.segments s).sites - sum (drop i (widths cells row))) in
    (record { segment = s; site = site }, record { segment = refl; earliest = first.0; is_earliest = first.1; site = refl })

-- a cell's place, in the row of its pick
record IsSpotted (rows : SegmentsValue) (cells : CellsValue) (picks : List Pick) (c : ℕ) (place : Place) : Type 0 where
  pick : HasPick picks c
  at : ℕ
  there : at < length (row_of cells picks (pick_at picks pick.at).segment)
  is : slice_index (row_of cells picks (pick_at picks pick.at).segment) at ≡ c
  is_place : IsPlace rows cells (pick_at picks pick.at).segment (row_of cells picks (pick_at picks pick.at).segment) at place

spotted : (rows : SegmentsValue) (cells : CellsValue) (picks : List Pick) → IsTakingOrder cells (cells_in picks) → (c : ℕ) → c < count cells → (place : Place) × IsSpotted rows cells picks c place
spotted rows cells picks order c lt =
    let pick = pick_of cells picks c order lt in
    let s = (pick_at picks pick.at).segment in
    let at = in_row cells picks s (row_of cells picks s) pick.at pick.there refl (row_is cells picks s) in
    let place = some_place rows cells s (row_of cells picks s) at.at in
    (place.0, record { pick = pick; at = at.at; there = at.there; is = at.is ∙ pick.is; is_place = place.1 })

-- a list of what there is for each of the first n numbers
record IsList (P : ℕ → Place → Type 0) (n : ℕ) (places : List Place) : Type 0 where
  all : length places ≡ n
  each : (c : ℕ) → c < n → P c (place_at places c)

some_list : (P : ℕ → Place → Type 0) (n : ℕ) → ((c : ℕ) → c < n → (place : Place) × P c place) → (places : List Place) × IsList P n places
some_list P zero there = ([], record { all = refl; each = λ c lt. absurd (omega arith) })
some_list P (suc n) there = by_last (some_list P n (λ c lt. there c (omega arith))) (there n (omega arith)) where
  by_last : (places : List Place) × IsList P n places → (place : Place) × P n place → (places : List Place) × IsList P (suc n) places
  by_last before last = (
    before.0 ++ last.0 ∷ [],
    record {
      all = omega (arith, length_push before.0 last.0, before.1.all);
      each = λ c lt. elim (cases_lt c n) [
        | inl earlier ↦ subst (P c) (sym (get_or_append_left before.0 (last.0 ∷ []) (place_at [] 0) c (omega (arith, before.1.all)))) (before.1.each c earlier)
        | inr behind ↦
            let here : n ≡ c = omega arith in
            let at = get_or_at before.0 last.0 [] (place_at [] 0) n before.1.all in
            subst (λ (k : ℕ). P k (place_at (before.0 ++ last.0 ∷ []) k)) here (subst (P n) (sym at) last.1)
      ];
    },
  )

-- a cell at its place in the row of a segment
record IsAtRow (rows : SegmentsValue) (cells : CellsValue) (picks : List Pick) (c : ℕ) (place : Place) (s : ℕ) : Type 0 where
  at : ℕ
  there : at < length (row_of cells picks s)
  is : slice_index (row_of cells picks s) at ≡ c
  is_place : IsPlace rows cells s (row_of cells picks s) at place

-- a cell has one pick
one_pick : (cells : CellsValue) (picks : List Pick) (c i j : ℕ) → IsTakingOrder cells (cells_in picks) → i < length picks → j < length picks → (pick_at picks i).cell ≡ c → (pick_at picks j).cell ≡ c → i ≡ j
one_pick cells picks c i j order there_i there_j at_i at_j =
    one_stand c (cells_in picks) i j (few_taken cells picks c order) (omega (arith, there_i, length-map picks cell_of)) (omega (arith, there_j, length-map picks cell_of))
    (get_or-map cell_of picks i (pick_at [] 0) 0 there_i ∙ at_i) (get_or-map cell_of picks j (pick_at [] 0) 0 there_j ∙ at_j)

-- a cell of a row has a pick for its segment
row_pick : (cells : CellsValue) (picks : List Pick) (s i : ℕ) → i < length (row_of cells picks s) → HasPickAt picks s (slice_index (row_of cells picks s) i)
row_pick cells picks s i there =
    let row = row_of cells picks s in
    let c = slice_index row i in
    let back = stands (cells_at picks s) c (Contains-permutation row (cells_at picks s) c (IsPermutation-sym (cells_at picks s) row (row_is cells picks s).all) (contains row c (record { at = i; there = there; is = refl }))) in
    picked_at picks s c back.at back.there back.is

pick_is_cell : (cells : CellsValue) (picks : List Pick) (s c : ℕ) → IsTakingOrder cells (cells_in picks) → HasPickAt picks s c → c < count cells
pick_is_cell cells picks s c order pick =
    let is : slice_index (cells_in picks) pick.at ≡ c = get_or-map cell_of picks pick.at (pick_at [] 0) 0 pick.there ∙ pick.cell in
    let is_cell : slice_index (cells_in picks) pick.at < count cells = are_cells cells (cells_in picks) order pick.at 0 (omega (arith, pick.there, length-map picks cell_of)) in
    omega (arith, is, is_cell)

-- the place that was found for a cell is one in the row of each of its picks
in_row_of : (rows : SegmentsValue) (cells : CellsValue) (picks : List Pick) (c s : ℕ) (place : Place) → IsTakingOrder cells (cells_in picks) → HasPickAt picks s c → IsSpotted rows cells picks c place
    → IsAtRow rows cells picks c place s
in_row_of rows cells picks c s place order pick spot =
    let same = one_pick cells picks c spot.pick.at pick.at order spot.pick.there pick.there spot.pick.is pick.cell in
    let segment : (pick_at picks spot.pick.at).segment ≡ s = ap (λ (k : ℕ). (pick_at picks k).segment) same ∙ pick.segment in
    let here : IsAtRow rows cells picks c place (pick_at picks spot.pick.at).segment = record { at = spot.at; there = spot.there; is = spot.is; is_place = spot.is_place } in
    subst (IsAtRow rows cells picks c place) segment here

-- and that one is its own
own_place : (rows : SegmentsValue) (cells : CellsValue) (picks : List Pick) (s i : ℕ) (place : Place) → IsTakingOrder cells (cells_in picks) → i < length (row_of cells picks s)
    → IsAtRow rows cells picks (slice_index (row_of cells picks s) i) place s → IsPlace rows cells s (row_of cells picks s) i place
own_place rows cells picks s i place order there here =
    let row = row_of cells picks s in
    let c = slice_index row i in
    let few : often c row ≤ 1 = omega (arith, often_moved c (cells_at picks s) row (row_is cells picks s).all, few_at picks s c, few_taken cells picks c order) in
    let same : here.at ≡ i = one_stand c row here.at i few here.there there here.is refl in
    subst (λ (k : ℕ). IsPlace rows cells s row k place) {x = here.at} same here.is_place

-- the row of a segment has its places
placed_row : (rows : SegmentsValue) (cells : CellsValue) (picks : List Pick) (places : List Place) → IsTakingOrder cells (cells_in picks) → IsList (IsSpotted rows cells picks) (count cells) places
    → (s i : ℕ) → i < length (row_of cells picks s) → IsPlace rows cells s (row_of cells picks s) i (place_at places (slice_index (row_of cells picks s) i))
placed_row rows cells picks places order list s i there =
    let c = slice_index (row_of cells picks s) i in
    let pick = row_pick cells picks s i there in
    let spot = list.each c (pick_is_cell cells picks s c order pick) in
    own_place rows cells picks s i (place_at places c) order there (in_row_of rows cells picks c s (place_at places c) order pick spot)

-- all cells with their segments have places
pub some_places : (rows : SegmentsValue) (cells : CellsValue) (picks : List Pick) → IsGreedy rows cells picks → (places : List Place) × IsLegalised rows cells places
some_places rows cells picks greedy =
    let list = some_list (IsSpotted rows cells picks) (count cells) (spotted rows cells picks greedy.order) in (
      list.0,
      record {
        all = list.1.all;
        picks = picks;
        greedy = greedy;
        placed = λ s lt. record {
          row = row_of cells picks s;
          is_row = row_is cells picks s;
          each = placed_row rows cells picks list.0 greedy.order list.1 s;
        };
      },
    )
