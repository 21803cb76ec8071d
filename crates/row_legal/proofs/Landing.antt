-- The rows of choices, and their places, are those of cells.
use Rattle.std.proofs.Common.{◌≡◌, ◌≢◌, ℕ, ◌+◌, ◌-◌, ◌<◌, Bool, true, false, cond, eqb, min, List, [], ◌∷◌, length, get_or, map, drop, refl, sym, ap, ◌∙◌, subst, arith, ℤ}
use Rattle.std.specs.Prelude.{All, sum, slice_index}
use Rattle.std.specs.declared.cmp.Ordering.{Ordering}
use Rattle.std.specs.declared.cmp.Ordering.TheVariants.{Less, Equal, Greater}
use Rattle.std.specs.Ordering.{nat_cmp, int_cmp, ordering_then, is_lt}
use Rattle.std.specs.List.{IsDistinct, filter, range_with_len}
use Rattle.std.specs.List.Sorted.{IsPermutation, IsSorted}
use Rattle.std.proofs.lemmas.Bool.{ne_eqb}
use Rattle.std.proofs.lemmas.Bool.Decides.{nat_tests}
use Rattle.std.proofs.lemmas.Cmp.{nat_eq_equiv}
use Rattle.std.proofs.lemmas.List.{get_or-map, length-map, take_all}
use Rattle.std.proofs.lemmas.List.Elements.{All-filter, All-head, All-tail}
use Rattle.std.proofs.lemmas.List.FromFn.{length-range_with_len, get_or-range_with_len}
use Rattle.std.proofs.lemmas.List.Sorted.{IsPermutation-map, All-permutation, length_permutation}
use Rattle.std.proofs.lemmas.Map.Keys.{IsDistinct-IsPermutation, IsDistinct-from_apart, apart_from_distinct}
use Rattle.row_space.specs.Values.{SegmentsValue, segment_at}
use Rattle.row_legal.specs.declared.parts.Place.{Place}
use Rattle.row_legal.specs.declared.picking.Choice.{Choice}
use Rattle.row_legal.specs.Cells.{CellsValue, count, sites_at, wish_at}
use Rattle.row_legal.specs.Ranges.{IsNear, AreGoodCells}
use Rattle.row_legal.specs.Line.{IsFirst}
use Rattle.row_legal.specs.Greedy.{Pick, cells_in, taken, IsGreedy}
use Rattle.row_legal.specs.Places.{row_order, cells_at, desires, widths, place_at, IsPlaced, IsLegalised}
use Rattle.row_legal.specs.Forms.Choices.{choice_at, pick_of, IsOwn}
use Rattle.row_legal.specs.Forms.Rows.{choice_order, choices_at, AreGoodChoices, nearest_site, desires_of, widths_of, IsRowPlaced}
use Rattle.row_legal.proofs.Taking.{taken_fits}
use Rattle.row_legal.proofs.Greedily.{taken_by}

abbrev blank : Choice
blank = choice_at [] 0

abbrev cell : Choice → ℕ
cell choice = choice.cell

-- ---- a row

row_cells : (choices : List Choice) (s : ℕ) → cells_at (map pick_of choices) s ≡ map cell (choices_at choices s)
row_cells [] s = refl
row_cells (choice ∷ choices) s = by_test (eqb choice.segment s) (row_cells choices s) where
  picked : List Pick
  picked = filter (λ (pick : Pick). eqb pick.segment s) (map pick_of choices)

  by_test : (b : Bool) → cells_in picked ≡ map cell (choices_at choices s)
      → cells_in (cond b (pick_of choice ∷ picked) picked) ≡ map cell (cond b (choice ∷ choices_at choices s) (choices_at choices s))
  by_test true rest = ap (λ (xs : List ℕ). choice.cell ∷ xs) rest
  by_test false rest = rest

first_two : (p q r : Ordering) → is_lt (ordering_then p (ordering_then q r)) ≡ false → is_lt (ordering_then p q) ≡ false
first_two Less q r h = h
first_two Equal Less r h = h
first_two Equal Equal r h = refl
first_two Equal Greater r h = refl
first_two Greater q r h = refl

sorted_cells : (cells : CellsValue) (row : List Choice) → All (IsOwn cells) row → IsSorted choice_order row → IsSorted (row_order cells) (map cell row)
sorted_cells cells row own sorted = λ k d low high.
    let more : k + 1 < length row = omega (arith, high, length-map row cell) in
    let less : k < length row = omega arith in
    let next = get_or-map cell row (k + 1) blank d more in
    let here = get_or-map cell row k blank d less in
    let a = choice_at row (k + 1) in
    let b = choice_at row k in
    let by_fields : is_lt (ordering_then (int_cmp a.x b.x) (nat_cmp a.cell b.cell)) ≡ false = first_two (int_cmp a.x b.x) (nat_cmp a.cell b.cell) _ (sorted k blank low more) in
    ap (λ (c : ℕ). is_lt (row_order cells c (get_or (map cell row) k d))) next ∙ ap (λ (c : ℕ). is_lt (row_order cells a.cell c)) here
    ∙ ap (λ (x : ℤ). is_lt (ordering_then (int_cmp x (wish_at cells b.cell).x) (nat_cmp a.cell b.cell))) (sym (own (k + 1) blank more).x)
    ∙ ap (λ (x : ℤ). is_lt (ordering_then (int_cmp a.x x) (nat_cmp a.cell b.cell))) (sym (own k blank less).x) ∙ by_fields

same_desires : (rows : SegmentsValue) (cells : CellsValue) (s : ℕ) (row : List Choice) → All (IsOwn cells) row
    → desires_of rows.pitch (segment_at rows.segments s) row ≡ desires rows cells s (map cell row)
same_desires rows cells s [] own = refl
same_desires rows cells s (choice ∷ row) own =
    let segment = segment_at rows.segments s in
    ap (λ (x : ℤ). nearest_site rows.pitch segment x ∷ desires_of rows.pitch segment row) (All-head (IsOwn cells) choice row own).x
    ∙ ap (λ (xs : List ℕ). nearest_site rows.pitch segment (wish_at cells choice.cell).x ∷ xs) (same_desires rows cells s row (All-tail (IsOwn cells) choice row own))

same_widths : (cells : CellsValue) (row : List Choice) → All (IsOwn cells) row → widths_of row ≡ widths cells (map cell row)
same_widths cells [] own = refl
same_widths cells (choice ∷ row) own =
    ap (λ (n : ℕ). n ∷ widths_of row) (All-head (IsOwn cells) choice row own).sites
    ∙ ap (λ (xs : List ℕ). sites_at cells choice.cell ∷ xs) (same_widths cells row (All-tail (IsOwn cells) choice row own))

placed : (rows : SegmentsValue) (cells : CellsValue) (choices : List Choice) (places : List Place) (s : ℕ) → All (IsOwn cells) choices
    → IsRowPlaced rows.pitch rows.segments choices places s → IsPlaced rows cells (map pick_of choices) places s
placed rows cells choices places s own is =
    let row = is.row in
    let row_own : All (IsOwn cells) row = All-permutation (IsOwn cells) (choices_at choices s) row is.is_row.all (All-filter (λ (c : Choice). eqb c.segment s) (IsOwn cells) choices own) in
    let all_desires = same_desires rows cells s row row_own in
    let all_widths = same_widths cells row row_own in
    record {
      row = map cell row;
      is_row = record {
        all = subst (λ xs. IsPermutation xs (map cell row)) (sym (row_cells choices s)) (IsPermutation-map cell (choices_at choices s) row is.is_row.all);
        sorted = sorted_cells cells row row_own is.is_row.sorted;
      };
      each = λ i lt.
          let there : i < length row = omega (arith, lt, length-map row cell) in
          let place = is.each i there in
          let at = get_or-map cell row i blank 0 there in
          record {
            segment = ap (λ (c : ℕ). (place_at places c).segment) at ∙ place.segment;
            earliest = place.earliest;
            is_earliest = subst (λ ws. IsFirst (desires rows cells s (map cell row)) ws i place.earliest) all_widths (subst (λ ds. IsFirst ds (widths_of row) i place.earliest) all_desires place.is_earliest);
            site = ap (λ (c : ℕ). (place_at places c).site) at ∙ place.site ∙ ap (λ (ws : List ℕ). min place.earliest ((segment_at rows.segments s).sites - sum (drop i ws))) all_widths;
          };
    }

-- ---- all choices

many : (rows : SegmentsValue) (cells : CellsValue) (choices : List Choice) → IsGreedy rows cells (map pick_of choices) → length choices ≡ count cells
many rows cells choices greedy =
    let all = length_permutation (range_with_len 0 (count cells)) (cells_in (map pick_of choices)) greedy.order.all in
    omega (arith, all, length-range_with_len 0 (count cells), length-map choices pick_of, length-map (map pick_of choices) (λ (p : Pick). p.cell))

-- all rows have their places: the cells have theirs
pub legalised : (rows : SegmentsValue) (cells : CellsValue) (choices : List Choice) (places : List Place) → IsGreedy rows cells (map pick_of choices) → All (IsOwn cells) choices
    → length places ≡ length choices → ((s : ℕ) → s < length rows.segments → IsRowPlaced rows.pitch rows.segments choices places s) → IsLegalised rows cells places
legalised rows cells choices places greedy own all each = record {
  all = all ∙ many rows cells choices greedy;
  picks = map pick_of choices;
  greedy = greedy;
  placed = λ s lt. placed rows cells choices places s own (each s lt);
}

cell_at : (choices : List Choice) (i : ℕ) → i < length choices → slice_index (cells_in (map pick_of choices)) i ≡ (choice_at choices i).cell
cell_at choices i lt =
    let none : Pick = record { cell = 0; segment = 0 } in
    get_or-map (λ (p : Pick). p.cell) (map pick_of choices) i none 0 (omega (arith, lt, length-map choices pick_of)) ∙ ap (λ (p : Pick). p.cell) (get_or-map pick_of choices i blank none lt)

range_distinct : (n : ℕ) → IsDistinct eqb (range_with_len 0 n)
range_distinct n = IsDistinct-from_apart eqb (range_with_len 0 n) (λ i j d less inside.
    let all = length-range_with_len 0 n in
    let first = get_or-range_with_len 0 n i d (omega arith) in
    let second = get_or-range_with_len 0 n j d (omega arith) in
    ne_eqb (get_or (range_with_len 0 n) i d) (get_or (range_with_len 0 n) j d) (λ e. omega arith))

below_count : (n : ℕ) → All (λ (c : ℕ). c < n) (range_with_len 0 n)
below_count n = λ k d lt. let all = length-range_with_len 0 n in let at = get_or-range_with_len 0 n k d (omega arith) in omega arith

-- what the greedy rule chooses may be placed
pub good_choices : (rows : SegmentsValue) (cells : CellsValue) (choices : List Choice) → AreGoodCells cells → IsGreedy rows cells (map pick_of choices) → All (IsOwn cells) choices
    → AreGoodChoices rows.segments choices
good_choices rows cells choices good greedy own = record {
  there = λ i lt. subst (λ (s : ℕ). s < length rows.segments) (segment_at_pick i lt) (greedy.choices i (picked i lt)).room.there;
  near = λ i lt. let is = own i blank lt in subst IsNear (sym is.x) (good.x (choice_at choices i).cell (below i lt));
  cells = λ i lt. omega (arith, below i lt, all);
  apart = λ i j less inside same.
      let test = apart_from_distinct eqb (cells_in picks) i j 0 distinct less (omega (arith, inside, length-map choices pick_of, length-map picks (λ (p : Pick). p.cell))) in
      let first = cell_at choices i (omega arith) in
      let second = cell_at choices j inside in
      let equal : slice_index (cells_in picks) i ≡ slice_index (cells_in picks) j = first ∙ same ∙ sym second in
      unlike (slice_index (cells_in picks) i) (slice_index (cells_in picks) j) test equal;
  fits = λ s lt.
      let whole = ap (λ (ps : List Pick). taken cells ps s) (take_all (length picks) picks (omega arith)) in
      omega (arith, taken_fits rows cells picks greedy.choices s (length picks) (omega arith), whole, taken_by cells choices s (λ i there. sym (own i blank there).sites));
} where
  picks : List Pick
  picks = map pick_of choices

  all : length choices ≡ count cells
  all = many rows cells choices greedy

  picked : (i : ℕ) → i < length choices → i < length (map pick_of choices)
  picked i lt = omega (arith, lt, length-map choices pick_of)

  segment_at_pick : (i : ℕ) → i < length choices → (get_or (map pick_of choices) i (record { cell = 0; segment = 0 })).segment ≡ (choice_at choices i).segment
  segment_at_pick i lt = ap (λ (p : Pick). p.segment) (get_or-map pick_of choices i blank (record { cell = 0; segment = 0 }) lt)

  below : (i : ℕ) → i < length choices → (choice_at choices i).cell < count cells
  below i lt = subst (λ (c : ℕ). c < count cells) (cell_at choices i lt) (All-permutation (λ (c : ℕ). c < count cells) (range_with_len 0 (count cells)) (cells_in (map pick_of choices)) greedy.order.all
      (below_count (count cells)) i 0 (omega (arith, lt, length-map choices pick_of, length-map (map pick_of choices) (λ (p : Pick). p.cell))))

  distinct : IsDistinct eqb (cells_in (map pick_of choices))
  distinct = IsDistinct-IsPermutation eqb nat_eq_equiv.symm (range_with_len 0 (count cells)) (cells_in (map pick_of choices)) greedy.order.all (range_distinct (count cells))

  unlike : (a b : ℕ) → eqb a b ≡ false → a ≢ b
  unlike a b test same = grind (arith, nat_tests)
