-- The greedy rule goes on to the last cell, or ends at a cell without room.
use Rattle.std.proofs.Common.{◌≡◌, ◌⊎◌, ℕ, zero, suc, ◌+◌, ◌<◌, ◌≤◌, List, [], ◌∷◌, ◌++◌, length, take, drop, refl, sym, ap, ◌∙◌, subst, inl, inr, arith}
use Rattle.std.specs.Prelude.{slice_index}
use Rattle.std.proofs.lemmas.Bool.{cases_lt}
use Rattle.std.proofs.lemmas.List.{length-map, length-append, length_push, take_all, take_more, take_at, take-append-le, take-append-drop, drop_more, get_or_append_left, get_or_at, map_push}
use Rattle.row_space.specs.Values.{SegmentsValue}
use Rattle.row_legal.specs.Cells.{CellsValue, count, sites_at}
use Rattle.row_legal.specs.Greedy.{Pick, cells_in, room_left, cost, IsChoice, IsTakingOrder, pick_at, AreChoices, IsGreedy}
use Rattle.row_legal.specs.Answers.{HasNoRoom}
use Rattle.row_legal.proofs.Locating.{cell_of, pick_by}
use Rattle.row_legal.proofs.CellOrders.{some_taking, are_cells}

-- what holds of the first n numbers and of n
up_to : (P : ℕ → Type 0) (n : ℕ) → ((t : ℕ) → t < n → P t) → P n → (t : ℕ) → t < suc n → P t
up_to P n before here t lt = elim (cases_lt t n) [
  | inl less ↦ before t less
  | inr more ↦ let same : n ≡ t = omega arith in subst P same here
]

-- ---- one cell

-- the first of the least costs among the first n segments, where they have the room
record IsBest (need : ℕ) (rooms costs : ℕ → ℕ) (n s : ℕ) : Type 0 where
  there : s < n
  room : need ≤ rooms s
  least : (t : ℕ) → t < n → need ≤ rooms t → costs s ≤ costs t
  first : (t : ℕ) → t < n → need ≤ rooms t → costs t ≡ costs s → s ≤ t

abbrev NoneHasRoom : ℕ → (ℕ → ℕ) → ℕ → Type 0
NoneHasRoom need rooms n = (t : ℕ) → t < n → rooms t < need

new_first : (need : ℕ) (rooms costs : ℕ → ℕ) (n : ℕ) → need ≤ rooms n → NoneHasRoom need rooms n → IsBest need rooms costs (suc n) n
new_first need rooms costs n fits none = record {
  there = omega arith;
  room = fits;
  least = up_to (λ (t : ℕ). need ≤ rooms t → costs n ≤ costs t) n (λ t lt has. let small = none t lt in absurd (omega arith)) (λ has. omega arith);
  first = up_to (λ (t : ℕ). need ≤ rooms t → costs t ≡ costs n → n ≤ t) n (λ t lt has same. let small = none t lt in absurd (omega arith)) (λ has same. omega arith);
}

new_best : (need : ℕ) (rooms costs : ℕ → ℕ) (n s : ℕ) → need ≤ rooms n → IsBest need rooms costs n s → costs n < costs s → IsBest need rooms costs (suc n) n
new_best need rooms costs n s fits is cheaper = record {
  there = omega arith;
  room = fits;
  least = up_to (λ (t : ℕ). need ≤ rooms t → costs n ≤ costs t) n (λ t lt has. let low = is.least t lt has in omega arith) (λ has. omega arith);
  first = up_to (λ (t : ℕ). need ≤ rooms t → costs t ≡ costs n → n ≤ t) n (λ t lt has same. let low = is.least t lt has in absurd (omega arith)) (λ has same. omega arith);
}

old_best : (need : ℕ) (rooms costs : ℕ → ℕ) (n s : ℕ) → IsBest need rooms costs n s → (need ≤ rooms n → costs s ≤ costs n) → IsBest need rooms costs (suc n) s
old_best need rooms costs n s is dearer = record {
  there = omega (arith, is.there);
  room = is.room;
  least = up_to (λ (t : ℕ). need ≤ rooms t → costs s ≤ costs t) n is.least dearer;
  first = up_to (λ (t : ℕ). need ≤ rooms t → costs t ≡ costs s → s ≤ t) n is.first (λ has same. omega (arith, is.there));
}

best : (need : ℕ) (rooms costs : ℕ → ℕ) (n : ℕ) → ((s : ℕ) × IsBest need rooms costs n s) ⊎ NoneHasRoom need rooms n
best need rooms costs zero = inr (λ t lt. absurd (omega arith))
best need rooms costs (suc n) = by_cases (best need rooms costs n) (cases_lt (rooms n) need) where
  by_cases : ((s : ℕ) × IsBest need rooms costs n s) ⊎ NoneHasRoom need rooms n → (rooms n < need) ⊎ (need ≤ rooms n)
      → ((s : ℕ) × IsBest need rooms costs (suc n) s) ⊎ NoneHasRoom need rooms (suc n)
  by_cases (inr none) (inl small) = inr (up_to (λ (t : ℕ). rooms t < need) n none small)
  by_cases (inr none) (inr fits) = inl (n, new_first need rooms costs n fits none)
  by_cases (inl found) (inl small) = inl (found.0, old_best need rooms costs n found.0 found.1 (λ has. absurd (omega arith)))
  by_cases (inl found) (inr fits) = elim (cases_lt (costs n) (costs found.0)) [
    | inl cheaper ↦ inl (n, new_best need rooms costs n found.0 fits found.1 cheaper)
    | inr dearer ↦ inl (found.0, old_best need rooms costs n found.0 found.1 (λ has. dearer))
  ]

-- the greatest of the first n rooms, and 0 for none
record IsMost (rooms : ℕ → ℕ) (n most : ℕ) : Type 0 where
  above : (s : ℕ) → s < n → rooms s ≤ most
  none : n ≡ 0 → most ≡ 0
  reached : 0 < n → (s : ℕ) × (s < n) × (rooms s ≡ most)

some_most : (rooms : ℕ → ℕ) (n : ℕ) → (most : ℕ) × IsMost rooms n most
some_most rooms zero = (0, record { above = λ s lt. absurd (omega arith); none = λ empty. refl; reached = λ some. absurd (omega arith) })
some_most rooms (suc n) = by_cases (some_most rooms n) where
  by_cases : (most : ℕ) × IsMost rooms n most → (most : ℕ) × IsMost rooms (suc n) most
  by_cases before = elim (cases_lt before.0 (rooms n)) [
    | inl more ↦ (
      rooms n,
      record {
        above = up_to (λ (s : ℕ). rooms s ≤ rooms n) n (λ s lt. let low = before.1.above s lt in omega arith) (omega arith);
        none = λ empty. absurd (omega arith);
        reached = λ some. (n, omega arith, refl);
      },
    )
    | inr less ↦ (
      before.0,
      record {
        above = up_to (λ (s : ℕ). rooms s ≤ before.0) n before.1.above less;
        none = λ empty. absurd (omega arith);
        reached = λ some. elim (cases_lt 0 n) [
          | inl earlier ↦ let at = before.1.reached earlier in (at.0, omega (arith, at.1), at.2)
          | inr alone ↦ let zero_of = before.1.none (omega arith) in (n, omega arith, omega arith)
        ];
      },
    )
  ]

-- ---- cell after cell

-- the first n cells have their segments
record Went (rows : SegmentsValue) (cells : CellsValue) (order : List ℕ) (n : ℕ) : Type 0 where
  picks : List Pick
  front : cells_in picks ≡ take n order
  choices : AreChoices rows cells picks

-- a cell has no room
record Ended (rows : SegmentsValue) (cells : CellsValue) (order : List ℕ) : Type 0 where
  picks : List Pick
  cell : ℕ
  rest : List ℕ
  whole : (cells_in picks ++ cell ∷ rest) ≡ order
  choices : AreChoices rows cells picks
  full : NoneHasRoom (sites_at cells cell) (room_left rows cells picks) (length rows.segments)

choice_of : (rows : SegmentsValue) (cells : CellsValue) (picks : List Pick) (c s : ℕ)
    → IsBest (sites_at cells c) (room_left rows cells picks) (cost rows cells c) (length rows.segments) s → IsChoice rows cells picks c s
choice_of rows cells picks c s is = record {
  room = record { there = is.there; room = is.room };
  least = λ t has. is.least t has.there has.room;
  first = λ t has same. is.first t has.there has.room same;
}

choose_more : (rows : SegmentsValue) (cells : CellsValue) (picks : List Pick) (c s : ℕ) → AreChoices rows cells picks → IsChoice rows cells picks c s → AreChoices rows cells (picks ++ pick_by c s ∷ [])
choose_more rows cells picks c s choices choice i lt = elim (cases_lt i (length picks)) [
  | inl before ↦
      let front = take-append-le i picks (pick_by c s ∷ []) (omega arith) in
      let at = get_or_append_left picks (pick_by c s ∷ []) (pick_at [] 0) i before in
      subst (λ (ps : List Pick). IsChoice rows cells ps (pick_at (picks ++ pick_by c s ∷ []) i).cell (pick_at (picks ++ pick_by c s ∷ []) i).segment) (sym front)
      (subst (λ (p : Pick). IsChoice rows cells (take i picks) p.cell p.segment) (sym at) (choices i before))
  | inr behind ↦
      let here : length picks ≡ i = omega (arith, lt, length_push picks (pick_by c s)) in
      let front = take_at picks (pick_by c s ∷ []) i here in
      let at = get_or_at picks (pick_by c s) [] (pick_at [] 0) i here in
      subst (λ (ps : List Pick). IsChoice rows cells ps (pick_at (picks ++ pick_by c s ∷ []) i).cell (pick_at (picks ++ pick_by c s ∷ []) i).segment) (sym front)
      (subst (λ (p : Pick). IsChoice rows cells picks p.cell p.segment) (sym at) choice)
]

one_cell : (rows : SegmentsValue) (cells : CellsValue) (order : List ℕ) (n : ℕ) → n < length order → Went rows cells order n → Went rows cells order (n + 1) ⊎ Ended rows cells order
one_cell rows cells order n lt went = by_cases (best (sites_at cells c) (room_left rows cells went.picks) (cost rows cells c) (length rows.segments)) where
  c : ℕ
  c = slice_index order n

  by_cases : ((s : ℕ) × IsBest (sites_at cells c) (room_left rows cells went.picks) (cost rows cells c) (length rows.segments) s) ⊎ NoneHasRoom (sites_at cells c) (room_left rows cells went.picks) (length rows.segments)
      → Went rows cells order (n + 1) ⊎ Ended rows cells order
  by_cases (inl found) = inl (record {
    picks = went.picks ++ pick_by c found.0 ∷ [];
    front = map_push cell_of went.picks (pick_by c found.0) ∙ ap (λ (front : List ℕ). front ++ c ∷ []) went.front ∙ sym (take_more order n 0 lt);
    choices = choose_more rows cells went.picks c found.0 went.choices (choice_of rows cells went.picks c found.0 found.1);
  })
  by_cases (inr none) = inr (record {
    picks = went.picks;
    cell = c;
    rest = drop (n + 1) order;
    whole = ap (λ (front : List ℕ). front ++ c ∷ drop (n + 1) order) went.front ∙ ap (λ (back : List ℕ). take n order ++ back) (sym (drop_more order n 0 lt)) ∙ take-append-drop n order;
    choices = went.choices;
    full = none;
  })

some_way : (rows : SegmentsValue) (cells : CellsValue) (order : List ℕ) (n : ℕ) → n ≤ length order → Went rows cells order n ⊎ Ended rows cells order
some_way rows cells order zero le = inl (record { picks = []; front = refl; choices = λ i lt. absurd (omega arith) })
some_way rows cells order (suc n) le = by_cases (some_way rows cells order n (omega arith)) where
  add_one : n + 1 ≡ suc n
  add_one = omega arith

  by_cases : Went rows cells order n ⊎ Ended rows cells order → Went rows cells order (suc n) ⊎ Ended rows cells order
  by_cases (inl went) = subst (λ (m : ℕ). Went rows cells order m ⊎ Ended rows cells order) add_one (one_cell rows cells order n (omega arith) went)
  by_cases (inr ended) = inr ended

-- ---- the rule

no_room : (rows : SegmentsValue) (cells : CellsValue) (order : List ℕ) → ((c : ℕ) → c < count cells → 1 ≤ sites_at cells c) → IsTakingOrder cells order → (ended : Ended rows cells order)
    → (largest : ℕ) × HasNoRoom rows cells ended.cell (sites_at cells ended.cell) largest
no_room rows cells order some taking ended =
    let most = some_most (room_left rows cells ended.picks) (length rows.segments) in (
      most.0,
      record {
        stuck = record {
          picks = ended.picks;
          rest = ended.rest;
          order = subst (IsTakingOrder cells) (sym ended.whole) taking;
          choices = ended.choices;
          full = ended.full;
          is_largest = record { above = most.1.above; none = most.1.none; reached = most.1.reached };
        };
        is_sites = refl;
        less = elim (cases_lt 0 (length rows.segments)) [
          | inl segments ↦ let at = most.1.reached segments in subst (λ (n : ℕ). n < sites_at cells ended.cell) at.2 (ended.full at.0 at.1)
          | inr none ↦
              let zero_of : most.0 ≡ 0 = most.1.none (omega arith) in
              let next : slice_index (cells_in ended.picks ++ ended.cell ∷ ended.rest) (length ended.picks) ≡ ended.cell
              = get_or_at (cells_in ended.picks) ended.cell ended.rest 0 (length ended.picks) (length-map ended.picks cell_of) in
              let there : length ended.picks < length order
              = omega (arith, ap length ended.whole, length-append (cells_in ended.picks) (ended.cell ∷ ended.rest), length-map ended.picks cell_of) in
              let is_cell : slice_index order (length ended.picks) < count cells = are_cells cells order taking (length ended.picks) 0 there in
              let same : slice_index order (length ended.picks) ≡ ended.cell = sym (ap (λ (xs : List ℕ). slice_index xs (length ended.picks)) ended.whole) ∙ next in
              let one : 1 ≤ sites_at cells ended.cell = some ended.cell (subst (λ (c : ℕ). c < count cells) same is_cell) in
              subst (λ (n : ℕ). n < sites_at cells ended.cell) (sym zero_of) one
        ];
      },
    )

-- all cells have their segments, or one has no room
pub some_end : (rows : SegmentsValue) (cells : CellsValue) → ((c : ℕ) → c < count cells → 1 ≤ sites_at cells c)
    → ((picks : List Pick) × IsGreedy rows cells picks) ⊎ ((cell : ℕ) × (sites : ℕ) × (largest : ℕ) × HasNoRoom rows cells cell sites largest)
some_end rows cells some = by_cases (some_way rows cells order.0 (length order.0) (omega arith)) where
  order : (xs : List ℕ) × IsTakingOrder cells xs
  order = some_taking cells

  by_cases : Went rows cells order.0 (length order.0) ⊎ Ended rows cells order.0
      → ((picks : List Pick) × IsGreedy rows cells picks) ⊎ ((cell : ℕ) × (sites : ℕ) × (largest : ℕ) × HasNoRoom rows cells cell sites largest)
  by_cases (inl went) = inl (
    went.picks,
    record {
      order = subst (IsTakingOrder cells) (sym (went.front ∙ take_all (length order.0) order.0 (omega arith))) order.1;
      choices = went.choices;
    },
  )
  by_cases (inr ended) = let end = no_room rows cells order.0 some order.1 ended in inr (ended.cell, sites_at cells ended.cell, end.0, end.1)
