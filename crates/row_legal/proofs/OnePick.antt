-- The greedy rule has one list of picks, or one cell without room.
use Rattle.std.proofs.Common.{◌≡◌, ℕ, zero, suc, ◌+◌, ◌<◌, ◌≤◌, List, [], ◌∷◌, ◌++◌, length, take, refl, sym, ap, ◌∙◌, subst, inl, inr, arith}
use Rattle.std.specs.Prelude.{slice_index}
use Rattle.std.proofs.lemmas.Bool.{cases_lt, cases_order}
use Rattle.std.proofs.lemmas.List.{get_or-map, length-map, length-append, take_all, take_more_same, get_or_append_left, get_or_at}
use Rattle.row_space.specs.Values.{SegmentsValue}
use Rattle.row_legal.specs.Cells.{CellsValue, sites_at}
use Rattle.row_legal.specs.Greedy.{Pick, cells_in, room_left, HasRoom, cost, IsChoice, pick_at, AreChoices, IsGreedy, IsLargest, IsStuck}
use Rattle.row_legal.proofs.Locating.{cell_of, pick_by}
use Rattle.row_legal.proofs.CellOrders.{one_taking}

two_ways : (m n : ℕ) → m ≤ n → n ≤ m → m ≡ n
two_ways m n low high = omega arith

clash : (m n : ℕ) → m ≤ n → n < m → ⊥
clash m n le lt = absurd (omega arith)

-- ---- one pick

one_choice : (rows : SegmentsValue) (cells : CellsValue) (picks : List Pick) (c s t : ℕ) → IsChoice rows cells picks c s → IsChoice rows cells picks c t → s ≡ t
one_choice rows cells picks c s t a b =
    let low : cost rows cells c s ≤ cost rows cells c t = a.least t b.room in
    let high : cost rows cells c t ≤ cost rows cells c s = b.least s a.room in
    two_ways s t (a.first t b.room (two_ways (cost rows cells c t) (cost rows cells c s) high low)) (b.first s a.room (two_ways (cost rows cells c s) (cost rows cells c t) low high))

same_pick : (p q : Pick) → p.cell ≡ q.cell → p.segment ≡ q.segment → p ≡ q
same_pick p q cell segment = ap (λ (c : ℕ). pick_by c p.segment) cell ∙ ap (pick_by q.cell) segment

-- as far as two lists of choices take the same cells, they are the same
same_picks : (rows : SegmentsValue) (cells : CellsValue) (p q : List Pick) → AreChoices rows cells p → AreChoices rows cells q → (n : ℕ) → n ≤ length p → n ≤ length q
    → ((i : ℕ) → i < n → (pick_at p i).cell ≡ (pick_at q i).cell) → take n p ≡ take n q
same_picks rows cells p q of_p of_q zero le_p le_q same = refl
same_picks rows cells p q of_p of_q (suc n) le_p le_q same =
    let before = same_picks rows cells p q of_p of_q n (omega arith) (omega arith) (λ i lt. same i (omega arith)) in
    let cell : (pick_at p n).cell ≡ (pick_at q n).cell = same n (omega arith) in
    let one : IsChoice rows cells (take n p) (pick_at p n).cell (pick_at p n).segment = of_p n (omega arith) in
    let two : IsChoice rows cells (take n p) (pick_at p n).cell (pick_at q n).segment
    = subst (λ (ps : List Pick). IsChoice rows cells ps (pick_at p n).cell (pick_at q n).segment) (sym before)
    (subst (λ (c : ℕ). IsChoice rows cells (take n q) c (pick_at q n).segment) (sym cell) (of_q n (omega arith))) in
    let here = same_pick (pick_at p n) (pick_at q n) cell (one_choice rows cells (take n p) (pick_at p n).cell (pick_at p n).segment (pick_at q n).segment one two) in
    subst (λ (m : ℕ). take m p ≡ take m q) (add_one n) (take_more_same p q n (pick_at [] 0) (omega arith) (omega arith) before here) where
      add_one : (n : ℕ) → n + 1 ≡ suc n
      add_one n = omega arith

-- ---- one list of picks

-- picks of the first cells of an order
record IsFront (rows : SegmentsValue) (cells : CellsValue) (order : List ℕ) (picks : List Pick) : Type 0 where
  choices : AreChoices rows cells picks
  cell : (i : ℕ) → i < length picks → slice_index order i ≡ (pick_at picks i).cell

front_of : (rows : SegmentsValue) (cells : CellsValue) (picks : List Pick) (rest : List ℕ) → AreChoices rows cells picks → IsFront rows cells (cells_in picks ++ rest) picks
front_of rows cells picks rest choices = record {
  choices = choices;
  cell = λ i lt. get_or_append_left (cells_in picks) rest 0 i (omega (arith, lt, length-map picks cell_of)) ∙ get_or-map cell_of picks i (pick_at [] 0) 0 lt;
}

whole_front : (rows : SegmentsValue) (cells : CellsValue) (picks : List Pick) → AreChoices rows cells picks → IsFront rows cells (cells_in picks) picks
whole_front rows cells picks choices = record { choices = choices; cell = λ i lt. get_or-map cell_of picks i (pick_at [] 0) 0 lt }

-- the shorter one is the first part of the longer one
shorter : (rows : SegmentsValue) (cells : CellsValue) (order : List ℕ) (p q : List Pick) → IsFront rows cells order p → IsFront rows cells order q → length p ≤ length q → p ≡ take (length p) q
shorter rows cells order p q of_p of_q le =
    sym (take_all (length p) p (omega arith)) ∙ same_picks rows cells p q of_p.choices of_q.choices (length p) (omega arith) le (λ i lt. sym (of_p.cell i lt) ∙ of_q.cell i (omega arith))

as_long : (rows : SegmentsValue) (cells : CellsValue) (order : List ℕ) (p q : List Pick) → IsFront rows cells order p → IsFront rows cells order q → length p ≡ length q → p ≡ q
as_long rows cells order p q of_p of_q long = shorter rows cells order p q of_p of_q (omega arith) ∙ take_all (length p) q (omega arith)

-- where no segment has room for the next cell, no list goes on
no_longer : (rows : SegmentsValue) (cells : CellsValue) (order : List ℕ) (p q : List Pick) (c : ℕ) → IsFront rows cells order p → IsFront rows cells order q → slice_index order (length p) ≡ c
    → ((s : ℕ) → s < length rows.segments → room_left rows cells p s < sites_at cells c) → length p < length q → ⊥
no_longer rows cells order p q c of_p of_q next full lt =
    let s = (pick_at q (length p)).segment in
    let cell : (pick_at q (length p)).cell ≡ c = sym (of_q.cell (length p) lt) ∙ next in
    let room : HasRoom rows cells (take (length p) q) c s = subst (λ (d : ℕ). HasRoom rows cells (take (length p) q) d s) cell (of_q.choices (length p) lt).room in
    let here : HasRoom rows cells p c s = subst (λ (ps : List Pick). HasRoom rows cells ps c s) (sym (shorter rows cells order p q of_p of_q (omega arith))) room in
    clash (sites_at cells c) (room_left rows cells p s) here.room (full s here.there)

-- all cells have one list of picks
pub one_greedy : (rows : SegmentsValue) (cells : CellsValue) (p q : List Pick) → IsGreedy rows cells p → IsGreedy rows cells q → p ≡ q
one_greedy rows cells p q a b =
    let same = one_taking cells (cells_in p) (cells_in q) a.order b.order in
    let long : length p ≡ length q = sym (length-map p cell_of) ∙ ap length same ∙ length-map q cell_of in
    as_long rows cells (cells_in q) p q (subst (λ (xs : List ℕ). IsFront rows cells xs p) same (whole_front rows cells p a.choices)) (whole_front rows cells q b.choices) long

-- ---- one end

-- picks, and the cell behind them
next_cell : (picks : List Pick) (c : ℕ) (rest : List ℕ) → slice_index (cells_in picks ++ c ∷ rest) (length picks) ≡ c
next_cell picks c rest = get_or_at (cells_in picks) c rest 0 (length picks) (length-map picks cell_of)

pub never_both : (rows : SegmentsValue) (cells : CellsValue) (picks : List Pick) (c largest : ℕ) → IsGreedy rows cells picks → IsStuck rows cells c largest → ⊥
never_both rows cells picks c largest greedy stuck =
    let same = one_taking cells (cells_in picks) (cells_in stuck.picks ++ c ∷ stuck.rest) greedy.order stuck.order in
    let longer : length stuck.picks < length picks
    = omega (arith, ap length same, length-map picks cell_of, length-append (cells_in stuck.picks) (c ∷ stuck.rest), length-map stuck.picks cell_of) in
    no_longer rows cells (cells_in stuck.picks ++ c ∷ stuck.rest) stuck.picks picks c (front_of rows cells stuck.picks (c ∷ stuck.rest) stuck.choices)
    (subst (λ (xs : List ℕ). IsFront rows cells xs picks) same (whole_front rows cells picks greedy.choices)) (next_cell stuck.picks c stuck.rest) stuck.full longer

one_largest : (rows : SegmentsValue) (cells : CellsValue) (picks : List Pick) (l m : ℕ) → IsLargest rows cells picks l → IsLargest rows cells picks m → l ≡ m
one_largest rows cells picks l m a b = elim (cases_lt 0 (length rows.segments)) [
  | inl some ↦
      let at_a = a.reached some in
      let at_b = b.reached some in
      two_ways l m (subst (λ (n : ℕ). n ≤ m) at_a.2 (b.above at_a.0 at_a.1)) (subst (λ (n : ℕ). n ≤ l) at_b.2 (a.above at_b.0 at_b.1))
  | inr none ↦ let zero_of : length rows.segments ≡ 0 = omega arith in a.none zero_of ∙ sym (b.none zero_of)
]

pub one_end : (rows : SegmentsValue) (cells : CellsValue) (c d l m : ℕ) → IsStuck rows cells c l → IsStuck rows cells d m → (c ≡ d) × (l ≡ m)
one_end rows cells c d l m a b = elim (cases_order (length a.picks) (length b.picks)) [
  | inl long ↦
      let picks = as_long rows cells order a.picks b.picks of_a of_b long in
      (sym next_a ∙ ap (slice_index order) long ∙ next_b, one_largest rows cells b.picks l m (subst (λ (ps : List Pick). IsLargest rows cells ps l) picks a.is_largest) b.is_largest)
  | inr differ ↦ elim differ [
    | inl less ↦ absurd (no_longer rows cells order a.picks b.picks c of_a of_b next_a a.full less)
    | inr more ↦ absurd (no_longer rows cells order b.picks a.picks d of_b of_a next_b b.full more)
  ]
] where
  order : List ℕ
  order = cells_in b.picks ++ d ∷ b.rest

  same : (cells_in a.picks ++ c ∷ a.rest) ≡ order
  same = one_taking cells (cells_in a.picks ++ c ∷ a.rest) order a.order b.order

  of_a : IsFront rows cells order a.picks
  of_a = subst (λ (xs : List ℕ). IsFront rows cells xs a.picks) same (front_of rows cells a.picks (c ∷ a.rest) a.choices)

  of_b : IsFront rows cells order b.picks
  of_b = front_of rows cells b.picks (d ∷ b.rest) b.choices

  next_a : slice_index order (length a.picks) ≡ c
  next_a = subst (λ (xs : List ℕ). slice_index xs (length a.picks) ≡ c) same (next_cell a.picks c a.rest)

  next_b : slice_index order (length b.picks) ≡ d
  next_b = next_cell b.picks d b.rest
