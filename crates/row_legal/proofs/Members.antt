-- What stands in the row of a segment.
use Rattle.std.proofs.Common.{◌≡◌, ◌≢◌, ℕ, ◌+◌, ◌<◌, Bool, true, false, cond, eqb, List, [], ◌∷◌, length, get_or, refl, sym, ap, ◌∙◌, subst, inl, inr, arith}
use Rattle.std.specs.Prelude.{All, sum}
use Rattle.std.specs.List.{Contains, AllPairs, IsDistinct, sum_by}
use Rattle.std.proofs.lemmas.Bool.{cases_order, ne_eqb}
use Rattle.std.proofs.lemmas.Bool.Decides.{nat_tests}
use Rattle.std.proofs.lemmas.Cmp.{nat_eq_equiv}
use Rattle.std.proofs.lemmas.List.{get_or_default}
use Rattle.std.proofs.lemmas.List.Elements.{All-filter, All-contains_itself, filter_passes}
use Rattle.std.proofs.lemmas.List.Kept.{AllPairs-filter}
use Rattle.std.proofs.lemmas.List.Sorted.{All-permutation, sum_by-IsPermutation}
use Rattle.std.proofs.lemmas.List.Sums.{sum_by-cons, sum-map}
use Rattle.std.proofs.lemmas.Map.Keys.{IsDistinct-IsPermutation, IsDistinct-from_apart, apart_from_distinct}
use Rattle.row_legal.specs.declared.picking.Choice.{Choice}
use Rattle.row_legal.specs.Forms.Choices.{choice_at, occupied}
use Rattle.row_legal.specs.Forms.Rows.{IsSortOf, choices_at, widths_of}

-- one of all choices, for this segment
pub record IsMember (choices : List Choice) (s : ℕ) (choice : Choice) : Type 0 where
  pub at : ℕ
  pub there : at < length choices
  pub is : choice_at choices at ≡ choice
  pub segment : choice.segment ≡ s

abbrev blank : Choice
blank = choice_at [] 0

abbrev goes_to : ℕ → Choice → Bool
goes_to s choice = eqb choice.segment s

members : (choices : List Choice) (s : ℕ) → All (IsMember choices s) (choices_at choices s)
members choices s = λ k d lt.
    let one = get_or (choices_at choices s) k d in
    let test : eqb one.segment s ≡ true = filter_passes (goes_to s) choices k d lt in
    let has : Contains choices one = All-filter (goes_to s) (Contains choices) choices (All-contains_itself choices) k d lt in
    record { at = has.0; there = has.1; is = get_or_default choices has.0 blank one has.1 ∙ has.2; segment = grind (arith, nat_tests) }

-- each choice of a row is one of all, for the row's segment
pub member : (choices row : List Choice) (s i : ℕ) → IsSortOf (choices_at choices s) row → i < length row → IsMember choices s (choice_at row i)
member choices row s i sort lt = All-permutation (IsMember choices s) (choices_at choices s) row sort.all (members choices s) i blank lt

abbrev same_cell : Choice → Choice → Bool
same_cell a b = eqb a.cell b.cell

abbrev pub Apart : List Choice → Type 0
Apart choices = (i j : ℕ) → i < j → j < length choices → (choice_at choices i).cell ≢ (choice_at choices j).cell

differ : (a b : ℕ) → eqb a b ≡ false → a ≢ b
differ a b test same = grind (arith, nat_tests)

-- the choices of a row have cells of their own
pub apart_within : (choices row : List Choice) (s : ℕ) → Apart choices → IsSortOf (choices_at choices s) row → Apart row
apart_within choices row s apart sort = λ i j less inside. differ (choice_at row i).cell (choice_at row j).cell (apart_from_distinct same_cell row i j blank moved less inside) where
  all : AllPairs (λ a b. same_cell a b ≡ false) choices
  all = λ i j d less inside.
      let first = get_or_default choices i blank d (omega arith) in
      let second = get_or_default choices j blank d inside in
      let test : same_cell (choice_at choices i) (choice_at choices j) ≡ false = ne_eqb (choice_at choices i).cell (choice_at choices j).cell (apart i j less inside) in
      subst (λ a. same_cell a (get_or choices j d) ≡ false) first (subst (λ b. same_cell (choice_at choices i) b ≡ false) second test)

  distinct : IsDistinct same_cell (choices_at choices s)
  distinct = IsDistinct-from_apart same_cell (choices_at choices s) (AllPairs-filter (λ a b. same_cell a b ≡ false) (goes_to s) choices all)

  moved : IsDistinct same_cell row
  moved = IsDistinct-IsPermutation same_cell (λ a b. nat_eq_equiv.symm a.cell b.cell) (choices_at choices s) row sort.all distinct

-- the rows of two segments have no cell in common
pub apart_between : (choices row other : List Choice) (s t i j : ℕ) → Apart choices → IsSortOf (choices_at choices s) row → IsSortOf (choices_at choices t) other → s ≢ t
    → i < length row → j < length other → (choice_at row i).cell ≢ (choice_at other j).cell
apart_between choices row other s t i j apart sort sort_other unlike lt lt_other same =
    let a = member choices row s i sort lt in
    let b = member choices other t j sort_other lt_other in
    elim (cases_order a.at b.at) [
      | inl one ↦ unlike (sym a.segment ∙ ap (λ (c : Choice). c.segment) (sym a.is ∙ ap (choice_at choices) one ∙ b.is) ∙ b.segment)
      | inr two ↦ elim two [
        | inl less ↦ apart a.at b.at less b.there (ap (λ (c : Choice). c.cell) a.is ∙ same ∙ sym (ap (λ (c : Choice). c.cell) b.is))
        | inr more ↦ apart b.at a.at more a.there (ap (λ (c : Choice). c.cell) b.is ∙ sym same ∙ sym (ap (λ (c : Choice). c.cell) a.is))
      ]
    ]

occupied_by : (choices : List Choice) (s : ℕ) → sum_by (λ (c : Choice). c.sites) (choices_at choices s) ≡ occupied choices s
occupied_by [] s = refl
occupied_by (choice ∷ choices) s = by_test (eqb choice.segment s) refl (occupied_by choices s) where
  first : occupied (choice ∷ choices) s ≡ cond (eqb choice.segment s) choice.sites 0 + occupied choices s
  first = sum_by-cons (λ (c : Choice). cond (eqb c.segment s) c.sites 0) choice choices

  by_test : (b : Bool) → eqb choice.segment s ≡ b → sum_by (λ (c : Choice). c.sites) (choices_at choices s) ≡ occupied choices s
      → sum_by (λ (c : Choice). c.sites) (cond b (choice ∷ choices_at choices s) (choices_at choices s)) ≡ occupied (choice ∷ choices) s
  by_test true is rest =
      let here : cond (eqb choice.segment s) choice.sites 0 ≡ choice.sites = ap (λ (b : Bool). cond b choice.sites 0) is in
      omega (arith, sum_by-cons (λ (c : Choice). c.sites) choice (choices_at choices s), rest, first, here)
  by_test false is rest =
      let here : cond (eqb choice.segment s) choice.sites 0 ≡ 0 = ap (λ (b : Bool). cond b choice.sites 0) is in
      omega (arith, rest, first, here)

-- a row takes what the choices of its segment occupy
pub row_width : (choices row : List Choice) (s : ℕ) → IsSortOf (choices_at choices s) row → sum (widths_of row) ≡ occupied choices s
row_width choices row s sort = sum-map (λ (c : Choice). c.sites) row ∙ sum_by-IsPermutation (λ (c : Choice). c.sites) (choices_at choices s) row sort.all ∙ occupied_by choices s
