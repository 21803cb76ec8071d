-- How many answers the rule has: places of all cells, or a cell without room.
use Rattle.std.specs.Prelude.{◌≡◌, ◌⊎◌, ℕ, List}
use Rattle.row_space.specs.Values.{SegmentsValue}
use Rattle.row_legal.specs.declared.parts.Place.{Place}
use Rattle.row_legal.specs.Cells.{CellsValue}
use Rattle.row_legal.specs.Places.{IsLegalised}
use Rattle.row_legal.specs.Answers.{HasNoRoom}

-- There is one list of places at most and one cell without room at most, with one number of sites and one largest room, and never both.
pub record HasOneAnswerAtMost (rows : SegmentsValue) (cells : CellsValue) : Type 0 where
  pub one_list : (a b : List Place) → IsLegalised rows cells a → IsLegalised rows cells b → a ≡ b
  pub one_end : (a b a_sites b_sites a_largest b_largest : ℕ) → HasNoRoom rows cells a a_sites a_largest → HasNoRoom rows cells b b_sites b_largest
      → (a ≡ b) × (a_sites ≡ b_sites) × (a_largest ≡ b_largest)
  pub not_both : (places : List Place) (cell sites largest : ℕ) → IsLegalised rows cells places → HasNoRoom rows cells cell sites largest → ⊥

-- There are places, or a cell without room.
abbrev pub HasAnswer : SegmentsValue → CellsValue → Type 0
HasAnswer rows cells = ((places : List Place) × IsLegalised rows cells places) ⊎ ((cell : ℕ) × (sites : ℕ) × (largest : ℕ) × HasNoRoom rows cells cell sites largest)
