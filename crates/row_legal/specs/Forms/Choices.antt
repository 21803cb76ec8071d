-- Cells with their segments, in the order in which they were taken.
use Rattle.std.specs.Prelude.{◌≡◌, ℕ, ◌-◌, ◌<◌, ◌≤◌, ◌==◌, List, length, take, sum_by, slice_index, slice_index_or, if◌then◌else◌, Some, None, ℤ, pos}
use Rattle.row_space.specs.declared.parts.Segment.{Segment}
use Rattle.row_space.specs.Values.{segment_at}
use Rattle.row_legal.specs.declared.turns.Turn.{Turn}
use Rattle.row_legal.specs.declared.picking.Choice.{Choice}
use Rattle.row_legal.specs.declared.fault.LegalError.{LegalError}
use Rattle.row_legal.specs.declared.fault.LegalError.TheVariants.{NoRoom, Memory}
use Rattle.row_legal.specs.Cells.{CellsValue, sites_at, wish_at}
use Rattle.row_legal.specs.Greedy.{Pick}
use Rattle.row_legal.specs.Forms.Turns.{turn_at}
use Rattle.row_legal.specs.Forms.Search.{IsNearest}

abbrev pub choice_of : Turn → ℕ → Choice
choice_of turn segment = record { x = turn.x; cell = turn.cell; segment = segment; sites = turn.sites.0 }

abbrev pub choice_at : List Choice → ℕ → Choice
choice_at choices i = slice_index_or choices i (record { x = pos 0; cell = 0; segment = 0; sites = 0 })

abbrev pub pick_of : Choice → Pick
pick_of choice = record { cell = choice.cell; segment = choice.segment }

-- it says of its cell what is so
pub record IsOwn (cells : CellsValue) (choice : Choice) : Type 0 where
  pub x : choice.x ≡ (wish_at cells choice.cell).x
  pub sites : choice.sites ≡ sites_at cells choice.cell

-- the sites that the choices of a segment take
abbrev pub occupied : List Choice → ℕ → ℕ
occupied choices s = sum_by (λ choice. if choice.segment == s then choice.sites else 0) choices

abbrev pub room_after : List Segment → List Choice → ℕ → ℕ
room_after segments choices s = (segment_at segments s).sites - occupied choices s

-- a cell with the segment that it chooses behind earlier choices
pub record IsChosen (pitch : ℤ) (segments : List Segment) (earlier : List Choice) (turn : Turn) (choice : Choice) : Type 0 where
  pub of_turn : choice ≡ choice_of turn choice.segment
  pub nearest : IsNearest pitch segments (room_after segments earlier) turn (Some choice.segment)

-- the choices of the first cells
pub record AreChosen (pitch : ℤ) (segments : List Segment) (turns : List Turn) (choices : List Choice) : Type 0 where
  pub few : length choices ≤ length turns
  pub each : (i : ℕ) → i < length choices → IsChosen pitch segments (take i choices) (turn_at turns i) (choice_at choices i)

-- the greatest of these numbers, and 0 where there are none
pub record IsGreatest (rooms : List ℕ) (largest : ℕ) : Type 0 where
  pub above : (s : ℕ) → s < length rooms → slice_index rooms s ≤ largest
  pub none : length rooms ≡ 0 → largest ≡ 0
  pub reached : 0 < length rooms → (s : ℕ) × (s < length rooms) × (slice_index rooms s ≡ largest)

-- the cells before this one have choices, and no segment has room for it
pub record IsFull (pitch : ℤ) (segments : List Segment) (turns : List Turn) (cell sites largest : ℕ) : Type 0 where
  pub choices : List Choice
  pub rooms : List ℕ
  pub before : AreChosen pitch segments turns choices
  pub more : length choices < length turns
  pub is_cell : (turn_at turns (length choices)).cell ≡ cell
  pub is_sites : (turn_at turns (length choices)).sites.0 ≡ sites
  pub all : length rooms ≡ length segments
  pub left : (s : ℕ) → s < length segments → slice_index rooms s ≡ room_after segments choices s
  pub full : IsNearest pitch segments (slice_index rooms) (turn_at turns (length choices)) None
  pub is_largest : IsGreatest rooms largest

abbrev pub IsStop : ℤ → List Segment → List Turn → LegalError → Type 0
IsStop pitch segments turns (NoRoom cell sites largest) = IsFull pitch segments turns cell sites largest
IsStop pitch segments turns Memory = Unit {0}

abbrev pub IsNoRoom : Turn → List ℕ → LegalError → Type 0
IsNoRoom turn rooms (NoRoom cell sites largest) = (cell ≡ turn.cell) × (sites ≡ turn.sites.0) × IsGreatest rooms largest
IsNoRoom turn rooms Memory = ⊥
