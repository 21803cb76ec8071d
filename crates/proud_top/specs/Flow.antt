-- The flow as a list of steps: each goes on with what it makes, or stops at a refusal.
use Rattle.std.specs.Prelude.{◌≡◌, ◌⊎◌, ℕ, ◌<◌, List, length, Option, Some, None, Result, Ok, Err}
use Rattle.book_outer.specs.Files.{FileEntry}
use Rattle.book_files.specs.declared.records.FileKind.{FileKind}
use Rattle.book_files.specs.declared.records.FileKind.TheVariants.{Schedule}
use Rattle.book_files.specs.Entries.{AuxEntry}
use Rattle.book_design.specs.declared.fault.DesignFault.{DesignFault}
use Rattle.book_design.specs.Records.{Records}
use Rattle.book_design.specs.Values.{DesignValue}
use Rattle.book_design.specs.Faults.{IsFirstFault}
use Rattle.book_design.specs.Answers.{IsJoined}
use Rattle.pad_reach.specs.Chain.{HasChain}
use Rattle.pad_reach.specs.Reaches.{IsFirstUnanchored}
use Rattle.net_model.specs.declared.fault.NetFault.{NetFault}
use Rattle.net_model.specs.Values.{NetworkValue}
use Rattle.net_model.specs.Network.{IsNetwork, IsFirstFault as IsFirstNetFault}
use Rattle.net_model.specs.Webs.{joints_of}
use Rattle.proud_top.specs.declared.status.Refusal.{Refusal}
use Rattle.proud_top.specs.declared.status.Refusal.TheVariants.{TooLong, Text, Design, Net, Unanchored, NoRoom}
use Rattle.book_files.specs.Loading.{HasLongText}
use Rattle.proud_top.specs.Accepted.{Accepts, IsAccepted, IsTooLong, IsBadText, HasBadText}
use Rattle.level_run.specs.declared.rounds.Rounds.{Rounds}
use Rattle.level_run.specs.Rounds.{last_round}
use Rattle.level_run.specs.declared.level.Level.{Level}
use Rattle.level_run.specs.Levels.{IsGap, level_at}
use Rattle.row_space.specs.Values.{SegmentsValue}
use Rattle.row_space.specs.Runs.{segments_of}
use Rattle.row_legal.specs.declared.parts.Place.{Place}
use Rattle.row_legal.specs.Cells.{CellsValue}
use Rattle.row_legal.specs.Places.{IsLegalised}
use Rattle.row_legal.specs.Answers.{HasNoRoom}
use Rattle.row_legal.specs.Spots.{spots_of}
use Rattle.proud_words.specs.Request.{SourceValue, of_design, of_grid}
use Rattle.proud_top.specs.Texts.{Texts, AreRecords, AreShort, IsFirstLong, IsFirstBad, grid_texts}
use Rattle.proud_top.specs.Solve.{AreSolved}
use Rattle.proud_top.specs.Wishes.{AreCells}
use Rattle.wire_report.specs.declared.corner.Corner.{Corner}
use Rattle.wire_report.specs.Wire.{wire_length}
use Rattle.wire_report.specs.Report.{report_of}
use Rattle.proud_top.specs.Placement.{corners_of, placement_of}

-- what a design is placed as: the text of its placement, and the report
pub record PlacedValue : Type 0 where
  pub file : List ℕ
  pub report : List ℕ

-- one step behind another, which goes on with what the first makes
infixl 10 ◌then◌
abbrev pub ◌then◌ : {B C : Type 0} → (Result B Refusal → Type 0) → (B → Result C Refusal → Type 0) → Result C Refusal → Type 0
◌then◌ {B = B} first next (Ok made) = (middle : B) × first (Ok middle) × next middle (Ok made)
◌then◌ {B = B} first next (Err refusal) = first (Err refusal) ⊎ ((middle : B) × first (Ok middle) × next middle (Err refusal))

-- The records that the design's files hold; or the first file that is too long, or whose text has a fault.
abbrev pub reads_known : List FileEntry → List ℕ → Result Records Refusal → Type 0
reads_known files word (Ok records) = (names : AuxEntry) × Accepts files word names records
reads_known files word (Err (TooLong kind)) = IsTooLong files word kind
reads_known files word (Err (Text kind fault)) = IsBadText files word kind fault
reads_known files word (Err (Design fault)) = ⊥
reads_known files word (Err (Net fault)) = ⊥
reads_known files word (Err (Unanchored point)) = ⊥
reads_known files word (Err (NoRoom cell sites largest)) = ⊥

-- The same of a folder whose files may be unknown: of those nothing is said, here and nowhere else.
abbrev pub reads_design : Option (List FileEntry) → List ℕ → Result Records Refusal → Type 0
reads_design None word result = Unit {0}
reads_design (Some files) word result = reads_known files word result

-- The records as which texts read; or the first of them that is too long, or has a fault.
abbrev pub reads_texts : Texts → Result Records Refusal → Type 0
reads_texts texts (Ok records) = AreShort texts × AreRecords texts records
reads_texts texts (Err (TooLong kind)) = IsFirstLong texts kind
reads_texts texts (Err (Text kind fault)) = IsFirstBad texts kind fault
reads_texts texts (Err (Design fault)) = ⊥
reads_texts texts (Err (Net fault)) = ⊥
reads_texts texts (Err (Unanchored point)) = ⊥
reads_texts texts (Err (NoRoom cell sites largest)) = ⊥

-- what a source reads as: the design's files, or the texts that the grid makes
abbrev pub reads : Option (List FileEntry) → SourceValue → Result Records Refusal → Type 0
reads files (of_design word) result = reads_design files word result
reads files (of_grid grid) result = reads_texts (grid_texts grid) result

-- the file of a schedule is accepted; or what is wrong with it
abbrev pub reads_events : List FileEntry → List ℕ → Result (Unit {0}) Refusal → Type 0
reads_events files name (Ok done) = IsAccepted files name Schedule
reads_events files name (Err (TooLong kind)) = (kind ≡ Schedule) × HasLongText files name
reads_events files name (Err (Text kind fault)) = (kind ≡ Schedule) × HasBadText files name Schedule fault
reads_events files name (Err (Design fault)) = ⊥
reads_events files name (Err (Net fault)) = ⊥
reads_events files name (Err (Unanchored point)) = ⊥
reads_events files name (Err (NoRoom cell sites largest)) = ⊥

-- The schedule, where one is named, is accepted; or what is wrong with it. Its events make no difference to what is placed. Where
-- the files are unknown, nothing is said of it.
abbrev pub schedules : Option (List FileEntry) → Option (List ℕ) → Result (Unit {0}) Refusal → Type 0
schedules files None (Ok done) = Unit {0}
schedules files None (Err refusal) = ⊥
schedules None (Some name) result = Unit {0}
schedules (Some files) (Some name) result = reads_events files name result

-- the design that the records make, or their first fault
abbrev pub joins : Records → Result DesignValue Refusal → Type 0
joins records (Ok design) = IsJoined records design
joins records (Err refusal) = (fault : DesignFault) × (refusal ≡ Design fault) × IsFirstFault records fault

-- the network of its nets, or their first fault
abbrev pub wires : DesignValue → Result NetworkValue Refusal → Type 0
wires design (Ok network) = IsNetwork design network
wires design (Err refusal) = (fault : NetFault) × (refusal ≡ Net fault) × IsFirstNetFault design fault

-- a chain leads from each point to a pad, or the first point without one
abbrev pub reaches : NetworkValue → Result (Unit {0}) Refusal → Type 0
reaches network (Ok done) = (p : ℕ) → p < length network.points → HasChain (joints_of network) p
reaches network (Err refusal) = (point : ℕ) × (refusal ≡ Unanchored point) × IsFirstUnanchored (joints_of network) point

-- the rounds of the network, each solved on both axes
abbrev pub solves : NetworkValue → Rounds → Result (List Level) Refusal → Type 0
solves network rounds (Ok levels) = AreSolved network rounds levels
solves network rounds (Err refusal) = ⊥

-- the segments of its rows
abbrev pub spaces : DesignValue → Result SegmentsValue Refusal → Type 0
spaces design (Ok rows) = rows ≡ segments_of design
spaces design (Err refusal) = ⊥

-- its cells, with their wishes of the last round
abbrev pub wishes : DesignValue → Rounds → List Level → Result CellsValue Refusal → Type 0
wishes design rounds levels (Ok cells) = AreCells design (level_at levels (last_round rounds)) cells
wishes design rounds levels (Err refusal) = ⊥

-- the places of the cells by the greedy rule, or the first of them for which no segment has the room
abbrev pub legalises : SegmentsValue → CellsValue → Result (List Place) Refusal → Type 0
legalises rows cells (Ok places) = IsLegalised rows cells places
legalises rows cells (Err refusal) = (cell : ℕ) × (sites : ℕ) × (largest : ℕ) × (refusal ≡ NoRoom cell sites largest) × HasNoRoom rows cells cell sites largest

-- the corners of its nodes, with the cells at these places
abbrev pub stands : DesignValue → SegmentsValue → List Place → Result (List Corner) Refusal → Type 0
stands design rows places (Ok corners) = corners ≡ corners_of design (spots_of rows places)
stands design rows places (Err refusal) = ⊥

-- the text of the placement
abbrev pub writes : DesignValue → List Corner → Result (List ℕ) Refusal → Type 0
writes design corners (Ok text) = text ≡ placement_of design corners
writes design corners (Err refusal) = ⊥

-- the wire length of the placement
abbrev pub measures : DesignValue → List Corner → Result ℕ Refusal → Type 0
measures design corners (Ok wire) = wire ≡ wire_length design corners
measures design corners (Err refusal) = ⊥

-- and with the text the report: of the design, of the gap of all rounds, and of the wire length
abbrev pub reports : DesignValue → Rounds → List Level → List ℕ → ℕ → Result PlacedValue Refusal → Type 0
reports design rounds levels file wire (Ok placed) = (gap : ℕ) × IsGap levels gap × (placed.file ≡ file) × (placed.report ≡ report_of design rounds.levels gap wire)
reports design rounds levels file wire (Err refusal) = ⊥

-- the steps from the places on
abbrev pub places_corners : Rounds → DesignValue → List Level → SegmentsValue → List Place → Result PlacedValue Refusal → Type 0
places_corners rounds design levels rows places = stands design rows places then λ corners. writes design corners then λ file. measures design corners then λ wire. reports design rounds levels file wire

-- the steps from the levels on
abbrev pub places_levels : Rounds → DesignValue → List Level → Result PlacedValue Refusal → Type 0
places_levels rounds design levels = spaces design then λ rows. wishes design rounds levels then λ cells. legalises rows cells then λ places. places_corners rounds design levels rows places

-- the steps from the records on
abbrev pub places_records : Rounds → Records → Result PlacedValue Refusal → Type 0
places_records rounds records = joins records then λ design. wires design then λ network. reaches network then λ done. solves network rounds then λ levels. places_levels rounds design levels

-- the steps from the schedule on
abbrev pub places_scheduled : Option (List FileEntry) → Option (List ℕ) → Rounds → Records → Result PlacedValue Refusal → Type 0
places_scheduled files schedule rounds records = schedules files schedule then λ done. places_records rounds records

-- The whole flow: what the source is placed as with so many levels, each solved so often, by a crew or by the schedule of this name; or the
-- refusal at the first step that stops.
abbrev pub places : Option (List FileEntry) → SourceValue → Option (List ℕ) → Rounds → Result PlacedValue Refusal → Type 0
places files source schedule rounds = reads files source then places_scheduled files schedule rounds

-- the last file that is begun before a refusal: behind the texts all were, and that of a schedule is the last
abbrev pub last_kind : Refusal → FileKind
last_kind (TooLong kind) = kind
last_kind (Text kind fault) = kind
last_kind (Design fault) = Schedule
last_kind (Net fault) = Schedule
last_kind (Unanchored point) = Schedule
last_kind (NoRoom cell sites largest) = Schedule
