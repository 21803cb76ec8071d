-- The texts of a design, and as which records they read; and the texts that a grid makes.
use Rattle.std.specs.Prelude.{◌≡◌, ℕ, ◌<◌, ◌≤◌, List, length, Option, Some, None}
use Rattle.book_files.specs.declared.records.FileKind.{FileKind}
use Rattle.book_files.specs.declared.records.FileKind.TheVariants.{Aux, Nodes, Nets, Wts, Pl, Scl, Schedule}
use Rattle.book_files.specs.declared.fault.TextFault.{TextFault}
use Rattle.book_files.specs.Entries.{WeightEntry}
use Rattle.book_files.specs.Grammar.{IsReading}
use Rattle.book_files.specs.NodeRules.{nodes_grammar}
use Rattle.book_files.specs.NetRules.{nets_grammar}
use Rattle.book_files.specs.WeightRules.{weights_grammar}
use Rattle.book_files.specs.PlaceRules.{places_grammar}
use Rattle.book_files.specs.RowRules.{rows_grammar}
use Rattle.book_files.specs.declared.loading.TheConstants.{MOST_BYTES}
use Rattle.book_design.specs.Records.{Records}
use Rattle.grid_design.specs.declared.asked.Grid.{Grid}
use Rattle.grid_design.specs.Texts.{nodes_text, nets_text, wts_text, pl_text, scl_text}
use Rattle.proud_top.specs.Order.{rank}
use Rattle.proud_top.specs.Accepted.{IsReadable, IsFaultOf}

-- the texts that make a design; there may be none of weights
pub record Texts : Type 0 where
  pub nodes : List ℕ
  pub nets : List ℕ
  pub wts : Option (List ℕ)
  pub pl : List ℕ
  pub scl : List ℕ

-- the text of the kind, where there is one
abbrev pub text_of : Texts → FileKind → Option (List ℕ)
text_of texts Aux = None
text_of texts Nodes = Some texts.nodes
text_of texts Nets = Some texts.nets
text_of texts Wts = texts.wts
text_of texts Pl = Some texts.pl
text_of texts Scl = Some texts.scl
text_of texts Schedule = None

-- there are weights exactly where there is a text of them, which reads as them
abbrev pub AreWeights : Option (List ℕ) → Option (List WeightEntry) → Type 0
AreWeights None None = Unit {0}
AreWeights None (Some weights) = ⊥
AreWeights (Some text) None = ⊥
AreWeights (Some text) (Some weights) = IsReading weights_grammar text weights

-- the records as which the texts read
pub record AreRecords (texts : Texts) (records : Records) : Type 0 where
  pub nodes : IsReading nodes_grammar texts.nodes records.nodes
  pub nets : IsReading nets_grammar texts.nets records.nets
  pub weights : AreWeights texts.wts records.weights
  pub places : IsReading places_grammar texts.pl records.places
  pub rows : IsReading rows_grammar texts.scl records.rows

-- no text has more bytes than a file may have
abbrev pub AreShort : Texts → Type 0
AreShort texts = (kind : FileKind) (text : List ℕ) → text_of texts kind ≡ Some text → length text ≤ MOST_BYTES

-- the text of the kind alone is accepted
pub record IsGoodText (kind : FileKind) (text : List ℕ) : Type 0 where
  pub short : length text ≤ MOST_BYTES
  pub readable : IsReadable kind text

-- each text of a rank below n is accepted
abbrev pub AreGoodBelow : Texts → ℕ → Type 0
AreGoodBelow texts n = (kind : FileKind) (text : List ℕ) → rank kind < n → text_of texts kind ≡ Some text → IsGoodText kind text

-- each text before that of the kind is accepted, and that one has more bytes than a file may have
pub record IsFirstLong (texts : Texts) (kind : FileKind) : Type 0 where
  pub text : List ℕ
  pub there : text_of texts kind ≡ Some text
  pub before : AreGoodBelow texts (rank kind)
  pub long : MOST_BYTES < length text

-- each text before that of the kind is accepted, and that one isn't too long and has this first fault
pub record IsFirstBad (texts : Texts) (kind : FileKind) (fault : TextFault) : Type 0 where
  pub text : List ℕ
  pub there : text_of texts kind ≡ Some text
  pub before : AreGoodBelow texts (rank kind)
  pub short : length text ≤ MOST_BYTES
  pub faulty : IsFaultOf kind text fault

-- the texts of the design of a grid
abbrev pub grid_texts : Grid → Texts
grid_texts grid = record { nodes = nodes_text grid; nets = nets_text grid; wts = Some (wts_text grid); pl = pl_text grid; scl = scl_text grid }
