-- The records of the files, without where they lie in memory.
use Rattle.std.specs.Prelude.{ℕ, Bool, List, map, ℤ, Option, option_map}
use Rattle.book_files.specs.declared.orient.Orient.{Orient}
use Rattle.book_files.specs.declared.records.AuxFile.{AuxFile}
use Rattle.book_files.specs.declared.records.NodeLine.{NodeLine}
use Rattle.book_files.specs.declared.records.WeightLine.{WeightLine}
use Rattle.book_files.specs.declared.records.PlaceLine.{PlaceLine}
use Rattle.book_files.specs.declared.records.PinLine.{PinLine}
use Rattle.book_files.specs.declared.records.SubrowLine.{SubrowLine}

-- the names in an aux file
pub record AuxEntry : Type 0 where
  pub nodes : List ℕ
  pub nets : List ℕ
  pub wts : Option (List ℕ)
  pub pl : List ℕ
  pub scl : List ℕ

abbrev pub aux_entry : AuxFile → AuxEntry
aux_entry a = record { nodes = a.nodes.now; nets = a.nets.now; wts = option_map (λ t. t.now) a.wts; pl = a.pl.now; scl = a.scl.now }

-- a node line: sizes in millionths
pub record NodeEntry : Type 0 where
  pub line : ℕ
  pub name : List ℕ
  pub width : ℤ
  pub height : ℤ
  pub fixed : Bool
  pub overlap : Bool

abbrev pub node_entry : NodeLine → NodeEntry
node_entry n = record { line = n.line; name = n.name.0.now; width = n.width.0; height = n.height.0; fixed = n.fixed; overlap = n.overlap }

abbrev pub node_entries : List NodeLine → List NodeEntry
node_entries lines = map node_entry lines

-- a weight line: the weight in millionths
pub record WeightEntry : Type 0 where
  pub name : List ℕ
  pub weight : ℤ

abbrev pub weight_entry : WeightLine → WeightEntry
weight_entry w = record { name = w.name.0.now; weight = w.weight.0 }

abbrev pub weight_entries : List WeightLine → List WeightEntry
weight_entries lines = map weight_entry lines

-- a place line: the lower left corner in millionths
pub record PlaceEntry : Type 0 where
  pub line : ℕ
  pub name : List ℕ
  pub x : ℤ
  pub y : ℤ
  pub orient : Orient
  pub fixed : Bool
  pub overlap : Bool

abbrev pub place_entry : PlaceLine → PlaceEntry
place_entry p = record { line = p.line; name = p.name.0.now; x = p.x.0; y = p.y.0; orient = p.orient; fixed = p.fixed; overlap = p.overlap }

abbrev pub place_entries : List PlaceLine → List PlaceEntry
place_entries lines = map place_entry lines

-- a pin: its node's name, and its offset from the node's centre in millionths
pub record PinEntry : Type 0 where
  pub line : ℕ
  pub node : List ℕ
  pub dx : ℤ
  pub dy : ℤ

-- a net and its pins
pub record NetEntry : Type 0 where
  pub name : Option (List ℕ)
  pub pins : List PinEntry

-- a subrow: its origin in millionths, and its number of sites
pub record SubrowEntry : Type 0 where
  pub x : ℤ
  pub sites : ℕ

-- a row: its lower edge, its height and its pitch in millionths
pub record RowEntry : Type 0 where
  pub y : ℤ
  pub height : ℤ
  pub pitch : ℤ
  pub subrows : List SubrowEntry

abbrev pub pin_entry : PinLine → PinEntry
pin_entry p = record { line = p.line; node = p.node.0.now; dx = p.dx.0; dy = p.dy.0 }

abbrev pub pin_entries : List PinLine → List PinEntry
pin_entries lines = map pin_entry lines

abbrev pub subrow_entry : SubrowLine → SubrowEntry
subrow_entry s = record { x = s.x.0; sites = s.sites }

abbrev pub subrow_entries : List SubrowLine → List SubrowEntry
subrow_entries lines = map subrow_entry lines
