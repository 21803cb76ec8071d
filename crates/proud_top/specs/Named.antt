-- What a refusal names: a node or a cell by its name, or a point by its node's name or by its net.
use Rattle.std.specs.Prelude.{◌≡◌, ℕ, ◌-◌, List, length, slice_get, slice_index, Option, Some, None, IfSome, if◌then◌else◌}
use Rattle.book_files.specs.Entries.{NodeEntry}
use Rattle.book_design.specs.declared.fault.DesignFault.{DesignFault}
use Rattle.book_design.specs.declared.fault.DesignFault.TheVariants.{DuplicateName, UnknownName, NoPosition, NoRows, MixedRows, RowsOverlap, TallCell, Limit}
use Rattle.book_design.specs.Records.{Records}
use Rattle.book_design.specs.Values.{DesignValue}
use Rattle.book_design.specs.Answers.{IsJoined}
use Rattle.book_design.specs.Points.{node_value_at, IsNodeOf}
use Rattle.net_model.specs.declared.fault.NetFault.{NetFault}
use Rattle.net_model.specs.declared.fault.NetFault.TheVariants.{TooManyEdges, Heavy}
use Rattle.net_model.specs.Network.{is_star}
use Rattle.net_model.specs.Numbered.{node_at, point_nodes, node_of as node_of_point}
use Rattle.net_model.specs.Star.{star_nets}
use Rattle.proud_top.specs.Lines.{node_subject, net_subject}
use Rattle.proud_top.specs.declared.status.Refusal.{Refusal}
use Rattle.proud_top.specs.declared.status.Refusal.TheVariants.{TooLong, Text, Design, Net, Unanchored, NoRoom}

-- the number of the node that a fault of the files together names
abbrev pub node_of_fault : DesignFault → Option ℕ
node_of_fault (NoPosition node) = Some node
node_of_fault (TallCell node) = Some node
node_of_fault (DuplicateName line) = None
node_of_fault (UnknownName file line) = None
node_of_fault NoRows = None
node_of_fault (MixedRows row) = None
node_of_fault (RowsOverlap row) = None
node_of_fault (Limit kind number) = None

-- the point that a fault of the nets names
abbrev pub point_of_fault : NetFault → Option ℕ
point_of_fault (Heavy point) = Some point
point_of_fault (TooManyEdges number) = None

-- the node, the cell, or the point, that a refusal names
abbrev pub node_of : Refusal → Option ℕ
node_of (Design fault) = node_of_fault fault
node_of (Net fault) = None
node_of (Unanchored point) = None
node_of (NoRoom cell sites largest) = None
node_of (TooLong kind) = None
node_of (Text kind fault) = None

abbrev pub cell_of : Refusal → Option ℕ
cell_of (Unanchored point) = Some point
cell_of (NoRoom cell sites largest) = Some cell
cell_of (Design fault) = None
cell_of (Net fault) = None
cell_of (TooLong kind) = None
cell_of (Text kind fault) = None

abbrev pub point_of : Refusal → Option ℕ
point_of (Net fault) = point_of_fault fault
point_of (Design fault) = None
point_of (Unanchored point) = None
point_of (NoRoom cell sites largest) = None
point_of (TooLong kind) = None
point_of (Text kind fault) = None

-- among the records that are read, the subject is the node of the number
pub record IsNodeSubject (IsRead : Records → Type 0) (subject : List ℕ) (number : ℕ) : Type 0 where
  pub records : Records
  pub node : NodeEntry
  pub read : IsRead records
  pub there : slice_get records.nodes number ≡ Some node
  pub named : subject ≡ node_subject node.name

-- in the design that the records make, the subject is the cell of the number: a movable node that so many movable ones stand before
pub record IsCellSubject (IsRead : Records → Type 0) (subject : List ℕ) (cell : ℕ) : Type 0 where
  pub records : Records
  pub design : DesignValue
  pub number : ℕ
  pub read : IsRead records
  pub joined : IsJoined records design
  pub node : IsNodeOf design.nodes cell number
  pub named : subject ≡ node_subject (node_value_at design.nodes number).name

-- a star point is named by its net, and any other point by the name of its node
abbrev pub point_subject : DesignValue → ℕ → List ℕ
point_subject design point = if is_star design point then net_subject (slice_index (star_nets design) (point - length (point_nodes design)))
    else node_subject (node_at design (node_of_point design point)).name

-- in the design that the records make, the subject is the point
pub record IsPointSubject (IsRead : Records → Type 0) (subject : List ℕ) (point : ℕ) : Type 0 where
  pub records : Records
  pub design : DesignValue
  pub read : IsRead records
  pub joined : IsJoined records design
  pub named : subject ≡ point_subject design point

-- where the refusal names a node, a cell or a point, this is the subject that it is
pub record IsSubjectIn (IsRead : Records → Type 0) (refusal : Refusal) (subject : List ℕ) : Type 0 where
  pub node : IfSome (node_of refusal) (IsNodeSubject IsRead subject)
  pub cell : IfSome (cell_of refusal) (IsCellSubject IsRead subject)
  pub point : IfSome (point_of refusal) (IsPointSubject IsRead subject)
