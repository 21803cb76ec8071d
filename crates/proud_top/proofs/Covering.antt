-- What a refusal behind the texts names is one of theirs.
use Rattle.std.proofs.Common.{◌<◌, ℕ, sym, subst}
use Rattle.std.specs.Prelude.{Ok, Err, IfSome}
use Rattle.std.specs.List.{count_by}
use Rattle.book_design.specs.declared.fault.DesignFault.{DesignFault}
use Rattle.book_design.specs.declared.fault.DesignFault.TheVariants.{DuplicateName, UnknownName, NoPosition, NoRows, MixedRows, RowsOverlap, TallCell, Limit}
use Rattle.book_design.specs.Faults.{IsFirstFault}
use Rattle.book_design.specs.Points.{is_movable}
use Rattle.book_design.specs.Records.{Records}
use Rattle.book_design.specs.Values.{DesignValue}
use Rattle.net_model.specs.declared.fault.NetFault.{NetFault}
use Rattle.net_model.specs.declared.fault.NetFault.TheVariants.{TooManyEdges, Heavy}
use Rattle.net_model.specs.Network.{IsFirstFault as IsFirstNetFault}
use Rattle.proud_top.specs.declared.status.Refusal.{Refusal}
use Rattle.proud_top.specs.declared.status.Refusal.TheVariants.{Net, Unanchored, NoRoom}
use Rattle.proud_top.specs.declared.stop.Stop.TheVariants.{Refused}
use Rattle.proud_top.specs.Named.{node_of_fault, point_of_fault}
use Rattle.proud_top.specs.Texts.{Texts, AreRecords}
use Rattle.proud_top.specs.Forms.Stops.{Designs, HasNode, HasCell, HasPoint, HasNamed}

node_covered : (texts : Texts) (records : Records) (fault : DesignFault) → AreRecords texts records → IsFirstFault records fault → IfSome (node_of_fault fault) (HasNode texts)
node_covered texts records (NoPosition node) read first = record { records = records; read = read; there = first.holds.here.there }
node_covered texts records (TallCell node) read first = record { records = records; read = read; there = first.holds.here.there }
node_covered texts records (DuplicateName line) read first = tt
node_covered texts records (UnknownName file line) read first = tt
node_covered texts records NoRows read first = tt
node_covered texts records (MixedRows row) read first = tt
node_covered texts records (RowsOverlap row) read first = tt
node_covered texts records (Limit kind number) read first = tt

pub design_covered : (texts : Texts) (refusal : Refusal) → Designs texts (Err (Refused refusal)) → HasNamed texts refusal
design_covered texts refusal (records, read, (fault, e, first)) =
    let P : Refusal → Type 0 = λ r. HasNamed texts r in
    subst P (sym e) (record { node = node_covered texts records fault read first; cell = tt; point = tt })

point_covered : (texts : Texts) (design : DesignValue) (fault : NetFault) → Designs texts (Ok design) → IsFirstNetFault design fault → IfSome (point_of_fault fault) (HasPoint texts)
point_covered texts design (Heavy point) made first = record { records = made.0; design = design; read = made.1; joined = made.2; there = first.1.here.0 }
point_covered texts design (TooManyEdges number) made first = tt

pub net_covered : (texts : Texts) (design : DesignValue) (fault : NetFault) → Designs texts (Ok design) → IsFirstNetFault design fault → HasNamed texts (Net fault)
net_covered texts design fault made first = record { node = tt; cell = tt; point = point_covered texts design fault made first }

cell_covered : (texts : Texts) (design : DesignValue) (cell : ℕ) → Designs texts (Ok design) → cell < count_by is_movable design.nodes → HasCell texts cell
cell_covered texts design cell made there = record { records = made.0; design = design; read = made.1; joined = made.2; there = there }

pub loose_covered : (texts : Texts) (design : DesignValue) (point : ℕ) → Designs texts (Ok design) → point < count_by is_movable design.nodes → HasNamed texts (Unanchored point)
loose_covered texts design point made there = record { node = tt; cell = cell_covered texts design point made there; point = tt }

pub roomless_covered : (texts : Texts) (design : DesignValue) (cell sites largest : ℕ) → Designs texts (Ok design) → cell < count_by is_movable design.nodes → HasNamed texts (NoRoom cell sites largest)
roomless_covered texts design cell sites largest made there = record { node = tt; cell = cell_covered texts design cell made there; point = tt }
