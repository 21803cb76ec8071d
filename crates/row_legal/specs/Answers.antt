-- What is answered where not all cells have places.
use Rattle.std.specs.Prelude.{◌≡◌, ℕ, ◌<◌}
use Rattle.row_space.specs.Values.{SegmentsValue}
use Rattle.row_legal.specs.declared.fault.LegalError.{LegalError}
use Rattle.row_legal.specs.declared.fault.LegalError.TheVariants.{NoRoom, Memory}
use Rattle.row_legal.specs.Cells.{CellsValue, sites_at}
use Rattle.row_legal.specs.Greedy.{IsStuck}

-- The rule ends at the cell, with its sites and the largest room left, which is less.
pub record HasNoRoom (rows : SegmentsValue) (cells : CellsValue) (cell sites largest : ℕ) : Type 0 where
  pub stuck : IsStuck rows cells cell largest
  pub is_sites : sites ≡ sites_at cells cell
  pub less : largest < sites

-- Want of memory may come at any time.
abbrev pub IsRefusal : SegmentsValue → CellsValue → LegalError → Type 0
IsRefusal rows cells (NoRoom cell sites largest) = HasNoRoom rows cells cell sites largest
IsRefusal rows cells Memory = Unit {0}
