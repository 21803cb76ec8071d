-- The steps of the join: what each finds free of faults, and where it stops.
use Rattle.std.specs.Prelude.{ℕ, ◌<◌, ◌≤◌}
use Rattle.book_design.specs.declared.fault.DesignFault.{DesignFault}
use Rattle.book_design.specs.declared.fault.JoinError.{JoinError}
use Rattle.book_design.specs.declared.fault.JoinError.TheVariants.{Fault, Memory}
use Rattle.book_design.specs.Records.{Records}
use Rattle.book_design.specs.Joined.{HasSite}
use Rattle.book_design.specs.Faults.{IsUnknownPin, IsUnknownPlace, IsFault, rank}

-- no pin line and no line of the placement file has a name that no node has
pub record HasKnownNames (records : Records) : Type 0 where
  pub pins : (i : ℕ) → IsUnknownPin records i → ⊥
  pub places : (i : ℕ) → IsUnknownPlace records i → ⊥

-- the records have no fault from one rank to before another
abbrev pub IsFreeFrom : Records → ℕ → ℕ → Type 0
IsFreeFrom records low high = (fault : DesignFault) → low ≤ rank fault → rank fault < high → IsFault records fault → ⊥

-- the records have no fault, and a subrow of theirs has a site
pub record IsSound (records : Records) : Type 0 where
  pub free : IsFreeFrom records 1 14
  pub some : (s : ℕ) × HasSite records s

-- a fault holds, and none from that rank to before it
pub record IsFirstFrom (records : Records) (low : ℕ) (fault : DesignFault) : Type 0 where
  pub holds : IsFault records fault
  pub before : (other : DesignFault) → low ≤ rank other → IsFault records other → rank fault ≤ rank other

-- the join ends there: a fault is the first from that rank on
abbrev pub Stops : Records → ℕ → JoinError → Type 0
Stops records low (Fault fault) = IsFirstFrom records low fault
Stops records low Memory = Unit {0}
