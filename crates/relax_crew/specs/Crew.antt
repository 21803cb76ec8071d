-- How many seats a crew may have, and where their last solve begins.
use Rattle.std.specs.Prelude.{◌≡◌, ℕ, ◌≤◌, List}
use Rattle.relax_system.specs.declared.side.Side.TheVariants.{Floor, Ceil}
use Rattle.relax_system.specs.declared.points.Point.{Point}
use Rattle.relax_system.specs.Extremal.{IsLeast, IsGreatest}
use Rattle.relax_system.specs.Halved.{halved, doubled}
use Rattle.relax_crew.specs.declared.range.TheConstants.{MOST_SEATS}

-- a number of seats that a crew may have
abbrev pub IsCrewSize : ℕ → Type 0
IsCrewSize seats = (1 ≤ seats) × (seats ≤ MOST_SEATS)

-- each entry is the greater of the box's bottom and of twice the least vector of the system halved once
abbrev pub IsTwiceLeast : List Point → List ℕ → Type 0
IsTwiceLeast points start = (y : List ℕ) × IsLeast (halved Floor 1 points) y × (start ≡ doubled Floor points y)

-- each entry is the smaller of the box's top and of twice the greatest vector of the system halved once
abbrev pub IsTwiceGreatest : List Point → List ℕ → Type 0
IsTwiceGreatest points start = (y : List ℕ) × IsGreatest (halved Ceil 1 points) y × (start ≡ doubled Ceil points y)
