use Rattle.std.proofs.Common.{◌≡◌, ◌≤◌}
use Rattle.relax_system.specs.declared.halved.TheConstants.{MOST_SHIFT}
use Rattle.relax_system.specs.System.{IsValid}
use Rattle.relax_system.specs.Halved.{halved}
use Rattle.relax_crew.specs.Forms.Shifts.{IsReached}
use Rattle.relax_crew.proofs.crew.solve_halved.Given as goal

abbrev pub invariant-shifts : goal.invariant-shifts
invariant-shifts g l = IsValid l.system × (1 ≤ l.shift) × (l.shift ≤ MOST_SHIFT) × (l.halved ≡ halved g.D.Direction.side l.shift l.system) × IsReached g.D.Direction.side l.system l.shift l.found.items l.moves

abbrev pub decreases-shifts : goal.decreases-shifts
decreases-shifts g l = l.shift
