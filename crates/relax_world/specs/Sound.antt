-- What holds of the machine at every moment, whatever the events were and however outdated what the seats have seen.
use Rattle.std.specs.Prelude.{ℕ, ◌≤◌, List, All}
use Rattle.relax_system.specs.System.{IsValid}
use Rattle.relax_system.specs.Means.{InBoxes}
use Rattle.relax_system.specs.Sides.{AllBefore, distance, starts_of, IsQuiet, IsExtremal}
use Rattle.relax_table.specs.Ways.{IsQuietVector}
use Rattle.relax_world.specs.World.{WorldState}

-- What a seat has seen lies in the boxes, from where the side begins to the words. Where it is quiet, it is the extremal vector.
pub record IsSoundSight (w : WorldState) (seen : List ℕ) : Type 0 where
  pub in_boxes : InBoxes w.system seen
  pub started : AllBefore w.side (starts_of w.side w.system) seen
  pub behind : AllBefore w.side seen w.words
  pub extremal : IsQuiet w.side w.system seen → IsExtremal w.side w.system seen

-- The words lie in the boxes, from where the side begins to before each quiet vector. The changes are at most what the words went.
pub record IsSoundWorld (w : WorldState) : Type 0 where
  pub valid : IsValid w.system
  pub in_boxes : InBoxes w.system w.words
  pub started : AllBefore w.side (starts_of w.side w.system) w.words
  pub first : (u : List ℕ) → IsQuietVector w.side w.system u → AllBefore w.side w.words u
  pub paid : w.changes ≤ distance w.side (starts_of w.side w.system) w.words
  pub seats : All (IsSoundSight w) w.seen
