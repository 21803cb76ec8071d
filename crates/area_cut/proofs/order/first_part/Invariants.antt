use Rattle.std.proofs.Common.{◌≡◌, ℕ, ◌*◌, ◌<◌, ◌≤◌, take}
use Rattle.area_cut.specs.Cut.{area_of}
use Rattle.area_cut.specs.Forms.Placed.{numbers_of}
use Rattle.area_cut.proofs.order.first_part.Given as goal

abbrev pub invariant-loop-count : goal.invariant-loop-count
invariant-loop-count l = record {
  sum : l.part ≡ area_of l.areas (take l.count (numbers_of l.order));
  fewer : (m : ℕ) → 1 ≤ m → m < l.count → 2 * area_of l.areas (take m (numbers_of l.order)) < l.total;
}
