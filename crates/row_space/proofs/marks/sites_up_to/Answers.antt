use Rattle.std.proofs.Common.{◌≡◌, ◌-ℤ◌, ◌<ℤ◌, w64, to_z, of_z, arith}
use Rattle.std.proofs.lemmas.Int.{ints, to_z-of_z}
use Rattle.row_space.proofs.Spans.{up_to_by}
use Rattle.row_space.proofs.marks.sites_up_to.Goals as goal

pub returns-else-x-left : goal.returns-else-x-left
returns-else-x-left c =
    let p : to_z w64 (of_z w64 c.args.pitch) ≡ c.args.pitch = to_z-of_z w64 c.args.pitch c.ranges.pitch in
    let x : to_z w64 (of_z w64 c.args.x) ≡ c.args.x = to_z-of_z w64 c.args.x c.ranges.x in
    let left : to_z w64 (of_z w64 c.args.left) ≡ c.args.left = to_z-of_z w64 c.args.left c.ranges.left in
    let d : to_z w64 (of_z w64 (c.args.x -ℤ c.args.left)) ≡ c.args.x -ℤ c.args.left = omega (arith, ints) in
    let lt : c.args.left <ℤ c.args.x = grind (arith, ints) in
    rw (c.div_ceil.ensures, x, left, d, p) (up_to_by c.args.x c.args.left c.args.pitch c.requires.pitch lt)
