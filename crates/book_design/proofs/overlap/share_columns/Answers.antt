use Rattle.std.proofs.Common.{◌≡◌, ◌∙◌, to_z, of_z, arith}
use Rattle.std.proofs.lemmas.Int.{ints}
use Rattle.std.specs.Int.{int_max, int_min}
use mir.Syntax.{w64, w128}
use Rattle.book_design.proofs.OverlapAreas.{lt_same}
use Rattle.book_design.proofs.overlap.share_columns.Goals as goal

pub returns : goal.returns
returns c =
    let al : to_z w64 (of_z w64 c.args.a.now.left) ≡ c.args.a.now.left = omega (arith, ints) in
    let bl : to_z w64 (of_z w64 c.args.b.now.left) ≡ c.args.b.now.left = omega (arith, ints) in
    let ar : to_z w128 (of_z w128 c.args.a.now.right) ≡ c.args.a.now.right = omega (arith, ints) in
    let br : to_z w128 (of_z w128 c.args.b.now.right) ≡ c.args.b.now.right = omega (arith, ints) in
    let left : to_z w128 (of_z w128 c.from.result) ≡ c.max.result = omega (arith, ints) in
    let right : to_z w128 (of_z w128 c.min.result) ≡ c.min.result = omega (arith, ints) in
    lt_same _ _ (int_max c.args.a.now.left c.args.b.now.left) (int_min c.args.a.now.right c.args.b.now.right)
    (left ∙ rw (al, bl) at c.max.ensures.value) (right ∙ rw (ar, br) at c.min.ensures.value)
