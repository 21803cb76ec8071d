use Rattle.std.proofs.Common.{◌≡◌, ◌∙◌, to_z, of_z, arith, ◌+ℤ◌, ap}
use Rattle.std.proofs.lemmas.Int.{ints, clamps}
use Rattle.std.specs.Int.{int_max, int_min}
use mir.Syntax.{w64}
use Rattle.book_design.proofs.OverlapAreas.{lt_same}
use Rattle.book_design.proofs.overlap.share_rows.Goals as goal

pub returns : goal.returns
returns c =
    let a : to_z w64 (of_z w64 c.args.a) ≡ c.args.a = omega (arith, ints) in
    let b : to_z w64 (of_z w64 c.args.b) ≡ c.args.b = omega (arith, ints) in
    let top : to_z w64 (of_z w64 c.max.result) ≡ c.max.result = omega (arith, ints) in
    let end : to_z w64 (of_z w64 (to_z w64 (of_z w64 c.min.result) +ℤ to_z w64 (of_z w64 c.args.height))) ≡ c.min.result +ℤ c.args.height = omega (arith, ints, clamps) in
    lt_same _ _ (int_max c.args.a c.args.b) (int_min c.args.a c.args.b +ℤ c.args.height)
    (top ∙ rw (a, b) at c.max.ensures.value) (end ∙ ap (λ z. z +ℤ c.args.height) (rw (a, b) at c.min.ensures.value))
