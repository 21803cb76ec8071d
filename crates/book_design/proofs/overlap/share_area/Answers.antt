use Rattle.std.proofs.Common.{◌≡◌, ◌↔◌, to_z, of_z, arith, ◌+ℤ◌, ◌<ℤ◌, IsTrue}
use Rattle.std.proofs.lemmas.Int.{ints}
use Rattle.std.specs.Int.{int_max, int_min}
use mir.Syntax.{w64}
use Rattle.book_design.proofs.OverlapAreas.{meets, rows_of}
use Rattle.book_design.proofs.overlap.share_area.Goals as goal

pub returns-then-share_columns : goal.returns-then-share_columns
returns-then-share_columns c =
    let a : to_z w64 (of_z w64 c.args.a.now.lower) ≡ c.args.a.now.lower = omega (arith, ints) in
    let b : to_z w64 (of_z w64 c.args.b.now.lower) ≡ c.args.b.now.lower = omega (arith, ints) in
    let h : to_z w64 (of_z w64 c.args.height) ≡ c.args.height = omega (arith, ints) in
    let rows : IsTrue c.share_rows.result ↔ (int_max c.args.a.now.lower c.args.b.now.lower <ℤ (int_min c.args.a.now.lower c.args.b.now.lower +ℤ c.args.height)) =
    rw (a, b, h) at c.share_rows.ensures in (
      λ yes. meets c.args.height c.args.a.now c.args.b.now c.requires.positive (c.share_columns.ensures.0 c.if-share_columns.true) (rows.0 yes),
      λ meet. rows.1 (rows_of c.args.height c.args.a.now c.args.b.now meet),
    )
