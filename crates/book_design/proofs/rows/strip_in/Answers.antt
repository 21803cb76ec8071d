use Rattle.std.proofs.Common.{◌≡◌, ℤ, pos, ◌+ℤ◌, ◌*ℤ◌, to_z, of_z, arith}
use Rattle.std.proofs.lemmas.Int.{ints}
use mir.Syntax.{w128}
use Rattle.book_design.proofs.RowsSums.{width_fits, kept_wide, same_strip}
use Rattle.book_design.proofs.rows.strip_in.Goals as goal

pub returns : goal.returns
returns c =
    let x : ℤ = c.args.subrow.now.x.0 in
    let width : ℤ = pos c.args.subrow.now.sites *ℤ c.args.row.now.pitch.0 in
    let fits = width_fits c.args.subrow.now.sites c.args.row.now.pitch.0 c.requires.subrow.sites c.requires.row.pitch_sign c.requires.row.pitch.high in
    let sites : to_z w128 (of_z w128 c.from.result) ≡ pos c.args.subrow.now.sites = omega (arith, ints) in
    let pitch : to_z w128 (of_z w128 c.from-2.result) ≡ c.args.row.now.pitch.0 = omega (arith, ints) in
    let left : to_z w128 (of_z w128 c.from-3.result) ≡ x = omega (arith, ints) in
    let product : to_z w128 (of_z w128 (to_z w128 (of_z w128 c.from.result) *ℤ to_z w128 (of_z w128 c.from-2.result))) ≡ width
    = rw (sites, pitch) (kept_wide width (omega (arith, ints, fits.0)) (omega (arith, ints, fits.1))) in
    same_strip c.args.number c.args.subrow.now.sites _ x _ (x +ℤ width) _ c.args.row.now.y.0 (omega (arith, ints))
    (rw (left, product) (kept_wide (x +ℤ width) (omega (arith, ints, fits.0)) (omega (arith, ints, fits.1)))) (omega (arith, ints))
