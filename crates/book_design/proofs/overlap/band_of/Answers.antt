use Rattle.std.proofs.Common.{◌≡◌, ◌^◌, pos, arith, refl, w64, to_z, of_z, ◌+ℤ◌, ◌-ℤ◌}
use Rattle.std.proofs.lemmas.Int.{ints}
use lib.IntN.{negsuc}
use Rattle.book_design.specs.Forms.Overlap.{band}
use Rattle.book_design.proofs.overlap.band_of.Goals as goal

pub returns-clause-value : goal.returns-clause-value
unfolding band
returns-clause-value c =
    let shifted : to_z w64 (of_z w64 (to_z w64 (of_z w64 c.args.lower) -ℤ negsuc 999999999999)) ≡ c.args.lower +ℤ pos (10 ^ 12) = omega (arith, ints) in
    let height : to_z w64 (of_z w64 c.args.height) ≡ c.args.height = omega (arith, ints) in
    rw (shifted, height) refl
