use Rattle.std.proofs.Common.{◌≡◌, ℕ, ◌+◌, ◌-◌, ◌<◌, ◌≤◌, w64, to_z, of_z, arith, below_more}
use Rattle.std.proofs.lemmas.Int.{ints}
use Rattle.book_design.specs.Forms.Overlap.{band, MeetsNoneOf}
use Rattle.book_design.proofs.OverlapBands.{none_at_all}
use Rattle.book_design.proofs.OverlapWalk.{at_height}
use Rattle.book_design.proofs.overlap.meets_any.Goals as goal

pub loop-near-preserved : goal.loop-near-preserved
loop-near-preserved c = below_more _ _ c.loop-near.invariant (λ low. c.if-meets_in.ensures)

pub returns : goal.returns
returns c =
    let height : to_z w64 (of_z w64 c.args.height) ≡ c.args.height = omega (arith, ints) in
    let lower : to_z w64 (of_z w64 c.args.strip.now.lower) ≡ c.args.strip.now.lower = omega (arith, ints) in
    let number : c.band_of-band.result ≡ band c.args.height c.args.strip.now.lower = rw (height, lower) at c.band_of-band.ensures.value in
    let none : (n : ℕ) → n < c.loop-near.near → c.band_of-band.result - 1 ≤ n → MeetsNoneOf c.args.height c.args.kept.now n c.args.strip.now =
    λ n past low left t has. at_height (to_z w64 (of_z w64 c.args.height)) c.args.height t c.args.strip.now height (c.loop-near.invariant n past low left t has) in
    none_at_all c.args.height c.args.kept.now c.args.strip.now c.band_of-band.result c.requires.positive c.requires.apart c.requires.range number
    (none (c.band_of-band.result - 1) (omega arith) (omega arith)) (none c.band_of-band.result (omega arith) (omega arith))
    (none (c.band_of-band.result + 1) (omega arith) (omega arith))
