use Rattle.std.proofs.Common.{◌≡◌, ℕ, ℤ, to_z, of_z, subst, arith, Some, if◌then◌else◌}
use Rattle.std.proofs.lemmas.Int.{ints}
use mir.Syntax.{w64, w128}
use Rattle.std.specs.BTreeMap.{get}
use Rattle.std.specs.Ordering.{is_eq}
use Rattle.book_design.specs.Forms.Overlap.{place_cmp, band}
use Rattle.book_design.proofs.overlap.keep.Goals as goal

pub returns : goal.returns
returns c place =
    let left : to_z w128 (of_z w128 c.from.result) ≡ c.args.strip.now.left = omega (arith, ints) in
    let height : to_z w64 (of_z w64 c.args.height) ≡ c.args.height = omega (arith, ints) in
    let lower : to_z w64 (of_z w64 c.args.strip.now.lower) ≡ c.args.strip.now.lower = omega (arith, ints) in
    let number : c.band_of-band.result ≡ band c.args.height c.args.strip.now.lower = rw (height, lower) at c.band_of-band.ensures.value in
    let Q : ℤ → Type 0 = λ z. get place_cmp c.insert.new.self place ≡ (if is_eq (place_cmp (c.band_of-band.result, z) place) then Some c.args.strip.now else get place_cmp c.args.kept.now place) in
    let P : ℕ → Type 0 = λ n. get place_cmp c.insert.new.self place ≡ (if is_eq (place_cmp (n, c.args.strip.now.left) place) then Some c.args.strip.now else get place_cmp c.args.kept.now place) in
    subst P number (subst Q left (c.in_ok-insert.ensures.updates.0 place))
