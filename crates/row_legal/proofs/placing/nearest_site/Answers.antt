use Rattle.std.proofs.Common.{◌≡◌, ◌/◌, ℕ, ℤ, pos, ◌+ℤ◌, ◌-ℤ◌, w64, sym, ap, ◌∙◌, arith}
use Rattle.std.specs.Prelude.{unsigned_abs}
use Rattle.std.proofs.lemmas.Int.{to_z-of_z}
use Rattle.row_legal.specs.Places.{quotient}
use Rattle.row_space.proofs.Comparing.{lt_of, not_lt}
use Rattle.row_legal.proofs.Wishing.{offset_is, quotient_below, quotient_from}
use Rattle.row_legal.proofs.placing.nearest_site.Goals as goal

pub returns-then-offset-lt0-clause-site : goal.returns-then-offset-lt0-clause-site
returns-then-offset-lt0-clause-site c =
    let width = c.unsigned_abs-width.result in
    let left = c.args.segment.now.x in
    let same : width ≡ unsigned_abs c.args.pitch = c.unsigned_abs-width.ensures.value ∙ ap unsigned_abs (to_z-of_z w64 c.args.pitch c.ranges.pitch) in
    let is = offset_is c.args.pitch c.args.x c.args.segment.now (width / 2) c.requires.segment c.requires.near (omega (arith, c.unsigned_abs-width.ensures.bound)) in
    sym (quotient_below ((c.args.x -ℤ left) +ℤ pos (width / 2)) width (lt_of _ _ (rw is at c.if-offset-lt0.true))) ∙ ap (λ (w : ℕ). quotient ((c.args.x -ℤ left) +ℤ pos (w / 2)) w) same

pub returns-else-offset-lt0-clause-site : goal.returns-else-offset-lt0-clause-site
returns-else-offset-lt0-clause-site c =
    let width = c.unsigned_abs-width.result in
    let left = c.args.segment.now.x in
    let same : width ≡ unsigned_abs c.args.pitch = c.unsigned_abs-width.ensures.value ∙ ap unsigned_abs (to_z-of_z w64 c.args.pitch c.ranges.pitch) in
    let is = offset_is c.args.pitch c.args.x c.args.segment.now (width / 2) c.requires.segment c.requires.near (omega (arith, c.unsigned_abs-width.ensures.bound)) in
    ap (λ (z : ℤ). unsigned_abs z / width) is ∙ quotient_from ((c.args.x -ℤ left) +ℤ pos (width / 2)) width (not_lt _ _ (rw is at c.if-offset-lt0.false)) ∙ ap (λ (w : ℕ). quotient ((c.args.x -ℤ left) +ℤ pos (w / 2)) w) same
