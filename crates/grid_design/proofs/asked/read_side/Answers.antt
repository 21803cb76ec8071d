use Rattle.std.proofs.Common.{◌≡◌, ◌<◌, ◌^◌, sym, ◌∙◌, arith}
use Rattle.std.proofs.lemmas.Fmt.{decimal_injective}
use Rattle.grid_design.proofs.asked.read_side.Goals as goal
use Rattle.grid_design.proofs.asked.read_side.Goals.{else-side-ge1-via-then-side-ge1+else-side-from, else-side-ge1-via-else-side-ge1}

pub returns-else-side-ge1 : goal.returns-else-side-ge1
returns-else-side-ge1 c = λ side good is.
    let small : side < 2 ^ 64 = omega (arith, good) in
    let same : side ≡ c.in_ok-side.side = decimal_injective side c.in_ok-side.side small c.in_ok-side.ensures.0 (sym is ∙ c.in_ok-side.ensures.1) in
    elim c.else-side-ge1.branch [ else-side-ge1-via-then-side-ge1+else-side-from w ↦ omega (arith, good, same, w.from.ensures) | else-side-ge1-via-else-side-ge1 w ↦ omega (arith, good, same) ]
