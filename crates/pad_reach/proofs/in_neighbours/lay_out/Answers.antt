use Rattle.std.proofs.Common.{ℕ, ◌≡◌, List, length, subst, arith}
use Rattle.pad_reach.specs.Chain.{Joint}
use Rattle.pad_reach.specs.Forms.InNeighbours.{IsLaidOut}
use Rattle.pad_reach.proofs.LayingOut.{IsReversed-laid_out}
use Rattle.pad_reach.proofs.in_neighbours.lay_out.Goals as goal

pub returns : goal.returns
returns g c =
    let web : List Joint = g.W.Web.joints c.args.web.now in
    let whole : c.loop-i.i ≡ length web = omega arith in
    let P : ℕ → Type 0 = λ i. IsLaidOut web i 0 c.loop-i.starts c.loop-i.points in
    IsReversed-laid_out web _ _ (subst P whole c.loop-i.invariant)
