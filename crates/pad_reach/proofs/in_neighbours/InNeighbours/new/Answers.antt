use Rattle.std.proofs.Common.{List, ℕ, length, drop, subst, sym, ◌∙◌, arith}
use Rattle.std.proofs.lemmas.List.{take_at}
use Rattle.pad_reach.specs.Chain.{Joint}
use Rattle.pad_reach.specs.Forms.InNeighbours.{AreEnds}
use Rattle.pad_reach.proofs.LayingOut.{IsLaidOut-start}
use Rattle.pad_reach.proofs.in_neighbours.InNeighbours.new.Goals as goal

pub lay_out-requires : goal.lay_out-requires
lay_out-requires g c =
    let web : List Joint = g.W.Web.joints c.args.web.now in
    let ends = c.find_ends.new.ends in
    let Ends : List ℕ → Type 0 = λ xs. AreEnds web xs in
    let total = rw c.in_ok-entries.ensures.ok_part at c.find_ends.ensures.total in
    let found = rw c.in_ok-entries.ensures.ok_part at c.find_ends.ensures.found in
    let back = take_at ends (drop (length ends) c.in_ok-starts.starts.items) c.in_ok-starts.starts.len (omega (arith, found.all, c.in_ok-starts.ensures.len)) in
    IsLaidOut-start web _ _ (subst Ends (sym (c.deref_mut-2.ensures.value ∙ back)) found) (omega (arith, total, c.in_ok-points.ensures.len))
