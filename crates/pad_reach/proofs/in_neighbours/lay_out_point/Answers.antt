use Rattle.std.proofs.Common.{arith, sym}
use Rattle.pad_reach.proofs.LayingOut.{slot-free, slot-inside, IsLaidOut-step, IsLaidOut-row}
use Rattle.pad_reach.proofs.in_neighbours.lay_out_point.Goals as goal

pub overflow_sub-slot : goal.overflow_sub-slot
overflow_sub-slot g c =
    let free = slot-free _ _ _ _ _ c.loop-k.invariant c.requires.there (omega arith) _ (sym c.neighbour-neighbour.ensures.value) c.neighbour-neighbour.ensures.there in
    omega arith

pub offset_bounds-points-slot : goal.offset_bounds-points-slot
offset_bounds-points-slot g c =
    let inside = slot-inside _ _ _ _ _ c.loop-k.invariant c.requires.there (omega arith) _ (sym c.neighbour-neighbour.ensures.value) c.neighbour-neighbour.ensures.there in
    omega arith

pub bounds-points-slot : goal.bounds-points-slot
bounds-points-slot g c =
    slot-inside _ _ _ _ _ c.loop-k.invariant c.requires.there (omega arith) _ (sym c.neighbour-neighbour.ensures.value) c.neighbour-neighbour.ensures.there

pub loop-k-preserved : goal.loop-k-preserved
loop-k-preserved g c =
    IsLaidOut-step _ _ _ _ _ c.loop-k.invariant c.requires.there (omega arith) _ (sym c.neighbour-neighbour.ensures.value) c.neighbour-neighbour.ensures.there

pub returns : goal.returns
returns g c = IsLaidOut-row _ _ _ _ _ c.requires.there (omega arith) c.loop-k.invariant
