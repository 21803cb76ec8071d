use Rattle.std.proofs.Common.{◌≡◌, ℕ, ◌+◌, ◌<◌, List, length, get_or, Option, Some, sym, ap, ◌∙◌, subst, arith}
use Rattle.pad_reach.specs.Forms.Search.{found_at}
use Rattle.pad_reach.specs.declared.steps.Entry.{Entry}
use Rattle.pad_reach.specs.declared.search.Search.{Search}
use Rattle.pad_reach.proofs.LayingOut.{row_sound, row_complete}
use Rattle.pad_reach.proofs.Searching.{next_there, visited_there, entry_read, none_read, some_read, IsVisit, IsVisit-start, IsVisit-skip, IsVisit-added, IsVisit-end}
use Rattle.pad_reach.proofs.search.spread.Goals as goal
use Rattle.pad_reach.proofs.search.spread.Goals.{then-is_none+in_ok-add, else-is_none}

pub index-requires : goal.index-requires
index-requires g c =
    let there = next_there _ _ _ _ _ _ c.loop-next.invariant (omega arith) c.index-near.ensures in
    omega (arith, there, c.loop-next.invariant.sound.all)

pub overflow_add-distance : goal.overflow_add-distance
overflow_add-distance g c =
    let there = next_there _ _ _ _ _ _ c.loop-next.invariant (omega arith) c.index-near.ensures in
    let found = c.loop-next.search.found.items in
    let known : found_at found c.index-near.result.now ≡ Some c.unwrap-distance.result = sym (entry_read found c.index-near.result.now c.index.result.now (omega (arith, there, c.loop-next.invariant.sound.all)) c.index.ensures) ∙ c.unwrap-distance.ensures in
    omega (arith, c.loop-next.invariant.sound.short _ _ known, c.in_ok-search.ensures.few)

pub of-far-items-requires-clause-there : goal.of-far-items-requires-clause-there
of-far-items-requires-clause-there g c =
    let there = next_there _ _ _ _ _ _ c.loop-next.invariant (omega arith) c.index-near.ensures in
    omega (arith, there, c.in_ok-in_neighbours.ensures.all)

pub of-far-items-requires-clause-ordered : goal.of-far-items-requires-clause-ordered
of-far-items-requires-clause-ordered g c =
    c.in_ok-in_neighbours.ensures.ordered _ (next_there _ _ _ _ _ _ c.loop-next.invariant (omega arith) c.index-near.ensures)

pub of-far-items-requires-clause-within : goal.of-far-items-requires-clause-within
of-far-items-requires-clause-within g c =
    let there = next_there _ _ _ _ _ _ c.loop-next.invariant (omega arith) c.index-near.ensures in
    omega (arith, c.in_ok-in_neighbours.ensures.within _ there)

pub loop-far-init : goal.loop-far-init
loop-far-init g c =
    let there = next_there _ _ _ _ _ _ c.loop-next.invariant (omega arith) c.index-near.ensures in
    let found = c.loop-next.search.found.items in
    let known : found_at found c.index-near.result.now ≡ Some c.unwrap-distance.result = sym (entry_read found c.index-near.result.now c.index.result.now (omega (arith, there, c.loop-next.invariant.sound.all)) c.index.ensures) ∙ c.unwrap-distance.ensures in
    IsVisit-start _ _ _ _ _ _ c.loop-next.invariant (omega arith) c.index-near.ensures _ known

pub index-requires-in-loop-far : goal.index-requires-in-loop-far
index-requires-in-loop-far g c =
    let there = visited_there _ _ _ _ _ _ _ _ c.loop-far.invariant in
    let far = row_sound _ _ _ c.in_ok-in_neighbours.ensures _ there _ c.of-far-items.ensures c.loop-far.far-index (omega arith) in
    omega (arith, far.0, c.loop-far.invariant.search.sound.all)

pub add-requires : goal.add-requires
add-requires g c =
    let there = visited_there _ _ _ _ _ _ _ _ c.loop-far.invariant in
    let far = row_sound _ _ _ c.in_ok-in_neighbours.ensures _ there _ c.of-far-items.ensures c.loop-far.far-index (omega arith) in
    omega (arith, far.0, c.loop-far.invariant.search.sound.all)

pub loop-far-preserved : goal.loop-far-preserved
loop-far-preserved g c =
    let there = visited_there _ _ _ _ _ _ _ _ c.loop-far.invariant in
    let far = row_sound _ _ _ c.in_ok-in_neighbours.ensures _ there _ c.of-far-items.ensures c.loop-far.far-index (omega arith) in
    let inside : get_or c.of-far-items.result.now c.loop-far.far-index 0 < length c.loop-far.search.found.items = omega (arith, far.0, c.loop-far.invariant.search.sound.all) in
    let found_of : Search → List (Option Entry) = λ s. s.found.items in
    let queue_of : Search → List ℕ = λ s. s.queue.items in
    let Visit : Search → Type 0 = λ s. IsVisit (g.W.Web.joints c.args.web.now) s.found.items s.queue.items c.loop-next.next c.index-near.result.now (c.unwrap-distance.result.distance + 1) c.of-far-items.result.now (c.loop-far.far-index + 1) in
    elim c.if-is_none.branch [
      | then-is_none+in_ok-add w ↦
          IsVisit-added _ _ _ _ _ _ _ _ c.loop-far.invariant far.0 far.1 (none_read _ _ c.index-in-loop-far.result.now inside c.index-in-loop-far.ensures w.if-is_none.ensures) _ _ (ap found_of w.search-is ∙ w.in_ok-add.ensures.found) (ap queue_of w.search-is ∙ w.in_ok-add.ensures.queue)
      | else-is_none w ↦
          subst Visit (sym w.search-is) (IsVisit-skip _ _ _ _ _ _ _ _ c.loop-far.invariant (some_read _ _ c.index-in-loop-far.result.now inside c.index-in-loop-far.ensures w.if-is_none.ensures))
    ]

pub loop-next-preserved : goal.loop-next-preserved
loop-next-preserved g c =
    let there = visited_there _ _ _ _ _ _ _ _ c.loop-far.invariant in
    IsVisit-end _ _ _ _ _ _ _ _ c.loop-far.invariant (omega arith) (row_complete _ _ _ c.in_ok-in_neighbours.ensures _ there _ c.of-far-items.ensures)
