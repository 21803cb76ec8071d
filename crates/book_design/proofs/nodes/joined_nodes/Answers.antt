use Rattle.book_design.proofs.nodes.joined_nodes.Goals as goal

pub returns : goal.returns
returns c = simp (← c.as_slice.ensures.lines, ← c.as_slice-2.ensures.lines) c.in_ok-nodes_at_places.ensures
