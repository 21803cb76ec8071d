use Rattle.book_design.proofs.Ranks.{answered}
use Rattle.book_design.proofs.join.join_design.Goals as goal

pub returns : goal.returns
returns c =
    simp (← c.as_slice.ensures.lines, ← c.as_slice-2.ensures.blocks, ← c.weight_lines.ensures, ← c.as_slice-3.ensures.lines, ← c.as_slice-4.ensures.blocks)
    (answered _ c.join_files.result c.join_files.ensures)
