use Rattle.std.proofs.Common.{◌∙◌, sym, inr, arith}
use Rattle.book_text.proofs.LineEnds.{still_starts, behind_end}
use Rattle.book_text.proofs.NextLine.{IsLineAt, content_from-kept, content_from-passed}
use Rattle.book_text.proofs.line.next_line.Goals as goal

pub returns-then-is_kept : goal.returns-then-is_kept
returns-then-is_kept c =
    let line : IsLineAt c.args.text.now c.loop-start.start c.line_end-end.result c.min-next.result =
    record { some = c.loop-start-test.true; ended = c.line_end-end.ensures.place; followed = c.min-next.ensures } in
    record {
      ahead = c.loop-start.invariant.ahead;
      ordered = omega arith;
      inside = omega arith;
      further = omega arith;
      within = omega arith;
      starts = still_starts _ _ _ c.loop-start-test.true c.loop-start.invariant.starts;
      ends = c.line_end-end.ensures.place;
      behind = c.min-next.ensures;
      numbered = omega arith;
      content = c.loop-start.invariant.content ∙ content_from-kept _ _ _ _ _ line (sym c.is_kept.ensures ∙ c.if-is_kept.true);
    }

pub loop-start-preserved : goal.loop-start-preserved
loop-start-preserved c =
    let line : IsLineAt c.args.text.now c.loop-start.start c.line_end-end.result c.min-next.result =
    record { some = c.loop-start-test.true; ended = c.line_end-end.ensures.place; followed = c.min-next.ensures } in
    record {
      ahead = omega arith;
      within = omega arith;
      starts = inr (behind_end _ _ _ _ line);
      numbered = omega arith;
      content = c.loop-start.invariant.content ∙ content_from-passed _ _ _ _ _ line (sym c.is_kept.ensures ∙ c.if-is_kept.false);
    }
