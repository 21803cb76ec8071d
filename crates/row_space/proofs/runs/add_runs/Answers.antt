use Rattle.std.proofs.Common.{◌≡◌, ◌-◌, ◌<◌, ◌++◌, List, length, sym, ap, ◌∙◌, arith}
use Rattle.std.proofs.lemmas.List.{append_assoc}
use Rattle.row_space.specs.declared.parts.Segment.{Segment}
use Rattle.row_space.specs.Values.{SegmentsValue}
use Rattle.row_space.specs.Forms.Marks.{mark_at}
use Rattle.row_space.specs.Forms.Sweep.{with_run}
use Rattle.row_space.proofs.Sweeping.{segments_from, step, last_step, next_parts, run_adds, good_run, mark_within}
use Rattle.row_space.proofs.runs.add_runs.Goals as goal
use Rattle.row_space.proofs.runs.add_runs.Goals.{then-marks-test+else-marks-at, else-marks-test}

pub add_run-requires : goal.add_run-requires
add_run-requires c = record {
  good = good_run c.args.design.now c.args.subrow.now c.args.number (mark_at c.args.marks.now c.marks.at).first c.requires.valid c.requires.there c.requires.subrow
      (mark_within c.args.design.now c.args.marks.now c.args.subrow.now c.args.number c.marks.at c.requires.marks c.requires.subrow c.marks-test.true c.if-marks-at.true);
}

pub marks-preserved : goal.marks-preserved
marks-preserved c =
    let design = c.args.design.now in
    let marks = c.args.marks.now in
    let subrow = c.args.subrow.now in
    let inv = c.marks.invariant in
    let one = step design marks subrow c.args.number c.args.begin c.marks.at c.marks.from c.max-from.result c.requires.marks c.requires.there c.requires.subrow c.requires.parts c.requires.sorted inv.passed inv.from inv.edge
    c.marks-test.true c.if-marks-at.true c.max-from.ensures in
    let adds = run_adds design subrow c.marks.from (mark_at marks c.marks.at).first c.marks.found in
    let new : c.add_run.new.found ≡ with_run design subrow c.marks.from (mark_at marks c.marks.at).first c.marks.found = c.in_ok-add_run.ensures in
    record {
      from = one.up_to;
      edge = one.edge;
      passed = one.passed;
      pitch = ap (λ (v : SegmentsValue). v.pitch) new ∙ adds.pitch ∙ inv.pitch;
      runs = ap (λ (v : SegmentsValue). v.segments ++ segments_from design subrow c.max-from.result (subrow.sites - c.max-from.result)) new
          ∙ ap (λ (front : List Segment). front ++ segments_from design subrow c.max-from.result (subrow.sites - c.max-from.result)) adds.segments
          ∙ append_assoc c.marks.found.segments _ _ ∙ ap (λ (rest : List Segment). c.marks.found.segments ++ rest) (sym one.runs) ∙ inv.runs;
    }

pub add_run-requires-2 : goal.add_run-requires-2
add_run-requires-2 c = record {
  good = good_run c.args.design.now c.args.subrow.now c.args.number c.from.result c.requires.valid c.requires.there c.requires.subrow (omega (arith, c.from.ensures));
}

pub returns-clause-parts : goal.returns-clause-parts
returns-clause-parts c =
    let none = elim c.marks-test.branch as (λ _. c.marks.at < length c.args.marks.now → (mark_at c.args.marks.now c.marks.at).subrow ≡ c.args.number → ⊥) [
      | then-marks-test+else-marks-at w ↦ λ lt same. w.if-marks-at.false same
      | else-marks-test w ↦ λ lt same. absurd (omega (arith, w.marks-test.false))
    ] in
    next_parts c.args.marks.now c.args.number c.args.begin c.marks.at c.marks.from c.requires.parts c.requires.sorted c.marks.invariant.passed none

pub returns-clause-added : goal.returns-clause-added
returns-clause-added c =
    let design = c.args.design.now in
    let subrow = c.args.subrow.now in
    let inv = c.marks.invariant in
    let none = elim c.marks-test.branch as (λ _. c.marks.at < length c.args.marks.now → (mark_at c.args.marks.now c.marks.at).subrow ≡ c.args.number → ⊥) [
      | then-marks-test+else-marks-at w ↦ λ lt same. w.if-marks-at.false same
      | else-marks-test w ↦ λ lt same. absurd (omega (arith, w.marks-test.false))
    ] in
    let last = last_step design c.args.marks.now subrow c.args.number c.args.begin c.marks.at c.marks.from c.requires.marks c.requires.there c.requires.subrow c.requires.parts c.requires.sorted inv.passed inv.from inv.edge none in
    let adds = run_adds design subrow c.marks.from subrow.sites c.marks.found in
    let new : c.add_run-2.new.found ≡ with_run design subrow c.marks.from subrow.sites c.marks.found = c.in_ok-add_run-2.ensures ∙ ap (λ n. with_run design subrow c.marks.from n c.marks.found) c.from.ensures in
    record {
      pitch = ap (λ (v : SegmentsValue). v.pitch) new ∙ adds.pitch ∙ inv.pitch;
      segments = ap (λ (v : SegmentsValue). v.segments) new ∙ adds.segments ∙ ap (λ (rest : List Segment). c.marks.found.segments ++ rest) (sym last) ∙ inv.runs;
    }
