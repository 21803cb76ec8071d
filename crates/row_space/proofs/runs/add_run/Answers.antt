use Rattle.std.proofs.Common.{◌≡◌, ℕ, ◌-◌, Bool, ℤ, pos, ◌+ℤ◌, ◌*ℤ◌, ◌≤ℤ◌, w64, to_z, of_z, true, sym, ap, ◌∙◌, cond, ltb, subst, arith, rules}
use mir.Val.{SFits}
use Rattle.std.proofs.lemmas.Int.{to_z-of_z}
use Rattle.std.proofs.lemmas.Bool.Decides.{nat_tests}
use Rattle.book_design.specs.declared.rules.TheConstants.{ROWS_END}
use Rattle.row_space.specs.declared.parts.Segment.{Segment}
use Rattle.row_space.specs.Values.{with_segment}
use Rattle.row_space.specs.Forms.Sweep.{run_segment}
use Rattle.row_space.proofs.Spans.{left_end, left_fits}
use Rattle.row_space.proofs.runs.add_run.Goals as goal

abbrev by : ℤ → ℤ → ℕ → Segment
by x y sites = record { x = x; y = y; sites = sites }

pub overflow_add-subrow : goal.overflow_add-subrow
overflow_add-subrow c =
    let good = c.requires.good in
    let fits_pitch : SFits w64 c.pitch.result = search rules in
    let spaced : pos 1 ≤ℤ c.pitch.result = subst (λ (z : ℤ). pos 1 ≤ℤ z) (sym c.pitch.ensures.pitch) good.spaced in
    let right = subst (λ (z : ℤ). (c.args.subrow.now.x +ℤ pos c.args.subrow.now.sites *ℤ z) ≤ℤ ROWS_END) (sym c.pitch.ensures.pitch) good.right in
    left_fits c.args.subrow.now.x c.pitch.result c.args.from c.args.subrow.now.sites good.left right spaced fits_pitch (omega arith) (omega arith)

pub returns-in_ok-push : goal.returns-in_ok-push
returns-in_ok-push c =
    let subrow = c.args.subrow.now in
    let design = c.args.design.now in
    let good = c.requires.good in
    let fits_y : SFits w64 subrow.y = search rules in
    let fits_pitch : SFits w64 c.pitch.result = search rules in
    let y : to_z w64 (of_z w64 subrow.y) ≡ subrow.y = to_z-of_z w64 subrow.y fits_y in
    let x = left_end subrow.x design.pitch c.args.from subrow.sites good.left good.right good.spaced (subst (λ (z : ℤ). SFits w64 z) c.pitch.ensures.pitch fits_pitch) (omega arith) (omega arith) in
    let test : ltb c.args.from c.args.end ≡ true = grind (arith, nat_tests) in
    c.in_ok-push.ensures.pushed
    ∙ ap (λ (p : ℤ). with_segment c.args.found.now (by (to_z w64 (of_z w64 (to_z w64 (of_z w64 subrow.x) +ℤ to_z w64 (of_z w64 (to_z w64 c.args.from *ℤ to_z w64 (of_z w64 p)))))) (to_z w64 (of_z w64 subrow.y)) (c.args.end - c.args.from))) c.pitch.ensures.pitch
    ∙ ap (λ (z : ℤ). with_segment c.args.found.now (by z (to_z w64 (of_z w64 subrow.y)) (c.args.end - c.args.from))) x
    ∙ ap (λ (z : ℤ). with_segment c.args.found.now (by (subrow.x +ℤ pos c.args.from *ℤ design.pitch) z (c.args.end - c.args.from))) y
    ∙ sym (ap (λ (b : Bool). cond b (with_segment c.args.found.now (run_segment design subrow c.args.from c.args.end)) c.args.found.now) test)
