use Rattle.std.proofs.Common.{◌≡◌, ◌≤◌, ◌^◌, ◌++◌, ◌∷◌, [], ℕ, ℤ, List, take, sym, ap, ◌∙◌, subst, arith, w64, to_z, of_z}
use Rattle.std.specs.Prelude.{All}
use Rattle.std.proofs.lemmas.Int.{ints, to_z-of_z}
use Rattle.std.proofs.lemmas.List.{map_more, take_all}
use Rattle.std.proofs.lemmas.List.Elements.{All-push}
use Rattle.row_legal.specs.declared.picking.Choice.{Choice}
use Rattle.row_legal.specs.Forms.Choices.{choice_at}
use Rattle.row_legal.specs.Forms.Rows.{nearest_site, desires_of}
use Rattle.row_legal.proofs.placing.desires.Goals as goal

pub loop-choice-preserved : goal.loop-choice-preserved
loop-choice-preserved c =
    let pitch = to_z w64 (of_z w64 c.args.pitch) in
    let segment = c.args.segment.now in
    let row = c.args.row.now in
    let i = c.loop-choice.choice-index in
    let one = choice_at row i in
    let near = c.requires.near i c.loop-choice-test.true in
    let x : to_z w64 (of_z w64 one.x) ≡ one.x = omega (arith, ints, near.low, near.high) in
    let site : c.nearest_site.result ≡ nearest_site pitch segment one.x = c.nearest_site.ensures.site ∙ ap (λ (z : ℤ). nearest_site pitch segment z) x in
    let more = map_more (λ (choice : Choice). nearest_site pitch segment choice.x) row i (choice_at [] 0) c.loop-choice-test.true in
    record {
      same = c.in_ok-push.ensures.items ∙ ap (λ (ds : List ℕ). ds ++ c.nearest_site.result ∷ []) c.loop-choice.invariant.same
          ∙ ap (λ (d : ℕ). desires_of pitch segment (take i row) ++ d ∷ []) site ∙ sym more;
      near = subst (λ (ds : List ℕ). All (λ d. d ≤ 2 ^ 63) ds) (sym c.in_ok-push.ensures.items) (All-push (λ (d : ℕ). d ≤ 2 ^ 63) c.loop-choice.desires.items c.nearest_site.result c.loop-choice.invariant.near c.nearest_site.ensures.small);
    }

pub returns-clause-same : goal.returns-clause-same
returns-clause-same c =
    c.loop-choice.invariant.same ∙ ap (λ (xs : List Choice). desires_of (to_z w64 (of_z w64 c.args.pitch)) c.args.segment.now xs) (take_all c.loop-choice.choice-index c.args.row.now c.loop-choice-test.false)
    ∙ ap (λ (p : ℤ). desires_of p c.args.segment.now c.args.row.now) (to_z-of_z w64 c.args.pitch c.ranges.pitch)
