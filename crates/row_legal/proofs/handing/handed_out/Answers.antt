use Rattle.std.proofs.Common.{◌++◌, ◌∷◌, [], List, ap, ◌∙◌, arith}
use Rattle.std.proofs.lemmas.List.{length-set, take_all}
use Rattle.row_legal.specs.declared.picking.Choice.{Choice}
use Rattle.row_legal.specs.Forms.Choices.{choice_at}
use Rattle.row_legal.specs.Forms.Rows.{choices_at}
use Rattle.row_legal.proofs.Handouts.{row_read, handed_more}
use Rattle.row_legal.proofs.handing.handed_out.Goals as goal

pub loop-choice-preserved : goal.loop-choice-preserved
loop-choice-preserved c =
    let choices = c.args.choices.now in
    let rows = c.loop-choice.rows.items in
    let i = c.loop-choice.choice-index in
    let inv = c.loop-choice.invariant in
    let one = choice_at choices i in
    let there = c.requires i c.loop-choice-test.true in
    let was = row_read rows one.segment c.index_mut.result.now (omega (arith, there, inv.all)) c.index_mut.ensures.value in
    let more = c.in_ok-push.ensures.items ∙ ap (λ (xs : List Choice). xs ++ one ∷ []) was in
    record {
      all = length-set rows one.segment c.push.new.self ∙ inv.all;
      each = handed_more choices rows i c.args.segments c.push.new.self c.loop-choice-test.true inv.all there inv.each more;
    }

pub returns-clause-each : goal.returns-clause-each
returns-clause-each c = λ s lt. c.loop-choice.invariant.each s lt ∙ ap (λ (xs : List Choice). choices_at xs s) (take_all c.loop-choice.choice-index c.args.choices.now (omega (arith, c.loop-choice-test.false)))
