use Rattle.std.proofs.Common.{sym, ◌∙◌}
use Rattle.book_files.proofs.Names.{again_named, first_named, other_named}
use Rattle.book_files.proofs.aux.at_most_one_named.Goals as goal
use Rattle.book_files.proofs.aux.at_most_one_named.Goals.{then-has_suffix+else-is_some, else-has_suffix}

pub returns-then-is_some : goal.returns-then-is_some
returns-then-is_some c = again_named (λ w. w.now) (λ t. t.now) c.args.suffix.now c.args.names.now c.loop-name.name-index _ c.loop-name.found
    c.loop-name-test.true c.loop-name.invariant (sym c.is_some.ensures ∙ c.if-is_some.true) (sym c.has_suffix.ensures ∙ c.if-has_suffix.true)

pub loop-name-preserved : goal.loop-name-preserved
loop-name-preserved c = elim c.if-has_suffix.branch [
  | then-has_suffix+else-is_some w ↦ rw (w.found-is, w.ok-found.ensures.value) (first_named (λ w. w.now) (λ t. t.now) c.args.suffix.now c.args.names.now c.loop-name.name-index _ c.loop-name.found _ w.from_utf8.result
      c.loop-name-test.true c.requires.texts c.loop-name.invariant (sym w.is_some.ensures ∙ w.if-is_some.false) (sym c.has_suffix.ensures ∙ w.if-has_suffix.true) w.from_utf8.ensures.cases)
  | else-has_suffix w ↦ rw w.found-is (other_named (λ w. w.now) c.args.suffix.now c.args.names.now c.loop-name.name-index _ c.loop-name-test.true (sym c.has_suffix.ensures ∙ w.if-has_suffix.false) ∙ c.loop-name.invariant)
]
