use Rattle.std.proofs.Common.{arith}
use Rattle.std.proofs.lemmas.List.{length_push}
use Rattle.std.proofs.lemmas.Slice.Zip.{zip_turn, zip_end}
use Rattle.relax_system.proofs.Dots.{next_term, dot_all}
use Rattle.relax_system.proofs.flat.narrow_dot.Goals as goal

pub overflow_mul-sum : goal.overflow_mul-sum
overflow_mul-sum c =
    let turn = zip_turn c.args.numbers.now c.args.weights.now c.loop-number.yielded c.into_iter-number-iterator.result _ c.next.new.self _ (cc) (cc) c.loop-number.yielded_by _ c.in-Some.is c.next.ensures.steps in
    let term = next_term _ _ _ c.args.v.now _ _ turn.0 turn.1 (turn.2 0) (turn.3 0) in
    omega (arith, term.within, c.requires.fits)

pub overflow_add-sum : goal.overflow_add-sum
overflow_add-sum c =
    let turn = zip_turn c.args.numbers.now c.args.weights.now c.loop-number.yielded c.into_iter-number-iterator.result _ c.next.new.self _ (cc) (cc) c.loop-number.yielded_by _ c.in-Some.is c.next.ensures.steps in
    let term = next_term _ _ _ c.args.v.now _ _ turn.0 turn.1 (turn.2 0) (turn.3 0) in
    omega (arith, term.within, c.loop-number.invariant, c.requires.fits)

pub loop-number-preserved : goal.loop-number-preserved
loop-number-preserved c =
    let turn = zip_turn c.args.numbers.now c.args.weights.now c.loop-number.yielded c.into_iter-number-iterator.result _ c.next.new.self _ (cc) (cc) c.loop-number.yielded_by _ c.in-Some.is c.next.ensures.steps in
    let term = next_term _ _ _ c.args.v.now _ _ turn.0 turn.1 (turn.2 0) (turn.3 0) in
    rw (length_push) (omega (arith, term.more, c.loop-number.invariant))

pub returns : goal.returns
returns c =
    let end = zip_end c.args.numbers.now c.args.weights.now c.loop-number.yielded c.into_iter-number-iterator.result _ c.next.new.self _ (cc) (cc) c.loop-number.yielded_by c.in-None.is c.next.ensures.steps in
    omega (arith, dot_all _ _ _ c.args.v.now end, c.loop-number.invariant)
