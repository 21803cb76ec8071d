use Rattle.std.proofs.Common.{◌≡◌, ◌+◌, ◌++◌, ◌∷◌, [], ℕ, List, get_or, sym, ◌∙◌, ap, subst, arith}
use Rattle.level_run.specs.declared.level.Level.{Level}
use Rattle.level_run.specs.Levels.{AreRounds, IsNext}
use Rattle.level_run.specs.Forms.Solved.{IsSane}
use Rattle.level_run.proofs.One.{one_round, sane_at, one_round_more}
use Rattle.level_run.proofs.solving.Player.levels.Goals as goal

pub next_round-requires-clause-sane : goal.next_round-requires-clause-sane
next_round-requires-clause-sane c =
    let round = c.index-as_slice-r.result in
    let many = c.loop-r.invariant.many in
    let is : round ≡ get_or c.loop-r.levels c.loop-r.r round = c.index-as_slice-r.is ∙ ap (λ (ls : List Level). get_or ls c.loop-r.r round) c.as_slice.ensures in
    subst (IsSane c.args.network.now) (sym is) (sane_at c.parts_share.ensures c.args.network.now c.points-points.ensures.valid c.args.rounds.passes (c.loop-r.r + 1) c.loop-r.levels c.loop-r.invariant c.loop-r.r round (omega arith))

pub loop-r-preserved : goal.loop-r-preserved
loop-r-preserved c =
    let round = c.index-as_slice-r.result in
    let next = c.in_ok-next.next in
    let is : round ≡ get_or c.loop-r.levels c.loop-r.r round = c.index-as_slice-r.is ∙ ap (λ (ls : List Level). get_or ls c.loop-r.r round) c.as_slice.ensures in
    let step = subst (λ (l : Level). IsNext c.args.network.now c.args.rounds.passes c.loop-r.r l next) is c.in_ok-next.ensures in
    let e : c.loop-r.r + 2 ≡ c.loop-r.r + 1 + 1 = omega arith in
    let more = one_round_more c.args.network.now c.args.rounds.passes c.loop-r.r c.loop-r.levels next round c.loop-r.invariant step in
    subst (AreRounds c.args.network.now c.args.rounds.passes (c.loop-r.r + 1 + 1)) (sym c.in_ok-push-2.ensures)
    (subst (λ (m : ℕ). AreRounds c.args.network.now c.args.rounds.passes m (c.loop-r.levels ++ next ∷ [])) e more)
