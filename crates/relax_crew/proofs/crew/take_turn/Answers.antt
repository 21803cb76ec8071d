use Rattle.std.proofs.Common.{◌≡◌, ◌+◌, ◌∙◌, ℕ, length, ap}
use Rattle.relax_crew.specs.Forms.Turns.{first_point}
use Rattle.relax_crew.proofs.Sweeping.{own_turn}
use Rattle.relax_crew.proofs.crew.take_turn.Goals as goal

pub returns-clause-turn : goal.returns-clause-turn
returns-clause-turn g c =
    let from : c.range_of-range.result.0 ≡ first_point c.args.k c.args.seats (length c.args.table.now.system) = c.range_of-range.ensures.from ∙ ap (λ (n : ℕ). first_point c.args.k c.args.seats n) c.requires.points in
    let to : c.range_of-range.result.1 ≡ first_point (c.args.k + 1) c.args.seats (length c.args.table.now.system) = c.range_of-range.ensures.to ∙ ap (λ (n : ℕ). first_point (c.args.k + 1) c.args.seats n) c.requires.points in
    own_turn c.args.table.now.system c.args.k c.args.seats c.range_of-range.result.0 c.range_of-range.result.1 _ _ from to c.work.ensures.turn
