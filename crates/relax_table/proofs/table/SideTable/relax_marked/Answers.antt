use Rattle.std.proofs.Common.{◌≡◌, ℕ, ◌+◌, ◌-◌, ◌*◌, ◌/◌, ◌^◌, ◌<◌, min, length, refl, subst, ◌∙◌, w64, arith}
use Rattle.std.specs.Int.{trailing_zeros}
use Rattle.relax_table.proofs.Chases.{chased_none, chased_on, chased_within, bits_left, bit_cost, sweep_wider}
use Rattle.relax_table.proofs.table.SideTable.relax_marked.Goals as goal

pub bits-init : goal.bits-init
bits-init g c = record { chased = chased_none g.D.Direction.side c.args.self.now c.args.seat.now c.args.steps.now _ c.requires.own c.know.ensures; idle = refl; few = omega arith; bits = omega arith }

pub bits-smaller : goal.bits-smaller
bits-smaller g c =
    let rest = bits_left (64 - c.bits.at) c.bits.left (omega arith) (omega arith) c.bits.invariant.bits (omega arith) in
    omega (arith, rest.0)

pub bits-preserved : goal.bits-preserved
bits-preserved g c =
    let skip : ℕ = trailing_zeros w64 c.bits.left in
    let rest = bits_left (64 - c.bits.at) c.bits.left (omega arith) (omega arith) c.bits.invariant.bits (omega arith) in
    let place : (64 - c.bits.at) - (skip + 1) ≡ 64 - ((c.bits.at + skip) + 1) = omega arith in
    record {
      chased = chased_within g.D.Direction.side c.args.self.now c.args.seat.now c.relax_there.new.seat c.args.steps.now c.relax_there.new.steps _ _ _ _
          (chased_on g.D.Direction.side c.args.self.now c.args.seat.now c.bits.seat c.relax_there.new.seat c.args.steps.now c.bits.steps c.relax_there.new.steps _ _ _ _ c.bits.invariant.chased c.relax_there.ensures.chased)
          (omega arith) (bit_cost c.args.self.now.system c.args.word c.bits.at skip (omega arith));
      idle = c.relax_there.ensures.idle ∙ c.bits.invariant.idle;
      few = omega (arith, rest.0);
      bits = subst (λ (k : ℕ). c.bits.left / 2 ^ skip / 2 < 2 ^ k) place rest.1;
    }

pub returns-clause-chased : goal.returns-clause-chased
returns-clause-chased g c =
    let n : ℕ = length c.args.self.now.system in
    chased_within g.D.Direction.side c.args.self.now c.args.seat.now c.bits.seat c.args.steps.now c.bits.steps _ _ _ _ c.bits.invariant.chased refl
    (sweep_wider c.args.self.now.system (64 * c.args.word) (min (64 * c.args.word + c.bits.at) n) (min (64 * (c.args.word + 1)) n) (omega arith) (omega (arith, c.bits.invariant.few)) (omega arith))
