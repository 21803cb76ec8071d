-- A quotient of either side.
use Rattle.std.specs.Prelude.{ℕ, ◌/◌}
use Rattle.std.specs.Int.{div_ceil}
use Rattle.relax_system.specs.declared.side.Side.{Side}
use Rattle.relax_system.specs.declared.side.Side.TheVariants.{Floor, Ceil}

-- the quotient, rounded down or up
abbrev pub rounded : Side → ℕ → ℕ → ℕ
rounded Floor sum total = sum / total
rounded Ceil sum total = div_ceil sum total
