-- The weights of the nets, which the grid's number gives.
use Rattle.std.specs.Prelude.{ℕ, suc, zero, ◌+◌, ◌*◌, ◌/◌, ◌%◌, ◌^◌}
use Rattle.grid_design.specs.declared.weights.TheConstants.{MULTIPLIER, INCREMENT, SPREAD, WEIGHTS}

-- the k-th state of the linear congruential sequence that begins with the number
abbrev pub state : ℕ → ℕ → ℕ
state number zero = number
state number (suc k) = (state number k * MULTIPLIER + INCREMENT) % 2 ^ 64

-- the weight of net k, from 1 on: by the state behind the k-th
abbrev pub weight_of : ℕ → ℕ → ℕ
weight_of number k = 1 + state number (suc k) / SPREAD % WEIGHTS
