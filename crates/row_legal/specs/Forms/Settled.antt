-- The cells of a segment where they come to stand.
use Rattle.std.specs.Prelude.{◌≡◌, ℕ, ◌-◌, ◌<◌, min, List, length, drop, sum, slice_index}
use Rattle.row_legal.specs.Line.{IsFirst}

-- each cell at the smaller of the first site that those before it leave free and of where the cells from it on end with the segment
pub record AreSettled (desires widths : List ℕ) (sites : ℕ) (places : List ℕ) : Type 0 where
  pub all : length places ≡ length desires
  pub each : (i : ℕ) → i < length desires → (e : ℕ) × IsFirst desires widths i e × (slice_index places i ≡ min e (sites - sum (drop i widths)))

pub record AreFirsts (desires widths firsts : List ℕ) : Type 0 where
  pub all : length firsts ≡ length desires
  pub each : (i : ℕ) → i < length desires → IsFirst desires widths i (slice_index firsts i)
