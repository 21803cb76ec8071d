-- What is known of the points passed so far, and the verdict that it leads to.
use Rattle.std.proofs.Common.{◌≡◌, ℕ, ◌+◌, ◌<◌, List, length, max, below_more, subst}
use Rattle.relax_system.specs.declared.points.Point.{Point}
use Rattle.relax_system.specs.System.{IsValid}
use Rattle.relax_system.specs.Means.{IsFloorFixed, IsCeilFixed}
use Rattle.relax_system.proofs.Residuals.{lower_from_fixed, upper_from_fixed}
use Rattle.fix_cert.specs.declared.reading.Reading.{Reading}
use Rattle.fix_cert.specs.declared.verdict.Side2.{Side2}
use Rattle.fix_cert.specs.Verdict.{HoldsLower, HoldsUpper, HoldBefore, FailsAt, IsFirstBroken, IsMost, IsMostOfBoth, IsEnclosing, gap_at, lower_residual, upper_residual}
use Rattle.fix_cert.specs.Forms.Reading.{IsReading}
use Rattle.fix_cert.proofs.Mosts.{one_more, one_more_of_both}

-- the equations of the first points hold, with their greatest gap and their greatest residual
pub record IsSoFar (points : List Point) (lo hi : List ℕ) (passed gap worst : ℕ) : Type 0 where
  pub held : HoldBefore points lo hi passed
  pub widest : IsMost passed (gap_at lo hi) gap
  pub worst_residual : IsMostOfBoth passed (lower_residual points lo) (upper_residual points hi) worst

pub one_passed : (points : List Point) (lo hi : List ℕ) (passed gap worst : ℕ) (reading : Reading) → IsSoFar points lo hi passed gap worst
    → IsReading points lo hi passed reading → IsSoFar points lo hi (passed + 1) (max reading.gap gap) (max reading.residual worst)
one_passed points lo hi passed gap worst reading h is = record {
  held = below_more (λ i. HoldsLower points lo i × HoldsUpper points hi i) passed h.held (is.lower, is.upper);
  widest = one_more passed (gap_at lo hi) gap reading.gap h.widest is.gap;
  worst_residual = one_more_of_both passed (lower_residual points lo) (upper_residual points hi) worst reading.residual h.worst_residual is.residual;
}

pub broken : (points : List Point) (lo hi : List ℕ) (passed gap worst : ℕ) (side : Side2) → IsSoFar points lo hi passed gap worst
    → passed < length points → FailsAt points lo hi passed side → IsFirstBroken points lo hi passed side
broken points lo hi passed gap worst side h there fails = record { there = there; before = h.held; fails = fails }

pub enclosing : (points : List Point) (lo hi : List ℕ) (passed gap worst : ℕ) → IsValid points → IsSoFar points lo hi passed gap worst
    → passed ≡ length points → IsEnclosing points lo hi gap worst
enclosing points lo hi passed gap worst valid h all =
    let whole = subst (λ n. IsSoFar points lo hi n gap worst) all h in
    let lower : IsFloorFixed points lo = λ i there. (whole.held i there).0 in
    let upper : IsCeilFixed points hi = λ i there. (whole.held i there).1 in
    record {
      lower = lower;
      upper = upper;
      widest = whole.widest;
      lower_residuals = lower_from_fixed points lo valid lower;
      upper_residuals = upper_from_fixed points hi valid upper;
      worst_residual = whole.worst_residual;
    }
