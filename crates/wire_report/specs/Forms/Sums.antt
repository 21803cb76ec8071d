-- The sum over some of a design's nets.
use Rattle.std.specs.Prelude.{◌≡◌, ℕ, ◌*◌, ◌^◌, ◌≤◌, List, length, All}
use Rattle.std.specs.List.{sum_by}
use Rattle.book_design.specs.declared.parts.Net.{Net}
use Rattle.book_design.specs.Values.{DesignValue}
use Rattle.book_design.specs.Nets.{net_value, net_values}
use Rattle.book_design.specs.WellFormed.{IsGoodNet}
use Rattle.wire_report.specs.declared.corner.Corner.{Corner}
use Rattle.wire_report.specs.Wire.{net_length}

-- each of the nets is one that a design with so many nodes may have
abbrev pub AllGood : ℕ → List Net → Type 0
AllGood nodes nets = All (λ net. IsGoodNet nodes (net_value net)) nets

-- the sum of the lengths of the nets, each of which takes 64 bits
pub record IsSumOf (design : DesignValue) (corners : List Corner) (nets : List Net) (sum : ℕ) : Type 0 where
  pub value : sum ≡ sum_by (net_length design corners) (net_values nets)
  pub short : sum ≤ length nets * 2 ^ 64
