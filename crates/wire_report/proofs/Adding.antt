-- The sum over the nets, piece by piece.
use Rattle.std.proofs.Common.{◌≡◌, ℕ, ◌+◌, ◌<◌, ◌≤◌, List, length, take, drop, ap, sym, subst, arith}
use Rattle.std.specs.List.{AllByRecursion}
use Rattle.std.proofs.lemmas.List.{get_or-map, length-map, take-map, drop-map, length-take-le, length-drop}
use Rattle.std.proofs.lemmas.List.Sums.{sum_by-take-drop}
use Rattle.std.proofs.lemmas.List.Elements.{All-from_recursion}
use Rattle.book_design.specs.declared.parts.Net.{Net}
use Rattle.book_design.specs.Values.{NetValue, DesignValue}
use Rattle.book_design.specs.Nets.{net_value, net_values}
use Rattle.book_design.specs.WellFormed.{IsDesign, IsGoodNet}
use Rattle.wire_report.specs.declared.corner.Corner.{Corner}
use Rattle.wire_report.specs.Wire.{net_length}
use Rattle.wire_report.specs.Forms.Sums.{AllGood, IsSumOf}

-- the nets of a design, as they are read
pub all_good : (design : DesignValue) (nets : List Net) → IsDesign design → net_values nets ≡ design.nets → AllGood (length design.nodes) nets
all_good design nets valid same = λ k d there.
    let Good = IsGoodNet (length design.nodes) in
    let all = subst (λ (list : List NetValue). AllByRecursion Good list) (sym same) valid.nets in
    let inside : k < length (net_values nets) = omega (arith, length-map nets net_value) in
    subst Good (get_or-map net_value nets k d (net_value d) there) (All-from_recursion Good (net_values nets) all k (net_value d) inside)

-- the sums of a piece and of the nets behind it
pub both : (design : DesignValue) (corners : List Corner) (nets piece rest : List Net) (k sum others : ℕ) → k ≤ length nets → piece ≡ take k nets → rest ≡ drop k nets
    → IsSumOf design corners piece sum → IsSumOf design corners rest others → IsSumOf design corners nets (sum + others)
both design corners nets piece rest k sum others within first last front back =
    let front_value = rw (first, ← take-map net_value k nets) at front.value in
    let back_value = rw (last, ← drop-map net_value k nets) at back.value in
    record {
      value = omega (arith, front_value, back_value, sum_by-take-drop (net_length design corners) (net_values nets) k);
      short = omega (arith, front.short, back.short, ap length first, ap length last, length-take-le k nets within, length-drop k nets);
    }
