-- Each node is fixed or movable.
use Rattle.std.proofs.Common.{◌≡◌, ◌+◌, ℕ, suc, Bool, true, false, cond, List, [], ◌∷◌, length, refl, arith}
use Rattle.std.specs.List.{count_by, sum_by}
use Rattle.std.proofs.lemmas.List.Sums.{sum_by-append}
use Rattle.book_design.specs.Values.{NodeValue}
use Rattle.book_design.specs.Points.{is_movable}

abbrev one_if_moves : NodeValue → ℕ
one_if_moves node = cond (is_movable node) 1 0

abbrev one_if_fixed : NodeValue → ℕ
one_if_fixed node = cond node.fixed 1 0

kinds_step : (node : NodeValue) (nodes : List NodeValue) (b : Bool) → node.fixed ≡ b → sum_by one_if_moves nodes + sum_by one_if_fixed nodes ≡ length nodes
    → sum_by one_if_moves (node ∷ nodes) + sum_by one_if_fixed (node ∷ nodes) ≡ suc (length nodes)
kinds_step node nodes true e ih =
    let moves : sum_by one_if_moves (node ∷ []) ≡ 0 = rw e refl in
    let stays : sum_by one_if_fixed (node ∷ []) ≡ 1 = rw e refl in
    omega (arith, sum_by-append one_if_moves (node ∷ []) nodes, sum_by-append one_if_fixed (node ∷ []) nodes, moves, stays, ih)
kinds_step node nodes false e ih =
    let moves : sum_by one_if_moves (node ∷ []) ≡ 1 = rw e refl in
    let stays : sum_by one_if_fixed (node ∷ []) ≡ 0 = rw e refl in
    omega (arith, sum_by-append one_if_moves (node ∷ []) nodes, sum_by-append one_if_fixed (node ∷ []) nodes, moves, stays, ih)

pub two_kinds : (nodes : List NodeValue) → count_by is_movable nodes + count_by (λ node. node.fixed) nodes ≡ length nodes
two_kinds [] = refl
two_kinds (node ∷ nodes) = kinds_step node nodes node.fixed refl (two_kinds nodes)
