-- Sums of products over two lists: one term more, and all terms.
use Rattle.std.proofs.Common.{◌≡◌, ℕ, ◌+◌, ◌*◌, ◌<◌, ◌≤◌, List, [], ◌∷◌, length, map, take, min, get_or, refl, ap, arith}
use Rattle.std.specs.List.{sum_by, slice_index, zip}
use Rattle.std.proofs.lemmas.List.{take_all}
use Rattle.std.proofs.lemmas.List.Sums.{sum_by-cons, sum_by_more, sum_by_more_le}
use Rattle.std.proofs.lemmas.Slice.Zip.{length-zip, get_or-zip}
use Rattle.relax_system.specs.declared.points.Near.{Near}
use Rattle.relax_system.specs.Means.{weighted_sum}
use Rattle.relax_system.specs.Forms.Flat.{dot}

abbrev pub dot_so_far : ℕ → List ℕ → List ℕ → List ℕ → ℕ
dot_so_far k numbers weights v = sum_by (λ e. e.1 * slice_index v e.0) (take k (zip numbers weights))

-- the next term
pub record IsNextTerm (k : ℕ) (numbers weights v : List ℕ) (term : ℕ) : Type 0 where
  pub more : dot_so_far (k + 1) numbers weights v ≡ dot_so_far k numbers weights v + term
  pub within : dot_so_far k numbers weights v + term ≤ dot numbers weights v

pub next_term : (k : ℕ) (numbers weights v : List ℕ) (number weight : ℕ) → k < length numbers → k < length weights → number ≡ get_or numbers k 0 → weight ≡ get_or weights k 0 → IsNextTerm k numbers weights v (weight * slice_index v number)
next_term k numbers weights v number weight h h' e e' =
    let inside : k < length (zip numbers weights) = omega (arith, length-zip numbers weights) in
    let term : weight * slice_index v number ≡ (get_or (zip numbers weights) k (0, 0)).1 * slice_index v (get_or (zip numbers weights) k (0, 0)).0 = rw (e, e', get_or-zip numbers weights k (0, 0) h h') refl in
    record {
      more = rw term (sum_by_more (λ (e : ℕ × ℕ). e.1 * slice_index v e.0) (zip numbers weights) k (0, 0) inside);
      within = rw term (sum_by_more_le (λ (e : ℕ × ℕ). e.1 * slice_index v e.0) (zip numbers weights) k (0, 0) inside);
    }

pub dot_all : (k : ℕ) (numbers weights v : List ℕ) → k ≡ min (length numbers) (length weights) → dot_so_far k numbers weights v ≡ dot numbers weights v
dot_all k numbers weights v e = ap (sum_by (λ (e : ℕ × ℕ). e.1 * slice_index v e.0)) (take_all k (zip numbers weights) (omega (arith, length-zip numbers weights)))

-- the neighbours' numbers and weights apart
pub dot-near : (near : List Near) (v : List ℕ) → dot (map (λ (n : Near). n.point) near) (map (λ (n : Near). n.weight) near) v ≡ weighted_sum near v
dot-near [] v = refl
dot-near (n ∷ near) v =
    rw (sum_by-cons (λ (e : ℕ × ℕ). e.1 * slice_index v e.0) (n.point, n.weight) (zip (map (λ (n : Near). n.point) near) (map (λ (n : Near). n.weight) near)), sum_by-cons (λ (n : Near). n.weight * slice_index v n.point) n near)
    (ap (λ x. n.weight * slice_index v n.point + x) (dot-near near v))
