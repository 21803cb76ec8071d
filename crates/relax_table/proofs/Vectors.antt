-- Vectors before one another, with an entry put anew.
use Rattle.std.proofs.Common.{◌≡◌, ◌≢◌, ℕ, ◌+◌, ◌*◌, ◌/◌, ◌<◌, ◌≤◌, List, [], ◌∷◌, length, zero, suc, set, refl, sym, ap, ◌∙◌, arith}
use Rattle.std.specs.Int.{div_ceil}
use Rattle.std.specs.List.{slice_index, zip, All, AllByRecursion}
use Rattle.std.proofs.lemmas.Slice.Zip.{length-zip}
use Rattle.std.proofs.lemmas.List.Elements.{All-weaker, recursion_from_All}
use Rattle.std.proofs.lemmas.List.{length-map, length-set, get_or-set_same, get_or-set_other, ext_get_or}
use Rattle.std.proofs.lemmas.List.Sums.{sum_by-cons}
use Rattle.relax_system.specs.declared.side.Side.{Side}
use Rattle.relax_system.specs.declared.side.Side.TheVariants.{Floor, Ceil}
use Rattle.relax_system.specs.declared.points.Near.{Near}
use Rattle.relax_system.specs.declared.points.Point.{Point}
use Rattle.relax_system.specs.System.{point_at, total_weight, IsValid, IsValidNear}
use Rattle.relax_system.specs.Means.{weighted_sum, pull}
use Rattle.relax_system.specs.Sides.{Before, AllBefore, mean_of, further_of}
use Rattle.relax_table.specs.Forms.Rule.{furthest}
use Rattle.relax_system.proofs.SideMeans.{Before_refl, Before_trans}
use Rattle.relax_system.proofs.Climbing.{at_set}

pub AllBefore-refl : (side : Side) (u : List ℕ) → AllBefore side u u
AllBefore-refl side u i = Before_refl side (slice_index u i)

pub AllBefore-trans : (side : Side) (u v w : List ℕ) → AllBefore side u v → AllBefore side v w → AllBefore side u w
AllBefore-trans side u v w h k i = Before_trans side _ _ _ (h i) (k i)

-- an entry of the second is put further on
pub AllBefore-set : (side : Side) (u v : List ℕ) (i x : ℕ) → AllBefore side u v → i < length v → Before side (slice_index u i) x → AllBefore side u (set v i x)
AllBefore-set side u v i x h there here = at_set (λ k y. Before side (slice_index u k) y) v i x there here (λ k _. h k)

-- an entry of the first is put anew, and still stands before
pub AllBefore-set_first : (side : Side) (u v : List ℕ) (i x : ℕ) → AllBefore side u v → i < length u → Before side x (slice_index v i) → AllBefore side (set u i x) v
AllBefore-set_first side u v i x h there here = at_set (λ k y. Before side y (slice_index v k)) u i x there here (λ k _. h k)

-- an entry of both
pub AllBefore-set_both : (side : Side) (u v : List ℕ) (i x y : ℕ) → AllBefore side u v → i < length u → i < length v → Before side x y → AllBefore side (set u i x) (set v i y)
AllBefore-set_both side u v i x y h there there' here = at_set (λ k a. Before side a (slice_index (set v i y) k)) u i x there
    (rw (get_or-set_same v i y 0 there') here)
    (λ k other. rw (get_or-set_other v i k y 0 other) (h k))

-- a sum over neighbours doesn't read an entry of another point
weighted_sum-set : (near : List Near) (v : List ℕ) (i x : ℕ) → AllByRecursion (λ (n : Near). n.point ≢ i) near → weighted_sum near (set v i x) ≡ weighted_sum near v
weighted_sum-set [] v i x h = refl
weighted_sum-set (n ∷ near) v i x h =
    let here : slice_index (set v i x) n.point ≡ slice_index v n.point = get_or-set_other v i n.point x 0 h.0 in
    let rest : weighted_sum near (set v i x) ≡ weighted_sum near v = weighted_sum-set near v i x h.1 in
    let a : weighted_sum (n ∷ near) (set v i x) ≡ n.weight * slice_index (set v i x) n.point + weighted_sum near (set v i x) = sum_by-cons (λ (n : Near). n.weight * slice_index (set v i x) n.point) n near in
    let b : weighted_sum (n ∷ near) v ≡ n.weight * slice_index v n.point + weighted_sum near v = sum_by-cons (λ (n : Near). n.weight * slice_index v n.point) n near in
    let c : n.weight * slice_index (set v i x) n.point ≡ n.weight * slice_index v n.point = ap (λ (k : ℕ). n.weight * k) here in
    omega arith

pull-set : (points : List Point) (i : ℕ) (v : List ℕ) (x : ℕ) → IsValid points → i < length points → pull (point_at points i) (set v i x) ≡ pull (point_at points i) v
pull-set points i v x valid there =
    let others : All (λ (n : Near). n.point ≢ i) (point_at points i).near = All-weaker (IsValidNear points i) (λ (n : Near). n.point ≢ i) (λ n good. good.other) (point_at points i).near (valid.each i there).near in
    omega (arith, weighted_sum-set (point_at points i).near v i x (recursion_from_All _ (point_at points i).near others))

-- the mean of a point doesn't read the point's own entry
pub mean_of-set : (side : Side) (points : List Point) (i : ℕ) (v : List ℕ) (x : ℕ) → IsValid points → i < length points → mean_of side points i (set v i x) ≡ mean_of side points i v
mean_of-set Floor points i v x valid there = ap (λ (k : ℕ). k / total_weight (point_at points i)) (pull-set points i v x valid there)
mean_of-set Ceil points i v x valid there = ap (λ (k : ℕ). div_ceil k (total_weight (point_at points i))) (pull-set points i v x valid there)

no_entry : (side : Side) → further_of side 0 0 ≡ 0
no_entry Floor = omega arith
no_entry Ceil = omega arith

-- two vectors put together entry by entry
pub at_furthest : (side : Side) (u v : List ℕ) (i : ℕ) → length u ≡ length v → slice_index (furthest side u v) i ≡ further_of side (slice_index u i) (slice_index v i)
at_furthest side [] [] i e = sym (no_entry side)
at_furthest side [] (y ∷ v) i e = absurd (omega arith)
at_furthest side (x ∷ u) [] i e = absurd (omega arith)
at_furthest side (x ∷ u) (y ∷ v) zero e = refl
at_furthest side (x ∷ u) (y ∷ v) (suc i) e = at_furthest side u v i (omega arith)

pub length-furthest : (side : Side) (u v : List ℕ) → length u ≡ length v → length (furthest side u v) ≡ length u
length-furthest side u v e = omega (arith, length-map (zip u v) (λ (e : ℕ × ℕ). further_of side e.0 e.1), length-zip u v)

-- the first n entries of v are put together, and the others are those of u
pub record IsPutTo (side : Side) (u others v : List ℕ) (n : ℕ) : Type 0 where
  pub all : length v ≡ length others
  pub done : (k : ℕ) → k < n → slice_index v k ≡ further_of side (slice_index u k) (slice_index others k)
  pub rest : (k : ℕ) → n ≤ k → slice_index v k ≡ slice_index u k

pub put_more : (side : Side) (u others v : List ℕ) (n x : ℕ) → IsPutTo side u others v n → n < length v → x ≡ further_of side (slice_index v n) (slice_index others n) → IsPutTo side u others (set v n x) (n + 1)
put_more side u others v n x h there e = record {
  all = length-set v n x ∙ h.all;
  done = λ k in'. at_set (λ k y. k < n + 1 → y ≡ further_of side (slice_index u k) (slice_index others k)) v n x there
      (λ _. rw (← h.rest n (omega arith)) e)
      (λ k other in'. h.done k (omega arith))
      k in';
  rest = λ k past. at_set (λ k y. n + 1 ≤ k → y ≡ slice_index u k) v n x there (λ past. absurd (omega arith)) (λ k other past. h.rest k (omega arith)) k past;
}

pub put_all : (side : Side) (u others v : List ℕ) (n : ℕ) → length u ≡ length others → length v ≤ n → IsPutTo side u others v n → v ≡ furthest side u others
put_all side u others v n e past h =
    ext_get_or 0 v (furthest side u others) (omega (arith, h.all, length-furthest side u others e)) (λ i there. h.done i (omega arith) ∙ sym (at_furthest side u others i e))
