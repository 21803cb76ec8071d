-- The distance of two vectors, the one before the other.
use Rattle.std.proofs.Common.{◌≡◌, ℕ, ◌+◌, ◌*◌, ◌<◌, ◌≤◌, List, [], ◌∷◌, length, zero, suc, set, arith}
use Rattle.std.specs.List.{slice_index, zip}
use Rattle.std.proofs.lemmas.List.Sums.{sum_by-cons}
use Rattle.relax_system.specs.declared.side.Side.{Side}
use Rattle.relax_system.specs.Sides.{AllBefore, apart, distance}
use Rattle.relax_system.proofs.Ways.{apart-add, apart-self}

pub distance-cons : (side : Side) (x y : ℕ) (u v : List ℕ) → distance side (x ∷ u) (y ∷ v) ≡ apart side x y + distance side u v
distance-cons side x y u v = sum_by-cons (λ (e : ℕ × ℕ). apart side e.0 e.1) (x, y) (zip u v)

pub distance-add : (side : Side) (u v w : List ℕ) → length u ≡ length v → length v ≡ length w → AllBefore side u v → AllBefore side v w → distance side u w ≡ distance side u v + distance side v w
distance-add side [] [] [] e f h k = omega arith
distance-add side [] [] (z ∷ w) e f h k = absurd (omega arith)
distance-add side [] (y ∷ v) w e f h k = absurd (omega arith)
distance-add side (x ∷ u) [] w e f h k = absurd (omega arith)
distance-add side (x ∷ u) (y ∷ v) [] e f h k = absurd (omega arith)
distance-add side (x ∷ u) (y ∷ v) (z ∷ w) e f h k =
    let rest : distance side u w ≡ distance side u v + distance side v w = distance-add side u v w (omega arith) (omega arith) (λ i. h (suc i)) (λ i. k (suc i)) in
    let here : apart side x z ≡ apart side x y + apart side y z = apart-add side x y z (h 0) (k 0) in
    omega (arith, distance-cons side x z u w, distance-cons side x y u v, distance-cons side y z v w)

pub distance-self : (side : Side) (u : List ℕ) → distance side u u ≡ 0
distance-self side [] = omega arith
distance-self side (x ∷ u) = omega (arith, distance-cons side x x u u, apart-self side x, distance-self side u)

-- one entry put anew
pub distance_to_set : (side : Side) (v : List ℕ) (i x : ℕ) → i < length v → distance side v (set v i x) ≡ apart side (slice_index v i) x
distance_to_set side [] i x there = absurd (omega arith)
distance_to_set side (y ∷ v) zero x there = omega (arith, distance-cons side y x v v, distance-self side v)
distance_to_set side (y ∷ v) (suc i) x there =
    let rest : distance side v (set v i x) ≡ apart side (slice_index v i) x = distance_to_set side v i x (omega arith) in
    omega (arith, distance-cons side y y v (set v i x), apart-self side y)

-- a vector further on is further away
pub distance-grows : (side : Side) (u v w : List ℕ) → length u ≡ length v → length v ≡ length w → AllBefore side u v → AllBefore side v w → distance side u v ≤ distance side u w
distance-grows side u v w e f h k = omega (arith, distance-add side u v w e f h k)

pub distance-wide : (side : Side) (u v : List ℕ) (width : ℕ) → length u ≡ length v → ((i : ℕ) → i < length u → apart side (slice_index u i) (slice_index v i) ≤ width) → distance side u v ≤ length u * width
distance-wide side [] [] width e h = omega arith
distance-wide side [] (y ∷ v) width e h = absurd (omega arith)
distance-wide side (x ∷ u) [] width e h = absurd (omega arith)
distance-wide side (x ∷ u) (y ∷ v) width e h =
    let rest : distance side u v ≤ length u * width = distance-wide side u v width (omega arith) (λ i there. h (suc i) (omega arith)) in
    let here : apart side x y ≤ width = h 0 (omega arith) in
    let total : suc (length u) * width ≡ width + length u * width = omega arith in
    omega (arith, distance-cons side x y u v)
