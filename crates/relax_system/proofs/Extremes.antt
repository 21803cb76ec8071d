-- The extremal vector of a side: there is exactly one, and it is fixed.
use Rattle.std.proofs.Common.{◌≡◌, ◌≢◌, ℕ, ◌<◌, ◌≤◌, ◌⊎◌, inl, inr, List, length, zero, suc, set, ⊎_elim, arith}
use Rattle.std.specs.List.{slice_index}
use Rattle.std.proofs.lemmas.List.{ext_get_or, get_or-set_same}
use Rattle.std.proofs.lemmas.Bool.{cases_eq, cases_lt}
use Rattle.relax_system.specs.declared.side.Side.{Side}
use Rattle.relax_system.specs.declared.side.Side.TheVariants.{Floor, Ceil}
use Rattle.relax_system.specs.declared.points.Point.{Point}
use Rattle.relax_system.specs.System.{IsValid}
use Rattle.relax_system.specs.Means.{InBoxes}
use Rattle.relax_system.specs.Sides.{Before, AllBefore, mean_of, starts_of, IsQuiet, IsExtremal}
use Rattle.relax_system.specs.Forms.Way.{IsOnWay, room}
use Rattle.relax_system.proofs.SideMeans.{Before_refl, Before_trans, Before_antisym, mean-low, mean-high, mean-mono}
use Rattle.relax_system.proofs.Climbing.{IsOnWay-set, IsOnWay_start, InBoxes-set, at_set, room-set}

pub extremal_one : (side : Side) (points : List Point) (u v : List ℕ) → IsExtremal side points u → IsExtremal side points v → u ≡ v
extremal_one side points u v h k =
    ext_get_or 0 u v (omega (arith, h.in_boxes.all, k.in_boxes.all)) (λ i _. Before_antisym side _ _ (h.first v k.in_boxes k.quiet i) (k.first u h.in_boxes h.quiet i))

-- an extremal vector stays quiet with one entry at its mean
relaxed-quiet : (side : Side) (points : List Point) (v : List ℕ) (i : ℕ) → IsValid points → InBoxes points v → IsQuiet side points v → i < length points → IsQuiet side points (set v i (mean_of side points i v))
relaxed-quiet side points v i valid boxes quiet there =
    let m : ℕ = mean_of side points i v in
    let back : AllBefore side (set v i m) v = at_set (λ k y. Before side y (slice_index v k)) v i m (omega (arith, boxes.all)) (quiet i there) (λ k _. Before_refl side (slice_index v k)) in
    at_set (λ k y. k < length points → Before side (mean_of side points k (set v i m)) y) v i m (omega (arith, boxes.all))
    (λ _. mean-mono side points i (set v i m) v valid there back)
    (λ k _ in'. Before_trans side _ _ _ (mean-mono side points k (set v i m) v valid in' back) (quiet k in'))

-- each entry of the extremal vector is its mean
pub extremal_fixed : (side : Side) (points : List Point) (v : List ℕ) → IsValid points → IsExtremal side points v → (i : ℕ) → i < length points → slice_index v i ≡ mean_of side points i v
extremal_fixed side points v valid h i there =
    let m : ℕ = mean_of side points i v in
    let boxes : InBoxes points (set v i m) = InBoxes-set points v i m h.in_boxes there (mean-low side points i v valid there h.in_boxes) (mean-high side points i v valid there h.in_boxes) in
    let before : Before side (slice_index v i) (slice_index (set v i m) i) = h.first (set v i m) boxes (relaxed-quiet side points v i valid h.in_boxes h.quiet there) i in
    let inside : i < length v = omega (arith, h.in_boxes.all) in
    Before_antisym side _ _ (rw (get_or-set_same v i m 0 inside) at before) (h.quiet i there)

-- a mean stands at or before its entry, or past it
cases_mean : (side : Side) (x m : ℕ) → Before side m x ⊎ (Before side x m × (x ≢ m))
cases_mean Floor x m = ⊎_elim (λ past. inr (omega arith, omega arith)) (λ le. inl le) (cases_lt x m)
cases_mean Ceil x m = ⊎_elim (λ past. inr (omega arith, omega arith)) (λ le. inl le) (cases_lt m x)

record IsPast (side : Side) (points : List Point) (v : List ℕ) (i : ℕ) : Type 0 where
  there : i < length points
  further : Before side (slice_index v i) (mean_of side points i v)
  other : slice_index v i ≢ mean_of side points i v

-- the first n points are quiet, or one of them isn't
quiet_or_past : (side : Side) (points : List Point) (v : List ℕ) (n : ℕ) → n ≤ length points → ((i : ℕ) → i < n → Before side (mean_of side points i v) (slice_index v i)) ⊎ ((i : ℕ) × IsPast side points v i)
quiet_or_past side points v zero h = inl (λ i in'. absurd (omega arith))
quiet_or_past side points v (suc n) h = ⊎_elim
    (λ quiet. ⊎_elim
    (λ here. inl (λ i in'. ⊎_elim (λ same. rw same here) (λ other. quiet i (omega arith)) (cases_eq i n)))
    (λ past. inr (n, record { there = omega arith; further = past.0; other = past.1 }))
    (cases_mean side (slice_index v n) (mean_of side points n v)))
    (λ past. inr past)
    (quiet_or_past side points v n (omega arith))

climb : (side : Side) (points : List Point) (fuel : ℕ) (v : List ℕ) → IsValid points → IsOnWay side points v → room side points v < fuel → (w : List ℕ) × IsExtremal side points w
climb side points zero v valid h k = absurd (omega arith)
climb side points (suc fuel) v valid h k = ⊎_elim
    (λ quiet. (v, record { in_boxes = h.in_boxes; quiet = quiet; first = h.first }))
    (λ past. let next = IsOnWay-set side points v past.0 valid h past.1.there in
    climb side points fuel (set v past.0 (mean_of side points past.0 v)) valid next
    (omega (arith, k, room-set side points v past.0 (mean_of side points past.0 v) next.in_boxes (omega (arith, h.in_boxes.all, past.1.there)) past.1.further past.1.other)))
    (quiet_or_past side points v (length points) (omega arith))

pub extremal_there : (side : Side) (points : List Point) → IsValid points → (w : List ℕ) × IsExtremal side points w
extremal_there side points valid = climb side points (suc (room side points (starts_of side points))) (starts_of side points) valid (IsOnWay_start side points valid) (omega arith)
