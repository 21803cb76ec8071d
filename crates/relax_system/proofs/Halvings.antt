-- Halved systems: they are valid, and the vectors of one lie, doubled, before those of the system that is halved once less.
use Rattle.std.proofs.Common.{◌≡◌, ℕ, ◌+◌, ◌-◌, ◌*◌, ◌/◌, ◌^◌, ◌<◌, ◌≤◌, List, [], ◌∷◌, ◌++◌, length, map, zero, suc, refl, sym, ap, ◌∙◌, subst, ⊎_elim, add-one, arith}
use Rattle.std.specs.Int.{div_ceil}
use Rattle.std.specs.List.{slice_index, sum_by, range_with_len, zip}
use Rattle.std.proofs.Math.Nat.{le_trans, mul-le-mul_left}
use Rattle.std.proofs.lemmas.List.{length-map, get_or-map, get_or_past, map-id}
use Rattle.std.proofs.lemmas.List.FromFn.{map-range_with_len_more}
use Rattle.std.proofs.lemmas.List.Sums.{sum_by-cons, sum_by_push}
use Rattle.std.proofs.lemmas.List.Elements.{All-weaker}
use Rattle.std.proofs.lemmas.Slice.Zip.{length-zip, get_or-zip}
use Rattle.std.proofs.lemmas.Nat.{pow_pos}
use Rattle.std.proofs.lemmas.Bool.{cases_lt}
use Rattle.relax_system.specs.declared.side.Side.{Side}
use Rattle.relax_system.specs.declared.side.Side.TheVariants.{Floor, Ceil}
use Rattle.relax_system.specs.declared.points.Near.{Near}
use Rattle.relax_system.specs.declared.points.Point.{Point}
use Rattle.relax_system.specs.declared.valid.TheConstants.{MOST_COORDINATE}
use Rattle.relax_system.specs.System.{point_at, no_point, total_weight, IsValidNear, IsValidPoint, IsValid}
use Rattle.relax_system.specs.Means.{InBoxes, weighted_sum, pull}
use Rattle.relax_system.specs.Rounding.{rounded}
use Rattle.relax_system.specs.Sides.{Before, AllBefore, apart, further_of, distance, start_of, starts_of, IsQuiet, IsExtremal}
use Rattle.relax_system.specs.Halved.{halved_point, halved, doubled, IsCascade, cascade_way}
use Rattle.relax_system.proofs.Powers.{rounded-low, rounded-high, rounded-zero, rounded-one, times_floor, times_ceil, div_ceil-next, rounded-next, half-before, twice-mono, twice_sum, twice_product, half-quiet, step_apart}
use Rattle.relax_system.proofs.Division.{div-mono, div_ceil-high}
use Rattle.relax_system.proofs.Fits.{rounded-pull}
use Rattle.relax_system.proofs.Residuals.{floor-le-ceil}
use Rattle.relax_system.proofs.SideMeans.{Before_refl, Before_trans}
use Rattle.relax_system.proofs.Ways.{further-first, further-within, apart-within}
use Rattle.relax_system.proofs.Distances.{distance-cons, distance-wide}
use Rattle.relax_system.proofs.Climbing.{start-low, start-high, start_before}
use Rattle.relax_system.proofs.Extremes.{extremal_there}

-- two points with the same neighbours and weights
same_point : (near : List Near) (anchor lo lo' hi hi' sum sum' : ℕ) → lo ≡ lo' → hi ≡ hi' → sum ≡ sum' → ◌≡◌ {A = Point} (record { lo = lo; hi = hi; near = near; anchor = anchor; anchored = sum }) (record { lo = lo'; hi = hi'; near = near; anchor = anchor; anchored = sum' })
same_point near anchor lo lo' hi hi' sum sum' e f g = rw (e, f, g) refl

map-same : {X : Type 0} (f : X → X) → ((x : X) → f x ≡ x) → (xs : List X) → map f xs ≡ xs
map-same f e [] = refl
map-same f e (x ∷ xs) = rw (e x, map-same f e xs) refl

map-twice : {X : Type 0} (f g h : X → X) → ((x : X) → f x ≡ g (h x)) → (xs : List X) → map f xs ≡ map g (map h xs)
map-twice f g h e [] = refl
map-twice f g h e (x ∷ xs) = rw (e x, map-twice f g h e xs) refl

-- not halved at all
pub halved-none : (side : Side) (points : List Point) → halved side 0 points ≡ points
halved-none side points = map-same (halved_point side 0)
    (λ p. same_point p.near p.anchor _ _ _ _ _ _ (omega arith) (omega arith) (rounded-one side p.anchored)) points

-- halved once more
pub halved-next : (side : Side) (shift : ℕ) (points : List Point) → halved side (shift + 1) points ≡ halved side 1 (halved side shift points)
halved-next side shift points = map-twice (halved_point side (shift + 1)) (halved_point side 1) (halved_point side shift)
    (λ p. same_point p.near p.anchor _ _ _ _ _ _ (rounded-next Floor p.lo shift) (div_ceil-next p.hi shift) (rounded-next side p.anchored shift)) points

pub point_at-halved : (side : Side) (shift : ℕ) (points : List Point) (i : ℕ) → i < length points → point_at (halved side shift points) i ≡ halved_point side shift (point_at points i)
point_at-halved side shift points i there = get_or-map (halved_point side shift) points i no_point no_point there

box_ordered : (lo hi d : ℕ) → 0 < d → lo ≤ hi → lo / d ≤ div_ceil hi d
box_ordered lo hi d p h = le_trans (div-mono lo hi d p h) (floor-le-ceil hi d)

below_product : (x d : ℕ) → 0 < d → x ≤ d * x
below_product x d p = omega (arith, mul-le-mul_left x p)

-- equal boxes stay equal
IsValidNear-halved : (side : Side) (shift : ℕ) (points : List Point) (i : ℕ) (n : Near) → i < length points → IsValidNear points i n → IsValidNear (halved side shift points) i n
IsValidNear-halved side shift points i n there good = record {
  there = rw (length-map points (halved_point side shift)) good.there;
  other = good.other;
  same_lo = rw (point_at-halved side shift points n.point good.there, point_at-halved side shift points i there) (ap (λ x. x / 2 ^ shift) good.same_lo);
  same_hi = rw (point_at-halved side shift points n.point good.there, point_at-halved side shift points i there) (ap (λ x. div_ceil x (2 ^ shift)) good.same_hi);
  positive = good.positive;
}

IsValidPoint-halved : (side : Side) (shift : ℕ) (points : List Point) (i : ℕ) (p : Point) → i < length points → IsValidPoint points i p → IsValidPoint (halved side shift points) i (halved_point side shift p)
IsValidPoint-halved side shift points i p there valid = record {
  ordered = box_ordered p.lo p.hi (2 ^ shift) (pow_pos shift) valid.ordered;
  limit = le_trans (div_ceil-high p.hi (2 ^ shift) p.hi (pow_pos shift) (below_product p.hi (2 ^ shift) (pow_pos shift))) valid.limit;
  near = All-weaker (IsValidNear points i) (IsValidNear (halved side shift points) i) (λ n good. IsValidNear-halved side shift points i n there good) p.near valid.near;
  joined = valid.joined;
  light = valid.light;
  anchored_low = rounded-low side p.anchored (2 ^ shift) (p.anchor * (p.lo / 2 ^ shift)) (pow_pos shift) (times_floor p.anchor p.lo p.anchored (2 ^ shift) valid.anchored_low);
  anchored_high = rounded-high side p.anchored (2 ^ shift) (p.anchor * div_ceil p.hi (2 ^ shift)) (pow_pos shift) (times_ceil p.anchor p.hi p.anchored (2 ^ shift) (pow_pos shift) valid.anchored_high);
}

pub IsValid-halved : (side : Side) (shift : ℕ) (points : List Point) → IsValid points → IsValid (halved side shift points)
IsValid-halved side shift points valid = record {
  few = rw (length-map points (halved_point side shift)) valid.few;
  each = λ i there.
      let inside : i < length points = omega (arith, there, length-map points (halved_point side shift)) in
      rw (point_at-halved side shift points i inside) (IsValidPoint-halved side shift points i (point_at points i) inside (valid.each i inside));
}

-- the halves of a vector's entries
abbrev halves : Side → List ℕ → List ℕ
halves side v = map (λ x. rounded side x 2) v

halves_at : (side : Side) (v : List ℕ) (i : ℕ) → slice_index (halves side v) i ≡ rounded side (slice_index v i) 2
halves_at side [] i = sym (rounded-zero side)
halves_at side (x ∷ v) zero = refl
halves_at side (x ∷ v) (suc i) = halves_at side v i

halves-before : (side : Side) (v : List ℕ) (i : ℕ) → Before side (2 * slice_index (halves side v) i) (slice_index v i)
halves-before side v i = rw (halves_at side v i) (half-before side (slice_index v i))

low_half : (lo x : ℕ) → lo ≤ x → 2 * (lo / 2) ≤ x
low_half lo x h = omega arith

high_half : (hi x : ℕ) → x ≤ hi → x ≤ 2 * div_ceil hi 2
high_half hi x h = omega arith

InBoxes-halves : (side : Side) (points : List Point) (v : List ℕ) → InBoxes points v → InBoxes (halved side 1 points) (halves side v)
InBoxes-halves side points v boxes = record {
  all = omega (arith, boxes.all, length-map points (halved_point side 1), length-map v (λ (x : ℕ). rounded side x 2));
  low = λ i there.
      let inside : i < length points = omega (arith, there, length-map points (halved_point side 1)) in
      rw (point_at-halved side 1 points i inside, halves_at side v i) (rounded-low side (slice_index v i) 2 _ (omega arith) (low_half (point_at points i).lo (slice_index v i) (boxes.low i inside)));
  high = λ i there.
      let inside : i < length points = omega (arith, there, length-map points (halved_point side 1)) in
      rw (point_at-halved side 1 points i inside, halves_at side v i) (rounded-high side (slice_index v i) 2 _ (omega arith) (high_half (point_at points i).hi (slice_index v i) (boxes.high i inside)));
}

twice_weighted : (side : Side) (near : List Near) (u v : List ℕ) → ((i : ℕ) → Before side (2 * slice_index u i) (slice_index v i)) → Before side (2 * weighted_sum near u) (weighted_sum near v)
twice_weighted side [] u v h = Before_refl side 0
twice_weighted side (n ∷ near) u v h =
    rw (sum_by-cons (λ (n : Near). n.weight * slice_index u n.point) n near, sum_by-cons (λ (n : Near). n.weight * slice_index v n.point) n near)
    (twice_sum side (n.weight * slice_index u n.point) (weighted_sum near u) (n.weight * slice_index v n.point) (weighted_sum near v) (twice_product side n.weight (slice_index u n.point) (slice_index v n.point) (h n.point)) (twice_weighted side near u v h))

twice_pull : (side : Side) (p : Point) (v : List ℕ) → Before side (2 * pull (halved_point side 1 p) (halves side v)) (pull p v)
twice_pull side p v =
    twice_sum side (weighted_sum p.near (halves side v)) (rounded side p.anchored 2) (weighted_sum p.near v) p.anchored (twice_weighted side p.near (halves side v) v (halves-before side v)) (half-before side p.anchored)

-- the halves of a quiet vector are quiet in the halved system
IsQuiet-halves : (side : Side) (points : List Point) (v : List ℕ) → IsValid points → IsQuiet side points v → IsQuiet side (halved side 1 points) (halves side v)
IsQuiet-halves side points v valid quiet i there =
    let inside : i < length points = omega (arith, there, length-map points (halved_point side 1)) in
    let p : Point = point_at points i in
    let still : Before side (rounded side (pull p v) (total_weight p)) (slice_index v i) = rw (rounded-pull side points i v) (quiet i inside) in
    rw (← rounded-pull side (halved side 1 points) i (halves side v), point_at-halved side 1 points i inside, halves_at side v i)
    (half-quiet side (pull (halved_point side 1 p) (halves side v)) (pull p v) (total_weight p) (slice_index v i) (valid.each i inside).joined (twice_pull side p v) still)

-- what a solve finds, doubled, stands before what the solve of the system finds
twice_before : (side : Side) (points : List Point) (y v : List ℕ) → IsValid points → IsExtremal side (halved side 1 points) y → IsExtremal side points v → (i : ℕ) → Before side (2 * slice_index y i) (slice_index v i)
twice_before side points y v valid h k i =
    Before_trans side _ _ _ (twice-mono side _ _ (h.first (halves side v) (InBoxes-halves side points v k.in_boxes) (IsQuiet-halves side points v valid k.quiet) i)) (halves-before side v i)

starts_before : (side : Side) (points : List Point) (v : List ℕ) → InBoxes points v → (i : ℕ) → i < length points → Before side (start_of side (point_at points i)) (slice_index v i)
starts_before side points v boxes i there = start_before side (point_at points i) (slice_index v i) (boxes.low i there) (boxes.high i there)

pub length-doubled : (side : Side) (points : List Point) (y : List ℕ) → length y ≡ length points → length (doubled side points y) ≡ length points
length-doubled side points y e = omega (arith, e, length-map (zip points y) (λ (e : Point × ℕ). further_of side (start_of side e.0) (2 * e.1)), length-zip points y)

pub doubled_at : (side : Side) (points : List Point) (y : List ℕ) (i : ℕ) → length y ≡ length points → i < length points → slice_index (doubled side points y) i ≡ further_of side (start_of side (point_at points i)) (2 * slice_index y i)
doubled_at side points y i e there =
    let inside : i < length y = omega (arith, e, there) in
    let pairs : i < length (zip points y) = omega (arith, inside, there, length-zip points y) in
    get_or-map (λ (e : Point × ℕ). further_of side (start_of side e.0) (2 * e.1)) (zip points y) i (no_point, 0) 0 pairs
    ∙ ap (λ (e : Point × ℕ). further_of side (start_of side e.0) (2 * e.1)) (get_or-zip points y i (no_point, 0) there inside)

-- as many entries as the halved system has points
same_length : (side : Side) (points : List Point) (y : List ℕ) → InBoxes (halved side 1 points) y → length y ≡ length points
same_length side points y boxes = omega (arith, boxes.all, length-map points (halved_point side 1))

doubled-before : (side : Side) (points : List Point) (y v : List ℕ) → IsValid points → IsExtremal side (halved side 1 points) y → IsExtremal side points v → AllBefore side (doubled side points y) v
doubled-before side points y v valid h k i =
    let same : length y ≡ length points = same_length side points y h.in_boxes in
    ⊎_elim
    (λ there. rw (doubled_at side points y i same there) (further-within side _ _ _ (starts_before side points v k.in_boxes i there) (twice_before side points y v valid h k i)))
    (λ past. rw (get_or_past (doubled side points y) i 0 (omega (arith, past, length-doubled side points y same)), get_or_past v i 0 (omega (arith, past, k.in_boxes.all))) (Before_refl side 0))
    (cases_lt i (length points))

-- between the start of a box and a number in it
between-low : (side : Side) (p : Point) (x v : ℕ) → p.lo ≤ p.hi → Before side (start_of side p) x → Before side x v → p.lo ≤ v → p.lo ≤ x
between-low Floor p x v o h k low = h
between-low Ceil p x v o h k low = omega (arith, k, low)

between-high : (side : Side) (p : Point) (x v : ℕ) → p.lo ≤ p.hi → Before side (start_of side p) x → Before side x v → v ≤ p.hi → x ≤ p.hi
between-high Floor p x v o h k high = omega (arith, k, high)
between-high Ceil p x v o h k high = h

InBoxes-doubled : (side : Side) (points : List Point) (y v : List ℕ) → IsValid points → IsExtremal side (halved side 1 points) y → IsExtremal side points v → InBoxes points (doubled side points y)
InBoxes-doubled side points y v valid h k =
    let same : length y ≡ length points = same_length side points y h.in_boxes in
    let begun : (i : ℕ) → i < length points → Before side (start_of side (point_at points i)) (slice_index (doubled side points y) i) = λ i there. rw (doubled_at side points y i same there) (further-first side (start_of side (point_at points i)) (2 * slice_index y i)) in
    record {
      all = length-doubled side points y same;
      low = λ i there. between-low side (point_at points i) (slice_index (doubled side points y) i) (slice_index v i) (valid.each i there).ordered (begun i there) (doubled-before side points y v valid h k i) (k.in_boxes.low i there);
      high = λ i there. between-high side (point_at points i) (slice_index (doubled side points y) i) (slice_index v i) (valid.each i there).ordered (begun i there) (doubled-before side points y v valid h k i) (k.in_boxes.high i there);
    }

-- one halving more and less: the entries of a point
record IsStep (side : Side) (p : Point) (y v : ℕ) : Type 0 where
  begun : Before side (start_of side (halved_point side 1 p)) y
  doubled : Before side (2 * y) v
  past : Before side (start_of side p) v

start_of-halved : (side : Side) (p : Point) → start_of side (halved_point side 1 p) ≡ rounded side (start_of side p) 2
start_of-halved Floor p = refl
start_of-halved Ceil p = refl

one_step : (side : Side) (p : Point) (y v : ℕ) → IsStep side p y v → apart side (start_of side (halved_point side 1 p)) y + apart side (further_of side (start_of side p) (2 * y)) v ≤ apart side (start_of side p) v
one_step side p y v h = rw (start_of-halved side p) (step_apart side (start_of side p) y v (rw (start_of-halved side p) at h.begun) h.doubled h.past)

all_steps : (side : Side) (points : List Point) (y v : List ℕ) → length y ≡ length points → length v ≡ length points → ((i : ℕ) → i < length points → IsStep side (point_at points i) (slice_index y i) (slice_index v i))
    → distance side (starts_of side (halved side 1 points)) y + distance side (doubled side points y) v ≤ distance side (starts_of side points) v
all_steps side [] [] [] e f h = omega arith
all_steps side [] [] (z ∷ v) e f h = absurd (omega arith)
all_steps side [] (x ∷ y) v e f h = absurd (omega arith)
all_steps side (p ∷ points) [] v e f h = absurd (omega arith)
all_steps side (p ∷ points) (x ∷ y) [] e f h = absurd (omega arith)
all_steps side (p ∷ points) (x ∷ y) (z ∷ v) e f h =
    let rest : distance side (starts_of side (halved side 1 points)) y + distance side (doubled side points y) v ≤ distance side (starts_of side points) v = all_steps side points y v (omega arith) (omega arith) (λ i there. h (suc i) (omega arith)) in
    let here : apart side (start_of side (halved_point side 1 p)) x + apart side (further_of side (start_of side p) (2 * x)) z ≤ apart side (start_of side p) z = one_step side p x z (h 0 (omega arith)) in
    rw (distance-cons side (start_of side (halved_point side 1 p)) x (starts_of side (halved side 1 points)) y, distance-cons side (further_of side (start_of side p) (2 * x)) z (doubled side points y) v, distance-cons side (start_of side p) z (starts_of side points) v)
    (omega (arith, rest, here))

way_once : (side : Side) (points : List Point) (y v : List ℕ) → IsValid points → IsExtremal side (halved side 1 points) y → IsExtremal side points v
    → distance side (starts_of side (halved side 1 points)) y + distance side (doubled side points y) v ≤ distance side (starts_of side points) v
way_once side points y v valid h k = all_steps side points y v (same_length side points y h.in_boxes) k.in_boxes.all
    (λ i there. record {
      begun = rw (point_at-halved side 1 points i there) at (starts_before side (halved side 1 points) y h.in_boxes i (rw (length-map points (halved_point side 1)) there));
      doubled = twice_before side points y v valid h k i;
      past = starts_before side points v k.in_boxes i there;
    })

-- The same with more halvings, as the laws state it.
once_more : (side : Side) (shift : ℕ) (points : List Point) (y : List ℕ) → IsExtremal side (halved side (shift + 1) points) y → IsExtremal side (halved side 1 (halved side shift points)) y
once_more side shift points y h = rw (halved-next side shift points) at h

pub doubled_before : (side : Side) (shift : ℕ) (points : List Point) (y v : List ℕ) → IsValid points → IsExtremal side (halved side (shift + 1) points) y → IsExtremal side (halved side shift points) v
    → AllBefore side (doubled side (halved side shift points) y) v
doubled_before side shift points y v valid h k = doubled-before side (halved side shift points) y v (IsValid-halved side shift points valid) (once_more side shift points y h) k

pub doubled_in_boxes : (side : Side) (shift : ℕ) (points : List Point) (y : List ℕ) → IsValid points → IsExtremal side (halved side (shift + 1) points) y
    → InBoxes (halved side shift points) (doubled side (halved side shift points) y)
doubled_in_boxes side shift points y valid h =
    let halved-valid : IsValid (halved side shift points) = IsValid-halved side shift points valid in
    let found = extremal_there side (halved side shift points) halved-valid in
    InBoxes-doubled side (halved side shift points) y found.0 halved-valid (once_more side shift points y h) found.1

pub doubled_first : (side : Side) (shift : ℕ) (points : List Point) (y : List ℕ) → IsValid points → IsExtremal side (halved side (shift + 1) points) y
    → (u : List ℕ) → InBoxes (halved side shift points) u → IsQuiet side (halved side shift points) u → AllBefore side (doubled side (halved side shift points) y) u
doubled_first side shift points y valid h u boxes quiet i =
    let found = extremal_there side (halved side shift points) (IsValid-halved side shift points valid) in
    Before_trans side _ _ _ (doubled_before side shift points y found.0 valid h found.1 i) (found.1.first u boxes quiet i)

pub way_step : (side : Side) (shift : ℕ) (points : List Point) (y v : List ℕ) → IsValid points → IsExtremal side (halved side (shift + 1) points) y → IsExtremal side (halved side shift points) v
    → distance side (starts_of side (halved side (shift + 1) points)) y + distance side (doubled side (halved side shift points) y) v ≤ distance side (starts_of side (halved side shift points)) v
way_step side shift points y v valid h k =
    rw (halved-next side shift points) (way_once side (halved side shift points) y v (IsValid-halved side shift points valid) (once_more side shift points y h) k)

-- how far the solve with so many halvings goes from the doubled entries
abbrev part_way : Side → List Point → (ℕ → List ℕ) → ℕ → ℕ
part_way side points found shift = distance side (doubled side (halved side shift points) (found (shift + 1))) (found shift)

range_more : (n : ℕ) → range_with_len 0 (n + 1) ≡ range_with_len 0 n ++ n ∷ []
range_more n = sym (map-id (range_with_len 0 (n + 1))) ∙ map-range_with_len_more (λ (x : ℕ). x) 0 n n (omega arith) ∙ ap (λ ks. ks ++ n ∷ []) (map-id (range_with_len 0 n))

cascade_more : (side : Side) (points : List Point) (most : ℕ) (found : ℕ → List ℕ) → cascade_way side points (most + 1) found ≡ distance side (starts_of side (halved side (most + 1) points)) (found (most + 1)) + (sum_by (part_way side points found) (range_with_len 0 most) + part_way side points found most)
cascade_more side points most found = ap (λ x. distance side (starts_of side (halved side (most + 1) points)) (found (most + 1)) + x)
    (ap (sum_by (part_way side points found)) (range_more most) ∙ sum_by_push (part_way side points found) (range_with_len 0 most) most)

replaced : (a b c s e : ℕ) → a + b ≤ c → c + s ≤ e → a + (s + b) ≤ e
replaced a b c s e h k = omega arith

nothing_more : (a b : ℕ) → a ≡ b → a + 0 ≤ b
nothing_more a b e = omega arith

-- all solves together go no further than the last one would alone
pub cascade_within : (side : Side) (points : List Point) (most : ℕ) (found : ℕ → List ℕ) → IsValid points → IsCascade side points most found → cascade_way side points most found ≤ distance side (starts_of side points) (found 0)
cascade_within side points zero found valid h = nothing_more _ _ (ap (λ ps. distance side (starts_of side ps) (found 0)) (halved-none side points))
cascade_within side points (suc most) found valid h =
    let rest : cascade_way side points most found ≤ distance side (starts_of side points) (found 0) = cascade_within side points most found valid (λ shift in'. h shift (omega (arith, in'))) in
    let step = way_step side most points (found (most + 1)) (found most) valid (h (most + 1) (omega arith)) (h most (omega arith)) in
    subst (λ (n : ℕ). cascade_way side points n found ≤ distance side (starts_of side points) (found 0)) (add-one most)
    (rw (cascade_more side points most found) (replaced _ _ _ _ _ step rest))

narrow_width : (a lo hi : ℕ) → a ≤ hi - lo → hi ≤ MOST_COORDINATE → a ≤ 2000000000000
narrow_width a lo hi h k = omega arith

-- from the starts of the boxes to a vector of the boxes
pub starts_way : (side : Side) (points : List Point) (v : List ℕ) → IsValid points → InBoxes points v → distance side (starts_of side points) v ≤ length points * 2000000000000
starts_way side points v valid boxes =
    let many : length (starts_of side points) ≡ length points = length-map points (start_of side) in
    rw (← many) (distance-wide side (starts_of side points) v 2000000000000 (many ∙ sym boxes.all)
    (λ i there.
    let inside : i < length points = omega (arith, there, many) in
    let p : Point = point_at points i in
    rw (get_or-map (start_of side) points i no_point 0 inside)
    (narrow_width _ p.lo p.hi (apart-within side (start_of side p) (slice_index v i) p.lo p.hi (start-low side p (valid.each i inside).ordered) (start-high side p (valid.each i inside).ordered) (boxes.low i inside) (boxes.high i inside)) (valid.each i inside).limit)))
