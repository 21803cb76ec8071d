-- The flat arrays of a system: how they grow by a point, and what they hold of each.
use Rattle.std.proofs.Common.{◌≡◌, ℕ, ◌+◌, ◌-◌, ◌<◌, ◌≤◌, List, [], ◌∷◌, ◌++◌, length, map, take, drop, get_or, Bool, IsTrue, refl, sym, ap, ◌∙◌, ⊎_elim, arith}
use Rattle.std.specs.List.{slice_index, flat_map}
use Rattle.std.proofs.lemmas.List.{length-append, length-map, append-nil, take-append-drop, take-append-le, take_all, take_more, take_at, drop_at, drop_more, get_or_append_left, get_or_push, get_or-map, map_push, length_push}
use Rattle.std.proofs.lemmas.List.Concat.{flat_map-append}
use Rattle.std.proofs.lemmas.List.Elements.{All-map}
use Rattle.std.proofs.lemmas.Bool.{cases_lt}
use Rattle.relax_system.specs.declared.points.Near.{Near}
use Rattle.relax_system.specs.declared.points.Point.{Point}
use Rattle.relax_system.specs.declared.side.Side.{Side}
use Rattle.relax_system.specs.System.{total_weight, point_at, no_point, IsValid}
use Rattle.relax_system.specs.Means.{InBoxes, pull}
use Rattle.relax_system.specs.Forms.Narrow.{IsNarrow}
use Rattle.relax_system.specs.Sides.{mean_of}
use Rattle.relax_system.specs.Rounding.{rounded}
use Rattle.relax_system.specs.Forms.Flat.{near_numbers, near_weights, numbers_of, weights_of, dot, IsFlat, IsSoundRow}
use Rattle.relax_system.proofs.Dots.{dot-near}
use Rattle.relax_system.proofs.Fits.{pull_light, pull_narrow, rounded-pull}

flat_map_push : {X : Type 0} (f : X → List ℕ) (xs : List X) (x : X) → flat_map f (xs ++ x ∷ []) ≡ flat_map f xs ++ f x
flat_map_push f xs x = flat_map-append f xs (x ∷ []) ∙ ap (λ ys. flat_map f xs ++ ys) (append-nil (f x))

pub IsFlat_push : (points : List Point) (starts numbers weights totals anchored : List ℕ) (p : Point) → IsFlat points starts numbers weights totals anchored
    → IsFlat (points ++ p ∷ []) (starts ++ length (numbers ++ near_numbers p) ∷ []) (numbers ++ near_numbers p) (weights ++ near_weights p) (totals ++ total_weight p ∷ []) (anchored ++ p.anchored ∷ [])
IsFlat_push points starts numbers weights totals anchored p h =
    let grown : numbers ++ near_numbers p ≡ numbers_of (points ++ p ∷ []) = ap (λ ns. ns ++ near_numbers p) h.numbered ∙ sym (flat_map_push near_numbers points p) in
    record {
      many = omega (arith, length_push starts (length (numbers ++ near_numbers p)), length_push points p, h.many);
      starting = λ k in'. ⊎_elim
          (λ past. let last : k ≡ length points + 1 = omega (arith, length_push points p) in
          rw (get_or_push starts (length (numbers ++ near_numbers p)) 0 k (omega (arith, h.many)), take_all k (points ++ p ∷ []) (omega (arith, length_push points p))) (ap length grown))
          (λ before. rw (get_or_append_left starts (length (numbers ++ near_numbers p) ∷ []) 0 k (omega (arith, h.many)), take-append-le k points (p ∷ []) before) (h.starting k before))
          (cases_lt (length points) k);
      numbered = grown;
      weighted = ap (λ ws. ws ++ near_weights p) h.weighted ∙ sym (flat_map_push near_weights points p);
      summed = ap (λ ts. ts ++ total_weight p ∷ []) h.summed ∙ sym (map_push total_weight points p);
      pulled = ap (λ bs. bs ++ p.anchored ∷ []) h.pulled ∙ sym (map_push (λ (p : Point). p.anchored) points p);
    }

-- the arrays of one point more, as they were made
pub record IsGrown (p : Point) (starts numbers weights totals anchored starts' numbers' weights' totals' anchored' : List ℕ) : Type 0 where
  pub begun : starts' ≡ starts ++ length numbers' ∷ []
  pub numbered : numbers' ≡ numbers ++ near_numbers p
  pub weighted : weights' ≡ weights ++ near_weights p
  pub summed : totals' ≡ totals ++ total_weight p ∷ []
  pub pulled : anchored' ≡ anchored ++ p.anchored ∷ []

pub IsFlat_more : (points : List Point) (i : ℕ) (starts numbers weights totals anchored starts' numbers' weights' totals' anchored' : List ℕ) → IsFlat (take i points) starts numbers weights totals anchored → i < length points
    → IsGrown (point_at points i) starts numbers weights totals anchored starts' numbers' weights' totals' anchored' → IsFlat (take (i + 1) points) starts' numbers' weights' totals' anchored'
IsFlat_more points i starts numbers weights totals anchored starts' numbers' weights' totals' anchored' h there grown =
    rw (take_more points i no_point there, grown.begun, grown.numbered, grown.weighted, grown.summed, grown.pulled) (IsFlat_push (take i points) starts numbers weights totals anchored (point_at points i) h)

-- a piece of joined lists
piece : {X : Type 0} (f : X → List ℕ) (xs : List X) (i from to : ℕ) (d : X) → i < length xs → from ≡ length (flat_map f (take i xs)) → to ≡ length (flat_map f (take (i + 1) xs)) → take (to - from) (drop from (flat_map f xs)) ≡ f (get_or xs i d)
piece f xs i from to d there begins ends =
    let x = get_or xs i d in
    let joined : flat_map f xs ≡ flat_map f (take i xs) ++ (f x ++ flat_map f (drop (i + 1) xs)) = ap (flat_map f) (sym (take-append-drop i xs) ∙ ap (λ ys. take i xs ++ ys) (drop_more xs i d there)) ∙ flat_map-append f (take i xs) (x ∷ drop (i + 1) xs) in
    let next : flat_map f (take (i + 1) xs) ≡ flat_map f (take i xs) ++ f x = ap (flat_map f) (take_more xs i d there) ∙ flat_map_push f (take i xs) x in
    let long : length (f x) ≡ to - from = omega (arith, begins, ends ∙ ap length next, length-append (flat_map f (take i xs)) (f x)) in
    rw (joined, drop_at (flat_map f (take i xs)) (f x ++ flat_map f (drop (i + 1) xs)) from (sym begins), take_at (f x) (flat_map f (drop (i + 1) xs)) (to - from) long) refl

same_lengths : (points : List Point) → length (numbers_of points) ≡ length (weights_of points)
same_lengths [] = refl
same_lengths (p ∷ points) =
    omega (arith, length-append (near_numbers p) (numbers_of points), length-append (near_weights p) (weights_of points), length-map p.near (λ (n : Near). n.point), length-map p.near (λ (n : Near). n.weight), same_lengths points)

-- what the arrays hold of a point
pub record IsRow (p : Point) (i : ℕ) (starts numbers weights totals anchored : List ℕ) : Type 0 where
  pub from-to : slice_index starts i ≤ slice_index starts (i + 1)
  pub numbers_end : slice_index starts (i + 1) ≤ length numbers
  pub weights_end : slice_index starts (i + 1) ≤ length weights
  pub numbered : take (slice_index starts (i + 1) - slice_index starts i) (drop (slice_index starts i) numbers) ≡ near_numbers p
  pub weighted : take (slice_index starts (i + 1) - slice_index starts i) (drop (slice_index starts i) weights) ≡ near_weights p
  pub summed : slice_index totals i ≡ total_weight p
  pub pulled : slice_index anchored i ≡ p.anchored

length_so_far : (points : List Point) (k : ℕ) → length (numbers_of (take k points)) ≤ length (numbers_of points)
length_so_far points k =
    omega (arith, length-append (numbers_of (take k points)) (numbers_of (drop k points)), ap length (flat_map-append near_numbers (take k points) (drop k points)), ap (λ ps. length (numbers_of ps)) (take-append-drop k points))

pub IsFlat-row : (points : List Point) (starts numbers weights totals anchored : List ℕ) (i : ℕ) → IsFlat points starts numbers weights totals anchored → i < length points → IsRow (point_at points i) i starts numbers weights totals anchored
IsFlat-row points starts numbers weights totals anchored i h there =
    let begins : slice_index starts i ≡ length (numbers_of (take i points)) = h.starting i (omega arith) in
    let ends : slice_index starts (i + 1) ≡ length (numbers_of (take (i + 1) points)) = h.starting (i + 1) (omega arith) in
    record {
      from-to = omega (arith, begins, ends, ap length (flat_map_push near_numbers (take i points) (point_at points i)), ap (λ ps. length (numbers_of ps)) (take_more points i no_point there), length-append (numbers_of (take i points)) (near_numbers (point_at points i)));
      numbers_end = omega (arith, ends, length_so_far points (i + 1), ap length h.numbered);
      weights_end = omega (arith, ends, length_so_far points (i + 1), ap length h.weighted, same_lengths points);
      numbered = rw h.numbered (piece near_numbers points i _ _ no_point there begins ends);
      weighted = rw h.weighted (piece near_weights points i _ _ no_point there (begins ∙ same_lengths (take i points)) (ends ∙ same_lengths (take (i + 1) points)));
      summed = rw h.summed (get_or-map total_weight points i no_point 0 there);
      pulled = rw h.pulled (get_or-map (λ (p : Point). p.anchored) points i no_point 0 there);
    }

-- an entry that was read of a mapped list
pub read_mapped : {X : Type 0} (f : X → ℕ) (xs : List X) (ys : List ℕ) (i y : ℕ) (d : X) → ys ≡ map f xs → i < length xs → y ≡ get_or ys i y → y ≡ f (get_or xs i d)
read_mapped f xs ys i y d same there read = read ∙ rw same (get_or-map f xs i d y there)

-- what was read of a point's row
pub record IsRowOf (p : Point) (numbers weights : List ℕ) (anchored total : ℕ) : Type 0 where
  pub numbered : numbers ≡ near_numbers p
  pub weighted : weights ≡ near_weights p
  pub pulled : anchored ≡ p.anchored
  pub summed : total ≡ total_weight p

pub dot-row : (p : Point) (numbers weights : List ℕ) (anchored total : ℕ) (v : List ℕ) → IsRowOf p numbers weights anchored total → dot numbers weights v + anchored ≡ pull p v
dot-row p numbers weights anchored total v h = rw (h.numbered, h.weighted, h.pulled) (omega (arith, dot-near p.near v))

pub IsSoundRow-of : (points : List Point) (i : ℕ) (narrow : Bool) (numbers weights : List ℕ) (anchored total : ℕ) (v : List ℕ) → IsRowOf (point_at points i) numbers weights anchored total
    → IsValid points → (IsTrue narrow → IsNarrow points) → i < length points → InBoxes points v → IsSoundRow narrow numbers weights anchored total v
IsSoundRow-of points i narrow numbers weights anchored total v h valid fits there boxes =
    let point : Point = point_at points i in
    let sum : dot numbers weights v + anchored ≡ pull point v = dot-row point numbers weights anchored total v h in
    record {
      same = rw (h.numbered, h.weighted) (length-map point.near (λ (n : Near). n.point) ∙ sym (length-map point.near (λ (n : Near). n.weight)));
      there = rw (h.numbered, boxes.all) (All-map (λ n. n < length points) (λ (n : Near). n.point) point.near (λ k d in'. ((valid.each i there).near k d in').there));
      fits = λ flag. rw sum (pull_narrow points i v valid (fits flag) there boxes);
      high = rw (sum, h.summed) (pull_light points i v valid there boxes);
      positive = rw h.summed (valid.each i there).joined;
      light = rw h.summed (valid.each i there).light;
    }

pub rounded-row : (side : Side) (points : List Point) (i : ℕ) (numbers weights : List ℕ) (anchored total : ℕ) (v : List ℕ) → IsRowOf (point_at points i) numbers weights anchored total
    → rounded side (dot numbers weights v + anchored) total ≡ mean_of side points i v
rounded-row side points i numbers weights anchored total v h = rw (dot-row (point_at points i) numbers weights anchored total v h, h.summed) (rounded-pull side points i v)
