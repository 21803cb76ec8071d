-- The loops over the points: their entries summed in place, and the first heavy one.
use Rattle.std.proofs.Common.{◌≡◌, ℕ, ◌+◌, ◌-◌, ◌^◌, ◌<◌, ◌≤◌, List, [], ◌++◌, length, get_or, map, take, drop, set, sym, ◌∙◌, ap, subst, arith}
use Rattle.std.specs.Prelude.{All}
use Rattle.std.proofs.lemmas.List.{get_or-map, get_or-append_right, get_or-drop, length-map, length-take, length-drop, length-append, map-set}
use Rattle.std.proofs.lemmas.List.Edits.{map_over_more}
use Rattle.std.proofs.lemmas.List.Elements.{All-get_or, All-weaker}
use Rattle.net_model.specs.declared.limits.TheConstants.{MOST_WEIGHT}
use Rattle.net_model.specs.declared.point.NetPoint.{NetPoint}
use Rattle.net_model.specs.Values.{PointValue, point_entry, point_values, point_at}
use Rattle.net_model.specs.Network.{total_weight}
use Rattle.net_model.specs.Forms.Steps.{IsEntry, IsUnsummed, summed, IsHeavyPoint}

abbrev pub no_point : PointValue
no_point = record { near = []; pins = []; area = 0 }

-- the point at a place
pub point_is : (points : List NetPoint) (i : ℕ) (d : NetPoint) → i < length points → point_at (point_values points) i ≡ point_entry (get_or points i d)
point_is points i d inside = get_or-map point_entry points i d no_point inside

-- as far as the place the points are summed, and from there on they are as before
pub record AreSummed (points : ℕ) (before after : List PointValue) (i : ℕ) : Type 0 where
  pub same : after ≡ map (summed points) (take i before) ++ drop i before
  pub inside : i < length before

pub as_many : (n : ℕ) (before after : List PointValue) (i : ℕ) → AreSummed n before after i → length after ≡ length before
as_many n before after i h =
    omega (arith, ap length h.same, length-append (map (summed n) (take i before)) (drop i before), length-map (take i before) (summed n), length-take i before, length-drop i before, h.inside)

at_place : (n : ℕ) (before after : List PointValue) (i : ℕ) → AreSummed n before after i → get_or after i no_point ≡ get_or before i no_point
at_place n before after i h =
    let first : length (map (summed n) (take i before)) ≡ i = omega (arith, length-map (take i before) (summed n), length-take i before, h.inside) in
    let none : i + (i - i) ≡ i = omega arith in
    ap (λ points. get_or points i no_point) h.same ∙ get_or-append_right (map (summed n) (take i before)) (drop i before) i i no_point first (omega arith)
    ∙ get_or-drop i before (i - i) no_point ∙ ap (λ k. get_or before k no_point) none

-- the point at the place isn't summed yet
pub unsummed_at : (n : ℕ) (before : List PointValue) (points : List NetPoint) (i : ℕ) (d : NetPoint) → AreSummed n before (point_values points) i → All (IsUnsummed n) before → IsUnsummed n (point_entry (get_or points i d))
unsummed_at n before points i d h all =
    let inside : i < length points = omega (arith, as_many n before (point_values points) i h, length-map points point_entry, h.inside) in
    let P : PointValue → Type 0 = IsUnsummed n in
    subst P (sym (at_place n before (point_values points) i h) ∙ point_is points i d inside) (All-get_or (IsUnsummed n) before i no_point h.inside all)

pub all_there : (n : ℕ) (point : PointValue) → IsUnsummed n point → All (λ entry. entry.point < n) point.near
all_there n point h = All-weaker (IsEntry n) (λ entry. entry.point < n) (λ entry good. good.there) point.near h.near

pub all_positive : (n : ℕ) (point : PointValue) → IsUnsummed n point → All (λ entry. 1 ≤ entry.weight) point.near
all_positive n point h = All-weaker (IsEntry n) (λ entry. 1 ≤ entry.weight) (λ entry good. good.positive) point.near h.near

-- a write of the sums of the point at the place
pub summed_more : (n : ℕ) (before : List PointValue) (points : List NetPoint) (i : ℕ) (d p : NetPoint) → AreSummed n before (point_values points) i → point_entry p ≡ summed n (point_entry (get_or points i d))
    → point_values (set points i p) ≡ map (summed n) (take (i + 1) before) ++ drop (i + 1) before
summed_more n before points i d p h e =
    let inside : i < length points = omega (arith, as_many n before (point_values points) i h, length-map points point_entry, h.inside) in
    let here = get_or-map point_entry points i d (point_entry (get_or points i d)) inside in
    map-set point_entry points i p ∙ ap (set (point_values points) i) e
    ∙ map_over_more (summed n) before (point_values points) i (point_entry (get_or points i d)) h.inside h.same (sym here)

pub point_read : (points : List NetPoint) (i : ℕ) (p : NetPoint) → i < length points → p ≡ get_or points i p → point_at (point_values points) i ≡ point_entry p
point_read points i p inside e = point_is points i p inside ∙ ap point_entry (sym e)

pub light_at : (points : List NetPoint) (i : ℕ) (p : NetPoint) → i < length points → p ≡ get_or points i p → All (λ point. total_weight point < 2 ^ 64) (point_values points) → total_weight (point_entry p) < 2 ^ 64
light_at points i p inside e all =
    let P : PointValue → Type 0 = λ point. total_weight point < 2 ^ 64 in
    subst P (point_read points i p inside e) (All-get_or P (point_values points) i no_point (omega (arith, length-map points point_entry)) all)

pub not_heavy : (points : List NetPoint) (i : ℕ) (p : NetPoint) → i < length points → p ≡ get_or points i p → total_weight (point_entry p) ≤ MOST_WEIGHT → IsHeavyPoint (point_values points) i → ⊥
not_heavy points i p inside e light heavy = omega (arith, ap total_weight (point_read points i p inside e), heavy.1)
