-- The maximum principle along a chain, over functions to numbers.
use Rattle.std.proofs.Common.{◌≡◌, ℕ, ◌+◌, ◌-◌, ◌*◌, ◌<◌, ◌≤◌, List, [], ◌∷◌, length, map, zero, suc, nat_le, IsTrue, sym, ap, ◌∙◌, subst, ⊎_elim, arith}
use Rattle.std.specs.List.{sum_by, All, AllByRecursion, Contains}
use Rattle.std.proofs.Math.Nat.{add-mul, mul-le-mul_left, mul-le-mul_right}
use Rattle.std.proofs.lemmas.List.{get_or-map}
use Rattle.std.proofs.lemmas.List.Sums.{sum_by-cons}
use Rattle.std.proofs.lemmas.List.Elements.{All-weaker, All-map, All-contains, All-from_recursion, recursion_from_All}
use Rattle.std.proofs.lemmas.Bool.{cases_lt, cases_eq, leb-true}
use Rattle.pad_reach.specs.Chain.{Joint, no_joint, IsChain, HasChain}
use Rattle.relax_system.specs.declared.points.Near.{Near}
use Rattle.relax_system.specs.declared.points.Point.{Point}
use Rattle.relax_system.specs.System.{near_weight, total_weight, point_at, no_point, IsValid, IsValidNear, joint_of, joints_of}

-- the sum of weight times value over the neighbours
abbrev pub weigh : List Near → (ℕ → ℕ) → ℕ
weigh near u = sum_by (λ n. n.weight * u n.point) near

pub weigh-cons : (n : Near) (near : List Near) (u : ℕ → ℕ) → weigh (n ∷ near) u ≡ n.weight * u n.point + weigh near u
weigh-cons n near u = sum_by-cons (λ (n : Near). n.weight * u n.point) n near

near_weight-cons : (n : Near) (near : List Near) → near_weight (n ∷ near) ≡ n.weight + near_weight near
near_weight-cons n near = sum_by-cons (λ (n : Near). n.weight) n near

record IsBounded (u : ℕ → ℕ) (m : ℕ) (n : Near) : Type 0 where
  positive : 1 ≤ n.weight
  high : u n.point ≤ m

weigh-high : (near : List Near) (u : ℕ → ℕ) (m : ℕ) → AllByRecursion (IsBounded u m) near → weigh near u ≤ near_weight near * m
weigh-high [] u m h = omega arith
weigh-high (n ∷ near) u m h =
    rw (weigh-cons n near u, near_weight-cons n near, add-mul) (omega (arith, weigh-high near u m h.1, mul-le-mul_left n.weight h.0.high))

-- a factor of at least 1 can be cancelled
cancelled : (w x y : ℕ) → 1 ≤ w → w * x ≤ w * y → x ≤ y
cancelled w x y h le = ⊎_elim (λ lt. absurd (omega (arith, mul-le-mul_left w lt))) (λ le. le) (cases_lt y x)

-- a sum at its bound has each term at its bound
tight : (near : List Near) (u : ℕ → ℕ) (m : ℕ) → AllByRecursion (IsBounded u m) near → near_weight near * m ≤ weigh near u → AllByRecursion (λ (n : Near). m ≤ u n.point) near
tight [] u m h le = tt
tight (n ∷ near) u m h le =
    let sums : n.weight * m + near_weight near * m ≤ n.weight * u n.point + weigh near u = rw (weigh-cons n near u, near_weight-cons n near, add-mul) at le in
    let rest : weigh near u ≤ near_weight near * m = weigh-high near u m h.1 in
    let first : n.weight * u n.point ≤ n.weight * m = mul-le-mul_left n.weight h.0.high in
    (cancelled n.weight m (u n.point) h.0.positive (omega arith), tight near u m h.1 (omega arith))

-- what a value means that the values of its neighbours outweigh, at each point
abbrev pub IsOutweighed : List Point → (ℕ → ℕ) → Type 0
IsOutweighed points u = (i : ℕ) → i < length points → total_weight (point_at points i) * u i ≤ weigh (point_at points i).near u

bounded_near : (points : List Point) (u : ℕ → ℕ) (m i : ℕ) → ((k : ℕ) → k < length points → u k ≤ m) → (n : Near) → IsValidNear points i n → IsBounded u m n
bounded_near points u m i high n valid = record { positive = valid.positive; high = high n.point valid.there }

record IsTop (points : List Point) (u : ℕ → ℕ) (m p : ℕ) : Type 0 where
  there : p < length points
  top : m ≤ u p

-- what a point at the bound of all has around it
record HasTopAround (points : List Point) (u : ℕ → ℕ) (m p : ℕ) : Type 0 where
  bare : (point_at points p).anchor * m ≤ 0
  near : All (λ (n : Near). IsTop points u m n.point) (point_at points p).near

top_around : (points : List Point) (u : ℕ → ℕ) (m : ℕ) → IsValid points → IsOutweighed points u → ((k : ℕ) → k < length points → u k ≤ m) → (p : ℕ) → IsTop points u m p → HasTopAround points u m p
top_around points u m valid out high p h =
    let point : Point = point_at points p in
    let all : All (IsValidNear points p) point.near = (valid.each p h.there).near in
    let bounded : AllByRecursion (IsBounded u m) point.near = recursion_from_All _ _ (All-weaker (IsValidNear points p) (IsBounded u m) (bounded_near points u m p high) point.near all) in
    let sums : point.anchor * m + near_weight point.near * m ≤ weigh point.near u = rw (← add-mul point.anchor (near_weight point.near) m) (omega (arith, out p h.there, mul-le-mul_left (total_weight point) h.top)) in
    record {
      bare = omega (arith, sums, weigh-high point.near u m bounded);
      near = λ k d in'. record { there = (all k d in').there; top = All-from_recursion _ _ (tight point.near u m bounded (omega arith)) k d in' };
    }

-- no point with a chain reaches the bound m + 1 of all
no_top : (points : List Point) (u : ℕ → ℕ) (m : ℕ) → IsValid points → IsOutweighed points u → ((k : ℕ) → k < length points → u k ≤ suc m) → (p : ℕ) (rest : List ℕ) → IsChain (joints_of points) (p ∷ rest) → IsTop points u (suc m) p → ⊥
no_top points u m valid out high p [] chain h =
    let anchored : IsTrue (nat_le 1 (point_at points p).anchor) = ap (λ (j : Joint). j.anchored) (sym (get_or-map joint_of points p no_point no_joint h.there)) ∙ chain in
    omega (arith, (top_around points u (suc m) valid out high p h).bare, mul-le-mul_right (suc m) (leb-true 1 (point_at points p).anchor anchored))
no_top points u m valid out high p (q ∷ rest) chain h =
    let near : Contains (map (λ (n : Near). n.point) (point_at points p).near) q = subst (λ (j : Joint). Contains j.near q) (get_or-map joint_of points p no_point no_joint h.there) chain.0 in
    let around : All (IsTop points u (suc m)) (map (λ (n : Near). n.point) (point_at points p).near) = All-map (IsTop points u (suc m)) (λ (n : Near). n.point) (point_at points p).near (top_around points u (suc m) valid out high p h).near in
    no_top points u m valid out high q rest chain.1 (All-contains (IsTop points u (suc m)) _ q around near)

bound_of : (u : ℕ → ℕ) (n : ℕ) → (m : ℕ) × ((k : ℕ) → k < n → u k ≤ m)
bound_of u zero = (0, λ k in'. absurd (omega arith))
bound_of u (suc n) =
    let rest = bound_of u n in
    (u n + rest.0, λ k in'. ⊎_elim (λ same. rw same (omega arith)) (λ other. let le : u k ≤ rest.0 = rest.1 k (omega arith) in omega arith) (cases_eq k n))

-- each bound can be lowered to 0
lowered : (points : List Point) (u : ℕ → ℕ) (m : ℕ) → IsValid points → ((p : ℕ) → p < length points → HasChain (joints_of points) p) → IsOutweighed points u → ((k : ℕ) → k < length points → u k ≤ m) → (k : ℕ) → k < length points → u k ≤ 0
lowered points u zero valid chains out high = high
lowered points u (suc m) valid chains out high =
    lowered points u m valid chains out (λ k there. ⊎_elim
    (λ top. absurd (no_top points u m valid out high k (chains k there).0 (chains k there).1 (record { there = there; top = top })))
    (λ le. omega arith)
    (cases_lt m (u k)))

-- where each point has a chain, only 0 is outweighed everywhere
pub vanishes : (points : List Point) (u : ℕ → ℕ) → IsValid points → ((p : ℕ) → p < length points → HasChain (joints_of points) p) → IsOutweighed points u → (k : ℕ) → k < length points → u k ≤ 0
vanishes points u valid chains out = lowered points u (bound_of u (length points)).0 valid chains out (bound_of u (length points)).1

weigh-add : (near : List Near) (a b u : ℕ → ℕ) → ((k : ℕ) → a k ≤ b k + u k) → weigh near a ≤ weigh near b + weigh near u
weigh-add [] a b u h = omega arith
weigh-add (n ∷ near) a b u h =
    rw (weigh-cons n near a, weigh-cons n near b, weigh-cons n near u) (omega (arith, weigh-add near a b u h, mul-le-mul_left n.weight (h n.point)))

excess : (p : Point) (a b : ℕ → ℕ) (i : ℕ) → total_weight p * a i + weigh p.near b ≤ total_weight p * b i + weigh p.near a → total_weight p * (a i - b i) ≤ weigh p.near (λ j. a j - b j)
excess p a b i le =
    let rest : weigh p.near a ≤ weigh p.near b + weigh p.near (λ j. a j - b j) = weigh-add p.near a b (λ j. a j - b j) (λ j. omega arith) in
    ⊎_elim
    (λ (above : b i < a i). let split : a i ≡ b i + (a i - b i) = omega arith in omega (arith, rest, le, ap (λ x. total_weight p * x) split))
    (λ (below : a i ≤ b i). let none : a i - b i ≡ 0 = omega arith in rw none (omega arith))
    (cases_lt (b i) (a i))

-- One function lies below another where its equations leave no more: total * a + weigh b ≤ total * b + weigh a.
pub compared : (points : List Point) (a b : ℕ → ℕ) → IsValid points → ((p : ℕ) → p < length points → HasChain (joints_of points) p)
    → ((i : ℕ) → i < length points → total_weight (point_at points i) * a i + weigh (point_at points i).near b ≤ total_weight (point_at points i) * b i + weigh (point_at points i).near a)
    → (k : ℕ) → k < length points → a k ≤ b k
compared points a b valid chains h k there =
    let none : a k - b k ≤ 0 = vanishes points (λ i. a i - b i) valid chains (λ i in'. excess (point_at points i) a b i (h i in')) k there in
    omega arith
