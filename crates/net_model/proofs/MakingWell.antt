-- The network of a design is well formed.
use Rattle.std.proofs.Common.{◌≡◌, ◌⊎◌, ℕ, zero, suc, ◌+◌, ◌-◌, ◌*◌, not, ap, ◌/◌, ◌^◌, ◌<◌, ◌≤◌, Bool, true, false, ◌||◌, eqb, List, [], ◌∷◌, length, refl, sym, subst, arith, inl, inr}
use Rattle.std.specs.Prelude.{None, Some, slice_index, if◌then◌else◌, nat_abs, pos, neg_ℤ, ◌≤ℤ◌, ◌+ℤ◌, ℤ, All}
use Rattle.std.specs.Int.{div_ceil}
use Rattle.std.specs.List.{filter_map, range_with_len, cons_option, AllByRecursion}
use Rattle.std.proofs.Math.Nat.{mul-le-mul_right}
use Rattle.std.proofs.lemmas.Bool.{eqb-false, cases_lt, both_ways, lt-ltb, le-ltb}
use Rattle.std.proofs.lemmas.Int.{ints}
use Rattle.std.proofs.lemmas.List.Elements.{All-get_or, All-from_recursion, recursion_from_All, All-append, All-nil}
use Rattle.std.proofs.lemmas.List.FromFn.{length-map-range_with_len, get_or-map-range_with_len}
use Rattle.book_design.specs.declared.parts.Pin.{Pin}
use Rattle.book_design.specs.Values.{NetValue, DesignValue}
use Rattle.book_design.specs.Points.{is_movable, site_count}
use Rattle.book_design.specs.WellFormed.{IsDesign, IsGoodNode, IsGoodNet, IsGoodPin as IsGoodNetPin}
use Rattle.net_model.specs.declared.limits.TheConstants.{MOST_WEIGHT}
use Rattle.net_model.specs.declared.parts.Near.{Near}
use Rattle.net_model.specs.declared.parts.FixedPin.{FixedPin}
use Rattle.net_model.specs.Clique.{first_pins, has_node, share, centre_x, centre_y}
use Rattle.net_model.specs.Network.{point_count, is_star, net_of_star, weight_of, as_near, fixed_in, pins_in, point_value, network_of, total_weight, IsHeavy}
use Rattle.net_model.specs.Numbered.{node_at, node_of, point_nodes}
use Rattle.net_model.specs.Star.{spoke, star_net, star_nets}
use Rattle.net_model.specs.Forms.Joining.{paired_pin}
use Rattle.net_model.specs.Forms.Steps.{pins_by}
use Rattle.net_model.specs.Values.{PointValue, point_at}
use Rattle.net_model.specs.WellFormed.{IsGoodNear, IsGoodPin, IsGoodPoint, IsNet}
use Rattle.net_model.proofs.Movable.{no_node}
use Rattle.net_model.proofs.CliqueNodes.{All_first}
use Rattle.net_model.proofs.MakingNets.{node_of_point}
use Rattle.net_model.proofs.MakingPoints.{no_point}
use Rattle.net_model.proofs.MakingOrder.{near_ascending}
use Rattle.net_model.proofs.CountingTerms.{no_net}
use Rattle.net_model.proofs.StarringNets.{few_points}
use Rattle.net_model.proofs.StarWeights.{good_star}
use Rattle.net_model.proofs.StarNets.{star_net_wide}

-- ---- the neighbours

near_by_test : (points p q pair : ℕ) (rest : List Near) → q < points → (b c : Bool) → eqb q p ≡ b → eqb pair 0 ≡ c → AllByRecursion (IsGoodNear points p) rest
    → AllByRecursion (IsGoodNear points p) (cons_option (if b || c then None else Some (record { point = q; weight = pair })) rest)
near_by_test points p q pair rest h true c e f all = all
near_by_test points p q pair rest h false true e f all = all
near_by_test points p q pair rest h false false e f all = let some = eqb-false pair 0 f in (record { there = h; other = eqb-false q p e; positive = grind arith }, all)

near_good : (design : DesignValue) (points p a n : ℕ) → a + n ≤ points → AllByRecursion (IsGoodNear points p) (filter_map (as_near design p) (range_with_len a n))
near_good design points p a zero h = tt
near_good design points p a (suc n) h =
    let pair = weight_of design p a in
    near_by_test points p a pair (filter_map (as_near design p) (range_with_len (a + 1) n)) (omega arith) (eqb a p) (eqb pair 0) refl refl (near_good design points p (a + 1) n (omega arith))

-- ---- the fixed pins

-- a node at a good pin is good
good_node : (design : DesignValue) (i : ℕ) → IsDesign design → i < length design.nodes → IsGoodNode design.row_height (node_at design i)
good_node design i h inside = All-get_or (IsGoodNode design.row_height) design.nodes i no_node inside (All-from_recursion (IsGoodNode design.row_height) design.nodes h.nodes)

-- a corner, half of a size and an offset
within : (at size offset : ℤ) → neg_ℤ (pos (10 ^ 12)) ≤ℤ at → at ≤ℤ pos (10 ^ 12) → pos 0 ≤ℤ size → size ≤ℤ pos (10 ^ 12) → neg_ℤ (pos (10 ^ 12)) ≤ℤ offset → offset ≤ℤ pos (10 ^ 12)
    → (neg_ℤ (pos (3 * 10 ^ 12)) ≤ℤ (at +ℤ pos (nat_abs size / 2) +ℤ offset)) × ((at +ℤ pos (nat_abs size / 2) +ℤ offset) ≤ℤ pos (3 * 10 ^ 12))
within at size offset a b c d e f = (omega (arith, ints), omega (arith, ints))

fixed_good : (design : DesignValue) (s : ℕ) (pin : Pin) → IsDesign design → 1 ≤ s → IsGoodNetPin (length design.nodes) pin
    → IsGoodPin (record { weight = s; x = centre_x (node_at design pin.node) +ℤ pin.dx; y = centre_y (node_at design pin.node) +ℤ pin.dy })
fixed_good design s pin h positive good =
    let node = node_at design pin.node in
    let own = good_node design pin.node h good.there in
    let x = within node.x node.width pin.dx own.x.low own.x.high own.width_sign own.width.high good.dx.low good.dx.high in
    let y = within node.y node.height pin.dy own.y.low own.y.high own.height_sign own.height.high good.dy.low good.dy.high in
    record { positive = positive; x_low = x.0; x_high = x.1; y_low = y.0; y_high = y.1 }

fixed_by_test : (fixed : FixedPin) (rest : List FixedPin) (c : Bool) → IsGoodPin fixed → AllByRecursion IsGoodPin rest → AllByRecursion IsGoodPin (cons_option (if c then None else Some fixed) rest)
fixed_by_test fixed rest true good all = all
fixed_by_test fixed rest false good all = (good, all)

pins_good : (design : DesignValue) (s : ℕ) (pins : List Pin) → IsDesign design → 1 ≤ s → AllByRecursion (IsGoodNetPin (length design.nodes)) pins → AllByRecursion IsGoodPin (filter_map (paired_pin design s) pins)
pins_good design s [] h positive good = tt
pins_good design s (pin ∷ pins) h positive good =
    fixed_by_test (record { weight = s; x = centre_x (node_at design pin.node) +ℤ pin.dx; y = centre_y (node_at design pin.node) +ℤ pin.dy }) (filter_map (paired_pin design s) pins) (is_movable (node_at design pin.node)) (fixed_good design s pin h positive good.0) (pins_good design s pins h positive good.1)

first_good : (nodes : ℕ) (pins : List Pin) → AllByRecursion (IsGoodNetPin nodes) pins → AllByRecursion (IsGoodNetPin nodes) (first_pins pins)
first_good nodes pins good = recursion_from_All (IsGoodNetPin nodes) (first_pins pins) (All_first (IsGoodNetPin nodes) pins (All-from_recursion (IsGoodNetPin nodes) pins good))

net_by_tests : (design : DesignValue) (net : NetValue) (s : ℕ) → IsDesign design → IsGoodNet (length design.nodes) net → (a b : Bool) → eqb s 0 ≡ a
    → AllByRecursion IsGoodPin (if a then [] else if b then filter_map (paired_pin design s) (first_pins net.pins) else [])
net_by_tests design net s h good true b e = tt
net_by_tests design net s h good false true e = let some = eqb-false s 0 e in pins_good design s (first_pins net.pins) h (grind arith) (first_good (length design.nodes) net.pins good.pins)
net_by_tests design net s h good false false e = tt

nets_good : (design : DesignValue) (nets : List NetValue) (i : ℕ) → IsDesign design → AllByRecursion (IsGoodNet (length design.nodes)) nets → All IsGoodPin (pins_by design nets i)
nets_good design [] i h good = All-nil IsGoodPin
nets_good design (net ∷ nets) i h good =
    All-append IsGoodPin (pins_in design i net) (pins_by design nets i)
    (All-from_recursion IsGoodPin (pins_in design i net) (net_by_tests design net (share net) h good.0 (eqb (share net) 0) (has_node net i) refl)) (nets_good design nets i h good.1)

-- ---- the points

-- a star point stands behind the points that are nodes
pub star_behind : (design : DesignValue) (p : ℕ) → is_star design p ≡ true → length (point_nodes design) ≤ p
star_behind design p e = by_place (cases_lt p (length (point_nodes design))) where
  by_place : (p < length (point_nodes design)) ⊎ (length (point_nodes design) ≤ p) → length (point_nodes design) ≤ p
  by_place (inl less) = absurd (both_ways (is_star design p) (ap not (lt-ltb p (length (point_nodes design)) less)) e)
  by_place (inr more) = more

pub node_before : (design : DesignValue) (p : ℕ) → is_star design p ≡ false → p < length (point_nodes design)
node_before design p e = by_place (cases_lt p (length (point_nodes design))) where
  by_place : (p < length (point_nodes design)) ⊎ (length (point_nodes design) ≤ p) → p < length (point_nodes design)
  by_place (inl less) = less
  by_place (inr more) = absurd (both_ways (is_star design p) e (ap not (le-ltb p (length (point_nodes design)) more)))

pub star_net_good : (design : DesignValue) (s : ℕ) → IsDesign design → s < length (star_nets design) → IsGoodNet (length design.nodes) (star_net design s)
star_net_good design s h there =
    All-get_or (IsGoodNet (length design.nodes)) design.nets (slice_index (star_nets design) s) no_net (star_net_wide design s there).0
    (All-from_recursion (IsGoodNet (length design.nodes)) design.nets h.nets)

ceil_bound : (x y : ℕ) → 1 ≤ y → div_ceil x y ≤ x
ceil_bound x y h = omega (arith, mul-le-mul_right (x / y) h)

sites_bound : (width pitch : ℤ) → pos 0 ≤ℤ width → width ≤ℤ pos (10 ^ 12) → pos 1 ≤ℤ pitch → site_count width pitch ≤ 10 ^ 12
sites_bound width pitch low high some =
    let across : nat_abs width ≤ 10 ^ 12 = omega (arith, ints) in
    let apart : 1 ≤ nat_abs pitch = omega (arith, ints) in
    omega (arith, ceil_bound (nat_abs width) (nat_abs pitch) apart)

-- the point of the network at a place
pub network_point : (design : DesignValue) (p : ℕ) → p < point_count design → point_at (network_of design).points p ≡ point_value design p
network_point design p h = get_or-map-range_with_len (point_value design) 0 (point_count design) p p no_point h (omega arith)

pub network_points : (design : DesignValue) → length (network_of design).points ≡ point_count design
network_points design = length-map-range_with_len (point_value design) 0 (point_count design)

-- the pins of a point, by whether it is a star point
pins_by_kind : (design : DesignValue) (p : ℕ) (b : Bool) → IsDesign design → p < point_count design → is_star design p ≡ b
    → AllByRecursion IsGoodPin (if b then fixed_in design (spoke (net_of_star design p)) (net_of_star design p) else pins_by design design.nets (node_of design p))
pins_by_kind design p true h inside e =
    let s = p - length (point_nodes design) in
    let there : s < length (star_nets design) = omega (arith, star_behind design p e) in
    let net = star_net design s in
    pins_good design (spoke net) (first_pins net.pins) h (good_star design s h there).positive
    (first_good (length design.nodes) net.pins (star_net_good design s h there).pins)
pins_by_kind design p false h inside e =
    recursion_from_All IsGoodPin (pins_by design design.nets (node_of design p)) (nets_good design design.nets (node_of design p) h h.nets)

-- and its area
area_by_kind : (design : DesignValue) (p : ℕ) (b : Bool) → IsDesign design → is_star design p ≡ b
    → (if b then 0 else site_count (node_at design (node_of design p)).width design.pitch) ≤ 10 ^ 12
area_by_kind design p true h e = omega arith
area_by_kind design p false h e =
    let own = node_of_point design p (node_before design p e) in
    let node = good_node design (node_of design p) h own.there in
    sites_bound (node_at design (node_of design p)).width design.pitch node.width_sign node.width.high h.pitch_sign

point_good : (design : DesignValue) (p : ℕ) → IsDesign design → total_weight (point_value design p) ≤ MOST_WEIGHT → p < point_count design → IsGoodPoint (point_count design) p (point_value design p)
point_good design p h light inside = record {
  near = near_good design (point_count design) p 0 (point_count design) (omega arith);
  ascending = near_ascending design p;
  pins = pins_by_kind design p (is_star design p) h inside refl;
  light = light;
  area = area_by_kind design p (is_star design p) h refl;
}

-- a network without a heavy point
pub net_without_heavy : (design : DesignValue) → IsDesign design → ((p : ℕ) → IsHeavy design p → ⊥) → IsNet (network_of design)
net_without_heavy design h light = record {
  few = omega (arith, network_points design, few_points design h);
  stars = omega (arith, network_points design);
  each = λ p inside.
      let there : p < point_count design = omega (arith, network_points design) in
      let P : ℕ → Type 0 = λ n. IsGoodPoint n p (point_at (network_of design).points p) in
      let Q : PointValue → Type 0 = IsGoodPoint (point_count design) p in
      subst P (sym (network_points design)) (subst Q (sym (network_point design p there)) (point_good design p h (not_above (total_weight (point_value design p)) (λ more. light p (there, more))) there));
  core = h.core;
} where
  not_above : (n : ℕ) → (MOST_WEIGHT < n → ⊥) → n ≤ MOST_WEIGHT
  not_above n none = by_cases (cases_lt MOST_WEIGHT n) where
    by_cases : (MOST_WEIGHT < n) ⊎ (n ≤ MOST_WEIGHT) → n ≤ MOST_WEIGHT
    by_cases (inl more) = absurd (none more)
    by_cases (inr less) = less
