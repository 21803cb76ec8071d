-- What one net gives a node: its share for each other node, once, and in all no more than `NET_WEIGHT` times its weight.
use Rattle.std.proofs.Common.{◌≡◌, ◌≢◌, ◌⊎◌, ℕ, zero, suc, ◌+◌, ◌-◌, ◌*◌, ◌/◌, ◌<◌, ◌≤◌, Bool, true, false, not, ◌&&◌, ◌||◌, cond, eqb, List, [], ◌∷◌, length, refl, sym, ◌∙◌, ap, inl, inr, arith}
use Rattle.std.specs.Prelude.{None, Some, if◌then◌else◌, ◌+ℤ◌, sum_by}
use Rattle.std.specs.List.{filter_map, cons_option}
use Rattle.std.proofs.Math.Nat.{suc-mul, mul-div-le}
use Rattle.std.proofs.lemmas.Bool.{eqb-true, eqb-false, eq-eqb, ne_eqb, both_ways, cases_lt}
use Rattle.std.proofs.lemmas.List.{get_or_past}
use Rattle.std.proofs.lemmas.List.Sums.{sum_by-cons}
use Rattle.book_design.specs.declared.parts.Pin.{Pin}
use Rattle.book_design.specs.Values.{NodeValue, NetValue, DesignValue}
use Rattle.book_design.specs.Points.{is_movable, node_value_at, movable_before, IsNodeOf}
use Rattle.net_model.specs.declared.limits.TheConstants.{NET_WEIGHT}
use Rattle.net_model.specs.declared.parts.Near.{Near}
use Rattle.net_model.specs.declared.parts.FixedPin.{FixedPin}
use Rattle.net_model.specs.Clique.{first_pins, degree, is_clique, has_node, share, centre_x, centre_y}
use Rattle.net_model.specs.Network.{pins_in}
use Rattle.net_model.specs.Numbered.{node_at, node_of, point_nodes}
use Rattle.net_model.specs.Forms.Joining.{is_at, AreDistinct, paired_near, paired_pin}
use Rattle.net_model.specs.Forms.Steps.{nears_in, weight_at}
use Rattle.net_model.proofs.Movable.{no_node, each_movable, one_number}
use Rattle.net_model.proofs.CliqueNodes.{distinct_first, joined_first}
use Rattle.net_model.proofs.MergingSums.{weight_sum, weight_at-cons}

-- the sum of the weights of fixed pins
abbrev pub pin_sum : List FixedPin → ℕ
pin_sum pins = sum_by (λ pin. pin.weight) pins

-- the node of a point
pub node_of_point : (design : DesignValue) (p : ℕ) → p < length (point_nodes design) → IsNodeOf design.nodes p (node_of design p)
node_of_point design p inside =
    let own = each_movable design.nodes (length design.nodes) p (omega arith) inside in
    record { there = own.there; movable = own.movable; number = own.number }

-- a movable node is there
pub movable_there : (nodes : List NodeValue) (k : ℕ) → is_movable (node_value_at nodes k) ≡ true → k < length nodes
movable_there nodes k movable = by_place (cases_lt k (length nodes)) where
  by_place : (k < length nodes) ⊎ (length nodes ≤ k) → k < length nodes
  by_place (inl inside) = inside
  by_place (inr past) = absurd (both_ways (is_movable (node_value_at nodes k)) (ap is_movable (get_or_past nodes k no_node past)) movable)

-- a movable node has the number of another one where it is the same
same_number : (nodes : List NodeValue) (q j k : ℕ) → IsNodeOf nodes q j → is_movable (node_value_at nodes k) ≡ true → eqb (movable_before nodes k) q ≡ eqb k j
same_number nodes q j k h movable = by_test (eqb k j) refl where
  by_test : (b : Bool) → eqb k j ≡ b → eqb (movable_before nodes k) q ≡ b
  by_test true e = eq-eqb (movable_before nodes k) q (ap (movable_before nodes) (eqb-true k j e) ∙ h.number)
  by_test false e = ne_eqb (movable_before nodes k) q (λ same. eqb-false k j e (one_number nodes k j (movable_there nodes k movable) h.there movable h.movable (same ∙ sym h.number)))

fixed_apart : (nodes : List NodeValue) (q j k : ℕ) → IsNodeOf nodes q j → is_movable (node_value_at nodes k) ≡ false → eqb k j ≡ false
fixed_apart nodes q j k h fixed = ne_eqb k j (λ same. both_ways (is_movable (node_value_at nodes k)) fixed (ap (λ n. is_movable (node_value_at nodes n)) same ∙ h.movable))

-- what a pin gives a point: nothing at the node itself, and elsewhere the weight to its own
pin_weight : (design : DesignValue) (s i q j : ℕ) (pin : Pin) (rest : List Near) → IsNodeOf design.nodes q j → weight_at (cons_option (paired_near design s i pin) rest) q ≡ cond (eqb pin.node i) 0 (cond (eqb pin.node j) s 0) + weight_at rest q
pin_weight design s i q j pin rest h = by_tests (eqb pin.node i) (is_movable (node_at design pin.node)) refl where
  near : Near
  near = record { point = movable_before design.nodes pin.node; weight = s }

  by_tests : (b c : Bool) → is_movable (node_at design pin.node) ≡ c → weight_at (cons_option (cond (b || not c) None (Some near)) rest) q ≡ cond b 0 (cond (eqb pin.node j) s 0) + weight_at rest q
  by_tests true c e = omega arith
  by_tests false true e = weight_at-cons near rest q ∙ ap (λ b. cond b s 0 + weight_at rest q) (same_number design.nodes q j pin.node h e)
  by_tests false false e = let none : cond (eqb pin.node j) s 0 ≡ 0 = ap (λ b. cond b s 0) (fixed_apart design.nodes q j pin.node h e) in omega (arith, none)

pub zero_either : (n : ℕ) (b : Bool) → n ≡ 0 → cond b 0 n ≡ 0
zero_either n true none = refl
zero_either n false none = none

-- a node gives itself nothing
own_step : (s : ℕ) (b : Bool) (rest : ℕ) → rest ≡ 0 → cond b 0 (cond b s 0) + rest ≡ 0
own_step s true rest none = omega arith
own_step s false rest none = omega arith

pub own_weight : (design : DesignValue) (s i p : ℕ) (pins : List Pin) → IsNodeOf design.nodes p i → weight_at (filter_map (paired_near design s i) pins) p ≡ 0
own_weight design s i p [] h = refl
own_weight design s i p (pin ∷ pins) h =
    pin_weight design s i p i pin (filter_map (paired_near design s i) pins) h ∙ own_step s (eqb pin.node i) (weight_at (filter_map (paired_near design s i) pins) p) (own_weight design s i p pins h)

other_step : (s i j : ℕ) (pin : Pin) (pins : List Pin) (rest : ℕ) → j ≢ i → is_at pins pin.node ≡ false → rest ≡ cond (is_at pins j) s 0 → (b : Bool) → eqb pin.node j ≡ b
    → cond (eqb pin.node i) 0 (cond b s 0) + rest ≡ cond (b || is_at pins j) s 0
other_step s i j pin pins rest apart new same true e =
    let elsewhere : eqb pin.node i ≡ false = ne_eqb pin.node i (λ at. apart (sym (eqb-true pin.node j e) ∙ at)) in
    let here : cond (eqb pin.node i) 0 s ≡ s = ap (λ b. cond b 0 s) elsewhere in
    let none : cond (is_at pins j) s 0 ≡ 0 = ap (λ b. cond b s 0) (sym (ap (is_at pins) (eqb-true pin.node j e)) ∙ new) in
    omega (arith, here, none, same)
other_step s i j pin pins rest apart new same false e = omega (arith, zero_either 0 (eqb pin.node i) refl, same)

-- and another one the weight, where a pin is there
pub other_weight : (design : DesignValue) (s i q j : ℕ) (pins : List Pin) → IsNodeOf design.nodes q j → j ≢ i → AreDistinct pins → weight_at (filter_map (paired_near design s i) pins) q ≡ cond (is_at pins j) s 0
other_weight design s i q j [] h apart distinct = refl
other_weight design s i q j (pin ∷ pins) h apart distinct =
    pin_weight design s i q j pin (filter_map (paired_near design s i) pins) h
    ∙ other_step s i j pin pins (weight_at (filter_map (paired_near design s i) pins) q) apart distinct.0 (other_weight design s i q j pins h apart distinct.1) (eqb pin.node j) refl

-- a net gives a point its share, where both of them have a pin
net_by_tests : (design : DesignValue) (net : NetValue) (i q j : ℕ) (s : ℕ) → IsNodeOf design.nodes q j → j ≢ i → (a b : Bool) → eqb s 0 ≡ a
    → weight_at (if a then [] else if b then filter_map (paired_near design s i) (first_pins net.pins) else []) q ≡ cond (b && has_node net j) s 0
net_by_tests design net i q j s h apart true b e = sym (zero_choice (b && has_node net j) (eqb-true s 0 e)) where
  zero_choice : (c : Bool) → s ≡ 0 → cond c s 0 ≡ 0
  zero_choice true none = none
  zero_choice false none = refl
net_by_tests design net i q j s h apart false true e =
    other_weight design s i q j (first_pins net.pins) h apart (distinct_first net.pins) ∙ ap (λ b. cond b s 0) (joined_first net.pins j)
net_by_tests design net i q j s h apart false false e = refl

pub net_weight : (design : DesignValue) (net : NetValue) (i q j : ℕ) → IsNodeOf design.nodes q j → j ≢ i → weight_at (nears_in design i net) q ≡ cond (has_node net i && has_node net j) (share net) 0
net_weight design net i q j h apart = net_by_tests design net i q j (share net) h apart (eqb (share net) 0) (has_node net i) refl

own_by_tests : (design : DesignValue) (net : NetValue) (i p : ℕ) (s : ℕ) → IsNodeOf design.nodes p i → (a b : Bool)
    → weight_at (if a then [] else if b then filter_map (paired_near design s i) (first_pins net.pins) else []) p ≡ 0
own_by_tests design net i p s h true b = refl
own_by_tests design net i p s h false true = own_weight design s i p (first_pins net.pins) h
own_by_tests design net i p s h false false = refl

pub net_own_weight : (design : DesignValue) (net : NetValue) (i p : ℕ) → IsNodeOf design.nodes p i → weight_at (nears_in design i net) p ≡ 0
net_own_weight design net i p h = own_by_tests design net i p (share net) h (eqb (share net) 0) (has_node net i)

-- each pin at another node gives its weight once
pin_bound : (design : DesignValue) (s i : ℕ) (pin : Pin) (near : List Near) (pins : List FixedPin) → is_movable (node_at design i) ≡ true
    → weight_sum (cons_option (paired_near design s i pin) near) + pin_sum (cons_option (paired_pin design s pin) pins) + cond (eqb pin.node i) s 0 ≡ s + (weight_sum near + pin_sum pins)
pin_bound design s i pin near pins movable = by_tests (eqb pin.node i) (is_movable (node_at design pin.node)) refl refl where
  one : Near
  one = record { point = movable_before design.nodes pin.node; weight = s }

  fixed : FixedPin
  fixed = record { weight = s; x = centre_x (node_at design pin.node) +ℤ pin.dx; y = centre_y (node_at design pin.node) +ℤ pin.dy }

  by_tests : (b c : Bool) → eqb pin.node i ≡ b → is_movable (node_at design pin.node) ≡ c
      → weight_sum (cons_option (cond (b || not c) None (Some one)) near) + pin_sum (cons_option (cond c None (Some fixed)) pins) + cond b s 0 ≡ s + (weight_sum near + pin_sum pins)
  by_tests true true e f = omega arith
  by_tests true false e f = absurd (both_ways (is_movable (node_at design pin.node)) f (ap (λ k. is_movable (node_at design k)) (eqb-true pin.node i e) ∙ movable))
  by_tests false true e f = omega (arith, sum_by-cons (λ (n : Near). n.weight) one near)
  by_tests false false e f = omega (arith, sum_by-cons (λ (p : FixedPin). p.weight) fixed pins)

-- so many pins at once, less one at the node itself
bound_step : (s i k : ℕ) (pin : Pin) (pins : List Pin) (all rest : ℕ) → all + cond (eqb pin.node i) s 0 ≡ s + rest → rest + cond (is_at pins i) s 0 ≤ k → all + cond (eqb pin.node i || is_at pins i) s 0 ≤ s + k
bound_step s i k pin pins all rest = by_test (eqb pin.node i) where
  by_test : (b : Bool) → all + cond b s 0 ≡ s + rest → rest + cond (is_at pins i) s 0 ≤ k → all + cond (b || is_at pins i) s 0 ≤ s + k
  by_test true e h = omega arith
  by_test false e h = omega arith

pub pins_bound : (design : DesignValue) (s i : ℕ) (pins : List Pin) → is_movable (node_at design i) ≡ true
    → weight_sum (filter_map (paired_near design s i) pins) + pin_sum (filter_map (paired_pin design s) pins) + cond (is_at pins i) s 0 ≤ length pins * s
pins_bound design s i [] movable = omega arith
pins_bound design s i (pin ∷ pins) movable =
    let near = filter_map (paired_near design s i) pins in
    let fixed = filter_map (paired_pin design s) pins in
    let step = bound_step s i (length pins * s) pin pins (weight_sum (filter_map (paired_near design s i) (pin ∷ pins)) + pin_sum (filter_map (paired_pin design s) (pin ∷ pins))) (weight_sum near + pin_sum fixed) (pin_bound design s i pin near fixed movable) (pins_bound design s i pins movable) in
    omega (arith, step, suc-mul (length pins) s)

-- the shares of all but one of so many nodes
share_bound : (b : Bool) (d w : ℕ) → (d - 1) * (if b then NET_WEIGHT * w / (d - 1) else 0) ≤ NET_WEIGHT * w
share_bound true d w = mul-div-le (NET_WEIGHT * w) (d - 1)
share_bound false d w = omega arith

all_but_one : (d s all : ℕ) → all + s ≤ d * s → all ≤ (d - 1) * s
all_but_one zero s all h = omega arith
all_but_one (suc d) s all h = let e : suc d - 1 ≡ d = omega arith in omega (arith, suc-mul d s, ap (λ k. k * s) e)

bound_by_tests : (design : DesignValue) (net : NetValue) (i : ℕ) (s : ℕ) → is_movable (node_at design i) ≡ true → (a b : Bool) → has_node net i ≡ b
    → weight_sum (if a then [] else if b then filter_map (paired_near design s i) (first_pins net.pins) else []) + pin_sum (if a then [] else if b then filter_map (paired_pin design s) (first_pins net.pins) else [])
    ≤ (length (first_pins net.pins) - 1) * s
bound_by_tests design net i s movable true b e = omega arith
bound_by_tests design net i s movable false true e =
    let first = first_pins net.pins in
    let all = weight_sum (filter_map (paired_near design s i) first) + pin_sum (filter_map (paired_pin design s) first) in
    let own : cond (is_at first i) s 0 ≡ s = ap (λ b. cond b s 0) (joined_first net.pins i ∙ e) in
    all_but_one (length first) s all (omega (arith, pins_bound design s i first movable, own))
bound_by_tests design net i s movable false false e = omega arith

-- what a net gives a point, as neighbours and as fixed pins
pub net_bound : (design : DesignValue) (net : NetValue) (i : ℕ) → is_movable (node_at design i) ≡ true → weight_sum (nears_in design i net) + pin_sum (pins_in design i net) ≤ NET_WEIGHT * net.weight
net_bound design net i movable =
    omega (arith, bound_by_tests design net i (share net) movable (eqb (share net) 0) (has_node net i) refl, share_bound (is_clique net) (degree net) net.weight)
