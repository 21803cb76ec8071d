-- The points before the sums of their entries, each what its cliques and its spokes give it: the sums are the network's points.
use Rattle.std.proofs.Common.{◌≡◌, ◌⊎◌, ℕ, ◌+◌, ◌-◌, ◌^◌, ◌<◌, ◌≤◌, Bool, true, false, not, cond, eqb, List, length, refl, sym, ◌∙◌, ap, subst, inl, inr, arith}
use Rattle.std.specs.Prelude.{if◌then◌else◌, All}
use Rattle.std.specs.List.{filter_map, range_with_len}
use Rattle.std.proofs.lemmas.Bool.{lt-ltb, le-ltb, ne_eqb, cases_lt}
use Rattle.std.proofs.lemmas.List.Elements.{All-append, All-weaker}
use Rattle.std.proofs.lemmas.List.Sums.{sum_by-append}
use Rattle.std.proofs.lemmas.Nat.{mul-le}
use Rattle.book_design.specs.declared.rules.TheConstants.{MOST_PINS}
use Rattle.book_design.specs.Values.{NetValue, DesignValue}
use Rattle.book_design.specs.Points.{site_count}
use Rattle.book_design.specs.WellFormed.{IsDesign}
use Rattle.net_model.specs.declared.parts.Near.{Near}
use Rattle.net_model.specs.declared.parts.FixedPin.{FixedPin}
use Rattle.net_model.specs.Clique.{first_pins}
use Rattle.net_model.specs.Network.{point_count, is_star, net_of_star, pair_weight, weight_of, fixed_in, pins_of, area_of, point_value, total_weight}
use Rattle.net_model.specs.Numbered.{node_at, node_of, point_nodes}
use Rattle.net_model.specs.Star.{spoke, spoke_weight, star_nets}
use Rattle.net_model.specs.Forms.Stars.{star_point, as_spoke, with_spokes, spoked_near, AreStarred}
use Rattle.net_model.specs.Forms.Steps.{nears_by, pins_by, weight_at, AreJoined, IsEntry, IsUnsummed, summed}
use Rattle.net_model.specs.Values.{PointValue, point_at}
use Rattle.net_model.proofs.MergingSums.{weight_sum, weight_at-append, weight_sum-as_sum}
use Rattle.net_model.proofs.MakingNets.{pin_sum, node_of_point, zero_either}
use Rattle.net_model.proofs.MakingEntries.{point_weight, sums_are_near, nears_entries, all_fit}
use Rattle.net_model.proofs.StarringNets.{few_stars}
use Rattle.net_model.proofs.StarWeights.{MOST_SPOKE, good_star, none_past, spokes_before, spokes_at, spokes_fit, star_weight, star_entries, star_sum}

-- the point of a node: what its cliques give it, and its spokes
abbrev pub unsummed_node : DesignValue → ℕ → PointValue
unsummed_node design i = with_spokes design (length (star_nets design)) i (record {
  near = nears_by design design.nets i;
  pins = pins_by design design.nets i;
  area = site_count (node_at design i).width design.pitch;
})

-- the star point of a net
abbrev pub unsummed_star : DesignValue → NetValue → PointValue
unsummed_star design net = star_point design (spoke net) (first_pins net.pins)

abbrev pub unsummed_at : DesignValue → ℕ → PointValue
unsummed_at design p = if is_star design p then unsummed_star design (net_of_star design p) else unsummed_node design (node_of design p)

-- ---- points that are nodes, and points that are stars

-- the tests in a point's weight, its pins and its area
abbrev pub weight_by_tests : DesignValue → ℕ → ℕ → Bool → Bool → ℕ
weight_by_tests design p q a b = if a then (if b then 0 else spoke_weight (net_of_star design p) (node_of design q))
    else if b then spoke_weight (net_of_star design q) (node_of design p)
    else pair_weight design (node_of design p) (node_of design q)

pub no_star : (design : DesignValue) (p : ℕ) → p < length (point_nodes design) → is_star design p ≡ false
no_star design p h = ap not (lt-ltb p (length (point_nodes design)) h)

pub a_star : (design : DesignValue) (p : ℕ) → length (point_nodes design) ≤ p → is_star design p ≡ true
a_star design p h = ap not (le-ltb p (length (point_nodes design)) h)

pub weight_is : (design : DesignValue) (p q : ℕ) (a b : Bool) → is_star design p ≡ a → is_star design q ≡ b → weight_of design p q ≡ weight_by_tests design p q a b
weight_is design p q a b e f = ap (λ t. weight_by_tests design p q t (is_star design q)) e ∙ ap (weight_by_tests design p q a) f

abbrev pins_by_test : DesignValue → ℕ → Bool → List FixedPin
pins_by_test design p a = if a then fixed_in design (spoke (net_of_star design p)) (net_of_star design p) else pins_by design design.nets (node_of design p)

abbrev area_by_test : DesignValue → ℕ → Bool → ℕ
area_by_test design p a = if a then 0 else site_count (node_at design (node_of design p)).width design.pitch

-- A point before the sums of its entries: they give each other point its weight, and the point itself nothing, and they fit together.
pub record AddsUp (design : DesignValue) (p : ℕ) (point : PointValue) : Type 0 where
  pub weights : (q : ℕ) → q < point_count design → weight_at point.near q ≡ cond (eqb q p) 0 (weight_of design p q)
  pub entries : All (IsEntry (point_count design)) point.near
  pub light : total_weight point < 2 ^ 64
  pub pins : point.pins ≡ pins_of design p
  pub area : point.area ≡ area_of design p

more_entries : (m n : ℕ) (near : List Near) → m ≤ n → All (IsEntry m) near → All (IsEntry n) near
more_entries m n near h all = All-weaker (IsEntry m) (IsEntry n) (λ entry good. record { there = omega (arith, good.there); positive = good.positive }) near all

-- ---- the points of nodes

node_weights : (design : DesignValue) (p q : ℕ) → p < length (point_nodes design) → q < point_count design
    → weight_at (unsummed_node design (node_of design p)).near q ≡ cond (eqb q p) 0 (weight_of design p q)
node_weights design p q hp hq =
    weight_at-append (nears_by design design.nets (node_of design p)) spokes q ∙ by_cases (cases_lt q (length (point_nodes design))) where
      spokes : List Near
      spokes = filter_map (as_spoke design (node_of design p)) (range_with_len 0 (length (star_nets design)))

      by_cases : (q < length (point_nodes design)) ⊎ (length (point_nodes design) ≤ q) → weight_at (nears_by design design.nets (node_of design p)) q + weight_at spokes q ≡ cond (eqb q p) 0 (weight_of design p q)
      by_cases (inl node) =
          let none = spokes_before design (node_of design p) q 0 (length (star_nets design)) (omega arith) in
          let pair = ap (cond (eqb q p) 0) (weight_is design p q false false (no_star design p hp) (no_star design q node)) in
          omega (arith, none, pair, point_weight design p q hp node (eqb q p) refl)
      by_cases (inr star) =
          let s = q - length (point_nodes design) in
          let none = none_past (nears_by design design.nets (node_of design p)) (length (point_nodes design)) q (nears_entries design design.nets (node_of design p)) star in
          let at : length (point_nodes design) + s ≡ q = omega arith in
          let given = ap (weight_at spokes) (sym at) ∙ spokes_at design (node_of design p) s 0 (length (star_nets design)) (omega arith) (omega arith) in
          let other = ap (λ b. cond b 0 (weight_of design p q)) (ne_eqb q p (λ same. absurd (omega arith))) in
          omega (arith, none, given, other, weight_is design p q false true (no_star design p hp) (a_star design q star))

node_adds_up : (design : DesignValue) (p : ℕ) → IsDesign design → p < length (point_nodes design) → AddsUp design p (unsummed_node design (node_of design p))
node_adds_up design p h inside =
    let i = node_of design p in
    let stars = length (star_nets design) in
    let nears = nears_by design design.nets i in
    let spokes = filter_map (as_spoke design i) (range_with_len 0 stars) in
    let fit = spokes_fit design i 0 stars h (omega arith) in
    record {
      weights = λ q there. node_weights design p q inside there;
      entries = All-append (IsEntry (point_count design)) nears spokes (more_entries (length (point_nodes design)) (point_count design) nears (omega arith) (nears_entries design design.nets i)) fit.0;
      light = omega (arith, sum_by-append (λ (entry : Near). entry.weight) nears spokes, fit.1, few_stars design h, all_fit design i h (node_of_point design p inside).movable);
      pins = ap (pins_by_test design p) (sym (no_star design p inside));
      area = ap (area_by_test design p) (sym (no_star design p inside));
    }

-- ---- the star points

star_weights : (design : DesignValue) (p q : ℕ) → IsDesign design → length (point_nodes design) ≤ p → p < point_count design → q < point_count design
    → weight_at (unsummed_star design (net_of_star design p)).near q ≡ cond (eqb q p) 0 (weight_of design p q)
star_weights design p q h hp inside hq = by_cases (cases_lt q (length (point_nodes design))) where
  net : NetValue
  net = net_of_star design p

  positive : 1 ≤ spoke net
  positive = (good_star design (p - length (point_nodes design)) h (omega arith)).positive

  by_cases : (q < length (point_nodes design)) ⊎ (length (point_nodes design) ≤ q) → weight_at (filter_map (spoked_near design (spoke net)) (first_pins net.pins)) q ≡ cond (eqb q p) 0 (weight_of design p q)
  by_cases (inl node) =
      let other = ap (λ b. cond b 0 (weight_of design p q)) (ne_eqb q p (λ same. absurd (omega arith))) in
      star_weight design net (spoke net) q node ∙ sym (weight_is design p q true false (a_star design p hp) (no_star design q node)) ∙ sym other
  by_cases (inr star) =
      let none = none_past (filter_map (spoked_near design (spoke net)) (first_pins net.pins)) (length (point_nodes design)) q (star_entries design (spoke net) (first_pins net.pins) positive) star in
      none ∙ sym (zero_either 0 (eqb q p) refl) ∙ sym (ap (cond (eqb q p) 0) (weight_is design p q true true (a_star design p hp) (a_star design q star)))

star_adds_up : (design : DesignValue) (p : ℕ) → IsDesign design → length (point_nodes design) ≤ p → p < point_count design → AddsUp design p (unsummed_star design (net_of_star design p))
star_adds_up design p h past inside =
    let net = net_of_star design p in
    let star = good_star design (p - length (point_nodes design)) h (omega arith) in
    let first = first_pins net.pins in
    record {
      weights = λ q there. star_weights design p q h past inside there;
      entries = more_entries (length (point_nodes design)) (point_count design) (filter_map (spoked_near design (spoke net)) first) (omega arith) (star_entries design (spoke net) first star.positive);
      light = omega (arith, star_sum design (spoke net) first, mul-le (length first) (spoke net) MOST_PINS MOST_SPOKE star.few star.light);
      pins = ap (pins_by_test design p) (sym (a_star design p past));
      area = ap (area_by_test design p) (sym (a_star design p past));
    }

-- ---- all points

abbrev unsummed_by_test : DesignValue → ℕ → Bool → PointValue
unsummed_by_test design p a = if a then unsummed_star design (net_of_star design p) else unsummed_node design (node_of design p)

adds_up : (design : DesignValue) (p : ℕ) → IsDesign design → p < point_count design → AddsUp design p (unsummed_at design p)
adds_up design p h inside = by_cases (cases_lt p (length (point_nodes design))) where
  P : PointValue → Type 0
  P = AddsUp design p

  by_cases : (p < length (point_nodes design)) ⊎ (length (point_nodes design) ≤ p) → P (unsummed_at design p)
  by_cases (inl node) = subst P (ap (unsummed_by_test design p) (sym (no_star design p node))) (node_adds_up design p h node)
  by_cases (inr star) = subst P (ap (unsummed_by_test design p) (sym (a_star design p star))) (star_adds_up design p h star inside)

pub is_unsummed : (design : DesignValue) (p : ℕ) → IsDesign design → p < point_count design → IsUnsummed (point_count design) (unsummed_at design p)
is_unsummed design p h inside = let sums = adds_up design p h inside in record { near = sums.entries; light = sums.light }

abbrev made : List Near → List FixedPin → ℕ → PointValue
made near pins area = record { near = near; pins = pins; area = area }

same_point : {m n : List Near} {p q : List FixedPin} {a b : ℕ} → m ≡ n → p ≡ q → a ≡ b → made m p a ≡ made n q b
same_point e f g = cc

-- its sums are the network's point
pub sums_to_value : (design : DesignValue) (p : ℕ) → IsDesign design → p < point_count design → summed (point_count design) (unsummed_at design p) ≡ point_value design p
sums_to_value design p h inside =
    let sums = adds_up design p h inside in
    same_point (sums_are_near design p (unsummed_at design p).near sums.weights) sums.pins sums.area

-- and weighs what the entries do
pub point_light : (design : DesignValue) (p : ℕ) → IsDesign design → p < point_count design → total_weight (point_value design p) < 2 ^ 64
point_light design p h inside =
    let sums = adds_up design p h inside in
    let near = (unsummed_at design p).near in
    let n = point_count design in
    let there = All-weaker (IsEntry n) (λ entry. entry.point < n) (λ entry good. good.there) near sums.entries in
    omega (arith, ap weight_sum (sums_are_near design p near sums.weights), weight_sum-as_sum near n there, ap pin_sum sums.pins, sums.light)

-- what the cliques and the stars give
pub unsummed_here : (design : DesignValue) (old new : List PointValue) (p : ℕ) → AreJoined design design.nets old → AreStarred design old new → p < point_count design → point_at new p ≡ unsummed_at design p
unsummed_here design old new p joined starred inside = by_cases (cases_lt p (length (point_nodes design))) where
  by_cases : (p < length (point_nodes design)) ⊎ (length (point_nodes design) ≤ p) → point_at new p ≡ unsummed_at design p
  by_cases (inl node) =
      let own = joined.each p node in
      let same : point_at old p ≡ made (nears_by design design.nets (node_of design p)) (pins_by design design.nets (node_of design p)) (site_count (node_at design (node_of design p)).width design.pitch) = same_point own.near own.pins own.area in
      starred.nodes p node ∙ ap (with_spokes design (length (star_nets design)) (node_of design p)) same ∙ ap (unsummed_by_test design p) (sym (no_star design p node))
  by_cases (inr star) =
      let at : length (point_nodes design) + (p - length (point_nodes design)) ≡ p = omega arith in
      ap (point_at new) (sym at) ∙ starred.stars (p - length (point_nodes design)) (omega arith) ∙ ap (unsummed_by_test design p) (sym (a_star design p star))
