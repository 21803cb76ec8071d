-- What spokes weigh, and what they give: a node one for each star that has it, and a star point one for each of its nodes.
use Rattle.std.proofs.Common.{◌≡◌, ◌⊎◌, ℕ, zero, suc, ◌+◌, ◌-◌, ◌*◌, ◌/◌, ◌<◌, ◌≤◌, Bool, true, false, not, ◌&&◌, ◌||◌, cond, eqb, ltb, List, [], ◌∷◌, length, refl, sym, ◌∙◌, ap, subst, inl, inr, arith}
use Rattle.std.specs.Prelude.{None, Some, if◌then◌else◌, All, slice_index}
use Rattle.std.specs.List.{filter_map, range_with_len, cons_option}
use Rattle.std.proofs.Math.Nat.{mul-suc, suc-mul, div-le_self, mul-add-div_right}
use Rattle.std.proofs.lemmas.Bool.{ltb-true, eqb-true, eq-eqb, ne_eqb, and_parts, both_ways, cases_eq}
use Rattle.std.proofs.lemmas.List.{get_or_past}
use Rattle.std.proofs.lemmas.List.Elements.{All-nil, All-cons, All-head, All-tail, All-get_or, All-from_recursion}
use Rattle.std.proofs.lemmas.List.Sums.{sum_by-cons, get_or-le-sum_by}
use Rattle.book_design.specs.declared.rules.TheConstants.{MOST_NET_WEIGHT, MOST_PINS}
use Rattle.book_design.specs.declared.parts.Pin.{Pin}
use Rattle.book_design.specs.Values.{NetValue, DesignValue}
use Rattle.book_design.specs.Points.{is_movable, movable_before}
use Rattle.book_design.specs.WellFormed.{IsDesign, IsGoodNet}
use Rattle.net_model.specs.declared.limits.TheConstants.{NET_WEIGHT, MOST_CLIQUE}
use Rattle.net_model.specs.declared.parts.Near.{Near}
use Rattle.net_model.specs.declared.parts.FixedPin.{FixedPin}
use Rattle.net_model.specs.Clique.{first_pins, degree, has_node}
use Rattle.net_model.specs.Numbered.{node_at, node_of, point_nodes}
use Rattle.net_model.specs.Star.{has_movable, spoke, spoke_weight, star_net, star_nets}
use Rattle.net_model.specs.Forms.Joining.{fixed_pin, paired_near, paired_pin}
use Rattle.net_model.specs.Forms.Stars.{spoked_near, as_spoke}
use Rattle.net_model.specs.Forms.Steps.{weight_at, IsEntry}
use Rattle.net_model.proofs.Movable.{no_node}
use Rattle.net_model.proofs.CountingTerms.{no_net, few_first}
use Rattle.net_model.proofs.CliqueNodes.{distinct_first, joined_first}
use Rattle.net_model.proofs.MergingSums.{weight_sum, weight_for, weight_at-cons}
use Rattle.net_model.proofs.MakingNets.{pin_sum, node_of_point, zero_either, other_weight}
use Rattle.net_model.proofs.MakingEntries.{pins_entries}
use Rattle.net_model.proofs.StarNets.{star_net_wide}

-- the greatest weight of a spoke
abbrev pub MOST_SPOKE : ℕ
MOST_SPOKE = 2 * (NET_WEIGHT * MOST_NET_WEIGHT)

-- ---- what a spoke weighs

spoke_split : (n d : ℕ) → 1 < d → n * d / (d - 1) ≡ n + n / (d - 1)
spoke_split n zero h = absurd (omega arith)
spoke_split n (suc c) h =
    let less : suc c - 1 ≡ c = omega arith in
    ap (λ k. n * suc c / k) less ∙ ap (λ k. k / c) (mul-suc n c) ∙ mul-add-div_right (above c h) n n ∙ ap (λ k. n + n / k) (sym less) where
      above : (k : ℕ) → 1 < suc k → zero < k
      above k h = omega arith

-- A wide net has few pins, and its spoke weighs something, and at most twice what the net does.
pub record IsGoodStar (net : NetValue) : Type 0 where
  pub positive : 1 ≤ spoke net
  pub light : spoke net ≤ MOST_SPOKE
  pub few : length (first_pins net.pins) ≤ MOST_PINS

pub good_star : (design : DesignValue) (s : ℕ) → IsDesign design → s < length (star_nets design) → IsGoodStar (star_net design s)
good_star design s h inside =
    let net = star_net design s in
    let n = slice_index (star_nets design) s in
    let there = star_net_wide design s inside in
    let wide = and_parts (ltb MOST_CLIQUE (degree net)) (ltb 0 net.weight && has_movable design net) there.1 in
    let more = ltb-true MOST_CLIQUE (degree net) wide.0 in
    let some = ltb-true 0 net.weight (and_parts (ltb 0 net.weight) (has_movable design net) wide.1).0 in
    let good : IsGoodNet (length design.nodes) net = All-get_or (IsGoodNet (length design.nodes)) design.nets n no_net there.0 (All-from_recursion (IsGoodNet (length design.nodes)) design.nets h.nets) in
    let split = spoke_split (NET_WEIGHT * net.weight) (degree net) (omega arith) in
    let part = div-le_self (NET_WEIGHT * net.weight) (degree net - 1) in
    let pins = get_or-le-sum_by (λ (v : NetValue). length v.pins) design.nets n no_net there.0 in
    record {
      positive = omega (arith, split, some);
      light = omega (arith, split, part, good.weight);
      few = omega (arith, few_first net.pins, pins, h.few_pins);
    }

-- ---- what the entries of points before some place give the others

pub none_past : (near : List Near) (n q : ℕ) → All (IsEntry n) near → n ≤ q → weight_at near q ≡ 0
none_past [] n q all past = refl
none_past (entry ∷ near) n q all past =
    let first = All-head (IsEntry n) entry near all in
    let here : weight_for q entry ≡ 0 = ap (λ b. cond b entry.weight 0) (ne_eqb entry.point q (λ same. absurd (omega (arith, first.there)))) in
    omega (arith, weight_at-cons entry near q, here, none_past near n q (All-tail (IsEntry n) entry near all) past)

-- ---- the spokes of a node

-- a star gives its point the weight of its spoke, where it has the node
one_spoke : (design : DesignValue) (i s q : ℕ) (rest : List Near) → weight_at (cons_option (as_spoke design i s) rest) q ≡ cond (eqb (length (point_nodes design) + s) q) (spoke_weight (star_net design s) i) 0 + weight_at rest q
one_spoke design i s q rest = by_test (has_node (star_net design s) i) where
  near : Near
  near = record { point = length (point_nodes design) + s; weight = spoke (star_net design s) }

  by_test : (b : Bool) → weight_at (cons_option (if b then Some near else None) rest) q ≡ cond (eqb (length (point_nodes design) + s) q) (if b then spoke (star_net design s) else 0) 0 + weight_at rest q
  by_test true = weight_at-cons near rest q
  by_test false = omega (arith, zero_either 0 (eqb (length (point_nodes design) + s) q) refl)

-- nothing to the points before the stars
pub spokes_before : (design : DesignValue) (i q a n : ℕ) → q < length (point_nodes design) + a → weight_at (filter_map (as_spoke design i) (range_with_len a n)) q ≡ 0
spokes_before design i q a zero before = refl
spokes_before design i q a (suc n) before =
    let rest = filter_map (as_spoke design i) (range_with_len (a + 1) n) in
    let here = ap (λ b. cond b (spoke_weight (star_net design a) i) 0) (ne_eqb (length (point_nodes design) + a) q (λ same. absurd (omega arith))) in
    omega (arith, one_spoke design i a q rest, here, spokes_before design i q (a + 1) n (omega arith))

pub spokes_at : (design : DesignValue) (i s a n : ℕ) → a ≤ s → s < a + n → weight_at (filter_map (as_spoke design i) (range_with_len a n)) (length (point_nodes design) + s) ≡ spoke_weight (star_net design s) i
spokes_at design i s a zero from below = absurd (omega arith)
spokes_at design i s a (suc n) from below =
    one_spoke design i a (length (point_nodes design) + s) (filter_map (as_spoke design i) (range_with_len (a + 1) n))
    ∙ by_cases (λ later. spokes_at design i s (a + 1) n later (omega arith)) (cases_eq a s) where
      given : ℕ
      given = weight_at (filter_map (as_spoke design i) (range_with_len (a + 1) n)) (length (point_nodes design) + s)

      by_cases : (a + 1 ≤ s → given ≡ spoke_weight (star_net design s) i) → (a ≡ s) ⊎ (a ≡ s → ⊥)
          → cond (eqb (length (point_nodes design) + a) (length (point_nodes design) + s)) (spoke_weight (star_net design a) i) 0 + given ≡ spoke_weight (star_net design s) i
      by_cases rest (inl same) =
          let here = ap (λ b. cond b (spoke_weight (star_net design a) i) 0) (eq-eqb (length (point_nodes design) + a) (length (point_nodes design) + s) (omega arith)) in
          omega (arith, here, ap (λ k. spoke_weight (star_net design k) i) same, spokes_before design i (length (point_nodes design) + s) (a + 1) n (omega arith))
      by_cases rest (inr other) =
          let here = ap (λ b. cond b (spoke_weight (star_net design a) i) 0) (ne_eqb (length (point_nodes design) + a) (length (point_nodes design) + s) (λ same. other (omega arith))) in
          omega (arith, here, rest (grind arith))

-- what they weigh together, and that they are entries
spoke_fits : (points weight most : ℕ) (near : Near) (rest : List Near) (b : Bool) → near.point < points → (1 ≤ near.weight) × (near.weight ≤ most) → All (IsEntry points) rest × (weight_sum rest ≤ weight)
    → All (IsEntry points) (cons_option (if b then Some near else None) rest) × (weight_sum (cons_option (if b then Some near else None) rest) ≤ most + weight)
spoke_fits points weight most near rest true there good h =
    (All-cons (IsEntry points) near rest (record { there = there; positive = good.0 }) h.0, omega (arith, sum_by-cons (λ (entry : Near). entry.weight) near rest, good.1, h.1))
spoke_fits points weight most near rest false there good h = (h.0, omega (arith, h.1))

pub spokes_fit : (design : DesignValue) (i a n : ℕ) → IsDesign design → a + n ≤ length (star_nets design)
    → All (IsEntry (length (point_nodes design) + length (star_nets design))) (filter_map (as_spoke design i) (range_with_len a n)) × (weight_sum (filter_map (as_spoke design i) (range_with_len a n)) ≤ n * MOST_SPOKE)
spokes_fit design i a zero h inside = (All-nil (IsEntry (length (point_nodes design) + length (star_nets design))), omega arith)
spokes_fit design i a (suc n) h inside =
    let star = good_star design a h (omega arith) in
    let near : Near = record { point = length (point_nodes design) + a; weight = spoke (star_net design a) } in
    let all = spoke_fits (length (point_nodes design) + length (star_nets design)) (n * MOST_SPOKE) MOST_SPOKE near (filter_map (as_spoke design i) (range_with_len (a + 1) n)) (has_node (star_net design a) i) (omega arith) (star.positive, star.light) (spokes_fit design i (a + 1) n h (omega arith)) in
    (all.0, omega (arith, all.1))

-- ---- the spokes of a star point

-- They are the pairs of a fixed node without a pin, such as the one past the end.
spoked_is_paired : (design : DesignValue) (weight : ℕ) (pins : List Pin) → filter_map (spoked_near design weight) pins ≡ filter_map (paired_near design weight (length design.nodes)) pins
spoked_is_paired design weight [] = refl
spoked_is_paired design weight (pin ∷ pins) =
    let all = filter_map (paired_near design weight (length design.nodes)) pins in
    ap (cons_option (spoked_near design weight pin)) (spoked_is_paired design weight pins) ∙ ap (λ o. cons_option o all) (by_tests (eqb pin.node (length design.nodes)) (is_movable (node_at design pin.node)) refl refl) where
      near : Near
      near = record { point = movable_before design.nodes pin.node; weight = weight }

      past : is_movable (node_at design (length design.nodes)) ≡ false
      past = ap is_movable (get_or_past design.nodes (length design.nodes) no_node (omega arith))

      by_tests : (b c : Bool) → eqb pin.node (length design.nodes) ≡ b → is_movable (node_at design pin.node) ≡ c → cond c (Some near) None ≡ cond (b || not c) None (Some near)
      by_tests true true e f = absurd (both_ways (is_movable (node_at design pin.node)) (ap (λ k. is_movable (node_at design k)) (eqb-true pin.node (length design.nodes) e) ∙ past) f)
      by_tests true false e f = refl
      by_tests false true e f = refl
      by_tests false false e f = refl

-- the weight of a spoke to each node of the net, and nothing to the others
pub star_weight : (design : DesignValue) (net : NetValue) (weight q : ℕ) → q < length (point_nodes design)
    → weight_at (filter_map (spoked_near design weight) (first_pins net.pins)) q ≡ cond (has_node net (node_of design q)) weight 0
star_weight design net weight q inside =
    let own = node_of_point design q inside in
    let end = length design.nodes in
    ap (λ near. weight_at near q) (spoked_is_paired design weight (first_pins net.pins))
    ∙ other_weight design weight end q (node_of design q) (first_pins net.pins) own (λ same. absurd (omega (arith, own.there))) (distinct_first net.pins)
    ∙ ap (λ b. cond b weight 0) (joined_first net.pins (node_of design q))

pub star_entries : (design : DesignValue) (weight : ℕ) (pins : List Pin) → 1 ≤ weight → All (IsEntry (length (point_nodes design))) (filter_map (spoked_near design weight) pins)
star_entries design weight pins positive =
    let P : List Near → Type 0 = All (IsEntry (length (point_nodes design))) in
    subst P (sym (spoked_is_paired design weight pins)) (pins_entries design weight (length design.nodes) pins positive)

-- each pin gives the star point one spoke, to a node's point or as a fixed pin
one_of_star : (weight : ℕ) (one : Near) (fixed : FixedPin) (nears : List Near) (fixeds : List FixedPin) (k : ℕ) (c : Bool) → one.weight ≡ weight → fixed.weight ≡ weight → weight_sum nears + pin_sum fixeds ≡ k * weight
    → weight_sum (cons_option (if c then Some one else None) nears) + pin_sum (cons_option (if c then None else Some fixed) fixeds) ≡ suc k * weight
one_of_star weight one fixed nears fixeds k true near pin rest = omega (arith, sum_by-cons (λ (n : Near). n.weight) one nears, suc-mul k weight)
one_of_star weight one fixed nears fixeds k false near pin rest = omega (arith, sum_by-cons (λ (p : FixedPin). p.weight) fixed fixeds, suc-mul k weight)

pub star_sum : (design : DesignValue) (weight : ℕ) (pins : List Pin) → weight_sum (filter_map (spoked_near design weight) pins) + pin_sum (filter_map (paired_pin design weight) pins) ≡ length pins * weight
star_sum design weight [] = omega arith
star_sum design weight (pin ∷ pins) =
    one_of_star weight (record { point = movable_before design.nodes pin.node; weight = weight }) (fixed_pin weight (node_at design pin.node) pin) (filter_map (spoked_near design weight) pins) (filter_map (paired_pin design weight) pins) (length pins) (is_movable (node_at design pin.node))
    refl refl (star_sum design weight pins)
