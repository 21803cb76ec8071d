-- A star point that reaches no pad has a movable neighbour before it that reaches none.
use Rattle.std.proofs.Common.{◌≡◌, ◌⊎◌, inl, inr, ℕ, zero, suc, ◌+◌, ◌-◌, ◌<◌, ◌≤◌, Bool, true, false, ◌||◌, cond, eqb, List, ◌∷◌, length, map, refl, sym, ◌∙◌, ap, subst, arith}
use Rattle.std.specs.Prelude.{◌==◌, Option, None, Some, Contains}
use Rattle.std.specs.List.{filter_map, range_with_len, cons_option}
use Rattle.std.proofs.lemmas.Bool.{and_parts, cases_eq, cases_lt, both_ways, ne_eqb, eq-eqb}
use Rattle.std.proofs.lemmas.List.{get_or-map, length-map}
use Rattle.std.proofs.lemmas.List.Folds.{Any-from_list_any, list_any_at}
use Rattle.book_design.specs.declared.parts.Pin.{Pin}
use Rattle.book_design.specs.Values.{DesignValue}
use Rattle.book_design.specs.Points.{is_movable, movable_before}
use Rattle.book_design.specs.WellFormed.{IsDesign}
use Rattle.pad_reach.specs.Chain.{Joint, no_joint, joint_at, IsNeighbour}
use Rattle.pad_reach.specs.Reaches.{IsFirstUnanchored}
use Rattle.net_model.specs.declared.parts.Near.{Near}
use Rattle.net_model.specs.Clique.{has_node}
use Rattle.net_model.specs.Network.{point_count, net_of_star, weight_of, as_near, near_of, point_value, network_of}
use Rattle.net_model.specs.Numbered.{node_at, node_of, point_nodes}
use Rattle.net_model.specs.Star.{has_movable, spoke, spoke_weight, star_net, star_nets}
use Rattle.net_model.specs.Webs.{joint_of, joints_of}
use Rattle.net_model.proofs.Movable.{stands_at_point}
use Rattle.net_model.proofs.MakingNets.{movable_there}
use Rattle.net_model.proofs.MakingPoints.{no_point}
use Rattle.net_model.proofs.MakingStars.{no_star, a_star, weight_is}
use Rattle.net_model.proofs.MakingWell.{network_point, network_points}
use Rattle.net_model.proofs.StarNets.{star_net_wide}
use Rattle.net_model.proofs.StarWeights.{good_star}

abbrev numbers : List Near → List ℕ
numbers near = map (λ n. n.point) near

-- ---- a point whose weight isn't 0 is among the neighbours

behind : (o : Option Near) (rest : List Near) (q : ℕ) → Contains (numbers rest) q → Contains (numbers (cons_option o rest)) q
behind None rest q h = h
behind (Some near) rest q h = (suc h.0, omega (arith, h.1), h.2)

in_front : (o : Option Near) (near : Near) (rest : List Near) → o ≡ Some near → Contains (numbers (cons_option o rest)) near.point
in_front o near rest e =
    let P : Option Near → Type 0 = λ o. Contains (numbers (cons_option o rest)) near.point in
    subst P (sym e) (0, omega arith, refl)

not_equal : (a q : ℕ) → a ≤ q → (a ≡ q → ⊥) → a + 1 ≤ q
not_equal a q low other = by_order (cases_lt a q) where
  by_order : (a < q) ⊎ (q ≤ a) → a + 1 ≤ q
  by_order (inl less) = omega arith
  by_order (inr more) = absurd (other (omega arith))

near_has : (design : DesignValue) (p a n : ℕ) (near : Near) → as_near design p near.point ≡ Some near → a ≤ near.point → near.point < a + n
    → Contains (numbers (filter_map (as_near design p) (range_with_len a n))) near.point
near_has design p a zero near e low high = absurd (omega arith)
near_has design p a (suc n) near e low high =
    by_place (cases_eq a near.point) (λ more. near_has design p (a + 1) n near e more (omega arith)) where
      rest : List Near
      rest = filter_map (as_near design p) (range_with_len (a + 1) n)

      by_place : (a ≡ near.point) ⊎ (a ≡ near.point → ⊥) → (a + 1 ≤ near.point → Contains (numbers rest) near.point)
          → Contains (numbers (cons_option (as_near design p a) rest)) near.point
      by_place (inl same) later = in_front (as_near design p a) near rest (ap (as_near design p) same ∙ e)
      by_place (inr other) later = behind (as_near design p a) rest near.point (later (not_equal a near.point low other))

abbrev some_near : ℕ → ℕ → Option Near
some_near q weight = Some (record { point = q; weight = weight })

as_some : (q weight : ℕ) (b c : Bool) → b ≡ false → c ≡ false → cond (b || c) None (some_near q weight) ≡ some_near q weight
as_some q weight true c e f = absurd (both_ways true e refl)
as_some q weight false true e f = absurd (both_ways true f refl)
as_some q weight false false e f = refl

heavy_near : (design : DesignValue) (p q : ℕ) → q < point_count design → (q ≡ p → ⊥) → 1 ≤ weight_of design p q → Contains (numbers (near_of design p)) q
heavy_near design p q there other some =
    near_has design p 0 (point_count design) (record { point = q; weight = weight_of design p q })
    (as_some q (weight_of design p q) (eqb q p) (eqb (weight_of design p q) 0) (ne_eqb q p other) (ne_eqb (weight_of design p q) 0 (λ e. omega (arith, e)))) (omega arith) (omega arith)

-- ---- the weight of a spoke

-- a star point and a movable node of its net
spoke_some : (design : DesignValue) (s q : ℕ) → IsDesign design → s < length (star_nets design) → q < length (point_nodes design)
    → has_node (star_net design s) (node_of design q) ≡ true → 1 ≤ weight_of design (length (point_nodes design) + s) q
spoke_some design s q h inside there has =
    let p = length (point_nodes design) + s in
    let back : p - length (point_nodes design) ≡ s = omega arith in
    let weight : weight_of design p q ≡ spoke_weight (net_of_star design p) (node_of design q) = weight_is design p q true false (a_star design p (omega arith)) (no_star design q there) in
    let spokes : weight_of design p q ≡ spoke (star_net design s) =
    weight ∙ ap (λ k. spoke_weight (star_net design k) (node_of design q)) back ∙ ap (λ b. cond b (spoke (star_net design s)) 0) has in
    omega (arith, spokes, (good_star design s h inside).positive)

-- ---- a neighbour of a star point that is a node

record HasNode (design : DesignValue) (s : ℕ) : Type 0 where
  point : ℕ
  there : point < length (point_nodes design)
  has : has_node (star_net design s) (node_of design point) ≡ true

movable_node : (design : DesignValue) (s : ℕ) → s < length (star_nets design) → HasNode design s
movable_node design s inside =
    let net = star_net design s in
    let wide = (star_net_wide design s inside).1 in
    let has : has_movable design net ≡ true = (and_parts _ _ (and_parts _ _ wide).1).1 in
    let found = Any-from_list_any (λ (pin : Pin). is_movable (node_at design pin.node)) net.pins has in
    let pin = found.1 in
    let movable : is_movable (node_at design pin.node) ≡ true = found.4 in
    let stands = stands_at_point design.nodes (length design.nodes) pin.node (omega arith) (movable_there design.nodes pin.node movable) movable in
    let at : node_of design (movable_before design.nodes pin.node) ≡ pin.node = stands.there in
    let own : has_node net pin.node ≡ true =
    list_any_at (λ (other : Pin). other.node == pin.node) net.pins found.0 pin found.2 (ap (λ (other : Pin). other.node == pin.node) found.3 ∙ eq-eqb pin.node pin.node refl) in
    record {
      point = movable_before design.nodes pin.node;
      there = stands.inside;
      has = ap (has_node net) at ∙ own;
    }

joint_is : (design : DesignValue) (p : ℕ) → p < point_count design → joint_at (joints_of (network_of design)) p ≡ joint_of (point_value design p)
joint_is design p there =
    get_or-map joint_of (network_of design).points p no_point no_joint (omega (arith, network_points design)) ∙ ap joint_of (network_point design p there)

pub unanchored_movable : (design : DesignValue) (p : ℕ) → IsDesign design → IsFirstUnanchored (joints_of (network_of design)) p → p < length (point_nodes design)
unanchored_movable design p h first = by_place (cases_lt p (length (point_nodes design))) where
  web : List Joint
  web = joints_of (network_of design)

  past : length (point_nodes design) ≤ p → ⊥
  past more =
      let there : p < point_count design = omega (arith, first.there, length-map (network_of design).points joint_of, network_points design) in
      let s = p - length (point_nodes design) in
      let node = movable_node design s (omega arith) in
      let number : length (point_nodes design) + s ≡ p = omega arith in
      let some : 1 ≤ weight_of design p node.point = let P : ℕ → Type 0 = λ k. 1 ≤ weight_of design k node.point in
      subst P number (spoke_some design s node.point h (omega arith) node.there node.has) in
      let among = heavy_near design p node.point (omega (arith, node.there)) (λ e. omega (arith, e, node.there)) some in
      let P : Joint → Type 0 = λ j. Contains j.near node.point in
      let near : IsNeighbour web p node.point = subst P (sym (joint_is design p there)) among in
      let chain = first.before node.point (omega (arith, node.there)) in
      first.none (node.point ∷ chain.0, (near, chain.1))

  by_place : (p < length (point_nodes design)) ⊎ (length (point_nodes design) ≤ p) → p < length (point_nodes design)
  by_place (inl less) = less
  by_place (inr more) = absurd (past more)
