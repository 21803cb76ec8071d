-- What all nets give a point: entries whose sums are its neighbours, and whose weights fit together.
use Rattle.std.proofs.Common.{◌≡◌, ◌≢◌, ℕ, zero, suc, ◌+◌, ◌*◌, ◌^◌, ◌<◌, ◌≤◌, Bool, true, false, not, ◌&&◌, ◌||◌, cond, eqb, List, [], ◌∷◌, length, refl, sym, ◌∙◌, ap, arith}
use Rattle.std.specs.Prelude.{Option, None, Some, if◌then◌else◌, sum_by, All}
use Rattle.std.specs.List.{filter_map, range_with_len, cons_option, AllByRecursion}
use Rattle.std.proofs.lemmas.Bool.{eqb-true, eqb-false}
use Rattle.std.proofs.lemmas.List.Elements.{All-nil, All-cons, All-append}
use Rattle.std.proofs.lemmas.List.Sums.{sum_by-cons, sum_by-append}
use Rattle.book_design.specs.declared.rules.TheConstants.{MOST_NET_WEIGHT}
use Rattle.book_design.specs.declared.parts.Pin.{Pin}
use Rattle.book_design.specs.Values.{NetValue, DesignValue}
use Rattle.book_design.specs.Points.{is_movable, movable_before, IsNodeOf}
use Rattle.book_design.specs.WellFormed.{IsDesign, IsGoodNet}
use Rattle.net_model.specs.declared.limits.TheConstants.{NET_WEIGHT}
use Rattle.net_model.specs.declared.parts.Near.{Near}
use Rattle.net_model.specs.declared.parts.FixedPin.{FixedPin}
use Rattle.net_model.specs.Clique.{first_pins, has_node, share}
use Rattle.net_model.specs.Network.{point_count, pair_weight, weight_of, as_near, near_of, pins_in}
use Rattle.net_model.specs.Numbered.{node_at, node_of, point_nodes}
use Rattle.net_model.specs.Forms.Joining.{paired_near}
use Rattle.net_model.specs.Forms.Steps.{nears_in, nears_by, pins_by, weight_at, as_sum, IsEntry}
use Rattle.net_model.proofs.Movable.{stands_at_point}
use Rattle.net_model.proofs.MergingSums.{weight_sum, weight_at-append}
use Rattle.net_model.proofs.MakingNets.{pin_sum, node_of_point, movable_there, net_weight, net_own_weight, net_bound}

-- what the nets with both nodes give them
abbrev shared : ℕ → ℕ → NetValue → ℕ
shared i j net = cond (has_node net i && has_node net j) (share net) 0

nears_weight : (design : DesignValue) (nets : List NetValue) (i q j : ℕ) → IsNodeOf design.nodes q j → j ≢ i → weight_at (nears_by design nets i) q ≡ sum_by (shared i j) nets
nears_weight design [] i q j h apart = refl
nears_weight design (net ∷ nets) i q j h apart =
    omega (arith, weight_at-append (nears_in design i net) (nears_by design nets i) q, net_weight design net i q j h apart, nears_weight design nets i q j h apart, sum_by-cons (shared i j) net nets)

nears_own : (design : DesignValue) (nets : List NetValue) (i p : ℕ) → IsNodeOf design.nodes p i → weight_at (nears_by design nets i) p ≡ 0
nears_own design [] i p h = refl
nears_own design (net ∷ nets) i p h =
    omega (arith, weight_at-append (nears_in design i net) (nears_by design nets i) p, net_own_weight design net i p h, nears_own design nets i p h)

-- the weight of another point is that of the pair of nodes, and a point's own is 0
pub point_weight : (design : DesignValue) (p q : ℕ) → p < length (point_nodes design) → q < length (point_nodes design) → (b : Bool) → eqb q p ≡ b
    → weight_at (nears_by design design.nets (node_of design p)) q ≡ cond b 0 (pair_weight design (node_of design p) (node_of design q))
point_weight design p q hp hq true e =
    ap (weight_at (nears_by design design.nets (node_of design p))) (eqb-true q p e) ∙ nears_own design design.nets (node_of design p) p (node_of_point design p hp)
point_weight design p q hp hq false e =
    let at = node_of_point design q hq in
    nears_weight design design.nets (node_of design p) q (node_of design q) at
    (λ same. eqb-false q p e (sym at.number ∙ ap (movable_before design.nodes) same ∙ (node_of_point design p hp).number))

-- the sum of a point's entries at another point is its neighbour there
abbrev near_at : ℕ → ℕ → Option Near
near_at q weight = if eqb weight 0 then None else Some (record { point = q; weight = weight })

sum_is_near : (q pair weight : ℕ) (b : Bool) → weight ≡ cond b 0 pair → near_at q weight ≡ (if b || eqb pair 0 then None else Some (record { point = q; weight = pair }))
sum_is_near q pair weight true e = ap (near_at q) e
sum_is_near q pair weight false e = ap (near_at q) e

filter_map_same : (f g : ℕ → Option Near) (a n : ℕ) → ((k : ℕ) → k < a + n → f k ≡ g k) → filter_map f (range_with_len a n) ≡ filter_map g (range_with_len a n)
filter_map_same f g a zero same = refl
filter_map_same f g a (suc n) same =
    ap (λ o. cons_option o (filter_map f (range_with_len (a + 1) n))) (same a (omega arith)) ∙ ap (cons_option (g a)) (filter_map_same f g (a + 1) n (λ k h. same k (omega arith)))

-- entries that give each other point its weight, and the point itself nothing, have the point's neighbours as their sums
pub sums_are_near : (design : DesignValue) (p : ℕ) (near : List Near) → ((q : ℕ) → q < point_count design → weight_at near q ≡ cond (eqb q p) 0 (weight_of design p q))
    → filter_map (as_sum near) (range_with_len 0 (point_count design)) ≡ near_of design p
sums_are_near design p near weights =
    filter_map_same (as_sum near) (as_near design p) 0 (point_count design) (λ q h. sum_is_near q (weight_of design p q) (weight_at near q) (eqb q p) (weights q (omega arith)))

-- an entry is one of a point, and weighs something
entries_by_tests : (design : DesignValue) (s i : ℕ) (pin : Pin) (rest : List Near) → 1 ≤ s → (b c : Bool) → is_movable (node_at design pin.node) ≡ c → All (IsEntry (length (point_nodes design))) rest
    → All (IsEntry (length (point_nodes design))) (cons_option (cond (b || not c) None (Some (record { point = movable_before design.nodes pin.node; weight = s }))) rest)
entries_by_tests design s i pin rest positive true c e all = all
entries_by_tests design s i pin rest positive false true e all =
    let stands = stands_at_point design.nodes (length design.nodes) pin.node (omega arith) (movable_there design.nodes pin.node e) e in
    All-cons (IsEntry (length (point_nodes design))) (record { point = movable_before design.nodes pin.node; weight = s }) rest (record { there = stands.inside; positive = positive }) all
entries_by_tests design s i pin rest positive false false e all = all

pub pins_entries : (design : DesignValue) (s i : ℕ) (pins : List Pin) → 1 ≤ s → All (IsEntry (length (point_nodes design))) (filter_map (paired_near design s i) pins)
pins_entries design s i [] positive = All-nil (IsEntry (length (point_nodes design)))
pins_entries design s i (pin ∷ pins) positive =
    entries_by_tests design s i pin (filter_map (paired_near design s i) pins) positive (eqb pin.node i) (is_movable (node_at design pin.node)) refl (pins_entries design s i pins positive)

net_by_tests : (design : DesignValue) (net : NetValue) (i s : ℕ) (a b : Bool) → eqb s 0 ≡ a → All (IsEntry (length (point_nodes design))) (if a then [] else if b then filter_map (paired_near design s i) (first_pins net.pins) else [])
net_by_tests design net i s true b e = All-nil (IsEntry (length (point_nodes design)))
net_by_tests design net i s false true e = let some = eqb-false s 0 e in pins_entries design s i (first_pins net.pins) (grind arith)
net_by_tests design net i s false false e = All-nil (IsEntry (length (point_nodes design)))

pub nears_entries : (design : DesignValue) (nets : List NetValue) (i : ℕ) → All (IsEntry (length (point_nodes design))) (nears_by design nets i)
nears_entries design [] i = All-nil (IsEntry (length (point_nodes design)))
nears_entries design (net ∷ nets) i =
    All-append (IsEntry (length (point_nodes design))) (nears_in design i net) (nears_by design nets i) (net_by_tests design net i (share net) (eqb (share net) 0) (has_node net i) refl) (nears_entries design nets i)

-- the nets together give a point no more than that of the greatest weight each
nets_bound : (design : DesignValue) (nets : List NetValue) (i n : ℕ) → is_movable (node_at design i) ≡ true → AllByRecursion (IsGoodNet n) nets → weight_sum (nears_by design nets i) + pin_sum (pins_by design nets i) ≤ length nets * (NET_WEIGHT * MOST_NET_WEIGHT)
nets_bound design [] i n movable good = omega arith
nets_bound design (net ∷ nets) i n movable good =
    omega (
      arith,
      sum_by-append (λ (entry : Near). entry.weight) (nears_in design i net) (nears_by design nets i),
      sum_by-append (λ (pin : FixedPin). pin.weight) (pins_in design i net) (pins_by design nets i),
      net_bound design net i movable,
      good.0.weight,
      nets_bound design nets i n movable good.1,
    )

pub all_fit : (design : DesignValue) (i : ℕ) → IsDesign design → is_movable (node_at design i) ≡ true → weight_sum (nears_by design design.nets i) + pin_sum (pins_by design design.nets i) < 2 ^ 58
all_fit design i h movable = omega (arith, nets_bound design design.nets i (length design.nodes) movable h.nets, h.few_nets)
