-- The pair terms of a net are its pairs without those of two fixed nodes, and its spokes: each of its nodes is the node of one first
-- pin.
use Rattle.std.proofs.Common.{◌≡◌, ℕ, ◌+◌, ◌-◌, ◌<◌, Bool, true, false, not, ◌||◌, cond, eqb, ltb, List, [], ◌∷◌, length, refl, sym, ◌∙◌, ap, arith}
use Rattle.std.specs.Prelude.{◌&&◌, count_by, All}
use Rattle.std.specs.List.{range_with_len}
use Rattle.std.proofs.lemmas.Bool.{eqb-true}
use Rattle.std.proofs.lemmas.Bool.Decides.{nat_tests}
use Rattle.std.proofs.lemmas.List.Elements.{All-head, All-tail}
use Rattle.std.proofs.lemmas.List.Sums.{sum_by-cons}
use Rattle.std.proofs.lemmas.List.Sums.{length-filter}
use Rattle.book_design.specs.declared.parts.Pin.{Pin}
use Rattle.book_design.specs.Points.{is_movable}
use Rattle.book_design.specs.Values.{NetValue, DesignValue}
use Rattle.book_design.specs.WellFormed.{IsGoodNet}
use Rattle.net_model.specs.Clique.{first_pins, degree, share, has_node}
use Rattle.net_model.specs.Forms.Joining.{is_at, AreDistinct}
use Rattle.net_model.specs.Network.{pairs, fixed_pins, spokes_of, terms_of, terms_in_pairs}
use Rattle.net_model.specs.Numbered.{node_at}
use Rattle.net_model.proofs.CliqueNodes.{distinct_first, joined_first, first_there}
use Rattle.net_model.proofs.CountingTerms.{net_there}
use Rattle.net_model.proofs.PairCounts.{count_split, count_none, count_same, count_one, all_pairs, pairs_left, no_pairs}

module _ (has : ℕ → Bool) where
  -- one node below n counts where it has the property
  own_test : (a j : ℕ) (b : Bool) → eqb a j ≡ b → has a ≡ true → (b && has j) ≡ b
  own_test a j true e h = ap has (sym (eqb-true a j e)) ∙ h
  own_test a j false e h = refl

  other_test : (a j : ℕ) (b : Bool) → eqb a j ≡ b → has a ≡ false → (b && has j) ≡ false
  other_test a j true e h = ap has (sym (eqb-true a j e)) ∙ h
  other_test a j false e h = refl

  below : (a n : ℕ) → a < n → ◌≡◌ {A = ℕ} (cond (ltb a n) 1 0) 1
  below a n h = grind (arith, nat_tests)

  count_node : (a n : ℕ) → a < n → (b : Bool) → has a ≡ b → count_by (λ j. eqb a j && has j) (range_with_len 0 n) ≡ cond b 1 0
  count_node a n inside true h = count_same (λ j. eqb a j && has j) (λ j. eqb a j) (range_with_len 0 n) (λ j. own_test a j (eqb a j) refl h) ∙ count_one a n ∙ below a n inside
  count_node a n inside false h = count_none (λ j. eqb a j && has j) (range_with_len 0 n) (λ j. other_test a j (eqb a j) refl h)

  -- a node is the first pin's, or one of the others', and never both
  apart : (pin : Pin) (pins : List Pin) (j : ℕ) (b : Bool) → is_at pins pin.node ≡ false → eqb pin.node j ≡ b
      → cond (b && has j) 1 0 + cond (is_at pins j && has j) 1 0 ≡ cond ((b || is_at pins j) && has j) 1 0
  apart pin pins j true new e =
      let none : is_at pins j ≡ false = ap (is_at pins) (sym (eqb-true pin.node j e)) ∙ new in
      let rest : ℕ = cond (has j) 1 0 in
      let no_more : cond (is_at pins j && has j) 1 0 ≡ 0 = ap (λ c. cond {A = ℕ} (c && has j) 1 0) none in
      omega (arith, no_more)
  apart pin pins j false new e = omega arith

  count_nodes : (pins : List Pin) (n : ℕ) → AreDistinct pins → All (λ pin. pin.node < n) pins
      → count_by (λ j. is_at pins j && has j) (range_with_len 0 n) ≡ count_by (λ (pin : Pin). has pin.node) pins
  count_nodes [] n distinct there = count_none (λ j. is_at [] j && has j) (range_with_len 0 n) (λ j. refl)
  count_nodes (pin ∷ pins) n distinct there =
      omega (
        arith,
        count_split (λ j. eqb pin.node j && has j) (λ j. is_at pins j && has j) (λ j. is_at (pin ∷ pins) j && has j) (range_with_len 0 n) (λ j. apart pin pins j (eqb pin.node j) distinct.0 refl),
        count_node pin.node n (All-head (λ (pin : Pin). pin.node < n) pin pins there) (has pin.node) refl,
        count_nodes pins n distinct.1 (All-tail (λ (pin : Pin). pin.node < n) pin pins there),
        sum_by-cons (λ (pin : Pin). cond {A = ℕ} (has pin.node) 1 0) pin pins,
      )

count_each : (pins : List Pin) → count_by (λ (pin : Pin). true) pins ≡ length pins
count_each [] = refl
count_each (pin ∷ pins) = omega (arith, sum_by-cons (λ (pin : Pin). 1) pin pins, count_each pins)

with_true : (b : Bool) → (b && true) ≡ b
with_true true = refl
with_true false = refl

count_all : (pins : List Pin) (n : ℕ) → AreDistinct pins → All (λ pin. pin.node < n) pins → count_by (is_at pins) (range_with_len 0 n) ≡ length pins
count_all pins n distinct there =
    sym (count_same (λ j. is_at pins j && true) (is_at pins) (range_with_len 0 n) (λ j. with_true (is_at pins j))) ∙ count_nodes (λ j. true) pins n distinct there ∙ count_each pins

module _ (design : DesignValue) (net : NetValue) (good : IsGoodNet (length design.nodes) net) where
  -- the net's nodes are those of its first pins
  nodes_are : count_by (has_node net) (range_with_len 0 (length design.nodes)) ≡ degree net
  nodes_are =
      sym (count_same (is_at (first_pins net.pins)) (has_node net) (range_with_len 0 (length design.nodes)) (joined_first net.pins))
      ∙ count_all (first_pins net.pins) (length design.nodes) (distinct_first net.pins) (first_there (length design.nodes) net.pins (net_there (length design.nodes) net good))

  -- and its fixed ones those of their first pins
  fixed_are : count_by (λ j. has_node net j && not (is_movable (node_at design j))) (range_with_len 0 (length design.nodes)) ≡ length (fixed_pins design net)
  fixed_are =
      let fixed : ℕ → Bool = λ j. not (is_movable (node_at design j)) in
      sym (count_same (λ j. is_at (first_pins net.pins) j && fixed j) (λ j. has_node net j && fixed j) (range_with_len 0 (length design.nodes)) (λ j. ap (λ b. b && fixed j) (joined_first net.pins j)))
      ∙ count_nodes fixed (first_pins net.pins) (length design.nodes) (distinct_first net.pins) (first_there (length design.nodes) net.pins (net_there (length design.nodes) net good))
      ∙ sym (length-filter (λ (pin : Pin). not (is_movable (node_at design pin.node))) (first_pins net.pins))

  by_share : (b : Bool) → all_pairs (has_node net) (λ i. is_movable (node_at design i)) (not b) (length design.nodes) ≡ cond b 0 (pairs (degree net) - pairs (length (fixed_pins design net)))
  by_share true = no_pairs (has_node net) (λ i. is_movable (node_at design i)) (length design.nodes)
  by_share false =
      omega (arith, pairs_left (has_node net) (λ i. is_movable (node_at design i)) (length design.nodes), ap pairs nodes_are, ap pairs fixed_are)

  pub net_in_pairs : terms_of design net ≡ terms_in_pairs design net
  unfolding terms_of
  net_in_pairs = ap (λ n. n + spokes_of design net) (by_share (eqb (share net) 0))
