use Rattle.std.proofs.Common.{◌≡◌, ℕ, ◌<◌, ◌≤◌, List, [], length, ℤ, ◌+ℤ◌, ◌-ℤ◌, ◌≤ℤ◌, ◌<ℤ◌, w64, to_z, of_z, true, false, sym, subst, inl, inr, arith}
use Rattle.std.specs.Prelude.{int_lt, int_le, FitsSigned}
use Rattle.std.proofs.lemmas.Int.{ints}
use Rattle.std.proofs.lemmas.Bool.{cases_lt}
use Rattle.std.proofs.lemmas.List.Elements.{All-from_recursion}
use Rattle.book_files.specs.Ranges.{IsInRange}
use Rattle.book_design.specs.Values.{NodeValue, DesignValue, node_value}
use Rattle.book_design.specs.WellFormed.{IsDesign, IsGoodNode, IsGoodSubrow, subrow_at}
use Rattle.row_space.specs.declared.tiers.Tier.{Tier}
use Rattle.row_space.specs.Forms.Tiers.{tier_at, AreTiers, IsPassed}
use Rattle.row_space.proofs.Spans.{narrower}
use Rattle.row_space.proofs.Marking.{marking_first, marking_more, marking_right_of, marking_above, marking_all}
use Rattle.row_space.proofs.marks.mark_node.Goals as goal

lt_by : (a b x y : ℤ) → a ≡ x → b ≡ y → int_lt a b ≡ true → x <ℤ y
lt_by a b x y p q h = let less : a <ℤ b = grind (arith, ints) in omega (arith, ints)

not_lt_by : (a b x y : ℤ) → a ≡ x → b ≡ y → int_lt a b ≡ false → y ≤ℤ x
not_lt_by a b x y p q h = let less : b ≤ℤ a = grind (arith, ints) in omega (arith, ints)

le_by : (a b x y : ℤ) → a ≡ x → b ≡ y → int_le a b ≡ true → x ≤ℤ y
le_by a b x y p q h = let less : a ≤ℤ b = grind (arith, ints) in omega (arith, ints)

sum_fits : (a b : ℤ) → IsInRange a → IsInRange b → FitsSigned w64 (to_z w64 (of_z w64 a) +ℤ to_z w64 (of_z w64 b))
sum_fits a b a_in b_in =
    let first : to_z w64 (of_z w64 a) ≡ a = omega (arith, ints, a_in.low, a_in.high) in
    let second : to_z w64 (of_z w64 b) ≡ b = omega (arith, ints, b_in.low, b_in.high) in
    rw (first, second) (omega (arith, ints, a_in.low, a_in.high, b_in.low, b_in.high))

-- what the code reads of a tier
record IsRead (tier : Tier) : Type 0 where
  y : to_z w64 (of_z w64 tier.y) ≡ tier.y
  left : to_z w64 (of_z w64 tier.left) ≡ tier.left
  right : to_z w64 (of_z w64 tier.right) ≡ tier.right

read_tier : (design : DesignValue) (tiers : List Tier) (k : ℕ) → IsDesign design → AreTiers design tiers → k < length tiers → IsRead (tier_at tiers k)
read_tier design tiers k valid are lt =
    let tier = are.each k lt in
    let s = subrow_at design.subrows (tier_at tiers k).subrow in
    let good = All-from_recursion (IsGoodSubrow design.pitch design.row_height) design.subrows valid.subrows (tier_at tiers k).subrow (subrow_at [] 0) tier.there in
    let wide = narrower design.pitch s.sites s.sites valid.pitch_sign (omega arith) in
    record {
      y = omega (arith, ints, tier.at_y, good.y.low, good.y.high);
      left = omega (arith, ints, tier.left, good.x.low, good.x.high);
      right = omega (arith, ints, tier.right, good.x.low, good.right, wide.start);
    }

-- what the code computes of a node
record IsSpanned (node : NodeValue) : Type 0 where
  left : to_z w64 (of_z w64 node.x) ≡ node.x
  right : to_z w64 (of_z w64 (to_z w64 (of_z w64 node.x) +ℤ to_z w64 (of_z w64 node.width))) ≡ node.x +ℤ node.width
  top : to_z w64 (of_z w64 (to_z w64 (of_z w64 node.y) +ℤ to_z w64 (of_z w64 node.height))) ≡ node.y +ℤ node.height

spanned : (height : ℤ) (node : NodeValue) → IsGoodNode height node → IsSpanned node
spanned height node n = record {
  left = omega (arith, ints, n.x.low, n.x.high);
  right = omega (arith, ints, n.x.low, n.x.high, n.width.low, n.width.high, n.width_sign);
  top = omega (arith, ints, n.y.low, n.y.high, n.height.low, n.height.high, n.height_sign);
}

edge_is : (y height read : ℤ) → IsInRange y → IsInRange height → read ≡ height → to_z w64 (of_z w64 (to_z w64 (of_z w64 y) -ℤ to_z w64 (of_z w64 read))) ≡ y -ℤ height
edge_is y height read in_y in_height is = omega (arith, ints, in_y.low, in_y.high, in_height.low, in_height.high)

lowest_below : (tiers : List Tier) (height y edge : ℤ) (lowest : ℕ) → edge ≡ y -ℤ height → ((k : ℕ) → k < lowest → (tier_at tiers k).y ≤ℤ edge) → (k : ℕ) → k < lowest → ((tier_at tiers k).y +ℤ height) ≤ℤ y
lowest_below tiers height y edge lowest is below k lt = omega (arith, ints, below k lt, is)

rest_above : (tiers : List Tier) (height y edge : ℤ) (lowest : ℕ) → edge ≡ y -ℤ height → ((k : ℕ) → lowest ≤ k → k < length tiers → edge <ℤ (tier_at tiers k).y) → (k : ℕ) → lowest ≤ k → k < length tiers → y <ℤ ((tier_at tiers k).y +ℤ height)
rest_above tiers height y edge lowest is above k from lt = omega (arith, ints, above k from lt, is)

-- tiers up to another place are passed, by numbers as the code computes them
passed_by : (tiers : List Tier) (a b y x : ℤ) (next : ℕ) → a ≡ y → b ≡ x → ((i : ℕ) → i < next → IsPassed a b (tier_at tiers i)) → (i : ℕ) → i < next → IsPassed y x (tier_at tiers i)
passed_by tiers a b y x next p q h i lt = subst (λ (z : ℤ). IsPassed z x (tier_at tiers i)) p (subst (λ (z : ℤ). IsPassed a z (tier_at tiers i)) q (h i lt))

below_by : (tiers : List Tier) (a y : ℤ) (next : ℕ) → a ≡ y → ((i : ℕ) → i < next → (tier_at tiers i).y ≤ℤ a) → (i : ℕ) → i < next → (tier_at tiers i).y ≤ℤ y
below_by tiers a y next p h i lt = subst (λ (z : ℤ). (tier_at tiers i).y ≤ℤ z) p (h i lt)

-- a search goes on
goes_right : (tiers : List Tier) (a b x : ℤ) (at next : ℕ) → a ≡ (tier_at tiers at).y → b ≡ x → ((i : ℕ) → next ≤ i → i < length tiers → IsPassed a b (tier_at tiers i) → ⊥) → at < length tiers → (tier_at tiers at).right ≤ℤ x → at < next
goes_right tiers a b x at next p q behind lt left = elim (cases_lt at next) [
  | inl less ↦ less
  | inr more ↦ absurd (behind at more lt (inr (sym p, subst (λ (z : ℤ). (tier_at tiers at).right ≤ℤ z) (sym q) left)))
]

goes_up : (tiers : List Tier) (a : ℤ) (at next : ℕ) → a ≡ (tier_at tiers at).y → ((i : ℕ) → next ≤ i → i < length tiers → a <ℤ (tier_at tiers i).y) → at < length tiers → at < next
goes_up tiers a at next p above lt = elim (cases_lt at next) [
  | inl less ↦ less
  | inr more ↦ absurd (omega (arith, ints, above at more lt, p))
]

pub tiers-init : goal.tiers-init
tiers-init c =
    let design = c.args.design.now in
    let n = c.requires.node in
    let valid = c.row_height.ensures.valid in
    let edge = edge_is (node_value c.args.node.now).y design.row_height c.row_height.result n.y valid.row_height c.row_height.ensures.height in
    marking_first design (node_value c.args.node.now) c.args.tiers.now c.args.marks.now.items c.first_above-at.result c.requires.tiers c.first_above-at.ensures.within
    (lowest_below c.args.tiers.now design.row_height (node_value c.args.node.now).y _ c.first_above-at.result edge c.first_above-at.ensures.below)
    (rest_above c.args.tiers.now design.row_height (node_value c.args.node.now).y _ c.first_above-at.result edge c.first_above-at.ensures.above)

pub tiers-smaller-then-tier-node : goal.tiers-smaller-then-tier-node
tiers-smaller-then-tier-node c =
    let node = node_value c.args.node.now in
    let tiers = c.args.tiers.now in
    let read = read_tier c.args.design.now tiers c.tiers.at c.row_height.ensures.valid c.requires.tiers c.tiers-test.true in
    let span = spanned c.args.design.now.row_height node c.requires.node in
    let left = le_by _ _ (tier_at tiers c.tiers.at).right node.x read.right span.left c.if-tier-node.true in
    let more = goes_right tiers _ _ node.x c.tiers.at c.first_right_of-at.result read.y span.left c.first_right_of-at.ensures.behind c.tiers-test.true left in
    omega (arith, more, c.tiers-test.true)

pub tiers-preserved-then-tier-node : goal.tiers-preserved-then-tier-node
tiers-preserved-then-tier-node c =
    let design = c.args.design.now in
    let node = node_value c.args.node.now in
    let tiers = c.args.tiers.now in
    let valid = c.row_height.ensures.valid in
    let read = read_tier design tiers c.tiers.at valid c.requires.tiers c.tiers-test.true in
    let span = spanned design.row_height node c.requires.node in
    let left = le_by _ _ (tier_at tiers c.tiers.at).right node.x read.right span.left c.if-tier-node.true in
    let more = goes_right tiers _ _ node.x c.tiers.at c.first_right_of-at.result read.y span.left c.first_right_of-at.ensures.behind c.tiers-test.true left in
    marking_right_of design node tiers c.args.marks.now.items c.tiers.marks.items c.tiers.at c.first_right_of-at.result valid c.requires.tiers c.tiers.invariant (omega (arith, more)) c.first_right_of-at.ensures.within
    (passed_by tiers _ _ (tier_at tiers c.tiers.at).y node.x c.first_right_of-at.result read.y span.left c.first_right_of-at.ensures.before)

pub tiers-smaller-then-node-tier : goal.tiers-smaller-then-node-tier
tiers-smaller-then-node-tier c =
    let tiers = c.args.tiers.now in
    let read = read_tier c.args.design.now tiers c.tiers.at c.row_height.ensures.valid c.requires.tiers c.tiers-test.true in
    let more = goes_up tiers _ c.tiers.at c.first_above-at-then-node-tier.result read.y c.first_above-at-then-node-tier.ensures.above c.tiers-test.true in
    omega (arith, more, c.tiers-test.true)

pub tiers-preserved-then-node-tier : goal.tiers-preserved-then-node-tier
tiers-preserved-then-node-tier c =
    let design = c.args.design.now in
    let node = node_value c.args.node.now in
    let tiers = c.args.tiers.now in
    let valid = c.row_height.ensures.valid in
    let read = read_tier design tiers c.tiers.at valid c.requires.tiers c.tiers-test.true in
    let span = spanned design.row_height node c.requires.node in
    let out = le_by _ _ (node.x +ℤ node.width) (tier_at tiers c.tiers.at).left span.right read.left c.if-node-tier.true in
    let more = goes_up tiers _ c.tiers.at c.first_above-at-then-node-tier.result read.y c.first_above-at-then-node-tier.ensures.above c.tiers-test.true in
    marking_above design node tiers c.args.marks.now.items c.tiers.marks.items c.tiers.at c.first_above-at-then-node-tier.result valid c.requires.tiers c.tiers.invariant (omega (arith, more)) c.first_above-at-then-node-tier.ensures.within out
    (below_by tiers _ (tier_at tiers c.tiers.at).y c.first_above-at-then-node-tier.result read.y c.first_above-at-then-node-tier.ensures.below)

pub mark_subrow-requires-clause-there : goal.mark_subrow-requires-clause-there
mark_subrow-requires-clause-there c = (c.requires.tiers.each c.tiers.at c.tiers-test.true).there

pub mark_subrow-requires-clause-row : goal.mark_subrow-requires-clause-row
mark_subrow-requires-clause-row c =
    let design = c.args.design.now in
    let node = node_value c.args.node.now in
    let tiers = c.args.tiers.now in
    let tier = c.requires.tiers.each c.tiers.at c.tiers-test.true in
    let read = read_tier design tiers c.tiers.at c.row_height.ensures.valid c.requires.tiers c.tiers-test.true in
    let span = spanned design.row_height node c.requires.node in
    let under = lt_by _ _ (tier_at tiers c.tiers.at).y (node.y +ℤ node.height) read.y span.top c.if-tiers-at.true in
    record {
      below = omega (arith, ints, under, tier.at_y);
      above = omega (arith, ints, c.tiers.invariant.above c.tiers.at (omega arith) c.tiers-test.true, tier.at_y);
    }

pub tiers-preserved : goal.tiers-preserved
tiers-preserved c =
    marking_more c.args.design.now (node_value c.args.node.now) c.args.tiers.now c.args.marks.now.items c.tiers.marks.items c.mark_subrow.new.marks.items c.tiers.at c.tiers.invariant c.tiers-test.true c.in_ok-mark_subrow.ensures

pub returns-else-tiers-at : goal.returns-else-tiers-at
returns-else-tiers-at c =
    let design = c.args.design.now in
    let node = node_value c.args.node.now in
    let y = (read_tier design c.args.tiers.now c.tiers.at c.row_height.ensures.valid c.requires.tiers c.tiers-test.true).y in
    let span = spanned design.row_height node c.requires.node in
    let out = not_lt_by _ _ (tier_at c.args.tiers.now c.tiers.at).y (node.y +ℤ node.height) y span.top c.if-tiers-at.false in
    marking_all design node c.args.tiers.now c.args.marks.now.items c.tiers.marks.items c.tiers.at c.requires.tiers c.tiers.invariant (λ lt. out)

pub returns-after-tiers : goal.returns-after-tiers
returns-after-tiers c =
    marking_all c.args.design.now (node_value c.args.node.now) c.args.tiers.now c.args.marks.now.items c.tiers.marks.items c.tiers.at c.requires.tiers c.tiers.invariant (λ lt. absurd (omega (arith, c.tiers-test.false)))

pub overflow_add-node-else-tier-node : goal.overflow_add-node-else-tier-node
overflow_add-node-else-tier-node c = sum_fits c.args.node.now.x c.args.node.now.width c.requires.node.x c.requires.node.width
