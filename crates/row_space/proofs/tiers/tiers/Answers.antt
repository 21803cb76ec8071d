use Rattle.std.proofs.Common.{◌≡◌, ℕ, ◌<◌, ◌≤◌, List, [], length, ℤ, ◌+ℤ◌, ◌*ℤ◌, w64, to_z, of_z, refl, sym, subst, ap, arith, rules}
use Rattle.std.specs.Prelude.{FitsSigned}
use mir.Val.{SFits}
use Rattle.std.proofs.lemmas.Int.{ints}
use Rattle.std.proofs.lemmas.List.Elements.{All-from_recursion}
use Rattle.book_design.specs.declared.parts.Subrow.{Subrow}
use Rattle.book_design.specs.Values.{DesignValue}
use Rattle.book_design.specs.WellFormed.{IsDesign, IsGoodSubrow, subrow_at}
use Rattle.row_space.specs.declared.tiers.Tier.{Tier}
use Rattle.row_space.specs.Forms.Tiers.{IsTier}
use Rattle.row_space.proofs.Spans.{left_end, left_fits}
use Rattle.row_space.proofs.Tiering.{AreTiersUpTo, tier_more, tier_none, all_tiers}
use Rattle.row_space.proofs.tiers.tiers.Goals as goal
use Rattle.row_space.proofs.tiers.tiers.Goals.{then-subrow-gt0+in_ok-push, else-subrow-gt0}

-- where a subrow ends, as the code computes it
abbrev sum_of : Subrow → ℤ → ℤ
sum_of s pitch = to_z w64 (of_z w64 s.x) +ℤ to_z w64 (of_z w64 (to_z w64 s.sites *ℤ to_z w64 (of_z w64 pitch)))

abbrev tier_by : List Subrow → ℕ → ℤ → Tier
tier_by subrows number pitch = record {
  y = to_z w64 (of_z w64 (subrow_at subrows number).y);
  left = to_z w64 (of_z w64 (subrow_at subrows number).x);
  right = to_z w64 (of_z w64 (sum_of (subrow_at subrows number) pitch));
  subrow = number;
}

good_at : (design : DesignValue) (number : ℕ) → IsDesign design → number < length design.subrows → IsGoodSubrow design.pitch design.row_height (subrow_at design.subrows number)
good_at design number valid lt = All-from_recursion (IsGoodSubrow design.pitch design.row_height) design.subrows valid.subrows number (subrow_at [] 0) lt

fits_at : (design : DesignValue) (number : ℕ) → IsDesign design → SFits w64 design.pitch → number < length design.subrows → FitsSigned w64 (sum_of (subrow_at design.subrows number) design.pitch)
fits_at design number valid fits lt =
    let s = subrow_at design.subrows number in
    let good = good_at design number valid lt in
    left_fits s.x design.pitch s.sites s.sites good.x.low good.right valid.pitch_sign fits (omega arith) (omega (arith, good.sites))

tier_at_number : (design : DesignValue) (number : ℕ) → IsDesign design → SFits w64 design.pitch → number < length design.subrows → 0 < (subrow_at design.subrows number).sites
    → IsTier design (tier_by design.subrows number design.pitch)
tier_at_number design number valid fits lt some =
    let s = subrow_at design.subrows number in
    let good = good_at design number valid lt in
    record {
      there = lt;
      some = some;
      at_y = omega (arith, ints, good.y.low, good.y.high);
      left = omega (arith, ints, good.x.low, good.x.high);
      right = left_end s.x design.pitch s.sites s.sites good.x.low good.right valid.pitch_sign fits (omega arith) (omega (arith, good.sites));
    }

pub overflow_add-subrow : goal.overflow_add-subrow
overflow_add-subrow c =
    let design = c.args.design.now in
    let number = c.loop-number.number in
    let fits : SFits w64 c.pitch.result = search rules in
    let lt : number < length design.subrows = omega (arith, c.loop-number-test.true, ap length c.subrows-subrow-items.ensures.subrows) in
    subst (λ (ss : List Subrow). FitsSigned w64 (sum_of (subrow_at ss number) c.pitch.result)) (sym c.subrows-subrow-items.ensures.subrows)
    (subst (λ (p : ℤ). FitsSigned w64 (sum_of (subrow_at design.subrows number) p)) (sym c.pitch.ensures.pitch)
    (fits_at design number c.pitch.ensures.valid (subst (λ (p : ℤ). SFits w64 p) c.pitch.ensures.pitch fits) lt))

pub loop-number-preserved : goal.loop-number-preserved
loop-number-preserved c =
    let design = c.args.design.now in
    let number = c.loop-number.number in
    let subrows = c.subrows-subrow-items.result.now in
    let same = c.subrows-subrow-items.ensures.subrows in
    let lt : number < length design.subrows = omega (arith, c.loop-number-test.true, ap length same) in
    elim c.if-subrow-gt0.branch [
      | then-subrow-gt0+in_ok-push w ↦
          let fits : SFits w64 w.pitch.result = search rules in
          let some : 0 < (subrow_at design.subrows number).sites = subst (λ (ss : List Subrow). 0 < (subrow_at ss number).sites) same w.if-subrow-gt0.true in
          let own = subst (λ (ss : List Subrow). IsTier design (tier_by ss number w.pitch.result)) (sym same)
          (subst (λ (p : ℤ). IsTier design (tier_by design.subrows number p)) (sym w.pitch.ensures.pitch)
          (tier_at_number design number w.pitch.ensures.valid (subst (λ (p : ℤ). SFits w64 p) w.pitch.ensures.pitch fits) lt some)) in
          rw w.tiers-is (tier_more design number c.loop-number.tiers.items w.push.new.self.items (tier_by subrows number w.pitch.result) c.loop-number.invariant own refl w.in_ok-push.ensures.items)
      | else-subrow-gt0 w ↦
          let none = subst (λ (ss : List Subrow). (subrow_at ss number).sites ≤ 0) same w.if-subrow-gt0.false in
          rw w.tiers-is (tier_none design number c.loop-number.tiers.items c.loop-number.invariant none)
    ]

pub returns : goal.returns
returns c =
    let design = c.args.design.now in
    let all : c.loop-number.number ≡ length design.subrows = omega (arith, c.loop-number-test.false, c.loop-number.auto.number-end, ap length c.subrows-subrow-items.ensures.subrows) in
    all_tiers design c.loop-number.tiers.items c.sort_unstable.new.self.items c.subrows.ensures.valid (subst (λ n. AreTiersUpTo design n c.loop-number.tiers.items) all c.loop-number.invariant)
    c.sort_unstable.ensures.permutation c.sort_unstable.ensures.sorted
