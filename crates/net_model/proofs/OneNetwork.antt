-- A design has a network or a first fault, and there is one answer.
use Rattle.std.proofs.Common.{◌≡◌, ◌⊎◌, inl, inr, ℕ, zero, suc, ◌<◌, ◌≤◌, refl, sym, ◌∙◌, ap, arith, add-one, below_more}
use Rattle.std.proofs.lemmas.Bool.{cases_lt, cases_order}
use Rattle.book_design.specs.Faults.{IsFirst}
use Rattle.book_design.specs.Values.{DesignValue}
use Rattle.net_model.specs.declared.limits.TheConstants.{MOST_TERMS, MOST_WEIGHT}
use Rattle.net_model.specs.declared.fault.NetFault.{NetFault}
use Rattle.net_model.specs.declared.fault.NetFault.TheVariants.{TooManyEdges, Heavy}
use Rattle.net_model.specs.Answers.{HasOneNetwork}
use Rattle.net_model.specs.Network.{point_count, point_value, network_of, total_weight, terms, IsHeavy, IsFirstFault, IsNetwork}
use Rattle.net_model.specs.Values.{NetworkValue}

abbrev FirstOrNone : (ℕ → Type 0) → ℕ → Type 0
FirstOrNone Holds n = ((i : ℕ) × IsFirst Holds i) ⊎ ((j : ℕ) → j < n → Holds j → ⊥)

first_up_to : (Holds : ℕ → Type 0) → ((i : ℕ) → Holds i ⊎ (Holds i → ⊥)) → (n : ℕ) → FirstOrNone Holds n
first_up_to Holds decide zero = inr (λ j h. absurd (omega arith))
first_up_to Holds decide (suc n) = by_rest (first_up_to Holds decide n) (decide n) where
  by_rest : FirstOrNone Holds n → (Holds n ⊎ (Holds n → ⊥)) → FirstOrNone Holds (suc n)
  by_rest (inl first) here = inl first
  by_rest (inr none) (inl here) = inl (n, record { here = here; not_before = none })
  by_rest (inr none) (inr not_here) = inr (λ j h. below_more (λ k. Holds k → ⊥) n none not_here j (omega (arith, add-one n)))

first_or_none : (Holds : ℕ → Type 0) (n : ℕ) → ((i : ℕ) → Holds i ⊎ (Holds i → ⊥)) → ((i : ℕ) → Holds i → i < n)
    → ((i : ℕ) × IsFirst Holds i) ⊎ ((i : ℕ) → Holds i → ⊥)
first_or_none Holds n decide inside = by_end (first_up_to Holds decide n) where
  by_end : FirstOrNone Holds n → ((i : ℕ) × IsFirst Holds i) ⊎ ((i : ℕ) → Holds i → ⊥)
  by_end (inl first) = inl first
  by_end (inr none) = inr (λ i here. none i (inside i here) here)

first_one : (Holds : ℕ → Type 0) (i j : ℕ) → IsFirst Holds i → IsFirst Holds j → i ≡ j
first_one Holds i j a b = by_order (cases_order i j) where
  by_order : (i ≡ j) ⊎ ((i < j) ⊎ (j < i)) → i ≡ j
  by_order (inl same) = same
  by_order (inr (inl less)) = absurd (b.not_before i less a.here)
  by_order (inr (inr more)) = absurd (a.not_before j more b.here)

heavy_or_not : (design : DesignValue) (p : ℕ) → IsHeavy design p ⊎ (IsHeavy design p → ⊥)
heavy_or_not design p = by_tests (cases_lt p (point_count design)) (cases_lt MOST_WEIGHT (total_weight (point_value design p))) where
  by_tests : (p < point_count design) ⊎ (point_count design ≤ p) → (MOST_WEIGHT < total_weight (point_value design p)) ⊎ (total_weight (point_value design p) ≤ MOST_WEIGHT)
      → IsHeavy design p ⊎ (IsHeavy design p → ⊥)
  by_tests (inl there) (inl heavy) = inl (there, heavy)
  by_tests (inl there) (inr light) = inr (λ h. omega (arith, h.1))
  by_tests (inr past) heavy = inr (λ h. omega (arith, h.0))

abbrev HasAnswer : DesignValue → Type 0
HasAnswer design = ((network : NetworkValue) × IsNetwork design network) ⊎ ((fault : NetFault) × IsFirstFault design fault)

some_answer : (design : DesignValue) → HasAnswer design
some_answer design = by_terms (cases_lt MOST_TERMS (terms design)) where
  by_weight : terms design ≤ MOST_TERMS → ((p : ℕ) × IsFirst (IsHeavy design) p) ⊎ ((p : ℕ) → IsHeavy design p → ⊥) → HasAnswer design
  by_weight few (inl first) = inr (Heavy first.0, (few, first.1))
  by_weight few (inr light) = inl (network_of design, record { few = few; light = light; made = refl })

  by_terms : (MOST_TERMS < terms design) ⊎ (terms design ≤ MOST_TERMS) → HasAnswer design
  by_terms (inl many) = inr (TooManyEdges (terms design), (refl, many))
  by_terms (inr few) = by_weight few (first_or_none (IsHeavy design) (point_count design) (heavy_or_not design) (λ p heavy. heavy.0))

one_fault : (design : DesignValue) (a b : NetFault) → IsFirstFault design a → IsFirstFault design b → a ≡ b
one_fault design (TooManyEdges m) (TooManyEdges n) f g = ap TooManyEdges (f.0 ∙ sym g.0)
one_fault design (TooManyEdges m) (Heavy p) f g = absurd (omega (arith, f.0, f.1, g.0))
one_fault design (Heavy p) (TooManyEdges n) f g = absurd (omega (arith, g.0, g.1, f.0))
one_fault design (Heavy p) (Heavy q) f g = ap Heavy (first_one (IsHeavy design) p q f.1 g.1)

not_both : (design : DesignValue) (network : NetworkValue) (fault : NetFault) → IsNetwork design network → IsFirstFault design fault → ⊥
not_both design network (TooManyEdges n) made f = omega (arith, made.few, f.0, f.1)
not_both design network (Heavy p) made f = made.light p f.1.here

pub has_one_network : (design : DesignValue) → HasOneNetwork design
has_one_network design = record {
  some = some_answer design;
  one_network = λ a b f g. f.made ∙ sym g.made;
  one_fault = one_fault design;
  not_both = not_both design;
}
