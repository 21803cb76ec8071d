-- The greatest number so far.
use Rattle.std.proofs.Common.{◌≡◌, ℕ, ◌+◌, ◌<◌, ◌≤◌, ◌⊎◌, inl, inr, max, refl, below_more, ⊎_elim, arith}
use Rattle.std.proofs.lemmas.Bool.{cases_lt}
use Rattle.fix_cert.specs.Verdict.{IsMost, IsMostOfBoth}

pub no_most : (f : ℕ → ℕ) → IsMost 0 f 0
no_most f = record { above = λ i there. absurd (omega (arith, there)); reached = inl refl }

pub one_more : (n : ℕ) (f : ℕ → ℕ) (most new : ℕ) → IsMost n f most → new ≡ f n → IsMost (n + 1) f (max new most)
one_more n f most new h e = record {
  above = below_more (λ i. f i ≤ max new most) n (λ i there. omega (arith, h.above i there)) (omega arith);
  reached = ⊎_elim
      (λ more. inr (n, omega arith, omega (arith, more)))
      (λ less. ⊎_elim (λ none. inl (omega (arith, less, none))) (λ w. inr (w.0, omega (arith, w.1), omega (arith, less, w.2))) h.reached)
      (cases_lt most new);
}

pub no_most_of_both : (f g : ℕ → ℕ) → IsMostOfBoth 0 f g 0
no_most_of_both f g = record {
  above_first = λ i there. absurd (omega (arith, there));
  above_second = λ i there. absurd (omega (arith, there));
  reached = inl refl;
}

either_is : (a b most new : ℕ) → new ≡ max a b → most < new → (a ≡ max new most) ⊎ (b ≡ max new most)
either_is a b most new e more = ⊎_elim (λ less. inr (omega (arith, less))) (λ less. inl (omega (arith, less))) (cases_lt a b)

pub one_more_of_both : (n : ℕ) (f g : ℕ → ℕ) (most new : ℕ) → IsMostOfBoth n f g most → new ≡ max (f n) (g n) → IsMostOfBoth (n + 1) f g (max new most)
one_more_of_both n f g most new h e = record {
  above_first = below_more (λ i. f i ≤ max new most) n (λ i there. omega (arith, h.above_first i there)) (omega arith);
  above_second = below_more (λ i. g i ≤ max new most) n (λ i there. omega (arith, h.above_second i there)) (omega arith);
  reached = ⊎_elim
      (λ more. inr (n, omega arith, either_is (f n) (g n) most new e more))
      (λ less. let same : max new most ≡ most = omega (arith, less) in
      ⊎_elim (λ none. inl (omega (arith, same, none))) (λ w. inr (w.0, omega (arith, w.1), ⊎_elim (λ a. inl (omega (arith, same, a))) (λ b. inr (omega (arith, same, b))) w.2)) h.reached)
      (cases_lt most new);
}
