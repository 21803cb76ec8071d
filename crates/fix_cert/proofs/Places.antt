-- What an indexed parallel map gives, place by place.
use Rattle.std.proofs.Common.{◌≡◌, ℕ, zero, suc, ◌+◌, ◌<◌, List, [], ◌∷◌, length, slice_index_or, subst, refl, arith}
use Rattle.std.specs.List.{AllZip, range_with_len}
use Rattle.std.specs.Prelude.{Result}
use Rattle.relax_system.specs.declared.points.Point.{Point}
use Rattle.fix_cert.specs.declared.reading.Reading.{Reading}
use Rattle.fix_cert.specs.declared.verdict.Side2.{Side2}
use Rattle.fix_cert.specs.Forms.Reading.{IsFinding, AreFindings}

module _ {Y : Type 0} (R : ℕ → Y → Type 0) where
  many_of : (a n : ℕ) (ys : List Y) → AllZip R (range_with_len a n) ys → length ys ≡ n
  many_of a zero [] h = refl
  many_of a zero (y ∷ ys) h = absurd h
  many_of a (suc n) [] h = absurd h
  many_of a (suc n) (y ∷ ys) h = omega (arith, many_of (a + 1) n ys h.1)

  at_place : (a n : ℕ) (ys : List Y) → AllZip R (range_with_len a n) ys → (i : ℕ) (d : Y) → i < n → R (a + i) (slice_index_or ys i d)
  at_place a zero ys h i d there = absurd (omega (arith, there))
  at_place a (suc n) [] h i d there = absurd h
  at_place a (suc n) (y ∷ ys) h zero d there = let e : a ≡ a + 0 = omega arith in subst (λ k. R k y) e h.0
  at_place a (suc n) (y ∷ ys) h (suc i) d there =
      let e : a + 1 + i ≡ a + suc i = omega arith in
      subst (λ k. R k (slice_index_or ys i d)) e (at_place (a + 1) n ys h.1 i d (omega (arith, there)))

pub findings_in_order : (points : List Point) (lo hi : List ℕ) (places : List ℕ) (findings : List (Result Reading Side2))
    → places ≡ range_with_len 0 (length points) → AllZip (IsFinding points lo hi) places findings → AreFindings points lo hi findings
findings_in_order points lo hi places findings e h =
    let zipped = subst (λ l. AllZip (IsFinding points lo hi) l findings) e h in
    record {
      many = many_of (IsFinding points lo hi) 0 (length points) findings zipped;
      each = λ i d there. let same : 0 + i ≡ i = omega arith in
          subst (λ k. IsFinding points lo hi k (slice_index_or findings i d)) same (at_place (IsFinding points lo hi) 0 (length points) findings zipped i d there);
    }
