-- What stands where a line ends.
use Rattle.std.proofs.Common.{◌≡◌, ◌⊎◌, ℕ, suc, ◌+◌, ◌-◌, ◌<◌, ◌≤◌, Bool, true, false, cond, not, eqb, List, [], ◌∷◌, length, get_or, drop, refl, sym, ◌∙◌, ap, subst, inl, inr, arith, length-drop}
use Rattle.std.specs.List.{position_or_len}
use Rattle.std.proofs.lemmas.Bool.{eqb-true}
use Rattle.std.proofs.lemmas.List.{get_or-drop}
use Rattle.book_text.proofs.NextLine.{IsLineAt}

-- the first element that passes does
found_here : (p : ℕ → Bool) (x : ℕ) (xs : List ℕ) → (position_or_len p xs < length xs → p (get_or xs (position_or_len p xs) 0) ≡ true) → (b : Bool) → p x ≡ b
    → cond (not b) (1 + position_or_len p xs) 0 < suc (length xs) → p (get_or (x ∷ xs) (cond (not b) (1 + position_or_len p xs) 0) 0) ≡ true
found_here p x xs later true e h = e
found_here p x xs later false e h =
    let P : ℕ → Type 0 = λ k. p (get_or (x ∷ xs) k 0) ≡ true in
    let next : suc (position_or_len p xs) ≡ 1 + position_or_len p xs = omega arith in
    subst P next (later (omega arith))

found : (p : ℕ → Bool) (xs : List ℕ) → position_or_len p xs < length xs → p (get_or xs (position_or_len p xs) 0) ≡ true
found p [] h = absurd (omega arith)
found p (x ∷ xs) h = found_here p x xs (found p xs) (p x) refl h

-- behind a line stands its end, or nothing
pub behind_end : (text : List ℕ) (start end next : ℕ) → IsLineAt text start end next → (next ≡ length text) ⊎ (get_or text (next - 1) 0 ≡ 10)
behind_end text start end next line = by_place cases where
  cases : (length text ≤ end + 1) ⊎ (end + 1 < length text + 0)
  cases = grind arith

  by_place : (length text ≤ end + 1) ⊎ (end + 1 < length text + 0) → (next ≡ length text) ⊎ (get_or text (next - 1) 0 ≡ 10)
  by_place (inl last) = inl (omega (arith, line.followed))
  by_place (inr inner) =
      let rest = drop start text in
      let n = position_or_len (λ b. eqb b 10) rest in
      let inside : n < length rest = omega (arith, line.ended, length-drop start text) in
      let ten = eqb-true _ 10 (found (λ b. eqb b 10) rest inside) in
      let place : next - 1 ≡ start + n = omega (arith, line.followed, line.ended) in
      inr (ap (λ k. get_or text k 0) place ∙ sym (get_or-drop start text n 0) ∙ ten)

-- a line that is there starts at the first place or behind an end
pub still_starts : (text : List ℕ) (at start : ℕ) → start < length text → (start ≡ at) ⊎ ((start ≡ length text) ⊎ (get_or text (start - 1) 0 ≡ 10)) → (start ≡ at) ⊎ (get_or text (start - 1) 0 ≡ 10)
still_starts text at start h (inl first) = inl first
still_starts text at start h (inr (inl end)) = absurd (omega arith)
still_starts text at start h (inr (inr ten)) = inr ten
