-- A name without a final `.aux`.
use Rattle.std.proofs.Common.{◌≡◌, ℕ, ◌-◌, Bool, true, false, refl, List, ◌++◌, length, take, drop, sym, ap, ◌∙◌}
use Rattle.std.specs.Prelude.{codes, bytes_eq, Some, None}
use Rattle.std.specs.Str.Pattern.{FindsTextSuffix}
use Rattle.std.proofs.lemmas.List.{append_cancel_left, take-append-drop}
use Rattle.std.proofs.lemmas.Slice.Eq.{bytes_eq-Decides}
use Rattle.proud_words.specs.Request.{stem}

abbrev ending : List ℕ
ending = codes ".aux"

-- a name that ends so
pub stem-cut : (name cut : List ℕ) (n : ℕ) → FindsTextSuffix ending name (Some n) → cut ≡ take (length name - n) name → cut ≡ stem name
stem-cut name cut n found is =
    let four : n ≡ 4 = found.0 in
    let k = length name - 4 in
    let split : name ≡ take k name ++ ending = found.1 ∙ ap (λ (m : ℕ). take (length name - m) name ++ ending) four in
    let tail : drop k name ≡ ending = append_cancel_left (take k name) (drop k name) ending (take-append-drop k name ∙ split) in
    let yes : bytes_eq (drop k name) ending ≡ true = (bytes_eq-Decides (drop k name) ending).1 tail in
    is ∙ ap (λ (m : ℕ). take (length name - m) name) four ∙ rw yes refl

-- and one that doesn't
pub stem-kept : (name : List ℕ) → FindsTextSuffix ending name None → name ≡ stem name
stem-kept name none = by_test (bytes_eq (drop (length name - 4) name) ending) refl where
  by_test : (b : Bool) → bytes_eq (drop (length name - 4) name) ending ≡ b → name ≡ stem name
  by_test true e =
      let k = length name - 4 in
      let tail : drop k name ≡ ending = (bytes_eq-Decides (drop k name) ending).0 e in
      absurd (none (take k name) (sym (take-append-drop k name) ∙ ap (λ (end : List ℕ). take k name ++ end) tail))
  by_test false e = rw e refl
