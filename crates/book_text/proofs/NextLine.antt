-- The line at a place of a text, and the place behind it.
use Rattle.std.proofs.Common.{◌≡◌, ℕ, ◌+◌, ◌<◌, true, false, cond, min, List, ◌∷◌, length, take, drop, sym, ap, ◌∙◌, arith}
use Rattle.std.specs.List.{slice_range}
use Rattle.std.proofs.lemmas.List.{length-drop, drop-drop, drop_min}
use Rattle.book_text.specs.Lines.{words_of, has_content, content_from}
use Rattle.book_text.proofs.TextLines.{first_end, content_from-first}

-- the line that starts at a place ends at `end`, and the next one starts at `next`
pub record IsLineAt (text : List ℕ) (start end next : ℕ) : Type 0 where
  pub some : start < length text
  pub ended : end ≡ start + first_end (drop start text)
  pub followed : next ≡ min (length text) (end + 1)

content_from-line : (text : List ℕ) (start end next number : ℕ) → IsLineAt text start end next
    → content_from number (drop start text) ≡ cond (has_content (words_of (slice_range text start end)))
    (record { number = number; words = words_of (slice_range text start end) } ∷ content_from (number + 1) (drop next text))
    (content_from (number + 1) (drop next text))
content_from-line text start end next number line =
    let rest = drop start text in let n = first_end rest in
    let is_line : take n rest ≡ slice_range text start end = ap (λ k. take k rest) (omega (arith, line.ended)) in
    let is_rest : drop (n + 1) rest ≡ drop next text =
    drop-drop (n + 1) start text ∙ ap (λ k. drop k text) (omega (arith, line.ended)) ∙ sym (drop_min (end + 1) text)
    ∙ ap (λ k. drop k text) (omega (arith, line.followed)) in
    content_from-first number rest (omega (arith, line.some, length-drop start text))
    ∙ ap (λ bytes. cond (has_content (words_of bytes)) (record { number = number; words = words_of bytes } ∷ content_from (number + 1) (drop (n + 1) rest))
    (content_from (number + 1) (drop (n + 1) rest))) is_line
    ∙ ap (λ left. cond (has_content (words_of (slice_range text start end)))
    (record { number = number; words = words_of (slice_range text start end) } ∷ content_from (number + 1) left) (content_from (number + 1) left)) is_rest

pub content_from-kept : (text : List ℕ) (start end next number : ℕ) → IsLineAt text start end next → has_content (words_of (slice_range text start end)) ≡ true
    → content_from number (drop start text) ≡ record { number = number; words = words_of (slice_range text start end) } ∷ content_from (number + 1) (drop next text)
content_from-kept text start end next number line kept = content_from-line text start end next number line
    ∙ ap (λ b. cond b (record { number = number; words = words_of (slice_range text start end) } ∷ content_from (number + 1) (drop next text)) (content_from (number + 1) (drop next text))) kept

pub content_from-passed : (text : List ℕ) (start end next number : ℕ) → IsLineAt text start end next → has_content (words_of (slice_range text start end)) ≡ false
    → content_from number (drop start text) ≡ content_from (number + 1) (drop next text)
content_from-passed text start end next number line passed = content_from-line text start end next number line
    ∙ ap (λ b. cond b (record { number = number; words = words_of (slice_range text start end) } ∷ content_from (number + 1) (drop next text)) (content_from (number + 1) (drop next text))) passed
