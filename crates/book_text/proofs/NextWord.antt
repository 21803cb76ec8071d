-- The next word of a line, by places.
use Rattle.std.proofs.Common.{◌≡◌, ℕ, ◌+◌, ◌-◌, ◌<◌, ◌≤◌, false, List, [], ◌∷◌, length, take, drop, get_or, sym, ap, ◌∙◌, arith}
use Rattle.std.specs.List.{slice_range, prefix_len, suffix_len, position_or_len}
use Rattle.std.proofs.lemmas.Bool.{ne_eqb}
use Rattle.std.proofs.lemmas.List.Sums.{prefix_len-le-length, prefix_len_stops}
use Rattle.book_text.specs.Lines.{is_blank, is_colon, words_of}
use Rattle.book_text.specs.Walk.{IsNextWord}
use Rattle.book_text.proofs.Places.{length-slice_range, take-slice_range, drop-slice_range, get_or-slice_range, slice_range-first}
use Rattle.book_text.proofs.Words.{words_of-colon, words_of-blanks, word_end, first_word}

-- a place of the text from which a line goes on up to `to`, and the place behind the blanks there
pub record IsBehindBlanks (text : List ℕ) (at to from : ℕ) : Type 0 where
  pub ordered : at ≤ to
  pub within : to ≤ length text
  pub skipped : from ≡ at + prefix_len is_blank (slice_range text at to)

module _ (text : List ℕ) (at to from : ℕ) (behind : IsBehindBlanks text at to from) where
  pub from-ahead : at ≤ from
  from-ahead = omega arith

  pub from-within : from ≤ to
  from-within = omega (arith, prefix_len-le-length is_blank (slice_range text at to), length-slice_range text at to behind.within)

  words_of-behind : words_of (slice_range text at to) ≡ words_of (slice_range text from to)
  words_of-behind = let n = prefix_len is_blank (slice_range text at to) in
      words_of-blanks (slice_range text at to) ∙ ap words_of (drop-slice_range text at from to n (sym behind.skipped) from-within)

  pub words_of-none : from ≡ to → words_of (slice_range text at to) ≡ []
  words_of-none end = let empty : to - from ≡ 0 = omega arith in words_of-behind ∙ ap words_of (ap (λ n. take n (drop from text)) empty)

  no_blank : from < to → is_blank (get_or text from 0) ≡ false
  no_blank some = let n = prefix_len is_blank (slice_range text at to) in
      ap is_blank (ap (λ i. get_or text i 0) behind.skipped ∙ sym (get_or-slice_range text at to n (omega arith)))
      ∙ prefix_len_stops is_blank (slice_range text at to) 0 (omega (arith, length-slice_range text at to behind.within))

  pub next_word-colon : from < to → get_or text from 0 ≡ 58 → IsNextWord text at to (record { from = from; to = from + 1 })
  next_word-colon some colon = record {
    ahead = from-ahead;
    some = omega arith;
    inside = omega arith;
    words = words_of-behind ∙ ap words_of first ∙ words_of-colon (slice_range text (from + 1) to)
        ∙ ap (λ word. word ∷ words_of (slice_range text (from + 1) to)) (sym word);
  }
    where
      nothing : (from + 1) - (from + 1) ≡ 0
      nothing = omega arith

      first : slice_range text from to ≡ 58 ∷ slice_range text (from + 1) to
      first = slice_range-first text from to some behind.within ∙ ap (λ b. b ∷ slice_range text (from + 1) to) colon

      word : slice_range text from (from + 1) ≡ 58 ∷ []
      word = slice_range-first text from (from + 1) (omega arith) (omega (arith, behind.within))
          ∙ ap (λ b. b ∷ slice_range text (from + 1) (from + 1)) colon ∙ ap (λ n. 58 ∷ take n (drop (from + 1) text)) nothing

  -- where the run at `from` ends, and where its word ends
  pub next_word-run : (stop end : ℕ) → from < to → (get_or text from 0 ≡ 58 → ⊥) → stop ≤ to → stop ≡ from + position_or_len is_blank (slice_range text from to)
      → end ≡ stop - suffix_len is_colon (slice_range text from stop) → IsNextWord text at to (record { from = from; to = end })
  next_word-run stop end some other stop_within stop_is end_is =
      let line = slice_range text from to in let n = position_or_len is_blank line in let m = word_end line in
      let first = first_word line (slice_range text (from + 1) to) (get_or text from 0) (slice_range-first text from to some behind.within)
      (no_blank some) (ne_eqb _ 58 other) in
      let run : suffix_len is_colon (take n line) ≡ suffix_len is_colon (slice_range text from stop) =
      ap (suffix_len is_colon) (take-slice_range text from stop to n (sym stop_is) stop_within) in
      let end_at : from + m ≡ end = omega (arith, first.some, run) in
      let end_within : end ≤ to = omega arith in
      record {
        ahead = from-ahead;
        some = omega (arith, first.some);
        inside = end_within;
        words = words_of-behind ∙ first.words
            ∙ ap (λ word. word ∷ words_of (drop m line)) (take-slice_range text from end to m end_at end_within)
            ∙ ap (λ rest. slice_range text from end ∷ words_of rest) (drop-slice_range text from end to m end_at end_within);
      }
