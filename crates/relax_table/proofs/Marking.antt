-- The mark words of a new table: each has the bits of its points, and no others.
use Rattle.std.proofs.Common.{◌≡◌, ℕ, ◌+◌, ◌-◌, ◌/◌, ◌^◌, ◌<◌, ◌≤◌, List, [], ◌∷◌, ◌++◌, length, ap, ◌∙◌, arith}
use borrow.Author.Count.{below_more}
use Rattle.std.specs.List.{slice_index}
use Rattle.std.proofs.lemmas.List.{get_or_append_left}
use Rattle.std.proofs.Math.Seq.{get_or-append_seam}
use Rattle.std.proofs.lemmas.Nat.Bits.{ones_shr}
use Rattle.relax_table.specs.Forms.Chase.{marks_at}

-- the word of all ones, shifted down to as many as there are points
pub marks_shifted : (points : ℕ) → points ≤ 64 → (2 ^ 64 - 1) / 2 ^ (64 - points) ≡ 2 ^ points - 1
marks_shifted points few =
    let left : 64 - (64 - points) ≡ points = omega arith in
    ones_shr 64 (64 - points) (omega arith) ∙ ap (λ (k : ℕ). 2 ^ k - 1) left

pub marks_more : (n word x : ℕ) (words new : List ℕ) → length words ≡ n + word → new ≡ words ++ x ∷ [] → x ≡ marks_at n word → ((q : ℕ) → q < word → slice_index words (n + q) ≡ marks_at n q) → (q : ℕ) → q < word + 1 → slice_index new (n + q) ≡ marks_at n q
marks_more n word x words new all put is before =
    below_more (λ q. slice_index new (n + q) ≡ marks_at n q) word
    (λ q below. rw put (get_or_append_left words (x ∷ []) 0 (n + q) (omega arith) ∙ before q below))
    (rw (put, ← all) (get_or-append_seam words x [] 0 ∙ is))
