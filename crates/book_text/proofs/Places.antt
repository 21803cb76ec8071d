-- Parts of a text by places: a part of a part, and the first byte of one.
use Rattle.std.proofs.Common.{◌≡◌, ℕ, ◌+◌, ◌-◌, ◌<◌, ◌≤◌, List, ◌∷◌, length, take, drop, get_or, ap, ◌∙◌, arith, suc}
use Rattle.std.specs.List.{slice_range}
use Rattle.std.proofs.lemmas.List.{length-drop, length-take, take-take, drop-drop, drop_more, drop-take, get_or-take, get_or-drop}

pub length-slice_range : (text : List ℕ) (from to : ℕ) → to ≤ length text → length (slice_range text from to) ≡ to - from
length-slice_range text from to le = length-take (to - from) (drop from text) ∙ omega (arith, length-drop from text)

pub take-slice_range : (text : List ℕ) (from mid to n : ℕ) → from + n ≡ mid → mid ≤ to → take n (slice_range text from to) ≡ slice_range text from mid
take-slice_range text from mid to n e le = take-take n (to - from) (drop from text) (omega arith) ∙ ap (λ k. take k (drop from text)) (omega arith)

pub drop-slice_range : (text : List ℕ) (from mid to n : ℕ) → from + n ≡ mid → mid ≤ to → drop n (slice_range text from to) ≡ slice_range text mid to
drop-slice_range text from mid to n e le =
    ap (λ k. drop n (take k (drop from text))) (omega arith) ∙ drop-take n (to - mid) (drop from text)
    ∙ ap (take (to - mid)) (drop-drop n from text ∙ ap (λ k. drop k text) e)

pub slice_range-first : (text : List ℕ) (from to : ℕ) → from < to → to ≤ length text → slice_range text from to ≡ get_or text from 0 ∷ slice_range text (from + 1) to
slice_range-first text from to lt le =
    let more : to - from ≡ suc (to - (from + 1)) = omega arith in
    ap (take (to - from)) (drop_more text from 0 (omega arith)) ∙ ap (λ k. take k (get_or text from 0 ∷ drop (from + 1) text)) more

pub get_or-slice_range : (text : List ℕ) (from to n : ℕ) → from + n < to → get_or (slice_range text from to) n 0 ≡ get_or text (from + n) 0
get_or-slice_range text from to n lt = get_or-take (to - from) (drop from text) n 0 (omega arith) ∙ get_or-drop from text n 0
