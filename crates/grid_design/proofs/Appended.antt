-- What loops and calls append one after the other.
use Rattle.std.proofs.Common.{◌≡◌, ℕ, ◌+◌, ◌<◌, List, [], ◌∷◌, ◌++◌, length, get_or, take, map, refl, sym, ◌∙◌, ap, append_assoc, arith}
use Rattle.std.specs.Prelude.{Result, Ok, Err, OnOk}
use Rattle.std.specs.List.{flat_map, range_with_len}
use Rattle.std.proofs.lemmas.List.{flat_map_more, take_more}
use Rattle.std.proofs.lemmas.List.FromFn.{map-range_with_len_more}

-- one more item of a list by numbers
pub pushed_more : {X : Type 0} (f : ℕ → X) (old now new : List X) (i : ℕ) → now ≡ old ++ map f (range_with_len 0 i) → new ≡ now ++ f i ∷ [] → new ≡ old ++ map f (range_with_len 0 (i + 1))
pushed_more f old now new i before push =
    push ∙ ap (λ xs. xs ++ f i ∷ []) before ∙ append_assoc old (map f (range_with_len 0 i)) (f i ∷ []) ∙ ap (λ xs. old ++ xs) (sym (map-range_with_len_more f 0 i i (omega arith)))

-- the numbers below one more
pub range_more : (i : ℕ) → range_with_len 0 (i + 1) ≡ range_with_len 0 i ++ i ∷ []
range_more i = sym (map_same (range_with_len 0 (i + 1))) ∙ map-range_with_len_more (λ k. k) 0 i i (omega arith) ∙ ap (λ xs. xs ++ i ∷ []) (map_same (range_with_len 0 i))
  where
    map_same : (xs : List ℕ) → map (λ k. k) xs ≡ xs
    map_same [] = refl
    map_same (x ∷ xs) = ap (λ ys. x ∷ ys) (map_same xs)

-- the pieces of one more number
pub pieces_more : {A : Type 0} (f : ℕ → List A) (old now new : List A) (i : ℕ) → now ≡ old ++ flat_map f (range_with_len 0 i) → new ≡ now ++ f i → new ≡ old ++ flat_map f (range_with_len 0 (i + 1))
pieces_more f old now new i before put =
    put ∙ ap (λ xs. xs ++ f i) before ∙ flat_map_more f old (range_with_len 0 i) i ∙ ap (λ xs. old ++ flat_map f xs) (sym (range_more i))

-- the piece of one more item
pub items_more : {X A : Type 0} (f : X → List A) (xs : List X) (i : ℕ) (x : X) (old now new : List A) → i < length xs → x ≡ get_or xs i x → now ≡ old ++ flat_map f (take i xs) → new ≡ now ++ f x
    → new ≡ old ++ flat_map f (take (i + 1) xs)
items_more f xs i x old now new there is before put =
    put ∙ ap (λ ys. ys ++ f x) before ∙ flat_map_more f old (take i xs) x
    ∙ ap (λ y. old ++ flat_map f (take i xs ++ y ∷ [])) is ∙ ap (λ ys. old ++ flat_map f ys) (sym (take_more xs i x there))

-- one piece behind another
pub behind : {A : Type 0} (old first second one two : List A) → one ≡ old ++ first → two ≡ one ++ second → two ≡ old ++ (first ++ second)
behind old first second one two e f = f ∙ ap (λ xs. xs ++ second) e ∙ append_assoc old first second

-- the last piece, where there is memory for it
pub behind_if : {A T E : Type 0} (result : Result T E) (old first second one two : List A) → one ≡ old ++ first → OnOk result (two ≡ one ++ second) → OnOk result (two ≡ old ++ (first ++ second))
behind_if (Ok done) old first second one two e f = behind old first second one two e f
behind_if (Err error) old first second one two e f = tt
