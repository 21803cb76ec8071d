-- Lists that a loop builds, one element for each of another list.
use Rattle.std.proofs.Common.{◌≡◌, ℕ, ◌+◌, ◌<◌, ◌≤◌, List, [], ◌∷◌, ◌++◌, length, map, take, get_or, refl, sym, ap, ◌∙◌}
use Rattle.std.proofs.lemmas.List.{map_more, map_push, take_all}

pub built_more : {A X Y : Type 0} (view : A → Y) (f : X → Y) (xs : List X) (i : ℕ) (d : X) (old new : List A) (a : A) → i < length xs → map view old ≡ map f (take i xs) → new ≡ old ++ a ∷ [] → view a ≡ f (get_or xs i d) → map view new ≡ map f (take (i + 1) xs)
built_more {A} {X} {Y} view f xs i d old new a below h e same =
    ap (λ (ys : List A). map view ys) e ∙ map_push view old a ∙ rw (h, same) (sym (map_more f xs i d below))

pub listed_more : {X Y : Type 0} (f : X → Y) (xs : List X) (i : ℕ) (d : X) (old new : List Y) (a : Y) → i < length xs → old ≡ map f (take i xs) → new ≡ old ++ a ∷ [] → a ≡ f (get_or xs i d) → new ≡ map f (take (i + 1) xs)
listed_more f xs i d old new a below h e same = e ∙ rw (h, same) (sym (map_more f xs i d below))

pub map_map : {X Y Z : Type 0} (f : Y → Z) (g : X → Y) (xs : List X) → map (λ x. f (g x)) xs ≡ map f (map g xs)
map_map f g [] = refl
map_map f g (x ∷ xs) = ap (λ zs. f (g x) ∷ zs) (map_map f g xs)

-- at the end of the loop
pub built_whole : {X Y Z : Type 0} (f : Y → Z) (g : X → Y) (xs : List X) (i : ℕ) (ys : List Z) → length xs ≤ i → ys ≡ map (λ x. f (g x)) (take i xs) → ys ≡ map f (map g xs)
built_whole {X} f g xs i ys all h = h ∙ ap (λ (zs : List X). map (λ x. f (g x)) zs) (take_all i xs all) ∙ map_map f g xs
