-- Keywords, numbers and count lines.
use Rattle.std.specs.Prelude.{ℕ, Bool, false, ◌&&◌, List, [], ◌∷◌, map, codes, bytes_eq, Option, Some, None}
use Rattle.std.specs.Char.{to_ascii_lowercase}
use Rattle.std.specs.List.{filter_map}

-- the word is the keyword, given in small letters, in any ASCII case
abbrev pub is_keyword : List ℕ → List ℕ → Bool
is_keyword key word = bytes_eq (map to_ascii_lowercase word) key

abbrev pub is_colon_word : List ℕ → Bool
is_colon_word word = bytes_eq word (codes ":")

-- the line's first words are UCLA, the kind and 1.0
abbrev pub is_header : List ℕ → List (List ℕ) → Bool
is_header kind (ucla ∷ name ∷ version ∷ rest) = is_keyword (codes "ucla") ucla && (is_keyword kind name && bytes_eq version (codes "1.0"))
is_header kind [] = false
is_header kind (ucla ∷ []) = false
is_header kind (ucla ∷ name ∷ []) = false

-- the line's first word is the keyword and its second a colon
abbrev pub is_keyed : List ℕ → List (List ℕ) → Bool
is_keyed key (word ∷ colon ∷ rest) = is_keyword key word && is_colon_word colon
is_keyed key [] = false
is_keyed key (word ∷ []) = false

-- the last of a list
abbrev pub last_of : {A : Type 0} → List A → Option A
last_of [] = None
last_of (x ∷ []) = Some x
last_of (x ∷ y ∷ rest) = last_of (y ∷ rest)

-- the last that the items have of a kind
abbrev pub latest : {I A : Type 0} → (I → Option A) → List I → Option A
latest kind items = last_of (filter_map kind items)
