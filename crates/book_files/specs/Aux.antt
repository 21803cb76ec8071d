-- The aux file: one line with the names of the other files.
use Rattle.std.specs.Prelude.{ℕ, Bool, ◌&&◌, ◌||◌, List, [], ◌∷◌, map, filter, codes, nat_eq}
use Rattle.std.specs.Char.{to_ascii_lowercase}
use Rattle.std.specs.List.{ends_with}
use Rattle.std.specs.Str.{is_utf8}

-- the name ends with the suffix, given in small letters, in any ASCII case
abbrev pub has_suffix : List ℕ → List ℕ → Bool
has_suffix suffix name = ends_with nat_eq (map to_ascii_lowercase name) suffix

-- a file name has one of the five suffixes and is UTF-8
abbrev pub is_file_name : List ℕ → Bool
is_file_name name = is_utf8 name && (has_suffix (codes ".nodes") name || (has_suffix (codes ".nets") name || (has_suffix (codes ".wts") name || (has_suffix (codes ".pl") name || has_suffix (codes ".scl") name))))

-- the names with a suffix
abbrev pub named : List ℕ → List (List ℕ) → List (List ℕ)
named suffix names = filter (has_suffix suffix) names

abbrev pub behind_two : List (List ℕ) → List (List ℕ)
behind_two (first ∷ second ∷ rest) = rest
behind_two [] = []
behind_two (first ∷ []) = []
