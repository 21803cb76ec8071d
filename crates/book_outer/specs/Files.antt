-- Files of a folder: names with bytes.
use Rattle.std.specs.Prelude.{ℕ, List, [], ◌∷◌, ◌++◌, length, Option, slice_get, slice_set, option_map, bytes_eq, nat_lt, if◌then◌else◌, AllPairs, ◌≢◌}
use Rattle.std.specs.List.{position_or_len}

pub record FileEntry : Type 0 where
  pub name : List ℕ
  pub bytes : List ℕ

-- the number of the first file of that name among the files, counted from 0, or how many files there are
abbrev pub nth_of : List FileEntry → List ℕ → ℕ
nth_of files name = position_or_len (λ file. bytes_eq file.name name) files

-- what the file of that name holds, none where there is no such file
abbrev pub content : List FileEntry → List ℕ → Option (List ℕ)
content files name = option_map (λ file. file.bytes) (slice_get files (nth_of files name))

-- The files with these bytes in the file of that name, which stands last where there was none.
abbrev pub with_content : List FileEntry → List ℕ → List ℕ → List FileEntry
with_content files name bytes = if nat_lt (nth_of files name) (length files)
    then slice_set files (nth_of files name) (record { name = name; bytes = bytes })
    else files ++ record { name = name; bytes = bytes } ∷ []

-- no name stands twice
abbrev pub AreNamesDistinct : List FileEntry → Type 0
AreNamesDistinct files = AllPairs (λ a b. a.name ≢ b.name) files
