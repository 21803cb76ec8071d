-- Where the files of a design stand.
use Rattle.std.specs.Prelude.{ℕ, ◌-◌, ◌==◌, Bool, not, List, ◌++◌, length, take}
use Rattle.std.specs.List.{suffix_len}

abbrev pub is_no_slash : ℕ → Bool
is_no_slash b = not (b == 47)

-- the part of a name up to and with its last slash
abbrev pub folder_of : List ℕ → List ℕ
folder_of name = take (length name - suffix_len is_no_slash name) name

-- the name of a file that stands beside the design's aux file
abbrev pub beside : List ℕ → List ℕ → List ℕ
beside design name = folder_of design ++ name
