-- What a folder and a sink in memory hold.
use Rattle.std.specs.Prelude.{ℕ, Bool, List, length, Option, Some, None, min, ◌==◌}
use Rattle.std.specs.List.{list_any}
use Rattle.book_outer.specs.Cause.{one_more}
use Rattle.book_outer.specs.Files.{FileEntry}
use Rattle.book_outer.specs.Folder.{Reading, rest_of}

-- a folder in memory that never fails: its files, the one that is being read, the one that is being written, and its counts
pub record StoredFiles : Type 0 where
  pub files : List FileEntry
  pub reading : Option Reading
  pub writing : Option (List ℕ)
  pub begun : ℕ
  pub missed : ℕ
  pub reads : ℕ

-- a folder in memory: its files, the numbers of the calls that are to fail, how many calls there were, how many bytes a read gives at
-- most, and the rest
pub record MemoryFiles : Type 0 where
  pub files : List FileEntry
  pub failing : List ℕ
  pub calls : ℕ
  pub most : ℕ
  pub reading : Option Reading
  pub writing : Option (List ℕ)
  pub begun : ℕ
  pub missed : ℕ
  pub reads : ℕ
  pub read_faults : ℕ
  pub write_faults : ℕ

-- a sink in memory
pub record MemoryBytes : Type 0 where
  pub written : List ℕ
  pub failing : List ℕ
  pub calls : ℕ
  pub faults : ℕ

-- whether the next call is to fail, after so many calls
abbrev pub is_to_fail : List ℕ → ℕ → Bool
is_to_fail failing calls = list_any (λ number. number == one_more calls) failing

-- how many bytes a read gives: the least of what it may give, the buffer's length and what is left of the file
abbrev pub given : ℕ → List FileEntry → Option Reading → List ℕ → ℕ
given most files None buffer = 0
given most files (Some reading) buffer = min most (min (length buffer) (length (rest_of files reading)))
