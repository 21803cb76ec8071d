-- What is known of a folder and of a sink.
use Rattle.std.specs.Prelude.{ℕ, List, Option}
use Rattle.book_outer.specs.Files.{FileEntry}
use Rattle.book_outer.specs.Folder.{Reading}

-- The files, where they are known; the file that is being read and the name of the one that is being written, which are known where
-- the files are; how often `begin` was called, and how often with a name that isn't among the known files; how often `read` was
-- called; how often `begin` and `read` failed, and how often `create` and `put` did.
pub record FolderState : Type 0 where
  pub files : Option (List FileEntry)
  pub reading : Option Reading
  pub writing : Option (List ℕ)
  pub begun : ℕ
  pub missed : ℕ
  pub reads : ℕ
  pub read_faults : ℕ
  pub write_faults : ℕ

-- what was written, where that is known, and how often `put` failed
pub record SinkState : Type 0 where
  pub written : Option (List ℕ)
  pub faults : ℕ
