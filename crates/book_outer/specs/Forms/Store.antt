-- Files in memory, by their numbers.
use Rattle.std.specs.Prelude.{◌≡◌, ℕ, ◌<◌, List, [], length, map, Option, Some, None, string_bytes, slice_index_or, slice_set}
use Rattle.std.specs.Option.{ForSome}
use Rattle.book_outer.specs.Files.{FileEntry, nth_of, content}
use Rattle.book_outer.specs.Folder.{Reading}
use Rattle.book_outer.specs.declared.lists.File.{File}
use Rattle.book_outer.specs.declared.store.Open.{Open}

-- the name and the bytes of a file in memory
abbrev pub entry_of : File → FileEntry
entry_of file = record { name = string_bytes file.name; bytes = file.bytes.items }

abbrev pub entries : List File → List FileEntry
entries files = map entry_of files

abbrev pub entry_at : List FileEntry → ℕ → FileEntry
entry_at files at = slice_index_or files at (record { name = []; bytes = [] })

-- the files with these bytes in the file of a number
abbrev pub with_bytes : List FileEntry → ℕ → List ℕ → List FileEntry
with_bytes files at bytes = slice_set files at (record { name = (entry_at files at).name; bytes = bytes })

-- A file stands there, and it is the first of its name.
pub record IsFound (files : List FileEntry) (at : ℕ) : Type 0 where
  pub inside : at < length files
  pub first : nth_of files (entry_at files at).name ≡ at

-- The first file of that name stands there.
pub record IsNamed (files : List FileEntry) (name : List ℕ) (at : ℕ) : Type 0 where
  pub found : IsFound files at
  pub named : (entry_at files at).name ≡ name
  pub nth : nth_of files name ≡ at
  pub holds : content files name ≡ Some (entry_at files at).bytes

-- the file that is being read, and where
abbrev pub reading_of : List FileEntry → Option Open → Option Reading
reading_of files None = None
reading_of files (Some open_file) = Some (record { name = (entry_at files open_file.file).name; at = open_file.at })

-- the name of the file that is being written
abbrev pub writing_of : List FileEntry → Option ℕ → Option (List ℕ)
writing_of files None = None
writing_of files (Some at) = Some (entry_at files at).name

-- the files that are read and written are found
pub record AreOpenFound (files : List FileEntry) (reading : Option Open) (writing : Option ℕ) : Type 0 where
  pub read : ForSome reading (λ open_file. IsFound files open_file.file)
  pub written : ForSome writing (IsFound files)
