-- What the calls of a folder do to what is known of it. Where its files aren't known, only whether a file is open is.
use Rattle.std.specs.Prelude.{◌≡◌, ℕ, ◌+◌, ◌≤◌, List, [], ◌++◌, length, take, drop, Option, Some, None, IsSome, Result, Ok, Err, is_some, unwrap_or, if◌then◌else◌}
use Rattle.book_outer.specs.declared.trouble.Trouble.{Trouble}
use Rattle.book_outer.specs.Cause.{one_more}
use Rattle.book_outer.specs.Files.{FileEntry, content, with_content}

-- the file that is being read, and how many of its bytes were read
pub record Reading : Type 0 where
  pub name : List ℕ
  pub at : ℕ

-- the bytes of a file, none of an absent one
abbrev pub bytes_of : List FileEntry → List ℕ → List ℕ
bytes_of files name = unwrap_or (content files name) []

-- what is left to be read
abbrev pub rest_of : List FileEntry → Reading → List ℕ
rest_of files reading = drop reading.at (bytes_of files reading.name)

-- `begin`: at Ok the file is there and is read from its first byte; after an error no file is begun.
abbrev pub Begins : Option (List FileEntry) → List ℕ → Result (Unit {0}) Trouble → Option Reading → Type 0
Begins None name (Ok done) reading = IsSome reading
Begins (Some files) name (Ok done) reading = IsSome (content files name) × (reading ≡ Some (record { name = name; at = 0 }))
Begins files name (Err trouble) reading = reading ≡ None

-- n bytes of what is left stand at the buffer's front; none only at the end
pub record TakesFront (rest old new : List ℕ) (n : ℕ) : Type 0 where
  pub there : n ≤ length rest
  pub front : new ≡ take n rest ++ drop n old
  pub end : n ≡ 0 → rest ≡ []

-- what a read of n bytes does to the file that is being read
abbrev pub ReadsOn : Option (List FileEntry) → Option Reading → List ℕ → List ℕ → ℕ → Option Reading → Type 0
ReadsOn None old buffer after n new = IsSome new
ReadsOn (Some files) None buffer after n new = IsSome new
ReadsOn (Some files) (Some reading) buffer after n new = TakesFront (rest_of files reading) buffer after n × (new ≡ Some (record { name = reading.name; at = reading.at + n }))

-- `read`: at Ok the next bytes stand in the buffer; after an error no file is begun.
abbrev pub Reads : Option (List FileEntry) → Option Reading → List ℕ → List ℕ → Result ℕ Trouble → Option Reading → Type 0
Reads files old buffer after (Ok n) new = (n ≤ length buffer) × ReadsOn files old buffer after n new
Reads files old buffer after (Err trouble) new = new ≡ None

-- `create`: at Ok the file is there and empty, and is being written; after an error the files are as before and none is.
abbrev pub Creates : Option (List FileEntry) → Option (List FileEntry) → List ℕ → Result (Unit {0}) Trouble → Option (List ℕ) → Type 0
Creates None new name (Ok done) writing = (new ≡ None) × IsSome writing
Creates (Some files) new name (Ok done) writing = (new ≡ Some (with_content files name [])) × (writing ≡ Some name)
Creates old new name (Err trouble) writing = (new ≡ old) × (writing ≡ None)

-- the bytes stand behind what the file that is being written held
abbrev pub Grows : Option (List FileEntry) → Option (List ℕ) → List ℕ → Option (List FileEntry) → Type 0
Grows None writing bytes new = new ≡ None
Grows (Some files) None bytes new = new ≡ Some files
Grows (Some files) (Some name) bytes new = new ≡ Some (with_content files name (bytes_of files name ++ bytes))

-- `put`: at Ok all bytes stand behind what the file held, and on an error a front of them does.
abbrev pub Puts : Option (List FileEntry) → Option (List ℕ) → List ℕ → Result (Unit {0}) Trouble → Option (List FileEntry) → Option (List ℕ) → Type 0
Puts old writing bytes (Ok done) new writing' = Grows old writing bytes new × (writing' ≡ writing)
Puts old writing bytes (Err trouble) new writing' = (n : ℕ) × Grows old writing (take n bytes) new

-- the count of calls of `begin` with a name that isn't among the known files, after one more call
abbrev pub missed_after : Option (List FileEntry) → List ℕ → ℕ → ℕ
missed_after None name missed = missed
missed_after (Some files) name missed = if is_some (content files name) then missed else one_more missed
