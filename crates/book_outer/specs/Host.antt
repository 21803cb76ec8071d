-- What the real folder does to the files that it has open, by what these tell of themselves.
use Rattle.std.specs.Prelude.{◌≡◌, ℕ, List, [], Option, Some, None, Result, Ok}
use Rattle.std.specs.Option.{option_map}
use Rattle.std.specs.Io.KnownBytes.{ReadConsumes}
use Rattle.book_outer.specs.declared.trouble.Trouble.{Trouble}
use Rattle.book_outer.specs.Folder.{Reading}
use Rattle.book_outer.specs.Sink.{Gets}

-- some file is being read, or none; its name isn't known
abbrev pub some_reading : {F : Type 0} → Option F → Option Reading
some_reading open_file = option_map (λ _. record { name = []; at = 0 }) open_file

-- some file is being written, or none; its name isn't known
abbrev pub some_writing : {F : Type 0} → Option F → Option (List ℕ)
some_writing open_file = option_map (λ _. []) open_file

-- The read took its bytes from what the open file had left, and none only at its end. After an error no file is open.
abbrev pub ReadsFile : {F : Type 0} → (F → Option (List ℕ)) → Option F → Option F → List ℕ → Result ℕ Trouble → Type 0
ReadsFile remaining (Some old) (Some new) buffer result = ReadConsumes (remaining old) (remaining new) result buffer
ReadsFile remaining (Some old) None buffer result = (n : ℕ) → result ≡ Ok n → ⊥
ReadsFile remaining None new buffer result = ⊥

-- The bytes stand behind what the open file held. After an error no file is open.
abbrev pub PutsFile : {F : Type 0} → (F → Option (List ℕ)) → Option F → Option F → List ℕ → Result (Unit {0}) Trouble → Type 0
PutsFile contents (Some old) (Some new) bytes result = Gets (contents old) (contents new) bytes result
PutsFile contents (Some old) None bytes result = result ≡ Ok tt → ⊥
PutsFile contents None new bytes result = ⊥
