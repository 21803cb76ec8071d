-- What a put does to what is known of a sink.
use Rattle.std.specs.Prelude.{ℕ, List, take, Option, Result, Ok, Err}
use Rattle.std.specs.Io.KnownBytes.{Appends}
use Rattle.book_outer.specs.declared.trouble.Trouble.{Trouble}

-- at Ok all bytes stand behind what was written, and on an error a front of them does
abbrev pub Gets : Option (List ℕ) → Option (List ℕ) → List ℕ → Result (Unit {0}) Trouble → Type 0
Gets old new bytes (Ok done) = Appends old new bytes
Gets old new bytes (Err trouble) = (n : ℕ) × Appends old new (take n bytes)
