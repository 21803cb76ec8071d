-- The rules of the aux file: one line with the names of the other files.
use Rattle.std.specs.Prelude.{◌≡◌, ◌≢◌, ◌⊎◌, ℕ, ◌<◌, List, [], ◌∷◌, length, codes, option_to_list, Contains, IsTrue, IsFalse}
use Rattle.std.specs.List.{list_all}
use Rattle.book_text.specs.Lines.{NumberedLine}
use Rattle.book_files.specs.declared.fault.TextKind.{TextKind}
use Rattle.book_files.specs.declared.fault.TextKind.TheVariants.{BadHeader, BadLine, BadNumber, CountMismatch}
use Rattle.book_files.specs.Grammar.{Grammar}
use Rattle.book_files.specs.Words.{is_keyed}
use Rattle.book_files.specs.Shapes.{IsEmptyFault}
use Rattle.book_files.specs.Entries.{AuxEntry}
use Rattle.book_files.specs.Aux.{is_file_name, named, behind_two}

-- Each name is UTF-8 and has one of the five suffixes. Four of them stand exactly once, `.wts` at most once.
pub record AreFileNames (names : List (List ℕ)) (entry : AuxEntry) : Type 0 where
  pub each : IsTrue (list_all is_file_name names)
  pub nodes : named (codes ".nodes") names ≡ entry.nodes ∷ []
  pub nets : named (codes ".nets") names ≡ entry.nets ∷ []
  pub wts : named (codes ".wts") names ≡ option_to_list entry.wts
  pub pl : named (codes ".pl") names ≡ entry.pl ∷ []
  pub scl : named (codes ".scl") names ≡ entry.scl ∷ []

-- one of the four suffixes that are needed doesn't stand exactly once
abbrev pub IsMissingOrTwice : List ℕ → List (List ℕ) → Type 0
IsMissingOrTwice suffix names = Contains (codes ".nodes" ∷ codes ".nets" ∷ codes ".pl" ∷ codes ".scl" ∷ []) suffix × (length (named suffix names) ≢ 1)

-- a name is no file's, a needed suffix is missing, or a suffix stands twice
abbrev pub AreBadNames : List (List ℕ) → Type 0
AreBadNames names = IsFalse (list_all is_file_name names) ⊎ (((suffix : List ℕ) × IsMissingOrTwice suffix names) ⊎ (1 < length (named (codes ".wts") names)))

-- the first line gives the names, and there is no second
pub record IsAuxItem (before : List AuxEntry) (line : NumberedLine) (entry : AuxEntry) : Type 0 where
  pub first : before ≡ []
  pub keyed : IsTrue (is_keyed (codes "rowbasedplacement") line.words)
  pub names : AreFileNames (behind_two line.words) entry

abbrev pub IsAuxLineFault : List AuxEntry → NumberedLine → TextKind → Type 0
IsAuxLineFault [] line BadHeader = IsFalse (is_keyed (codes "rowbasedplacement") line.words)
IsAuxLineFault [] line BadLine = IsTrue (is_keyed (codes "rowbasedplacement") line.words) × AreBadNames (behind_two line.words)
IsAuxLineFault [] line BadNumber = ⊥
IsAuxLineFault [] line (CountMismatch stated found) = ⊥
IsAuxLineFault (entry ∷ before) line BadHeader = ⊥
IsAuxLineFault (entry ∷ before) line BadLine = Unit {0}
IsAuxLineFault (entry ∷ before) line BadNumber = ⊥
IsAuxLineFault (entry ∷ before) line (CountMismatch stated found) = ⊥

-- the one line's names; with no line at all there is no header
abbrev pub IsAuxFile : List AuxEntry → AuxEntry → Type 0
IsAuxFile [] entry = ⊥
IsAuxFile (first ∷ rest) entry = entry ≡ first

abbrev pub aux_grammar : Grammar AuxEntry AuxEntry
aux_grammar = record { IsItem = IsAuxItem; IsLineFault = IsAuxLineFault; IsFile = IsAuxFile; IsEndFault = IsEmptyFault }
