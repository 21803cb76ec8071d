-- What the load of a file answers.
use Rattle.std.specs.Prelude.{◌≡◌, ℕ, ◌+◌, ◌<◌, ◌≤◌, ◌^◌, ◌-◌, List, length, Option, Some, None, Result, Ok, Err, IsErrOf}
use Rattle.book_outer.specs.declared.trouble.Trouble.{Trouble}
use Rattle.book_outer.specs.declared.trouble.Trouble.TheVariants as trouble
use Rattle.book_outer.specs.Cause.{one_more}
use Rattle.book_outer.specs.Folder.{Reading}
use Rattle.book_outer.specs.Files.{FileEntry, content}
use Rattle.book_files.specs.declared.loading.TheConstants.{MOST_BYTES}
use Rattle.book_files.specs.declared.loading.LoadError.{LoadError}
use Rattle.book_files.specs.declared.loading.LoadError.TheVariants.{ReadFault, TooLong, Memory}

-- the file is there, and has more than so many bytes
pub record IsLongerThan (most : ℕ) (files : List FileEntry) (name : List ℕ) : Type 0 where
  pub text : List ℕ
  pub there : content files name ≡ Some text
  pub long : most < length text

-- the file is there, and has more bytes than a file may have
abbrev pub HasLongText : List FileEntry → List ℕ → Type 0
HasLongText files name = IsLongerThan MOST_BYTES files name

-- what a trouble of the folder is to a load
abbrev pub error_of : Trouble → LoadError
error_of trouble.Failed = ReadFault
error_of trouble.Memory = Memory

-- The count of read faults never falls. It rises by one where the answer is ReadFault, and is as before at any other answer.
pub record HasReadCause {T : Type 0} (before now : ℕ) (result : Result T LoadError) : Type 0 where
  pub later : before ≤ now
  pub failed : IsErrOf result ReadFault → now ≡ one_more before
  pub kept : (IsErrOf result ReadFault → ⊥) → now ≡ before
  pub bounded : before ≤ 2 ^ 64 - 1 → now ≤ 2 ^ 64 - 1

-- What was taken of the file, where the files are known: at Ok the bytes that are answered, and at TooLong more than the most bytes.
abbrev pub HasTakenWithin : {T : Type 0} → ℕ → (T → ℕ) → Option (List FileEntry) → List ℕ → Result T LoadError → Option Reading → Type 0
HasTakenWithin most size None name result reading = Unit {0}
HasTakenWithin most size (Some files) name (Ok bytes) reading = reading ≡ Some (record { name = name; at = size bytes })
HasTakenWithin most size (Some files) name (Err TooLong) reading = (at : ℕ) × (reading ≡ Some (record { name = name; at = at })) × (most < at)
HasTakenWithin most size (Some files) name (Err ReadFault) reading = Unit {0}
HasTakenWithin most size (Some files) name (Err Memory) reading = Unit {0}

abbrev pub HasTaken : {T : Type 0} → (T → ℕ) → Option (List FileEntry) → List ℕ → Result T LoadError → Option Reading → Type 0
HasTaken size files name result reading = HasTakenWithin MOST_BYTES size files name result reading

-- Each read but the last took at least one byte, and none was made behind the end: at Ok there is at most one read more than bytes, and else at most one more than the most bytes.
abbrev pub HasFewReadsWithin : {T : Type 0} → ℕ → (T → ℕ) → ℕ → ℕ → Result T LoadError → Type 0
HasFewReadsWithin most size before now (Ok bytes) = now ≤ before + (size bytes + 1)
HasFewReadsWithin most size before now (Err error) = now ≤ before + (most + 1)

abbrev pub HasFewReads : {T : Type 0} → (T → ℕ) → ℕ → ℕ → Result T LoadError → Type 0
HasFewReads size before now result = HasFewReadsWithin MOST_BYTES size before now result
