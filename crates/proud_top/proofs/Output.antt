-- Other bytes in the file of a name, and what comes of an output file that is made and put.
use Rattle.std.proofs.Common.{◌≡◌, ℕ, suc, ◌+◌, Bool, true, false, cond, List, [], ◌∷◌, ◌++◌, length, refl, sym, ◌∙◌, ap, subst, inl, inr, arith}
use Rattle.std.specs.Prelude.{Option, Some, None, IsSome, Result, Ok, Err, bytes_eq, nat_lt, slice_set, slice_get, take, option_map, unwrap_or}
use Rattle.std.proofs.lemmas.Bool.{cases_lt, lt-ltb, le-ltb}
use Rattle.std.proofs.lemmas.Slice.Eq.{bytes_eq-Decides}
use Rattle.book_outer.specs.declared.trouble.Trouble.{Trouble}
use Rattle.book_outer.specs.declared.trouble.Trouble.TheVariants.{Failed, Memory}
use Rattle.book_outer.specs.Cause.{HasCause}
use Rattle.book_outer.specs.Files.{FileEntry, nth_of, with_content}
use Rattle.book_outer.specs.Folder.{Creates, Puts, bytes_of}
use Rattle.book_outer.specs.State.{FolderState}
use Rattle.proud_top.specs.Statuses.{ReadsNothing}
use Rattle.proud_top.specs.Forms.Saying.{Writes}

abbrev file_of : List ℕ → List ℕ → FileEntry
file_of name bytes = record { name = name; bytes = bytes }

itself : (name : List ℕ) → bytes_eq name name ≡ true
itself name = (bytes_eq-Decides name name).1 refl

-- behind one more file
shift : (file : FileEntry) (files : List FileEntry) (new : FileEntry) (k : ℕ)
    → cond (nat_lt (1 + k) (suc (length files))) (slice_set (file ∷ files) (1 + k) new) (file ∷ (files ++ new ∷ []))
    ≡ file ∷ cond (nat_lt k (length files)) (slice_set files k new) (files ++ new ∷ [])
shift file files new k =
    let more : 1 + k ≡ suc k = omega arith in
    elim (cases_lt k (length files)) [
      | inl inside ↦
          let here : nat_lt k (length files) ≡ true = lt-ltb k (length files) inside in
          let there : nat_lt (1 + k) (suc (length files)) ≡ true = lt-ltb (1 + k) (suc (length files)) (omega arith) in
          rw (there, here) (ap (λ (i : ℕ). slice_set (file ∷ files) i new) more)
      | inr past ↦
          let here : nat_lt k (length files) ≡ false = le-ltb k (length files) past in
          let there : nat_lt (1 + k) (suc (length files)) ≡ false = le-ltb (1 + k) (suc (length files)) (omega arith) in
          rw (there, here) refl
    ]

-- the first file is it, or isn't
with_first : (file : FileEntry) (files : List FileEntry) (name bytes : List ℕ) → bytes_eq file.name name ≡ true → with_content (file ∷ files) name bytes ≡ file_of name bytes ∷ files
with_first file files name bytes e =
    let inside : nat_lt 0 (suc (length files)) ≡ true = lt-ltb 0 (suc (length files)) (omega arith) in
    rw (e, inside) refl

with_later : (file : FileEntry) (files : List FileEntry) (name bytes : List ℕ) → bytes_eq file.name name ≡ false → with_content (file ∷ files) name bytes ≡ file ∷ with_content files name bytes
with_later file files name bytes e = rw e (shift file files (file_of name bytes) (nth_of files name))

-- bytes over none
over_step : (file : FileEntry) (files : List FileEntry) (name bytes : List ℕ) (b : Bool) → bytes_eq file.name name ≡ b → with_content (with_content files name []) name bytes ≡ with_content files name bytes
    → with_content (with_content (file ∷ files) name []) name bytes ≡ with_content (file ∷ files) name bytes
over_step file files name bytes true e ih =
    ap (λ (fs : List FileEntry). with_content fs name bytes) (with_first file files name [] e) ∙ with_first (file_of name []) files name bytes (itself name) ∙ sym (with_first file files name bytes e)
over_step file files name bytes false e ih =
    ap (λ (fs : List FileEntry). with_content fs name bytes) (with_later file files name [] e) ∙ with_later file (with_content files name []) name bytes e
    ∙ ap (λ (fs : List FileEntry). file ∷ fs) ih ∙ sym (with_later file files name bytes e)

over_empty : (files : List FileEntry) (name bytes : List ℕ) → with_content (with_content files name []) name bytes ≡ with_content files name bytes
over_empty [] name bytes = with_first (file_of name []) [] name bytes (itself name)
over_empty (file ∷ files) name bytes = over_step file files name bytes (bytes_eq file.name name) refl (over_empty files name bytes)

-- no bytes are there before
bytes_first : (file : FileEntry) (files : List FileEntry) (name : List ℕ) → bytes_eq file.name name ≡ true → bytes_of (file ∷ files) name ≡ file.bytes
bytes_first file files name e = rw e refl

bytes_later : (file : FileEntry) (files : List FileEntry) (name : List ℕ) → bytes_eq file.name name ≡ false → bytes_of (file ∷ files) name ≡ bytes_of files name
bytes_later file files name e = rw e (behind (nth_of files name)) where
  behind : (k : ℕ) → unwrap_or (option_map (λ (f : FileEntry). f.bytes) (slice_get (file ∷ files) (1 + k))) [] ≡ unwrap_or (option_map (λ (f : FileEntry). f.bytes) (slice_get files k)) []
  behind k =
      let more : 1 + k ≡ suc k = omega arith in
      ap (λ (i : ℕ). unwrap_or (option_map (λ (f : FileEntry). f.bytes) (slice_get (file ∷ files) i)) []) more

empty_there : (files : List FileEntry) (name : List ℕ) → bytes_of (with_content files name []) name ≡ []
empty_there [] name = bytes_first (file_of name []) [] name (itself name)
empty_there (file ∷ files) name = step file files name (bytes_eq file.name name) refl (empty_there files name) where
  step : (file : FileEntry) (files : List FileEntry) (name : List ℕ) (b : Bool) → bytes_eq file.name name ≡ b → bytes_of (with_content files name []) name ≡ [] → bytes_of (with_content (file ∷ files) name []) name ≡ []
  step file files name true e ih = ap (λ (fs : List FileEntry). bytes_of fs name) (with_first file files name [] e) ∙ bytes_first (file_of name []) files name (itself name)
  step file files name false e ih = ap (λ (fs : List FileEntry). bytes_of fs name) (with_later file files name [] e) ∙ bytes_later file (with_content files name []) name e ∙ ih

-- what a put makes of a file that was just made
puts_over : (files : List FileEntry) (name bytes : List ℕ) → with_content (with_content files name []) name (bytes_of (with_content files name []) name ++ bytes) ≡ with_content files name bytes
puts_over files name bytes = ap (λ (front : List ℕ). with_content (with_content files name []) name (front ++ bytes)) (empty_there files name) ∙ over_empty files name bytes

-- the file of the name holds these bytes of the files
abbrev Holds : Option (List FileEntry) → Option (List FileEntry) → List ℕ → List ℕ → Type 0
Holds old new name bytes = new ≡ option_map (λ files. with_content files name bytes) old

-- what it answers, of the files
abbrev HoldsPut : Option (List FileEntry) → Option (List FileEntry) → List ℕ → List ℕ → Result (Unit {0}) Trouble → Type 0
HoldsPut old new name bytes (Ok done) = Holds old new name bytes
HoldsPut old new name bytes (Err trouble) = (n : ℕ) × Holds old new name (take n bytes)

-- a file that is made may be written
pub may_write : (old new : Option (List FileEntry)) (name : List ℕ) (done : Unit {0}) (writing : Option (List ℕ)) → Creates old new name (Ok done) writing → IsSome writing
may_write None new name done writing h = h.1
may_write (Some files) new name done writing h =
    let P : Option (List ℕ) → Type 0 = λ o. IsSome o in
    subst P (sym h.1) refl

-- a file that can't be made leaves the files
pub not_created : (old new : Option (List FileEntry)) (name : List ℕ) (trouble : Trouble) (writing : Option (List ℕ)) → Creates old new name (Err trouble) writing → new ≡ old
not_created None new name trouble writing h = h.0
not_created (Some files) new name trouble writing h = h.0

unknown_put : (writing writing' : Option (List ℕ)) (new : Option (List FileEntry)) (name bytes : List ℕ) (result : Result (Unit {0}) Trouble) → Puts None writing bytes result new writing' → HoldsPut None new name bytes result
unknown_put writing writing' new name bytes (Ok done) h = h.0
unknown_put writing writing' new name bytes (Err trouble) (n, h) = (n, h)

known_put : (files : List FileEntry) (writing' : Option (List ℕ)) (new : Option (List FileEntry)) (name bytes : List ℕ) (result : Result (Unit {0}) Trouble)
    → Puts (Some (with_content files name [])) (Some name) bytes result new writing' → HoldsPut (Some files) new name bytes result
known_put files writing' new name bytes (Ok done) h = h.0 ∙ ap Some (puts_over files name bytes)
known_put files writing' new name bytes (Err trouble) (n, h) = (n, h ∙ ap Some (puts_over files name (take n bytes)))

pub made_and_put : (old mid new : Option (List FileEntry)) (name bytes : List ℕ) (done : Unit {0}) (writing writing' : Option (List ℕ)) (result : Result (Unit {0}) Trouble)
    → Creates old mid name (Ok done) writing → Puts mid writing bytes result new writing' → HoldsPut old new name bytes result
made_and_put None mid new name bytes done writing writing' result h k =
    let P : Option (List FileEntry) → Type 0 = λ o. Puts o writing bytes result new writing' in
    unknown_put writing writing' new name bytes result (subst P h.0 k)
made_and_put (Some files) mid new name bytes done writing writing' result h k =
    let P : Option (List FileEntry) → Type 0 = λ o. Puts o writing bytes result new writing' in
    let Q : Option (List ℕ) → Type 0 = λ o. Puts (Some (with_content files name [])) o bytes result new writing' in
    known_put files writing' new name bytes result (subst Q h.1 (subst P h.0 k))

-- what was answered where nothing was made, and where the file was made and put
pub not_made : (f f' : FolderState) (name text : List ℕ) (trouble : Trouble) → f'.files ≡ f.files → HasCause {T = Unit {0}} f.write_faults f'.write_faults (Err trouble) → Writes name text f f' (Err trouble)
not_made f f' name text Failed same cause = ((let e = cause.failed refl in omega arith), inl same)
not_made f f' name text Memory same cause = (cause.kept (λ e. cc), inl same)

pub written : (f m f' : FolderState) (name text : List ℕ) (result : Result (Unit {0}) Trouble) → m.write_faults ≡ f.write_faults → HoldsPut f.files f'.files name text result
    → HasCause m.write_faults f'.write_faults result → Writes name text f f' result
written f m f' name text (Ok done) kept holds cause = (holds, cause.kept (λ e. cc) ∙ kept)
written f m f' name text (Err Failed) kept holds cause = ((let e = cause.failed refl in omega arith), inr holds)
written f m f' name text (Err Memory) kept holds cause = (cause.kept (λ e. cc) ∙ kept, inr holds)

-- a call that didn't fail left the count
pub calm : (before now : ℕ) (done : Unit {0}) → HasCause before now (Ok done) → now ≡ before
calm before now done cause = cause.kept (λ e. cc)

pub nothing_read : (f m f' : FolderState) → ReadsNothing f m → ReadsNothing m f' → ReadsNothing f f'
nothing_read f m f' h k = record { begun = k.begun ∙ h.begun; missed = k.missed ∙ h.missed; read_faults = k.read_faults ∙ h.read_faults }
