-- What the calls of a store do, by its fields.
use Rattle.std.proofs.Common.{◌≡◌, ℕ, ◌+◌, List, [], ◌++◌, drop, Option, Some, None, unwrap_or, refl, sym, ap, subst, ◌∙◌}
use Rattle.std.proofs.lemmas.List.{append-nil}
use Rattle.std.proofs.lemmas.Option.{none-some, same_Some}
use Rattle.book_outer.specs.declared.store.Open.{Open}
use Rattle.book_outer.specs.Files.{FileEntry}
use Rattle.book_outer.specs.Folder.{Grows, ReadsOn, TakesFront, bytes_of}
use Rattle.book_outer.specs.Forms.Store.{entry_at, with_bytes, IsFound, AreOpenFound, reading_of, writing_of}
use Rattle.book_outer.proofs.Entries.{named-found, with_content-named, with_bytes-same, name-with_bytes}

-- what a file that is found holds
bytes-found : (files : List FileEntry) (at : ℕ) → IsFound files at → bytes_of files (entry_at files at).name ≡ (entry_at files at).bytes
bytes-found files at found = ap (λ o. unwrap_or o []) (named-found files at found).holds

grows : (files : List FileEntry) (at : ℕ) (bytes : List ℕ) → IsFound files at → Grows (Some files) (Some (entry_at files at).name) bytes (Some (with_bytes files at ((entry_at files at).bytes ++ bytes)))
grows files at bytes found =
    let entry = entry_at files at in
    sym (ap Some (with_content-named files entry.name at (bytes_of files entry.name ++ bytes) (named-found files at found) ∙ ap (λ b. with_bytes files at (b ++ bytes)) (bytes-found files at found)))

-- a `put` of all bytes
pub puts_all : (files new : List FileEntry) (writing : Option ℕ) (at : ℕ) (bytes : List ℕ) → writing ≡ Some at → IsFound files at → new ≡ with_bytes files at ((entry_at files at).bytes ++ bytes)
    → Grows (Some files) (writing_of files writing) bytes (Some new) × (writing_of new writing ≡ writing_of files writing)
puts_all files new None at bytes is found now = absurd (none-some at is)
puts_all files new (Some w) at bytes is found now =
    let same : at ≡ w = sym (same_Some w at is) in
    let entry = entry_at files at in
    subst (λ k. Grows (Some files) (Some (entry_at files k).name) bytes (Some new) × (Some (entry_at new k).name ≡ Some (entry_at files k).name)) same (
      subst (λ f. Grows (Some files) (Some entry.name) bytes (Some f)) (sym now) (grows files at bytes found),
      ap Some (ap (λ f. (entry_at f at).name) now ∙ name-with_bytes files at at (entry.bytes ++ bytes)),
    )

-- a `put` of nothing
pub puts_none : (files new : List FileEntry) (writing : Option ℕ) (at : ℕ) → writing ≡ Some at → IsFound files at → new ≡ files → Grows (Some files) (writing_of files writing) [] (Some new)
puts_none files new writing at is found now =
    (puts_all files new writing at [] is found
    (now ∙ sym (with_bytes-same files at) ∙ ap (with_bytes files at) (sym (append-nil (entry_at files at).bytes)))).0

-- a `read`
pub reads_on : (files : List FileEntry) (reading : Option Open) (open_file : Open) (buffer after : List ℕ) (n : ℕ) → reading ≡ Some open_file → IsFound files open_file.file
    → TakesFront (drop open_file.at (entry_at files open_file.file).bytes) buffer after n
    → ReadsOn (Some files) (reading_of files reading) buffer after n (Some (record { name = (entry_at files open_file.file).name; at = open_file.at + n }))
reads_on files None open_file buffer after n is found takes = absurd (none-some open_file is)
reads_on files (Some r) open_file buffer after n is found takes =
    let at = open_file.file in
    subst (λ (o : Open). ReadsOn (Some files) (reading_of files (Some o)) buffer after n (Some (record { name = (entry_at files at).name; at = open_file.at + n }))) (sym (same_Some r open_file is))
    (subst (λ b. TakesFront (drop open_file.at b) buffer after n) (sym (bytes-found files at found)) takes, refl)

-- ---- the files that are open are found afterwards too

pub open_kept : (files new : List FileEntry) (reading : Option Open) (writing : Option ℕ) → AreOpenFound files reading writing → ((k : ℕ) → IsFound files k → IsFound new k) → AreOpenFound new reading writing
open_kept files new reading writing are keeps = record {
  read = λ r is. keeps r.file (are.read r is);
  written = λ w is. keeps w (are.written w is);
}
