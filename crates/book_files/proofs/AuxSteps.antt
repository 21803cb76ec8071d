-- The steps of the aux reader.
use Rattle.std.proofs.Common.{◌≡◌, false, List, [], ◌∷◌, ◌++◌, Ok, Err, Option, Some, None, is_some, option_map, option_to_list, ap, ◌∙◌}
use Rattle.book_text.specs.Lines.{NumberedLine}
use Rattle.book_files.specs.declared.fault.TextKind.{TextKind}
use Rattle.book_files.specs.declared.records.AuxFile.{AuxFile}
use Rattle.book_files.specs.declared.aux.AuxSoFar.{AuxSoFar}
use Rattle.book_files.specs.Entries.{AuxEntry, aux_entry}
use Rattle.book_files.specs.Forms.Aux.{aux_form, aux_meaning}
use Rattle.book_files.specs.Forms.Progress.{StandsFor, Refuses}
use Rattle.book_files.specs.Forms.SoFar.{IsAuxSoFar}
use Rattle.book_files.proofs.Progresses.{kept, refused}

-- before the first line there is no item
no_item : (items : List AuxEntry) (file : Option AuxFile) → items ≡ option_to_list (option_map aux_entry file) → is_some file ≡ false → items ≡ []
no_item items None is none = is
no_item items (Some file) is none = cc

pub first_refused : (line : NumberedLine) (old : AuxSoFar) (kind : TextKind) → is_some old.file ≡ false → aux_meaning [] line ≡ Err kind
    → (lines : List NumberedLine) → StandsFor aux_form IsAuxSoFar old lines → Refuses aux_form lines line kind
first_refused line old kind none fault lines before =
    refused aux_form IsAuxSoFar lines line old kind (λ items so_far. ap (λ its. aux_meaning its line) (no_item items old.file so_far none) ∙ fault) before

pub first_kept : (line : NumberedLine) (old : AuxSoFar) (file : AuxFile) → is_some old.file ≡ false → aux_meaning [] line ≡ Ok (aux_entry file)
    → (lines : List NumberedLine) → StandsFor aux_form IsAuxSoFar old lines → StandsFor aux_form IsAuxSoFar (record { file = Some file }) (lines ++ line ∷ [])
first_kept line old file none means lines before =
    kept aux_form IsAuxSoFar lines line old (record { file = Some file }) (aux_entry file) (λ items so_far. let empty = no_item items old.file so_far none in
    (ap (λ its. aux_meaning its line) empty ∙ means, ap (λ its. its ++ aux_entry file ∷ []) empty)) before
