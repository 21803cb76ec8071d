-- From what the files of a design or the texts of a grid answered to what the taking of a source says.
use Rattle.std.proofs.Common.{◌≡◌, ◌⊎◌, ◌<◌, ◌≤◌, ℕ, suc, List, length, refl, sym, ◌∙◌, ap, subst, inl, inr, lit<, arith}
use Rattle.std.specs.Prelude.{Option, Some, None, IfSome, Result, Ok, Err}
use Rattle.std.proofs.lemmas.Bool.{cases_order}
use Rattle.book_outer.specs.State.{FolderState}
use Rattle.book_files.specs.declared.records.FileKind.{FileKind}
use Rattle.book_files.specs.declared.records.FileKind.TheVariants.{Aux, Nodes, Nets, Wts, Pl, Scl, Schedule}
use Rattle.book_files.specs.declared.loading.TheConstants.{MOST_BYTES}
use Rattle.grid_design.specs.declared.asked.Grid.{Grid}
use Rattle.grid_design.specs.declared.design.Texts.{Texts as Generated}
use Rattle.grid_design.specs.Texts.{AreTextsOf, nodes_text, nets_text, wts_text, pl_text}
use Rattle.proud_words.specs.Request.{of_design, of_grid}
use Rattle.proud_top.specs.declared.status.Refusal.{Refusal}
use Rattle.proud_top.specs.declared.stop.Stop.{Stop}
use Rattle.proud_top.specs.declared.stop.Stop.TheVariants.{ReadFault, Refused, Memory}
use Rattle.proud_top.specs.Order.{rank}
use Rattle.proud_top.specs.Texts.{Texts, text_of, AreShort, IsGoodText, AreGoodBelow, grid_texts}
use Rattle.proud_top.specs.Statuses.{IsUntouched, ReadsNothing}
use Rattle.proud_top.specs.Forms.Inputs.{IsSoundText, AreSound}
use Rattle.proud_top.specs.Forms.Gathering.{Looks}
use Rattle.proud_top.specs.Forms.Stops.{Gathers, IsOfSource}
use Rattle.proud_top.specs.Forms.Sources.{TakesSource, StopsLooking, IsWrong, LooksAt, LooksThrough, Generates, generated}
use Rattle.proud_top.proofs.Once.{one_text, rank_once}

-- the source is a design
pub take_design : (old new : FolderState) (word : List ℕ) (result : Result Texts Stop) → Gathers old new word result → TakesSource old new (of_design word) result
take_design old new word (Ok texts) h = h
take_design old new word (Err (Refused refusal)) h = h
take_design old new word (Err (ReadFault kind)) h = (h.0, h.1, record { word = word; design = refl; at = h.2 }, h.3)
take_design old new word (Err Memory) h = h

-- or a grid, for which the folder isn't touched
same_folder : (old : FolderState) → IsUntouched old old
same_folder old = record { files = refl; write_faults = refl }

none_read : (old : FolderState) → ReadsNothing old old
none_read old = record { begun = refl; missed = refl; read_faults = refl }

pub take_grid : (old : FolderState) (grid : Grid) (result : Result Texts Stop) → Generates grid result → TakesSource old old (of_grid grid) result
take_grid old grid (Ok texts) h = (same_folder old, h, none_read old)
take_grid old grid (Err (Refused refusal)) h = (same_folder old, h.0, none_read old, h.1, h.2)
take_grid old grid (Err (ReadFault kind)) h = absurd h
take_grid old grid (Err Memory) h = (same_folder old, refl)

-- there is no text before that of the nodes
pub none_before : (texts : Texts) → AreGoodBelow texts 1
none_before texts Aux text less is = absurd (let x : ⊥ = cc in x)
none_before texts Nodes text less is = absurd (omega arith)
none_before texts Nets text less is = absurd (omega arith)
none_before texts Wts text less is = absurd (omega arith)
none_before texts Pl text less is = absurd (omega arith)
none_before texts Scl text less is = absurd (omega arith)
none_before texts Schedule text less is = absurd (omega arith)

-- the text of the kind is accepted, too
pub one_more : (texts : Texts) (kind : FileKind) (text : List ℕ) → AreGoodBelow texts (rank kind) → text_of texts kind ≡ Some text → IsGoodText kind text → AreGoodBelow texts (suc (rank kind))
one_more texts kind text below there good before earlier less is = by_order (cases_order (rank before) (rank kind)) where
  by_order : (rank before ≡ rank kind) ⊎ ((rank before < rank kind) ⊎ (rank kind < rank before)) → IsGoodText before earlier
  by_order (inr (inl lower)) = below before earlier lower is
  by_order (inr (inr later)) = absurd (omega arith)
  by_order (inl alike) =
      let kinds : kind ≡ before = sym (rank_once before kind alike) in
      let N : FileKind → Type 0 = λ x. text_of texts x ≡ Some text in
      let same : text ≡ earlier = one_text _ _ (sym (subst N kinds there) ∙ is) in
      let P : FileKind → Type 0 = λ x. IsGoodText x text in
      let Q : List ℕ → Type 0 = λ t. IsGoodText before t in
      subst Q same (subst P kinds good)

-- a text of a source is of a kind of its files
text_of_source : (texts : Texts) (kind : FileKind) (text : List ℕ) → text_of texts kind ≡ Some text → IsOfSource kind
text_of_source texts Aux text is = lit< tt
text_of_source texts Nodes text is = lit< tt
text_of_source texts Nets text is = lit< tt
text_of_source texts Wts text is = lit< tt
text_of_source texts Pl text is = lit< tt
text_of_source texts Scl text is = lit< tt
text_of_source texts Schedule text is = absurd (let x : ⊥ = cc in x)

-- or what is wrong with it is first wrong with all
wrong_first : (texts : Texts) (kind : FileKind) (text : List ℕ) (refusal : Refusal) → AreGoodBelow texts (rank kind) → text_of texts kind ≡ Some text → IsWrong kind text refusal
    → StopsLooking texts (Refused refusal)
wrong_first texts kind text refusal below there (inl (is, long)) =
    let S : Refusal → Type 0 = λ r. StopsLooking texts (Refused r) in
    subst S (sym is) (record { text = text; there = there; before = below; long = long }, record { node = refl; cell = refl; point = refl }, text_of_source texts kind text there)
wrong_first texts kind text refusal below there (inr (short, (fault, is, faulty))) =
    let S : Refusal → Type 0 = λ r. StopsLooking texts (Refused r) in
    subst S (sym is) (record { text = text; there = there; before = below; short = short; faulty = faulty }, record { node = refl; cell = refl; point = refl }, text_of_source texts kind text there)

pub look_stopped : (texts : Texts) (kind : FileKind) (text : List ℕ) (stop : Stop) → AreGoodBelow texts (rank kind) → text_of texts kind ≡ Some text → LooksAt kind text (Err stop) → StopsLooking texts stop
look_stopped texts kind text (Refused refusal) below there k = wrong_first texts kind text refusal below there k
look_stopped texts kind text (ReadFault other) below there k = absurd k
look_stopped texts kind text Memory below there k = tt

-- what a look at a text that isn't too long answers
pub looks_at : (kind : FileKind) (text : List ℕ) (result : Result (Unit {0}) Stop) → length text ≤ MOST_BYTES → Looks kind text result → LooksAt kind text result
looks_at kind text (Ok done) short k = (record { short = short; readable = k.0 }, record { short = short; clean = k.1 })
looks_at kind text (Err (Refused refusal)) short k = inr (short, k)
looks_at kind text (Err (ReadFault other)) short k = absurd k
looks_at kind text (Err Memory) short k = tt

pub sound_as : (kind : FileKind) (text bytes : List ℕ) → text ≡ bytes → IsSoundText kind text → IsSoundText kind bytes
sound_as kind text bytes same h =
    let P : List ℕ → Type 0 = λ t. IsSoundText kind t in
    subst P same h

-- all were looked through
pub looked_through : (texts : Texts) (text : List ℕ) (result : Result (Unit {0}) Stop) → AreGoodBelow texts 5 → text ≡ texts.scl
    → IsSoundText Nodes texts.nodes → IsSoundText Nets texts.nets → IfSome texts.wts (λ text. IsSoundText Wts text) → IsSoundText Pl texts.pl
    → LooksAt Scl text result → LooksThrough texts result
looked_through texts text (Err stop) below same nodes nets wts pl k = look_stopped texts Scl text stop below (ap Some (sym same)) k
looked_through texts text (Ok done) below same nodes nets wts pl k = record { nodes = nodes; nets = nets; wts = wts; pl = pl; scl = sound_as Scl text texts.scl same k.1 }

-- and none is too long
short_as : (kind : FileKind) (text bytes : List ℕ) → IsSoundText kind text → Some text ≡ Some bytes → length bytes ≤ MOST_BYTES
short_as kind text bytes h e =
    let P : List ℕ → Type 0 = λ t. length t ≤ MOST_BYTES in
    subst P (one_text text bytes e) h.short

short_weights : (wts : Option (List ℕ)) (bytes : List ℕ) → IfSome wts (λ text. IsSoundText Wts text) → wts ≡ Some bytes → length bytes ≤ MOST_BYTES
short_weights None bytes h e = absurd (let x : ⊥ = cc in x)
short_weights (Some text) bytes h e = short_as Wts text bytes h e

pub are_short : (texts : Texts) → AreSound texts → AreShort texts
are_short texts h Aux bytes e = absurd (let x : ⊥ = cc in x)
are_short texts h Nodes bytes e = short_as Nodes texts.nodes bytes h.nodes e
are_short texts h Nets bytes e = short_as Nets texts.nets bytes h.nets e
are_short texts h Wts bytes e = short_weights texts.wts bytes h.wts e
are_short texts h Pl bytes e = short_as Pl texts.pl bytes h.pl e
are_short texts h Scl bytes e = short_as Scl texts.scl bytes h.scl e
are_short texts h Schedule bytes e = absurd (let x : ⊥ = cc in x)

-- the texts that are made are those of the grid
pub made_texts : (grid : Grid) (texts : Generated) → AreTextsOf grid texts → generated texts ≡ grid_texts grid
made_texts grid texts h =
    let A : List ℕ → Type 0 = λ v. generated texts ≡ record { nodes = v; nets = texts.nets.items; wts = Some texts.wts.items; pl = texts.pl.items; scl = texts.scl.items } in
    let B : List ℕ → Type 0 = λ v. generated texts ≡ record { nodes = nodes_text grid; nets = v; wts = Some texts.wts.items; pl = texts.pl.items; scl = texts.scl.items } in
    let C : List ℕ → Type 0 = λ v. generated texts ≡ record { nodes = nodes_text grid; nets = nets_text grid; wts = Some v; pl = texts.pl.items; scl = texts.scl.items } in
    let D : List ℕ → Type 0 = λ v. generated texts ≡ record { nodes = nodes_text grid; nets = nets_text grid; wts = Some (wts_text grid); pl = v; scl = texts.scl.items } in
    let E : List ℕ → Type 0 = λ v. generated texts ≡ record { nodes = nodes_text grid; nets = nets_text grid; wts = Some (wts_text grid); pl = pl_text grid; scl = v } in
    subst E h.scl (subst D h.pl (subst C h.wts (subst B h.nets (subst A h.nodes refl))))

pub stops_as : (grid : Grid) (texts : Texts) (stop : Stop) → texts ≡ grid_texts grid → StopsLooking texts stop → StopsLooking (grid_texts grid) stop
stops_as grid texts stop same h =
    let P : Texts → Type 0 = λ t. StopsLooking t stop in
    subst P same h
