-- The steps of the nodes reader.
use Rattle.std.proofs.Common.{◌≡◌, ℕ, ◌<◌, ◌≤◌, Bool, true, false, List, [], ◌∷◌, ◌++◌, length, map, is_some, Some, Result, Ok, Err, codes, if◌then◌else◌, refl, sym, ap, ◌∙◌, arith}
use Rattle.std.proofs.lemmas.Bool.{cond-true, cond-false}
use Rattle.book_text.specs.Lines.{NumberedLine}
use Rattle.book_files.specs.declared.fault.TextKind.{TextKind}
use Rattle.book_files.specs.declared.fault.TextKind.TheVariants.{BadHeader, BadLine}
use Rattle.book_files.specs.declared.records.NodeLine.{NodeLine}
use Rattle.book_files.specs.declared.nodes.NodesSoFar.{NodesSoFar}
use Rattle.book_files.specs.Words.{latest, is_header, is_keyed}
use Rattle.book_files.specs.Forms.Words.{◌>>=◌, count_of}
use Rattle.book_files.specs.Entries.{node_entry}
use Rattle.book_files.specs.Nodes.{NodeItem, header, total, terminals, node, total_in, terminals_in, node_in}
use Rattle.book_files.specs.Forms.Nodes.{node_of, node_meaning, node_form}
use Rattle.book_files.specs.Forms.Progress.{StandsFor}
use Rattle.book_files.specs.Forms.SoFar.{has_items, IsNodesSoFar}
use Rattle.book_files.proofs.Items.{has_items-push, latest-yes, latest-no, kept-yes, kept-no}
use Rattle.book_files.proofs.Progresses.{kept}

meaning_first : (items : List NodeItem) (line : NumberedLine) → has_items items ≡ false → node_meaning items line ≡ (if is_header (codes "nodes") line.words then Ok header else Err BadHeader)
meaning_first [] line none = refl
meaning_first (item ∷ items) line none = cc

-- what a line is behind the header, where these counts were stated
abbrev behind_header : Bool → Bool → NumberedLine → Result NodeItem TextKind
behind_header total_stated terminals_stated line =
    if is_keyed (codes "numnodes") line.words then (count_of total_stated line.words >>= λ n. Ok (total n))
    else if is_keyed (codes "numterminals") line.words then (count_of terminals_stated line.words >>= λ t. Ok (terminals t))
    else node_of line.number line.words

meaning_begun : (items : List NodeItem) (line : NumberedLine) → has_items items ≡ true → node_meaning items line ≡ behind_header (is_some (latest total_in items)) (is_some (latest terminals_in items)) line
meaning_begun [] line begun = cc
meaning_begun (item ∷ items) line begun = refl

module _ (line : NumberedLine) (old new : NodesSoFar) where
  meaning_so_far : (items : List NodeItem) → old.begun ≡ true → IsNodesSoFar items old → node_meaning items line ≡ behind_header (is_some old.total) old.terminals_stated line
  meaning_so_far items begun so_far = meaning_begun items line (sym so_far.begun ∙ begun)
      ∙ (ap (λ stated. behind_header (is_some stated) (is_some (latest terminals_in items)) line) (sym so_far.total) ∙ ap (λ stated. behind_header (is_some old.total) stated line) (sym so_far.terminals))

  pub header_kept : old.begun ≡ false → is_header (codes "nodes") line.words ≡ true → new.begun ≡ true → new.total ≡ old.total → new.terminals_stated ≡ old.terminals_stated → new.lines.items ≡ old.lines.items
      → (lines : List NumberedLine) → StandsFor node_form IsNodesSoFar old lines → StandsFor node_form IsNodesSoFar new (lines ++ line ∷ [])
  header_kept none is begun stated terminals_stated same lines before = kept node_form IsNodesSoFar lines line old new header (λ items so_far. (
    meaning_first items line (sym so_far.begun ∙ none) ∙ cond-true _ _ _ is,
    record {
      begun = begun ∙ sym (has_items-push items header);
      total = stated ∙ (so_far.total ∙ sym (latest-no total_in items header refl));
      terminals = terminals_stated ∙ (so_far.terminals ∙ ap is_some (sym (latest-no terminals_in items header refl)));
      lines = rw same (kept-no node_in items header node_entry old.lines.items refl so_far.lines);
    },
  )) before

  pub total_kept : (n : ℕ) → old.begun ≡ true → is_keyed (codes "numnodes") line.words ≡ true → count_of (is_some old.total) line.words ≡ Ok n
      → new.begun ≡ true → new.total ≡ Some n → new.terminals_stated ≡ old.terminals_stated → new.lines.items ≡ old.lines.items
      → (lines : List NumberedLine) → StandsFor node_form IsNodesSoFar old lines → StandsFor node_form IsNodesSoFar new (lines ++ line ∷ [])
  total_kept n some keyed counts begun stated terminals_stated same lines before = kept node_form IsNodesSoFar lines line old new (total n) (λ items so_far. (
    meaning_so_far items some so_far ∙ (cond-true _ _ _ keyed ∙ ap (λ r. r >>= λ m. Ok (total m)) counts),
    record {
      begun = begun ∙ sym (has_items-push items (total n));
      total = stated ∙ sym (latest-yes total_in items (total n) n refl);
      terminals = terminals_stated ∙ (so_far.terminals ∙ ap is_some (sym (latest-no terminals_in items (total n) refl)));
      lines = rw same (kept-no node_in items (total n) node_entry old.lines.items refl so_far.lines);
    },
  )) before

  pub terminals_kept : (t : ℕ) → old.begun ≡ true → is_keyed (codes "numnodes") line.words ≡ false → is_keyed (codes "numterminals") line.words ≡ true → count_of old.terminals_stated line.words ≡ Ok t
      → new.begun ≡ true → new.total ≡ old.total → new.terminals_stated ≡ true → new.lines.items ≡ old.lines.items
      → (lines : List NumberedLine) → StandsFor node_form IsNodesSoFar old lines → StandsFor node_form IsNodesSoFar new (lines ++ line ∷ [])
  terminals_kept t some other keyed counts begun stated terminals_stated same lines before = kept node_form IsNodesSoFar lines line old new (terminals t) (λ items so_far. (
    meaning_so_far items some so_far ∙ (cond-false _ _ _ other ∙ (cond-true _ _ _ keyed ∙ ap (λ r. r >>= λ m. Ok (terminals m)) counts)),
    record {
      begun = begun ∙ sym (has_items-push items (terminals t));
      total = stated ∙ (so_far.total ∙ sym (latest-no total_in items (terminals t) refl));
      terminals = terminals_stated ∙ ap is_some (sym (latest-yes terminals_in items (terminals t) t refl));
      lines = rw same (kept-no node_in items (terminals t) node_entry old.lines.items refl so_far.lines);
    },
  )) before

  pub node_kept : (found : NodeLine) → old.begun ≡ true → is_keyed (codes "numnodes") line.words ≡ false → is_keyed (codes "numterminals") line.words ≡ false
      → node_of line.number line.words ≡ Ok (node (node_entry found)) → new.begun ≡ true → new.total ≡ old.total → new.terminals_stated ≡ old.terminals_stated → new.lines.items ≡ old.lines.items ++ found ∷ []
      → (lines : List NumberedLine) → StandsFor node_form IsNodesSoFar old lines → StandsFor node_form IsNodesSoFar new (lines ++ line ∷ [])
  node_kept found some other another means begun stated terminals_stated pushed lines before = let item = node (node_entry found) in kept node_form IsNodesSoFar lines line old new item (λ items so_far. (
    meaning_so_far items some so_far ∙ (cond-false _ _ _ other ∙ (cond-false _ _ _ another ∙ means)),
    record {
      begun = begun ∙ sym (has_items-push items item);
      total = stated ∙ (so_far.total ∙ sym (latest-no total_in items item refl));
      terminals = terminals_stated ∙ (so_far.terminals ∙ ap is_some (sym (latest-no terminals_in items item refl)));
      lines = kept-yes node_in items item node_entry old.lines.items new.lines.items found refl pushed so_far.lines;
    },
  )) before

-- a line of too few words, or of too many
pub node_of-short : {A : Type 0} (bytes : A → List ℕ) (number : ℕ) (words : List A) → length words < 3 → node_of number (map bytes words) ≡ Err BadLine
node_of-short bytes number [] short = refl
node_of-short bytes number (a ∷ []) short = refl
node_of-short bytes number (a ∷ b ∷ []) short = refl
node_of-short bytes number (a ∷ b ∷ c ∷ words) short = absurd (omega arith)

pub node_of-long : {A : Type 0} (bytes : A → List ℕ) (number : ℕ) (words : List A) → 5 ≤ length words → node_of number (map bytes words) ≡ Err BadLine
node_of-long bytes number (a ∷ b ∷ c ∷ d ∷ e ∷ words) long = refl
node_of-long bytes number (a ∷ b ∷ c ∷ d ∷ []) long = absurd (omega arith)
node_of-long bytes number (a ∷ b ∷ c ∷ []) long = absurd (omega arith)
node_of-long bytes number (a ∷ b ∷ []) long = absurd (omega arith)
node_of-long bytes number (a ∷ []) long = absurd (omega arith)
node_of-long bytes number [] long = absurd (omega arith)
