-- From a form, which is what the code decides by, to the rules of a grammar, for any kind of file.
use Rattle.std.proofs.Common.{◌≡◌, ◌⊎◌, ℕ, List, [], ◌∷◌, ◌++◌, Result, Ok, Err, inl, inr, sym, ◌∙◌}
use Rattle.book_text.specs.Lines.{NumberedLine}
use Rattle.book_files.specs.declared.fault.TextKind.{TextKind}
use Rattle.book_files.specs.declared.fault.TextFault.{TextFault}
use Rattle.book_files.specs.declared.fault.ReadError.{ReadError}
use Rattle.book_files.specs.declared.fault.ReadError.TheVariants.{Fault, Memory}
use Rattle.book_files.specs.Forms.Form.{Form, Mean}
use Rattle.book_files.proofs.FormTexts.{Reads, FirstFault, FormAnswers}
use Rattle.book_files.specs.Grammar.{Grammar, AreItems, IsReading, IsFirstFault, Answers, HasOneAnswer}
use Rattle.book_files.proofs.Readings.{has_one_answer}

-- What the form says of one line and of the end is what the rules say, both ways.
pub record Decides {I R : Type 0} (form : Form I R) (grammar : Grammar I R) : Type 0 where
  pub item : (before : List I) (line : NumberedLine) (stated : I) → form.meaning before line ≡ Ok stated → grammar.IsItem before line stated
  pub item_back : (before : List I) (line : NumberedLine) (stated : I) → grammar.IsItem before line stated → form.meaning before line ≡ Ok stated
  pub named : (before : List I) (line : NumberedLine) (kind : TextKind) → form.meaning before line ≡ Err kind → grammar.IsLineFault before line kind
  pub named_back : (before : List I) (line : NumberedLine) (kind : TextKind) → grammar.IsLineFault before line kind → form.meaning before line ≡ Err kind
  pub file : (items : List I) (records : R) → form.ending items ≡ Ok records → grammar.IsFile items records
  pub file_back : (items : List I) (records : R) → grammar.IsFile items records → form.ending items ≡ Ok records
  pub end : (items : List I) (kind : TextKind) → form.ending items ≡ Err kind → grammar.IsEndFault items kind
  pub end_back : (items : List I) (kind : TextKind) → grammar.IsEndFault items kind → form.ending items ≡ Err kind

module _ {I R : Type 0} (form : Form I R) (grammar : Grammar I R) (decides : Decides form grammar) where
  items_of : (before : List I) (lines : List NumberedLine) (items : List I) → Mean form before lines items → AreItems grammar before lines items
  items_of before [] [] mean = tt
  items_of before [] (item ∷ items) mean = absurd mean
  items_of before (line ∷ lines) [] mean = absurd mean
  items_of before (line ∷ lines) (item ∷ items) mean = (decides.item before line item mean.0, items_of (before ++ item ∷ []) lines items mean.1)

  mean_of : (before : List I) (lines : List NumberedLine) (items : List I) → AreItems grammar before lines items → Mean form before lines items
  mean_of before [] [] each = tt
  mean_of before [] (item ∷ items) each = absurd each
  mean_of before (line ∷ lines) [] each = absurd each
  mean_of before (line ∷ lines) (item ∷ items) each = (decides.item_back before line item each.0, mean_of (before ++ item ∷ []) lines items each.1)

  reading_of : (text : List ℕ) (records : R) → Reads form text records → IsReading grammar text records
  reading_of text records reads = record { items = reads.items; each = items_of [] _ reads.items reads.mean; file = decides.file reads.items records reads.make }

  reads_of : (text : List ℕ) (records : R) → IsReading grammar text records → Reads form text records
  reads_of text records reading = record { items = reading.items; mean = mean_of [] _ reading.items reading.each; make = decides.file_back reading.items records reading.file }

  fault_of : (text : List ℕ) (fault : TextFault) → FirstFault form text fault → IsFirstFault grammar text fault
  fault_of text fault (inl at) = inl (record {
    front = at.front;
    line = at.line;
    rest = at.rest;
    lines = at.lines;
    items = at.items;
    each = items_of [] _ at.items at.mean;
    named = decides.named at.items at.line fault.kind at.first;
    number = at.number;
  })
  fault_of text fault (inr at) = inr (record { items = at.items; each = items_of [] _ at.items at.mean; named = decides.end at.items fault.kind at.first; number = at.number })

  first_of : (text : List ℕ) (fault : TextFault) → IsFirstFault grammar text fault → FirstFault form text fault
  first_of text fault (inl at) = inl (record {
    front = at.front;
    line = at.line;
    rest = at.rest;
    lines = at.lines;
    items = at.items;
    mean = mean_of [] _ at.items at.each;
    first = decides.named_back at.items at.line fault.kind at.named;
    number = at.number;
  })
  first_of text fault (inr at) = inr (record { items = at.items; mean = mean_of [] _ at.items at.each; first = decides.end_back at.items fault.kind at.named; number = at.number })

  -- what is answered by the form is answered by the rules
  pub answers_of : {A : Type 0} (view : A → R) (text : List ℕ) (result : Result A ReadError) → FormAnswers form view text result → Answers grammar view text result
  answers_of view text (Ok answer) reads = reading_of text (view answer) reads
  answers_of view text (Err (Fault fault)) first = fault_of text fault first
  answers_of view text (Err Memory) first = tt

  reading_or_fault : (text : List ℕ) → ((records : R) × Reads form text records) ⊎ ((fault : TextFault) × FirstFault form text fault)
      → ((records : R) × IsReading grammar text records) ⊎ ((fault : TextFault) × IsFirstFault grammar text fault)
  reading_or_fault text (inl reads) = inl (reads.0, reading_of text reads.0 reads.1)
  reading_or_fault text (inr first) = inr (first.0, fault_of text first.0 first.1)

  -- by the form each text has exactly one answer, so by the rules too
  pub one_answer_of : (text : List ℕ) → HasOneAnswer grammar text
  one_answer_of text = let law = has_one_answer form text in record {
    some = reading_or_fault text law.some;
    one_reading = λ a b x y. law.one_reading a b (reads_of text a x) (reads_of text b y);
    one_fault = λ a b x y. law.one_fault a b (first_of text a x) (first_of text b y);
    not_both = λ records fault x y. law.not_both records fault (reads_of text records x) (first_of text fault y);
    least = λ before line item kind is named. let e = sym (decides.item_back before line item is) ∙ decides.named_back before line kind named in cc;
  }
