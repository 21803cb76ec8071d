-- Each text has exactly one answer by a form: what comes of its lines is determined.
use Rattle.std.proofs.Common.{◌≡◌, ◌⊎◌, ℕ, List, [], ◌∷◌, ◌++◌, Result, Ok, Err, refl, sym, ap, ◌∙◌, inl, inr, ⊎_elim, append_assoc}
use Rattle.std.proofs.lemmas.List.{append-nil}
use Rattle.book_text.specs.Lines.{NumberedLine, content_of, end_line}
use Rattle.book_files.specs.declared.fault.TextKind.{TextKind}
use Rattle.book_files.specs.declared.fault.TextFault.{TextFault}
use Rattle.book_files.specs.Forms.Form.{Form, Mean}
use Rattle.book_files.proofs.FormTexts.{Reads, FirstFault, FaultAtLine}

-- The text reads as some records or has a first fault, never both, and there is one value only.
pub record HasOneAnswer {I R : Type 0} (form : Form I R) (text : List ℕ) : Type 0 where
  pub some : ((records : R) × Reads form text records) ⊎ ((fault : TextFault) × FirstFault form text fault)
  pub one_reading : (a b : R) → Reads form text a → Reads form text b → a ≡ b
  pub one_fault : (a b : TextFault) → FirstFault form text a → FirstFault form text b → a ≡ b
  pub not_both : (records : R) (fault : TextFault) → Reads form text records → FirstFault form text fault → ⊥

abbrev Outcome : Type 0 → Type 0
Outcome I = Result (List I) (NumberedLine × TextKind)

-- goes on where the line has a meaning
abbrev behind : {I : Type 0} → NumberedLine → Result I TextKind → (I → Outcome I) → Outcome I
behind line (Ok item) go_on = go_on item
behind line (Err kind) go_on = Err (line, kind)

-- what comes of the lines behind these items: all items, or the first line with a fault and the fault
abbrev outcome : {I R : Type 0} → Form I R → List I → List NumberedLine → Outcome I
outcome form before [] = Ok before
outcome form before (line ∷ lines) = behind line (form.meaning before line) (λ item. outcome form (before ++ item ∷ []) lines)

-- the first line with a fault, and the items of the lines before it
record HasFault {I R : Type 0} (form : Form I R) (before : List I) (lines : List NumberedLine) : Type 0 where
  front : List NumberedLine
  line : NumberedLine
  rest : List NumberedLine
  split : lines ≡ front ++ line ∷ rest
  items : List I
  mean : Mean form before front items
  kind : TextKind
  first : form.meaning (before ++ items) line ≡ Err kind

one_more : {I : Type 0} (before : List I) (item : I) (items : List I) → (before ++ item ∷ []) ++ items ≡ before ++ item ∷ items
one_more before item items = append_assoc before (item ∷ []) items

-- items that the lines mean are what comes of them
outcome-mean : {I R : Type 0} (form : Form I R) (before : List I) (lines : List NumberedLine) (items : List I) → Mean form before lines items → outcome form before lines ≡ Ok (before ++ items)
outcome-mean form before [] [] mean = rw append-nil refl
outcome-mean form before [] (item ∷ items) mean = absurd mean
outcome-mean form before (line ∷ lines) [] mean = absurd mean
outcome-mean form before (line ∷ lines) (item ∷ items) mean = rw mean.0 (outcome-mean form (before ++ item ∷ []) lines items mean.1 ∙ ap Ok (one_more before item items))

-- and a fault behind them is what comes of them and the line with the fault
outcome-fault : {I R : Type 0} (form : Form I R) (before : List I) (front : List NumberedLine) (items : List I) (line : NumberedLine) (rest : List NumberedLine) (kind : TextKind)
    → Mean form before front items → form.meaning (before ++ items) line ≡ Err kind → outcome form before (front ++ line ∷ rest) ≡ Err (line, kind)
outcome-fault form before [] [] line rest kind mean first = let at_once : form.meaning before line ≡ Err kind = rw append-nil at first in rw at_once refl
outcome-fault form before [] (item ∷ items) line rest kind mean first = absurd mean
outcome-fault form before (other ∷ front) [] line rest kind mean first = absurd mean
outcome-fault form before (other ∷ front) (item ∷ items) line rest kind mean first =
    rw mean.0 (outcome-fault form (before ++ item ∷ []) front items line rest kind mean.1 (rw one_more first))

abbrev Decided : {I R : Type 0} → Form I R → List I → List NumberedLine → Type 0
Decided {I} form before lines = ((items : List I) × Mean form before lines items) ⊎ HasFault form before lines

-- a line with a meaning in front
onto_decided : {I R : Type 0} (form : Form I R) (before : List I) (line : NumberedLine) (lines : List NumberedLine) (item : I)
    → form.meaning before line ≡ Ok item → Decided form (before ++ item ∷ []) lines → Decided form before (line ∷ lines)
onto_decided form before line lines item means (inl all) = inl (item ∷ all.0, (means, all.1))
onto_decided form before line lines item means (inr fault) = inr (record {
  front = line ∷ fault.front;
  line = fault.line;
  rest = fault.rest;
  split = ap (λ ls. line ∷ ls) fault.split;
  items = item ∷ fault.items;
  mean = (means, fault.mean);
  kind = fault.kind;
  first = rw (← one_more) fault.first;
})

decided_at : {I R : Type 0} (form : Form I R) (before : List I) (line : NumberedLine) (lines : List NumberedLine) (meaning : Result I TextKind)
    → form.meaning before line ≡ meaning → ((item : I) → Decided form (before ++ item ∷ []) lines) → Decided form before (line ∷ lines)
decided_at form before line lines (Ok item) is go_on = onto_decided form before line lines item is (go_on item)
decided_at form before line lines (Err kind) is go_on = inr (record {
  front = [];
  line = line;
  rest = lines;
  split = refl;
  items = [];
  mean = tt;
  kind = kind;
  first = rw append-nil is;
})

-- each line has its meaning, or there is a first fault
decided : {I R : Type 0} (form : Form I R) (before : List I) (lines : List NumberedLine) → Decided form before lines
decided form before [] = inl ([], tt)
decided form before (line ∷ lines) = decided_at form before line lines (form.meaning before line) refl (λ item. decided form (before ++ item ∷ []) lines)

module _ {I R : Type 0} (form : Form I R) (text : List ℕ) where
  items_of : (items : List I) → Mean form [] (content_of text) items → outcome form [] (content_of text) ≡ Ok items
  items_of items mean = outcome-mean form [] (content_of text) items mean

  fault_of : (fault : TextFault) (at : FaultAtLine form text fault) → outcome form [] (content_of text) ≡ Err (at.line, fault.kind)
  fault_of fault at = ap (outcome form []) at.lines ∙ outcome-fault form [] at.front at.items at.line at.rest fault.kind at.mean at.first

  some_answer : ((records : R) × Reads form text records) ⊎ ((fault : TextFault) × FirstFault form text fault)
  some_answer = ⊎_elim (λ all. at_end all.0 all.1 (form.ending all.0) refl) at_line (decided form [] (content_of text)) where
    at_end : (items : List I) → Mean form [] (content_of text) items → (ending : Result R TextKind) → form.ending items ≡ ending → ((records : R) × Reads form text records) ⊎ ((fault : TextFault) × FirstFault form text fault)
    at_end items mean (Ok records) is = inl (records, record { items = items; mean = mean; make = is })
    at_end items mean (Err kind) is = inr (record { line = end_line text; kind = kind }, inr (record { items = items; mean = mean; first = is; number = refl }))

    at_line : HasFault form [] (content_of text) → ((records : R) × Reads form text records) ⊎ ((fault : TextFault) × FirstFault form text fault)
    at_line f = inr (record { line = f.line.number; kind = f.kind }, inl (record { front = f.front; line = f.line; rest = f.rest; lines = f.split; items = f.items; mean = f.mean; first = f.first; number = refl }))

  same_fault : (a b : TextFault) → a.line ≡ b.line → a.kind ≡ b.kind → a ≡ b
  same_fault a b line kind = let make : ℕ → TextKind → TextFault = λ l k. record { line = l; kind = k } in
      ap (λ l. make l a.kind) line ∙ ap (λ k. make b.line k) kind

  same_at_line : (a b : TextFault) → FaultAtLine form text a → FaultAtLine form text b → a ≡ b
  same_at_line a b x y =
      let e = sym (fault_of a x) ∙ fault_of b y in
      let both : ◌≡◌ {A = NumberedLine × TextKind} (x.line, a.kind) (y.line, b.kind) = cc in
      same_fault a b (x.number ∙ (ap (λ p. p.0.number) both ∙ sym y.number)) (ap (λ p. p.1) both)

  same_items : (xs ys : List I) → Mean form [] (content_of text) xs → Mean form [] (content_of text) ys → xs ≡ ys
  same_items xs ys mean means = let e = sym (items_of xs mean) ∙ items_of ys means in cc

  -- what all lines make is one value too
  same_end : {A : Type 0} (f : List I → A) (xs ys : List I) (a b : A) → Mean form [] (content_of text) xs → Mean form [] (content_of text) ys → f xs ≡ a → f ys ≡ b → a ≡ b
  same_end f xs ys a b mean means is_a is_b = sym is_a ∙ (ap f (same_items xs ys mean means) ∙ is_b)

  -- a line with a fault and a meaning of each line are never both there
  line_or_end : (items : List I) (fault : TextFault) → Mean form [] (content_of text) items → FaultAtLine form text fault → ⊥
  line_or_end items fault mean at = let e = sym (items_of items mean) ∙ fault_of fault at in cc

  one_fault : (a b : TextFault) → FirstFault form text a → FirstFault form text b → a ≡ b
  one_fault a b (inl x) (inl y) = same_at_line a b x y
  one_fault a b (inl x) (inr y) = absurd (line_or_end y.items a y.mean x)
  one_fault a b (inr x) (inl y) = absurd (line_or_end x.items b x.mean y)
  one_fault a b (inr x) (inr y) = let e = same_end form.ending x.items y.items _ _ x.mean y.mean x.first y.first in
      same_fault a b (x.number ∙ sym y.number) cc

  one_reading : (a b : R) → Reads form text a → Reads form text b → a ≡ b
  one_reading a b x y = let e = same_end form.ending x.items y.items _ _ x.mean y.mean x.make y.make in cc

  not_both : (records : R) (fault : TextFault) → Reads form text records → FirstFault form text fault → ⊥
  not_both records fault x (inl at) = line_or_end x.items fault x.mean at
  not_both records fault x (inr at) = let e = same_end form.ending x.items at.items _ _ x.mean at.mean x.make at.first in cc

  pub has_one_answer : HasOneAnswer form text
  has_one_answer = record { some = some_answer; one_reading = one_reading; one_fault = one_fault; not_both = not_both }
