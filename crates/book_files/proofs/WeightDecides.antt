-- What the weights reader decides of a line is what the rules say.
use Rattle.std.proofs.Common.{◌≡◌, ℕ, ◌≤◌, List, [], ◌∷◌, length, codes, Ok, Err, refl, sym, ap, arith}
use Rattle.std.proofs.lemmas.Bool.{cond-true}
use Rattle.book_text.specs.Lines.{NumberedLine}
use Rattle.book_files.specs.declared.fault.TextKind.TheVariants.{BadHeader}
use Rattle.book_files.specs.Words.{is_header}
use Rattle.book_files.specs.Forms.Words.{number_of}
use Rattle.book_files.specs.Entries.{WeightEntry}
use Rattle.book_files.specs.Shapes.{IsNumber}
use Rattle.book_files.specs.Weights.{WeightItem, header, weighed, weight_in}
use Rattle.book_files.specs.Forms.Weights.{weight_of, weight_meaning, weight_ending, weight_form}
use Rattle.book_files.specs.WeightRules.{HasWeightsShape, HasWeightsNumbers, IsWeightsItem, IsWeightLine, weights_grammar}
use Rattle.book_files.proofs.Bridge.{Decides}
use Rattle.book_files.proofs.ShapeSteps.{Judges, spells_number, judges_bind, shape_item, shape_named, shape_named_back, plain_file, plain_file_back, plain_end, plain_end_back}

judged_words : (item : WeightItem) (before : List WeightItem) (number : ℕ) (words : List (List ℕ))
    → Judges (HasWeightsShape (item ∷ before) words) (HasWeightsNumbers words) (IsWeightsItem (item ∷ before) (record { number = number; words = words })) (weight_of words)
judged_words item before number [] = λ shape. omega arith
judged_words item before number (name ∷ []) = λ shape. omega arith
judged_words item before number (name ∷ weight ∷ rest) = let words = name ∷ weight ∷ rest in let shape : 2 ≤ length words = omega arith in
    judges_bind (HasWeightsShape (item ∷ before) words) (HasWeightsNumbers words) (IsWeightsItem (item ∷ before) (record { number = number; words = words }))
    (IsNumber weight) (number_of weight) (λ w. Ok (weighed (record { name = name; weight = w }))) shape (spells_number weight) (λ has. has)
    (λ w is. (shape, (w, is), (λ e. cc, record { shape = shape; name = refl; weight = is })))

judged : (item : WeightItem) (before : List WeightItem) (line : NumberedLine)
    → Judges (HasWeightsShape (item ∷ before) line.words) (HasWeightsNumbers line.words) (IsWeightsItem (item ∷ before) line) (weight_meaning (item ∷ before) line)
judged item before line = judged_words item before line.number line.words

weight_back : (words : List (List ℕ)) (number : ℕ) (entry : WeightEntry) → IsWeightLine (record { number = number; words = words }) entry → weight_of words ≡ Ok (weighed entry)
weight_back [] number entry is = let two = is.shape in absurd (omega arith)
weight_back (name ∷ []) number entry is = let two = is.shape in absurd (omega arith)
weight_back (name ∷ weight ∷ rest) number entry is = rw ((spells_number weight).back entry.weight is.weight) (ap (λ n. Ok (weighed (record { name = n; weight = entry.weight }))) (sym is.name))

item_back : (before : List WeightItem) (line : NumberedLine) (stated : WeightItem) → IsWeightsItem before line stated → weight_meaning before line ≡ Ok stated
item_back [] line header is = cond-true (is_header (codes "wts") line.words) (Ok header) (Err BadHeader) is.1
item_back [] line (weighed entry) is = absurd (is.0 refl)
item_back (item ∷ before) line header is = let e = is.0 in cc
item_back (item ∷ before) line (weighed entry) is = weight_back line.words line.number entry is.1

pub weights_decided : Decides weight_form weights_grammar
weights_decided = record {
  item = shape_item weight_form (codes "wts") HasWeightsShape HasWeightsNumbers IsWeightsItem header (λ line. refl) judged (λ line is. (refl, is));
  item_back = item_back;
  named = shape_named weight_form (codes "wts") HasWeightsShape HasWeightsNumbers IsWeightsItem header (λ line. refl) judged;
  named_back = shape_named_back weight_form (codes "wts") HasWeightsShape HasWeightsNumbers IsWeightsItem header (λ line. refl) judged;
  file = plain_file weight_ending weight_in refl (λ item items. refl);
  file_back = plain_file_back weight_ending weight_in refl (λ item items. refl);
  end = plain_end weight_ending weight_in refl (λ item items. refl);
  end_back = plain_end_back weight_ending weight_in refl (λ item items. refl);
}
