use Rattle.std.proofs.Common.{◌≡◌, true, sym, ◌∙◌, get_or, arith}
use Rattle.std.specs.Char.{is_ascii_digit}
use Rattle.std.proofs.lemmas.Bool.{and_from}
use Rattle.std.proofs.lemmas.List.Folds.{list_all_more}
use Rattle.book_text.proofs.Digits.{digits_value-more}
use Rattle.book_text.proofs.number.read_whole.Goals as goal

pub loop-byte-preserved : goal.loop-byte-preserved
loop-byte-preserved c =
    let word = c.args.word.now in let i = c.loop-byte.byte-index in
    let digit : is_ascii_digit (get_or word i 0) ≡ true = sym c.is_ascii_digit.ensures.value ∙ c.if-not-is_ascii_digit.false in
    record {
      digits = list_all_more is_ascii_digit word i 0 c.loop-byte-test.true ∙ and_from _ _ c.loop-byte.invariant.digits digit;
      capped = omega (arith, digits_value-more word i c.loop-byte-test.true digit, c.loop-byte.invariant.capped, c.min-value.ensures, c.from.ensures);
    }
