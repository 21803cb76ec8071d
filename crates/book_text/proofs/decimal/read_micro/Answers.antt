use Rattle.std.proofs.Common.{Ok, sym, ap, ◌∙◌}
use Rattle.std.specs.Int.{w64}
use Rattle.std.proofs.lemmas.Int.{to_z-of_z}
use Rattle.book_text.proofs.MicroValue.{IsMantissa, read-no_digits, read-no_exponent, read-sized, value-signed, value-out_of_range}
use Rattle.book_text.proofs.decimal.read_micro.Goals as goal

pub returns-then-mantissa-eq0 : goal.returns-then-mantissa-eq0
returns-then-mantissa-eq0 c =
    let unsigned = c.split_sign-negative.result.1.now in let m = c.read_mantissa-mantissa.result in
    let read : IsMantissa unsigned m.number m.whole m.fraction m.rest.now = record {
      number_is = c.read_mantissa-mantissa.ensures.number;
      whole_is = c.read_mantissa-mantissa.ensures.whole;
      fraction_is = c.read_mantissa-mantissa.ensures.fraction;
      rest_is = c.read_mantissa-mantissa.ensures.rest;
    } in
    read-no_digits c.args.word.now unsigned _ _ _ _ c.split_sign-negative.ensures.rest read c.if-mantissa-eq0.true

pub returns-in_default : goal.returns-in_default
returns-in_default c =
    let unsigned = c.split_sign-negative.result.1.now in let m = c.read_mantissa-mantissa.result in
    let read : IsMantissa unsigned m.number m.whole m.fraction m.rest.now = record {
      number_is = c.read_mantissa-mantissa.ensures.number;
      whole_is = c.read_mantissa-mantissa.ensures.whole;
      fraction_is = c.read_mantissa-mantissa.ensures.fraction;
      rest_is = c.read_mantissa-mantissa.ensures.rest;
    } in
    read-no_exponent c.args.word.now unsigned _ _ _ _ c.split_sign-negative.ensures.rest read c.in_default.ensures

pub returns-in-Some-scaled : goal.returns-in-Some-scaled
returns-in-Some-scaled c =
    let unsigned = c.split_sign-negative.result.1.now in let m = c.read_mantissa-mantissa.result in
    let read : IsMantissa unsigned m.number m.whole m.fraction m.rest.now = record {
      number_is = c.read_mantissa-mantissa.ensures.number;
      whole_is = c.read_mantissa-mantissa.ensures.whole;
      fraction_is = c.read_mantissa-mantissa.ensures.fraction;
      rest_is = c.read_mantissa-mantissa.ensures.rest;
    } in
    let sized = read-sized c.args.word.now unsigned _ _ _ _ c.split_sign-negative.ensures.rest read c.in-Some.places c.if-word-gt-MOST_NUMBER_BYTES.false c.if-mantissa-eq0.false c.in-Some.ensures in
    let in_range = c.in-Some-scaled.ensures in
    value-signed c.args.word.now _ _ _ sized in_range.0 c.split_sign-negative.ensures.negative in_range.1
    ∙ ap Ok (sym c.signed.ensures.value ∙ sym (to_z-of_z w64 c.signed.result c.signed.ensures.fits))

pub returns-in-None : goal.returns-in-None
returns-in-None c =
    let unsigned = c.split_sign-negative.result.1.now in let m = c.read_mantissa-mantissa.result in
    let read : IsMantissa unsigned m.number m.whole m.fraction m.rest.now = record {
      number_is = c.read_mantissa-mantissa.ensures.number;
      whole_is = c.read_mantissa-mantissa.ensures.whole;
      fraction_is = c.read_mantissa-mantissa.ensures.fraction;
      rest_is = c.read_mantissa-mantissa.ensures.rest;
    } in
    let sized = read-sized c.args.word.now unsigned _ _ _ _ c.split_sign-negative.ensures.rest read c.in-Some.places c.if-word-gt-MOST_NUMBER_BYTES.false c.if-mantissa-eq0.false c.in-Some.ensures in
    value-out_of_range c.args.word.now _ sized c.in-None.ensures
