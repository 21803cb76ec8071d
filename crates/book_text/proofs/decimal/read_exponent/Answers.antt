use Rattle.std.proofs.Common.{◌≡◌, true, length, get_or, drop, sym, ap, ◌∙◌, arith, rules, tests}
use Rattle.std.specs.Str.Parse.{starts_with_minus, without_leading_sign}
use Rattle.std.proofs.lemmas.Bool.{eqb-true, eqb-false}
use Rattle.std.proofs.lemmas.List.{take_rest, length-drop}
use Rattle.book_text.specs.Decimal.{is_exponent_mark}
use Rattle.book_text.proofs.Digits.{small-from_room}
use Rattle.book_text.proofs.Exponents.{length-without_leading_sign, is_marked, no_exponent, exponent-left, exponent-right}
use Rattle.book_text.proofs.Powers.{power_mono}
use Rattle.book_text.proofs.decimal.read_exponent.Goals as goal

pub read_digits-number-requires : goal.read_digits-number-requires
read_digits-number-requires c =
    let bytes = c.args.bytes.now in let digits = c.split_sign-negative.result.1.now in
    let short = ap length (c.split_sign-negative.ensures.rest ∙ ap without_leading_sign (take_rest bytes 1)) in
    omega (arith, power_mono (length digits) 30 (omega (arith, c.requires, short, length-without_leading_sign (drop 1 bytes), length-drop 1 bytes)))

pub returns-then-not-is_empty : goal.returns-then-not-is_empty
returns-then-not-is_empty c =
    let bytes = c.args.bytes.now in let digits = c.split_sign-negative.result.1.now in
    let mark : is_exponent_mark (get_or bytes 0 0) ≡ true = search (rules, tests) in
    let marked = is_marked bytes digits c.in-101.len_at_least mark c.split_sign-negative.ensures.rest in
    let more : length c.read_digits-number.result.1.now ≡ 0 → ⊥ = eqb-false _ 0 (sym c.is_empty-2.ensures ∙ c.if-not-is_empty.true) in
    no_exponent bytes digits marked (omega (arith, more, ap length c.read_digits-number.ensures.rest))

pub returns-then-negative : goal.returns-then-negative
returns-then-negative c =
    let bytes = c.args.bytes.now in let digits = c.split_sign-negative.result.1.now in
    let mark : is_exponent_mark (get_or bytes 0 0) ≡ true = search (rules, tests) in
    let marked = is_marked bytes digits c.in-101.len_at_least mark c.split_sign-negative.ensures.rest in
    let some : length digits ≡ 0 → ⊥ = eqb-false _ 0 (sym c.is_empty.ensures ∙ c.if-is_empty.false) in
    let none : length c.read_digits-number.result.1.now ≡ 0 = eqb-true _ 0 (sym c.is_empty-2.ensures ∙ c.if-not-is_empty.false) in
    exponent-left bytes digits marked c.read_digits-number.result.0 (omega (arith, some)) (sym (ap length c.read_digits-number.ensures.rest) ∙ none)
    c.read_digits-number.ensures.number (small-from_room _ _ c.read_digits-number.ensures.room)
    (ap starts_with_minus (sym (take_rest bytes 1)) ∙ sym c.split_sign-negative.ensures.negative ∙ c.if-negative.true)

pub returns-else-negative : goal.returns-else-negative
returns-else-negative c =
    let bytes = c.args.bytes.now in let digits = c.split_sign-negative.result.1.now in
    let mark : is_exponent_mark (get_or bytes 0 0) ≡ true = search (rules, tests) in
    let marked = is_marked bytes digits c.in-101.len_at_least mark c.split_sign-negative.ensures.rest in
    let some : length digits ≡ 0 → ⊥ = eqb-false _ 0 (sym c.is_empty.ensures ∙ c.if-is_empty.false) in
    let none : length c.read_digits-number.result.1.now ≡ 0 = eqb-true _ 0 (sym c.is_empty-2.ensures ∙ c.if-not-is_empty.false) in
    exponent-right bytes digits marked c.read_digits-number.result.0 (omega (arith, some)) (sym (ap length c.read_digits-number.ensures.rest) ∙ none)
    c.read_digits-number.ensures.number (small-from_room _ _ c.read_digits-number.ensures.room)
    (ap starts_with_minus (sym (take_rest bytes 1)) ∙ sym c.split_sign-negative.ensures.negative ∙ c.if-negative.false)
