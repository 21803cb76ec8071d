use Rattle.std.proofs.Common.{◌≡◌, ◌-◌, length, take, drop, get_or, sym, ap, ◌∙◌, arith}
use Rattle.std.specs.Str.Parse.{digits_value, digits_value_after}
use Rattle.book_text.specs.Forms.Parts.{leading_digits, behind_digits, leading_fraction}
use Rattle.book_text.proofs.Digits.{digits_value_after-append, small-from_room, leading_fraction-point}
use Rattle.book_text.proofs.Powers.{power_mono}
use Rattle.book_text.proofs.decimal.read_mantissa.Goals as goal

pub read_digits-number-requires : goal.read_digits-number-requires
read_digits-number-requires c = omega (arith, power_mono _ 30 c.requires)

pub returns-in_default-clause-small : goal.returns-in_default-clause-small
returns-in_default-clause-small c = small-from_room _ _ c.read_digits-number.ensures.room

pub returns-clause-number : goal.returns-clause-number
returns-clause-number c =
    let bytes = c.args.bytes.now in let rest = c.read_digits-number.result.1.now in let whole = digits_value 10 (leading_digits bytes) in
    let point : get_or rest 0 0 ≡ 46 = omega arith in
    c.read_digits-number-2.ensures.number
    ∙ ap (λ n. digits_value_after 10 n (leading_digits (take (length rest - 1) (drop 1 rest)))) c.read_digits-number.ensures.number
    ∙ ap (digits_value_after 10 whole) (sym (leading_fraction-point rest point))
    ∙ ap (λ xs. digits_value_after 10 whole (leading_fraction xs)) c.read_digits-number.ensures.rest
    ∙ sym (digits_value_after-append 0 (leading_digits bytes) (leading_fraction (behind_digits bytes)))

pub returns-clause-small : goal.returns-clause-small
returns-clause-small c = small-from_room _ _ c.read_digits-number-2.ensures.room
