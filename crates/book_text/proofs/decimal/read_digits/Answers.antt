use Rattle.std.proofs.Common.{◌≡◌, true, get_or, sym, ◌∙◌, arith}
use Rattle.std.specs.Char.{is_ascii_digit}
use Rattle.book_text.proofs.Digits.{read-more}
use Rattle.book_text.proofs.decimal.read_digits.Goals as goal

pub overflow_mul-number : goal.overflow_mul-number
overflow_mul-number c =
    let digit : is_ascii_digit (get_or c.loop-rest.rest.now 0 0) ≡ true = sym c.is_ascii_digit.ensures.value ∙ c.if-is_ascii_digit.true in
    let read = read-more c.loop-rest.number c.loop-rest.rest.now c.in-len1-up.len_at_least digit in
    omega (arith, read.small, c.loop-rest.invariant.room)

pub overflow_add-number : goal.overflow_add-number
overflow_add-number c =
    let digit : is_ascii_digit (get_or c.loop-rest.rest.now 0 0) ≡ true = sym c.is_ascii_digit.ensures.value ∙ c.if-is_ascii_digit.true in
    let read = read-more c.loop-rest.number c.loop-rest.rest.now c.in-len1-up.len_at_least digit in
    omega (arith, read.small, c.loop-rest.invariant.room, c.from.ensures)

pub loop-rest-preserved : goal.loop-rest-preserved
loop-rest-preserved c =
    let digit : is_ascii_digit (get_or c.loop-rest.rest.now 0 0) ≡ true = sym c.is_ascii_digit.ensures.value ∙ c.if-is_ascii_digit.true in
    let read = read-more c.loop-rest.number c.loop-rest.rest.now c.in-len1-up.len_at_least digit in
    rw c.from.ensures (record {
      value = c.loop-rest.invariant.value ∙ read.value;
      behind = c.loop-rest.invariant.behind ∙ read.behind;
      room = omega (arith, read.room, c.loop-rest.invariant.room);
    })
