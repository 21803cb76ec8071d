use Rattle.std.proofs.Common.{◌≡◌, ◌+◌, ◌*◌, ◌^◌, ◌≤◌, length}
use Rattle.std.specs.Str.Parse.{digits_value_after}
use Rattle.book_text.specs.Forms.Parts.{leading_digits, behind_digits}
use Rattle.book_text.proofs.decimal.read_digits.Given as goal

abbrev pub invariant-loop-rest : goal.invariant-loop-rest
invariant-loop-rest l = record {
  value : digits_value_after 10 l.fn.number (leading_digits l.bytes) ≡ digits_value_after 10 l.number (leading_digits l.rest);
  behind : behind_digits l.bytes ≡ behind_digits l.rest;
  room : (l.number + 1) * 10 ^ length l.rest ≤ 10 ^ 30;
}

abbrev pub decreases-loop-rest : goal.decreases-loop-rest
decreases-loop-rest l = length l.rest
