use Rattle.std.proofs.Common.{◌≡◌, ◌^◌, ◌∙◌, arith}
use Rattle.book_text.proofs.Powers.{raise-far, raise-large, power_at}
use Rattle.book_text.proofs.decimal.raised.Goals as goal
use Rattle.book_text.proofs.decimal.raised.Goals.{then-places-gt-MOST_UP-via-then-places-gt-MOST_UP, then-places-gt-MOST_UP-via-else-places-gt-MOST_UP+then-number-from}

pub returns-then-places-gt-MOST_UP : goal.returns-then-places-gt-MOST_UP
returns-then-places-gt-MOST_UP c = elim c.then-places-gt-MOST_UP.branch [
  | then-places-gt-MOST_UP-via-then-places-gt-MOST_UP w ↦ λ le. omega (arith, raise-far c.args.number c.args.places c.requires w.if-places-gt-MOST_UP.true)
  | then-places-gt-MOST_UP-via-else-places-gt-MOST_UP+then-number-from w ↦ λ le. omega (arith, raise-large c.args.number c.args.places (omega arith))
]

pub returns : goal.returns
returns c =
    let is_power : c.from-2.result ≡ 10 ^ c.args.places = c.from-2.ensures ∙ power_at c.args.places c.if-places-gt-MOST_UP.false in
    rw is_power at c.within_range.ensures
