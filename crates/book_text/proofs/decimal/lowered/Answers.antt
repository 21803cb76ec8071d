use Rattle.std.proofs.Common.{sym, arith}
use Rattle.book_text.proofs.Powers.{power_pos, power_mono, lower-far}
use Rattle.book_text.proofs.decimal.lowered.Goals as goal

pub returns-then-places-gt-MOST_DOWN : goal.returns-then-places-gt-MOST_DOWN
returns-then-places-gt-MOST_DOWN c = let none = lower-far c.args.number c.args.places c.requires c.if-places-gt-MOST_DOWN.true in (omega arith, sym none)

pub pow-requires : goal.pow-requires
pow-requires c = omega (arith, power_mono c.args.places 30 c.if-places-gt-MOST_DOWN.false)

pub nonzero_div-number : goal.nonzero_div-number
nonzero_div-number c = omega (arith, power_pos c.args.places, c.pow.ensures)
