use Rattle.std.proofs.Common.{arith}
use Rattle.book_text.proofs.Powers.{raise, lower}
use Rattle.book_text.proofs.decimal.scaled.Goals as goal

pub returns-then-up-down : goal.returns-then-up-down
returns-then-up-down c = rw (raise c.args.number c.args.up c.args.down c.if-up-down.true) c.raised.ensures

pub returns-else-up-down : goal.returns-else-up-down
returns-else-up-down c = rw (lower c.args.number c.args.up c.args.down (omega arith)) c.lowered.ensures
