use Rattle.std.proofs.Common.{map, arith}
use Rattle.book_files.proofs.GoodNets.{pin_good}
use Rattle.book_files.proofs.nets.OpenNet.keep.Goals as goal

pub overflow_add-found : goal.overflow_add-found
overflow_add-found c = omega (arith, c.len.ensures.small)

pub push-requires : goal.push-requires
push-requires c = pin_good c.args.number (map (λ w. w.now) c.args.words.now) _ c.in_ok-pin.ensures
