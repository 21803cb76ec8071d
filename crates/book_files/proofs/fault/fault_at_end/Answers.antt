use Rattle.std.proofs.Common.{arith}
use Rattle.book_files.proofs.FewLines.{length-lines_of-le}
use Rattle.book_files.proofs.fault.fault_at_end.Goals as goal

pub overflow_add-result : goal.overflow_add-result
overflow_add-result c = omega (arith, length-lines_of-le c.args.text.now)
