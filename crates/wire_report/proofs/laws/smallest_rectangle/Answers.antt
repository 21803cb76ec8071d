use Rattle.wire_report.proofs.Smallest.{smallest_there, length_is}
use Rattle.wire_report.proofs.laws.smallest_rectangle.Goals as goal

pub returns-clause-there : goal.returns-clause-there
returns-clause-there c = λ design corners net some. smallest_there design corners net.pins some

pub returns-clause-length : goal.returns-clause-length
returns-clause-length c = length_is
