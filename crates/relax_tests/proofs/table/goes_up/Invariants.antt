use Rattle.relax_table.specs.Seats.{IsSeatOf}
use Rattle.relax_tests.proofs.table.goes_up.Given as goal

abbrev pub invariant-loop-turn : goal.invariant-loop-turn
invariant-loop-turn g l = record {
  first : IsSeatOf l.table l.first;
  second : IsSeatOf l.table l.second;
  third : IsSeatOf l.table l.third;
}
