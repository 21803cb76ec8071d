use Rattle.relax_tests.proofs.table.tables_work.Given as goal

abbrev pub ghosts-works : goal.ghosts-works
ghosts-works g a = record { name = a.blank.name; parts = a.blank.parts }
