use Rattle.relax_crew.proofs.crew.take_turn.Given as goal

abbrev pub ghosts-work : goal.ghosts-work
ghosts-work g a = record { name = a.blank.name; parts = a.blank.parts }
