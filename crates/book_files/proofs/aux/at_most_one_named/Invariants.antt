use Rattle.std.proofs.Common.{◌≡◌, map, take, option_map, option_to_list}
use Rattle.book_files.specs.Aux.{named}
use Rattle.book_files.proofs.aux.at_most_one_named.Given as goal

-- what was found is what the names so far have of the suffix
abbrev pub invariant-loop-name : goal.invariant-loop-name
invariant-loop-name l = named l.suffix (map (λ w. w.now) (take l.name-index l.names)) ≡ option_to_list (option_map (λ t. t.now) l.found)
