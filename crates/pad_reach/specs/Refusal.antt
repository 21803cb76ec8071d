-- The cause of each refusal of the search.
use Rattle.std.specs.Prelude.{List}
use Rattle.pad_reach.specs.Chain.{Joint}
use Rattle.pad_reach.specs.Reaches.{IsFirstUnanchored}
use Rattle.pad_reach.specs.declared.search.ReachError.{ReachError}
use Rattle.pad_reach.specs.declared.search.ReachError.TheVariants.{Unanchored, Memory}

-- exactly the first point without a chain; want of memory may come at any time
abbrev pub IsRefusal : List Joint → ReachError → Type 0
IsRefusal web (Unanchored p) = IsFirstUnanchored web p
IsRefusal web Memory = Unit {0}
