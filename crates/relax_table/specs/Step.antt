-- The two steps of a seat on the word of a point. A machine of explicit events makes the same.
use Rattle.std.specs.Prelude.{ℕ, List, slice_set}
use Rattle.relax_system.specs.declared.side.Side.{Side}
use Rattle.relax_system.specs.declared.points.Point.{Point}
use Rattle.relax_system.specs.Sides.{mean_of, further_of}

-- A load reads the word. A renewal puts the further one of the word and of the mean of what the seat has seen.
pub data Kind : Type 0 where
  Load : Kind
  Renew : Kind

-- the word of the point i after a step that finds x, by a seat that has seen this
abbrev pub word_after : Side → List Point → Kind → ℕ → ℕ → List ℕ → ℕ
word_after side points Load i x seen = x
word_after side points Renew i x seen = further_of side x (mean_of side points i seen)

-- what the seat has seen after it
abbrev pub seen_after : Side → List Point → Kind → ℕ → ℕ → List ℕ → List ℕ
seen_after side points kind i x seen = slice_set seen i (word_after side points kind i x seen)
