-- Which way leads from each point to an anchored one, or which point is the first that no way leads from.
use Rattle.std.specs.Prelude.{◌≡◌, ℕ, ◌+◌, ◌<◌, List, length, slice_index_or, Option, Some, None}
use Rattle.pad_reach.specs.Chain.{Joint, IsNeighbour, IsAnchored, HasChain}

-- where a point's chain goes on, and how many points come behind it there
pub record Step : Type 0 where
  pub toward : Option ℕ
  pub distance : ℕ

abbrev pub no_step : Step
no_step = record { toward = None; distance = 0 }

abbrev pub step_at : List Step → ℕ → Step
step_at steps i = slice_index_or steps i no_step

-- The step of a point: none from an anchored point, at distance 0, and else to a neighbour whose distance is one less.
abbrev pub LeadsOn : List Joint → List Step → ℕ → Option ℕ → ℕ → Type 0
LeadsOn web steps p None distance = IsAnchored web p × (distance ≡ 0)
LeadsOn web steps p (Some q) distance = (IsAnchored web p → ⊥) × IsNeighbour web p q × (q < length web) × ((step_at steps q).distance + 1 ≡ distance)

-- each point has its step
pub record Reaches (web : List Joint) (steps : List Step) : Type 0 where
  pub all : length steps ≡ length web
  pub each : (p : ℕ) → p < length web → LeadsOn web steps p (step_at steps p).toward (step_at steps p).distance

-- What a step says without its web: none goes on from the distance 0, and any other goes on to a point whose distance is one less.
abbrev pub FallsTo : List Step → Option ℕ → ℕ → Type 0
FallsTo steps None distance = distance ≡ 0
FallsTo steps (Some q) distance = (q < length steps) × ((step_at steps q).distance + 1 ≡ distance)

-- each step falls
abbrev pub AreFalling : List Step → Type 0
AreFalling steps = (p : ℕ) → p < length steps → FallsTo steps (step_at steps p).toward (step_at steps p).distance

-- no chain leads from the point, and one leads from each point before it
pub record IsFirstUnanchored (web : List Joint) (p : ℕ) : Type 0 where
  pub there : p < length web
  pub none : HasChain web p → ⊥
  pub before : (q : ℕ) → q < p → HasChain web q
