-- Webs of points, and chains of neighbours that lead to an anchored point.
use Rattle.std.specs.Prelude.{ℕ, Bool, false, List, [], ◌∷◌, slice_index_or, Contains, IsTrue}

-- a point of a web: its neighbours by number, and whether it is anchored
pub record Joint : Type 0 where
  pub near : List ℕ
  pub anchored : Bool

-- past the end there is no joint: it has no neighbour and isn't anchored
abbrev pub no_joint : Joint
no_joint = record { near = []; anchored = false }

abbrev pub joint_at : List Joint → ℕ → Joint
joint_at web i = slice_index_or web i no_joint

abbrev pub IsNeighbour : List Joint → ℕ → ℕ → Type 0
IsNeighbour web p q = Contains (joint_at web p).near q

abbrev pub IsAnchored : List Joint → ℕ → Type 0
IsAnchored web p = IsTrue (joint_at web p).anchored

-- A chain is a list of points in which each next point is a neighbour of the one before, and whose last point is anchored.
abbrev pub IsChain : List Joint → List ℕ → Type 0
IsChain web [] = ⊥
IsChain web (p ∷ []) = IsAnchored web p
IsChain web (p ∷ q ∷ rest) = IsNeighbour web p q × IsChain web (q ∷ rest)

-- a chain begins with the point
abbrev pub HasChain : List Joint → ℕ → Type 0
HasChain web p = (rest : List ℕ) × IsChain web (p ∷ rest)
