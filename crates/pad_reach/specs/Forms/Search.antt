-- What a search from the anchored points knows at each step, and what it ends with.
use Rattle.std.specs.Prelude.{◌≡◌, ℕ, ◌+◌, ◌<◌, ◌≤◌, ◌⊎◌, List, length, slice_index, slice_index_or, count_by, Option, Some, None, IsSome, is_none}
use Rattle.pad_reach.specs.Chain.{Joint, IsNeighbour, IsAnchored}
use Rattle.pad_reach.specs.declared.steps.Entry.{Entry}

abbrev pub found_at : List (Option Entry) → ℕ → Option Entry
found_at found p = slice_index_or found p None

abbrev pub IsReached : List (Option Entry) → ℕ → Type 0
IsReached found p = IsSome (found_at found p)

-- how many points aren't reached yet
unfoldable pub unreached : List (Option Entry) → ℕ
unreached found = count_by is_none found

-- the point is reached, and its distance is one less
abbrev pub IsNearer : List (Option Entry) → ℕ → ℕ → Type 0
IsNearer found q distance = (near : Entry) × (found_at found q ≡ Some near) × (near.distance + 1 ≡ distance)

-- An anchored point has distance 0, and another one goes on to a neighbour that is nearer by one.
abbrev pub IsFoundBy : List Joint → List (Option Entry) → ℕ → Option ℕ → ℕ → Type 0
IsFoundBy web found p None distance = IsAnchored web p × (distance ≡ 0)
IsFoundBy web found p (Some q) distance = (IsAnchored web p → ⊥) × IsNeighbour web p q × IsNearer found q distance

-- what is known of the reached points
pub record IsSound (web : List Joint) (found : List (Option Entry)) : Type 0 where
  pub all : length found ≡ length web
  pub each : (p : ℕ) (e : Entry) → found_at found p ≡ Some e → IsFoundBy web found p e.toward e.distance
  pub short : (p : ℕ) (e : Entry) → found_at found p ≡ Some e → e.distance + unreached found < length web

-- no unreached point is anchored, and none has a reached neighbour
pub record IsSettled (web : List Joint) (found : List (Option Entry)) : Type 0 where
  pub sound : IsSound web found
  pub anchored : (p : ℕ) → p < length web → IsAnchored web p → IsReached found p
  pub closed : (p q : ℕ) → p < length web → IsNeighbour web p q → IsReached found q → IsReached found p

-- the point stands in the queue, not before `next`
abbrev pub IsWaiting : List ℕ → ℕ → ℕ → Type 0
IsWaiting queue next q = (j : ℕ) × (next ≤ j) × (j < length queue) × (slice_index queue j ≡ q)

-- Each anchored point before `limit` is reached. The points of the queue are reached, and each in-neighbour of a reached
-- point is reached, or that point still waits.
pub record IsSearch (web : List Joint) (limit : ℕ) (found : List (Option Entry)) (queue : List ℕ) (next : ℕ) : Type 0 where
  pub sound : IsSound web found
  pub anchored : (p : ℕ) → p < limit → IsAnchored web p → IsReached found p
  pub queued : (j : ℕ) → j < length queue → IsReached found (slice_index queue j)
  pub closed : (p q : ℕ) → p < length web → IsNeighbour web p q → IsReached found q → IsReached found p ⊎ IsWaiting queue next q
  pub counted : length queue + unreached found ≡ length web
  pub within : next ≤ length queue
