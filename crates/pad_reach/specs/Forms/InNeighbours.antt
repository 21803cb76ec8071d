-- The entries of a web sorted by their neighbours: which points have a point as a neighbour.
use Rattle.std.specs.Prelude.{◌≡◌, ◌==◌, ℕ, ◌+◌, ◌<◌, ◌≤◌, ◌⊎◌, nat_lt, List, length, take, slice_index, sum_by, count_by}
use Rattle.pad_reach.specs.Chain.{Joint, joint_at, IsNeighbour}

-- how many of these entries are the point
unfoldable pub count_in : ℕ → List ℕ → ℕ
count_in q near = count_by (λ x. x == q) near

-- how many entries of the web lead to the point
unfoldable pub entries_to : ℕ → List Joint → ℕ
entries_to q web = sum_by (λ joint. count_in q joint.near) web

-- how many lead to a point before it
unfoldable pub entries_before : ℕ → List Joint → ℕ
entries_before q web = sum_by (λ joint. count_by (λ x. nat_lt x q) joint.near) web

unfoldable pub entries : List Joint → ℕ
entries web = sum_by (λ joint. length joint.near) web

-- the room of the point q ends behind the entries that lead to it or to a point before it
pub record AreEnds (web : List Joint) (ends : List ℕ) : Type 0 where
  pub all : length ends ≡ length web + 1
  pub each : (q : ℕ) → q < length ends → slice_index ends q ≡ entries_before (q + 1) web

-- the entry m of the point p comes before the entry k of the point i
abbrev pub IsEarlier : ℕ → ℕ → ℕ → ℕ → Type 0
IsEarlier p m i k = (p < i) ⊎ ((p ≡ i) × (m < k))

-- the point p stands among the in-neighbours of the point q
pub record StandsAt (web : List Joint) (starts points : List ℕ) (p q : ℕ) : Type 0 where
  pub there : q < length web
  pub at : ℕ
  pub from : slice_index starts q ≤ at
  pub to : at < entries_before (q + 1) web
  pub is : slice_index points at ≡ p

-- The entries before the entry k of the point i are laid out: those that lead to the point q from `starts` of q up to the end of
-- its room.
pub record IsLaidOut (web : List Joint) (i k : ℕ) (starts points : List ℕ) : Type 0 where
  pub all : length starts ≡ length web + 1
  pub room : entries_before (length web + 1) web ≤ length points
  pub left : (q : ℕ) → q < length starts → slice_index starts q + (entries_to q (take i web) + count_in q (take k (joint_at web i).near)) ≡ entries_before (q + 1) web
  pub sound : (q j : ℕ) → q < length web → slice_index starts q ≤ j → j < entries_before (q + 1) web → (slice_index points j < length web) × IsNeighbour web (slice_index points j) q
  pub complete : (p m : ℕ) → IsEarlier p m i k → m < length (joint_at web p).near → StandsAt web starts points p (slice_index (joint_at web p).near m)

-- the points from `starts` of q up to `starts` of q + 1 are exactly the in-neighbours of the point q
pub record IsReversed (web : List Joint) (starts points : List ℕ) : Type 0 where
  pub all : length starts ≡ length web + 1
  pub ordered : (q : ℕ) → q < length web → slice_index starts q ≤ slice_index starts (q + 1)
  pub within : (q : ℕ) → q < length web → slice_index starts (q + 1) ≤ length points
  pub sound : (q j : ℕ) → q < length web → slice_index starts q ≤ j → j < slice_index starts (q + 1) → (slice_index points j < length web) × IsNeighbour web (slice_index points j) q
  pub complete : (p q : ℕ) → p < length web → q < length web → IsNeighbour web p q → (j : ℕ) × (slice_index starts q ≤ j) × (j < slice_index starts (q + 1)) × (slice_index points j ≡ p)
