-- Earlier subrows of one height, kept by where they stand, and those of them that share area with a further one.
use Rattle.std.specs.Prelude.{◌≡◌, ◌≢◌, ℕ, ◌/◌, ◌^◌, ℤ, pos, ◌+ℤ◌, ◌<ℤ◌, ◌≤ℤ◌, unsigned_abs, Some, if◌then◌else◌}
use Rattle.std.specs.declared.cmp.Ordering.{Ordering}
use Rattle.std.specs.Ordering.{nat_cmp, int_cmp, ordering_then, is_eq}
use Rattle.std.specs.BTreeMap.{BTreeMap, get}
use Rattle.book_design.specs.declared.strips.Strip.{Strip as Kept}
use Rattle.book_design.specs.Faults.{ShareArea}
use Rattle.book_design.specs.Forms.Strips.{strip_value, IsStripInRange}

-- the band of the plane in which a lower edge lies: bands are as high as a row, and the first begins at -10^12
unfoldable pub band : ℤ → ℤ → ℕ
band height lower = unsigned_abs (lower +ℤ pos (10 ^ 12)) / unsigned_abs height

-- where a subrow stands: its band and its left edge
abbrev pub Place : Type 0
Place = ℕ × ℤ

abbrev pub place_of : ℤ → Kept → Place
place_of height s = (band height s.lower, s.left)

-- by the band, then by the left edge
abbrev pub place_cmp : Place → Place → Ordering
place_cmp x y = ordering_then (nat_cmp x.0 y.0) (int_cmp x.1 y.1)

abbrev pub Meet : ℤ → Kept → Kept → Type 0
Meet height a b = ShareArea (strip_value height a) (strip_value height b)

-- the map has the subrow at the place
abbrev pub Has : BTreeMap Place Kept → Place → Kept → Type 0
Has kept place s = get place_cmp kept place ≡ Some s

-- each subrow has sites and stands at its place, and no two share area
pub record IsApart (height : ℤ) (kept : BTreeMap Place Kept) : Type 0 where
  pub placed : (place : Place) (s : Kept) → Has kept place s → place ≡ place_of height s
  pub wide : (place : Place) (s : Kept) → Has kept place s → s.left <ℤ s.right
  pub ranges : (place : Place) (s : Kept) → Has kept place s → IsStripInRange s
  pub apart : (p q : Place) (s t : Kept) → Has kept p s → Has kept q t → p ≢ q → Meet height s t → ⊥

abbrev pub StandAtLeftEdges : BTreeMap Place Kept → Type 0
StandAtLeftEdges kept = (place : Place) (s : Kept) → Has kept place s → place.1 ≡ s.left

-- the subrow of the band that begins last before an end
pub record IsLastBefore (kept : BTreeMap Place Kept) (number : ℕ) (end : ℤ) (s : Kept) : Type 0 where
  pub there : Has kept (number, s.left) s
  pub before : s.left <ℤ end
  pub last : (left : ℤ) (t : Kept) → left <ℤ end → Has kept (number, left) t → left ≤ℤ s.left

abbrev pub HasNoneBefore : BTreeMap Place Kept → ℕ → ℤ → Type 0
HasNoneBefore kept number end = (left : ℤ) (t : Kept) → left <ℤ end → Has kept (number, left) t → ⊥

-- one of the kept subrows shares area with the subrow
pub record MeetsOne (height : ℤ) (kept : BTreeMap Place Kept) (s : Kept) : Type 0 where
  pub place : Place
  pub other : Kept
  pub there : Has kept place other
  pub shared : Meet height other s

-- none of a band does
abbrev pub MeetsNoneOf : ℤ → BTreeMap Place Kept → ℕ → Kept → Type 0
MeetsNoneOf height kept number s = (left : ℤ) (t : Kept) → Has kept (number, left) t → Meet height t s → ⊥

abbrev pub MeetsNone : ℤ → BTreeMap Place Kept → Kept → Type 0
MeetsNone height kept s = (place : Place) (t : Kept) → Has kept place t → Meet height t s → ⊥

-- the map with one more subrow, at its place
abbrev pub HasAlso : ℤ → BTreeMap Place Kept → BTreeMap Place Kept → Kept → Type 0
HasAlso height kept more s = (place : Place) → get place_cmp more place ≡ (if is_eq (place_cmp (place_of height s) place) then Some s else get place_cmp kept place)
