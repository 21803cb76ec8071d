-- The walk over the subrows of a band, from right to left, up to one that ends before the subrow begins.
use Rattle.std.proofs.Common.{◌≡◌, ℕ, ◌<◌, ◌^◌, ℤ, pos, neg_ℤ, ◌+ℤ◌, ◌≤ℤ◌, ◌<ℤ◌, arith, sym, ap, subst, ◌∙◌}
use Rattle.std.proofs.lemmas.Int.{ints, by_lt_z}
use Rattle.std.specs.Prelude.{unsigned_abs}
use Rattle.std.specs.BTreeMap.{BTreeMap}
use Rattle.book_design.specs.declared.strips.Strip.{Strip as Kept}
use Rattle.book_design.specs.Forms.Strips.{IsStripInRange}
use Rattle.book_design.specs.Forms.Overlap.{band, Place, Has, IsApart, Meet, MeetsNoneOf, StandAtLeftEdges, IsLastBefore, HasNoneBefore}
use Rattle.book_design.proofs.OverlapBands.{less_in_band}

-- none of those of a band that begin at an end or after it shares area with the subrow
abbrev pub MeetsNoneFrom : ℤ → BTreeMap Place Kept → ℕ → ℤ → Kept → Type 0
MeetsNoneFrom height kept number end s = (left : ℤ) (t : Kept) → end ≤ℤ left → Has kept (number, left) t → Meet height t s → ⊥

pub edges : (height : ℤ) (kept : BTreeMap Place Kept) → IsApart height kept → StandAtLeftEdges kept
edges height kept apart place s has = ap (λ p. p.1) (apart.placed place s has)

pub from_right : (height : ℤ) (kept : BTreeMap Place Kept) (number : ℕ) (s : Kept) → IsApart height kept → MeetsNoneFrom height kept number s.right s
from_right height kept number s apart left t past has meet =
    let edge : left ≡ t.left = edges height kept apart (number, left) t has in
    let before : t.left <ℤ s.right = meet.left_right in
    omega (arith, ints)

same_value : (kept : BTreeMap Place Kept) (place : Place) (s t : Kept) → Has kept place s → Has kept place t → s ≡ t
same_value kept place s t h k = cc

is_other : (kept : BTreeMap Place Kept) (number : ℕ) (left : ℤ) (end : ℤ) (other t : Kept) → IsLastBefore kept number end other
    → left ≡ other.left → Has kept (number, left) t → t ≡ other
is_other kept number left end other t last e has =
    let P : ℤ → Type 0 = λ z. Has kept (number, z) t in
    same_value kept (number, other.left) t other (subst P e has) last.there

pub step : (height : ℤ) (kept : BTreeMap Place Kept) (number : ℕ) (end : ℤ) (s other : Kept) → IsLastBefore kept number end other
    → MeetsNoneFrom height kept number end s → (Meet height other s → ⊥) → MeetsNoneFrom height kept number other.left s
step height kept number end s other last none apart left t past has meet =
    by_lt_z left end
    (λ before.
    let upto : left ≤ℤ other.left = last.last left t before has in
    let same : t ≡ other = is_other kept number left end other t last (omega (arith, ints)) has in
    let P : Kept → Type 0 = λ o. Meet height o s in
    apart (subst P same meet))
    (λ after. none left t after has meet)

pub all_walked : (height : ℤ) (kept : BTreeMap Place Kept) (number : ℕ) (end : ℤ) (s : Kept) → HasNoneBefore kept number end
    → MeetsNoneFrom height kept number end s → MeetsNoneOf height kept number s
all_walked height kept number end s before none left t has meet =
    by_lt_z left end (λ less. before left t less has) (λ after. none left t after has meet)

-- two of one band whose columns overlap share area
meet_in_band : (height : ℤ) (kept : BTreeMap Place Kept) (number : ℕ) (a b : ℤ) (s t : Kept) → pos 0 <ℤ height → IsApart height kept
    → Has kept (number, a) s → Has kept (number, b) t → s.left <ℤ t.right → t.left <ℤ s.right → Meet height s t
meet_in_band height kept number a b s t positive apart has_s has_t left_right right_left =
    let band_s : number ≡ band height s.lower = ap (λ p. p.0) (apart.placed (number, a) s has_s) in
    let band_t : number ≡ band height t.lower = ap (λ p. p.0) (apart.placed (number, b) t has_t) in
    let range_s : IsStripInRange s = apart.ranges (number, a) s has_s in
    let range_t : IsStripInRange t = apart.ranges (number, b) t has_t in
    record {
      a_wide = apart.wide (number, a) s has_s;
      b_wide = apart.wide (number, b) t has_t;
      a_high = omega (arith, ints);
      b_high = omega (arith, ints);
      left_right = left_right;
      right_left = right_left;
      lower_upper = less_in_band s.lower t.lower height positive range_s.lower_low range_t.lower_low (sym band_s ∙ band_t);
      upper_lower = less_in_band t.lower s.lower height positive range_t.lower_low range_s.lower_low (sym band_t ∙ band_s);
    }

-- those before one that ends before the subrow begins end still earlier
pub stop : (height : ℤ) (kept : BTreeMap Place Kept) (number : ℕ) (end : ℤ) (s other : Kept) → pos 0 <ℤ height → IsApart height kept
    → IsLastBefore kept number end other → MeetsNoneFrom height kept number end s → (Meet height other s → ⊥) → other.right ≤ℤ s.left
    → MeetsNoneOf height kept number s
stop height kept number end s other positive apart last none other_apart ends left t has meet =
    let edge : left ≡ t.left = edges height kept apart (number, left) t has in
    let wide : other.left <ℤ other.right = apart.wide (number, other.left) other last.there in
    by_lt_z left other.left
    (λ less.
    by_lt_z other.left t.right
    (λ over. apart.apart (number, left) (number, other.left) t other has last.there
    (λ same. let equal : left ≡ other.left = ap (λ p. p.1) same in absurd (omega (arith, ints)))
    (meet_in_band height kept number left other.left t other positive apart has last.there (omega (arith, ints)) over))
    (λ under. let begins : s.left <ℤ t.right = meet.right_left in absurd (omega (arith, ints))))
    (λ after. step height kept number end s other last none other_apart left t after has meet)

pub closer : (a b : ℤ) → neg_ℤ (pos (10 ^ 12)) ≤ℤ a → a <ℤ b → unsigned_abs (a +ℤ pos (10 ^ 12)) < unsigned_abs (b +ℤ pos (10 ^ 12))
closer a b low less = omega (arith, ints)

pub at_height : (given height : ℤ) (other s : Kept) → given ≡ height → (Meet given other s → ⊥) → Meet height other s → ⊥
at_height given height other s e none = let P : ℤ → Type 0 = λ z. Meet z other s → ⊥ in subst P e none
