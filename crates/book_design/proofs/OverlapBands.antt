-- Two subrows that share area begin in one band or in neighbouring ones, and two of one band share height.
use Rattle.std.proofs.Common.{◌≡◌, ℕ, ◌+◌, ◌-◌, ◌/◌, ◌^◌, ◌<◌, ◌≤◌, ◌⊎◌, inl, inr, ℤ, pos, neg_ℤ, ◌+ℤ◌, ◌≤ℤ◌, ◌<ℤ◌, arith, subst}
use Rattle.std.proofs.lemmas.Int.{ints}
use Rattle.std.proofs.lemmas.Nat.{div_below}
use Rattle.std.specs.Prelude.{unsigned_abs}
use Rattle.std.specs.BTreeMap.{BTreeMap}
use Rattle.book_design.specs.declared.strips.Strip.{Strip as Kept}
use Rattle.book_design.specs.Forms.Strips.{IsStripInRange}
use Rattle.book_design.specs.Forms.Overlap.{band, Place, Has, IsApart, MeetsNone, MeetsNoneOf}

less_in_one : (x y h : ℕ) → 0 < h → x / h ≡ y / h → x < y + h
less_in_one x y h positive e = grind arith

next_at_most : (x y h : ℕ) → 0 < h → x < y + h → x / h ≤ y / h + 1
next_at_most x y h positive less =
    let below : x / h < y / h + 2 = div_below x h (y / h + 2) positive (grind arith) in
    omega arith

shifted : (a b height : ℤ) → pos 0 <ℤ height → neg_ℤ (pos (10 ^ 12)) ≤ℤ a → neg_ℤ (pos (10 ^ 12)) ≤ℤ b
    → a <ℤ (b +ℤ height) → unsigned_abs (a +ℤ pos (10 ^ 12)) < unsigned_abs (b +ℤ pos (10 ^ 12)) + unsigned_abs height
shifted a b height positive a_low b_low less = omega (arith, ints)

back : (a b height : ℤ) → pos 0 <ℤ height → neg_ℤ (pos (10 ^ 12)) ≤ℤ a → neg_ℤ (pos (10 ^ 12)) ≤ℤ b
    → unsigned_abs (a +ℤ pos (10 ^ 12)) < unsigned_abs (b +ℤ pos (10 ^ 12)) + unsigned_abs height → a <ℤ (b +ℤ height)
back a b height positive a_low b_low less = omega (arith, ints)

high : (height : ℤ) → pos 0 <ℤ height → 0 < unsigned_abs height
high height positive = omega (arith, ints)

pub less_in_band : (a b height : ℤ) → pos 0 <ℤ height → neg_ℤ (pos (10 ^ 12)) ≤ℤ a → neg_ℤ (pos (10 ^ 12)) ≤ℤ b
    → band height a ≡ band height b → a <ℤ (b +ℤ height)
unfolding band
less_in_band a b height positive a_low b_low same =
    back a b height positive a_low b_low
    (less_in_one (unsigned_abs (a +ℤ pos (10 ^ 12))) (unsigned_abs (b +ℤ pos (10 ^ 12))) (unsigned_abs height) (high height positive) same)

pub next_band : (a b height : ℤ) → pos 0 <ℤ height → neg_ℤ (pos (10 ^ 12)) ≤ℤ a → neg_ℤ (pos (10 ^ 12)) ≤ℤ b
    → a <ℤ (b +ℤ height) → band height a ≤ band height b + 1
unfolding band
next_band a b height positive a_low b_low less =
    next_at_most (unsigned_abs (a +ℤ pos (10 ^ 12))) (unsigned_abs (b +ℤ pos (10 ^ 12))) (unsigned_abs height) (high height positive)
    (shifted a b height positive a_low b_low less)

in_three : (n k : ℕ) → n ≤ k + 1 → k ≤ n + 1 → (n ≡ k - 1) ⊎ ((n ≡ k) ⊎ (n ≡ k + 1))
in_three n k up down = grind arith

-- a subrow that shares area with none in its own band and the two beside it shares area with none at all
pub none_at_all : (height : ℤ) (kept : BTreeMap Place Kept) (s : Kept) (number : ℕ) → pos 0 <ℤ height → IsApart height kept → IsStripInRange s
    → number ≡ band height s.lower → MeetsNoneOf height kept (number - 1) s → MeetsNoneOf height kept number s → MeetsNoneOf height kept (number + 1) s
    → MeetsNone height kept s
none_at_all height kept s number positive apart range e under same over place t has meet =
    let placed : place ≡ (band height t.lower, t.left) = apart.placed place t has in
    let range_t : IsStripInRange t = apart.ranges place t has in
    let P : Place → Type 0 = λ p. Has kept p t in
    let there : Has kept (band height t.lower, t.left) t = subst P placed has in
    let up : band height t.lower ≤ band height s.lower + 1 = next_band t.lower s.lower height positive range_t.lower_low range.lower_low meet.lower_upper in
    let down : band height s.lower ≤ band height t.lower + 1 = next_band s.lower t.lower height positive range.lower_low range_t.lower_low meet.upper_lower in
    let at : (n : ℕ) → band height t.lower ≡ n → Has kept (n, t.left) t = λ n same. let Q : ℕ → Type 0 = λ m. Has kept (m, t.left) t in subst Q same there in
    elim (in_three (band height t.lower) number (omega arith) (omega arith)) [
      | inl h ↦ under t.left t (at (number - 1) h) meet
      | inr rest ↦ elim rest [
        | inl h ↦ same t.left t (at number h) meet
        | inr h ↦ over t.left t (at (number + 1) h) meet
      ]
    ]
