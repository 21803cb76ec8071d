-- The rectangle from the least to the greatest x and y of pins is the smallest around them.
use Rattle.std.proofs.Common.{◌≡◌, ℕ, ◌+◌, ◌<◌, List, [], ◌∷◌, length, map, get_or, ℤ, pos, negsuc, nat_abs, ◌≤ℤ◌, ◌+ℤ◌, ◌-ℤ◌, sym, subst, refl, ⊎_elim, All, arith}
use Rattle.std.proofs.lemmas.Int.{ints, fold-int_max_bounds, fold-int_max_reached, fold-int_min_bounds, fold-int_min_reached}
use Rattle.std.proofs.lemmas.List.{get_or-map, length-map}
use Rattle.std.proofs.lemmas.List.Elements.{All-cons, All-head, All-tail, All-map}
use Rattle.book_design.specs.declared.parts.Pin.{Pin}
use Rattle.book_design.specs.Values.{DesignValue, NetValue}
use Rattle.wire_report.specs.declared.corner.Corner.{Corner}
use Rattle.wire_report.specs.Wire.{greatest, least, spread, pin_x, pin_y, net_length}
use Rattle.wire_report.specs.Rectangles.{Rectangle, IsAround, IsSmallestAround, rectangle_around, width, height}

pub above_least : (zs : List ℤ) → All (λ z. least zs ≤ℤ z) zs
above_least [] = λ k d lt. absurd (omega (arith, lt))
above_least (z ∷ zs) =
    let bounds = fold-int_min_bounds z zs (least (z ∷ zs)) refl in
    All-cons (λ y. least (z ∷ zs) ≤ℤ y) z zs bounds.0 bounds.1

pub below_greatest : (zs : List ℤ) → All (λ z. z ≤ℤ greatest zs) zs
below_greatest [] = λ k d lt. absurd (omega (arith, lt))
below_greatest (z ∷ zs) =
    let bounds = fold-int_max_bounds z zs (greatest (z ∷ zs)) refl in
    All-cons (λ y. y ≤ℤ greatest (z ∷ zs)) z zs bounds.0 bounds.1

-- what holds of all numbers holds of the least and of the greatest
of_least : (P : ℤ → Type 0) (zs : List ℤ) → 0 < length zs → All P zs → P (least zs)
of_least P [] some all = absurd (omega (arith, some))
of_least P (z ∷ zs) some all = ⊎_elim (λ e. subst P (sym e) (All-head P z zs all))
    (λ c. subst P c.2 (All-tail P z zs all c.0 (least (z ∷ zs)) c.1))
    (fold-int_min_reached z zs (least (z ∷ zs)) refl)

of_greatest : (P : ℤ → Type 0) (zs : List ℤ) → 0 < length zs → All P zs → P (greatest zs)
of_greatest P [] some all = absurd (omega (arith, some))
of_greatest P (z ∷ zs) some all = ⊎_elim (λ e. subst P (sym e) (All-head P z zs all))
    (λ c. subst P c.2 (All-tail P z zs all c.0 (greatest (z ∷ zs)) c.1))
    (fold-int_max_reached z zs (greatest (z ∷ zs)) refl)

module _ (at : Pin → ℤ) (pins : List Pin) where
  at_pin : (P : ℤ → Type 0) → All P (map at pins) → (k : ℕ) (d : Pin) → k < length pins → P (at (get_or pins k d))
  at_pin P all k d there =
      let inside : k < length (map at pins) = omega (arith, length-map pins at, there) in
      subst P (get_or-map at pins k d (at d) there) (all k (at d) inside)

  -- numbers around those at all pins are farther apart than the least and the greatest
  narrowest : (low high : ℤ) → 0 < length pins → All (λ pin. low ≤ℤ at pin) pins → All (λ pin. at pin ≤ℤ high) pins → (greatest (map at pins) -ℤ least (map at pins)) ≤ℤ (high -ℤ low)
  narrowest low high some lows highs =
      let there : 0 < length (map at pins) = omega (arith, length-map pins at, some) in
      let left = of_least (λ z. low ≤ℤ z) (map at pins) there (All-map (λ z. low ≤ℤ z) at pins lows) in
      let right = of_greatest (λ z. z ≤ℤ high) (map at pins) there (All-map (λ z. z ≤ℤ high) at pins highs) in
      omega (arith, ints, left, right)

nat_abs_of : (z : ℤ) → pos 0 ≤ℤ z → pos (nat_abs z) ≡ z
nat_abs_of (pos n) h = refl
nat_abs_of (negsuc n) h = absurd (omega (arith, ints, h))

-- how far numbers reach
spread_is : (zs : List ℤ) → 0 < length zs → pos (spread zs) ≡ greatest zs -ℤ least zs
spread_is zs some =
    let order : least zs ≤ℤ greatest zs = of_least (λ z. z ≤ℤ greatest zs) zs some (below_greatest zs) in
    nat_abs_of (greatest zs -ℤ least zs) (omega (arith, ints, order))

module _ (design : DesignValue) (corners : List Corner) (pins : List Pin) where
  all_inside : IsAround design corners pins (rectangle_around design corners pins)
  all_inside k d there = record {
    left = at_pin (pin_x design corners) pins (λ z. least (map (pin_x design corners) pins) ≤ℤ z) (above_least (map (pin_x design corners) pins)) k d there;
    right = at_pin (pin_x design corners) pins (λ z. z ≤ℤ greatest (map (pin_x design corners) pins)) (below_greatest (map (pin_x design corners) pins)) k d there;
    lower = at_pin (pin_y design corners) pins (λ z. least (map (pin_y design corners) pins) ≤ℤ z) (above_least (map (pin_y design corners) pins)) k d there;
    upper = at_pin (pin_y design corners) pins (λ z. z ≤ℤ greatest (map (pin_y design corners) pins)) (below_greatest (map (pin_y design corners) pins)) k d there;
  }

  pub smallest_there : 0 < length pins → IsSmallestAround design corners pins (rectangle_around design corners pins)
  smallest_there some = record {
    around = all_inside;
    width = λ other around. narrowest (pin_x design corners) pins other.left other.right some (λ k d lt. (around k d lt).left) (λ k d lt. (around k d lt).right);
    height = λ other around. narrowest (pin_y design corners) pins other.lower other.upper some (λ k d lt. (around k d lt).lower) (λ k d lt. (around k d lt).upper);
  }

same_sides : (a b c d : ℤ) (m n : ℕ) → a ≤ℤ b → b ≤ℤ a → c ≤ℤ d → d ≤ℤ c → pos m ≡ a → pos n ≡ c → pos (m + n) ≡ b +ℤ d
same_sides a b c d m n h k i j e f = omega (arith, ints, h, k, i, j, e, f)

pub length_is : (design : DesignValue) (corners : List Corner) (net : NetValue) (rectangle : Rectangle) → 0 < length net.pins → IsSmallestAround design corners net.pins rectangle
    → pos (net_length design corners net) ≡ width rectangle +ℤ height rectangle
length_is design corners net rectangle some smallest =
    let own = smallest_there design corners net.pins some in
    let tight = rectangle_around design corners net.pins in
    let xs = map (pin_x design corners) net.pins in
    let ys = map (pin_y design corners) net.pins in
    let across : 0 < length xs = omega (arith, length-map net.pins (pin_x design corners), some) in
    let up : 0 < length ys = omega (arith, length-map net.pins (pin_y design corners), some) in
    same_sides (width tight) (width rectangle) (height tight) (height rectangle) (spread xs) (spread ys)
    (own.width rectangle smallest.around) (smallest.width tight own.around) (own.height rectangle smallest.around) (smallest.height tight own.around)
    (spread_is xs across) (spread_is ys up)
