-- The extent of the pins that a walk has passed.
use Rattle.std.proofs.Common.{◌≡◌, ℕ, ◌+◌, ◌<◌, ◌≤◌, List, [], ◌∷◌, ◌++◌, length, get_or, take, drop, map, ℤ, nat_abs, ◌≤ℤ◌, ◌-ℤ◌, ◌∙◌, ap, subst, sym, rules, All, arith, w64, to_z, of_z}
use Rattle.std.specs.Int.{int_max, int_min}
use Rattle.std.specs.List.{fold}
use mir.Val.{SFits}
use Rattle.std.proofs.lemmas.Int.{ints, clamps, to_z-of_z}
use Rattle.std.proofs.lemmas.List.{map_more}
use Rattle.std.proofs.lemmas.List.Elements.{All-take, All-drop}
use Rattle.std.proofs.lemmas.List.Sums.{fold_push}
use Rattle.wire_report.specs.declared.extent.Extent.{Extent}
use Rattle.wire_report.specs.Wire.{greatest, least, spread}
use Rattle.wire_report.specs.Forms.Extents.{IsNear}

-- the least and the greatest of a number and others, which all lie near
pub record IsExtent (z : ℤ) (zs : List ℤ) (extent : Extent) : Type 0 where
  pub least : extent.least ≡ fold int_min z zs
  pub greatest : extent.greatest ≡ fold int_max z zs
  pub low : IsNear extent.least
  pub high : IsNear extent.greatest
  pub order : extent.least ≤ℤ extent.greatest

pub of_one : (z : ℤ) (extent : Extent) → IsNear z → extent.least ≡ z → extent.greatest ≡ z → IsExtent z [] extent
of_one z extent near least greatest = record {
  least = least;
  greatest = greatest;
  low = subst IsNear (sym least) near;
  high = subst IsNear (sym greatest) near;
  order = omega (arith, ints, least, greatest);
}

near_least : (a z : ℤ) → IsNear a → IsNear z → IsNear (int_min a z)
near_least a z h k =
    let a_low = h.low in let a_high = h.high in let z_low = k.low in let z_high = k.high in
    record { low = omega (arith, ints, clamps); high = omega (arith, ints, clamps) }

near_greatest : (a z : ℤ) → IsNear a → IsNear z → IsNear (int_max a z)
near_greatest a z h k =
    let a_low = h.low in let a_high = h.high in let z_low = k.low in let z_high = k.high in
    record { low = omega (arith, ints, clamps); high = omega (arith, ints, clamps) }

still_ordered : (a b z : ℤ) → a ≤ℤ b → int_min a z ≤ℤ int_max b z
still_ordered a b z h = omega (arith, ints, clamps)

pub one_more : (z : ℤ) (zs : List ℤ) (x : ℤ) (old new : Extent) → IsNear x → IsExtent z zs old → new.least ≡ int_min old.least x → new.greatest ≡ int_max old.greatest x
    → IsExtent z (zs ++ x ∷ []) new
one_more z zs x old new near h least greatest = record {
  least = least ∙ ap (λ (a : ℤ). int_min a x) h.least ∙ sym (fold_push int_min z zs x);
  greatest = greatest ∙ ap (λ (a : ℤ). int_max a x) h.greatest ∙ sym (fold_push int_max z zs x);
  low = subst IsNear (sym least) (near_least old.least x h.low near);
  high = subst IsNear (sym greatest) (near_greatest old.greatest x h.high near);
  order = subst (λ (a : ℤ). a ≤ℤ new.greatest) (sym least) (subst (λ (b : ℤ). int_min old.least x ≤ℤ b) (sym greatest) (still_ordered old.least old.greatest x h.order));
}

near_passed : (x : ℤ) → IsNear x → to_z w64 (of_z w64 x) ≡ x
near_passed x near =
    let low = near.low in
    let high = near.high in
    let fits : SFits w64 x = search (rules, ints) in
    to_z-of_z w64 x fits

-- the same of items, one of which a loop passes on
pub one_item_more : {A : Type 0} (f : A → ℤ) (z : ℤ) (xs : List A) (i : ℕ) (d : A) (x : ℤ) (old new : Extent) → i < length xs → x ≡ f (get_or xs i d) → IsNear x
    → IsExtent z (map f (take i xs)) old → new.least ≡ int_min old.least (to_z w64 (of_z w64 x)) → new.greatest ≡ int_max old.greatest (to_z w64 (of_z w64 x))
    → IsExtent z (map f (take (i + 1) xs)) new
one_item_more f z xs i d x old new there is near h least greatest =
    let grown = ap (λ (y : ℤ). map f (take i xs) ++ y ∷ []) is ∙ sym (map_more f xs i d there) in
    let low = least ∙ ap (int_min old.least) (near_passed x near) in
    let high = greatest ∙ ap (int_max old.greatest) (near_passed x near) in
    subst (λ (zs : List ℤ). IsExtent z zs new) grown (one_more z (map f (take i xs)) x old new near h low high)

-- how far the numbers at all items reach
pub whole_spread : {A : Type 0} (f : A → ℤ) (xs : List A) (d : A) (z : ℤ) (extent : Extent) → 1 ≤ length xs → z ≡ f (get_or xs 0 d) → IsExtent z (map f (drop 1 xs)) extent
    → nat_abs (extent.greatest -ℤ extent.least) ≡ spread (map f xs)
whole_spread f [] d z extent some is h = absurd (omega arith)
whole_spread f (x ∷ xs) d z extent some is h =
    let high : extent.greatest ≡ fold int_max (f x) (map f xs) = h.greatest ∙ ap (λ (a : ℤ). fold int_max a (map f xs)) is in
    let low : extent.least ≡ fold int_min (f x) (map f xs) = h.least ∙ ap (λ (a : ℤ). fold int_min a (map f xs)) is in
    ap (λ (a : ℤ). nat_abs (a -ℤ extent.least)) high ∙ ap (λ (b : ℤ). nat_abs (fold int_max (f x) (map f xs) -ℤ b)) low

-- what holds of all items holds of those of a part
pub part_of : {A : Type 0} (P : A → Type 0) (xs : List A) → All P xs → (k : ℕ) (d : A) (from many : ℕ) → k < length (take many (drop from xs)) → P (get_or (take many (drop from xs)) k d)
part_of P xs all k d from many there = All-take P many (drop from xs) (All-drop P from xs all) k d there
