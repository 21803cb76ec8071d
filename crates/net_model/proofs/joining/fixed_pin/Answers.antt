use Rattle.std.proofs.Common.{◌≡◌, ℕ, ◌∙◌, ap, rules, ◌/◌, ℤ, pos, nat_abs, ◌+ℤ◌, w64, to_z, of_z}
use mir.Val.{SFits}
use Rattle.std.proofs.lemmas.Int.{ints, to_z-of_z}
use Rattle.book_files.specs.Ranges.{IsInRange}
use Rattle.net_model.specs.declared.parts.FixedPin.{FixedPin}
use Rattle.net_model.proofs.joining.fixed_pin.Goals as goal

fits : (z : ℤ) → IsInRange z → SFits w64 z
fits z h = let low = h.low in let high = h.high in search (rules, ints)

-- a middle and an offset, passed and added
kept : (corner size dx m : ℤ) → IsInRange corner → IsInRange size → IsInRange dx → SFits w64 m → SFits w64 (m +ℤ dx) → m ≡ (to_z w64 (of_z w64 corner) +ℤ pos (nat_abs (to_z w64 (of_z w64 size)) / 2))
    → to_z w64 (of_z w64 (to_z w64 (of_z w64 m) +ℤ to_z w64 (of_z w64 dx))) ≡ (corner +ℤ pos (nat_abs size / 2) +ℤ dx)
kept corner size dx m c s d f g e =
    let corner_fits = fits corner c in
    let size_fits = fits size s in
    let dx_fits = fits dx d in
    let is : m ≡ (corner +ℤ pos (nat_abs size / 2)) = simp to_z-of_z at e in
    simp to_z-of_z (ap (λ z. z +ℤ dx) is)

abbrev placed : ℕ → ℤ → ℤ → FixedPin
placed weight x y = record { weight = weight; x = x; y = y }

same_pin : (weight : ℕ) (a b x y : ℤ) → a ≡ x → b ≡ y → placed weight a b ≡ placed weight x y
same_pin weight a b x y e f = ap (λ z. placed weight z b) e ∙ ap (placed weight x) f

pub returns : goal.returns
returns c =
    let x = kept _ _ _ _ c.requires.x c.requires.width c.requires.dx (search rules) (search rules) c.middle.ensures in
    let y = kept _ _ _ _ c.requires.y c.requires.height c.requires.dy (search rules) (search rules) c.middle-2.ensures in
    same_pin c.args.weight _ _ _ _ x y
