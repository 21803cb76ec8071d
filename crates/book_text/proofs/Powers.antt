-- Powers of ten: bounds, and products and quotients by two of them.
use Rattle.std.proofs.Common.{◌≡◌, ℕ, ◌+◌, ◌-◌, ◌*◌, ◌/◌, ◌^◌, ◌<◌, ◌≤◌, eqb, true, List, [], ◌∷◌, get_or, refl, sym, ap, ◌∙◌, arith}
use Rattle.std.proofs.Math.Nat.{one-le-pow, pow-le-pow_right, mul-div_cancel, mul-div-mul_right, mul-le-mul_left, mul_assoc, div-eq_of_lt}
use Rattle.std.proofs.lemmas.Bool.{agree_below_at, eqb-true}
use Rattle.std.proofs.lemmas.Nat.{pow-add}

pub power_pos : (k : ℕ) → 0 < 10 ^ k
power_pos k = omega (arith, one-le-pow k 10 (omega arith))

pub power_mono : (j k : ℕ) → j ≤ k → 10 ^ j ≤ 10 ^ k
power_mono j k le = let some : 0 < 10 = omega arith in pow-le-pow_right some le

-- up and down by powers of ten is up, or down, by one
pub raise : (n up down : ℕ) → down ≤ up → n * 10 ^ up / 10 ^ down ≡ n * 10 ^ (up - down)
raise n up down le = let more = up - down in let same : up ≡ more + down = omega arith in
    ap (λ k. n * 10 ^ k / 10 ^ down) same ∙ ap (λ p. n * p / 10 ^ down) (pow-add 10 more down)
    ∙ ap (λ p. p / 10 ^ down) (sym (mul_assoc n (10 ^ more) (10 ^ down))) ∙ mul-div_cancel (n * 10 ^ more) (power_pos down)

pub lower : (n up down : ℕ) → up ≤ down → n * 10 ^ up / 10 ^ down ≡ n / 10 ^ (down - up)
lower n up down le = let more = down - up in let same : down ≡ more + up = omega arith in
    ap (λ k. n * 10 ^ up / 10 ^ k) same ∙ ap (λ p. n * 10 ^ up / p) (pow-add 10 more up) ∙ mul-div-mul_right n (10 ^ more) (power_pos up)

-- a number that isn't 0 passes the range where it is moved far up
pub raise-far : (n places : ℕ) → 0 < n → 12 < places → 10 ^ 12 < n * 10 ^ places
raise-far n places some far = let more = power_mono 13 places (omega arith) in omega (arith, mul-le-mul_left (10 ^ places) some, more)

pub raise-large : (n places : ℕ) → 10 ^ 12 < n → 10 ^ 12 < n * 10 ^ places
raise-large n places large = let some = power_pos places in omega (arith, mul-le-mul_left n some)

-- a number of thirty digits is nothing where it is moved far down
pub lower-far : (n places : ℕ) → n < 10 ^ 30 → 30 < places → n / 10 ^ places ≡ 0
lower-far n places small far = let more = power_mono 30 places (omega arith) in let less : n < 10 ^ places = omega arith in div-eq_of_lt less

abbrev powers : List ℕ
powers = 1 ∷ 10 ∷ 100 ∷ 1000 ∷ 10000 ∷ 100000 ∷ 1000000 ∷ 10000000 ∷ 100000000 ∷ 1000000000 ∷ 10000000000 ∷ 100000000000 ∷ 1000000000000 ∷ []

-- what the table of powers holds
pub power_at : (k : ℕ) → k ≤ 12 → get_or powers k 0 ≡ 10 ^ k
power_at k le = eqb-true _ _ (agree_below_at (λ i. eqb (get_or powers i 0) (10 ^ i)) (λ i. true) 13 k refl (omega arith))
