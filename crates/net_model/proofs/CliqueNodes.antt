-- The first pins of a net: they stand at different nodes, and at exactly the nodes of all its pins.
use Rattle.std.proofs.Common.{◌≡◌, ℕ, zero, suc, ◌<◌, Bool, true, false, not, ◌||◌, cond, List, [], ◌∷◌, length, get_or, take, refl, sym, ◌∙◌, ap, arith}
use Rattle.std.specs.Prelude.{◌==◌, filter, All, pos, slice_index_or}
use Rattle.std.specs.List.{list_any}
use Rattle.std.proofs.lemmas.Bool.{eqb-true, eq-eqb, ne_eqb, both_ways, or_parts, false_from_ne_true}
use Rattle.std.proofs.lemmas.List.Elements.{All-cons, All-head, All-tail, All-filter}
use Rattle.std.proofs.lemmas.List.Folds.{list_any_at}
use Rattle.std.proofs.lemmas.Map.Views.{any-filter_same}
use Rattle.book_design.specs.declared.parts.Pin.{Pin}
use Rattle.net_model.specs.Clique.{first_pins}
use Rattle.net_model.specs.Forms.Joining.{is_at, AreDistinct}
use Rattle.net_model.specs.Forms.Steps.{AreAtNodes}

-- a pin by its place
abbrev pub pin_at : List Pin → ℕ → Pin
pin_at pins k = slice_index_or pins k (record { node = 0; dx = pos 0; dy = pos 0 })

-- the pins at other nodes
abbrev pub without : ℕ → List Pin → List Pin
without i pins = filter (λ pin. not (pin.node == i)) pins

-- leaving out the pins of one node leaves none of it
none_by_test : (i : ℕ) (pin : Pin) (pins : List Pin) (b : Bool) → (pin.node == i) ≡ b → is_at pins i ≡ false
    → is_at (cond (not b) (pin ∷ pins) pins) i ≡ false
none_by_test i pin pins true e none = none
none_by_test i pin pins false e none = ap (λ b. b || is_at pins i) e ∙ none

pub none_without : (i : ℕ) (pins : List Pin) → is_at (without i pins) i ≡ false
none_without i [] = refl
none_without i (pin ∷ pins) = none_by_test i pin (without i pins) (pin.node == i) refl (none_without i pins)

-- what no pin has, none of some of them has
fewer_by_test : (i j : ℕ) (pin : Pin) (rest : List Pin) (b : Bool) → (pin.node == j) ≡ false → is_at rest j ≡ false
    → is_at (cond b (pin ∷ rest) rest) j ≡ false
fewer_by_test i j pin rest true e none = ap (λ b. b || is_at rest j) e ∙ none
fewer_by_test i j pin rest false e none = none

fewer_without : (i j : ℕ) (pins : List Pin) → is_at pins j ≡ false → is_at (without i pins) j ≡ false
fewer_without i j [] none = refl
fewer_without i j (pin ∷ pins) none =
    let parts = or_parts (pin.node == j) (is_at pins j) none in
    fewer_by_test i j pin (without i pins) (not (pin.node == i)) parts.0 (fewer_without i j pins parts.1)

distinct_by_test : (i : ℕ) (pin : Pin) (pins : List Pin) (b : Bool) → is_at pins pin.node ≡ false → AreDistinct pins
    → AreDistinct (cond b (pin ∷ pins) pins)
distinct_by_test i pin pins true none rest = (none, rest)
distinct_by_test i pin pins false none rest = rest

distinct_without : (i : ℕ) (pins : List Pin) → AreDistinct pins → AreDistinct (without i pins)
distinct_without i [] distinct = tt
distinct_without i (pin ∷ pins) distinct =
    distinct_by_test i pin (without i pins) (not (pin.node == i)) (fewer_without i pin.node pins distinct.0) (distinct_without i pins distinct.1)

-- the first pins are at different nodes
pub distinct_first : (pins : List Pin) → AreDistinct (first_pins pins)
distinct_first [] = tt
distinct_first (pin ∷ pins) = (none_without pin.node (first_pins pins), distinct_without pin.node (first_pins pins) (distinct_first pins))

-- a pin at a place is one of the pins
pub joined_at : (pins : List Pin) (k : ℕ) (d : Pin) → k < length pins → is_at pins (get_or pins k d).node ≡ true
joined_at pins k d inside =
    list_any_at (λ (pin : Pin). pin.node == (get_or pins k d).node) pins k d inside (eq-eqb (get_or pins k d).node (get_or pins k d).node refl)

-- no pin before a place of distinct pins is at that place's node
pub before_none : (pins : List Pin) (k : ℕ) (d : Pin) (i : ℕ) → AreDistinct pins → k < length pins → i ≡ (get_or pins k d).node
    → is_at (take k pins) i ≡ false
before_none [] k d i distinct inside e = absurd (omega arith)
before_none (pin ∷ pins) zero d i distinct inside e = refl
before_none (pin ∷ pins) (suc k) d i distinct inside e =
    let inner : k < length pins = omega arith in
    let there : is_at pins i ≡ true = ap (is_at pins) e ∙ joined_at pins k d inner in
    let apart : (pin.node == i) ≡ false = false_from_ne_true (pin.node == i)
    (λ same. both_ways (is_at pins pin.node) distinct.0 (ap (is_at pins) (eqb-true pin.node i same) ∙ there)) in
    ap (λ b. b || is_at (take k pins) i) apart ∙ before_none pins k d i distinct.1 inner e

-- a test of nodes passes at a first pin where it passes at a pin
any_by_test : (p : ℕ → Bool) (pin : Pin) (pins first : List Pin) (b : Bool) → p pin.node ≡ b → list_any (λ (other : Pin). p other.node) first ≡ list_any (λ (other : Pin). p other.node) pins
    → (b || list_any (λ (other : Pin). p other.node) (without pin.node first)) ≡ (b || list_any (λ (other : Pin). p other.node) pins)
any_by_test p pin pins first true e same = refl
any_by_test p pin pins first false e same =
    any-filter_same (λ (other : Pin). p other.node) (λ (other : Pin). not (other.node == pin.node)) true apart first ∙ same where
      apart : (other : Pin) → p other.node ≡ true → not (other.node == pin.node) ≡ true
      apart other passes = ap not (ne_eqb other.node pin.node (λ at. both_ways (p pin.node) e (sym (ap p at) ∙ passes)))

pub any_first : (p : ℕ → Bool) (pins : List Pin) → list_any (λ (pin : Pin). p pin.node) (first_pins pins) ≡ list_any (λ (pin : Pin). p pin.node) pins
any_first p [] = refl
any_first p (pin ∷ pins) = any_by_test p pin pins (first_pins pins) (p pin.node) refl (any_first p pins)

-- the first pins are at exactly the nodes of all pins
pub joined_first : (pins : List Pin) (i : ℕ) → is_at (first_pins pins) i ≡ is_at pins i
joined_first pins i = any_first (λ node. node == i) pins

-- what holds of each pin holds of each first pin
pub All_first : (P : Pin → Type 0) (pins : List Pin) → All P pins → All P (first_pins pins)
All_first P [] all = all
All_first P (pin ∷ pins) all =
    All-cons P pin (without pin.node (first_pins pins)) (All-head P pin pins all)
    (All-filter (λ other. not (other.node == pin.node)) P (first_pins pins) (All_first P pins (All-tail P pin pins all)))

pub first_there : (nodes : ℕ) (pins : List Pin) → AreAtNodes nodes pins → AreAtNodes nodes (first_pins pins)
first_there nodes pins there = All_first (λ pin. pin.node < nodes) pins there
