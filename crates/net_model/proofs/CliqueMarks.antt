-- How the first pins of a net are gathered, with marks for the nodes that were seen.
use Rattle.std.proofs.Common.{◌≡◌, ◌⊎◌, inl, inr, ℕ, ◌+◌, ◌<◌, Bool, true, false, not, ◌||◌, cond, List, [], ◌∷◌, ◌++◌, length, get_or, set, take, refl, sym, ◌∙◌, ap, arith}
use Rattle.std.specs.Prelude.{◌==◌}
use Rattle.std.proofs.Math.Bool.{or-false}
use Rattle.std.proofs.lemmas.Bool.{eq-eqb, ne_eqb, cases_eq, or_left, or_right}
use Rattle.std.proofs.lemmas.List.Elements.{filter-append}
use Rattle.std.proofs.lemmas.List.Folds.{list_any_more}
use Rattle.std.proofs.lemmas.List.{take_more, length-set, get_or-set_same, get_or-set_other}
use Rattle.book_design.specs.declared.parts.Pin.{Pin}
use Rattle.net_model.specs.Clique.{first_pins}
use Rattle.net_model.specs.Forms.Steps.{AreMarked}
use Rattle.net_model.specs.Forms.Joining.{is_at}
use Rattle.net_model.proofs.CliqueNodes.{without}

-- One more pin is a first pin where none before it is at its node.
pushed_by_test : (x p : Pin) (b joined : Bool) → (x.node == p.node) ≡ b → without x.node (cond joined [] (p ∷ [])) ≡ cond (b || joined) [] (p ∷ [])
pushed_by_test x p true true e = refl
pushed_by_test x p false true e = refl
pushed_by_test x p b false e =
    let same : (p.node == x.node) ≡ b = grind (arith, e) in
    ap (λ t. cond (not t) (p ∷ []) []) same ∙ turned b where
      turned : (t : Bool) → cond (not t) (p ∷ []) [] ≡ cond (t || false) [] (p ∷ [])
      turned true = refl
      turned false = refl

pub first_push : (xs : List Pin) (p : Pin) → first_pins (xs ++ p ∷ []) ≡ first_pins xs ++ cond (is_at xs p.node) [] (p ∷ [])
first_push [] p = refl
first_push (x ∷ xs) p =
    ap (λ ys. x ∷ without x.node ys) (first_push xs p)
    ∙ ap (λ ys. x ∷ ys) (filter-append (λ (other : Pin). not (other.node == x.node)) (first_pins xs) (cond (is_at xs p.node) [] (p ∷ [])))
    ∙ ap (λ ys. x ∷ without x.node (first_pins xs) ++ ys) (pushed_by_test x p (x.node == p.node) (is_at xs p.node) refl)

pub first_more : (pins : List Pin) (i : ℕ) (d : Pin) (b : Bool) → i < length pins → is_at (take i pins) (get_or pins i d).node ≡ b
    → first_pins (take (i + 1) pins) ≡ first_pins (take i pins) ++ cond b [] (get_or pins i d ∷ [])
first_more pins i d b inside e =
    ap first_pins (take_more pins i d inside) ∙ first_push (take i pins) (get_or pins i d)
    ∙ ap (λ t. first_pins (take i pins) ++ cond t [] (get_or pins i d ∷ [])) e

joined_more : (pins : List Pin) (i : ℕ) (d : Pin) (j : ℕ) → i < length pins
    → is_at (take (i + 1) pins) j ≡ (is_at (take i pins) j || ((get_or pins i d).node == j))
joined_more pins i d j inside = list_any_more (λ (pin : Pin). pin.node == j) pins i d inside

-- a pin at a node that is marked changes nothing
pub marked_same : (pins : List Pin) (seen : List Bool) (i : ℕ) (d : Pin) → i < length pins → AreMarked (take i pins) seen
    → get_or seen (get_or pins i d).node false ≡ true → AreMarked (take (i + 1) pins) seen
marked_same pins seen i d inside marked e j below = by_test (cases_eq (get_or pins i d).node j) where
  by_test : ((get_or pins i d).node ≡ j) ⊎ ((get_or pins i d).node ≡ j → ⊥) → get_or seen j false ≡ is_at (take (i + 1) pins) j
  by_test (inl same) =
      let here : get_or seen j false ≡ true = ap (λ k. get_or seen k false) (sym same) ∙ e in
      here ∙ sym (joined_more pins i d j inside ∙ or_left _ _ (sym (marked j below) ∙ here))
  by_test (inr other) =
      marked j below ∙ sym (joined_more pins i d j inside ∙ ap (λ b. is_at (take i pins) j || b) (ne_eqb _ _ other) ∙ or-false (is_at (take i pins) j))

-- a pin at another node marks it
pub marked_more : (pins : List Pin) (seen : List Bool) (i : ℕ) (d : Pin) → i < length pins → AreMarked (take i pins) seen
    → AreMarked (take (i + 1) pins) (set seen (get_or pins i d).node true)
marked_more pins seen i d inside marked j below = by_test (cases_eq j (get_or pins i d).node) where
  within : j < length seen
  within = omega (arith, length-set seen (get_or pins i d).node true, below)

  by_test : (j ≡ (get_or pins i d).node) ⊎ (j ≡ (get_or pins i d).node → ⊥)
      → get_or (set seen (get_or pins i d).node true) j false ≡ is_at (take (i + 1) pins) j
  by_test (inl same) =
      ap (λ k. get_or (set seen k true) j false) (sym same) ∙ get_or-set_same seen j true false within
      ∙ sym (joined_more pins i d j inside ∙ or_right _ _ (eq-eqb _ _ (sym same)))
  by_test (inr other) =
      get_or-set_other seen (get_or pins i d).node j true false other ∙ marked j within
      ∙ sym (joined_more pins i d j inside ∙ ap (λ b. is_at (take i pins) j || b) (ne_eqb _ _ (λ e. other (sym e))) ∙ or-false (is_at (take i pins) j))

-- only nodes of the pins are marked
abbrev pub MarksWithin : List Pin → List Bool → Type 0
MarksWithin pins seen = (i : ℕ) → i < length seen → get_or seen i false ≡ true → is_at pins i ≡ true

-- one more pin: a new first pin where its node isn't marked
pub first_marked : (pins first : List Pin) (seen : List Bool) (i : ℕ) (d : Pin) (b : Bool) → i < length pins → (get_or pins i d).node < length seen
    → first ≡ first_pins (take i pins) → AreMarked (take i pins) seen → get_or seen (get_or pins i d).node false ≡ b
    → first ++ cond b [] (get_or pins i d ∷ []) ≡ first_pins (take (i + 1) pins)
first_marked pins first seen i d b inside there e marked test =
    ap (λ xs. xs ++ cond b [] (get_or pins i d ∷ [])) e
    ∙ sym (first_more pins i d b inside (sym (marked (get_or pins i d).node there) ∙ test))
