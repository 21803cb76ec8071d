-- One choice more is handed to its segment.
use Rattle.std.proofs.Common.{◌≡◌, ◌≢◌, ℕ, ◌+◌, ◌<◌, Bool, true, false, cond, eqb, List, [], ◌∷◌, ◌++◌, length, get_or, set, take, map, sym, ap, ◌∙◌, subst, inl, inr, arith, Vec, Global}
use Rattle.std.proofs.lemmas.Bool.{cases_order}
use Rattle.std.proofs.lemmas.Bool.Decides.{nat_tests}
use Rattle.std.proofs.lemmas.List.{append-nil, map-set, length-map, get_or-map, get_or-set_same, get_or-set_other}
use Rattle.std.proofs.lemmas.List.Elements.{filter_more}
use Rattle.row_legal.specs.declared.picking.Choice.{Choice}
use Rattle.row_legal.specs.Forms.Choices.{choice_at}
use Rattle.row_legal.specs.Forms.Rows.{IsSortOf, choices_at, row_at}

abbrev pub items : Vec Choice Global → List Choice
items row = row.items

pub row_here : (rows : List (Vec Choice Global)) (s : ℕ) (row : Vec Choice Global) → s < length rows → row_at (set rows s row) s ≡ row.items
row_here rows s row there = ap (λ (xs : List (List Choice)). get_or xs s []) (map-set items rows s row) ∙ get_or-set_same (map items rows) s row.items [] (omega (arith, there, length-map rows items))

pub row_other : (rows : List (Vec Choice Global)) (s t : ℕ) (row : Vec Choice Global) → t ≢ s → row_at (set rows s row) t ≡ row_at rows t
row_other rows s t row other = ap (λ (xs : List (List Choice)). get_or xs t []) (map-set items rows s row) ∙ get_or-set_other (map items rows) s t row.items [] other

pub row_read : (rows : List (Vec Choice Global)) (s : ℕ) (row : Vec Choice Global) → s < length rows → row ≡ get_or rows s row → row.items ≡ row_at rows s
row_read rows s row there is = ap items is ∙ sym (get_or-map items rows s row [] there)

pub read_sorted : (choices : List Choice) (rows : List (Vec Choice Global)) (s : ℕ) (row : Vec Choice Global) (xs : List Choice) → s < length rows → row ≡ get_or rows s row → xs ≡ row.items
    → IsSortOf (choices_at choices s) (row_at rows s) → IsSortOf (choices_at choices s) xs
read_sorted choices rows s row xs there read is sort = subst (λ ys. IsSortOf (choices_at choices s) ys) (sym (is ∙ row_read rows s row there read)) sort

pub handed_more : (choices : List Choice) (rows : List (Vec Choice Global)) (i many : ℕ) (row : Vec Choice Global) → i < length choices → length rows ≡ many
    → (choice_at choices i).segment < many → ((s : ℕ) → s < many → row_at rows s ≡ choices_at (take i choices) s)
    → row.items ≡ row_at rows (choice_at choices i).segment ++ choice_at choices i ∷ []
    → (s : ℕ) → s < many → row_at (set rows (choice_at choices i).segment row) s ≡ choices_at (take (i + 1) choices) s
handed_more choices rows i many row lt all there before is s inside =
    let one = choice_at choices i in
    let more = filter_more (λ (choice : Choice). eqb choice.segment s) choices i (choice_at [] 0) lt in
    elim (cases_order one.segment s) [
      | inl same ↦
          let test : eqb one.segment s ≡ true = grind (arith, nat_tests) in
          let kept : cond (eqb one.segment s) (one ∷ []) [] ≡ one ∷ [] = ap (λ (b : Bool). cond b (one ∷ []) []) test in
          ap (row_at (set rows one.segment row)) (sym same) ∙ row_here rows one.segment row (omega (arith, all, there)) ∙ is
          ∙ ap (λ (xs : List Choice). xs ++ one ∷ []) (ap (row_at rows) same ∙ before s inside) ∙ sym (more ∙ ap (λ (xs : List Choice). choices_at (take i choices) s ++ xs) kept)
      | inr other ↦
          let differ : s ≢ one.segment = elim other [ inl lt ↦ omega arith | inr gt ↦ omega arith ] in
          let test : eqb one.segment s ≡ false = grind (arith, nat_tests) in
          let dropped : cond (eqb one.segment s) (one ∷ []) [] ≡ [] = ap (λ (b : Bool). cond b (one ∷ []) []) test in
          row_other rows one.segment s row differ ∙ before s inside
          ∙ sym (more ∙ ap (λ (xs : List Choice). choices_at (take i choices) s ++ xs) dropped ∙ append-nil (choices_at (take i choices) s))
    ]
