-- What items give, with one item more.
use Rattle.std.proofs.Common.{◌≡◌, List, [], ◌∷◌, ◌++◌, true, map, Option, Some, None, refl, sym, ap, ◌∙◌}
use Rattle.std.specs.List.{filter_map, cons_option}
use Rattle.std.proofs.lemmas.List.{append-nil, map-append}
use Rattle.std.proofs.lemmas.List.Elements.{filter_map-append}
use Rattle.book_files.specs.Words.{last_of, latest}
use Rattle.book_files.specs.Forms.SoFar.{has_items}

pub has_items-push : {I : Type 0} (items : List I) (item : I) → has_items (items ++ item ∷ []) ≡ true
has_items-push [] item = refl
has_items-push (first ∷ items) item = refl

pub last_of-push : {A : Type 0} (xs : List A) (x : A) → last_of (xs ++ x ∷ []) ≡ Some x
last_of-push [] x = refl
last_of-push (y ∷ []) x = refl
last_of-push (y ∷ z ∷ xs) x = last_of-push (z ∷ xs) x

module _ {I A : Type 0} (kind : I → Option A) (items : List I) (item : I) where
  -- an item of the kind is one more
  pub filter_map-yes : (a : A) → kind item ≡ Some a → filter_map kind (items ++ item ∷ []) ≡ filter_map kind items ++ a ∷ []
  filter_map-yes a is = filter_map-append kind items (item ∷ []) ∙ ap (λ o. filter_map kind items ++ cons_option o []) is

  -- another item is none
  pub filter_map-no : kind item ≡ None → filter_map kind (items ++ item ∷ []) ≡ filter_map kind items
  filter_map-no is = filter_map-append kind items (item ∷ []) ∙ (ap (λ o. filter_map kind items ++ cons_option o []) is ∙ append-nil (filter_map kind items))

  pub latest-yes : (a : A) → kind item ≡ Some a → latest kind (items ++ item ∷ []) ≡ Some a
  latest-yes a is = ap last_of (filter_map-yes a is) ∙ last_of-push (filter_map kind items) a

  pub latest-no : kind item ≡ None → latest kind (items ++ item ∷ []) ≡ latest kind items
  latest-no is = ap last_of (filter_map-no is)

  -- what was kept of the items of a kind
  pub kept-yes : {L : Type 0} (view : L → A) (old new : List L) (line : L) → kind item ≡ Some (view line) → new ≡ old ++ line ∷ []
      → map view old ≡ filter_map kind items → map view new ≡ filter_map kind (items ++ item ∷ [])
  kept-yes view old new line is pushed so_far = ap (map view) pushed ∙ (map-append view old (line ∷ []) ∙ (ap (λ entries. entries ++ view line ∷ []) so_far ∙ sym (filter_map-yes (view line) is)))

  pub kept-no : {L : Type 0} (view : L → A) (old : List L) → kind item ≡ None → map view old ≡ filter_map kind items → map view old ≡ filter_map kind (items ++ item ∷ [])
  kept-no view old is so_far = so_far ∙ sym (filter_map-no is)
