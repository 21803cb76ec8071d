-- The movable nodes as points: each one's number is the count of movable nodes before it.
use Rattle.std.proofs.Common.{◌≡◌, ◌⊎◌, ℕ, zero, suc, ◌+◌, ◌<◌, ◌≤◌, Bool, true, false, cond, List, [], ◌∷◌, ◌++◌, length, get_or, refl, sym, ◌∙◌, ap, subst, inl, inr, arith, length-append, add-one}
use Rattle.std.specs.Prelude.{filter, pos}
use Rattle.std.specs.List.{range_with_len}
use Rattle.std.proofs.lemmas.List.Sums.{count_by_more_yes, count_by_more_no}
use Rattle.std.proofs.lemmas.List.{get_or_append_left}
use Rattle.std.proofs.Math.Seq.{get_or-append_seam}
use Rattle.book_files.specs.declared.orient.Orient.TheVariants.{N}
use Rattle.book_design.specs.Values.{NodeValue}
use Rattle.book_design.specs.Points.{is_movable, node_value_at, movable_before}
use Rattle.net_model.proofs.Ranges.{kept_more}

-- what stands past the end
abbrev pub no_node : NodeValue
no_node = record { name = []; width = pos 0; height = pos 0; x = pos 0; y = pos 0; orient = N; fixed = true; overlap = false }

-- the movable nodes among the first n
abbrev pub movable_up_to : List NodeValue → ℕ → List ℕ
movable_up_to nodes n = filter (λ i. is_movable (node_value_at nodes i)) (range_with_len 0 n)

pub movable_more : (nodes : List NodeValue) (n : ℕ) → movable_up_to nodes (n + 1) ≡ movable_up_to nodes n ++ cond (is_movable (node_value_at nodes n)) (n ∷ []) []
movable_more nodes n = kept_more (λ i. is_movable (node_value_at nodes i)) n

append_none : (xs : List ℕ) → xs ++ [] ≡ xs
append_none [] = refl
append_none (x ∷ xs) = ap (λ ys. x ∷ ys) (append_none xs)

abbrev MoreOrNone : List NodeValue → ℕ → Type 0
MoreOrNone nodes n = ((is_movable (node_value_at nodes n) ≡ true) × (movable_up_to nodes (n + 1) ≡ movable_up_to nodes n ++ n ∷ [])) ⊎ ((is_movable (node_value_at nodes n) ≡ false) × (movable_up_to nodes (n + 1) ≡ movable_up_to nodes n))

-- either n is movable and stands last, or nothing is new
one_more_or_none : (nodes : List NodeValue) (n : ℕ) → MoreOrNone nodes n
one_more_or_none nodes n = by_test (is_movable (node_value_at nodes n)) refl where
  by_test : (b : Bool) → is_movable (node_value_at nodes n) ≡ b → MoreOrNone nodes n
  by_test true e = inl (e, movable_more nodes n ∙ ap (λ b. movable_up_to nodes n ++ cond b (n ∷ []) []) e)
  by_test false e = inr (e, movable_more nodes n ∙ ap (λ b. movable_up_to nodes n ++ cond b (n ∷ []) []) e ∙ append_none (movable_up_to nodes n))

-- as many as are counted
count_step : (nodes : List NodeValue) (n : ℕ) → n < length nodes → length (movable_up_to nodes n) ≡ movable_before nodes n → MoreOrNone nodes n → length (movable_up_to nodes (n + 1)) ≡ movable_before nodes (n + 1)
count_step nodes n h ih (inl w) = ap length w.1 ∙ length-append (movable_up_to nodes n) (n ∷ []) ∙ ap (λ k. k + 1) ih ∙ sym (count_by_more_yes is_movable nodes n no_node h w.0)
count_step nodes n h ih (inr w) = ap length w.1 ∙ ih ∙ sym (count_by_more_no is_movable nodes n no_node h w.0)

pub count_movable : (nodes : List NodeValue) (n : ℕ) → n ≤ length nodes → length (movable_up_to nodes n) ≡ movable_before nodes n
count_movable nodes zero h = refl
count_movable nodes (suc n) h =
    let P : ℕ → Type 0 = λ k. length (movable_up_to nodes k) ≡ movable_before nodes k in
    subst P (add-one n) (count_step nodes n (omega arith) (count_movable nodes n (omega arith)) (one_more_or_none nodes n))

-- a movable node stands at the place of its point
pub record StandsAtPoint (nodes : List NodeValue) (n j : ℕ) : Type 0 where
  pub inside : movable_before nodes j < length (movable_up_to nodes n)
  pub there : get_or (movable_up_to nodes n) (movable_before nodes j) 0 ≡ j

kept : (nodes : List NodeValue) (n j : ℕ) (more : List ℕ) → StandsAtPoint nodes n j → movable_up_to nodes (n + 1) ≡ movable_up_to nodes n ++ more → StandsAtPoint nodes (n + 1) j
kept nodes n j more h e = record {
  inside = omega (arith, ap length e, length-append (movable_up_to nodes n) more, h.inside);
  there = ap (λ xs. get_or xs (movable_before nodes j) 0) e ∙ get_or_append_left (movable_up_to nodes n) more 0 (movable_before nodes j) h.inside ∙ h.there;
}

stands_step : (nodes : List NodeValue) (n j : ℕ) → n < length nodes → j < n + 1 → is_movable (node_value_at nodes j) ≡ true → (j < n → StandsAtPoint nodes n j) → MoreOrNone nodes n → (j < n) ⊎ (j ≡ n) → StandsAtPoint nodes (n + 1) j
stands_step nodes n j h hj m ih (inl w) (inl less) = kept nodes n j (n ∷ []) (ih less) w.1
stands_step nodes n j h hj m ih (inr w) (inl less) = kept nodes n j [] (ih less) (w.1 ∙ sym (append_none (movable_up_to nodes n)))
stands_step nodes n j h hj m ih (inr w) (inr same) = absurd (different (sym m ∙ ap (λ k. is_movable (node_value_at nodes k)) same ∙ w.0)) where
  different : true ≡ false → ⊥
  different e = cc
stands_step nodes n j h hj m ih (inl w) (inr same) =
    let count = count_movable nodes n (omega arith) in
    let at : movable_before nodes j ≡ length (movable_up_to nodes n) = ap (movable_before nodes) same ∙ sym count in
    record {
      inside = omega (arith, ap length w.1, length-append (movable_up_to nodes n) (n ∷ []), at);
      there = ap (λ xs. get_or xs (movable_before nodes j) 0) w.1 ∙ ap (λ k. get_or (movable_up_to nodes n ++ n ∷ []) k 0) at ∙ get_or-append_seam (movable_up_to nodes n) n [] 0 ∙ sym same;
    }

pub stands_at_point : (nodes : List NodeValue) (n j : ℕ) → n ≤ length nodes → j < n → is_movable (node_value_at nodes j) ≡ true → StandsAtPoint nodes n j
stands_at_point nodes zero j h hj m = absurd (omega arith)
stands_at_point nodes (suc n) j h hj m =
    let P : ℕ → Type 0 = λ k. StandsAtPoint nodes k j in
    let cases : (j < n) ⊎ (j ≡ n) = grind arith in
    subst P (add-one n) (stands_step nodes n j (omega arith) (omega arith) m (λ less. stands_at_point nodes n j (omega arith) less m) (one_more_or_none nodes n) cases)

-- each of them is a movable node, and its place is its number
pub record IsMovableNode (nodes : List NodeValue) (n k j : ℕ) : Type 0 where
  pub there : j < n
  pub movable : is_movable (node_value_at nodes j) ≡ true
  pub number : movable_before nodes j ≡ k

later : (nodes : List NodeValue) (n k j : ℕ) → IsMovableNode nodes n k j → IsMovableNode nodes (n + 1) k j
later nodes n k j h = record { there = omega (arith, h.there); movable = h.movable; number = h.number }

each_step : (nodes : List NodeValue) (n i : ℕ) → n < length nodes → ((k : ℕ) → k < length (movable_up_to nodes n) → IsMovableNode nodes n k (get_or (movable_up_to nodes n) k 0)) → MoreOrNone nodes n → i < length (movable_up_to nodes (n + 1)) → IsMovableNode nodes (n + 1) i (get_or (movable_up_to nodes (n + 1)) i 0)
each_step nodes n i inside ih (inr w) h = let P : List ℕ → Type 0 = λ xs. IsMovableNode nodes (n + 1) i (get_or xs i 0) in subst P (sym w.1) (later nodes n i _ (ih i (omega (arith, ap length w.1))))
each_step nodes n i inside ih (inl w) h = let P : List ℕ → Type 0 = λ xs. IsMovableNode nodes (n + 1) i (get_or xs i 0) in subst P (sym w.1) (here cases) where
  cases : (i < length (movable_up_to nodes n)) ⊎ (i ≡ length (movable_up_to nodes n))
  cases = let e = ap length w.1 ∙ length-append (movable_up_to nodes n) (n ∷ []) in grind arith

  here : (i < length (movable_up_to nodes n)) ⊎ (i ≡ length (movable_up_to nodes n)) → IsMovableNode nodes (n + 1) i (get_or (movable_up_to nodes n ++ n ∷ []) i 0)
  here (inl less) = let Q : ℕ → Type 0 = IsMovableNode nodes (n + 1) i in subst Q (sym (get_or_append_left (movable_up_to nodes n) (n ∷ []) 0 i less)) (later nodes n i _ (ih i less))
  here (inr same) = let Q : ℕ → Type 0 = IsMovableNode nodes (n + 1) i in subst Q (sym (ap (λ k. get_or (movable_up_to nodes n ++ n ∷ []) k 0) same ∙ get_or-append_seam (movable_up_to nodes n) n [] 0)) (record { there = omega arith; movable = w.0; number = sym (same ∙ count_movable nodes n (omega arith)) })

pub each_movable : (nodes : List NodeValue) (n i : ℕ) → n ≤ length nodes → i < length (movable_up_to nodes n) → IsMovableNode nodes n i (get_or (movable_up_to nodes n) i 0)
each_movable nodes zero i inside h = absurd (omega arith)
each_movable nodes (suc n) i inside h =
    let P : ℕ → Type 0 = λ m. i < length (movable_up_to nodes m) → IsMovableNode nodes m i (get_or (movable_up_to nodes m) i 0) in
    subst P (add-one n) (each_step nodes n i (omega arith) (λ k. each_movable nodes n k (omega arith)) (one_more_or_none nodes n)) h

-- two movable nodes have different numbers
pub one_number : (nodes : List NodeValue) (i j : ℕ) → i < length nodes → j < length nodes → is_movable (node_value_at nodes i) ≡ true → is_movable (node_value_at nodes j) ≡ true → movable_before nodes i ≡ movable_before nodes j → i ≡ j
one_number nodes i j hi hj mi mj e =
    sym (stands_at_point nodes (length nodes) i (omega arith) hi mi).there ∙ ap (λ k. get_or (movable_up_to nodes (length nodes)) k 0) e ∙ (stands_at_point nodes (length nodes) j (omega arith) hj mj).there
