-- What a list begins with, up to the first element that passes or fails a test, and what it ends with.
use Rattle.std.proofs.Common.{◌≡◌, ◌==◌, ℕ, ◌+◌, ◌-◌, ◌<◌, ◌≤◌, Bool, true, false, not, cond, ltb, Some, None, List, [], ◌∷◌, ◌++◌, length, take, drop, get_or, replicate, refl, sym, ap, ◌∙◌, ⊎_elim, arith}
use Rattle.std.proofs.Math.Numerals.{one-add}
use Rattle.std.specs.Prelude.{reverse}
use Rattle.std.specs.List.{slice_split, onto_first, prefix_len, suffix_len, position_or_len, before_first, flat_map}
use Rattle.std.proofs.lemmas.Bool.{cases_Bool, cases_lt, both_ways, ltb-false, eqb-true, not_from_true, not_from_false}
use Rattle.std.proofs.lemmas.List.{length-drop, length-replicate, length-reverse, ext_get_or, get_or-drop, get_or-replicate, get_or-reverse, reverse-reverse}
use Rattle.std.proofs.lemmas.List.Splits.{slice_split-cons_yes, slice_split-cons_no}
use Rattle.std.proofs.lemmas.List.Sums.{prefix_len-le-length, suffix_len-le-length, prefix_len_passes, prefix_len_stops}

module _ (p : ℕ → Bool) where
  pub prefix_len-yes : (x : ℕ) (xs : List ℕ) → p x ≡ true → prefix_len p (x ∷ xs) ≡ 1 + prefix_len p xs
  prefix_len-yes x xs e = rw e refl

  pub prefix_len-no : (x : ℕ) (xs : List ℕ) → p x ≡ false → prefix_len p (x ∷ xs) ≡ 0
  prefix_len-no x xs e = rw e refl

  pub drop_prefix-yes : (x : ℕ) (xs : List ℕ) → p x ≡ true → drop (prefix_len p (x ∷ xs)) (x ∷ xs) ≡ drop (prefix_len p xs) xs
  drop_prefix-yes x xs e = rw (e, one-add) refl

  pub drop_prefix-no : (x : ℕ) (xs : List ℕ) → p x ≡ false → drop (prefix_len p (x ∷ xs)) (x ∷ xs) ≡ x ∷ xs
  drop_prefix-no x xs e = rw e refl

  pub take_prefix-yes : (x : ℕ) (xs : List ℕ) → p x ≡ true → take (prefix_len p (x ∷ xs)) (x ∷ xs) ≡ x ∷ take (prefix_len p xs) xs
  take_prefix-yes x xs e = rw (e, one-add) refl

  pub take_prefix-no : (x : ℕ) (xs : List ℕ) → p x ≡ false → take (prefix_len p (x ∷ xs)) (x ∷ xs) ≡ []
  take_prefix-no x xs e = rw e refl

  -- each of the last elements passes
  pub suffix_len_passes : (xs : List ℕ) (i : ℕ) → i < length xs → length xs ≤ i + suffix_len p xs → p (get_or xs i 0) ≡ true
  suffix_len_passes xs i lt in_suffix =
      let from_end = length (reverse xs) - 1 - i in
      let same_length : length (reverse xs) ≡ length xs = length-reverse xs in
      let same : get_or xs i 0 ≡ get_or (reverse xs) from_end 0 =
      ap (λ ys. get_or ys i 0) (sym (reverse-reverse xs)) ∙ get_or-reverse (reverse xs) i 0 (omega arith) in
      ap p same ∙ prefix_len_passes p (reverse xs) from_end 0 (omega arith)

  -- the element before them fails
  pub suffix_len_stops : (xs : List ℕ) → suffix_len p xs < length xs → p (get_or xs (length xs - suffix_len p xs - 1) 0) ≡ false
  suffix_len_stops xs some =
      let n = suffix_len p xs in let i = length xs - n - 1 in let same_length : length (reverse xs) ≡ length xs = length-reverse xs in
      let from_end : length (reverse xs) - 1 - i ≡ n = omega arith in
      let same : get_or xs i 0 ≡ get_or (reverse xs) n 0 =
      ap (λ ys. get_or ys i 0) (sym (reverse-reverse xs)) ∙ get_or-reverse (reverse xs) i 0 (omega arith) ∙ ap (λ k. get_or (reverse xs) k 0) from_end in
      ap p same ∙ prefix_len_stops p (reverse xs) 0 (omega arith)

  -- where the first element fails, it is not among the last that pass
  pub suffix_len-front_no : (x : ℕ) (xs : List ℕ) → p x ≡ false → suffix_len p (x ∷ xs) ≤ length xs
  suffix_len-front_no x xs other = ⊎_elim
      (λ all. absurd (both_ways _ other (suffix_len_passes (x ∷ xs) 0 (omega arith) (omega arith)))) (λ le. le)
      (cases_lt (length xs) (suffix_len p (x ∷ xs)))

-- what is behind the last element other than b is as many b
pub behind_suffix : (b : ℕ) (xs : List ℕ) → drop (length xs - suffix_len (λ x. x == b) xs) xs ≡ replicate (suffix_len (λ x. x == b) xs) b
behind_suffix b xs =
    let n = suffix_len (λ x. x == b) xs in let front = length xs - n in let le : n ≤ length xs = suffix_len-le-length (λ x. x == b) xs in
    let same_length : length (drop front xs) ≡ n = omega (arith, length-drop front xs) in
    ext_get_or 0 _ _ (same_length ∙ sym (length-replicate n b))
    (λ i lt.
    let lt_n : i < n = omega arith in
    get_or-drop front xs i 0 ∙ eqb-true _ b (suffix_len_passes (λ x. x == b) xs (front + i) (omega arith) (omega arith))
    ∙ sym (get_or-replicate n i b 0 lt_n))

-- the parts of a list between the elements that pass, by the first part and what is left behind it
module _ (p : ℕ → Bool) (f : List ℕ → List (List ℕ)) (none : f [] ≡ []) where
  record Parts (line : List ℕ) : Type 0 where
    others : List (List ℕ)
    split : slice_split p line ≡ before_first p line ∷ others
    left : flat_map f (slice_split p (drop (position_or_len p line) line)) ≡ flat_map f others

  parts_of : (line : List ℕ) → Parts line
  parts_of [] = record { others = []; split = refl; left = rw none refl }
  parts_of (b ∷ line) = let rest = parts_of line in let fails : ℕ → Bool = λ x. not (p x) in
      ⊎_elim (λ yes. let no = not_from_true (p b) yes in record {
        others = slice_split p line;
        split = slice_split-cons_yes p b line yes ∙ ap (λ part. part ∷ slice_split p line) (sym (take_prefix-no fails b line no));
        left = ap (λ rest. flat_map f (slice_split p rest)) (drop_prefix-no fails b line no)
            ∙ ap (flat_map f) (slice_split-cons_yes p b line yes) ∙ ap (λ words. words ++ flat_map f (slice_split p line)) none;
      })
      (λ no. let yes = not_from_false (p b) no in record {
        others = rest.others;
        split = slice_split-cons_no p b line no ∙ ap (onto_first b) rest.split ∙ ap (λ part. part ∷ rest.others) (sym (take_prefix-yes fails b line yes));
        left = ap (λ rest. flat_map f (slice_split p rest)) (drop_prefix-yes fails b line yes) ∙ rest.left;
      })
      (cases_Bool (p b))

  pub flat_map-slice_split : (line : List ℕ) → flat_map f (slice_split p line) ≡ f (before_first p line) ++ flat_map f (slice_split p (drop (position_or_len p line) line))
  flat_map-slice_split line = let parts = parts_of line in rw (parts.split, parts.left) refl

pub prefix_len-not_not : (p : ℕ → Bool) (xs : List ℕ) → prefix_len (λ x. not (not (p x))) xs ≡ prefix_len p xs
prefix_len-not_not p [] = refl
prefix_len-not_not p (x ∷ xs) = not_not-cond (p x) (1 + prefix_len (λ x. not (not (p x))) xs) ∙ ap (λ n. cond (p x) (1 + n) 0) (prefix_len-not_not p xs)
  where
    not_not-cond : (b : Bool) (n : ℕ) → cond (not (not b)) n 0 ≡ cond b n 0
    not_not-cond true n = refl
    not_not-cond false n = refl

-- what `position` answered, where the places up to the first that passes were counted by `prefix_len`
module _ (p : ℕ → Bool) (xs : List ℕ) where
  pub passed-some : (passed : ℕ) → Some passed ≡ cond (ltb (prefix_len p xs) (length xs)) (Some (prefix_len p xs)) None → passed ≡ prefix_len p xs
  passed-some passed e = ⊎_elim (λ yes. some (rw yes at e)) (λ no. none (rw no at e)) (cases_Bool (ltb (prefix_len p xs) (length xs)))
    where
      some : Some passed ≡ Some (prefix_len p xs) → passed ≡ prefix_len p xs
      some e = cc

      none : Some passed ≡ None → passed ≡ prefix_len p xs
      none e = cc

  pub passed-none : None ≡ cond (ltb (prefix_len p xs) (length xs)) (Some (prefix_len p xs)) None → length xs ≡ prefix_len p xs
  passed-none e = ⊎_elim (λ yes. none (rw yes at e)) (λ no. omega (arith, ltb-false _ _ no, prefix_len-le-length p xs)) (cases_Bool (ltb (prefix_len p xs) (length xs)))
    where
      none : None ≡ Some (prefix_len p xs) → length xs ≡ prefix_len p xs
      none e = cc
