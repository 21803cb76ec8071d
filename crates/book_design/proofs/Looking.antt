-- Look-ups of names, one line at a time.
use Rattle.std.proofs.Common.{◌≡◌, ◌≢◌, ℕ, ◌+◌, ◌<◌, Bool, true, false, cond, List, Option, Some, None, refl, sym, ap, ◌∙◌, subst, ⊎_elim, arith, length, is_some, zero, suc, [], ◌∷◌, get_or, option_map}
use Rattle.std.specs.List.{filter}
use Rattle.std.specs.Borrow.{Bor}
use Rattle.std.specs.Str.{bytes_eq}
use Rattle.std.specs.BTreeMap.{BTreeMap, IsEmpty}
use Rattle.std.proofs.lemmas.Bool.{cases_eq, false_from_ne_true}
use Rattle.std.proofs.lemmas.Slice.Eq.{bytes_eq-Decides}
use Rattle.book_files.specs.Words.{last_of}
use Rattle.book_design.specs.Forms.Numbers.{number_in, IsLast, IsLastNumber, AreNumbers}
use Rattle.book_design.specs.declared.fault.DesignFault.TheVariants.{DuplicateName}
use Rattle.book_design.specs.Records.{Records, node_at}
use Rattle.book_design.specs.Faults.{HasEarlierName}
use Rattle.book_design.specs.Forms.Steps.{IsFirstFrom}
use Rattle.book_design.specs.Forms.Sources.{node_name}
use Rattle.book_design.proofs.Ranks.{first_of_rank}

-- the next line has the name
last_here : (name_at : ℕ → List ℕ) (i : ℕ) (name : List ℕ) → name_at i ≡ name → IsLast name_at (i + 1) name i
last_here name_at i name e = record { there = omega arith; same = e; none_after = λ k above below. absurd (omega arith) }

-- the next line has another name
last_before : (name_at : ℕ → List ℕ) (i : ℕ) (name : List ℕ) (found : Option ℕ) → name_at i ≢ name → IsLastNumber name_at i name found → IsLastNumber name_at (i + 1) name found
last_before name_at i name None other h = λ k below e. ⊎_elim (λ (here : k ≡ i). other (ap name_at (sym here) ∙ e)) (λ apart. h k (omega arith) e) (cases_eq k i)
last_before name_at i name (Some j) other h = record {
  there = let t = h.there in omega arith;
  same = h.same;
  none_after = λ k above below e. ⊎_elim (λ (here : k ≡ i). other (ap name_at (sym here) ∙ e)) (λ apart. h.none_after k above (omega arith) e) (cases_eq k i);
}

last_more : (name_at : ℕ → List ℕ) (i : ℕ) (name : List ℕ) (found : Option ℕ) (b : Bool) → bytes_eq (name_at i) name ≡ b → IsLastNumber name_at i name found → IsLastNumber name_at (i + 1) name (cond b (Some i) found)
last_more name_at i name found true e h = last_here name_at i name ((bytes_eq-Decides (name_at i) name).0 e)
last_more name_at i name found false e h = last_before name_at i name found (λ same. let t : bytes_eq (name_at i) name ≡ true = (bytes_eq-Decides (name_at i) name).1 same in absurd cc) h

-- after a line is put into the map
pub numbers_more : (name_at : ℕ → List ℕ) (i : ℕ) (old new : BTreeMap (Bor (List ℕ)) ℕ) (put : List ℕ) → put ≡ name_at i → ((name : List ℕ) → number_in new name ≡ cond (bytes_eq put name) (Some i) (number_in old name)) → AreNumbers name_at i old → AreNumbers name_at (i + 1) new
numbers_more name_at i old new put e after h = record {
  last = λ name. rw (after name, e) (last_more name_at i name (number_in old name) (bytes_eq (name_at i) name) refl (h.last name));
}

pub no_numbers : (name_at : ℕ → List ℕ) (numbers : BTreeMap (Bor (List ℕ)) ℕ) → IsEmpty numbers → AreNumbers name_at 0 numbers
no_numbers name_at numbers empty = record { last = λ name. let none : number_in numbers name ≡ None = rw empty refl in rw none (λ k below e. absurd (omega arith)) }

-- what holds of the numbers found so far, in the loop over the nodes
pub record AreDistinctNumbers (records : Records) (i : ℕ) (numbers : BTreeMap (Bor (List ℕ)) ℕ) : Type 0 where
  pub distinct : (j : ℕ) → j < i → HasEarlierName records j → ⊥
  pub numbered : AreNumbers (node_name records) i numbers

found_last : (name_at : ℕ → List ℕ) (i : ℕ) (numbers : BTreeMap (Bor (List ℕ)) ℕ) (put : List ℕ) (found : Option ℕ) → AreNumbers name_at i numbers → found ≡ number_in numbers put → IsLastNumber name_at i put found
found_last name_at i numbers put found h e = rw e (h.last put)

-- the first so many lines have no name twice, and the next one has that name
first_duplicate : (records : Records) (i line : ℕ) (put : List ℕ) (found : Option ℕ) → i < length records.nodes → put ≡ node_name records i → line ≡ (node_at records i).line → IsLastNumber (node_name records) i put found → is_some found ≡ true → ((j : ℕ) → j < i → HasEarlierName records j → ⊥) → IsFirstFrom records 1 (DuplicateName line)
first_duplicate records i line put (Some e) there same named h some before = first_of_rank records 1 (DuplicateName line) refl (i, record { here = record { there = there; earlier = e; before = h.there; same = h.same ∙ same }; not_before = before }, named)
first_duplicate records i line put None there same named h some before = absurd cc

-- a node whose name the look-up finds among the ones before it is the first duplicate
pub duplicate : (records : Records) (i : ℕ) (numbers : BTreeMap (Bor (List ℕ)) ℕ) (line : ℕ) (put : List ℕ) (found : Option ℕ) → AreDistinctNumbers records i numbers → found ≡ number_in numbers put → is_some found ≡ true → i < length records.nodes → put ≡ node_name records i → line ≡ (node_at records i).line → IsFirstFrom records 1 (DuplicateName line)
duplicate records i numbers line put found h e some there same named = first_duplicate records i line put found there same named (found_last (node_name records) i numbers put found h.numbered e) some h.distinct

distinct_next : (records : Records) (i : ℕ) (put : List ℕ) (found : Option ℕ) → put ≡ node_name records i → IsLastNumber (node_name records) i put found → is_some found ≡ false → HasEarlierName records i → ⊥
distinct_next records i put (Some e) same h none earlier = absurd cc
distinct_next records i put None same h none earlier = h earlier.earlier earlier.before (earlier.same ∙ sym same)

pub distinct_more : (records : Records) (i : ℕ) (old new : BTreeMap (Bor (List ℕ)) ℕ) (put : List ℕ) (found : Option ℕ) → AreDistinctNumbers records i old → found ≡ number_in old put → is_some found ≡ false → ((name : List ℕ) → number_in new name ≡ cond (bytes_eq put name) (Some i) (number_in old name)) → put ≡ node_name records i → AreDistinctNumbers records (i + 1) new
distinct_more records i old new put found h e none after same = record {
  distinct = λ j below earlier. ⊎_elim (λ (here : j ≡ i). distinct_next records i put found same (found_last (node_name records) i old put found h.numbered e) none (subst (HasEarlierName records) here earlier)) (λ apart. h.distinct j (omega arith) earlier) (cases_eq j i);
  numbered = numbers_more (node_name records) i old new put same after h.numbered;
}

-- when all lines are put into the map
pub numbers_whole : (name_at : ℕ → List ℕ) (i n : ℕ) (numbers : BTreeMap (Bor (List ℕ)) ℕ) → i ≡ n → AreNumbers name_at i numbers → AreNumbers name_at n numbers
numbers_whole name_at i n numbers e h = subst (λ (k : ℕ). AreNumbers name_at k numbers) e h

pub distinct_whole : (records : Records) (i : ℕ) (numbers : BTreeMap (Bor (List ℕ)) ℕ) → i ≡ length records.nodes → AreDistinctNumbers records i numbers → ((i : ℕ) → HasEarlierName records i → ⊥) × AreNumbers (node_name records) (length records.nodes) numbers
distinct_whole records i numbers e h = (λ j earlier. h.distinct j (let t = earlier.there in omega arith) earlier, numbers_whole (node_name records) i (length records.nodes) numbers e h.numbered)

-- a filter that nothing passes
pub filter-none : {X : Type 0} (p : X → Bool) (xs : List X) (d : X) → ((k : ℕ) → k < length xs → p (get_or xs k d) ≡ false) → filter p xs ≡ []
filter-none p [] d h = refl
filter-none p (x ∷ xs) d h = let here : p x ≡ false = h 0 (omega arith) in rw here (filter-none p xs d (λ k below. h (suc k) (omega arith)))

last_of-cons : {X : Type 0} (x : X) (ys : List X) (y : X) → last_of ys ≡ Some y → last_of (x ∷ ys) ≡ Some y
last_of-cons x [] y e = absurd cc
last_of-cons x (z ∷ zs) y e = e

last_of-cond : {X : Type 0} (b : Bool) (x : X) (ys : List X) (y : X) → last_of ys ≡ Some y → last_of (cond b (x ∷ ys) ys) ≡ Some y
last_of-cond true x ys y e = last_of-cons x ys y e
last_of-cond false x ys y e = e

-- the last that passes
last_of-filter : {X : Type 0} (p : X → Bool) (xs : List X) (d : X) (i : ℕ) → i < length xs → p (get_or xs i d) ≡ true → ((k : ℕ) → i < k → k < length xs → p (get_or xs k d) ≡ false) → last_of (filter p xs) ≡ Some (get_or xs i d)
last_of-filter p [] d i below here after = absurd (omega arith)
last_of-filter {X} p (x ∷ xs) d zero below here after =
    let none : filter p xs ≡ [] = filter-none p xs d (λ k less. after (suc k) (omega arith) (omega arith)) in
    let yes : p x ≡ true = here in
    rw (yes, none) refl
last_of-filter p (x ∷ xs) d (suc i) below here after = last_of-cond (p x) x (filter p xs) (get_or xs i d) (last_of-filter p xs d i (omega arith) here (λ k above less. after (suc k) (omega arith) (omega arith)))

pub apart : (a b : List ℕ) → a ≢ b → bytes_eq a b ≡ false
apart a b h = false_from_ne_true (bytes_eq a b) (λ e. h ((bytes_eq-Decides a b).0 e))

-- the last line of a name is the one whose number the look-up finds
pub last_by_number : {X : Type 0} (name_of : X → List ℕ) (xs : List X) (d : X) (name : List ℕ) (found : Option ℕ) → IsLastNumber (λ k. name_of (get_or xs k d)) (length xs) name found → last_of (filter (λ x. bytes_eq (name_of x) name) xs) ≡ option_map (λ i. get_or xs i d) found
last_by_number {X} name_of xs d name None h = ap (last_of {A = X}) (filter-none (λ x. bytes_eq (name_of x) name) xs d (λ k below. apart (name_of (get_or xs k d)) name (h k below)))
last_by_number name_of xs d name (Some i) h = last_of-filter (λ x. bytes_eq (name_of x) name) xs d i h.there ((bytes_eq-Decides _ name).1 h.same) (λ k above below. apart (name_of (get_or xs k d)) name (h.none_after k above below))
