-- How many entries lead to a point: one entry more, one joint more, and the sums of the counts.
use Rattle.std.proofs.Common.{◌≡◌, ◌≢◌, ℕ, zero, suc, ◌+◌, ◌-◌, ◌<◌, ◌≤◌, cond, eqb, ltb, List, [], ◌∷◌, length, get_or, take, set, sum, count_by, refl, sym, ap, ◌∙◌, subst, inl, inr, below_more, arith, add-zero, add-one}
use Rattle.std.proofs.lemmas.List.{length-set, get_or-set_same, get_or-set_other, take_all}
use Rattle.std.proofs.lemmas.List.Sums.{sum_by-cons, sum_by_more, sum_by_more_le, sum_by-take-le, sum_by-le-sum_by, count_by-le-length, count_by_more_yes, count_by_more_no}
use Rattle.std.proofs.lemmas.Bool.{cases_eq}
use Rattle.std.proofs.lemmas.Bool.Decides.{nat_tests}
use Rattle.pad_reach.specs.Chain.{Joint, no_joint, joint_at}
use Rattle.pad_reach.specs.Forms.InNeighbours.{count_in, entries_to, entries_before, entries, AreEnds}

pub count_in-none : (q : ℕ) (near : List ℕ) → count_in q (take 0 near) ≡ 0
unfolding count_in
count_in-none q near = refl

pub count_in-yes : (q : ℕ) (near : List ℕ) (k : ℕ) → k < length near → get_or near k 0 ≡ q → count_in q (take (k + 1) near) ≡ count_in q (take k near) + 1
unfolding count_in
count_in-yes q near k h e = count_by_more_yes (λ x. eqb x q) near k 0 h (grind (arith, nat_tests))

pub count_in-no : (q : ℕ) (near : List ℕ) (k : ℕ) → k < length near → get_or near k 0 ≢ q → count_in q (take (k + 1) near) ≡ count_in q (take k near)
unfolding count_in
count_in-no q near k h n = count_by_more_no (λ x. eqb x q) near k 0 h (grind (arith, nat_tests))

pub count_in-take-le : (q : ℕ) (near : List ℕ) (k : ℕ) → count_in q (take k near) ≤ count_in q near
unfolding count_in
count_in-take-le q near k = sum_by-take-le (λ x. cond (eqb x q) 1 0) near k

pub count_in-le-length : (q : ℕ) (near : List ℕ) → count_in q near ≤ length near
unfolding count_in
count_in-le-length q near = count_by-le-length (λ x. eqb x q) near

-- one entry that leads to the point t is counted
pub counted-more : (was counts near : List ℕ) (k t : ℕ) → k < length near → t ≡ get_or near k 0 → t < length counts → ((q : ℕ) → q < length counts → get_or counts q 0 ≡ get_or was q 0 + count_in q (take k near)) → (q : ℕ) → q < length (set counts t (get_or counts t 0 + 1)) → get_or (set counts t (get_or counts t 0 + 1)) q 0 ≡ get_or was q 0 + count_in q (take (k + 1) near)
counted-more was counts near k t in_row is_t there so_far q h =
    let inside : q < length counts = omega (arith, length-set counts t (get_or counts t 0 + 1)) in
    let before = so_far q inside in
    let P : ℕ → Type 0 = λ x. get_or (set counts t (get_or counts t 0 + 1)) x 0 ≡ get_or was x 0 + count_in x (take (k + 1) near) in
    let here : P t = omega (arith, get_or-set_same counts t (get_or counts t 0 + 1) 0 there, so_far t there, count_in-yes t near k in_row (sym is_t)) in
    elim (cases_eq q t) [ inl e ↦ subst P (sym e) here | inr n ↦ omega (arith, get_or-set_other counts t q (get_or counts t 0 + 1) 0 n, count_in-no q near k in_row (λ s. n (sym s ∙ sym is_t))) ]

pub entries_to-none : (q : ℕ) (web : List Joint) → entries_to q (take 0 web) ≡ 0
unfolding entries_to
entries_to-none q web = refl

pub entries_to-all : (q : ℕ) (web : List Joint) → entries_to q (take (length web) web) ≡ entries_to q web
entries_to-all q web = ap (entries_to q) (take_all (length web) web (omega arith))

pub entries_to-more : (q : ℕ) (web : List Joint) (i : ℕ) → i < length web → entries_to q (take (i + 1) web) ≡ entries_to q (take i web) + count_in q (joint_at web i).near
unfolding entries_to
entries_to-more q web i h = sum_by_more (λ joint. count_in q joint.near) web i no_joint h

pub entries_to-more-le : (q : ℕ) (web : List Joint) (i : ℕ) → i < length web → entries_to q (take i web) + count_in q (joint_at web i).near ≤ entries_to q web
unfolding entries_to
entries_to-more-le q web i h = sum_by_more_le (λ joint. count_in q joint.near) web i no_joint h

pub entries_to-le-entries : (q : ℕ) (web : List Joint) → entries_to q web ≤ entries web
unfolding entries_to entries
entries_to-le-entries q web =
    sum_by-le-sum_by (λ joint. count_in q joint.near) (λ joint. length joint.near) web (λ joint. count_in-le-length q joint.near)

pub entries-none : (web : List Joint) → entries (take 0 web) ≡ 0
unfolding entries
entries-none web = refl

pub entries-more : (web : List Joint) (i : ℕ) → i < length web → entries (take (i + 1) web) ≡ entries (take i web) + length (joint_at web i).near
unfolding entries
entries-more web i h = sum_by_more (λ joint. length joint.near) web i no_joint h

pub entries-more-le : (web : List Joint) (i : ℕ) → i < length web → entries (take i web) + length (joint_at web i).near ≤ entries web
unfolding entries
entries-more-le web i h = sum_by_more_le (λ joint. length joint.near) web i no_joint h

-- the entries that lead to a point before q + 1 are those that lead to one before q, and those that lead to q
near_before : (q : ℕ) (near : List ℕ) → count_by (λ x. ltb x (q + 1)) near ≡ count_by (λ x. ltb x q) near + count_in q near
unfolding count_in
near_before q [] = refl
near_before q (x ∷ xs) =
    let step = near_before q xs in
    rw (sum_by-cons (λ y. cond (ltb y (q + 1)) 1 0) x xs, sum_by-cons (λ y. cond (ltb y q) 1 0) x xs, sum_by-cons (λ y. cond (eqb y q) 1 0) x xs) (grind (arith, nat_tests, step))

none_before : (near : List ℕ) → count_by (λ x. ltb x 0) near ≡ 0
none_before [] = refl
none_before (x ∷ xs) =
    let step = none_before xs in
    rw (sum_by-cons (λ y. cond (ltb y 0) 1 0) x xs) (grind (arith, nat_tests, step))

pub entries_before-none : (web : List Joint) → entries_before 0 web ≡ 0
unfolding entries_before
entries_before-none [] = refl
entries_before-none (joint ∷ web) =
    let step = entries_before-none web in
    rw (sum_by-cons (λ j. count_by (λ x. ltb x 0) j.near) joint web) (omega (arith, none_before joint.near, step))

pub entries_before-more : (q : ℕ) (web : List Joint) → entries_before (q + 1) web ≡ entries_before q web + entries_to q web
unfolding entries_before entries_to
entries_before-more q [] = refl
entries_before-more q (joint ∷ web) =
    let step = entries_before-more q web in
    let here = near_before q joint.near in
    rw (sum_by-cons (λ j. count_by (λ x. ltb x (q + 1)) j.near) joint web, sum_by-cons (λ j. count_by (λ x. ltb x q) j.near) joint web, sum_by-cons (λ j. count_in q j.near) joint web) (omega (arith, step, here))

entries_before-add : (web : List Joint) (q n : ℕ) → entries_before q web ≤ entries_before (q + n) web
entries_before-add web q zero = rw (add-zero) (omega arith)
entries_before-add web q (suc n) =
    let step = entries_before-add web q n in
    let more = entries_before-more (q + n) web in
    let same : q + suc n ≡ q + n + 1 = omega arith in
    rw same (omega arith)

pub entries_before-mono : (web : List Joint) (q r : ℕ) → q ≤ r → entries_before q web ≤ entries_before r web
entries_before-mono web q r h =
    let same : q + (r - q) ≡ r = omega arith in
    rw same at (entries_before-add web q (r - q))

pub entries_before-le-entries : (q : ℕ) (web : List Joint) → entries_before q web ≤ entries web
unfolding entries_before entries
entries_before-le-entries q web =
    sum_by-le-sum_by (λ joint. count_by (λ x. ltb x q) joint.near) (λ joint. length joint.near) web (λ joint. count_by-le-length (λ x. ltb x q) joint.near)

-- the counts of the points before m, summed up
pub sum-take-counts : (web : List Joint) (counts : List ℕ) → ((q : ℕ) → q < length counts → get_or counts q 0 ≡ entries_to q web) → (m : ℕ) → m ≤ length counts → sum (take m counts) ≡ entries_before m web
sum-take-counts web counts each zero h = sym (entries_before-none web)
sum-take-counts web counts each (suc m) h =
    let step = sum-take-counts web counts each m (omega arith) in
    let more = sum_by_more (λ x. x) counts m 0 (omega arith) in
    let here = each m (omega arith) in
    let count = entries_before-more m web in
    rw (← add-one m) (omega arith)

module _ (web : List Joint) (i : ℕ) (whole : length web ≤ i) (counts : List ℕ) (all : length counts ≡ length web + 1) (counted : (q : ℕ) → q < length counts → get_or counts q 0 ≡ entries_to q (take i web)) where
  sums : (m : ℕ) → m ≤ length counts → sum (take m counts) ≡ entries_before m web
  sums = sum-take-counts web counts (λ q h. counted q h ∙ ap (entries_to q) (take_all i web whole))

  pub sum-counts-le : sum counts ≤ entries (take i web)
  sum-counts-le =
      let same = ap sum (take_all (length counts) counts (omega arith)) in
      let web-same = ap entries (take_all i web whole) in
      omega (arith, sums (length counts) (omega arith), entries_before-le-entries (length counts) web)

  pub AreEnds-summed : (ends : List ℕ) → length ends ≡ length counts → ((q : ℕ) → q < length ends → get_or ends q 0 ≡ sum (take (q + 1) counts)) → AreEnds web ends
  AreEnds-summed ends same each = record { all = omega arith; each = λ q h. each q h ∙ sums (q + 1) (omega arith) }

-- The counts before i are summed up, and the others are as they were.
pub record IsSummed (was counts : List ℕ) (i total : ℕ) : Type 0 where
  pub so_far : total ≡ sum (take i was)
  pub summed : (q : ℕ) → q < i → get_or counts q 0 ≡ sum (take (q + 1) was)
  pub rest : (q : ℕ) → i ≤ q → get_or counts q 0 ≡ get_or was q 0

module _ (was counts : List ℕ) (i total : ℕ) (s : IsSummed was counts i total) (there : i < length was) where
  pub summed-le : total + get_or counts i 0 ≤ sum was
  summed-le = omega (arith, s.so_far, s.rest i (omega arith), sum_by_more_le (λ x. x) was i 0 there)

  pub IsSummed-more : length counts ≡ length was → IsSummed was (set counts i (total + get_or counts i 0)) (i + 1) (total + get_or counts i 0)
  IsSummed-more same =
      let here = get_or-set_same counts i (total + get_or counts i 0) 0 (omega arith) in
      let more = sum_by_more (λ x. x) was i 0 there in
      let next : total + get_or counts i 0 ≡ sum (take (i + 1) was) = omega (arith, s.so_far, s.rest i (omega arith)) in
      record {
        so_far = next;
        summed = below_more (λ q. get_or (set counts i (total + get_or counts i 0)) q 0 ≡ sum (take (q + 1) was)) i
            (λ q h. let n : q ≢ i = omega arith in get_or-set_other counts i q (total + get_or counts i 0) 0 n ∙ s.summed q h)
            (here ∙ next);
        rest = λ q h. let n : q ≢ i = omega arith in get_or-set_other counts i q (total + get_or counts i 0) 0 n ∙ s.rest q (omega arith);
      }
