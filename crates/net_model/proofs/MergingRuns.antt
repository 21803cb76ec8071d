-- The entries of the first places, joined run by run: their points rise, and each point keeps its sum, which fixes the list.
use Rattle.std.proofs.Common.{◌≡◌, ◌≢◌, ◌⊎◌, ℕ, zero, suc, ◌+◌, ◌-◌, ◌<◌, ◌≤◌, Bool, false, cond, eqb, List, [], ◌∷◌, ◌++◌, length, get_or, set, take, None, Some, refl, sym, ◌∙◌, ap, subst, inl, inr, arith}
use Rattle.std.specs.Prelude.{All}
use Rattle.std.specs.List.{filter_map, range_with_len, cons_option}
use Rattle.std.specs.List.Sorted.{IsNonDecreasingBy}
use Rattle.std.proofs.lemmas.Bool.Decides.{nat_tests}
use Rattle.std.proofs.lemmas.List.{take_more, take-set, take_all, length-set, get_or-set_same, get_or-set_other, get_or_default, nil_from_length}
use Rattle.std.proofs.lemmas.List.Sums.{sum_by_more_le_part}
use Rattle.net_model.specs.declared.parts.Near.{Near}
use Rattle.net_model.specs.Forms.Steps.{weight_at, as_sum}
use Rattle.net_model.proofs.MergingSums.{weight_for, weight_sum, sum_of, weight_at-cons, weight_at-append}

-- ---- a list with points that rise is the list of its sums

-- the points rise from low to below high, and no weight is 0
abbrev pub RisesTo : ℕ → ℕ → List Near → Type 0
RisesTo low high [] = low ≤ high
RisesTo low high (entry ∷ near) = (low ≤ entry.point) × (1 ≤ entry.weight) × RisesTo (entry.point + 1) high near

rises_push : (low high higher : ℕ) (near : List Near) (entry : Near) → RisesTo low high near → high ≤ entry.point → entry.point < higher → 1 ≤ entry.weight → RisesTo low higher (near ++ entry ∷ [])
rises_push low high higher [] entry rises after below weighty = (omega arith, weighty, omega arith)
rises_push low high higher (first ∷ near) entry rises after below weighty = (rises.0, rises.1, rises_push (first.point + 1) high higher near entry rises.2 after below weighty)

rises_within : (low high : ℕ) (near : List Near) → RisesTo low high near → low ≤ high
rises_within low high [] rises = rises
rises_within low high (first ∷ near) rises = let rest = rises_within (first.point + 1) high near rises.2 in omega (arith, rises.0, rest)

elsewhere : (entry : Near) (q : ℕ) → q ≢ entry.point → weight_for q entry ≡ 0
elsewhere entry q other = grind (arith, nat_tests)

-- a point before all of them has nothing
nothing_before : (low high : ℕ) (near : List Near) (q : ℕ) → RisesTo low high near → q < low → weight_at near q ≡ 0
nothing_before low high [] q rises before = refl
nothing_before low high (first ∷ near) q rises before =
    omega (arith, weight_at-cons first near q, elsewhere first q (omega (arith, rises.0)), nothing_before (first.point + 1) high near q rises.2 (omega (arith, rises.0)))

abbrev entry_of : ℕ → ℕ → Near
entry_of q w = record { point = q; weight = w }

no_sum : (near : List Near) (q : ℕ) → weight_at near q ≡ 0 → as_sum near q ≡ None
no_sum near q none = ap (sum_of q) none

a_sum : (near : List Near) (q w : ℕ) → weight_at near q ≡ w → 1 ≤ w → as_sum near q ≡ Some (record { point = q; weight = w })
a_sum near q w is weighty =
    let test : eqb w 0 ≡ false = grind (arith, nat_tests) in
    ap (sum_of q) is ∙ ap (λ (b : Bool). cond b None (Some (entry_of q w))) test

-- what follows the first entry gives a later point the same
same_later : (first : Near) (near : List Near) (q : ℕ) → first.point < q → weight_at (first ∷ near) q ≡ weight_at near q
same_later first near q later = let none = elsewhere first q (omega arith) in omega (arith, weight_at-cons first near q, none)

-- such a list is fixed by what it gives each point
pub the_sums : (old near : List Near) (a n high : ℕ) → RisesTo a high near → high ≤ a + n → ((q : ℕ) → a ≤ q → weight_at near q ≡ weight_at old q) → near ≡ filter_map (as_sum old) (range_with_len a n)
the_sums old [] a zero high rises below same = refl
the_sums old (entry ∷ near) a zero high rises below same = absurd (omega (arith, rises.0, rises_within (entry.point + 1) high near rises.2))
the_sums old [] a (suc n) high rises below same =
    let rest = the_sums old [] (a + 1) n (a + 1) (omega arith) (omega arith) (λ q h. same q (omega arith)) in
    rest ∙ ap (λ s. cons_option s (filter_map (as_sum old) (range_with_len (a + 1) n))) (sym (no_sum old a (sym (same a (omega arith)))))
the_sums old (entry ∷ near) a (suc n) high rises below same = by_cases (λ r. the_sums old near (a + 1) n high r (omega arith)) (λ r. the_sums old (entry ∷ near) (a + 1) n high r (omega arith)) (grind (arith, rises.0)) where
  later_sums : List Near
  later_sums = filter_map (as_sum old) (range_with_len (a + 1) n)

  by_cases : (RisesTo (a + 1) high near → ((q : ℕ) → a + 1 ≤ q → weight_at near q ≡ weight_at old q) → near ≡ later_sums)
      → (RisesTo (a + 1) high (entry ∷ near) → ((q : ℕ) → a + 1 ≤ q → weight_at (entry ∷ near) q ≡ weight_at old q) → entry ∷ near ≡ later_sums)
      → (entry.point ≡ a) ⊎ (a + 1 ≤ entry.point) → entry ∷ near ≡ cons_option (as_sum old a) later_sums
  by_cases after_it with_it (inl at) =
      let here : weight_for a entry ≡ entry.weight = grind (arith, nat_tests) in
      let nothing = nothing_before (entry.point + 1) high near a rises.2 (omega arith) in
      let rises_on = subst (λ p. RisesTo (p + 1) high near) at rises.2 in
      let rest : near ≡ later_sums = after_it rises_on (λ q h. sym (same_later entry near q (omega arith)) ∙ same q (omega arith)) in
      let whole : weight_at (entry ∷ near) a ≡ weight_at old a = same a (omega arith) in
      let sum : weight_at old a ≡ entry.weight = omega (arith, weight_at-cons entry near a, here, nothing, whole) in
      ap (λ p. entry_of p entry.weight ∷ near) at ∙ ap (λ s. cons_option s near) (sym (a_sum old a entry.weight sum rises.1)) ∙ ap (cons_option (as_sum old a)) rest
  by_cases after_it with_it (inr later) =
      let whole : weight_at (entry ∷ near) a ≡ weight_at old a = same a (omega arith) in
      let nothing = nothing_before (a + 1) high (entry ∷ near) a (later, rises.1, rises.2) (omega arith) in
      with_it (later, rises.1, rises.2) (λ q h. same q (omega arith)) ∙ ap (λ s. cons_option s later_sums) (sym (no_sum old a (omega arith)))

-- ---- one entry more

-- front and last are the entries joined, with rising points and what each point had
pub record IsMerge (given front : List Near) (last : Near) : Type 0 where
  pub rises : RisesTo 0 last.point front
  pub weighty : 1 ≤ last.weight
  pub sums : (q : ℕ) → weight_at (front ++ last ∷ []) q ≡ weight_at given q

-- two entries of one point, in one
abbrev pub joined : Near → Near → Near
joined last entry = record { point = last.point; weight = last.weight + entry.weight }

weight_push : (near : List Near) (entry : Near) (q : ℕ) → weight_at (near ++ entry ∷ []) q ≡ weight_at near q + weight_for q entry
weight_push near entry q = omega (arith, weight_at-append near (entry ∷ []) q, weight_at-cons entry [] q)

merge_first : (entry : Near) → 1 ≤ entry.weight → IsMerge (entry ∷ []) [] entry
merge_first entry weighty = record { rises = omega arith; weighty = weighty; sums = λ q. refl }

weight_joined : (last entry : Near) (q : ℕ) → last.point ≡ entry.point → weight_for q (joined last entry) ≡ weight_for q last + weight_for q entry
weight_joined last entry q same = grind (arith, nat_tests)

merge_add : (given front : List Near) (last entry : Near) → IsMerge given front last → last.point ≡ entry.point → IsMerge (given ++ entry ∷ []) front (joined last entry)
merge_add given front last entry h same = record {
  rises = h.rises;
  weighty = omega (arith, h.weighty);
  sums = λ q. omega (arith, weight_push front (joined last entry) q, weight_joined last entry q same, weight_push front last q, h.sums q, weight_push given entry q);
}

merge_push : (given front : List Near) (last entry : Near) → IsMerge given front last → last.point < entry.point → 1 ≤ entry.weight → IsMerge (given ++ entry ∷ []) (front ++ last ∷ []) entry
merge_push given front last entry h later weighty = record {
  rises = rises_push 0 last.point entry.point front last h.rises (omega arith) later h.weighty;
  weighty = weighty;
  sums = λ q. omega (arith, weight_push (front ++ last ∷ []) entry q, h.sums q, weight_push given entry q);
}

-- ---- in place

-- the entries before i, given, are now joined in the places up to last
pub record JoinsRuns (given now : List Near) (i last : ℕ) : Type 0 where
  pub before : last < i
  pub within : last ≤ length given
  pub same_length : length now ≡ length given
  pub rest : (j : ℕ) (d : Near) → i ≤ j → get_or now j d ≡ get_or given j d
  pub at : (d : Near) → (get_or now last d).point ≡ (get_or given (i - 1) d).point
  pub merge : (d : Near) → 0 < length given → IsMerge (take i given) (take last now) (get_or now last d)

pub joins_first : (given : List Near) → All (λ entry. 1 ≤ entry.weight) given → JoinsRuns given given 1 0
joins_first given weighty = record {
  before = omega arith;
  within = omega arith;
  same_length = refl;
  rest = λ j d h. refl;
  at = λ d. refl;
  merge = λ d h. let P : List Near → Type 0 = λ xs. IsMerge xs [] (get_or given 0 d) in subst P (sym (take_more given 0 d h)) (merge_first (get_or given 0 d) (weighty 0 d h));
}

moved : (given given' front front' : List Near) (last last' : Near) → given ≡ given' → front ≡ front' → last ≡ last' → IsMerge given' front' last' → IsMerge given front last
moved given given' front front' last last' e e' e'' h = rw (e, e', e'') h

-- the entry at i is still the given one
taken : (given now : List Near) (i last : ℕ) (d : Near) → i < length given → JoinsRuns given now i last → take (i + 1) given ≡ take i given ++ get_or now i d ∷ []
taken given now i last d inside h = take_more given i d inside ∙ ap (λ x. take i given ++ x ∷ []) (sym (h.rest i d (omega arith)))

point_kept : (given now : List Near) (i last : ℕ) (d e : Near) → i < length given → JoinsRuns given now i last → (get_or now i e).point ≡ (get_or given (i + 1 - 1) d).point
point_kept given now i last d e inside h =
    let here : i ≡ i + 1 - 1 = omega arith in
    ap (λ x. x.point) (h.rest i e (omega arith) ∙ get_or_default given i e d inside) ∙ ap (λ k. (get_or given k d).point) here

-- an entry of the last one's point goes into it
pub joins_same : (given now : List Near) (i last : ℕ) (e : Near) → i < length given → JoinsRuns given now i last → (get_or now last e).point ≡ (get_or now i e).point → JoinsRuns given (set now last (joined (get_or now last e) (get_or now i e))) (i + 1) last
joins_same given now i last e inside h same =
    let sum = joined (get_or now last e) (get_or now i e) in
    let at_last : last < length now = omega (arith, h.before, h.same_length) in
    record {
      before = omega (arith, h.before);
      within = h.within;
      same_length = length-set now last sum ∙ h.same_length;
      rest = λ j d later. let other : j ≢ last = omega (arith, h.before) in get_or-set_other now last j sum d other ∙ h.rest j d (omega arith);
      at = λ d. ap (λ x. x.point) (get_or-set_same now last sum d at_last) ∙ same ∙ point_kept given now i last d e inside h;
      merge = λ d some. moved _ _ _ _ _ _ (taken given now i last e inside h) (take-set now last sum) (get_or-set_same now last sum d at_last)
          (merge_add (take i given) (take last now) (get_or now last e) (get_or now i e) (h.merge e some) same);
    }

-- an entry of another point stands after the last one
pub joins_next : (given now : List Near) (i last : ℕ) (e : Near) → i < length given → IsNonDecreasingBy (λ entry. entry.point) given → All (λ entry. 1 ≤ entry.weight) given
    → JoinsRuns given now i last → (get_or now last e).point ≢ (get_or now i e).point → JoinsRuns given (set now (last + 1) (get_or now i e)) (i + 1) (last + 1)
joins_next given now i last e inside sorted weighty h other =
    let entry = get_or now i e in
    let kept = h.rest i e (omega arith) in
    let at_next : last + 1 < length now = omega (arith, h.before, h.same_length) in
    let up : (get_or given (i - 1) e).point ≤ (get_or given i e).point = sorted (i - 1) i e (omega arith) inside in
    let later : (get_or now last e).point < entry.point = omega (arith, h.at e, ap (λ (x : Near). x.point) kept) in
    let some_weight : 1 ≤ entry.weight = subst (λ (x : Near). 1 ≤ x.weight) (sym kept) (weighty i e inside) in
    record {
      before = omega (arith, h.before);
      within = omega (arith, h.before);
      same_length = length-set now (last + 1) entry ∙ h.same_length;
      rest = λ j d after. let else_where : j ≢ last + 1 = omega (arith, h.before) in get_or-set_other now (last + 1) j entry d else_where ∙ h.rest j d (omega arith);
      at = λ d. ap (λ x. x.point) (get_or-set_same now (last + 1) entry d at_next) ∙ point_kept given now i last d e inside h;
      merge = λ d some. moved _ _ _ _ _ _ (taken given now i last e inside h) (take-set now (last + 1) entry ∙ take_more now last e (omega arith)) (get_or-set_same now (last + 1) entry d at_next)
          (merge_push (take i given) (take last now) (get_or now last e) entry (h.merge e some) later some_weight);
    }

-- once all entries are joined, the front is the list of their sums
pub joined_is : (given now : List Near) (i last n : ℕ) → JoinsRuns given now i last → length given ≤ i → (0 < length given → i ≤ length given) → All (λ entry. entry.point < n) given → take (last + 1) now ≡ filter_map (as_sum given) (range_with_len 0 n)
joined_is [] now i last n h end within below = take_all (last + 1) now (omega (arith, h.same_length)) ∙ nil_from_length now h.same_length ∙ the_sums [] [] 0 n 0 (omega arith) (omega arith) (λ q h. refl)
joined_is (entry ∷ near) now i last n h end within below =
    let some : 0 < length (entry ∷ near) = omega arith in
    let all : i ≤ length (entry ∷ near) = within some in
    let at_last : last < length now = omega (arith, h.before, h.same_length) in
    let final = get_or now last entry in
    let merge = h.merge entry some in
    let under : (get_or (entry ∷ near) (i - 1) entry).point < n = below (i - 1) entry (omega (arith, h.before)) in
    let final_under : final.point < n = omega (arith, h.at entry) in
    let rises = rises_push 0 final.point n (take last now) final merge.rises (omega arith) final_under merge.weighty in
    take_more now last entry at_last ∙ the_sums (entry ∷ near) (take last now ++ final ∷ []) 0 n n rises (omega arith) (λ q h'. merge.sums q ∙ ap (λ xs. weight_at xs q) (take_all i (entry ∷ near) end))

own_weight : (entry : Near) → weight_for entry.point entry ≡ entry.weight
own_weight entry = grind (arith, nat_tests)

part_of_weight : (q : ℕ) (entry : Near) → weight_for q entry ≤ entry.weight
part_of_weight q entry = grind (arith, nat_tests)

-- the sum of two entries is within the sum of all
pub joined_fits : (given now : List Near) (i last : ℕ) (e : Near) → i < length given → JoinsRuns given now i last → (get_or now last e).weight + (get_or now i e).weight ≤ weight_sum given
joined_fits given now i last e inside h =
    let final = get_or now last e in
    let sums = (h.merge e (omega arith)).sums final.point in
    let front = weight_push (take last now) final final.point in
    let part = sum_by_more_le_part (weight_for final.point) (λ entry. entry.weight) given i e inside (part_of_weight final.point) in
    omega (arith, sums, front, own_weight final, part, ap (λ (x : Near). x.weight) (h.rest i e (omega arith)))
