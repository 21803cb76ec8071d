-- Values within their limits, and the first past one.
use Rattle.std.proofs.Common.{◌≡◌, ℕ, ◌*◌, ◌<◌, ◌≤◌, ◌⊎◌, inl, inr, List, length, get_or, refl, sym, ap, ◌∙◌, subst, ⊎_elim, arith, Bool, true, false, Option, Some, None}
use Rattle.std.specs.Prelude.{ℤ, pos, negsuc, ◌/◌, ◌%◌, ◌==◌, nat_le}
use Rattle.std.proofs.lemmas.Int.{ints}
use Rattle.std.proofs.lemmas.Bool.Decides.{leb_tells, Decides-eqb}
use Rattle.std.proofs.lemmas.List.{get_or-map, get_or_default, length-map}
use Rattle.book_design.specs.declared.rules.TheConstants.{MOST_NET_WEIGHT}
use Rattle.book_design.specs.declared.strips.Strip.{Strip as Kept}
use Rattle.book_design.specs.declared.fault.DesignFault.TheVariants.{Limit}
use Rattle.book_design.specs.Records.{Records, net_at, strips, strip_at}
use Rattle.book_design.specs.Joined.{weight_of}
use Rattle.book_design.specs.Faults.{IsFirst, HasManySites, IsWholeWeight, HasBadWeight, IsPastEnd}
use Rattle.book_design.specs.Forms.Parts.{outlines, kept_at, whole_weight, whole_weights}
use Rattle.book_design.specs.Forms.Steps.{IsFreeFrom, IsFirstFrom}
use Rattle.book_design.specs.Forms.ValueLimits.{IsCrowded, HasNoWeight, weight_in}
use Rattle.book_design.proofs.Ranks.{first_of_rank, first_after, free_sites, free_weights, free_ends, free_both}
use Rattle.book_design.proofs.Rowing.{length-outlines, sites_are}

many_sites : (records : Records) (kept : List Kept) (s : ℕ) → kept ≡ outlines records → IsCrowded kept s → HasManySites records s
many_sites records kept s e h =
    let P : List Kept → Type 0 = λ ks. IsCrowded ks s in
    let here = subst P e h in
    let n = length-outlines records in
    let there : s < length (strips records) = omega (arith, here.0) in
    let same = sites_are records s there in
    (there, omega (arith, here.1))

crowded : (records : Records) (kept : List Kept) (s : ℕ) → kept ≡ outlines records → HasManySites records s → IsCrowded kept s
crowded records kept s e h =
    let P : List Kept → Type 0 = λ ks. IsCrowded ks s in
    let n = length-outlines records in
    let same = sites_are records s h.0 in
    let there : s < length (outlines records) = omega (arith, h.0) in
    let here : IsCrowded (outlines records) s = (there, omega (arith, h.1)) in
    subst P (sym e) here

pub none_crowded : (records : Records) (kept : List Kept) → kept ≡ outlines records → ((s : ℕ) → IsCrowded kept s → ⊥) → ((s : ℕ) → HasManySites records s → ⊥)
none_crowded records kept e none = λ s h. none s (crowded records kept s e h)

pub first_crowded : (records : Records) (kept : List Kept) (s : ℕ) (d : Kept) → kept ≡ outlines records → IsFirst (IsCrowded kept) s
    → IsFirstFrom records 11 (Limit 4 (get_or kept s d).sites)
first_crowded records kept s d e h =
    let many = many_sites records kept s e h.here in
    let first : IsFirst (HasManySites records) s = record { here = many; not_before = λ j below more. h.not_before j below (crowded records kept j e more) } in
    let named : (get_or kept s d).sites ≡ (strip_at records s).sites =
    ap (λ (k : Kept). k.sites) (get_or_default kept s d _ h.here.0) ∙ (ap (λ (ks : List Kept). (kept_at ks s).sites) e ∙ sites_are records s many.0) in
    first_of_rank records 11 (Limit 4 (get_or kept s d).sites) refl (inr (inr (inr (inl (refl, (s, first, named))))))

le_yes : (a b : ℕ) → a ≤ b → nat_le a b ≡ true
le_yes a b le = ⊎_elim (λ yes. yes.0) (λ no_less. absurd (let more = no_less.1 in omega (arith, le, more))) (leb_tells a b)

le_from : (a b : ℕ) → nat_le a b ≡ true → a ≤ b
le_from a b e = ⊎_elim (λ yes. yes.1) (λ no_less. let f = no_less.0 in absurd cc) (leb_tells a b)

-- the weight of so many millionths is whole, or stands for none
whole_case : (n : ℕ) (a b : Bool) → (n % 1000000 == 0) ≡ a → nat_le (n / 1000000) MOST_NET_WEIGHT ≡ b
    → IsWholeWeight (pos n) ⊎ ((whole_weight (pos n) ≡ None) × (IsWholeWeight (pos n) → ⊥))
whole_case n true true e f =
    let whole : n % 1000000 ≡ 0 = (Decides-eqb (n % 1000000) 0).0 e in
    let few : n / 1000000 ≤ MOST_NET_WEIGHT = le_from (n / 1000000) MOST_NET_WEIGHT f in
    let is : n ≡ n / 1000000 * 1000000 = omega (arith, whole) in
    inl (n / 1000000, few, ap pos is)
whole_case n true false e f = inr (
  rw (e, f) refl,
  λ h.
      let is : n ≡ h.0 * 1000000 = omega (arith, ints, h.2) in
      let few : n / 1000000 ≤ MOST_NET_WEIGHT = omega (arith, h.1) in
      let yes : nat_le (n / 1000000) MOST_NET_WEIGHT ≡ true = le_yes (n / 1000000) MOST_NET_WEIGHT few in absurd cc,
)
whole_case n false b e f = inr (
  rw e refl,
  λ h.
      let is : n ≡ h.0 * 1000000 = omega (arith, ints, h.2) in
      let whole : n % 1000000 ≡ 0 = omega arith in
      let yes : (n % 1000000 == 0) ≡ true = (Decides-eqb (n % 1000000) 0).1 whole in absurd cc,
)

pub whole_or_none : (weight : ℤ) → IsWholeWeight weight ⊎ ((whole_weight weight ≡ None) × (IsWholeWeight weight → ⊥))
whole_or_none (pos n) = whole_case n (n % 1000000 == 0) (nat_le (n / 1000000) MOST_NET_WEIGHT) refl refl
whole_or_none (negsuc n) = inr (refl, λ h. omega (arith, ints, h.2))

some_case : (n k : ℕ) → n ≡ k * 1000000 → k ≤ MOST_NET_WEIGHT → whole_weight (pos n) ≡ Some k
some_case n k e few =
    let whole : (n % 1000000 == 0) ≡ true = (Decides-eqb (n % 1000000) 0).1 (omega arith) in
    let less : nat_le (n / 1000000) MOST_NET_WEIGHT ≡ true = le_yes (n / 1000000) MOST_NET_WEIGHT (omega arith) in
    let same : n / 1000000 ≡ k = omega arith in
    rw (whole, less) (ap Some same)

whole_some : (weight : ℤ) → IsWholeWeight weight → whole_weight weight ≡ None → ⊥
whole_some (pos n) h none = let some = some_case n h.0 (omega (arith, ints, h.2)) h.1 in absurd cc
whole_some (negsuc n) h none = omega (arith, ints, h.2)

length-weights : (records : Records) → length (whole_weights records) ≡ length records.nets
length-weights records = length-map records.nets (λ net. whole_weight (weight_of records net))

weight_is : (records : Records) (n : ℕ) → n < length records.nets → weight_in (whole_weights records) n ≡ whole_weight (weight_of records (net_at records n))
weight_is records n there = get_or-map (λ net. whole_weight (weight_of records net)) records.nets n _ _ there

bad_weight : (records : Records) (weights : List (Option ℕ)) (n : ℕ) → weights ≡ whole_weights records → HasNoWeight weights n → HasBadWeight records n
bad_weight records weights n e h =
    let P : List (Option ℕ) → Type 0 = λ ws. HasNoWeight ws n in
    let here = subst P e h in
    let same = length-weights records in
    let there : n < length records.nets = omega (arith, here.0) in
    (there, λ whole. whole_some (weight_of records (net_at records n)) whole (sym (weight_is records n there) ∙ here.1))

no_weight : (records : Records) (weights : List (Option ℕ)) (n : ℕ) → weights ≡ whole_weights records → HasBadWeight records n → HasNoWeight weights n
no_weight records weights n e h =
    let P : List (Option ℕ) → Type 0 = λ ws. HasNoWeight ws n in
    let same = length-weights records in
    let there : n < length (whole_weights records) = omega (arith, h.0) in
    let none : whole_weight (weight_of records (net_at records n)) ≡ None = ⊎_elim (λ whole. absurd (h.1 whole)) (λ other. other.0) (whole_or_none (weight_of records (net_at records n))) in
    let here : HasNoWeight (whole_weights records) n = (there, weight_is records n h.0 ∙ none) in
    subst P (sym e) here

pub none_bad : (records : Records) (weights : List (Option ℕ)) → weights ≡ whole_weights records → ((n : ℕ) → HasNoWeight weights n → ⊥) → ((n : ℕ) → HasBadWeight records n → ⊥)
none_bad records weights e none = λ n h. none n (no_weight records weights n e h)

pub first_bad : (records : Records) (weights : List (Option ℕ)) (n : ℕ) → weights ≡ whole_weights records → ((s : ℕ) → HasManySites records s → ⊥) → IsFirst (HasNoWeight weights) n
    → IsFirstFrom records 11 (Limit 5 n)
first_bad records weights n e eleven h =
    let first : IsFirst (HasBadWeight records) n = record { here = bad_weight records weights n e h.here; not_before = λ j below bad. h.not_before j below (no_weight records weights j e bad) } in
    first_after records 11 (Limit 5 n) (free_sites records eleven) (inr (inr (inr (inr (inl (refl, first))))))

pub first_end : (records : Records) (r number : ℕ) → number ≡ r → ((s : ℕ) → HasManySites records s → ⊥) → ((n : ℕ) → HasBadWeight records n → ⊥) → IsFirst (IsPastEnd records) r → IsFirstFrom records 11 (Limit 6 number)
first_end records r number e eleven twelve h =
    let P : ℕ → Type 0 = λ k. IsFirst (IsPastEnd records) k in
    first_after records 11 (Limit 6 number) (free_both records 11 12 13 (free_sites records eleven) (free_weights records twelve)) (inr (inr (inr (inr (inr (refl, subst P (sym e) h))))))

pub all_within : (records : Records) → ((s : ℕ) → HasManySites records s → ⊥) → ((n : ℕ) → HasBadWeight records n → ⊥) → ((r : ℕ) → IsPastEnd records r → ⊥) → IsFreeFrom records 11 14
all_within records eleven twelve thirteen = free_both records 11 13 14 (free_both records 11 12 13 (free_sites records eleven) (free_weights records twelve)) (free_ends records thirteen)
