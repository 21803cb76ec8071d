-- A chain leads from exactly the points that a settled search has reached.
use Rattle.std.proofs.Common.{◌≡◌, ℕ, zero, suc, ◌<◌, ◌≤◌, inl, inr, IsTrue, List, [], ◌∷◌, length, map, get_or, take, Option, Some, None, IsSome, refl, sym, ap, ◌∙◌, subst, arith}
use Rattle.std.proofs.lemmas.List.{length-map, length-take-le, get_or-map, get_or-take, get_or_past}
use Rattle.std.proofs.lemmas.Bool.{cases_lt}
use Rattle.pad_reach.specs.Chain.{Joint, no_joint, IsNeighbour, IsAnchored, IsChain, HasChain}
use Rattle.pad_reach.specs.Reaches.{Step, no_step, step_at, LeadsOn, Reaches, FallsTo, AreFalling, IsFirstUnanchored}
use Rattle.pad_reach.specs.Forms.Search.{found_at, IsReached, IsFoundBy, IsSound, IsSettled}
use Rattle.pad_reach.specs.declared.steps.Entry.{Entry}
use Rattle.pad_reach.proofs.Searching.{there_if_reached}

there_if_anchored : (web : List Joint) (p : ℕ) → IsAnchored web p → p < length web
there_if_anchored web p a =
    elim (cases_lt p (length web)) [ inl l ↦ l | inr past ↦ absurd (let none = get_or_past web p no_joint past in let P : Joint → Type 0 = λ j. IsTrue j.anchored in let no = subst P none a in cc) ]

there_if_near : (web : List Joint) (p q : ℕ) → IsNeighbour web p q → p < length web
there_if_near web p q near =
    elim (cases_lt p (length web)) [ inl l ↦ l | inr past ↦ absurd (let none = get_or_past web p no_joint past in let count : Joint → ℕ = λ j. length j.near in omega (arith, ap count none, near.1)) ]

-- whoever has a chain is reached
reached_by : (web : List Joint) (found : List (Option Entry)) → IsSettled web found → (p : ℕ) (rest : List ℕ) → IsChain web (p ∷ rest) → IsReached found p
reached_by web found s p [] a = s.anchored p (there_if_anchored web p a) a
reached_by web found s p (q ∷ rest) c =
    s.closed p q (there_if_near web p q c.0) c.0 (reached_by web found s q rest c.1)

-- and whoever is reached has one
chain_by : (web : List Joint) (found : List (Option Entry)) → IsSound web found → (n p : ℕ) (toward : Option ℕ) (distance : ℕ) → IsFoundBy web found p toward distance → distance ≤ n → HasChain web p
chain_by web found s n p None distance by h = ([], by.0)
chain_by web found s zero p (Some q) distance by h = absurd (omega (arith, by.2.2))
chain_by web found s (suc n) p (Some q) distance by h =
    let near = by.2.0 in
    let rest = chain_by web found s n q near.toward near.distance (s.each q near by.2.1) (omega (arith, by.2.2)) in
    (q ∷ rest.0, (by.1, rest.1))

entry_of : (o : Option Entry) → IsSome o → (e : Entry) × (o ≡ Some e)
entry_of None h = absurd cc
entry_of (Some e) h = (e, refl)

pub HasChain-reached : (web : List Joint) (found : List (Option Entry)) → IsSound web found → (p : ℕ) → IsReached found p → HasChain web p
HasChain-reached web found s p h =
    let e = entry_of (found_at found p) h in
    chain_by web found s e.0.distance p e.0.toward e.0.distance (s.each p e.0 e.1) (omega arith)

pub IsFirstUnanchored-found : (web : List Joint) (found : List (Option Entry)) → IsSettled web found → (p : ℕ) → p < length web → found_at found p ≡ None → ((q : ℕ) → q < p → IsReached found q) → IsFirstUnanchored web p
IsFirstUnanchored-found web found s p there free before = record {
  there = there;
  none = λ chain. let reached = reached_by web found s p chain.0 chain.1 in cc;
  before = λ q l. HasChain-reached web found s.sound q (before q l);
}

-- the points before i are reached if there is an entry for each
pub reached_before : (found : List (Option Entry)) (entries : List Entry) (i : ℕ) → map Some entries ≡ take i found → i ≤ length found → (q : ℕ) → q < i → IsReached found q
reached_before found entries i some inside q h =
    let count : length entries ≡ i = sym (length-map entries Some) ∙ ap length some ∙ length-take-le i found inside in
    let at = λ (xs : List (Option Entry)). found_at xs q in
    let e = get_or entries q (record { toward = None; distance = 0 }) in
    let known : found_at found q ≡ Some e = sym (get_or-take i found q None h) ∙ sym (ap at some) ∙ get_or-map Some entries q (record { toward = None; distance = 0 }) None (omega arith) in
    rw known refl

-- a step is what is known of its point
abbrev step_of : Entry → Step
step_of e = record { toward = e.toward; distance = e.distance }

module _ (web : List Joint) (found : List (Option Entry)) (s : IsSettled web found) (entries : List Entry) (whole : map Some entries ≡ found) where
  length_entries : length entries ≡ length web
  length_entries = sym (length-map entries Some) ∙ ap length whole ∙ s.sound.all

  no_entry : Entry
  no_entry = record { toward = None; distance = 0 }

  found_entry : (p : ℕ) → p < length web → found_at found p ≡ Some (get_or entries p no_entry)
  found_entry p h =
      let at = λ (xs : List (Option Entry)). found_at xs p in
      sym (ap at whole) ∙ get_or-map Some entries p no_entry None (omega (arith, length_entries))

  step_entry : (p : ℕ) → p < length web → step_at (map step_of entries) p ≡ step_of (get_or entries p no_entry)
  step_entry p h = get_or-map step_of entries p no_entry no_step (omega (arith, length_entries))

  LeadsOn-found : (p : ℕ) (toward : Option ℕ) (distance : ℕ) → IsFoundBy web found p toward distance → LeadsOn web (map step_of entries) p toward distance
  LeadsOn-found p None distance by = by
  LeadsOn-found p (Some q) distance by =
      let reached : IsReached found q = rw by.2.1 refl in
      let there : q < length web = omega (arith, there_if_reached found q reached, s.sound.all) in
      let same : by.2.0 ≡ get_or entries q no_entry = (let known = found_entry q there in let near = by.2.1 in cc) in
      let distance_of : Entry → ℕ = λ e. e.distance in
      let distance_at : Step → ℕ = λ step. step.distance in
      (by.0, by.1, there, omega (arith, ap distance_of same, ap distance_at (step_entry q there), by.2.2))

  pub Reaches-found : Reaches web (map step_of entries)
  Reaches-found = record {
    all = length-map entries step_of ∙ length_entries;
    each = λ p h. let P : Step → Type 0 = λ step. LeadsOn web (map step_of entries) p step.toward step.distance in subst P (sym (step_entry p h)) (LeadsOn-found p _ _ (s.sound.each p _ (found_entry p h)));
  }

-- a step that leads on falls
falls : (web : List Joint) (steps : List Step) → length steps ≡ length web → (p : ℕ) (toward : Option ℕ) (distance : ℕ) → LeadsOn web steps p toward distance → FallsTo steps toward distance
falls web steps all p None distance on = on.1
falls web steps all p (Some q) distance on = (omega (arith, all, on.2), on.3)

pub AreFalling-reaches : (web : List Joint) (steps : List Step) → Reaches web steps → AreFalling steps
AreFalling-reaches web steps reaches = λ p h. falls web steps reaches.all p _ _ (reaches.each p (omega (arith, reaches.all)))
