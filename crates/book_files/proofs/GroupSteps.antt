-- The groups of items with one item more, and how many they and their parts are.
use Rattle.std.proofs.Common.{◌≡◌, ◌≢◌, ℕ, ◌+◌, ◌≤◌, List, [], ◌∷◌, ◌++◌, length, Option, Some, None, refl, sym, ap, ◌∙◌, arith, suc}
use Rattle.std.specs.List.{AllByRecursion, cons_option, sum_by}
use Rattle.std.specs.Option.{IfSome}
use Rattle.std.proofs.lemmas.List.Sums.{sum_by-cons}
use Rattle.book_files.specs.Groups.{Group, unless_begun, parts_up_to, onto_groups, groups}

-- at an item of whatever kind, in front of the groups and the parts of the others
module _ {K P : Type 0} where
  onto-append : (b : Option K) (parts : List P) (others more : List (Group K P)) → onto_groups b parts (others ++ more) ≡ onto_groups b parts others ++ more
  onto-append (Some head) parts others more = refl
  onto-append None parts others more = refl

  unless-append : (b : Option K) (own : Option P) (parts others : List P) (groups : List (Group K P)) (more : List P) → onto_groups b parts groups ≡ []
      → (groups ≡ [] → others ≡ parts ++ more) → unless_begun b own others ≡ unless_begun b own parts ++ more
  unless-append (Some head) own parts others groups more none same = cc
  unless-append None (Some p) parts others groups more none same = ap (λ ps. p ∷ ps) (same none)
  unless-append None None parts others groups more none same = same none

  unless-same : (b : Option K) (own : Option P) (parts others : List P) (groups : List (Group K P)) → onto_groups b parts groups ≢ []
      → (groups ≢ [] → others ≡ parts) → unless_begun b own others ≡ unless_begun b own parts
  unless-same (Some head) own parts others groups some same = refl
  unless-same None own parts others groups some same = ap (cons_option own) (same some)

  -- the last group grows, which is the one that begins here where none begins behind
  onto-last : (b : Option K) (parts more_parts : List P) (others more : List (Group K P)) (p : P) (front : List (Group K P)) (last : Group K P)
      → onto_groups b parts others ≡ front ++ last ∷ [] → (others ≡ [] → (more ≡ []) × (more_parts ≡ parts ++ p ∷ [])) → (others ≢ [] → more_parts ≡ parts)
      → ((front : List (Group K P)) (last : Group K P) → others ≡ front ++ last ∷ [] → more ≡ front ++ record { head = last.head; parts = last.parts ++ p ∷ [] } ∷ [])
      → onto_groups b more_parts more ≡ front ++ record { head = last.head; parts = last.parts ++ p ∷ [] } ∷ []
  onto-last None parts more_parts others more p front last is none some grows = grows front last is
  onto-last (Some head) parts more_parts others more p [] last is none some grows =
      let group : List P → Group K P = λ ps. record { head = head; parts = ps } in
      let empty : others ≡ [] = cc in
      let first : last ≡ group parts = cc in
      rw (first, (none empty).0, (none empty).1) refl
  onto-last (Some head) parts more_parts others more p (first ∷ front) last is none some grows =
      let group : List P → Group K P = λ ps. record { head = head; parts = ps } in
      let rest : others ≡ front ++ last ∷ [] = cc in
      let same : first ≡ group parts = cc in
      let kept : more_parts ≡ parts = some (λ empty. not_empty front last (sym rest ∙ empty)) in
      rw (same, kept, grows front last rest) refl where
        not_empty : (front : List (Group K P)) (last : Group K P) → front ++ last ∷ [] ≡ [] → ⊥
        not_empty [] last e = cc
        not_empty (g ∷ gs) last e = cc

  all-unless : (Q : P → Type 0) (b : Option K) (own : Option P) (parts : List P) → IfSome own Q → AllByRecursion Q parts → AllByRecursion Q (unless_begun b own parts)
  all-unless Q (Some head) own parts here all = tt
  all-unless Q None (Some p) parts here all = (here, all)
  all-unless Q None None parts here all = all

  all-onto : (Q : P → Type 0) (b : Option K) (parts : List P) (others : List (Group K P)) → AllByRecursion Q parts → AllByRecursion (λ group. AllByRecursion Q group.parts) others
      → AllByRecursion (λ group. AllByRecursion Q group.parts) (onto_groups b parts others)
  all-onto Q (Some head) parts others here all = (here, all)
  all-onto Q None parts others here all = all

  size-onto : (b : Option K) (own : Option P) (parts : List P) (others : List (Group K P)) (n : ℕ) → length parts + (length others + sum_by (λ group. length group.parts) others) ≤ n
      → length (unless_begun b own parts) + (length (onto_groups b parts others) + sum_by (λ group. length group.parts) (onto_groups b parts others)) ≤ suc n
  size-onto (Some head) own parts others n few = let group : Group K P = record { head = head; parts = parts } in omega (arith, sum_by-cons (λ (g : Group K P). length g.parts) group others)
  size-onto None (Some p) parts others n few = omega arith
  size-onto None None parts others n few = omega arith

module _ {I K P : Type 0} (begun : I → Option K) (part : I → Option P) where
  -- where a group begins, what stands behind is no part of what stands before it
  parts-closed : (items more : List I) → groups begun part items ≢ [] → parts_up_to begun part (items ++ more) ≡ parts_up_to begun part items
  parts-closed [] more some = absurd (some refl)
  parts-closed (item ∷ items) more some = unless-same (begun item) (part item) (parts_up_to begun part items) (parts_up_to begun part (items ++ more)) (groups begun part items) some (parts-closed items more)

  parts-begun : (items : List I) (item : I) (head : K) → begun item ≡ Some head → parts_up_to begun part (items ++ item ∷ []) ≡ parts_up_to begun part items
  parts-begun [] item head is = ap (λ b. unless_begun b (part item) []) is
  parts-begun (first ∷ items) item head is = ap (unless_begun (begun first) (part first)) (parts-begun items item head is)

  parts-open : (items : List I) (item : I) (p : P) → begun item ≡ None → part item ≡ Some p → groups begun part items ≡ [] → parts_up_to begun part (items ++ item ∷ []) ≡ parts_up_to begun part items ++ p ∷ []
  parts-open [] item p none own empty = ap (λ b. unless_begun b (part item) []) none ∙ ap (λ o. cons_option o []) own
  parts-open (first ∷ items) item p none own empty =
      unless-append (begun first) (part first) (parts_up_to begun part items) (parts_up_to begun part (items ++ item ∷ [])) (groups begun part items) (p ∷ []) empty (parts-open items item p none own)

  parts-other : (items : List I) (item : I) → begun item ≡ None → part item ≡ None → parts_up_to begun part (items ++ item ∷ []) ≡ parts_up_to begun part items
  parts-other [] item none own = ap (λ b. unless_begun b (part item) []) none ∙ ap (λ o. cons_option o []) own
  parts-other (first ∷ items) item none own = ap (unless_begun (begun first) (part first)) (parts-other items item none own)

  -- an item that begins a group adds a group without parts
  pub groups-begun : (items : List I) (item : I) (head : K) → begun item ≡ Some head → groups begun part (items ++ item ∷ []) ≡ groups begun part items ++ record { head = head; parts = [] } ∷ []
  groups-begun [] item head is = ap (λ b. onto_groups b [] []) is
  groups-begun (first ∷ items) item head is = ap (onto_groups (begun first) (parts_up_to begun part (items ++ item ∷ []))) (groups-begun items item head is)
      ∙ (ap (λ ps. onto_groups (begun first) ps (groups begun part items ++ record { head = head; parts = [] } ∷ [])) (parts-begun items item head is)
      ∙ onto-append (begun first) (parts_up_to begun part items) (groups begun part items) (record { head = head; parts = [] } ∷ []))

  -- an item that begins no group adds none
  groups-none : (items : List I) (item : I) → begun item ≡ None → groups begun part items ≡ [] → groups begun part (items ++ item ∷ []) ≡ []
  groups-none [] item none empty = ap (λ b. onto_groups b [] []) none
  groups-none (first ∷ items) item none empty = nothing (begun first) (parts_up_to begun part items) (parts_up_to begun part (items ++ item ∷ [])) (groups begun part items) (groups begun part (items ++ item ∷ [])) empty (groups-none items item none) where
    nothing : (b : Option K) (parts more_parts : List P) (others more : List (Group K P)) → onto_groups b parts others ≡ [] → (others ≡ [] → more ≡ []) → onto_groups b more_parts more ≡ []
    nothing (Some head) parts more_parts others more empty same = cc
    nothing None parts more_parts others more empty same = same empty

  -- a part goes to the last group
  pub groups-part : (items : List I) (item : I) (p : P) (front : List (Group K P)) (last : Group K P) → begun item ≡ None → part item ≡ Some p → groups begun part items ≡ front ++ last ∷ []
      → groups begun part (items ++ item ∷ []) ≡ front ++ record { head = last.head; parts = last.parts ++ p ∷ [] } ∷ []
  groups-part [] item p [] last none own is = cc
  groups-part [] item p (g ∷ front) last none own is = cc
  groups-part (first ∷ items) item p front last none own is = onto-last (begun first) (parts_up_to begun part items) (parts_up_to begun part (items ++ item ∷ [])) (groups begun part items) (groups begun part (items ++ item ∷ [])) p front last is
      (λ empty. (groups-none items item none empty, parts-open items item p none own empty)) (parts-closed items (item ∷ []))
      (λ front last. groups-part items item p front last none own)

  -- another item changes nothing
  pub groups-other : (items : List I) (item : I) → begun item ≡ None → part item ≡ None → groups begun part (items ++ item ∷ []) ≡ groups begun part items
  groups-other [] item none own = ap (λ b. onto_groups b [] []) none
  groups-other (first ∷ items) item none own = ap (λ ps. onto_groups (begun first) ps (groups begun part (items ++ item ∷ []))) (parts-other items item none own)
      ∙ ap (onto_groups (begun first) (parts_up_to begun part items)) (groups-other items item none own)

  all-parts : (Q : P → Type 0) (items : List I) → AllByRecursion (λ item. IfSome (part item) Q) items → AllByRecursion Q (parts_up_to begun part items)
  all-parts Q [] all = tt
  all-parts Q (item ∷ items) all = all-unless Q (begun item) (part item) (parts_up_to begun part items) all.0 (all-parts Q items all.1)

  -- what each part has among the items, each part of each group has
  pub all-groups : (Q : P → Type 0) (items : List I) → AllByRecursion (λ item. IfSome (part item) Q) items → AllByRecursion (λ group. AllByRecursion Q group.parts) (groups begun part items)
  all-groups Q [] all = tt
  all-groups Q (item ∷ items) all = all-onto Q (begun item) (parts_up_to begun part items) (groups begun part items) (all-parts Q items all.1) (all-groups Q items all.1)

  groups-size : (items : List I) → length (parts_up_to begun part items) + (length (groups begun part items) + sum_by (λ group. length group.parts) (groups begun part items)) ≤ length items
  groups-size [] = omega arith
  groups-size (item ∷ items) = size-onto (begun item) (part item) (parts_up_to begun part items) (groups begun part items) (length items) (groups-size items)

  -- the groups and their parts are no more than the items
  pub groups-few : (items : List I) → length (groups begun part items) + sum_by (λ group. length group.parts) (groups begun part items) ≤ length items
  groups-few items = omega (arith, groups-size items)
