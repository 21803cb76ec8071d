-- What holds of the nodes, nets and subrows of files without a fault.
use Rattle.std.proofs.Common.{◌≡◌, ◌≢◌, ℕ, ◌+◌, ◌*◌, ◌/◌, ◌%◌, ◌<◌, ◌≤◌, Bool, true, false, cond, List, [], ◌∷◌, ◌++◌, length, map, get_or, Option, Some, None, refl, sym, ap, ◌∙◌, subst, ⊎_elim, arith, suc, ℤ, pos, negsuc, ◌≤ℤ◌}
use Rattle.std.specs.Prelude.{unwrap_or, ◌||◌, nat_le, nat_abs, IfSome, flat_map, ◌==◌}
use Rattle.std.specs.List.{AllByRecursion, filter, sum_by}
use Rattle.std.specs.Str.{bytes_eq}
use Rattle.std.proofs.lemmas.Bool.{cases_lt}
use Rattle.std.proofs.lemmas.Slice.Eq.{bytes_eq-Decides}
use Rattle.std.proofs.lemmas.List.{get_or-map, length-map}
use Rattle.std.proofs.lemmas.List.Sums.{fails_before_first, sum_by-append}
use Rattle.std.proofs.lemmas.List.Concat.{length-flat_map}
use Rattle.std.proofs.lemmas.Int.{ints, by_lt_z}
use Rattle.book_files.specs.Words.{last_of}
use Rattle.book_files.specs.Entries.{NodeEntry, PlaceEntry, PinEntry, NetEntry}
use Rattle.book_files.specs.Ranges.{IsInRange, IsMarkedWell, IsNodeInRange, IsPlaceInRange, IsPinInRange, IsNetInRange}
use Rattle.book_design.specs.declared.rules.TheConstants.{MOST_PINS, MOST_NET_WEIGHT}
use Rattle.book_design.specs.Records.{Records, node_at, pin_lines, row_at, last_place}
use Rattle.book_design.specs.Values.{NodeValue, NetValue}
use Rattle.book_design.specs.Joined.{joined_node, placed, joined_pin, number_of, weight_of, joined_net}
use Rattle.book_files.specs.declared.orient.Orient.TheVariants.{N}
use Rattle.book_design.specs.Points.{node_value_at}
use Rattle.book_design.specs.WellFormed.{IsGoodNode, IsGoodPin, IsGoodNet}
use Rattle.book_design.specs.Faults.{IsUnknown, IsWholeWeight}
use Rattle.book_design.specs.Forms.Parts.{whole_weight, pinned_net}
use Rattle.book_design.specs.Forms.Sources.{AreInRange}
use Rattle.book_design.specs.Forms.Steps.{IsSound}
use Rattle.book_design.proofs.Ranks.{distinct_of, low_of, pin_count_of, pins_of, weights_of}
use Rattle.book_design.proofs.AssemblyPoints.{all_at}

pub all_from : {X : Type 0} (P : X → Type 0) (xs : List X) (d : X) → ((i : ℕ) → i < length xs → P (get_or xs i d)) → AllByRecursion P xs
all_from P [] d h = tt
all_from P (x ∷ xs) d h = (h 0 (omega arith), all_from P xs d (λ i l. h (suc i) (omega arith)))

last_all : {X : Type 0} (P : X → Type 0) (xs : List X) → AllByRecursion P xs → IfSome (last_of xs) P
last_all P [] h = tt
last_all P (x ∷ []) h = h.0
last_all P (x ∷ y ∷ rest) h = last_all P (y ∷ rest) h.1

filter_all : {X : Type 0} (P : X → Type 0) (p : X → Bool) (xs : List X) → AllByRecursion P xs → AllByRecursion P (filter p xs)
filter_all P p [] h = tt
filter_all P p (x ∷ xs) h = by (p x) (filter_all P p xs h.1) where
  by : (b : Bool) → AllByRecursion P (filter p xs) → AllByRecursion P (cond b (x ∷ filter p xs) (filter p xs))
  by true rest = (h.0, rest)
  by false rest = rest

origin : IsInRange (pos 0)
origin = record { low = omega (arith, ints); high = omega (arith, ints) }

-- where each of two lines allows overlap of a fixed node alone, so do both
both_marked : (fixed overlap fixed' overlap' : Bool) → IsMarkedWell fixed overlap → IsMarkedWell fixed' overlap' → IsMarkedWell (fixed || fixed') (overlap || overlap')
both_marked true overlap fixed' overlap' marks marks' = λ _. refl
both_marked false true fixed' overlap' marks marks' = let e = marks refl in cc
both_marked false false fixed' overlap' marks marks' = marks'

placed_good : (height : ℤ) (node : NodeEntry) (place : Option PlaceEntry) → IsNodeInRange node → IfSome place IsPlaceInRange → ((placed node place).fixed ≡ false → node.height ≤ℤ height) → IsGoodNode height (placed node place)
placed_good height node None r h low = record { name = r.name; width = r.width; height = r.height; width_sign = r.width_sign; height_sign = r.height_sign; x = origin; y = origin; low = low; marks = r.marks }
placed_good height node (Some place) r h low = record {
  name = r.name;
  width = r.width;
  height = r.height;
  width_sign = r.width_sign;
  height_sign = r.height_sign;
  x = h.x;
  y = h.y;
  low = low;
  marks = both_marked node.fixed node.overlap place.fixed place.overlap r.marks h.marks;
}

placed_name : (node : NodeEntry) (place : Option PlaceEntry) → (placed node place).name ≡ node.name
placed_name node None = refl
placed_name node (Some place) = refl

pub node_is : (records : Records) (i : ℕ) (d : NodeValue) → i < length records.nodes → get_or (map (joined_node records) records.nodes) i d ≡ joined_node records (node_at records i)
node_is records i d there = get_or-map (joined_node records) records.nodes i _ d there

abbrev no_value : NodeValue
no_value = record { name = []; width = pos 0; height = pos 0; x = pos 0; y = pos 0; orient = N; fixed = true; overlap = false }

named : (records : Records) (k : ℕ) → k < length records.nodes → (node_value_at (map (joined_node records) records.nodes) k).name ≡ (node_at records k).name
named records k there = ap (λ (v : NodeValue). v.name) (node_is records k no_value there) ∙ placed_name (node_at records k) (last_place records (node_at records k).name)

pub good_nodes : (records : Records) → AreInRange records → IsSound records → AllByRecursion (IsGoodNode (row_at records 0).height) (map (joined_node records) records.nodes)
good_nodes records ranges free = all_from (IsGoodNode height) (map (joined_node records) records.nodes) no_value (λ i l.
    let count = length-map records.nodes (joined_node records) in
    let there : i < length records.nodes = omega arith in
    let P : NodeValue → Type 0 = λ v. IsGoodNode height v in
    let node = node_at records i in
    subst P (sym (node_is records i no_value there)) (placed_good height node (last_place records node.name)
    (all_at IsNodeInRange records.nodes i _ ranges.nodes there)
    (last_all IsPlaceInRange (filter (λ place. bytes_eq place.name node.name) records.places) (filter_all IsPlaceInRange (λ place. bytes_eq place.name node.name) records.places ranges.places))
    (λ movable. by_lt_z height node.height (λ t. absurd (low_of records free.free i (record { there = there; movable = movable; higher = t }))) (λ g. g)))) where
      height : ℤ
      height = (row_at records 0).height

pub distinct_nodes : (records : Records) → IsSound records → (i j : ℕ) → i < j → j < length (map (joined_node records) records.nodes) → (node_value_at (map (joined_node records) records.nodes) i).name ≢ (node_value_at (map (joined_node records) records.nodes) j).name
distinct_nodes records free i j less below same =
    let count = length-map records.nodes (joined_node records) in
    let there : j < length records.nodes = omega arith in
    let before : i < length records.nodes = omega arith in
    distinct_of records free.free j (record { there = there; earlier = i; before = less; same = sym (named records i before) ∙ same ∙ named records j there })

-- the weights
bounded : (b c : Bool) (k : ℕ) → nat_le k MOST_NET_WEIGHT ≡ c → unwrap_or (cond b (cond c (Some k) None) None) 0 ≤ MOST_NET_WEIGHT
bounded true true k e = grind arith
bounded true false k e = omega arith
bounded false c k e = omega arith

weight_bound : (w : ℤ) → unwrap_or (whole_weight w) 0 ≤ MOST_NET_WEIGHT
weight_bound (pos n) = bounded (n % 1000000 == 0) (nat_le (n / 1000000) MOST_NET_WEIGHT) (n / 1000000) refl
weight_bound (negsuc n) = omega arith

-- a pin has the number of a node
known : (records : Records) (name : List ℕ) → (IsUnknown records name → ⊥) → number_of records name < length records.nodes
known records name h = ⊎_elim (λ l. l) (λ past. absurd (h (λ i there same.
    let no : bytes_eq (node_at records i).name name ≡ false = fails_before_first (λ node. bytes_eq node.name name) records.nodes i _ (omega arith) in
    let yes : bytes_eq (node_at records i).name name ≡ true = (bytes_eq-Decides (node_at records i).name name).1 same in
    absurd cc))) (cases_lt (number_of records name) (length records.nodes))

first_part : {X : Type 0} (P : X → Type 0) (xs ys : List X) → AllByRecursion P (xs ++ ys) → AllByRecursion P xs × AllByRecursion P ys
first_part P [] ys h = (tt, h)
first_part P (x ∷ xs) ys h = let rest = first_part P xs ys h.1 in ((h.0, rest.0), rest.1)

split : {X A : Type 0} (P : A → Type 0) (f : X → List A) (xs : List X) → AllByRecursion P (flat_map f xs) → AllByRecursion (λ x. AllByRecursion P (f x)) xs
split P f [] h = tt
split P f (x ∷ xs) h = let parts = first_part P (f x) (flat_map f xs) h in (parts.0, split P f xs parts.1)

good_pins : (records : Records) (pins : List PinEntry) → AllByRecursion IsPinInRange pins → AllByRecursion (λ (pin : PinEntry). IsUnknown records pin.node → ⊥) pins → AllByRecursion (IsGoodPin (length records.nodes)) (map (joined_pin records) pins)
good_pins records [] h k = tt
good_pins records (pin ∷ pins) h k = (record { there = known records pin.node k.0; dx = h.0.dx; dy = h.0.dy }, good_pins records pins h.1 k.1)

good_each : (records : Records) (nets : List NetEntry) → AllByRecursion IsNetInRange nets → AllByRecursion (λ (net : NetEntry). AllByRecursion (λ (pin : PinEntry). IsUnknown records pin.node → ⊥) net.pins) nets → AllByRecursion (IsGoodNet (length records.nodes)) (map (pinned_net records) nets)
good_each records [] h k = tt
good_each records (net ∷ nets) h k = (record { weight = weight_bound (weight_of records net); pins = good_pins records net.pins h.0 k.0 }, good_each records nets h.1 k.1)

pub good_nets : (records : Records) → AreInRange records → IsSound records → AllByRecursion (IsGoodNet (length records.nodes)) (map (pinned_net records) records.nets)
good_nets records ranges free = good_each records records.nets ranges.nets (split (λ (pin : PinEntry). IsUnknown records pin.node → ⊥) (λ (net : NetEntry). net.pins) records.nets
    (all_from (λ (pin : PinEntry). IsUnknown records pin.node → ⊥) (pin_lines records) _ (λ i l unknown. pins_of records free.free i (l, unknown))))

sum_cons : {X : Type 0} (f : X → ℕ) (x : X) (xs : List X) → sum_by f (x ∷ xs) ≡ f x + sum_by f xs
sum_cons f x xs = sum_by-append f (x ∷ []) xs ∙ ap (λ n. n + sum_by f xs) (grind arith)

pins_same : (records : Records) (nets : List NetEntry) → sum_by (λ (net : NetValue). length net.pins) (map (pinned_net records) nets) ≡ sum_by (λ (net : NetEntry). length net.pins) nets
pins_same records [] = refl
pins_same records (net ∷ nets) = let one = length-map net.pins (joined_pin records) in let more = pins_same records nets in let two = sum_cons (λ (net : NetValue). length net.pins) (pinned_net records net) (map (pinned_net records) nets) in let three = sum_cons (λ (net : NetEntry). length net.pins) net nets in omega arith

pub few_pins : (records : Records) → IsSound records → sum_by (λ (net : NetValue). length net.pins) (map (pinned_net records) records.nets) ≤ MOST_PINS
few_pins records free =
    let few = pin_count_of records free.free in
    let same = pins_same records records.nets in
    let flat = length-flat_map (λ (net : NetEntry). net.pins) records.nets in
    omega arith

-- the weight of a net without a fault
exact_by : (n k : ℕ) (b c : Bool) → (n % 1000000 == 0) ≡ b → nat_le (n / 1000000) MOST_NET_WEIGHT ≡ c → ((IsWholeWeight (pos n) → ⊥) → ⊥) → unwrap_or (cond b (cond c (Some (n / 1000000)) None) None) 0 ≡ n / 1000000
exact_by n k true true e f h = refl
exact_by n k true false e f h = absurd (h (λ w. let same : n ≡ w.0 * 1000000 = ap nat_abs w.2 in let below = w.1 in let big : MOST_NET_WEIGHT < n / 1000000 = grind arith in absurd (omega arith)))
exact_by n k false c e f h = absurd (h (λ w. let same : n ≡ w.0 * 1000000 = ap nat_abs w.2 in let zero_rest : n % 1000000 ≡ 0 = omega arith in let no : (n % 1000000 ≡ 0) → ⊥ = grind arith in no zero_rest))

exact : (w : ℤ) → ((IsWholeWeight w → ⊥) → ⊥) → unwrap_or (whole_weight w) 0 ≡ nat_abs w / 1000000
exact (pos n) h = exact_by n 0 (n % 1000000 == 0) (nat_le (n / 1000000) MOST_NET_WEIGHT) refl refl h
exact (negsuc n) h = absurd (h (λ w. let e = w.2 in absurd (omega (arith, ints))))

net_same : (records : Records) (nets : List NetEntry) → AllByRecursion (λ (net : NetEntry). (IsWholeWeight (weight_of records net) → ⊥) → ⊥) nets → map (pinned_net records) nets ≡ map (joined_net records) nets
net_same records [] h = refl
net_same records (net ∷ nets) h = λ i. record { weight = exact (weight_of records net) h.0 i; pins = map (joined_pin records) net.pins } ∷ net_same records nets h.1 i

pub nets_same : (records : Records) → IsSound records → map (pinned_net records) records.nets ≡ map (joined_net records) records.nets
nets_same records free = net_same records records.nets (all_from (λ (net : NetEntry). (IsWholeWeight (weight_of records net) → ⊥) → ⊥) records.nets _ (λ i l bad. weights_of records free.free i (l, bad)))
