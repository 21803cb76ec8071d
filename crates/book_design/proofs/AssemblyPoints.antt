-- The points of nodes, one node at a time.
use Rattle.std.proofs.Common.{◌≡◌, ℕ, ◌+◌, ◌-◌, ◌<◌, ◌≤◌, Bool, true, false, not, cond, List, [], ◌∷◌, ◌++◌, length, get_or, refl, sym, ap, ◌∙◌, subst, ⊎_elim, arith, length-append, zero, suc, ℤ, pos, negsuc, neg_ℤ, ◌^◌, ◌≤ℤ◌, w64, to_z, of_z}
use Rattle.std.specs.Prelude.{Option, Some, None}
use Rattle.std.specs.List.{count_by, AllByRecursion}
use Rattle.std.proofs.lemmas.Bool.{cases_lt, cases_eq}
use Rattle.std.proofs.lemmas.List.{get_or_append_left, get_or_push, take_all, get_or-map, length-map}
use Rattle.std.proofs.lemmas.Grind.{get_or_default_zero}
use Rattle.std.proofs.lemmas.Int.{ints, to_z-of_z}
use mir.Val.{hbits}
use lib.Signed.{mag}
use Rattle.book_files.specs.Ranges.{IsInRange}
use Rattle.book_design.specs.WellFormed.{IsGoodNode}
use Rattle.std.proofs.lemmas.List.Sums.{count_by_more_no, count_by_more_yes}
use Rattle.book_design.specs.declared.parts.Node.{Node}
use Rattle.book_files.specs.declared.orient.Orient.TheVariants.{N}
use Rattle.book_design.specs.Values.{NodeValue, node_value, node_values}
use Rattle.book_design.specs.Points.{is_movable, node_value_at, movable_before, IsNodeOf}
use Rattle.book_design.specs.Forms.Assembly.{ArePoints, point_number}

-- the node that a read past the end gives
abbrev pub no_record : Node
no_record = record { name = record { 0 = record { ref_ptr = (0, 0); now = [] } }; width = pos 0; height = pos 0; x = pos 0; y = pos 0; orient = N; fixed = false; overlap = false }

before_more : (nodes : List NodeValue) (i : ℕ) (m : Option ℕ) (numbers new : List (Option ℕ)) → length numbers ≡ i → m ≡ point_number nodes i → new ≡ numbers ++ m ∷ []
    → ((k : ℕ) → k < i → get_or numbers k None ≡ point_number nodes k) → (k : ℕ) → k < i + 1 → get_or new k None ≡ point_number nodes k
before_more nodes i m numbers new len here e h k below = ⊎_elim
    (λ (same : k ≡ i). let at : length numbers ≡ k = omega arith in ap (λ (xs : List (Option ℕ)). get_or xs k None) e ∙ get_or_push numbers m None k at ∙ here ∙ ap (point_number nodes) (sym same))
    (λ apart. let within : k < length numbers = omega arith in ap (λ (xs : List (Option ℕ)). get_or xs k None) e ∙ get_or_append_left numbers (m ∷ []) None k within ∙ h k (omega arith))
    (cases_eq k i)

one_longer : (numbers new : List (Option ℕ)) (m : Option ℕ) (i : ℕ) → length numbers ≡ i → new ≡ numbers ++ m ∷ [] → length new ≡ i + 1
one_longer numbers new m i len e = ap length e ∙ length-append numbers (m ∷ []) ∙ ap (λ n. n + 1) len

-- the next node is fixed
pub points_fixed : (nodes : List NodeValue) (i : ℕ) (movable : List ℕ) (numbers new : List (Option ℕ)) → i < length nodes → (node_value_at nodes i).fixed ≡ true
    → new ≡ numbers ++ None ∷ [] → ArePoints nodes i movable numbers → ArePoints nodes (i + 1) movable new
points_fixed nodes i movable numbers new there fixed e h = record {
  points = h.points ∙ sym (count_by_more_no is_movable nodes i _ there (ap not fixed));
  node = h.node;
  nodes_so_far = one_longer numbers new None i h.nodes_so_far e;
  before = before_more nodes i None numbers new h.nodes_so_far (sym (ap (λ b. cond b None (Some (movable_before nodes i))) fixed)) e h.before;
}

node_more : (nodes : List NodeValue) (i : ℕ) (movable more : List ℕ) (numbers : List (Option ℕ)) → i < length nodes → is_movable (node_value_at nodes i) ≡ true → more ≡ movable ++ i ∷ [] → ArePoints nodes i movable numbers → (p : ℕ) → p < length more → IsNodeOf nodes p (get_or more p 0)
node_more nodes i movable more numbers there moves f h p below =
    let longer : length more ≡ length movable + 1 = ap length f ∙ length-append movable (i ∷ []) in
    ⊎_elim
    (λ (same : p ≡ length movable).
    let here : get_or more p 0 ≡ i = ap (λ (xs : List ℕ). get_or xs p 0) f ∙ get_or_push movable i 0 p (sym same) in
    let is : IsNodeOf nodes p i = record { there = there; movable = moves; number = sym h.points ∙ sym same } in
    subst (IsNodeOf nodes p) (sym here) is)
    (λ apart.
    let within : p < length movable = omega arith in
    let here : get_or more p 0 ≡ get_or movable p 0 = ap (λ (xs : List ℕ). get_or xs p 0) f ∙ get_or_append_left movable (i ∷ []) 0 p within in
    subst (IsNodeOf nodes p) (sym here) (h.node p within))
    (cases_eq p (length movable))

-- the next node is movable
pub points_movable : (nodes : List NodeValue) (i : ℕ) (movable more : List ℕ) (numbers new : List (Option ℕ)) → i < length nodes → (node_value_at nodes i).fixed ≡ false
    → new ≡ numbers ++ Some (length movable) ∷ [] → more ≡ movable ++ i ∷ [] → ArePoints nodes i movable numbers → ArePoints nodes (i + 1) more new
points_movable nodes i movable more numbers new there moves e f h = record {
  points = ap length f ∙ length-append movable (i ∷ []) ∙ ap (λ n. n + 1) h.points ∙ sym (count_by_more_yes is_movable nodes i _ there (ap not moves));
  node = node_more nodes i movable more numbers there (ap not moves) f h;
  nodes_so_far = one_longer numbers new (Some (length movable)) i h.nodes_so_far e;
  before = before_more nodes i (Some (length movable)) numbers new h.nodes_so_far
      (ap (λ n. Some n) h.points ∙ sym (ap (λ b. cond b None (Some (movable_before nodes i))) moves)) e h.before;
}

-- all nodes are seen
pub points_whole : (nodes : List NodeValue) (i : ℕ) (movable : List ℕ) (numbers : List (Option ℕ)) → length nodes ≤ i → ArePoints nodes i movable numbers → length movable ≡ count_by is_movable nodes
points_whole nodes i movable numbers all h = h.points ∙ ap (count_by is_movable) (take_all i nodes all)

step : (nodes : List NodeValue) (j : ℕ) → j < length nodes → movable_before nodes j ≤ movable_before nodes (j + 1)
step nodes j there = by (is_movable (node_value_at nodes j)) refl where
  by : (b : Bool) → is_movable (node_value_at nodes j) ≡ b → movable_before nodes j ≤ movable_before nodes (j + 1)
  by true e = let t = count_by_more_yes is_movable nodes j _ there e in omega arith
  by false e = let t = count_by_more_no is_movable nodes j _ there e in omega arith

grows : (nodes : List NodeValue) (i k m : ℕ) → m ≡ i + k → m ≤ length nodes → movable_before nodes i ≤ movable_before nodes m
grows nodes i zero m e h = let same : m ≡ i = omega arith in let t = ap (movable_before nodes) same in omega arith
grows nodes i (suc k) m e h =
    let same : m ≡ (i + k) + 1 = omega arith in
    let t = ap (movable_before nodes) same in
    let before : i + k ≤ length nodes = omega arith in
    let there : i + k < length nodes = omega arith in
    let one = grows nodes i k (i + k) refl before in
    let two = step nodes (i + k) there in
    omega arith

less : (nodes : List NodeValue) (p i j : ℕ) → IsNodeOf nodes p i → IsNodeOf nodes p j → i < j → ⊥
less nodes p i j a b l =
    let next = count_by_more_yes is_movable nodes i _ a.there a.movable in
    let there : j < length nodes = b.there in
    let more : movable_before nodes (i + 1) ≤ movable_before nodes j = grows nodes (i + 1) (j - (i + 1)) j (omega arith) (omega arith) in
    let one : movable_before nodes i ≡ p = a.number in
    let two : movable_before nodes j ≡ p = b.number in
    absurd (omega arith)

-- a point is one node
pub one_node : (nodes : List NodeValue) (p i j : ℕ) → IsNodeOf nodes p i → IsNodeOf nodes p j → i ≡ j
one_node nodes p i j a b = ⊎_elim (λ l. absurd (less nodes p i j a b l)) (λ ge. ⊎_elim (λ l. absurd (less nodes p j i b a l)) (λ le. omega arith) (cases_lt j i)) (cases_lt i j)

pub all_at : {X : Type 0} (P : X → Type 0) (xs : List X) (i : ℕ) (d : X) → AllByRecursion P xs → i < length xs → P (get_or xs i d)
all_at P [] i d h l = absurd (omega arith)
all_at P (x ∷ xs) zero d h l = h.0
all_at P (x ∷ xs) (suc i) d h l = all_at P xs i d h.1 (omega arith)

pub value_of_node : (nodes : List Node) (i : ℕ) (d : Node) → i < length nodes → node_value_at (node_values nodes) i ≡ node_value (get_or nodes i d)
value_of_node nodes i d there = get_or-map node_value nodes i d _ there

pub node_count : (nodes : List Node) → length (node_values nodes) ≡ length nodes
node_count nodes = length-map nodes node_value

-- the node that the lists give for a point
pub this_node : (items : List Node) (movable : List ℕ) (numbers : List (Option ℕ)) (point k : ℕ) → ArePoints (node_values items) (length (node_values items)) movable numbers → point < count_by is_movable (node_values items) → k ≡ get_or movable point k → IsNodeOf (node_values items) point k
this_node items movable numbers point k h below e =
    let whole = points_whole (node_values items) (length (node_values items)) movable numbers (omega arith) h in
    let within : point < length movable = omega arith in
    let same : k ≡ get_or movable point 0 = e ∙ get_or_default_zero movable point k within in
    subst (IsNodeOf (node_values items) point) (sym same) (h.node point within)

pub this_value : (items : List Node) (k : ℕ) (n : Node) → k < length (node_values items) → n ≡ get_or items k n → node_value_at (node_values items) k ≡ node_value n
this_value items k n there e = let same = node_count items in let within : k < length items = omega arith in value_of_node items k n within ∙ ap node_value (sym e)

pub good_node : (items : List Node) (height : ℤ) (k : ℕ) (n : Node) → AllByRecursion (IsGoodNode height) (node_values items) → k < length (node_values items) → n ≡ get_or items k n → IsGoodNode height (node_value n)
good_node items height k n all there e = let P : NodeValue → Type 0 = λ v. IsGoodNode height v in subst P (this_value items k n there e) (all_at P (node_values items) k _ all there)

pub kept_whole : (z : ℤ) → IsInRange z → to_z w64 (of_z w64 z) ≡ z
kept_whole z h = to_z-of_z w64 z (record { sfits = small z h.low h.high }) where
  small : (z : ℤ) → neg_ℤ (pos (10 ^ 12)) ≤ℤ z → z ≤ℤ pos (10 ^ 12) → mag z < 2 ^ hbits w64
  small (pos n) low high = omega (arith, ints)
  small (negsuc n) low high = omega (arith, ints)
