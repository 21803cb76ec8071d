-- The points of a network, with the movable nodes before the star points, and the solutions of its systems, whose entries are coordinates.
use Rattle.std.proofs.Common.{◌≡◌, ℕ, zero, suc, ◌+◌, ◌-◌, ◌/◌, ◌<◌, ◌≤◌, Bool, true, false, not, cond, get_or, List, [], ◌∷◌, ◌++◌, length, map, refl, sym, ◌∙◌, ap, subst, arith, length-append, zero-add, add-one}
use Rattle.std.specs.Prelude.{filter, pos, slice_index}
use Rattle.std.specs.List.{range_with_len, count_by}
use Rattle.std.proofs.lemmas.Bool.{lt-ltb, le-ltb}
use Rattle.std.proofs.lemmas.List.{get_or_push, get_or_append_left}
use Rattle.std.proofs.lemmas.List.FromFn.{filter_of_map_range_with_len_more, length-map-range_with_len, get_or-map-range_with_len}
use Rattle.std.proofs.lemmas.List.Sums.{count_by_more_yes, count_by_more_no}
use Rattle.std.proofs.Math.Nat.{mul-le-mul_left}
use Rattle.std.proofs.Math.Seq.{take-length}
use Rattle.book_files.specs.declared.orient.Orient.TheVariants.{N}
use Rattle.book_design.specs.Values.{NodeValue, DesignValue}
use Rattle.book_design.specs.Points.{is_movable, node_value_at, movable_before, IsNodeOf}
use Rattle.net_model.specs.Values.{NetworkValue}
use Rattle.net_model.specs.Network.{IsNetwork, point_count, point_value, network_of}
use Rattle.net_model.specs.Numbered.{point_nodes, node_of}
use Rattle.net_model.specs.Star.{star_nets}
use Rattle.area_cut.specs.declared.axis.Axis.{Axis}
use Rattle.area_cut.specs.declared.axis.Axis.TheVariants.{X, Y}
use Rattle.area_cut.specs.declared.region.Region.{Region}
use Rattle.level_run.specs.declared.rounds.Rounds.{Rounds}
use Rattle.level_run.specs.Rounds.{IsInLimits, last_round, rounds_in}
use Rattle.level_run.specs.declared.level.Solve.{Solve}
use Rattle.level_run.specs.declared.level.Level.{Level}
use Rattle.level_run.specs.LevelSystem.{level_point, level_system}
use Rattle.level_run.specs.Levels.{IsSolve, IsLevel, IsLevels, IsNext, no_level, level_at, solve_on, mids_before, system_of}
use Rattle.pad_reach.specs.Reaches.{IsFirstUnanchored}
use Rattle.net_model.specs.Webs.{joints_of}
use Rattle.relax_system.specs.declared.points.Point.{Point}
use Rattle.relax_system.specs.declared.valid.TheConstants.{MOST_COORDINATE}
use Rattle.relax_system.specs.System.{IsValid}
use Rattle.proud_top.specs.Lines.{node_subject, net_subject}
use Rattle.proud_top.specs.Named.{point_subject}
use Rattle.proud_top.specs.Forms.Over.{IsOver, IsLastOver}

-- what stands past the end
abbrev no_node : NodeValue
no_node = record { name = []; width = pos 0; height = pos 0; x = pos 0; y = pos 0; orient = N; fixed = true; overlap = false }

-- the movable nodes among the first n
abbrev movable_up_to : List NodeValue → ℕ → List ℕ
movable_up_to nodes n = filter (λ i. is_movable (node_value_at nodes i)) (range_with_len 0 n)

map_same : (xs : List ℕ) → map (λ x. x) xs ≡ xs
map_same [] = refl
map_same (x ∷ xs) = ap (λ ys. x ∷ ys) (map_same xs)

movable_more : (nodes : List NodeValue) (n : ℕ) → movable_up_to nodes (n + 1) ≡ movable_up_to nodes n ++ cond (is_movable (node_value_at nodes n)) (n ∷ []) []
movable_more nodes n =
    let p : ℕ → Bool = λ i. is_movable (node_value_at nodes i) in
    let e = filter_of_map_range_with_len_more p (λ i. i) 0 n n (zero-add n) in
    sym (ap (filter p) (map_same (range_with_len 0 (n + 1)))) ∙ e ∙ ap (λ xs. filter p xs ++ cond (p n) (n ∷ []) []) (map_same (range_with_len 0 n))

-- as many as are counted
count_step : (nodes : List NodeValue) (n : ℕ) (b : Bool) → n < length nodes → is_movable (node_value_at nodes n) ≡ b → length (movable_up_to nodes n) ≡ movable_before nodes n
    → length (movable_up_to nodes (n + 1)) ≡ movable_before nodes (n + 1)
count_step nodes n true h e ih =
    let more = ap length (movable_more nodes n ∙ ap (λ b. movable_up_to nodes n ++ cond b (n ∷ []) []) e) in
    more ∙ length-append (movable_up_to nodes n) (n ∷ []) ∙ ap (λ k. k + 1) ih ∙ sym (count_by_more_yes is_movable nodes n no_node h e)
count_step nodes n false h e ih =
    let more = ap length (movable_more nodes n ∙ ap (λ b. movable_up_to nodes n ++ cond b (n ∷ []) []) e) in
    let none : length (movable_up_to nodes n ++ []) ≡ length (movable_up_to nodes n) = omega (arith, length-append (movable_up_to nodes n) []) in
    more ∙ none ∙ ih ∙ sym (count_by_more_no is_movable nodes n no_node h e)

count_movable : (nodes : List NodeValue) (n : ℕ) → n ≤ length nodes → length (movable_up_to nodes n) ≡ movable_before nodes n
count_movable nodes zero h = refl
count_movable nodes (suc n) h =
    let P : ℕ → Type 0 = λ k. length (movable_up_to nodes k) ≡ movable_before nodes k in
    subst P (add-one n) (count_step nodes n (is_movable (node_value_at nodes n)) (omega arith) refl (count_movable nodes n (omega arith)))

-- the points of a design
pub points_counted : (design : DesignValue) → length (point_nodes design) ≡ count_by is_movable design.nodes
points_counted design = count_movable design.nodes (length design.nodes) (omega arith) ∙ ap (count_by is_movable) (take-length design.nodes)

-- and of its network
network_counted : (design : DesignValue) (network : NetworkValue) → IsNetwork design network → length network.points ≡ point_count design
network_counted design network h =
    ap (λ (n : NetworkValue). length n.points) h.made ∙ length-map-range_with_len (point_value design) 0 (point_count design)

-- a half of two that are at most so much is at most so much
half_most : (a b m : ℕ) → a ≤ m → b ≤ m → (a + b) / 2 ≤ m
half_most a b m le le' = omega arith

-- a solve of a valid system has a mid for each point, which is a coordinate
solve_over : (points : List Point) (solve : Solve) → IsValid points → IsSolve points solve → IsOver (length points) solve
solve_over points solve valid h =
    let halves : ℕ → ℕ = λ i. (slice_index solve.lo i + slice_index solve.hi i) / 2 in
    record {
      all = omega (arith, ap length h.mid, length-map-range_with_len halves 0 (length solve.lo), h.lo.in_boxes.all);
      near = λ p there.
          let inside : p < length solve.lo = omega (arith, there, h.lo.in_boxes.all) in
          let mid : slice_index solve.mid p ≡ halves p = ap (λ (xs : List ℕ). slice_index xs p) h.mid ∙ get_or-map-range_with_len halves 0 (length solve.lo) p p 0 inside (zero-add p) in
          let limit = (valid.each p there).limit in
          let lo = h.lo.in_boxes.high p there in
          let hi = h.hi.in_boxes.high p there in
          let P : ℕ → Type 0 = λ m. m ≤ MOST_COORDINATE in
          subst P (sym mid) (half_most (slice_index solve.lo p) (slice_index solve.hi p) MOST_COORDINATE (omega (arith, lo, limit)) (omega (arith, hi, limit)));
    }

-- the mids on an axis
abbrev mids_on : Axis → List ℕ → List ℕ → List ℕ
mids_on X xs ys = xs
mids_on Y xs ys = ys

-- the solves of a round are those of its systems
solves_on : (axis : Axis) (network : NetworkValue) (over : List Region) (xs ys : List ℕ) (level : Level) → IsLevel network over xs ys level
    → IsSolve (level_system axis network level.regions (mids_on axis xs ys)) (solve_on axis level)
solves_on X network over xs ys level h =
    let P : List Region → Type 0 = λ regions. IsSolve (level_system X network regions xs) level.x in
    subst P (sym h.regions) h.x
solves_on Y network over xs ys level h =
    let P : List Region → Type 0 = λ regions. IsSolve (level_system Y network regions ys) level.y in
    subst P (sym h.regions) h.y

solves_at : (axis : Axis) (network : NetworkValue) (rounds : Rounds) (levels : List Level) → IsLevels network rounds levels → (k : ℕ) → k < rounds_in rounds
    → IsSolve (system_of axis network levels k) (solve_on axis (level_at levels k))
solves_at X network rounds levels h zero within = solves_on X network _ _ _ (level_at levels 0) (h.first no_level)
solves_at Y network rounds levels h zero within = solves_on Y network _ _ _ (level_at levels 0) (h.first no_level)
solves_at axis network rounds levels h (suc k) within =
    let more : k + 1 ≡ suc k = omega arith in
    let P : ℕ → Type 0 = λ j. IsNext network rounds.passes k (level_at levels k) (level_at levels j) in
    behind axis network rounds levels k (subst P more (h.next k no_level (omega arith))) where
      behind : (axis : Axis) (network : NetworkValue) (rounds : Rounds) (levels : List Level) (k : ℕ)
          → IsNext network rounds.passes k (level_at levels k) (level_at levels (suc k))
          → IsSolve (system_of axis network levels (suc k)) (solve_on axis (level_at levels (suc k)))
      behind X network rounds levels k next = solves_on X network _ _ _ (level_at levels (suc k)) next
      behind Y network rounds levels k next = solves_on Y network _ _ _ (level_at levels (suc k)) next

-- there is a last round
pub last_there : (rounds : Rounds) → IsInLimits rounds → last_round rounds < rounds_in rounds
last_there rounds limits = omega (arith, mul-le-mul_left (rounds.levels + 1) limits.some)

-- the last round is over the points of its network, where its systems are valid
pub last_over : (network : NetworkValue) (rounds : Rounds) (levels : List Level) → IsInLimits rounds → ((axis : Axis) → IsValid (system_of axis network levels (last_round rounds))) → IsLevels network rounds levels
    → IsLastOver (length network.points) (last_round rounds) levels
last_over network rounds levels limits valid h =
    let many = h.many in
    let last = last_there rounds limits in
    record { there = omega arith; over = record { x = on X; y = on Y } } where
      on : (axis : Axis) → IsOver (length network.points) (solve_on axis (level_at levels (last_round rounds)))
      on axis =
          let points = length-map-range_with_len (level_point axis network (level_at levels (last_round rounds)).regions (mids_before axis network levels (last_round rounds))) 0 (length network.points) in
          let P : ℕ → Type 0 = λ n. IsOver n (solve_on axis (level_at levels (last_round rounds))) in
          subst P points (solve_over (system_of axis network levels (last_round rounds)) (solve_on axis (level_at levels (last_round rounds))) (valid axis) (solves_at axis network rounds levels h (last_round rounds) (last_there rounds limits)))

-- and so over the movable nodes of the design, which are the first of them
first_over : (few many : ℕ) (solve : Solve) → few ≤ many → IsOver many solve → IsOver few solve
first_over few many solve less h = record { all = omega (arith, less, h.all); near = λ p there. h.near p (omega (arith, less, there)) }

pub over_cells : (design : DesignValue) (network : NetworkValue) (rounds : Rounds) (levels : List Level) → IsNetwork design network → IsLastOver (length network.points) (last_round rounds) levels
    → IsLastOver (count_by is_movable design.nodes) (last_round rounds) levels
over_cells design network rounds levels made h =
    let less : count_by is_movable design.nodes ≤ length network.points = omega (arith, network_counted design network made, points_counted design) in
    let last = level_at levels (last_round rounds) in
    record {
      there = h.there;
      over = record { x = first_over _ (length network.points) last.x less h.over.x; y = first_over _ (length network.points) last.y less h.over.y };
    }

-- a cell that no chain leads from is a movable node
pub loose_there : (design : DesignValue) (network : NetworkValue) (point : ℕ) → IsNetwork design network → (IsFirstUnanchored (joints_of (network_of design)) point → point < length (point_nodes design))
    → IsFirstUnanchored (joints_of network) point → point < count_by is_movable design.nodes
loose_there design network point made law first =
    let P : NetworkValue → Type 0 = λ n. IsFirstUnanchored (joints_of n) point in
    omega (arith, law (subst P made.made first), points_counted design)

-- a movable node stands among the first n at its point
record StandsAt (nodes : List NodeValue) (i n : ℕ) : Type 0 where
  inside : movable_before nodes i < length (movable_up_to nodes n)
  there : get_or (movable_up_to nodes n) (movable_before nodes i) 0 ≡ i

stands_last : (nodes : List NodeValue) (i : ℕ) → i < length nodes → is_movable (node_value_at nodes i) ≡ true → StandsAt nodes i (i + 1)
stands_last nodes i inside movable =
    let before = count_movable nodes i (omega arith) in
    let more = movable_more nodes i ∙ ap (λ b. movable_up_to nodes i ++ cond b (i ∷ []) []) movable in
    record {
      inside = omega (arith, ap length more, length-append (movable_up_to nodes i) (i ∷ []), before);
      there = ap (λ xs. get_or xs (movable_before nodes i) 0) more ∙ get_or_push (movable_up_to nodes i) i 0 (movable_before nodes i) before;
    }

stands_behind : (nodes : List NodeValue) (i k : ℕ) → (i + 1) + k ≤ length nodes → is_movable (node_value_at nodes i) ≡ true → StandsAt nodes i ((i + 1) + k)
stands_behind nodes i zero within movable =
    let P : ℕ → Type 0 = λ n. StandsAt nodes i n in
    let same : i + 1 ≡ (i + 1) + 0 = omega arith in
    subst P same (stands_last nodes i (omega arith) movable)
stands_behind nodes i (suc k) within movable =
    let P : ℕ → Type 0 = λ n. StandsAt nodes i n in
    let n = (i + 1) + k in
    let same : n + 1 ≡ (i + 1) + suc k = omega arith in
    let h = stands_behind nodes i k (omega arith) movable in
    let new = cond (is_movable (node_value_at nodes n)) (n ∷ []) [] in
    let more = movable_more nodes n in
    subst P same (record {
      inside = omega (arith, ap length more, length-append (movable_up_to nodes n) new, h.inside);
      there = ap (λ xs. get_or xs (movable_before nodes i) 0) more ∙ get_or_append_left (movable_up_to nodes n) new 0 (movable_before nodes i) h.inside ∙ h.there;
    })

-- so the node of a cell is the point's
pub node_is : (design : DesignValue) (point i : ℕ) → IsNodeOf design.nodes point i → node_of design point ≡ i
node_is design point i h =
    let rest : (i + 1) + (length design.nodes - (i + 1)) ≡ length design.nodes = let there = h.there in omega arith in
    let P : ℕ → Type 0 = λ n. StandsAt design.nodes i n in
    let stands = subst P rest (stands_behind design.nodes i (length design.nodes - (i + 1)) (omega (arith, rest)) h.movable) in
    ap (node_of design) (sym h.number) ∙ stands.there

-- the subject of a point that is a cell, and of one that is a star point
pub cell_named : (design : DesignValue) (point cells i : ℕ) → cells ≡ count_by is_movable design.nodes → point < cells → IsNodeOf design.nodes point i → node_subject (node_value_at design.nodes i).name ≡ point_subject design point
cell_named design point cells i whole less node =
    let inside : point < length (point_nodes design) = omega (arith, whole, less, points_counted design) in
    let subject : ℕ → List ℕ = λ k. node_subject (node_value_at design.nodes k).name in
    let star = net_subject (slice_index (star_nets design) (point - length (point_nodes design))) in
    ap subject (sym (node_is design point i node)) ∙ sym (ap (λ b. cond (not b) star (subject (node_of design point))) (lt-ltb point (length (point_nodes design)) inside))

pub star_named : (design : DesignValue) (point cells net : ℕ) → cells ≡ count_by is_movable design.nodes → cells ≤ point → net ≡ slice_index (star_nets design) (point - cells) → net_subject net ≡ point_subject design point
star_named design point cells net whole past at =
    let counted : cells ≡ length (point_nodes design) = whole ∙ sym (points_counted design) in
    let outside : length (point_nodes design) ≤ point = omega (arith, counted, past) in
    let star = net_subject (slice_index (star_nets design) (point - length (point_nodes design))) in
    let node = node_subject (node_value_at design.nodes (node_of design point)).name in
    ap net_subject (at ∙ ap (λ k. slice_index (star_nets design) (point - k)) counted) ∙ sym (ap (λ b. cond (not b) star node) (le-ltb point (length (point_nodes design)) outside))

-- there is such a star point
pub star_there : (design : DesignValue) (point cells : ℕ) → cells ≡ count_by is_movable design.nodes → cells ≤ point → point < point_count design → point - cells < length (star_nets design)
star_there design point cells whole past there = omega (arith, whole, past, there, points_counted design)
