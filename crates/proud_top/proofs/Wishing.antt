-- The points of a design as cells: what the greedy rule may take for granted of them.
use Rattle.std.proofs.Common.{◌≡◌, ◌≢◌, ◌⊎◌, inl, inr, ℕ, ◌+◌, ◌/◌, ◌<◌, ◌≤◌, false, List, [], ◌∷◌, ◌++◌, length, get_or, refl, sym, ◌∙◌, ap, subst, arith, ℤ, pos, ◌≤ℤ◌}
use Rattle.std.specs.Prelude.{slice_index, nat_abs, Contains}
use Rattle.std.specs.Int.{div_ceil}
use Rattle.std.specs.List.{count_by, range_with_len}
use Rattle.std.proofs.Math.Nat.{mul-le-mul_right}
use Rattle.std.proofs.lemmas.Bool.{cases_eq}
use Rattle.std.proofs.lemmas.Int.{ints}
use Rattle.std.proofs.lemmas.List.{get_or_push, get_or_append_left, length_push, get_or-map, get_or_read, length-map}
use Rattle.std.proofs.lemmas.List.FromFn.{length-range_with_len, get_or-range_with_len}
use Rattle.std.proofs.lemmas.List.Sums.{count_by-le-length}
use Rattle.std.proofs.lemmas.List.Elements.{All-from_recursion, Contains-append_right}
use Rattle.std.proofs.lemmas.List.Sorted.{IsPermutation-sym, Contains-permutation}
use Rattle.book_text.specs.declared.decimal.TheConstants.{MOST_MICRO}
use Rattle.book_design.specs.Values.{NodeValue, DesignValue, node_value, node_values}
use Rattle.book_design.specs.Points.{is_movable, node_value_at, IsNodeOf, site_count}
use Rattle.book_design.specs.WellFormed.{IsDesign, IsGoodNode}
use Rattle.relax_system.specs.declared.valid.TheConstants.{MOST_COORDINATE}
use Rattle.level_run.specs.declared.level.Level.{Level}
use Rattle.level_run.specs.Levels.{no_level, level_at}
use Rattle.book_files.specs.declared.orient.Orient.TheVariants.{N}
use Rattle.row_space.specs.Values.{SegmentsValue}
use Rattle.row_legal.specs.declared.parts.Wish.{Wish}
use Rattle.row_legal.specs.Cells.{CellsValue, count, sites_at, wish_at}
use Rattle.row_legal.specs.Ranges.{IsNear, AreGoodCells}
use Rattle.row_legal.specs.Greedy.{cells_in}
use Rattle.row_legal.specs.Answers.{HasNoRoom}
use Rattle.row_legal.specs.Spots.{AreSitesOf}
use Rattle.proud_top.specs.Wishes.{begin_of, wished_corner, wish_in, AreWishes, AreCells}
use Rattle.proud_top.specs.Forms.Over.{IsBothOver}
use Rattle.proud_top.specs.Forms.Cells.{IsSize, IsSized, IsWish}
use Rattle.book_design.specs.declared.parts.Node.{Node}
use Rattle.proud_top.proofs.Nodes.{no_node, node_there, one_node, point_there}

-- a width takes a site at least, and no more than it has millionths
ceil_bound : (x y : ℕ) → 1 ≤ y → div_ceil x y ≤ x
ceil_bound x y h = omega (arith, mul-le-mul_right (x / y) h)

few_sites : (width pitch : ℤ) → IsSize width → pos 1 ≤ℤ pitch → site_count width pitch ≤ MOST_MICRO
few_sites width pitch size some =
    let low = size.sign in
    let high = size.most in
    let across : nat_abs width ≤ MOST_MICRO = omega (arith, ints) in
    let apart : 1 ≤ nat_abs pitch = omega (arith, ints) in
    omega (arith, ceil_bound (nat_abs width) (nat_abs pitch) apart)

some_site : (width pitch : ℤ) → 1 ≤ site_count width pitch
some_site width pitch = omega arith

-- a coordinate less half of a size lies near
near_by : (mid : ℕ) (size : ℤ) → mid ≤ MOST_COORDINATE → IsSize size → IsNear (begin_of mid size)
near_by mid size le h =
    let low = h.sign in
    let high = h.most in
    record { low = omega (arith, ints); high = omega (arith, ints) }

-- a node of the design
pub good_node : (design : DesignValue) (i : ℕ) → IsDesign design → i < length design.nodes → IsGoodNode design.row_height (node_value_at design.nodes i)
good_node design i valid there = All-from_recursion (IsGoodNode design.row_height) design.nodes valid.nodes i no_node there

pub width_is : (row_height : ℤ) (node : NodeValue) → IsGoodNode row_height node → IsSize node.width
width_is row_height node h = record { sign = h.width_sign; most = h.width.high }

pub height_is : (row_height : ℤ) (node : NodeValue) → IsGoodNode row_height node → IsSize node.height
height_is row_height node h = record { sign = h.height_sign; most = h.height.high }

-- the node of a cell, and what is known of the cell by it
record IsCell (design : DesignValue) (level : Level) (cells : CellsValue) (c : ℕ) : Type 0 where
  node : NodeValue
  good : IsGoodNode design.row_height node
  sites : sites_at cells c ≡ site_count node.width design.pitch
  wish : wish_at cells c ≡ wished_corner node (slice_index level.x.mid c) (slice_index level.y.mid c)
  x : slice_index level.x.mid c ≤ MOST_COORDINATE
  y : slice_index level.y.mid c ≤ MOST_COORDINATE

cell_of : (design : DesignValue) (level : Level) (cells : CellsValue) → IsDesign design → AreCells design level cells → IsBothOver (count_by is_movable design.nodes) level → (c : ℕ) → c < count cells → IsCell design level cells c
cell_of design level cells valid are over c there =
    let inside : c < count_by is_movable design.nodes = omega (arith, there, are.sites.all) in
    let node = node_there design.nodes c inside in
    record {
      node = node_value_at design.nodes node.0;
      good = good_node design node.0 valid node.1.there;
      sites = are.sites.each c node.0 node.1;
      wish = are.wishes.each c node.0 node.1;
      x = over.x.near c inside;
      y = over.y.near c inside;
    }

pub good_cells : (design : DesignValue) (level : Level) (cells : CellsValue) → IsDesign design → AreCells design level cells → IsBothOver (count_by is_movable design.nodes) level → AreGoodCells cells
good_cells design level cells valid are over = record {
  same = are.wishes.all ∙ sym are.sites.all;
  few = omega (arith, are.sites.all, count_by-le-length is_movable design.nodes, valid.few_nodes);
  some = λ c there.
      let cell = cell_of design level cells valid are over c there in
      omega (arith, cell.sites, some_site cell.node.width design.pitch);
  most = λ c there.
      let cell = cell_of design level cells valid are over c there in
      omega (arith, cell.sites, few_sites cell.node.width design.pitch (width_is design.row_height cell.node cell.good) valid.pitch_sign);
  x = λ c there.
      let cell = cell_of design level cells valid are over c there in
      subst (λ (wish : Wish). IsNear wish.x) (sym cell.wish) (near_by (slice_index level.x.mid c) cell.node.width cell.x (width_is design.row_height cell.node cell.good));
  y = λ c there.
      let cell = cell_of design level cells valid are over c there in
      subst (λ (wish : Wish). IsNear wish.y) (sym cell.wish) (near_by (slice_index level.y.mid c) cell.node.height cell.y (height_is design.row_height cell.node cell.good));
}

-- the cell without room is one of the points
in_range : (n x : ℕ) → Contains (range_with_len 0 n) x → x < n
in_range n x (k, inside, is) =
    let below : k < n = omega (arith, inside, length-range_with_len 0 n) in
    omega (arith, get_or-range_with_len 0 n k x below, is, below)

pub stuck_there : (design : DesignValue) (level : Level) (rows : SegmentsValue) (cells : CellsValue) (cell sites largest : ℕ) → AreCells design level cells → HasNoRoom rows cells cell sites largest → cell < count_by is_movable design.nodes
stuck_there design level rows cells cell sites largest are h =
    let picks = h.stuck.picks in
    let rest = h.stuck.rest in
    let taken = cells_in picks ++ cell ∷ rest in
    let all = range_with_len 0 (count cells) in
    let here : Contains taken cell = Contains-append_right (cells_in picks) (cell ∷ rest) cell (0, omega arith, refl) in
    let inside = in_range (count cells) cell (Contains-permutation taken all cell (IsPermutation-sym all taken h.stuck.order.all) here) in
    omega (arith, inside, are.sites.all)

-- ---- the loops over the points

-- the sites of the first so many points
pub record AreSitesTo (design : DesignValue) (n : ℕ) (sites : List ℕ) : Type 0 where
  pub all : length sites ≡ n
  pub each : (p i : ℕ) → p < n → IsNodeOf design.nodes p i → slice_index sites p ≡ site_count (node_value_at design.nodes i).width design.pitch

pub sites_more : (design : DesignValue) (n : ℕ) (sites more : List ℕ) (x : ℕ) → AreSitesTo design n sites → more ≡ sites ++ x ∷ [] → ((i : ℕ) → IsNodeOf design.nodes n i → x ≡ site_count (node_value_at design.nodes i).width design.pitch)
    → AreSitesTo design (n + 1) more
sites_more design n sites more x h pushed is = record {
  all = ap length pushed ∙ length_push sites x ∙ ap (λ (k : ℕ). k + 1) h.all;
  each = λ p i below node. by_place p i below node (cases_eq p n);
} where
  by_place : (p i : ℕ) → p < n + 1 → IsNodeOf design.nodes p i → (p ≡ n) ⊎ (p ≢ n) → slice_index more p ≡ site_count (node_value_at design.nodes i).width design.pitch
  by_place p i below node (inl same) =
      let P : ℕ → Type 0 = λ q. IsNodeOf design.nodes q i in
      let at : length sites ≡ p = h.all ∙ sym same in
      ap (λ (xs : List ℕ). slice_index xs p) pushed ∙ get_or_push sites x 0 p at ∙ is i (subst P same node)
  by_place p i below node (inr other) =
      let before : p < n = omega arith in
      let inside : p < length sites = omega (arith, h.all, before) in
      ap (λ (xs : List ℕ). slice_index xs p) pushed ∙ get_or_append_left sites (x ∷ []) 0 p inside ∙ h.each p i before node

pub sites_whole : (design : DesignValue) (n : ℕ) (sites : List ℕ) → n ≡ count_by is_movable design.nodes → AreSitesTo design n sites → AreSitesOf design sites
sites_whole design n sites whole h = record {
  all = h.all ∙ whole;
  each = λ p i node. h.each p i (omega (arith, whole, point_there design.nodes p i node)) node;
}

-- and their wishes
pub record AreWishesTo (design : DesignValue) (level : Level) (n : ℕ) (wishes : List Wish) : Type 0 where
  pub all : length wishes ≡ n
  pub each : (p i : ℕ) → p < n → IsNodeOf design.nodes p i → wish_in wishes p ≡ wished_corner (node_value_at design.nodes i) (slice_index level.x.mid p) (slice_index level.y.mid p)

pub wishes_more : (design : DesignValue) (level : Level) (n : ℕ) (wishes more : List Wish) (x : Wish) → AreWishesTo design level n wishes → more ≡ wishes ++ x ∷ [] → IsWish design level n x → AreWishesTo design level (n + 1) more
wishes_more design level n wishes more x h pushed is = record {
  all = ap length pushed ∙ length_push wishes x ∙ ap (λ (m : ℕ). m + 1) h.all;
  each = λ p i below node. by_place p i below node (cases_eq p n);
} where
  by_place : (p i : ℕ) → p < n + 1 → IsNodeOf design.nodes p i → (p ≡ n) ⊎ (p ≢ n) → wish_in more p ≡ wished_corner (node_value_at design.nodes i) (slice_index level.x.mid p) (slice_index level.y.mid p)
  by_place p i below node (inl same) =
      let P : ℕ → Type 0 = λ q. IsNodeOf design.nodes q i in
      let at : length wishes ≡ p = h.all ∙ sym same in
      ap (λ (xs : List Wish). wish_in xs p) pushed ∙ get_or_push wishes x (wish_in [] 0) p at ∙ is i (subst P same node)
      ∙ ap (λ (q : ℕ). wished_corner (node_value_at design.nodes i) (slice_index level.x.mid q) (slice_index level.y.mid q)) (sym same)
  by_place p i below node (inr other) =
      let before : p < n = omega arith in
      let inside : p < length wishes = omega (arith, h.all, before) in
      ap (λ (xs : List Wish). wish_in xs p) pushed ∙ get_or_append_left wishes (x ∷ []) (wish_in [] 0) p inside ∙ h.each p i before node

pub wishes_whole : (design : DesignValue) (level : Level) (n : ℕ) (wishes : List Wish) → n ≡ count_by is_movable design.nodes → AreWishesTo design level n wishes → AreWishes design level wishes
wishes_whole design level n wishes whole h = record {
  all = h.all ∙ whole;
  each = λ p i node. h.each p i (omega (arith, whole, point_there design.nodes p i node)) node;
}

-- the node of a point, as it is read
pub node_here : (design : DesignValue) (nodes : List Node) (i : ℕ) (d : Node) → node_values nodes ≡ design.nodes → i < length nodes → node_value (get_or nodes i d) ≡ node_value_at design.nodes i
node_here design nodes i d same there = sym (get_or-map node_value nodes i d no_node there) ∙ ap (λ (list : List NodeValue). node_value_at list i) same

pub node_inside : (design : DesignValue) (nodes : List Node) (i : ℕ) → node_values nodes ≡ design.nodes → i < length design.nodes → i < length nodes
node_inside design nodes i same there = omega (arith, ap length same, length-map nodes node_value, there)

pub sized : (design : DesignValue) (node : Node) (i : ℕ) → IsDesign design → i < length design.nodes → node_value node ≡ node_value_at design.nodes i → IsSized node
sized design node i valid there is =
    let P : NodeValue → Type 0 = λ value. IsGoodNode design.row_height value in
    let good = subst P (sym is) (good_node design i valid there) in
    record { width = width_is design.row_height (node_value node) good; height = height_is design.row_height (node_value node) good }

-- a wish, as it is made of what is read
pub wish_is : (design : DesignValue) (level : Level) (p k : ℕ) (node : Node) (xs ys : List ℕ) (wish : Wish) → IsNodeOf design.nodes p k → node_value node ≡ node_value_at design.nodes k
    → xs ≡ level.x.mid → ys ≡ level.y.mid → wish ≡ wished_corner (node_value node) (slice_index xs p) (slice_index ys p) → IsWish design level p wish
wish_is design level p k node xs ys wish here is x y made i at =
    made ∙ ap (λ (value : NodeValue). wished_corner value (slice_index xs p) (slice_index ys p)) (is ∙ ap (node_value_at design.nodes) (one_node design.nodes p k i here at))
    ∙ ap (λ (list : List ℕ). wished_corner (node_value_at design.nodes i) (slice_index list p) (slice_index ys p)) x
    ∙ ap (λ (list : List ℕ). wished_corner (node_value_at design.nodes i) (slice_index level.x.mid p) (slice_index list p)) y

-- what a read past the end gives
abbrev pub no_record : Node
no_record = record { name = record { 0 = record { ref_ptr = (0, 0); now = [] } }; width = pos 0; height = pos 0; x = pos 0; y = pos 0; orient = N; fixed = false; overlap = false }

-- the level that is read
pub level_read : (levels list : List Level) (count : ℕ) (level : Level) → list ≡ levels → count < length levels → level ≡ get_or list count level → level ≡ level_at levels count
level_read levels list count level same there is =
    let P : List Level → Type 0 = λ ls. count < length ls in
    get_or_read list count level (subst P (sym same) there) is no_level ∙ ap (λ (ls : List Level). level_at ls count) same
