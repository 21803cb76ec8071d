-- Movable nodes that are higher than a row, and how many pins there are.
use Rattle.std.proofs.Common.{◌≡◌, ℕ, ◌<◌, ◌≤◌, ◌<ℤ◌, ℤ, false, List, length, map, get_or, refl, sym, ap, ◌∙◌, subst, arith, Option, Some, None, inl, inr}
use Rattle.std.proofs.lemmas.List.{get_or-map, length-map}
use Rattle.std.proofs.lemmas.List.Concat.{length-flat_map}
use Rattle.book_files.specs.Entries.{NodeEntry, PlaceEntry, NetEntry}
use Rattle.book_files.specs.Ranges.{pin_count}
use Rattle.book_design.specs.declared.rules.TheConstants.{MOST_NODES, MOST_PINS, MOST_SUBROWS}
use Rattle.book_design.specs.declared.parts.Node.{Node}
use Rattle.book_design.specs.declared.fault.DesignFault.TheVariants.{TallCell, Limit}
use Rattle.book_design.specs.declared.strips.Strip.{Strip as Kept}
use Rattle.book_design.specs.declared.rows.RowShape.{RowShape}
use Rattle.book_design.specs.Records.{Records, node_at, last_place, pin_lines, strips}
use Rattle.book_design.specs.Joined.{placed, joined_node}
use Rattle.book_design.specs.Values.{NodeValue, node_value, node_values}
use Rattle.book_design.specs.Faults.{IsFirst, IsTall}
use Rattle.book_design.specs.Forms.Counts.{value_at, IsHigher}
use Rattle.book_design.specs.Forms.Parts.{outline, outlines, IsShape}
use Rattle.book_design.specs.Forms.Steps.{IsFreeFrom, IsFirstFrom}
use Rattle.book_design.proofs.Ranks.{first_of_rank, first_after, free_tall, free_nodes, free_pins, free_subrows, free_both}

value_is : (nodes : List Node) (i : ℕ) (d : Node) → i < length nodes → value_at (node_values nodes) i ≡ node_value (get_or nodes i d)
value_is nodes i d there = get_or-map node_value nodes i d _ there

pub not_higher : (nodes : List Node) (height : ℤ) (i : ℕ) (d node : Node) → i < length nodes → node ≡ get_or nodes i d → ((node.fixed ≡ false)
    → height <ℤ node.height → ⊥) → IsHigher (node_values nodes) height i → ⊥
not_higher nodes height i d node there e none h =
    let here : value_at (node_values nodes) i ≡ node_value node = value_is nodes i d there ∙ ap node_value (sym e) in
    let P : NodeValue → Type 0 = λ v. height <ℤ v.height in
    none (ap (λ (v : NodeValue). v.fixed) (sym here) ∙ h.movable) (subst P here h.higher)

-- the placement file says nothing of heights
placed_height : (node : NodeEntry) (place : Option PlaceEntry) → (placed node place).height ≡ node.height
placed_height node None = refl
placed_height node (Some place) = refl

joined_is : (records : Records) (i : ℕ) → i < length records.nodes → value_at (map (joined_node records) records.nodes) i ≡ joined_node records (node_at records i)
joined_is records i there = get_or-map (joined_node records) records.nodes i _ _ there

higher_is_tall : (records : Records) (shape : RowShape) (i : ℕ) → IsShape records shape → IsHigher (map (joined_node records) records.nodes) shape.height i
    → IsTall records i
higher_is_tall records shape i s h =
    let same : length (map (joined_node records) records.nodes) ≡ length records.nodes = length-map records.nodes (joined_node records) in
    let there : i < length records.nodes = omega (arith, h.there) in
    let here = joined_is records i there in
    let high : (value_at (map (joined_node records) records.nodes) i).height ≡ (node_at records i).height =
    ap (λ (v : NodeValue). v.height) here ∙ placed_height (node_at records i) (last_place records (node_at records i).name) in
    let P : ℤ → Type 0 = λ z. z <ℤ (node_at records i).height in
    let Q : ℤ → Type 0 = λ z. shape.height <ℤ z in
    record { there = there; movable = ap (λ (v : NodeValue). v.fixed) (sym here) ∙ h.movable; higher = subst P s.height (subst Q high h.higher) }

tall_is_higher : (records : Records) (shape : RowShape) (i : ℕ) → IsShape records shape → IsTall records i
    → IsHigher (map (joined_node records) records.nodes) shape.height i
tall_is_higher records shape i s h =
    let same : length (map (joined_node records) records.nodes) ≡ length records.nodes = length-map records.nodes (joined_node records) in
    let here = joined_is records i h.there in
    let high : (value_at (map (joined_node records) records.nodes) i).height ≡ (node_at records i).height =
    ap (λ (v : NodeValue). v.height) here ∙ placed_height (node_at records i) (last_place records (node_at records i).name) in
    let P : ℤ → Type 0 = λ z. z <ℤ (node_at records i).height in
    let Q : ℤ → Type 0 = λ z. shape.height <ℤ z in
    record { there = omega (arith, h.there); movable = ap (λ (v : NodeValue). v.fixed) here ∙ h.movable; higher = subst Q (sym high) (subst P (sym s.height) h.higher) }

pub tall_first : (records : Records) (shape : RowShape) (nodes : List NodeValue) (i : ℕ) → IsShape records shape → nodes ≡ map (joined_node records) records.nodes
    → IsFirst (IsHigher nodes shape.height) i → IsFirstFrom records 7 (TallCell i)
tall_first records shape nodes i s e h =
    let P : List NodeValue → Type 0 = λ vs. IsFirst (IsHigher vs shape.height) i in
    let first = subst P e h in
    first_of_rank records 7 (TallCell i) refl (record {
      here = higher_is_tall records shape i s first.here;
      not_before = λ j below tall. first.not_before j below (tall_is_higher records shape j s tall);
    })

pub none_tall : (records : Records) (shape : RowShape) (nodes : List NodeValue) → IsShape records shape → nodes ≡ map (joined_node records) records.nodes
    → ((i : ℕ) → IsHigher nodes shape.height i → ⊥) → ((j : ℕ) → IsTall records j → ⊥)
none_tall records shape nodes s e none =
    let P : List NodeValue → Type 0 = λ vs. (i : ℕ) → IsHigher vs shape.height i → ⊥ in
    λ i tall. subst P e none i (tall_is_higher records shape i s tall)

pub pin_lines_counted : (records : Records) → length (pin_lines records) ≡ pin_count records.nets
pin_lines_counted records = length-flat_map (λ (net : NetEntry). net.pins) records.nets

pub past_nodes : (records : Records) (n : ℕ) → ((j : ℕ) → IsTall records j → ⊥) → n ≡ length records.nodes → MOST_NODES < n → IsFirstFrom records 7 (Limit 1 n)
past_nodes records n tall e many = first_after records 7 (Limit 1 n) (free_tall records tall) (inl (refl, e, many))

pub past_pins : (records : Records) (n : ℕ) → IsFreeFrom records 7 9 → n ≡ pin_count records.nets → MOST_PINS < n → IsFirstFrom records 7 (Limit 2 n)
past_pins records n free e many = first_after records 7 (Limit 2 n) free (inr (inl (refl, e ∙ sym (pin_lines_counted records), many)))

pub past_subrows : (records : Records) (n : ℕ) → IsFreeFrom records 7 10 → n ≡ length (strips records) → MOST_SUBROWS < n → IsFirstFrom records 7 (Limit 3 n)
past_subrows records n free e many = first_after records 7 (Limit 3 n) free (inr (inr (inl (refl, e, many))))

pub few_nodes : (records : Records) (n : ℕ) → ((j : ℕ) → IsTall records j → ⊥) → n ≡ length records.nodes → n ≤ MOST_NODES → IsFreeFrom records 7 9
few_nodes records n tall e few = let here : length records.nodes ≤ MOST_NODES = omega (arith, e, few) in free_both records 7 8 9 (free_tall records tall) (free_nodes records here)

pub few_pins : (records : Records) (n : ℕ) → IsFreeFrom records 7 9 → n ≡ pin_count records.nets → n ≤ MOST_PINS → IsFreeFrom records 7 10
few_pins records n free e few =
    let same = pin_lines_counted records in
    let here : length (pin_lines records) ≤ MOST_PINS = omega (arith, same, e, few) in
    free_both records 7 9 10 free (free_pins records here)

pub few_subrows : (records : Records) (n : ℕ) → IsFreeFrom records 7 10 → n ≡ length (strips records) → n ≤ MOST_SUBROWS → IsFreeFrom records 7 11
few_subrows records n free e few = let here : length (strips records) ≤ MOST_SUBROWS = omega (arith, e, few) in free_both records 7 10 11 free (free_subrows records here)

-- as many values stand as lines
pub nodes_counted : (records : Records) (nodes : List Node) → node_values nodes ≡ map (joined_node records) records.nodes → length nodes ≡ length records.nodes
nodes_counted records nodes e = sym (length-map nodes node_value) ∙ ap length e ∙ length-map records.nodes (joined_node records)

pub subrows_counted : (records : Records) (kept : List Kept) → kept ≡ outlines records → length kept ≡ length (strips records)
subrows_counted records kept e = ap length e ∙ length-map (strips records) outline
