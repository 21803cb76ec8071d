-- What is read of a pin's node.
use Rattle.std.proofs.Common.{◌≡◌, ℕ, ◌<◌, List, length, get_or, ◌∙◌, ap, sym, subst, rules, arith, true, false, w64, to_z, of_z}
use Rattle.std.specs.Prelude.{ℤ, pos, ◌≤ℤ◌, ◌+ℤ◌}
use mir.Val.{SFits}
use Rattle.std.proofs.lemmas.Int.{ints, to_z-of_z}
use Rattle.std.proofs.lemmas.List.{get_or-map, length-map}
use Rattle.std.proofs.lemmas.List.Elements.{All-from_recursion}
use Rattle.book_text.specs.Coordinates.{IsMicro}
use Rattle.book_design.specs.declared.parts.Node.{Node}
use Rattle.book_design.specs.Values.{NodeValue, DesignValue, node_value, node_values}
use Rattle.book_design.specs.Points.{node_value_at}
use Rattle.book_design.specs.WellFormed.{IsDesign, IsGoodNode}
use Rattle.book_files.specs.declared.orient.Orient.TheVariants.{N}
use Rattle.wire_report.specs.Wire.{half}

abbrev no_node : NodeValue
no_node = record { name = List.[]; width = pos 0; height = pos 0; x = pos 0; y = pos 0; orient = N; fixed = true; overlap = false }

-- what a read past the end gives
abbrev pub no_record : Node
no_record = record { name = record { 0 = record { ref_ptr = (0, 0); now = List.[] } }; width = pos 0; height = pos 0; x = pos 0; y = pos 0; orient = N; fixed = false; overlap = false }

inside : (design : DesignValue) (nodes : List Node) (i : ℕ) → node_values nodes ≡ design.nodes → i < length design.nodes → i < length nodes
inside design nodes i same there = omega (arith, ap length same, length-map nodes node_value, there)

-- the node of a number, as it is read
pub node_here : (design : DesignValue) (nodes : List Node) (i : ℕ) → node_values nodes ≡ design.nodes → i < length design.nodes → node_value (get_or nodes i no_record) ≡ node_value_at design.nodes i
node_here design nodes i same there =
    sym (get_or-map node_value nodes i no_record no_node (inside design nodes i same there)) ∙ ap (λ (list : List NodeValue). node_value_at list i) same

pub node_good : (design : DesignValue) (nodes : List Node) (i : ℕ) → IsDesign design → node_values nodes ≡ design.nodes → i < length design.nodes → IsGoodNode design.row_height (node_value (get_or nodes i no_record))
node_good design nodes i valid same there =
    let P : NodeValue → Type 0 = λ value. IsGoodNode design.row_height value in
    subst P (sym (node_here design nodes i same there)) (All-from_recursion (IsGoodNode design.row_height) design.nodes valid.nodes i no_node there)

-- a number of millionths, as it is passed
pub micro_fits : (z : ℤ) → IsMicro z → SFits w64 z
micro_fits z h = let low = h.low in let high = h.high in search (rules, ints)

pub micro_passed : (z : ℤ) → IsMicro z → IsMicro (to_z w64 (of_z w64 z))
micro_passed z h = subst IsMicro (sym (to_z-of_z w64 z (micro_fits z h))) h

pub sign_passed : (z : ℤ) → IsMicro z → pos 0 ≤ℤ z → pos 0 ≤ℤ to_z w64 (of_z w64 z)
sign_passed z h sign = subst (λ (y : ℤ). pos 0 ≤ℤ y) (sym (to_z-of_z w64 z (micro_fits z h))) sign

-- a pin's coordinate, as it is made of what is passed
pub passed : (corner size size_there offset z : ℤ) → IsMicro corner → IsMicro size → IsMicro offset → SFits w64 z → size ≡ size_there
    → z ≡ (to_z w64 (of_z w64 corner) +ℤ half (to_z w64 (of_z w64 size)) +ℤ to_z w64 (of_z w64 offset)) → to_z w64 (of_z w64 z) ≡ (corner +ℤ half size_there +ℤ offset)
passed corner size size_there offset z c s o f same is =
    let corner_fits = micro_fits corner c in
    let size_fits = micro_fits size s in
    let offset_fits = micro_fits offset o in
    let plain : z ≡ (corner +ℤ half size +ℤ offset) = simp to_z-of_z at is in
    to_z-of_z w64 z f ∙ plain ∙ ap (λ (y : ℤ). corner +ℤ half y +ℤ offset) same
