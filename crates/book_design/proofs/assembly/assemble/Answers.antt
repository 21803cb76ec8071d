use Rattle.std.proofs.Common.{◌≡◌, ℕ, map, ◌∙◌, sym, ap, subst, arith, length, List, ℤ, w64, to_z, of_z}
use Rattle.std.proofs.lemmas.List.{length-map}
use Rattle.book_design.specs.declared.strips.Strip.{Strip as Kept}
use Rattle.book_design.specs.declared.parts.Node.{Node}
use Rattle.book_design.specs.declared.parts.Net.{Net}
use Rattle.book_design.specs.declared.parts.Subrow.{Subrow}
use Rattle.book_design.specs.declared.parts.Core.{Core}
use Rattle.book_design.specs.declared.rows.RowShape.{RowShape}
use Rattle.book_design.specs.Records.{Records, row_at}
use Rattle.book_design.specs.Values.{node_values}
use Rattle.book_design.specs.Nets.{net_values}
use Rattle.book_design.specs.WellFormed.{IsDesign}
use Rattle.book_design.specs.Forms.Steps.{IsSound}
use Rattle.book_design.specs.Forms.Assembly.{AreNarrow, HasSiteBefore, IsCoreOf, design_value}
use Rattle.book_files.specs.Ranges.{IsInRange}
use Rattle.book_design.specs.Forms.Parts.{outlines, pinned_net, joined_kept, IsShape}
use Rattle.book_design.specs.Joined.{joined_node, Joins}
use Rattle.book_design.specs.Forms.Sources.{records_of, AreInRange}
use Rattle.book_design.proofs.AssemblyStrips.{all_narrow, some_site, first_row, few_nodes}
use Rattle.book_design.proofs.AssemblyPoints.{kept_whole, node_count}
use Rattle.book_design.proofs.AssemblyDesign.{made, is_design, joins}
use Rattle.book_design.proofs.assembly.assemble.Goals as goal

narrow : (records : Records) (kept : List Kept) (height : ℤ) → AreInRange records → IsSound records → kept ≡ outlines records → height ≡ (row_at records 0).height → AreNarrow (to_z w64 (of_z w64 height)) kept
narrow records kept height ranges free e f =
    let row = first_row records ranges free in
    let R : ℤ → Type 0 = λ z. IsInRange z in
    let whole = kept_whole height (subst R (sym f) row.height) ∙ f in
    let P : ℤ → Type 0 = λ h. AreNarrow h kept in
    let Q : List Kept → Type 0 = λ k. AreNarrow (row_at records 0).height k in
    subst P (sym whole) (subst Q (sym e) (all_narrow records ranges free))

pub plain_subrows-requires : goal.plain_subrows-requires
plain_subrows-requires c s l = (narrow (records_of c.args.records.now) c.args.strips.now c.args.shape.now.height c.requires.ranges c.requires.free c.requires.strips c.requires.shape.height s l).sites

pub core_of-core-requires-clause-narrow : goal.core_of-core-requires-clause-narrow
core_of-core-requires-clause-narrow c = narrow (records_of c.args.records.now) c.args.strips.now c.args.shape.now.height c.requires.ranges c.requires.free c.requires.strips c.requires.shape.height

pub core_of-core-requires-clause-some : goal.core_of-core-requires-clause-some
core_of-core-requires-clause-some c =
    let P : List Kept → Type 0 = λ k. (s : ℕ) × HasSiteBefore k (length k) s in
    subst P (sym c.requires.strips) (some_site (records_of c.args.records.now) c.requires.free)

pub point_lists-requires : goal.point_lists-requires
point_lists-requires c =
    let records = records_of c.args.records.now in
    let few = few_nodes records c.requires.free in
    let given = ap length c.requires.nodes ∙ length-map records.nodes (joined_node records) in
    let made = node_count c.args.nodes.items in
    let e = ap length c.deref.ensures.value in
    omega arith

core_kept : (records : Records) (kept : List Kept) (height : ℤ) (core : Core) → AreInRange records → IsSound records → kept ≡ outlines records → height ≡ (row_at records 0).height → IsCoreOf (to_z w64 (of_z w64 height)) kept (length kept) core → IsCoreOf (row_at records 0).height (outlines records) (length (outlines records)) core
core_kept records kept height core ranges free e f h =
    let row = first_row records ranges free in
    let R : ℤ → Type 0 = λ z. IsInRange z in
    let whole = kept_whole height (subst R (sym f) row.height) ∙ f in
    let P : ℤ → Type 0 = λ z. IsCoreOf z kept (length kept) core in
    let Q : List Kept → Type 0 = λ k. IsCoreOf (row_at records 0).height k (length k) core in
    subst Q e (subst P whole h)

assembled : (records : Records) (nodes : List Node) (nets : List Net) (kept : List Kept) (subrows : List Subrow) (core : Core) (shape : RowShape) → node_values nodes ≡ map (joined_node records) records.nodes → net_values nets ≡ map (pinned_net records) records.nets → kept ≡ outlines records → subrows ≡ map joined_kept kept → IsShape records shape → design_value nodes nets subrows core shape ≡ made records core
assembled records nodes nets kept subrows core shape e f g h s =
    let rows : subrows ≡ map joined_kept (outlines records) = h ∙ ap (λ (k : List Kept). map joined_kept k) g in
    λ i. record { nodes = e i; nets = f i; subrows = rows i; core = core; pitch = s.pitch i; row_height = s.height i }

pub new-requires-clause-valid : goal.new-requires-clause-valid
new-requires-clause-valid c =
    let records = records_of c.args.records.now in
    let same = assembled records c.args.nodes.items c.args.nets.items c.args.strips.now c.in_ok-subrows.subrows.items c.core_of-core.result c.args.shape.now c.requires.nodes c.requires.nets c.requires.strips c.in_ok-subrows.ensures c.requires.shape in
    let core = core_kept records c.args.strips.now c.args.shape.now.height c.core_of-core.result c.requires.ranges c.requires.free c.requires.strips c.requires.shape.height c.core_of-core.ensures in
    subst IsDesign (sym same) (is_design records c.core_of-core.result c.requires.ranges c.requires.free c.requires.few_nets core)

pub returns : goal.returns
returns c =
    let records = records_of c.args.records.now in
    let same = assembled records c.args.nodes.items c.args.nets.items c.args.strips.now c.in_ok-subrows.subrows.items c.core_of-core.result c.args.shape.now c.requires.nodes c.requires.nets c.requires.strips c.in_ok-subrows.ensures c.requires.shape in
    let core = core_kept records c.args.strips.now c.args.shape.now.height c.core_of-core.result c.requires.ranges c.requires.free c.requires.strips c.requires.shape.height c.core_of-core.ensures in
    subst (Joins records) (sym (c.new.ensures ∙ same)) (joins records c.core_of-core.result c.requires.ranges c.requires.free core)
