-- The nodes of a design, and the lines of a placement with their names and marks.
use Rattle.std.proofs.Common.{◌≡◌, ℕ, ◌<◌, List, [], ◌∷◌, ◌++◌, length, get_or, sym, ◌∙◌, ap, subst, arith, pos}
use Rattle.std.specs.Prelude.{true, false}
use Rattle.std.specs.List.{AllByRecursion}
use Rattle.std.proofs.lemmas.List.{get_or-map, length-map, map-append}
use Rattle.std.proofs.lemmas.List.Elements.{All-from_recursion}
use Rattle.book_files.specs.declared.orient.Orient.TheVariants.{N}
use Rattle.book_files.specs.declared.records.PlaceLine.{PlaceLine}
use Rattle.book_files.specs.Entries.{PlaceEntry, place_entry, place_entries}
use Rattle.book_files.specs.Ranges.{IsName, IsMarkedWell}
use Rattle.book_design.specs.declared.parts.Node.{Node}
use Rattle.book_design.specs.Values.{NodeValue, DesignValue, node_value, node_values}
use Rattle.book_design.specs.WellFormed.{IsDesign, IsGoodNode}

no_node : NodeValue
no_node = record { name = []; width = pos 0; height = pos 0; x = pos 0; y = pos 0; orient = N; fixed = true; overlap = false }

-- the node that is read is a good one
pub node_read : (design : DesignValue) (nodes : List Node) (i : ℕ) (d : Node) → IsDesign design → node_values nodes ≡ design.nodes → i < length nodes → IsGoodNode design.row_height (node_value (get_or nodes i d))
node_read design nodes i d valid same there =
    let P : NodeValue → Type 0 = λ value. IsGoodNode design.row_height value in
    let value = sym (get_or-map node_value nodes i d no_node there) ∙ ap (λ (list : List NodeValue). get_or list i no_node) same in
    let below : i < length design.nodes = omega (arith, there, length-map nodes node_value, ap length same) in
    subst P (sym value) (All-from_recursion P design.nodes valid.nodes i no_node below)

all_more : {A : Type 0} (P : A → Type 0) (xs : List A) (x : A) → AllByRecursion P xs → P x → AllByRecursion P (xs ++ x ∷ [])
all_more P [] x h p = (p, tt)
all_more P (y ∷ ys) x h p = (h.0, all_more P ys x h.1 p)

-- one line more
lines_more : (P : PlaceEntry → Type 0) (lines more : List PlaceLine) (line : PlaceLine) → AllByRecursion P (place_entries lines) → more ≡ lines ++ line ∷ [] → P (place_entry line) → AllByRecursion P (place_entries more)
lines_more P lines more line h pushed is =
    let Q : List PlaceEntry → Type 0 = λ list. AllByRecursion P list in
    subst Q (sym (ap place_entries pushed ∙ map-append place_entry lines (line ∷ []))) (all_more P (place_entries lines) (place_entry line) h is)

pub names_more : (lines more : List PlaceLine) (line : PlaceLine) → AllByRecursion (λ place. IsName place.name) (place_entries lines) → more ≡ lines ++ line ∷ [] → IsName (place_entry line).name
    → AllByRecursion (λ place. IsName place.name) (place_entries more)
names_more lines more line h pushed is = lines_more (λ place. IsName place.name) lines more line h pushed is

pub marks_more : (lines more : List PlaceLine) (line : PlaceLine) → AllByRecursion (λ place. IsMarkedWell place.fixed place.overlap) (place_entries lines) → more ≡ lines ++ line ∷ []
    → IsMarkedWell (place_entry line).fixed (place_entry line).overlap → AllByRecursion (λ place. IsMarkedWell place.fixed place.overlap) (place_entries more)
marks_more lines more line h pushed is = lines_more (λ place. IsMarkedWell place.fixed place.overlap) lines more line h pushed is
