-- Texts that are written line by line.
use Rattle.std.proofs.Common.{◌≡◌, ℕ, suc, ◌+◌, ◌*◌, ◌/◌, ◌%◌, ◌^◌, ◌<◌, ◌≤◌, List, [], ◌∷◌, ◌++◌, length, get_or, take, codes, decimal, sym, ◌∙◌, ap, append_assoc, arith}
use Rattle.std.specs.Prelude.{Result, OnOk}
use Rattle.std.specs.List.{flat_map, range_with_len}
use Rattle.std.proofs.lemmas.List.{append-nil, take_more, length-take-le}
use Rattle.grid_design.specs.declared.asked.Grid.{Grid}
use Rattle.grid_design.specs.declared.parts.Node.{Node}
use Rattle.grid_design.specs.declared.parts.Net.{Net}
use Rattle.grid_design.specs.declared.parts.TheConstants.{ROW_HEIGHT, COLUMN_SITES}
use Rattle.grid_design.specs.declared.weights.TheConstants.{MULTIPLIER, INCREMENT, SPREAD, WEIGHTS}
use Rattle.grid_design.specs.Parts.{cell_count, terminal_count, nodes_of}
use Rattle.grid_design.specs.Weights.{state}
use Rattle.grid_design.specs.Texts.{line_of, header, stated, node_line, nodes_text, net_name, net_lines, net_lines_from, weight_line, subrow_line, row_lines}
use Rattle.grid_design.proofs.Appended.{behind, behind_if, pieces_more}
use Rattle.grid_design.proofs.Lined.{take_all}

-- the lines of a row
pub row_written : {T E : Type 0} (result : Result T E) (grid : Grid) (row height start sites : ℕ) (old a b c d e f new : List ℕ) → height ≡ ROW_HEIGHT → start ≡ ROW_HEIGHT * row → sites ≡ COLUMN_SITES * grid.columns
    → a ≡ old ++ line_of (codes "CoreRow" ∷ codes "Horizontal" ∷ []) → b ≡ a ++ stated (codes "Coordinate") start → c ≡ b ++ stated (codes "Height") height
    → d ≡ c ++ stated (codes "Sitewidth") 1 → e ≡ d ++ stated (codes "Sitespacing") 1 → f ≡ e ++ subrow_line sites → OnOk result (new ≡ f ++ line_of (codes "End" ∷ []))
    → OnOk result (new ≡ old ++ row_lines grid row)
row_written result grid row height start sites old a b c d e f new height_is start_is sites_is at_a at_b at_c at_d at_e at_f at_new =
    let to_b : b ≡ a ++ stated (codes "Coordinate") (ROW_HEIGHT * row) = at_b ∙ ap (λ n. a ++ stated (codes "Coordinate") n) start_is in
    let to_c : c ≡ b ++ stated (codes "Height") ROW_HEIGHT = at_c ∙ ap (λ n. b ++ stated (codes "Height") n) height_is in
    let to_f : f ≡ e ++ subrow_line (COLUMN_SITES * grid.columns) = at_f ∙ ap (λ n. e ++ subrow_line n) sites_is in
    let two = behind old (line_of (codes "CoreRow" ∷ codes "Horizontal" ∷ [])) (stated (codes "Coordinate") (ROW_HEIGHT * row)) a b at_a to_b in
    let three = behind old _ (stated (codes "Height") ROW_HEIGHT) b c two to_c in
    let four = behind old _ (stated (codes "Sitewidth") 1) c d three at_d in
    let five = behind old _ (stated (codes "Sitespacing") 1) d e four at_e in
    let six = behind old _ (subrow_line (COLUMN_SITES * grid.columns)) e f five to_f in
    behind_if result old _ (line_of (codes "End" ∷ [])) f new six at_new

-- the text of the nodes
pub nodes_written : (grid : Grid) (nodes : List Node) (k cells terminals : ℕ) (a b c new : List ℕ) → nodes ≡ nodes_of grid → length nodes ≤ k → cells ≡ cell_count grid → terminals ≡ terminal_count grid
    → a ≡ header (codes "nodes") → b ≡ a ++ stated (codes "NumNodes") (cells + terminals) → c ≡ b ++ stated (codes "NumTerminals") terminals → new ≡ c ++ flat_map node_line (take k nodes)
    → new ≡ nodes_text grid
nodes_written grid nodes k cells terminals a b c new nodes_are all cells_are terminals_are at_a at_b at_c at_new =
    let to_b : b ≡ a ++ stated (codes "NumNodes") (cell_count grid + terminal_count grid) =
    at_b ∙ ap (λ n. a ++ stated (codes "NumNodes") (n + terminals)) cells_are ∙ ap (λ n. a ++ stated (codes "NumNodes") (cell_count grid + n)) terminals_are in
    let to_c : c ≡ b ++ stated (codes "NumTerminals") (terminal_count grid) = at_c ∙ ap (λ n. b ++ stated (codes "NumTerminals") n) terminals_are in
    at_new ∙ ap (λ xs. c ++ flat_map node_line xs) (take_all k nodes all ∙ nodes_are)
    ∙ ap (λ text. text ++ flat_map node_line (nodes_of grid)) (to_c ∙ ap (λ text. text ++ stated (codes "NumTerminals") (terminal_count grid)) (to_b ∙ ap (λ text. text ++ stated (codes "NumNodes") (cell_count grid + terminal_count grid)) at_a))

-- the lines of nets behind those of others
net_lines_from-append : (n : ℕ) (xs ys : List Net) → net_lines_from n (xs ++ ys) ≡ net_lines_from n xs ++ net_lines_from (n + length xs) ys
net_lines_from-append n [] ys = ap (λ m. net_lines_from m ys) (omega arith)
net_lines_from-append n (x ∷ xs) ys =
    let number : n + 1 + length xs ≡ n + length (x ∷ xs) = omega arith in
    ap (λ text. net_lines n x ++ text) (net_lines_from-append (n + 1) xs ys ∙ ap (λ m. net_lines_from (n + 1) xs ++ net_lines_from m ys) number)
    ∙ sym (append_assoc (net_lines n x) (net_lines_from (n + 1) xs) (net_lines_from (n + length (x ∷ xs)) ys))

-- the lines of one more net
pub net_lines_more : (nets : List Net) (i : ℕ) (net : Net) (old now new : List ℕ) → i < length nets → now ≡ old ++ net_lines_from 0 (take i nets) → new ≡ now ++ net_lines i (get_or nets i net)
    → new ≡ old ++ net_lines_from 0 (take (i + 1) nets)
net_lines_more nets i net old now new there before put =
    let number : 0 + length (take i nets) ≡ i = omega (arith, length-take-le i nets (omega arith)) in
    let more : net_lines_from 0 (take (i + 1) nets) ≡ net_lines_from 0 (take i nets) ++ net_lines i (get_or nets i net) =
    ap (net_lines_from 0) (take_more nets i net there) ∙ net_lines_from-append 0 (take i nets) (get_or nets i net ∷ [])
    ∙ ap (λ m. net_lines_from 0 (take i nets) ++ net_lines_from m (get_or nets i net ∷ [])) number
    ∙ ap (λ text. net_lines_from 0 (take i nets) ++ text) (append-nil (net_lines i (get_or nets i net))) in
    behind old (net_lines_from 0 (take i nets)) (net_lines i (get_or nets i net)) now new before put ∙ ap (λ text. old ++ text) (sym more)

-- the next state, and the line of the weight that it gives
pub state_more : (number k now next : ℕ) → now ≡ state number k → next ≡ (now * MULTIPLIER + INCREMENT) % 2 ^ 64 → next ≡ state number (suc k)
state_more number k now next before step = step ∙ ap (λ s. (s * MULTIPLIER + INCREMENT) % 2 ^ 64) before

pub weights_more : (number k next weight : ℕ) (old now new : List ℕ) → next ≡ state number (suc k) → weight ≡ 1 + next / SPREAD % WEIGHTS → now ≡ old ++ flat_map (weight_line number) (range_with_len 0 k)
    → new ≡ now ++ line_of (net_name k ∷ decimal weight ∷ []) → new ≡ old ++ flat_map (weight_line number) (range_with_len 0 (k + 1))
weights_more number k next weight old now new state_is weight_is before put =
    pieces_more (weight_line number) old now new k before (put ∙ ap (λ w. now ++ line_of (net_name k ∷ decimal w ∷ [])) (weight_is ∙ ap (λ s. 1 + s / SPREAD % WEIGHTS) state_is))
