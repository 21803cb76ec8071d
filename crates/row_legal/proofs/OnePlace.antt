-- Cells with their segments have one place each.
use Rattle.std.proofs.Common.{◌≡◌, ℕ, ◌<◌, ◌≤◌, ◌-◌, min, List, [], length, drop, refl, sym, ap, ◌∙◌, subst, arith}
use Rattle.std.specs.Prelude.{slice_index, sum}
use Rattle.std.proofs.lemmas.List.{get_or_default, same_lists}
use Rattle.row_space.specs.Values.{SegmentsValue, segment_at}
use Rattle.row_legal.specs.declared.parts.Place.{Place}
use Rattle.row_legal.specs.Cells.{CellsValue, count}
use Rattle.row_legal.specs.Greedy.{Pick, pick_at}
use Rattle.row_legal.specs.Line.{IsFirst}
use Rattle.row_legal.specs.Places.{row_order, cells_at, IsRow, desires, widths, IsPlace, place_at, IsLegalised}
use Rattle.row_legal.proofs.Locating.{pick_of, in_row}
use Rattle.row_legal.proofs.Orders.{one_order}
use Rattle.row_legal.proofs.CellOrders.{row_tells}
use Rattle.row_legal.proofs.OnePick.{one_greedy}

one_first : (ds ws : List ℕ) (i e f : ℕ) → IsFirst ds ws i e → IsFirst ds ws i f → e ≡ f
one_first ds ws i e f a b =
    two_ways (subst (λ (n : ℕ). n ≤ f) a.reached (b.above a.at a.up_to)) (subst (λ (n : ℕ). n ≤ e) b.reached (a.above b.at b.up_to)) where
      two_ways : e ≤ f → f ≤ e → e ≡ f
      two_ways low high = omega arith

one_row : (cells : CellsValue) (picks : List Pick) (s : ℕ) (row other : List ℕ) → IsRow cells picks s row → IsRow cells picks s other → row ≡ other
one_row cells picks s row other a b = one_order (row_order cells) (row_tells cells) (cells_at picks s) row other a.all b.all a.sorted b.sorted

abbrev place_by : ℕ → ℕ → Place
place_by segment site = record { segment = segment; site = site }

one_place : (rows : SegmentsValue) (cells : CellsValue) (s : ℕ) (row : List ℕ) (i : ℕ) (p q : Place) → IsPlace rows cells s row i p → IsPlace rows cells s row i q → p ≡ q
one_place rows cells s row i p q a b =
    let earliest = one_first (desires rows cells s row) (widths cells row) i a.earliest b.earliest a.is_earliest b.is_earliest in
    let site : p.site ≡ q.site = a.site ∙ ap (λ (e : ℕ). min e ((segment_at rows.segments s).sites - sum (drop i (widths cells row)))) earliest ∙ sym b.site in
    ap (λ (t : ℕ). place_by t p.site) (a.segment ∙ sym b.segment) ∙ ap (place_by q.segment) site

-- the cells of a row have these places
abbrev HasPlaces : SegmentsValue → CellsValue → List Place → ℕ → List ℕ → Type 0
HasPlaces rows cells places s row = (i : ℕ) → i < length row → IsPlace rows cells s row i (place_at places (slice_index row i))

one_at : (rows : SegmentsValue) (cells : CellsValue) (a b : List Place) → (of_a : IsLegalised rows cells a) → (of_b : IsLegalised rows cells b) → (c : ℕ) → c < count cells → place_at a c ≡ place_at b c
one_at rows cells a b of_a of_b c lt =
    let pick = pick_of cells of_a.picks c of_a.greedy.order lt in
    let s = (pick_at of_a.picks pick.at).segment in
    let there : s < length rows.segments = (of_a.greedy.choices pick.at pick.there).room.there in
    let placed_a = of_a.placed s there in
    let placed_b = of_b.placed s there in
    let picks = one_greedy rows cells of_b.picks of_a.picks of_b.greedy of_a.greedy in
    let is_b : IsRow cells of_a.picks s placed_b.row = subst (λ (ps : List Pick). IsRow cells ps s placed_b.row) picks placed_b.is_row in
    let rows_same = one_row cells of_a.picks s placed_b.row placed_a.row is_b placed_a.is_row in
    let each_b : HasPlaces rows cells b s placed_a.row = subst (HasPlaces rows cells b s) rows_same placed_b.each in
    let at = in_row cells of_a.picks s placed_a.row pick.at pick.there refl placed_a.is_row in
    let is : slice_index placed_a.row at.at ≡ c = at.is ∙ pick.is in
    subst (λ (d : ℕ). place_at a d ≡ place_at b d) is
    (one_place rows cells s placed_a.row at.at (place_at a (slice_index placed_a.row at.at)) (place_at b (slice_index placed_a.row at.at)) (placed_a.each at.at at.there) (each_b at.at at.there))

pub one_list : (rows : SegmentsValue) (cells : CellsValue) (a b : List Place) → IsLegalised rows cells a → IsLegalised rows cells b → a ≡ b
one_list rows cells a b of_a of_b = same_lists a b (of_a.all ∙ sym of_b.all) (λ k d lt.
    let same = one_at rows cells a b of_a of_b k (omega (arith, lt, of_a.all)) in
    get_or_default a k d (place_at [] 0) lt ∙ same ∙ get_or_default b k (place_at [] 0) d (omega (arith, lt, of_a.all, of_b.all)))
