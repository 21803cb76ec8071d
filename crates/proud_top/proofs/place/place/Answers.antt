use Rattle.std.proofs.Common.{◌≡◌, ◌<◌, ℕ, List, length, Ok, Err, refl, sym, ◌∙◌, ap, subst, inl, inr}
use Rattle.std.specs.Prelude.{All}
use Rattle.std.proofs.lemmas.List.{length-map}
use Rattle.std.proofs.lemmas.Result.{err_from_is_err_and}
use Rattle.book_design.specs.Values.{DesignValue}
use Rattle.pad_reach.specs.Chain.{HasChain}
use Rattle.pad_reach.specs.Reaches.{IsFirstUnanchored}
use Rattle.pad_reach.specs.Refusal.{IsRefusal}
use Rattle.pad_reach.specs.declared.search.ReachError.{ReachError}
use Rattle.pad_reach.specs.declared.search.ReachError.TheVariants as reach_error
use Rattle.net_model.specs.Values.{NetworkValue}
use Rattle.net_model.specs.Network.{IsNetwork, network_of}
use Rattle.net_model.specs.Numbered.{point_nodes}
use Rattle.net_model.specs.Answers.{Answers as NetAnswers}
use Rattle.net_model.specs.declared.fault.NetError.{NetError}
use Rattle.net_model.specs.declared.fault.NetError.TheVariants as net_error
use Rattle.net_model.specs.Webs.{joints_of}
use Rattle.level_run.specs.declared.rounds.Rounds.{Rounds}
use Rattle.level_run.specs.Rounds.{last_round}
use Rattle.level_run.specs.declared.level.Level.{Level}
use Rattle.level_run.specs.Levels.{IsGap, level_at}
use Rattle.row_space.specs.Values.{SegmentsValue}
use Rattle.row_space.specs.Runs.{segments_of}
use Rattle.row_legal.specs.declared.parts.Place.{Place}
use Rattle.row_legal.specs.declared.parts.Wish.{Wish}
use Rattle.row_legal.specs.declared.fault.LegalError.{LegalError}
use Rattle.row_legal.specs.declared.fault.LegalError.TheVariants as legal_error
use Rattle.row_legal.specs.Cells.{CellsValue, cells_of}
use Rattle.row_legal.specs.Ranges.{AreGoodCells}
use Rattle.row_legal.specs.Places.{IsLegalised}
use Rattle.row_legal.specs.Answers.{IsRefusal as IsRoomless}
use Rattle.row_legal.specs.Legal.{IsLegal}
use Rattle.row_legal.specs.Spots.{spots_of, AreSitesOf}
use Rattle.proud_top.specs.declared.place.Placed.{Placed}
use Rattle.proud_top.specs.Solve.{AreSolved}
use Rattle.proud_top.specs.Wishes.{AreWishes, AreCells}
use Rattle.wire_report.specs.declared.corner.Corner.{Corner}
use Rattle.wire_report.specs.Wire.{IsNearCorner, wire_length}
use Rattle.wire_report.specs.Report.{report_of}
use Rattle.proud_top.specs.Placement.{corners_of, placement_of}
use Rattle.proud_top.specs.declared.stop.Stop.{Stop}
use Rattle.proud_top.specs.declared.stop.Stop.TheVariants.{ReadFault, Refused, Memory}
use Rattle.proud_top.specs.Texts.{Texts}
use Rattle.proud_top.specs.Forms.Stops.{stop_of_net, stop_of_reach, stop_of_legal, Designs, Places}
use Rattle.proud_top.proofs.Placing.{corner_each}
use Rattle.proud_top.proofs.Covering.{design_covered, net_covered, loose_covered, roomless_covered}
use Rattle.proud_top.proofs.Points.{over_cells, loose_there}
use Rattle.proud_top.proofs.Wishing.{stuck_there}
use Rattle.proud_top.proofs.place.place.Goals as goal

-- the last round is over the cells
pub point_cells-requires-clause-over : goal.point_cells-requires-clause-over
point_cells-requires-clause-over g c = over_cells c.in_ok-design.design c.in_ok-network.network c.args.rounds _ c.in_ok-network.ensures c.in_ok-levels.ensures.over

-- the cells as they are passed
cells_as : (design : DesignValue) (level : Level) (sites given_sites : List ℕ) (wishes given_wishes : List Wish) → given_sites ≡ sites → given_wishes ≡ wishes → AreSitesOf design sites → AreWishes design level wishes
    → AreCells design level (cells_of given_sites given_wishes)
cells_as design level sites given_sites wishes given_wishes e f are wished =
    let P : List ℕ → Type 0 = λ list. AreSitesOf design list in
    let Q : List Wish → Type 0 = λ list. AreWishes design level list in
    record { sites = subst P (sym e) are; wishes = subst Q (sym f) wished }

good_as : (sites given_sites : List ℕ) (wishes given_wishes : List Wish) → given_sites ≡ sites → given_wishes ≡ wishes → AreGoodCells (cells_of sites wishes) → AreGoodCells (cells_of given_sites given_wishes)
good_as sites given_sites wishes given_wishes e f good =
    let P : List ℕ → Type 0 = λ list. AreGoodCells (cells_of list wishes) in
    let Q : List Wish → Type 0 = λ list. AreGoodCells (cells_of given_sites list) in
    subst Q (sym f) (subst P (sym e) good)

pub legalise-requires-clause-cells : goal.legalise-requires-clause-cells
legalise-requires-clause-cells g c = good_as _ c.deref.result.now _ c.deref-2.result.now c.deref.ensures.value c.deref-2.ensures.value c.in_ok-cells.ensures.good

pub corners-requires-clause-placed : goal.corners-requires-clause-placed
corners-requires-clause-placed g c = record {
  cells = cells_of c.deref.result.now c.deref-2.result.now;
  spaced = c.in_ok-segments.ensures.segments;
  sites = (cells_as c.in_ok-design.design _ _ c.deref.result.now _ c.deref-2.result.now c.deref.ensures.value c.deref-2.ensures.value c.in_ok-cells.ensures.sites c.in_ok-cells.ensures.wishes).sites;
  legalised = c.in_ok-sites.ensures.answer;
}

-- the join of the texts stopped the flow
design_stops : (rounds : Rounds) (texts : Texts) (stop : Stop) → Designs texts (Err stop) → Places rounds texts (Err stop)
design_stops rounds texts (Refused refusal) h = (inr (h.0, h.1, inl h.2), design_covered texts refusal h)
design_stops rounds texts (ReadFault kind) h = h
design_stops rounds texts Memory h = tt

pub returns-in_err-design : goal.returns-in_err-design
returns-in_err-design g c =
    let stop = c.in_err-design.field-0.0 in
    let p = err_from_is_err_and c.from_residual.result c.from_residual.ensures.1 in
    let q : p.0 ≡ stop = p.2 in
    rw (p.1, q) (design_stops c.args.rounds _ stop c.in_err-design.ensures)

-- a fault of the nets did
net_stops : (rounds : Rounds) (texts : Texts) (design : DesignValue) (error : NetError) → Designs texts (Ok design) → NetAnswers design (Err error) → Places rounds texts (Err (stop_of_net error))
net_stops rounds texts design (net_error.Fault fault) h first = (inr (h.0, h.1, inr (design, h.2, inl (fault, refl, first))), net_covered texts design fault h first)
net_stops rounds texts design net_error.Memory h first = tt

pub returns-in_err-network : goal.returns-in_err-network
returns-in_err-network g c =
    let error = c.in_err-network.field-0.0 in
    let p = err_from_is_err_and c.from_residual-in_err-network.result c.from_residual-in_err-network.ensures.1 in
    let q : p.0 ≡ stop_of_net error = p.2 in
    rw (p.1, q) (net_stops c.args.rounds _ c.in_ok-design.design error c.in_ok-design.ensures c.in_err-network.ensures)

-- the search for pads did
reach_stops : (rounds : Rounds) (texts : Texts) (design : DesignValue) (network : NetworkValue) (error : ReachError) → Designs texts (Ok design) → IsNetwork design network
    → ((point : ℕ) → IsFirstUnanchored (joints_of (network_of design)) point → point < length (point_nodes design)) → IsRefusal (joints_of network) error → Places rounds texts (Err (stop_of_reach error))
reach_stops rounds texts design network (reach_error.Unanchored point) h made law first =
    (inr (h.0, h.1, inr (design, h.2, inr (network, made, inl (point, refl, first)))), loose_covered texts design point h (loose_there design network point made (law point) first))
reach_stops rounds texts design network reach_error.Memory h made law first = tt

pub returns-in_err-reach : goal.returns-in_err-reach
returns-in_err-reach g c =
    let error = c.in_err-reach.field-0.0 in
    let p = err_from_is_err_and c.from_residual-in_err-reach.result c.from_residual-in_err-reach.ensures.1 in
    let q : p.0 ≡ stop_of_reach error = p.2 in
    rw (p.1, q) (reach_stops c.args.rounds _ c.in_ok-design.design c.in_ok-network.network error c.in_ok-design.ensures c.in_ok-network.ensures
    (λ point. c.unanchored_is_movable.ensures c.in_ok-design.design point c.points-points.ensures.valid) c.in_err-reach.ensures.steps)

chained : (network : NetworkValue) → ((p : ℕ) → p < length (joints_of network) → HasChain (joints_of network) p) → (p : ℕ) → p < length network.points → HasChain (joints_of network) p
chained network h p there = h p (rw length-map there)

-- the greedy rule did, where there was no room
legal_stops : (rounds : Rounds) (texts : Texts) (design : DesignValue) (network : NetworkValue) (levels : List Level) (rows : SegmentsValue) (cells : CellsValue) (error : LegalError) → Designs texts (Ok design) → IsNetwork design network
    → ((p : ℕ) → p < length network.points → HasChain (joints_of network) p) → AreSolved network rounds levels → rows ≡ segments_of design → AreCells design (level_at levels (last_round rounds)) cells
    → IsRoomless rows cells error → Places rounds texts (Err (stop_of_legal error))
legal_stops rounds texts design network levels rows cells (legal_error.NoRoom cell sites largest) h made chains solved spaced are stuck = (
  inr (h.0, h.1, inr (design, h.2, inr (network, made, inr (tt, chains, inr (levels, solved, inr (rows, spaced, inr (cells, are, inl (cell, sites, largest, refl, stuck)))))))),
  roomless_covered texts design cell sites largest h (stuck_there design (level_at levels (last_round rounds)) rows cells cell sites largest are stuck),
)
legal_stops rounds texts design network levels rows cells legal_error.Memory h made chains solved spaced are stuck = tt

pub returns-in_err-sites : goal.returns-in_err-sites
returns-in_err-sites g c =
    let error = c.in_err-sites.field-0.0 in
    let cells = cells_of c.deref.result.now c.deref-2.result.now in
    let are = cells_as c.in_ok-design.design _ _ c.deref.result.now _ c.deref-2.result.now c.deref.ensures.value c.deref-2.ensures.value c.in_ok-cells.ensures.sites c.in_ok-cells.ensures.wishes in
    let p = err_from_is_err_and c.from_residual-in_err-sites.result c.from_residual-in_err-sites.ensures.1 in
    let q : p.0 ≡ stop_of_legal error = p.2 in
    rw (p.1, q) (legal_stops c.args.rounds _ c.in_ok-design.design c.in_ok-network.network c.in_ok-levels.levels c.in_ok-segments.segments cells error c.in_ok-design.ensures c.in_ok-network.ensures
    (chained c.in_ok-network.network c.in_ok-reach.ensures.chains) c.in_ok-levels.ensures.solved c.in_ok-segments.ensures.segments are c.in_err-sites.ensures.answer)

-- or memory was wanting
pub returns-in_err-levels : goal.returns-in_err-levels
returns-in_err-levels g c =
    let p = err_from_is_err_and c.from_residual-in_err-levels.result c.from_residual-in_err-levels.ensures.1 in
    let q : p.0 ≡ Memory = p.2 in
    rw (p.1, q) tt

pub returns-in_err-segments : goal.returns-in_err-segments
returns-in_err-segments g c =
    let p = err_from_is_err_and c.from_residual-in_err-segments.result c.from_residual-in_err-segments.ensures.1 in
    let q : p.0 ≡ Memory = p.2 in
    rw (p.1, q) tt

pub returns-in_err-cells : goal.returns-in_err-cells
returns-in_err-cells g c =
    let p = err_from_is_err_and c.from_residual-in_err-cells.result c.from_residual-in_err-cells.ensures.1 in
    let q : p.0 ≡ Memory = p.2 in
    rw (p.1, q) tt

pub returns-in_err-corners : goal.returns-in_err-corners
returns-in_err-corners g c =
    let p = err_from_is_err_and c.from_residual-in_err-corners.result c.from_residual-in_err-corners.ensures.1 in
    let q : p.0 ≡ Memory = p.2 in
    rw (p.1, q) tt

pub returns-in_err-file : goal.returns-in_err-file
returns-in_err-file g c =
    let p = err_from_is_err_and c.from_residual-in_err-file.result c.from_residual-in_err-file.ensures.1 in
    let q : p.0 ≡ Memory = p.2 in
    rw (p.1, q) tt

pub returns-in_err-wire : goal.returns-in_err-wire
returns-in_err-wire g c =
    let p = err_from_is_err_and c.from_residual-in_err-wire.result c.from_residual-in_err-wire.ensures.1 in
    let q : p.0 ≡ Memory = p.2 in
    rw (p.1, q) tt

pub returns-in_err-report : goal.returns-in_err-report
returns-in_err-report g c =
    let p = err_from_is_err_and c.from_residual-in_err-report.result c.from_residual-in_err-report.ensures.1 in
    let q : p.0 ≡ Memory = p.2 in
    rw (p.1, q) tt

-- the corners as they are passed
each_as : (design : DesignValue) (rows : SegmentsValue) (places : List Place) (corners given : List Corner) → given ≡ corners → corners ≡ corners_of design (spots_of rows places) → length given ≡ length design.nodes
each_as design rows places corners given e is = ap length (e ∙ is) ∙ corner_each design (spots_of rows places)

pub placement_text-requires : goal.placement_text-requires
placement_text-requires g c = each_as c.in_ok-design.design c.in_ok-segments.segments c.in_ok-sites.sites _ _ c.deref-3.ensures.value c.in_ok-corners.ensures.corners

pub hpwl-requires-clause-each : goal.hpwl-requires-clause-each
hpwl-requires-clause-each g c = λ κs lives. each_as c.in_ok-design.design c.in_ok-segments.segments c.in_ok-sites.sites _ c.deref-4.result.now c.deref-4.ensures.value c.in_ok-corners.ensures.corners

pub hpwl-requires-clause-near : goal.hpwl-requires-clause-near
hpwl-requires-clause-near g c = λ κs lives.
    let P : List Corner → Type 0 = λ list. All IsNearCorner list in
    subst P (sym c.deref-4.ensures.value) c.in_ok-corners.ensures.near

-- what is placed
placed_whole : (rounds : Rounds) (texts : Texts) (design : DesignValue) (network : NetworkValue) (levels : List Level) (rows : SegmentsValue) (cells : CellsValue) (places : List Place) (corners for_text for_wire : List Corner) (wire gap : ℕ) (placed : Placed)
    → Designs texts (Ok design) → IsNetwork design network → ((p : ℕ) → p < length network.points → HasChain (joints_of network) p) → AreSolved network rounds levels → rows ≡ segments_of design → AreCells design (level_at levels (last_round rounds)) cells
    → IsLegalised rows cells places → IsLegal design (spots_of rows places) → corners ≡ corners_of design (spots_of rows places) → for_text ≡ corners → placed.file.items ≡ placement_of design for_text → for_wire ≡ corners
    → wire ≡ wire_length design for_wire → IsGap levels gap → placed.report.items ≡ report_of design rounds.levels gap wire → Places rounds texts (Ok placed)
placed_whole rounds texts design network levels rows cells places corners for_text for_wire wire gap placed h made chains solved spaced are legalised legal stand e file f long is_gap report =
    let text = file ∙ ap (placement_of design) e in
    let length_is = long ∙ ap (wire_length design) f in (
      (h.0, h.1, (design, h.2, (network, made, (tt, chains, (levels, solved, (rows, spaced, (cells, are, (places, legalised, (corners, stand, (placed.file.items, text, (wire, length_is, (gap, is_gap, refl, report)))))))))))),
      record { records = h.0; design = design; spots = spots_of rows places; read = h.1; joined = h.2; legal = legal; is_text = text ∙ ap (placement_of design) stand },
    )

pub returns : goal.returns
returns g c =
    let cells = cells_of c.deref.result.now c.deref-2.result.now in
    let are = cells_as c.in_ok-design.design _ _ c.deref.result.now _ c.deref-2.result.now c.deref.ensures.value c.deref-2.ensures.value c.in_ok-cells.ensures.sites c.in_ok-cells.ensures.wishes in
    placed_whole c.args.rounds _ c.in_ok-design.design c.in_ok-network.network c.in_ok-levels.levels c.in_ok-segments.segments cells c.in_ok-sites.sites c.in_ok-corners.corners.items c.deref-3.result.now c.deref-4.result.now
    c.in_ok-wire.wire c.gap.result (record { file = c.in_ok-file.file; report = c.in_ok-report.report }) c.in_ok-design.ensures c.in_ok-network.ensures (chained c.in_ok-network.network c.in_ok-reach.ensures.chains)
    c.in_ok-levels.ensures.solved c.in_ok-segments.ensures.segments are c.in_ok-sites.ensures.answer c.corners.ensures.legal c.in_ok-corners.ensures.corners c.deref-3.ensures.value c.in_ok-file.ensures
    c.deref-4.ensures.value c.in_ok-wire.ensures.wire c.gap.ensures c.in_ok-report.ensures.text
