use Rattle.std.proofs.Common.{List, sym, subst}
use Rattle.std.specs.List.{count_by}
use Rattle.book_design.specs.Points.{is_movable}
use Rattle.row_legal.specs.declared.parts.Place.{Place}
use Rattle.proud_top.specs.Forms.Cells.{AreWithin}
use Rattle.proud_top.proofs.Placing.{within_of, legal_of}
use Rattle.proud_top.proofs.corners.corners.Goals as goal

pub node_corners-requires-clause-places : goal.node_corners-requires-clause-places
node_corners-requires-clause-places c =
    let design = c.args.design.now in
    let rows = c.args.segments.now in
    let places = c.args.sites.now in
    let P : List Place → Type 0 = λ list. AreWithin (count_by is_movable design.nodes) rows list in
    subst P (sym c.as_slice.ensures) (within_of design rows places (λ cells. c.places_apart.ensures.apart rows cells places) c.requires.placed)

pub returns-clause-legal : goal.returns-clause-legal
returns-clause-legal c =
    let design = c.args.design.now in
    let rows = c.args.segments.now in
    let places = c.args.sites.now in
    legal_of design rows places c.nodes-nodes.ensures.valid (λ cells. c.places_apart.ensures.apart rows cells places) (λ cells. c.places_legal.ensures.legal design cells places) c.requires.placed
