use Rattle.std.proofs.Common.{◌∙◌, List, sym, ap, subst}
use Rattle.std.specs.List.{AllByRecursion}
use Rattle.book_files.specs.Entries.{PlaceEntry, place_entries}
use Rattle.book_files.specs.Ranges.{IsName, IsMarkedWell}
use Rattle.book_design.specs.Values.{NodeValue}
use Rattle.proud_top.specs.Placement.{places_of}
use Rattle.proud_top.proofs.Placing.{names_good, marks_good}
use Rattle.proud_top.proofs.placement.placement_text.Goals as goal

pub write_pl-requires : goal.write_pl-requires
write_pl-requires c =
    let corners = c.args.corners.now in
    let P : List PlaceEntry → Type 0 = λ list. AllByRecursion (λ place. IsName place.name) list in
    let Q : List PlaceEntry → Type 0 = λ list. AllByRecursion (λ place. IsMarkedWell place.fixed place.overlap) list in
    let same = ap place_entries c.deref.ensures.value ∙ c.in_ok-lines.ensures ∙ ap (λ (nodes : List NodeValue). places_of nodes corners) c.nodes.ensures.nodes in
    record {
      names = subst P (sym same) (names_good c.args.design.now corners c.nodes.ensures.valid);
      marks = subst Q (sym same) (marks_good c.args.design.now corners c.nodes.ensures.valid);
    }
