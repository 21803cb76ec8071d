use Rattle.std.proofs.Common.{◌≡◌, ◌∙◌, rules, w64, to_z, of_z}
use mir.Val.{SFits}
use Rattle.std.proofs.lemmas.Int.{to_z-of_z}
use Rattle.row_legal.specs.Cells.{cells_of}
use Rattle.row_legal.proofs.Landing.{legalised, good_choices}
use Rattle.row_legal.proofs.legal.legalise.Goals as goal

pub place_all-requires-clause-choices : goal.place_all-requires-clause-choices
place_all-requires-clause-choices c =
    let rows = c.args.segments.now in
    let cells = cells_of c.args.sites.now c.args.wishes.now in
    let told = c.in_ok-choices.ensures in
    rw (c.as_slice.ensures, c.deref.ensures.value) (good_choices rows cells c.in_ok-choices.choices.items c.requires.cells told.0 told.1)

pub returns : goal.returns
returns c =
    let rows = c.args.segments.now in
    let cells = cells_of c.args.sites.now c.args.wishes.now in
    let told = c.in_ok-choices.ensures in
    let fits : SFits w64 c.pitch.result = search rules in
    let pitch : to_z w64 (of_z w64 c.pitch.result) ≡ rows.pitch = to_z-of_z w64 c.pitch.result fits ∙ c.pitch.ensures in
    rw c.new.ensures (record {
      answer = legalised rows cells c.in_ok-choices.choices.items c.in_ok-places.places.items told.0 told.1
          (rw c.deref.ensures.value at c.in_ok-places.ensures.all) (rw (c.as_slice.ensures, c.deref.ensures.value, pitch) at c.in_ok-places.ensures.each);
    })
