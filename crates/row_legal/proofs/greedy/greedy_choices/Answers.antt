use Rattle.std.proofs.Common.{◌≡◌, List, w64, to_z, of_z, sym, ◌∙◌, subst, rules}
use mir.Val.{SFits}
use Rattle.std.proofs.lemmas.Int.{to_z-of_z}
use Rattle.row_legal.specs.declared.turns.Turn.{Turn}
use Rattle.row_legal.specs.Cells.{cells_of}
use Rattle.row_legal.specs.Forms.Turns.{AreGoodTurns}
use Rattle.row_legal.proofs.Greedily.{good_turns, answered}
use Rattle.row_legal.proofs.greedy.greedy_choices.Goals as goal

pub choose_all-requires-clause-turns : goal.choose_all-requires-clause-turns
choose_all-requires-clause-turns c =
    subst (λ (ts : List Turn). AreGoodTurns ts) (sym c.deref.ensures.value) (good_turns (cells_of c.args.sites.now c.args.wishes.now) c.in_ok-turns.turns.items c.requires.cells c.in_ok-turns.ensures)

pub returns : goal.returns
returns c =
    let fits : SFits w64 c.pitch.result = search rules in
    let pitch : to_z w64 (of_z w64 c.pitch.result) ≡ c.args.segments.now.pitch = to_z-of_z w64 c.pitch.result fits ∙ c.pitch.ensures in
    answered c.args.segments.now (cells_of c.args.sites.now c.args.wishes.now) c.in_ok-turns.turns.items c.choose_all.result
    (good_turns (cells_of c.args.sites.now c.args.wishes.now) c.in_ok-turns.turns.items c.requires.cells c.in_ok-turns.ensures) c.in_ok-turns.ensures
    (rw (c.as_slice.ensures, c.deref.ensures.value, pitch) at c.choose_all.ensures)
