use Rattle.std.proofs.Common.{◌≡◌, ◌-◌, ◌∙◌, ℕ, sym, ap, subst}
use Rattle.std.specs.List.{count_by}
use Rattle.book_design.specs.Points.{is_movable}
use Rattle.level_run.specs.Rounds.{last_round}
use Rattle.level_run.specs.Levels.{level_at}
use Rattle.level_run.specs.declared.level.Level.{Level}
use Rattle.row_legal.specs.Cells.{cells_of}
use Rattle.proud_top.specs.Forms.Over.{IsBothOver}
use Rattle.proud_top.proofs.Wishing.{good_cells, level_read}
use Rattle.proud_top.proofs.cells.point_cells.Goals as goal

pub returns-clause-good : goal.returns-clause-good
returns-clause-good c =
    let last = c.index-as_slice-count.result in
    let P : Level → Type 0 = λ level. IsBothOver (count_by is_movable c.args.design.now.nodes) level in
    let n = c.count.result - 1 in
    let counted : n ≡ last_round c.args.rounds = ap (λ (m : ℕ). m - 1) c.count.ensures in
    let there = c.requires.over.there in
    let is = level_read c.args.levels.now c.as_slice.result.now n last c.as_slice.ensures (rw counted there) c.index-as_slice-count.is ∙ ap (level_at c.args.levels.now) counted in
    good_cells c.args.design.now last (cells_of c.in_ok-sites.sites.items c.in_ok-wishes.wishes.items) c.in_ok-sites.ensures.valid
    (record { sites = c.in_ok-sites.ensures.sites; wishes = c.in_ok-wishes.ensures }) (subst P (sym is) c.requires.over.over)
