use Rattle.std.proofs.Common.{◌≡◌, ℕ, ◌<◌, List, length, arith, ap, ◌∙◌}
use Rattle.std.specs.List.{slice_index}
use Rattle.std.proofs.lemmas.List.{get_or_read, get_or-set_other}
use Rattle.relax_system.specs.declared.points.Point.{Point}
use Rattle.relax_system.specs.System.{IsValid}
use Rattle.relax_system.specs.Sides.{Before, mean_of}
use Rattle.relax_system.proofs.SideMeans.{Before_trans}
use Rattle.relax_system.proofs.Ways.{further-first}
use Rattle.relax_table.specs.Seats.{SeatState}
use Rattle.relax_table.proofs.Seated.{advances_on}
use Rattle.relax_table.proofs.Sweeps.{relaxed_went, relaxed_word}
use Rattle.relax_table.proofs.table.SideTable.relax_side.Goals as goal

pub returns-clause-advances : goal.returns-clause-advances
returns-clause-advances g c = advances_on g.D.Direction.side _ _ _ c.look_around-looked.ensures.advances c.renew-fetch.ensures.advances

pub returns-clause-word : goal.returns-clause-word
returns-clause-word g c =
    let valid : IsValid c.args.self.now.system = rw (← c.look_around-looked.ensures.own.same_system) c.look_around-looked.ensures.advances.sound.valid in
    relaxed_word g.D.Direction.side c.args.self.now.system c.look_around-looked.new.seat.seen c.renew-fetch.new.seat.seen c.args.i c.renew-fetch.result.old c.renew-fetch.result.new valid c.requires.point c.renew-fetch.ensures.seen c.renew-fetch.ensures.word

pub returns-clause-moved : goal.returns-clause-moved
returns-clause-moved g c =
    let mid = c.look_around-looked.new.seat in
    let system : length mid.system ≡ length c.args.self.now.system = ap (λ (l : List Point). length l) c.look_around-looked.ensures.own.same_system in
    let there : c.args.i < length mid.seen = omega (arith, c.look_around-looked.ensures.advances.sound.in_boxes.all, c.requires.point) in
    let seen : c.seat.inside.seen.items ≡ mid.seen = c.seat.invariant.1.same_seen ∙ ap (λ (s : SeatState). s.seen) c.seat.view_is in
    let inside : c.args.i < length c.seat.inside.seen.items = omega (arith, ap (λ (l : List ℕ). length l) seen) in
    let before : c.index-before.result.now ≡ slice_index mid.seen c.args.i = get_or_read c.seat.inside.seen.items _ _ inside c.index-before.ensures 0 ∙ ap (λ (l : List ℕ). slice_index l c.args.i) seen in
    let on : Before g.D.Direction.side (slice_index mid.seen c.args.i) c.renew-fetch.result.new =
    rw c.renew-fetch.ensures.word (Before_trans g.D.Direction.side _ _ _ c.renew-fetch.ensures.found.1 (further-first g.D.Direction.side c.renew-fetch.result.old (mean_of g.D.Direction.side c.args.self.now.system c.args.i mid.seen))) in
    rw c.either-moved.ensures (relaxed_went g.D.Direction.side c.args.seat.now mid c.renew-fetch.new.seat c.args.i c.renew-fetch.result.new c.index-before.result.now c.look_around-looked.result c.differs.result c.know.ensures c.look_around-looked.ensures.advances
    c.renew-fetch.ensures.advances there c.renew-fetch.ensures.seen on before c.look_around-looked.ensures.moved c.differs.ensures)

pub returns-clause-others : goal.returns-clause-others
returns-clause-others g c = λ j other none.
    rw c.renew-fetch.ensures.seen (get_or-set_other c.look_around-looked.new.seat.seen c.args.i j c.renew-fetch.result.new 0 other ∙ c.look_around-looked.ensures.others j none)
