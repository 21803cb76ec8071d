use Rattle.std.proofs.Common.{◌≡◌}
use Rattle.std.specs.Prelude.{option_map, string_bytes}
use Rattle.std.proofs.lemmas.Result.{err_from_is_err_and}
use Rattle.proud_words.specs.Asked.{source_value}
use Rattle.proud_top.proofs.Once.{OneAnswer}
use Rattle.proud_top.proofs.Scheduling.{schedule_stops}
use Rattle.proud_top.proofs.source.take.Goals as goal

pub returns-in_err-events : goal.returns-in_err-events
returns-in_err-events g c =
    let law = c.laws.ensures in
    let one : OneAnswer = record { aux = law.aux; nodes = law.nodes; nets = law.nets; wts = law.wts; pl = law.pl; scl = law.scl; schedule = law.schedule; join = law.join; network = law.network; levels = law.levels; gap = law.gap; greedy = law.greedy } in
    let stop = c.in_err-events.field-0.0 in
    let p = err_from_is_err_and c.from_residual-in_err-events.result c.from_residual-in_err-events.ensures.1 in
    let q : p.0 ≡ stop = p.2 in
    rw (p.1, q) (schedule_stops one (g.F.Folder.state c.args.folder.now) (g.F.Folder.state c.take_source.new.folder) (g.F.Folder.state c.events_of.new.folder)
    (source_value c.args.source.now) (option_map string_bytes c.args.schedule.now) c.in_ok-inputs.inputs stop c.in_ok-inputs.ensures c.know.ensures c.in_err-events.ensures)
