use Rattle.std.proofs.Common.{ℕ, List, refl, subst}
use Rattle.std.specs.Prelude.{Some, None}
use Rattle.proud_words.specs.Asked.{request_value}
use Rattle.proud_top.specs.declared.status.Status.TheVariants.{Usage}
use Rattle.proud_top.specs.Forms.Saying.{Delivers}
use Rattle.proud_top.specs.Forms.Stops.{placed_value}
use Rattle.proud_top.proofs.Saying.{says, says_stop, says_delivered, untouched_at, covered_take, covered_place, due_take, due_place, placed_at}
use Rattle.proud_top.proofs.Sides.{good_sides}
use Rattle.proud_top.proofs.top.run.Goals as goal

pub returns-in-Err-Usage-clause-says : goal.returns-in-Err-Usage-clause-says
returns-in-Err-Usage-clause-says g c =
    says c.args.words.now (g.F.Folder.state c.args.folder.now) (g.F.Folder.state c.args.folder.now) (g.S.Sink.state c.args.report.now) (g.S.Sink.state c.put.new.report) Usage c.put.result _
    (record { none = c.in-Err-Usage.ensures.usage c.in-Err-Usage.field-0-is; line = refl }) (record { files = refl; write_faults = refl }) c.put.ensures

pub take-requires : goal.take-requires
take-requires g c = good_sides c.args.words.now (request_value c.in-Ok.request) c.in-Ok.ensures.asked

pub refuse-requires : goal.refuse-requires
refuse-requires g c =
    let f = g.F.Folder.state c.args.folder.now in
    covered_take f (g.F.Folder.state c.take.new.folder) (request_value c.in-Ok.request).source (request_value c.in-Ok.request).schedule c.in-Err.stop c.in-Err.ensures

pub returns-in-Err-clause-says : goal.returns-in-Err-clause-says
returns-in-Err-clause-says g c =
    let f = g.F.Folder.state c.args.folder.now in
    let f' = g.F.Folder.state c.take.new.folder in
    let request = request_value c.in-Ok.request in
    says_stop c.args.words.now f f' (g.S.Sink.state c.args.report.now) (g.S.Sink.state c.refuse.new.report) None c.in-Err.stop c.refuse.result
    (untouched_at f f' request.source request.schedule c.in-Err.stop c.in-Err.ensures)
    (due_take c.args.words.now request f f' c.in-Ok.ensures.asked c.in-Err.stop c.in-Err.ensures) c.refuse.ensures

pub returns-in-Err-clause-misused : goal.returns-in-Err-clause-misused
returns-in-Err-clause-misused g c none = absurd (none (request_value c.in-Ok.request) c.in-Ok.ensures.asked)

pub returns-in-Ok-place-clause-says : goal.returns-in-Ok-place-clause-says
returns-in-Ok-place-clause-says g c =
    let f = g.F.Folder.state c.args.folder.now in
    let f' = g.F.Folder.state c.take.new.folder in
    let f'' = g.F.Folder.state c.deliver.new.folder in
    let request = request_value c.in-Ok.request in
    let D : List ℕ → Type 0 = λ name. Delivers name (placed_value c.in-Ok-place.placed) f' f'' (g.S.Sink.state c.args.report.now) (g.S.Sink.state c.deliver.new.report) c.deliver.result in
    says_delivered c.args.words.now request f f' f'' (g.S.Sink.state c.args.report.now) (g.S.Sink.state c.deliver.new.report) (placed_value c.in-Ok-place.placed) c.deliver.result
    (placed_at c.args.words.now request f f' c.in-Ok-take.taken c.in-Ok-place.placed c.in-Ok.ensures.asked c.in-Ok-take.ensures c.in-Ok-place.ensures)
    c.in-Ok-take.ensures.0 c.deliver.ensures.reads (subst D c.as_str.ensures.value c.deliver.ensures.delivers)

pub returns-in-Ok-place-clause-misused : goal.returns-in-Ok-place-clause-misused
returns-in-Ok-place-clause-misused g c none = absurd (none (request_value c.in-Ok.request) c.in-Ok.ensures.asked)

pub refuse-requires-in-Err-place : goal.refuse-requires-in-Err-place
refuse-requires-in-Err-place g c = covered_place c.in-Ok.request.rounds _ c.in-Err-place.stop c.in-Err-place.ensures

pub returns-clause-says : goal.returns-clause-says
returns-clause-says g c =
    let f = g.F.Folder.state c.args.folder.now in
    let f' = g.F.Folder.state c.take.new.folder in
    let request = request_value c.in-Ok.request in
    says_stop c.args.words.now f f' (g.S.Sink.state c.args.report.now) (g.S.Sink.state c.refuse-in-Err-place.new.report) (Some c.in-Ok-take.taken.inputs) c.in-Err-place.stop c.refuse-in-Err-place.result
    c.in-Ok-take.ensures.0
    (due_place c.args.words.now request f f' c.in-Ok-take.taken c.in-Ok.ensures.asked c.in-Ok-take.ensures c.in-Err-place.stop c.in-Err-place.ensures) c.refuse-in-Err-place.ensures

pub returns-clause-misused : goal.returns-clause-misused
returns-clause-misused g c none = absurd (none (request_value c.in-Ok.request) c.in-Ok.ensures.asked)
