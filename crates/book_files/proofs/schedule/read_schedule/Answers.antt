use Rattle.std.proofs.Common.{rules, List, Ok}
use Rattle.book_files.specs.declared.schedule.Event.{Event}
use Rattle.book_files.specs.Forms.Schedule.{event_form}
use Rattle.book_files.specs.ScheduleRules.{schedule_grammar}
use Rattle.book_files.proofs.Bridge.{answers_of}
use Rattle.book_files.proofs.ScheduleDecides.{schedule_decided}
use Rattle.book_files.proofs.ScheduleSteps.{events_few}
use Rattle.book_files.proofs.schedule.read_schedule.Goals as goal

pub returns-in_err-keep_lines-clause-reading : goal.returns-in_err-keep_lines-clause-reading
returns-in_err-keep_lines-clause-reading c = answers_of event_form schedule_grammar schedule_decided (λ (events : List Event). events) c.args.bytes.now c.from_residual.result (search rules)

pub returns-clause-reading : goal.returns-clause-reading
returns-clause-reading c = answers_of event_form schedule_grammar schedule_decided (λ (events : List Event). events) c.args.bytes.now (Ok c.keep_lines.new.progress.events.items) (search rules)

pub returns-clause-few : goal.returns-clause-few
returns-clause-few c = events_few c.args.bytes.now c.keep_lines.new.progress.events.items (search rules)
