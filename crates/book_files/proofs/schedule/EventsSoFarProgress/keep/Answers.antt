use Rattle.std.proofs.Common.{sym}
use Rattle.book_files.proofs.ScheduleSteps.{event_kept}
use Rattle.book_files.proofs.schedule.EventsSoFarProgress.keep.Goals as goal

pub returns : goal.returns
returns c = event_kept _ c.args.self.now _ c.in_ok-event_of.field-0 (sym c.in_ok-event_of.ensures) c.in_ok-push.ensures.items
