use Rattle.std.proofs.Common.{rules, ◌≡◌}
use Rattle.std.proofs.lemmas.List.Elements.{All-pop}
use Rattle.relax_table.specs.Seats.{IsSeatOf}
use Rattle.relax_crew.proofs.crew.+fn-run_in_threads-join+arg3+run_in_threads.Goals as goal

pub join-seat-requires-after_bounds : goal.join-seat-requires-after_bounds
join-seat-requires-after_bounds g t c κs within =
    let own = All-pop (λ s. IsSeatOf c.args.table.now s) c.args.crew.items c.pop.new.self.items c.pop.result c.pop.ensures.items c.requires.seated in
    let single = All-pop (λ s. s.parts ≡ 1) c.args.crew.items c.pop.new.self.items c.pop.result c.pop.ensures.items c.requires.single in
    search rules
