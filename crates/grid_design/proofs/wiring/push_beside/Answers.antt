use Rattle.std.proofs.Common.{refl}
use Rattle.grid_design.specs.declared.parts.Node.TheVariants.{Terminal}
use Rattle.grid_design.specs.Parts.{net_of, cell_beside}
use Rattle.grid_design.proofs.Appended.{pushed_more}
use Rattle.grid_design.proofs.Wired.{net_pushed}
use Rattle.grid_design.proofs.wiring.push_beside.Goals as goal

pub loop-number-preserved : goal.loop-number-preserved
loop-number-preserved c =
    pushed_more (λ number. net_of (Terminal c.args.side number) (cell_beside c.args.grid c.args.side number)) c.args.nets.now.items c.loop-number.nets.items _ c.loop-number.number c.loop-number.invariant
    (net_pushed (Terminal c.args.side c.loop-number.number) c.cell_beside.result _ _ c.loop-number.nets.items _ c.in_ok-push.ensures.items refl c.cell_beside.ensures)
