use Rattle.grid_design.specs.declared.parts.Node.TheVariants.{Terminal}
use Rattle.grid_design.proofs.Appended.{pushed_more}
use Rattle.grid_design.proofs.listing.push_terminals.Goals as goal

pub loop-number-preserved : goal.loop-number-preserved
loop-number-preserved c = pushed_more (Terminal c.args.side) c.args.nodes.now.items c.loop-number.nodes.items _ c.loop-number.number c.loop-number.invariant c.in_ok-push.ensures.items
