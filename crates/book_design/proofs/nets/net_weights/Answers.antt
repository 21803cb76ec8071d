use Rattle.std.proofs.Common.{◌∙◌, ap}
use Rattle.book_files.specs.declared.records.NetBlock.{NetBlock}
use Rattle.book_files.specs.Blocks.{net_entry}
use Rattle.book_design.specs.Joined.{weight_of}
use Rattle.book_design.specs.Forms.Sources.{records_of}
use Rattle.book_design.specs.Forms.Parts.{whole_weight}
use Rattle.book_design.proofs.Building.{listed_more, built_whole}
use Rattle.book_design.proofs.nets.net_weights.Goals as goal

pub loop-net-init : goal.loop-net-init
loop-net-init c = c.new-weights.ensures.items

pub loop-net-preserved : goal.loop-net-preserved
loop-net-preserved c =
    listed_more (λ block. whole_weight (weight_of (records_of c.args.records.now) (net_entry block))) c.args.records.now.nets.now c.loop-net.net-index c.net-item.result c.loop-net.weights.items c.push.new.self.items c.net_weight.result c.loop-net-test.true c.loop-net.invariant c.in_ok-push.ensures.items
    (c.net_weight.ensures ∙ ap (λ (block : NetBlock). whole_weight (weight_of (records_of c.args.records.now) (net_entry block))) c.net-item.is)

pub returns : goal.returns
returns c = built_whole (λ net. whole_weight (weight_of (records_of c.args.records.now) net)) net_entry c.args.records.now.nets.now c.loop-net.net-index c.loop-net.weights.items c.loop-net-test.false c.loop-net.invariant
