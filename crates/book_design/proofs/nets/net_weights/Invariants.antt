use Rattle.std.proofs.Common.{◌≡◌, map, take}
use Rattle.book_files.specs.Blocks.{net_entry}
use Rattle.book_design.specs.Joined.{weight_of}
use Rattle.book_design.specs.Forms.Sources.{records_of}
use Rattle.book_design.specs.Forms.Parts.{whole_weight}
use Rattle.book_design.proofs.nets.net_weights.Given as goal

abbrev pub invariant-loop-net : goal.invariant-loop-net
invariant-loop-net l = l.weights.items ≡ map (λ block. whole_weight (weight_of (records_of l.records) (net_entry block))) (take l.net-index l.records.nets.now)
