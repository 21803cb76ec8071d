use Rattle.std.proofs.Common.{◌≡◌, map, take}
use Rattle.book_files.specs.Entries.{node_entry}
use Rattle.book_design.specs.Joined.{joined_node}
use Rattle.book_design.specs.Values.{node_values}
use Rattle.book_design.specs.Forms.Sources.{records_of}
use Rattle.book_design.proofs.nodes.nodes_at_places.Given as goal

abbrev pub invariant-loop-node : goal.invariant-loop-node
invariant-loop-node l = node_values l.nodes.items ≡ map (λ line. joined_node (records_of l.records) (node_entry line)) (take l.node-index l.records.nodes.now)
