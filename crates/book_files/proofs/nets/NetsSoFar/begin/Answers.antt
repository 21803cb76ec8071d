use Rattle.std.proofs.Common.{refl, ap, ◌++◌, ◌∙◌}
use Rattle.book_files.specs.Blocks.{net_entries}
use Rattle.book_files.specs.Forms.NetsSoFar.{head_entry, open_entries}
use Rattle.book_files.proofs.nets.NetsSoFar.begin.Goals as goal

pub returns : goal.returns
returns c = record {
  head = head_entry c.in_ok-head.head;
  means = rw c.in_ok-expect_whole.ensures c.in_ok-head.ensures;
  current = rw c.new-lines.ensures.items refl;
  closed = c.in_ok-close.ensures ∙ ap (λ current. net_entries c.args.self.now.closed.items ++ open_entries current) c.take.ensures.value;
  begun = refl;
  total = refl;
  pin_total = refl;
  pins = refl;
}
