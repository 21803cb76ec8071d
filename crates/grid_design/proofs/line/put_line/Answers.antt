use Rattle.std.proofs.Common.{arith}
use Rattle.grid_design.proofs.Lined.{line_written}
use Rattle.grid_design.proofs.line.put_line.Goals as goal

pub returns : goal.returns
returns c =
    line_written c.args.words.now _ c.loop-word.word-index c.args.text.now.items c.put_word.new.text.items c.loop-word.text.items c.push-2.new.self.items
    c.in-len1-up.len_at_least c.in_ok-put_word.ensures (omega arith) c.loop-word.invariant c.in_ok-push-3.ensures.items
