use Rattle.std.proofs.Common.{refl, sym, ◌∙◌}
use Rattle.book_files.proofs.NodeSteps.{header_kept, total_kept, terminals_kept, node_kept}
use Rattle.book_files.proofs.nodes.NodesSoFarProgress.keep.Goals as goal

pub returns-else-not-is_header : goal.returns-else-not-is_header
returns-else-not-is_header c = header_kept _ c.args.self.now _ c.if-not-self.true (sym c.is_header.ensures ∙ c.if-not-is_header.false) refl refl refl refl

pub returns-in_ok-count_of : goal.returns-in_ok-count_of
returns-in_ok-count_of c = total_kept _ c.args.self.now _ c.in_ok-count_of.field-0 c.if-not-self.false (sym c.is_keyed.ensures ∙ c.if-is_keyed.true) (rw c.is_some.ensures at c.in_ok-count_of.ensures) c.if-not-self.false refl refl refl

pub returns-in_ok-count_of-2 : goal.returns-in_ok-count_of-2
returns-in_ok-count_of-2 c = terminals_kept _ c.args.self.now _ c.in_ok-count_of-2.field-0 c.if-not-self.false (sym c.is_keyed.ensures ∙ c.if-is_keyed.false) (sym c.is_keyed-else-is_keyed.ensures ∙ c.if-is_keyed-2.true) c.in_ok-count_of-2.ensures c.if-not-self.false refl refl refl

pub returns-in_ok-push : goal.returns-in_ok-push
returns-in_ok-push c = node_kept _ c.args.self.now _ c.in_ok-node_of.field-0 c.if-not-self.false (sym c.is_keyed.ensures ∙ c.if-is_keyed.false) (sym c.is_keyed-else-is_keyed.ensures ∙ c.if-is_keyed-2.false)
    c.in_ok-node_of.ensures c.if-not-self.false refl refl c.in_ok-push.ensures.items
