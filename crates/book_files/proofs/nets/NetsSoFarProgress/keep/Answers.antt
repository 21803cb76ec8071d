use Rattle.std.proofs.Common.{refl, sym, ◌∙◌}
use Rattle.book_files.proofs.NetSteps.{header_kept, total_kept, pin_total_kept, net_kept, pin_kept}
use Rattle.book_files.proofs.nets.NetsSoFarProgress.keep.Goals as goal

pub returns-else-not-is_header : goal.returns-else-not-is_header
returns-else-not-is_header c = header_kept _ c.args.self.now _ c.if-not-self.true (sym c.is_header.ensures ∙ c.if-not-is_header.false) refl refl refl refl refl refl

pub returns-in_ok-count_of : goal.returns-in_ok-count_of
returns-in_ok-count_of c = total_kept _ c.args.self.now _ c.in_ok-count_of.field-0 c.if-not-self.false (sym c.is_keyed.ensures ∙ c.if-is_keyed.true) (rw c.is_some.ensures at c.in_ok-count_of.ensures)
    c.if-not-self.false refl refl refl refl refl

pub returns-in_ok-count_of-2 : goal.returns-in_ok-count_of-2
returns-in_ok-count_of-2 c = pin_total_kept _ c.args.self.now _ c.in_ok-count_of-2.field-0 c.if-not-self.false (sym c.is_keyed.ensures ∙ c.if-is_keyed.false) (sym c.is_keyed-else-is_keyed.ensures ∙ c.if-is_keyed-2.true)
    (rw c.is_some-then-is_keyed-2.ensures at c.in_ok-count_of-2.ensures) c.if-not-self.false refl refl refl refl refl

pub returns-in_ok-begin : goal.returns-in_ok-begin
returns-in_ok-begin c = net_kept _ c.args.self.now c.begin.new.self c.if-not-self.false (sym c.is_keyed.ensures ∙ c.if-is_keyed.false) (sym c.is_keyed-else-is_keyed.ensures ∙ c.if-is_keyed-2.false)
    (sym c.is_keyed-else-is_keyed-2.ensures ∙ c.if-is_keyed-3.true) c.in_ok-begin.ensures

pub returns-in_ok-keep_pin : goal.returns-in_ok-keep_pin
returns-in_ok-keep_pin c = pin_kept _ c.args.self.now _ c.if-not-self.false (sym c.is_keyed.ensures ∙ c.if-is_keyed.false) (sym c.is_keyed-else-is_keyed.ensures ∙ c.if-is_keyed-2.false)
    (sym c.is_keyed-else-is_keyed-2.ensures ∙ c.if-is_keyed-3.false) c.in_ok-keep_pin.ensures c.if-not-self.false refl refl c.saturating_add-self.ensures refl
