use Rattle.std.proofs.Common.{◌++◌, List, ℕ, length, drop, ◌∙◌, ap, arith}
use Rattle.wire_report.proofs.Decimals.{put_of_less}
use Rattle.wire_report.proofs.report.put_fraction.Goals as goal

pub behind_first-requires : goal.behind_first-requires
behind_first-requires c =
    let put = put_of_less c.put_micro.new.out.items c.new-decimal.result.items c.from.result c.args.rest c.new-decimal.ensures.items c.from.ensures c.requires c.in_ok-put_micro.ensures.written in
    omega (arith, ap length (c.deref.ensures.value ∙ put))

pub returns : goal.returns
returns c =
    let put = put_of_less c.put_micro.new.out.items c.new-decimal.result.items c.from.result c.args.rest c.new-decimal.ensures.items c.from.ensures c.requires c.in_ok-put_micro.ensures.written in
    let behind = c.behind_first.ensures ∙ ap (drop 1) (c.deref.ensures.value ∙ put) in
    c.in_ok-extend_from_slice.ensures.items ∙ ap (λ (l : List ℕ). c.args.text.now.items ++ l) behind
