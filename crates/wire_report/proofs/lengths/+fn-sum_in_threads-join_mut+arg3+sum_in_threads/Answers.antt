use Rattle.std.proofs.Common.{◌≤◌, length, rules, arith}
use Rattle.wire_report.specs.Forms.Sums.{IsSumOf}
use Rattle.wire_report.proofs.Adding.{both}
use Rattle.wire_report.proofs.lengths.+fn-sum_in_threads-join_mut+arg3+sum_in_threads.Goals as goal

pub overflow_add-result : goal.overflow_add-result
overflow_add-result g t c =
    let front : IsSumOf c.args.design.now c.args.corners.now c.split_at.result.0.now c.join_mut-sum.result.0 = search rules in
    let back : IsSumOf c.args.design.now c.args.corners.now c.split_at.result.1.now c.join_mut-sum.result.1 = search rules in
    omega (arith, front.short, back.short, c.split_at.ensures.front_len, c.split_at.ensures.back_len)

pub returns : goal.returns
returns g t c =
    let front : IsSumOf c.args.design.now c.args.corners.now c.split_at.result.0.now c.join_mut-sum.result.0 = search rules in
    let back : IsSumOf c.args.design.now c.args.corners.now c.split_at.result.1.now c.join_mut-sum.result.1 = search rules in
    let within : c.min.result ≤ length c.args.nets.now = omega (arith, c.min.ensures) in
    both c.args.design.now c.args.corners.now c.args.nets.now c.split_at.result.0.now c.split_at.result.1.now c.min.result c.join_mut-sum.result.0 c.join_mut-sum.result.1 within
    c.split_at.ensures.front c.split_at.ensures.back front back
