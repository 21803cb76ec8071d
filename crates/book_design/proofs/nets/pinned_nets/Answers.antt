use Rattle.std.proofs.Common.{◌≡◌, ◌∙◌, length, map, sym, ap, arith}
use Rattle.std.proofs.lemmas.Result.{err_from_is_err_and}
use Rattle.std.proofs.lemmas.List.{length-map}
use Rattle.book_files.specs.Blocks.{net_entry}
use Rattle.book_files.specs.Entries.{NetEntry}
use Rattle.book_design.specs.Nets.{net_value, net_values}
use Rattle.book_design.specs.Forms.Sources.{records_of}
use Rattle.book_design.specs.Forms.Parts.{pinned_net}
use Rattle.book_design.proofs.Building.{built_more, built_whole}
use Rattle.book_design.proofs.Netting.{stops_in_net, known_net, known_whole, net_block, net_there, net_made}
use Rattle.book_design.proofs.nets.pinned_nets.Goals as goal

pub loop-n-init : goal.loop-n-init
loop-n-init c = record { nets = ap net_values c.new-nets.ensures.items; known = λ k below h. absurd (omega arith) }

pub returns-in_err-pins : goal.returns-in_err-pins
returns-in_err-pins c =
    let p = err_from_is_err_and c.from_residual.result c.from_residual.ensures.1 in
    let same = c.as_slice.ensures.lines ∙ ap (λ (net : NetEntry). net.pins) (sym (net_block c.args.records.now c.loop-n.n c.net-item.result c.loop-n-test.true c.net-item.is)) in
    rw (p.1, p.2) (stops_in_net (records_of c.args.records.now) c.loop-n.n _ _ (net_there c.args.records.now c.loop-n.n c.loop-n-test.true) same c.loop-n.invariant.known c.in_err-pins.ensures)

pub loop-n-preserved : goal.loop-n-preserved
loop-n-preserved c =
    let same = c.as_slice.ensures.lines ∙ ap (λ (net : NetEntry). net.pins) (sym (net_block c.args.records.now c.loop-n.n c.net-item.result c.loop-n-test.true c.net-item.is)) in
    record {
      nets = built_more net_value (λ block. pinned_net (records_of c.args.records.now) (net_entry block)) c.args.records.now.nets.now c.loop-n.n c.net-item.result c.loop-n.nets.items c.push.new.self.items _ c.loop-n-test.true c.loop-n.invariant.nets c.in_ok-push.ensures.items
          (net_made c.args.records.now c.loop-n.n c.net-item.result c.args.weights.now _ c.unwrap_or-weight.result c.in_ok-pins.pins _ c.loop-n-test.true c.net-item.is c.requires.weights c.unwrap_or-weight.ensures c.as_slice.ensures.lines c.in_ok-pins.ensures.1);
      known = known_net (records_of c.args.records.now) c.loop-n.n _ (net_there c.args.records.now c.loop-n.n c.loop-n-test.true) same c.loop-n.invariant.known c.in_ok-pins.ensures.0;
    }

pub returns : goal.returns
returns c =
    let e : length (map net_entry c.args.records.now.nets.now) ≡ length c.args.records.now.nets.now = length-map c.args.records.now.nets.now net_entry in
    (known_whole (records_of c.args.records.now) c.loop-n.n (omega (arith, c.loop-n-test.false)) c.loop-n.invariant.known, built_whole (pinned_net (records_of c.args.records.now)) net_entry c.args.records.now.nets.now c.loop-n.n _ c.loop-n-test.false c.loop-n.invariant.nets)
