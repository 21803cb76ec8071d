use Rattle.std.proofs.Common.{◌≡◌, ◌<◌, length, get_or, refl, ap, sym, ◌∙◌, arith}
use Rattle.std.specs.Prelude.{slice_index}
use Rattle.std.proofs.lemmas.List.{with_items_is}
use Rattle.book_design.specs.Nets.{net_value}
use Rattle.net_model.specs.Clique.{first_pins, degree}
use Rattle.net_model.proofs.JoiningSteps.{good_net, good_pins, good_members, distinct_members, share_is, unmarked_by, unmarked_since, net_paired, net_none, same_many}
use Rattle.net_model.proofs.StarringNets.{star_net_read, star_no_share}
use Rattle.net_model.proofs.joining.joined_points.Goals as goal
use Rattle.net_model.proofs.joining.joined_points.Goals.{then-weight-gt0+in_ok-pair_members, else-weight-gt0}

pub gather-requires-clause-unmarked : goal.gather-requires-clause-unmarked
gather-requires-clause-unmarked c = unmarked_by _ _ _ c.loop-n.clique.seen.ok.0 c.loop-n.invariant.unmarked

pub gather-requires-clause-there : goal.gather-requires-clause-there
gather-requires-clause-there c = λ k d less.
    let net = good_net c.args.design.now c.nets-net-items.result.now c.loop-n.n c.net-item.result c.nets-net-items.ensures.valid c.nets-net-items.ensures.nets c.loop-n-test.true c.net-item.is in
    let pin = good_pins _ _ c.as_slice.result.now net c.as_slice.ensures k d less in
    omega (arith, pin.there, c.loop-n.clique.seen.ok.0, c.loop-n.invariant.unmarked.all)

pub share-weight-requires : goal.share-weight-requires
share-weight-requires c =
    (good_net c.args.design.now c.nets-net-items.result.now c.loop-n.n c.net-item.result c.nets-net-items.ensures.valid c.nets-net-items.ensures.nets c.loop-n-test.true c.net-item.is).weight

pub pair_members-requires-clause-good : goal.pair_members-requires-clause-good
pair_members-requires-clause-good c =
    let net = good_net c.args.design.now c.nets-net-items.result.now c.loop-n.n c.net-item.result c.nets-net-items.ensures.valid c.nets-net-items.ensures.nets c.loop-n-test.true c.net-item.is in
    good_members _ _ c.deref-then-weight-gt0.result.now net (c.deref-then-weight-gt0.ensures.value ∙ c.in_ok-gather.ensures.pins ∙ ap first_pins c.as_slice.ensures)

pub pair_members-requires-clause-distinct : goal.pair_members-requires-clause-distinct
pair_members-requires-clause-distinct c =
    distinct_members (net_value c.net-item.result) c.deref-then-weight-gt0.result.now (c.deref-then-weight-gt0.ensures.value ∙ c.in_ok-gather.ensures.pins ∙ ap first_pins c.as_slice.ensures)

pub loop-n-preserved : goal.loop-n-preserved
loop-n-preserved c =
    let design = c.args.design.now in
    let nets = c.nets-net-items.result.now in
    let net = c.net-item.result in
    let pins = c.in_ok-gather.ensures.pins ∙ ap first_pins c.as_slice.ensures in
    let many : c.len.result ≡ degree (net_value net) = c.len.ensures ∙ c.gather.new.self.pins.ok.0 ∙ ap length pins in
    let weight = share_is (net_value net) c.len.result c.share-weight.result many c.share-weight.ensures in
    record {
      unmarked = unmarked_since (length design.nodes) _ _ _ c.loop-n.clique.seen.ok.0 c.loop-n.invariant.unmarked c.in_ok-gather.ensures.unmarked;
      joined = elim c.if-weight-gt0.branch [
        | then-weight-gt0+in_ok-pair_members w ↦
            let paired = w.in_ok-pair_members.ensures in
            let whole = with_items_is c.loop-n.points w.pair_members.new.points (same_many _ _ paired.all ∙ w.deref_mut.ensures.len) in
            rw (w.points-is, whole) (net_paired design nets c.loop-n.n net c.share-weight.result w.deref-then-weight-gt0.result.now _ _ _ c.loop-n-test.true c.net-item.is
            w.if-weight-gt0.true weight (w.deref-then-weight-gt0.ensures.value ∙ pins) w.deref_mut.ensures.value c.loop-n.invariant.joined paired)
        | else-weight-gt0 w ↦
            rw w.points-is (net_none design nets c.loop-n.n net c.share-weight.result c.loop-n.points.items c.loop-n-test.true c.net-item.is
            w.if-weight-gt0.false weight c.loop-n.invariant.joined)
      ];
    }

pub loop-n-preserved-then-is_next : goal.loop-n-preserved-then-is_next
loop-n-preserved-then-is_next c =
    let design = c.args.design.now in
    let nets = c.nets-net-items.result.now in
    let net = c.net-item.result in
    let wide = c.deref-in-loop-n.result.now in
    let next : (c.loop-n.stars < length wide) × (slice_index wide c.loop-n.stars ≡ c.loop-n.n) = c.if-is_next.ensures.0 refl in
    let star = star_net_read design nets wide c.loop-n.stars net c.nets-net-items.ensures.valid c.nets-net-items.ensures.nets (c.deref-in-loop-n.ensures.value ∙ c.requires.counted.stars) next.0
    (c.net-item.is ∙ ap (λ k. get_or nets k net) (sym next.1)) in
    record {
      unmarked = c.loop-n.invariant.unmarked;
      joined = net_none design nets c.loop-n.n net 0 c.loop-n.points.items c.loop-n-test.true c.net-item.is (omega arith) (sym (star_no_share design c.loop-n.stars (net_value net) star)) c.loop-n.invariant.joined;
    }
