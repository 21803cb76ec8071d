use Rattle.std.proofs.Common.{◌≡◌, ◌∙◌, sym, ap, subst, arith, List, length, vec_len, true, false, ℕ, append-nil}
use Rattle.std.proofs.lemmas.List.{length-map, with_items_is}
use Rattle.book_design.specs.declared.parts.Pin.{Pin}
use Rattle.book_design.specs.Nets.{net_value}
use Rattle.net_model.specs.declared.counting.NetCount.{NetCount}
use Rattle.net_model.specs.Clique.{first_pins, degree}
use Rattle.net_model.specs.Network.{terms_of}
use Rattle.net_model.specs.Star.{is_wide}
use Rattle.net_model.specs.Forms.Steps.{AreAtNodes, IsUnmarked}
use Rattle.net_model.proofs.CountingTerms.{net_here, net_inside, net_there, members_there, good_net, few_first, wide_terms, counted_more, counted_all}
use Rattle.net_model.proofs.NetPairs.{net_in_pairs}
use Rattle.net_model.proofs.counting.count_nets.Goals as goal
use Rattle.net_model.proofs.counting.count_nets.Goals.{then-is_wide+in_ok-push, else-is_wide}

pub gather-requires-clause-there : goal.gather-requires-clause-there
gather-requires-clause-there c =
    let design = c.args.design.now in
    let net = c.net-item.result in
    let good = good_net design c.nets-net-items.result.now c.loop-n.n _ net c.nets-net-items.ensures.valid c.nets-net-items.ensures.nets c.loop-n-test.true c.net-item.is in
    let long : vec_len c.loop-n.clique.seen ≡ length design.nodes = omega arith in
    let P : List Pin → Type 0 = AreAtNodes (vec_len c.loop-n.clique.seen) in
    let Q : ℕ → Type 0 = λ k. AreAtNodes k net.pins in
    subst P (sym c.as_slice.ensures) (subst Q (sym long) (net_there (length design.nodes) (net_value net) good))

pub give_room-requires : goal.give_room-requires
give_room-requires c =
    let design = c.args.design.now in
    let net = net_value c.net-item.result in
    let good = good_net design c.nets-net-items.result.now c.loop-n.n _ c.net-item.result c.nets-net-items.ensures.valid c.nets-net-items.ensures.nets c.loop-n-test.true c.net-item.is in
    let first = c.deref.ensures.value ∙ c.in_ok-gather.ensures.pins ∙ ap first_pins c.as_slice.ensures in
    let P : ℕ → Type 0 = λ n. AreAtNodes n c.deref.result.now in
    subst P (sym (ap length c.deref_mut.ensures.value ∙ c.loop-n.invariant.rooms)) (members_there (length design.nodes) net c.deref.result.now good first)

pub is_wide-requires-clause-valid : goal.is_wide-requires-clause-valid
is_wide-requires-clause-valid c =
    good_net c.args.design.now c.nets-net-items.result.now c.loop-n.n _ c.net-item.result c.nets-net-items.ensures.valid c.nets-net-items.ensures.nets c.loop-n-test.true c.net-item.is

pub clique_terms-requires-clause-valid : goal.clique_terms-requires-clause-valid
clique_terms-requires-clause-valid c =
    good_net c.args.design.now c.nets-net-items.result.now c.loop-n.n _ c.net-item.result c.nets-net-items.ensures.valid c.nets-net-items.ensures.nets c.loop-n-test.true c.net-item.is

pub loop-n-preserved : goal.loop-n-preserved
loop-n-preserved c =
    let design = c.args.design.now in
    let nets = c.nets-net-items.result.now in
    let n = c.loop-n.n in
    let net = net_value c.net-item.result in
    let total = c.loop-n.count.terms in
    let stars = c.loop-n.count.stars.items in
    let here = net_here design nets n _ c.net-item.result c.nets-net-items.ensures.nets c.loop-n-test.true c.net-item.is in
    let inside = net_inside design nets n c.nets-net-items.ensures.nets c.loop-n-test.true in
    let good = good_net design nets n _ c.net-item.result c.nets-net-items.ensures.valid c.nets-net-items.ensures.nets c.loop-n-test.true c.net-item.is in
    let long : vec_len c.loop-n.clique.seen ≡ length design.nodes = omega arith in
    let rooms =
    ap length (with_items_is c.loop-n.count.rooms c.give_room.new.rooms (c.give_room.auto.rooms ∙ c.deref_mut.ensures.len))
    ∙ c.give_room.auto.rooms ∙ ap length c.deref_mut.ensures.value ∙ c.loop-n.invariant.rooms in
    let P : ℕ → Type 0 = λ k. IsUnmarked k c.gather.new.self.seen.items in
    record {
      unmarked = subst P long c.in_ok-gather.ensures.unmarked;
      counted = elim c.if-is_wide.branch [
        | then-is_wide+in_ok-push w ↦
            let wide : is_wide design net ≡ true = sym c.is_wide.ensures ∙ w.if-is_wide.true in
            let many : w.len.result ≡ degree net = w.len.ensures ∙ c.gather.new.self.pins.ok.0 ∙ ap length (c.in_ok-gather.ensures.pins ∙ ap first_pins c.as_slice.ensures) in
            let new : w.len.result ≡ terms_of design net = many ∙ sym (net_in_pairs design net good ∙ wide_terms design net wide) in
            rw (w.count-is, w.in_ok-push.ensures.items) (counted_more design n net total w.len.result stars true here inside wide new (omega (arith, many, few_first net.pins)) c.loop-n.invariant.counted)
        | else-is_wide w ↦
            let narrow : is_wide design net ≡ false = sym c.is_wide.ensures ∙ w.if-is_wide.false in
            let new : w.clique_terms.result ≡ terms_of design net = w.clique_terms.ensures.terms ∙ sym (net_in_pairs design net good) in
            rw (w.count-is, sym (append-nil stars)) (counted_more design n net total w.clique_terms.result stars false here inside narrow new (omega (arith, w.clique_terms.ensures.few)) c.loop-n.invariant.counted)
      ];
      rooms = elim c.if-is_wide.branch [
        | then-is_wide+in_ok-push w ↦ ap (λ (count : NetCount). length count.rooms.items) w.count-is ∙ rooms
        | else-is_wide w ↦ ap (λ (count : NetCount). length count.rooms.items) w.count-is ∙ rooms
      ];
    }

pub returns-clause-counted : goal.returns-clause-counted
returns-clause-counted c =
    let nets = c.nets-net-items.result.now in
    let end : c.loop-n.n ≡ length c.args.design.now.nets = omega (arith, c.loop-n-test.false, c.loop-n.auto.n-end, ap length c.nets-net-items.ensures.nets, length-map nets net_value) in
    counted_all c.args.design.now c.loop-n.n c.loop-n.count end c.loop-n.invariant.counted c.loop-n.invariant.rooms
