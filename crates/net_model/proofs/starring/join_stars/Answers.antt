use Rattle.std.proofs.Common.{◌≡◌, ℕ, ◌<◌, [], ◌∷◌, ◌++◌, length, sym, ◌∙◌, ap, subst, arith}
use Rattle.std.proofs.lemmas.List.{with_items_is}
use Rattle.book_design.specs.Nets.{net_value}
use Rattle.book_design.specs.Values.{NetValue}
use Rattle.net_model.specs.Values.{point_values}
use Rattle.net_model.specs.Clique.{first_pins, degree}
use Rattle.net_model.specs.Star.{star_nets}
use Rattle.net_model.specs.Forms.Stars.{AreStarredTo}
use Rattle.net_model.proofs.JoiningSteps.{good_pins, good_members, distinct_members, unmarked_by, unmarked_since, same_many}
use Rattle.net_model.proofs.StarringNets.{star_net_inside, star_net_read, spoke_is, few_points}
use Rattle.net_model.proofs.StarringPoints.{starred_none, next_number, starred_pushed}
use Rattle.net_model.proofs.starring.join_stars.Goals as goal

pub loop-n-init : goal.loop-n-init
loop-n-init c = record { unmarked = c.requires.unmarked; starred = starred_none c.args.design.now (point_values c.args.points.now.items) }

pub bounds-nets-n : goal.bounds-nets-n
bounds-nets-n c = star_net_inside c.args.design.now c.nets.result.now c.args.stars.now c.loop-n.n-index c.nets.ensures.nets c.requires.stars c.loop-n-test.true

pub gather-requires-clause-unmarked : goal.gather-requires-clause-unmarked
gather-requires-clause-unmarked c = unmarked_by _ _ _ c.loop-n.clique.seen.ok.0 c.loop-n.invariant.unmarked

pub gather-requires-clause-there : goal.gather-requires-clause-there
gather-requires-clause-there c = λ k d less.
    let net = star_net_read c.args.design.now c.nets.result.now c.args.stars.now c.loop-n.n-index c.index-nets-n.result c.nets.ensures.valid c.nets.ensures.nets c.requires.stars c.loop-n-test.true c.index-nets-n.is in
    let pin = good_pins _ _ c.as_slice.result.now net.good c.as_slice.ensures k d less in
    omega (arith, pin.there, c.loop-n.clique.seen.ok.0, c.loop-n.invariant.unmarked.all)

pub spoke-weight-requires-clause-weight : goal.spoke-weight-requires-clause-weight
spoke-weight-requires-clause-weight c =
    (star_net_read c.args.design.now c.nets.result.now c.args.stars.now c.loop-n.n-index c.index-nets-n.result c.nets.ensures.valid c.nets.ensures.nets c.requires.stars c.loop-n-test.true c.index-nets-n.is).good.weight

pub spoke-weight-requires-clause-wide : goal.spoke-weight-requires-clause-wide
spoke-weight-requires-clause-wide c =
    let net = star_net_read c.args.design.now c.nets.result.now c.args.stars.now c.loop-n.n-index c.index-nets-n.result c.nets.ensures.valid c.nets.ensures.nets c.requires.stars c.loop-n-test.true c.index-nets-n.is in
    let pins = c.in_ok-gather.ensures.pins ∙ ap first_pins c.as_slice.ensures in
    omega (arith, net.wide, c.len.ensures, c.gather.new.self.pins.ok.0, ap length pins)

pub spoke-weight-requires-clause-few : goal.spoke-weight-requires-clause-few
spoke-weight-requires-clause-few c =
    let net = star_net_read c.args.design.now c.nets.result.now c.args.stars.now c.loop-n.n-index c.index-nets-n.result c.nets.ensures.valid c.nets.ensures.nets c.requires.stars c.loop-n-test.true c.index-nets-n.is in
    let pins = c.in_ok-gather.ensures.pins ∙ ap first_pins c.as_slice.ensures in
    omega (arith, net.few, c.len.ensures, c.gather.new.self.pins.ok.0, ap length pins)

pub overflow_cast-number : goal.overflow_cast-number
overflow_cast-number c =
    let design = c.args.design.now in
    let k = c.loop-n.n-index in
    let inside : k < length (star_nets design) = omega (arith, c.loop-n-test.true, ap length c.requires.stars) in
    let number = next_number design k c.len-number.result c.args.points.now.items c.loop-n.points.items (c.len-number.ensures ∙ c.loop-n.points.ok.0) c.requires.counted c.loop-n.invariant.starred in
    omega (arith, few_points design c.nets.ensures.valid, inside, number)

pub spoke_members-requires-clause-good : goal.spoke_members-requires-clause-good
spoke_members-requires-clause-good c =
    let net = star_net_read c.args.design.now c.nets.result.now c.args.stars.now c.loop-n.n-index c.index-nets-n.result c.nets.ensures.valid c.nets.ensures.nets c.requires.stars c.loop-n-test.true c.index-nets-n.is in
    good_members _ _ c.deref.result.now net.good (c.deref.ensures.value ∙ c.in_ok-gather.ensures.pins ∙ ap first_pins c.as_slice.ensures)

pub spoke_members-requires-clause-distinct : goal.spoke_members-requires-clause-distinct
spoke_members-requires-clause-distinct c =
    distinct_members (net_value c.index-nets-n.result) c.deref.result.now (c.deref.ensures.value ∙ c.in_ok-gather.ensures.pins ∙ ap first_pins c.as_slice.ensures)

pub spoke_members-requires-clause-counted : goal.spoke_members-requires-clause-counted
spoke_members-requires-clause-counted c =
    let number = next_number c.args.design.now c.loop-n.n-index _ c.args.points.now.items c.loop-n.points.items (ap length c.as_mut_slice.ensures.value) c.requires.counted c.loop-n.invariant.starred in
    omega (arith, number)

pub star_point-requires : goal.star_point-requires
star_point-requires c =
    let net = star_net_read c.args.design.now c.nets.result.now c.args.stars.now c.loop-n.n-index c.index-nets-n.result c.nets.ensures.valid c.nets.ensures.nets c.requires.stars c.loop-n-test.true c.index-nets-n.is in
    good_members _ _ c.deref-in-loop-n.result.now net.good (c.deref-in-loop-n.ensures.value ∙ c.in_ok-gather.ensures.pins ∙ ap first_pins c.as_slice.ensures)

pub loop-n-preserved : goal.loop-n-preserved
loop-n-preserved c =
    let design = c.args.design.now in
    let k = c.loop-n.n-index in
    let points = c.loop-n.points in
    let star = c.in_ok-star_point.field-0 in
    let net = star_net_read design c.nets.result.now c.args.stars.now k c.index-nets-n.result c.nets.ensures.valid c.nets.ensures.nets c.requires.stars c.loop-n-test.true c.index-nets-n.is in
    let pins = c.in_ok-gather.ensures.pins ∙ ap first_pins c.as_slice.ensures in
    let many : c.len.result ≡ degree (net_value c.index-nets-n.result) = c.len.ensures ∙ c.gather.new.self.pins.ok.0 ∙ ap length pins in
    let weight = spoke_is design k (net_value c.index-nets-n.result) c.len.result c.spoke-weight.result net many c.spoke-weight.ensures in
    let spoked = c.in_ok-spoke_members.ensures in
    let whole = with_items_is points c.spoke_members.new.points (same_many _ _ spoked.all ∙ c.as_mut_slice.ensures.len) in
    record {
      unmarked = unmarked_since (length design.nodes) _ _ _ c.loop-n.clique.seen.ok.0 c.loop-n.invariant.unmarked c.in_ok-gather.ensures.unmarked;
      starred = starred_pushed design k c.spoke-weight.result c.len-number.result c.deref.result.now c.deref-in-loop-n.result.now star c.args.points.now.items points.items
          c.as_mut_slice.result.now c.spoke_members.new.points _ weight (c.len-number.ensures ∙ points.ok.0)
          (c.deref.ensures.value ∙ pins ∙ ap (λ (v : NetValue). first_pins v.pins) net.same) (c.deref-in-loop-n.ensures.value ∙ sym c.deref.ensures.value)
          c.in_ok-star_point.ensures c.requires.counted c.as_mut_slice.ensures.value (c.in_ok-push.ensures.items ∙ ap (λ xs. xs ++ star ∷ []) whole)
          c.loop-n.invariant.starred spoked;
    }

pub returns : goal.returns
returns c =
    let design = c.args.design.now in
    let points = point_values c.loop-n.points.items in
    let P : ℕ → Type 0 = λ count. AreStarredTo design count (point_values c.args.points.now.items) points in
    let end : c.loop-n.n-index ≡ length (star_nets design) = omega (arith, c.loop-n-test.false, c.loop-n.auto.n-index-end, ap length c.requires.stars) in
    subst P end c.loop-n.invariant.starred
