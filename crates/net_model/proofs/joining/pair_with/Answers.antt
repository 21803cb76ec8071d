use Rattle.net_model.proofs.JoiningPins.{has_no_point, pair_fixed}
use Rattle.net_model.proofs.joining.pair_with.Goals as goal

pub returns-in_ok-push-in-None : goal.returns-in_ok-push-in-None
returns-in_ok-push-in-None c =
    let fixed = has_no_point c.args.design.now.nodes c.args.pin.now.node c.in-None.ensures.point in
    pair_fixed c.args.design.now c.nodes.result.now c.args.weight c.args.pin.now _ _ _ _ _ _ c.nodes.ensures.nodes c.requires.good.there fixed c.fixed_pin.ensures c.in_ok-push-in-None.ensures.items
