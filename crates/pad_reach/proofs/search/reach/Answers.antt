use Rattle.std.proofs.Common.{◌<◌, List, length, Option, sym, ◌∙◌, subst, arith}
use Rattle.std.proofs.lemmas.List.{take_all}
use Rattle.pad_reach.specs.Chain.{Joint}
use Rattle.pad_reach.specs.Forms.Search.{IsSettled}
use Rattle.pad_reach.specs.declared.steps.Entry.{Entry}
use Rattle.pad_reach.proofs.Chains.{reached_before, HasChain-reached, IsFirstUnanchored-found, Reaches-found, AreFalling-reaches}
use Rattle.pad_reach.proofs.search.reach.Goals as goal

pub returns-in-None-clause-steps : goal.returns-in-None-clause-steps
returns-in-None-clause-steps g c =
    let web : List Joint = g.W.Web.joints c.args.web.now in
    let Settled : List (Option Entry) → Type 0 = λ f. IsSettled web f in
    let settled = subst Settled (sym c.deref-entry-items.ensures.value) c.in_ok-found.ensures in
    IsFirstUnanchored-found web _ settled c.loop-i.i (omega (arith, settled.sound.all)) c.in-None.is (reached_before _ _ c.loop-i.i c.loop-i.invariant (omega arith))

pub returns-clause-steps : goal.returns-clause-steps
returns-clause-steps g c =
    let web : List Joint = g.W.Web.joints c.args.web.now in
    let Settled : List (Option Entry) → Type 0 = λ f. IsSettled web f in
    let settled = subst Settled (sym c.deref-entry-items.ensures.value) c.in_ok-found.ensures in
    Reaches-found web _ settled c.loop-i.entries.items (c.loop-i.invariant ∙ take_all c.loop-i.i c.deref-entry-items.result.now (omega arith))

pub returns-clause-chains : goal.returns-clause-chains
returns-clause-chains g c = λ p h.
    let web : List Joint = g.W.Web.joints c.args.web.now in
    let Settled : List (Option Entry) → Type 0 = λ f. IsSettled web f in
    let settled = subst Settled (sym c.deref-entry-items.ensures.value) c.in_ok-found.ensures in
    let there : p < length c.deref-entry-items.result.now = omega (arith, h, settled.sound.all) in
    HasChain-reached web _ settled.sound p (reached_before _ _ c.loop-i.i c.loop-i.invariant (omega arith) p (omega arith))

pub invariant_of-result : goal.invariant_of-result
invariant_of-result g c =
    let web : List Joint = g.W.Web.joints c.args.web.now in
    let Settled : List (Option Entry) → Type 0 = λ f. IsSettled web f in
    let settled = subst Settled (sym c.deref-entry-items.ensures.value) c.in_ok-found.ensures in
    AreFalling-reaches web _ (Reaches-found web _ settled c.loop-i.entries.items (c.loop-i.invariant ∙ take_all c.loop-i.i c.deref-entry-items.result.now (omega arith)))
