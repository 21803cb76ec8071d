use Rattle.std.proofs.Common.{ℕ, ◌+◌, List, replicate, Option, None, sym, ap, ◌∙◌, subst, rules, arith}
use Rattle.pad_reach.specs.Chain.{Joint}
use Rattle.pad_reach.specs.declared.steps.Entry.{Entry}
use Rattle.pad_reach.specs.declared.search.Search.{Search}
use Rattle.pad_reach.proofs.Searching.{IsBegun, IsBegun-start, IsBegun-skip, IsBegun-added}
use Rattle.pad_reach.proofs.search.Search.new.Goals as goal
use Rattle.pad_reach.proofs.search.Search.new.Goals.{then-anchored+in_ok-add, else-anchored}

pub loop-i-init : goal.loop-i-init
loop-i-init g c =
    let web : List Joint = g.W.Web.joints c.args.web.now in
    let none = c.in_ok-found.ensures.items_if_clones_equal (λ y h. search rules) in
    let few : ℕ → List (Option Entry) = λ n. replicate n None in
    IsBegun-start web _ _ (none ∙ ap few c.points.ensures.count) c.in_ok-queue.ensures.items

pub loop-i-preserved : goal.loop-i-preserved
loop-i-preserved g c =
    let web : List Joint = g.W.Web.joints c.args.web.now in
    let found_of : Search → List (Option Entry) = λ s. s.found.items in
    let queue_of : Search → List ℕ = λ s. s.queue.items in
    let Begun : Search → Type 0 = λ s. IsBegun web (c.loop-i.i + 1) s.found.items s.queue.items in
    elim c.if-anchored.branch [
      | then-anchored+in_ok-add w ↦
          IsBegun-added web _ _ _ c.loop-i.invariant (omega arith) (sym w.if-anchored.ensures) _ _ (ap found_of w.search-is ∙ w.in_ok-add.ensures.found) (ap queue_of w.search-is ∙ w.in_ok-add.ensures.queue)
      | else-anchored w ↦ subst Begun (sym w.search-is) (IsBegun-skip web _ _ _ c.loop-i.invariant (λ a. (let loose = w.if-anchored.ensures in cc)))
    ]
