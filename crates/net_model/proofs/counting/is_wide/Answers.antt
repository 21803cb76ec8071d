use Rattle.std.proofs.Common.{◌≡◌, true, ltb, sym, ◌∙◌, ap, arith, length}
use Rattle.std.proofs.lemmas.Bool.{lt-ltb, ltb-true}
use Rattle.book_design.specs.Nets.{net_value}
use Rattle.book_design.specs.Points.{is_movable}
use Rattle.book_design.specs.declared.parts.Pin.{Pin}
use Rattle.std.specs.List.{list_any}
use Rattle.net_model.specs.declared.limits.TheConstants.{MOST_CLIQUE}
use Rattle.net_model.specs.Clique.{degree}
use Rattle.net_model.specs.Numbered.{node_at}
use Rattle.net_model.proofs.CliqueNodes.{any_first}
use Rattle.net_model.proofs.CountingTerms.{members_there, wide_by}
use Rattle.net_model.proofs.counting.is_wide.Goals as goal
use Rattle.net_model.proofs.counting.is_wide.Goals.{then-nodes-gt-MOST_CLIQUE, else-nodes-gt-MOST_CLIQUE}

pub has_movable-requires : goal.has_movable-requires
has_movable-requires c = members_there (length c.args.design.now.nodes) (net_value c.args.net.now) c.args.first.now c.requires.valid c.requires.first

pub returns-then-net-gt0 : goal.returns-then-net-gt0
returns-then-net-gt0 c =
    let design = c.args.design.now in
    let net = net_value c.args.net.now in
    let tests : (ltb MOST_CLIQUE (length c.args.first.now) ≡ true) × (ltb 0 net.weight ≡ true) = elim c.if-nodes-gt-MOST_CLIQUE.branch [
      | then-nodes-gt-MOST_CLIQUE w ↦ (lt-ltb _ _ w.if-nodes-gt-MOST_CLIQUE.true, sym w.value-is ∙ c.if-net-gt0.true)
      | else-nodes-gt-MOST_CLIQUE w ↦ let more = ltb-true _ _ (sym w.value-is ∙ c.if-net-gt0.true) in absurd (omega (arith, more, w.if-nodes-gt-MOST_CLIQUE.false))
    ] in
    let many : ltb MOST_CLIQUE (degree net) ≡ true = sym (ap (λ pins. ltb MOST_CLIQUE (length pins)) c.requires.first) ∙ tests.0 in
    c.has_movable.ensures ∙ ap (list_any (λ (pin : Pin). is_movable (node_at design pin.node))) c.requires.first
    ∙ any_first (λ i. is_movable (node_at design i)) net.pins ∙ sym (wide_by design net many tests.1)
