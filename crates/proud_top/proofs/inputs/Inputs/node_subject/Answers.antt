use Rattle.std.proofs.Common.{◌∙◌, List, sym, ap, subst}
use Rattle.std.proofs.lemmas.List.{length-map}
use Rattle.book_files.specs.Entries.{NodeEntry, node_entries}
use Rattle.book_files.specs.Grammar.{IsReading}
use Rattle.book_files.specs.NodeRules.{nodes_grammar}
use Rattle.proud_top.specs.Texts.{Texts}
use Rattle.proud_top.proofs.Once.{OneAnswer}
use Rattle.proud_top.proofs.Naming.{reads_as, node_there, node_named}
use Rattle.proud_top.proofs.inputs.Inputs.node_subject.Goals as goal

pub subject_at-requires : goal.subject_at-requires
subject_at-requires c =
    let law = c.laws.ensures in
    let one : OneAnswer = record { aux = law.aux; nodes = law.nodes; nets = law.nets; wts = law.wts; pl = law.pl; scl = law.scl; schedule = law.schedule; join = law.join; network = law.network; levels = law.levels; gap = law.gap; greedy = law.greedy } in
    let R : List NodeEntry → Type 0 = λ list. IsReading nodes_grammar c.args.self.now.nodes list in
    let reading = subst R (sym c.as_slice.ensures.lines) (reads_as nodes_grammar _ c.args.self.now.nodes c.read_nodes.result _ c.read_nodes.ensures.reading c.in_ok-nodes.ensures (c.deref.ensures.value ∙ ap (λ (t : Texts). t.nodes) c.self.view_is)) in
    let there = node_there one c.args.self.now (node_entries c.as_slice.result.now) c.args.node reading c.requires in
    rw length-map at there

pub returns : goal.returns
returns c =
    let law = c.laws.ensures in
    let one : OneAnswer = record { aux = law.aux; nodes = law.nodes; nets = law.nets; wts = law.wts; pl = law.pl; scl = law.scl; schedule = law.schedule; join = law.join; network = law.network; levels = law.levels; gap = law.gap; greedy = law.greedy } in
    let R : List NodeEntry → Type 0 = λ list. IsReading nodes_grammar c.args.self.now.nodes list in
    let reading = subst R (sym c.as_slice.ensures.lines) (reads_as nodes_grammar _ c.args.self.now.nodes c.read_nodes.result _ c.read_nodes.ensures.reading c.in_ok-nodes.ensures (c.deref.ensures.value ∙ ap (λ (t : Texts). t.nodes) c.self.view_is)) in
    node_named one c.args.self.now (node_entries c.as_slice.result.now) c.args.node c.subject_at.result reading c.requires c.subject_at.ensures
