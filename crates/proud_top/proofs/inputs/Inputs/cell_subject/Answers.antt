use Rattle.std.proofs.Common.{◌∙◌, ap}
use Rattle.book_files.specs.NodeRules.{nodes_grammar}
use Rattle.book_files.specs.PlaceRules.{places_grammar}
use Rattle.book_design.specs.Values.{node_values}
use Rattle.proud_top.specs.Texts.{Texts}
use Rattle.proud_top.proofs.Once.{OneAnswer}
use Rattle.proud_top.proofs.Naming.{reads_as, cell_there, cell_named}
use Rattle.proud_top.proofs.inputs.Inputs.cell_subject.Goals as goal

pub subject_of_cell-requires : goal.subject_of_cell-requires
subject_of_cell-requires c =
    let law = c.laws.ensures in
    let one : OneAnswer = record { aux = law.aux; nodes = law.nodes; nets = law.nets; wts = law.wts; pl = law.pl; scl = law.scl; schedule = law.schedule; join = law.join; network = law.network; levels = law.levels; gap = law.gap; greedy = law.greedy } in
    let nodes = reads_as nodes_grammar _ c.args.self.now.nodes c.read_nodes.result _ c.read_nodes.ensures.reading c.in_ok-lines.ensures (c.deref.ensures.value ∙ ap (λ (t : Texts). t.nodes) c.self.view_is) in
    let places = reads_as places_grammar _ c.args.self.now.pl c.read_pl.result _ c.read_pl.ensures.reading c.in_ok-pl.ensures (c.deref-2.ensures.value ∙ ap (λ (t : Texts). t.pl) c.self.view_is) in
    cell_there one c.args.self.now c.in_ok-lines.lines c.in_ok-pl.pl _ c.args.cell nodes places (ap node_values c.deref-3.ensures.value ∙ c.in_ok-nodes.ensures) c.requires

pub returns : goal.returns
returns c =
    let law = c.laws.ensures in
    let one : OneAnswer = record { aux = law.aux; nodes = law.nodes; nets = law.nets; wts = law.wts; pl = law.pl; scl = law.scl; schedule = law.schedule; join = law.join; network = law.network; levels = law.levels; gap = law.gap; greedy = law.greedy } in
    let nodes = reads_as nodes_grammar _ c.args.self.now.nodes c.read_nodes.result _ c.read_nodes.ensures.reading c.in_ok-lines.ensures (c.deref.ensures.value ∙ ap (λ (t : Texts). t.nodes) c.self.view_is) in
    let places = reads_as places_grammar _ c.args.self.now.pl c.read_pl.result _ c.read_pl.ensures.reading c.in_ok-pl.ensures (c.deref-2.ensures.value ∙ ap (λ (t : Texts). t.pl) c.self.view_is) in
    cell_named one c.args.self.now c.in_ok-lines.lines c.in_ok-pl.pl _ c.args.cell c.subject_of_cell.result nodes places (ap node_values c.deref-3.ensures.value ∙ c.in_ok-nodes.ensures) c.requires c.subject_of_cell.ensures
