use Rattle.std.proofs.Common.{◌≡◌, ℕ, List, Err, refl, sym, subst}
use Rattle.std.specs.Prelude.{Option, option_map}
use Rattle.book_files.specs.Entries.{WeightEntry}
use Rattle.std.proofs.lemmas.Result.{err_from_is_err_and}
use Rattle.book_files.specs.NodeRules.{nodes_grammar}
use Rattle.book_files.specs.NetRules.{nets_grammar}
use Rattle.book_files.specs.PlaceRules.{places_grammar}
use Rattle.book_files.specs.RowRules.{rows_grammar}
use Rattle.book_design.specs.Records.{Records}
use Rattle.book_design.specs.declared.fault.JoinError.{JoinError}
use Rattle.book_design.specs.declared.fault.JoinError.TheVariants as join_error
use Rattle.book_design.specs.Answers.{Answers as JoinAnswers}
use Rattle.proud_top.specs.Texts.{Texts, AreWeights, AreRecords}
use Rattle.proud_top.specs.Forms.Stops.{stop_of_join, Designs}
use Rattle.proud_top.proofs.Naming.{reads_as}
use Rattle.proud_top.proofs.inputs.Inputs.design.Goals as goal

join_stops : (texts : Texts) (records : Records) (error : JoinError) → AreRecords texts records → JoinAnswers records (Err error) → Designs texts (Err (stop_of_join error))
join_stops texts records (join_error.Fault fault) read first = (records, read, (fault, refl, first))
join_stops texts records join_error.Memory read first = tt

read_texts : (texts inside : Texts) (records : Records) → inside ≡ texts → AreRecords inside records → AreRecords texts records
read_texts texts inside records e h =
    let P : Texts → Type 0 = λ t. AreRecords t records in
    subst P e h

weights_as : (shown text : Option (List ℕ)) (given weights : Option (List WeightEntry)) → shown ≡ text → given ≡ weights → AreWeights shown weights → AreWeights text given
weights_as shown text given weights e f h =
    let P : Option (List ℕ) → Type 0 = λ o. AreWeights o weights in
    let Q : Option (List WeightEntry) → Type 0 = λ w. AreWeights text w in
    subst Q (sym f) (subst P e h)

pub returns-in_err-design : goal.returns-in_err-design
returns-in_err-design c =
    let records : Records = record { nodes = c.in_ok-nodes.nodes; nets = c.in_ok-nets.nets; weights = option_map (λ w. w.now) c.as_ref.result; places = c.in_ok-pl.pl; rows = c.in_ok-scl.scl } in
    let read : AreRecords c.args.self.now records = read_texts _ _ records c.self.view_is (record {
      nodes = reads_as nodes_grammar _ _ c.read_nodes.result _ c.read_nodes.ensures.reading c.in_ok-nodes.ensures c.deref.ensures.value;
      nets = reads_as nets_grammar _ _ c.read_nets.result _ c.read_nets.ensures.reading c.in_ok-nets.ensures c.deref-2.ensures.value;
      weights = weights_as _ _ _ _ c.as_deref.ensures.value c.as_ref.ensures.value c.in_ok-wts.ensures;
      places = reads_as places_grammar _ _ c.read_pl.result _ c.read_pl.ensures.reading c.in_ok-pl.ensures c.deref-3.ensures.value;
      rows = reads_as rows_grammar _ _ c.read_scl.result _ c.read_scl.ensures.reading c.in_ok-scl.ensures c.deref-4.ensures.value;
    }) in
    let error = c.in_err-design.field-0.0 in
    let p = err_from_is_err_and c.from_residual-in_err-design.result c.from_residual-in_err-design.ensures.1 in
    let q : p.0 ≡ stop_of_join error = p.2 in
    rw (p.1, q) (join_stops _ records error read c.in_err-design.ensures)

pub returns : goal.returns
returns c =
    let records : Records = record { nodes = c.in_ok-nodes.nodes; nets = c.in_ok-nets.nets; weights = option_map (λ w. w.now) c.as_ref.result; places = c.in_ok-pl.pl; rows = c.in_ok-scl.scl } in
    let read : AreRecords c.args.self.now records = read_texts _ _ records c.self.view_is (record {
      nodes = reads_as nodes_grammar _ _ c.read_nodes.result _ c.read_nodes.ensures.reading c.in_ok-nodes.ensures c.deref.ensures.value;
      nets = reads_as nets_grammar _ _ c.read_nets.result _ c.read_nets.ensures.reading c.in_ok-nets.ensures c.deref-2.ensures.value;
      weights = weights_as _ _ _ _ c.as_deref.ensures.value c.as_ref.ensures.value c.in_ok-wts.ensures;
      places = reads_as places_grammar _ _ c.read_pl.result _ c.read_pl.ensures.reading c.in_ok-pl.ensures c.deref-3.ensures.value;
      rows = reads_as rows_grammar _ _ c.read_scl.result _ c.read_scl.ensures.reading c.in_ok-scl.ensures c.deref-4.ensures.value;
    }) in
    (records, read, c.in_ok-design.ensures)
