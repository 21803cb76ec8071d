use Rattle.std.proofs.Common.{◌≡◌, ◌<◌, ℕ, List, length, get_or, ap, ◌∙◌}
use Rattle.std.specs.Prelude.{Vec, Result, Ok, Err, IfOk, option_map}
use Rattle.std.specs.declared.alloc.Global.{Global}
use Rattle.std.proofs.lemmas.Option.{slice_get-map, slice_get-get_or}
use Rattle.book_text.specs.declared.memory.Memory.{Memory as NoMemory}
use Rattle.book_files.specs.declared.records.NodeLine.{NodeLine}
use Rattle.book_files.specs.Entries.{node_entry, node_entries}
use Rattle.proud_top.specs.Lines.{node_subject}
use Rattle.proud_top.specs.Forms.Stops.{IsSubjectAt}
use Rattle.proud_top.proofs.inputs.subject_at.Goals as goal

-- the node's name stands at its number among the entries
named : (nodes : List NodeLine) (number : ℕ) (d : NodeLine) (result : Result (Vec ℕ Global) NoMemory) → number < length nodes → IfOk result (λ subject. subject.items ≡ node_subject (get_or nodes number d).name.0.now)
    → IfOk result (λ subject. IsSubjectAt (node_entries nodes) subject.items number)
named nodes number d (Ok subject) there is = (node_entry (get_or nodes number d), slice_get-map node_entry nodes number ∙ ap (option_map node_entry) (slice_get-get_or nodes number d there), is)
named nodes number d (Err error) there is = tt

pub returns : goal.returns
returns c = named c.args.nodes.now c.args.number _ c.node_subject.result c.requires c.node_subject.ensures
