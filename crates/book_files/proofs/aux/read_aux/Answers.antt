use Rattle.std.proofs.Common.{rules, Ok, Err}
use Rattle.book_files.specs.Forms.Aux.{aux_form}
use Rattle.book_files.specs.AuxRules.{aux_grammar}
use Rattle.book_files.specs.Entries.{aux_entry}
use Rattle.book_files.proofs.Bridge.{answers_of}
use Rattle.book_files.proofs.AuxDecides.{aux_decided}
use Rattle.book_files.proofs.aux.read_aux.Goals as goal

pub returns-in_err-keep_lines : goal.returns-in_err-keep_lines
returns-in_err-keep_lines c = answers_of aux_form aux_grammar aux_decided aux_entry c.args.bytes.now c.from_residual.result (search rules)

pub returns-in-Some : goal.returns-in-Some
returns-in-Some c = answers_of aux_form aux_grammar aux_decided aux_entry c.args.bytes.now (Ok c.in-Some.file) (search rules)

pub returns-in-None : goal.returns-in-None
returns-in-None c = answers_of aux_form aux_grammar aux_decided aux_entry c.args.bytes.now (Err c.fault_at_end.result) (search rules)
