use Rattle.std.proofs.Common.{◌∙◌, List, length, sym, ap, subst, option_map}
use Rattle.book_files.specs.Entries.{WeightEntry}
use Rattle.book_design.specs.Forms.Numbers.{AreNumbers}
use Rattle.book_design.specs.Forms.Sources.{entry_name, last_entry}
use Rattle.book_design.proofs.Placing.{lines_are, no_lines}
use Rattle.book_design.proofs.nets.line_weight.Goals as goal

pub weight_in-requires : goal.weight_in-requires
weight_in-requires c = subst (λ (ls : List WeightEntry). AreNumbers (entry_name ls) (length ls) c.args.numbers.now) (lines_are c.args.records.now c.in-Some.lines c.in-Some.is) c.requires

pub returns-in-Some : goal.returns-in-Some
returns-in-Some c = c.weight_in.ensures ∙ ap (λ (ls : List WeightEntry). option_map (λ line. line.weight) (last_entry ls c.args.name.now)) (sym (lines_are c.args.records.now c.in-Some.lines c.in-Some.is))

pub returns-in-None : goal.returns-in-None
returns-in-None c = ap (λ (ls : List WeightEntry). option_map (λ line. line.weight) (last_entry ls c.args.name.now)) (sym (no_lines c.args.records.now c.in-None.is))
