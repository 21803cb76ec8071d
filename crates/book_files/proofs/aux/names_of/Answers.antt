use Rattle.std.proofs.Common.{refl, sym, ◌∙◌}
use Rattle.std.proofs.lemmas.List.Folds.{list_all-map}
use Rattle.book_files.specs.Aux.{is_file_name}
use Rattle.book_files.proofs.Names.{texts_of}
use Rattle.book_files.proofs.aux.names_of.Goals as goal

pub by_suffix-requires : goal.by_suffix-requires
by_suffix-requires c = texts_of (λ w. w.now) c.args.names.now (sym c.are_file_names.ensures ∙ c.if-are_file_names.true)

pub returns-then-are_file_names : goal.returns-then-are_file_names
returns-then-are_file_names c = let files = list_all-map is_file_name (λ w. w.now) c.args.names.now ∙ (sym c.are_file_names.ensures ∙ c.if-are_file_names.true) in rw files c.by_suffix.ensures

pub returns-else-are_file_names : goal.returns-else-are_file_names
returns-else-are_file_names c = let files = list_all-map is_file_name (λ w. w.now) c.args.names.now ∙ (sym c.are_file_names.ensures ∙ c.if-are_file_names.false) in rw files refl
