use Rattle.std.proofs.Common.{◌≡◌, ◌+◌, Some, None, take, sym, ◌∙◌, lit<, arith}
use Rattle.std.specs.List.{slice_range}
use Rattle.std.proofs.lemmas.Str.Pattern.{rfind_char}
use Rattle.proud_top.proofs.Folders.{folder-last, folder-none}
use Rattle.proud_top.proofs.gather.folder_of.Goals as goal

pub returns-in-Some : goal.returns-in-Some
returns-in-Some c =
    let name = c.args.name.now in
    let found = rfind_char 47 name (Some c.in-Some.slash) c.in-Some.ensures.cases (lit< tt) in
    let front : slice_range name 0 (c.in-Some.slash + 1) ≡ take (c.in-Some.slash + 1) name = grind arith in
    c.range.ensures.value ∙ front ∙ sym (folder-last name c.in-Some.slash found.0 found.1 found.2)

pub returns-in-None : goal.returns-in-None
returns-in-None c = sym (folder-none c.args.name.now (rfind_char 47 c.args.name.now None c.in-None.ensures.cases (lit< tt)))
