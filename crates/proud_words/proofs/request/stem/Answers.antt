use Rattle.proud_words.proofs.Stems.{stem-cut, stem-kept}
use Rattle.proud_words.proofs.request.stem.Goals as goal

pub returns-in-Some : goal.returns-in-Some
returns-in-Some c =
    let strips = c.in-Some.ensures.cases in
    stem-cut c.args.name.now _ strips.0 strips.1 strips.2

pub returns-in-None : goal.returns-in-None
returns-in-None c = stem-kept c.args.name.now c.in-None.ensures.cases
