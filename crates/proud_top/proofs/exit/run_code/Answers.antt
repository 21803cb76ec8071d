use Rattle.proud_top.proofs.Saying.{said_of}
use Rattle.proud_top.proofs.exit.run_code.Goals as goal

pub returns : goal.returns
returns g c =
    let said = c.proud.ensures in
    record {
      status = c.proud.result;
      says = said_of c.args.words.now _ _ _ _ c.proud.result said.done said.usage said.refused said.read_fault said.write_fault said.memory;
      coded = c.code.ensures;
      misused = said.misused;
      only_refused = said.only_refused;
      complete = said.complete;
    }
