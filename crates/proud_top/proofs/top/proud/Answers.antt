use Rattle.std.proofs.Common.{◌≡◌, ℕ, List, subst}
use Rattle.book_outer.specs.State.{FolderState, SinkState}
use Rattle.proud_top.specs.declared.status.Status.{Status}
use Rattle.proud_top.specs.declared.status.Status.TheVariants.{Memory}
use Rattle.proud_top.specs.Statuses.{Says, IsMemory}
use Rattle.proud_top.proofs.Once.{OneAnswer}
use Rattle.proud_top.proofs.OneEnd.{one_end}
use Rattle.proud_top.proofs.Saying.{only_refused, complete}
use Rattle.proud_top.proofs.top.proud.Goals as goal

says_memory : (words : List (List ℕ)) (f f' : FolderState) (s s' : SinkState) (status : Status) → status ≡ Memory → Says status words f f' s s' → IsMemory words f f' s s'
says_memory words f f' s s' status e said =
    let P : Status → Type 0 = λ x. Says x words f f' s s' in
    subst P e said

pub returns-clause-memory : goal.returns-clause-memory
returns-clause-memory g c e = says_memory c.args.words.now _ _ _ _ c.run.result e c.run.ensures.says

pub returns-clause-one_end : goal.returns-clause-one_end
returns-clause-one_end g c files source schedule levels a b h k =
    let law = c.laws.ensures in
    let one : OneAnswer = record { aux = law.aux; nodes = law.nodes; nets = law.nets; wts = law.wts; pl = law.pl; scl = law.scl; schedule = law.schedule; join = law.join; network = law.network; levels = law.levels; gap = law.gap; greedy = law.greedy } in
    one_end one files source schedule levels a b h k

pub returns-clause-only_refused : goal.returns-clause-only_refused
returns-clause-only_refused g c files refusal known cause calm =
    let law = c.laws.ensures in
    let one : OneAnswer = record { aux = law.aux; nodes = law.nodes; nets = law.nets; wts = law.wts; pl = law.pl; scl = law.scl; schedule = law.schedule; join = law.join; network = law.network; levels = law.levels; gap = law.gap; greedy = law.greedy } in
    only_refused one c.one_request.ensures.one files c.args.words.now _ _ (g.S.Sink.state c.args.report.now) (g.S.Sink.state c.run.new.report) refusal c.run.result known cause calm c.run.ensures.says

pub returns-clause-complete : goal.returns-clause-complete
returns-clause-complete g c files known given calm still quiet =
    let law = c.laws.ensures in
    let one : OneAnswer = record { aux = law.aux; nodes = law.nodes; nets = law.nets; wts = law.wts; pl = law.pl; scl = law.scl; schedule = law.schedule; join = law.join; network = law.network; levels = law.levels; gap = law.gap; greedy = law.greedy } in
    complete one c.one_request.ensures.one files c.args.words.now _ _ _ _ c.run.result known given calm still quiet c.run.ensures.says
