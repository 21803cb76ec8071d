use Rattle.std.proofs.Common.{arith, ◌≡◌, ◌∙◌, sym, subst, List, length, vec_len, ℕ, Bool}
use Rattle.std.proofs.lemmas.List.{take_at}
use Rattle.book_design.specs.declared.parts.Pin.{Pin}
use Rattle.net_model.specs.Clique.{first_pins}
use Rattle.net_model.specs.Forms.Steps.{AreMarked}
use Rattle.net_model.specs.Forms.Steps.{AreAtNodes}
use Rattle.net_model.proofs.CliqueNodes.{joined_first, first_there}
use Rattle.net_model.proofs.clique.Clique.gather.Goals as goal

pub unmark-requires-clause-marked : goal.unmark-requires-clause-marked
unmark-requires-clause-marked c =
    let long : length c.keep_first.new.seen ≡ vec_len c.args.self.now.seen = omega arith in
    let seen : c.deref_mut-2.result.now ≡ c.keep_first.new.seen = c.deref_mut-2.ensures.value ∙ take_at c.keep_first.new.seen _ _ long in
    let first : c.deref.result.now ≡ first_pins c.args.pins.now = c.deref.ensures.value ∙ c.in_ok-keep_first.ensures.first in
    let P : List Bool → Type 0 = AreMarked c.deref.result.now in
    let Q : List Pin → Type 0 = λ pins. AreMarked pins c.keep_first.new.seen in
    subst P (sym seen) (subst Q (sym first) (λ i below. c.in_ok-keep_first.ensures.marked i below ∙ sym (joined_first c.args.pins.now i)))

pub unmark-requires-clause-there : goal.unmark-requires-clause-there
unmark-requires-clause-there c =
    let long : length c.deref_mut-2.result.now ≡ vec_len c.args.self.now.seen = omega arith in
    let first : c.deref.result.now ≡ first_pins c.args.pins.now = c.deref.ensures.value ∙ c.in_ok-keep_first.ensures.first in
    let P : ℕ → Type 0 = λ n. AreAtNodes n c.deref.result.now in
    let Q : List Pin → Type 0 = AreAtNodes (vec_len c.args.self.now.seen) in
    subst P (sym long) (subst Q (sym first) (first_there (vec_len c.args.self.now.seen) c.args.pins.now c.requires.there))
