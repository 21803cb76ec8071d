use Rattle.std.proofs.Common.{◌≡◌, ◌+◌, ◌-◌, ◌<◌, ◌++◌, ◌∷◌, [], ℕ, ℤ, length, Some, w64, to_z, of_z, sym, ap, ◌∙◌, subst, arith}
use Rattle.std.specs.Prelude.{slice_index}
use Rattle.std.proofs.lemmas.Int.{ints}
use Rattle.std.proofs.lemmas.List.{length-set, length_push, get_or_read}
use Rattle.row_legal.specs.declared.picking.Choice.{Choice}
use Rattle.row_legal.specs.Forms.Turns.{IsGoodTurn}
use Rattle.row_legal.specs.Forms.Turns.{turn_at}
use Rattle.row_legal.specs.Forms.Search.{IsNearest}
use Rattle.row_legal.specs.Forms.Choices.{choice_of, room_after, AreChosen}
use Rattle.row_legal.proofs.Choosing.{nearest_by, choices_more, rooms_more}
use Rattle.row_legal.proofs.picking.choose_all.Goals as goal

abbrev choice_by : ℕ → ℤ → ℕ → ℕ → Choice
choice_by segment x cell sites = record { x = x; cell = cell; segment = segment; sites = sites }

pub loop-turn-preserved : goal.loop-turn-preserved
loop-turn-preserved c =
    let pitch = to_z w64 (of_z w64 c.args.pitch) in
    let segments = c.args.segments.now in
    let choices = c.loop-turn.choices.items in
    let rooms = c.loop-turn.rooms.items in
    let s = c.in-Some.segment in
    let turn = turn_at c.args.turns.now c.loop-turn.turn-index in
    let inv = c.loop-turn.invariant in
    let good : IsGoodTurn turn = c.requires.turns c.loop-turn.turn-index (turn_at [] 0) c.loop-turn-test.true in
    let x : to_z w64 (of_z w64 turn.x) ≡ turn.x = omega (arith, ints, good.x.low, good.x.high) in
    let choice : choice_by s (to_z w64 (of_z w64 turn.x)) turn.cell turn.sites.0 ≡ choice_of turn s = ap (λ (z : ℤ). choice_by s z turn.cell turn.sites.0) x in
    let items : c.push.new.self.items ≡ choices ++ choice_of turn s ∷ [] = c.in_ok-push.ensures.items ∙ ap (λ (one : Choice). choices ++ one ∷ []) choice in
    let nearest : IsNearest pitch segments (slice_index rooms) turn (Some s) = subst (λ xs. IsNearest pitch segments (slice_index xs) turn (Some s)) c.deref.ensures.value c.in-Some.ensures in
    let by_choices = nearest_by pitch segments (slice_index rooms) (room_after segments choices) turn (Some s) inv.left nearest in
    let more : length choices < length c.args.turns.now = omega (arith, inv.many, c.loop-turn-test.true) in
    let at : turn ≡ turn_at c.args.turns.now (length choices) = ap (turn_at c.args.turns.now) (sym inv.many) in
    record {
      choices = subst (λ xs. AreChosen pitch segments c.args.turns.now xs) (sym items) (choices_more pitch segments c.args.turns.now choices turn s inv.choices more at by_choices);
      many = ap length items ∙ length_push choices (choice_of turn s) ∙ ap (λ n. n + 1) inv.many;
      all = length-set rooms s _ ∙ inv.all;
      left = λ t lt. rooms_more segments choices rooms turn s _ inv.all inv.left nearest.0.there (ap (λ n. n - turn.sites.0) (get_or_read rooms s c.index_mut.result.now (omega (arith, inv.all, nearest.0.there)) c.index_mut.ensures.value 0)) t lt ∙ ap (λ xs. room_after segments xs t) (sym items);
    }
