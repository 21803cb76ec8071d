-- One cell more has its segment.
use Rattle.std.proofs.Common.{◌≡◌, ◌≢◌, ℕ, ◌+◌, ◌-◌, ◌<◌, Bool, true, false, cond, eqb, List, [], ◌∷◌, ◌++◌, length, set, take, Option, Some, None, refl, sym, ap, ◌∙◌, subst, inl, inr, arith, ℤ, pos}
use Rattle.std.specs.Prelude.{slice_index}
use Rattle.std.proofs.lemmas.Bool.{cases_lt, cases_order}
use Rattle.std.proofs.lemmas.Bool.Decides.{nat_tests}
use Rattle.std.proofs.lemmas.List.{take-append-le, take_all, get_or_append_left, get_or_push, length_push, get_or-set_same, get_or-set_other}
use Rattle.std.proofs.lemmas.List.Sums.{sum_by_push}
use Rattle.row_space.specs.declared.parts.Segment.{Segment}
use Rattle.row_legal.specs.declared.turns.Turn.{Turn}
use Rattle.row_legal.specs.declared.picking.Choice.{Choice}
use Rattle.row_legal.specs.Forms.Turns.{turn_at}
use Rattle.row_legal.specs.Forms.Search.{AreRooms, IsNearest}
use Rattle.row_legal.specs.Forms.Choices.{choice_of, choice_at, occupied, room_after, AreChosen}

-- rooms that are the same give the same nearest segment
pub nearest_by : (pitch : ℤ) (segments : List Segment) (room same : ℕ → ℕ) (turn : Turn) (found : Option ℕ) → ((s : ℕ) → s < length segments → room s ≡ same s)
    → IsNearest pitch segments room turn found → IsNearest pitch segments same turn found
nearest_by pitch segments room same turn None is none = λ t fits. none t (record { there = fits.there; enough = omega (arith, fits.enough, is t fits.there) })
nearest_by pitch segments room same turn (Some s) is nearest = (
  record { there = nearest.0.there; enough = omega (arith, nearest.0.enough, is s nearest.0.there) },
  λ t fits. nearest.1 t (record { there = fits.there; enough = omega (arith, fits.enough, is t fits.there) }),
)

-- of no cells
pub no_choices : (pitch : ℤ) (segments : List Segment) (turns : List Turn) → AreChosen pitch segments turns []
no_choices pitch segments turns = record { few = omega arith; each = λ i lt. absurd (omega arith) }

pub choices_more : (pitch : ℤ) (segments : List Segment) (turns : List Turn) (choices : List Choice) (turn : Turn) (s : ℕ) → AreChosen pitch segments turns choices
    → length choices < length turns → turn ≡ turn_at turns (length choices) → IsNearest pitch segments (room_after segments choices) turn (Some s)
    → AreChosen pitch segments turns (choices ++ choice_of turn s ∷ [])
choices_more pitch segments turns choices turn s are more at nearest = record {
  few = omega (arith, length_push choices (choice_of turn s));
  each = λ i lt. elim (cases_lt i (length choices)) [
    | inl before ↦
        let front = take-append-le i choices (choice_of turn s ∷ []) (omega arith) in
        let here = get_or_append_left choices (choice_of turn s ∷ []) (record { x = pos 0; cell = 0; segment = 0; sites = 0 }) i before in
        rw (front, here) (are.each i before)
    | inr from ↦
        let last : i ≡ length choices = omega (arith, length_push choices (choice_of turn s)) in
        let front : take i (choices ++ choice_of turn s ∷ []) ≡ choices = take-append-le i choices (choice_of turn s ∷ []) (omega arith) ∙ take_all i choices from in
        let here : choice_at (choices ++ choice_of turn s ∷ []) i ≡ choice_of turn s = get_or_push choices (choice_of turn s) (record { x = pos 0; cell = 0; segment = 0; sites = 0 }) i (sym last) in
        let turn_is : turn_at turns i ≡ turn = ap (turn_at turns) last ∙ sym at in
        rw (front, here, turn_is) (record { of_turn = refl; nearest = nearest })
  ];
}

occupied_push : (choices : List Choice) (choice : Choice) (t : ℕ) → occupied (choices ++ choice ∷ []) t ≡ occupied choices t + cond (eqb choice.segment t) choice.sites 0
occupied_push choices choice t = sum_by_push (λ (choice : Choice). cond (eqb choice.segment t) choice.sites 0) choices choice

-- the rooms that a choice leaves
pub rooms_more : (segments : List Segment) (choices : List Choice) (rooms : List ℕ) (turn : Turn) (s room : ℕ) → length rooms ≡ length segments
    → ((t : ℕ) → t < length segments → slice_index rooms t ≡ room_after segments choices t) → s < length segments → room ≡ slice_index rooms s - turn.sites.0
    → (t : ℕ) → t < length segments → slice_index (set rooms s room) t ≡ room_after segments (choices ++ choice_of turn s ∷ []) t
rooms_more segments choices rooms turn s room all left there is t lt =
    let push = occupied_push choices (choice_of turn s) t in
    elim (cases_order s t) [
      | inl same ↦
          let test : eqb s t ≡ true = grind (arith, nat_tests) in
          let here : slice_index (set rooms s room) t ≡ room = subst (λ u. slice_index (set rooms s room) u ≡ room) same (get_or-set_same rooms s room 0 (omega arith)) in
          let old : slice_index rooms s ≡ room_after segments choices t = ap (slice_index rooms) same ∙ left t lt in
          let share : cond (eqb s t) turn.sites.0 0 ≡ turn.sites.0 = ap (λ (b : Bool). cond b turn.sites.0 0) test in
          omega (arith, push, here, is, old, share)
      | inr other ↦
          let differ : t ≢ s = elim other [ inl lt ↦ omega arith | inr gt ↦ omega arith ] in
          let test : eqb s t ≡ false = grind (arith, nat_tests) in
          let here = get_or-set_other rooms s t room 0 differ in
          let share : cond (eqb s t) turn.sites.0 0 ≡ 0 = ap (λ (b : Bool). cond b turn.sites.0 0) test in
          omega (arith, push, here, left t lt, share)
    ]

pub rooms_fit : (segments : List Segment) (choices : List Choice) (rooms : List ℕ) → length rooms ≡ length segments
    → ((t : ℕ) → t < length segments → slice_index rooms t ≡ room_after segments choices t) → AreRooms segments rooms
rooms_fit segments choices rooms all left = record { all = all; most = λ s lt. omega (arith, left s lt) }
