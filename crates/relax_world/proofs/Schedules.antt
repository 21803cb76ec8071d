-- What an event does, by whether its seat and its point are there.
use Rattle.std.proofs.Common.{◌≡◌, ◌<◌, ◌≤◌, List, [], ◌∷◌, length, ap, ◌∙◌, ⊎_elim, arith}
use Rattle.std.specs.List.{slice_index, fold}
use Rattle.std.proofs.lemmas.List.{get_or-set_same}
use Rattle.std.proofs.lemmas.Bool.{cases_lt}
use Rattle.std.proofs.lemmas.Bool.Decides.{nat_tests}
use Rattle.relax_table.specs.Step.{seen_after}
use Rattle.book_files.specs.declared.schedule.Event.{Event}
use Rattle.book_files.specs.Schedule.{seat_of, point_of}
use Rattle.relax_world.specs.World.{WorldState, stepped, world_after, kind_of, seen_by, word_by}
use Rattle.relax_world.specs.Sound.{IsSoundWorld}
use Rattle.relax_world.proofs.Sounds.{sound_stepped}

after_there : (w : WorldState) (e : Event) → seat_of e < length w.seen → point_of e < length w.words → world_after w e ≡ stepped w (kind_of e) (seat_of e) (point_of e)
after_there w e h k = grind (arith, nat_tests)

after_no_seat : (w : WorldState) (e : Event) → length w.seen ≤ seat_of e → world_after w e ≡ w
after_no_seat w e h = grind (arith, nat_tests)

after_no_point : (w : WorldState) (e : Event) → length w.words ≤ point_of e → world_after w e ≡ w
after_no_point w e h = grind (arith, nat_tests)

pub sound_after : (w : WorldState) (e : Event) → IsSoundWorld w → IsSoundWorld (world_after w e)
sound_after w e h = ⊎_elim
    (λ (in' : seat_of e < length w.seen). ⊎_elim
    (λ (there : point_of e < length w.words). rw (after_there w e in' there) (sound_stepped w (kind_of e) (seat_of e) (point_of e) h in' there))
    (λ (past : length w.words ≤ point_of e). rw (after_no_point w e past) h)
    (cases_lt (point_of e) (length w.words)))
    (λ (past : length w.seen ≤ seat_of e). rw (after_no_seat w e past) h)
    (cases_lt (seat_of e) (length w.seen))

pub sound_run : (w : WorldState) (events : List Event) → IsSoundWorld w → IsSoundWorld (fold world_after w events)
sound_run w [] h = h
sound_run w (e ∷ events) h = sound_run (world_after w e) events (sound_after w e h)

pub word_there : (w : WorldState) (e : Event) → seat_of e < length w.seen → point_of e < length w.words → slice_index (world_after w e).words (point_of e) ≡ word_by w (kind_of e) (seat_of e) (point_of e)
word_there w e in' there = ap (λ (v : WorldState). slice_index v.words (point_of e)) (after_there w e in' there) ∙ get_or-set_same w.words (point_of e) (word_by w (kind_of e) (seat_of e) (point_of e)) 0 there

pub seen_there : (w : WorldState) (e : Event) → seat_of e < length w.seen → point_of e < length w.words
    → seen_by (world_after w e) (seat_of e) ≡ seen_after w.side w.system (kind_of e) (point_of e) (slice_index w.words (point_of e)) (seen_by w (seat_of e))
seen_there w e in' there = ap (λ (v : WorldState). seen_by v (seat_of e)) (after_there w e in' there)
    ∙ get_or-set_same w.seen (seat_of e) (seen_after w.side w.system (kind_of e) (point_of e) (slice_index w.words (point_of e)) (seen_by w (seat_of e))) [] in'
