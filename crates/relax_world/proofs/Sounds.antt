-- Each event leaves the machine sound.
use Rattle.std.proofs.Common.{◌≡◌, ℕ, ◌+◌, ◌*◌, ◌<◌, ◌≤◌, List, [], length, set, sym, ◌∙◌, subst, arith}
use Rattle.std.specs.List.{slice_index, All}
use Rattle.std.proofs.lemmas.List.{length-set, length-map, set-get_or}
use Rattle.std.proofs.lemmas.List.Elements.{All-set, All-weaker, All-replicate, All-get_or}
use Rattle.relax_system.specs.declared.side.Side.{Side}
use Rattle.relax_system.specs.declared.points.Point.{Point}
use Rattle.relax_system.specs.System.{point_at, IsValid}
use Rattle.relax_system.specs.Means.{InBoxes}
use Rattle.relax_system.specs.Sides.{Before, AllBefore, mean_of, start_of, starts_of, distance}
use Rattle.relax_system.proofs.SideMeans.{Before_refl, Before_trans, mean-low, mean-high, mean-mono}
use Rattle.relax_system.proofs.Ways.{further-first, further-within, further-low, further-high}
use Rattle.relax_system.proofs.Climbing.{InBoxes-set, IsOnWay_start}
use Rattle.relax_system.proofs.Distances.{distance-add, distance_to_set}
use Rattle.relax_system.proofs.Halvings.{starts_way}
use Rattle.relax_table.specs.Ways.{is_past, one_if, IsQuietVector}
use Rattle.relax_table.specs.Step.{Kind, word_after}
use Rattle.relax_table.specs.Step.Kind.{Load, Renew}
use Rattle.relax_table.proofs.Numbers.{counted_apart, past-self}
use Rattle.relax_table.proofs.Vectors.{AllBefore-refl, AllBefore-set, AllBefore-set_first, AllBefore-set_both, AllBefore-trans}
use Rattle.relax_world.specs.World.{WorldState, world_of, first_world, seen_by, word_by, stepped}
use Rattle.relax_world.specs.Sound.{IsSoundSight, IsSoundWorld}

-- The word that a step leaves: it stands further on, in its box, and before each quiet vector.
record IsNext (w : WorldState) (i x : ℕ) : Type 0 where
  further : Before w.side (slice_index w.words i) x
  low : (point_at w.system i).lo ≤ x
  high : x ≤ (point_at w.system i).hi
  first : (u : List ℕ) → IsQuietVector w.side w.system u → Before w.side x (slice_index u i)

next_word : (w : WorldState) (kind : Kind) (seen : List ℕ) (i : ℕ) → IsSoundWorld w → IsSoundSight w seen → i < length w.system → IsNext w i (word_after w.side w.system kind i (slice_index w.words i) seen)
next_word w Load seen i h s there = record {
  further = Before_refl w.side (slice_index w.words i);
  low = h.in_boxes.low i there;
  high = h.in_boxes.high i there;
  first = λ u calm. h.first u calm i;
}
next_word w Renew seen i h s there =
    let x : ℕ = slice_index w.words i in
    let m : ℕ = mean_of w.side w.system i seen in
    record {
      further = further-first w.side x m;
      low = further-low w.side x m _ (h.in_boxes.low i there) (mean-low w.side w.system i seen h.valid there s.in_boxes);
      high = further-high w.side x m _ (h.in_boxes.high i there) (mean-high w.side w.system i seen h.valid there s.in_boxes);
      first = λ u calm. further-within w.side x m (slice_index u i) (h.first u calm i)
          (Before_trans w.side m (mean_of w.side w.system i u) (slice_index u i)
          (mean-mono w.side w.system i seen u h.valid there (AllBefore-trans w.side seen w.words u s.behind (h.first u calm)))
          (calm.quiet i there));
    }

-- what a seat has seen is sound where it stands before words that stand before each quiet vector
sight_of : (w : WorldState) (seen : List ℕ) → ((u : List ℕ) → IsQuietVector w.side w.system u → AllBefore w.side w.words u) → InBoxes w.system seen → AllBefore w.side (starts_of w.side w.system) seen → AllBefore w.side seen w.words → IsSoundSight w seen
sight_of w seen first boxes started behind = record {
  in_boxes = boxes;
  started = started;
  behind = behind;
  extremal = λ quiet. record { in_boxes = boxes; quiet = quiet; first = λ u inside calm. AllBefore-trans w.side seen w.words u behind (first u (record { in_boxes = inside; quiet = calm })) };
}

-- a word further on, and a seat that sees it
moved : (w : WorldState) (seat i x : ℕ) (seen : List ℕ) → IsSoundWorld w → IsSoundSight w seen → i < length w.system → IsNext w i x
    → IsSoundWorld (world_of w.side w.system (set w.words i x) (set w.seen seat (set seen i x)) (w.changes + one_if (is_past w.side (slice_index w.words i) x)))
moved w seat i x seen h s there next =
    let new : WorldState = world_of w.side w.system (set w.words i x) (set w.seen seat (set seen i x)) (w.changes + one_if (is_past w.side (slice_index w.words i) x)) in
    let starts : List ℕ = starts_of w.side w.system in
    let inside : i < length w.words = omega (arith, h.in_boxes.all) in
    let inside' : i < length seen = omega (arith, s.in_boxes.all) in
    let on : AllBefore w.side w.words (set w.words i x) = AllBefore-set w.side w.words w.words i x (AllBefore-refl w.side w.words) inside next.further in
    let begun : Before w.side (slice_index starts i) x = Before_trans w.side _ _ _ (h.started i) next.further in
    let first : (u : List ℕ) → IsQuietVector w.side w.system u → AllBefore w.side (set w.words i x) u = λ u calm. AllBefore-set_first w.side w.words u i x (h.first u calm) inside (next.first u calm) in
    let mine : IsSoundSight new (set seen i x) = sight_of new (set seen i x) first
    (InBoxes-set w.system seen i x s.in_boxes there next.low next.high)
    (AllBefore-set w.side starts seen i x s.started inside' begun)
    (AllBefore-set_both w.side seen w.words i x x s.behind inside' inside (Before_refl w.side x)) in
    let others : All (IsSoundSight new) w.seen = All-weaker (IsSoundSight w) (IsSoundSight new) (λ v old. sight_of new v first old.in_boxes old.started (AllBefore-trans w.side v w.words (set w.words i x) old.behind on)) w.seen h.seats in
    let far : distance w.side starts (set w.words i x) ≡ distance w.side starts w.words + distance w.side w.words (set w.words i x) =
    distance-add w.side starts w.words (set w.words i x) (length-map w.system (start_of w.side) ∙ sym h.in_boxes.all) (sym (length-set w.words i x)) h.started on in
    record {
      valid = h.valid;
      in_boxes = InBoxes-set w.system w.words i x h.in_boxes there next.low next.high;
      started = AllBefore-set w.side starts w.words i x h.started inside begun;
      first = first;
      paid = omega (arith, far, h.paid, distance_to_set w.side w.words i x inside, counted_apart w.side (slice_index w.words i) x);
      seats = All-set (IsSoundSight new) w.seen seat (set seen i x) mine others;
    }

-- a step leaves the machine sound
pub sound_stepped : (w : WorldState) (kind : Kind) (seat point : ℕ) → IsSoundWorld w → seat < length w.seen → point < length w.words → IsSoundWorld (stepped w kind seat point)
sound_stepped w kind seat point h in' there =
    let inside : point < length w.system = omega (arith, h.in_boxes.all) in
    let sight : IsSoundSight w (seen_by w seat) = All-get_or (IsSoundSight w) w.seen seat [] in' h.seats in
    moved w seat point (word_by w kind seat point) (seen_by w seat) h sight inside (next_word w kind (seen_by w seat) point h sight inside)

-- before the first event it is sound
pub sound_first : (side : Side) (points : List Point) (seats : ℕ) → IsValid points → IsSoundWorld (first_world side points seats)
sound_first side points seats valid =
    let way = IsOnWay_start side points valid in
    let starts : List ℕ = starts_of side points in
    let first : (u : List ℕ) → IsQuietVector side points u → AllBefore side starts u = λ u calm. way.first u calm.in_boxes calm.quiet in
    record {
      valid = valid;
      in_boxes = way.in_boxes;
      started = AllBefore-refl side starts;
      first = first;
      paid = omega arith;
      seats = All-replicate (IsSoundSight (first_world side points seats)) seats starts (sight_of (first_world side points seats) starts first way.in_boxes (AllBefore-refl side starts) (AllBefore-refl side starts));
    }

-- the changes fit a counter
pub few_changes : (w : WorldState) → IsSoundWorld w → w.changes ≤ 2097152 * 2000000000000
few_changes w h =
    let few : length w.system ≤ 2097152 = h.valid.few in
    omega (arith, h.paid, few, starts_way w.side w.system w.words h.valid h.in_boxes)

-- a load leaves the words and the count as they are
pub sound_loaded : (w : WorldState) (seat point : ℕ) (put : List ℕ) → IsSoundWorld w → seat < length w.seen → point < length w.words → put ≡ set (seen_by w seat) point (slice_index w.words point)
    → IsSoundWorld (world_of w.side w.system w.words (set w.seen seat put) w.changes)
sound_loaded w seat point put h in' there e =
    let sound : IsSoundWorld (stepped w Load seat point) = sound_stepped w Load seat point h in' there in
    let same : set w.words point (slice_index w.words point) ≡ w.words = set-get_or w.words point 0 in
    let none : w.changes + one_if (is_past w.side (slice_index w.words point) (slice_index w.words point)) ≡ w.changes = omega (arith, past-self w.side (slice_index w.words point)) in
    rw e (subst (λ (n : ℕ). IsSoundWorld (world_of w.side w.system w.words (set w.seen seat (set (seen_by w seat) point (slice_index w.words point))) n)) none
    (subst (λ (l : List ℕ). IsSoundWorld (world_of w.side w.system l (set w.seen seat (set (seen_by w seat) point (slice_index w.words point))) (w.changes + one_if (is_past w.side (slice_index w.words point) (slice_index w.words point))))) same sound))

pub sound_renewed : (w : WorldState) (seat point next passed : ℕ) (put : List ℕ) → IsSoundWorld w → seat < length w.seen → point < length w.words → next ≡ word_by w Renew seat point → put ≡ set (seen_by w seat) point next
    → passed ≡ one_if (is_past w.side (slice_index w.words point) next) → IsSoundWorld (world_of w.side w.system (set w.words point next) (set w.seen seat put) (w.changes + passed))
sound_renewed w seat point next passed put h in' there e f k = rw (f, k, e) (sound_stepped w Renew seat point h in' there)
