-- A seat between calls: what a step leaves of it.
use Rattle.std.proofs.Common.{◌≡◌, ℕ, ◌+◌, ◌-◌, ◌*◌, ◌^◌, ◌<◌, ◌≤◌, min, List, [], ◌++◌, append_assoc, length, set, refl, sym, ap, ◌∙◌, arith}
use Rattle.std.specs.List.{slice_index}
use Rattle.std.proofs.lemmas.List.{get_or-set_same, append-nil}
use Rattle.atomic_table.specs.Seated.{TableId}
use Rattle.relax_system.specs.declared.side.Side.{Side}
use Rattle.relax_system.specs.declared.points.Point.{Point}
use Rattle.relax_system.specs.declared.valid.TheConstants.{MOST_COORDINATE}
use Rattle.relax_system.specs.System.{point_at}
use Rattle.relax_system.specs.Sides.{Before, IsExtremal, mean_of, apart, distance}
use Rattle.relax_system.proofs.SideMeans.{Before_trans}
use Rattle.relax_system.proofs.Extremes.{extremal_there}
use Rattle.relax_table.specs.declared.rule.View.{View}
use Rattle.relax_table.specs.Ways.{is_past, one_if, IsQuietVector, IsQuietIn}
use Rattle.relax_table.specs.Step.{word_after}
use Rattle.relax_table.specs.Step.Kind.{Load, Renew}
use Rattle.relax_table.specs.Seats.{SeatState, IsSound, Advances, Continues}
use Rattle.relax_table.specs.Forms.Rule.{state_of, Stepped, IsHeld, sprout, joined, furthest, Learned}
use Rattle.relax_system.proofs.Ways.{further-first, further-second, apart-within}
use Rattle.relax_system.proofs.Distances.{distance-wide}
use Rattle.relax_table.proofs.Vectors.{AllBefore-refl, AllBefore-trans, AllBefore-set, mean_of-set, at_furthest}

pub held_loaded : (side : Side) (id id' : TableId) (v w : View) (seen : List ℕ) (moves takes i x : ℕ) → IsHeld side id v seen moves takes → Stepped side Load i v x w → IsHeld side id' w (set seen i x) moves takes
held_loaded side id id' v w seen moves takes i x held stepped = record {
  same_seen = rw stepped.view (ap (λ (s : List ℕ). set s i x) held.same_seen);
  same_moves = rw stepped.view held.same_moves;
  same_takes = rw stepped.view held.same_takes;
  unspent = rw stepped.view held.unspent;
  sound = stepped.sound id';
}

pub held_renewed : (side : Side) (id id' : TableId) (v w : View) (seen : List ℕ) (moves moves' takes i x y : ℕ) → IsHeld side id v seen moves takes → Stepped side Renew i v x w → y ≡ word_after side v.system Renew i x v.seen → moves' ≡ moves + one_if (is_past side x y)
    → IsHeld side id' w (set seen i y) moves' takes
held_renewed side id id' v w seen moves moves' takes i x y held stepped e f = record {
  same_seen = rw (stepped.view, e) (ap (λ (s : List ℕ). set s i (word_after side v.system Renew i x v.seen)) held.same_seen);
  same_moves = rw (stepped.view, f, e, held.same_moves) refl;
  same_takes = rw stepped.view held.same_takes;
  unspent = rw stepped.view held.unspent;
  sound = stepped.sound id';
}

pub advances_loaded : (side : Side) (id id' : TableId) (v w : View) (i x : ℕ) → id' ≡ id → i < length v.seen → Stepped side Load i v x w → Advances side (state_of id v) (state_of id' w)
advances_loaded side id id' v w i x same there stepped = record {
  same_table = same;
  same_system = ap (λ (z : View). z.system) stepped.view;
  same_start = ap (λ (z : View). z.start) stepped.view;
  counts = rw stepped.view (record { loads = omega arith; fetches = omega arith; moves = omega arith; takes = omega arith });
  further = rw stepped.view (AllBefore-set side v.seen v.seen i x (AllBefore-refl side v.seen) there stepped.found);
  sound = stepped.sound id';
}

pub advances_renewed : (side : Side) (id id' : TableId) (v w : View) (i x : ℕ) → id' ≡ id → i < length v.seen → Stepped side Renew i v x w → Advances side (state_of id v) (state_of id' w)
advances_renewed side id id' v w i x same there stepped = record {
  same_table = same;
  same_system = ap (λ (z : View). z.system) stepped.view;
  same_start = ap (λ (z : View). z.start) stepped.view;
  counts = rw stepped.view (record { loads = omega arith; fetches = omega arith; moves = omega arith; takes = omega arith });
  further = rw stepped.view (AllBefore-set side v.seen v.seen i _ (AllBefore-refl side v.seen) there (Before_trans side _ _ _ stepped.found (further-first side x (mean_of side v.system i v.seen))));
  sound = stepped.sound id';
}

pub advances_none : (side : Side) (s : SeatState) → IsSound side s → Advances side s s
advances_none side s sound = record {
  same_table = refl;
  same_system = refl;
  same_start = refl;
  counts = record { loads = omega arith; fetches = omega arith; moves = omega arith; takes = omega arith };
  further = AllBefore-refl side s.seen;
  sound = sound;
}

pub advances_on : (side : Side) (a b c : SeatState) → Advances side a b → Advances side b c → Advances side a c
advances_on side a b c h k = record {
  same_table = rw (k.same_table, h.same_table) refl;
  same_system = rw (k.same_system, h.same_system) refl;
  same_start = rw (k.same_start, h.same_start) refl;
  counts = record { loads = omega (arith, h.counts.loads, k.counts.loads); fetches = omega (arith, h.counts.fetches, k.counts.fetches); moves = omega (arith, h.counts.moves, k.counts.moves); takes = omega (arith, h.counts.takes, k.counts.takes) };
  further = AllBefore-trans side a.seen b.seen c.seen h.further k.further;
  sound = k.sound;
}

pub continues_none : (s : SeatState) → Continues s s
continues_none s = record { parts = refl; looked = ([], sym (append-nil s.looked)); renewed = ([], sym (append-nil s.renewed)); takes = refl }

pub continues_on : (a b c : SeatState) → Continues a b → Continues b c → Continues a c
continues_on a b c h k = record {
  parts = k.parts ∙ h.parts;
  looked = (h.looked.0 ++ k.looked.0, rw (k.looked.1, h.looked.1) (append_assoc a.looked h.looked.0 k.looked.0));
  renewed = (h.renewed.0 ++ k.renewed.0, rw (k.renewed.1, h.renewed.1) (append_assoc a.renewed h.renewed.0 k.renewed.0));
  takes = k.takes ∙ h.takes;
}

-- the mean of a point that was renewed stands before its entry
pub renewed_quiet : (side : Side) (points : List Point) (v : List ℕ) (s : SeatState) (i x y : ℕ) → IsSound side s → s.system ≡ points → i < length points → i < length v → y ≡ word_after side points Renew i x v
    → Before side (mean_of side points i (set v i y)) (slice_index (set v i y) i)
renewed_quiet side points v s i x y sound same there inside e =
    rw (mean_of-set side points i v y (rw (← same) sound.valid) there, get_or-set_same v i y 0 inside, e) (further-second side x (mean_of side points i v))

-- a seat's moves are few
pub moves-few : (side : Side) (s : SeatState) → IsSound side s → s.moves + 1 < 2 ^ 63
moves-few side s sound =
    let u = extremal_there side s.system sound.valid in
    let calm : IsQuietVector side s.system u.0 = record { in_boxes = u.1.in_boxes; quiet = u.1.quiet } in
    let wide : distance side s.start u.0 ≤ length s.start * MOST_COORDINATE =
    distance-wide side s.start u.0 MOST_COORDINATE (omega (arith, sound.start_boxes.all, u.1.in_boxes.all)) (λ i there.
    let inside : i < length s.system = omega (arith, sound.start_boxes.all) in
    let near : apart side (slice_index s.start i) (slice_index u.0 i) ≤ (point_at s.system i).hi - (point_at s.system i).lo =
    apart-within side (slice_index s.start i) (slice_index u.0 i) (point_at s.system i).lo (point_at s.system i).hi (sound.start_boxes.low i inside) (sound.start_boxes.high i inside) (u.1.in_boxes.low i inside) (u.1.in_boxes.high i inside) in
    omega (arith, (sound.valid.each i inside).limit)) in
    omega (arith, sound.paid u.0 calm, sound.valid.few, sound.start_boxes.all)

-- a seat that is split off
pub held_sprout : (side : Side) (id id' : TableId) (v w : View) (seen seen' : List ℕ) (moves takes : ℕ) → IsHeld side id v seen moves takes → seen' ≡ seen → w ≡ sprout v → IsHeld side id' w seen' 0 0
held_sprout side id id' v w seen seen' moves takes held same e = record {
  same_seen = rw (e, same) held.same_seen;
  same_moves = rw e refl;
  same_takes = rw e (omega arith);
  unspent = rw e held.unspent;
  sound = rw e (record {
    valid = held.sound.valid;
    start_boxes = held.sound.start_boxes;
    in_boxes = held.sound.in_boxes;
    started = held.sound.started;
    first = held.sound.first;
    paid = λ u calm. omega arith;
  });
}

-- the same of a view after its renewal
pub stepped_quiet : (side : Side) (points : List Point) (id : TableId) (v w : View) (i x : ℕ) → IsSound side (state_of id v) → v.system ≡ points → i < length points → i < length v.seen → Stepped side Renew i v x w → Before side (mean_of side points i w.seen) (slice_index w.seen i)
stepped_quiet side points id v w i x sound same there inside stepped =
    rw stepped.view (renewed_quiet side points v.seen (state_of id v) i x _ sound same there inside (ap (λ (p : List Point). word_after side p Renew i x v.seen) same))

-- one seat of two
pub held_joined : (side : Side) (id id' name : TableId) (v w j l : View) (seen seen' both : List ℕ) (moves moves' takes takes' takes'' : ℕ) → IsHeld side id v seen moves takes → IsHeld side id' w seen' moves' takes' → j ≡ joined side v w → Learned side j l → both ≡ furthest side seen seen'
    → takes'' ≡ min (takes + takes') (2 ^ 64 - 1) → IsHeld side name l both (moves + moves') takes''
held_joined side id id' name v w j l seen seen' both moves moves' takes takes' takes'' h k e learned f sum = record {
  same_seen = rw (f, learned.view, e, h.same_seen, k.same_seen) refl;
  same_moves = rw (learned.view, e, h.same_moves, k.same_moves) refl;
  same_takes = rw (learned.view, e) (omega (arith, h.same_takes, k.same_takes));
  unspent = rw (learned.view, e) h.unspent;
  sound = learned.sound name;
}

pub advances_joined : (side : Side) (id id' name : TableId) (v w j l : View) (seen seen' : List ℕ) (moves moves' takes takes' : ℕ) → IsHeld side id v seen moves takes → IsHeld side id' w seen' moves' takes' → j ≡ joined side v w → Learned side j l → v.system ≡ w.system → v.start ≡ w.start → name ≡ id → name ≡ id'
    → Advances side (state_of id v) (state_of name l) × Advances side (state_of id' w) (state_of name l)
advances_joined side id id' name v w j l seen seen' moves moves' takes takes' h k e learned system start one two =
    let same : length v.seen ≡ length w.seen = omega (arith, h.sound.in_boxes.all, k.sound.in_boxes.all, ap (λ (p : List Point). length p) system) in
    let view : l ≡ joined side v w = learned.view ∙ e in (
      record {
        same_table = one;
        same_system = ap (λ (z : View). z.system) view;
        same_start = ap (λ (z : View). z.start) view;
        counts = rw view (record { loads = omega arith; fetches = omega arith; moves = omega arith; takes = omega arith });
        further = rw view (λ i. rw (at_furthest side v.seen w.seen i same) (further-first side (slice_index v.seen i) (slice_index w.seen i)));
        sound = learned.sound name;
      },
      record {
        same_table = two;
        same_system = ap (λ (z : View). z.system) view ∙ system;
        same_start = ap (λ (z : View). z.start) view ∙ start;
        counts = rw view (record { loads = omega arith; fetches = omega arith; moves = omega arith; takes = omega arith });
        further = rw view (λ i. rw (at_furthest side v.seen w.seen i same) (further-second side (slice_index v.seen i) (slice_index w.seen i)));
        sound = learned.sound name;
      },
    )

-- a seat that is quiet at all points has seen the extremal vector
pub settled_extremal : (side : Side) (points : List Point) (s : SeatState) (n : ℕ) → n ≡ length points → s.system ≡ points → IsSound side s → IsQuietIn side points 0 n s.seen → IsExtremal side points s.seen
settled_extremal side points s n all same h quiet = record {
  in_boxes = rw (← same) h.in_boxes;
  quiet = λ i there. quiet i (omega arith) (omega (arith, all, there));
  first = λ u boxes calm. h.first u (rw same (record { in_boxes = boxes; quiet = calm }));
}
