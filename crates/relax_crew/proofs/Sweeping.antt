-- What a seat of a crew did, as the points that it looked at and fetched.
use Rattle.std.proofs.Common.{◌≡◌, ℕ, ◌+◌, ◌-◌, List, ◌++◌, length, nat_lt, append_assoc, ◌∙◌, ◌*◌, subst}
use Rattle.relax_system.specs.declared.points.Point.{Point}
use Rattle.relax_table.specs.declared.chase.TheConstants.{MOST_PASSES}
use Rattle.relax_table.specs.Seats.{SeatState, Continues, GoesOn, BeginsWithSweep, TakesPasses, numbers_between, nears_between}
use Rattle.relax_table.specs.Forms.Sweep.{SweepsOnce}
use Rattle.relax_crew.specs.Forms.Turns.{first_point, first_mark, marks_end, IsTurnOver, IsTurn}

-- a sweep, and then more steps
sweep_and_more : (points : List Point) (from to : ℕ) (a b c : SeatState) → SweepsOnce points from to a b → GoesOn b c → BeginsWithSweep points from to a c
sweep_and_more points from to a b c h k = record {
  parts = k.parts ∙ h.parts;
  looked = (k.looked.0, rw (← h.looked) k.looked.1);
  renewed = (k.renewed.0, rw (← h.renewed) k.renewed.1);
}

-- steps that begin with a sweep, and then more
pub begun_and_more : (points : List Point) (from to : ℕ) (c d e : SeatState) → BeginsWithSweep points from to c d → Continues d e → BeginsWithSweep points from to c e
begun_and_more points from to c d e h k = record {
  parts = k.parts ∙ h.parts;
  looked = (h.looked.0 ++ k.looked.0, rw (k.looked.1, h.looked.1) (append_assoc (c.looked ++ nears_between points from to) h.looked.0 k.looked.0));
  renewed = (h.renewed.0 ++ k.renewed.0, rw (k.renewed.1, h.renewed.1) (append_assoc (c.renewed ++ numbers_between from to) h.renewed.0 k.renewed.0));
}

-- a chase behind steps that took no mark word
chase_after : (passes from to : ℕ) (a b c : SeatState) → b.takes ≡ a.takes → TakesPasses passes from to b c → TakesPasses passes from to a c
chase_after passes from to a b c e h = record {
  done = h.done;
  takes = subst (λ n. c.takes ≡ n + h.done * (to - from)) e h.takes;
  most = h.most;
  some = h.some;
  ends = h.ends;
  goes = h.goes;
}

-- a sweep, a chase, and the settling
pub turn_over : (points : List Point) (from to first end : ℕ) (a b c d : SeatState) → first ≡ first_mark from → end ≡ marks_end (nat_lt from to) from to → SweepsOnce points from to a b → GoesOn b c → TakesPasses MOST_PASSES first end b c
    → BeginsWithSweep points from to c d → d.takes ≡ c.takes → IsTurnOver points from to a d
turn_over points from to first end a b c d same same' h k passes begins on = record {
  chased = c;
  first = sweep_and_more points from to a b c h k;
  chase = subst (λ n. TakesPasses MOST_PASSES (first_mark from) n a c) same' (subst (λ n. TakesPasses MOST_PASSES n end a c) same (chase_after MOST_PASSES first end a b c h.takes passes));
  again = begins;
  takes = on;
}

pub own_turn : (points : List Point) (k seats from to : ℕ) (old new : SeatState) → from ≡ first_point k seats (length points) → to ≡ first_point (k + 1) seats (length points) → IsTurnOver points from to old new → IsTurn points k seats old new
own_turn points k seats from to old new e f h =
    subst (λ (n : ℕ). IsTurnOver points (first_point k seats (length points)) n old new) f (subst (λ (n : ℕ). IsTurnOver points n to old new) e h)
