-- One step of a sweep: an entry that is moved to its mean, or left alone.
use Rattle.std.proofs.Common.{◌≡◌, ◌≢◌, ℕ, ◌+◌, ◌<◌, List, length, set, Bool, true, false, MatchBool, ⊎_elim, arith}
use Rattle.std.specs.List.{slice_index}
use Rattle.std.proofs.lemmas.Bool.{cases_eq}
use Rattle.relax_system.specs.declared.side.Side.{Side}
use Rattle.relax_system.specs.declared.points.Point.{Point}
use Rattle.relax_system.specs.System.{IsValid}
use Rattle.relax_system.specs.Sides.{Before, mean_of}
use Rattle.relax_system.specs.Forms.Way.{IsOnWay, room}
use Rattle.relax_system.proofs.Climbing.{IsOnWay-set, room-set}

-- what is known of a sweep from the vector u up to the point i
pub record IsSwept (side : Side) (points : List Point) (u v : List ℕ) (moved : Bool) (i : ℕ) : Type 0 where
  pub way : IsOnWay side points v
  pub moved_or_same : MatchBool moved (room side points v < room side points u) ((v ≡ u) × ((k : ℕ) → k < i → Before side (mean_of side points k v) (slice_index v k)))

closer : (side : Side) (points : List Point) (u v w : List ℕ) (moved : Bool) (i : ℕ) → IsSwept side points u v moved i → room side points w < room side points v → room side points w < room side points u
closer side points u v w true i h less = omega (arith, h.moved_or_same)
closer side points u v w false i h less = rw (← h.moved_or_same.0) less

pub swept_past : (side : Side) (points : List Point) (u v : List ℕ) (moved : Bool) (i m : ℕ) → IsValid points → IsSwept side points u v moved i → i < length points → m ≡ mean_of side points i v
    → Before side (slice_index v i) m × (slice_index v i ≢ m) → IsSwept side points u (set v i m) true (i + 1)
swept_past side points u v moved i m valid h there e past =
    let next : IsOnWay side points (set v i m) = rw e (IsOnWay-set side points v i valid h.way there) in
    record {
      way = next;
      moved_or_same = closer side points u v (set v i m) moved i h (room-set side points v i m next.in_boxes (omega (arith, h.way.in_boxes.all)) past.0 past.1);
    }

pub swept_still : (side : Side) (points : List Point) (u v : List ℕ) (moved : Bool) (i m : ℕ) → IsSwept side points u v moved i → m ≡ mean_of side points i v → Before side m (slice_index v i) → IsSwept side points u v moved (i + 1)
swept_still side points u v true i m h e still = record { way = h.way; moved_or_same = h.moved_or_same }
swept_still side points u v false i m h e still = record {
  way = h.way;
  moved_or_same = (
    h.moved_or_same.0,
    λ k in'. ⊎_elim
        (λ same. rw same (rw e at still))
        (λ other. h.moved_or_same.1 k (omega arith))
        (cases_eq k i),
  );
}
