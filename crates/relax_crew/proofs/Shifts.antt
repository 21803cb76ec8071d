-- What a solve with one halving less reaches, after the one before.
use Rattle.std.proofs.Common.{◌≡◌, ℕ, ◌+◌, ◌*◌, ◌<◌, ◌≤◌, List, length, subst, arith}
use Rattle.std.specs.List.{All}
use Rattle.std.proofs.lemmas.List.{length-map, get_or_default}
use Rattle.relax_system.specs.declared.side.Side.{Side}
use Rattle.relax_system.specs.declared.points.Point.{Point}
use Rattle.relax_system.specs.System.{point_at, IsValid}
use Rattle.relax_system.specs.Means.{InBoxes}
use Rattle.relax_system.specs.Sides.{AllBefore, starts_of, distance}
use Rattle.relax_system.specs.Halved.{halved_point, halved, doubled}
use Rattle.relax_system.proofs.Climbing.{IsOnWay_start}
use Rattle.relax_system.proofs.Halvings.{way_step, doubled_in_boxes, doubled_first, starts_way, IsValid-halved, halved-none}
use Rattle.relax_table.specs.Ways.{IsQuietVector}
use Rattle.relax_table.specs.Seats.{SeatState}
use Rattle.relax_crew.specs.Forms.Shifts.{IsSettled, IsReached, IsSolved}

pub length-halved : (side : Side) (shift : ℕ) (points : List Point) → length (halved side shift points) ≡ length points
length-halved side shift points = length-map points (halved_point side shift)

-- the ends of the boxes may be a start
pub ends_in_boxes : (side : Side) (points : List Point) (start : List ℕ) → start ≡ starts_of side points → IsValid points → InBoxes points start
ends_in_boxes side points start e valid = rw e (IsOnWay_start side points valid).in_boxes

pub ends_first : (side : Side) (points : List Point) (start : List ℕ) → start ≡ starts_of side points → IsValid points → (u : List ℕ) → IsQuietVector side points u → AllBefore side start u
ends_first side points start e valid u calm = rw e ((IsOnWay_start side points valid).first u calm.in_boxes calm.quiet)

-- and so may be twice what the solve with one halving more has found
pub twice_in_boxes : (side : Side) (shift : ℕ) (points : List Point) (y start : List ℕ) (moves : ℕ) → IsValid points → IsReached side points (shift + 1) y moves → start ≡ doubled side (halved side shift points) y → InBoxes (halved side shift points) start
twice_in_boxes side shift points y start moves valid h e = rw e (doubled_in_boxes side shift points y valid h.extremal)

pub twice_first : (side : Side) (shift : ℕ) (points : List Point) (y start : List ℕ) (moves : ℕ) → IsValid points → IsReached side points (shift + 1) y moves → start ≡ doubled side (halved side shift points) y
    → (u : List ℕ) → IsQuietVector side (halved side shift points) u → AllBefore side start u
twice_first side shift points y start moves valid h e u calm = rw e (doubled_first side shift points y valid h.extremal u calm.in_boxes calm.quiet)

pub first_reached : (side : Side) (shift : ℕ) (points : List Point) (start : List ℕ) (many : ℕ) (s : SeatState) → start ≡ starts_of side (halved side shift points) → IsSettled side (halved side shift points) start many s
    → IsReached side points shift s.seen s.moves
first_reached side shift points start many s e h = record { extremal = h.extremal; paid = subst (λ v. s.moves ≤ distance side v s.seen) e h.paid }

pub next_reached : (side : Side) (shift : ℕ) (points : List Point) (y start : List ℕ) (many moves : ℕ) (s : SeatState) → IsValid points → IsReached side points (shift + 1) y moves → start ≡ doubled side (halved side shift points) y
    → IsSettled side (halved side shift points) start many s → IsReached side points shift s.seen (moves + s.moves)
next_reached side shift points y start many moves s valid before e h =
    let paid : s.moves ≤ distance side (doubled side (halved side shift points) y) s.seen = subst (λ v. s.moves ≤ distance side v s.seen) e h.paid in
    record {
      extremal = h.extremal;
      paid = omega (arith, before.paid, paid, way_step side shift points y s.seen valid before.extremal h.extremal);
    }

-- the moves fit a counter
pub few_moves : (side : Side) (shift : ℕ) (points : List Point) (v : List ℕ) (moves : ℕ) → IsValid points → IsReached side points shift v moves → moves ≤ 2097152 * 2000000000000
few_moves side shift points v moves valid h =
    let few : length points ≤ 2097152 = valid.few in
    omega (arith, h.paid, few, length-halved side shift points, starts_way side (halved side shift points) v (IsValid-halved side shift points valid) h.extremal.in_boxes)

-- no entry is past the greatest coordinate
pub low_entries : (side : Side) (shift : ℕ) (points : List Point) (v : List ℕ) (moves : ℕ) → IsValid points → IsReached side points shift v moves → All (λ x. x ≤ 2000000000000) v
low_entries side shift points v moves valid h k d there =
    let inside : k < length (halved side shift points) = omega (arith, there, h.extremal.in_boxes.all) in
    let top : (point_at (halved side shift points) k).hi ≤ 2000000000000 = ((IsValid-halved side shift points valid).each k inside).limit in
    rw (get_or_default v k d 0 there) (omega (arith, top, h.extremal.in_boxes.high k inside))

pub solved : (side : Side) (points : List Point) (y start : List ℕ) (many moves : ℕ) (s : SeatState) → IsValid points → IsReached side points 1 y moves → start ≡ doubled side points y → IsSettled side points start many s
    → IsSolved side points many s (moves + s.moves)
solved side points y start many moves s valid before e h =
    let whole : halved side 0 points ≡ points = halved-none side points in
    let twice : start ≡ doubled side (halved side 0 points) y = rw whole e in
    let settled : IsSettled side (halved side 0 points) start many s = rw whole h in
    let reached : IsReached side points 0 s.seen (moves + s.moves) = next_reached side 0 points y start many moves s valid before twice settled in
    record {
      found = y;
      before = before.extremal;
      settled = subst (λ v. IsSettled side points v many s) e h;
      counted = omega arith;
      paid = subst (λ (p : List Point). moves + s.moves ≤ distance side (starts_of side p) s.seen) whole reached.paid;
    }

-- the last solve, whose system isn't halved
pub last_in_boxes : (side : Side) (points : List Point) (y start : List ℕ) (moves : ℕ) → IsValid points → IsReached side points 1 y moves → start ≡ doubled side points y → InBoxes points start
last_in_boxes side points y start moves valid h e =
    let whole : halved side 0 points ≡ points = halved-none side points in
    subst (λ (p : List Point). InBoxes p start) whole (twice_in_boxes side 0 points y start moves valid h (rw whole e))

pub last_first : (side : Side) (points : List Point) (y start : List ℕ) (moves : ℕ) → IsValid points → IsReached side points 1 y moves → start ≡ doubled side points y → (u : List ℕ) → IsQuietVector side points u → AllBefore side start u
last_first side points y start moves valid h e =
    let whole : halved side 0 points ≡ points = halved-none side points in
    subst (λ (p : List Point). (u : List ℕ) → IsQuietVector side p u → AllBefore side start u) whole (twice_first side 0 points y start moves valid h (rw whole e))

pub few_solved : (side : Side) (points : List Point) (many moves : ℕ) (s : SeatState) → IsValid points → IsSolved side points many s moves → moves ≤ 2097152 * 2000000000000
few_solved side points many moves s valid h =
    let few : length points ≤ 2097152 = valid.few in
    omega (arith, h.paid, few, starts_way side points s.seen valid h.settled.extremal.in_boxes)
