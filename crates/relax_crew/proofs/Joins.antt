-- What a seat has seen stays the extremal vector, whatever is joined to it.
use Rattle.std.proofs.Common.{◌≡◌, ℕ, ◌+◌, List, subst, arith}
use Rattle.std.proofs.lemmas.Grind.{same_number_lists}
use Rattle.std.specs.List.{slice_index}
use Rattle.relax_system.specs.declared.side.Side.{Side}
use Rattle.relax_system.specs.declared.side.Side.TheVariants.{Floor, Ceil}
use Rattle.relax_system.specs.declared.points.Point.{Point}
use Rattle.relax_system.specs.Means.{InBoxes}
use Rattle.relax_system.specs.Sides.{Before, AllBefore, IsExtremal}
use Rattle.relax_table.specs.Ways.{IsQuietVector}
use Rattle.relax_table.specs.Seats.{SeatState, TableState, IsSeatOf, Advances}
use Rattle.relax_crew.specs.Forms.Turns.{HasRun}

same_place : (side : Side) (a b : ℕ) → Before side a b → Before side b a → a ≡ b
same_place Floor a b h k = omega arith
same_place Ceil a b h k = omega arith

pub still_extremal : (side : Side) (points : List Point) (old new : SeatState) → new.system ≡ points → Advances side old new → IsExtremal side points old.seen → IsExtremal side points new.seen
still_extremal side points old new e on h =
    let P : List ℕ → Type 0 = λ v. IsExtremal side points v in
    let B : List Point → Type 0 = λ p. InBoxes p new.seen in
    let Q : List Point → Type 0 = λ p. (u : List ℕ) → IsQuietVector side p u → AllBefore side new.seen u in
    let boxes : InBoxes points new.seen = subst B e on.sound.in_boxes in
    let back = subst Q e on.sound.first old.seen (record { in_boxes = h.in_boxes; quiet = h.quiet }) in
    let same : old.seen ≡ new.seen = same_number_lists old.seen new.seen (omega (arith, boxes.all, h.in_boxes.all)) (λ k inside. same_place side (slice_index old.seen k) (slice_index new.seen k) (on.further k) (back k)) in
    subst P same h

-- one seat more, joined to what it is joined to
pub joined_run : (side : Side) (t : TableState) (many : ℕ) (u v w : SeatState) → HasRun side t 1 u → HasRun side t many v → IsSeatOf t w → w.parts ≡ u.parts + v.parts → Advances side u w → HasRun side t (many + 1) w
joined_run side t many u v w h k own parts on = record {
  own = own;
  parts = omega (arith, parts, h.parts, k.parts);
  extremal = still_extremal side t.system u w own.same_system on h.extremal;
}
