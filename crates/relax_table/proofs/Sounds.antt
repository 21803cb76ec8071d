-- What the rule of a table says of one seat, and that a step keeps it.
use Rattle.std.proofs.Common.{◌≡◌, ℕ, ◌+◌, ◌<◌, ◌≤◌, List, [], ◌∷◌, length, zero, suc, set, false, refl, sym, ap, ◌∙◌, subst, ⊎_elim, ◌⊎◌, inl, inr, arith}
use Rattle.std.specs.List.{slice_index}
use Rattle.std.proofs.lemmas.List.{length-set, get_or-set_same, get_or-set_other}
use Rattle.std.proofs.lemmas.Bool.{cases_eq}
use Rattle.std.proofs.lemmas.List.Sums.{sum_by-cons}
use mathlib.Core.Option.{some, some-injective, some-ne-none}
use lib.ListN.{get_elem?}
use Rattle.atomic_table.specs.Seated.{TableId}
use Rattle.atomic_table.proofs.Lists.{at_set, set_here}
use Rattle.relax_system.specs.declared.side.Side.{Side}
use Rattle.relax_system.specs.declared.points.Point.{Point}
use Rattle.relax_system.specs.System.{point_at}
use Rattle.relax_system.specs.Sides.{Before, AllBefore, apart, distance}
use Rattle.relax_system.proofs.SideMeans.{Before_trans}
use Rattle.relax_system.proofs.Climbing.{InBoxes-set}
use Rattle.relax_table.specs.declared.rule.View.{View}
use Rattle.relax_table.specs.Ways.{is_past, one_if, IsQuietVector}
use Rattle.relax_table.specs.Seats.{IsSound}
use Rattle.relax_table.specs.Forms.Rule.{state_of, all_moves, IsInStep, IsSeenBySome, Keeps}
use Rattle.relax_table.proofs.Seen.{there_of, seen_at_set, moved_words-set}
use Rattle.relax_system.proofs.Distances.{distance-add, distance-grows, distance_to_set}
use Rattle.relax_table.proofs.Vectors.{AllBefore-trans, AllBefore-set, AllBefore-set_first, AllBefore-set_both, AllBefore-refl}

-- one seat's moves are among all moves
pub moves-le-all : (views : List View) (k : ℕ) (v : View) → get_elem? views k ≡ some v → v.moves ≤ all_moves views
moves-le-all [] k v e = absurd (some-ne-none v (sym e))
moves-le-all (w ∷ views) zero v e =
    let same : w ≡ v = some-injective w v e in
    let moves : w.moves ≡ v.moves = ap (λ (z : View). z.moves) same in
    omega (arith, sum_by-cons (λ (v : View). v.moves) w views)
moves-le-all (w ∷ views) (suc k) v e =
    let rest : v.moves ≤ all_moves views = moves-le-all views k v e in
    omega (arith, sum_by-cons (λ (v : View). v.moves) w views)

-- a view put anew changes the sum by the difference
pub all_moves-set : (views : List View) (k : ℕ) (v w : View) → get_elem? views k ≡ some v → all_moves (set views k w) + v.moves ≡ all_moves views + w.moves
all_moves-set [] k v w e = absurd (some-ne-none v (sym e))
all_moves-set (z ∷ views) zero v w e =
    let moves : z.moves ≡ v.moves = ap (λ (z : View). z.moves) (some-injective z v e) in
    omega (arith, sum_by-cons (λ (v : View). v.moves) z views, sum_by-cons (λ (v : View). v.moves) w views)
all_moves-set (z ∷ views) (suc k) v w e =
    let rest : all_moves (set views k w) + v.moves ≡ all_moves views + w.moves = all_moves-set views k v w e in
    omega (arith, sum_by-cons (λ (v : View). v.moves) z views, sum_by-cons (λ (v : View). v.moves) z (set views k w))

-- what the rule says of one seat
pub sound_of : (side : Side) (points : List Point) (start words : List ℕ) (views : List View) (k : ℕ) (v : View) (id : TableId) → Keeps side points start words views → get_elem? views k ≡ some v → IsInStep side points start words v → IsSound side (state_of id v)
sound_of side points start words views k v id keeps at step = record {
  valid = rw step.same_system keeps.valid;
  start_boxes = rw (step.same_system, step.same_start) keeps.start_boxes;
  in_boxes = rw step.same_system step.in_boxes;
  started = rw step.same_start step.started;
  first = λ u calm. AllBefore-trans side v.seen words u step.behind (keeps.first u (rw step.same_system at calm));
  paid = λ u calm.
      let calm' : IsQuietVector side points u = rw step.same_system at calm in
      let grows : distance side start words ≤ distance side start u = distance-grows side start words u (omega (arith, keeps.start_boxes.all, keeps.in_boxes.all)) (omega (arith, keeps.in_boxes.all, calm'.in_boxes.all)) keeps.started (keeps.first u calm') in
      let mine : v.moves ≤ distance side start u = omega (arith, moves-le-all views k v at, keeps.paid) in
      rw step.same_start mine;
}

-- A word is put further on, and the view of the seat that does it takes the same entry.
pub record IsMove (side : Side) (points : List Point) (words : List ℕ) (i x : ℕ) (v w : View) : Type 0 where
  pub there : i < length points
  pub further : Before side (slice_index words i) x
  pub low : (point_at points i).lo ≤ x
  pub high : x ≤ (point_at points i).hi
  pub first : (u : List ℕ) → IsQuietVector side points u → Before side x (slice_index u i)
  pub system : w.system ≡ v.system
  pub start : w.start ≡ v.start
  pub seen : w.seen ≡ set v.seen i x
  pub moves : w.moves ≤ v.moves + apart side (slice_index words i) x
  pub counts : v.moves + one_if (is_past side (slice_index words i) x) ≤ w.moves
  pub spent : w.spent ≡ v.spent

pub moved_in_step : (side : Side) (points : List Point) (start words : List ℕ) (views : List View) (i x : ℕ) (v w : View) → Keeps side points start words views → IsInStep side points start words v → IsMove side points words i x v w → IsInStep side points start (set words i x) w
moved_in_step side points start words views i x v w keeps step move =
    let there : i < length v.seen = omega (arith, step.in_boxes.all, move.there) in
    let there' : i < length words = omega (arith, keeps.in_boxes.all, move.there) in
    let started : Before side (slice_index start i) x = Before_trans side _ _ _ (keeps.started i) move.further in
    record {
      same_system = rw (move.system, step.same_system) refl;
      same_start = rw (move.start, step.same_start) refl;
      in_boxes = rw move.seen (InBoxes-set points v.seen i x step.in_boxes move.there move.low move.high);
      started = rw move.seen (AllBefore-set side start v.seen i x step.started there started);
      behind = rw move.seen (AllBefore-set_both side v.seen words i x x step.behind there there' (AllBefore-refl side (x ∷ []) 0));
    }

other_in_step : (side : Side) (points : List Point) (start words : List ℕ) (views : List View) (i x : ℕ) (v : View) → Keeps side points start words views → i < length points → Before side (slice_index words i) x → IsInStep side points start words v → IsInStep side points start (set words i x) v
other_in_step side points start words views i x v keeps there further step =
    let there' : i < length words = omega (arith, keeps.in_boxes.all) in
    record {
      same_system = step.same_system;
      same_start = step.same_start;
      in_boxes = step.in_boxes;
      started = step.started;
      behind = AllBefore-set side v.seen words i x step.behind there' (Before_trans side _ _ _ (step.behind i) further);
    }

-- the words that a seat has seen, after the move
seen_moved : (side : Side) (points : List Point) (start words : List ℕ) (views : List View) (id i x : ℕ) (v w : View) → Keeps side points start words views → get_elem? views id ≡ some v → v.spent ≡ false → IsInStep side points start words v → IsMove side points words i x v w
    → (j : ℕ) → j < length points → (slice_index (set words i x) j ≡ slice_index start j) ⊎ IsSeenBySome (set views id w) j (slice_index (set words i x) j)
seen_moved side points start words views id i x v w keeps at free step move j inside =
    let there : i < length v.seen = omega (arith, step.in_boxes.all, move.there) in
    let there' : i < length words = omega (arith, keeps.in_boxes.all, move.there) in
    let free' : w.spent ≡ false = move.spent ∙ free in
    ⊎_elim
    (λ is.
    let here : slice_index w.seen i ≡ slice_index (set words i x) i = ap (λ (l : List ℕ). slice_index l i) move.seen ∙ (get_or-set_same v.seen i x 0 there ∙ sym (get_or-set_same words i x 0 there')) in
    let mine : IsSeenBySome (set views id w) i (slice_index (set words i x) i) = record { seat = id; view = w; there = set_here views id w (there_of views id v at); unspent = free'; seen = here } in
    let P : ℕ → Type 0 = λ k. (slice_index (set words i x) k ≡ slice_index start k) ⊎ IsSeenBySome (set views id w) k (slice_index (set words i x) k) in
    subst P (sym is) (inr mine))
    (λ other.
    let word : slice_index (set words i x) j ≡ slice_index words j = get_or-set_other words i j x 0 other in
    let same : slice_index w.seen j ≡ slice_index v.seen j = ap (λ (l : List ℕ). slice_index l j) move.seen ∙ get_or-set_other v.seen i j x 0 other in
    let P : ℕ → Type 0 = λ y. (y ≡ slice_index start j) ⊎ IsSeenBySome (set views id w) j y in
    let old : P (slice_index words j) = ⊎_elim (λ unmoved. inl unmoved) (λ some. inr (seen_at_set views id v w j (slice_index words j) at free' same some)) (keeps.seen j inside) in
    subst P (sym word) old)
    (cases_eq j i)

pub keeps_moved : (side : Side) (points : List Point) (start words : List ℕ) (views : List View) (id i x : ℕ) (v w : View) → Keeps side points start words views → get_elem? views id ≡ some v → v.spent ≡ false → IsInStep side points start words v → IsMove side points words i x v w
    → Keeps side points start (set words i x) (set views id w)
keeps_moved side points start words views id i x v w keeps at free step move =
    let there' : i < length words = omega (arith, keeps.in_boxes.all, move.there) in
    let started : AllBefore side start (set words i x) = AllBefore-set side start words i x keeps.started there' (Before_trans side _ _ _ (keeps.started i) move.further) in
    record {
      valid = keeps.valid;
      start_boxes = keeps.start_boxes;
      in_boxes = InBoxes-set points words i x keeps.in_boxes move.there move.low move.high;
      started = started;
      first = λ u calm. AllBefore-set_first side words u i x (keeps.first u calm) there' (move.first u calm);
      each = λ k z here unspent. ⊎_elim
          (λ same. subst (λ (y : View). IsInStep side points start (set words i x) y) same.1 (moved_in_step side points start words views i x v w keeps step move))
          (λ other. other_in_step side points start words views i x z keeps move.there move.further (keeps.each k z other.1 unspent))
          (at_set views id k w z here);
      seen = seen_moved side points start words views id i x v w keeps at free step move;
      counted = omega (arith, moved_words-set side start words i x (omega (arith, keeps.start_boxes.all, keeps.in_boxes.all)) there', all_moves-set views id v w at, keeps.counted, move.counts);
      paid =
          let on : AllBefore side words (set words i x) = AllBefore-set side words words i x (AllBefore-refl side words) there' move.further in
          let far : distance side start (set words i x) ≡ distance side start words + distance side words (set words i x) =
          distance-add side start words (set words i x) (omega (arith, keeps.start_boxes.all, keeps.in_boxes.all)) (omega (arith, length-set words i x)) keeps.started on in
          omega (arith, distance_to_set side words i x there', all_moves-set views id v w at, keeps.paid, move.moves, far);
    }
