-- Each kind of step keeps the rule of a table, and leaves what it says.
use Rattle.std.proofs.Common.{◌≡◌, ℕ, ◌<◌, ◌≤◌, max, min, bit_or, List, [], ◌∷◌, ◌++◌, length, zero, suc, set, take, false, refl, sym, ap, ◌∙◌, subst, ⊎_elim, inl, inr, arith}
use Rattle.std.specs.List.{slice_index}
use Rattle.std.proofs.lemmas.List.{get_or-take, take-set-le}
use Rattle.std.proofs.Math.Seq.{take-set-lt}
use Rattle.std.proofs.lemmas.List.Sums.{sum_by-append}
use Rattle.std.proofs.lemmas.Bool.{false≢true}
use mathlib.Core.Option.{some, some-ne-none, some-injective}
use lib.ListN.{get_elem?}
use Rattle.atomic_table.specs.Table.{State, Me, keeps, Allows, Splits, Joins}
use Rattle.atomic_table.specs.Seated.{TableId}
use lib.Seq.{set-get_or}
use Rattle.atomic_table.proofs.Lists.{at_set, at_snoc, set_else, set_here, set_again}
use Rattle.relax_system.specs.declared.side.Side.{Side}
use Rattle.relax_system.specs.declared.side.Side.TheVariants.{Floor, Ceil}
use Rattle.relax_system.specs.declared.points.Point.{Point}
use Rattle.relax_system.specs.System.{point_at, IsValid}
use Rattle.relax_system.specs.Means.{InBoxes}
use Rattle.relax_system.specs.Sides.{AllBefore, mean_of, further_of}
use Rattle.relax_system.proofs.SideMeans.{Before_refl, Before_trans, mean-low, mean-high, mean-mono}
use Rattle.relax_table.specs.declared.rule.View.{View}
use Rattle.relax_table.specs.Ways.{IsQuietVector}
use Rattle.relax_table.specs.Step.{word_after}
use Rattle.relax_table.specs.Step.Kind.{Load, Renew}
use Rattle.relax_table.specs.Seats.{IsSound}
use Rattle.relax_table.specs.Forms.Rule.{state_of, all_moves, IsInStep, Keeps, stepped_view, Stepped, Learned, taken, sprout, joined, gone, opened}
use Rattle.relax_system.proofs.Ways.{further-first, further-within, further-low, further-high}
use Rattle.relax_table.proofs.Numbers.{counted_apart, past-self, further-is_first, further-is_second}
use Rattle.relax_table.proofs.Vectors.{AllBefore-refl, at_furthest, length-furthest}
use Rattle.relax_table.proofs.Seen.{there_of, seen_at_set, seen_at_snoc, seen_at_join, moved_words-self}
use Rattle.relax_table.proofs.Sounds.{sound_of, IsMove, keeps_moved, moved_in_step, all_moves-set}

-- the rule, as a fact about the state of a table
abbrev pub Ruled : Side → List Point → List ℕ → State ℕ View → Type 0
Ruled side points start s = Keeps side points start (take (length points) s.words) s.views

-- A step on the word of a point is one on the words of points alone.
on_points : (side : Side) (points : List Point) (start : List ℕ) (slots id i : ℕ) (me : Me ℕ View) (f : ℕ → ℕ) (then' : ℕ → Me ℕ View → Type 0) → i < length points
    → ((words : List ℕ) (views : List View) → Keeps side points start words views → get_elem? views id ≡ some me.0 → (w : View) × Keeps side points start (set words i (f (slice_index words i))) (set views id w) × then' (slice_index words i) (w, me.1))
    → Allows (Ruled side points start) slots id me i f then'
on_points side points start slots id i me f then' there step s kept homes at fits =
    let n : ℕ = length points in
    let h = step (take n s.words) s.views kept at in
    let found : slice_index (take n s.words) i ≡ slice_index s.words i = get_or-take n s.words i 0 there in
    let put : set (take n s.words) i (f (slice_index (take n s.words) i)) ≡ take n (set s.words i (f (slice_index s.words i))) =
    ap (λ (x : ℕ). set (take n s.words) i (f x)) found ∙ sym (take-set-lt n s.words i (f (slice_index s.words i)) there) in (
      h.0,
      keeps,
      tt,
      subst (λ (l : List ℕ). Keeps side points start l (set s.views id h.0)) put h.1,
      subst (λ (x : ℕ). then' x (h.0, me.1)) found h.2,
    )

-- A step on a word behind them changes none of them.
behind_points : (side : Side) (points : List Point) (start : List ℕ) (slots id i : ℕ) (me : Me ℕ View) (f : ℕ → ℕ) (w : ℕ → View) → length points ≤ i
    → ((words : List ℕ) (views : List View) (x : ℕ) → Keeps side points start words views → get_elem? views id ≡ some me.0 → Keeps side points start words (set views id (w x)))
    → Allows (Ruled side points start) slots id me i f (λ x z. (z.1 ≡ me.1) × (z.0 ≡ w x))
behind_points side points start slots id i me f w past step s kept homes at fits =
    let n : ℕ = length points in
    let x : ℕ = slice_index s.words i in
    let same : take n s.words ≡ take n (set s.words i (f x)) = sym (take-set-le n s.words i (f x) past) in (
      w x,
      keeps,
      tt,
      subst (λ (l : List ℕ). Keeps side points start l (set s.views id (w x))) same (step (take n s.words) s.views x kept at),
      (refl, refl),
    )

load_move : (side : Side) (points : List Point) (start words : List ℕ) (views : List View) (i : ℕ) (v : View) → Keeps side points start words views → i < length points → IsMove side points words i (slice_index words i) v (stepped_view side Load i v (slice_index words i))
load_move side points start words views i v kept there = record {
  there = there;
  further = Before_refl side (slice_index words i);
  low = kept.in_boxes.low i there;
  high = kept.in_boxes.high i there;
  first = λ u calm. kept.first u calm i;
  system = refl;
  start = refl;
  seen = refl;
  moves = omega arith;
  counts = omega (arith, past-self side (slice_index words i));
  spent = refl;
}

renew_move : (side : Side) (points : List Point) (start words : List ℕ) (views : List View) (i : ℕ) (v : View) → Keeps side points start words views → IsInStep side points start words v → i < length points
    → IsMove side points words i (word_after side v.system Renew i (slice_index words i) v.seen) v (stepped_view side Renew i v (slice_index words i))
renew_move side points start words views i v kept step there =
    let w : ℕ = slice_index words i in
    let m : ℕ = mean_of side points i v.seen in
    let same : mean_of side v.system i v.seen ≡ m = ap (λ (p : List Point). mean_of side p i v.seen) step.same_system in
    let low : (point_at points i).lo ≤ m = mean-low side points i v.seen kept.valid there step.in_boxes in
    let high : m ≤ (point_at points i).hi = mean-high side points i v.seen kept.valid there step.in_boxes in
    record {
      there = there;
      further = further-first side w (mean_of side v.system i v.seen);
      low = rw same (further-low side w m (point_at points i).lo (kept.in_boxes.low i there) low);
      high = rw same (further-high side w m (point_at points i).hi (kept.in_boxes.high i there) high);
      first = λ u calm. rw same (further-within side w m (slice_index u i) (kept.first u calm i)
          (Before_trans side m (mean_of side points i u) (slice_index u i)
          (mean-mono side points i v.seen u kept.valid there (λ k. Before_trans side _ _ _ (step.behind k) (kept.first u calm k)))
          (calm.quiet i there)));
      system = refl;
      start = refl;
      seen = refl;
      moves = omega (arith, counted_apart side w (further_of side w (mean_of side v.system i v.seen)));
      counts = omega arith;
      spent = refl;
    }

-- after a move the seat is sound
sound_moved : (side : Side) (points : List Point) (start words : List ℕ) (views : List View) (id i x : ℕ) (v w : View) (name : TableId) → Keeps side points start words views → get_elem? views id ≡ some v → v.spent ≡ false → IsInStep side points start words v
    → IsMove side points words i x v w → IsSound side (state_of name w)
sound_moved side points start words views id i x v w name kept at free step move =
    sound_of side points start (set words i x) (set views id w) id w name (keeps_moved side points start words views id i x v w kept at free step move)
    (set_here views id w (there_of views id v at)) (moved_in_step side points start words views i x v w kept step move)

pub loads_allowed : (side : Side) (points : List Point) (start : List ℕ) (slots id i : ℕ) (me : Me ℕ View) → i < length points → me.0.spent ≡ false
    → Allows (Ruled side points start) slots id me i (λ n. n) (λ x w. (w.1 ≡ me.1) × Stepped side Load i me.0 x w.0)
loads_allowed side points start slots id i me there unspent =
    on_points side points start slots id i me (λ n. n) (λ x w. (w.1 ≡ me.1) × Stepped side Load i me.0 x w.0) there (λ words views kept at.
    let x : ℕ = slice_index words i in
    let step = kept.each id me.0 at unspent in
    let move = load_move side points start words views i me.0 kept there in (
      stepped_view side Load i me.0 x,
      keeps_moved side points start words views id i x me.0 _ kept at unspent step move,
      (refl, record { view = refl; found = step.behind i; sound = λ name. sound_moved side points start words views id i x me.0 _ name kept at unspent step move }),
    ))

pub renews_allowed : (side : Side) (points : List Point) (start : List ℕ) (slots id i m : ℕ) (me : Me ℕ View) → i < length points → me.0.spent ≡ false → m ≡ mean_of side me.0.system i me.0.seen
    → Allows (Ruled side points start) slots id me i (λ n. further_of side n m) (λ x w. (w.1 ≡ me.1) × Stepped side Renew i me.0 x w.0)
renews_allowed side points start slots id i m me there unspent e =
    on_points side points start slots id i me (λ n. further_of side n m) (λ x w. (w.1 ≡ me.1) × Stepped side Renew i me.0 x w.0) there (λ words views kept at.
    let x : ℕ = slice_index words i in
    let step = kept.each id me.0 at unspent in
    let move = renew_move side points start words views i me.0 kept step there in (
      stepped_view side Renew i me.0 x,
      rw e (keeps_moved side points start words views id i _ me.0 _ kept at unspent step move),
      (refl, record { view = refl; found = step.behind i; sound = λ name. sound_moved side points start words views id i _ me.0 _ name kept at unspent step move }),
    ))

-- a load that leaves the view as it is
pub learns_allowed : (side : Side) (points : List Point) (start : List ℕ) (slots id i : ℕ) (me : Me ℕ View) → i < length points → me.0.spent ≡ false
    → Allows (Ruled side points start) slots id me i (λ n. n) (λ x w. (w.1 ≡ me.1) × Learned side me.0 w.0)
learns_allowed side points start slots id i me there unspent =
    on_points side points start slots id i me (λ n. n) (λ x w. (w.1 ≡ me.1) × Learned side me.0 w.0) there (λ words views kept at.
    let step = kept.each id me.0 at unspent in
    let same : set words i (slice_index words i) ≡ words = set-get_or words i 0 in
    let same' : set views id me.0 ≡ views = set_again views id me.0 at in (
      me.0,
      rw (same, same') kept,
      (refl, record { view = refl; sound = λ name. sound_of side points start words views id me.0 name kept at step }),
    ))

-- one take more changes nothing that the rule speaks of
taken_in_step : (side : Side) (points : List Point) (start words : List ℕ) (v : View) (x : ℕ) → IsInStep side points start words v → IsInStep side points start words (taken v x)
taken_in_step side points start words v x h = record { same_system = h.same_system; same_start = h.same_start; in_boxes = h.in_boxes; started = h.started; behind = h.behind }

keeps_taken : (side : Side) (points : List Point) (start words : List ℕ) (views : List View) (id : ℕ) (v : View) (x : ℕ) → v.spent ≡ false → Keeps side points start words views → get_elem? views id ≡ some v → Keeps side points start words (set views id (taken v x))
keeps_taken side points start words views id v x unspent kept at =
    let all : all_moves (set views id (taken v x)) ≡ all_moves views = omega (arith, all_moves-set views id v (taken v x) at) in
    record {
      valid = kept.valid;
      start_boxes = kept.start_boxes;
      in_boxes = kept.in_boxes;
      started = kept.started;
      first = kept.first;
      each = λ k z here free. ⊎_elim
          (λ same. subst (λ (y : View). IsInStep side points start words y) same.1 (taken_in_step side points start words v x (kept.each id v at unspent)))
          (λ old. kept.each k z old.1 free)
          (at_set views id k (taken v x) z here);
      seen = λ j inside. ⊎_elim (λ unmoved. inl unmoved) (λ some. inr (seen_at_set views id v (taken v x) j (slice_index words j) at unspent refl some)) (kept.seen j inside);
      counted = omega (arith, kept.counted);
      paid = omega (arith, kept.paid);
    }

-- a swap of a mark word
pub takes_allowed : (side : Side) (points : List Point) (start : List ℕ) (slots id i : ℕ) (me : Me ℕ View) → length points ≤ i → me.0.spent ≡ false → Allows (Ruled side points start) slots id me i (λ _. 0) (λ x w. (w.1 ≡ me.1) × (w.0 ≡ taken me.0 x))
takes_allowed side points start slots id i me past unspent =
    behind_points side points start slots id i me (λ _. 0) (taken me.0) past (λ words views x kept at. keeps_taken side points start words views id me.0 x unspent kept at)

-- a fetch_or on a mark word
pub marks_allowed : (side : Side) (points : List Point) (start : List ℕ) (slots id i k : ℕ) (me : Me ℕ View) → length points ≤ i → Allows (Ruled side points start) slots id me i (λ n. bit_or n k) (λ x w. (w.1 ≡ me.1) × (w.0 ≡ me.0))
marks_allowed side points start slots id i k me past =
    behind_points side points start slots id i me (λ n. bit_or n k) (λ _. me.0) past (λ words views x kept at. let same : set views id me.0 ≡ views = set_again views id me.0 at in rw same kept)

pub splits_allowed : (side : Side) (points : List Point) (start : List ℕ) (id : ℕ) (v : View) → v.spent ≡ false → Splits (Ruled side points start) id v v (sprout v)
splits_allowed side points start id v unspent s kept at =
    let step = kept.each id v at unspent in
    let views : set s.views id v ≡ s.views = set_again s.views id v at in
    let all : all_moves (s.views ++ sprout v ∷ []) ≡ all_moves s.views = omega (arith, sum_by-append (λ (z : View). z.moves) s.views (sprout v ∷ [])) in
    rw views (record {
      valid = kept.valid;
      start_boxes = kept.start_boxes;
      in_boxes = kept.in_boxes;
      started = kept.started;
      first = kept.first;
      each = λ k z here free. ⊎_elim
          (λ old. kept.each k z old free)
          (λ same. subst (λ (y : View). IsInStep side points start (take (length points) s.words) y) same
          (record { same_system = step.same_system; same_start = step.same_start; in_boxes = step.in_boxes; started = step.started; behind = step.behind }))
          (at_snoc s.views (sprout v) z k here);
      seen = λ j inside. ⊎_elim (λ unmoved. inl unmoved) (λ some. inr (seen_at_snoc s.views (sprout v) j (slice_index (take (length points) s.words) j) some)) (kept.seen j inside);
      counted = omega (arith, kept.counted);
      paid = omega (arith, kept.paid);
    })

-- the same with the fetch of each side
pub renews_up_allowed : (side : Side) (points : List Point) (start : List ℕ) (slots id i m : ℕ) (me : Me ℕ View) → side ≡ Floor → i < length points → me.0.spent ≡ false → m ≡ mean_of side me.0.system i me.0.seen
    → Allows (Ruled side points start) slots id me i (λ n. max n m) (λ x w. (w.1 ≡ me.1) × Stepped side Renew i me.0 x w.0)
renews_up_allowed side points start slots id i m me is there unspent e =
    subst (λ (z : Side). Allows (Ruled side points start) slots id me i (λ n. further_of z n m) (λ x w. (w.1 ≡ me.1) × Stepped side Renew i me.0 x w.0)) is (renews_allowed side points start slots id i m me there unspent e)

pub renews_down_allowed : (side : Side) (points : List Point) (start : List ℕ) (slots id i m : ℕ) (me : Me ℕ View) → side ≡ Ceil → i < length points → me.0.spent ≡ false → m ≡ mean_of side me.0.system i me.0.seen
    → Allows (Ruled side points start) slots id me i (λ n. min n m) (λ x w. (w.1 ≡ me.1) × Stepped side Renew i me.0 x w.0)
renews_down_allowed side points start slots id i m me is there unspent e =
    subst (λ (z : Side). Allows (Ruled side points start) slots id me i (λ n. further_of z n m) (λ x w. (w.1 ≡ me.1) × Stepped side Renew i me.0 x w.0)) is (renews_allowed side points start slots id i m me there unspent e)

one_view : (side : Side) (points : List Point) (start words : List ℕ) (v : View) → IsInStep side points start words v → (k : ℕ) (z : View) → get_elem? (v ∷ []) k ≡ some z → IsInStep side points start words z
one_view side points start words v step zero z e = subst (λ (y : View). IsInStep side points start words y) (some-injective v z e) step
one_view side points start words v step (suc k) z e = absurd (some-ne-none z (sym e))

pub opening_keeps : (side : Side) (points : List Point) (start : List ℕ) → IsValid points → InBoxes points start → ((u : List ℕ) → IsQuietVector side points u → AllBefore side start u) → Keeps side points start start (opened points start ∷ [])
opening_keeps side points start valid boxes first =
    let step : IsInStep side points start start (opened points start) = record { same_system = refl; same_start = refl; in_boxes = boxes; started = AllBefore-refl side start; behind = AllBefore-refl side start } in
    record {
      valid = valid;
      start_boxes = boxes;
      in_boxes = boxes;
      started = AllBefore-refl side start;
      first = first;
      each = λ k z here free. one_view side points start start (opened points start) step k z here;
      seen = λ j inside. inl refl;
      counted = omega (arith, moved_words-self side start);
      paid = omega arith;
    }

joined_in_step : (side : Side) (points : List Point) (start words : List ℕ) (v w : View) → IsInStep side points start words v → IsInStep side points start words w → IsInStep side points start words (joined side v w)
joined_in_step side points start words v w h k =
    let same : length v.seen ≡ length w.seen = omega (arith, h.in_boxes.all, k.in_boxes.all) in
    record {
      same_system = h.same_system;
      same_start = h.same_start;
      in_boxes = record {
        all = omega (arith, length-furthest side v.seen w.seen same, h.in_boxes.all);
        low = λ i there. rw (at_furthest side v.seen w.seen i same) (further-low side _ _ _ (h.in_boxes.low i there) (k.in_boxes.low i there));
        high = λ i there. rw (at_furthest side v.seen w.seen i same) (further-high side _ _ _ (h.in_boxes.high i there) (k.in_boxes.high i there));
      };
      started = λ i. rw (at_furthest side v.seen w.seen i same) (Before_trans side _ _ _ (h.started i) (further-first side (slice_index v.seen i) (slice_index w.seen i)));
      behind = λ i. rw (at_furthest side v.seen w.seen i same) (further-within side _ _ _ (h.behind i) (k.behind i));
    }

pub joins_allowed : (side : Side) (points : List Point) (start : List ℕ) (id : ℕ) (v : View) (other : ℕ) (w : View) → v.spent ≡ false → w.spent ≡ false → Joins (Ruled side points start) id v other w (joined side v w) gone
joins_allowed side points start id v other w free free' s kept at apart' at' =
    let at'' : get_elem? s.views other ≡ some w = sym (set_else s.views id other (joined side v w) apart') ∙ at' in
    let first = kept.each id v at free in
    let second = kept.each other w at'' free' in
    let both = joined_in_step side points start (take (length points) s.words) v w first second in
    let same : length v.seen ≡ length w.seen = omega (arith, first.in_boxes.all, second.in_boxes.all) in
    record {
      valid = kept.valid;
      start_boxes = kept.start_boxes;
      in_boxes = kept.in_boxes;
      started = kept.started;
      first = kept.first;
      each = λ k z here unspent. ⊎_elim
          (λ same. absurd (false≢true (sym unspent ∙ sym (ap (λ (y : View). y.spent) same.1))))
          (λ rest. ⊎_elim
          (λ same. subst (λ (y : View). IsInStep side points start (take (length points) s.words) y) same.1 both)
          (λ old. kept.each k z old.1 unspent)
          (at_set s.views id k (joined side v w) z rest.1))
          (at_set (set s.views id (joined side v w)) other k gone z here);
      seen = λ j inside. ⊎_elim
          (λ unmoved. inl unmoved)
          (λ some. inr (seen_at_join s.views id other v w (joined side v w) gone j (slice_index (take (length points) s.words) j) at at'' apart' free
          (λ e. at_furthest side v.seen w.seen j same ∙ further-is_first side _ _ _ e (second.behind j))
          (λ e. at_furthest side v.seen w.seen j same ∙ further-is_second side _ _ _ e (first.behind j))
          some))
          (kept.seen j inside);
      counted = omega (arith, kept.counted, all_moves-set s.views id v (joined side v w) at, all_moves-set (set s.views id (joined side v w)) other w gone at');
      paid = omega (arith, kept.paid, all_moves-set s.views id v (joined side v w) at, all_moves-set (set s.views id (joined side v w)) other w gone at');
    }
