-- Looks, relaxations and sweeps: what is known of a seat along the way.
use Rattle.std.proofs.Common.{slice_index_or, ◌≡◌, ◌≢◌, ℕ, ◌+◌, ◌-◌, ◌*◌, ◌<◌, ◌≤◌, List, [], ◌∷◌, ◌++◌, append_assoc, length, map, take, drop, set, Bool, true, false, ◌||◌, MatchBool, refl, sym, ap, ◌∙◌, ⊎_elim, arith}
use Rattle.std.specs.List.{slice_index, sum_by, All}
use Rattle.std.proofs.lemmas.List.{get_or-set_other}
use Rattle.std.proofs.lemmas.List.{get_or-drop, length-drop, get_or-map, get_or_past, length-map, take_more, take_all}
use Rattle.std.proofs.lemmas.List.Sums.{sum_by_more}
use Rattle.std.proofs.Math.Nat.{add-mul, mul-le-mul_right}
use Rattle.std.proofs.lemmas.Bool.{cases_eq, cases_lt, false≢true}
use lib.Seq.{set-get_or}
use Rattle.atomic_table.specs.Seated.{TableId}
use Rattle.relax_system.specs.declared.side.Side.{Side}
use Rattle.relax_system.specs.declared.side.Side.TheVariants.{Floor, Ceil}
use Rattle.relax_system.specs.declared.points.Near.{Near}
use Rattle.relax_system.specs.declared.points.Point.{Point}
use Rattle.relax_system.specs.System.{point_at, no_point, IsValid}
use Rattle.relax_system.specs.Sides.{Before, AllBefore, mean_of, distance}
use Rattle.relax_system.specs.Means.{InBoxes}
use Rattle.relax_system.proofs.SideMeans.{Before_refl}
use Rattle.relax_table.specs.declared.rule.View.{View}
use Rattle.relax_table.specs.Ways.{IsQuietVector, IsQuietIn}
use Rattle.relax_table.specs.Step.{word_after}
use Rattle.relax_table.specs.Step.Kind.{Load, Renew}
use Rattle.relax_table.proofs.Vectors.{mean_of-set}
use Rattle.relax_table.specs.Seats.{TableState, SeatState, IsSeatOf, IsSound, Advances, Continues, near_numbers, sweep_steps}
use Rattle.relax_table.specs.Forms.Look.{WentOn, IsLooked}
use Rattle.relax_table.specs.Forms.Rule.{state_of, Stepped}
use Rattle.relax_table.specs.Forms.Sweep.{SweepsOnce}
use Rattle.relax_system.proofs.Ways.{apart-positive}
use Rattle.relax_system.proofs.Distances.{distance-add, distance_to_set}
use Rattle.relax_table.proofs.Seated.{advances_on, advances_none, advances_loaded, continues_on, continues_none}
use Rattle.relax_table.proofs.Ranges.{once_more}

pub went_none : (side : Side) (u : List ℕ) → WentOn side false u u
went_none side u = refl

pub went_both : (side : Side) (u v w : List ℕ) (a b : Bool) → length u ≡ length v → length v ≡ length w → AllBefore side u v → AllBefore side v w → WentOn side a u v → WentOn side b v w → WentOn side (a || b) u w
went_both side u v w true b e f h k x y = omega (arith, distance-add side u v w e f h k, x)
went_both side u v w false true e f h k x y = omega (arith, distance-add side u v w e f h k, y)
went_both side u v w false false e f h k x y = y ∙ x

-- one entry put anew
pub went_set : (side : Side) (u : List ℕ) (i x y : ℕ) (b : Bool) → i < length u → Before side (slice_index u i) x → y ≡ slice_index u i → MatchBool b (x ≢ y) (x ≡ y) → WentOn side b u (set u i x)
went_set side u i x y true there before e h = rw (distance_to_set side u i x there) (apart-positive side (slice_index u i) x before (rw e at h))
went_set side u i x y false there before e h = rw (h, e) (set-get_or u i 0)

-- a seat has one entry per point, before a call and after it
pub seen_all : (side : Side) (old new : SeatState) → IsSound side old → Advances side old new → length old.seen ≡ length new.seen
seen_all side old new sound h = let system : length new.system ≡ length old.system = ap (λ (p : List Point). length p) h.same_system in omega (arith, sound.in_boxes.all, h.sound.in_boxes.all)

-- one more neighbour's number
looks_more : (near : List Near) (n j : ℕ) (d : Near) → n < length near → j ≡ (slice_index_or near n d).point → take (n + 1) (map (λ (e : Near). e.point) near) ≡ take n (map (λ (e : Near). e.point) near) ++ j ∷ []
looks_more near n j d more at =
    let f : Near → ℕ = λ e. e.point in
    let inside : n < length (map f near) = omega (arith, length-map near f) in
    let here : slice_index_or (map f near) n d.point ≡ j = get_or-map f near n d d.point more ∙ sym at in
    take_more (map f near) n d.point inside ∙ ap (λ (k : ℕ). take n (map f near) ++ k ∷ []) here

-- the looks at all neighbours
pub looked_all : (side : Side) (near : List Near) (t : TableState) (old new : SeatState) (first now n : ℕ) (moved : Bool) → IsLooked side near t old new first now n moved → length near ≤ n → new.looked ≡ old.looked ++ map (λ e. e.point) near
looked_all side near t old new first now n moved h all =
    let f : Near → ℕ = λ e. e.point in
    let whole : take n (map f near) ≡ map f near = take_all n (map f near) (omega (arith, length-map near f)) in
    h.looked ∙ ap (λ (l : List ℕ). old.looked ++ l) whole

pub looked_more : (side : Side) (near : List Near) (t : TableState) (old mid new : SeatState) (steps steps' steps'' n j x y : ℕ) (moved b : Bool) (d : Near) → IsLooked side near t old mid steps steps' n moved → n < length near → j ≡ (slice_index_or near n d).point → j < length mid.seen
    → IsSeatOf t new → Advances side mid new → new.seen ≡ set mid.seen j x → (new.loads ≡ mid.loads + 1) × (new.fetches ≡ mid.fetches) × (new.moves ≡ mid.moves) → (new.looked ≡ mid.looked ++ j ∷ []) × (new.renewed ≡ mid.renewed) × (new.parts ≡ mid.parts) × (new.takes ≡ mid.takes) → new.idle ≡ mid.idle → steps'' ≡ steps' + 1 → Before side (slice_index mid.seen j) x
    → y ≡ slice_index mid.seen j → MatchBool b (x ≢ y) (x ≡ y) → IsLooked side near t old new steps steps'' (n + 1) (moved || b)
looked_more side near t old mid new steps steps' steps'' n j x y moved b d h more at there own advances seen counts points idle one found e differ =
    let on = advances_on side old mid new h.advances advances in
    let same : length mid.seen ≡ length new.seen = seen_all side mid new h.advances.sound advances in
    record {
      own = own;
      advances = on;
      loads = omega (arith, h.loads, counts.0);
      fetches = counts.1 ∙ h.fetches;
      moves = counts.2 ∙ h.moves;
      looked = rw (points.0, h.looked, looks_more near n j d more at) (append_assoc old.looked (take n (map (λ (e : Near). e.point) near)) (j ∷ []));
      rest = (points.1 ∙ h.rest.0, points.2 ∙ h.rest.1, points.3 ∙ h.rest.2);
      idle = idle ∙ h.idle;
      others = λ k apart'. rw seen (get_or-set_other mid.seen j k x 0 (λ same. apart' n d more (sym at ∙ sym same)) ∙ h.others k apart');
      all = h.all ∙ same;
      went = went_both side old.seen mid.seen new.seen moved b h.all same h.advances.further advances.further h.went (rw seen (went_set side mid.seen j x y b there found e differ));
      steps = omega (arith, h.steps);
    }

-- the same by the view of a seat and by what it has seen, each for itself
pub looked_by_view : (side : Side) (near : List Near) (t : TableState) (old : SeatState) (id id' : TableId) (v w : View) (seen seen' : List ℕ) (steps steps' steps'' n x : ℕ) (moved b : Bool) (d : Near) → IsLooked side near t old (state_of id v) steps steps' n moved → n < length near
    → All (λ e. e.point < length t.system) near → seen ≡ v.seen → id' ≡ id → Stepped side Load (slice_index_or near n d).point v x w → seen' ≡ set seen (slice_index_or near n d).point x → steps'' ≡ steps' + 1
    → MatchBool b (x ≢ slice_index seen (slice_index_or near n d).point) (x ≡ slice_index seen (slice_index_or near n d).point) → IsLooked side near t old (state_of id' w) steps steps'' (n + 1) (moved || b) × (seen' ≡ w.seen)
looked_by_view side near t old id id' v w seen seen' steps steps' steps'' n x moved b d h more points mine same stepped put one differ =
    let j : ℕ = (slice_index_or near n d).point in
    let system : length v.system ≡ length t.system = ap (λ (l : List Point). length l) h.own.same_system in
    let there : j < length v.seen = omega (arith, h.advances.sound.in_boxes.all, points n d more) in
    let seen_there : w.seen ≡ set v.seen j x = ap (λ (z : View). z.seen) stepped.view in
    let own : IsSeatOf t (state_of id' w) = record {
      same_table = same ∙ h.own.same_table;
      same_system = ap (λ (z : View). z.system) stepped.view ∙ h.own.same_system;
      same_start = ap (λ (z : View). z.start) stepped.view ∙ h.own.same_start;
    } in (
      looked_more side near t old (state_of id v) (state_of id' w) steps steps' steps'' n j x (slice_index seen j) moved b d h more refl there own (advances_loaded side id id' v w j x same there stepped) seen_there
          (ap (λ (z : View). z.loads) stepped.view, ap (λ (z : View). z.fetches) stepped.view, ap (λ (z : View). z.moves) stepped.view)
          (ap (λ (z : View). z.looked) stepped.view, ap (λ (z : View). z.renewed) stepped.view, ap (λ (z : View). z.parts) stepped.view, ap (λ (z : View). z.takes) stepped.view)
          (ap (λ (z : View). z.idle) stepped.view) one stepped.found (ap (λ (l : List ℕ). slice_index l j) mine) differ,
      put ∙ (ap (λ (l : List ℕ). set l j x) mine ∙ sym seen_there),
    )

-- a neighbour is a point
pub near_there : (points : List Point) (i k : ℕ) (d : Near) → IsValid points → i < length points → k < length (point_at points i).near → (slice_index_or (point_at points i).near k d).point < length points
near_there points i k d valid there more = ((valid.each i there).near k d more).there

-- what is known of a seat after a relaxation: mid is the seat between the looks and the renewal
pub relaxed_went : (side : Side) (old mid new : SeatState) (i x y : ℕ) (a b : Bool) → IsSound side old → Advances side old mid → Advances side mid new → i < length mid.seen → new.seen ≡ set mid.seen i x → Before side (slice_index mid.seen i) x → y ≡ slice_index mid.seen i
    → WentOn side a old.seen mid.seen → MatchBool b (x ≢ y) (x ≡ y) → WentOn side (a || b) old.seen new.seen
relaxed_went side old mid new i x y a b sound one two there seen before e h k =
    went_both side old.seen mid.seen new.seen a b (seen_all side old mid sound one) (seen_all side mid new one.sound two) one.further two.further h (rw seen (went_set side mid.seen i x y b there before e k))

pub relaxed_word : (side : Side) (points : List Point) (old : List ℕ) (seen : List ℕ) (i x y : ℕ) → IsValid points → i < length points → seen ≡ set old i y → y ≡ word_after side points Renew i x old → y ≡ word_after side points Renew i x seen
relaxed_word side points old seen i x y valid there e f = f ∙ rw (e, mean_of-set side points i old y valid there) refl

-- one more point of a sweep
pub sweep_steps-more : (points : List Point) (from i : ℕ) → from ≤ i → i < length points → sweep_steps points from (i + 1) ≡ sweep_steps points from i + (length (point_at points i).near + 1)
sweep_steps-more points from i order there =
    let f = λ (p : Point). length p.near + 1 in
    let rest : List Point = drop from points in
    let more : sum_by (λ (p : Point). length p.near + 1) (take ((i - from) + 1) rest) ≡ sum_by (λ (p : Point). length p.near + 1) (take (i - from) rest) + (length (slice_index_or rest (i - from) no_point).near + 1) =
    sum_by_more (λ (p : Point). length p.near + 1) rest (i - from) no_point (omega (arith, length-drop from points)) in
    let last : slice_index_or rest (i - from) no_point ≡ slice_index_or points (from + (i - from)) no_point = get_or-drop from points (i - from) no_point in
    let place : from + (i - from) ≡ i = omega arith in
    let count : (i + 1) - from ≡ (i - from) + 1 = omega arith in
    let here : slice_index_or rest (i - from) no_point ≡ point_at points i = last ∙ ap (λ (k : ℕ). slice_index_or points k no_point) place in
    rw (count, more, here) refl

pub sweep_steps-none : (points : List Point) (from : ℕ) → sweep_steps points from from ≡ 0
sweep_steps-none points from = let none : from - from ≡ 0 = omega arith in rw none refl

-- what is known after a sweep's relaxations of the points below i
pub record IsSweptTo (side : Side) (t : TableState) (from i : ℕ) (old new : SeatState) (first now : ℕ) (moved : Bool) : Type 0 where
  pub own : IsSeatOf t new
  pub advances : Advances side old new
  pub counted : now + (old.loads + old.fetches) ≡ first + (new.loads + new.fetches)
  pub cost : now ≡ first + sweep_steps t.system from i
  pub once : SweepsOnce t.system from i old new
  pub all : length old.seen ≡ length new.seen
  pub went : WentOn side moved old.seen new.seen
  pub quiet : moved ≡ false → IsQuietIn side t.system from i new.seen

none_of : (a b : Bool) → (a || b) ≡ false → (a ≡ false) × (b ≡ false)
none_of true b e = (e, absurd (false≢true (sym e)))
none_of false b e = (refl, e)

still : (side : Side) (b : Bool) (u v : List ℕ) → b ≡ false → WentOn side b u v → v ≡ u
still side true u v e h = absurd (false≢true (sym e))
still side false u v e h = h

pub swept_more : (side : Side) (t : TableState) (from i : ℕ) (old mid new : SeatState) (first now now' : ℕ) (moved b : Bool) → IsSweptTo side t from i old mid first now moved → from ≤ i → i < length t.system → IsSeatOf t new → Advances side mid new
    → (new.loads ≡ mid.loads + length (point_at t.system i).near) × (new.fetches ≡ mid.fetches + 1) → Before side (mean_of side t.system i new.seen) (slice_index new.seen i) → WentOn side b mid.seen new.seen
    → now' ≡ now + (length (point_at t.system i).near + 1) → (new.looked ≡ mid.looked ++ near_numbers t.system i) × (new.renewed ≡ mid.renewed ++ i ∷ []) × (new.parts ≡ mid.parts) × (new.takes ≡ mid.takes) → IsSweptTo side t from (i + 1) old new first now' (moved || b)
swept_more side t from i old mid new first now now' moved b h order there own advances counts quiet went steps points =
    let same : length mid.seen ≡ length new.seen = seen_all side mid new h.advances.sound advances in
    record {
      own = own;
      advances = advances_on side old mid new h.advances advances;
      counted = omega (arith, h.counted, counts.0, counts.1);
      cost = omega (arith, h.cost, sweep_steps-more t.system from i order there);
      once = once_more t.system from i old mid new order h.once points;
      all = h.all ∙ same;
      went = went_both side old.seen mid.seen new.seen moved b h.all same h.advances.further advances.further h.went went;
      quiet = λ none k low high.
          let both = none_of moved b none in
          ⊎_elim
          (λ is. rw is quiet)
          (λ other. rw (still side b mid.seen new.seen both.1 went) (h.quiet both.0 k low (omega arith)))
          (cases_eq k i);
    }

-- what is known after any number of sweeps that moved
pub record IsSettling (side : Side) (t : TableState) (cost : ℕ) (old new : SeatState) (first now : ℕ) : Type 0 where
  pub own : IsSeatOf t new
  pub advances : Advances side old new
  pub continues : Continues old new
  pub counted : now + (old.loads + old.fetches) ≡ first + (new.loads + new.fetches)
  pub within : (u : List ℕ) → IsQuietVector side t.system u → now + distance side new.seen u * cost ≤ first + distance side old.seen u * cost

pub settling_none : (side : Side) (t : TableState) (cost : ℕ) (s : SeatState) (first : ℕ) → IsSeatOf t s → IsSound side s → IsSettling side t cost s s first first
settling_none side t cost s first own sound = record { own = own; advances = advances_none side s sound; continues = continues_none s; counted = refl; within = λ u calm. omega arith }

-- where the side's way ends at the latest
abbrev pub end_of : Side → Point → ℕ
end_of Floor p = p.hi
end_of Ceil p = p.lo

abbrev pub ends_of : Side → List Point → List ℕ
ends_of side points = map (end_of side) points

-- what is left of the way falls where the seat goes on
pub left-falls : (side : Side) (mid new : SeatState) (u : List ℕ) → IsSound side mid → Advances side mid new → length new.seen ≡ length u → AllBefore side new.seen u → 1 ≤ distance side mid.seen new.seen → distance side new.seen u + 1 ≤ distance side mid.seen u
left-falls side mid new u sound advances all before went = omega (arith, distance-add side mid.seen new.seen u (seen_all side mid new sound advances) all advances.further before)

pub settling_more : (side : Side) (t : TableState) (cost : ℕ) (old mid new : SeatState) (first now now' : ℕ) → IsSettling side t cost old mid first now → IsSeatOf t new → Advances side mid new → now' + (mid.loads + mid.fetches) ≡ now + (new.loads + new.fetches) → now' ≡ now + cost
    → 1 ≤ distance side mid.seen new.seen → Continues mid new → IsSettling side t cost old new first now'
settling_more side t cost old mid new first now now' h own advances counted steps went continues = record {
  continues = continues_on old mid new h.continues continues;
  own = own;
  advances = advances_on side old mid new h.advances advances;
  counted = omega (arith, h.counted);
  within = λ u calm.
      let calm' : IsQuietVector side new.system u = rw own.same_system calm in
      let all : length new.seen ≡ length u = omega (arith, advances.sound.in_boxes.all, calm'.in_boxes.all) in
      let less : distance side new.seen u + 1 ≤ distance side mid.seen u = left-falls side mid new u h.advances.sound advances all (advances.sound.first u calm') went in
      let product : (distance side new.seen u + 1) * cost ≤ distance side mid.seen u * cost = mul-le-mul_right cost less in
      let spread : (distance side new.seen u + 1) * cost ≡ distance side new.seen u * cost + cost = add-mul (distance side new.seen u) 1 cost ∙ omega arith in
      omega (arith, h.within u calm);
}

-- the quiet sweep at the end costs one more
pub settled_cost : (side : Side) (t : TableState) (cost : ℕ) (old mid new : SeatState) (first now now' : ℕ) (u : List ℕ) → IsSound side old → IsSeatOf t old → IsSettling side t cost old mid first now → now' ≡ now + cost → IsQuietVector side t.system u
    → now' ≤ first + (distance side t.start u + 2) * cost
settled_cost side t cost old mid new first now now' u sound own h steps calm =
    let calm' : IsQuietVector side old.system u = rw own.same_system calm in
    let less : distance side old.seen u ≤ distance side old.start u = omega (arith, distance-add side old.start old.seen u (omega (arith, sound.start_boxes.all, sound.in_boxes.all)) (omega (arith, sound.in_boxes.all, calm'.in_boxes.all)) sound.started (sound.first u calm')) in
    let start : distance side old.start u ≡ distance side t.start u = ap (λ (s : List ℕ). distance side s u) own.same_start in
    let product : (distance side old.seen u + 2) * cost ≤ (distance side t.start u + 2) * cost = mul-le-mul_right cost (omega arith) in
    let spread : (distance side old.seen u + 2) * cost ≡ distance side old.seen u * cost + (cost + cost) = add-mul (distance side old.seen u) 2 cost ∙ omega arith in
    omega (arith, h.within u calm)

end-after : (side : Side) (p : Point) (x : ℕ) → p.lo ≤ x → x ≤ p.hi → Before side x (end_of side p)
end-after Floor p x low high = high
end-after Ceil p x low high = low

before_ends : (side : Side) (points : List Point) (v : List ℕ) → InBoxes points v → AllBefore side v (ends_of side points)
before_ends side points v boxes i = ⊎_elim
    (λ there. rw (get_or-map (end_of side) points i no_point 0 there) (end-after side (point_at points i) _ (boxes.low i there) (boxes.high i there)))
    (λ past. rw (get_or_past (ends_of side points) i 0 (omega (arith, length-map points (end_of side))), get_or_past v i 0 (omega (arith, boxes.all))) (Before_refl side 0))
    (cases_lt i (length points))

-- the way to the ends of the boxes falls too
pub ends-fall : (side : Side) (t : TableState) (mid new : SeatState) → IsSeatOf t new → IsSound side mid → Advances side mid new → 1 ≤ distance side mid.seen new.seen → distance side new.seen (ends_of side t.system) < distance side mid.seen (ends_of side t.system)
ends-fall side t mid new own sound advances went =
    let boxes : InBoxes t.system new.seen = rw (← own.same_system) advances.sound.in_boxes in
    omega (arith, left-falls side mid new (ends_of side t.system) sound advances (omega (arith, boxes.all, length-map t.system (end_of side))) (before_ends side t.system new.seen boxes) went)
