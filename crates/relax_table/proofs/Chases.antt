-- Chases: takes and marks, the bits of a mark word, and the points of a range of mark words.
use Rattle.std.proofs.Common.{◌≡◌, ℕ, ◌+◌, ◌-◌, ◌*◌, ◌/◌, ◌^◌, ◌<◌, ◌≤◌, ◌≢◌, ◌||◌, Bool, true, false, MatchBool, min, List, [], ◌∷◌, ◌++◌, append_assoc, length, zero, suc, refl, sym, ap, ◌∙◌, subst, ⊎_elim, w64, arith}
use Rattle.std.specs.Int.{trailing_zeros}
use Rattle.std.proofs.lemmas.Bool.{cases_lt, false≢true}
use Rattle.std.proofs.lemmas.List.{append-nil}
use Rattle.std.proofs.lemmas.Nat.{pow-add, pow_pos}
use Rattle.std.proofs.lemmas.Nat.Bits.{bit_at-trailing_zeros, bit_at_above}
use Rattle.std.proofs.Math.Nat.{add-mul, mul-le-mul_right, div-lt_iff_lt-mul}
use Rattle.atomic_table.specs.Seated.{TableId}
use Rattle.relax_system.specs.declared.side.Side.{Side}
use Rattle.relax_system.specs.declared.points.Point.{Point}
use Rattle.relax_system.specs.System.{point_at}
use Rattle.relax_table.specs.declared.rule.View.{View}
use Rattle.relax_table.specs.Seats.{TableState, SeatState, IsSeatOf, IsSound, Advances, GoesOn, mark_words, near_numbers, sweep_steps}
use Rattle.relax_table.specs.Forms.Chase.{idle_after, taken_once, IsChased}
use Rattle.relax_table.specs.Forms.Rule.{state_of, IsHeld, taken}
use Rattle.relax_table.proofs.Vectors.{AllBefore-refl}
use Rattle.relax_table.proofs.Seated.{advances_none, advances_on}
use Rattle.relax_table.proofs.Sweeps.{sweep_steps-more, sweep_steps-none}

-- a seat after a swap of a mark word
sound_taken : (side : Side) (s : SeatState) (x : ℕ) → IsSound side s → IsSound side (taken_once s x)
sound_taken side s x h = record { valid = h.valid; start_boxes = h.start_boxes; in_boxes = h.in_boxes; started = h.started; first = h.first; paid = h.paid }

pub held_taken : (side : Side) (id id' : TableId) (v w : View) (seen : List ℕ) (moves takes takes' x : ℕ) → IsHeld side id v seen moves takes → id' ≡ id → w ≡ taken v x → takes' ≡ min (takes + 1) (2 ^ 64 - 1) → IsHeld side id' w seen moves takes'
held_taken side id id' v w seen moves takes takes' x held same e more = rw (same, e) (record {
  same_seen = held.same_seen;
  same_moves = held.same_moves;
  same_takes = omega (arith, held.same_takes);
  unspent = held.unspent;
  sound = sound_taken side (state_of id v) x held.sound;
})

pub state_taken : (id id' : TableId) (v w : View) (s : SeatState) (x : ℕ) → id' ≡ id → w ≡ taken v x → state_of id v ≡ s → state_of id' w ≡ taken_once s x
state_taken id id' v w s x same e is = ap (λ (i : TableId). state_of i w) same ∙ (ap (λ (z : View). state_of id z) e ∙ ap (λ (z : SeatState). taken_once z x) is)

pub advances_taken : (side : Side) (s s' : SeatState) (x : ℕ) → IsSound side s → s' ≡ taken_once s x → Advances side s s'
advances_taken side s s' x sound e = rw e (record {
  same_table = refl;
  same_system = refl;
  same_start = refl;
  counts = record { loads = omega arith; fetches = omega arith; moves = omega arith; takes = omega arith };
  further = AllBefore-refl side s.seen;
  sound = sound_taken side s x sound;
})

pub own_taken : (t : TableState) (s s' : SeatState) (x : ℕ) → IsSeatOf t s → s' ≡ taken_once s x → IsSeatOf t s'
own_taken t s s' x own e = rw e (record { same_table = own.same_table; same_system = own.same_system; same_start = own.same_start })

-- a seat after a fetch_or on a mark word
pub held_marked : (side : Side) (id id' : TableId) (v w : View) (seen : List ℕ) (moves takes : ℕ) → IsHeld side id v seen moves takes → id' ≡ id → w ≡ v → IsHeld side id' w seen moves takes
held_marked side id id' v w seen moves takes held same e = rw (same, e) held

pub state_marked : (id id' : TableId) (v w : View) (s : SeatState) → id' ≡ id → w ≡ v → state_of id v ≡ s → state_of id' w ≡ s
state_marked id id' v w s same e is = ap (λ (i : TableId). state_of i w) same ∙ (ap (λ (z : View). state_of id z) e ∙ is)

goes_none : (s : SeatState) → GoesOn s s
goes_none s = record { parts = refl; looked = ([], sym (append-nil s.looked)); renewed = ([], sym (append-nil s.renewed)) }

goes_on : (a b c : SeatState) → GoesOn a b → GoesOn b c → GoesOn a c
goes_on a b c h k = record {
  parts = k.parts ∙ h.parts;
  looked = (h.looked.0 ++ k.looked.0, rw (k.looked.1, h.looked.1) (append_assoc a.looked h.looked.0 k.looked.0));
  renewed = (h.renewed.0 ++ k.renewed.0, rw (k.renewed.1, h.renewed.1) (append_assoc a.renewed h.renewed.0 k.renewed.0));
}

-- nothing was done
pub chased_none : (side : Side) (t : TableState) (s : SeatState) (now most : ℕ) → IsSeatOf t s → IsSound side s → IsChased side t s s now now 0 most
chased_none side t s now most own sound = record { own = own; advances = advances_none side s sound; goes_on = goes_none s; takes = omega arith; counted = refl; cost = omega arith }

-- one after another
pub chased_on : (side : Side) (t : TableState) (a b c : SeatState) (first mid now k l m n : ℕ) → IsChased side t a b first mid k m → IsChased side t b c mid now l n → IsChased side t a c first now (k + l) (m + n)
chased_on side t a b c first mid now k l m n h j = record {
  own = j.own;
  advances = advances_on side a b c h.advances j.advances;
  goes_on = goes_on a b c h.goes_on j.goes_on;
  takes = omega (arith, h.takes, j.takes);
  counted = omega (arith, h.counted, j.counted);
  cost = omega (arith, h.cost, j.cost);
}

pub chased_within : (side : Side) (t : TableState) (a b : SeatState) (first now k l m n : ℕ) → IsChased side t a b first now k m → k ≡ l → m ≤ n → IsChased side t a b first now l n
chased_within side t a b first now k l m n h e le = record { own = h.own; advances = h.advances; goes_on = h.goes_on; takes = omega (arith, h.takes); counted = h.counted; cost = omega (arith, h.cost) }

-- a mark word was taken
pub chased_taken : (side : Side) (t : TableState) (s s' : SeatState) (now x : ℕ) → IsSeatOf t s' → Advances side s s' → s' ≡ taken_once s x → IsChased side t s s' now now 1 0
chased_taken side t s s' now x own advances e =
    let on : GoesOn s s' = rw e (record { parts = refl; looked = ([], sym (append-nil s.looked)); renewed = ([], sym (append-nil s.renewed)) }) in
    let loads : s'.loads ≡ s.loads = ap (λ (z : SeatState). z.loads) e in
    let fetches : s'.fetches ≡ s.fetches = ap (λ (z : SeatState). z.fetches) e in
    record { own = own; advances = advances; goes_on = on; takes = ap (λ (z : SeatState). z.takes) e; counted = omega arith; cost = omega arith }

-- a point was relaxed
pub chased_relaxed : (side : Side) (t : TableState) (old new : SeatState) (i first now : ℕ) → IsSeatOf t new → Advances side old new → new.loads ≡ old.loads + length (point_at t.system i).near → new.fetches ≡ old.fetches + 1 → now ≡ first + (length (point_at t.system i).near + 1)
    → (new.looked ≡ old.looked ++ near_numbers t.system i) × (new.renewed ≡ old.renewed ++ i ∷ []) × (new.parts ≡ old.parts) × (new.takes ≡ old.takes) → IsChased side t old new first now 0 (length (point_at t.system i).near + 1)
chased_relaxed side t old new i first now own advances loads fetches steps points = record {
  own = own;
  advances = advances;
  goes_on = record { parts = points.2; looked = (near_numbers t.system i, points.0); renewed = (i ∷ [], points.1) };
  takes = omega (arith, points.3);
  counted = omega arith;
  cost = omega arith;
}

-- the same where the seat is then as it was
pub chased_same : (side : Side) (t : TableState) (a b c : SeatState) (first now k m : ℕ) → IsChased side t a b first now k m → c ≡ b → IsChased side t a c first now k m
chased_same side t a b c first now k m h e = rw e h

-- the points of two ranges, one after the other
sweep_add : (points : List Point) (a b n : ℕ) → a ≤ b → b + n ≤ length points → sweep_steps points a (b + n) ≡ sweep_steps points a b + sweep_steps points b (b + n)
sweep_add points a b zero order within =
    let none : b + 0 ≡ b = omega arith in
    rw none (omega (arith, sweep_steps-none points b))
sweep_add points a b (suc n) order within =
    let one : b + suc n ≡ (b + n) + 1 = omega arith in
    let rest : sweep_steps points a (b + n) ≡ sweep_steps points a b + sweep_steps points b (b + n) = sweep_add points a b n order (omega arith) in
    rw one (omega (arith, sweep_steps-more points a (b + n) (omega arith) (omega arith), sweep_steps-more points b (b + n) (omega arith) (omega arith)))

sweep_both : (points : List Point) (a b c : ℕ) → a ≤ b → b ≤ c → c ≤ length points → sweep_steps points a c ≡ sweep_steps points a b + sweep_steps points b c
sweep_both points a b c order order' within =
    let place : b + (c - b) ≡ c = omega arith in
    subst (λ (k : ℕ). sweep_steps points a k ≡ sweep_steps points a b + sweep_steps points b k) place (sweep_add points a b (c - b) order (omega arith))

pub sweep_wider : (points : List Point) (a b c : ℕ) → a ≤ b → b ≤ c → c ≤ length points → sweep_steps points a b ≤ sweep_steps points a c
sweep_wider points a b c order order' within = omega (arith, sweep_both points a b c order order' within)

-- two ranges within one
pub sweep_parts : (points : List Point) (a b c d : ℕ) → a ≤ b → b ≤ c → c ≤ d → d ≤ length points → sweep_steps points a b + sweep_steps points c d ≤ sweep_steps points a d
sweep_parts points a b c d one two three within = omega (arith, sweep_both points a b d one (omega arith) within, sweep_both points b c d two three within)

pub sweep_one : (points : List Point) (i : ℕ) → i < length points → length (point_at points i).near + 1 ≤ sweep_steps points (min i (length points)) (min (i + 1) (length points))
sweep_one points i there =
    let here : min i (length points) ≡ i = omega arith in
    let next : min (i + 1) (length points) ≡ i + 1 = omega arith in
    rw (here, next) (omega (arith, sweep_steps-more points i i (omega arith) there, sweep_steps-none points i))

-- The lowest bit of a word of n bits is one of them, and what lies above it has the bits that are left.
pub bits_left : (n left : ℕ) → n ≤ 64 → 0 < left → left < 2 ^ n → left < 2 ^ 64 → (trailing_zeros w64 left < n) × (left / 2 ^ trailing_zeros w64 left / 2 < 2 ^ (n - (trailing_zeros w64 left + 1)))
bits_left n left few some within fits =
    let skip : ℕ = trailing_zeros w64 left in
    let lowest = bit_at-trailing_zeros w64 left some fits in
    let inside : skip < n = ⊎_elim (λ (h : skip < n). h) (λ (h : n ≤ skip). absurd (omega (arith, lowest.1, bit_at_above left n skip within h))) (cases_lt skip n) in
    let rest : ℕ = n - (skip + 1) in
    let place : (rest + 1) + skip ≡ n = omega arith in
    let whole : 2 ^ n ≡ 2 ^ (rest + 1) * 2 ^ skip = ap (λ (k : ℕ). 2 ^ k) (sym place) ∙ pow-add 2 (rest + 1) skip in
    let above : left / 2 ^ skip < 2 ^ (rest + 1) = (div-lt_iff_lt-mul (pow_pos skip)).1 (subst (λ (k : ℕ). left < k) whole within) in
    let two : 2 ^ (rest + 1) ≡ 2 ^ rest * 2 ^ 1 = pow-add 2 rest 1 in
    (inside, omega (arith, above, two))

-- the cost of one bit more
pub bit_cost : (points : List Point) (word at skip : ℕ) → 64 * word ≤ length points → sweep_steps points (64 * word) (min (64 * word + at) (length points)) + sweep_steps points (min (word * 64 + (at + skip)) (length points)) (min ((word * 64 + (at + skip)) + 1) (length points)) ≤ sweep_steps points (64 * word) (min (64 * word + ((at + skip) + 1)) (length points))
bit_cost points word at skip there =
    let n : ℕ = length points in
    let last : min ((word * 64 + (at + skip)) + 1) n ≡ min (64 * word + ((at + skip) + 1)) n = omega arith in
    rw last (sweep_parts points (64 * word) (min (64 * word + at) n) (min (word * 64 + (at + skip)) n) (min (64 * word + ((at + skip) + 1)) n) (omega arith) (omega arith) (omega arith) (omega arith))

-- of one mark word more
pub word_cost : (points : List Point) (from word : ℕ) → from ≤ word → word < mark_words (length points) → (sweep_steps points (64 * from) (min (64 * word) (length points)) + 0) + sweep_steps points (64 * word) (min (64 * (word + 1)) (length points)) ≤ sweep_steps points (64 * from) (min (64 * (word + 1)) (length points))
word_cost points from word order there =
    let n : ℕ = length points in
    omega (arith, sweep_parts points (64 * from) (min (64 * word) n) (64 * word) (min (64 * (word + 1)) n) (omega arith) (omega arith) (omega arith) (omega arith))

-- one pass more
pub chased_pass : (side : Side) (t : TableState) (a b c : SeatState) (first mid now done width most : ℕ) → IsChased side t a b first mid (done * width) (done * most) → IsChased side t b c mid now width most → IsChased side t a c first now ((done + 1) * width) ((done + 1) * most)
chased_pass side t a b c first mid now done width most h k =
    let takes : (done + 1) * width ≡ done * width + width = add-mul done 1 width ∙ omega arith in
    let cost : (done + 1) * most ≡ done * most + most = add-mul done 1 most ∙ omega arith in
    rw (takes, cost) (chased_on side t a b c first mid now (done * width) width (done * most) most h k)

-- no more passes than are allowed
pub passes_cost : (side : Side) (t : TableState) (old new : SeatState) (first now taken done passes most : ℕ) → IsChased side t old new first now taken (done * most) → done ≤ passes → now ≤ first + passes * most
passes_cost side t old new first now taken done passes most h few = let product : done * most ≤ passes * most = mul-le-mul_right most few in omega (arith, h.cost)

-- the takes in a row that found no bit, after one more of a pass
pub idle_more : (found b : Bool) (x first idle done : ℕ) → MatchBool found (idle < done) (idle ≡ first + done) → MatchBool b (x ≢ 0) (x ≡ 0) → MatchBool (found || b) (idle_after x idle < done + 1) (idle_after x idle ≡ first + (done + 1))
idle_more true b zero first idle done h k = omega arith
idle_more true b (suc x) first idle done h k = omega arith
idle_more false true zero first idle done h k = absurd (k refl)
idle_more false true (suc x) first idle done h k = omega arith
idle_more false false zero first idle done h k = omega arith
idle_more false false (suc x) first idle done h k = absurd (omega arith)

-- what is known between passes: fewer takes than a pass has found no bit where the last pass found one, and no fewer where it found none
pub record IsPaced (found : Bool) (width done idle : ℕ) : Type 0 where
  pub some : found ≡ false → 1 ≤ done
  pub ends : found ≡ false → width ≤ idle
  pub goes : found ≡ true → 1 ≤ done → idle < width
  pub went : 2 ≤ done → idle < 2 * width

pub paced_none : (width idle : ℕ) → IsPaced true width 0 idle
paced_none width idle = record { some = λ e. absurd (false≢true (sym e)); ends = λ e. absurd (false≢true (sym e)); goes = λ _ h. absurd (omega arith); went = λ h. absurd (omega arith) }

pub paced_more : (found : Bool) (width done idle idle' : ℕ) → IsPaced true width done idle → MatchBool found (idle' < width) (idle' ≡ idle + width) → IsPaced found width (done + 1) idle'
paced_more true width done idle idle' h k = record { some = λ e. absurd (false≢true (sym e)); ends = λ e. absurd (false≢true (sym e)); goes = λ _ _. k; went = λ _. omega arith }
paced_more false width done idle idle' h k = record { some = λ _. omega arith; ends = λ _. omega arith; goes = λ e _. absurd (false≢true e); went = λ two. let less : idle < width = h.goes refl (omega arith) in omega arith }
