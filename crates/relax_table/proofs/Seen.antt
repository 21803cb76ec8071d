-- Words that some seat has seen, and how many differ from the start.
use Rattle.std.proofs.Common.{◌≡◌, ◌≢◌, ℕ, ◌+◌, ◌<◌, ◌≤◌, List, [], ◌∷◌, ◌++◌, length, zero, suc, set, false, sym, ap, ◌∙◌, ⊎_elim, arith}
use Rattle.std.specs.List.{slice_index, zip}
use Rattle.std.proofs.lemmas.Bool.{cases_eq}
use Rattle.std.proofs.lemmas.List.Sums.{sum_by-cons}
use mathlib.Core.Option.{some, some-ne-none, some-injective}
use lib.ListN.{get_elem?}
use Rattle.atomic_table.proofs.Lists.{set_here, set_else}
use Rattle.relax_system.specs.declared.side.Side.{Side}
use Rattle.relax_table.specs.declared.rule.View.{View}
use Rattle.relax_table.specs.Ways.{is_past, one_if}
use Rattle.relax_table.specs.Forms.Rule.{IsSeenBySome, moved_words}
use Rattle.relax_table.proofs.Numbers.{past_on, past-self}

pub there_of : (views : List View) (k : ℕ) (v : View) → get_elem? views k ≡ some v → k < length views
there_of [] k v e = absurd (some-ne-none v (sym e))
there_of (w ∷ views) zero v e = omega arith
there_of (w ∷ views) (suc k) v e = let rest : k < length views = there_of views k v e in omega arith

-- the view at a place
same_view : (views : List View) (k id : ℕ) (z v : View) → get_elem? views k ≡ some z → k ≡ id → get_elem? views id ≡ some v → z ≡ v
same_view views k id z v here is at = some-injective z v (sym here ∙ (ap (λ (n : ℕ). get_elem? views n) is ∙ at))

-- a view put anew that has seen the same there
pub seen_at_set : (views : List View) (id : ℕ) (v w : View) (j x : ℕ) → get_elem? views id ≡ some v → w.spent ≡ false → slice_index w.seen j ≡ slice_index v.seen j → IsSeenBySome views j x → IsSeenBySome (set views id w) j x
seen_at_set views id v w j x at free same h = ⊎_elim
    (λ is.
    let z : h.view ≡ v = same_view views h.seat id h.view v h.there is at in
    record { seat = id; view = w; there = set_here views id w (there_of views id v at); unspent = free; seen = same ∙ (sym (ap (λ (y : View). slice_index y.seen j) z) ∙ h.seen) })
    (λ other. record { seat = h.seat; view = h.view; there = set_else views id h.seat w other ∙ h.there; unspent = h.unspent; seen = h.seen })
    (cases_eq h.seat id)

at_front : (views : List View) (y : View) (k : ℕ) (v : View) → get_elem? views k ≡ some v → get_elem? (views ++ y ∷ []) k ≡ some v
at_front [] y k v e = absurd (some-ne-none v (sym e))
at_front (z ∷ views) y zero v e = e
at_front (z ∷ views) y (suc k) v e = at_front views y k v e

-- one view more
pub seen_at_snoc : (views : List View) (y : View) (j x : ℕ) → IsSeenBySome views j x → IsSeenBySome (views ++ y ∷ []) j x
seen_at_snoc views y j x h = record { seat = h.seat; view = h.view; there = at_front views y h.seat h.view h.there; unspent = h.unspent; seen = h.seen }

-- two views made one, which has seen x where either had
pub seen_at_join : (views : List View) (id other : ℕ) (v w both last : View) (j x : ℕ) → get_elem? views id ≡ some v → get_elem? views other ≡ some w → other ≢ id → both.spent ≡ false
    → (slice_index v.seen j ≡ x → slice_index both.seen j ≡ x) → (slice_index w.seen j ≡ x → slice_index both.seen j ≡ x) → IsSeenBySome views j x → IsSeenBySome (set (set views id both) other last) j x
seen_at_join views id other v w both last j x at at' apart' free one two h =
    let here : get_elem? (set (set views id both) other last) id ≡ some both = set_else (set views id both) other id last (λ e. apart' (sym e)) ∙ set_here views id both (there_of views id v at) in
    ⊎_elim
    (λ is.
    let z : h.view ≡ v = same_view views h.seat id h.view v h.there is at in
    record { seat = id; view = both; there = here; unspent = free; seen = one (sym (ap (λ (y : View). slice_index y.seen j) z) ∙ h.seen) })
    (λ not_id. ⊎_elim
    (λ is.
    let z : h.view ≡ w = same_view views h.seat other h.view w h.there is at' in
    record { seat = id; view = both; there = here; unspent = free; seen = two (sym (ap (λ (y : View). slice_index y.seen j) z) ∙ h.seen) })
    (λ not_other. record { seat = h.seat; view = h.view; there = set_else (set views id both) other h.seat last not_other ∙ (set_else views id h.seat both not_id ∙ h.there); unspent = h.unspent; seen = h.seen })
    (cases_eq h.seat other))
    (cases_eq h.seat id)

moved_words-cons : (side : Side) (x y : ℕ) (u v : List ℕ) → moved_words side (x ∷ u) (y ∷ v) ≡ one_if (is_past side x y) + moved_words side u v
moved_words-cons side x y u v = sum_by-cons (λ (e : ℕ × ℕ). one_if (is_past side e.0 e.1)) (x, y) (zip u v)

pub moved_words-self : (side : Side) (u : List ℕ) → moved_words side u u ≡ 0
moved_words-self side [] = omega arith
moved_words-self side (x ∷ u) = omega (arith, moved_words-cons side x x u u, past-self side x, moved_words-self side u)

-- a word put anew is one more at most, and none more where it doesn't go on
pub moved_words-set : (side : Side) (u v : List ℕ) (i x : ℕ) → length u ≡ length v → i < length v → moved_words side u (set v i x) ≤ moved_words side u v + one_if (is_past side (slice_index v i) x)
moved_words-set side [] [] i x e there = absurd (omega arith)
moved_words-set side [] (z ∷ v) i x e there = absurd (omega arith)
moved_words-set side (y ∷ u) [] i x e there = absurd (omega arith)
moved_words-set side (y ∷ u) (z ∷ v) zero x e there = omega (arith, moved_words-cons side y x u v, moved_words-cons side y z u v, past_on side y z x)
moved_words-set side (y ∷ u) (z ∷ v) (suc i) x e there =
    let rest : moved_words side u (set v i x) ≤ moved_words side u v + one_if (is_past side (slice_index v i) x) = moved_words-set side u v i x (omega arith) (omega arith) in
    omega (arith, moved_words-cons side y z u (set v i x), moved_words-cons side y z u v)
