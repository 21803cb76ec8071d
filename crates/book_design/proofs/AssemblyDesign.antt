-- The parts of files without a fault make a design.
use Rattle.std.proofs.Common.{◌≡◌, ℕ, ◌*◌, ◌<◌, ◌≤◌, ◌^◌, inl, inr, List, [], ◌∷◌, length, map, refl, sym, ap, ◌∙◌, subst, ⊎_elim, arith, ℤ, pos, negsuc, ◌≤ℤ◌, ◌<ℤ◌, ◌+ℤ◌, ◌*ℤ◌}
use Rattle.std.specs.List.{AllByRecursion}
use Rattle.std.proofs.lemmas.Bool.{cases_eq}
use Rattle.std.proofs.lemmas.List.{get_or-map, length-map}
use Rattle.std.proofs.lemmas.Int.{ints, by_lt_z}
use native.Mathlib.Nat.{mul-le-mul}
use Rattle.book_design.specs.declared.strips.Strip.{Strip as Kept}
use Rattle.book_design.specs.declared.parts.Subrow.{Subrow}
use Rattle.book_design.specs.declared.parts.Core.{Core}
use Rattle.book_design.specs.Records.{Records, Strip, strips, strip_at, row_at}
use Rattle.book_design.specs.Values.{DesignValue}
use Rattle.book_design.specs.Faults.{ShareArea}
use Rattle.book_design.specs.Joined.{HasSite, IsCore, Joins, joined_node, joined_subrow}
use Rattle.book_design.specs.WellFormed.{IsDesign, IsGoodNet, IsGoodSubrow, IsGoodCore, AreApart, subrow_at}
use Rattle.book_design.specs.Forms.Parts.{pinned_net, outline, outlines, joined_kept}
use Rattle.book_design.specs.Forms.Assembly.{IsCoreOf, HasSiteBefore}
use Rattle.book_design.specs.Forms.Sources.{AreInRange}
use Rattle.book_design.specs.Forms.Steps.{IsSound}
use Rattle.book_design.proofs.Ranks.{apart_of, nodes_of, subrows_of}
use Rattle.book_design.proofs.AssemblyNodes.{all_from, good_nodes, distinct_nodes, good_nets, few_pins, nets_same}
use Rattle.book_design.proofs.AssemblyStrips.{each_fine, first_row, some_site, all_narrow}
use Rattle.book_design.proofs.Rowing.{kept_is, length-outlines}

pub subrow_is : (records : Records) (s : ℕ) → s < length (strips records) → subrow_at (map joined_kept (outlines records)) s ≡ joined_kept (outline (strip_at records s))
subrow_is records s there = let count = length-outlines records in let within : s < length (outlines records) = omega arith in get_or-map joined_kept (outlines records) s _ _ within ∙ ap joined_kept (kept_is records s there)

pub subrows_same : (all : List Strip) → map joined_kept (map outline all) ≡ map joined_subrow all
subrows_same [] = refl
subrows_same (s ∷ all) = ap (λ (rest : List Subrow). joined_subrow s ∷ rest) (subrows_same all)

pub subrow_count : (records : Records) → length (map joined_kept (outlines records)) ≡ length (strips records)
subrow_count records = length-map (outlines records) joined_kept ∙ length-outlines records

pub good_subrows : (records : Records) → AreInRange records → IsSound records → AllByRecursion (IsGoodSubrow (row_at records 0).pitch (row_at records 0).height) (map joined_kept (outlines records))
good_subrows records ranges free = all_from (IsGoodSubrow (row_at records 0).pitch (row_at records 0).height) (map joined_kept (outlines records)) (record { row = 0; x = pos 0; y = pos 0; sites = 0 }) (λ s l.
    let count = subrow_count records in
    let there : s < length (strips records) = omega arith in
    let h = each_fine records ranges free s there in
    let P : Subrow → Type 0 = λ r. IsGoodSubrow (row_at records 0).pitch (row_at records 0).height r in
    let Q : ℤ → Type 0 = λ z. z ≤ℤ pos (10 ^ 12) in
    subst P (sym (subrow_is records s there)) (record { sites = h.sites; x = h.x; y = h.y; right = subst Q h.ends h.right; upper = subst Q h.above h.upper }))

above_zero : (n : ℕ) (p : ℤ) → 0 < n → pos 0 <ℤ p → pos 0 <ℤ (pos n *ℤ p)
above_zero n (pos p) h k = let one : 1 ≤ n = h in let two : 1 ≤ p = omega (arith, ints) in let most : 1 * 1 ≤ n * p = mul-le-mul one two in omega (arith, ints)
above_zero n (negsuc p) h k = absurd (omega (arith, ints))

-- two subrows that don't share area stand apart
apart_by : (records : Records) (a b : Strip) (pitch height : ℤ) → pos 0 <ℤ pitch → pos 0 <ℤ height → a.right ≡ a.left +ℤ pos a.sites *ℤ pitch → b.right ≡ b.left +ℤ pos b.sites *ℤ pitch → a.upper ≡ a.lower +ℤ height → b.upper ≡ b.lower +ℤ height → (ShareArea a b → ⊥) → AreApart pitch height (joined_kept (outline a)) (joined_kept (outline b))
apart_by records a b pitch height p q e f g h none =
    ⊎_elim (λ z. inl z) (λ some_a. ⊎_elim (λ z. inr (inl z)) (λ some_b.
    let one : 0 < a.sites = omega arith in
    let two : 0 < b.sites = omega arith in
    let wide_a = above_zero a.sites pitch one p in
    let wide_b = above_zero b.sites pitch two p in
    by_lt_z b.left (a.left +ℤ pos a.sites *ℤ pitch) (λ right_left.
    by_lt_z a.left (b.left +ℤ pos b.sites *ℤ pitch) (λ left_right.
    by_lt_z b.lower (a.lower +ℤ height) (λ upper_lower.
    by_lt_z a.lower (b.lower +ℤ height) (λ lower_upper. absurd (none (record {
      a_wide = omega (arith, ints);
      b_wide = omega (arith, ints);
      a_high = omega (arith, ints);
      b_high = omega (arith, ints);
      left_right = omega (arith, ints);
      right_left = omega (arith, ints);
      lower_upper = omega (arith, ints);
      upper_lower = omega (arith, ints);
    })))
    (λ k. inr (inr (inr (inr (inr k))))))
    (λ k. inr (inr (inr (inr (inl k))))))
    (λ k. inr (inr (inr (inl k)))))
    (λ k. inr (inr (inl k)))) (cases_eq b.sites 0)) (cases_eq a.sites 0)

pub apart : (records : Records) → AreInRange records → IsSound records → (s t : ℕ) → s < t → t < length (map joined_kept (outlines records)) → AreApart (row_at records 0).pitch (row_at records 0).height (subrow_at (map joined_kept (outlines records)) s) (subrow_at (map joined_kept (outlines records)) t)
apart records ranges free s t less below =
    let count = subrow_count records in
    let there : t < length (strips records) = omega arith in
    let before : s < length (strips records) = omega arith in
    let a = each_fine records ranges free s before in
    let b = each_fine records ranges free t there in
    let row = first_row records ranges free in
    let P : Subrow → Type 0 = λ r. AreApart (row_at records 0).pitch (row_at records 0).height r (subrow_at (map joined_kept (outlines records)) t) in
    let Q : Subrow → Type 0 = λ r. AreApart (row_at records 0).pitch (row_at records 0).height (joined_kept (outline (strip_at records s))) r in
    subst P (sym (subrow_is records s before)) (subst Q (sym (subrow_is records t there))
    (apart_by records (strip_at records s) (strip_at records t) (row_at records 0).pitch (row_at records 0).height row.pitch_sign row.height_sign a.ends b.ends a.above b.above
    (λ shared. apart_of records free.free t (record { there = there; earlier = s; before = less; shared = shared }))))

pub good_core : (records : Records) (core : Core) → AreInRange records → IsSound records → IsCoreOf (row_at records 0).height (outlines records) (length (outlines records)) core → IsGoodCore core
good_core records core ranges free h =
    let narrow = all_narrow records ranges free in
    let some = some_site records free in
    let l = narrow h.left.there.0 h.left.there.1.0 in
    let r = narrow h.right.there.0 h.right.there.1.0 in
    let d = narrow h.lower.there.0 h.lower.there.1.0 in
    let u = narrow h.upper.there.0 h.upper.there.1.0 in
    let m = narrow some.0 some.1.0 in
    let at_l = h.left.there.2 in let at_r = h.right.there.2 in let at_d = h.lower.there.2 in let at_u = h.upper.there.2 in
    let le_l = h.left.least some.0 some.1 in let le_r = h.right.greatest some.0 some.1 in
    let le_d = h.lower.least some.0 some.1 in let le_u = h.upper.greatest some.0 some.1 in
    let l1 = l.left in let l2 = l.wide in let l3 = l.right in
    let r1 = r.left in let r2 = r.wide in let r3 = r.right in
    let d1 = d.lower in let d2 = d.high in let d3 = d.upper in
    let u1 = u.lower in let u2 = u.high in let u3 = u.upper in
    let m2 = m.wide in let m5 = m.high in
    record {
      xlo = record { low = omega (arith, ints); high = omega (arith, ints) };
      xhi = record { low = omega (arith, ints); high = omega (arith, ints) };
      ylo = record { low = omega (arith, ints); high = omega (arith, ints) };
      yhi = record { low = omega (arith, ints); high = omega (arith, ints) };
      wide = omega (arith, ints);
      high = omega (arith, ints);
    }

to_kept : (records : Records) (s : ℕ) → HasSite records s → HasSiteBefore (outlines records) (length (outlines records)) s
to_kept records s h = let count = length-outlines records in let below : s < length (strips records) = h.0 in let P : Kept → Type 0 = λ k. 0 < k.sites in (omega arith, subst P (sym (kept_is records s below)) h.1)

from_kept : (records : Records) (s : ℕ) → HasSiteBefore (outlines records) (length (outlines records)) s → HasSite records s
from_kept records s h = let count = length-outlines records in let below : s < length (outlines records) = h.0 in let there : s < length (strips records) = omega arith in let P : Kept → Type 0 = λ k. 0 < k.sites in (there, subst P (kept_is records s there) h.1)

pub is_core : (records : Records) (core : Core) → AreInRange records → IsSound records → IsCoreOf (row_at records 0).height (outlines records) (length (outlines records)) core → IsCore records core
is_core records core ranges free h = record {
  left = λ s w. let P : Kept → Type 0 = λ k. core.xlo ≤ℤ k.left in subst P (kept_is records s w.0) (h.left.least s (to_kept records s w));
  right = λ s w. let P : Kept → Type 0 = λ k. k.right ≤ℤ core.xhi in subst P (kept_is records s w.0) (h.right.greatest s (to_kept records s w));
  lower = λ s w. let P : Kept → Type 0 = λ k. core.ylo ≤ℤ k.lower in subst P (kept_is records s w.0) (h.lower.least s (to_kept records s w));
  upper = λ s w. let P : Kept → Type 0 = λ k. (k.lower +ℤ (row_at records 0).height) ≤ℤ core.yhi in let Q : ℤ → Type 0 = λ z. z ≤ℤ core.yhi in subst Q (sym (each_fine records ranges free s w.0).above) (subst P (kept_is records s w.0) (h.upper.greatest s (to_kept records s w)));
  at_left = let s = h.left.there.0 in let w = from_kept records s h.left.there.1 in (s, w, ap (λ (k : Kept). k.left) (sym (kept_is records s w.0)) ∙ h.left.there.2);
  at_right = let s = h.right.there.0 in let w = from_kept records s h.right.there.1 in (s, w, ap (λ (k : Kept). k.right) (sym (kept_is records s w.0)) ∙ h.right.there.2);
  at_lower = let s = h.lower.there.0 in let w = from_kept records s h.lower.there.1 in (s, w, ap (λ (k : Kept). k.lower) (sym (kept_is records s w.0)) ∙ h.lower.there.2);
  at_upper = let s = h.upper.there.0 in let w = from_kept records s h.upper.there.1 in (s, w, (each_fine records ranges free s w.0).above ∙ ap (λ (k : Kept). k.lower +ℤ (row_at records 0).height) (sym (kept_is records s w.0)) ∙ h.upper.there.2);
}

-- the design that the files make, as its parts are assembled
abbrev pub made : Records → Core → DesignValue
made records core = record {
  nodes = map (joined_node records) records.nodes;
  nets = map (pinned_net records) records.nets;
  subrows = map joined_kept (outlines records);
  core = core;
  pitch = (row_at records 0).pitch;
  row_height = (row_at records 0).height;
}

pub is_design : (records : Records) (core : Core) → AreInRange records → IsSound records → length records.nets < 2 ^ 32 → IsCoreOf (row_at records 0).height (outlines records) (length (outlines records)) core → IsDesign (made records core)
is_design records core ranges free few h =
    let row = first_row records ranges free in
    let nodes = length-map records.nodes (joined_node records) in
    let nets = length-map records.nets (pinned_net records) in
    let rows = subrow_count records in
    let nodes_few = nodes_of records free.free in
    let rows_few = subrows_of records free.free in
    let P : ℕ → Type 0 = λ n. AllByRecursion (IsGoodNet n) (map (pinned_net records) records.nets) in
    let pitch_sign = row.pitch_sign in
    let height_sign = row.height_sign in
    record {
      few_nodes = omega arith;
      few_pins = few_pins records free;
      few_nets = omega arith;
      few_subrows = omega arith;
      nodes = good_nodes records ranges free;
      distinct = distinct_nodes records free;
      nets = subst P (sym nodes) (good_nets records ranges free);
      subrows = good_subrows records ranges free;
      apart = apart records ranges free;
      core = good_core records core ranges free h;
      pitch = row.pitch;
      row_height = row.height;
      pitch_sign = omega (arith, ints);
      height_sign = omega (arith, ints);
    }

pub joins : (records : Records) (core : Core) → AreInRange records → IsSound records → IsCoreOf (row_at records 0).height (outlines records) (length (outlines records)) core → Joins records (made records core)
joins records core ranges free h = record {
  nodes = refl;
  nets = nets_same records free;
  subrows = subrows_same (strips records);
  core = is_core records core ranges free h;
  pitch = refl;
  row_height = refl;
}
