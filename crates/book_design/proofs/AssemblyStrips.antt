-- The subrows of rows that are alike and within the limits.
use Rattle.std.proofs.Common.{◌≡◌, ℕ, ◌+◌, ◌<◌, ◌≤◌, ◌^◌, inl, inr, List, [], ◌∷◌, ◌++◌, length, map, get_or, refl, sym, ap, ◌∙◌, subst, ⊎_elim, arith, suc, ℤ, pos, negsuc, ◌≤ℤ◌, ◌<ℤ◌, ◌+ℤ◌, ◌*ℤ◌}
use Rattle.std.specs.List.{AllByRecursion}
use Rattle.std.proofs.lemmas.Bool.{cases_lt}
use Rattle.std.proofs.lemmas.Int.{ints, by_lt_z}
use Rattle.book_files.specs.Entries.{SubrowEntry, RowEntry}
use Rattle.book_files.specs.Ranges.{IsInRange, IsRowInRange, IsSubrowInRange}
use Rattle.book_design.specs.declared.rules.TheConstants.{MOST_NODES, MOST_SITES, ROWS_END}
use Rattle.book_design.specs.declared.strips.Strip.{Strip as Kept}
use Rattle.book_design.specs.Records.{Records, Strip, strip_of, strips_from, strips, strip_at, row_at}
use Rattle.book_design.specs.Faults.{IsMixedRow}
use Rattle.book_design.specs.Forms.Parts.{outlines}
use Rattle.book_design.specs.Forms.Assembly.{IsNarrow, AreNarrow, HasSiteBefore}
use Rattle.book_design.specs.Forms.Sources.{AreInRange}
use Rattle.book_design.specs.Forms.Steps.{IsSound}
use Rattle.book_design.proofs.Rowing.{kept_is, length-outlines}
use Rattle.book_design.proofs.Ranks.{ends_of, even_of, nodes_of, sites_of}
use Rattle.book_design.proofs.AssemblyPoints.{all_at}

-- a subrow of one of the rows
pub record IsOf (rows : List RowEntry) (first : ℕ) (strip : Strip) : Type 0 where
  pub row : ℕ
  pub subrow : SubrowEntry
  pub there : row < length rows
  pub entry : RowEntry
  pub is_row : IsRowInRange entry
  pub is_subrow : IsSubrowInRange subrow
  pub at : (d : RowEntry) → get_or rows row d ≡ entry
  pub is : strip ≡ strip_of (first + row) entry subrow

each_subrow : (rows : List RowEntry) (r : ℕ) (row : RowEntry) (more : List RowEntry) → rows ≡ row ∷ more → IsRowInRange row → (subrows : List SubrowEntry) → AllByRecursion IsSubrowInRange subrows → AllByRecursion (IsOf rows r) (map (strip_of r row) subrows)
each_subrow rows r row more e h [] all = tt
each_subrow rows r row more e h (s ∷ subrows) all = (
  record { row = 0; subrow = s; there = (let t = ap length e in omega arith); entry = row; is_row = h; is_subrow = all.0; at = λ d. ap (λ (xs : List RowEntry). get_or xs 0 d) e; is = (let t : r ≡ r + 0 = omega arith in ap (λ (n : ℕ). strip_of n row s) t) },
  each_subrow rows r row more e h subrows all.1,
)

both : {X : Type 0} (P : X → Type 0) (xs ys : List X) → AllByRecursion P xs → AllByRecursion P ys → AllByRecursion P (xs ++ ys)
both P [] ys h k = k
both P (x ∷ xs) ys h k = (h.0, both P xs ys h.1 k)

weaken : {X : Type 0} (P Q : X → Type 0) → ((x : X) → P x → Q x) → (xs : List X) → AllByRecursion P xs → AllByRecursion Q xs
weaken P Q f [] h = tt
weaken P Q f (x ∷ xs) h = (f x h.0, weaken P Q f xs h.1)

later : (row : RowEntry) (rows : List RowEntry) (r : ℕ) (strip : Strip) → IsOf rows (1 + r) strip → IsOf (row ∷ rows) r strip
later row rows r strip h = record {
  row = suc h.row;
  subrow = h.subrow;
  there = (let t = h.there in omega arith);
  entry = h.entry;
  is_row = h.is_row;
  is_subrow = h.is_subrow;
  at = h.at;
  is = h.is ∙ (let t : (1 + r) + h.row ≡ r + suc h.row = omega arith in ap (λ (n : ℕ). strip_of n h.entry h.subrow) t);
}

pub all_of : (rows : List RowEntry) (r : ℕ) → AllByRecursion IsRowInRange rows → AllByRecursion (IsOf rows r) (strips_from r rows)
all_of [] r h = tt
all_of (row ∷ rows) r h = both (IsOf (row ∷ rows) r) (map (strip_of r row) row.subrows) (strips_from (1 + r) rows)
    (each_subrow (row ∷ rows) r row rows refl h.0 row.subrows h.0.subrows)
    (weaken (IsOf rows (1 + r)) (IsOf (row ∷ rows) r) (later row rows r) (strips_from (1 + r) rows) (all_of rows (1 + r) h.1))

-- what holds of each subrow of files without a fault
pub record IsFine (records : Records) (s : ℕ) : Type 0 where
  pub x : IsInRange (strip_at records s).left
  pub y : IsInRange (strip_at records s).lower
  pub wide : (strip_at records s).left ≤ℤ (strip_at records s).right
  pub right : (strip_at records s).right ≤ℤ pos (10 ^ 12)
  pub upper : (strip_at records s).upper ≤ℤ pos (10 ^ 12)
  pub sites : (strip_at records s).sites ≤ MOST_SITES
  pub ends : (strip_at records s).right ≡ (strip_at records s).left +ℤ pos (strip_at records s).sites *ℤ (row_at records 0).pitch
  pub above : (strip_at records s).upper ≡ (strip_at records s).lower +ℤ (row_at records 0).height

-- a row that isn't mixed
alike : (records : Records) → ((r : ℕ) → IsMixedRow records r → ⊥) → (r : ℕ) → r < length records.rows → ((row_at records r).height ≡ (row_at records 0).height) × ((row_at records r).pitch ≡ (row_at records 0).pitch)
alike records free r there = (
  by_lt_z (row_at records r).height (row_at records 0).height
      (λ l. absurd (free r (record { there = there; other = inl (λ e. let t = e in omega (arith, ints)) })))
      (λ g. by_lt_z (row_at records 0).height (row_at records r).height
      (λ l. absurd (free r (record { there = there; other = inl (λ e. let t = e in omega (arith, ints)) })))
      (λ h. omega (arith, ints))),
  by_lt_z (row_at records r).pitch (row_at records 0).pitch
      (λ l. absurd (free r (record { there = there; other = inr (λ e. let t = e in omega (arith, ints)) })))
      (λ g. by_lt_z (row_at records 0).pitch (row_at records r).pitch
      (λ l. absurd (free r (record { there = there; other = inr (λ e. let t = e in omega (arith, ints)) })))
      (λ h. omega (arith, ints))),
)

never_below : (n : ℕ) (p : ℤ) → pos 0 <ℤ p → pos 0 ≤ℤ (pos n *ℤ p)
never_below n (pos p) h = omega (arith, ints)
never_below n (negsuc p) h = absurd (omega (arith, ints))

fine : (records : Records) → IsSound records → (s : ℕ) → s < length (strips records) → IsOf records.rows 0 (strip_at records s) → IsFine records s
fine records free s there h =
    let strip = strip_at records s in
    let row_is : row_at records h.row ≡ h.entry = h.at _ in
    let same = alike records (even_of records free.free) h.row h.there in
    let height : h.entry.height ≡ (row_at records 0).height = sym (ap (λ (r : RowEntry). r.height) row_is) ∙ same.0 in
    let pitch : h.entry.pitch ≡ (row_at records 0).pitch = sym (ap (λ (r : RowEntry). r.pitch) row_is) ∙ same.1 in
    let left : strip.left ≡ h.subrow.x = ap (λ (t : Strip). t.left) h.is in
    let lower : strip.lower ≡ h.entry.y = ap (λ (t : Strip). t.lower) h.is in
    let sites : strip.sites ≡ h.subrow.sites = ap (λ (t : Strip). t.sites) h.is in
    let right : strip.right ≡ h.subrow.x +ℤ pos h.subrow.sites *ℤ h.entry.pitch = ap (λ (t : Strip). t.right) h.is in
    let upper : strip.upper ≡ h.entry.y +ℤ h.entry.height = ap (λ (t : Strip). t.upper) h.is in
    let number : strip.row ≡ h.row = ap (λ (t : Strip). t.row) h.is ∙ omega arith in
    let above : strip.upper ≡ strip.lower +ℤ (row_at records 0).height = upper ∙ ap (λ y. y +ℤ h.entry.height) (sym lower) ∙ ap (λ z. strip.lower +ℤ z) height in
    let within = ends_of records free.free in
    let few = sites_of records free.free in
    let some = never_below h.subrow.sites h.entry.pitch h.is_row.pitch_sign in
    let P : ℤ → Type 0 = λ z. IsInRange z in
    record {
      x = subst P (sym left) h.is_subrow.x;
      y = subst P (sym lower) h.is_row.y;
      wide = omega (arith, ints);
      right = by_lt_z ROWS_END strip.right (λ l. absurd (within h.row (record { there = h.there; past = inr (s, there, number, l) }))) (λ g. g);
      upper = by_lt_z ROWS_END strip.upper (λ l. absurd (within h.row (record { there = h.there; past = inl (let Q : RowEntry → Type 0 = λ r. ROWS_END <ℤ (r.y +ℤ r.height) in let R : ℤ → Type 0 = λ z. ROWS_END <ℤ z in subst Q (sym row_is) (subst R upper l)) }))) (λ g. g);
      sites = ⊎_elim (λ l. absurd (few s (there, l))) (λ g. g) (cases_lt MOST_SITES strip.sites);
      ends = right ∙ ap (λ x. x +ℤ pos h.subrow.sites *ℤ h.entry.pitch) (sym left) ∙ ap (λ (n : ℕ). strip.left +ℤ pos n *ℤ h.entry.pitch) (sym sites) ∙ ap (λ z. strip.left +ℤ pos strip.sites *ℤ z) pitch;
      above = above;
    }

pub each_fine : (records : Records) → AreInRange records → IsSound records → (s : ℕ) → s < length (strips records) → IsFine records s
each_fine records ranges free s there = fine records free s there (all_at (IsOf records.rows 0) (strips records) s _ (all_of records.rows 0 ranges.rows) there)

-- the rows that are there have a positive height
some_row : (records : Records) → IsSound records → 0 < length records.rows
some_row records free = by records.rows free.some.0 free.some.1.0 where
  by : (rows : List RowEntry) (s : ℕ) → s < length (strips_from 0 rows) → 0 < length rows
  by [] s l = absurd (omega arith)
  by (row ∷ rows) s l = omega arith

pub first_row : (records : Records) → AreInRange records → IsSound records → IsRowInRange (row_at records 0)
first_row records ranges free = all_at IsRowInRange records.rows 0 _ ranges.rows (some_row records free)

-- the subrows as they are kept lie within the limits
pub all_narrow : (records : Records) → AreInRange records → IsSound records → AreNarrow (row_at records 0).height (outlines records)
all_narrow records ranges free s below =
    let count = length-outlines records in
    let there : s < length (strips records) = omega arith in
    let h = each_fine records ranges free s there in
    let row = first_row records ranges free in
    let positive = row.height_sign in
    let left_low = h.x.low in
    let low = h.y.low in
    let P : Kept → Type 0 = λ k. IsNarrow (row_at records 0).height k in
    let Q : ℤ → Type 0 = λ z. z ≤ℤ pos (10 ^ 12) in
    subst P (sym (kept_is records s there)) (record {
      left = h.x.low;
      wide = h.wide;
      right = h.right;
      lower = h.y.low;
      high = omega (arith, ints);
      upper = subst Q h.above h.upper;
      sites = h.sites;
    })

pub some_site : (records : Records) → IsSound records → (s : ℕ) × HasSiteBefore (outlines records) (length (outlines records)) s
some_site records free =
    let h = free.some in
    let count = length-outlines records in
    let there : h.0 < length (strips records) = h.1.0 in
    let P : Kept → Type 0 = λ k. 0 < k.sites in
    (h.0, (omega arith, subst P (sym (kept_is records h.0 there)) h.1.1))

pub few_nodes : (records : Records) → IsSound records → length records.nodes ≤ MOST_NODES
few_nodes records free = nodes_of records free.free
