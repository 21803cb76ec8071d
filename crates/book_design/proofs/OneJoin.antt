-- The files make a design or have a first fault, and one alone.
use Rattle.std.proofs.Common.{◌≡◌, ◌⊎◌, ℕ, ◌<◌, ◌≤◌, ℤ, ◌≤ℤ◌, refl, sym, ap, ◌∙◌, inl, inr, subst, ⊎_elim, arith}
use Rattle.std.proofs.lemmas.Bool.{cases_lt}
use Rattle.std.proofs.lemmas.Int.{ints}
use Rattle.book_files.specs.declared.records.FileKind.{FileKind}
use Rattle.book_files.specs.declared.records.FileKind.TheVariants.{Nets, Pl}
use Rattle.book_design.specs.declared.fault.DesignFault.{DesignFault}
use Rattle.book_design.specs.declared.fault.DesignFault.TheVariants.{DuplicateName, UnknownName, NoPosition, NoRows, MixedRows, RowsOverlap, TallCell, Limit}
use Rattle.book_design.specs.declared.parts.Core.{Core}
use Rattle.book_design.specs.Records.{Records, Strip, node_at, pin_at, strips, strip_at}
use Rattle.book_design.specs.Faults.{IsFirst, HasEarlierName, IsUnknownPin, IsUnknownPlace, IsWithoutPlace, IsMixedRow, IsOverlapping, IsTall, HasManySites, HasBadWeight, IsPastEnd, IsPastLimit, IsFault, rank}
use Rattle.book_design.specs.Joined.{place_at, HasSite, HasEnd, IsCore, Joins}
use Rattle.book_design.specs.Values.{DesignValue}
use Rattle.book_design.proofs.Ranks.{limit_kind}
use Rattle.book_design.proofs.SomeJoin.{some_join}
use Rattle.book_design.specs.Answers.{HasOneJoin}

-- the first number is one
at_most : (Holds : ℕ → Type 0) (a b : ℕ) → IsFirst Holds a → IsFirst Holds b → (b < a) ⊎ (a ≤ b) → a ≤ b
at_most Holds a b first second (inl before) = absurd (first.not_before b before second.here)
at_most Holds a b first second (inr within) = within

one_first : (Holds : ℕ → Type 0) (i j : ℕ) → IsFirst Holds i → IsFirst Holds j → i ≡ j
one_first Holds i j x y = omega (arith, at_most Holds i j x y (cases_lt j i), at_most Holds j i y x (cases_lt i j))

many_sites : (records : Records) (a b : ℕ) → ((s : ℕ) × IsFirst (HasManySites records) s × (a ≡ (strip_at records s).sites)) → ((s : ℕ) × IsFirst (HasManySites records) s × (b ≡ (strip_at records s).sites)) → a ≡ b
many_sites records a b x y = x.2 ∙ (ap (λ s. (strip_at records s).sites) (one_first (HasManySites records) x.0 y.0 x.1 y.1) ∙ sym y.2)

one_number : (records : Records) (kind a b : ℕ) → IsPastLimit records kind a → IsPastLimit records kind b → a ≡ b
one_number records kind a b (inl x) (inl y) = x.1 ∙ sym y.1
one_number records kind a b (inl x) (inr (inl y)) = absurd (omega (arith, x.0, y.0))
one_number records kind a b (inl x) (inr (inr (inl y))) = absurd (omega (arith, x.0, y.0))
one_number records kind a b (inl x) (inr (inr (inr (inl y)))) = absurd (omega (arith, x.0, y.0))
one_number records kind a b (inl x) (inr (inr (inr (inr (inl y))))) = absurd (omega (arith, x.0, y.0))
one_number records kind a b (inl x) (inr (inr (inr (inr (inr y))))) = absurd (omega (arith, x.0, y.0))
one_number records kind a b (inr (inl x)) (inl y) = absurd (omega (arith, x.0, y.0))
one_number records kind a b (inr (inl x)) (inr (inl y)) = x.1 ∙ sym y.1
one_number records kind a b (inr (inl x)) (inr (inr (inl y))) = absurd (omega (arith, x.0, y.0))
one_number records kind a b (inr (inl x)) (inr (inr (inr (inl y)))) = absurd (omega (arith, x.0, y.0))
one_number records kind a b (inr (inl x)) (inr (inr (inr (inr (inl y))))) = absurd (omega (arith, x.0, y.0))
one_number records kind a b (inr (inl x)) (inr (inr (inr (inr (inr y))))) = absurd (omega (arith, x.0, y.0))
one_number records kind a b (inr (inr (inl x))) (inl y) = absurd (omega (arith, x.0, y.0))
one_number records kind a b (inr (inr (inl x))) (inr (inl y)) = absurd (omega (arith, x.0, y.0))
one_number records kind a b (inr (inr (inl x))) (inr (inr (inl y))) = x.1 ∙ sym y.1
one_number records kind a b (inr (inr (inl x))) (inr (inr (inr (inl y)))) = absurd (omega (arith, x.0, y.0))
one_number records kind a b (inr (inr (inl x))) (inr (inr (inr (inr (inl y))))) = absurd (omega (arith, x.0, y.0))
one_number records kind a b (inr (inr (inl x))) (inr (inr (inr (inr (inr y))))) = absurd (omega (arith, x.0, y.0))
one_number records kind a b (inr (inr (inr (inl x)))) (inl y) = absurd (omega (arith, x.0, y.0))
one_number records kind a b (inr (inr (inr (inl x)))) (inr (inl y)) = absurd (omega (arith, x.0, y.0))
one_number records kind a b (inr (inr (inr (inl x)))) (inr (inr (inl y))) = absurd (omega (arith, x.0, y.0))
one_number records kind a b (inr (inr (inr (inl x)))) (inr (inr (inr (inl y)))) = many_sites records a b x.1 y.1
one_number records kind a b (inr (inr (inr (inl x)))) (inr (inr (inr (inr (inl y))))) = absurd (omega (arith, x.0, y.0))
one_number records kind a b (inr (inr (inr (inl x)))) (inr (inr (inr (inr (inr y))))) = absurd (omega (arith, x.0, y.0))
one_number records kind a b (inr (inr (inr (inr (inl x))))) (inl y) = absurd (omega (arith, x.0, y.0))
one_number records kind a b (inr (inr (inr (inr (inl x))))) (inr (inl y)) = absurd (omega (arith, x.0, y.0))
one_number records kind a b (inr (inr (inr (inr (inl x))))) (inr (inr (inl y))) = absurd (omega (arith, x.0, y.0))
one_number records kind a b (inr (inr (inr (inr (inl x))))) (inr (inr (inr (inl y)))) = absurd (omega (arith, x.0, y.0))
one_number records kind a b (inr (inr (inr (inr (inl x))))) (inr (inr (inr (inr (inl y))))) = one_first (HasBadWeight records) a b x.1 y.1
one_number records kind a b (inr (inr (inr (inr (inl x))))) (inr (inr (inr (inr (inr y))))) = absurd (omega (arith, x.0, y.0))
one_number records kind a b (inr (inr (inr (inr (inr x))))) (inl y) = absurd (omega (arith, x.0, y.0))
one_number records kind a b (inr (inr (inr (inr (inr x))))) (inr (inl y)) = absurd (omega (arith, x.0, y.0))
one_number records kind a b (inr (inr (inr (inr (inr x))))) (inr (inr (inl y))) = absurd (omega (arith, x.0, y.0))
one_number records kind a b (inr (inr (inr (inr (inr x))))) (inr (inr (inr (inl y)))) = absurd (omega (arith, x.0, y.0))
one_number records kind a b (inr (inr (inr (inr (inr x))))) (inr (inr (inr (inr (inl y))))) = absurd (omega (arith, x.0, y.0))
one_number records kind a b (inr (inr (inr (inr (inr x))))) (inr (inr (inr (inr (inr y))))) = one_first (IsPastEnd records) a b x.1 y.1

same_limit : (records : Records) (kinda kindb numbera numberb : ℕ) → kinda ≡ kindb → IsPastLimit records kinda numbera → IsPastLimit records kindb numberb → Limit kinda numbera ≡ Limit kindb numberb
same_limit records kinda kindb numbera numberb e x y =
    let P : ℕ → Type 0 = λ k. IsPastLimit records k numberb in
    let n = one_number records kinda numbera numberb x (subst P (sym e) y) in
    ap (λ k. Limit k numbera) e ∙ ap (λ m. Limit kindb m) n

same_unknown : (records : Records) (filea fileb : FileKind) (linea lineb : ℕ) → IsFault records (UnknownName filea linea) → IsFault records (UnknownName fileb lineb) → UnknownName filea linea ≡ UnknownName fileb lineb
same_unknown records Nets Nets linea lineb x y = ap (λ l. UnknownName Nets l) (x.2 ∙ (ap (λ i. (pin_at records i).line) (one_first (IsUnknownPin records) x.0 y.0 x.1 y.1) ∙ sym y.2))
same_unknown records Nets Pl linea lineb x y = absurd (y.0 x.0 x.1.here)
same_unknown records Pl Nets linea lineb x y = absurd (x.0 y.0 y.1.here)
same_unknown records Pl Pl linea lineb x y = ap (λ l. UnknownName Pl l) (x.1.2 ∙ (ap (λ i. (place_at records i).line) (one_first (IsUnknownPlace records) x.1.0 y.1.0 x.1.1 y.1.1) ∙ sym y.1.2))
same_unknown records Nets _ linea lineb x y = absurd y
same_unknown records Pl _ linea lineb x y = absurd y
same_unknown records _ _ linea lineb x y = absurd x

same : (records : Records) (a b : DesignFault) → IsFault records a → IsFault records b → rank a ≡ rank b → a ≡ b
same records (DuplicateName linea) (DuplicateName lineb) x y e = ap (λ l. DuplicateName l) (x.2 ∙ (ap (λ i. (node_at records i).line) (one_first (HasEarlierName records) x.0 y.0 x.1 y.1) ∙ sym y.2))
same records (UnknownName filea linea) (UnknownName fileb lineb) x y e = same_unknown records filea fileb linea lineb x y
same records (NoPosition nodea) (NoPosition nodeb) x y e = ap (λ n. NoPosition n) (one_first (IsWithoutPlace records) nodea nodeb x y)
same records NoRows NoRows x y e = refl
same records (MixedRows rowa) (MixedRows rowb) x y e = ap (λ r. MixedRows r) (one_first (IsMixedRow records) rowa rowb x y)
same records (RowsOverlap rowa) (RowsOverlap rowb) x y e = ap (λ r. RowsOverlap r) (x.2 ∙ (ap (λ s. (strip_at records s).row) (one_first (IsOverlapping (strips records)) x.0 y.0 x.1 y.1) ∙ sym y.2))
same records (TallCell nodea) (TallCell nodeb) x y e = ap (λ n. TallCell n) (one_first (IsTall records) nodea nodeb x y)
same records (Limit kinda numbera) (Limit kindb numberb) x y e = same_limit records kinda kindb numbera numberb (let k : kinda ≡ kindb = omega (arith, e) in k) x y
same records (Limit kinda numbera) _ x y e = absurd (let some = limit_kind records kinda numbera x in omega (arith, e, some))
same records _ (Limit kindb numberb) x y e = absurd (let some = limit_kind records kindb numberb y in omega (arith, e, some))
same records _ _ x y e = absurd (omega (arith, e))

-- an end of the core that all strips keep to and one has
one_low : (records : Records) (end : Strip → ℤ) (a b : ℤ) → ((s : ℕ) → HasSite records s → a ≤ℤ end (strip_at records s)) → HasEnd records end a
    → ((s : ℕ) → HasSite records s → b ≤ℤ end (strip_at records s)) → HasEnd records end b → a ≡ b
one_low records end a b all_a at_a all_b at_b =
    let to_b = all_a at_b.0 at_b.1 in
    let to_a = all_b at_a.0 at_a.1 in
    omega (arith, ints, to_a, to_b, at_a.2, at_b.2)

one_high : (records : Records) (end : Strip → ℤ) (a b : ℤ) → ((s : ℕ) → HasSite records s → end (strip_at records s) ≤ℤ a) → HasEnd records end a
    → ((s : ℕ) → HasSite records s → end (strip_at records s) ≤ℤ b) → HasEnd records end b → a ≡ b
one_high records end a b all_a at_a all_b at_b =
    let to_b = all_a at_b.0 at_b.1 in
    let to_a = all_b at_a.0 at_a.1 in
    omega (arith, ints, to_a, to_b, at_a.2, at_b.2)

one_core : (records : Records) (a b : Core) → IsCore records a → IsCore records b → a ≡ b
one_core records a b x y =
    let make : ℤ → ℤ → ℤ → ℤ → Core = λ xlo xhi ylo yhi. record { xlo = xlo; xhi = xhi; ylo = ylo; yhi = yhi } in
    ap (λ v. make v a.xhi a.ylo a.yhi) (one_low records (λ strip. strip.left) a.xlo b.xlo x.left x.at_left y.left y.at_left)
    ∙ (ap (λ v. make b.xlo v a.ylo a.yhi) (one_high records (λ strip. strip.right) a.xhi b.xhi x.right x.at_right y.right y.at_right)
    ∙ (ap (λ v. make b.xlo b.xhi v a.yhi) (one_low records (λ strip. strip.lower) a.ylo b.ylo x.lower x.at_lower y.lower y.at_lower)
    ∙ ap (λ v. make b.xlo b.xhi b.ylo v) (one_high records (λ strip. strip.upper) a.yhi b.yhi x.upper x.at_upper y.upper y.at_upper)))

one_design : (records : Records) (a b : DesignValue) → Joins records a → Joins records b → a ≡ b
one_design records a b x y =
    let e1 = x.nodes ∙ sym y.nodes in
    let e2 = x.nets ∙ sym y.nets in
    let e3 = x.subrows ∙ sym y.subrows in
    let e4 = one_core records a.core b.core x.core y.core in
    let e5 = x.pitch ∙ sym y.pitch in
    let e6 = x.row_height ∙ sym y.row_height in
    ap (λ v. record { nodes = v; nets = a.nets; subrows = a.subrows; core = a.core; pitch = a.pitch; row_height = a.row_height }) e1
    ∙ (ap (λ v. record { nodes = b.nodes; nets = v; subrows = a.subrows; core = a.core; pitch = a.pitch; row_height = a.row_height }) e2
    ∙ (ap (λ v. record { nodes = b.nodes; nets = b.nets; subrows = v; core = a.core; pitch = a.pitch; row_height = a.row_height }) e3
    ∙ (ap (λ v. record { nodes = b.nodes; nets = b.nets; subrows = b.subrows; core = v; pitch = a.pitch; row_height = a.row_height }) e4
    ∙ (ap (λ v. record { nodes = b.nodes; nets = b.nets; subrows = b.subrows; core = b.core; pitch = v; row_height = a.row_height }) e5
    ∙ ap (λ v. record { nodes = b.nodes; nets = b.nets; subrows = b.subrows; core = b.core; pitch = b.pitch; row_height = v }) e6))))

pub one_join : (records : Records) → HasOneJoin records
one_join records = record {
  some = ⊎_elim (λ fault. inr fault) (λ design. inl design) (some_join records);
  one_design = λ a b x y. one_design records a b x.joins y.joins;
  one_fault = λ a b x y. same records a b x.holds y.holds (let e : rank a ≡ rank b = omega (arith, x.first b y.holds, y.first a x.holds) in e);
  not_both = λ design fault x y. x.none fault y.holds;
}
