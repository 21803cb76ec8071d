-- The subrows of the rows, laid one row after the other.
use Rattle.std.proofs.Common.{◌≡◌, ℕ, ◌+◌, ◌<◌, ◌≤◌, List, [], ◌∷◌, ◌++◌, length, map, take, drop, get_or, refl, sym, ap, ◌∙◌, append_assoc, suc, zero, arith, subst}
use Rattle.std.proofs.Math.Seq.{drop-cons}
use Rattle.std.proofs.lemmas.List.{map-append, map_more, take_all}
use Rattle.std.specs.List.{AllByRecursion}
use Rattle.book_files.specs.Entries.{RowEntry}
use Rattle.book_design.specs.declared.strips.Strip.{Strip as Kept}
use Rattle.book_design.specs.Records.{strips_from, strip_of}
use Rattle.book_design.specs.Forms.Parts.{outline}
use Rattle.book_design.specs.Forms.RowParts.{row_outlines}
use Rattle.book_design.proofs.Building.{map_map}

-- the subrows of the rows before that one are laid
pub record AreLaid (all : List Kept) (rows : List RowEntry) (r : ℕ) (laid : List Kept) : Type 0 where
  pub with_rest : laid ++ map outline (strips_from r (drop r rows)) ≡ all

first_laid : (r : ℕ) (row : RowEntry) (rows : List RowEntry) → map outline (strips_from r (row ∷ rows)) ≡ row_outlines r row ++ map outline (strips_from (1 + r) rows)
first_laid r row rows =
    map-append outline (map (strip_of r row) row.subrows) (strips_from (1 + r) rows)
    ∙ ap (λ (ks : List Kept). ks ++ map outline (strips_from (1 + r) rows)) (sym (map_map outline (strip_of r row) row.subrows))

rest : (rows : List RowEntry) (r : ℕ) (d : RowEntry) → r < length rows
    → map outline (strips_from r (drop r rows)) ≡ row_outlines r (get_or rows r d) ++ map outline (strips_from (r + 1) (drop (r + 1) rows))
rest rows r d below =
    let row : RowEntry = get_or rows r d in
    let one : 1 + r ≡ r + 1 = omega arith in
    let next : suc r ≡ r + 1 = omega arith in
    ap (λ (rs : List RowEntry). map outline (strips_from r rs)) (drop-cons rows r d below) ∙ first_laid r row (drop (suc r) rows)
    ∙ ap (λ (k : ℕ). row_outlines r row ++ map outline (strips_from k (drop (suc r) rows))) one
    ∙ ap (λ (k : ℕ). row_outlines r row ++ map outline (strips_from (r + 1) (drop k rows))) next

pub laid_more : (all : List Kept) (rows : List RowEntry) (r : ℕ) (d row : RowEntry) (old new : List Kept) → r < length rows → row ≡ get_or rows r d
    → new ≡ old ++ row_outlines r row → AreLaid all rows r old → AreLaid all rows (r + 1) new
laid_more all rows r d row old new below e is h =
    let more : List Kept = map outline (strips_from (r + 1) (drop (r + 1) rows)) in
    record {
      with_rest = ap (λ (ks : List Kept). ks ++ more) is ∙ append_assoc old (row_outlines r row) more
          ∙ ap (λ (k : RowEntry). old ++ (row_outlines r k ++ more)) e
          ∙ ap (λ (ks : List Kept). old ++ ks) (sym (rest rows r d below)) ∙ h.with_rest;
    }

pub append_none : {A : Type 0} (xs : List A) → xs ++ [] ≡ xs
append_none [] = refl
append_none (x ∷ xs) = ap (λ ys. x ∷ ys) (append_none xs)

pub appended_more : {X Y : Type 0} (f : X → Y) (xs : List X) (i : ℕ) (d : X) (start old new : List Y) (a : Y) → i < length xs
    → old ≡ start ++ map f (take i xs) → new ≡ old ++ a ∷ [] → a ≡ f (get_or xs i d) → new ≡ start ++ map f (take (i + 1) xs)
appended_more {X} {Y} f xs i d start old new a below h e same =
    e ∙ rw (h, same) (append_assoc start (map f (take i xs)) (f (get_or xs i d) ∷ []) ∙ ap (λ (ys : List Y). start ++ ys) (sym (map_more f xs i d below)))

pub appended_whole : {X Y Z : Type 0} (f : Y → Z) (g : X → Y) (xs : List X) (ys : List Y) (i : ℕ) (start new : List Z) → length xs ≤ i → map g xs ≡ ys
    → new ≡ start ++ map (λ x. f (g x)) (take i xs) → new ≡ start ++ map f ys
appended_whole {X} {Y} {Z} f g xs ys i start new all e h =
    h ∙ ap (λ (zs : List X). start ++ map (λ x. f (g x)) zs) (take_all i xs all) ∙ ap (λ (zs : List Z). start ++ zs) (map_map f g xs ∙ ap (λ (zs : List Y). map f zs) e)

each_in_map : {X Y : Type 0} (P : Y → Type 0) (f : X → Y) (xs : List X) (i : ℕ) (d : X) → AllByRecursion P (map f xs) → i < length xs → P (f (get_or xs i d))
each_in_map P f [] i d h below = absurd (omega arith)
each_in_map P f (x ∷ xs) zero d h below = h.0
each_in_map P f (x ∷ xs) (suc i) d h below = each_in_map P f xs i d h.1 (omega arith)

-- what holds of each of a list holds of the one that the code reads
pub each_of : {X Y : Type 0} (P : Y → Type 0) (f : X → Y) (xs : List X) (ys : List Y) (i : ℕ) (d : X) → map f xs ≡ ys → AllByRecursion P ys → i < length xs → P (f (get_or xs i d))
each_of {X} {Y} P f xs ys i d e h below = let Q : List Y → Type 0 = λ zs. AllByRecursion P zs in each_in_map P f xs i d (subst Q (sym e) h) below
