-- The line of a place as its pieces are written.
use Rattle.std.proofs.Common.{◌≡◌, ℕ, Bool, true, false, List, [], ◌∷◌, ◌++◌, codes, refl, append_assoc}
use Rattle.book_text.specs.Decimal.{canonical}
use Rattle.book_files.specs.Entries.{PlaceEntry}
use Rattle.book_files.specs.PlaceText.{orient_word, mark_words, place_words, line_of}
use Rattle.book_files.specs.Forms.Places.{mark_end}

seq : (name x y way rest : List ℕ) → (name ++ 32 ∷ (x ++ 32 ∷ (y ++ 32 ∷ 58 ∷ 32 ∷ (way ++ rest)))) ++ 10 ∷ [] ≡ name ++ 32 ∷ (x ++ 32 ∷ (y ++ 32 ∷ 58 ∷ 32 ∷ (way ++ (rest ++ 10 ∷ []))))
seq name x y way rest = rw (append_assoc name, append_assoc x, append_assoc y, append_assoc way) refl

bare : (name x y way : List ℕ) → (name ++ 32 ∷ (x ++ 32 ∷ (y ++ 32 ∷ 58 ∷ 32 ∷ way))) ++ 10 ∷ [] ≡ name ++ 32 ∷ (x ++ 32 ∷ (y ++ 32 ∷ 58 ∷ 32 ∷ (way ++ 10 ∷ [])))
bare name x y way = rw (append_assoc name, append_assoc x, append_assoc y) refl

ended : (name x y way : List ℕ) (fixed overlap : Bool) → line_of (name ∷ x ∷ y ∷ codes ":" ∷ way ∷ mark_words fixed overlap) ≡ name ++ (32 ∷ (x ++ (32 ∷ (y ++ (codes " : " ++ (way ++ mark_end fixed overlap))))))
ended name x y way false overlap = bare name x y way
ended name x y way true false = seq name x y way (codes " /FIXED")
ended name x y way true true = seq name x y way (codes " /FIXED_NI")

-- name, x, y, orientation and end, with what stands between them
pub line_by_pieces : (place : PlaceEntry) → line_of (place_words place)
    ≡ place.name ++ (32 ∷ (canonical place.x ++ (32 ∷ (canonical place.y ++ (codes " : " ++ (orient_word place.orient ++ mark_end place.fixed place.overlap))))))
line_by_pieces place = ended place.name (canonical place.x) (canonical place.y) (orient_word place.orient) place.fixed place.overlap

-- the pieces, written one after another
pub written : (name x y way rest t0 t1 t2 t3 t4 t5 t6 t7 t8 : List ℕ) → t1 ≡ t0 ++ name → t2 ≡ t1 ++ 32 ∷ [] → t3 ≡ t2 ++ x → t4 ≡ t3 ++ 32 ∷ [] → t5 ≡ t4 ++ y → t6 ≡ t5 ++ codes " : " → t7 ≡ t6 ++ way → t8 ≡ t7 ++ rest
    → t8 ≡ t0 ++ (name ++ (32 ∷ (x ++ (32 ∷ (y ++ (codes " : " ++ (way ++ rest)))))))
written name x y way rest t0 t1 t2 t3 t4 t5 t6 t7 t8 e1 e2 e3 e4 e5 e6 e7 e8 = rw (e8, e7, e6, e5, e4, e3, e2, e1) (simp (append_assoc))
