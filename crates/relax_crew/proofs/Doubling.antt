-- The doubling of a vector, entry by entry.
use Rattle.std.proofs.Common.{◌≡◌, ℕ, ◌+◌, ◌*◌, ◌<◌, ◌≤◌, List, length, set, refl, sym, ◌∙◌, ⊎_elim, arith}
use Rattle.std.specs.List.{slice_index}
use Rattle.std.proofs.lemmas.List.{length-set, get_or-set_same, get_or-set_other}
use Rattle.std.proofs.lemmas.Bool.{cases_eq}
use Rattle.std.proofs.lemmas.Grind.{same_number_lists}
use Rattle.relax_system.specs.declared.side.Side.{Side}
use Rattle.relax_system.specs.declared.points.Point.{Point}
use Rattle.relax_system.specs.System.{point_at}
use Rattle.relax_system.specs.Sides.{further_of, start_of}
use Rattle.relax_system.specs.Halved.{doubled}
use Rattle.relax_system.proofs.Halvings.{length-doubled, doubled_at}

-- of the vector u the entries before i are doubled, and the others are as they were
pub record IsDoubledTo (side : Side) (points : List Point) (u v : List ℕ) (i : ℕ) : Type 0 where
  pub all : length v ≡ length u
  pub done : (k : ℕ) → k < i → slice_index v k ≡ further_of side (start_of side (point_at points k)) (2 * slice_index u k)
  pub left : (k : ℕ) → i ≤ k → slice_index v k ≡ slice_index u k

pub double_none : (side : Side) (points : List Point) (u : List ℕ) → IsDoubledTo side points u u 0
double_none side points u = record { all = refl; done = λ k less. absurd (omega arith); left = λ k more. refl }

pub double_more : (side : Side) (points : List Point) (u v : List ℕ) (i x : ℕ) → IsDoubledTo side points u v i → i < length v → x ≡ further_of side (start_of side (point_at points i)) (2 * slice_index v i)
    → IsDoubledTo side points u (set v i x) (i + 1)
double_more side points u v i x h there e = record {
  all = omega (arith, length-set v i x, h.all);
  done = λ k less. ⊎_elim
      (λ same. rw same (get_or-set_same v i x 0 there ∙ (rw (h.left i (omega arith)) at e)))
      (λ other. get_or-set_other v i k x 0 other ∙ h.done k (omega arith))
      (cases_eq k i);
  left = λ k more. get_or-set_other v i k x 0 (λ back. omega (arith, back, more)) ∙ h.left k (omega arith);
}

pub double_all : (side : Side) (points : List Point) (u v : List ℕ) (i : ℕ) → length u ≡ length points → length u ≤ i → IsDoubledTo side points u v i → v ≡ doubled side points u
double_all side points u v i same end h =
    same_number_lists v (doubled side points u) (omega (arith, h.all, same, length-doubled side points u same))
    (λ k there. h.done k (omega (arith, h.all)) ∙ sym (doubled_at side points u k same (omega (arith, h.all, same))))
