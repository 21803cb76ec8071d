-- Sweeps over a range, as the points that a seat looked at and fetched.
use Rattle.std.proofs.Common.{◌≡◌, ◌⊎◌, ℕ, ◌+◌, ◌-◌, ◌≤◌, List, [], ◌∷◌, ◌++◌, append_assoc, refl, sym, ap, ◌∙◌, subst, zero, suc, ⊎_elim, arith}
use Rattle.std.specs.List.{range_with_len, flat_map}
use Rattle.std.proofs.lemmas.List.{append-nil}
use Rattle.std.proofs.lemmas.List.Concat.{flat_map-append}
use Rattle.relax_system.specs.declared.points.Point.{Point}
use Rattle.relax_table.specs.Seats.{SeatState, Continues, BeginsWithSweep, near_numbers, numbers_between, nears_between}
use Rattle.relax_table.specs.Forms.Sweep.{SweepsOnce}

range_more : (a n j : ℕ) → a + n ≡ j → range_with_len a (suc n) ≡ range_with_len a n ++ j ∷ []
range_more a zero j e = let same : a ≡ j = omega arith in ap (λ (k : ℕ). k ∷ []) same
range_more a (suc n) j e = ap (λ (l : List ℕ). a ∷ l) (range_more (a + 1) n j (omega arith))

between_more : (from i : ℕ) → from ≤ i → numbers_between from (i + 1) ≡ numbers_between from i ++ i ∷ []
between_more from i order =
    let one : (i + 1) - from ≡ suc (i - from) = omega arith in
    ap (λ (n : ℕ). range_with_len from n) one ∙ range_more from (i - from) i (omega arith)

nears_more : (points : List Point) (from i : ℕ) → from ≤ i → nears_between points from (i + 1) ≡ nears_between points from i ++ near_numbers points i
nears_more points from i order =
    ap (λ (l : List ℕ). flat_map (near_numbers points) l) (between_more from i order)
    ∙ (flat_map-append (near_numbers points) (numbers_between from i) (i ∷ []) ∙ ap (λ (l : List ℕ). nears_between points from i ++ l) (append-nil (near_numbers points i)))

between_none : (from : ℕ) → numbers_between from from ≡ []
between_none from = let none : from - from ≡ 0 = omega arith in ap (λ (n : ℕ). range_with_len from n) none

pub once_none : (points : List Point) (from : ℕ) (s : SeatState) → SweepsOnce points from from s s
once_none points from s = record {
  parts = refl;
  looked = sym (ap (λ (l : List ℕ). s.looked ++ flat_map (near_numbers points) l) (between_none from) ∙ append-nil s.looked);
  renewed = sym (ap (λ (l : List ℕ). s.renewed ++ l) (between_none from) ∙ append-nil s.renewed);
  takes = refl;
}

pub once_more : (points : List Point) (from i : ℕ) (old mid new : SeatState) → from ≤ i → SweepsOnce points from i old mid
    → (new.looked ≡ mid.looked ++ near_numbers points i) × (new.renewed ≡ mid.renewed ++ i ∷ []) × (new.parts ≡ mid.parts) × (new.takes ≡ mid.takes) → SweepsOnce points from (i + 1) old new
once_more points from i old mid new order h points' = record {
  parts = points'.2 ∙ h.parts;
  looked = rw (points'.0, h.looked, nears_more points from i order) (append_assoc old.looked (nears_between points from i) (near_numbers points i));
  renewed = rw (points'.1, h.renewed, between_more from i order) (append_assoc old.renewed (numbers_between from i) (i ∷ []));
  takes = points'.3 ∙ h.takes;
}

pub once_continues : (points : List Point) (from to : ℕ) (old new : SeatState) → SweepsOnce points from to old new → Continues old new
once_continues points from to old new h = record { parts = h.parts; looked = (nears_between points from to, h.looked); renewed = (numbers_between from to, h.renewed); takes = h.takes }

-- no step was made, or a sweep came first
abbrev pub HasBegun : List Point → ℕ → ℕ → SeatState → SeatState → Type 0
HasBegun points from to old new = (new ≡ old) ⊎ BeginsWithSweep points from to old new

begins_once : (points : List Point) (from to : ℕ) (old new : SeatState) → SweepsOnce points from to old new → BeginsWithSweep points from to old new
begins_once points from to old new h = record { parts = h.parts; looked = ([], h.looked ∙ sym (append-nil _)); renewed = ([], h.renewed ∙ sym (append-nil _)) }

begins_on : (points : List Point) (from to : ℕ) (old mid new : SeatState) → BeginsWithSweep points from to old mid → Continues mid new → BeginsWithSweep points from to old new
begins_on points from to old mid new h k = record {
  parts = k.parts ∙ h.parts;
  looked = (h.looked.0 ++ k.looked.0, rw (k.looked.1, h.looked.1) (append_assoc (old.looked ++ nears_between points from to) h.looked.0 k.looked.0));
  renewed = (h.renewed.0 ++ k.renewed.0, rw (k.renewed.1, h.renewed.1) (append_assoc (old.renewed ++ numbers_between from to) h.renewed.0 k.renewed.0));
}

pub begins_more : (points : List Point) (from to : ℕ) (old mid new : SeatState) → HasBegun points from to old mid → SweepsOnce points from to mid new → BeginsWithSweep points from to old new
begins_more points from to old mid new h k = ⊎_elim
    (λ (e : mid ≡ old). begins_once points from to old new (subst (λ (s : SeatState). SweepsOnce points from to s new) e k))
    (λ (b : BeginsWithSweep points from to old mid). begins_on points from to old mid new b (once_continues points from to mid new k))
    h
