-- What a net gives the points, one member after another.
use Rattle.std.proofs.Common.{◌≡◌, ◌≢◌, ◌⊎◌, ℕ, ◌+◌, ◌<◌, ◌≤◌, Bool, true, false, not, ◌||◌, cond, List, [], length, get_or, take, set, refl, sym, ◌∙◌, ap, subst, inl, inr, arith}
use Rattle.std.specs.Prelude.{All, Option, Some, None, ◌==◌, nat_eq}
use Rattle.std.proofs.Math.Bool.{or-false}
use Rattle.std.proofs.lemmas.Bool.{ne_eqb, eq-eqb, false≢true, cases_eq}
use Rattle.std.proofs.lemmas.List.{take_all, map-set, get_or-map, length-map, length-set, get_or-set_same, get_or-set_other}
use Rattle.std.proofs.lemmas.List.Folds.{list_any_more}
use Rattle.book_design.specs.declared.parts.Pin.{Pin}
use Rattle.book_design.specs.Values.{DesignValue}
use Rattle.book_design.specs.Points.{is_movable, movable_before}
use Rattle.book_design.specs.WellFormed.{IsGoodPin}
use Rattle.net_model.specs.declared.point.NetPoint.{NetPoint}
use Rattle.net_model.specs.Values.{PointValue, point_at, point_entry, point_values}
use Rattle.net_model.specs.Numbered.{node_at, node_of, point_nodes}
use Rattle.net_model.specs.Forms.Joining.{is_at, AreDistinct}
use Rattle.net_model.proofs.CliqueNodes.{pin_at, before_none}
use Rattle.net_model.proofs.JoiningPins.{has_no_point}
use Rattle.net_model.proofs.Movable.{IsMovableNode, StandsAtPoint, each_movable, stands_at_point}

-- what stands past the end
abbrev pub no_point : PointValue
no_point = record { near = []; pins = []; area = 0 }

-- a point's node is movable, and has the point's number
pub own_node : (design : DesignValue) (p : ℕ) → p < length (point_nodes design) → IsMovableNode design.nodes (length design.nodes) p (node_of design p)
own_node design p less = each_movable design.nodes (length design.nodes) p (omega arith) less

-- a movable node stands at its point
pub own_point : (design : DesignValue) (i : ℕ) → i < length design.nodes → is_movable (node_at design i) ≡ true → StandsAtPoint design.nodes (length design.nodes) i
own_point design i inside movable = stands_at_point design.nodes (length design.nodes) i (omega arith) inside movable

-- a node with a point is movable, and that is its number
pub record HasPoint (design : DesignValue) (i point : ℕ) : Type 0 where
  pub movable : is_movable (node_at design i) ≡ true
  pub number : point ≡ movable_before design.nodes i

point_by_test : (design : DesignValue) (i point : ℕ) (fixed : Bool) → (node_at design i).fixed ≡ fixed
    → ◌≡◌ {A = Option ℕ} (Some point) (cond fixed None (Some (movable_before design.nodes i))) → HasPoint design i point
point_by_test design i point true e is = absurd cc
point_by_test design i point false e is = record { movable = ap not e; number = cc }

-- the point of a node, as a design answers it
abbrev pub point_of : DesignValue → ℕ → Option ℕ
point_of design i = cond (node_at design i).fixed None (Some (movable_before design.nodes i))

has_point : (design : DesignValue) (i point : ℕ) → Some point ≡ point_of design i → HasPoint design i point
has_point design i point is = point_by_test design i point (node_at design i).fixed refl is

point_inside : (design : DesignValue) (i point : ℕ) → i < length design.nodes → HasPoint design i point → point < length (point_nodes design)
point_inside design i point inside h = let stands = own_point design i inside h.movable in omega (arith, h.number, stands.inside)

-- a point that is given something where its node is seen
abbrev pub by_seen : (ℕ → PointValue → PointValue) → ℕ → PointValue → Bool → PointValue
by_seen give i point seen = cond seen (give i point) point

-- after some of the members: the points whose nodes have one of the pins `at` are given something, the others are as they were
pub record AreGivenAt (design : DesignValue) (give : ℕ → PointValue → PointValue) (at : List Pin) (old new : List PointValue) : Type 0 where
  pub all : length new ≡ length old
  pub each : (p : ℕ) → p < length (point_nodes design) → point_at new p ≡ by_seen give (node_of design p) (point_at old p) (is_at at (node_of design p))
  pub others : (p : ℕ) → length (point_nodes design) ≤ p → point_at new p ≡ point_at old p

-- no member is seen yet
pub given_first : (design : DesignValue) (give : ℕ → PointValue → PointValue) (points : List PointValue) → AreGivenAt design give [] points points
given_first design give points = record { all = refl; each = λ p less. refl; others = λ p less. refl }

seen_more : (pins : List Pin) (k i : ℕ) → k < length pins → is_at (take (k + 1) pins) i ≡ (is_at (take k pins) i || nat_eq (pin_at pins k).node i)
seen_more pins k i less = list_any_more (λ (pin : Pin). pin.node == i) pins k (pin_at [] 0) less

-- a member that is another node
unseen_more : (pins : List Pin) (k i : ℕ) → k < length pins → (pin_at pins k).node ≢ i → is_at (take (k + 1) pins) i ≡ is_at (take k pins) i
unseen_more pins k i less other =
    seen_more pins k i less ∙ ap (λ b. is_at (take k pins) i || b) (ne_eqb (pin_at pins k).node i other) ∙ or-false (is_at (take k pins) i)

other_point : (design : DesignValue) (give : ℕ → PointValue → PointValue) (pins : List Pin) (k : ℕ) (old new : List PointValue) (p : ℕ) → k < length pins
    → (pin_at pins k).node ≢ node_of design p
    → point_at new p ≡ by_seen give (node_of design p) (point_at old p) (is_at (take k pins) (node_of design p))
    → point_at new p ≡ by_seen give (node_of design p) (point_at old p) (is_at (take (k + 1) pins) (node_of design p))
other_point design give pins k old new p less other before =
    before ∙ ap (by_seen give (node_of design p) (point_at old p)) (sym (unseen_more pins k (node_of design p) less other))

-- a fixed member has no point
given_fixed : (design : DesignValue) (give : ℕ → PointValue → PointValue) (pins : List Pin) (k : ℕ) (start points : List PointValue) → k < length pins
    → is_movable (node_at design (pin_at pins k).node) ≡ false → AreGivenAt design give (take k pins) start points
    → AreGivenAt design give (take (k + 1) pins) start points
given_fixed design give pins k start points less fixed before = record {
  all = before.all;
  each = λ p inside. other_point design give pins k start points p less
      (λ same. false≢true (sym fixed ∙ ap (λ i. is_movable (node_at design i)) same ∙ (own_node design p inside).movable))
      (before.each p inside);
  others = before.others;
}

-- a movable member's point is written
here_given : (design : DesignValue) (give : ℕ → PointValue → PointValue) (pins : List Pin) (k q : ℕ) (start points : List PointValue) (point : PointValue)
    → k < length pins → q < length points → node_of design q ≡ (pin_at pins k).node → is_at (take k pins) (pin_at pins k).node ≡ false
    → point ≡ give (pin_at pins k).node (point_at points q)
    → point_at points q ≡ by_seen give (node_of design q) (point_at start q) (is_at (take k pins) (node_of design q))
    → point_at (set points q point) q ≡ by_seen give (node_of design q) (point_at start q) (is_at (take (k + 1) pins) (node_of design q))
here_given design give pins k q start points point less inside own unseen is before =
    let seen : is_at (take (k + 1) pins) (node_of design q) ≡ true =
    ap (is_at (take (k + 1) pins)) own ∙ seen_more pins k (pin_at pins k).node less
    ∙ ap (λ b. b || nat_eq (pin_at pins k).node (pin_at pins k).node) unseen ∙ eq-eqb (pin_at pins k).node (pin_at pins k).node refl in
    let old : point_at points q ≡ point_at start q =
    before ∙ ap (by_seen give (node_of design q) (point_at start q)) (ap (is_at (take k pins)) own ∙ unseen) in
    get_or-set_same points q point no_point inside ∙ is
    ∙ ap (λ i. give i (point_at points q)) (sym own)
    ∙ ap (give (node_of design q)) old
    ∙ ap (by_seen give (node_of design q) (point_at start q)) (sym seen)

given_movable : (design : DesignValue) (give : ℕ → PointValue → PointValue) (pins : List Pin) (k q : ℕ) (start points : List PointValue) (point : PointValue)
    → k < length pins → (pin_at pins k).node < length design.nodes → length (point_nodes design) ≤ length start → HasPoint design (pin_at pins k).node q
    → AreDistinct pins → point ≡ give (pin_at pins k).node (point_at points q) → AreGivenAt design give (take k pins) start points
    → AreGivenAt design give (take (k + 1) pins) start (set points q point)
given_movable design give pins k q start points point less there counted has distinct is before = record {
  all = length-set points q point ∙ before.all;
  each = λ p below. by_place p below (cases_eq p q);
  others = λ p above. get_or-set_other points q p point no_point (λ same. absurd (omega (arith, same, above, within))) ∙ before.others p above;
} where
  i : ℕ
  i = (pin_at pins k).node

  within : q < length (point_nodes design)
  within = point_inside design i q there has

  own : node_of design q ≡ i
  own = ap (node_of design) has.number ∙ (own_point design i there has.movable).there

  by_place : (p : ℕ) → p < length (point_nodes design) → (p ≡ q) ⊎ (p ≡ q → ⊥)
      → point_at (set points q point) p ≡ by_seen give (node_of design p) (point_at start p) (is_at (take (k + 1) pins) (node_of design p))
  by_place p below (inl same) =
      let P : ℕ → Type 0 = λ j. point_at (set points q point) j ≡ by_seen give (node_of design j) (point_at start j) (is_at (take (k + 1) pins) (node_of design j)) in
      subst P (sym same) (here_given design give pins k q start points point less (omega (arith, before.all, counted, within)) own (before_none pins k (pin_at [] 0) i distinct less refl) is (before.each q within))
  by_place p below (inr other) = other_point design give pins k start (set points q point) p less
      (λ e. other (sym (has.number ∙ ap (movable_before design.nodes) e ∙ (own_node design p below).number)))
      (get_or-set_other points q p point no_point other ∙ before.each p below)

-- the points as they lie in memory
pub entries_set : (points : List NetPoint) (q : ℕ) (point : NetPoint) → point_values (set points q point) ≡ set (point_values points) q (point_entry point)
entries_set points q point = map-set point_entry points q point

pub entry_at : (points : List NetPoint) (q : ℕ) (d : NetPoint) → q < length points → point_at (point_values points) q ≡ point_entry (get_or points q d)
entry_at points q d inside = get_or-map point_entry points q d no_point inside

-- the point of a member is there
pub member_point : (design : DesignValue) (pins : List Pin) (k q many : ℕ) → All (IsGoodPin (length design.nodes)) pins → k < length pins
    → Some q ≡ point_of design (pin_at pins k).node → length (point_nodes design) ≤ many → q < many
member_point design pins k q many good less is counted =
    let member : IsGoodPin (length design.nodes) (pin_at pins k) = good k (pin_at [] 0) less in
    omega (arith, counted, point_inside design (pin_at pins k).node q member.there (has_point design (pin_at pins k).node q is))

-- a movable member's point is written, as it lies in memory
pub given_some : (design : DesignValue) (give : ℕ → PointValue → PointValue) (pins : List Pin) (k q : ℕ) (start points new : List NetPoint) (d point : NetPoint)
    → All (IsGoodPin (length design.nodes)) pins → AreDistinct pins → k < length pins → Some q ≡ point_of design (pin_at pins k).node
    → length (point_nodes design) ≤ length start → point_entry point ≡ give (pin_at pins k).node (point_entry (get_or points q d)) → new ≡ set points q point
    → length points ≡ length start → AreGivenAt design give (take k pins) (point_values start) (point_values points)
    → AreGivenAt design give (take (k + 1) pins) (point_values start) (point_values new)
given_some design give pins k q start points new d point good distinct less of counted is written same before =
    let member : IsGoodPin (length design.nodes) (pin_at pins k) = good k (pin_at [] 0) less in
    let inside : q < length points = member_point design pins k q (length points) good less of (omega (arith, same, counted)) in
    let P : List PointValue → Type 0 = AreGivenAt design give (take (k + 1) pins) (point_values start) in
    subst P (sym (ap point_values written ∙ entries_set points q point))
    (given_movable design give pins k q (point_values start) (point_values points) (point_entry point) less member.there (omega (arith, length-map start point_entry, counted))
    (has_point design (pin_at pins k).node q of) distinct
    (is ∙ ap (give (pin_at pins k).node) (sym (entry_at points q d inside))) before)

-- a fixed member leaves them as they are
pub given_none : (design : DesignValue) (give : ℕ → PointValue → PointValue) (pins : List Pin) (k : ℕ) (start points new : List NetPoint) → k < length pins
    → None ≡ point_of design (pin_at pins k).node → new ≡ points → AreGivenAt design give (take k pins) (point_values start) (point_values points)
    → AreGivenAt design give (take (k + 1) pins) (point_values start) (point_values new)
given_none design give pins k start points new less of same before =
    let P : List PointValue → Type 0 = AreGivenAt design give (take (k + 1) pins) (point_values start) in
    subst P (sym (ap point_values same))
    (given_fixed design give pins k (point_values start) (point_values points) less (has_no_point design.nodes (pin_at pins k).node of) before)

-- all members are seen
pub given_last : (design : DesignValue) (give : ℕ → PointValue → PointValue) (pins : List Pin) (k : ℕ) (start points : List PointValue) → length pins ≤ k
    → AreGivenAt design give (take k pins) start points → AreGivenAt design give pins start points
given_last design give pins k start points end h = let P : List Pin → Type 0 = λ at. AreGivenAt design give at start points in subst P (take_all k pins end) h
