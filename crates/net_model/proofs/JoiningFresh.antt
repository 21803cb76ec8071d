-- The points of the first so many nodes, which no net has given anything.
use Rattle.std.proofs.Common.{◌≡◌, ◌⊎◌, ℕ, ◌+◌, ◌<◌, Bool, true, false, not, List, [], ◌∷◌, ◌++◌, length, get_or, sym, ◌∙◌, ap, subst, inl, inr, arith, length-append}
use Rattle.std.specs.List.{count_by}
use Rattle.std.proofs.Math.Seq.{get_or-append_seam}
use Rattle.std.proofs.lemmas.Bool.{cases_eq}
use Rattle.std.proofs.lemmas.List.{take_all, map-append, length-map, get_or_append_left}
use Rattle.std.proofs.lemmas.List.Sums.{count_by_more_yes, count_by_more_no}
use Rattle.book_design.specs.declared.parts.Node.{Node}
use Rattle.book_design.specs.Values.{NodeValue, DesignValue, node_value, node_values}
use Rattle.book_design.specs.Points.{is_movable, node_value_at, movable_before, site_count, IsNodeOf}
use Rattle.net_model.specs.declared.point.NetPoint.{NetPoint}
use Rattle.net_model.specs.Values.{PointValue, point_at, point_entry, point_values}
use Rattle.net_model.specs.Numbered.{node_at, node_of, point_nodes}
use Rattle.net_model.specs.Forms.Steps.{IsJoined, AreJoined}
use Rattle.net_model.proofs.Movable.{no_node, stands_at_point, count_movable}
use Rattle.net_model.proofs.JoiningPins.{node_is}
use Rattle.net_model.proofs.JoiningNets.{no_point, own_point}

-- as many points as movable nodes among the first
pub record AreFresh (design : DesignValue) (index : ℕ) (points : List PointValue) : Type 0 where
  pub all : length points ≡ movable_before design.nodes index
  pub each : (p : ℕ) → p < length points → IsJoined design [] (node_of design p) (point_at points p)

-- whether a node is movable, as it lies in memory
pub movable_is : (nodes : List Node) (values : List NodeValue) (j : ℕ) (d : Node) (b : Bool) → node_values nodes ≡ values → j < length nodes
    → (get_or nodes j d).fixed ≡ b → is_movable (node_value_at values j) ≡ not b
movable_is nodes values j d b e inside fixed = ap is_movable (node_is nodes values j d e (omega (arith, ap length e, length-map nodes node_value))) ∙ ap not fixed

pub node_inside : (nodes : List Node) (values : List NodeValue) (j : ℕ) → node_values nodes ≡ values → j < length nodes → j < length values
node_inside nodes values j e inside = omega (arith, ap length e, length-map nodes node_value)

-- how many movable nodes there are
pub all_movable : (nodes : List NodeValue) → movable_before nodes (length nodes) ≡ count_by is_movable nodes
all_movable nodes = ap (count_by is_movable) (take_all (length nodes) nodes (omega arith))

pub few_before : (nodes : List NodeValue) (i : ℕ) → i < length nodes → is_movable (node_value_at nodes i) ≡ true → movable_before nodes i < count_by is_movable nodes
few_before nodes i inside movable =
    omega (arith, (stands_at_point nodes (length nodes) i (omega arith) inside movable).inside, count_movable nodes (length nodes) (omega arith), all_movable nodes)

pub no_points : (design : DesignValue) (points : List PointValue) → points ≡ [] → AreFresh design 0 points
no_points design points none = record { all = ap length none; each = λ p less. absurd (omega (arith, ap length none)) }

-- the point of a movable node
pub record IsFresh (design : DesignValue) (i : ℕ) (point : PointValue) : Type 0 where
  pub near : point.near ≡ []
  pub pins : point.pins ≡ []
  pub area : point.area ≡ site_count (node_at design i).width design.pitch

pub fresh_movable : (design : DesignValue) (index : ℕ) (points : List PointValue) (point : PointValue) → index < length design.nodes
    → is_movable (node_at design index) ≡ true → IsFresh design index point → AreFresh design index points → AreFresh design (index + 1) (points ++ point ∷ [])
fresh_movable design index points point inside movable fresh before = record {
  all = length-append points (point ∷ []) ∙ ap (λ k. k + 1) before.all ∙ sym (count_by_more_yes is_movable design.nodes index no_node inside movable);
  each = λ p less. by_place p less (cases_eq p (length points));
} where
  here : IsJoined design [] index (point_at (points ++ point ∷ []) (length points))
  here =
      let P : PointValue → Type 0 = IsJoined design [] index in
      subst P (sym (get_or-append_seam points point [] no_point)) (record { near = fresh.near; pins = fresh.pins; area = fresh.area })

  by_place : (p : ℕ) → p < length (points ++ point ∷ []) → (p ≡ length points) ⊎ (p ≡ length points → ⊥) → IsJoined design [] (node_of design p) (point_at (points ++ point ∷ []) p)
  by_place p less (inl last) =
      let own : node_of design p ≡ index = ap (node_of design) (last ∙ before.all) ∙ (own_point design index inside movable).there in
      let P : ℕ → Type 0 = λ i. IsJoined design [] i (point_at (points ++ point ∷ []) p) in
      let Q : ℕ → Type 0 = λ k. IsJoined design [] index (point_at (points ++ point ∷ []) k) in
      subst P (sym own) (subst Q (sym last) here)
  by_place p less (inr other) =
      let earlier : p < length points = omega (arith, length-append points (point ∷ [])) in
      let P : PointValue → Type 0 = IsJoined design [] (node_of design p) in
      subst P (sym (get_or_append_left points (point ∷ []) no_point p earlier)) (before.each p earlier)

pub fresh_fixed : (design : DesignValue) (index : ℕ) (points : List PointValue) → index < length design.nodes → is_movable (node_at design index) ≡ false
    → AreFresh design index points → AreFresh design (index + 1) points
fresh_fixed design index points inside fixed before = record {
  all = before.all ∙ sym (count_by_more_no is_movable design.nodes index no_node inside fixed);
  each = before.each;
}

pub fresh_all : (design : DesignValue) (index : ℕ) (points : List PointValue) → index ≡ length design.nodes → AreFresh design index points → AreJoined design [] points
fresh_all design index points end fresh =
    let many : length points ≡ length (point_nodes design) =
    fresh.all ∙ ap (movable_before design.nodes) end ∙ sym (count_movable design.nodes (length design.nodes) (omega arith)) in
    record { all = many; each = λ p less. fresh.each p (omega (arith, many)) }

-- one point more, as it lies in memory
pub fresh_pushed : (design : DesignValue) (index : ℕ) (points new : List NetPoint) (point : NetPoint) → index < length design.nodes
    → is_movable (node_at design index) ≡ true → new ≡ points ++ point ∷ [] → IsFresh design index (point_entry point)
    → AreFresh design index (point_values points) → AreFresh design (index + 1) (point_values new)
fresh_pushed design index points new point inside movable pushed fresh before =
    let P : List PointValue → Type 0 = AreFresh design (index + 1) in
    subst P (sym (ap point_values pushed ∙ map-append point_entry points (point ∷ []))) (fresh_movable design index (point_values points) (point_entry point) inside movable fresh before)

-- the node of the next point
pub next_node : (design : DesignValue) (index : ℕ) (points : List NetPoint) (p : ℕ) → index < length design.nodes → is_movable (node_at design index) ≡ true
    → p ≡ length points → AreFresh design index (point_values points) → IsNodeOf design.nodes p index
next_node design index points p inside movable e before = record {
  there = inside;
  movable = movable;
  number = sym (e ∙ sym (length-map points point_entry) ∙ before.all);
}
