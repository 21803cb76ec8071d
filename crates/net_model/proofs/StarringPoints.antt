-- The star points of wide nets, and the points of nodes with their spokes, one star point after another.
use Rattle.std.proofs.Common.{◌≡◌, ◌⊎◌, ℕ, ◌+◌, ◌<◌, Bool, true, false, not, ◌||◌, cond, List, [], ◌∷◌, ◌++◌, length, refl, sym, ◌∙◌, ap, subst, inl, inr, append_assoc, length-append, arith}
use Rattle.std.specs.Prelude.{Option, Some, None, ◌==◌, All}
use Rattle.std.specs.List.{filter_map, cons_option, range_with_len}
use Rattle.std.proofs.Math.Seq.{get_or-append_seam}
use Rattle.std.proofs.lemmas.Bool.{ne_eqb, cases_eq}
use Rattle.std.proofs.lemmas.List.{append-nil, map-id, map-append, length-map, get_or_append_left}
use Rattle.std.proofs.lemmas.List.Elements.{All-head, All-tail, filter_map-append}
use Rattle.std.proofs.lemmas.List.FromFn.{map-range_with_len_more}
use Rattle.book_design.specs.declared.parts.Pin.{Pin}
use Rattle.book_design.specs.Values.{NetValue, DesignValue}
use Rattle.book_design.specs.Points.{is_movable, movable_before}
use Rattle.book_design.specs.WellFormed.{IsGoodPin}
use Rattle.net_model.specs.declared.parts.Near.{Near}
use Rattle.net_model.specs.declared.point.NetPoint.{NetPoint}
use Rattle.net_model.specs.Values.{PointValue, point_at, point_entry, point_values}
use Rattle.net_model.specs.Clique.{first_pins, has_node}
use Rattle.net_model.specs.Numbered.{node_at, node_of, point_nodes}
use Rattle.net_model.specs.Star.{spoke, star_net}
use Rattle.net_model.specs.Forms.Joining.{is_at, paired_near, paired_pin, paired_point}
use Rattle.net_model.specs.Forms.Stars.{spoked_near, star_point, spoked_point, AreSpoked, as_spoke, with_spokes, AreStarredTo}
use Rattle.net_model.proofs.CliqueNodes.{joined_first}
use Rattle.net_model.proofs.JoiningNets.{no_point}
use Rattle.net_model.proofs.JoiningPins.{made, same_made}

-- a node that no pin is at is in a pair with each of them
near_by_test : (near : Near) (movable : Bool) → ◌≡◌ {A = Option Near} (cond (not movable) None (Some near)) (cond movable (Some near) None)
near_by_test near true = refl
near_by_test near false = refl

near_apart : (design : DesignValue) (weight i : ℕ) (pin : Pin) → (pin.node == i) ≡ false → paired_near design weight i pin ≡ spoked_near design weight pin
near_apart design weight i pin apart =
    let near : Near = record { point = movable_before design.nodes pin.node; weight = weight } in
    let P : Bool → Option Near = λ b. cond (b || not (is_movable (node_at design pin.node))) None (Some near) in
    ap P apart ∙ near_by_test near (is_movable (node_at design pin.node))

nears_apart : (design : DesignValue) (weight : ℕ) (pins : List Pin) → All (IsGoodPin (length design.nodes)) pins
    → filter_map (paired_near design weight (length design.nodes)) pins ≡ filter_map (spoked_near design weight) pins
nears_apart design weight [] good = refl
nears_apart design weight (pin ∷ pins) good =
    let nodes = length design.nodes in
    let P : Pin → Type 0 = IsGoodPin nodes in
    let here : IsGoodPin nodes pin = All-head P pin pins good in
    let rest = nears_apart design weight pins (All-tail P pin pins good) in
    let Q : Option Near → List Near = λ o. cons_option o (filter_map (paired_near design weight nodes) pins) in
    ap Q (near_apart design weight nodes pin (ne_eqb pin.node nodes (λ same. absurd (omega (arith, here.there, same)))))
    ∙ ap (cons_option (spoked_near design weight pin)) rest

-- so a star point is what such a node would be
pub star_by_pairs : (design : DesignValue) (weight : ℕ) (pins : List Pin) → All (IsGoodPin (length design.nodes)) pins
    → paired_point design weight pins (length design.nodes) no_point ≡ star_point design weight pins
star_by_pairs design weight pins good = same_made _ _ (filter_map (paired_pin design weight) pins) _ 0 (nears_apart design weight pins good) refl

-- the first so many numbers, and one more
range_more : (n : ℕ) → range_with_len 0 (n + 1) ≡ range_with_len 0 n ++ n ∷ []
range_more n = sym (map-id (range_with_len 0 (n + 1))) ∙ map-range_with_len_more (λ (k : ℕ). k) 0 n n (omega arith) ∙ ap (λ (ns : List ℕ). ns ++ n ∷ []) (map-id (range_with_len 0 n))

spokes_more : (design : DesignValue) (i k : ℕ)
    → filter_map (as_spoke design i) (range_with_len 0 (k + 1)) ≡ filter_map (as_spoke design i) (range_with_len 0 k) ++ cons_option (as_spoke design i k) []
spokes_more design i k = ap (filter_map (as_spoke design i)) (range_more k) ∙ filter_map-append (as_spoke design i) (range_with_len 0 k) (k ∷ [])

-- a node's spoke to one star point more, where it has one
spoke_by_test : (weight number : ℕ) (point : PointValue) (b : Bool) → cond b (spoked_point weight number point) point
    ≡ made (point.near ++ cons_option (cond b (Some (record { point = number; weight = weight })) None) []) point.pins point.area
spoke_by_test weight number point true = refl
spoke_by_test weight number point false = same_made point.near _ point.pins _ point.area (sym (append-nil point.near)) refl

with_more : (design : DesignValue) (k i : ℕ) (old point : PointValue) → point ≡ with_spokes design k i old
    → cond (is_at (first_pins (star_net design k).pins) i) (spoked_point (spoke (star_net design k)) (length (point_nodes design) + k) point) point
    ≡ with_spokes design (k + 1) i old
with_more design k i old point before =
    let net = star_net design k in
    let weight = spoke net in
    let number = length (point_nodes design) + k in
    let P : Bool → PointValue = λ b. cond b (spoked_point weight number point) point in
    let spokes : List Near = filter_map (as_spoke design i) (range_with_len 0 k) in
    let last : List Near = cons_option (as_spoke design i k) [] in
    ap P (joined_first net.pins i) ∙ spoke_by_test weight number point (has_node net i)
    ∙ ap (λ (p : PointValue). made (p.near ++ last) p.pins p.area) before
    ∙ same_made _ _ old.pins _ old.area (append_assoc old.near spokes last ∙ ap (λ xs. old.near ++ xs) (sym (spokes_more design i k))) refl

-- no star point yet
pub starred_none : (design : DesignValue) (points : List PointValue) → AreStarredTo design 0 points points
starred_none design points = record {
  all = omega arith;
  nodes = λ p less. same_made (point_at points p).near _ (point_at points p).pins _ (point_at points p).area (sym (append-nil (point_at points p).near)) refl;
  stars = λ s less. absurd (omega (arith, less));
}

-- one star point more: its spokes, and then the point itself
pub starred_more : (design : DesignValue) (k weight number : ℕ) (members : List Pin) (star : PointValue) (start old mid : List PointValue)
    → weight ≡ spoke (star_net design k) → number ≡ length (point_nodes design) + k → members ≡ first_pins (star_net design k).pins
    → star ≡ star_point design weight members → length start ≡ length (point_nodes design) → AreStarredTo design k start old
    → AreSpoked design weight number members old mid → AreStarredTo design (k + 1) start (mid ++ star ∷ [])
starred_more design k weight number members star start old mid w n m is counted before spoked = record {
  all = omega (arith, length-append mid (star ∷ []), spoked.all, before.all);
  nodes = λ p less.
      let i = node_of design p in
      earlier p (omega arith) ∙ spoked.nodes p less
      ∙ ap (λ (pins : List Pin). cond (is_at pins i) (spoked_point weight number (point_at old p)) (point_at old p)) m
      ∙ ap (λ v. cond (is_at first i) (spoked_point v number (point_at old p)) (point_at old p)) w
      ∙ ap (λ v. cond (is_at first i) (spoked_point (spoke net) v (point_at old p)) (point_at old p)) n
      ∙ with_more design k i (point_at start p) (point_at old p) (before.nodes p less);
  stars = λ s less. by_place s less (cases_eq s k);
} where
  net : NetValue
  net = star_net design k

  first : List Pin
  first = first_pins net.pins

  many : length mid ≡ length (point_nodes design) + k
  many = omega (arith, spoked.all, before.all, counted)

  earlier : (p : ℕ) → p < length (point_nodes design) + k → point_at (mid ++ star ∷ []) p ≡ point_at mid p
  earlier p less = get_or_append_left mid (star ∷ []) no_point p (omega (arith, many))

  of_net : star_point design weight members ≡ star_point design (spoke net) first
  of_net = ap (λ v. star_point design v members) w ∙ ap (star_point design (spoke net)) m

  by_place : (s : ℕ) → s < k + 1 → (s ≡ k) ⊎ (s ≡ k → ⊥)
      → point_at (mid ++ star ∷ []) (length (point_nodes design) + s) ≡ star_point design (spoke (star_net design s)) (first_pins (star_net design s).pins)
  by_place s less (inl last) =
      let P : ℕ → Type 0 = λ j. point_at (mid ++ star ∷ []) (length (point_nodes design) + j) ≡ star_point design (spoke (star_net design j)) (first_pins (star_net design j).pins) in
      let here : point_at (mid ++ star ∷ []) (length (point_nodes design) + k) ≡ star =
      ap (point_at (mid ++ star ∷ [])) (sym many) ∙ get_or-append_seam mid star [] no_point in
      subst P (sym last) (here ∙ is ∙ of_net)
  by_place s less (inr other) =
      let below : s < k = omega (arith, less, other) in
      let p = length (point_nodes design) + s in
      earlier p (omega arith) ∙ spoked.others p (omega arith) (omega (arith, before.all, counted)) ∙ before.stars s below

-- the number of the next star point, as it lies in memory
pub next_number : (design : DesignValue) (k n : ℕ) (start old : List NetPoint) → n ≡ length old → length start ≡ length (point_nodes design)
    → AreStarredTo design k (point_values start) (point_values old) → n ≡ length (point_nodes design) + k
next_number design k n start old e counted before = omega (arith, e, counted, before.all, length-map start point_entry, length-map old point_entry)

-- one star point more, as it lies in memory
pub starred_pushed : (design : DesignValue) (k weight number : ℕ) (members others : List Pin) (star : NetPoint) (start old lent mid new : List NetPoint)
    → weight ≡ spoke (star_net design k) → number ≡ length old → members ≡ first_pins (star_net design k).pins → others ≡ members
    → point_entry star ≡ star_point design weight others → length start ≡ length (point_nodes design) → lent ≡ old → new ≡ mid ++ star ∷ []
    → AreStarredTo design k (point_values start) (point_values old) → AreSpoked design weight number members (point_values lent) (point_values mid)
    → AreStarredTo design (k + 1) (point_values start) (point_values new)
starred_pushed design k weight number members others star start old lent mid new w n m o is counted back pushed before spoked =
    let P : List PointValue → Type 0 = AreStarredTo design (k + 1) (point_values start) in
    let Q : List NetPoint → Type 0 = λ points. AreSpoked design weight number members (point_values points) (point_values mid) in
    subst P (sym (ap point_values pushed ∙ map-append point_entry mid (star ∷ [])))
    (starred_more design k weight number members (point_entry star) (point_values start) (point_values old) (point_values mid) w
    (next_number design k number start old n counted before) m (is ∙ ap (star_point design weight) o) (length-map start point_entry ∙ counted) before (subst Q back spoked))
