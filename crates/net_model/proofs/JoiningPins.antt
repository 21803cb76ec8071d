-- What one pin of a net gives a point, and then another.
use Rattle.std.proofs.Common.{◌≡◌, ◌≢◌, ℕ, ◌+◌, ◌<◌, ◌≤◌, Bool, true, false, not, ◌||◌, cond, List, [], ◌∷◌, ◌++◌, length, get_or, take, refl, sym, ◌∙◌, ap, append_assoc, arith}
use Rattle.std.specs.Prelude.{Option, Some, None}
use Rattle.std.specs.List.{filter_map, cons_option}
use Rattle.std.proofs.lemmas.Bool.{ne_eqb, eq-eqb}
use Rattle.std.proofs.lemmas.List.{append-nil, take_more, take_all, get_or-map, length-map}
use Rattle.std.proofs.lemmas.List.Elements.{filter_map-append}
use Rattle.book_design.specs.declared.parts.Pin.{Pin}
use Rattle.book_design.specs.declared.parts.Node.{Node}
use Rattle.book_design.specs.Values.{NodeValue, DesignValue, node_value, node_values}
use Rattle.book_design.specs.Points.{is_movable, node_value_at, movable_before}
use Rattle.net_model.specs.declared.parts.Near.{Near}
use Rattle.net_model.specs.declared.parts.FixedPin.{FixedPin}
use Rattle.net_model.specs.Values.{PointValue}
use Rattle.net_model.specs.Numbered.{node_at}
use Rattle.net_model.specs.Forms.Joining.{fixed_pin, paired_near, paired_pin, paired_point}
use Rattle.net_model.proofs.Movable.{no_node}

-- the node at a place, as it lies in memory
pub node_is : (nodes : List Node) (values : List NodeValue) (j : ℕ) (d : Node) → node_values nodes ≡ values → j < length values
    → node_value_at values j ≡ node_value (get_or nodes j d)
node_is nodes values j d e inside =
    sym (ap (λ xs. node_value_at xs j) e) ∙ get_or-map node_value nodes j d no_node (omega (arith, ap length e, length-map nodes node_value))

-- a node without a point is fixed
fixed_by_test : (b : Bool) (point : ℕ) → ◌≡◌ {A = Option ℕ} None (cond b None (Some point)) → not b ≡ false
fixed_by_test true point e = refl
fixed_by_test false point e = cc

pub has_no_point : (nodes : List NodeValue) (i : ℕ) → ◌≡◌ {A = Option ℕ} None (cond (node_value_at nodes i).fixed None (Some (movable_before nodes i)))
    → is_movable (node_value_at nodes i) ≡ false
has_no_point nodes i e = fixed_by_test (node_value_at nodes i).fixed (movable_before nodes i) e

-- a point by its parts
abbrev pub made : List Near → List FixedPin → ℕ → PointValue
made near pins area = record { near = near; pins = pins; area = area }

pub same_made : (near near' : List Near) (pins pins' : List FixedPin) (area : ℕ) → near ≡ near' → pins ≡ pins' → made near pins area ≡ made near' pins' area
same_made near near' pins pins' area e f = ap (λ xs. made xs pins area) e ∙ ap (λ xs. made near' xs area) f

-- a fixed node is a fixed pin more
near_none : (design : DesignValue) (weight i : ℕ) (pin : Pin) (near : List Near) → is_movable (node_at design pin.node) ≡ false → pin.node ≢ i
    → near ≡ near ++ filter_map (paired_near design weight i) (pin ∷ [])
near_none design weight i pin near fixed other =
    let P : Bool → List Near = λ b. near ++ cons_option (cond (b || not (is_movable (node_at design pin.node))) None (Some (record { point = movable_before design.nodes pin.node; weight = weight }))) [] in
    let Q : Bool → List Near = λ b. near ++ cons_option (cond (not b) None (Some (record { point = movable_before design.nodes pin.node; weight = weight }))) [] in
    sym (ap P (ne_eqb pin.node i other) ∙ ap Q fixed ∙ append-nil near)

pub pair_fixed : (design : DesignValue) (nodes : List Node) (weight : ℕ) (pin : Pin) (d : Node) (f : FixedPin) (near : List Near) (pins new : List FixedPin) (area : ℕ)
    → node_values nodes ≡ design.nodes → pin.node < length design.nodes → is_movable (node_at design pin.node) ≡ false
    → f ≡ fixed_pin weight (node_value (get_or nodes pin.node d)) pin → new ≡ pins ++ f ∷ []
    → (i : ℕ) → pin.node ≢ i → made near new area ≡ paired_point design weight (pin ∷ []) i (made near pins area)
pair_fixed design nodes weight pin d f near pins new area e inside fixed is pushed i other =
    let at : f ≡ fixed_pin weight (node_at design pin.node) pin = is ∙ ap (λ node. fixed_pin weight node pin) (sym (node_is nodes design.nodes pin.node d e inside)) in
    let P : Bool → List FixedPin = λ b. pins ++ cons_option (cond b None (Some (fixed_pin weight (node_at design pin.node) pin))) [] in
    same_made near _ new _ area (near_none design weight i pin near fixed other) (pushed ∙ ap (λ g. pins ++ g ∷ []) at ∙ sym (ap P fixed))

-- no pins, and one pin more
pub paired_none : (design : DesignValue) (weight i : ℕ) (point : PointValue) → point ≡ paired_point design weight [] i point
paired_none design weight i point = sym (same_made _ point.near _ point.pins point.area (append-nil point.near) (append-nil point.pins))

paired_both : (design : DesignValue) (weight i : ℕ) (xs ys : List Pin) (point : PointValue)
    → paired_point design weight ys i (paired_point design weight xs i point) ≡ paired_point design weight (xs ++ ys) i point
paired_both design weight i xs ys point = same_made _ _ _ _ point.area
    (append_assoc point.near (filter_map (paired_near design weight i) xs) (filter_map (paired_near design weight i) ys)
    ∙ ap (λ zs. point.near ++ zs) (sym (filter_map-append (paired_near design weight i) xs ys)))
    (append_assoc point.pins (filter_map (paired_pin design weight) xs) (filter_map (paired_pin design weight) ys)
    ∙ ap (λ zs. point.pins ++ zs) (sym (filter_map-append (paired_pin design weight) xs ys)))

pub paired_more : (design : DesignValue) (weight i : ℕ) (pins : List Pin) (k : ℕ) (d : Pin) (start old new : PointValue) → k < length pins
    → old ≡ paired_point design weight (take k pins) i start → new ≡ paired_point design weight (get_or pins k d ∷ []) i old
    → new ≡ paired_point design weight (take (k + 1) pins) i start
paired_more design weight i pins k d start old new less before step =
    step ∙ ap (paired_point design weight (get_or pins k d ∷ []) i) before
    ∙ paired_both design weight i (take k pins) (get_or pins k d ∷ []) start
    ∙ ap (λ xs. paired_point design weight xs i start) (sym (take_more pins k d less))

-- a pin of the movable node itself gives its point nothing
pub paired_self : (design : DesignValue) (weight i : ℕ) (pin : Pin) (point : PointValue) → is_movable (node_at design i) ≡ true → pin.node ≡ i
    → point ≡ paired_point design weight (pin ∷ []) i point
paired_self design weight i pin point movable same =
    let P : Bool → List Near = λ b. point.near ++ cons_option (cond (b || not (is_movable (node_at design pin.node))) None (Some (record { point = movable_before design.nodes pin.node; weight = weight }))) [] in
    let Q : Bool → List FixedPin = λ b. point.pins ++ cons_option (cond b None (Some (fixed_pin weight (node_at design pin.node) pin))) [] in
    let here : is_movable (node_at design pin.node) ≡ true = ap (λ j. is_movable (node_at design j)) same ∙ movable in
    sym (same_made _ point.near _ point.pins point.area (ap P (eq-eqb pin.node i same) ∙ append-nil point.near) (ap Q here ∙ append-nil point.pins))

pub paired_all : (design : DesignValue) (weight i : ℕ) (pins : List Pin) (k : ℕ) (start point : PointValue) → length pins ≤ k
    → point ≡ paired_point design weight (take k pins) i start → point ≡ paired_point design weight pins i start
paired_all design weight i pins k start point end h = h ∙ ap (λ xs. paired_point design weight xs i start) (take_all k pins end)
