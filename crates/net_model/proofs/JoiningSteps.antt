-- The points by the nets before one net, and behind it.
use Rattle.std.proofs.Common.{◌≡◌, ℕ, ◌+◌, ◌-◌, ◌*◌, ◌/◌, ◌<◌, ◌≤◌, Bool, true, false, not, ◌&&◌, cond, List, [], ◌∷◌, ◌++◌, length, get_or, take, refl, sym, ◌∙◌, ap, subst, arith}
use Rattle.std.specs.Prelude.{All, nat_eq, nat_lt}
use Rattle.std.specs.List.{filter_map}
use Rattle.std.proofs.lemmas.Bool.{ne_eqb}
use Rattle.std.proofs.lemmas.List.{append-nil, take_more, get_or-map, length-map, flat_map_more}
use Rattle.std.proofs.lemmas.List.Elements.{All-from_recursion}
use Rattle.book_design.specs.declared.parts.Pin.{Pin}
use Rattle.book_design.specs.declared.parts.Net.{Net}
use Rattle.book_design.specs.Nets.{net_value, net_values}
use Rattle.book_design.specs.Values.{NetValue, DesignValue}
use Rattle.book_design.specs.WellFormed.{IsDesign, IsGoodPin, IsGoodNet}
use Rattle.net_model.specs.declared.limits.TheConstants.{NET_WEIGHT, MOST_CLIQUE}
use Rattle.net_model.specs.declared.parts.Near.{Near}
use Rattle.net_model.specs.declared.parts.FixedPin.{FixedPin}
use Rattle.net_model.specs.declared.point.NetPoint.{NetPoint}
use Rattle.net_model.specs.Values.{PointValue, point_at, point_entry, point_values}
use Rattle.net_model.specs.Clique.{first_pins, degree, share, has_node}
use Rattle.net_model.specs.Network.{pins_in}
use Rattle.net_model.specs.Numbered.{node_of}
use Rattle.net_model.specs.Forms.Steps.{IsUnmarked, nears_in, nears_by, pins_by, AreJoined}
use Rattle.net_model.specs.Forms.Joining.{is_at, AreDistinct, paired_near, paired_pin, paired_point, ArePaired}
use Rattle.net_model.proofs.CliqueNodes.{distinct_first, joined_first, All_first}

-- a net without a weight gives nothing
none_near : (design : DesignValue) (i : ℕ) (net : NetValue) → share net ≡ 0 → nears_in design i net ≡ []
none_near design i net e =
    ap (λ w. cond (nat_eq w 0) [] (cond (has_node net i) (filter_map (paired_near design (share net) i) (first_pins net.pins)) [])) e

none_pins : (design : DesignValue) (i : ℕ) (net : NetValue) → share net ≡ 0 → pins_in design i net ≡ []
none_pins design i net e =
    ap (λ w. cond (nat_eq w 0) [] (cond (has_node net i) (filter_map (paired_pin design (share net)) (first_pins net.pins)) [])) e

-- another one gives something to the nodes of its first pins
some_near : (design : DesignValue) (i : ℕ) (net : NetValue) → nat_eq (share net) 0 ≡ false
    → nears_in design i net ≡ cond (is_at (first_pins net.pins) i) (filter_map (paired_near design (share net) i) (first_pins net.pins)) []
some_near design i net e =
    let given : List Near = filter_map (paired_near design (share net) i) (first_pins net.pins) in
    ap (λ b. cond b [] (cond (has_node net i) given [])) e ∙ ap (λ b. cond b given []) (sym (joined_first net.pins i))

some_pins : (design : DesignValue) (i : ℕ) (net : NetValue) → nat_eq (share net) 0 ≡ false
    → pins_in design i net ≡ cond (is_at (first_pins net.pins) i) (filter_map (paired_pin design (share net)) (first_pins net.pins)) []
some_pins design i net e =
    let given : List FixedPin = filter_map (paired_pin design (share net)) (first_pins net.pins) in
    ap (λ b. cond b [] (cond (has_node net i) given [])) e ∙ ap (λ b. cond b given []) (sym (joined_first net.pins i))

-- one net more
more_near : (design : DesignValue) (nets : List NetValue) (net : NetValue) (i : ℕ) (new old given : List Near) → new ≡ old ++ given → old ≡ nears_by design nets i
    → nears_in design i net ≡ given → new ≡ nears_by design (nets ++ net ∷ []) i
more_near design nets net i new old given e before gives =
    e ∙ ap (λ xs. xs ++ given) before ∙ ap (λ xs. nears_by design nets i ++ xs) (sym gives) ∙ flat_map_more (nears_in design i) [] nets net

more_pins : (design : DesignValue) (nets : List NetValue) (net : NetValue) (i : ℕ) (new old given : List FixedPin) → new ≡ old ++ given → old ≡ pins_by design nets i
    → pins_in design i net ≡ given → new ≡ pins_by design (nets ++ net ∷ []) i
more_pins design nets net i new old given e before gives =
    e ∙ ap (λ xs. xs ++ given) before ∙ ap (λ xs. pins_by design nets i ++ xs) (sym gives) ∙ flat_map_more (pins_in design i) [] nets net

pub joined_none : (design : DesignValue) (nets : List NetValue) (net : NetValue) (points : List PointValue) → share net ≡ 0 → AreJoined design nets points
    → AreJoined design (nets ++ net ∷ []) points
joined_none design nets net points light before = record {
  all = before.all;
  each = λ p less.
      let h = before.each p less in
      let i = node_of design p in
      record {
        near = more_near design nets net i _ (point_at points p).near [] (sym (append-nil (point_at points p).near)) h.near (none_near design i net light);
        pins = more_pins design nets net i _ (point_at points p).pins [] (sym (append-nil (point_at points p).pins)) h.pins (none_pins design i net light);
        area = h.area;
      };
}

-- a point by whether its node has one of the pins
near_by_test : (design : DesignValue) (weight i : ℕ) (pins : List Pin) (point : PointValue) (b : Bool)
    → (cond b (paired_point design weight pins i point) point).near ≡ point.near ++ cond b (filter_map (paired_near design weight i) pins) []
near_by_test design weight i pins point true = refl
near_by_test design weight i pins point false = sym (append-nil point.near)

pins_by_test : (design : DesignValue) (weight i : ℕ) (pins : List Pin) (point : PointValue) (b : Bool)
    → (cond b (paired_point design weight pins i point) point).pins ≡ point.pins ++ cond b (filter_map (paired_pin design weight) pins) []
pins_by_test design weight i pins point true = refl
pins_by_test design weight i pins point false = sym (append-nil point.pins)

area_by_test : (design : DesignValue) (weight i : ℕ) (pins : List Pin) (point : PointValue) (b : Bool)
    → (cond b (paired_point design weight pins i point) point).area ≡ point.area
area_by_test design weight i pins point true = refl
area_by_test design weight i pins point false = refl

joined_share : (design : DesignValue) (nets : List NetValue) (net : NetValue) (old new : List PointValue) → 0 < share net → AreJoined design nets old
    → ArePaired design (share net) (first_pins net.pins) old new → AreJoined design (nets ++ net ∷ []) new
joined_share design nets net old new heavy before paired = record {
  all = paired.all ∙ before.all;
  each = λ p less.
      let h = before.each p less in
      let i = node_of design p in
      let pins = first_pins net.pins in
      let is = paired.each p less in
      let some : nat_eq (share net) 0 ≡ false = ne_eqb (share net) 0 (λ e. absurd (omega arith)) in
      record {
        near = more_near design nets net i _ (point_at old p).near _ (ap (λ q. q.near) is ∙ near_by_test design (share net) i pins (point_at old p) (is_at pins i)) h.near (some_near design i net some);
        pins = more_pins design nets net i _ (point_at old p).pins _ (ap (λ q. q.pins) is ∙ pins_by_test design (share net) i pins (point_at old p) (is_at pins i)) h.pins (some_pins design i net some);
        area = ap (λ q. q.area) is ∙ area_by_test design (share net) i pins (point_at old p) (is_at pins i) ∙ h.area;
      };
}

pub joined_paired : (design : DesignValue) (nets : List NetValue) (net : NetValue) (weight : ℕ) (members : List Pin) (old new : List PointValue) → 0 < weight
    → weight ≡ share net → members ≡ first_pins net.pins → AreJoined design nets old → ArePaired design weight members old new
    → AreJoined design (nets ++ net ∷ []) new
joined_paired design nets net weight members old new heavy w m before paired =
    let P : ℕ → Type 0 = λ k. ArePaired design k members old new in
    let Q : List Pin → Type 0 = λ pins. ArePaired design (share net) pins old new in
    joined_share design nets net old new (omega (arith, w)) before (subst Q m (subst P w paired))

-- a net of the design, by its place
pub good_net : (design : DesignValue) (nets : List Net) (k : ℕ) (net : Net) → IsDesign design → net_values nets ≡ design.nets → k < length nets → net ≡ get_or nets k net
    → IsGoodNet (length design.nodes) (net_value net)
good_net design nets k net h e less item =
    let none : NetValue = record { weight = 0; pins = [] } in
    let P : NetValue → Type 0 = IsGoodNet (length design.nodes) in
    let at : get_or design.nets k none ≡ net_value net =
    ap (λ xs. get_or xs k none) (sym e) ∙ get_or-map net_value nets k net none less ∙ ap net_value (sym item) in
    subst P at (All-from_recursion P design.nets h.nets k none (omega (arith, ap length e, length-map nets net_value)))

pub nets_more : (nets : List Net) (k : ℕ) (net : Net) → k < length nets → net ≡ get_or nets k net → take (k + 1) (net_values nets) ≡ take k (net_values nets) ++ net_value net ∷ []
nets_more nets k net less item =
    let none : NetValue = record { weight = 0; pins = [] } in
    take_more (net_values nets) k none (omega (arith, length-map nets net_value))
    ∙ ap (λ e. take k (net_values nets) ++ e ∷ []) (get_or-map net_value nets k net none less ∙ ap net_value (sym item))

-- the members of a net are at nodes that are there, each at another one
pub good_pins : (nodes : ℕ) (net : NetValue) (pins : List Pin) → IsGoodNet nodes net → pins ≡ net.pins → All (IsGoodPin nodes) pins
good_pins nodes net pins h e = let P : List Pin → Type 0 = All (IsGoodPin nodes) in subst P (sym e) (All-from_recursion (IsGoodPin nodes) net.pins h.pins)

pub distinct_members : (net : NetValue) (members : List Pin) → members ≡ first_pins net.pins → AreDistinct members
distinct_members net members e =
    let P : List Pin → Type 0 = AreDistinct in
    subst P (sym e) (distinct_first net.pins)

pub share_is : (net : NetValue) (k weight : ℕ) → k ≡ degree net → weight ≡ cond (nat_lt 1 k && not (nat_lt MOST_CLIQUE k)) (NET_WEIGHT * net.weight / (k - 1)) 0
    → weight ≡ share net
share_is net k weight e is = is ∙ ap (λ d. cond (nat_lt 1 d && not (nat_lt MOST_CLIQUE d)) (NET_WEIGHT * net.weight / (d - 1)) 0) e

pub unmarked_by : (nodes count : ℕ) (seen : List Bool) → count ≡ length seen → IsUnmarked nodes seen → IsUnmarked count seen
unmarked_by nodes count seen e h = let P : ℕ → Type 0 = λ n. IsUnmarked n seen in subst P (sym (e ∙ h.all)) h

pub good_members : (nodes : ℕ) (net : NetValue) (members : List Pin) → IsGoodNet nodes net → members ≡ first_pins net.pins → All (IsGoodPin nodes) members
good_members nodes net members h e =
    let P : List Pin → Type 0 = All (IsGoodPin nodes) in
    subst P (sym e) (All_first (IsGoodPin nodes) net.pins (All-from_recursion (IsGoodPin nodes) net.pins h.pins))

pub unmarked_since : (nodes count : ℕ) (before after : List Bool) → count ≡ length before → IsUnmarked nodes before → IsUnmarked count after → IsUnmarked nodes after
unmarked_since nodes count before after e h now = let P : ℕ → Type 0 = λ n. IsUnmarked n after in subst P (e ∙ h.all) now

-- the points behind one net more, as they lie in memory
pub net_paired : (design : DesignValue) (nets : List Net) (k : ℕ) (net : Net) (weight : ℕ) (members : List Pin) (old lent new : List NetPoint) → k < length nets
    → net ≡ get_or nets k net → 0 < weight → weight ≡ share (net_value net) → members ≡ first_pins net.pins → lent ≡ old
    → AreJoined design (take k (net_values nets)) (point_values old) → ArePaired design weight members (point_values lent) (point_values new)
    → AreJoined design (take (k + 1) (net_values nets)) (point_values new)
net_paired design nets k net weight members old lent new less item heavy w m is before paired =
    let P : List NetValue → Type 0 = λ xs. AreJoined design xs (point_values new) in
    let Q : List NetPoint → Type 0 = λ xs. ArePaired design weight members (point_values xs) (point_values new) in
    subst P (sym (nets_more nets k net less item))
    (joined_paired design (take k (net_values nets)) (net_value net) weight members (point_values old) (point_values new) heavy w m before (subst Q is paired))

pub net_none : (design : DesignValue) (nets : List Net) (k : ℕ) (net : Net) (weight : ℕ) (points : List NetPoint) → k < length nets → net ≡ get_or nets k net → weight ≤ 0
    → weight ≡ share (net_value net) → AreJoined design (take k (net_values nets)) (point_values points) → AreJoined design (take (k + 1) (net_values nets)) (point_values points)
net_none design nets k net weight points less item light w before =
    let P : List NetValue → Type 0 = λ xs. AreJoined design xs (point_values points) in
    subst P (sym (nets_more nets k net less item)) (joined_none design (take k (net_values nets)) (net_value net) (point_values points) (omega (arith, w)) before)

pub same_many : (old new : List NetPoint) → length (point_values new) ≡ length (point_values old) → length new ≡ length old
same_many old new e = sym (length-map new point_entry) ∙ e ∙ length-map old point_entry
