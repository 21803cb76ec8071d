-- How many terms a net has, and the sum of them over the nets so far.
use Rattle.std.proofs.Common.{◌≡◌, ◌⊎◌, inl, inr, ℕ, ◌+◌, ◌-◌, ◌*◌, ◌/◌, ◌<◌, ◌≤◌, Bool, true, false, not, cond, eqb, ltb, List, [], ◌∷◌, ◌++◌, length, get_or, take, refl, sym, ◌∙◌, ap, subst, arith}
use Rattle.std.specs.Prelude.{Option, Some, None, ◌&&◌, ◌==◌, filter, sum_by}
use Rattle.std.specs.List.{range_with_len}
use Rattle.std.specs.Option.{is_some}
use Rattle.std.proofs.lemmas.Nat.{mul-le}
use Rattle.std.proofs.lemmas.Bool.{and_parts, and_right, cases_lt, lt-ltb}
use Rattle.std.proofs.lemmas.List.{take_all, get_or-map, length-map}
use Rattle.std.proofs.lemmas.List.Elements.{All-weaker, All-from_recursion}
use Rattle.std.proofs.lemmas.List.Filters.{length-filter_more}
use Rattle.std.proofs.lemmas.List.Sums.{length-filter, count_by-le-length, sum_by_more}
use Rattle.book_design.specs.declared.parts.Pin.{Pin}
use Rattle.book_design.specs.declared.parts.Net.{Net}
use Rattle.book_design.specs.Values.{NetValue, DesignValue}
use Rattle.book_design.specs.Nets.{net_value, net_values}
use Rattle.book_design.specs.Points.{is_movable, movable_before}
use Rattle.book_design.specs.WellFormed.{IsGoodPin, IsGoodNet, IsDesign}
use Rattle.net_model.specs.declared.limits.TheConstants.{NET_WEIGHT, MOST_CLIQUE}
use Rattle.net_model.specs.declared.counting.NetCount.{NetCount}
use Rattle.net_model.specs.Clique.{first_pins, degree, share}
use Rattle.net_model.specs.Network.{pairs, terms_of, fixed_pins, spokes_of, terms_in_pairs}
use Rattle.net_model.specs.Numbered.{node_at, net_at}
use Rattle.net_model.specs.Star.{has_movable, is_wide}
use Rattle.net_model.specs.Forms.Steps.{AreAtNodes, Counts}
use Rattle.net_model.proofs.CliqueNodes.{pin_at, first_there}
use Rattle.net_model.proofs.Ranges.{kept_more}

-- what stands past the last net
abbrev pub no_net : NetValue
no_net = record { weight = 0; pins = [] }

-- whether a pin is at a fixed node
abbrev pub is_fixed : DesignValue → Pin → Bool
is_fixed design pin = not (is_movable (node_at design pin.node))

-- fewer nodes have fewer pairs
pub fewer_pairs : (f k : ℕ) → f ≤ k → pairs f ≤ pairs k
fewer_pairs f k h =
    let product : f * (f - 1) ≤ k * (k - 1) = mul-le f (f - 1) k (k - 1) h (omega arith) in
    omega (arith, product)

-- one pin more: a node is fixed where it has no point
fixed_by_test : (fixed none : Bool) (point : ℕ) → is_some (cond fixed None (Some point)) ≡ not none → not (not fixed) ≡ none
fixed_by_test true true point e = refl
fixed_by_test true false point e = cc
fixed_by_test false true point e = cc
fixed_by_test false false point e = refl

pub counted_fixed : (design : DesignValue) (pins : List Pin) (k count : ℕ) (point : Option ℕ) (none : Bool) → k < length pins
    → point ≡ cond (node_at design (pin_at pins k).node).fixed None (Some (movable_before design.nodes (pin_at pins k).node)) → is_some point ≡ not none
    → count ≡ length (filter (is_fixed design) (take k pins)) → count + cond none 1 0 ≡ length (filter (is_fixed design) (take (k + 1) pins))
counted_fixed design pins k count point none inside is test before =
    let node = (pin_at pins k).node in
    let fixed : is_fixed design (pin_at pins k) ≡ none = fixed_by_test (node_at design node).fixed none (movable_before design.nodes node) (sym (ap is_some is) ∙ test) in
    omega (arith, before, length-filter_more (is_fixed design) pins k (pin_at [] 0) inside, ap (λ b. cond {A = ℕ} b 1 0) fixed)

-- no more of the pins are at fixed nodes than there are
pub few_fixed : (design : DesignValue) (pins : List Pin) → length (filter (is_fixed design) pins) ≤ length pins
few_fixed design pins = omega (arith, length-filter (is_fixed design) pins, count_by-le-length (is_fixed design) pins)

-- the pins of a good net are at nodes, and so are the first of them
pins_there : (nodes : ℕ) (pin : Pin) → IsGoodPin nodes pin → pin.node < nodes
pins_there nodes pin good = good.there

pub net_there : (nodes : ℕ) (net : NetValue) → IsGoodNet nodes net → AreAtNodes nodes net.pins
net_there nodes net good =
    All-weaker (IsGoodPin nodes) (λ pin. pin.node < nodes) (pins_there nodes) net.pins (All-from_recursion (IsGoodPin nodes) net.pins good.pins)

pub members_there : (nodes : ℕ) (net : NetValue) (first : List Pin) → IsGoodNet nodes net → first ≡ first_pins net.pins → AreAtNodes nodes first
members_there nodes net first good e =
    let P : List Pin → Type 0 = AreAtNodes nodes in
    subst P (sym e) (first_there nodes net.pins (net_there nodes net good))

-- the net that a loop reads
pub net_here : (design : DesignValue) (nets : List Net) (n : ℕ) (d net : Net) → net_values nets ≡ design.nets → n < length nets → net ≡ get_or nets n d
    → net_at design n ≡ net_value net
net_here design nets n d net e inside read =
    ap (λ vs. get_or vs n no_net) (sym e) ∙ get_or-map net_value nets n d no_net inside ∙ ap net_value (sym read)

pub net_inside : (design : DesignValue) (nets : List Net) (n : ℕ) → net_values nets ≡ design.nets → n < length nets → n < length design.nets
net_inside design nets n e inside = omega (arith, ap length e, length-map nets net_value)

-- and it is a good one
pub good_net : (design : DesignValue) (nets : List Net) (n : ℕ) (d net : Net) → IsDesign design → net_values nets ≡ design.nets → n < length nets
    → net ≡ get_or nets n d → IsGoodNet (length design.nodes) (net_value net)
good_net design nets n d net valid e inside read =
    let P : NetValue → Type 0 = IsGoodNet (length design.nodes) in
    subst P (net_here design nets n d net e inside read) (All-from_recursion P design.nets valid.nets n no_net (net_inside design nets n e inside))

abbrev pub pin_count : NetValue → ℕ
pin_count net = length net.pins

-- the wide nets among the first so many
abbrev pub wide_up_to : DesignValue → ℕ → List ℕ
wide_up_to design n = filter (λ m. is_wide design (net_at design m)) (range_with_len 0 n)

-- a wide net is no clique, and has a term for each of its nodes
pub no_share : (d w : ℕ) → ltb MOST_CLIQUE d ≡ true → cond (ltb 1 d && not (ltb MOST_CLIQUE d)) (NET_WEIGHT * w / (d - 1)) 0 ≡ 0
no_share d w many = ap (λ c. cond c (NET_WEIGHT * w / (d - 1)) 0) (and_right (ltb 1 d) (not (ltb MOST_CLIQUE d)) (ap not many))

pub wide_terms : (design : DesignValue) (net : NetValue) → is_wide design net ≡ true → terms_in_pairs design net ≡ degree net
wide_terms design net wide =
    let many = (and_parts (ltb MOST_CLIQUE (degree net)) (ltb 0 net.weight && has_movable design net) wide).0 in
    let none : cond (eqb (share net) 0) 0 (pairs (degree net) - pairs (length (fixed_pins design net))) ≡ 0 =
    ap (λ s. cond {A = ℕ} (eqb s 0) 0 (pairs (degree net) - pairs (length (fixed_pins design net)))) (no_share (degree net) net.weight many) in
    let spokes : spokes_of design net ≡ degree net = ap (λ b. cond {A = ℕ} b (degree net) 0) wide in
    omega (arith, none, spokes)

-- where a pair has a weight, the nodes are few enough
pub few_members : (d w s : ℕ) → s ≡ cond (ltb 1 d && not (ltb MOST_CLIQUE d)) (NET_WEIGHT * w / (d - 1)) 0 → (s ≡ 0 → ⊥) → d ≤ MOST_CLIQUE
few_members d w s e some = by_cases (cases_lt MOST_CLIQUE d) where
  by_cases : (MOST_CLIQUE < d) ⊎ (d ≤ MOST_CLIQUE) → d ≤ MOST_CLIQUE
  by_cases (inl many) = absurd (some (e ∙ no_share d w (lt-ltb MOST_CLIQUE d many)))
  by_cases (inr few) = few

-- a net with many nodes and a weight is wide where it has a movable node
pub wide_by : (design : DesignValue) (net : NetValue) → ltb MOST_CLIQUE (degree net) ≡ true → ltb 0 net.weight ≡ true → is_wide design net ≡ has_movable design net
wide_by design net many heavy =
    ap (λ b. b && (ltb 0 net.weight && has_movable design net)) many ∙ ap (λ b. b && has_movable design net) heavy

-- it has no more nodes than pins
pub few_first : (pins : List Pin) → length (first_pins pins) ≤ length pins
few_first [] = omega arith
few_first (pin ∷ pins) = omega (
  arith,
  length-filter (λ (other : Pin). not (other.node == pin.node)) (first_pins pins),
  count_by-le-length (λ (other : Pin). not (other.node == pin.node)) (first_pins pins),
  few_first pins,
)

-- the terms and the wide nets of so many nets, with a bound on the terms
pub record AreCounted (design : DesignValue) (n total : ℕ) (stars : List ℕ) : Type 0 where
  pub terms : total ≡ sum_by (terms_of design) (take n design.nets)
  pub few : total ≤ n * pairs MOST_CLIQUE + sum_by pin_count (take n design.nets)
  pub wide : stars ≡ wide_up_to design n

-- with one net more
pub counted_more : (design : DesignValue) (n : ℕ) (net : NetValue) (total more : ℕ) (stars : List ℕ) (b : Bool) → net_at design n ≡ net → n < length design.nets
    → is_wide design net ≡ b → more ≡ terms_of design net → more ≤ pairs MOST_CLIQUE + pin_count net
    → AreCounted design n total stars → AreCounted design (n + 1) (total + more) (stars ++ cond b (n ∷ []) [])
counted_more design n net total more stars b here inside test new small so_far = record {
  terms = omega (arith, sum_by_more (terms_of design) design.nets n no_net inside, so_far.terms, ap (terms_of design) here, new);
  few = omega (arith, sum_by_more pin_count design.nets n no_net inside, so_far.few, ap pin_count here, small);
  wide = ap (λ ns. ns ++ cond b (n ∷ []) []) so_far.wide ∙ sym (kept_more (λ m. is_wide design (net_at design m)) n
      ∙ ap (λ c. wide_up_to design n ++ cond c (n ∷ []) []) (ap (is_wide design) here ∙ test));
}

-- all nets are counted
pub counted_all : (design : DesignValue) (n : ℕ) (count : NetCount) → n ≡ length design.nets → AreCounted design n count.terms count.stars.items
    → length count.rooms.items ≡ length design.nodes → Counts design count
counted_all design n count end counted rooms = record {
  terms = counted.terms ∙ ap (sum_by (terms_of design)) (take_all n design.nets (omega (arith, end)));
  stars = counted.wide ∙ ap (wide_up_to design) end;
  rooms = rooms;
}
