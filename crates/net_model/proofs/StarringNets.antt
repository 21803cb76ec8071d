-- The wide nets of a design: each is there and is wide, and they and their nodes are few.
use Rattle.std.proofs.Common.{◌≡◌, ℕ, suc, ◌+◌, ◌-◌, ◌*◌, ◌/◌, ◌<◌, ◌≤◌, Bool, true, false, ◌&&◌, cond, List, [], ◌∷◌, length, get_or, refl, sym, ◌∙◌, ap, subst, arith}
use Rattle.std.specs.Prelude.{filter, sum_by, slice_index, nat_lt}
use Rattle.std.specs.List.{range_with_len}
use Rattle.std.proofs.lemmas.Bool.{and_parts, lt-ltb, ltb-true}
use Rattle.std.proofs.lemmas.List.{get_or-map, length-map}
use Rattle.std.proofs.lemmas.List.Elements.{All-from_recursion}
use Rattle.std.proofs.lemmas.List.FromFn.{length-range_with_len}
use Rattle.std.proofs.lemmas.List.Sums.{length-filter, count_by-le-length, get_or-le-sum_by, sum_by-cons}
use Rattle.pad_reach.specs.declared.web.TheConstants.{MOST_POINTS}
use Rattle.book_design.specs.declared.rules.TheConstants.{MOST_PINS}
use Rattle.book_design.specs.declared.parts.Net.{Net}
use Rattle.book_design.specs.Nets.{net_value, net_values}
use Rattle.book_design.specs.Points.{is_movable}
use Rattle.book_design.specs.Values.{NetValue, DesignValue}
use Rattle.book_design.specs.WellFormed.{IsDesign, IsGoodNet}
use Rattle.net_model.specs.declared.limits.TheConstants.{NET_WEIGHT, MOST_CLIQUE}
use Rattle.net_model.specs.Clique.{degree, share}
use Rattle.net_model.specs.Network.{point_count}
use Rattle.net_model.specs.Numbered.{node_at, net_at}
use Rattle.net_model.specs.Star.{has_movable, is_wide, spoke, star_nets, star_net}
use Rattle.net_model.proofs.CountingTerms.{few_first, no_share}
use Rattle.net_model.proofs.StarNets.{star_net_wide}

-- what is known of the net of a star point
pub record IsStarNet (design : DesignValue) (s : ℕ) (net : NetValue) : Type 0 where
  pub same : net ≡ star_net design s
  pub good : IsGoodNet (length design.nodes) net
  pub wide : MOST_CLIQUE < degree net
  pub few : degree net ≤ MOST_PINS

abbrev no_net : NetValue
no_net = record { weight = 0; pins = [] }

abbrev pin_count : NetValue → ℕ
pin_count net = length net.pins

many_nodes : (design : DesignValue) (net : NetValue) → is_wide design net ≡ true → nat_lt MOST_CLIQUE (degree net) ≡ true
many_nodes design net wide = (and_parts (nat_lt MOST_CLIQUE (degree net)) (nat_lt 0 net.weight && has_movable design net) wide).0

by_number : (design : DesignValue) (s : ℕ) → IsDesign design → s < length (star_nets design) → IsStarNet design s (star_net design s)
by_number design s valid less =
    let net = star_net design s in
    let n = slice_index (star_nets design) s in
    let wide = star_net_wide design s less in
    record {
      same = refl;
      good = All-from_recursion (IsGoodNet (length design.nodes)) design.nets valid.nets n no_net wide.0;
      wide = ltb-true MOST_CLIQUE (degree net) (many_nodes design net wide.1);
      few = omega (arith, few_first net.pins, get_or-le-sum_by pin_count design.nets n no_net wide.0, valid.few_pins);
    }

-- the net that a turn reads, as it lies in memory
pub star_net_inside : (design : DesignValue) (nets : List Net) (stars : List ℕ) (k : ℕ) → net_values nets ≡ design.nets → stars ≡ star_nets design
    → k < length stars → get_or stars k 0 < length nets
star_net_inside design nets stars k e numbers less =
    let wide = star_net_wide design k (omega (arith, ap length numbers)) in
    omega (arith, wide.0, ap (λ xs. get_or xs k 0) numbers, ap length e, length-map nets net_value)

pub star_net_read : (design : DesignValue) (nets : List Net) (stars : List ℕ) (k : ℕ) (net : Net) → IsDesign design → net_values nets ≡ design.nets
    → stars ≡ star_nets design → k < length stars → net ≡ get_or nets (get_or stars k 0) net → IsStarNet design k (net_value net)
star_net_read design nets stars k net valid e numbers less item =
    let inner : k < length (star_nets design) = omega (arith, ap length numbers) in
    let n = slice_index (star_nets design) k in
    let below : n < length nets = omega (arith, star_net_inside design nets stars k e numbers less, ap (λ xs. get_or xs k 0) numbers) in
    let here : net ≡ get_or nets n net = item ∙ ap (λ xs. get_or nets (get_or xs k 0) net) numbers in
    let same : star_net design k ≡ net_value net =
    ap (λ xs. get_or xs n no_net) (sym e) ∙ get_or-map net_value nets n net no_net below ∙ ap net_value (sym here) in
    let P : NetValue → Type 0 = IsStarNet design k in
    subst P same (by_number design k valid inner)

-- so it is no clique
pub star_no_share : (design : DesignValue) (s : ℕ) (net : NetValue) → IsStarNet design s net → share net ≡ 0
star_no_share design s net star = no_share (degree net) net.weight (lt-ltb MOST_CLIQUE (degree net) star.wide)

pub spoke_is : (design : DesignValue) (s : ℕ) (net : NetValue) (k weight : ℕ) → IsStarNet design s net → k ≡ degree net → weight ≡ NET_WEIGHT * net.weight * k / (k - 1)
    → weight ≡ spoke (star_net design s)
spoke_is design s net k weight h e is = is ∙ ap (λ d. NET_WEIGHT * net.weight * d / (d - 1)) e ∙ ap spoke h.same

-- a wide net has more pins than a clique may have nodes, so the wide nets are few
wide_pins : (design : DesignValue) (net : NetValue) → is_wide design net ≡ true → MOST_CLIQUE < pin_count net
wide_pins design net wide =
    omega (arith, few_first net.pins, ltb-true MOST_CLIQUE (degree net) (many_nodes design net wide))

count_step : (a more : ℕ) (numbers : List ℕ) (pins : ℕ) (b : Bool) → (b ≡ true → MOST_CLIQUE < pins) → (MOST_CLIQUE + 1) * length numbers ≤ more
    → (MOST_CLIQUE + 1) * length (cond b (a ∷ numbers) numbers) ≤ pins + more
count_step a more numbers pins true has few = omega (arith, has refl)
count_step a more numbers pins false has few = omega arith

few_from : (wide : ℕ → Bool) (a : ℕ) (nets : List NetValue)
    → ((k j : ℕ) → k < length nets → j ≡ a + k → wide j ≡ true → MOST_CLIQUE < pin_count (get_or nets k no_net))
    → (MOST_CLIQUE + 1) * length (filter wide (range_with_len a (length nets))) ≤ sum_by pin_count nets
few_from wide a [] has = omega arith
few_from wide a (net ∷ nets) has =
    let rest = few_from wide (a + 1) nets (λ k j below e. has (suc k) j (omega arith) (omega (arith, e))) in
    let here = count_step a (sum_by pin_count nets) (filter wide (range_with_len (a + 1) (length nets))) (pin_count net) (wide a) (has 0 a (omega arith) (omega arith)) rest in
    omega (arith, here, sum_by-cons pin_count net nets)

pub few_stars : (design : DesignValue) → IsDesign design → (MOST_CLIQUE + 1) * length (star_nets design) ≤ MOST_PINS
few_stars design valid =
    let wide : ℕ → Bool = λ n. is_wide design (net_at design n) in
    omega (
      arith,
      valid.few_pins,
      few_from wide 0 design.nets (λ k j below e w.
          let same : j ≡ k = omega (arith, e) in
          omega (arith, wide_pins design (net_at design j) w, ap (λ n. pin_count (net_at design n)) same)),
    )

-- no more points than a web may have
pub few_points : (design : DesignValue) → IsDesign design → point_count design ≤ MOST_POINTS
few_points design valid =
    let movable : ℕ → Bool = λ i. is_movable (node_at design i) in
    let numbers : List ℕ = range_with_len 0 (length design.nodes) in
    omega (arith, few_stars design valid, valid.few_nodes, length-filter movable numbers, count_by-le-length movable numbers, length-range_with_len 0 (length design.nodes))
