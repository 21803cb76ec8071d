-- A chain of the network gives one in each level's system: it stays in the region up to an anchored point, or leaves it at a constant.
use Rattle.std.proofs.Common.{◌≡◌, ℕ, ◌<◌, ◌≤◌, Bool, true, false, not, List, [], ◌∷◌, length, get_or, map, refl, sym, ◌∙◌, ap, subst, arith}
use Rattle.std.specs.Prelude.{sum_by, Contains}
use Rattle.std.specs.List.{AllByRecursion}
use Rattle.std.proofs.lemmas.Bool.{le-leb}
use Rattle.std.proofs.lemmas.List.{length-map, get_or-map}
use Rattle.std.proofs.lemmas.List.Elements.{All-from_recursion, All-get_or}
use Rattle.std.proofs.lemmas.List.FromFn.{length-map-range_with_len, get_or-map-range_with_len}
use Rattle.std.proofs.lemmas.List.Sums.{sum_by-cons, get_or-le-sum_by}
use Rattle.pad_reach.specs.Chain.{Joint, no_joint, joint_at, IsNeighbour, IsAnchored, IsChain, HasChain}
use Rattle.area_cut.specs.declared.axis.Axis.{Axis}
use Rattle.area_cut.specs.declared.region.Region.{Region}
use Rattle.net_model.specs.declared.parts.Near.{Near}
use Rattle.net_model.specs.declared.parts.FixedPin.{FixedPin}
use Rattle.net_model.specs.Values.{PointValue, NetworkValue, point_at}
use Rattle.net_model.specs.WellFormed.{IsGoodNear, IsGoodPin, IsNet}
use Rattle.net_model.specs.Webs.{has_pins, joint_of, joints_of}
use Rattle.relax_system.specs.declared.points.Near.{Near as Neighbour}
use Rattle.relax_system.specs.System.{joint_of as system_joint, joints_of as system_joints, point_at as system_point, no_point}
use Rattle.level_run.specs.LevelSystem.{is_inside, inside, outside, as_neighbour, level_point, level_system}
use Rattle.level_run.proofs.Parts.{kept_at}

abbrev pub no_value : PointValue
no_value = record { near = []; pins = []; area = 0 }

abbrev pub no_near : Near
no_near = record { point = 0; weight = 0 }

pub length_system : (axis : Axis) (network : NetworkValue) (regions : List Region) (mids : List ℕ) → length (level_system axis network regions mids) ≡ length network.points
length_system axis network regions mids = length-map-range_with_len (level_point axis network regions mids) 0 (length network.points)

pub system_at : (axis : Axis) (network : NetworkValue) (regions : List Region) (mids : List ℕ) (p : ℕ) → p < length network.points → system_point (level_system axis network regions mids) p ≡ level_point axis network regions mids p
system_at axis network regions mids p there = get_or-map-range_with_len (level_point axis network regions mids) 0 (length network.points) p p no_point there (omega arith)

pub network_joint : (network : NetworkValue) (p : ℕ) → p < length network.points → joint_at (joints_of network) p ≡ joint_of (point_at network.points p)
network_joint network p there = get_or-map joint_of network.points p no_value no_joint there

pub level_joint : (axis : Axis) (network : NetworkValue) (regions : List Region) (mids : List ℕ) (p : ℕ) → p < length network.points
    → joint_at (system_joints (level_system axis network regions mids)) p ≡ system_joint (level_point axis network regions mids p)
level_joint axis network regions mids p there =
    get_or-map system_joint (level_system axis network regions mids) p no_point no_joint (omega (arith, length_system axis network regions mids)) ∙ ap system_joint (system_at axis network regions mids p there)

-- a point with a fixed pin has weight from it
pub pins_weigh : (pins : List FixedPin) → AllByRecursion IsGoodPin pins → has_pins pins ≡ true → 1 ≤ sum_by (λ pin. pin.weight) pins
pins_weigh [] good some = absurd cc
pins_weigh (pin ∷ pins) good some = omega (arith, sum_by-cons (λ (p : FixedPin). p.weight) pin pins, good.0.positive)

-- a point that has a constant is anchored
anchored_by : (axis : Axis) (network : NetworkValue) (regions : List Region) (mids : List ℕ) (p : ℕ) → p < length network.points → 1 ≤ (level_point axis network regions mids p).anchor → IsAnchored (system_joints (level_system axis network regions mids)) p
anchored_by axis network regions mids p there some = ap (λ (j : Joint). j.anchored) (level_joint axis network regions mids p there) ∙ le-leb 1 (level_point axis network regions mids p).anchor some

-- a neighbour of the network, by its entry
pub entry_of : (network : NetworkValue) (p q : ℕ) → p < length network.points → IsNeighbour (joints_of network) p q
    → (k : ℕ) × (k < length (point_at network.points p).near) × ((get_or (point_at network.points p).near k no_near).point ≡ q)
entry_of network p q there near =
    let own = (point_at network.points p).near in
    let joint = network_joint network p there in
    let P = λ (j : Joint). Contains j.near q in
    let at : Contains (map (λ (n : Near). n.point) own) q = subst P joint near in
    let many = length-map own (λ (n : Near). n.point) in
    let k_in = at.1 in
    let k_own : at.0 < length own = omega arith in
    (at.0, k_own, sym (get_or-map (λ (n : Near). n.point) own at.0 no_near q k_own) ∙ at.2)

-- a neighbour elsewhere anchors the point
outside_weighs : (network : NetworkValue) (regions : List Region) (p k : ℕ) → IsNet network → p < length network.points → k < length (point_at network.points p).near
    → is_inside regions p (get_or (point_at network.points p).near k no_near) ≡ false → 1 ≤ sum_by (λ n. n.weight) (outside regions p (point_at network.points p).near)
outside_weighs network regions p k net there k_in elsewhere =
    let own = (point_at network.points p).near in
    let kept = kept_at (λ n. not (is_inside regions p n)) own k no_near k_in (ap not elsewhere) in
    let some = get_or-le-sum_by (λ (n : Near). n.weight) (outside regions p own) kept.0 no_near kept.1 in
    let weight : (get_or (outside regions p own) kept.0 no_near).weight ≡ (get_or own k no_near).weight = ap (λ (n : Near). n.weight) kept.2 in
    let good = All-get_or (IsGoodNear (length network.points) p) own k no_near k_in (All-from_recursion (IsGoodNear (length network.points) p) own (net.each p there).near) in
    let positive = good.positive in
    omega arith

-- a neighbour in the region stays one
inside_stays : (axis : Axis) (network : NetworkValue) (regions : List Region) (mids : List ℕ) (p k q : ℕ) → p < length network.points → k < length (point_at network.points p).near
    → (get_or (point_at network.points p).near k no_near).point ≡ q → is_inside regions p (get_or (point_at network.points p).near k no_near) ≡ true → IsNeighbour (system_joints (level_system axis network regions mids)) p q
inside_stays axis network regions mids p k q there k_in is here =
    let own = (point_at network.points p).near in
    let kept = kept_at (is_inside regions p) own k no_near k_in here in
    let stay = inside regions p own in
    let many = length-map stay as_neighbour in
    let all = length-map (map as_neighbour stay) (λ (n : Neighbour). n.point) in
    let j_in = kept.1 in
    let first : get_or (map (λ (n : Neighbour). n.point) (map as_neighbour stay)) kept.0 q ≡ (get_or (map as_neighbour stay) kept.0 (as_neighbour no_near)).point = get_or-map (λ (n : Neighbour). n.point) (map as_neighbour stay) kept.0 (as_neighbour no_near) q (omega arith) in
    let second : get_or (map as_neighbour stay) kept.0 (as_neighbour no_near) ≡ as_neighbour (get_or stay kept.0 no_near) = get_or-map as_neighbour stay kept.0 no_near (as_neighbour no_near) j_in in
    let third : (get_or stay kept.0 no_near).point ≡ q = ap (λ (n : Near). n.point) kept.2 ∙ is in
    let among : Contains (map (λ (n : Neighbour). n.point) (map as_neighbour stay)) q = (kept.0, omega arith, first ∙ ap (λ (n : Neighbour). n.point) second ∙ third) in
    let P = λ (j : Joint). Contains j.near q in
    subst P (sym (level_joint axis network regions mids p there)) among

there_if_near : (network : NetworkValue) (p q : ℕ) → IsNet network → p < length network.points → IsNeighbour (joints_of network) p q → q < length network.points
there_if_near network p q net there near =
    let own = (point_at network.points p).near in
    let entry = entry_of network p q there near in
    let good = All-get_or (IsGoodNear (length network.points) p) own entry.0 no_near entry.1 (All-from_recursion (IsGoodNear (length network.points) p) own (net.each p there).near) in
    let is = entry.2 in
    let inside = good.there in
    omega arith

level_chain : (axis : Axis) (network : NetworkValue) (regions : List Region) (mids : List ℕ) (p : ℕ) (rest : List ℕ) → IsNet network → p < length network.points → IsChain (joints_of network) (p ∷ rest) → HasChain (system_joints (level_system axis network regions mids)) p
level_chain axis network regions mids p [] net there chain =
    let pinned : has_pins (point_at network.points p).pins ≡ true = sym (ap (λ (j : Joint). j.anchored) (network_joint network p there)) ∙ chain in
    let some = pins_weigh (point_at network.points p).pins (net.each p there).pins pinned in
    ([], anchored_by axis network regions mids p there (omega arith))
level_chain axis network regions mids p (q ∷ rest) net there chain =
    by_cases (entry_of network p q there chain.0) (level_chain axis network regions mids q rest net (there_if_near network p q net there chain.0) chain.1) where
      own : List Near
      own = (point_at network.points p).near

      by_entry : (k : ℕ) → k < length (point_at network.points p).near → (get_or (point_at network.points p).near k no_near).point ≡ q → HasChain (system_joints (level_system axis network regions mids)) q
          → (b : Bool) → is_inside regions p (get_or (point_at network.points p).near k no_near) ≡ b → HasChain (system_joints (level_system axis network regions mids)) p
      by_entry k k_in is onward true here = (q ∷ onward.0, (inside_stays axis network regions mids p k q there k_in is here, onward.1))
      by_entry k k_in is onward false elsewhere =
          let some = outside_weighs network regions p k net there k_in elsewhere in
          ([], anchored_by axis network regions mids p there (omega arith))

      by_cases : ((k : ℕ) × (k < length (point_at network.points p).near) × ((get_or (point_at network.points p).near k no_near).point ≡ q)) → HasChain (system_joints (level_system axis network regions mids)) q → HasChain (system_joints (level_system axis network regions mids)) p
      by_cases entry onward = by_entry entry.0 entry.1 entry.2 onward (is_inside regions p (get_or (point_at network.points p).near entry.0 no_near)) refl

pub chains_stay : (axis : Axis) (network : NetworkValue) (regions : List Region) (mids : List ℕ) (p : ℕ) → IsNet network → p < length network.points → HasChain (joints_of network) p → HasChain (system_joints (level_system axis network regions mids)) p
chains_stay axis network regions mids p net there chain = level_chain axis network regions mids p chain.0 net there chain.1
