-- From the joined points to the network: their sums, and the first heavy one.
use Rattle.std.proofs.Common.{◌≡◌, ℕ, ◌^◌, ◌<◌, List, length, map, Vec, Global, sym, ◌∙◌, ap, subst, arith}
use Rattle.std.specs.Prelude.{All}
use Rattle.std.specs.Vec.{with_items}
use Rattle.std.proofs.lemmas.List.{length-map, get_or-map, with_items_is}
use Rattle.std.proofs.lemmas.List.Elements.{All-from_get_or}
use Rattle.std.proofs.lemmas.List.FromFn.{fill_by_all}
use Rattle.book_design.specs.Values.{DesignValue}
use Rattle.book_design.specs.declared.parts.Core.{Core}
use Rattle.book_design.specs.WellFormed.{IsDesign}
use Rattle.book_design.specs.Faults.{IsFirst}
use Rattle.net_model.specs.declared.point.NetPoint.{NetPoint}
use Rattle.net_model.specs.Network.{point_count, point_value, network_of, total_weight, IsHeavy}
use Rattle.net_model.specs.Numbered.{point_nodes}
use Rattle.net_model.specs.Star.{star_nets}
use Rattle.net_model.specs.Forms.Stars.{AreStarred}
use Rattle.net_model.specs.Forms.Steps.{AreJoined, IsUnsummed, summed, IsHeavyPoint}
use Rattle.net_model.specs.Values.{PointValue, NetworkValue, point_at, point_entry, point_values}
use Rattle.net_model.specs.WellFormed.{IsNet}
use Rattle.net_model.proofs.MakingStars.{is_unsummed, sums_to_value, point_light, unsummed_here}
use Rattle.net_model.proofs.MakingPoints.{no_point}
use Rattle.net_model.proofs.MakingWell.{network_point, network_points, net_without_heavy}
use Rattle.net_model.proofs.StarringNets.{few_points}

pub joined_many : (design : DesignValue) (points : List NetPoint) → AreJoined design design.nets (point_values points) → length points ≡ length (point_nodes design)
joined_many design points joined = sym (length-map points point_entry) ∙ joined.all

-- the points with their cliques and spokes aren't summed
starred_unsummed : (design : DesignValue) (old new : List PointValue) (n : ℕ) → IsDesign design → AreJoined design design.nets old → AreStarred design old new → n ≡ length new → All (IsUnsummed n) new
starred_unsummed design old new n h joined starred many =
    let P : ℕ → Type 0 = λ k. All (IsUnsummed k) new in
    let Q : PointValue → Type 0 = IsUnsummed (point_count design) in
    let e : point_count design ≡ n = omega (arith, starred.all, joined.all) in
    subst P e (All-from_get_or Q new no_point
    (λ p inside. let there : p < point_count design = omega arith in subst Q (sym (unsummed_here design old new p joined starred there)) (is_unsummed design p h there)))

pub given_unsummed : (design : DesignValue) (old : List PointValue) (points given : List NetPoint) → IsDesign design → AreJoined design design.nets old → AreStarred design old (point_values points) → given ≡ points
    → All (IsUnsummed (length given)) (point_values given)
given_unsummed design old points given h joined starred same =
    let P : List NetPoint → Type 0 = λ xs. AreStarred design old (point_values xs) in
    starred_unsummed design old (point_values given) (length given) h joined (subst P (sym same) starred) (sym (length-map given point_entry))

starred_network : (design : DesignValue) (old new after : List PointValue) (n : ℕ) → IsDesign design → AreJoined design design.nets old → AreStarred design old new → n ≡ length new → after ≡ map (summed n) new
    → after ≡ (network_of design).points
starred_network design old new after n h joined starred many e =
    let all = point_count design in
    let same : n ≡ all = omega (arith, starred.all, joined.all) in
    e ∙ ap (λ k. map (summed k) new) same
    ∙ fill_by_all (point_value design) (map (summed all) new) all no_point (omega (arith, length-map new (summed all)))
    (λ p inside. get_or-map (summed all) new p no_point no_point (omega arith) ∙ ap (summed all) (unsummed_here design old new p joined starred inside) ∙ sums_to_value design p h inside)

-- the points of a vector, summed in its slice
pub summed_items : (design : DesignValue) (old : List PointValue) (points : Vec NetPoint Global) (given sums : List NetPoint) → IsDesign design → AreJoined design design.nets old → AreStarred design old (point_values points.items)
    → given ≡ points.items → length given ≡ points.len → length sums ≡ length given → point_values sums ≡ map (summed (length given)) (point_values given) → point_values (with_items points sums).items ≡ (network_of design).points
summed_items design old points given sums h joined starred same many as_many e =
    let P : List NetPoint → Type 0 = λ xs. AreStarred design old (point_values xs) in
    ap point_values (with_items_is points sums (as_many ∙ many))
    ∙ starred_network design old (point_values given) (point_values sums) (length given) h joined (subst P (sym same) starred) (sym (length-map given point_entry)) e

pub points_light : (design : DesignValue) (points : List PointValue) → IsDesign design → points ≡ (network_of design).points → All (λ point. total_weight point < 2 ^ 64) points
points_light design points h made =
    let P : PointValue → Type 0 = λ point. total_weight point < 2 ^ 64 in
    let Q : List PointValue → Type 0 = All P in
    subst Q (sym made) (All-from_get_or P (network_of design).points no_point
    (λ p inside. let there : p < point_count design = omega (arith, network_points design) in subst P (sym (network_point design p there)) (point_light design p h there)))

pub points_few : (design : DesignValue) (points : List NetPoint) → IsDesign design → point_values points ≡ (network_of design).points → length points < 2 ^ 32
points_few design points h made = omega (arith, ap length made, length-map points point_entry, network_points design, few_points design h)

-- a heavy point of the network is one of the design
heavy_of : (design : DesignValue) (points : List PointValue) (p : ℕ) → points ≡ (network_of design).points → IsHeavyPoint points p → IsHeavy design p
heavy_of design points p e heavy =
    let there : p < point_count design = omega (arith, ap length e, network_points design, heavy.0) in
    (there, omega (arith, ap total_weight (ap (λ all. point_at all p) e ∙ network_point design p there), heavy.1))

heavy_in : (design : DesignValue) (points : List PointValue) (p : ℕ) → points ≡ (network_of design).points → IsHeavy design p → IsHeavyPoint points p
heavy_in design points p e heavy =
    (omega (arith, ap length e, network_points design, heavy.0), omega (arith, ap total_weight (ap (λ all. point_at all p) e ∙ network_point design p heavy.0), heavy.1))

pub first_heavy_of : (design : DesignValue) (points : List PointValue) (p : ℕ) → points ≡ (network_of design).points → IsFirst (IsHeavyPoint points) p → IsFirst (IsHeavy design) p
first_heavy_of design points p e first = record {
  here = heavy_of design points p e first.here;
  not_before = λ k less heavy. first.not_before k less (heavy_in design points k e heavy);
}

pub none_heavy : (design : DesignValue) (points : List PointValue) → points ≡ (network_of design).points → ((p : ℕ) → IsHeavyPoint points p → ⊥) → (p : ℕ) → IsHeavy design p → ⊥
none_heavy design points e none p heavy = none p (heavy_in design points p e heavy)

abbrev whole : List PointValue → List ℕ → Core → NetworkValue
whole points stars core = record { points = points; stars = stars; core = core }

same_network : {a b : List PointValue} {m n : List ℕ} {c d : Core} → a ≡ b → m ≡ n → c ≡ d → whole a m c ≡ whole b n d
same_network e f g = cc

pub network_is : (design : DesignValue) (points : List PointValue) (stars : List ℕ) (core : Core) → points ≡ (network_of design).points → stars ≡ star_nets design → core ≡ design.core
    → record { points = points; stars = stars; core = core } ≡ network_of design
network_is design points stars core made nets same = same_network made nets same

pub network_net : (design : DesignValue) (points : List PointValue) (stars : List ℕ) (core : Core) → IsDesign design → points ≡ (network_of design).points → stars ≡ star_nets design → core ≡ design.core → ((p : ℕ) → IsHeavyPoint points p → ⊥)
    → IsNet (record { points = points; stars = stars; core = core })
network_net design points stars core h made nets same none =
    let P : NetworkValue → Type 0 = IsNet in subst P (sym (network_is design points stars core made nets same)) (net_without_heavy design h (none_heavy design points made none))
