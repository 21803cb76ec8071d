use Rattle.std.proofs.Common.{◌≡◌, ℕ, ◌<◌, List, [], ◌∷◌, ◌++◌, length, zero-add, sym, ◌∙◌, ap, subst, arith}
use Rattle.std.specs.Prelude.{map}
use Rattle.std.specs.List.{range_with_len}
use Rattle.std.proofs.lemmas.List.FromFn.{map-range_with_len_more}
use Rattle.pad_reach.specs.Chain.{HasChain}
use Rattle.relax_system.specs.declared.points.Point.{Point}
use Rattle.relax_system.specs.System.{IsValid, joints_of as system_joints}
use Rattle.level_run.specs.LevelSystem.{level_point, level_system}
use Rattle.level_run.proofs.Chains.{chains_stay, length_system}
use Rattle.level_run.proofs.Valid.{system_is_valid}
use Rattle.level_run.proofs.projection.project.Goals as goal

pub loop-p-preserved : goal.loop-p-preserved
loop-p-preserved c =
    let f = level_point c.args.axis c.args.network.now c.args.regions.now c.args.mids.now in
    let p = c.loop-p.p in
    c.in_ok-push.ensures.pushed ∙ ap (λ (ps : List Point). ps ++ c.in_ok-level_point.field-0 ∷ []) c.loop-p.invariant ∙ ap (λ (x : Point). map f (range_with_len 0 p) ++ x ∷ []) c.in_ok-level_point.ensures ∙ sym (map-range_with_len_more f 0 p p (zero-add p))

pub new-requires : goal.new-requires
new-requires c =
    let network = c.args.network.now in
    let f = level_point c.args.axis network c.args.regions.now c.args.mids.now in
    let counted = c.points-p-end.ensures.points in
    let all : c.loop-p.p ≡ length network.points = omega arith in
    let is = c.loop-p.invariant ∙ ap (λ (n : ℕ). map f (range_with_len 0 n)) all in
    subst IsValid (sym is) (system_is_valid c.args.axis network c.args.regions.now c.args.mids.now c.points-p-end.ensures.valid (c.points_have_homes.ensures (length network.points) c.args.regions.now c.requires.partition) c.as_slice.ensures.good c.requires.ends c.requires.chains)

pub returns-clause-chains : goal.returns-clause-chains
returns-clause-chains c =
    let network = c.args.network.now in
    let f = level_point c.args.axis network c.args.regions.now c.args.mids.now in
    let counted = c.points-p-end.ensures.points in
    let all : c.loop-p.p ≡ length network.points = omega arith in
    let is : c.new.result ≡ level_system c.args.axis network c.args.regions.now c.args.mids.now = c.new.ensures ∙ c.loop-p.invariant ∙ ap (λ (n : ℕ). map f (range_with_len 0 n)) all in
    let P : List Point → Type 0 = λ system. (p : ℕ) → p < length system → HasChain (system_joints system) p in
    let many = length_system c.args.axis network c.args.regions.now c.args.mids.now in
    subst P (sym is) (λ p inside. let there : p < length network.points = omega arith in chains_stay c.args.axis network c.args.regions.now c.args.mids.now p c.points-p-end.ensures.valid there (c.requires.chains p there))
