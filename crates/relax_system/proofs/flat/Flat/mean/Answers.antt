use Rattle.std.proofs.Common.{◌≡◌, ℕ, ◌<◌, List, length, ◌∙◌}
use Rattle.relax_system.specs.declared.points.Point.{Point}
use Rattle.relax_system.specs.System.{point_at, no_point, total_weight}
use Rattle.relax_system.specs.Forms.Flat.{IsFlat}
use Rattle.relax_system.proofs.Rows.{IsRow, IsFlat-row, IsRowOf, IsSoundRow-of, rounded-row, read_mapped}
use Rattle.relax_system.proofs.flat.Flat.mean.Goals as goal

-- the row of a point of the system that the arrays are of
row_of : (points view : List Point) (starts numbers weights totals anchored : List ℕ) (i : ℕ) → IsFlat points starts numbers weights totals anchored → points ≡ view → i < length view → IsRow (point_at view i) i starts numbers weights totals anchored
row_of points view starts numbers weights totals anchored i h same there = IsFlat-row view starts numbers weights totals anchored i (rw same at h) there

pub part-numbers-requires-clause-order : goal.part-numbers-requires-clause-order
part-numbers-requires-clause-order c =
    let row = row_of _ _ _ _ _ _ _ c.args.i c.self.invariant c.self.view_is c.requires.point in
    rw c.deref-2.ensures.value row.from-to

pub part-numbers-requires-clause-within : goal.part-numbers-requires-clause-within
part-numbers-requires-clause-within c =
    let row = row_of _ _ _ _ _ _ _ c.args.i c.self.invariant c.self.view_is c.requires.point in
    rw (c.deref.ensures.value, c.deref-2.ensures.value) row.numbers_end

pub part-weights-requires-clause-order : goal.part-weights-requires-clause-order
part-weights-requires-clause-order c =
    let row = row_of _ _ _ _ _ _ _ c.args.i c.self.invariant c.self.view_is c.requires.point in
    rw c.deref-4.ensures.value row.from-to

pub part-weights-requires-clause-within : goal.part-weights-requires-clause-within
part-weights-requires-clause-within c =
    let row = row_of _ _ _ _ _ _ _ c.args.i c.self.invariant c.self.view_is c.requires.point in
    rw (c.deref-3.ensures.value, c.deref-4.ensures.value) row.weights_end

pub row_mean-requires : goal.row_mean-requires
row_mean-requires c =
    let row = row_of _ _ _ _ _ _ _ c.args.i c.self.invariant c.self.view_is c.requires.point in
    let there : c.args.i < length c.self.inside.system.now = rw c.self.view_is c.requires.point in
    let read : IsRowOf (point_at c.args.self.now c.args.i) c.part-numbers.result.now c.part-weights.result.now c.index.result.now c.index-2.result.now = record {
      numbered = c.part-numbers.ensures ∙ rw (c.deref.ensures.value, c.deref-2.ensures.value) row.numbered;
      weighted = c.part-weights.ensures ∙ rw (c.deref-3.ensures.value, c.deref-4.ensures.value) row.weighted;
      pulled = rw (← c.self.view_is) (read_mapped (λ (p : Point). p.anchored) _ _ c.args.i _ no_point c.self.invariant.pulled there c.index.ensures);
      summed = rw (← c.self.view_is) (read_mapped total_weight _ _ c.args.i _ no_point c.self.invariant.summed there c.index-2.ensures);
    } in
    IsSoundRow-of c.args.self.now c.args.i c.args.narrow _ _ _ _ c.args.v.now read c.requires.valid c.requires.narrow c.requires.point c.requires.boxes

pub returns : goal.returns
returns c =
    let row = row_of _ _ _ _ _ _ _ c.args.i c.self.invariant c.self.view_is c.requires.point in
    let there : c.args.i < length c.self.inside.system.now = rw c.self.view_is c.requires.point in
    let read : IsRowOf (point_at c.args.self.now c.args.i) c.part-numbers.result.now c.part-weights.result.now c.index.result.now c.index-2.result.now = record {
      numbered = c.part-numbers.ensures ∙ rw (c.deref.ensures.value, c.deref-2.ensures.value) row.numbered;
      weighted = c.part-weights.ensures ∙ rw (c.deref-3.ensures.value, c.deref-4.ensures.value) row.weighted;
      pulled = rw (← c.self.view_is) (read_mapped (λ (p : Point). p.anchored) _ _ c.args.i _ no_point c.self.invariant.pulled there c.index.ensures);
      summed = rw (← c.self.view_is) (read_mapped total_weight _ _ c.args.i _ no_point c.self.invariant.summed there c.index-2.ensures);
    } in
    c.row_mean.ensures ∙ rounded-row c.args.side c.args.self.now c.args.i _ _ _ _ c.args.v.now read
