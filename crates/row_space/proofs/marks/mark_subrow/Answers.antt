use Rattle.std.proofs.Common.{◌≡◌, ℕ, ◌<◌, List, [], length, ◌+ℤ◌, w64, to_z, of_z, ap, ◌∙◌, arith}
use Rattle.std.specs.Prelude.{min, Result, Ok, Err, OnOk}
use Rattle.std.proofs.lemmas.Int.{ints}
use Rattle.std.proofs.lemmas.List.Elements.{All-from_recursion}
use Rattle.book_files.specs.Ranges.{IsInRange}
use Rattle.book_design.specs.declared.parts.Subrow.{Subrow}
use Rattle.book_design.specs.Values.{DesignValue, node_value}
use Rattle.book_design.specs.WellFormed.{IsDesign, IsGoodSubrow, subrow_at}
use Rattle.row_space.proofs.Marking.{adds_subrow}
use Rattle.row_space.proofs.marks.mark_subrow.Goals as goal

left_range : (design : DesignValue) (t : ℕ) → IsDesign design → t < length design.subrows → IsInRange (subrow_at design.subrows t).x
left_range design t valid there = (All-from_recursion (IsGoodSubrow design.pitch design.row_height) design.subrows valid.subrows t (subrow_at [] 0) there).x

-- as the code reads it
read_left : (design : DesignValue) (subrows : List Subrow) (t : ℕ) → IsDesign design → subrows ≡ design.subrows → t < length design.subrows
    → to_z w64 (of_z w64 (subrow_at subrows t).x) ≡ (subrow_at design.subrows t).x
read_left design subrows t valid is there =
    let range = left_range design t valid there in
    let fits : to_z w64 (of_z w64 (subrow_at design.subrows t).x) ≡ (subrow_at design.subrows t).x = omega (arith, ints, range.low, range.high) in
    ap (λ ss. to_z w64 (of_z w64 (subrow_at ss t).x)) is ∙ fits

on_ok : {T E P Q : Type 0} (result : Result T E) → OnOk result P → (P → Q) → OnOk result Q
on_ok (Ok done) p f = f p
on_ok (Err error) p f = tt

pub bounds-subrows-number : goal.bounds-subrows-number
bounds-subrows-number c = omega (arith, c.requires.there, ap length c.subrows.ensures.subrows)

pub sites_before-first-requires-clause-left : goal.sites_before-first-requires-clause-left
sites_before-first-requires-clause-left c =
    rw (read_left c.args.design.now c.subrows.result.now c.args.number c.subrows.ensures.valid c.subrows.ensures.subrows c.requires.there) (left_range c.args.design.now c.args.number c.subrows.ensures.valid c.requires.there)

pub sites_up_to-end-requires-clause-left : goal.sites_up_to-end-requires-clause-left
sites_up_to-end-requires-clause-left c =
    rw (read_left c.args.design.now c.subrows.result.now c.args.number c.subrows.ensures.valid c.subrows.ensures.subrows c.requires.there) (left_range c.args.design.now c.args.number c.subrows.ensures.valid c.requires.there)

pub sites_up_to-end-requires-clause-x_low : goal.sites_up_to-end-requires-clause-x_low
sites_up_to-end-requires-clause-x_low c =
    let n = c.requires.node in
    omega (arith, ints, n.x.low, n.x.high, n.width.low, n.width.high, n.width_sign)

pub sites_up_to-end-requires-clause-x_high : goal.sites_up_to-end-requires-clause-x_high
sites_up_to-end-requires-clause-x_high c =
    let n = c.requires.node in
    omega (arith, ints, n.x.low, n.x.high, n.width.low, n.width.high, n.width_sign)

pub returns : goal.returns
returns c =
    let design = c.args.design.now in
    let node = node_value c.args.node.now in
    let n = c.requires.node in
    let valid = c.subrows.ensures.valid in
    let t = c.args.number in
    let left = read_left design c.subrows.result.now t valid c.subrows.ensures.subrows c.requires.there in
    let x : to_z w64 (of_z w64 node.x) ≡ node.x = omega (arith, ints, n.x.low, n.x.high) in
    let right : to_z w64 (of_z w64 (to_z w64 (of_z w64 node.x) +ℤ to_z w64 (of_z w64 node.width))) ≡ node.x +ℤ node.width = omega (arith, ints, n.x.low, n.x.high, n.width.low, n.width.high, n.width_sign) in
    let pitch : to_z w64 (of_z w64 c.pitch.result) ≡ design.pitch = omega (arith, ints, c.pitch.ensures.pitch, valid.pitch.low, valid.pitch.high) in
    let pitch_2 : to_z w64 (of_z w64 c.pitch-2.result) ≡ design.pitch = omega (arith, ints, c.pitch-2.ensures.pitch, valid.pitch.low, valid.pitch.high) in
    let below = rw (x, left, pitch) at c.sites_before-first.ensures in
    let over = rw (left, pitch_2, right) at c.sites_up_to-end.ensures in
    let ends : c.min.result ≡ min c.sites_up_to-end.result (subrow_at design.subrows t).sites = c.min.ensures ∙ ap (min c.sites_up_to-end.result) (c.from.ensures ∙ ap (λ ss. (subrow_at ss t).sites) c.subrows.ensures.subrows) in
    on_ok c.add_mark.result c.add_mark.ensures (λ is. adds_subrow design node c.args.marks.now.items c.add_mark.new.marks.items t c.sites_before-first.result c.sites_up_to-end.result c.min.result
    valid c.requires.solid c.requires.there c.requires.row below over ends is)
