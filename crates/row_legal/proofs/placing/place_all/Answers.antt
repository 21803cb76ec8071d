use Rattle.std.proofs.Common.{◌≡◌, ◌≢◌, ◌<◌, ℕ, ℤ, List, length, sym, ap, ◌∙◌, subst, inl, inr, arith, w64, to_z, of_z}
use Rattle.std.specs.Prelude.{slice_index}
use Rattle.std.proofs.lemmas.Bool.{cases_lt}
use Rattle.std.proofs.lemmas.Int.{to_z-of_z}
use Rattle.std.proofs.lemmas.List.{length-map}
use Rattle.row_space.specs.Values.{segment_at}
use Rattle.row_legal.specs.declared.picking.Choice.{Choice}
use Rattle.row_legal.specs.Ranges.{IsNear}
use Rattle.row_legal.specs.Forms.Settled.{AreSettled}
use Rattle.row_legal.specs.Forms.Rows.{nearest_site, desires_of, widths_of, IsRowPlaced}
use Rattle.row_legal.proofs.Handouts.{row_read, read_sorted}
use Rattle.row_legal.proofs.Members.{member, apart_within, row_width}
use Rattle.row_legal.proofs.Spreading.{placed_here, placed_still}
use Rattle.row_legal.proofs.placing.place_all.Goals as goal

pub side_by_side-requires-clause-near : goal.side_by_side-requires-clause-near
side_by_side-requires-clause-near c = λ i lt.
    let s = c.loop-s.s in
    let choices = c.args.choices.now in
    let rows = c.in_ok-rows.ensures in
    let sort = read_sorted choices c.in_ok-rows.rows.items s c.index.result.now c.deref.result.now (omega (arith, c.loop-s-test.true, rows.all)) c.index.ensures c.deref.ensures.value (rows.each s c.loop-s-test.true) in
    let one = member choices c.deref.result.now s i sort lt in
    subst (λ (choice : Choice). IsNear choice.x) one.is (c.requires.choices.near one.at one.there)

pub side_by_side-requires-clause-fits : goal.side_by_side-requires-clause-fits
side_by_side-requires-clause-fits c =
    let s = c.loop-s.s in
    let choices = c.args.choices.now in
    let rows = c.in_ok-rows.ensures in
    let sort = read_sorted choices c.in_ok-rows.rows.items s c.index.result.now c.deref.result.now (omega (arith, c.loop-s-test.true, rows.all)) c.index.ensures c.deref.ensures.value (rows.each s c.loop-s-test.true) in
    omega (arith, row_width choices c.deref.result.now s sort, c.requires.choices.fits s c.loop-s-test.true)

pub write_back-requires-clause-short : goal.write_back-requires-clause-short
write_back-requires-clause-short c = λ i lt.
    let s = c.loop-s.s in
    let segment = segment_at c.args.segments.now s in
    let there : s < length c.in_ok-rows.rows.items = omega (arith, c.loop-s-test.true, c.in_ok-rows.ensures.all) in
    let first = c.deref.ensures.value ∙ row_read c.in_ok-rows.rows.items s c.index.result.now there c.index.ensures in
    let second = c.deref-in-loop-s.ensures.value ∙ row_read c.in_ok-rows.rows.items s c.index-in-loop-s.result.now there c.index-in-loop-s.ensures in
    let same = ap length (first ∙ sym second) in
    let all = c.in_ok-firsts.ensures.settled.all in
    let few = c.in_ok-firsts.ensures.short i (omega (arith, lt, same, all, length-map c.deref.result.now (λ (choice : Choice). nearest_site (to_z w64 (of_z w64 c.args.pitch)) segment choice.x))) in
    omega (arith, few, ap (λ (xs : List ℕ). slice_index xs i) c.deref-in-loop-s-2.ensures.value)

pub write_back-requires-clause-there : goal.write_back-requires-clause-there
write_back-requires-clause-there c = λ i lt.
    let s = c.loop-s.s in
    let choices = c.args.choices.now in
    let rows = c.in_ok-rows.ensures in
    let sort = read_sorted choices c.in_ok-rows.rows.items s c.index-in-loop-s.result.now c.deref-in-loop-s.result.now (omega (arith, c.loop-s-test.true, rows.all)) c.index-in-loop-s.ensures c.deref-in-loop-s.ensures.value (rows.each s c.loop-s-test.true) in
    let one = member choices c.deref-in-loop-s.result.now s i sort lt in
    let below = c.requires.choices.cells one.at one.there in
    omega (arith, below, ap (λ (choice : Choice). choice.cell) one.is, c.loop-s.invariant.all)

pub write_back-requires-clause-apart : goal.write_back-requires-clause-apart
write_back-requires-clause-apart c =
    let s = c.loop-s.s in
    let choices = c.args.choices.now in
    let rows = c.in_ok-rows.ensures in
    let sort = read_sorted choices c.in_ok-rows.rows.items s c.index-in-loop-s.result.now c.deref-in-loop-s.result.now (omega (arith, c.loop-s-test.true, rows.all)) c.index-in-loop-s.ensures c.deref-in-loop-s.ensures.value (rows.each s c.loop-s-test.true) in
    apart_within choices c.deref-in-loop-s.result.now s c.requires.choices.apart sort

pub loop-s-preserved : goal.loop-s-preserved
loop-s-preserved c =
    let s = c.loop-s.s in
    let pitch = to_z w64 (of_z w64 c.args.pitch) in
    let segments = c.args.segments.now in
    let choices = c.args.choices.now in
    let rows = c.in_ok-rows.ensures in
    let row = c.deref-in-loop-s.result.now in
    let firsts = c.deref-in-loop-s-2.result.now in
    let segment = segment_at segments s in
    let new = c.write_back.new.places.items in
    let there : s < length c.in_ok-rows.rows.items = omega (arith, c.loop-s-test.true, rows.all) in
    let sort = read_sorted choices c.in_ok-rows.rows.items s c.index-in-loop-s.result.now row there c.index-in-loop-s.ensures c.deref-in-loop-s.ensures.value (rows.each s c.loop-s-test.true) in
    let first = c.deref.ensures.value ∙ row_read c.in_ok-rows.rows.items s c.index.result.now there c.index.ensures in
    let second = c.deref-in-loop-s.ensures.value ∙ row_read c.in_ok-rows.rows.items s c.index-in-loop-s.result.now there c.index-in-loop-s.ensures in
    let settled : AreSettled (desires_of pitch segment row) (widths_of row) segment.sites firsts = subst (λ fs. AreSettled (desires_of pitch segment row) (widths_of row) segment.sites fs) (sym c.deref-in-loop-s-2.ensures.value)
    (subst (λ xs. AreSettled (desires_of pitch segment xs) (widths_of xs) segment.sites c.in_ok-firsts.firsts.items) (first ∙ sym second) c.in_ok-firsts.ensures.settled) in
    record {
      all = c.write_back.ensures.all ∙ c.loop-s.invariant.all;
      each = λ t lt. elim (cases_lt t s) [
        | inl before ↦
            let other : t ≢ s = omega arith in
            placed_still pitch segments choices c.loop-s.places.items new s t row c.requires.choices.apart sort other c.write_back.ensures.kept (c.loop-s.invariant.each t before)
        | inr from ↦
            let here : s ≡ t = omega arith in
            subst (λ k. IsRowPlaced pitch segments choices new k) here (placed_here pitch segments choices new s row firsts sort settled c.write_back.ensures.written)
      ];
    }

pub returns-clause-each : goal.returns-clause-each
returns-clause-each c = λ s lt.
    subst (λ (p : ℤ). IsRowPlaced p c.args.segments.now c.args.choices.now c.loop-s.places.items s) (to_z-of_z w64 c.args.pitch c.ranges.pitch)
    (c.loop-s.invariant.each s (omega (arith, lt, c.loop-s-test.false)))
