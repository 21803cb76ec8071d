use Rattle.std.proofs.Common.{◌≡◌, ◌∙◌, length, map, arith, subst, ap}
use Rattle.std.proofs.lemmas.Result.{err_from_is_err_and}
use Rattle.std.proofs.lemmas.List.{get_or-map, length-map}
use Rattle.book_files.specs.Entries.{PinEntry, pin_entry, pin_entries}
use Rattle.book_design.specs.declared.fault.JoinError.TheVariants.{Fault}
use Rattle.book_design.specs.Joined.{joined_pin}
use Rattle.book_design.specs.Faults.{IsUnknown}
use Rattle.book_design.specs.Forms.Sources.{records_of}
use Rattle.book_design.proofs.Building.{listed_more, built_whole}
use Rattle.book_design.proofs.Netting.{known_more, stops_at_pin}
use Rattle.book_design.proofs.nets.join_pins.Goals as goal

pub loop-line-init : goal.loop-line-init
loop-line-init c = record { pins = c.new-pins.ensures.items; known = λ k below h. absurd (omega arith) }

pub returns-in_err-pin : goal.returns-in_err-pin
returns-in_err-pin c =
    let p = err_from_is_err_and c.from_residual.result c.from_residual.ensures.1 in
    let here = get_or-map pin_entry c.args.lines.now c.loop-line.line-index _ _ c.loop-line-test.true in
    let e : length (map pin_entry c.args.lines.now) ≡ length c.args.lines.now = length-map c.args.lines.now pin_entry in
    rw (p.1, p.2) (stops_at_pin (records_of c.args.records.now) (pin_entries c.args.lines.now) c.loop-line.line-index _ _ (omega (arith, c.loop-line-test.true)) here c.in_err-pin.ensures.0 (ap Fault c.in_err-pin.ensures.1) c.loop-line.invariant.known)

pub loop-line-preserved : goal.loop-line-preserved
loop-line-preserved c =
    let here = get_or-map pin_entry c.args.lines.now c.loop-line.line-index _ _ c.loop-line-test.true in
    let P : PinEntry → Type 0 = λ p. IsUnknown (records_of c.args.records.now) p.node in
    record {
      pins = listed_more (λ line. joined_pin (records_of c.args.records.now) (pin_entry line)) c.args.lines.now c.loop-line.line-index _ c.loop-line.pins.items c.push.new.self.items c.in_ok-pin.pin c.loop-line-test.true c.loop-line.invariant.pins c.in_ok-push.ensures.items c.in_ok-pin.ensures.1;
      known = known_more (records_of c.args.records.now) (pin_entries c.args.lines.now) c.loop-line.line-index c.loop-line.invariant.known (λ h. c.in_ok-pin.ensures.0 (subst P here h));
    }

pub returns : goal.returns
returns c =
    let e : length (map pin_entry c.args.lines.now) ≡ length c.args.lines.now = length-map c.args.lines.now pin_entry in
    (λ j below. c.loop-line.invariant.known j (omega (arith, c.loop-line-test.false)), c.new.ensures ∙ built_whole (joined_pin (records_of c.args.records.now)) pin_entry c.args.lines.now c.loop-line.line-index c.loop-line.pins.items c.loop-line-test.false c.loop-line.invariant.pins)
