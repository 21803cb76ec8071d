use Rattle.std.proofs.Common.{◌≡◌, ℕ, ◌+◌, ◌<◌, List, [], length, get_or, take, sym, ◌∙◌, ap, arith}
use Rattle.std.specs.List.{sum_by}
use Rattle.std.proofs.lemmas.List.{get_or-map, length-map}
use Rattle.std.proofs.lemmas.List.Sums.{sum_by_more}
use Rattle.book_design.specs.declared.parts.Net.{Net}
use Rattle.book_design.specs.Values.{NetValue}
use Rattle.book_design.specs.Nets.{net_value, net_values}
use Rattle.wire_report.proofs.report.pin_count.Goals as goal

abbrev pins_in : NetValue → ℕ
pins_in net = length net.pins

-- the pins of one more net
pins_more : (nets : List Net) (i : ℕ) (net : Net) (pins many : ℕ) → i < length nets → net ≡ get_or nets i net → pins ≡ sum_by pins_in (take i (net_values nets)) → many ≡ length net.pins
    → pins + many ≡ sum_by pins_in (take (i + 1) (net_values nets))
pins_more nets i net pins many there is before counted =
    let none : NetValue = record { weight = 0; pins = [] } in
    let inside : i < length (net_values nets) = omega (arith, length-map nets net_value) in
    let here : get_or (net_values nets) i none ≡ net_value net = get_or-map net_value nets i net none there ∙ ap net_value (sym is) in
    let more = sum_by_more pins_in (net_values nets) i none inside in
    let same : pins_in (get_or (net_values nets) i none) ≡ length net.pins = ap pins_in here in
    omega (arith, more, same, before, counted)

pub loop-net-preserved : goal.loop-net-preserved
loop-net-preserved c =
    pins_more c.args.nets.now c.loop-net.net-index c.net-item.result c.loop-net.pins _ c.loop-net-test.true c.net-item.is c.loop-net.invariant (ap length c.as_slice.ensures)
