use Rattle.std.proofs.Common.{ap, ap₂, ◌∙◌, ◌≡◌, false, List, Some}
use Rattle.std.specs.Prelude.{ℕ, Option}
use Rattle.std.specs.Borrow.{Bor}
use Rattle.clap.specs.Words.{Rule, new_rule, rule_of, with_rule}
use Rattle.clap.specs.declared.builder.arg.Arg.{Arg}
use Rattle.clap.specs.declared.builder.value_parser.ValueParser.{ValueParser}
use Rattle.proud_words.specs.Command.{design_rule, grid_rule, levels_rule, out_rule, passes_rule, schedule_rule, seats_rule}
use Rattle.proud_words.proofs.command.proud_command.Goals as goal

-- an option with a number, from its id, its name and its parser
number_rule : (start named whole : Arg) (id : List ℕ) (name : Bor (List ℕ)) (parser : ValueParser) → rule_of start ≡ new_rule id → named ≡ record start { long = Some name }
    → whole ≡ record named { value_parser = whole.value_parser } → whole.value_parser ≡ Some parser → rule_of whole ≡ record (new_rule id) { long = Some name.now; parser = Some parser }
number_rule start named whole id name parser new long others given =
    let first : rule_of whole ≡ record (rule_of named) { parser = whole.value_parser } = ap rule_of others in
    let second : rule_of named ≡ record (rule_of start) { long = Some name.now } = ap rule_of long in
    first ∙ ap₂ (λ (r : Rule) (p : Option ValueParser). record r { parser = p }) (second ∙ ap (λ (r : Rule). record r { long = Some name.now }) new) given

local : (start named whole : Arg) (name : Bor (List ℕ)) → start.global ≡ false → named ≡ record start { long = Some name } → whole ≡ record named { value_parser = whole.value_parser } → whole.global ≡ false
local start named whole name off long others = ap (λ (a : Arg). a.global) others ∙ ap (λ (a : Arg). a.global) long ∙ off

-- an option with a text, from its id and its name
text_rule : (start named : Arg) (id : List ℕ) (name : Bor (List ℕ)) → rule_of start ≡ new_rule id → named ≡ record start { long = Some name } → rule_of named ≡ record (new_rule id) { long = Some name.now }
text_rule start named id name new long = ap rule_of long ∙ ap (λ (r : Rule). record r { long = Some name.now }) new

local_text : (start named : Arg) (name : Bor (List ℕ)) → start.global ≡ false → named ≡ record start { long = Some name } → named.global ≡ false
local_text start named name off long = ap (λ (a : Arg). a.global) long ∙ off

pub returns : goal.returns
returns c =
    let given = c.value_parser-levels.ensures.given in
    let given_passes = c.value_parser-passes.ensures.given in
    let given_seats = c.value_parser-seats.ensures.given in
    let levels : rule_of c.value_parser-levels.result ≡ levels_rule =
    number_rule c.new.result c.long.result c.value_parser-levels.result _ _ _ c.new.ensures.rule c.long.ensures c.value_parser-levels.ensures.others (given.1 ∙ ap Some (given.2 ∙ c.unsigned.ensures)) in
    let passes : rule_of c.value_parser-passes.result ≡ passes_rule =
    number_rule c.new-2.result c.long-2.result c.value_parser-passes.result _ _ _ c.new-2.ensures.rule c.long-2.ensures c.value_parser-passes.ensures.others (given_passes.1 ∙ ap Some (given_passes.2 ∙ c.unsigned-2.ensures)) in
    let seats : rule_of c.value_parser-seats.result ≡ seats_rule =
    number_rule c.new-3.result c.long-3.result c.value_parser-seats.result _ _ _ c.new-3.ensures.rule c.long-3.ensures c.value_parser-seats.ensures.others (given_seats.1 ∙ ap Some (given_seats.2 ∙ c.unsigned-3.ensures)) in
    let levels_off = local c.new.result c.long.result c.value_parser-levels.result _ c.new.ensures.optional.1 c.long.ensures c.value_parser-levels.ensures.others in
    let passes_off = local c.new-2.result c.long-2.result c.value_parser-passes.result _ c.new-2.ensures.optional.1 c.long-2.ensures c.value_parser-passes.ensures.others in
    let seats_off = local c.new-3.result c.long-3.result c.value_parser-seats.result _ c.new-3.ensures.optional.1 c.long-3.ensures c.value_parser-seats.ensures.others in
    let out : rule_of c.long-out.result ≡ out_rule = text_rule c.new-4.result c.long-out.result _ _ c.new-4.ensures.rule c.long-out.ensures in
    let schedule : rule_of c.long-schedule.result ≡ schedule_rule = text_rule c.new-5.result c.long-schedule.result _ _ c.new-5.ensures.rule c.long-schedule.ensures in
    let grid : rule_of c.long-grid.result ≡ grid_rule = text_rule c.new-6.result c.long-grid.result _ _ c.new-6.ensures.rule c.long-grid.ensures in
    let design : rule_of c.new-design.result ≡ design_rule = c.new-design.ensures.rule in
    let out_off = local_text c.new-4.result c.long-out.result _ c.new-4.ensures.optional.1 c.long-out.ensures in
    let schedule_off = local_text c.new-5.result c.long-schedule.result _ c.new-5.ensures.optional.1 c.long-schedule.ensures in
    let grid_off = local_text c.new-6.result c.long-grid.result _ c.new-6.ensures.optional.1 c.long-grid.ensures in
    c.in_ok-command.ensures.shape c.new-design.ensures.optional.1 ∙ ap₂ with_rule (c.in_ok-arg-6.ensures.shape grid_off
    ∙ ap₂ with_rule (c.in_ok-arg-5.ensures.shape schedule_off ∙ ap₂ with_rule (c.in_ok-arg-4.ensures.shape out_off ∙ ap₂ with_rule (c.in_ok-arg-3.ensures.shape seats_off
    ∙ ap₂ with_rule (c.in_ok-arg-2.ensures.shape passes_off ∙ ap₂ with_rule (c.in_ok-arg.ensures.shape levels_off ∙ ap₂ with_rule c.new-7.ensures.app levels) passes) seats) out) schedule) grid) design
