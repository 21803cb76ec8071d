use Rattle.std.proofs.Common.{◌≡◌, decimal, ap, ◌∙◌, sym}
use Rattle.std.specs.Prelude.{Some, Ok}
use Rattle.std.specs.Result.{result_ok}
use Rattle.std.proofs.lemmas.Fmt.{parse-decimal}
use Rattle.grid_design.proofs.asked.read_decimal.Goals as goal

pub returns-in_err-number : goal.returns-in_err-number
returns-in_err-number c = rw c.from_residual.ensures (λ number small is.
    let parsed : c.parse.result ≡ Ok number = parse-decimal 64 number c.args.word.now c.parse.result small small is c.parse.ensures.value.0 in
    let some : c.ok.result ≡ Some number = c.ok.ensures.value ∙ ap result_ok parsed in
    let none = c.in_err-number.was in
    cc)

pub returns-else-is_decimal_of : goal.returns-else-is_decimal_of
returns-else-is_decimal_of c = λ number small is.
    let parsed : c.parse.result ≡ Ok number = parse-decimal 64 number c.args.word.now c.parse.result small small is c.parse.ensures.value.0 in
    let some : c.ok.result ≡ Some number = c.ok.ensures.value ∙ ap result_ok parsed in
    let one : Some c.in_ok-number.number ≡ Some number = sym c.in_ok-number.was ∙ some in
    let same : c.in_ok-number.number ≡ number = cc in
    let told = c.if-is_decimal_of.ensures.1 (is ∙ ap decimal (sym same)) in
    cc
