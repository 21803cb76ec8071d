use Rattle.std.proofs.Common.{◌≡◌, ◌∙◌, ap, subst, List, map, IfErr}
use Rattle.std.specs.Prelude.{ℕ}
use Rattle.std.specs.Borrow.{Bor}
use Rattle.proud_words.specs.declared.fault.WordsFault.TheVariants.{Usage}
use Rattle.proud_words.specs.Request.{IsRequest, RequestValue}
use Rattle.proud_words.proofs.request.requested.Goals as goal

abbrev texts : List (Bor (List ℕ)) → List (List ℕ)
texts = map (λ (t : Bor (List ℕ)). t.now)

pub returns-clause-usage : goal.returns-clause-usage
returns-clause-usage c =
    subst (λ (words : List (List ℕ)). IfErr c.asked_by.result (λ fault. fault ≡ Usage → (request : RequestValue) → IsRequest words request → ⊥))
    (ap texts c.as_slice.ensures.value ∙ c.in_ok-texts.ensures) c.asked_by.ensures.usage
