use Rattle.std.proofs.Common.{◌≡◌, ℕ, List, ◌++◌, ◌∙◌, ap, append_assoc}
use Rattle.std.specs.Prelude.{Result, Ok, Err, OnOk, codes, decimal}
use Rattle.proud_top.proofs.refusal.push_room.Goals as goal

more : (old subject text one new : List ℕ) → one ≡ old ++ subject → new ≡ one ++ text → new ≡ old ++ (subject ++ text)
more old subject text one new e f = f ∙ ap (λ (l : List ℕ). l ++ text) e ∙ append_assoc old subject text

on_ok : {T E P Q : Type 0} (result : Result T E) → OnOk result P → (P → Q) → OnOk result Q
on_ok (Ok done) p f = f p
on_ok (Err error) p f = tt

pub returns : goal.returns
returns c =
    let wrong : List ℕ = codes ": no room for " ++ (decimal c.args.sites ++ (codes " sites, " ++ (decimal c.args.largest ++ codes " left"))) in
    let is : c.as_str.result.now ≡ wrong = c.as_str.ensures.value ∙ c.in_ok-wrong.ensures.ok in
    let line = c.extend_from_slice.new.self.items in
    on_ok c.push.result c.push.ensures (λ put.
    more c.args.line.now.items c.args.subject.now wrong line c.push.new.line.items c.in_ok-extend_from_slice.ensures.items (put ∙ ap (λ (t : List ℕ). line ++ t) is))
