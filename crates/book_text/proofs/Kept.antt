-- What stood in front of what was appended is kept.
use Rattle.std.proofs.Common.{◌≡◌, ℕ, ◌≤◌, List, ◌++◌, length, take, sym, ap, ◌∙◌, arith}
use Rattle.std.proofs.lemmas.List.{length-append, length-take, take-take, take-append-le}

pub kept-behind : (old mid more new : List ℕ) (n m : ℕ) → n ≡ length old → take n mid ≡ old → m ≡ length (mid ++ more) → take m new ≡ mid ++ more → take n new ≡ old
kept-behind old mid more new n m old_length front all_length all =
    let short : n ≤ length mid = omega (arith, length-take n mid, ap length front, old_length) in
    sym (take-take n m new (omega (arith, short, all_length, length-append mid more))) ∙ ap (take n) all ∙ take-append-le n mid more short ∙ front
