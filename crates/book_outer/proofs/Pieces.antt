-- Bytes that are put out in pieces.
use Rattle.std.proofs.Common.{◌≡◌, ℕ, List, ◌++◌, length, take, drop, Option, refl, sym, ap, subst, ◌∙◌, append_assoc, take-append-drop}
use Rattle.std.proofs.lemmas.List.{take_at}
use Rattle.std.proofs.KnownBytes.{Appends-trans, Appends-kept}
use Rattle.std.specs.Io.KnownBytes.{Appends, Keeps}

-- of all the bytes, what was put out from old to new, and the rest
pub record IsSent (old new : Option (List ℕ)) (all rest : List ℕ) : Type 0 where
  pub sent : List ℕ
  pub whole : all ≡ sent ++ rest
  pub appends : Appends old new sent

pub sent_more : (old mid new : Option (List ℕ)) (all rest : List ℕ) (n : ℕ) → IsSent old mid all rest → Appends mid new (take n rest) → IsSent old new all (drop n rest)
sent_more old mid new all rest n is more = record {
  sent = is.sent ++ take n rest;
  whole = is.whole ∙ ap (λ l. is.sent ++ l) (sym (take-append-drop n rest)) ∙ sym (append_assoc is.sent (take n rest) (drop n rest));
  appends = Appends-trans old mid new is.sent (take n rest) is.appends more;
}

pub sent_kept : (old mid new : Option (List ℕ)) (all rest : List ℕ) → IsSent old mid all rest → Keeps mid new → IsSent old new all rest
sent_kept old mid new all rest is keeps = record { sent = is.sent; whole = is.whole; appends = Appends-kept old mid new is.sent is.appends keeps }

pub sent_some : (old new : Option (List ℕ)) (all rest : List ℕ) → IsSent old new all rest → (n : ℕ) × Appends old new (take n all)
sent_some old new all rest is = (length is.sent, subst (Appends old new) (sym (ap (take (length is.sent)) is.whole ∙ take_at is.sent rest (length is.sent) refl)) is.appends)
