use Rattle.std.proofs.Common.{◌≡◌, ℕ, ◌<◌}
use Rattle.book_design.specs.Forms.Parts.{kept_at}
use Rattle.book_design.proofs.rows.have_site.Given as goal

abbrev pub invariant-loop-strip : goal.invariant-loop-strip
invariant-loop-strip l = (s : ℕ) → s < l.strip-index → (kept_at l.strips s).sites ≡ 0
