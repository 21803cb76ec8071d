use Rattle.std.proofs.Common.{◌≡◌, ◌∙◌, sym, ap, Some, Option, None, w64}
use Rattle.std.proofs.lemmas.Int.{to_z-of_z}
use Rattle.std.specs.Int.{int_min, int_max}
use Rattle.book_design.specs.Forms.Assembly.{core_with}
use Rattle.book_design.specs.declared.parts.Core.{Core}
use Rattle.book_design.proofs.assembly.widened.Goals as goal

same_core : (a b : Core) → a.xlo ≡ b.xlo → a.xhi ≡ b.xhi → a.ylo ≡ b.ylo → a.yhi ≡ b.yhi → a ≡ b
same_core a b e f g h = λ i. record { xlo = e i; xhi = f i; ylo = g i; yhi = h i }

pub returns-in-Some-clause-some : goal.returns-in-Some-clause-some
returns-in-Some-clause-some c some =
    let before = c.in-Some.core in
    let strip = c.args.strip.now in
    let own : c.strip_core-own.result ≡ core_with c.args.height strip None = c.strip_core-own.ensures ∙ ap (λ h. core_with h strip None) (to_z-of_z w64 c.args.height c.ranges.height) in
    let r = c.around.ensures in
    ap (λ (k : Core). Some k) (same_core c.around.result (core_with c.args.height strip (Some before))
    (r.left ∙ ap (λ (o : Core). int_min before.xlo o.xlo) own)
    (r.right ∙ ap (λ (o : Core). int_max before.xhi o.xhi) own)
    (r.lower ∙ ap (λ (o : Core). int_min before.ylo o.ylo) own)
    (r.upper ∙ ap (λ (o : Core). int_max before.yhi o.yhi) own))
    ∙ ap (λ (o : Option Core). Some (core_with c.args.height strip o)) (sym c.in-Some.is)
