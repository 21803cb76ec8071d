-- The lines of the report, put piece by piece.
use Rattle.std.proofs.Common.{◌≡◌, ℕ, ◌/◌, ◌%◌, List, [], ◌∷◌, ◌++◌, length, decimal, ◌∙◌, ap, sym, append_assoc}
use Rattle.std.specs.Prelude.{codes}
use Rattle.std.specs.List.{count_by, sum_by}
use Rattle.std.proofs.lemmas.List.{length-map}
use Rattle.book_text.specs.Decimal.{fraction_text}
use Rattle.book_design.specs.declared.parts.Net.{Net}
use Rattle.book_design.specs.Values.{DesignValue, NetValue}
use Rattle.book_design.specs.Nets.{net_value, net_values}
use Rattle.book_design.specs.Points.{is_movable}
use Rattle.wire_report.specs.Report.{pins_of, ended, counts_line, levels_line, wire_line}
use Rattle.wire_report.proofs.Decimals.{canonical_parts}

-- how many nets and pins are counted
pub nets_counted : (nets : List Net) (design : DesignValue) → net_values nets ≡ design.nets → length nets ≡ length design.nets
nets_counted nets design same = sym (length-map nets net_value) ∙ ap length same

pub pins_counted : (nets : List Net) (design : DesignValue) (pins : ℕ) → net_values nets ≡ design.nets → pins ≡ sum_by (λ net. length net.pins) (net_values nets) → pins ≡ pins_of design
pins_counted nets design pins same is = is ∙ ap (λ (list : List NetValue). sum_by (λ net. length net.pins) list) same

pub counts_put : (design : DesignValue) (old a b c d new : List ℕ) (cells terminals nets pins : ℕ) → a ≡ old ++ codes "cells " ++ decimal cells → b ≡ a ++ codes " terminals " ++ decimal terminals
    → c ≡ b ++ codes " nets " ++ decimal nets → d ≡ c ++ codes " pins " ++ decimal pins → new ≡ d ++ 10 ∷ []
    → cells ≡ count_by is_movable design.nodes → terminals ≡ count_by (λ node. node.fixed) design.nodes → nets ≡ length design.nets → pins ≡ pins_of design
    → new ≡ old ++ counts_line design
counts_put design old a b c d new cells terminals nets pins first second third fourth last m t n p =
    let whole : new ≡ old ++ ended (codes "cells " ++ decimal cells ++ codes " terminals " ++ decimal terminals ++ codes " nets " ++ decimal nets ++ codes " pins " ++ decimal pins) =
    rw (last, fourth, third, second, first) (simp append_assoc) in
    let line : ℕ → ℕ → ℕ → ℕ → List ℕ = λ i j k l. old ++ ended (codes "cells " ++ decimal i ++ codes " terminals " ++ decimal j ++ codes " nets " ++ decimal k ++ codes " pins " ++ decimal l) in
    whole ∙ ap (λ i. line i terminals nets pins) m ∙ ap (λ j. line (count_by is_movable design.nodes) j nets pins) t
    ∙ ap (λ k. line (count_by is_movable design.nodes) (count_by (λ node. node.fixed) design.nodes) k pins) n
    ∙ ap (line (count_by is_movable design.nodes) (count_by (λ node. node.fixed) design.nodes) (length design.nets)) p

pub levels_put : (old a b new : List ℕ) (levels gap l g : ℕ) → l ≡ levels → g ≡ gap → a ≡ old ++ codes "levels " ++ decimal l → b ≡ a ++ codes " gap " ++ decimal g → new ≡ b ++ 10 ∷ []
    → new ≡ old ++ levels_line levels gap
levels_put old a b new levels gap l g same_levels same_gap first second last =
    let whole : new ≡ old ++ levels_line l g = rw (last, second, first) (simp append_assoc) in
    whole ∙ ap (λ i. old ++ levels_line i g) same_levels ∙ ap (λ j. old ++ levels_line levels j) same_gap

pub wire_put : (old a b new : List ℕ) (wire : ℕ) → a ≡ old ++ codes "wire " ++ decimal (wire / 1000000) → b ≡ a ++ fraction_text (wire % 1000000) → new ≡ b ++ 10 ∷ [] → new ≡ old ++ wire_line wire
wire_put old a b new wire first second last =
    let line : List ℕ → List ℕ = λ number. old ++ ended (codes "wire " ++ number) in
    let whole : new ≡ line (decimal (wire / 1000000) ++ fraction_text (wire % 1000000)) = rw (last, second, first) (simp append_assoc) in
    whole ∙ ap line (sym (canonical_parts wire))
