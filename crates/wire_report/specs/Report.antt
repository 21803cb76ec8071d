-- The report: what a design has, what is known of its levels, and its wire length.
use Rattle.std.specs.Prelude.{ℕ, List, [], ◌∷◌, ◌++◌, length, codes, decimal, pos}
use Rattle.std.specs.List.{count_by, sum_by}
use Rattle.book_text.specs.Decimal.{canonical}
use Rattle.book_design.specs.Values.{DesignValue}
use Rattle.book_design.specs.Points.{is_movable}

-- the byte 10 ends a line
abbrev pub ended : List ℕ → List ℕ
ended text = text ++ 10 ∷ []

-- how many pins the nets have
abbrev pub pins_of : DesignValue → ℕ
pins_of design = sum_by (λ net. length net.pins) design.nets

-- `cells M terminals T nets N pins P`: how many movable nodes, fixed nodes, nets and pins there are
abbrev pub counts_line : DesignValue → List ℕ
counts_line design = ended (codes "cells " ++ decimal (count_by is_movable design.nodes) ++ codes " terminals " ++ decimal (count_by (λ node. node.fixed) design.nodes)
    ++ codes " nets " ++ decimal (length design.nets) ++ codes " pins " ++ decimal (pins_of design))

-- `levels L gap G`
abbrev pub levels_line : ℕ → ℕ → List ℕ
levels_line levels gap = ended (codes "levels " ++ decimal levels ++ codes " gap " ++ decimal gap)

-- `wire D`, where D is the decimal of so many millionths
abbrev pub wire_line : ℕ → List ℕ
wire_line wire = ended (codes "wire " ++ canonical (pos wire))

abbrev pub report_of : DesignValue → ℕ → ℕ → ℕ → List ℕ
report_of design levels gap wire = counts_line design ++ levels_line levels gap ++ wire_line wire
