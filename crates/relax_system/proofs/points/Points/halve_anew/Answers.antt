use Rattle.std.proofs.Common.{◌≡◌, ℕ, ◌+◌, ◌<◌, List, [], ◌∷◌, ◌++◌, length, map, take, drop, set, get_or, sym, ap, ◌∙◌, arith}
use Rattle.std.proofs.lemmas.List.{append_assoc, drop_more, length-map, length-take-le, map_more, set_at}
use Rattle.relax_system.specs.declared.points.Point.{Point}
use Rattle.relax_system.specs.Halved.{halved_point}
use Rattle.relax_system.proofs.points.Points.halve_anew.Goals as goal

-- one element made anew, and those behind it still old
anew_more : (f : Point → Point) (whole old points : List Point) (i : ℕ) (w x : Point) → points ≡ map f (take i whole) ++ drop i old → length old ≡ length whole → i < length whole → w ≡ get_or whole i w → x ≡ f w
    → set points i x ≡ map f (take (i + 1) whole) ++ drop (i + 1) old
anew_more f whole old points i w x h e there read made =
    ap (λ ps. set ps i x) (h ∙ ap (λ ps. map f (take i whole) ++ ps) (drop_more old i w (omega (arith, e, there))))
    ∙ set_at (map f (take i whole)) (get_or old i w) (drop (i + 1) old) x i (length-map (take i whole) f ∙ length-take-le i whole (omega (arith, there)))
    ∙ sym (append_assoc (map f (take i whole)) (x ∷ []) (drop (i + 1) old))
    ∙ ap (λ ps. ps ++ drop (i + 1) old) (ap (λ y. map f (take i whole) ++ y ∷ []) (made ∙ ap f read) ∙ sym (map_more f whole i w there))

pub loop-i-preserved : goal.loop-i-preserved
loop-i-preserved c =
    anew_more (halved_point c.args.side c.args.shift) c.args.whole.now c.as_mut_slice-points.result.now c.loop-i.points c.loop-i.i _ _ c.loop-i.invariant
    (omega (arith, ap length c.as_mut_slice-points.ensures.value, ap length c.self.view_is, ap length c.requires.of.1, length-map c.args.whole.now (halved_point c.args.side c.requires.of.0))) c.loop-i-test.true c.index-whole-i.is c.halve_point_anew.ensures
