use Rattle.std.proofs.Common.{◌≡◌, ℕ, ◌<◌, ◌∙◌, sym, ap, subst, pos, ◌≤ℤ◌, ℤ, w64, to_z, of_z, List}
use Rattle.std.specs.List.{count_by}
use Rattle.book_design.specs.Values.{NodeValue, node_values}
use Rattle.book_design.specs.Points.{IsNodeOf, site_count, node_value_at, is_movable}
use Rattle.book_design.proofs.AssemblyPoints.{this_node, this_value, good_node, kept_whole, one_node}
use Rattle.book_design.proofs.design.Design.sites_of.Goals as goal

pub sites_across-requires-clause-width : goal.sites_across-requires-clause-width
sites_across-requires-clause-width c =
    let items = c.self.inside.nodes.items in
    let nodes : node_values items ≡ c.args.self.now.nodes = ap (λ d. d.nodes) c.self.view_is in
    let there : c.args.point < count_by is_movable (node_values items) = let P : List NodeValue → Type 0 = λ ns. c.args.point < count_by is_movable ns in subst P (sym nodes) c.requires in
    let node = this_node items c.self.inside.points.movable.items c.self.inside.points.numbers.items c.args.point c.index-node.result.now c.self.invariant.1 there c.index-node.ensures in
    let good = good_node items c.self.inside.row_height c.index-node.result.now c.index.result.now c.self.invariant.0.nodes node.there c.index.ensures in
    let P : ℤ → Type 0 = λ z. pos 0 ≤ℤ z in
    subst P (sym (kept_whole c.index.result.now.width good.width)) good.width_sign

pub returns-clause-sites : goal.returns-clause-sites
returns-clause-sites c i h =
    let items = c.self.inside.nodes.items in
    let nodes : node_values items ≡ c.args.self.now.nodes = ap (λ d. d.nodes) c.self.view_is in
    let there : c.args.point < count_by is_movable (node_values items) = let P : List NodeValue → Type 0 = λ ns. c.args.point < count_by is_movable ns in subst P (sym nodes) c.requires in
    let node = this_node items c.self.inside.points.movable.items c.self.inside.points.numbers.items c.args.point c.index-node.result.now c.self.invariant.1 there c.index-node.ensures in
    let good = good_node items c.self.inside.row_height c.index-node.result.now c.index.result.now c.self.invariant.0.nodes node.there c.index.ensures in
    let value = this_value items c.index-node.result.now c.index.result.now node.there c.index.ensures in
    let P : List NodeValue → Type 0 = λ ns. IsNodeOf ns c.args.point i in
    let same : c.index-node.result.now ≡ i = one_node (node_values items) c.args.point c.index-node.result.now i node (subst P (sym nodes) h) in
    let width : c.index.result.now.width ≡ (node_value_at c.args.self.now.nodes i).width =
    ap (λ (v : NodeValue). v.width) (sym value) ∙ ap (λ (k : ℕ). (node_value_at (node_values items) k).width) same ∙ ap (λ (ns : List NodeValue). (node_value_at ns i).width) nodes in
    let pitch : c.self.inside.pitch ≡ c.args.self.now.pitch = ap (λ d. d.pitch) c.self.view_is in
    c.sites_across.ensures
    ∙ ap (λ z. site_count z (to_z w64 (of_z w64 c.self.inside.pitch))) (kept_whole c.index.result.now.width good.width ∙ width)
    ∙ ap (λ z. site_count (node_value_at c.args.self.now.nodes i).width z) (kept_whole c.self.inside.pitch c.self.invariant.0.pitch ∙ pitch)
