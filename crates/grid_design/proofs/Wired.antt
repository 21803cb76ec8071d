-- Nets that are appended one by one.
use Rattle.std.proofs.Common.{◌≡◌, List, [], ◌∷◌, ◌++◌, ◌∙◌, ap}
use Rattle.grid_design.specs.declared.parts.Node.{Node}
use Rattle.grid_design.specs.declared.parts.Net.{Net}
use Rattle.grid_design.specs.Parts.{net_of}

-- a net between nodes that are these
pub net_pushed : (first second one other : Node) (now new : List Net) → new ≡ now ++ net_of first second ∷ [] → first ≡ one → second ≡ other → new ≡ now ++ net_of one other ∷ []
net_pushed first second one other now new push e f = push ∙ ap (λ node. now ++ net_of node second ∷ []) e ∙ ap (λ node. now ++ net_of one node ∷ []) f
