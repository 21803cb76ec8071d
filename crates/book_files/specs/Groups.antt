-- Groups among the items of a text: an item that begins a group, and the parts behind it up to the next that begins one.
use Rattle.std.specs.Prelude.{List, [], ◌∷◌, Option, Some, None}
use Rattle.std.specs.List.{cons_option}

-- what begins a group, and its parts
pub record Group (K P : Type 0) : Type 0 where
  pub head : K
  pub parts : List P

-- the own part in front of the others, or none where the next group begins
abbrev pub unless_begun : {K P : Type 0} → Option K → Option P → List P → List P
unless_begun (Some head) own others = []
unless_begun None own others = cons_option own others

-- the parts before the next item that begins a group
abbrev pub parts_up_to : {I K P : Type 0} → (I → Option K) → (I → Option P) → List I → List P
parts_up_to begun part [] = []
parts_up_to begun part (item ∷ items) = unless_begun (begun item) (part item) (parts_up_to begun part items)

-- the group that begins here in front of the others, where one does
abbrev pub onto_groups : {K P : Type 0} → Option K → List P → List (Group K P) → List (Group K P)
onto_groups (Some head) parts others = record { head = head; parts = parts } ∷ others
onto_groups None parts others = others

-- the groups in order; a part before the first belongs to none
abbrev pub groups : {I K P : Type 0} → (I → Option K) → (I → Option P) → List I → List (Group K P)
groups begun part [] = []
groups begun part (item ∷ items) = onto_groups (begun item) (parts_up_to begun part items) (groups begun part items)
