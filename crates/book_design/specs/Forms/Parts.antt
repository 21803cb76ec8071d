-- Parts of a design, as the steps of the join make them.
use Rattle.std.specs.Prelude.{◌≡◌, ℕ, ◌/◌, ◌%◌, ◌<◌, ◌==◌, nat_le, List, [], length, map, Option, Some, None, unwrap_or, if◌then◌else◌, ℤ, pos, negsuc, slice_index_or}
use Rattle.book_files.specs.declared.records.FileKind.TheVariants.{Nets}
use Rattle.book_files.specs.Entries.{NetEntry, PinEntry}
use Rattle.book_design.specs.declared.rules.TheConstants.{MOST_NET_WEIGHT}
use Rattle.book_design.specs.declared.fault.JoinError.{JoinError}
use Rattle.book_design.specs.declared.fault.JoinError.TheVariants.{Fault, Memory}
use Rattle.book_design.specs.declared.fault.DesignFault.TheVariants.{UnknownName}
use Rattle.book_design.specs.Faults.{IsFirst, IsUnknown}
use Rattle.book_design.specs.declared.strips.Strip.{Strip as Kept}
use Rattle.book_design.specs.declared.rows.RowShape.{RowShape}
use Rattle.book_design.specs.declared.parts.Subrow.{Subrow}
use Rattle.book_design.specs.Records.{Records, Strip, row_at, strips}
use Rattle.book_design.specs.Joined.{joined_pin, weight_of}
use Rattle.book_design.specs.Values.{NetValue}

-- the weight of so many millionths where it is a whole number from 0 to the greatest of a net
abbrev pub whole_weight : ℤ → Option ℕ
whole_weight (pos n) = if n % 1000000 == 0 then (if nat_le (n / 1000000) MOST_NET_WEIGHT then Some (n / 1000000) else None) else None
whole_weight (negsuc n) = None

-- the weights of the nets
abbrev pub whole_weights : Records → List (Option ℕ)
whole_weights records = map (λ net. whole_weight (weight_of records net)) records.nets

-- a net with its pins; in place of a weight that is no whole number stands 0
abbrev pub pinned_net : Records → NetEntry → NetValue
pinned_net records net = record { weight = unwrap_or (whole_weight (weight_of records net)) 0; pins = map (joined_pin records) net.pins }

-- a subrow as the code keeps it, without its upper edge
abbrev pub outline : Strip → Kept
outline s = record { row = s.row; left = s.left; right = s.right; lower = s.lower; sites = s.sites }

abbrev pub outlines : Records → List Kept
outlines records = map outline (strips records)

-- past the end there is a subrow without sites
abbrev pub kept_at : List Kept → ℕ → Kept
kept_at kept s = slice_index_or kept s (record { row = 0; left = pos 0; right = pos 0; lower = pos 0; sites = 0 })

abbrev pub joined_kept : Kept → Subrow
joined_kept s = record { row = s.row; x = s.left; y = s.lower; sites = s.sites }

-- the height and the pitch of row 0
pub record IsShape (records : Records) (shape : RowShape) : Type 0 where
  pub height : shape.height ≡ (row_at records 0).height
  pub pitch : shape.pitch ≡ (row_at records 0).pitch

-- past the end of a net's pins stands one without a name
abbrev pub pin_in : List PinEntry → ℕ → PinEntry
pin_in pins j = slice_index_or pins j (record { line = 0; node = []; dx = pos 0; dy = pos 0 })

-- each of these pins has the name of a node
abbrev pub AreKnown : Records → List PinEntry → Type 0
AreKnown records pins = (j : ℕ) → j < length pins → IsUnknown records (pin_in pins j).node → ⊥

-- a pin whose name no node has
abbrev pub IsUnknownIn : Records → List PinEntry → ℕ → Type 0
IsUnknownIn records pins j = (j < length pins) × IsUnknown records (pin_in pins j).node

-- the join of a net's pins ends there: the fault names the first whose node is unknown
abbrev pub StopsInPins : Records → List PinEntry → JoinError → Type 0
StopsInPins records pins (Fault fault) = (j : ℕ) × IsFirst (IsUnknownIn records pins) j × (fault ≡ UnknownName Nets (pin_in pins j).line)
StopsInPins records pins Memory = Unit {0}
