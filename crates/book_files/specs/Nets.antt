-- The nets file: a header, count lines, and nets with their pins.
use Rattle.std.specs.Prelude.{ℕ, Bool, ◌||◌, List, codes, Option, Some, None}
use Rattle.book_files.specs.Groups.{Group, groups}
use Rattle.book_files.specs.Entries.{PinEntry, NetEntry}
use Rattle.book_files.specs.Words.{last_of, is_keyword}

-- how many pins a net is to have, and its name
pub record NetHead : Type 0 where
  pub degree : ℕ
  pub name : Option (List ℕ)

-- what a line of a nets file is
pub data NetItem : Type 0 where
  header : NetItem
  total : ℕ → NetItem
  pin_total : ℕ → NetItem
  net : NetHead → NetItem
  pin : PinEntry → NetItem

abbrev pub total_in : NetItem → Option ℕ
total_in header = None
total_in (total n) = Some n
total_in (pin_total p) = None
total_in (net head) = None
total_in (pin entry) = None

abbrev pub pin_total_in : NetItem → Option ℕ
pin_total_in header = None
pin_total_in (total n) = None
pin_total_in (pin_total p) = Some p
pin_total_in (net head) = None
pin_total_in (pin entry) = None

abbrev pub net_in : NetItem → Option NetHead
net_in header = None
net_in (total n) = None
net_in (pin_total p) = None
net_in (net head) = Some head
net_in (pin entry) = None

abbrev pub pin_in : NetItem → Option PinEntry
pin_in header = None
pin_in (total n) = None
pin_in (pin_total p) = None
pin_in (net head) = None
pin_in (pin entry) = Some entry

-- the nets so far, each with the pins that were found
abbrev pub nets_in : List NetItem → List (Group NetHead PinEntry)
nets_in items = groups net_in pin_in items

-- the net to which a pin line would belong
abbrev pub open_net : List NetItem → Option (Group NetHead PinEntry)
open_net items = last_of (nets_in items)

-- I, O or B
abbrev pub is_direction : List ℕ → Bool
is_direction word = is_keyword (codes "i") word || (is_keyword (codes "o") word || is_keyword (codes "b") word)

abbrev pub entry_of_net : Group NetHead PinEntry → NetEntry
entry_of_net group = record { name = group.head.name; pins = group.parts }
