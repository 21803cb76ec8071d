-- What the nets reader keeps of the items before, and what its steps leave.
use Rattle.std.specs.Prelude.{◌≡◌, ℕ, ◌^◌, ◌<◌, List, [], ◌∷◌, ◌++◌, length, map, ◌==◌, Option, Some, None, option_map, option_to_list, Result, Ok, Err, if◌then◌else◌, filter_map}
use Rattle.book_text.specs.Lines.{NumberedLine}
use Rattle.book_files.specs.declared.fault.TextKind.{TextKind}
use Rattle.book_files.specs.declared.fault.TextKind.TheVariants.{BadHeader, BadLine, CountMismatch}
use Rattle.book_files.specs.declared.fault.LineError.{LineError}
use Rattle.book_files.specs.declared.fault.LineError.TheVariants.{Kind, Memory}
use Rattle.book_files.specs.declared.nets.Head.{Head}
use Rattle.book_files.specs.declared.nets.OpenNet.{OpenNet}
use Rattle.book_files.specs.declared.nets.NetsSoFar.{NetsSoFar}
use Rattle.book_files.specs.Words.{latest}
use Rattle.book_files.specs.Forms.Words.{◌>>=◌}
use Rattle.book_files.specs.Groups.{Group}
use Rattle.book_files.specs.Entries.{PinEntry, NetEntry}
use Rattle.book_files.specs.Blocks.{net_entries}
use Rattle.book_files.specs.Nets.{NetHead, NetItem, net, pin, total_in, pin_total_in, pin_in, nets_in, open_net, entry_of_net}
use Rattle.book_files.specs.Forms.Nets.{unless_short, head_of, pin_behind}
use Rattle.book_files.specs.Forms.SoFar.{has_items}

abbrev pub head_entry : Head → NetHead
head_entry head = record { degree = head.degree; name = option_map (λ name. name.0.now) head.name }

-- the net with its pins so far
abbrev pub open_group : OpenNet → Group NetHead PinEntry
open_group begun = record { head = head_entry begun.head; parts = begun.pins }

-- the net's entry, or none
abbrev pub open_entries : Option OpenNet → List NetEntry
open_entries current = map entry_of_net (option_to_list (option_map open_group current))

-- all nets, the open one last
abbrev pub all_entries : NetsSoFar → List NetEntry
all_entries so_far = net_entries so_far.closed.items ++ open_entries so_far.current

-- the nets are the closed ones and the open one, and the pins are counted as long as a count can hold them
pub record IsNetsSoFar (items : List NetItem) (so_far : NetsSoFar) : Type 0 where
  pub begun : so_far.begun ≡ has_items items
  pub total : so_far.total ≡ latest total_in items
  pub pin_total : so_far.pin_total ≡ latest pin_total_in items
  pub pins : length (filter_map pin_in items) < 2 ^ 64 → so_far.pins_found ≡ length (filter_map pin_in items)
  pub last : open_net items ≡ option_map open_group so_far.current
  pub front : List (Group NetHead PinEntry)
  pub nets : nets_in items ≡ front ++ option_to_list (option_map open_group so_far.current)
  pub closed : net_entries so_far.closed.items ≡ map entry_of_net front

-- as many were found as were stated
abbrev pub counted : ℕ → ℕ → Result (Unit {0}) TextKind
counted stated found = if stated == found then Ok tt else Err (CountMismatch stated found)

-- both counts were stated, and are right
abbrev pub both_counted : Option ℕ → Option ℕ → ℕ → ℕ → Result (Unit {0}) TextKind
both_counted None pin_total nets pins = Err BadLine
both_counted (Some n) None nets pins = Err BadLine
both_counted (Some n) (Some p) nets pins = counted n nets >>= λ done. counted p pins

-- the file may end here, or its first fault
abbrev pub at_end : NetsSoFar → Result (Unit {0}) TextKind
at_end so_far = if so_far.begun
    then (unless_short (option_map open_group so_far.current) >>= λ done. both_counted so_far.total so_far.pin_total (length (all_entries so_far)) so_far.pins_found)
    else Err BadHeader

-- one pin more
abbrev pub with_pin : Group NetHead PinEntry → PinEntry → Group NetHead PinEntry
with_pin group entry = record { head = group.head; parts = group.parts ++ entry ∷ [] }

pub record PinKept (old new : Group NetHead PinEntry) (line : NumberedLine) : Type 0 where
  pub entry : PinEntry
  pub means : pin_behind (Some old) line ≡ Ok (pin entry)
  pub grown : new ≡ with_pin old entry

-- the pin of the line is taken into the net, or the line is refused
abbrev pub KeepsPin : OpenNet → OpenNet → NumberedLine → Result (Unit {0}) LineError → Type 0
KeepsPin old new line (Ok done) = PinKept (open_group old) (open_group new) line
KeepsPin old new line (Err (Kind kind)) = pin_behind (Some (open_group old)) line ≡ Err kind
KeepsPin old new line (Err Memory) = Unit {0}

-- the same where there may be no net
pub record PinKeptIn (old new : Option (Group NetHead PinEntry)) (line : NumberedLine) : Type 0 where
  pub before : Group NetHead PinEntry
  pub was : old ≡ Some before
  pub after : Group NetHead PinEntry
  pub is : new ≡ Some after
  pub kept : PinKept before after line

abbrev pub KeepsPinIn : Option OpenNet → Option OpenNet → NumberedLine → Result (Unit {0}) LineError → Type 0
KeepsPinIn old new line (Ok done) = PinKeptIn (option_map open_group old) (option_map open_group new) line
KeepsPinIn old new line (Err (Kind kind)) = pin_behind (option_map open_group old) line ≡ Err kind
KeepsPinIn old new line (Err Memory) = Unit {0}

-- the net of the line is open, and the one before is closed
pub record NetBegun (old new : NetsSoFar) (words : List (List ℕ)) : Type 0 where
  pub head : NetHead
  pub means : (unless_short (option_map open_group old.current) >>= λ done. head_of words) ≡ Ok (net head)
  pub current : option_map open_group new.current ≡ Some (record { head = head; parts = [] })
  pub closed : net_entries new.closed.items ≡ all_entries old
  pub begun : new.begun ≡ old.begun
  pub total : new.total ≡ old.total
  pub pin_total : new.pin_total ≡ old.pin_total
  pub pins : new.pins_found ≡ old.pins_found

abbrev pub BeginsNet : NetsSoFar → NetsSoFar → List (List ℕ) → Result (Unit {0}) LineError → Type 0
BeginsNet old new words (Ok done) = NetBegun old new words
BeginsNet old new words (Err (Kind kind)) = (unless_short (option_map open_group old.current) >>= λ done. head_of words) ≡ Err kind
BeginsNet old new words (Err Memory) = Unit {0}
