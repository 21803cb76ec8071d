-- What holds of the records of a file: the ranges of their numbers, and that the name of a node is a word that begins no comment.
use Rattle.std.specs.Prelude.{◌≤◌, ℕ, List, length, ℤ, pos, ◌≤ℤ◌, ◌<ℤ◌, Bool, IsTrue, IsFalse}
use Rattle.std.specs.List.{AllByRecursion, sum_by}
use Rattle.book_text.specs.Lines.{IsWord, is_comment_word}
use Rattle.book_text.specs.Coordinates.{IsMicro}
use Rattle.book_text.specs.declared.number.TheConstants.{MOST_WHOLE}
use Rattle.book_files.specs.Entries.{NodeEntry, WeightEntry, PlaceEntry, PinEntry, NetEntry, SubrowEntry, RowEntry}

-- from -1,000,000 to 1,000,000 units, in millionths
abbrev pub IsInRange : ℤ → Type 0
IsInRange value = IsMicro value

-- a word that may stand for a node at a line's start: one that begins no comment
pub record IsName (name : List ℕ) : Type 0 where
  pub word : IsWord name
  pub plain : IsFalse (is_comment_word name)

-- only a fixed node allows overlap
abbrev pub IsMarkedWell : Bool → Bool → Type 0
IsMarkedWell fixed overlap = IsTrue overlap → IsTrue fixed

pub record IsNodeInRange (node : NodeEntry) : Type 0 where
  pub name : IsName node.name
  pub width : IsInRange node.width
  pub height : IsInRange node.height
  pub width_sign : pos 0 ≤ℤ node.width
  pub height_sign : pos 0 ≤ℤ node.height
  pub marks : IsMarkedWell node.fixed node.overlap

abbrev pub IsWeightInRange : WeightEntry → Type 0
IsWeightInRange weight = IsInRange weight.weight

pub record IsPlaceInRange (place : PlaceEntry) : Type 0 where
  pub x : IsInRange place.x
  pub y : IsInRange place.y
  pub marks : IsMarkedWell place.fixed place.overlap

pub record IsPinInRange (pin : PinEntry) : Type 0 where
  pub dx : IsInRange pin.dx
  pub dy : IsInRange pin.dy

abbrev pub IsNetInRange : NetEntry → Type 0
IsNetInRange net = AllByRecursion IsPinInRange net.pins

pub record IsSubrowInRange (subrow : SubrowEntry) : Type 0 where
  pub x : IsInRange subrow.x
  pub sites : subrow.sites ≤ MOST_WHOLE

pub record IsRowInRange (row : RowEntry) : Type 0 where
  pub y : IsInRange row.y
  pub height : IsInRange row.height
  pub pitch : IsInRange row.pitch
  pub height_sign : pos 0 <ℤ row.height
  pub pitch_sign : pos 0 <ℤ row.pitch
  pub subrows : AllByRecursion IsSubrowInRange row.subrows

-- how many pins the nets have
abbrev pub pin_count : List NetEntry → ℕ
pin_count nets = sum_by (λ net. length net.pins) nets

-- how many subrows the rows have
abbrev pub subrow_count : List RowEntry → ℕ
subrow_count rows = sum_by (λ row. length row.subrows) rows
