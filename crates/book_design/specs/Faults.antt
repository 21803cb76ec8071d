-- The faults of a design, each where it holds and at its first place, and which of them is the first.
use Rattle.std.specs.Prelude.{◌≡◌, ◌≢◌, ◌⊎◌, ℕ, ◌*◌, ◌+◌, ◌<◌, ◌≤◌, true, false, List, length, ℤ, pos, ◌<ℤ◌, ◌+ℤ◌}
use Rattle.book_files.specs.declared.records.FileKind.TheVariants.{Nets, Pl}
use Rattle.book_design.specs.declared.rules.TheConstants.{MOST_NODES, MOST_PINS, MOST_SUBROWS, MOST_SITES, MOST_NET_WEIGHT, ROWS_END}
use Rattle.book_design.specs.declared.fault.DesignFault.{DesignFault}
use Rattle.book_design.specs.declared.fault.DesignFault.TheVariants.{DuplicateName, UnknownName, NoPosition, NoRows, MixedRows, RowsOverlap, TallCell, Limit}
use Rattle.book_design.specs.Records.{Records, Strip, node_at, net_at, pin_at, row_at, pin_lines, strips, strip_in, strip_at}
use Rattle.book_design.specs.Joined.{is_fixed, weight_of, place_at}

-- the first number of which it holds
pub record IsFirst (Holds : ℕ → Type 0) (i : ℕ) : Type 0 where
  pub here : Holds i
  pub not_before : (j : ℕ) → j < i → Holds j → ⊥

-- the node's name stood on an earlier line
pub record HasEarlierName (records : Records) (i : ℕ) : Type 0 where
  pub there : i < length records.nodes
  pub earlier : ℕ
  pub before : earlier < i
  pub same : (node_at records earlier).name ≡ (node_at records i).name

-- no node has the name
abbrev pub IsUnknown : Records → List ℕ → Type 0
IsUnknown records name = (i : ℕ) → i < length records.nodes → (node_at records i).name ≢ name

abbrev pub IsUnknownPin : Records → ℕ → Type 0
IsUnknownPin records i = (i < length (pin_lines records)) × IsUnknown records (pin_at records i).node

abbrev pub IsUnknownPlace : Records → ℕ → Type 0
IsUnknownPlace records i = (i < length records.places) × IsUnknown records (place_at records i).name

-- a node that is marked as a terminal, without a line in the placement file
pub record IsWithoutPlace (records : Records) (i : ℕ) : Type 0 where
  pub there : i < length records.nodes
  pub fixed : (node_at records i).fixed ≡ true
  pub absent : (k : ℕ) → k < length records.places → (place_at records k).name ≢ (node_at records i).name

-- a row whose height or pitch isn't that of row 0
pub record IsMixedRow (records : Records) (r : ℕ) : Type 0 where
  pub there : r < length records.rows
  pub other : ((row_at records r).height ≢ (row_at records 0).height) ⊎ ((row_at records r).pitch ≢ (row_at records 0).pitch)

-- Two rectangles share area where they have a rectangle of positive width and height in common.
pub record ShareArea (a b : Strip) : Type 0 where
  pub a_wide : a.left <ℤ a.right
  pub b_wide : b.left <ℤ b.right
  pub a_high : a.lower <ℤ a.upper
  pub b_high : b.lower <ℤ b.upper
  pub left_right : a.left <ℤ b.right
  pub right_left : b.left <ℤ a.right
  pub lower_upper : a.lower <ℤ b.upper
  pub upper_lower : b.lower <ℤ a.upper

-- a subrow that shares area with an earlier one
pub record IsOverlapping (all : List Strip) (s : ℕ) : Type 0 where
  pub there : s < length all
  pub earlier : ℕ
  pub before : earlier < s
  pub shared : ShareArea (strip_in all earlier) (strip_in all s)

-- a movable node that is higher than row 0
pub record IsTall (records : Records) (i : ℕ) : Type 0 where
  pub there : i < length records.nodes
  pub movable : is_fixed records (node_at records i) ≡ false
  pub higher : (row_at records 0).height <ℤ (node_at records i).height

-- a subrow with too many sites
abbrev pub HasManySites : Records → ℕ → Type 0
HasManySites records s = (s < length (strips records)) × (MOST_SITES < (strip_at records s).sites)

-- the weight is a whole number from 0 to the greatest of a net
abbrev pub IsWholeWeight : ℤ → Type 0
IsWholeWeight weight = (k : ℕ) × (k ≤ MOST_NET_WEIGHT) × (weight ≡ pos (k * 1000000))

abbrev pub HasBadWeight : Records → ℕ → Type 0
HasBadWeight records n = (n < length records.nets) × (IsWholeWeight (weight_of records (net_at records n)) → ⊥)

-- a row of which the upper edge, or a subrow's right end, lies past the end of rows
pub record IsPastEnd (records : Records) (r : ℕ) : Type 0 where
  pub there : r < length records.rows
  pub past : (ROWS_END <ℤ ((row_at records r).y +ℤ (row_at records r).height))
      ⊎ ((s : ℕ) × (s < length (strips records)) × ((strip_at records s).row ≡ r) × (ROWS_END <ℤ (strip_at records s).right))

-- a quantity past its limit: the kinds by their numbers
abbrev pub IsPastLimit : Records → ℕ → ℕ → Type 0
IsPastLimit records kind number = ((kind ≡ 1) × (number ≡ length records.nodes) × (MOST_NODES < number))
    ⊎ (((kind ≡ 2) × (number ≡ length (pin_lines records)) × (MOST_PINS < number))
    ⊎ (((kind ≡ 3) × (number ≡ length (strips records)) × (MOST_SUBROWS < number))
    ⊎ (((kind ≡ 4) × ((s : ℕ) × IsFirst (HasManySites records) s × (number ≡ (strip_at records s).sites)))
    ⊎ (((kind ≡ 5) × IsFirst (HasBadWeight records) number)
    ⊎ ((kind ≡ 6) × IsFirst (IsPastEnd records) number)))))

-- the fault holds, and at its first place
abbrev pub IsFault : Records → DesignFault → Type 0
IsFault records (DuplicateName line) = (i : ℕ) × IsFirst (HasEarlierName records) i × (line ≡ (node_at records i).line)
IsFault records (UnknownName Nets line) = (i : ℕ) × IsFirst (IsUnknownPin records) i × (line ≡ (pin_at records i).line)
IsFault records (UnknownName Pl line) = ((i : ℕ) → IsUnknownPin records i → ⊥) × ((i : ℕ) × IsFirst (IsUnknownPlace records) i × (line ≡ (place_at records i).line))
IsFault records (UnknownName other line) = ⊥
IsFault records (NoPosition node) = IsFirst (IsWithoutPlace records) node
IsFault records NoRows = (s : ℕ) → s < length (strips records) → (strip_at records s).sites ≡ 0
IsFault records (MixedRows row) = IsFirst (IsMixedRow records) row
IsFault records (RowsOverlap row) = (s : ℕ) × IsFirst (IsOverlapping (strips records)) s × (row ≡ (strip_at records s).row)
IsFault records (TallCell node) = IsFirst (IsTall records) node
IsFault records (Limit kind number) = IsPastLimit records kind number

-- the order of the faults, the kinds of the limit last
abbrev pub rank : DesignFault → ℕ
rank (DuplicateName line) = 1
rank (UnknownName file line) = 2
rank (NoPosition node) = 3
rank NoRows = 4
rank (MixedRows row) = 5
rank (RowsOverlap row) = 6
rank (TallCell node) = 7
rank (Limit kind number) = 7 + kind

-- the fault holds, and none before it in the order
pub record IsFirstFault (records : Records) (fault : DesignFault) : Type 0 where
  pub holds : IsFault records fault
  pub first : (other : DesignFault) → IsFault records other → rank fault ≤ rank other

abbrev pub HasNoFault : Records → Type 0
HasNoFault records = (fault : DesignFault) → IsFault records fault → ⊥
