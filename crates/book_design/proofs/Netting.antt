-- The pins of nets, and the lines of the placement file, by the numbers of their nodes.
use Rattle.std.proofs.Common.{◌≡◌, ℕ, ◌+◌, ◌-◌, ◌<◌, ◌≤◌, List, [], ◌++◌, Option, Some, None, refl, sym, ap, ◌∙◌, subst, ⊎_elim, arith, length, get_or, map, take, unwrap_or, is_some, true, false}
use Rattle.std.specs.List.{flat_map}
use Rattle.std.specs.Str.{bytes_eq}
use Rattle.std.proofs.lemmas.Bool.{cases_eq, cases_lt}
use Rattle.std.proofs.lemmas.Slice.Eq.{bytes_eq-Decides}
use Rattle.std.proofs.lemmas.List.{take_all, take_more, length-append, flat_map_more, get_or-map, length-map}
use Rattle.std.proofs.lemmas.List.Sums.{position_or_len_is}
use Rattle.std.proofs.lemmas.List.Concat.{get_or-flat_map}
use Rattle.std.proofs.lemmas.List.Folds.{length-flat_map-take}
use Rattle.book_files.specs.declared.records.FileKind.TheVariants.{Nets, Pl}
use Rattle.book_files.specs.declared.records.PinLine.{PinLine}
use Rattle.book_files.specs.declared.records.NetBlock.{NetBlock}
use Rattle.book_files.specs.Entries.{PlaceEntry, PinEntry, NetEntry, pin_entry, pin_entries}
use Rattle.book_files.specs.Blocks.{net_entry}
use Rattle.book_design.specs.declared.fault.JoinError.{JoinError}
use Rattle.book_design.specs.declared.fault.JoinError.TheVariants as errors
use Rattle.book_design.specs.declared.fault.DesignFault.{DesignFault}
use Rattle.book_design.specs.declared.fault.DesignFault.TheVariants.{UnknownName}
use Rattle.book_design.specs.declared.parts.Pin.{Pin}
use Rattle.book_design.specs.declared.parts.Net.{Net}
use Rattle.book_design.specs.declared.sources.Sources.{Sources}
use Rattle.book_design.specs.Records.{Records, net_at, pin_at, pin_lines}
use Rattle.book_design.specs.Joined.{weight_of, number_of, joined_pin, place_at}
use Rattle.book_design.specs.Nets.{net_value, net_values}
use Rattle.book_design.specs.Faults.{IsFirst, HasEarlierName, IsUnknown, IsUnknownPin, IsUnknownPlace}
use Rattle.book_design.specs.Forms.Steps.{IsFirstFrom, Stops}
use Rattle.std.specs.Borrow.{Bor}
use Rattle.std.specs.BTreeMap.{BTreeMap}
use Rattle.book_design.specs.Forms.Numbers.{number_in, AreNumbers, IsLastNumber, IsLast}
use Rattle.book_design.specs.Forms.Sources.{records_of, node_name}
use Rattle.book_design.specs.Forms.Parts.{whole_weight, whole_weights, pinned_net, pin_in, AreKnown, IsUnknownIn, StopsInPins}
use Rattle.book_design.proofs.Looking.{apart}
use Rattle.book_design.proofs.Ranks.{first_of_rank}

-- where names are distinct, the last node of a name is the one of that name
pub number_is : (records : Records) (name : List ℕ) (i : ℕ) → ((j : ℕ) → HasEarlierName records j → ⊥) → IsLast (node_name records) (length records.nodes) name i → number_of records name ≡ i
number_is records name i distinct h =
    position_or_len_is (λ node. bytes_eq node.name name) records.nodes i _ (let t = h.there in omega arith)
    (λ k below. apart (node_name records k) name (λ e. distinct i (record { there = h.there; earlier = k; before = below; same = e ∙ sym h.same })))
    (λ there. (bytes_eq-Decides (node_name records i) name).1 h.same)

-- what holds of the first so many pins of a net, in the loop over them
pub record ArePinned (records : Records) (lines : List PinLine) (j : ℕ) (made : List Pin) : Type 0 where
  pub pins : made ≡ map (λ line. joined_pin records (pin_entry line)) (take j lines)
  pub known : (k : ℕ) → k < j → IsUnknown records (pin_in (pin_entries lines) k).node → ⊥

pub known_more : (records : Records) (entries : List PinEntry) (j : ℕ) → ((k : ℕ) → k < j → IsUnknown records (pin_in entries k).node → ⊥) → (IsUnknown records (pin_in entries j).node → ⊥) → (k : ℕ) → k < j + 1 → IsUnknown records (pin_in entries k).node → ⊥
known_more records entries j before here k below h = ⊎_elim (λ (e : k ≡ j). here (subst (λ (n : ℕ). IsUnknown records (pin_in entries n).node) e h)) (λ apart. before k (omega arith) h) (cases_eq k j)

-- the pin whose name no node has is the net's first
pub stops_at_pin : (records : Records) (entries : List PinEntry) (j : ℕ) (entry : PinEntry) (error : JoinError) → j < length entries → pin_in entries j ≡ entry → IsUnknown records entry.node → error ≡ errors.Fault (UnknownName Nets entry.line) → ((k : ℕ) → k < j → IsUnknown records (pin_in entries k).node → ⊥) → StopsInPins records entries error
stops_at_pin records entries j entry error there same unknown e before =
    let P : PinEntry → Type 0 = λ p. IsUnknown records p.node in
    let first : IsFirst (IsUnknownIn records entries) j = record { here = (there, subst P (sym same) unknown); not_before = λ k below h. before k below h.1 } in
    let named : UnknownName Nets entry.line ≡ UnknownName Nets (pin_in entries j).line = ap (λ (p : PinEntry). UnknownName Nets p.line) (sym same) in
    subst (StopsInPins records entries) (sym e) (j, first, named)

-- the pins of the first so many nets
abbrev pub pins_before : Records → ℕ → List PinEntry
pins_before records n = flat_map (λ net. net.pins) (take n records.nets)

-- what holds of the first so many nets, in the loop over them
pub record AreNetted (sources : Sources) (n : ℕ) (made : List Net) : Type 0 where
  pub nets : net_values made ≡ map (λ block. pinned_net (records_of sources) (net_entry block)) (take n sources.nets.now)
  pub known : (k : ℕ) → k < length (pins_before (records_of sources) n) → IsUnknown (records_of sources) (pin_at (records_of sources) k).node → ⊥

-- a pin of a net among all pins
pin_of_net : (records : Records) (n j : ℕ) → n < length records.nets → j < length (net_at records n).pins → pin_at records (length (pins_before records n) + j) ≡ pin_in (net_at records n).pins j
pin_of_net records n j there below = get_or-flat_map (λ (net : NetEntry). net.pins) records.nets n j _ _ there below

-- the net's first pin whose name no node has is the first of all
stops_at_net : (records : Records) (n : ℕ) (fault : DesignFault) → n < length records.nets → ((k : ℕ) → k < length (pins_before records n) → IsUnknown records (pin_at records k).node → ⊥) → StopsInPins records (net_at records n).pins (errors.Fault fault) → IsFirstFrom records 2 fault
stops_at_net records n fault there before h =
    let j = h.0 in
    let below = h.1.here.0 in
    let total = length-flat_map-take (λ (net : NetEntry). net.pins) records.nets n (record { name = None; pins = [] }) there in
    let same = pin_of_net records n j there below in
    let P : PinEntry → Type 0 = λ p. IsUnknown records p.node in
    let first : IsFirst (IsUnknownPin records) (length (pins_before records n) + j) = record {
      here = (omega (arith, total, below), subst P (sym same) h.1.here.1);
      not_before = λ k less bad. ⊎_elim (λ under. before k under bad.1) (λ over.
          let i : ℕ = k - length (pins_before records n) in
          let e : length (pins_before records n) + i ≡ k = omega arith in
          let inside : i < j = omega arith in
          let at : pin_at records k ≡ pin_in (net_at records n).pins i = ap (pin_at records) (sym e) ∙ pin_of_net records n i there (omega arith) in
          h.1.not_before i inside (omega arith, subst P at bad.1)) (cases_lt k (length (pins_before records n)));
    } in
    let named : fault ≡ UnknownName Nets (pin_at records (length (pins_before records n) + j)).line = h.2 ∙ ap (λ (p : PinEntry). UnknownName Nets p.line) (sym same) in
    subst (IsFirstFrom records 2) (sym named) (first_of_rank records 2 (UnknownName Nets (pin_at records (length (pins_before records n) + j)).line) refl (length (pins_before records n) + j, first, refl))

pub stops_in_net : (records : Records) (n : ℕ) (entries : List PinEntry) (error : JoinError) → n < length records.nets → entries ≡ (net_at records n).pins → ((k : ℕ) → k < length (pins_before records n) → IsUnknown records (pin_at records k).node → ⊥) → StopsInPins records entries error → Stops records 2 error
stops_in_net records n entries (errors.Fault fault) there same before h = stops_at_net records n fault there before (subst (λ (ps : List PinEntry). StopsInPins records ps (errors.Fault fault)) same h)
stops_in_net records n entries errors.Memory there same before h = tt

-- the pins of one more net
pub known_net : (records : Records) (n : ℕ) (entries : List PinEntry) → n < length records.nets → entries ≡ (net_at records n).pins → ((k : ℕ) → k < length (pins_before records n) → IsUnknown records (pin_at records k).node → ⊥) → AreKnown records entries → (k : ℕ) → k < length (pins_before records (n + 1)) → IsUnknown records (pin_at records k).node → ⊥
known_net records n entries there same before known k below bad =
    let f : NetEntry → List PinEntry = λ net. net.pins in
    let more : pins_before records (n + 1) ≡ pins_before records n ++ (net_at records n).pins = ap (flat_map f) (take_more records.nets n _ there) ∙ sym (flat_map_more f [] (take n records.nets) (net_at records n)) in
    let size : length (pins_before records (n + 1)) ≡ length (pins_before records n) + length (net_at records n).pins = ap (length {A = PinEntry}) more ∙ length-append (pins_before records n) (net_at records n).pins in
    ⊎_elim (λ under. before k under bad) (λ over.
    let i : ℕ = k - length (pins_before records n) in
    let e : length (pins_before records n) + i ≡ k = omega arith in
    let inside : i < length (net_at records n).pins = omega arith in
    let at : pin_at records k ≡ pin_in (net_at records n).pins i = ap (pin_at records) (sym e) ∙ pin_of_net records n i there inside in
    let all : AreKnown records (net_at records n).pins = subst (AreKnown records) same known in
    let P : PinEntry → Type 0 = λ p. IsUnknown records p.node in
    all i inside (subst P at bad)) (cases_lt k (length (pins_before records n)))

pub known_whole : (records : Records) (n : ℕ) → length records.nets ≤ n → ((k : ℕ) → k < length (pins_before records n) → IsUnknown records (pin_at records k).node → ⊥) → (i : ℕ) → IsUnknownPin records i → ⊥
known_whole records n all known i bad = known i (let e : pins_before records n ≡ pin_lines records = ap (flat_map (λ (net : NetEntry). net.pins)) (take_all n records.nets all) in rw e bad.0) bad.1

-- a net and its weight, by the block that it is made from
pub net_block : (sources : Sources) (n : ℕ) (block : NetBlock) → n < length sources.nets.now → block ≡ get_or sources.nets.now n block → net_at (records_of sources) n ≡ net_entry block
net_block sources n block there e = get_or-map net_entry sources.nets.now n block _ there ∙ ap net_entry (sym e)

pub net_there : (sources : Sources) (n : ℕ) → n < length sources.nets.now → n < length (records_of sources).nets
net_there sources n there = let e : length (map net_entry sources.nets.now) ≡ length sources.nets.now = length-map sources.nets.now net_entry in omega arith

weight_at_net : (sources : Sources) (n : ℕ) (block : NetBlock) (weights : List (Option ℕ)) (d : Option ℕ) → n < length sources.nets.now → block ≡ get_or sources.nets.now n block → weights ≡ whole_weights (records_of sources) → get_or weights n d ≡ whole_weight (weight_of (records_of sources) (net_entry block))
weight_at_net sources n block weights d there e same =
    ap (λ (ws : List (Option ℕ)). get_or ws n d) same
    ∙ (get_or-map (λ net. whole_weight (weight_of (records_of sources) net)) (records_of sources).nets n (net_entry block) d (net_there sources n there)
    ∙ ap (λ net. whole_weight (weight_of (records_of sources) net)) (get_or-map net_entry sources.nets.now n block (net_entry block) there ∙ ap net_entry (sym e)))

pub net_made : (sources : Sources) (n : ℕ) (block : NetBlock) (weights : List (Option ℕ)) (d : Option ℕ) (weight : ℕ) (pins : List Pin) (entries : List PinEntry) → n < length sources.nets.now → block ≡ get_or sources.nets.now n block → weights ≡ whole_weights (records_of sources) → weight ≡ unwrap_or (get_or weights n d) 0 → entries ≡ block.pins → pins ≡ map (joined_pin (records_of sources)) entries → net_value (record { weight = weight; pins = pins }) ≡ pinned_net (records_of sources) (net_entry (get_or sources.nets.now n block))
net_made sources n block weights d weight pins entries there e same named read made =
    let w : weight ≡ unwrap_or (whole_weight (weight_of (records_of sources) (net_entry block))) 0 = named ∙ ap (λ o. unwrap_or o 0) (weight_at_net sources n block weights d there e same) in
    let p : pins ≡ map (joined_pin (records_of sources)) block.pins = made ∙ ap (map (joined_pin (records_of sources))) read in
    let here : net_value (record { weight = weight; pins = pins }) ≡ pinned_net (records_of sources) (net_entry block) = rw (w, p) refl in
    here ∙ ap (λ (b : NetBlock). pinned_net (records_of sources) (net_entry b)) e

-- the first line of the placement file whose name no node has
pub unknown_place : (records : Records) (i : ℕ) (entry : PlaceEntry) (numbers : BTreeMap (Bor (List ℕ)) ℕ) (found : Option ℕ) → i < length records.places → place_at records i ≡ entry → found ≡ number_in numbers entry.name → is_some found ≡ false → AreNumbers (node_name records) (length records.nodes) numbers → ((j : ℕ) → IsUnknownPin records j → ⊥) → ((k : ℕ) → k < i → IsUnknownPlace records k → ⊥) → IsFirstFrom records 2 (UnknownName Pl entry.line)
unknown_place records i entry numbers (Some j) there same e none h pins before = absurd cc
unknown_place records i entry numbers None there same e none h pins before =
    let P : PlaceEntry → Type 0 = λ p. IsUnknown records p.name in
    let unknown : IsUnknown records entry.name = subst (IsLastNumber (node_name records) (length records.nodes) entry.name) (sym e) (h.last entry.name) in
    first_of_rank records 2 (UnknownName Pl entry.line) refl (pins, (i, record { here = (there, subst P (sym same) unknown); not_before = before }, ap (λ (p : PlaceEntry). p.line) (sym same)))

pub known_place : (records : Records) (i : ℕ) (entry : PlaceEntry) (numbers : BTreeMap (Bor (List ℕ)) ℕ) (found : Option ℕ) → place_at records i ≡ entry → found ≡ number_in numbers entry.name → is_some found ≡ true → AreNumbers (node_name records) (length records.nodes) numbers → ((k : ℕ) → k < i → IsUnknownPlace records k → ⊥) → (k : ℕ) → k < i + 1 → IsUnknownPlace records k → ⊥
known_place records i entry numbers None same e some h before k below bad = absurd cc
known_place records i entry numbers (Some j) same e some h before k below bad = ⊎_elim (λ (here : k ≡ i).
    let P : PlaceEntry → Type 0 = λ p. IsUnknown records p.name in
    let last : IsLast (node_name records) (length records.nodes) entry.name j = subst (IsLastNumber (node_name records) (length records.nodes) entry.name) (sym e) (h.last entry.name) in
    let unknown : IsUnknown records (place_at records i).name = (subst (IsUnknownPlace records) here bad).1 in
    subst P same unknown j last.there last.same) (λ apart. before k (omega arith) bad) (cases_eq k i)
