-- The steps of the nets reader.
use Rattle.std.proofs.Common.{◌≡◌, ℕ, ◌+◌, ◌-◌, ◌^◌, ◌<◌, ◌≤◌, min, ◌==◌, Bool, true, false, List, [], ◌∷◌, ◌++◌, length, map, is_some, Option, Some, None, option_map, option_to_list, Result, Ok, Err, codes, if◌then◌else◌, refl, sym, ap, ◌∙◌, arith}
use Rattle.std.specs.List.{filter_map}
use Rattle.std.proofs.lemmas.Bool.{cond-true, cond-false}
use Rattle.std.proofs.lemmas.List.{map-append, length-append}
use Rattle.book_text.specs.Lines.{NumberedLine}
use Rattle.book_files.specs.declared.fault.TextKind.{TextKind}
use Rattle.book_files.specs.declared.fault.TextKind.TheVariants.{BadHeader, BadLine, CountMismatch}
use Rattle.book_files.specs.declared.nets.NetsSoFar.{NetsSoFar}
use Rattle.book_files.specs.Words.{latest, last_of, is_header, is_keyed}
use Rattle.book_files.specs.Forms.Words.{◌>>=◌, count_of}
use Rattle.book_files.specs.Groups.{Group}
use Rattle.book_files.specs.Entries.{PinEntry, NetEntry}
use Rattle.book_files.specs.Blocks.{net_entries}
use Rattle.book_files.specs.Nets.{NetHead, NetItem, header, total, pin_total, net, pin, total_in, pin_total_in, net_in, pin_in, nets_in, open_net, entry_of_net}
use Rattle.book_files.specs.Forms.Nets.{unless_short, head_of, pin_of, pin_behind, net_meaning, net_ending, totals, net_form}
use Rattle.book_files.specs.Forms.NetsSoFar.{open_group, open_entries, all_entries, IsNetsSoFar, both_counted, at_end, with_pin, PinKeptIn, NetBegun}
use Rattle.book_files.specs.Forms.Progress.{StandsFor}
use Rattle.book_files.specs.Forms.SoFar.{has_items}
use Rattle.book_files.proofs.Items.{has_items-push, last_of-push, filter_map-yes, filter_map-no, latest-yes, latest-no}
use Rattle.book_files.proofs.GroupSteps.{groups-begun, groups-part, groups-other}
use Rattle.book_files.proofs.Progresses.{kept}

meaning_first : (items : List NetItem) (line : NumberedLine) → has_items items ≡ false → net_meaning items line ≡ (if is_header (codes "nets") line.words then Ok header else Err BadHeader)
meaning_first [] line none = refl
meaning_first (item ∷ items) line none = cc

-- what a line is behind the header, where these counts were stated and this net is open
abbrev behind_header : Bool → Bool → Option (Group NetHead PinEntry) → NumberedLine → Result NetItem TextKind
behind_header total_stated pin_total_stated last line =
    if is_keyed (codes "numnets") line.words then (count_of total_stated line.words >>= λ n. Ok (total n))
    else if is_keyed (codes "numpins") line.words then (count_of pin_total_stated line.words >>= λ p. Ok (pin_total p))
    else if is_keyed (codes "netdegree") line.words then (unless_short last >>= λ done. head_of line.words)
    else pin_behind last line

meaning_begun : (items : List NetItem) (line : NumberedLine) → has_items items ≡ true
    → net_meaning items line ≡ behind_header (is_some (latest total_in items)) (is_some (latest pin_total_in items)) (open_net items) line
meaning_begun [] line begun = cc
meaning_begun (item ∷ items) line begun = refl

-- the nets with the one that is open
entries_so_far : (items : List NetItem) (so_far : NetsSoFar) → IsNetsSoFar items so_far → all_entries so_far ≡ map entry_of_net (nets_in items)
entries_so_far items so_far is = ap (λ es. es ++ open_entries so_far.current) is.closed
    ∙ (sym (map-append entry_of_net is.front (option_to_list (option_map open_group so_far.current))) ∙ ap (map entry_of_net) (sym is.nets))

module _ (line : NumberedLine) (old new : NetsSoFar) where
  meaning_so_far : (items : List NetItem) → old.begun ≡ true → IsNetsSoFar items old
      → net_meaning items line ≡ behind_header (is_some old.total) (is_some old.pin_total) (option_map open_group old.current) line
  meaning_so_far items begun so_far = meaning_begun items line (sym so_far.begun ∙ begun)
      ∙ (ap (λ stated. behind_header (is_some stated) (is_some (latest pin_total_in items)) (open_net items) line) (sym so_far.total)
      ∙ (ap (λ stated. behind_header (is_some old.total) (is_some stated) (open_net items) line) (sym so_far.pin_total)
      ∙ ap (λ last. behind_header (is_some old.total) (is_some old.pin_total) last line) so_far.last))

  -- an item that is neither a net nor a pin
  same_nets : (items : List NetItem) (item : NetItem) → net_in item ≡ None → pin_in item ≡ None → new.pins_found ≡ old.pins_found → new.closed.items ≡ old.closed.items → new.current ≡ old.current
      → new.begun ≡ true → new.total ≡ latest total_in (items ++ item ∷ []) → new.pin_total ≡ latest pin_total_in (items ++ item ∷ []) → IsNetsSoFar items old → IsNetsSoFar (items ++ item ∷ []) new
  same_nets items item no_net no_pin found closed current begun stated pin_stated so_far =
      let nets : nets_in (items ++ item ∷ []) ≡ nets_in items = groups-other net_in pin_in items item no_net no_pin in
      let pins : length (filter_map pin_in (items ++ item ∷ [])) ≡ length (filter_map pin_in items) = ap length (filter_map-no pin_in items item no_pin) in
      record {
        begun = begun ∙ sym (has_items-push items item);
        total = stated;
        pin_total = pin_stated;
        pins = λ few. found ∙ (so_far.pins (omega arith) ∙ sym pins);
        last = ap last_of nets ∙ (so_far.last ∙ ap (option_map open_group) (sym current));
        front = so_far.front;
        nets = nets ∙ (so_far.nets ∙ ap (λ o. so_far.front ++ option_to_list (option_map open_group o)) (sym current));
        closed = ap net_entries closed ∙ so_far.closed;
      }

  pub header_kept : old.begun ≡ false → is_header (codes "nets") line.words ≡ true → new.begun ≡ true → new.total ≡ old.total → new.pin_total ≡ old.pin_total
      → new.pins_found ≡ old.pins_found → new.closed.items ≡ old.closed.items → new.current ≡ old.current
      → (lines : List NumberedLine) → StandsFor net_form IsNetsSoFar old lines → StandsFor net_form IsNetsSoFar new (lines ++ line ∷ [])
  header_kept none is begun stated pin_stated found closed current lines before = kept net_form IsNetsSoFar lines line old new header (λ items so_far. (
    meaning_first items line (sym so_far.begun ∙ none) ∙ cond-true _ _ _ is,
    same_nets items header refl refl found closed current begun (stated ∙ (so_far.total ∙ sym (latest-no total_in items header refl)))
        (pin_stated ∙ (so_far.pin_total ∙ sym (latest-no pin_total_in items header refl))) so_far,
  )) before

  pub total_kept : (n : ℕ) → old.begun ≡ true → is_keyed (codes "numnets") line.words ≡ true → count_of (is_some old.total) line.words ≡ Ok n → new.begun ≡ true → new.total ≡ Some n → new.pin_total ≡ old.pin_total
      → new.pins_found ≡ old.pins_found → new.closed.items ≡ old.closed.items → new.current ≡ old.current
      → (lines : List NumberedLine) → StandsFor net_form IsNetsSoFar old lines → StandsFor net_form IsNetsSoFar new (lines ++ line ∷ [])
  total_kept n some keyed counts begun stated pin_stated found closed current lines before = kept net_form IsNetsSoFar lines line old new (total n) (λ items so_far. (
    meaning_so_far items some so_far ∙ (cond-true _ _ _ keyed ∙ ap (λ r. r >>= λ m. Ok (total m)) counts),
    same_nets items (total n) refl refl found closed current begun (stated ∙ sym (latest-yes total_in items (total n) n refl))
        (pin_stated ∙ (so_far.pin_total ∙ sym (latest-no pin_total_in items (total n) refl))) so_far,
  )) before

  pub pin_total_kept : (p : ℕ) → old.begun ≡ true → is_keyed (codes "numnets") line.words ≡ false → is_keyed (codes "numpins") line.words ≡ true → count_of (is_some old.pin_total) line.words ≡ Ok p
      → new.begun ≡ true → new.total ≡ old.total → new.pin_total ≡ Some p → new.pins_found ≡ old.pins_found → new.closed.items ≡ old.closed.items → new.current ≡ old.current
      → (lines : List NumberedLine) → StandsFor net_form IsNetsSoFar old lines → StandsFor net_form IsNetsSoFar new (lines ++ line ∷ [])
  pin_total_kept p some other keyed counts begun stated pin_stated found closed current lines before = kept net_form IsNetsSoFar lines line old new (pin_total p) (λ items so_far. (
    meaning_so_far items some so_far ∙ (cond-false _ _ _ other ∙ (cond-true _ _ _ keyed ∙ ap (λ r. r >>= λ m. Ok (pin_total m)) counts)),
    same_nets items (pin_total p) refl refl found closed current begun (stated ∙ (so_far.total ∙ sym (latest-no total_in items (pin_total p) refl)))
        (pin_stated ∙ sym (latest-yes pin_total_in items (pin_total p) p refl)) so_far,
  )) before

  pub net_kept : old.begun ≡ true → is_keyed (codes "numnets") line.words ≡ false → is_keyed (codes "numpins") line.words ≡ false → is_keyed (codes "netdegree") line.words ≡ true
      → NetBegun old new line.words → (lines : List NumberedLine) → StandsFor net_form IsNetsSoFar old lines → StandsFor net_form IsNetsSoFar new (lines ++ line ∷ [])
  net_kept some other another keyed step lines before = let item = net step.head in kept net_form IsNetsSoFar lines line old new item (λ items so_far.
      let group : Group NetHead PinEntry = record { head = step.head; parts = [] } in
      let nets : nets_in (items ++ item ∷ []) ≡ nets_in items ++ group ∷ [] = groups-begun net_in pin_in items item step.head refl in
      let pins : length (filter_map pin_in (items ++ item ∷ [])) ≡ length (filter_map pin_in items) = ap length (filter_map-no pin_in items item refl) in (
        meaning_so_far items some so_far ∙ (cond-false _ _ _ other ∙ (cond-false _ _ _ another ∙ (cond-true _ _ _ keyed ∙ step.means))),
        record {
          begun = step.begun ∙ (some ∙ sym (has_items-push items item));
          total = step.total ∙ (so_far.total ∙ sym (latest-no total_in items item refl));
          pin_total = step.pin_total ∙ (so_far.pin_total ∙ sym (latest-no pin_total_in items item refl));
          pins = λ few. step.pins ∙ (so_far.pins (omega arith) ∙ sym pins);
          last = ap last_of nets ∙ (last_of-push (nets_in items) group ∙ sym step.current);
          front = nets_in items;
          nets = nets ∙ ap (λ o. nets_in items ++ option_to_list o) (sym step.current);
          closed = step.closed ∙ entries_so_far items old so_far;
        },
      )) before

  pub pin_kept : old.begun ≡ true → is_keyed (codes "numnets") line.words ≡ false → is_keyed (codes "numpins") line.words ≡ false → is_keyed (codes "netdegree") line.words ≡ false
      → PinKeptIn (option_map open_group old.current) (option_map open_group new.current) line → new.begun ≡ true → new.total ≡ old.total → new.pin_total ≡ old.pin_total
      → new.pins_found ≡ min (old.pins_found + 1) (2 ^ 64 - 1) → new.closed.items ≡ old.closed.items
      → (lines : List NumberedLine) → StandsFor net_form IsNetsSoFar old lines → StandsFor net_form IsNetsSoFar new (lines ++ line ∷ [])
  pin_kept some other another a_third step begun stated pin_stated found closed lines before = let entry = step.kept.entry in let item = pin entry in kept net_form IsNetsSoFar lines line old new item (λ items so_far.
      let was : nets_in items ≡ so_far.front ++ step.before ∷ [] = so_far.nets ∙ ap (λ o. so_far.front ++ option_to_list o) step.was in
      let nets : nets_in (items ++ item ∷ []) ≡ so_far.front ++ with_pin step.before entry ∷ [] = groups-part net_in pin_in items item entry so_far.front step.before refl refl was in
      let is : option_map open_group new.current ≡ Some (with_pin step.before entry) = step.is ∙ ap Some step.kept.grown in
      let pins : length (filter_map pin_in (items ++ item ∷ [])) ≡ length (filter_map pin_in items) + 1 =
      ap length (filter_map-yes pin_in items item entry refl) ∙ length-append (filter_map pin_in items) (entry ∷ []) in (
        meaning_so_far items some so_far ∙ (cond-false _ _ _ other ∙ (cond-false _ _ _ another ∙ (cond-false _ _ _ a_third ∙ (ap (λ last. pin_behind last line) step.was ∙ step.kept.means)))),
        record {
          begun = begun ∙ sym (has_items-push items item);
          total = stated ∙ (so_far.total ∙ sym (latest-no total_in items item refl));
          pin_total = pin_stated ∙ (so_far.pin_total ∙ sym (latest-no pin_total_in items item refl));
          pins = λ few. let so = so_far.pins (omega arith) in omega arith;
          last = ap last_of nets ∙ (last_of-push so_far.front (with_pin step.before entry) ∙ sym is);
          front = so_far.front;
          nets = nets ∙ ap (λ o. so_far.front ++ option_to_list o) (sym is);
          closed = ap net_entries closed ∙ so_far.closed;
        },
      )) before

-- the end, where both counts are compared
totals_counted : (stated pin_stated : Option ℕ) (nets : List NetEntry) (found : ℕ) → totals stated pin_stated nets found ≡ (both_counted stated pin_stated (length nets) found >>= λ done. Ok nets)
totals_counted None pin_stated nets found = refl
totals_counted (Some n) None nets found = refl
totals_counted (Some n) (Some p) nets found = at (n == length nets) (p == found) where
  at : (a b : Bool) → (if a then (if b then Ok nets else Err (CountMismatch p found)) else Err (CountMismatch n (length nets)))
      ≡ (((if a then Ok (tt {0}) else Err (CountMismatch n (length nets))) >>= λ done. (if b then Ok (tt {0}) else Err (CountMismatch p found))) >>= λ done. Ok nets)
  at true true = refl
  at true false = refl
  at false true = refl
  at false false = refl

short_then : (r : Result (Unit {0}) TextKind) (s : Result (Unit {0}) TextKind) (nets : List NetEntry) → (r >>= λ done. (s >>= λ done. Ok nets)) ≡ ((r >>= λ done. s) >>= λ done. Ok nets)
short_then (Ok done) s nets = refl
short_then (Err kind) s nets = refl

ending_begun : (items : List NetItem) → has_items items ≡ true → net_ending items
    ≡ (unless_short (open_net items) >>= λ done. totals (latest total_in items) (latest pin_total_in items) (map entry_of_net (nets_in items)) (length (filter_map pin_in items)))
ending_begun [] some = cc
ending_begun (item ∷ items) some = refl

ending_first : (items : List NetItem) → has_items items ≡ false → net_ending items ≡ Err BadHeader
ending_first [] none = refl
ending_first (item ∷ items) none = cc

-- what the items make, or the first fault that is seen at the end
pub ending_so_far : (items : List NetItem) (so_far : NetsSoFar) → IsNetsSoFar items so_far → length (filter_map pin_in items) < 2 ^ 64
    → net_ending items ≡ (at_end so_far >>= λ done. Ok (all_entries so_far))
ending_so_far items so_far is few = at so_far.begun refl where
  at : (b : Bool) → so_far.begun ≡ b → net_ending items
      ≡ ((if b then (unless_short (option_map open_group so_far.current) >>= λ done. both_counted so_far.total so_far.pin_total (length (all_entries so_far)) so_far.pins_found) else Err BadHeader)
      >>= λ done. Ok (all_entries so_far))
  at false none = ending_first items (sym is.begun ∙ none)
  at true some = ending_begun items (sym is.begun ∙ some)
      ∙ (rw (is.last, ← is.total, ← is.pin_total, ← is.pins few, ← entries_so_far items so_far is)
      (ap (λ r. unless_short (option_map open_group so_far.current) >>= λ done. r) (totals_counted so_far.total so_far.pin_total (all_entries so_far) so_far.pins_found)
      ∙ short_then (unless_short (option_map open_group so_far.current)) (both_counted so_far.total so_far.pin_total (length (all_entries so_far)) so_far.pins_found) (all_entries so_far)))

-- a line of too few words for a pin, or of too many
pub pin_of-short : {A : Type 0} (bytes : A → List ℕ) (number : ℕ) (words : List A) → length words < 1 → pin_of number (map bytes words) ≡ Err BadLine
pin_of-short bytes number [] short = refl
pin_of-short bytes number (a ∷ words) short = absurd (omega arith)

pub pin_of-between : {A : Type 0} (bytes : A → List ℕ) (number : ℕ) (words : List A) → 3 ≤ length words → length words < 5 → pin_of number (map bytes words) ≡ Err BadLine
pin_of-between bytes number (a ∷ b ∷ c ∷ []) from to = refl
pin_of-between bytes number (a ∷ b ∷ c ∷ d ∷ []) from to = refl
pin_of-between bytes number (a ∷ b ∷ c ∷ d ∷ e ∷ words) from to = absurd (omega arith)
pin_of-between bytes number (a ∷ b ∷ []) from to = absurd (omega arith)
pin_of-between bytes number (a ∷ []) from to = absurd (omega arith)
pin_of-between bytes number [] from to = absurd (omega arith)

pub pin_of-long : {A : Type 0} (bytes : A → List ℕ) (number : ℕ) (words : List A) → 6 ≤ length words → pin_of number (map bytes words) ≡ Err BadLine
pin_of-long bytes number (a ∷ b ∷ c ∷ d ∷ e ∷ f ∷ words) long = refl
pin_of-long bytes number (a ∷ b ∷ c ∷ d ∷ e ∷ []) long = absurd (omega arith)
pin_of-long bytes number (a ∷ b ∷ c ∷ d ∷ []) long = absurd (omega arith)
pin_of-long bytes number (a ∷ b ∷ c ∷ []) long = absurd (omega arith)
pin_of-long bytes number (a ∷ b ∷ []) long = absurd (omega arith)
pin_of-long bytes number (a ∷ []) long = absurd (omega arith)
pin_of-long bytes number [] long = absurd (omega arith)
