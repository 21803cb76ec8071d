-- The nets that a text reads as are few, with offsets in range.
use Rattle.std.proofs.Common.{◌≡◌, ℕ, ◌+◌, ◌^◌, ◌<◌, ◌≤◌, ◌==◌, Bool, true, false, List, [], ◌∷◌, length, map, if◌then◌else◌, is_some, Option, Some, None, Result, Ok, Err, IfOk, inr, codes, refl, ap, ◌∙◌, arith}
use Rattle.std.specs.Option.{IfSome}
use Rattle.std.specs.List.{AllByRecursion, filter_map, sum_by}
use Rattle.std.proofs.lemmas.Bool.{cond_both}
use Rattle.std.proofs.lemmas.Int.{ints}
use Rattle.std.proofs.lemmas.List.{length-map}
use Rattle.std.proofs.lemmas.List.Sums.{sum_by-cons}
use Rattle.book_text.specs.Lines.{NumberedLine, content_of, end_line}
use Rattle.book_files.specs.declared.fault.TextKind.{TextKind}
use Rattle.book_files.specs.declared.fault.TextKind.TheVariants.{BadHeader, BadLine, CountMismatch}
use Rattle.book_files.specs.declared.nets.NetsSoFar.{NetsSoFar}
use Rattle.book_files.specs.Words.{latest, is_header, is_keyed, is_colon_word}
use Rattle.book_files.specs.Forms.Words.{◌>>=◌, count_of, whole_of, number_of}
use Rattle.book_files.specs.Groups.{Group}
use Rattle.book_files.specs.Entries.{PinEntry, NetEntry}
use Rattle.book_files.specs.Ranges.{IsInRange, IsPinInRange, IsNetInRange, pin_count}
use Rattle.book_files.specs.Nets.{NetHead, NetItem, header, total, pin_total, net, pin, total_in, pin_total_in, net_in, pin_in, nets_in, open_net, is_direction, entry_of_net}
use Rattle.book_files.specs.Forms.Nets.{unless_short, head_of, offset_pin, plain_pin, pin_of, pin_behind, net_meaning, net_ending, totals, net_form}
use Rattle.book_files.specs.Forms.NetsSoFar.{IsNetsSoFar, all_entries, at_end}
use Rattle.book_files.specs.Forms.Form.{Mean}
use Rattle.book_files.proofs.FormTexts.{Reads, FirstFault}
use Rattle.book_files.specs.Forms.Progress.{StandsFor}
use Rattle.book_files.proofs.FewRecords.{length-content_of-le, length-mean, length-filter_map-le, at_ok, all-mean}
use Rattle.book_files.proofs.GoodRecords.{bind_good, number_good}
use Rattle.book_files.proofs.GroupSteps.{all-groups, groups-few}
use Rattle.book_files.proofs.NetSteps.{ending_so_far}

if_ok : {A : Type 0} (P : A → Type 0) (b : Bool) (r : Result A TextKind) (kind : TextKind) → IfOk r P → IfOk (if b then r else Err kind) P
if_ok P true r kind good = good
if_ok P false r kind good = tt

plain_good : (number : ℕ) (node : List ℕ) → IsPinInRange (plain_pin number node)
plain_good number node = record { dx = record { low = omega (arith, ints); high = omega (arith, ints) }; dy = record { low = omega (arith, ints); high = omega (arith, ints) } }

offset_good : (number : ℕ) (node x y : List ℕ) → IfOk (offset_pin number node x y) IsPinInRange
offset_good number node x y = bind_good IsInRange IsPinInRange (number_of x) _ (number_good x) (λ dx x_good.
    bind_good IsInRange IsPinInRange (number_of y) (λ dy. Ok (record { line = number; node = node; dx = dx; dy = dy })) (number_good y)
    (λ dy y_good. record { dx = x_good; dy = y_good }))

pin_of-good : (number : ℕ) (words : List (List ℕ)) → IfOk (pin_of number words) IsPinInRange
pin_of-good number [] = tt
pin_of-good number (node ∷ []) = plain_good number node
pin_of-good number (node ∷ direction ∷ []) = if_ok IsPinInRange (is_direction direction) (Ok (plain_pin number node)) BadLine (plain_good number node)
pin_of-good number (node ∷ direction ∷ colon ∷ []) = tt
pin_of-good number (node ∷ direction ∷ colon ∷ x ∷ []) = tt
pin_of-good number (node ∷ direction ∷ colon ∷ x ∷ y ∷ []) =
    if_ok IsPinInRange (is_direction direction) _ BadLine (if_ok IsPinInRange (is_colon_word colon) (offset_pin number node x y) BadLine (offset_good number node x y))
pin_of-good number (node ∷ direction ∷ colon ∷ x ∷ y ∷ more ∷ rest) = tt

-- a pin's offset is in range
pub pin_good : (number : ℕ) (words : List (List ℕ)) (entry : PinEntry) → pin_of number words ≡ Ok entry → IsPinInRange entry
pin_good number words entry is = at_ok IsPinInRange (pin_of number words) entry is (pin_of-good number words)

abbrev IsGoodItem : NetItem → Type 0
IsGoodItem item = IfSome (pin_in item) IsPinInRange

any_good : {A : Type 0} (r : Result A TextKind) → IfOk r (λ x. Unit {0})
any_good (Ok x) = tt
any_good (Err kind) = tt

-- what is no pin
other_good : {A : Type 0} (r : Result A TextKind) (item : A → NetItem) → ((x : A) → IsGoodItem (item x)) → IfOk (r >>= λ x. Ok (item x)) IsGoodItem
other_good r item good = bind_good (λ x. Unit {0}) IsGoodItem r (λ x. Ok (item x)) (any_good r) (λ x _. good x)

head_good : (words : List (List ℕ)) → IfOk (head_of words) IsGoodItem
head_good [] = tt
head_good (key ∷ []) = tt
head_good (key ∷ colon ∷ []) = tt
head_good (key ∷ colon ∷ degree ∷ []) = other_good (whole_of degree) (λ k. net (record { degree = k; name = None })) (λ k. tt)
head_good (key ∷ colon ∷ degree ∷ name ∷ []) = other_good (whole_of degree) (λ k. net (record { degree = k; name = Some name })) (λ k. tt)
head_good (key ∷ colon ∷ degree ∷ name ∷ more ∷ rest) = tt

behind_good : (last : Option (Group NetHead PinEntry)) (line : NumberedLine) → IfOk (pin_behind last line) IsGoodItem
behind_good None line = tt
behind_good (Some last) line = bind_good IsPinInRange IsGoodItem (pin_of line.number line.words) _ (pin_of-good line.number line.words)
    (λ entry good. if_ok IsGoodItem _ (Ok (pin entry)) (CountMismatch last.head.degree (last.head.degree + 1)) good)

meaning_good : (before : List NetItem) (line : NumberedLine) → Unit {0} → IfOk (net_meaning before line) IsGoodItem
meaning_good [] line any = if_ok IsGoodItem (is_header (codes "nets") line.words) (Ok header) BadHeader tt
meaning_good (item ∷ items) line any = let good : Result NetItem TextKind → Type 0 = λ r. IfOk r IsGoodItem in
    cond_both (is_keyed (codes "numnets") line.words) _ _ good (λ _. other_good (count_of (is_some (latest total_in (item ∷ items))) line.words) total (λ n. tt))
    (λ _. cond_both (is_keyed (codes "numpins") line.words) _ _ good (λ _. other_good (count_of (is_some (latest pin_total_in (item ∷ items))) line.words) pin_total (λ p. tt))
    (λ _. cond_both (is_keyed (codes "netdegree") line.words) _ _ good
    (λ _. bind_good (λ done. Unit {0}) IsGoodItem (unless_short (open_net (item ∷ items))) (λ done. head_of line.words) (any_good (unless_short (open_net (item ∷ items)))) (λ done _. head_good line.words))
    (λ _. behind_good (open_net (item ∷ items)) line)))

any_line : (lines : List NumberedLine) → AllByRecursion (λ line. Unit {0}) lines
any_line [] = tt
any_line (line ∷ lines) = (tt, any_line lines)

pin_count-map : (nets : List (Group NetHead PinEntry)) → pin_count (map entry_of_net nets) ≡ sum_by (λ net. length net.parts) nets
pin_count-map [] = refl
pin_count-map (first ∷ nets) = omega (
  arith,
  pin_count-map nets,
  sum_by-cons (λ (net : NetEntry). length net.pins) (entry_of_net first) (map entry_of_net nets),
  sum_by-cons (λ (net : Group NetHead PinEntry). length net.parts) first nets,
)

in_range : (nets : List (Group NetHead PinEntry)) → AllByRecursion (λ net. AllByRecursion IsPinInRange net.parts) nets → AllByRecursion IsNetInRange (map entry_of_net nets)
in_range [] all = tt
in_range (first ∷ nets) all = (all.0, in_range nets all.1)

totals_are : (stated pin_stated : Option ℕ) (found nets : List NetEntry) (pins : ℕ) → totals stated pin_stated found pins ≡ Ok nets → nets ≡ found
totals_are stated pin_stated found nets pins ends = at_ok (λ ns. ns ≡ found) (totals stated pin_stated found pins) nets ends (each stated pin_stated) where
  each : (stated pin_stated : Option ℕ) → IfOk (totals stated pin_stated found pins) (λ ns. ns ≡ found)
  each None pin_stated = tt
  each (Some n) None = tt
  each (Some n) (Some p) = if_ok (λ ns. ns ≡ found) (n == length found) (if p == pins then Ok found else Err (CountMismatch p pins)) (CountMismatch n (length found))
      (if_ok (λ ns. ns ≡ found) (p == pins) (Ok found) (CountMismatch p pins) refl)

ending_is : (items : List NetItem) (nets : List NetEntry) → net_ending items ≡ Ok nets → nets ≡ map entry_of_net (nets_in items)
ending_is [] nets ends = cc
ending_is (item ∷ items) nets ends = whole (unless_short (open_net (item ∷ items))) ends where
  whole : (r : Result (Unit {0}) TextKind)
      → (r >>= λ done. totals (latest total_in (item ∷ items)) (latest pin_total_in (item ∷ items)) (map entry_of_net (nets_in (item ∷ items))) (length (filter_map pin_in (item ∷ items)))) ≡ Ok nets
      → nets ≡ map entry_of_net (nets_in (item ∷ items))
  whole (Ok done) ends = totals_are (latest total_in (item ∷ items)) (latest pin_total_in (item ∷ items)) (map entry_of_net (nets_in (item ∷ items))) nets _ ends
  whole (Err kind) ends = cc

module _ (text : List ℕ) where
  few_items : (items : List NetItem) → Mean net_form [] (content_of text) items → length items ≤ length text
  few_items items mean = omega (arith, length-mean net_form [] (content_of text) items mean, length-content_of-le text)

  -- at most as many nets and pins as bytes
  pub nets_few : (nets : List NetEntry) → Reads net_form text nets → length nets + pin_count nets ≤ length text
  nets_few nets reads = let is = ending_is reads.items nets reads.make in
      rw is (omega (arith, length-map (nets_in reads.items) entry_of_net, pin_count-map (nets_in reads.items), groups-few net_in pin_in reads.items, few_items reads.items reads.mean))

  pub nets_good : (nets : List NetEntry) → Reads net_form text nets → AllByRecursion IsNetInRange nets
  nets_good nets reads = rw (ending_is reads.items nets reads.make) (in_range (nets_in reads.items) (all-groups net_in pin_in IsPinInRange reads.items
      (all-mean net_form (λ line. Unit {0}) IsGoodItem meaning_good [] (content_of text) reads.items reads.mean (any_line (content_of text)))))

  module _ (so_far : NetsSoFar) (counts : length text < 2 ^ 64) (stands : StandsFor net_form IsNetsSoFar so_far (content_of text)) where
    ending : net_ending stands.items ≡ (at_end so_far >>= λ done. Ok (all_entries so_far))
    ending = ending_so_far stands.items so_far stands.so_far (omega (arith, few_items stands.items stands.mean, length-filter_map-le pin_in stands.items))

    -- what stands at the end is what the text reads as
    pub finished : at_end so_far ≡ Ok tt → Reads net_form text (all_entries so_far)
    finished whole = record { items = stands.items; mean = stands.mean; make = ending ∙ ap (λ r. r >>= λ done. Ok (all_entries so_far)) whole }

    -- or the fault at the end
    pub failed : (kind : TextKind) → at_end so_far ≡ Err kind → FirstFault net_form text (record { line = end_line text; kind = kind })
    failed kind fault = inr (record { items = stands.items; mean = stands.mean; first = ending ∙ ap (λ r. r >>= λ done. Ok (all_entries so_far)) fault; number = refl })
