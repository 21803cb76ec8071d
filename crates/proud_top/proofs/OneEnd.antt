-- The flow has one end at most: each step has one answer, so the steps one behind another have one.
use Rattle.std.proofs.Common.{◌≡◌, ◌⊎◌, ◌<◌, ◌≤◌, ℕ, List, [], length, refl, sym, ◌∙◌, ap, subst, inl, inr, arith}
use Rattle.std.specs.Prelude.{Option, Some, None, Result, Ok, Err}
use Rattle.std.proofs.lemmas.Bool.{cases_order}
use Rattle.std.proofs.lemmas.List.{length-map, ext_get_or}
use Rattle.book_outer.specs.Files.{FileEntry, content}
use Rattle.book_files.specs.declared.records.FileKind.{FileKind}
use Rattle.book_files.specs.declared.fault.TextFault.{TextFault}
use Rattle.book_files.specs.Entries.{AuxEntry}
use Rattle.book_files.specs.declared.loading.TheConstants.{MOST_BYTES}
use Rattle.book_design.specs.Records.{Records}
use Rattle.book_design.specs.Values.{DesignValue}
use Rattle.pad_reach.specs.Chain.{Joint, HasChain}
use Rattle.pad_reach.specs.Reaches.{IsFirstUnanchored}
use Rattle.net_model.specs.Values.{NetworkValue}
use Rattle.net_model.specs.Webs.{joints_of}
use Rattle.level_run.specs.declared.rounds.Rounds.{Rounds}
use Rattle.level_run.specs.Rounds.{last_round}
use Rattle.level_run.specs.declared.level.Level.{Level}
use Rattle.level_run.specs.Levels.{IsLevels, IsGap, level_at}
use Rattle.row_space.specs.Values.{SegmentsValue}
use Rattle.row_space.specs.Runs.{segments_of}
use Rattle.row_legal.specs.declared.parts.Place.{Place}
use Rattle.row_legal.specs.declared.parts.Wish.{Wish}
use Rattle.row_legal.specs.Cells.{CellsValue}
use Rattle.row_legal.specs.Places.{IsLegalised}
use Rattle.row_legal.specs.Answers.{HasNoRoom}
use Rattle.row_legal.specs.Spots.{AreSitesOf}
use Rattle.wire_report.specs.declared.corner.Corner.{Corner}
use Rattle.wire_report.specs.Report.{report_of}
use Rattle.proud_top.specs.declared.status.Refusal.{Refusal}
use Rattle.proud_top.specs.declared.status.Refusal.TheVariants.{TooLong, Text, Design, Net, Unanchored, NoRoom}
use Rattle.book_files.specs.declared.records.FileKind.TheVariants.{Schedule}
use Rattle.book_files.specs.Loading.{HasLongText}
use Rattle.proud_top.specs.Accepted.{Accepts, IsAccepted, IsFaultOf, IsTooLong, IsBadText, HasBadText}
use Rattle.proud_words.specs.Request.{SourceValue, of_design, of_grid}
use Rattle.proud_top.specs.Texts.{grid_texts}
use Rattle.proud_top.specs.Wishes.{AreWishes, AreCells, wish_in}
use Rattle.proud_top.specs.Flow.{PlacedValue, ◌then◌, reads_known, reads_design, reads, reads_events, schedules, joins, wires, reaches, solves, spaces, wishes, legalises, stands, writes, measures, reports, places_corners, places_levels, places_records, places_scheduled, places}
use Rattle.proud_top.proofs.Nodes.{node_there}
use Rattle.proud_top.proofs.OneTexts.{one_texts}
use Rattle.proud_top.proofs.Once.{OneAnswer, one_text, not_both, long_stops, bad_stops, next_once, stops_once, accepts_all, accepts_once, fault_once}

-- a step has one answer at most
abbrev pub HasOne : {B : Type 0} → (Result B Refusal → Type 0) → Type 0
HasOne {B = B} step = (a b : Result B Refusal) → step a → step b → a ≡ b

abbrev made : {B : Type 0} → B → Result B Refusal
made b = Ok b

abbrev stopped : {B : Type 0} → Refusal → Result B Refusal
stopped refusal = Err refusal

made_once : {B : Type 0} (a b : B) → made a ≡ made b → a ≡ b
made_once a b e = cc

apart : {B : Type 0} (a : B) (r : Refusal) → made a ≡ stopped r → ⊥
apart a r e = cc

stopped_same : {B : Type 0} (a b : Refusal) → stopped {B = B} a ≡ stopped {B = B} b → a ≡ b
stopped_same a b e = cc

stopped_once : {B C : Type 0} (a b : Refusal) → stopped {B = B} a ≡ stopped {B = B} b → stopped {B = C} a ≡ stopped {B = C} b
stopped_once {B = B} {C = C} a b e = ap (λ (r : Refusal). stopped {B = C} r) (stopped_same {B = B} a b e)

-- where the first step goes on with this, what follows is the next step's
pub through : {B C : Type 0} (first : Result B Refusal → Type 0) (next : B → Result C Refusal → Type 0) (m : B) (end : Result C Refusal)
    → HasOne first → first (Ok m) → (first then next) end → next m end
through {B = B} first next m (Ok t) one here h =
    let P : B → Type 0 = λ x. next x (Ok t) in
    subst P (made_once h.0 m (one (Ok h.0) (Ok m) h.1 here)) h.2
through first next m (Err r) one here (inl f) = absurd (apart m r (one (Ok m) (Err r) here f))
through {B = B} first next m (Err r) one here (inr (k, f, n)) =
    let P : B → Type 0 = λ x. next x (Err r) in
    subst P (made_once k m (one (Ok k) (Ok m) f here)) n

-- one step behind another has one answer where both have
pub one_then : {B C : Type 0} (first : Result B Refusal → Type 0) (next : B → Result C Refusal → Type 0)
    → HasOne first → ((m : B) → HasOne (next m)) → (a b : Result C Refusal) → (first then next) a → (first then next) b → a ≡ b
one_then first next one each (Ok t) b h k = each h.0 (Ok t) b h.2 (through first next h.0 b one h.1 k)
one_then first next one each (Err r) b (inr (m, f, n)) k = each m (Err r) b n (through first next m b one f k)
one_then first next one each (Err r) (Ok t) (inl f) k = absurd (apart k.0 r (one (Ok k.0) (Err r) k.1 f))
one_then {B = B} {C = C} first next one each (Err r) (Err q) (inl f) (inl g) = stopped_once {B = B} {C = C} r q (one (Err r) (Err q) f g)
one_then first next one each (Err r) (Err q) (inl f) (inr (m, g, n)) = absurd (apart m r (one (Ok m) (Err r) g f))

-- why the files aren't read, by its kind
data Unread (files : List FileEntry) (word : List ℕ) (refusal : Refusal) : Type 0 where
  long : (kind : FileKind) → refusal ≡ TooLong kind → IsTooLong files word kind → Unread files word refusal
  bad : (kind : FileKind) (fault : TextFault) → refusal ≡ Text kind fault → IsBadText files word kind fault → Unread files word refusal

open_unread : (files : List FileEntry) (word : List ℕ) (refusal : Refusal) → reads_known files word (Err refusal) → Unread files word refusal
open_unread files word (TooLong kind) h = long kind refl h
open_unread files word (Text kind fault) h = bad kind fault refl h
open_unread files word (Design fault) h = absurd h
open_unread files word (Net fault) h = absurd h
open_unread files word (Unanchored point) h = absurd h
open_unread files word (NoRoom cell sites largest) h = absurd h

-- a file that is too long has no first fault that is named
long_or_bad : OneAnswer → (files : List FileEntry) (word : List ℕ) (a b : FileKind) (fault : TextFault) → IsTooLong files word a → IsBadText files word b fault → ⊥
long_or_bad one files word a b fault h k =
    let kinds : a ≡ b = stops_once one files word a b (long_stops files word a h) (bad_stops files word b fault k) in
    let P : FileKind → Type 0 = λ kind. IsTooLong files word kind in
    let g : IsTooLong files word b = subst P kinds h in
    let names : g.name ≡ k.name = next_once one files word b g.name k.name g.nth k.nth g.next k.next in
    let T : List ℕ → Type 0 = λ name. content files name ≡ Some g.long.text in
    let same : g.long.text ≡ k.text = one_text _ _ (sym (subst T names g.long.there) ∙ k.there) in
    let L : List ℕ → Type 0 = λ text. MOST_BYTES < length text in
    clash MOST_BYTES (length k.text) (subst L same g.long.long) k.short where
      clash : (limit n : ℕ) → limit < n → n ≤ limit → ⊥
      clash limit n a b = omega arith

-- two faults of texts are one
one_bad : OneAnswer → (files : List FileEntry) (word : List ℕ) (a b : FileKind) (f g : TextFault) → IsBadText files word a f → IsBadText files word b g → Text a f ≡ Text b g
one_bad one files word a b f g h k =
    let kinds : a ≡ b = stops_once one files word a b (bad_stops files word a f h) (bad_stops files word b g k) in
    let P : FileKind → Type 0 = λ kind. IsBadText files word kind f in
    let m : IsBadText files word b f = subst P kinds h in
    let names : m.name ≡ k.name = next_once one files word b m.name k.name m.nth k.nth m.next k.next in
    let T : List ℕ → Type 0 = λ name. content files name ≡ Some m.text in
    let same : m.text ≡ k.text = one_text _ _ (sym (subst T names m.there) ∙ k.there) in
    let F : List ℕ → Type 0 = λ text. IsFaultOf b text f in
    let faults : f ≡ g = fault_once one b k.text f g (subst F same m.faulty) k.faulty in
    cc

one_unread : OneAnswer → (files : List FileEntry) (word : List ℕ) (a b : Refusal) → Unread files word a → Unread files word b → a ≡ b
one_unread one files word a b (long x e l) (long y d m) = e ∙ ap TooLong (stops_once one files word x y (long_stops files word x l) (long_stops files word y m)) ∙ sym d
one_unread one files word a b (bad x f e l) (bad y g d m) = e ∙ one_bad one files word x y f g l m ∙ sym d
one_unread one files word a b (long x e l) (bad y g d m) = absurd (long_or_bad one files word x y g l m)
one_unread one files word a b (bad x f e l) (long y d m) = absurd (long_or_bad one files word y x f m l)

read_or_unread : OneAnswer → (files : List FileEntry) (word : List ℕ) (names : AuxEntry) (records : Records) (refusal : Refusal) → Accepts files word names records → Unread files word refusal → ⊥
read_or_unread one files word names records refusal a (long kind e l) = accepts_all one files word names records kind a (long_stops files word kind l)
read_or_unread one files word names records refusal a (bad kind fault e b) = accepts_all one files word names records kind a (bad_stops files word kind fault b)

-- the sites and the wishes of the points are one list each
one_sites : (design : DesignValue) (a b : List ℕ) → AreSitesOf design a → AreSitesOf design b → a ≡ b
one_sites design a b h k = ext_get_or 0 a b (h.all ∙ sym k.all) (λ p inside.
    let node = node_there design.nodes p (omega (arith, inside, h.all)) in
    h.each p node.0 node.1 ∙ sym (k.each p node.0 node.1))

one_wish : (design : DesignValue) (level : Level) (a b : List Wish) → AreWishes design level a → AreWishes design level b → a ≡ b
one_wish design level a b h k = ext_get_or (wish_in [] 0) a b (h.all ∙ sym k.all) (λ p inside.
    let node = node_there design.nodes p (omega (arith, inside, h.all)) in
    h.each p node.0 node.1 ∙ sym (k.each p node.0 node.1))

one_cells : (design : DesignValue) (level : Level) (x y : CellsValue) → AreCells design level x → AreCells design level y → x ≡ y
one_cells design level x y h k =
    let P : List ℕ → Type 0 = λ sites. x ≡ record { sites = sites; wishes = x.wishes } in
    let Q : List Wish → Type 0 = λ wishes. x ≡ record { sites = y.sites; wishes = wishes } in
    subst Q (one_wish design level x.wishes y.wishes h.wishes k.wishes) (subst P (one_sites design x.sites y.sites h.sites k.sites) refl)

-- and two refusals for want of room are one
one_stuck : OneAnswer → (rows : SegmentsValue) (cells : CellsValue) (c d s t l m : ℕ) → HasNoRoom rows cells c s l → HasNoRoom rows cells d t m → NoRoom c s l ≡ NoRoom d t m
one_stuck one rows cells c d s t l m h k =
    let same = (one.greedy rows cells).one_end c d s t l m h k in
    ap (λ (x : ℕ). NoRoom x s l) same.0 ∙ ap (λ (x : ℕ). NoRoom d x l) same.1 ∙ ap (λ (x : ℕ). NoRoom d t x) same.2

-- one line a step
one_design : OneAnswer → (files : List FileEntry) (word : List ℕ) (a b : Result Records Refusal) → reads_design (Some files) word a → reads_design (Some files) word b → a ≡ b
one_design one files word (Ok x) (Ok y) h k = ap Ok (accepts_once one files word h.0 k.0 x y h.1 k.1)
one_design one files word (Ok x) (Err q) h k = absurd (read_or_unread one files word h.0 x q h.1 (open_unread files word q k))
one_design one files word (Err r) (Ok y) h k = absurd (read_or_unread one files word k.0 y r k.1 (open_unread files word r h))
one_design one files word (Err r) (Err q) h k = ap Err (one_unread one files word r q (open_unread files word r h) (open_unread files word q k))

pub one_reads : OneAnswer → (files : List FileEntry) (source : SourceValue) (a b : Result Records Refusal) → reads (Some files) source a → reads (Some files) source b → a ≡ b
one_reads one files (of_design word) a b h k = one_design one files word a b h k
one_reads one files (of_grid grid) a b h k = one_texts one (grid_texts grid) a b h k

-- why a schedule isn't read, by its kind
data UnreadEvents (files : List FileEntry) (name : List ℕ) (refusal : Refusal) : Type 0 where
  long : refusal ≡ TooLong Schedule → HasLongText files name → UnreadEvents files name refusal
  bad : (fault : TextFault) → refusal ≡ Text Schedule fault → HasBadText files name Schedule fault → UnreadEvents files name refusal

open_events : (files : List FileEntry) (name : List ℕ) (refusal : Refusal) → reads_events files name (Err refusal) → UnreadEvents files name refusal
open_events files name (TooLong kind) h = long (ap TooLong h.0) h.1
open_events files name (Text kind fault) h = bad fault (ap (λ (k : FileKind). Text k fault) h.0) h.1
open_events files name (Design fault) h = absurd h
open_events files name (Net fault) h = absurd h
open_events files name (Unanchored point) h = absurd h
open_events files name (NoRoom cell sites largest) h = absurd h

long_or_bad_events : (files : List FileEntry) (name : List ℕ) (fault : TextFault) → HasLongText files name → HasBadText files name Schedule fault → ⊥
long_or_bad_events files name fault h k =
    let same : h.text ≡ k.text = one_text _ _ (sym h.there ∙ k.there) in
    let L : List ℕ → Type 0 = λ text. MOST_BYTES < length text in
    clash MOST_BYTES (length k.text) (subst L same h.long) k.short where
      clash : (limit n : ℕ) → limit < n → n ≤ limit → ⊥
      clash limit n a b = omega arith

one_bad_events : OneAnswer → (files : List FileEntry) (name : List ℕ) (f g : TextFault) → HasBadText files name Schedule f → HasBadText files name Schedule g → f ≡ g
one_bad_events one files name f g h k =
    let same : h.text ≡ k.text = one_text _ _ (sym h.there ∙ k.there) in
    let F : List ℕ → Type 0 = λ text. IsFaultOf Schedule text f in
    fault_once one Schedule k.text f g (subst F same h.faulty) k.faulty

one_unread_events : OneAnswer → (files : List FileEntry) (name : List ℕ) (a b : Refusal) → UnreadEvents files name a → UnreadEvents files name b → a ≡ b
one_unread_events one files name a b (long e l) (long d m) = e ∙ sym d
one_unread_events one files name a b (bad f e l) (bad g d m) = e ∙ ap (λ (x : TextFault). Text Schedule x) (one_bad_events one files name f g l m) ∙ sym d
one_unread_events one files name a b (long e l) (bad g d m) = absurd (long_or_bad_events files name g l m)
one_unread_events one files name a b (bad f e l) (long d m) = absurd (long_or_bad_events files name f m l)

accepted_or_unread : OneAnswer → (files : List FileEntry) (name : List ℕ) (refusal : Refusal) → IsAccepted files name Schedule → UnreadEvents files name refusal → ⊥
accepted_or_unread one files name refusal h (long e l) =
    not_both one files name Schedule h (record { text = l.text; there = l.there; unclean = λ short. absurd (too_long MOST_BYTES (length l.text) l.long short) }) where
      too_long : (limit n : ℕ) → limit < n → n ≤ limit → ⊥
      too_long limit n a b = omega arith
accepted_or_unread one files name refusal h (bad fault e b) = not_both one files name Schedule h (record { text = b.text; there = b.there; unclean = λ short. (fault, b.faulty) })

-- a schedule is accepted, or refused in one way
one_events : OneAnswer → (files : List FileEntry) (name : List ℕ) (a b : Result (Unit {0}) Refusal) → reads_events files name a → reads_events files name b → a ≡ b
one_events one files name (Ok x) (Ok y) h k = refl
one_events one files name (Ok x) (Err q) h k = absurd (accepted_or_unread one files name q h (open_events files name q k))
one_events one files name (Err r) (Ok y) h k = absurd (accepted_or_unread one files name r k (open_events files name r h))
one_events one files name (Err r) (Err q) h k = ap Err (one_unread_events one files name r q (open_events files name r h) (open_events files name q k))

pub one_schedules : OneAnswer → (files : List FileEntry) (schedule : Option (List ℕ)) (a b : Result (Unit {0}) Refusal) → schedules (Some files) schedule a → schedules (Some files) schedule b → a ≡ b
one_schedules one files None (Ok x) (Ok y) h k = refl
one_schedules one files None (Ok x) (Err q) h k = absurd k
one_schedules one files None (Err r) b h k = absurd h
one_schedules one files (Some name) a b h k = one_events one files name a b h k

pub one_joins : OneAnswer → (records : Records) (a b : Result DesignValue Refusal) → joins records a → joins records b → a ≡ b
one_joins one records (Ok x) (Ok y) h k = ap Ok ((one.join records).one_design x y h k)
one_joins one records (Ok x) (Err q) h (g, d, k) = absurd ((one.join records).not_both x g h k)
one_joins one records (Err r) (Ok y) (f, e, h) k = absurd ((one.join records).not_both y f k h)
one_joins one records (Err r) (Err q) (f, e, h) (g, d, k) = ap Err (e ∙ ap Design ((one.join records).one_fault f g h k) ∙ sym d)

pub one_wires : OneAnswer → (design : DesignValue) (a b : Result NetworkValue Refusal) → wires design a → wires design b → a ≡ b
one_wires one design (Ok x) (Ok y) h k = ap Ok ((one.network design).one_network x y h k)
one_wires one design (Ok x) (Err q) h (g, d, k) = absurd ((one.network design).not_both x g h k)
one_wires one design (Err r) (Ok y) (f, e, h) k = absurd ((one.network design).not_both y f k h)
one_wires one design (Err r) (Err q) (f, e, h) (g, d, k) = ap Err (e ∙ ap Net ((one.network design).one_fault f g h k) ∙ sym d)

-- a web has one first point without a chain
one_unanchored : (web : List Joint) (p q : ℕ) → IsFirstUnanchored web p → IsFirstUnanchored web q → p ≡ q
one_unanchored web p q h k = by_order (cases_order p q) where
  by_order : (p ≡ q) ⊎ ((p < q) ⊎ (q < p)) → p ≡ q
  by_order (inl same) = same
  by_order (inr (inl before)) = absurd (h.none (k.before p before))
  by_order (inr (inr behind)) = absurd (k.none (h.before q behind))

pub one_reaches : (network : NetworkValue) (a b : Result (Unit {0}) Refusal) → reaches network a → reaches network b → a ≡ b
one_reaches network (Ok x) (Ok y) h k = refl
one_reaches network (Ok x) (Err q) h (g, d, k) = absurd (k.none (h g (rw length-map at k.there)))
one_reaches network (Err r) (Ok y) (f, e, h) k = absurd (h.none (k f (rw length-map at h.there)))
one_reaches network (Err r) (Err q) (f, e, h) (g, d, k) = ap Err (e ∙ ap Unanchored (one_unanchored (joints_of network) f g h k) ∙ sym d)

-- a network has one list of levels
pub one_solves : OneAnswer → (network : NetworkValue) (rounds : Rounds) (a b : Result (List Level) Refusal) → solves network rounds a → solves network rounds b → a ≡ b
one_solves one network rounds (Ok a) (Ok b) h k = ap Ok (one.levels network rounds a b h.levels_are k.levels_are)
one_solves one network rounds (Ok a) (Err q) h k = absurd k
one_solves one network rounds (Err r) b h k = absurd h

-- the rows of a design have one list of segments
pub one_spaces : (design : DesignValue) (a b : Result SegmentsValue Refusal) → spaces design a → spaces design b → a ≡ b
one_spaces design (Ok x) (Ok y) h k = ap Ok (h ∙ sym k)
one_spaces design (Ok x) (Err q) h k = absurd k
one_spaces design (Err r) b h k = absurd h

-- its cells wish one thing each
pub one_wishes : (design : DesignValue) (rounds : Rounds) (levels : List Level) (a b : Result CellsValue Refusal) → wishes design rounds levels a → wishes design rounds levels b → a ≡ b
one_wishes design rounds levels (Ok x) (Ok y) h k = ap Ok (one_cells design (level_at levels (last_round rounds)) x y h k)
one_wishes design rounds levels (Ok x) (Err q) h k = absurd k
one_wishes design rounds levels (Err r) b h k = absurd h

-- the greedy rule ends in one way
pub one_legalises : OneAnswer → (rows : SegmentsValue) (cells : CellsValue) (a b : Result (List Place) Refusal) → legalises rows cells a → legalises rows cells b → a ≡ b
one_legalises one rows cells (Ok x) (Ok y) h k = ap Ok ((one.greedy rows cells).one_list x y h k)
one_legalises one rows cells (Ok x) (Err q) h (c, s, l, e, k) = absurd ((one.greedy rows cells).not_both x c s l h k)
one_legalises one rows cells (Err r) (Ok y) (c, s, l, e, h) k = absurd ((one.greedy rows cells).not_both y c s l k h)
one_legalises one rows cells (Err r) (Err q) (c, s, l, e, h) (d, t, m, f, k) = ap Err (e ∙ one_stuck one rows cells c d s t l m h k ∙ sym f)

-- at these places there is one list of corners, one text of them and one wire length
pub one_stands : (design : DesignValue) (rows : SegmentsValue) (places : List Place) (a b : Result (List Corner) Refusal) → stands design rows places a → stands design rows places b → a ≡ b
one_stands design rows places (Ok x) (Ok y) h k = ap Ok (h ∙ sym k)
one_stands design rows places (Ok x) (Err q) h k = absurd k
one_stands design rows places (Err r) b h k = absurd h

pub one_writes : (design : DesignValue) (corners : List Corner) (a b : Result (List ℕ) Refusal) → writes design corners a → writes design corners b → a ≡ b
one_writes design corners (Ok x) (Ok y) h k = ap Ok (h ∙ sym k)
one_writes design corners (Ok x) (Err q) h k = absurd k
one_writes design corners (Err r) b h k = absurd h

pub one_measures : (design : DesignValue) (corners : List Corner) (a b : Result ℕ Refusal) → measures design corners a → measures design corners b → a ≡ b
one_measures design corners (Ok x) (Ok y) h k = ap Ok (h ∙ sym k)
one_measures design corners (Ok x) (Err q) h k = absurd k
one_measures design corners (Err r) b h k = absurd h

-- and levels have one gap
one_report : OneAnswer → (design : DesignValue) (rounds : Rounds) (levels : List Level) (wire : ℕ) (s t : List ℕ) (g k : ℕ) → IsGap levels g → s ≡ report_of design rounds.levels g wire → IsGap levels k → t ≡ report_of design rounds.levels k wire → s ≡ t
one_report one design rounds levels wire s t g k is s_is other t_is = s_is ∙ ap (λ (gap : ℕ). report_of design rounds.levels gap wire) (one.gap levels g k is other) ∙ sym t_is

both_texts : (a b : PlacedValue) → a.file ≡ b.file → a.report ≡ b.report → a ≡ b
both_texts a b e f =
    let P : List ℕ → Type 0 = λ file. a ≡ record { file = file; report = a.report } in
    let Q : List ℕ → Type 0 = λ report. a ≡ record { file = b.file; report = report } in
    subst Q f (subst P e refl)

pub one_reports : OneAnswer → (design : DesignValue) (rounds : Rounds) (levels : List Level) (file : List ℕ) (wire : ℕ) (a b : Result PlacedValue Refusal) → reports design rounds levels file wire a → reports design rounds levels file wire b → a ≡ b
one_reports one design rounds levels file wire (Ok s) (Ok t) (g, is, e, s_is) (k, other, f, t_is) = ap Ok (both_texts s t (e ∙ sym f) (one_report one design rounds levels wire s.report t.report g k is s_is other t_is))
one_reports one design rounds levels file wire (Ok s) (Err q) h k = absurd k
one_reports one design rounds levels file wire (Err r) b h k = absurd h

abbrev from_file : Rounds → DesignValue → List Level → List Corner → List ℕ → Result PlacedValue Refusal → Type 0
from_file rounds design levels corners file = measures design corners then λ wire. reports design rounds levels file wire

abbrev from_corners : Rounds → DesignValue → List Level → List Corner → Result PlacedValue Refusal → Type 0
from_corners rounds design levels corners = writes design corners then λ file. measures design corners then λ wire. reports design rounds levels file wire

abbrev from_cells : Rounds → DesignValue → List Level → SegmentsValue → CellsValue → Result PlacedValue Refusal → Type 0
from_cells rounds design levels rows cells = legalises rows cells then λ places. places_corners rounds design levels rows places

abbrev from_spaces : Rounds → DesignValue → List Level → SegmentsValue → Result PlacedValue Refusal → Type 0
from_spaces rounds design levels rows = wishes design rounds levels then λ cells. legalises rows cells then λ places. places_corners rounds design levels rows places

abbrev from_reaches : Rounds → DesignValue → NetworkValue → Result PlacedValue Refusal → Type 0
from_reaches rounds design network = solves network rounds then λ levels. places_levels rounds design levels

abbrev from_network : Rounds → DesignValue → NetworkValue → Result PlacedValue Refusal → Type 0
from_network rounds design network = reaches network then λ done. solves network rounds then λ levels. places_levels rounds design levels

abbrev from_design : Rounds → DesignValue → Result PlacedValue Refusal → Type 0
from_design rounds design = wires design then λ network. reaches network then λ done. solves network rounds then λ levels. places_levels rounds design levels

abbrev from_scheduled : Rounds → Records → Unit {0} → Result PlacedValue Refusal → Type 0
from_scheduled rounds records done = places_records rounds records

pub one_end : OneAnswer → (files : List FileEntry) (source : SourceValue) (schedule : Option (List ℕ)) (rounds : Rounds) (a b : Result PlacedValue Refusal) → places (Some files) source schedule rounds a
    → places (Some files) source schedule rounds b → a ≡ b
one_end one files source schedule rounds =
    one_then (reads (Some files) source) (places_scheduled (Some files) schedule rounds) (one_reads one files source) (λ records.
    one_then (schedules (Some files) schedule) (from_scheduled rounds records) (one_schedules one files schedule) (λ done.
    one_then (joins records) (from_design rounds) (one_joins one records) (λ design.
    one_then (wires design) (from_network rounds design) (one_wires one design) (λ network.
    one_then (reaches network) (λ done. from_reaches rounds design network) (one_reaches network) (λ done.
    one_then (solves network rounds) (places_levels rounds design) (one_solves one network rounds) (λ levels.
    one_then (spaces design) (from_spaces rounds design levels) (one_spaces design) (λ rows.
    one_then (wishes design rounds levels) (from_cells rounds design levels rows) (one_wishes design rounds levels) (λ cells.
    one_then (legalises rows cells) (places_corners rounds design levels rows) (one_legalises one rows cells) (λ sites.
    one_then (stands design rows sites) (from_corners rounds design levels) (one_stands design rows sites) (λ corners.
    one_then (writes design corners) (from_file rounds design levels corners) (one_writes design corners) (λ file.
    one_then (measures design corners) (reports design rounds levels file) (one_measures design corners) (one_reports one design rounds levels file))))))))))))

-- nothing is refused behind the places
pub never_behind : (rounds : Rounds) (design : DesignValue) (levels : List Level) (rows : SegmentsValue) (sites : List Place) (refusal : Refusal) → places_corners rounds design levels rows sites (Err refusal) → ⊥
never_behind rounds design levels rows sites refusal (inl none) = none
never_behind rounds design levels rows sites refusal (inr (corners, stand, inl none)) = none
never_behind rounds design levels rows sites refusal (inr (corners, stand, inr (file, is, inl none))) = none
never_behind rounds design levels rows sites refusal (inr (corners, stand, inr (file, is, inr (wire, measured, none)))) = none

-- where the greedy rule finds room for each cell, nothing behind the levels is refused
never_stuck : OneAnswer → (rounds : Rounds) (design : DesignValue) (levels : List Level) (refusal : Refusal)
    → ((cells : CellsValue) → AreCells design (level_at levels (last_round rounds)) cells → (sites : List Place) × IsLegalised (segments_of design) cells sites)
    → places_levels rounds design levels (Err refusal) → ⊥
never_stuck one rounds design levels refusal room flow =
    by_wishes (through (spaces design) (from_spaces rounds design levels) (segments_of design) (Err refusal) (one_spaces design) refl flow) where
      by_room : (cells : CellsValue) → AreCells design (level_at levels (last_round rounds)) cells → from_cells rounds design levels (segments_of design) cells (Err refusal) → ⊥
      by_room cells are (inl (c, s, l, e, stuck)) = let placed = room cells are in (one.greedy (segments_of design) cells).not_both placed.0 c s l placed.1 stuck
      by_room cells are (inr (sites, is, rest)) = never_behind rounds design levels (segments_of design) sites refusal rest

      by_wishes : from_spaces rounds design levels (segments_of design) (Err refusal) → ⊥
      by_wishes (inl none) = none
      by_wishes (inr (cells, are, rest)) = by_room cells are rest

-- what is placed is refused for nothing
pub never_refused : OneAnswer → (files : List FileEntry) (source : SourceValue) (schedule : Option (List ℕ)) (rounds : Rounds) (records : Records) (design : DesignValue) (network : NetworkValue) (refusal : Refusal)
    → reads (Some files) source (Ok records) → schedules (Some files) schedule (Ok tt) → joins records (Ok design) → wires design (Ok network) → ((p : ℕ) → p < length network.points → HasChain (joints_of network) p)
    → ((levels : List Level) (cells : CellsValue) → IsLevels network rounds levels → AreCells design (level_at levels (last_round rounds)) cells → (sites : List Place) × IsLegalised (segments_of design) cells sites)
    → places (Some files) source schedule rounds (Err refusal) → ⊥
never_refused one files source schedule rounds records design network refusal accepted scheduled joined wired chains room flow =
    let behind_files = through (reads (Some files) source) (places_scheduled (Some files) schedule rounds) records (Err refusal) (one_reads one files source) accepted flow in
    let behind_schedule = through (schedules (Some files) schedule) (from_scheduled rounds records) tt (Err refusal) (one_schedules one files schedule) scheduled behind_files in
    let behind_join = through (joins records) (from_design rounds) design (Err refusal) (one_joins one records) joined behind_schedule in
    let behind_wires = through (wires design) (from_network rounds design) network (Err refusal) (one_wires one design) wired behind_join in
    none (through (reaches network) (λ done. from_reaches rounds design network) tt (Err refusal) (one_reaches network) chains behind_wires) where
      none : from_reaches rounds design network (Err refusal) → ⊥
      none (inl h) = h
      none (inr (levels, is, rest)) = never_stuck one rounds design levels refusal (λ cells are. room levels cells is.levels_are are) rest
