-- A text of each kind has one answer, so that the files of a folder hold one story: which are accepted, and which is the first that isn't.
use Rattle.std.proofs.Common.{◌≡◌, ◌⊎◌, ◌<◌, ◌≤◌, ℕ, suc, zero, List, length, refl, sym, ◌∙◌, ap, subst, inl, inr, lit<, arith}
use Rattle.std.specs.Prelude.{Option, Some, None, option_map}
use Rattle.std.proofs.lemmas.Bool.{cases_order}
use Rattle.book_outer.specs.Files.{FileEntry, content}
use Rattle.book_files.specs.declared.records.FileKind.{FileKind}
use Rattle.book_files.specs.declared.records.FileKind.TheVariants.{Aux, Nodes, Nets, Wts, Pl, Scl, Schedule}
use Rattle.book_files.specs.declared.fault.TextFault.{TextFault}
use Rattle.book_files.specs.Entries.{AuxEntry, NodeEntry, NetEntry, WeightEntry, PlaceEntry, RowEntry}
use Rattle.book_files.specs.Grammar.{Grammar, IsReading, HasOneAnswer}
use Rattle.book_files.specs.AuxRules.{aux_grammar}
use Rattle.book_files.specs.NodeRules.{nodes_grammar}
use Rattle.book_files.specs.NetRules.{nets_grammar}
use Rattle.book_files.specs.WeightRules.{weights_grammar}
use Rattle.book_files.specs.PlaceRules.{places_grammar}
use Rattle.book_files.specs.RowRules.{rows_grammar}
use Rattle.book_files.specs.ScheduleRules.{schedule_grammar}
use Rattle.book_files.specs.declared.loading.TheConstants.{MOST_BYTES}
use Rattle.book_design.specs.Records.{Records}
use Rattle.book_design.specs.Values.{DesignValue}
use Rattle.book_design.specs.Answers.{HasOneJoin}
use Rattle.net_model.specs.Values.{NetworkValue}
use Rattle.net_model.specs.Answers.{HasOneNetwork}
use Rattle.level_run.specs.declared.rounds.Rounds.{Rounds}
use Rattle.level_run.specs.declared.level.Level.{Level}
use Rattle.level_run.specs.Levels.{IsLevels, IsGap}
use Rattle.row_space.specs.Values.{SegmentsValue}
use Rattle.row_legal.specs.Cells.{CellsValue}
use Rattle.row_legal.specs.OneAnswer.{HasOneAnswerAtMost}
use Rattle.proud_top.specs.Beside.{beside}
use Rattle.proud_top.specs.Order.{rank, name_of}
use Rattle.proud_top.specs.Accepted.{Reads, ReadsWeights, Accepts, IsReadable, IsAccepted, IsNextFile, IsFaultOf, IsTooLong, IsBadText}

-- what the laws of the readers, of the join, of the network, of the levels and of the greedy rule say
pub record OneAnswer : Type 0 where
  pub aux : (text : List ℕ) → HasOneAnswer aux_grammar text
  pub nodes : (text : List ℕ) → HasOneAnswer nodes_grammar text
  pub nets : (text : List ℕ) → HasOneAnswer nets_grammar text
  pub wts : (text : List ℕ) → HasOneAnswer weights_grammar text
  pub pl : (text : List ℕ) → HasOneAnswer places_grammar text
  pub scl : (text : List ℕ) → HasOneAnswer rows_grammar text
  pub schedule : (text : List ℕ) → HasOneAnswer schedule_grammar text
  pub join : (files : Records) → HasOneJoin files
  pub network : (design : DesignValue) → HasOneNetwork design
  pub levels : (network : NetworkValue) (rounds : Rounds) (a b : List Level) → IsLevels network rounds a → IsLevels network rounds b → a ≡ b
  pub gap : (levels : List Level) (a b : ℕ) → IsGap levels a → IsGap levels b → a ≡ b
  pub greedy : (rows : SegmentsValue) (cells : CellsValue) → HasOneAnswerAtMost rows cells

pub one_text : (a b : List ℕ) → Some a ≡ Some b → a ≡ b
one_text a b e = cc

-- a file reads as one list of records
pub same_records : {I R : Type 0} (grammar : Grammar I R) → ((text : List ℕ) → HasOneAnswer grammar text)
    → (files : List FileEntry) (name : List ℕ) (a b : R) → Reads files name grammar a → Reads files name grammar b → a ≡ b
same_records grammar one files name a b h k =
    let same : h.text ≡ k.text = one_text _ _ (sym h.there ∙ k.there) in
    let P : List ℕ → Type 0 = λ text. IsReading grammar text a in
    (one k.text).one_reading a b (subst P same h.reading) k.reading

-- a text that reads as records has no fault
pub clean_text : OneAnswer → (kind : FileKind) (text : List ℕ) → IsReadable kind text → (fault : TextFault) → IsFaultOf kind text fault → ⊥
clean_text one Aux text read fault bad = (one.aux text).not_both read.0 fault read.1 bad
clean_text one Nodes text read fault bad = (one.nodes text).not_both read.0 fault read.1 bad
clean_text one Nets text read fault bad = (one.nets text).not_both read.0 fault read.1 bad
clean_text one Wts text read fault bad = (one.wts text).not_both read.0 fault read.1 bad
clean_text one Pl text read fault bad = (one.pl text).not_both read.0 fault read.1 bad
clean_text one Scl text read fault bad = (one.scl text).not_both read.0 fault read.1 bad
clean_text one Schedule text read fault bad = (one.schedule text).not_both read.0 fault read.1 bad

-- the file is too long or has a fault
pub record IsUnclean (files : List FileEntry) (name : List ℕ) (kind : FileKind) : Type 0 where
  pub text : List ℕ
  pub there : content files name ≡ Some text
  pub unclean : length text ≤ MOST_BYTES → (fault : TextFault) × IsFaultOf kind text fault

pub not_both : OneAnswer → (files : List FileEntry) (name : List ℕ) (kind : FileKind) → IsAccepted files name kind → IsUnclean files name kind → ⊥
not_both one files name kind h k =
    let same : h.text ≡ k.text = one_text _ _ (sym h.there ∙ k.there) in
    let S : List ℕ → Type 0 = λ text. length text ≤ MOST_BYTES in
    let R : List ℕ → Type 0 = λ text. IsReadable kind text in
    let found = k.unclean (subst S same h.short) in
    clean_text one kind k.text (subst R same h.readable) found.0 found.1

weights_accepted : (files : List FileEntry) (word name : List ℕ) (wts : Option (List ℕ)) (weights : Option (List WeightEntry))
    → ReadsWeights files word wts weights → option_map (beside word) wts ≡ Some name → IsAccepted files name Wts
weights_accepted files word name None weights h e = absurd (let x : ⊥ = cc in x)
weights_accepted files word name (Some given) None h e = absurd h
weights_accepted files word name (Some given) (Some weights) h e =
    let same : beside word given ≡ name = one_text _ _ e in
    let P : List ℕ → Type 0 = λ n. IsAccepted files n Wts in
    subst P same (record { text = h.text; there = h.there; short = h.short; readable = (weights, h.reading) })

-- where all files are accepted, each is
accepted_one : (files : List FileEntry) (word : List ℕ) (names : AuxEntry) (records : Records) (kind : FileKind) (name : List ℕ)
    → Accepts files word names records → name_of word names kind ≡ Some name → IsAccepted files name kind
accepted_one files word names records Aux name a e =
    let h = a.aux in
    let P : List ℕ → Type 0 = λ n. IsAccepted files n Aux in
    subst P (one_text _ _ e) (record { text = h.text; there = h.there; short = h.short; readable = (names, h.reading) })
accepted_one files word names records Nodes name a e =
    let h = a.nodes in
    let P : List ℕ → Type 0 = λ n. IsAccepted files n Nodes in
    subst P (one_text _ _ e) (record { text = h.text; there = h.there; short = h.short; readable = (records.nodes, h.reading) })
accepted_one files word names records Nets name a e =
    let h = a.nets in
    let P : List ℕ → Type 0 = λ n. IsAccepted files n Nets in
    subst P (one_text _ _ e) (record { text = h.text; there = h.there; short = h.short; readable = (records.nets, h.reading) })
accepted_one files word names records Wts name a e = weights_accepted files word name names.wts records.weights a.weights e
accepted_one files word names records Pl name a e =
    let h = a.pl in
    let P : List ℕ → Type 0 = λ n. IsAccepted files n Pl in
    subst P (one_text _ _ e) (record { text = h.text; there = h.there; short = h.short; readable = (records.places, h.reading) })
accepted_one files word names records Scl name a e =
    let h = a.scl in
    let P : List ℕ → Type 0 = λ n. IsAccepted files n Scl in
    subst P (one_text _ _ e) (record { text = h.text; there = h.there; short = h.short; readable = (records.rows, h.reading) })
accepted_one files word names records Schedule name a e = absurd (let x : ⊥ = cc in x)

-- the name of a file that is next, by any reading of the aux file
behind_aux : OneAnswer → (files : List FileEntry) (word : List ℕ) (kind : FileKind) (names : AuxEntry) (name : List ℕ) (nth : ℕ)
    → 0 < rank kind → IsNextFile files word kind name nth → Reads files word aux_grammar names → name_of word names kind ≡ Some name
behind_aux one files word kind names name nth later h aux =
    let same : h.names ≡ names = same_records aux_grammar one.aux files word h.names names (h.aux later) aux in
    let P : AuxEntry → Type 0 = λ n. name_of word n kind ≡ Some name in
    subst P same h.named

same_name : OneAnswer → (files : List FileEntry) (word : List ℕ) (kind : FileKind) (names : AuxEntry) (name : List ℕ) (nth : ℕ)
    → IsNextFile files word kind name nth → Reads files word aux_grammar names → name_of word names kind ≡ Some name
same_name one files word Aux names name nth h aux = h.named
same_name one files word Nodes names name nth h aux = behind_aux one files word Nodes names name nth (lit< tt) h aux
same_name one files word Nets names name nth h aux = behind_aux one files word Nets names name nth (lit< tt) h aux
same_name one files word Wts names name nth h aux = behind_aux one files word Wts names name nth (lit< tt) h aux
same_name one files word Pl names name nth h aux = behind_aux one files word Pl names name nth (lit< tt) h aux
same_name one files word Scl names name nth h aux = behind_aux one files word Scl names name nth (lit< tt) h aux
same_name one files word Schedule names name nth h aux = behind_aux one files word Schedule names name nth (lit< tt) h aux

-- two files of one kind that are next have one name
behind_once : OneAnswer → (files : List FileEntry) (word : List ℕ) (kind : FileKind) (a b : List ℕ) (p q : ℕ)
    → 0 < rank kind → IsNextFile files word kind a p → IsNextFile files word kind b q → a ≡ b
behind_once one files word kind a b p q later h k =
    one_text a b (sym (behind_aux one files word kind k.names a p later h (k.aux later)) ∙ k.named)

pub next_once : OneAnswer → (files : List FileEntry) (word : List ℕ) (kind : FileKind) (a b : List ℕ) (p q : ℕ)
    → IsNextFile files word kind a p → IsNextFile files word kind b q → a ≡ b
next_once one files word Aux a b p q h k = one_text a b (sym h.named ∙ k.named)
next_once one files word Nodes a b p q h k = behind_once one files word Nodes a b p q (lit< tt) h k
next_once one files word Nets a b p q h k = behind_once one files word Nets a b p q (lit< tt) h k
next_once one files word Wts a b p q h k = behind_once one files word Wts a b p q (lit< tt) h k
next_once one files word Pl a b p q h k = behind_once one files word Pl a b p q (lit< tt) h k
next_once one files word Scl a b p q h k = behind_once one files word Scl a b p q (lit< tt) h k
next_once one files word Schedule a b p q h k = behind_once one files word Schedule a b p q (lit< tt) h k

-- the file of the kind is the first that isn't accepted
pub record StopsAt (files : List FileEntry) (word : List ℕ) (kind : FileKind) : Type 0 where
  pub name : List ℕ
  pub nth : ℕ
  pub next : IsNextFile files word kind name nth
  pub unclean : IsUnclean files name kind

pub long_stops : (files : List FileEntry) (word : List ℕ) (kind : FileKind) → IsTooLong files word kind → StopsAt files word kind
long_stops files word kind h = record {
  name = h.name;
  nth = h.nth;
  next = h.next;
  unclean = record { text = h.long.text; there = h.long.there; unclean = λ short. absurd (too_long MOST_BYTES (length h.long.text) h.long.long short) };
} where
  too_long : (limit n : ℕ) → limit < n → n ≤ limit → ⊥
  too_long limit n a b = omega arith

pub bad_stops : (files : List FileEntry) (word : List ℕ) (kind : FileKind) (fault : TextFault) → IsBadText files word kind fault → StopsAt files word kind
bad_stops files word kind fault h = record {
  name = h.name;
  nth = h.nth;
  next = h.next;
  unclean = record { text = h.text; there = h.there; unclean = λ short. (fault, h.faulty) };
}

-- a file that isn't accepted is none that stands before one that is next
earlier : OneAnswer → (files : List FileEntry) (word : List ℕ) (a b : FileKind) → StopsAt files word a → StopsAt files word b → rank a < rank b → ⊥
earlier one files word a b h k before =
    let first : 0 < rank b = omega arith in
    let named = same_name one files word a k.next.names h.name h.nth h.next (k.next.aux first) in
    not_both one files h.name a (k.next.accepted a h.name before named) h.unclean

kind_of : ℕ → FileKind
kind_of zero = Aux
kind_of (suc zero) = Nodes
kind_of (suc (suc zero)) = Nets
kind_of (suc (suc (suc zero))) = Wts
kind_of (suc (suc (suc (suc zero)))) = Pl
kind_of (suc (suc (suc (suc (suc zero))))) = Scl
kind_of (suc (suc (suc (suc (suc (suc n)))))) = Schedule

kind_of_rank : (kind : FileKind) → kind_of (rank kind) ≡ kind
unfolding kind_of
kind_of_rank Aux = refl
kind_of_rank Nodes = refl
kind_of_rank Nets = refl
kind_of_rank Wts = refl
kind_of_rank Pl = refl
kind_of_rank Scl = refl
kind_of_rank Schedule = refl

pub rank_once : (a b : FileKind) → rank a ≡ rank b → a ≡ b
rank_once a b same = sym (kind_of_rank a) ∙ ap kind_of same ∙ kind_of_rank b

-- one file at most is the first that isn't accepted
pub stops_once : OneAnswer → (files : List FileEntry) (word : List ℕ) (a b : FileKind) → StopsAt files word a → StopsAt files word b → a ≡ b
stops_once one files word a b h k = by_order (cases_order (rank a) (rank b)) where
  by_order : (rank a ≡ rank b) ⊎ ((rank a < rank b) ⊎ (rank b < rank a)) → a ≡ b
  by_order (inl same) = rank_once a b same
  by_order (inr (inl before)) = absurd (earlier one files word a b h k before)
  by_order (inr (inr behind)) = absurd (earlier one files word b a k h behind)

-- where all files are accepted none is the first that isn't
pub accepts_all : OneAnswer → (files : List FileEntry) (word : List ℕ) (names : AuxEntry) (records : Records) (kind : FileKind) → Accepts files word names records → StopsAt files word kind → ⊥
accepts_all one files word names records kind h k =
    let named = same_name one files word kind names k.name k.nth k.next h.aux in
    not_both one files k.name kind (accepted_one files word names records kind k.name h named) k.unclean

weights_once : OneAnswer → (files : List FileEntry) (word : List ℕ) (wts : Option (List ℕ)) (a b : Option (List WeightEntry)) → ReadsWeights files word wts a → ReadsWeights files word wts b → a ≡ b
weights_once one files word None None None h k = refl
weights_once one files word None None (Some b) h k = absurd k
weights_once one files word None (Some a) b h k = absurd h
weights_once one files word (Some name) None b h k = absurd h
weights_once one files word (Some name) (Some a) None h k = absurd k
weights_once one files word (Some name) (Some a) (Some b) h k = ap Some (same_records weights_grammar one.wts files (beside word name) a b h k)

-- records that are equal one by one are equal together
pub same_files : (x y : Records) → x.nodes ≡ y.nodes → x.nets ≡ y.nets → x.weights ≡ y.weights → x.places ≡ y.places → x.rows ≡ y.rows → x ≡ y
same_files x y n t w p r =
    let A : List NodeEntry → Type 0 = λ v. x ≡ record { nodes = v; nets = x.nets; weights = x.weights; places = x.places; rows = x.rows } in
    let B : List NetEntry → Type 0 = λ v. x ≡ record { nodes = y.nodes; nets = v; weights = x.weights; places = x.places; rows = x.rows } in
    let C : Option (List WeightEntry) → Type 0 = λ v. x ≡ record { nodes = y.nodes; nets = y.nets; weights = v; places = x.places; rows = x.rows } in
    let D : List PlaceEntry → Type 0 = λ v. x ≡ record { nodes = y.nodes; nets = y.nets; weights = y.weights; places = v; rows = x.rows } in
    let E : List RowEntry → Type 0 = λ v. x ≡ record { nodes = y.nodes; nets = y.nets; weights = y.weights; places = y.places; rows = v } in
    subst E r (subst D p (subst C w (subst B t (subst A n refl))))

-- accepted files hold one list of records each
pub accepts_once : OneAnswer → (files : List FileEntry) (word : List ℕ) (a b : AuxEntry) (x y : Records) → Accepts files word a x → Accepts files word b y → x ≡ y
accepts_once one files word a b x y h k =
    let same : a ≡ b = same_records aux_grammar one.aux files word a b h.aux k.aux in
    let P : AuxEntry → Type 0 = λ n. Accepts files word n x in
    let g = subst P same h in
    same_files x y
    (same_records nodes_grammar one.nodes files (beside word b.nodes) x.nodes y.nodes g.nodes k.nodes)
    (same_records nets_grammar one.nets files (beside word b.nets) x.nets y.nets g.nets k.nets)
    (weights_once one files word b.wts x.weights y.weights g.weights k.weights)
    (same_records places_grammar one.pl files (beside word b.pl) x.places y.places g.pl k.pl)
    (same_records rows_grammar one.scl files (beside word b.scl) x.rows y.rows g.scl k.scl)

-- a text of a kind has one first fault
pub fault_once : OneAnswer → (kind : FileKind) (text : List ℕ) (a b : TextFault) → IsFaultOf kind text a → IsFaultOf kind text b → a ≡ b
fault_once one Aux text a b h k = (one.aux text).one_fault a b h k
fault_once one Nodes text a b h k = (one.nodes text).one_fault a b h k
fault_once one Nets text a b h k = (one.nets text).one_fault a b h k
fault_once one Wts text a b h k = (one.wts text).one_fault a b h k
fault_once one Pl text a b h k = (one.pl text).one_fault a b h k
fault_once one Scl text a b h k = (one.scl text).one_fault a b h k
fault_once one Schedule text a b h k = (one.schedule text).one_fault a b h k
