-- Texts have one answer: the records as which they read, or the first of them that has a fault.
use Rattle.std.proofs.Common.{◌≡◌, ◌⊎◌, ◌<◌, ◌≤◌, ℕ, List, length, refl, sym, ◌∙◌, ap, subst, inl, inr, arith}
use Rattle.std.specs.Prelude.{Option, Some, None, Result, Ok, Err}
use Rattle.std.proofs.lemmas.Bool.{cases_order}
use Rattle.book_files.specs.declared.records.FileKind.{FileKind}
use Rattle.book_files.specs.declared.records.FileKind.TheVariants.{Aux, Nodes, Nets, Wts, Pl, Scl, Schedule}
use Rattle.book_files.specs.declared.fault.TextFault.{TextFault}
use Rattle.book_files.specs.Entries.{WeightEntry}
use Rattle.book_files.specs.declared.loading.TheConstants.{MOST_BYTES}
use Rattle.book_design.specs.Records.{Records}
use Rattle.proud_top.specs.declared.status.Refusal.{Refusal}
use Rattle.proud_top.specs.declared.status.Refusal.TheVariants.{TooLong, Text, Design, Net, Unanchored, NoRoom}
use Rattle.proud_top.specs.Order.{rank}
use Rattle.proud_top.specs.Accepted.{IsReadable, IsFaultOf}
use Rattle.proud_top.specs.Texts.{Texts, text_of, AreWeights, AreRecords, AreShort, AreGoodBelow, IsFirstLong, IsFirstBad}
use Rattle.proud_top.specs.Flow.{reads_texts}
use Rattle.proud_top.proofs.Once.{OneAnswer, one_text, clean_text, rank_once, fault_once, same_files}

readable_weights : (wts : Option (List ℕ)) (weights : Option (List WeightEntry)) (text : List ℕ) → AreWeights wts weights → wts ≡ Some text → IsReadable Wts text
readable_weights None weights text h e = absurd (let x : ⊥ = cc in x)
readable_weights (Some given) None text h e = absurd h
readable_weights (Some given) (Some weights) text h e =
    let P : List ℕ → Type 0 = λ t. IsReadable Wts t in
    subst P (one_text _ _ e) (weights, h)

-- where texts read as records, each does
readable_text : (texts : Texts) (records : Records) (kind : FileKind) (text : List ℕ) → AreRecords texts records → text_of texts kind ≡ Some text → IsReadable kind text
readable_text texts records Aux text h e = absurd (let x : ⊥ = cc in x)
readable_text texts records Nodes text h e =
    let P : List ℕ → Type 0 = λ t. IsReadable Nodes t in
    subst P (one_text _ _ e) (records.nodes, h.nodes)
readable_text texts records Nets text h e =
    let P : List ℕ → Type 0 = λ t. IsReadable Nets t in
    subst P (one_text _ _ e) (records.nets, h.nets)
readable_text texts records Wts text h e = readable_weights texts.wts records.weights text h.weights e
readable_text texts records Pl text h e =
    let P : List ℕ → Type 0 = λ t. IsReadable Pl t in
    subst P (one_text _ _ e) (records.places, h.places)
readable_text texts records Scl text h e =
    let P : List ℕ → Type 0 = λ t. IsReadable Scl t in
    subst P (one_text _ _ e) (records.rows, h.rows)
readable_text texts records Schedule text h e = absurd (let x : ⊥ = cc in x)

-- the text of the kind is the first that isn't accepted
record StopsAt (texts : Texts) (kind : FileKind) : Type 0 where
  pub text : List ℕ
  pub there : text_of texts kind ≡ Some text
  pub before : AreGoodBelow texts (rank kind)
  pub unclean : length text ≤ MOST_BYTES → (fault : TextFault) × IsFaultOf kind text fault

too_long : (limit n : ℕ) → limit < n → n ≤ limit → ⊥
too_long limit n a b = omega arith

long_stops : (texts : Texts) (kind : FileKind) → IsFirstLong texts kind → StopsAt texts kind
long_stops texts kind h = record { text = h.text; there = h.there; before = h.before; unclean = λ short. absurd (too_long MOST_BYTES (length h.text) h.long short) }

bad_stops : (texts : Texts) (kind : FileKind) (fault : TextFault) → IsFirstBad texts kind fault → StopsAt texts kind
bad_stops texts kind fault h = record { text = h.text; there = h.there; before = h.before; unclean = λ short. (fault, h.faulty) }

-- it is none that stands before another such one
earlier : OneAnswer → (texts : Texts) (a b : FileKind) → StopsAt texts a → StopsAt texts b → rank a < rank b → ⊥
earlier one texts a b h k less =
    let good = k.before a h.text less h.there in
    let found = h.unclean good.short in
    clean_text one a h.text good.readable found.0 found.1

stops_once : OneAnswer → (texts : Texts) (a b : FileKind) → StopsAt texts a → StopsAt texts b → a ≡ b
stops_once one texts a b h k = by_order (cases_order (rank a) (rank b)) where
  by_order : (rank a ≡ rank b) ⊎ ((rank a < rank b) ⊎ (rank b < rank a)) → a ≡ b
  by_order (inl same) = rank_once a b same
  by_order (inr (inl before)) = absurd (earlier one texts a b h k before)
  by_order (inr (inr behind)) = absurd (earlier one texts b a k h behind)

-- nor is there one where texts read as records and aren't too long
none_stops : OneAnswer → (texts : Texts) (records : Records) (kind : FileKind) → AreShort texts → AreRecords texts records → StopsAt texts kind → ⊥
none_stops one texts records kind short h k =
    let found = k.unclean (short kind k.text k.there) in
    clean_text one kind k.text (readable_text texts records kind k.text h k.there) found.0 found.1

-- why texts aren't read
data Unread (texts : Texts) (refusal : Refusal) : Type 0 where
  long : (kind : FileKind) → refusal ≡ TooLong kind → IsFirstLong texts kind → Unread texts refusal
  bad : (kind : FileKind) (fault : TextFault) → refusal ≡ Text kind fault → IsFirstBad texts kind fault → Unread texts refusal

open_unread : (texts : Texts) (refusal : Refusal) → reads_texts texts (Err refusal) → Unread texts refusal
open_unread texts (TooLong kind) h = long kind refl h
open_unread texts (Text kind fault) h = bad kind fault refl h
open_unread texts (Design fault) h = absurd h
open_unread texts (Net fault) h = absurd h
open_unread texts (Unanchored point) h = absurd h
open_unread texts (NoRoom cell sites largest) h = absurd h

read_or_unread : OneAnswer → (texts : Texts) (records : Records) (refusal : Refusal) → AreShort texts → AreRecords texts records → Unread texts refusal → ⊥
read_or_unread one texts records refusal short h (long kind e l) = none_stops one texts records kind short h (long_stops texts kind l)
read_or_unread one texts records refusal short h (bad kind fault e b) = none_stops one texts records kind short h (bad_stops texts kind fault b)

one_bad : OneAnswer → (texts : Texts) (a b : FileKind) (f g : TextFault) → IsFirstBad texts a f → IsFirstBad texts b g → Text a f ≡ Text b g
one_bad one texts a b f g h k =
    let kinds : a ≡ b = stops_once one texts a b (bad_stops texts a f h) (bad_stops texts b g k) in
    let P : FileKind → Type 0 = λ kind. IsFirstBad texts kind f in
    let m : IsFirstBad texts b f = subst P kinds h in
    let same : m.text ≡ k.text = one_text _ _ (sym m.there ∙ k.there) in
    let F : List ℕ → Type 0 = λ text. IsFaultOf b text f in
    let faults : f ≡ g = fault_once one b k.text f g (subst F same m.faulty) k.faulty in
    cc

long_or_bad : OneAnswer → (texts : Texts) (a b : FileKind) (fault : TextFault) → IsFirstLong texts a → IsFirstBad texts b fault → ⊥
long_or_bad one texts a b fault h k =
    let kinds : a ≡ b = stops_once one texts a b (long_stops texts a h) (bad_stops texts b fault k) in
    let P : FileKind → Type 0 = λ kind. IsFirstLong texts kind in
    let m : IsFirstLong texts b = subst P kinds h in
    let same : m.text ≡ k.text = one_text _ _ (sym m.there ∙ k.there) in
    let L : List ℕ → Type 0 = λ text. MOST_BYTES < length text in
    too_long MOST_BYTES (length k.text) (subst L same m.long) k.short

one_unread : OneAnswer → (texts : Texts) (a b : Refusal) → Unread texts a → Unread texts b → a ≡ b
one_unread one texts a b (long x e l) (long y d m) = e ∙ ap TooLong (stops_once one texts x y (long_stops texts x l) (long_stops texts y m)) ∙ sym d
one_unread one texts a b (bad x f e l) (bad y g d m) = e ∙ one_bad one texts x y f g l m ∙ sym d
one_unread one texts a b (long x e l) (bad y g d m) = absurd (long_or_bad one texts x y g l m)
one_unread one texts a b (bad x f e l) (long y d m) = absurd (long_or_bad one texts y x f m l)

weights_once : OneAnswer → (wts : Option (List ℕ)) (a b : Option (List WeightEntry)) → AreWeights wts a → AreWeights wts b → a ≡ b
weights_once one None None None h k = refl
weights_once one None None (Some b) h k = absurd k
weights_once one None (Some a) b h k = absurd h
weights_once one (Some text) None b h k = absurd h
weights_once one (Some text) (Some a) None h k = absurd k
weights_once one (Some text) (Some a) (Some b) h k = ap Some ((one.wts text).one_reading a b h k)

pub records_once : OneAnswer → (texts : Texts) (x y : Records) → AreRecords texts x → AreRecords texts y → x ≡ y
records_once one texts x y h k =
    same_files x y
    ((one.nodes texts.nodes).one_reading x.nodes y.nodes h.nodes k.nodes)
    ((one.nets texts.nets).one_reading x.nets y.nets h.nets k.nets)
    (weights_once one texts.wts x.weights y.weights h.weights k.weights)
    ((one.pl texts.pl).one_reading x.places y.places h.places k.places)
    ((one.scl texts.scl).one_reading x.rows y.rows h.rows k.rows)

pub one_texts : OneAnswer → (texts : Texts) (a b : Result Records Refusal) → reads_texts texts a → reads_texts texts b → a ≡ b
one_texts one texts (Ok x) (Ok y) h k = ap Ok (records_once one texts x y h.1 k.1)
one_texts one texts (Ok x) (Err q) h k = absurd (read_or_unread one texts x q h.0 h.1 (open_unread texts q k))
one_texts one texts (Err r) (Ok y) h k = absurd (read_or_unread one texts y r k.0 k.1 (open_unread texts r h))
one_texts one texts (Err r) (Err q) h k = ap Err (one_unread one texts r q (open_unread texts r h) (open_unread texts q k))
