-- Texts that are read again read as the same records, and make the same design.
use Rattle.std.proofs.Common.{◌≡◌, ◌<◌, ◌∙◌, ℕ, List, [], length, map, Result, Ok, Err, IfOk, IfSome, sym, ap, subst}
use Rattle.std.specs.Prelude.{Vec, Option, Some, None}
use Rattle.std.specs.List.{count_by}
use Rattle.std.specs.declared.alloc.Global.{Global}
use Rattle.book_text.specs.declared.memory.Memory.{Memory as NoMemory}
use Rattle.book_files.specs.declared.fault.ReadError.{ReadError}
use Rattle.book_files.specs.declared.fault.ReadError.TheVariants as read_error
use Rattle.book_files.specs.Entries.{NodeEntry, PlaceEntry}
use Rattle.book_files.specs.Grammar.{Grammar, IsReading, Answers}
use Rattle.book_files.specs.NodeRules.{nodes_grammar}
use Rattle.book_files.specs.PlaceRules.{places_grammar}
use Rattle.book_design.specs.Records.{Records}
use Rattle.book_design.specs.Values.{NodeValue, DesignValue}
use Rattle.book_design.specs.Answers.{IsJoined}
use Rattle.net_model.specs.Network.{point_count}
use Rattle.book_design.specs.Joined.{joined_node}
use Rattle.book_design.specs.Points.{is_movable}
use Rattle.proud_top.specs.declared.status.Refusal.{Refusal}
use Rattle.proud_top.specs.declared.stop.Stop.TheVariants.{Refused}
use Rattle.proud_top.specs.Lines.{refusal_line}
use Rattle.proud_top.specs.Named.{node_of, cell_of, point_of, point_subject, IsNodeSubject, IsCellSubject, IsPointSubject, IsSubjectIn}
use Rattle.proud_top.specs.Texts.{Texts, AreRecords}
use Rattle.proud_top.specs.Forms.Inputs.{IsSameRecords}
use Rattle.proud_top.specs.Forms.Stops.{Designs, IsNameless, AreRecordsOf, HasNode, HasCell, HasPoint, IsSubjectAt, IsCellNamed, IsLineOf}
use Rattle.proud_top.proofs.Once.{OneAnswer}
use Rattle.proud_top.proofs.OneTexts.{records_once}

-- the records as which a text reads
pub reads_as : {I R : Type 0} (grammar : Grammar I R) (text bytes : List ℕ) (answer : Result R ReadError) (records : R) → Answers grammar (λ (file : R). file) text answer → IsSameRecords answer (Ok records) → text ≡ bytes → IsReading grammar bytes records
reads_as {R = R} grammar text bytes (Ok found) records h same e =
    let P : R → Type 0 = λ r. IsReading grammar text r in
    let Q : List ℕ → Type 0 = λ t. IsReading grammar t records in
    subst Q e (subst P (sym same) h)
reads_as grammar text bytes (Err (read_error.Fault fault)) records h same e = absurd same
reads_as grammar text bytes (Err read_error.Memory) records h same e = absurd same

pub node_there : OneAnswer → (texts : Texts) (nodes : List NodeEntry) (number : ℕ) → IsReading nodes_grammar texts.nodes nodes → HasNode texts number → number < length nodes
node_there one texts nodes number reading h =
    let same : h.records.nodes ≡ nodes = (one.nodes texts.nodes).one_reading h.records.nodes nodes h.read.nodes reading in
    let P : List NodeEntry → Type 0 = λ list. number < length list in
    subst P same h.there

pub node_named : OneAnswer → (texts : Texts) (nodes : List NodeEntry) (number : ℕ) (result : Result (Vec ℕ Global) NoMemory) → IsReading nodes_grammar texts.nodes nodes → HasNode texts number
    → IfOk result (λ subject. IsSubjectAt nodes subject.items number) → IfOk result (λ subject. IsNodeSubject (AreRecords texts) subject.items number)
node_named one texts nodes number (Err error) reading h at = tt
node_named one texts nodes number (Ok subject) reading h at =
    let same : nodes ≡ h.records.nodes = (one.nodes texts.nodes).one_reading nodes h.records.nodes reading h.read.nodes in
    let P : List NodeEntry → Type 0 = λ list. IsSubjectAt list subject.items number in
    let own = subst P same at in
    record { records = h.records; node = own.0; read = h.read; there = own.1; named = own.2 }

-- the nodes of the design that the lines make, with places
abbrev pub nodes_alone : List NodeEntry → List PlaceEntry → List NodeValue
nodes_alone nodes places = map (joined_node (record { nodes = nodes; nets = []; weights = None; places = places; rows = [] })) nodes

cell_nodes : OneAnswer → (texts : Texts) (nodes : List NodeEntry) (places : List PlaceEntry) (cell : ℕ) → IsReading nodes_grammar texts.nodes nodes → IsReading places_grammar texts.pl places
    → (h : HasCell texts cell) → h.design.nodes ≡ nodes_alone nodes places
cell_nodes one texts nodes places cell read_nodes read_places h =
    let same : h.records.nodes ≡ nodes = (one.nodes texts.nodes).one_reading h.records.nodes nodes h.read.nodes read_nodes in
    let there : h.records.places ≡ places = (one.pl texts.pl).one_reading h.records.places places h.read.places read_places in
    h.joined.joins.nodes ∙ ap (λ (list : List NodeEntry). nodes_alone list h.records.places) same ∙ ap (nodes_alone nodes) there

pub cell_there : OneAnswer → (texts : Texts) (nodes : List NodeEntry) (places : List PlaceEntry) (found : List NodeValue) (cell : ℕ) → IsReading nodes_grammar texts.nodes nodes → IsReading places_grammar texts.pl places
    → found ≡ nodes_alone nodes places → HasCell texts cell → cell < count_by is_movable found
cell_there one texts nodes places found cell read_nodes read_places is h =
    let P : List NodeValue → Type 0 = λ list. cell < count_by is_movable list in
    subst P (cell_nodes one texts nodes places cell read_nodes read_places h ∙ sym is) h.there

pub cell_named : OneAnswer → (texts : Texts) (nodes : List NodeEntry) (places : List PlaceEntry) (found : List NodeValue) (cell : ℕ) (result : Result (Vec ℕ Global) NoMemory) → IsReading nodes_grammar texts.nodes nodes
    → IsReading places_grammar texts.pl places → found ≡ nodes_alone nodes places → HasCell texts cell
    → IfOk result (λ subject. IsCellNamed found subject.items cell) → IfOk result (λ subject. IsCellSubject (AreRecords texts) subject.items cell)
cell_named one texts nodes places found cell (Err error) read_nodes read_places is h at = tt
cell_named one texts nodes places found cell (Ok subject) read_nodes read_places is h at =
    let P : List NodeValue → Type 0 = λ list. IsCellNamed list subject.items cell in
    let own = subst P (is ∙ sym (cell_nodes one texts nodes places cell read_nodes read_places h)) at in
    record { records = h.records; design = h.design; number = own.number; read = h.read; joined = h.joined; node = own.node; named = own.named }

-- texts make one design, or are refused
pub never_refused : OneAnswer → (texts : Texts) (design : DesignValue) (refusal : Refusal) → Designs texts (Ok design) → Designs texts (Err (Refused refusal)) → ⊥
never_refused one texts design refusal made h =
    let P : Records → Type 0 = λ records. IsJoined records design in
    let joined : IsJoined h.0 design = subst P (records_once one texts made.0 h.0 made.1 h.1) made.2 in
    (one.join h.0).not_both design h.2.0 joined h.2.2

pub point_there : OneAnswer → (texts : Texts) (design : DesignValue) (point : ℕ) → Designs texts (Ok design) → HasPoint texts point → point < point_count design
point_there one texts design point made h =
    let P : Records → Type 0 = λ records. IsJoined records h.design in
    let joined : IsJoined made.0 h.design = subst P (records_once one texts h.records made.0 h.read made.1) h.joined in
    let Q : DesignValue → Type 0 = λ d. point < point_count d in
    subst Q ((one.join made.0).one_design h.design design joined made.2) h.there

pub point_named : (texts : Texts) (design : DesignValue) (point : ℕ) (result : Result (Vec ℕ Global) NoMemory) → Designs texts (Ok design)
    → IfOk result (λ subject. subject.items ≡ point_subject design point) → IfOk result (λ subject. IsPointSubject (AreRecords texts) subject.items point)
point_named texts design point (Ok subject) made is = record { records = made.0; design = design; read = made.1; joined = made.2; named = is }
point_named texts design point (Err error) made is = tt

-- a refusal that names nothing has any subject
pub nameless : {P : Records → Type 0} (refusal : Refusal) (subject : List ℕ) → IsNameless refusal → IsSubjectIn P refusal subject
nameless {P = P} refusal subject h = record { node = absent _ (node_of refusal) h.node; cell = absent _ (cell_of refusal) h.cell; point = absent _ (point_of refusal) h.point } where
  absent : {X : Type 0} (Q : X → Type 0) (o : Option X) → o ≡ None → IfSome o Q
  absent Q None e = tt
  absent Q (Some x) e = absurd (let clash : ⊥ = cc in clash)

-- the line of a refusal with its subject
pub line_named : (texts : Option Texts) (refusal : Refusal) (subject : List ℕ) (result : Result (Vec ℕ Global) NoMemory) → IsSubjectIn (AreRecordsOf texts) refusal subject
    → IfOk result (λ line. line.items ≡ refusal_line refusal subject) → IfOk result (λ line. IsLineOf texts (Refused refusal) line.items)
line_named texts refusal subject (Ok line) named is = (subject, named, is)
line_named texts refusal subject (Err error) named is = tt

-- the subject stays one where the records are among others
pub named_among : {P Q : Records → Type 0} (refusal : Refusal) (subject : List ℕ) → ((records : Records) → P records → Q records) → IsSubjectIn P refusal subject → IsSubjectIn Q refusal subject
named_among {P = P} {Q = Q} refusal subject among h = record { node = by_node (node_of refusal) h.node; cell = by_cell (cell_of refusal) h.cell; point = by_point (point_of refusal) h.point } where
  by_node : (o : Option ℕ) → IfSome o (IsNodeSubject P subject) → IfSome o (IsNodeSubject Q subject)
  by_node None n = tt
  by_node (Some number) n = record { records = n.records; node = n.node; read = among n.records n.read; there = n.there; named = n.named }

  by_cell : (o : Option ℕ) → IfSome o (IsCellSubject P subject) → IfSome o (IsCellSubject Q subject)
  by_cell None n = tt
  by_cell (Some cell) n = record { records = n.records; design = n.design; number = n.number; read = among n.records n.read; joined = n.joined; node = n.node; named = n.named }

  by_point : (o : Option ℕ) → IfSome o (IsPointSubject P subject) → IfSome o (IsPointSubject Q subject)
  by_point None n = tt
  by_point (Some point) n = record { records = n.records; design = n.design; read = among n.records n.read; joined = n.joined; named = n.named }

pub named_some : (texts : Texts) (refusal : Refusal) (result : Result (Vec ℕ Global) NoMemory) → IfOk result (λ subject. IsSubjectIn (AreRecords texts) refusal subject.items)
    → IfOk result (λ subject. IsSubjectIn (AreRecordsOf (Some texts)) refusal subject.items)
named_some texts refusal (Ok subject) h = named_among refusal subject.items (λ records read. read) h
named_some texts refusal (Err error) h = tt
