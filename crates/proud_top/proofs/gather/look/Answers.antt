use Rattle.std.proofs.Common.{ℕ, List, Result, Ok, Err}
use Rattle.book_files.specs.declared.records.FileKind.{FileKind}
use Rattle.book_files.specs.declared.records.FileKind.TheVariants.{Aux, Nodes, Nets, Wts, Pl, Scl, Schedule}
use Rattle.book_files.specs.declared.fault.TextFault.{TextFault}
use Rattle.book_files.specs.declared.fault.ReadError.{ReadError}
use Rattle.book_files.specs.declared.fault.ReadError.TheVariants as read_error
use Rattle.book_files.specs.Entries.{NodeEntry, NetEntry, WeightEntry, PlaceEntry, RowEntry, aux_entry}
use Rattle.book_files.specs.Grammar.{Grammar, IsReading, IsFirstFault, Answers, HasOneAnswer}
use Rattle.book_files.specs.AuxRules.{aux_grammar}
use Rattle.book_files.specs.NodeRules.{nodes_grammar}
use Rattle.book_files.specs.NetRules.{nets_grammar}
use Rattle.book_files.specs.WeightRules.{weights_grammar}
use Rattle.book_files.specs.PlaceRules.{places_grammar}
use Rattle.book_files.specs.RowRules.{rows_grammar}
use Rattle.book_files.specs.ScheduleRules.{schedule_grammar}
use Rattle.book_files.specs.declared.schedule.Event.{Event}
use Rattle.proud_top.specs.declared.stop.Stop.{Stop}
use Rattle.proud_top.specs.declared.stop.Stop.TheVariants.{ReadFault, Refused, Memory}
use Rattle.proud_top.specs.Accepted.{IsReadable, IsFaultOf}
use Rattle.proud_top.specs.Forms.Gathering.{Looks, IsLook}
use Rattle.proud_top.proofs.gather.look.Goals as goal

-- what the reader of a kind answers, as a look
look_as : {A I R : Type 0} (kind : FileKind) (grammar : Grammar I R) (view : A → R) (text : List ℕ) (answer : Result A ReadError) (result : Result (Unit {0}) Stop)
    → ((fault : TextFault) → IsFirstFault grammar text fault → IsFaultOf kind text fault) → ((fault : TextFault) → IsFaultOf kind text fault → IsFirstFault grammar text fault)
    → ((records : R) → IsReading grammar text records → IsReadable kind text) → HasOneAnswer grammar text → Answers grammar view text answer → IsLook kind answer result → Looks kind text result
look_as kind grammar view text (Ok records) (Ok done) to from read one h is = (read (view records) h, λ fault bad. one.not_both (view records) fault h (from fault bad))
look_as kind grammar view text (Ok records) (Err stop) to from read one h is = absurd is
look_as kind grammar view text (Err (read_error.Fault fault)) (Ok done) to from read one h is = absurd is
look_as kind grammar view text (Err (read_error.Fault fault)) (Err (Refused refusal)) to from read one h is = (fault, is, to fault h)
look_as kind grammar view text (Err (read_error.Fault fault)) (Err (ReadFault other)) to from read one h is = absurd is
look_as kind grammar view text (Err (read_error.Fault fault)) (Err Memory) to from read one h is = absurd is
look_as kind grammar view text (Err read_error.Memory) (Ok done) to from read one h is = absurd is
look_as kind grammar view text (Err read_error.Memory) (Err (Refused refusal)) to from read one h is = absurd is
look_as kind grammar view text (Err read_error.Memory) (Err (ReadFault other)) to from read one h is = absurd is
look_as kind grammar view text (Err read_error.Memory) (Err Memory) to from read one h is = tt

pub returns-in-Aux : goal.returns-in-Aux
returns-in-Aux c = rw c.in-Aux.is (look_as Aux aux_grammar aux_entry _ c.read_aux.result c.looked.result (λ fault h. h) (λ fault h. h) (λ records h. (records, h)) (c.one_answer.ensures.aux _) c.read_aux.ensures (rw c.in-Aux.is at c.looked.ensures))

pub returns-in-Nodes : goal.returns-in-Nodes
returns-in-Nodes c = rw c.in-Nodes.is (look_as Nodes nodes_grammar (λ (file : List NodeEntry). file) _ c.read_nodes.result c.looked-in-Nodes.result (λ fault h. h) (λ fault h. h) (λ records h. (records, h)) (c.one_answer.ensures.nodes _) c.read_nodes.ensures.reading (rw c.in-Nodes.is at c.looked-in-Nodes.ensures))

pub returns-in-Nets : goal.returns-in-Nets
returns-in-Nets c = rw c.in-Nets.is (look_as Nets nets_grammar (λ (file : List NetEntry). file) _ c.read_nets.result c.looked-in-Nets.result (λ fault h. h) (λ fault h. h) (λ records h. (records, h)) (c.one_answer.ensures.nets _) c.read_nets.ensures.reading (rw c.in-Nets.is at c.looked-in-Nets.ensures))

pub returns-in-Wts : goal.returns-in-Wts
returns-in-Wts c = rw c.in-Wts.is (look_as Wts weights_grammar (λ (file : List WeightEntry). file) _ c.read_wts.result c.looked-in-Wts.result (λ fault h. h) (λ fault h. h) (λ records h. (records, h)) (c.one_answer.ensures.wts _) c.read_wts.ensures.reading (rw c.in-Wts.is at c.looked-in-Wts.ensures))

pub returns-in-Pl : goal.returns-in-Pl
returns-in-Pl c = rw c.in-Pl.is (look_as Pl places_grammar (λ (file : List PlaceEntry). file) _ c.read_pl.result c.looked-in-Pl.result (λ fault h. h) (λ fault h. h) (λ records h. (records, h)) (c.one_answer.ensures.pl _) c.read_pl.ensures.reading (rw c.in-Pl.is at c.looked-in-Pl.ensures))

pub returns-in-Scl : goal.returns-in-Scl
returns-in-Scl c = rw c.in-Scl.is (look_as Scl rows_grammar (λ (file : List RowEntry). file) _ c.read_scl.result c.looked-in-Scl.result (λ fault h. h) (λ fault h. h) (λ records h. (records, h)) (c.one_answer.ensures.scl _) c.read_scl.ensures.reading (rw c.in-Scl.is at c.looked-in-Scl.ensures))

pub returns-in-Schedule : goal.returns-in-Schedule
returns-in-Schedule c = rw c.in-Schedule.is (look_as Schedule schedule_grammar (λ (events : List Event). events) _ c.read_schedule.result c.looked-in-Schedule.result (λ fault h. h) (λ fault h. h) (λ records h. (records, h)) (c.one_answer.ensures.schedule _) c.read_schedule.ensures.reading (rw c.in-Schedule.is at c.looked-in-Schedule.ensures))
