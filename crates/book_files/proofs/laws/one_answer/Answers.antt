use Rattle.book_files.specs.Forms.Aux.{aux_form}
use Rattle.book_files.specs.AuxRules.{aux_grammar}
use Rattle.book_files.specs.Forms.Nodes.{node_form}
use Rattle.book_files.specs.NodeRules.{nodes_grammar}
use Rattle.book_files.specs.Forms.Weights.{weight_form}
use Rattle.book_files.specs.WeightRules.{weights_grammar}
use Rattle.book_files.specs.Forms.Places.{place_form}
use Rattle.book_files.specs.PlaceRules.{places_grammar}
use Rattle.book_files.specs.Forms.Rows.{row_form}
use Rattle.book_files.specs.RowRules.{rows_grammar}
use Rattle.book_files.proofs.Bridge.{one_answer_of}
use Rattle.book_files.proofs.AuxDecides.{aux_decided}
use Rattle.book_files.proofs.NodeDecides.{nodes_decided}
use Rattle.book_files.proofs.WeightDecides.{weights_decided}
use Rattle.book_files.proofs.PlaceDecides.{places_decided}
use Rattle.book_files.specs.Forms.Nets.{net_form}
use Rattle.book_files.specs.NetRules.{nets_grammar}
use Rattle.book_files.proofs.NetDecides.{nets_decided}
use Rattle.book_files.proofs.RowDecides.{rows_decided}
use Rattle.book_files.specs.Forms.Schedule.{event_form}
use Rattle.book_files.specs.ScheduleRules.{schedule_grammar}
use Rattle.book_files.proofs.ScheduleDecides.{schedule_decided}
use Rattle.book_files.proofs.laws.one_answer.Goals as goal

pub returns-clause-aux : goal.returns-clause-aux
returns-clause-aux c = one_answer_of aux_form aux_grammar aux_decided

pub returns-clause-nodes : goal.returns-clause-nodes
returns-clause-nodes c = one_answer_of node_form nodes_grammar nodes_decided

pub returns-clause-nets : goal.returns-clause-nets
returns-clause-nets c = one_answer_of net_form nets_grammar nets_decided

pub returns-clause-wts : goal.returns-clause-wts
returns-clause-wts c = one_answer_of weight_form weights_grammar weights_decided

pub returns-clause-pl : goal.returns-clause-pl
returns-clause-pl c = one_answer_of place_form places_grammar places_decided

pub returns-clause-scl : goal.returns-clause-scl
returns-clause-scl c = one_answer_of row_form rows_grammar rows_decided

pub returns-clause-schedule : goal.returns-clause-schedule
returns-clause-schedule c = one_answer_of event_form schedule_grammar schedule_decided
