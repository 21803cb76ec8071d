use Rattle.std.proofs.Common.{◌≡◌, ◌≤◌, ◌^◌, take}
use Rattle.std.specs.Prelude.{All}
use Rattle.row_legal.specs.Forms.Rows.{desires_of}
use Rattle.row_legal.proofs.placing.desires.Given as goal

-- what the first cells desire
abbrev pub invariant-loop-choice : goal.invariant-loop-choice
invariant-loop-choice l = record {
  same : l.desires.items ≡ desires_of l.pitch l.segment (take l.choice-index l.row);
  near : All (λ d. d ≤ 2 ^ 63) l.desires.items;
}
