use Rattle.std.proofs.Common.{◌≡◌, ◌≤◌, ◌<◌, vec_len, ◌+◌, ◌-◌}
use Rattle.book_outer.specs.Cause.{one_more}
use Rattle.book_outer.specs.Folder.{missed_after}
use Rattle.book_files.proofs.Pieces.{IsFront}
use Rattle.book_files.proofs.loading.load_within.Given as goal

abbrev pub invariant-pieces : goal.invariant-pieces
invariant-pieces g l = record {
  front : IsFront ((g.F.Folder.state l.folder).files) ((g.F.Folder.state l.folder).reading) l.name l.bytes.items;
  within : vec_len l.bytes ≤ l.most;
  room : 0 < vec_len l.piece;
  files : (g.F.Folder.state l.folder).files ≡ (g.F.Folder.state l.fn.folder).files;
  writing : (g.F.Folder.state l.folder).writing ≡ (g.F.Folder.state l.fn.folder).writing;
  missed : (g.F.Folder.state l.folder).missed ≡ missed_after ((g.F.Folder.state l.fn.folder).files) l.name ((g.F.Folder.state l.fn.folder).missed);
  begun : (g.F.Folder.state l.folder).begun ≡ one_more ((g.F.Folder.state l.fn.folder).begun);
  reads : (g.F.Folder.state l.folder).reads ≤ (g.F.Folder.state l.fn.folder).reads + vec_len l.bytes;
  read_faults : (g.F.Folder.state l.folder).read_faults ≡ (g.F.Folder.state l.fn.folder).read_faults;
  write_faults : (g.F.Folder.state l.folder).write_faults ≡ (g.F.Folder.state l.fn.folder).write_faults;
}

abbrev pub decreases-pieces : goal.decreases-pieces
decreases-pieces g l = l.most + 1 - vec_len l.bytes
