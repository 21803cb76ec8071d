use Rattle.std.proofs.Common.{ℕ, ◌<◌, ◌≤◌, List, length, take, vec_len, ap, ◌∙◌, arith}
use Rattle.std.proofs.lemmas.List.{length-take-le}
use Rattle.book_files.proofs.Pieces.{IsFront-begin, IsSome-front, IsFront-read, content-end, take-lent, room-falls}
use Rattle.book_files.proofs.loading.load_within.Goals as goal

pub pieces-init : goal.pieces-init
pieces-init g c =
    record {
      front = rw (c.new-bytes.ensures.items, c.begin.ensures.files) (IsFront-begin ((g.F.Folder.state c.args.folder.now).files) c.args.name.now _ c.in_ok-begin.ensures.begins);
      within = omega (arith, c.new-bytes.ensures.len);
      room = omega (arith, c.in_ok-piece.ensures);
      files = c.begin.ensures.files;
      writing = c.begin.ensures.writing;
      missed = c.begin.ensures.missed;
      begun = c.begin.ensures.begun;
      reads = omega (arith, c.new-bytes.ensures.len, c.begin.ensures.counted);
      read_faults = c.in_ok-begin.ensures.cause.kept (λ e. cc);
      write_faults = c.begin.ensures.write_faults;
    }

pub pieces-smaller : goal.pieces-smaller
pieces-smaller g c =
    let count : c.in_ok-count.count ≤ length c.deref.result.now = omega (arith, c.in_ok-count.ensures.reads.0, c.deref.ensures.len, c.deref_mut.ensures.len) in
    let more : vec_len c.pieces.bytes < vec_len c.extend_from_slice.new.self = omega (arith, c.in_ok-extend_from_slice.ensures.len, length-take-le _ c.deref.result.now count) in
    room-falls c.args.most (vec_len c.pieces.bytes) (vec_len c.extend_from_slice.new.self) more c.pieces.invariant.within

pub pieces-preserved : goal.pieces-preserved
pieces-preserved g c =
    let lent = ap (λ (piece : List ℕ). take c.in_ok-count.count piece) c.deref.ensures.value ∙ take-lent c.in_ok-count.count c.pieces.piece.len c.read.new.buf _ (omega (arith, c.deref_mut.ensures.len, c.read.auto.buf)) (omega (arith, c.in_ok-count.ensures.reads.0, c.deref_mut.ensures.len)) in
    record {
      front = rw (c.in_ok-extend_from_slice.ensures.items, lent, c.read.ensures.files) (IsFront-read ((g.F.Folder.state c.pieces.folder).files) _ _ _ _ _ _ _ c.pieces.invariant.front c.in_ok-count.ensures.reads);
      within = omega arith;
      room = c.pieces.invariant.room;
      files = c.read.ensures.files ∙ c.pieces.invariant.files;
      writing = c.read.ensures.writing ∙ c.pieces.invariant.writing;
      missed = c.read.ensures.missed ∙ c.pieces.invariant.missed;
      begun = c.read.ensures.begun ∙ c.pieces.invariant.begun;
      reads = let count : c.in_ok-count.count ≤ length c.deref.result.now = omega (arith, c.in_ok-count.ensures.reads.0, c.deref.ensures.len, c.deref_mut.ensures.len) in omega (arith, c.read.ensures.counted, c.in_ok-extend_from_slice.ensures.len, length-take-le _ c.deref.result.now count, c.pieces.invariant.reads);
      read_faults = c.in_ok-count.ensures.cause.kept (λ e. cc) ∙ c.pieces.invariant.read_faults;
      write_faults = c.read.ensures.write_faults ∙ c.pieces.invariant.write_faults;
    }

pub read-requires-clause-room : goal.read-requires-clause-room
read-requires-clause-room g c = omega (arith, c.deref_mut.ensures.len)

pub read-requires-clause-begun : goal.read-requires-clause-begun
read-requires-clause-begun g c = IsSome-front ((g.F.Folder.state c.pieces.folder).files) _ _ _ c.pieces.invariant.front

pub returns-then-count-eq0-clause-loaded : goal.returns-then-count-eq0-clause-loaded
returns-then-count-eq0-clause-loaded g c =
    let end = content-end ((g.F.Folder.state c.pieces.folder).files) _ _ c.args.name.now _ _ _ c.pieces.invariant.front (rw c.if-count-eq0.true at c.in_ok-count.ensures.reads) in
    rw c.pieces.invariant.files at end
