use Rattle.std.proofs.Common.{◌+◌, Some, drop, subst}
use Rattle.std.proofs.lemmas.Option.{same_Some}
use Rattle.book_outer.specs.declared.store.Open.{Open}
use Rattle.book_outer.specs.Folder.{ReadsOn, TakesFront}
use Rattle.book_outer.specs.Memory.{StoredFiles}
use Rattle.book_outer.specs.Forms.Store.{IsFound, entry_at}
use Rattle.book_outer.proofs.Stored.{reads_on}
use Rattle.book_outer.proofs.store.Store.read.Goals as goal

pub bytes-requires : goal.bytes-requires
bytes-requires c = (c.self.invariant.read c.unwrap-open.result c.unwrap-open.ensures).inside

pub invariant_of-self-2 : goal.invariant_of-self-2
invariant_of-self-2 c =
    let found = c.self.invariant.read c.unwrap-open.result c.unwrap-open.ensures in
    record {
      read = λ r is. subst (λ (o : Open). IsFound c.self.inside.files o.file) (same_Some _ r is) found;
      written = c.self.invariant.written;
    }

pub returns-clause-reads : goal.returns-clause-reads
returns-clause-reads c =
    let files = c.self.inside.files in
    let open_file = c.unwrap-open.result in
    let n = c.copy_behind-n.result in
    let buffer = c.args.buf.now in
    let after = c.copy_behind-n.new.buf in
    let P : StoredFiles → Type 0 = λ s. ReadsOn (Some s.files) s.reading buffer after n (Some (record { name = (entry_at files open_file.file).name; at = open_file.at + n })) in
    let found = c.self.invariant.read open_file c.unwrap-open.ensures in
    let takes = subst (λ bytes. TakesFront (drop open_file.at bytes) buffer after n) c.bytes.ensures c.copy_behind-n.ensures.front in
    (c.copy_behind-n.ensures.room, subst P c.self.view_is (reads_on files c.self.inside.reading open_file buffer after n c.unwrap-open.ensures found takes))
