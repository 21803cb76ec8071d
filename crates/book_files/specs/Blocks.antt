-- The nets and the rows of the files, without where they lie in memory.
use Rattle.std.specs.Prelude.{List, map, option_map}
use Rattle.book_files.specs.declared.records.NetBlock.{NetBlock}
use Rattle.book_files.specs.declared.records.RowBlock.{RowBlock}
use Rattle.book_files.specs.Entries.{NetEntry, RowEntry}

abbrev pub net_entry : NetBlock → NetEntry
net_entry b = record { name = option_map (λ name. name.0.now) b.name; pins = b.pins }

abbrev pub net_entries : List NetBlock → List NetEntry
net_entries blocks = map net_entry blocks

abbrev pub row_entry : RowBlock → RowEntry
row_entry b = record { y = b.y.0; height = b.height.0; pitch = b.pitch.0; subrows = b.subrows }

abbrev pub row_entries : List RowBlock → List RowEntry
row_entries blocks = map row_entry blocks
