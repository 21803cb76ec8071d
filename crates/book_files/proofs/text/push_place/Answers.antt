use Rattle.std.proofs.Common.{◌++◌, sym, ap, ◌∙◌}
use Rattle.book_text.specs.Decimal.{canonical}
use Rattle.book_files.specs.Entries.{place_entry}
use Rattle.book_files.specs.PlaceText.{orient_word}
use Rattle.book_files.specs.Forms.Places.{mark_end}
use Rattle.book_files.proofs.PlaceLines.{line_by_pieces, written}
use Rattle.book_files.proofs.text.push_place.Goals as goal

pub returns : goal.returns
returns c =
    written c.args.line.now.name.0.now (canonical c.args.line.now.x.0) (canonical c.args.line.now.y.0) (orient_word c.args.line.now.orient) (mark_end c.args.line.now.fixed c.args.line.now.overlap) c.args.text.now.items _ _ _ _ _ _ _ _
    c.in_ok-extend_from_slice.ensures.items c.in_ok-push.ensures.items c.in_ok-put_number.ensures c.in_ok-push-2.ensures.items c.in_ok-put_number-2.ensures c.in_ok-extend_from_slice-2.ensures.items
    (rw c.orient_word.ensures at c.in_ok-extend_from_slice-3.ensures.items) (rw c.place_end.ensures at c.in_ok-extend_from_slice-4.ensures.items)
    ∙ ap (λ line. c.args.text.now.items ++ line) (sym (line_by_pieces (place_entry c.args.line.now)))
