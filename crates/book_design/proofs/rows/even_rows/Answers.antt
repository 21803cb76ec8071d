use Rattle.std.proofs.Common.{arith}
use Rattle.std.proofs.lemmas.Grind.{common_steps}
use Rattle.book_design.specs.Forms.Sources.{records_of}
use Rattle.book_design.proofs.RowsEven.{site_of, no_site, mixed}
use Rattle.book_design.proofs.rows.even_rows.Goals as goal

pub returns-then-not-have_site : goal.returns-then-not-have_site
returns-then-not-have_site c = no_site (records_of c.args.records.now) c.args.strips.now c.requires.strips c.if-not-have_site.ensures

pub returns-in-Some : goal.returns-in-Some
returns-in-Some c =
    mixed (records_of c.args.records.now) c.in-Some.row (site_of (records_of c.args.records.now) c.args.strips.now c.requires.strips c.if-not-have_site.ensures) c.in-Some.ensures

pub returns-in-None : goal.returns-in-None
returns-in-None c = record {
  some = site_of (records_of c.args.records.now) c.args.strips.now c.requires.strips c.if-not-have_site.ensures;
  even = c.in-None.ensures;
  first = record { height = grind (arith, common_steps); pitch = grind (arith, common_steps) };
}
