-- The places of one row more.
use Rattle.std.proofs.Common.{◌≡◌, ◌≢◌, ℕ, ◌<◌, List, length, sym, ap, ◌∙◌, subst, arith, ℤ}
use Rattle.std.specs.Prelude.{slice_index}
use Rattle.std.proofs.lemmas.List.{length-map}
use Rattle.row_space.specs.declared.parts.Segment.{Segment}
use Rattle.row_space.specs.Values.{segment_at}
use Rattle.row_legal.specs.declared.parts.Place.{Place}
use Rattle.row_legal.specs.declared.picking.Choice.{Choice}
use Rattle.row_legal.specs.Places.{place_at}
use Rattle.row_legal.specs.Forms.Settled.{AreSettled}
use Rattle.row_legal.specs.Forms.Choices.{choice_at}
use Rattle.row_legal.specs.Forms.Rows.{IsSortOf, choices_at, nearest_site, desires_of, widths_of, IsPlaceIn, IsRowPlaced}
use Rattle.row_legal.proofs.Members.{Apart, apart_between}

pub placed_here : (pitch : ℤ) (segments : List Segment) (choices : List Choice) (places : List Place) (s : ℕ) (row : List Choice) (firsts : List ℕ) → IsSortOf (choices_at choices s) row
    → AreSettled (desires_of pitch (segment_at segments s) row) (widths_of row) (segment_at segments s).sites firsts
    → ((i : ℕ) → i < length row → place_at places (choice_at row i).cell ≡ record { segment = s; site = slice_index firsts i })
    → IsRowPlaced pitch segments choices places s
placed_here pitch segments choices places s row firsts sort settled written = record {
  row = row;
  is_row = sort;
  each = λ i lt.
      let at = settled.each i (omega (arith, lt, length-map row (λ (c : Choice). nearest_site pitch (segment_at segments s) c.x))) in
      let is = written i lt in
      record { segment = ap (λ (p : Place). p.segment) is; earliest = at.0; is_earliest = at.1; site = ap (λ (p : Place). p.site) is ∙ at.2 };
}

pub placed_still : (pitch : ℤ) (segments : List Segment) (choices : List Choice) (old new : List Place) (s t : ℕ) (row : List Choice) → Apart choices → IsSortOf (choices_at choices s) row → t ≢ s
    → ((c : ℕ) → ((i : ℕ) → i < length row → (choice_at row i).cell ≢ c) → place_at new c ≡ place_at old c)
    → IsRowPlaced pitch segments choices old t → IsRowPlaced pitch segments choices new t
placed_still pitch segments choices old new s t row apart sort other kept is = record {
  row = is.row;
  is_row = is.is_row;
  each = λ i lt.
      let cell = (choice_at is.row i).cell in
      let same : place_at new cell ≡ place_at old cell = kept cell (λ j there. apart_between choices row is.row s t j i apart sort is.is_row (λ e. other (sym e)) there lt) in
      subst (λ (p : Place). IsPlaceIn pitch (segment_at segments t) t is.row i p) (sym same) (is.each i lt);
}
