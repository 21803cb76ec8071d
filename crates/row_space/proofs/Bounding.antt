-- Segments stand where their subrows do, which lie within range.
use Rattle.std.proofs.Common.{◌≡◌, List, [], sym, subst, arith, ℤ}
use Rattle.std.proofs.lemmas.Int.{ints}
use Rattle.std.proofs.lemmas.List.Elements.{All-from_recursion}
use Rattle.book_design.specs.Values.{DesignValue}
use Rattle.book_design.specs.WellFormed.{IsDesign, IsGoodSubrow, subrow_at}
use Rattle.row_space.specs.declared.parts.Segment.{Segment}
use Rattle.row_space.specs.Values.{segment_at}
use Rattle.row_space.specs.Runs.{segments_of}
use Rattle.row_space.specs.Clear.{IsClear}
use Rattle.row_space.specs.Ends.{IsGoodSegment, AreGoodSegments}
use Rattle.row_space.proofs.Clearing.{columns, clear_segments}

good_segment : (design : DesignValue) (segment : Segment) → IsDesign design → IsClear design segment → IsGoodSegment design.pitch segment
good_segment design segment valid clear =
    let good = All-from_recursion (IsGoodSubrow design.pitch design.row_height) design.subrows valid.subrows clear.subrow (subrow_at [] 0) clear.there in
    let ends = columns design segment valid clear in
    record {
      spaced = valid.pitch_sign;
      low = omega (arith, ints, clear.lower, good.y.low);
      high = omega (arith, ints, clear.lower, good.y.high);
      left = omega (arith, ints, ends.left, good.x.low);
      right = omega (arith, ints, ends.right, good.right);
    }

pub good_segments : (design : DesignValue) (pitch : ℤ) (segments : List Segment) → IsDesign design → pitch ≡ design.pitch → segments ≡ (segments_of design).segments → AreGoodSegments pitch segments
good_segments design pitch segments valid same is = subst (λ (p : ℤ). AreGoodSegments p segments) (sym same) (subst (AreGoodSegments design.pitch) (sym is)
    (λ s lt. good_segment design (segment_at (segments_of design).segments s) valid ((clear_segments design valid).each s lt)))
