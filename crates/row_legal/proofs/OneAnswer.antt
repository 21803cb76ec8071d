-- The greedy rule has one answer.
use Rattle.std.proofs.Common.{◌⊎◌, ℕ, List, sym, ap, ◌∙◌, inl, inr}
use Rattle.row_space.specs.Values.{SegmentsValue}
use Rattle.row_legal.specs.Cells.{CellsValue, sites_at}
use Rattle.row_legal.specs.Ranges.{AreGoodCells}
use Rattle.row_legal.specs.Greedy.{Pick, IsGreedy}
use Rattle.row_legal.specs.Answers.{HasNoRoom}
use Rattle.row_legal.specs.OneAnswer.{HasOneAnswerAtMost, HasAnswer}
use Rattle.row_legal.proofs.OnePick.{never_both, one_end}
use Rattle.row_legal.proofs.OnePlace.{one_list}
use Rattle.row_legal.proofs.SomePick.{some_end}
use Rattle.row_legal.proofs.SomePlace.{some_places}

pub one_at_most : (rows : SegmentsValue) (cells : CellsValue) → HasOneAnswerAtMost rows cells
one_at_most rows cells = record {
  one_list = one_list rows cells;
  one_end = λ a b a_sites b_sites a_largest b_largest of_a of_b.
      let both = one_end rows cells a b a_largest b_largest of_a.stuck of_b.stuck in
      (both.0, of_a.is_sites ∙ ap (sites_at cells) both.0 ∙ sym of_b.is_sites, both.1);
  not_both = λ places cell sites largest legalised ended. never_both rows cells legalised.picks cell largest legalised.greedy ended.stuck;
}

pub some_answer : (rows : SegmentsValue) (cells : CellsValue) → AreGoodCells cells → HasAnswer rows cells
some_answer rows cells good = by_end (some_end rows cells good.some) where
  by_end : ((picks : List Pick) × IsGreedy rows cells picks) ⊎ ((cell : ℕ) × (sites : ℕ) × (largest : ℕ) × HasNoRoom rows cells cell sites largest) → HasAnswer rows cells
  by_end (inl greedy) = inl (some_places rows cells greedy.0 greedy.1)
  by_end (inr ended) = inr ended
