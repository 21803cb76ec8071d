-- A sweep over the marks of a subrow finds its runs.
use Rattle.std.proofs.Common.{◌≡◌, ℕ, ◌+◌, ◌-◌, ◌<◌, ◌≤◌, max, Bool, true, false, cond, ltb, List, [], ◌∷◌, ◌++◌, length, map, refl, sym, ap, ◌∙◌, subst, inl, inr, arith, pos, ◌+ℤ◌, ◌*ℤ◌}
use Rattle.std.specs.Prelude.{not}
use Rattle.std.specs.List.{list_any, filter, range_with_len}
use Rattle.std.proofs.lemmas.Bool.{cases_lt}
use Rattle.std.proofs.lemmas.Bool.Decides.{nat_tests}
use Rattle.std.proofs.lemmas.List.{append-nil, get_or_default}
use Rattle.std.proofs.lemmas.List.Elements.{All-from_recursion}
use Rattle.std.proofs.lemmas.List.Folds.{Any-from_list_any, list_any_at}
use Rattle.book_design.specs.declared.parts.Subrow.{Subrow}
use Rattle.book_design.specs.Values.{NodeValue, DesignValue}
use Rattle.book_design.specs.Points.{node_value_at}
use Rattle.book_design.specs.WellFormed.{subrow_at, IsDesign, IsGoodSubrow}
use Rattle.row_space.specs.declared.parts.Segment.{Segment}
use Rattle.row_space.specs.declared.marks.Mark.{Mark}
use Rattle.row_space.specs.Values.{SegmentsValue, with_segment}
use Rattle.row_space.specs.Rectangles.{blocks, sites_rectangle}
use Rattle.row_space.specs.Runs.{is_free, begins, segment_from}
use Rattle.row_space.specs.Forms.Marks.{mark_at, IsMark, HasMark, AreMarks, AreSorted, Parts}
use Rattle.row_space.specs.Forms.Sweep.{run_segment, with_run, Adds, IsGoodRun}
use Rattle.row_space.proofs.Running.{runs_from, skip, one_run, run_is}

-- the segments of the runs that begin at one of so many sites from one on
abbrev pub segments_from : DesignValue → Subrow → ℕ → ℕ → List Segment
segments_from design subrow k n = map (segment_from design subrow) (filter (begins (is_free design subrow)) (range_with_len k n))

-- ---- which sites are free

-- a site that isn't free has a mark
marked : (design : DesignValue) (marks : List Mark) (t k : ℕ) → AreMarks design (length design.nodes) marks → t < length design.subrows → k < (subrow_at design.subrows t).sites
    → is_free design (subrow_at design.subrows t) k ≡ false → HasMark marks t k
marked design marks t k are there lt taken =
    let site = sites_rectangle design (subrow_at design.subrows t) k 1 in
    let any : list_any (λ (node : NodeValue). blocks node site) design.nodes ≡ true = flipped (list_any (λ (node : NodeValue). blocks node site) design.nodes) taken in
    let at = Any-from_list_any (λ (node : NodeValue). blocks node site) design.nodes any in
    let node : node_value_at design.nodes at.0 ≡ at.1 = get_or_default design.nodes at.0 (node_value_at [] 0) at.1 at.2 ∙ at.3 in
    are.all at.0 t k at.2 there lt (subst (λ (n : NodeValue). blocks n site ≡ true) (sym node) at.4) where
      flipped : (b : Bool) → not b ≡ false → b ≡ true
      flipped true h = refl
      flipped false h = absurd (cc)

free_unless : (b : Bool) → (b ≡ false → b ≡ true) → b ≡ true
free_unless true h = refl
free_unless false h = h refl

-- the marks of a subrow from one place up to another, which end before a site
pub record Passed (marks : List Mark) (t begin at from : ℕ) : Type 0 where
  pub up_to : begin ≤ at
  pub within : at ≤ length marks
  pub row : (i : ℕ) → begin ≤ i → i < at → (mark_at marks i).subrow ≡ t
  pub ended : (i : ℕ) → begin ≤ i → i < at → (mark_at marks i).end ≤ from

-- a site behind those, before what comes next, is free
free_before : (design : DesignValue) (marks : List Mark) (t begin at from k : ℕ) → AreMarks design (length design.nodes) marks → t < length design.subrows → Parts marks t begin → Passed marks t begin at from
    → from ≤ k → k < (subrow_at design.subrows t).sites → ((i : ℕ) → at ≤ i → i < length marks → (mark_at marks i).subrow ≡ t → k < (mark_at marks i).first)
    → is_free design (subrow_at design.subrows t) k ≡ true
free_before design marks t begin at from k are there parts passed low lt later = free_unless (is_free design (subrow_at design.subrows t) k) (λ taken.
    let mark = marked design marks t k are there lt taken in
    elim (cases_lt mark.at begin) [
      | inl early ↦ absurd (omega (arith, parts.before mark.at early, mark.subrow))
      | inr from_begin ↦ elim (cases_lt mark.at at) [
        | inl old ↦ absurd (omega (arith, passed.ended mark.at from_begin old, mark.end))
        | inr next ↦ absurd (omega (arith, later mark.at next mark.there mark.subrow, mark.first))
      ]
    ])

-- a mark takes its sites
pub taken_by : (design : DesignValue) (mark : Mark) (k : ℕ) → IsMark design mark → mark.first ≤ k → k < mark.end → is_free design (subrow_at design.subrows mark.subrow) k ≡ false
taken_by design mark k is low high =
    ap not (list_any_at (λ (node : NodeValue). blocks node (sites_rectangle design (subrow_at design.subrows mark.subrow) k 1)) design.nodes is.node (node_value_at [] 0) is.node_there (is.taken k low high))

-- ---- what is left of the runs

segment_is : (design : DesignValue) (subrow : Subrow) (k j : ℕ) → k + j ≤ subrow.sites → ((i : ℕ) → k ≤ i → i < k + j → is_free design subrow i ≡ true)
    → (k + j < subrow.sites → is_free design subrow (k + j) ≡ false) → segment_from design subrow k ≡ run_segment design subrow k (k + j)
segment_is design subrow k j le all stop =
    ap (λ (sites : ℕ). segment_by sites) (run_is (is_free design subrow) subrow.sites k j le all stop ∙ (omega arith)) where
      segment_by : ℕ → Segment
      segment_by sites = record { x = subrow.x +ℤ pos k *ℤ design.pitch; y = subrow.y; sites = sites }

-- a run from one site up to another, where there is one, and then what is left
pub run_then : (design : DesignValue) (subrow : Subrow) (from end : ℕ) → from ≤ end → end ≤ subrow.sites → (0 < from → is_free design subrow (from - 1) ≡ false)
    → ((i : ℕ) → from ≤ i → i < end → is_free design subrow i ≡ true) → (end < subrow.sites → is_free design subrow end ≡ false)
    → segments_from design subrow from (subrow.sites - from) ≡ cond (ltb from end) (run_segment design subrow from end ∷ []) [] ++ segments_from design subrow end (subrow.sites - end)
run_then design subrow from end le within edge all stop = by_test (ltb from end) refl where
  free : ℕ → Bool
  free = is_free design subrow

  by_test : (b : Bool) → ltb from end ≡ b → segments_from design subrow from (subrow.sites - from)
      ≡ cond b (run_segment design subrow from end ∷ []) [] ++ segments_from design subrow end (subrow.sites - end)
  by_test true test =
      let lt : from < end = grind (arith, nat_tests) in
      let many : subrow.sites - from ≡ (end - from) + (subrow.sites - end) = omega arith in
      let to : from + (end - from) ≡ end = omega arith in
      let runs = one_run free from (end - from) (subrow.sites - end) (omega arith) edge (λ i low high. all i low (omega arith)) in
      let first : segment_from design subrow from ≡ run_segment design subrow from end
      = segment_is design subrow from (end - from) (omega arith) (λ i low high. all i low (omega arith)) (λ more. ap free to ∙ stop (omega arith)) ∙ ap (run_segment design subrow from) to in
      ap (λ m. map (segment_from design subrow) (runs_from free from m)) many ∙ ap (map (segment_from design subrow)) (runs ∙ ap (λ i. from ∷ runs_from free i (subrow.sites - end)) to)
      ∙ ap (λ (s : Segment). s ∷ segments_from design subrow end (subrow.sites - end)) first
  by_test false test =
      let same : from ≡ end = grind (arith, nat_tests) in
      ap (λ i. segments_from design subrow i (subrow.sites - i)) same

-- sites that aren't free are passed over
pub pass_over : (design : DesignValue) (subrow : Subrow) (from end : ℕ) → from ≤ end → end ≤ subrow.sites → ((i : ℕ) → from ≤ i → i < end → is_free design subrow i ≡ false)
    → segments_from design subrow from (subrow.sites - from) ≡ segments_from design subrow end (subrow.sites - end)
pass_over design subrow from end le within none =
    let many : subrow.sites - from ≡ (end - from) + (subrow.sites - end) = omega arith in
    let to : from + (end - from) ≡ end = omega arith in
    let runs = skip (is_free design subrow) from (end - from) (subrow.sites - end) (λ i low high. none i low (omega arith)) in
    ap (λ m. map (segment_from design subrow) (runs_from (is_free design subrow) from m)) many
    ∙ ap (map (segment_from design subrow)) (runs ∙ ap (λ i. runs_from (is_free design subrow) i (subrow.sites - end)) to)

-- ---- the sweep

pub record Step (design : DesignValue) (subrow : Subrow) (marks : List Mark) (t begin at from next first : ℕ) : Type 0 where
  pub up_to : next ≤ subrow.sites
  pub edge : 0 < next → is_free design subrow (next - 1) ≡ false
  pub passed : Passed marks t begin (at + 1) next
  pub runs : segments_from design subrow from (subrow.sites - from) ≡ cond (ltb from first) (run_segment design subrow from first ∷ []) [] ++ segments_from design subrow next (subrow.sites - next)

-- one mark more
pub step : (design : DesignValue) (marks : List Mark) (subrow : Subrow) (t begin at from next : ℕ) → AreMarks design (length design.nodes) marks → t < length design.subrows → subrow ≡ subrow_at design.subrows t
    → Parts marks t begin → AreSorted marks → Passed marks t begin at from → from ≤ subrow.sites → (0 < from → is_free design subrow (from - 1) ≡ false)
    → at < length marks → (mark_at marks at).subrow ≡ t → next ≡ max (mark_at marks at).end from → Step design subrow marks t begin at from next (mark_at marks at).first
step design marks subrow t begin at from next are there is parts sorted passed low edge more same to = record {
  up_to = omega (arith, within, low);
  edge = λ some. elim (cases_lt from mark.end) [
    | inl before ↦ let last : next - 1 ≡ mark.end - 1 = omega arith in ap (is_free design subrow) last ∙ taken (mark.end - 1) (omega (arith, own.some)) (omega (arith, own.some))
    | inr not_before ↦ let last : next - 1 ≡ from - 1 = omega arith in ap (is_free design subrow) last ∙ edge (omega arith)
  ];
  passed = record {
    up_to = omega (arith, passed.up_to);
    within = omega arith;
    row = λ i from_begin lt. elim (cases_lt i at) [ inl old ↦ passed.row i from_begin old | inr new ↦ let here : at ≡ i = omega arith in subst (λ k. (mark_at marks k).subrow ≡ t) here same ];
    ended = λ i from_begin lt. elim (cases_lt i at) [
      | inl old ↦ omega (arith, passed.ended i from_begin old)
      | inr new ↦ let here : at ≡ i = omega arith in subst (λ k. (mark_at marks k).end ≤ next) here (omega arith)
    ];
  };
  runs = elim (cases_lt mark.first from) [
    | inl inside ↦
        let test : ltb from mark.first ≡ false = grind (arith, nat_tests) in
        pass_over design subrow from next (omega arith) (omega (arith, within, low)) (λ i above below. taken i (omega arith) (omega arith))
        ∙ ap (λ (b : Bool). cond b (run_segment design subrow from mark.first ∷ []) [] ++ segments_from design subrow next (subrow.sites - next)) (sym test)
    | inr ahead ↦
        run_then design subrow from mark.first ahead (omega (arith, within, own.some)) edge clear (λ inner. taken mark.first (omega arith) own.some)
        ∙ ap (λ (rest : List Segment). cond (ltb from mark.first) (run_segment design subrow from mark.first ∷ []) [] ++ rest)
        (pass_over design subrow mark.first next (omega (arith, own.some)) (omega (arith, within, low)) (λ i above below. taken i above (omega (arith, own.some))))
  ];
} where
  mark : Mark
  mark = mark_at marks at

  own : IsMark design mark
  own = are.each at more

  its : subrow_at design.subrows mark.subrow ≡ subrow
  its = ap (subrow_at design.subrows) same ∙ sym is

  within : mark.end ≤ subrow.sites
  within = subst (λ (s : Subrow). mark.end ≤ s.sites) its own.within

  taken : (k : ℕ) → mark.first ≤ k → k < mark.end → is_free design subrow k ≡ false
  taken k above below = subst (λ (s : Subrow). is_free design s k ≡ false) its (taken_by design mark k own above below)

  clear : (i : ℕ) → from ≤ i → i < mark.first → is_free design subrow i ≡ true
  clear i above below = subst (λ (s : Subrow). is_free design s i ≡ true) (sym is) (free_before design marks t begin at from i are there parts passed above
      (subst (λ (s : Subrow). i < s.sites) is (omega (arith, within, own.some)))
      (λ j next_on lt row. elim (sorted at j next_on lt) [ inl earlier ↦ absurd (omega (arith, same, row)) | inr tie ↦ omega (arith, tie.1) ]))

-- no mark is left of the subrow
pub last_step : (design : DesignValue) (marks : List Mark) (subrow : Subrow) (t begin at from : ℕ) → AreMarks design (length design.nodes) marks → t < length design.subrows → subrow ≡ subrow_at design.subrows t
    → Parts marks t begin → AreSorted marks → Passed marks t begin at from → from ≤ subrow.sites → (0 < from → is_free design subrow (from - 1) ≡ false)
    → (at < length marks → (mark_at marks at).subrow ≡ t → ⊥)
    → segments_from design subrow from (subrow.sites - from) ≡ cond (ltb from subrow.sites) (run_segment design subrow from subrow.sites ∷ []) []
last_step design marks subrow t begin at from are there is parts sorted passed low edge none =
    let nothing : subrow.sites - subrow.sites ≡ 0 = omega arith in
    run_then design subrow from subrow.sites low (omega arith) edge clear (λ inner. absurd (omega arith))
    ∙ ap (λ m. cond (ltb from subrow.sites) (run_segment design subrow from subrow.sites ∷ []) [] ++ segments_from design subrow subrow.sites m) nothing
    ∙ append-nil (cond (ltb from subrow.sites) (run_segment design subrow from subrow.sites ∷ []) []) where
      clear : (i : ℕ) → from ≤ i → i < subrow.sites → is_free design subrow i ≡ true
      clear i above below = subst (λ (s : Subrow). is_free design s i ≡ true) (sym is) (free_before design marks t begin at from i are there parts passed above
          (subst (λ (s : Subrow). i < s.sites) is below) (λ j next_on lt row. absurd (past j next_on lt row))) where
            past : (j : ℕ) → at ≤ j → j < length marks → (mark_at marks j).subrow ≡ t → ⊥
            past j next_on lt row = elim (sorted at j next_on lt) [
              | inl earlier ↦ absurd (omega (arith, parts.behind at passed.up_to (omega arith), earlier, row))
              | inr tie ↦ none (omega arith) (tie.0 ∙ row)
            ]

-- the marks behind are of later subrows
pub next_parts : (marks : List Mark) (t begin at from : ℕ) → Parts marks t begin → AreSorted marks → Passed marks t begin at from → (at < length marks → (mark_at marks at).subrow ≡ t → ⊥) → Parts marks (t + 1) at
next_parts marks t begin at from parts sorted passed none = record {
  within = passed.within;
  before = λ i lt. elim (cases_lt i begin) [ inl old ↦ omega (arith, parts.before i old) | inr new ↦ omega (arith, passed.row i new lt) ];
  behind = λ i next_on lt.
      let here = parts.behind at passed.up_to (omega arith) in
      elim (cases_lt t (mark_at marks at).subrow) [
        | inl later ↦ elim (sorted at i next_on lt) [ inl earlier ↦ omega arith | inr tie ↦ omega (arith, tie.0) ]
        | inr not_later ↦ absurd (none (omega arith) (omega arith))
      ];
}

-- what a run adds
pub run_adds : (design : DesignValue) (subrow : Subrow) (from end : ℕ) (old : SegmentsValue) → Adds old (with_run design subrow from end old) (cond (ltb from end) (run_segment design subrow from end ∷ []) [])
run_adds design subrow from end old = by_test (ltb from end) where
  by_test : (b : Bool) → Adds old (cond b (with_segment old (run_segment design subrow from end)) old) (cond b (run_segment design subrow from end ∷ []) [])
  by_test true = record { pitch = refl; segments = refl }
  by_test false = record { pitch = refl; segments = sym (append-nil old.segments) }

pub good_run : (design : DesignValue) (subrow : Subrow) (t end : ℕ) → IsDesign design → t < length design.subrows → subrow ≡ subrow_at design.subrows t → end ≤ subrow.sites → IsGoodRun design subrow end
good_run design subrow t end valid there is within =
    let good = subst (λ (s : Subrow). IsGoodSubrow design.pitch design.row_height s) (sym is) (All-from_recursion (IsGoodSubrow design.pitch design.row_height) design.subrows valid.subrows t (subrow_at [] 0) there) in
    record { spaced = valid.pitch_sign; left = good.x.low; right = good.right; within = within }

pub mark_within : (design : DesignValue) (marks : List Mark) (subrow : Subrow) (t at : ℕ) → AreMarks design (length design.nodes) marks → subrow ≡ subrow_at design.subrows t → at < length marks → (mark_at marks at).subrow ≡ t
    → (mark_at marks at).first ≤ subrow.sites
mark_within design marks subrow t at are is more same =
    let own = are.each at more in
    let sites : (subrow_at design.subrows (mark_at marks at).subrow).sites ≡ subrow.sites = ap (λ t. (subrow_at design.subrows t).sites) same ∙ sym (ap (λ (s : Subrow). s.sites) is) in
    omega (arith, own.some, own.within, sites)
