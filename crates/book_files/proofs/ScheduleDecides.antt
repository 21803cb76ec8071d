-- What the schedule's reader decides of a line is what the rules say.
use Rattle.std.proofs.Common.{◌≡◌, ℕ, Bool, true, false, List, [], ◌∷◌, map, codes, nat_le, Result, Ok, Err, IsTrue, refl, sym, ap, subst, ◌∙◌, arith}
use Rattle.std.specs.Char.{to_ascii_lowercase}
use Rattle.std.proofs.lemmas.Bool.{cond_both, cond-true, cond-false, leb-true, le-leb}
use Rattle.std.proofs.lemmas.Slice.Eq.{bytes_eq-Decides}
use Rattle.book_text.specs.declared.number.NumberFault.{NumberFault}
use Rattle.book_text.specs.Lines.{NumberedLine}
use Rattle.book_text.specs.Whole.{whole_value}
use Rattle.book_files.specs.declared.fault.TextKind.{TextKind}
use Rattle.book_files.specs.declared.fault.TextKind.TheVariants.{BadHeader, BadLine, BadNumber, CountMismatch}
use Rattle.book_files.specs.declared.schedule.Event.{Event}
use Rattle.book_files.specs.declared.schedule.Event.TheVariants.{Load, Renew}
use Rattle.book_files.specs.declared.schedule.TheConstants.{MOST_NUMBER}
use Rattle.book_files.specs.Words.{is_keyword}
use Rattle.book_files.specs.Forms.Words.{◌>>=◌}
use Rattle.book_files.specs.Forms.Schedule.{number_in, number_of, event_by, event_of, event_form}
use Rattle.book_files.specs.ScheduleRules.{IsEventNumber, IsEventLine, IsScheduleLineFault, schedule_grammar}
use Rattle.book_files.proofs.Bridge.{Decides}

-- a value as the rules want it, or BadLine
abbrev Found : {A : Type 0} → (A → Type 0) → Result A TextKind → Type 0
Found Is (Ok x) = Is x
Found Is (Err kind) = BadLine ≡ kind

found_bind : {A B : Type 0} (P : B → Type 0) (Is : A → Type 0) (r : Result B TextKind) (f : B → Result A TextKind) → Found P r → ((x : B) → P x → Found Is (f x)) → Found Is (r >>= f)
found_bind P Is (Ok x) f found go_on = go_on x found
found_bind P Is (Err kind) f found go_on = found

number_found : (word : List ℕ) → Found (IsEventNumber word) (number_of word)
number_found word = of_value (whole_value word) refl where
  of_value : (r : Result ℕ NumberFault) → whole_value word ≡ r → Found (IsEventNumber word) (number_in r)
  of_value (Ok n) is = cond_both (nat_le n MOST_NUMBER) (Ok n) (Err BadLine) (Found (IsEventNumber word)) (λ fits. (is, leb-true n MOST_NUMBER fits)) (λ _. refl)
  of_value (Err fault) is = refl

number_back : (word : List ℕ) (n : ℕ) → IsEventNumber word n → number_of word ≡ Ok n
number_back word n is = rw is.0 (cond-true (nat_le n MOST_NUMBER) (Ok n) (Err BadLine) (le-leb n MOST_NUMBER is.1))

event_found : (number : ℕ) (words : List (List ℕ)) → Found (IsEventLine (record { number = number; words = words })) (event_of words)
event_found number [] = refl
event_found number (keyword ∷ []) = refl
event_found number (keyword ∷ seat ∷ []) = refl
event_found number (keyword ∷ seat ∷ point ∷ []) =
    found_bind (IsEventNumber seat) Is (number_of seat) (λ s. number_of point >>= λ p. event_by keyword s p) (number_found seat) (λ s is_seat.
    found_bind (IsEventNumber point) Is (number_of point) (λ p. event_by keyword s p) (number_found point) (λ p is_point. by_keyword s p is_seat is_point)) where
      Is : Event → Type 0
      Is event = IsEventLine (record { number = number; words = keyword ∷ seat ∷ point ∷ [] }) event

      by_keyword : (s p : ℕ) → IsEventNumber seat s → IsEventNumber point p → Found Is (event_by keyword s p)
      by_keyword s p is_seat is_point = cond_both (is_keyword (codes "load") keyword) (Ok (Load s p)) _ (Found Is)
          (λ load. record { three = refl; keyword = load; seat = is_seat; point = is_point })
          (λ _. cond_both (is_keyword (codes "renew") keyword) (Ok (Renew s p)) (Err BadLine) (Found Is) (λ renew. record { three = refl; keyword = renew; seat = is_seat; point = is_point }) (λ _. refl))
event_found number (keyword ∷ seat ∷ point ∷ more ∷ rest) = refl

-- a word is one of the keywords at most
renew_no_load : (word : List ℕ) → IsTrue (is_keyword (codes "renew") word) → is_keyword (codes "load") word ≡ false
renew_no_load word renew = tested (is_keyword (codes "load") word) refl where
  same : (key : List ℕ) → is_keyword key word ≡ true → map to_ascii_lowercase word ≡ key
  same key is = (bytes_eq-Decides (map to_ascii_lowercase word) key).0 is

  tested : (b : Bool) → is_keyword (codes "load") word ≡ b → b ≡ false
  tested true is = let e : codes "load" ≡ codes "renew" = sym (same (codes "load") is) ∙ same (codes "renew") renew in cc
  tested false is = refl

event_back : (number : ℕ) (words : List (List ℕ)) (event : Event) → IsEventLine (record { number = number; words = words }) event → event_of words ≡ Ok event
event_back number [] event is = let e = is.three in cc
event_back number (keyword ∷ []) event is = let e = is.three in absurd (omega arith)
event_back number (keyword ∷ seat ∷ []) event is = let e = is.three in absurd (omega arith)
event_back number (keyword ∷ seat ∷ point ∷ []) (Load s p) is = rw (number_back seat s is.seat) (rw (number_back point p is.point)
    (cond-true (is_keyword (codes "load") keyword) (Ok (Load s p)) _ is.keyword))
event_back number (keyword ∷ seat ∷ point ∷ []) (Renew s p) is = rw (number_back seat s is.seat) (rw (number_back point p is.point)
    (cond-false (is_keyword (codes "load") keyword) _ _ (renew_no_load keyword is.keyword) ∙ cond-true (is_keyword (codes "renew") keyword) (Ok (Renew s p)) (Err BadLine) is.keyword))
event_back number (keyword ∷ seat ∷ point ∷ more ∷ rest) event is = let e = is.three in absurd (omega arith)

module _ (line : NumberedLine) where
  named : (kind : TextKind) → event_of line.words ≡ Err kind → IsScheduleLineFault [] line kind
  named kind fault = subst (IsScheduleLineFault [] line) bad (λ event is. let e = event_back line.number line.words event is in cc) where
    bad : BadLine ≡ kind
    bad = subst (Found (IsEventLine line)) fault (event_found line.number line.words)

  named_back : (kind : TextKind) → IsScheduleLineFault [] line kind → event_of line.words ≡ Err kind
  named_back BadHeader none = absurd none
  named_back BadLine none = judged (event_of line.words) (event_found line.number line.words) where
    judged : (r : Result Event TextKind) → Found (IsEventLine line) r → r ≡ Err BadLine
    judged (Ok event) found = absurd (none event found)
    judged (Err kind) found = ap Err (sym found)
  named_back BadNumber none = absurd none
  named_back (CountMismatch stated found) none = absurd none

pub schedule_decided : Decides event_form schedule_grammar
schedule_decided = record {
  item = λ before line event means. subst (Found (IsEventLine line)) means (event_found line.number line.words);
  item_back = λ before line event is. event_back line.number line.words event is;
  named = λ before line kind fault. named line kind fault;
  named_back = λ before line kind fault. named_back line kind fault;
  file = λ items events ends. cc;
  file_back = λ items events is. ap Ok (sym is);
  end = λ items kind ends. cc;
  end_back = λ items kind none. absurd none;
}
