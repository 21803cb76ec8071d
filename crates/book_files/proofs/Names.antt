-- The suffixes of file names.
use Rattle.std.proofs.Common.{◌≡◌, ℕ, ◌+◌, ◌-◌, ◌<◌, Bool, true, false, cond, List, [], ◌∷◌, ◌++◌, length, drop, take, map, get_or, IsTrue, ◌↔◌, Option, Some, None, option_map, option_to_list, Result, Ok, Err, MatchResult, is_ok, is_some, sym, refl, ap, ◌∙◌}
use Rattle.std.specs.Char.{to_ascii_lowercase}
use Rattle.std.specs.Str.{bytes_eq, is_utf8, IsUtf8}
use Rattle.std.specs.List.{list_all}
use Rattle.std.specs.Result.{result_ok}
use Rattle.std.proofs.lemmas.List.{length-map, drop-map, take_rest, map_more, map-append, take-append-drop, drop_more, append-nil}
use Rattle.std.proofs.lemmas.List.Elements.{filter-append}
use Rattle.std.proofs.lemmas.List.Folds.{list_all_at, list_all-map}
use Rattle.std.proofs.lemmas.Str.{IsUtf8-from_is_utf8, is_utf8-from_IsUtf8}
use Rattle.std.proofs.lemmas.Bool.{and_parts, and_from, cond-true, cond-false, both_ways, true_from_ne_false, false_from_ne_true}
use Rattle.std.proofs.lemmas.Bool.Decides.{same_from_decides}
use Rattle.std.proofs.lemmas.Slice.Eq.{bytes_eq-Decides}
use Rattle.book_files.specs.declared.fault.TextKind.TheVariants.{BadLine}
use Rattle.book_files.specs.Forms.Words.{◌>>=◌}
use Rattle.book_files.specs.Aux.{is_file_name, has_suffix, named}
use Rattle.book_files.specs.Forms.Aux.{at_most_one, only, aux_of}

-- whether the end of a name is the suffix, in any ASCII case
pub has_suffix_is : (suffix name : List ℕ) (front : ℕ) (r : Bool) → map to_ascii_lowercase suffix ≡ suffix → front ≡ length name - length suffix
    → (IsTrue r ↔ (map to_ascii_lowercase (take (length name - front) (drop front name)) ≡ map to_ascii_lowercase suffix)) → r ≡ has_suffix suffix name
has_suffix_is suffix name front r lower is_front decides =
    let tail = drop (length (map to_ascii_lowercase name) - length suffix) (map to_ascii_lowercase name) in
    let is_tail : map to_ascii_lowercase (take (length name - front) (drop front name)) ≡ tail =
    rw (take_rest, is_front) (rw length-map (sym (drop-map to_ascii_lowercase (length name - length suffix) name))) in
    same_from_decides r (bytes_eq suffix tail)
    (λ t. sym lower ∙ (sym (decides.0 t) ∙ is_tail), λ e. decides.1 (is_tail ∙ (sym e ∙ sym lower)))
    (bytes_eq-Decides suffix tail)

-- the four that stand once, and the one that stands at most once
pub aux_of_parts : (nodes nets wts pl scl : List (List ℕ)) → aux_of nodes nets wts pl scl
    ≡ (only nodes >>= λ a. only nets >>= λ b. at_most_one wts >>= λ c. only pl >>= λ d. only scl >>= λ e. Ok (record { nodes = a; nets = b; wts = c; pl = d; scl = e }))
aux_of_parts [] nets wts pl scl = refl
aux_of_parts (a ∷ b ∷ nodes) nets wts pl scl = refl
aux_of_parts (n ∷ []) [] wts pl scl = refl
aux_of_parts (n ∷ []) (a ∷ b ∷ nets) wts pl scl = refl
aux_of_parts (n ∷ []) (e ∷ []) (a ∷ b ∷ wts) pl scl = refl
aux_of_parts (n ∷ []) (e ∷ []) [] [] scl = refl
aux_of_parts (n ∷ []) (e ∷ []) [] (a ∷ b ∷ pl) scl = refl
aux_of_parts (n ∷ []) (e ∷ []) [] (p ∷ []) [] = refl
aux_of_parts (n ∷ []) (e ∷ []) [] (p ∷ []) (a ∷ b ∷ scl) = refl
aux_of_parts (n ∷ []) (e ∷ []) [] (p ∷ []) (s ∷ []) = refl
aux_of_parts (n ∷ []) (e ∷ []) (w ∷ []) [] scl = refl
aux_of_parts (n ∷ []) (e ∷ []) (w ∷ []) (a ∷ b ∷ pl) scl = refl
aux_of_parts (n ∷ []) (e ∷ []) (w ∷ []) (p ∷ []) [] = refl
aux_of_parts (n ∷ []) (e ∷ []) (w ∷ []) (p ∷ []) (a ∷ b ∷ scl) = refl
aux_of_parts (n ∷ []) (e ∷ []) (w ∷ []) (p ∷ []) (s ∷ []) = refl

-- file names are texts
pub texts_of : {A : Type 0} (bytes : A → List ℕ) (names : List A) → list_all (λ name. is_file_name (bytes name)) names ≡ true → list_all is_utf8 (map bytes names) ≡ true
texts_of bytes [] all = refl
texts_of bytes (name ∷ names) all = let both = and_parts (is_file_name (bytes name)) (list_all (λ n. is_file_name (bytes n)) names) all in
    and_from (is_utf8 (bytes name)) (list_all is_utf8 (map bytes names)) (and_parts (is_utf8 (bytes name)) _ both.0).0 (texts_of bytes names both.1)

-- what the names have of the suffix, with one name more
pub named_more : {A : Type 0} (bytes : A → List ℕ) (suffix : List ℕ) (names : List A) (i : ℕ) (d : A) → i < length names
    → named suffix (map bytes (take (i + 1) names)) ≡ named suffix (map bytes (take i names)) ++ cond (has_suffix suffix (bytes (get_or names i d))) (bytes (get_or names i d) ∷ []) []
named_more bytes suffix names i d inside = ap (named suffix) (map_more bytes names i d inside) ∙ filter-append (has_suffix suffix) (map bytes (take i names)) (bytes (get_or names i d) ∷ [])

-- a second name with the suffix is bad
pub second_named : {A : Type 0} (bytes : A → List ℕ) (suffix : List ℕ) (names : List A) (i : ℕ) (d : A) (first : List ℕ) → i < length names
    → named suffix (map bytes (take i names)) ≡ first ∷ [] → has_suffix suffix (bytes (get_or names i d)) ≡ true → at_most_one (named suffix (map bytes names)) ≡ Err BadLine
second_named bytes suffix names i d first inside one again =
    let name = bytes (get_or names i d) in
    let behind = named suffix (map bytes (drop (i + 1) names)) in
    let rest : named suffix (map bytes (drop i names)) ≡ name ∷ behind =
    ap (λ ns. named suffix (map bytes ns)) (drop_more names i d inside) ∙ cond-true (has_suffix suffix name) (name ∷ behind) behind again in
    let all : named suffix (map bytes names) ≡ first ∷ (name ∷ behind) =
    ap (λ ns. named suffix (map bytes ns)) (sym (take-append-drop i names)) ∙ (ap (named suffix) (map-append bytes (take i names) (drop i names))
    ∙ (filter-append (has_suffix suffix) (map bytes (take i names)) (map bytes (drop i names))
    ∙ (ap (λ ns. ns ++ named suffix (map bytes (drop i names))) one ∙ ap (λ ns. first ∷ ns) rest))) in
    ap at_most_one all

pub again_named : {A T : Type 0} (bytes : A → List ℕ) (text : T → List ℕ) (suffix : List ℕ) (names : List A) (i : ℕ) (d : A) (found : Option T) → i < length names
    → named suffix (map bytes (take i names)) ≡ option_to_list (option_map text found) → is_some found ≡ true → has_suffix suffix (bytes (get_or names i d)) ≡ true
    → at_most_one (named suffix (map bytes names)) ≡ Err BadLine
again_named bytes text suffix names i d None inside so_far some again = cc
again_named bytes text suffix names i d (Some first) inside so_far some again = second_named bytes suffix names i d (text first) inside so_far again

-- a text is what its bytes are
pub is_text_is : {T E : Type 0} (text : T → List ℕ) (bytes : List ℕ) (Q : E → Type 0) (r : Result T E)
    → MatchResult r (λ s. (text s ≡ bytes) × IsUtf8 bytes) (λ e. (¬ IsUtf8 bytes) × Q e) → is_ok r ≡ is_utf8 bytes
is_text_is text bytes Q (Ok s) read = sym (is_utf8-from_IsUtf8 bytes read.1)
is_text_is text bytes Q (Err e) read = sym (false_from_ne_true (is_utf8 bytes) (λ t. read.0 (IsUtf8-from_is_utf8 bytes t)))

text_at : {A : Type 0} (bytes : A → List ℕ) (names : List A) (i : ℕ) (d : A) → i < length names → list_all is_utf8 (map bytes names) ≡ true → is_utf8 (bytes (get_or names i d)) ≡ true
text_at bytes names i d inside texts = true_from_ne_false _ (λ no. both_ways _
    (list_all_at (λ n. is_utf8 (bytes n)) names i d inside no) (sym (list_all-map is_utf8 bytes names) ∙ texts))

read_text : {T E : Type 0} (text : T → List ℕ) (bytes : List ℕ) (Q : E → Type 0) (r : Result T E) → is_utf8 bytes ≡ true
    → MatchResult r (λ s. (text s ≡ bytes) × IsUtf8 bytes) (λ e. (¬ IsUtf8 bytes) × Q e) → option_to_list (option_map text (result_ok r)) ≡ bytes ∷ []
read_text text bytes Q (Ok s) is_text read = ap (λ b. b ∷ []) read.0
read_text text bytes Q (Err e) is_text read = absurd (read.0 (IsUtf8-from_is_utf8 bytes is_text))

-- the first name with the suffix
pub first_named : {A T E : Type 0} (bytes : A → List ℕ) (text : T → List ℕ) (suffix : List ℕ) (names : List A) (i : ℕ) (d : A) (found : Option T) (Q : E → Type 0) (r : Result T E)
    → i < length names → list_all is_utf8 (map bytes names) ≡ true → named suffix (map bytes (take i names)) ≡ option_to_list (option_map text found) → is_some found ≡ false
    → has_suffix suffix (bytes (get_or names i d)) ≡ true → MatchResult r (λ s. (text s ≡ bytes (get_or names i d)) × IsUtf8 (bytes (get_or names i d))) (λ e. (¬ IsUtf8 (bytes (get_or names i d))) × Q e)
    → named suffix (map bytes (take (i + 1) names)) ≡ option_to_list (option_map text (result_ok r))
first_named bytes text suffix names i d (Some first) Q r inside texts so_far none has read = cc
first_named bytes text suffix names i d None Q r inside texts so_far none has read =
    named_more bytes suffix names i d inside ∙ (ap (λ ns. ns ++ cond (has_suffix suffix (bytes (get_or names i d))) (bytes (get_or names i d) ∷ []) []) so_far
    ∙ (cond-true (has_suffix suffix (bytes (get_or names i d))) (bytes (get_or names i d) ∷ []) [] has ∙ sym (read_text text _ Q r (text_at bytes names i d inside texts) read)))

-- a name without the suffix
pub other_named : {A : Type 0} (bytes : A → List ℕ) (suffix : List ℕ) (names : List A) (i : ℕ) (d : A) → i < length names → has_suffix suffix (bytes (get_or names i d)) ≡ false
    → named suffix (map bytes (take (i + 1) names)) ≡ named suffix (map bytes (take i names))
other_named bytes suffix names i d inside has = named_more bytes suffix names i d inside
    ∙ (ap (λ ns. named suffix (map bytes (take i names)) ++ ns) (cond-false (has_suffix suffix (bytes (get_or names i d))) (bytes (get_or names i d) ∷ []) [] has) ∙ append-nil (named suffix (map bytes (take i names))))

-- the five parts together
pub aux_of_found : (nodes nets wts pl scl : List (List ℕ)) (a b d e : List ℕ) (c : Option (List ℕ))
    → only nodes ≡ Ok a → only nets ≡ Ok b → at_most_one wts ≡ Ok c → only pl ≡ Ok d → only scl ≡ Ok e
    → aux_of nodes nets wts pl scl ≡ Ok (record { nodes = a; nets = b; wts = c; pl = d; scl = e })
aux_of_found nodes nets wts pl scl a b d e c is_a is_b is_c is_d is_e = aux_of_parts nodes nets wts pl scl ∙ rw is_a (rw is_b (rw is_c (rw is_d (rw is_e refl))))
