-- Lists of files, by names and numbers.
use Rattle.std.proofs.Common.{arith, subst, add-zero, ◌≡◌, ℕ, ◌+◌, ◌<◌, Bool, true, not, cond, List, [], ◌∷◌, ◌++◌, length, map, set, get_or, Option, Some, None, MatchOption, option_map, slice_get, nat_lt, refl, ap, ◌∙◌, sym, inl, inr, position, bytes_eq, Vec}
use Rattle.std.specs.List.{position_or_len, prefix_len}
use Rattle.std.specs.declared.alloc.Global.{Global}
use Rattle.std.proofs.lemmas.List.{length-map, map-set, get_or-map, set-get_or, get_or-set_same, get_or-set_other, set_past, length-set, length-take, length_push, get_or_append_left, get_or_push}
use Rattle.std.proofs.lemmas.List.Folds.{length-prefix_len, position_or_len-set, position_or_len_push}
use Rattle.std.proofs.lemmas.List.Quantifiers.{position-Some}
use Rattle.std.proofs.lemmas.Option.{cond_some, none-some, slice_get-get_or, slice_get_past}
use Rattle.std.proofs.lemmas.Bool.{cases_lt, cases_eq, cond-true, cond-false, lt-ltb, le-ltb, eq-eqb, ne_eqb}
use Rattle.std.proofs.lemmas.Slice.Eq.{bytes_eq-Decides}
use Rattle.book_outer.specs.declared.lists.File.{File}
use Rattle.book_outer.specs.Files.{FileEntry, nth_of, content, with_content}
use Rattle.book_outer.specs.Forms.Store.{entry_of, entries, entry_at, with_bytes, IsFound, IsNamed}

pub prefix_len-map : {X Y : Type 0} (p : Y → Bool) (f : X → Y) (xs : List X) → prefix_len p (map f xs) ≡ prefix_len (λ x. p (f x)) xs
prefix_len-map p f [] = refl
prefix_len-map p f (x ∷ xs) = ap (λ n. cond (p (f x)) (1 + n) 0) (prefix_len-map p f xs)

pub position_or_len-map : {X Y : Type 0} (p : Y → Bool) (f : X → Y) (xs : List X) → position_or_len p (map f xs) ≡ position_or_len (λ x. p (f x)) xs
position_or_len-map p f xs = prefix_len-map (λ y. not (p y)) f xs

pub position-map : {X Y : Type 0} (p : Y → Bool) (f : X → Y) (xs : List X) → position p (map f xs) ≡ position (λ x. p (f x)) xs
position-map p f xs = rw (position_or_len-map p f xs, length-map xs f)

-- a file's entry
pub entry_at-entries : (files : List File) (at : ℕ) (file : File) → at < length files → entry_at (entries files) at ≡ entry_of (get_or files at file)
entry_at-entries files at file inside = get_or-map entry_of files at file _ inside

-- other bytes in a file
pub entries-set : (files : List File) (at : ℕ) (file : File) (bytes : Vec ℕ Global) → at < length files → entries (set files at (record { name = (get_or files at file).name; bytes = bytes })) ≡ with_bytes (entries files) at bytes.items
entries-set files at file bytes inside =
    map-set entry_of files at (record { name = (get_or files at file).name; bytes = bytes })
    ∙ ap (λ (e : FileEntry). set (entries files) at (record { name = e.name; bytes = bytes.items })) (sym (entry_at-entries files at file inside))

-- the same bytes in a file
pub with_bytes-same : (files : List FileEntry) (at : ℕ) → with_bytes files at (entry_at files at).bytes ≡ files
with_bytes-same files at = set-get_or files at (record { name = []; bytes = [] })

named : (files : List FileEntry) (name : List ℕ) (at : ℕ) → position (λ file. bytes_eq file.name name) files ≡ Some at → IsNamed files name at
named files name at found =
    let nothing : FileEntry = record { name = []; bytes = [] } in
    let stands = position-Some (λ file. bytes_eq file.name name) files at nothing found in
    let nth : nth_of files name ≡ at = (cond_some (nat_lt (nth_of files name) (length files)) (nth_of files name) at found).1 in
    let is : (entry_at files at).name ≡ name = (bytes_eq-Decides (entry_at files at).name name).0 stands.1 in
    record {
      found = record { inside = stands.0; first = ap (nth_of files) is ∙ nth };
      named = is;
      nth = nth;
      holds = ap (λ n. option_map (λ file. file.bytes) (slice_get files n)) nth ∙ ap (option_map (λ file. file.bytes)) (slice_get-get_or files at nothing stands.0);
    }

-- No file of that name stands there.
absent : (files : List FileEntry) (name : List ℕ) → position (λ file. bytes_eq file.name name) files ≡ None → content files name ≡ None
absent files name nowhere = elim (cases_lt (nth_of files name) (length files)) [
  | inl inside ↦ absurd (none-some _ (sym nowhere ∙ cond-true _ _ _ (lt-ltb _ _ inside)))
  | inr past ↦ ap (option_map (λ file. file.bytes)) (slice_get_past files (nth_of files name) past)
]

-- what a search by name found
pub searched : (files : List FileEntry) (name : List ℕ) (found : Option ℕ) → found ≡ position (λ file. bytes_eq file.name name) files → MatchOption found (content files name ≡ None) (IsNamed files name)
searched files name None is = absent files name (sym is)
searched files name (Some at) is = named files name at (sym is)

-- A file that is the first of its name.
pub named-found : (files : List FileEntry) (at : ℕ) → IsFound files at → IsNamed files (entry_at files at).name at
named-found files at found = record {
  found = found;
  named = refl;
  nth = found.first;
  holds = ap (λ n. option_map (λ (file : FileEntry). file.bytes) (slice_get files n)) found.first
      ∙ ap (option_map (λ (file : FileEntry). file.bytes)) (slice_get-get_or files at (record { name = []; bytes = [] }) found.inside);
}

-- ---- other bytes in a file

pub name-with_bytes : (files : List FileEntry) (at k : ℕ) (bytes : List ℕ) → (entry_at (with_bytes files at bytes) k).name ≡ (entry_at files k).name
name-with_bytes files at k bytes = elim (cases_eq k at) [
  | inl same ↦ elim (cases_lt at (length files)) [
    | inl inside ↦ rw (same, get_or-set_same)
    | inr past ↦ rw (set_past files at (record { name = (entry_at files at).name; bytes = bytes }) past)
  ]
  | inr other ↦ rw (get_or-set_other)
]

pub nth-with_bytes : (files : List FileEntry) (at : ℕ) (bytes name : List ℕ) → nth_of (with_bytes files at bytes) name ≡ nth_of files name
nth-with_bytes files at bytes name =
    position_or_len-set (λ (file : FileEntry). bytes_eq file.name name) files at (record { name = (entry_at files at).name; bytes = bytes }) (record { name = []; bytes = [] }) refl

pub found-with_bytes : (files : List FileEntry) (at k : ℕ) (bytes : List ℕ) → IsFound files k → IsFound (with_bytes files at bytes) k
found-with_bytes files at k bytes found = record {
  inside = omega (arith, length-set files at (record { name = (entry_at files at).name; bytes = bytes }), found.inside);
  first = ap (nth_of (with_bytes files at bytes)) (name-with_bytes files at k bytes) ∙ nth-with_bytes files at bytes (entry_at files k).name ∙ found.first;
}

-- the file of a name, by its number
pub with_content-named : (files : List FileEntry) (name : List ℕ) (at : ℕ) (bytes : List ℕ) → IsNamed files name at → with_content files name bytes ≡ with_bytes files at bytes
with_content-named files name at bytes is =
    let inside : nat_lt at (length files) ≡ true = lt-ltb at (length files) is.found.inside in
    rw (is.nth, inside, is.named)

pub named-with_bytes : (files : List FileEntry) (name : List ℕ) (at : ℕ) (bytes : List ℕ) → IsNamed files name at → IsNamed (with_bytes files at bytes) name at
named-with_bytes files name at bytes is =
    let here = named-found (with_bytes files at bytes) at (found-with_bytes files at at bytes is.found) in
    subst (λ n. IsNamed (with_bytes files at bytes) n at) (name-with_bytes files at at bytes ∙ is.named) here

-- ---- one more file

abbrev file_of : List ℕ → List ℕ → FileEntry
file_of name bytes = record { name = name; bytes = bytes }

pub name-push : (files : List FileEntry) (file : FileEntry) (k : ℕ) → k < length files → (entry_at (files ++ file ∷ []) k).name ≡ (entry_at files k).name
name-push files file k inside = rw (get_or_append_left)

pub found-push : (files : List FileEntry) (file : FileEntry) (k : ℕ) → IsFound files k → IsFound (files ++ file ∷ []) k
found-push files file k found =
    let inside : k < length files = found.inside in
    let name = (entry_at files k).name in
    let first = found.first in
    let before : nth_of files name ≡ length files → ⊥ = λ at_end. omega (arith, inside, first, at_end) in
    record {
      inside = omega (arith, length_push files file, inside);
      first = ap (nth_of (files ++ file ∷ [])) (name-push files file k inside)
          ∙ position_or_len_push (λ (f : FileEntry). bytes_eq f.name name) files file
          ∙ cond-false _ _ _ (ne_eqb (nth_of files name) (length files) before)
          ∙ found.first;
    }

-- where no file has that name
pub nth-absent : (files : List FileEntry) (name : List ℕ) → content files name ≡ None → nth_of files name ≡ length files
nth-absent files name none =
    let has_name = λ (file : FileEntry). bytes_eq file.name name in
    let nothing : FileEntry = record { name = []; bytes = [] } in
    elim (cases_lt (nth_of files name) (length files)) [
      | inl inside ↦ absurd (none-some _ (sym none ∙ ap (option_map (λ (file : FileEntry). file.bytes)) (slice_get-get_or files (nth_of files name) nothing inside)))
      | inr past ↦ omega (arith, length-prefix_len (λ file. not (has_name file)) files, length-take (nth_of files name) files, past)
    ]

pub with_content-absent : (files : List FileEntry) (name bytes : List ℕ) → content files name ≡ None → with_content files name bytes ≡ files ++ file_of name bytes ∷ []
with_content-absent files name bytes none =
    cond-false (nat_lt (nth_of files name) (length files)) _ _ (le-ltb (nth_of files name) (length files) (omega (arith, nth-absent files name none)))

pub named-push : (files : List FileEntry) (name bytes : List ℕ) → content files name ≡ None → IsNamed (files ++ file_of name bytes ∷ []) name (length files)
named-push files name bytes none =
    let file = file_of name bytes in
    let now = files ++ file ∷ [] in
    let at = length files in
    let here : (entry_at now at).name ≡ name = ap (λ (f : FileEntry). f.name) (get_or_push files file (record { name = []; bytes = [] }) at refl) in
    let itself : bytes_eq name name ≡ true = (bytes_eq-Decides name name).1 refl in
    let nth : nth_of now name ≡ at =
    position_or_len_push (λ (f : FileEntry). bytes_eq f.name name) files file
    ∙ cond-true _ _ _ (eq-eqb (nth_of files name) at (nth-absent files name none))
    ∙ ap (λ b. at + cond b 0 1) itself
    ∙ add-zero at in
    let found : IsFound now at = record { inside = omega (arith, length_push files file); first = ap (nth_of now) here ∙ nth } in
    subst (λ n. IsNamed now n at) here (named-found now at found)

-- A file that is found stays where it is.
pub found-with_content : (files : List FileEntry) (name bytes : List ℕ) (k : ℕ) → IsFound files k → IsFound (with_content files name bytes) k
found-with_content files name bytes k found =
    let at = nth_of files name in
    elim (cases_lt at (length files)) [
      | inl inside ↦
          let is = named files name at (cond-true _ _ _ (lt-ltb at (length files) inside)) in
          subst (λ f. IsFound f k) (sym (with_content-named files name at bytes is)) (found-with_bytes files at k bytes found)
      | inr past ↦
          let none = ap (option_map (λ (file : FileEntry). file.bytes)) (slice_get_past files at past) in
          subst (λ f. IsFound f k) (sym (with_content-absent files name bytes none)) (found-push files (file_of name bytes) k found)
    ]
