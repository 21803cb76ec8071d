-- The places of nodes.
use Rattle.std.proofs.Common.{◌≡◌, ◌≢◌, ℕ, ◌+◌, ◌<◌, Bool, true, false, cond, List, [], ◌∷◌, Option, Some, None, zero, suc, refl, sym, ap, ◌∙◌, subst, ⊎_elim, arith, length, get_or, map, take, option_map, is_some, pos}
use Rattle.std.specs.List.{filter}
use Rattle.std.specs.Borrow.{Bor}
use Rattle.std.specs.Str.{bytes_eq}
use Rattle.std.specs.BTreeMap.{BTreeMap}
use Rattle.std.proofs.lemmas.Bool.{cases_eq}
use Rattle.std.proofs.lemmas.Slice.Eq.{bytes_eq-Decides}
use Rattle.book_files.specs.Words.{last_of}
use Rattle.book_files.specs.declared.records.NodeLine.{NodeLine}
use Rattle.book_files.specs.declared.records.WeightLine.{WeightLine}
use Rattle.book_files.specs.Entries.{NodeEntry, PlaceEntry, WeightEntry, node_entry, weight_entries}
use Rattle.book_design.specs.declared.fault.DesignFault.TheVariants.{NoPosition}
use Rattle.book_design.specs.declared.parts.Node.{Node}
use Rattle.book_design.specs.declared.sources.Sources.{Sources}
use Rattle.book_design.specs.Records.{Records, last_place, node_at, weight_lines}
use Rattle.book_design.specs.Joined.{place_at, joined_node}
use Rattle.book_design.specs.Values.{node_values}
use Rattle.book_design.specs.Faults.{IsWithoutPlace}
use Rattle.book_design.specs.Forms.Steps.{IsFirstFrom}
use Rattle.book_design.specs.Forms.Numbers.{number_in, AreNumbers, IsLast, IsLastNumber}
use Rattle.book_design.specs.Forms.Sources.{records_of, place_name, entry_name, last_entry}
use Rattle.book_design.proofs.Looking.{last_by_number, apart, filter-none}
use Rattle.book_design.proofs.Ranks.{first_of_rank}

pub last_place_found : (records : Records) (numbers : BTreeMap (Bor (List ℕ)) ℕ) (name : List ℕ) (found : Option ℕ) → found ≡ number_in numbers name → AreNumbers (place_name records) (length records.places) numbers → last_place records name ≡ option_map (place_at records) found
last_place_found records numbers name found e h = last_by_number (λ (p : PlaceEntry). p.name) records.places _ name found (rw e (h.last name))

pub found_last : (name_at : ℕ → List ℕ) (count : ℕ) (numbers : BTreeMap (Bor (List ℕ)) ℕ) (name : List ℕ) (i : ℕ) → Some i ≡ number_in numbers name → AreNumbers name_at count numbers → IsLast name_at count name i
found_last name_at count numbers name i e h = subst (IsLastNumber name_at count name) (sym e) (h.last name)

pub last_of-some : {X : Type 0} (x : X) (ys : List X) → last_of (x ∷ ys) ≡ None → ⊥
last_of-some x [] e = cc
last_of-some x (y ∷ ys) e = last_of-some y ys e

fails_first : {X : Type 0} (b : Bool) (x : X) (ys : List X) → last_of (cond b (x ∷ ys) ys) ≡ None → (b ≡ false) × (last_of ys ≡ None)
fails_first true x ys e = absurd (last_of-some x ys e)
fails_first false x ys e = (refl, e)

none_passes : {X : Type 0} (p : X → Bool) (xs : List X) (d : X) → last_of (filter p xs) ≡ None → (k : ℕ) → k < length xs → p (get_or xs k d) ≡ false
none_passes p [] d e k below = absurd (omega arith)
none_passes p (x ∷ xs) d e zero below = (fails_first (p x) x (filter p xs) e).0
none_passes p (x ∷ xs) d e (suc k) below = none_passes p xs d (fails_first (p x) x (filter p xs) e).1 k (omega arith)

absent : (records : Records) (name : List ℕ) → last_place records name ≡ None → (k : ℕ) → k < length records.places → (place_at records k).name ≢ name
absent records name e k below same =
    let no : bytes_eq (place_at records k).name name ≡ false = none_passes (λ place. bytes_eq place.name name) records.places _ e k below in
    let yes : bytes_eq (place_at records k).name name ≡ true = (bytes_eq-Decides (place_at records k).name name).1 same in
    absurd cc

no_last : (records : Records) (name : List ℕ) → ((k : ℕ) → k < length records.places → (place_at records k).name ≢ name) → last_place records name ≡ None
no_last records name h = ap (last_of {A = PlaceEntry}) (filter-none (λ place. bytes_eq place.name name) records.places _ (λ k below. apart (place_at records k).name name (h k below)))

-- the line that a read past the end gives
abbrev pub no_line : NodeLine
no_line = record { line = 0; name = record { 0 = record { ref_ptr = (0, 0); now = [] } }; width = record { 0 = pos 0 }; height = record { 0 = pos 0 }; fixed = false; overlap = false }

-- what holds of the first so many nodes, in the loop over them
pub record ArePlaced (sources : Sources) (i : ℕ) (made : List Node) : Type 0 where
  pub nodes : node_values made ≡ map (λ line. joined_node (records_of sources) (node_entry line)) (take i sources.nodes.now)
  pub positioned : (j : ℕ) → j < i → IsWithoutPlace (records_of sources) j → ⊥

-- a terminal whose name the last place isn't found of
pub without_place : (records : Records) (i : ℕ) (node : NodeEntry) {X : Type 0} (view : X → PlaceEntry) (place : Option X) → i < length records.nodes → node_at records i ≡ node → option_map view place ≡ last_place records node.name → node.fixed ≡ true → is_some place ≡ false → ((j : ℕ) → j < i → IsWithoutPlace records j → ⊥) → IsFirstFrom records 3 (NoPosition i)
without_place records i node view (Some place) there same e fixed none before = absurd cc
without_place records i node view None there same e fixed none before = first_of_rank records 3 (NoPosition i) refl (record {
  here = record {
    there = there;
    fixed = ap (λ (n : NodeEntry). n.fixed) same ∙ fixed;
    absent = λ k below. rw same (absent records node.name (sym e) k below);
  };
  not_before = before;
})

-- the node isn't without a place
pub with_place : (records : Records) (i : ℕ) (node : NodeEntry) {X : Type 0} (view : X → PlaceEntry) (place : Option X) → node_at records i ≡ node → option_map view place ≡ last_place records node.name → is_some place ≡ true → IsWithoutPlace records i → ⊥
with_place records i node view (Some place) same e some h = let none : last_place records node.name ≡ None = no_last records node.name (rw same at h.absent) in absurd cc
with_place records i node view None same e some h = absurd cc

pub positioned_more : (records : Records) (i : ℕ) → ((j : ℕ) → j < i → IsWithoutPlace records j → ⊥) → (IsWithoutPlace records i → ⊥) → (j : ℕ) → j < i + 1 → IsWithoutPlace records j → ⊥
positioned_more records i before here j below h = ⊎_elim (λ (e : j ≡ i). here (subst (IsWithoutPlace records) e h)) (λ apart. before j (omega arith) h) (cases_eq j i)

-- the lines of the weights file
pub lines_are : (sources : Sources) (lines : Bor (List WeightLine)) → sources.weights ≡ Some lines → weight_lines (records_of sources) ≡ weight_entries lines.now
lines_are sources lines e = rw e refl

pub no_lines : (sources : Sources) → sources.weights ≡ None → weight_lines (records_of sources) ≡ []
no_lines sources e = rw e refl

pub last_entry_found : (lines : List WeightEntry) (numbers : BTreeMap (Bor (List ℕ)) ℕ) (name : List ℕ) (found : Option ℕ) → found ≡ number_in numbers name → AreNumbers (entry_name lines) (length lines) numbers → last_entry lines name ≡ option_map (λ i. get_or lines i (record { name = []; weight = pos 0 })) found
last_entry_found lines numbers name found e h = last_by_number (λ (w : WeightEntry). w.name) lines _ name found (rw e (h.last name))
