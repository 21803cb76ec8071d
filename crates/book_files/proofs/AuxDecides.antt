-- What the aux reader decides of a line and of the end is what the rules say.
use Rattle.std.proofs.Common.{◌≡◌, ◌≢◌, ◌⊎◌, ℕ, zero, suc, ◌<◌, Bool, true, false, if◌then◌else◌, List, [], ◌∷◌, length, codes, option_to_list, slice_index_or, Option, Some, None, Result, Ok, Err, IsTrue, inl, inr, refl, sym, ap, subst, ◌∙◌, arith}
use Rattle.std.specs.List.{list_all}
use Rattle.std.proofs.lemmas.Bool.{cond-true, cond-false}
use Rattle.book_text.specs.Lines.{NumberedLine}
use Rattle.book_files.specs.declared.fault.TextKind.{TextKind}
use Rattle.book_files.specs.declared.fault.TextKind.TheVariants.{BadHeader, BadLine, BadNumber, CountMismatch}
use Rattle.book_files.specs.Words.{is_keyed}
use Rattle.book_files.specs.Entries.{AuxEntry}
use Rattle.book_files.specs.Aux.{is_file_name, named, behind_two}
use Rattle.book_files.specs.Forms.Aux.{aux_of, aux_by_suffix, names_of, aux_meaning, aux_ending, aux_form}
use Rattle.book_files.specs.AuxRules.{AreFileNames, IsMissingOrTwice, AreBadNames, IsAuxItem, IsAuxLineFault, IsAuxFile, aux_grammar}
use Rattle.book_files.specs.Shapes.{IsEmptyFault}
use Rattle.book_files.proofs.Bridge.{Decides}

-- what the five lists of names are where each suffix stands as often as it may
record AreParts (nodes nets wts pl scl : List (List ℕ)) (entry : AuxEntry) : Type 0 where
  nodes_one : nodes ≡ entry.nodes ∷ []
  nets_one : nets ≡ entry.nets ∷ []
  wts_few : wts ≡ option_to_list entry.wts
  pl_one : pl ≡ entry.pl ∷ []
  scl_one : scl ≡ entry.scl ∷ []

-- one of the four that are needed doesn't stand once, or the other stands twice
data AreBadParts (nodes nets wts pl scl : List (List ℕ)) : Type 0 where
  bad_nodes : length nodes ≢ 1 → AreBadParts nodes nets wts pl scl
  bad_nets : length nets ≢ 1 → AreBadParts nodes nets wts pl scl
  bad_wts : 1 < length wts → AreBadParts nodes nets wts pl scl
  bad_pl : length pl ≢ 1 → AreBadParts nodes nets wts pl scl
  bad_scl : length scl ≢ 1 → AreBadParts nodes nets wts pl scl

-- as the code has it: the entry, or BadLine
abbrev Parted : List (List ℕ) → List (List ℕ) → List (List ℕ) → List (List ℕ) → List (List ℕ) → Result AuxEntry TextKind → Type 0
Parted nodes nets wts pl scl (Ok entry) = AreParts nodes nets wts pl scl entry
Parted nodes nets wts pl scl (Err kind) = (BadLine ≡ kind) × AreBadParts nodes nets wts pl scl

parted : (nodes nets wts pl scl : List (List ℕ)) → Parted nodes nets wts pl scl (aux_of nodes nets wts pl scl)
parted [] nets wts pl scl = (refl, bad_nodes (λ e. cc))
parted (a ∷ b ∷ nodes) nets wts pl scl = (refl, bad_nodes (λ e. omega arith))
parted (n ∷ []) [] wts pl scl = (refl, bad_nets (λ e. cc))
parted (n ∷ []) (a ∷ b ∷ nets) wts pl scl = (refl, bad_nets (λ e. omega arith))
parted (n ∷ []) (e ∷ []) (a ∷ b ∷ wts) pl scl = (refl, bad_wts (omega arith))
parted (n ∷ []) (e ∷ []) [] [] scl = (refl, bad_pl (λ e. cc))
parted (n ∷ []) (e ∷ []) [] (a ∷ b ∷ pl) scl = (refl, bad_pl (λ e. omega arith))
parted (n ∷ []) (e ∷ []) [] (p ∷ []) [] = (refl, bad_scl (λ e. cc))
parted (n ∷ []) (e ∷ []) [] (p ∷ []) (a ∷ b ∷ scl) = (refl, bad_scl (λ e. omega arith))
parted (n ∷ []) (e ∷ []) [] (p ∷ []) (s ∷ []) = record { nodes_one = refl; nets_one = refl; wts_few = refl; pl_one = refl; scl_one = refl }
parted (n ∷ []) (e ∷ []) (w ∷ []) [] scl = (refl, bad_pl (λ e. cc))
parted (n ∷ []) (e ∷ []) (w ∷ []) (a ∷ b ∷ pl) scl = (refl, bad_pl (λ e. omega arith))
parted (n ∷ []) (e ∷ []) (w ∷ []) (p ∷ []) [] = (refl, bad_scl (λ e. cc))
parted (n ∷ []) (e ∷ []) (w ∷ []) (p ∷ []) (a ∷ b ∷ scl) = (refl, bad_scl (λ e. omega arith))
parted (n ∷ []) (e ∷ []) (w ∷ []) (p ∷ []) (s ∷ []) = record { nodes_one = refl; nets_one = refl; wts_few = refl; pl_one = refl; scl_one = refl }

-- bad parts are no entry's
not_both : (nodes nets wts pl scl : List (List ℕ)) (entry : AuxEntry) → AreParts nodes nets wts pl scl entry → AreBadParts nodes nets wts pl scl → ⊥
not_both nodes nets wts pl scl entry are (bad_nodes differ) = differ (ap length are.nodes_one)
not_both nodes nets wts pl scl entry are (bad_nets differ) = differ (ap length are.nets_one)
not_both nodes nets wts pl scl entry are (bad_wts many) = few entry.wts (ap length are.wts_few) where
  few : (o : Option (List ℕ)) → length wts ≡ length (option_to_list o) → ⊥
  few None e = omega arith
  few (Some w) e = omega arith
not_both nodes nets wts pl scl entry are (bad_pl differ) = differ (ap length are.pl_one)
not_both nodes nets wts pl scl entry are (bad_scl differ) = differ (ap length are.scl_one)

parts_back : (nodes nets wts pl scl : List (List ℕ)) (entry : AuxEntry) → AreParts nodes nets wts pl scl entry → aux_of nodes nets wts pl scl ≡ Ok entry
parts_back nodes nets wts pl scl entry are = rw (are.nodes_one, are.nets_one, are.wts_few, are.pl_one, are.scl_one) (weighed entry.wts refl) where
  weighed : (o : Option (List ℕ)) → entry.wts ≡ o → aux_of (entry.nodes ∷ []) (entry.nets ∷ []) (option_to_list o) (entry.pl ∷ []) (entry.scl ∷ []) ≡ Ok entry
  weighed None is = ap (λ w. Ok (record { nodes = entry.nodes; nets = entry.nets; wts = w; pl = entry.pl; scl = entry.scl })) (sym is)
  weighed (Some w) is = ap (λ w. Ok (record { nodes = entry.nodes; nets = entry.nets; wts = w; pl = entry.pl; scl = entry.scl })) (sym is)

bad_back : (nodes nets wts pl scl : List (List ℕ)) → AreBadParts nodes nets wts pl scl → aux_of nodes nets wts pl scl ≡ Err BadLine
bad_back nodes nets wts pl scl bad = by (aux_of nodes nets wts pl scl) (parted nodes nets wts pl scl) where
  by : (r : Result AuxEntry TextKind) → Parted nodes nets wts pl scl r → r ≡ Err BadLine
  by (Ok entry) are = absurd (not_both nodes nets wts pl scl entry are bad)
  by (Err kind) is = ap Err (sym is.0)

module _ (names : List (List ℕ)) where
  abbrev AreNamedParts : AuxEntry → Type 0
  AreNamedParts entry = AreParts (named (codes ".nodes") names) (named (codes ".nets") names) (named (codes ".wts") names) (named (codes ".pl") names) (named (codes ".scl") names) entry

  abbrev AreBadlyNamed : Type 0
  AreBadlyNamed = AreBadParts (named (codes ".nodes") names) (named (codes ".nets") names) (named (codes ".wts") names) (named (codes ".pl") names) (named (codes ".scl") names)

  bad_names : AreBadlyNamed → AreBadNames names
  bad_names (bad_nodes differ) = inr (inl (codes ".nodes", ((0, omega arith, refl), differ)))
  bad_names (bad_nets differ) = inr (inl (codes ".nets", ((1, omega arith, refl), differ)))
  bad_names (bad_wts many) = inr (inr many)
  bad_names (bad_pl differ) = inr (inl (codes ".pl", ((2, omega arith, refl), differ)))
  bad_names (bad_scl differ) = inr (inl (codes ".scl", ((3, omega arith, refl), differ)))

  needed : (k : ℕ) (suffix : List ℕ) → k < 4 → slice_index_or (codes ".nodes" ∷ codes ".nets" ∷ codes ".pl" ∷ codes ".scl" ∷ []) k suffix ≡ suffix → length (named suffix names) ≢ 1 → AreBadlyNamed
  needed zero suffix within is differ = bad_nodes (subst (λ s. length (named s names) ≢ 1) (sym is) differ)
  needed (suc zero) suffix within is differ = bad_nets (subst (λ s. length (named s names) ≢ 1) (sym is) differ)
  needed (suc (suc zero)) suffix within is differ = bad_pl (subst (λ s. length (named s names) ≢ 1) (sym is) differ)
  needed (suc (suc (suc zero))) suffix within is differ = bad_scl (subst (λ s. length (named s names) ≢ 1) (sym is) differ)
  needed (suc (suc (suc (suc k)))) suffix within is differ = absurd (omega arith)

  bad_names_back : ((suffix : List ℕ) × IsMissingOrTwice suffix names) ⊎ (1 < length (named (codes ".wts") names)) → AreBadlyNamed
  bad_names_back (inl bad) = let at = bad.1.0 in needed at.0 bad.0 at.1 at.2 bad.1.1
  bad_names_back (inr many) = bad_wts many

  -- the entry that the names make, or BadLine
  abbrev Named : Result AuxEntry TextKind → Type 0
  Named (Ok entry) = AreFileNames names entry
  Named (Err kind) = (BadLine ≡ kind) × AreBadNames names

  named_by : Named (names_of names)
  named_by = tested (list_all is_file_name names) refl where
    of_parts : list_all is_file_name names ≡ true → (r : Result AuxEntry TextKind)
        → Parted (named (codes ".nodes") names) (named (codes ".nets") names) (named (codes ".wts") names) (named (codes ".pl") names) (named (codes ".scl") names) r → Named r
    of_parts each (Ok entry) are = record { each = each; nodes = are.nodes_one; nets = are.nets_one; wts = are.wts_few; pl = are.pl_one; scl = are.scl_one }
    of_parts each (Err kind) bad = (bad.0, bad_names bad.1)

    tested : (b : Bool) → list_all is_file_name names ≡ b → Named (if b then aux_by_suffix names else Err BadLine)
    tested true each = of_parts each (aux_by_suffix names) (parted _ _ _ _ _)
    tested false none = (refl, inl none)

  named_back : (entry : AuxEntry) → AreFileNames names entry → names_of names ≡ Ok entry
  named_back entry are = cond-true (list_all is_file_name names) (aux_by_suffix names) (Err BadLine) are.each
      ∙ parts_back _ _ _ _ _ entry (record { nodes_one = are.nodes; nets_one = are.nets; wts_few = are.wts; pl_one = are.pl; scl_one = are.scl })

  badly_named_back : AreBadNames names → names_of names ≡ Err BadLine
  badly_named_back (inl none) = cond-false (list_all is_file_name names) (aux_by_suffix names) (Err BadLine) none
  badly_named_back (inr bad) = by (list_all is_file_name names) where
    by : (b : Bool) → (if b then aux_by_suffix names else Err BadLine) ≡ Err BadLine
    by true = bad_back _ _ _ _ _ (bad_names_back bad)
    by false = refl

-- what comes of the first line
abbrev Begun : NumberedLine → Result AuxEntry TextKind → Type 0
Begun line (Ok entry) = IsTrue (is_keyed (codes "rowbasedplacement") line.words) × AreFileNames (behind_two line.words) entry
Begun line (Err kind) = IsAuxLineFault [] line kind

begun_by : (line : NumberedLine) → Begun line (aux_meaning [] line)
begun_by line = tested (is_keyed (codes "rowbasedplacement") line.words) refl where
  of_names : is_keyed (codes "rowbasedplacement") line.words ≡ true → (r : Result AuxEntry TextKind) → Named (behind_two line.words) r → Begun line r
  of_names keyed (Ok entry) are = (keyed, are)
  of_names keyed (Err kind) bad = subst (λ k. IsAuxLineFault [] line k) bad.0 (keyed, bad.1)

  tested : (b : Bool) → is_keyed (codes "rowbasedplacement") line.words ≡ b → Begun line (if b then names_of (behind_two line.words) else Err BadHeader)
  tested true keyed = of_names keyed (names_of (behind_two line.words)) (named_by (behind_two line.words))
  tested false other = other

item : (before : List AuxEntry) (line : NumberedLine) (stated : AuxEntry) → aux_meaning before line ≡ Ok stated → IsAuxItem before line stated
item [] line stated means = let is = subst (Begun line) means (begun_by line) in record { first = refl; keyed = is.0; names = is.1 }
item (entry ∷ before) line stated means = cc

item_back : (before : List AuxEntry) (line : NumberedLine) (stated : AuxEntry) → IsAuxItem before line stated → aux_meaning before line ≡ Ok stated
item_back [] line stated is = cond-true (is_keyed (codes "rowbasedplacement") line.words) (names_of (behind_two line.words)) (Err BadHeader) is.keyed ∙ named_back (behind_two line.words) stated is.names
item_back (entry ∷ before) line stated is = let e = is.first in cc

fault : (before : List AuxEntry) (line : NumberedLine) (kind : TextKind) → aux_meaning before line ≡ Err kind → IsAuxLineFault before line kind
fault [] line kind means = subst (Begun line) means (begun_by line)
fault (entry ∷ before) line BadHeader means = cc
fault (entry ∷ before) line BadLine means = tt
fault (entry ∷ before) line BadNumber means = cc
fault (entry ∷ before) line (CountMismatch stated found) means = cc

fault_back : (before : List AuxEntry) (line : NumberedLine) (kind : TextKind) → IsAuxLineFault before line kind → aux_meaning before line ≡ Err kind
fault_back [] line BadHeader is = cond-false (is_keyed (codes "rowbasedplacement") line.words) (names_of (behind_two line.words)) (Err BadHeader) is
fault_back [] line BadLine is = cond-true (is_keyed (codes "rowbasedplacement") line.words) (names_of (behind_two line.words)) (Err BadHeader) is.0 ∙ badly_named_back (behind_two line.words) is.1
fault_back [] line BadNumber is = absurd is
fault_back [] line (CountMismatch stated found) is = absurd is
fault_back (entry ∷ before) line BadHeader is = absurd is
fault_back (entry ∷ before) line BadLine is = refl
fault_back (entry ∷ before) line BadNumber is = absurd is
fault_back (entry ∷ before) line (CountMismatch stated found) is = absurd is

file : (items : List AuxEntry) (entry : AuxEntry) → aux_ending items ≡ Ok entry → IsAuxFile items entry
file [] entry ends = cc
file (first ∷ items) entry ends = cc

file_back : (items : List AuxEntry) (entry : AuxEntry) → IsAuxFile items entry → aux_ending items ≡ Ok entry
file_back [] entry is = absurd is
file_back (first ∷ items) entry is = ap Ok (sym is)

end : (items : List AuxEntry) (kind : TextKind) → aux_ending items ≡ Err kind → IsEmptyFault items kind
end [] BadHeader ends = tt
end [] BadLine ends = cc
end [] BadNumber ends = cc
end [] (CountMismatch stated found) ends = cc
end (first ∷ items) kind ends = cc

end_back : (items : List AuxEntry) (kind : TextKind) → IsEmptyFault items kind → aux_ending items ≡ Err kind
end_back [] BadHeader is = refl
end_back [] BadLine is = absurd is
end_back [] BadNumber is = absurd is
end_back [] (CountMismatch stated found) is = absurd is
end_back (first ∷ items) kind is = absurd is

pub aux_decided : Decides aux_form aux_grammar
aux_decided = record { item = item; item_back = item_back; named = fault; named_back = fault_back; file = file; file_back = file_back; end = end; end_back = end_back }
