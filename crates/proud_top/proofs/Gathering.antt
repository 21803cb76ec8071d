-- From what the reading of one file answered to what the reading of all says.
use Rattle.std.proofs.Common.{◌≡◌, ◌⊎◌, ◌+◌, ◌<◌, ℕ, suc, zero, min, List, Option, Some, None, IfSome, Ok, Err, refl, sym, ◌∙◌, ap, subst, inl, inr, lit<, arith}
use Rattle.std.specs.Prelude.{◌-◌, ◌^◌, Vec, IsSome, option_map}
use Rattle.std.specs.declared.alloc.Global.{Global}
use Rattle.std.proofs.lemmas.Bool.{cases_order}
use Rattle.book_outer.specs.Cause.{Rose, one_more}
use Rattle.book_outer.specs.Files.{FileEntry, content}
use Rattle.book_outer.specs.Folder.{missed_after}
use Rattle.book_outer.specs.State.{FolderState}
use Rattle.book_files.specs.declared.records.FileKind.{FileKind}
use Rattle.book_files.specs.declared.records.FileKind.TheVariants.{Aux, Nodes, Nets, Wts, Pl, Scl, Schedule}
use Rattle.book_files.specs.Entries.{AuxEntry}
use Rattle.book_files.specs.Grammar.{IsReading}
use Rattle.book_files.specs.AuxRules.{aux_grammar}
use Rattle.proud_top.specs.declared.status.Refusal.{Refusal}
use Rattle.proud_top.specs.declared.status.Refusal.TheVariants.{TooLong, Text}
use Rattle.proud_top.specs.declared.stop.Stop.{Stop}
use Rattle.proud_top.specs.declared.stop.Stop.TheVariants.{ReadFault, Refused, Memory}
use Rattle.proud_top.specs.Beside.{beside}
use Rattle.proud_top.specs.Order.{rank, name_of, nth_of, weight_files}
use Rattle.proud_top.specs.Accepted.{IsAccepted, IsNextFile, IsFaultOf, HasBegun}
use Rattle.proud_top.specs.Flow.{reads_design}
use Rattle.proud_top.specs.Statuses.{HasReadUpTo, IsUntouched}
use Rattle.proud_top.specs.Forms.Inputs.{IsSoundText, Holds, HoldsWeights}
use Rattle.proud_top.specs.Forms.Stops.{StopsReading, Gathers, IsOfSource}
use Rattle.proud_top.specs.Forms.Gathering.{BeginsOne, Loads, Looks, Began, AreAccepted, HasReadBelow, AreNames, IsNext, IsText, Steps, StepsWeights}
use Rattle.proud_top.proofs.Once.{rank_once, one_text}

-- what holds where the files are known
pub known : {X : Type 0} {Q : X → Type 0} (o : Option X) → ((x : X) → o ≡ Some x → Q x) → IfSome o Q
known None f = tt
known (Some x) f = f x refl

pub get : {X : Type 0} (P : X → Type 0) (o : Option X) (x : X) → o ≡ Some x → IfSome o P → P x
get {X = X} P o x e h =
    let Q : Option X → Type 0 = λ y. IfSome y P in
    subst Q e h

pub untouched_more : (old now new : FolderState) → IsUntouched old now → IsUntouched now new → IsUntouched old new
untouched_more old now new h k = record { files = k.files ∙ h.files; write_faults = k.write_faults ∙ h.write_faults }

grow : (most b m n k : ℕ) → m ≡ min (b + k) most → n ≡ min (m + 1) most → n ≡ min (b + suc k) most
grow most b m n k h e = omega arith

first : (most b m n : ℕ) → m ≡ b → n ≡ min (m + 1) most → n ≡ min (b + 1) most
first most b m n h e = omega arith

begun_more : (old now new : FolderState) (m : ℕ) → Began old now m → new.begun ≡ one_more now.begun → HasBegun old new (suc m)
begun_more old now new zero h e = first (2 ^ 64 - 1) old.begun now.begun new.begun h e
begun_more old now new (suc n) h e = grow (2 ^ 64 - 1) old.begun now.begun new.begun (suc n) h e

pub there_missed : (files : List FileEntry) (name text : List ℕ) (before : ℕ) → content files name ≡ Some text → missed_after (Some files) name before ≡ before
there_missed files name text before e = rw e refl

pub found_missed : (files : List FileEntry) (name : List ℕ) (before : ℕ) → IsSome (content files name) → missed_after (Some files) name before ≡ before
found_missed files name before e = rw e refl

-- the next file, where the files are known
next_file : (old now : FolderState) (word : List ℕ) (names : AuxEntry) (kind : FileKind) (name : List ℕ) (m : ℕ) (files : List FileEntry)
    → old.files ≡ Some files → IsNext old now word names kind name m → IsNextFile files word kind name (suc m)
next_file old now word names kind name m files e n = record {
  names = names;
  aux = λ later. get _ old.files files e (n.aux later);
  accepted = get _ old.files files e n.below.accepted;
  named = n.named;
  counted = sym n.counted;
}

-- none is missed where the file is there
missed_same : (old now new : FolderState) (files : List FileEntry) (name text : List ℕ) → old.files ≡ Some files → now.files ≡ Some files → new.missed ≡ missed_after now.files name now.missed
    → IfSome old.files (λ known. now.missed ≡ old.missed) → content files name ≡ Some text → new.missed ≡ old.missed
missed_same old now new files name text e f after before there =
    let M : Option (List FileEntry) → Type 0 = λ o. new.missed ≡ missed_after o name now.missed in
    subst M f after ∙ there_missed files name text now.missed there ∙ get _ old.files files e before

missed_found : (old now new : FolderState) (files : List FileEntry) (name : List ℕ) → old.files ≡ Some files → now.files ≡ Some files → new.missed ≡ missed_after now.files name now.missed
    → IfSome old.files (λ known. now.missed ≡ old.missed) → IsSome (content files name) → new.missed ≡ old.missed
missed_found old now new files name e f after before there =
    let M : Option (List FileEntry) → Type 0 = λ o. new.missed ≡ missed_after o name now.missed in
    subst M f after ∙ found_missed files name now.missed there ∙ get _ old.files files e before

-- the file of the kind was the last
read_up_to : (old now new : FolderState) (word : List ℕ) (names : AuxEntry) (kind : FileKind) (name text : List ℕ) (m : ℕ) → IsNext old now word names kind name m → BeginsOne name now new
    → IfSome now.files (λ files. content files name ≡ Some text) → new.read_faults ≡ now.read_faults → HasReadUpTo kind word old new
read_up_to old now new word names kind name text m n b there same = record {
  begun = known old.files (λ files e. record {
    name = name;
    nth = suc m;
    next = next_file old now word names kind name m files e n;
    begun = begun_more old now new m n.below.begun b.begun;
    present = missed_same old now new files name text e (n.below.untouched.files ∙ e) b.missed n.below.missed (get _ now.files files (n.below.untouched.files ∙ e) there);
  });
  reads = same ∙ n.below.read_faults;
}

-- the text of the next file
text_there : (old now new : FolderState) (word : List ℕ) (names : AuxEntry) (kind : FileKind) (name text : List ℕ) (m : ℕ) → IsNext old now word names kind name m
    → IfSome now.files (λ files. content files name ≡ Some text) → IfSome old.files (λ files. content files name ≡ Some text)
text_there old now new word names kind name text m n there = known old.files (λ files e. get _ now.files files (n.below.untouched.files ∙ e) there)

-- the next file of a source is no schedule
file_of_source : (word : List ℕ) (names : AuxEntry) (kind : FileKind) (name : List ℕ) → name_of word names kind ≡ Some name → IsOfSource kind
file_of_source word names Aux name is = lit< tt
file_of_source word names Nodes name is = lit< tt
file_of_source word names Nets name is = lit< tt
file_of_source word names Wts name is = lit< tt
file_of_source word names Pl name is = lit< tt
file_of_source word names Scl name is = lit< tt
file_of_source word names Schedule name is = absurd (let x : ⊥ = cc in x)

-- the load of the next file stopped
pub load_stops : (kind : FileKind) (name : List ℕ) (old now new : FolderState) (word : List ℕ) (names : AuxEntry) (m : ℕ) (stop : Stop)
    → IsNext old now word names kind name m → Loads kind name now new (Err stop) → StopsReading old new word stop
load_stops kind name old now new word names m (Refused refusal) n h =
    let S : Refusal → Type 0 = λ r. StopsReading old new word (Refused r) in
    subst S (sym h.1) (
      untouched_more old now new n.below.untouched h.0.untouched,
      long old.files refl,
      record {
        begun = known old.files (λ files e. record {
          name = name;
          nth = suc m;
          next = next_file old now word names kind name m files e n;
          begun = begun_more old now new m n.below.begun h.0.begun;
          present =
              let l = get _ now.files files (n.below.untouched.files ∙ e) h.2 in
              missed_same old now new files name l.text e (n.below.untouched.files ∙ e) h.0.missed n.below.missed l.there;
        });
        reads = h.3 ∙ n.below.read_faults;
      },
      record { node = refl; cell = refl; point = refl },
      file_of_source word names kind name n.named,
    ) where
      long : (o : Option (List FileEntry)) → old.files ≡ o → reads_design o word (Err (TooLong kind))
      long None e = tt
      long (Some files) e = record { name = name; nth = suc m; next = next_file old now word names kind name m files e n; long = get _ now.files files (n.below.untouched.files ∙ e) h.2 }
load_stops kind name old now new word names m (ReadFault other) n h =
    let S : FileKind → Type 0 = λ k. StopsReading old new word (ReadFault k) in
    let R : ℕ → Type 0 = λ before. Rose before new.read_faults in
    subst S (sym h.1) (
      untouched_more old now new n.below.untouched h.0.untouched,
      subst R n.below.read_faults h.2,
      known old.files (λ files e. record {
        name = name;
        nth = suc m;
        next = next_file old now word names kind name m files e n;
        begun = begun_more old now new m n.below.begun h.0.begun;
        present = λ there. missed_found old now new files name e (n.below.untouched.files ∙ e) h.0.missed n.below.missed there;
      }),
      file_of_source word names kind name n.named,
    )
load_stops kind name old now new word names m Memory n h = (untouched_more old now new n.below.untouched h.0.untouched, h.1 ∙ n.below.read_faults)

-- its look stopped
pub look_stops : (kind : FileKind) (name text : List ℕ) (bytes : Vec ℕ Global) (old now new : FolderState) (word : List ℕ) (names : AuxEntry) (m : ℕ) (stop : Stop) → text ≡ bytes.items
    → IsNext old now word names kind name m → Loads kind name now new (Ok bytes) → Looks kind text (Err stop) → StopsReading old new word stop
look_stops kind name text bytes old now new word names m (Refused refusal) same n h (fault, is, faulty) =
    let S : Refusal → Type 0 = λ r. StopsReading old new word (Refused r) in
    subst S (sym is) (
      untouched_more old now new n.below.untouched h.0.untouched,
      bad old.files refl,
      read_up_to old now new word names kind name bytes.items m n h.0 h.1 h.3,
      record { node = refl; cell = refl; point = refl },
      file_of_source word names kind name n.named,
    ) where
      bad : (o : Option (List FileEntry)) → old.files ≡ o → reads_design o word (Err (Text kind fault))
      bad None e = tt
      bad (Some files) e =
          let F : List ℕ → Type 0 = λ t. IsFaultOf kind t fault in
          record {
            name = name;
            nth = suc m;
            next = next_file old now word names kind name m files e n;
            text = bytes.items;
            there = get _ now.files files (n.below.untouched.files ∙ e) h.1;
            short = h.2;
            faulty = subst F same faulty;
          }
look_stops kind name text bytes old now new word names m (ReadFault other) same n h k = absurd k
look_stops kind name text bytes old now new word names m Memory same n h k = (untouched_more old now new n.below.untouched h.0.untouched, h.3 ∙ n.below.read_faults)

-- it was read
pub next_read : (kind : FileKind) (name text : List ℕ) (bytes : Vec ℕ Global) (old now new : FolderState) (word : List ℕ) (names : AuxEntry) (m : ℕ) → text ≡ bytes.items
    → IsNext old now word names kind name m → Loads kind name now new (Ok bytes) → Looks kind text (Ok tt) → Steps old new word names kind name m (Ok bytes)
next_read kind name text bytes old now new word names m same n h k =
    let L : List ℕ → Type 0 = λ t. Looks kind t (Ok tt) in
    let looked = subst L same k in
    let there = text_there old now new word names kind name bytes.items m n h.1 in
    let up_to = read_up_to old now new word names kind name bytes.items m n h.0 h.1 h.3 in (
      record { there = there; sound = record { short = h.2; clean = looked.1 }; readable = looked.0 },
      record {
        untouched = untouched_more old now new n.below.untouched h.0.untouched;
        read_faults = up_to.reads;
        begun = begun_more old now new m n.below.begun h.0.begun;
        missed = known old.files (λ files e. missed_same old now new files name bytes.items e (n.below.untouched.files ∙ e) h.0.missed n.below.missed (get _ old.files files e there));
        accepted = known old.files (λ files e. accepted files e (get _ old.files files e n.below.accepted) (get _ old.files files e there));
      },
    ) where
      accepted : (files : List FileEntry) → old.files ≡ Some files → AreAccepted files word names (rank kind) → content files name ≡ Some bytes.items → AreAccepted files word names (suc (rank kind))
      accepted files e below there before path less named = by_order (cases_order (rank before) (rank kind)) where
        by_order : (rank before ≡ rank kind) ⊎ ((rank before < rank kind) ⊎ (rank kind < rank before)) → IsAccepted files path before
        by_order (inr (inl earlier)) = below before path earlier named
        by_order (inr (inr later)) = absurd (omega arith)
        by_order (inl alike) =
            let kinds : kind ≡ before = sym (rank_once before kind alike) in
            let N : FileKind → Type 0 = λ x. name_of word names x ≡ Some name in
            let path_is : name ≡ path = one_text _ _ (sym (subst N kinds n.named) ∙ named) in
            let L : List ℕ → Type 0 = λ t. Looks kind t (Ok tt) in
            let own : IsAccepted files name kind = record { text = bytes.items; there = there; short = h.2; readable = (subst L same k).0 } in
            let P : FileKind → Type 0 = λ x. IsAccepted files name x in
            let Q : List ℕ → Type 0 = λ p. IsAccepted files p before in
            subst Q path_is (subst P kinds own)

-- the aux file is the first
pub first_next : (old : FolderState) (word : List ℕ) (names : AuxEntry) → IsNext old old word names Aux word 0
first_next old word names = record {
  below = record {
    untouched = record { files = refl; write_faults = refl };
    read_faults = refl;
    begun = refl;
    missed = known old.files (λ files e. refl);
    accepted = known old.files (λ files e before path less named. absurd (none (rank before) less));
  };
  aux = λ later. absurd (none 0 later);
  named = refl;
  counted = refl;
} where
  none : (n : ℕ) → n < 0 → ⊥
  none n less = omega arith

-- its names
pub names_are : (old : FolderState) (word text shown : List ℕ) (names : AuxEntry) → shown ≡ text → IsText old word Aux text → IsReading aux_grammar shown names → AreNames old word names
names_are old word text shown names same h reading =
    let P : List ℕ → Type 0 = λ t. IsReading aux_grammar t names in
    known old.files (λ files e. record { text = text; there = get _ old.files files e h.there; short = h.sound.short; reading = subst P same reading })

-- the files behind it
pub later_next : (old now : FolderState) (word : List ℕ) (names : AuxEntry) (kind : FileKind) (name : List ℕ) (n m : ℕ) → n ≡ rank kind → name_of word names kind ≡ Some name → nth_of names kind ≡ suc m
    → HasReadBelow old now word names n m → AreNames old word names → IsNext old now word names kind name m
later_next old now word names kind name n m ranks named counted h aux =
    let P : ℕ → Type 0 = λ k. HasReadBelow old now word names k m in
    record { below = subst P ranks h; aux = λ later. aux; named = named; counted = counted }

-- no file of weights is named
pub skip_weights : (old now : FolderState) (word : List ℕ) (names : AuxEntry) → names.wts ≡ None → HasReadBelow old now word names 3 3 → HasReadBelow old now word names 4 3
skip_weights old now word names none h = record {
  untouched = h.untouched;
  read_faults = h.read_faults;
  begun = h.begun;
  missed = h.missed;
  accepted = known old.files (λ files e before path less named. by_order files e before path named (cases_order (rank before) 3) less);
} where
  no_name : (path : List ℕ) → option_map (beside word) names.wts ≡ Some path → ⊥
  no_name path named = clash (rw none at named) where
    clash : None ≡ Some path → ⊥
    clash c = cc

  by_order : (files : List FileEntry) → old.files ≡ Some files → (before : FileKind) (path : List ℕ) → name_of word names before ≡ Some path
      → (rank before ≡ 3) ⊎ ((rank before < 3) ⊎ (3 < rank before)) → rank before < 4 → IsAccepted files path before
  by_order files e before path named (inr (inl earlier)) less = (get _ old.files files e h.accepted) before path earlier named
  by_order files e before path named (inr (inr later)) less = absurd (omega arith)
  by_order files e before path named (inl alike) less =
      let kinds : before ≡ Wts = rank_once before Wts alike in
      let N : FileKind → Type 0 = λ x. name_of word names x ≡ Some path in
      absurd (no_name path (subst N kinds named))

-- the file of weights is the next
pub weights_next : (old now : FolderState) (word name : List ℕ) (names : AuxEntry) → names.wts ≡ Some name → HasReadBelow old now word names 3 3 → AreNames old word names → IsNext old now word names Wts (beside word name) 3
weights_next old now word name names e h aux = record { below = h; aux = λ later. aux; named = ap (option_map (beside word)) e; counted = refl }

pub weights_below : (old new : FolderState) (word : List ℕ) (names : AuxEntry) (wts : Option (List ℕ)) (bytes : Option (Vec ℕ Global)) → names.wts ≡ wts
    → StepsWeights old new word names (Ok bytes) wts → HasReadBelow old new word names 4 (3 + weight_files names.wts)
weights_below old new word names None None e h =
    let N : Option (List ℕ) → Type 0 = λ o. HasReadBelow old new word names 4 (3 + weight_files o) in
    subst N (sym e) h
weights_below old new word names None (Some bytes) e h = absurd h
weights_below old new word names (Some name) None e h = absurd h
weights_below old new word names (Some name) (Some bytes) e h =
    let N : Option (List ℕ) → Type 0 = λ o. HasReadBelow old new word names 4 (3 + weight_files o) in
    subst N (sym e) h.1

-- the bytes of a file that may be there
abbrev pub texts_of : Option (Vec ℕ Global) → Option (List ℕ)
texts_of found = option_map (λ bytes. bytes.items) found

holds : (old : FolderState) (files : List FileEntry) (kind : FileKind) (name text : List ℕ) → old.files ≡ Some files → IsText old name kind text → Holds files name text
holds old files kind name text e h = record { there = get _ old.files files e h.there; short = h.sound.short }

weights_held : (old new : FolderState) (files : List FileEntry) (word : List ℕ) (names : AuxEntry) (wts : Option (List ℕ)) (bytes : Option (Vec ℕ Global)) → old.files ≡ Some files
    → StepsWeights old new word names (Ok bytes) wts → HoldsWeights files word wts (texts_of bytes)
weights_held old new files word names None None e h = tt
weights_held old new files word names None (Some bytes) e h = absurd h
weights_held old new files word names (Some name) None e h = absurd h
weights_held old new files word names (Some name) (Some bytes) e h = holds old files Wts (beside word name) bytes.items e h.0

pub weights_sound : (old new : FolderState) (word : List ℕ) (names : AuxEntry) (wts : Option (List ℕ)) (bytes : Option (Vec ℕ Global)) → StepsWeights old new word names (Ok bytes) wts
    → IfSome (texts_of bytes) (λ text. IsSoundText Wts text)
weights_sound old new word names wts None h = tt
weights_sound old new word names None (Some bytes) h = absurd h
weights_sound old new word names (Some name) (Some bytes) h = h.0.sound

-- all were read
pub gathered : (old mid now new : FolderState) (word : List ℕ) (names : AuxEntry) (m : ℕ) (nodes nets pl scl : List ℕ) (wts : Option (Vec ℕ Global)) → AreNames old word names
    → IsText old (beside word names.nodes) Nodes nodes → IsText old (beside word names.nets) Nets nets → StepsWeights old mid word names (Ok wts) names.wts
    → IsText old (beside word names.pl) Pl pl → IsText old (beside word names.scl) Scl scl
    → IsNext old now word names Scl (beside word names.scl) m → HasReadBelow old new word names 6 (suc m)
    → Gathers old new word (Ok (record { nodes = nodes; nets = nets; wts = texts_of wts; pl = pl; scl = scl }))
gathered old mid now new word names m nodes nets pl scl wts are nodes_text nets_text weights pl_text scl_text n h = (
  h.untouched,
  known old.files (λ files e. record {
    names = names;
    aux = get _ old.files files e are;
    nodes = holds old files Nodes (beside word names.nodes) nodes e nodes_text;
    nets = holds old files Nets (beside word names.nets) nets e nets_text;
    wts = weights_held old mid files word names names.wts wts e weights;
    pl = holds old files Pl (beside word names.pl) pl e pl_text;
    scl = holds old files Scl (beside word names.scl) scl e scl_text;
  }),
  record {
    begun = known old.files (λ files e. record {
      name = beside word names.scl;
      nth = suc m;
      next = next_file old now word names Scl (beside word names.scl) m files e n;
      begun = h.begun;
      present = get _ old.files files e h.missed;
    });
    reads = h.read_faults;
  },
)
