-- The bytes that a load has read so far are a front of what the file holds.
use Rattle.std.proofs.Common.{◌≡◌, ℕ, ◌+◌, ◌-◌, ◌<◌, ◌≤◌, List, [], ◌++◌, length, take, drop, Option, Some, None, IsSome, IfSome, Ok, refl, ap, ◌∙◌, subst, arith, append_assoc, append-nil, length-append}
use Rattle.std.specs.Option.{unwrap_or}
use Rattle.std.proofs.lemmas.List.{take-append-drop, take_at, length-take-le, take-take, take-append-le}
use Rattle.std.proofs.Math.Seq.{drop-append_seam}
use Rattle.book_outer.specs.Files.{FileEntry, content}
use Rattle.book_outer.specs.Folder.{Reading, Begins, Reads, TakesFront}

-- the file is there and begins with the bytes, and is read on behind them
pub record IsReadOn (files : List FileEntry) (reading : Option Reading) (name bytes : List ℕ) : Type 0 where
  pub rest : List ℕ
  pub there : content files name ≡ Some (bytes ++ rest)
  pub on : reading ≡ Some (record { name = name; at = length bytes })

-- the bytes are a front of what the file holds, where the files are known
abbrev pub IsFront : Option (List FileEntry) → Option Reading → List ℕ → List ℕ → Type 0
IsFront None reading name bytes = IsSome reading
IsFront (Some files) reading name bytes = IsReadOn files reading name bytes

some_bytes : (found : Option (List ℕ)) → IsSome found → (bytes : List ℕ) × (found ≡ Some bytes)
some_bytes None h = cc
some_bytes (Some bytes) h = (bytes, refl)

-- at the file's start nothing was read
pub IsFront-begin : (files : Option (List FileEntry)) (name : List ℕ) (reading : Option Reading) → Begins files name (Ok tt) reading → IsFront files reading name []
IsFront-begin None name reading h = h
IsFront-begin (Some files) name reading h =
    let found = some_bytes (content files name) h.0 in
    record { rest = found.0; there = found.1; on = h.1 }

-- while it is read some file is begun
pub IsSome-front : (files : Option (List FileEntry)) (reading : Option Reading) (name bytes : List ℕ) → IsFront files reading name bytes → IsSome reading
IsSome-front None reading name bytes h = h
IsSome-front (Some files) reading name bytes h = rw h.on refl

-- what is left of the file behind the bytes
rest-is : (found : Option (List ℕ)) (bytes rest : List ℕ) → found ≡ Some (bytes ++ rest) → drop (length bytes) (unwrap_or found []) ≡ rest
rest-is found bytes rest there = rw there (drop-append_seam bytes rest)

-- the buffer's front after a read
take-front : (rest buffer after : List ℕ) (n : ℕ) → TakesFront rest buffer after n → take n after ≡ take n rest
take-front rest buffer after n h = rw h.front (take_at (take n rest) (drop n buffer) n (length-take-le n rest h.there))

-- a read puts the next bytes behind those so far
IsReadOn-read : (files : List FileEntry) (new : Option Reading) (name bytes rest buffer after : List ℕ) (n : ℕ)
    → content files name ≡ Some (bytes ++ rest) → TakesFront rest buffer after n
    → new ≡ Some (record { name = name; at = length bytes + n }) → IsReadOn files new name (bytes ++ take n after)
IsReadOn-read files new name bytes rest buffer after n there taken on =
    let same = take-front rest buffer after n taken in
    record {
      rest = drop n rest;
      there = rw (same, append_assoc, take-append-drop) there;
      on = rw (same, length-append, length-take-le n rest taken.there) on;
    }

-- the read of a known file, of what is left of it
TakesFront-known : (files : List FileEntry) (reading new : Option Reading) (name bytes buffer after : List ℕ) (n : ℕ)
    → (h : IsReadOn files reading name bytes) → Reads (Some files) reading buffer after (Ok n) new
    → TakesFront h.rest buffer after n × (new ≡ Some (record { name = name; at = length bytes + n }))
TakesFront-known files reading new name bytes buffer after n h r =
    let on = rw h.on at r in
    (subst (λ (rest : List ℕ). TakesFront rest buffer after n) (rest-is (content files name) bytes h.rest h.there) on.1.0, on.1.1)

pub IsFront-read : (files : Option (List FileEntry)) (reading new : Option Reading) (name bytes buffer after : List ℕ) (n : ℕ)
    → IsFront files reading name bytes → Reads files reading buffer after (Ok n) new → IsFront files new name (bytes ++ take n after)
IsFront-read None reading new name bytes buffer after n h r = r.1
IsFront-read (Some files) reading new name bytes buffer after n h r =
    let taken = TakesFront-known files reading new name bytes buffer after n h r in
    IsReadOn-read files new name bytes h.rest buffer after n h.there taken.0 taken.1

-- the front of a buffer of the given length, as it was lent
pub take-lent : (n len : ℕ) (buffer rest : List ℕ) → length buffer ≡ len → n ≤ len → take n (take len (buffer ++ rest)) ≡ take n buffer
take-lent n len buffer rest whole h =
    let short : n ≤ length buffer = omega arith in
    take-take n len (buffer ++ rest) h ∙ take-append-le n buffer rest short

-- the room gets less with each read of something
pub room-falls : (limit old new : ℕ) → old < new → old ≤ limit → limit + 1 - new < limit + 1 - old
room-falls limit old new more h = omega arith

-- a read of nothing is the end
pub content-end : (files : Option (List FileEntry)) (reading new : Option Reading) (name bytes buffer after : List ℕ)
    → IsFront files reading name bytes → Reads files reading buffer after (Ok 0) new → IfSome files (λ files. content files name ≡ Some bytes)
content-end None reading new name bytes buffer after h r = tt
content-end (Some files) reading new name bytes buffer after h r =
    let taken = TakesFront-known files reading new name bytes buffer after 0 h r in
    h.there ∙ ap (λ (rest : List ℕ). Some (bytes ++ rest)) (taken.0.end refl) ∙ ap Some (append-nil bytes)
