-- A search reaches one more point, is done with a point, and ends.
use Rattle.std.proofs.Common.{◌≡◌, ◌≢◌, ℕ, ◌+◌, ◌<◌, ◌≤◌, ◌⊎◌, inl, inr, true, false, cond, List, [], ◌∷◌, ◌++◌, length, get_or, slice_index, set, replicate, Option, Some, None, is_none, is_some, refl, sym, ap, ◌∙◌, subst, below_more, arith}
use Rattle.std.proofs.lemmas.List.{length-set, length_push, length-replicate, get_or-replicate, get_or-set_same, get_or-set_other, get_or_past, get_or_push, get_or_append_left, get_or_read}
use Rattle.std.proofs.lemmas.List.Sums.{sum_by-set}
use Rattle.std.proofs.lemmas.List.Folds.{sum_by-replicate}
use Rattle.std.proofs.lemmas.Bool.{cases_eq, cases_lt}
use Rattle.pad_reach.specs.Chain.{Joint, IsNeighbour, IsAnchored}
use Rattle.pad_reach.specs.Forms.Search.{found_at, IsReached, unreached, IsNearer, IsFoundBy, IsSound, IsSearch}
use Rattle.pad_reach.specs.declared.steps.Entry.{Entry}

-- a reached point is a point
pub there_if_reached : (found : List (Option Entry)) (p : ℕ) → IsReached found p → p < length found
there_if_reached found p h =
    elim (cases_lt p (length found)) [ inl l ↦ l | inr past ↦ absurd (let none : found_at found p ≡ None = get_or_past found p None past in cc) ]

module _ (found : List (Option Entry)) (far : ℕ) (e : Entry) (free : found_at found far ≡ None) (there : far < length found) where
  -- one point fewer isn't reached
  pub unreached-set : unreached (set found far (Some e)) + 1 ≡ unreached found
  unfolding unreached
  unreached-set =
      let weight : Option Entry → ℕ = λ o. cond (is_none o) 1 0 in
      let change = sum_by-set weight found far (Some e) None there in
      let here : weight (found_at found far) ≡ 1 = ap weight free in
      omega (arith, change, here)

  pub found_at-kept : (q : ℕ) (x : Entry) → found_at found q ≡ Some x → found_at (set found far (Some e)) q ≡ Some x
  found_at-kept q x h =
      elim (cases_eq q far) [ inl s ↦ absurd (let same = ap (found_at found) s in cc) | inr n ↦ get_or-set_other found far q (Some e) None n ∙ h ]

  found_at-new : (p : ℕ) (x : Entry) → found_at (set found far (Some e)) p ≡ Some x → ((far ≡ p) × (e ≡ x)) ⊎ (found_at found p ≡ Some x)
  found_at-new p x h =
      elim (cases_eq p far) [
        | inl s ↦ inl (sym s, (let new = get_or-set_same found far (Some e) None there in let same = ap (found_at (set found far (Some e))) s in cc))
        | inr n ↦ inr (sym (get_or-set_other found far p (Some e) None n) ∙ h)
      ]

  pub IsReached-kept : (q : ℕ) → IsReached found q → IsReached (set found far (Some e)) q
  IsReached-kept q h =
      elim (cases_eq q far) [ inl s ↦ absurd (let same = ap (found_at found) s in cc) | inr n ↦ rw get_or-set_other h ]

  pub IsReached-new : IsReached (set found far (Some e)) far
  IsReached-new = rw get_or-set_same refl

  pub IsReached-cases : (q : ℕ) → IsReached (set found far (Some e)) q → (q ≡ far) ⊎ IsReached found q
  IsReached-cases q h = elim (cases_eq q far) [ inl s ↦ inl s | inr n ↦ inr (rw get_or-set_other at h) ]

  IsFoundBy-kept : (web : List Joint) (p : ℕ) (toward : Option ℕ) (distance : ℕ) → IsFoundBy web found p toward distance → IsFoundBy web (set found far (Some e)) p toward distance
  IsFoundBy-kept web p None distance h = h
  IsFoundBy-kept web p (Some q) distance h = (h.0, h.1, (h.2.0, found_at-kept q h.2.0 h.2.1, h.2.2))

  pub IsSound-add : (web : List Joint) → IsSound web found → IsFoundBy web found far e.toward e.distance → e.distance + unreached found ≤ length web → IsSound web (set found far (Some e))
  IsSound-add web sound by short = record {
    all = length-set found far (Some e) ∙ sound.all;
    each = λ p x h.
        let P : ℕ → Type 0 = λ q. IsFoundBy web (set found far (Some e)) q x.toward x.distance in
        let Q : Entry → Type 0 = λ y. IsFoundBy web (set found far (Some e)) far y.toward y.distance in
        elim (found_at-new p x h) [ inl s ↦ subst P s.0 (subst Q s.1 (IsFoundBy-kept web far e.toward e.distance by)) | inr s ↦ IsFoundBy-kept web p x.toward x.distance (sound.each p x s) ];
    short = λ p x h.
        let distance : Entry → ℕ = λ y. y.distance in
        elim (found_at-new p x h) [ inl s ↦ omega (arith, unreached-set, ap distance s.1) | inr s ↦ omega (arith, unreached-set, sound.short p x s) ];
  }

  pub IsSearch-add : (web : List Joint) (limit : ℕ) (queue : List ℕ) (next : ℕ) → IsSearch web limit found queue next → IsFoundBy web found far e.toward e.distance → e.distance + unreached found ≤ length web → IsSearch web limit (set found far (Some e)) (queue ++ far ∷ []) next
  IsSearch-add web limit queue next s by short =
      let more = length_push queue far in
      record {
        sound = IsSound-add web s.sound by short;
        anchored = λ p l a. IsReached-kept p (s.anchored p l a);
        queued = λ j h.
            let P : ℕ → Type 0 = λ q. IsReached (set found far (Some e)) q in
            elim (cases_lt j (length queue)) [ inl l ↦ subst P (sym (get_or_append_left queue (far ∷ []) 0 j l)) (IsReached-kept _ (s.queued j l)) | inr g ↦ subst P (sym (get_or_push queue far 0 j (omega arith))) IsReached-new ];
        closed = λ p q hp near hq.
            elim (IsReached-cases q hq) [
              | inl e' ↦ inr (length queue, s.within, omega arith, get_or_push queue far 0 (length queue) refl ∙ sym e')
              | inr old ↦ elim (s.closed p q hp near old) [
                | inl done ↦ inl (IsReached-kept p done)
                | inr w ↦ inr (w.0, w.1, omega (arith, w.2), get_or_append_left queue (far ∷ []) 0 w.0 w.2 ∙ w.3)
              ]
            ];
        counted = omega (arith, s.counted, unreached-set);
        within = omega (arith, s.within);
      }

-- a point is done once all its in-neighbours are reached
pub IsSearch-next : (web : List Joint) (limit : ℕ) (found : List (Option Entry)) (queue : List ℕ) (next : ℕ) → IsSearch web limit found queue next → next < length queue → ((p : ℕ) → p < length web → IsNeighbour web p (slice_index queue next) → IsReached found p) → IsSearch web limit found queue (next + 1)
IsSearch-next web limit found queue next s there done = record {
  sound = s.sound;
  anchored = s.anchored;
  queued = s.queued;
  closed = λ p q hp near hq.
      let P : ℕ → Type 0 = λ x. IsNeighbour web p x in
      elim (s.closed p q hp near hq) [
        | inl r ↦ inl r
        | inr w ↦ elim (cases_eq w.0 next) [ inl e ↦ inl (done p hp (subst P (sym (sym (ap (slice_index queue) e) ∙ w.3)) near)) | inr n ↦ inr (w.0, omega (arith, w.1), w.2, w.3) ]
      ];
  counted = s.counted;
  within = omega arith;
}

-- one point more is reached, if it is anchored
pub IsSearch-limit : (web : List Joint) (i : ℕ) (found : List (Option Entry)) (queue : List ℕ) (next : ℕ) → IsSearch web i found queue next → (IsAnchored web i → IsReached found i) → IsSearch web (i + 1) found queue next
IsSearch-limit web i found queue next s here = record {
  sound = s.sound;
  anchored = λ p l a. let P : ℕ → Type 0 = λ x. IsAnchored web x → IsReached found x in elim (cases_eq p i) [ inl e ↦ subst P (sym e) here a | inr n ↦ s.anchored p (omega arith) a ];
  queued = s.queued;
  closed = s.closed;
  counted = s.counted;
  within = s.within;
}

-- in the beginning no point is reached
pub found_at-none : (n p : ℕ) → found_at (replicate n None) p ≡ None
found_at-none n p = elim (cases_lt p n) [ inl l ↦ get_or-replicate n p None None l | inr g ↦ get_or_past (replicate n None) p None (omega (arith, length-replicate {A = Option Entry} n None)) ]

unreached-none : (n : ℕ) → unreached (replicate n None) ≡ n
unfolding unreached
unreached-none n = let weight : Option Entry → ℕ = λ o. cond (is_none o) 1 0 in omega (arith, sum_by-replicate weight n None)

pub IsSearch-start : (web : List Joint) → IsSearch web 0 (replicate (length web) None) [] 0
IsSearch-start web = record {
  sound = record {
    all = length-replicate (length web) None;
    each = λ p e h. absurd (let none = found_at-none (length web) p in cc);
    short = λ p e h. absurd (let none = found_at-none (length web) p in cc);
  };
  anchored = λ p l a. absurd (omega arith);
  queued = λ j h. absurd (omega arith);
  closed = λ p q hp near hq. absurd (let none = found_at-none (length web) q in cc);
  counted = omega (arith, unreached-none (length web));
  within = omega arith;
}

-- what a read of an entry gives
pub entry_read : (found : List (Option Entry)) (p : ℕ) (o : Option Entry) → p < length found → o ≡ get_or found p o → o ≡ found_at found p
entry_read found p o there read = get_or_read found p o there read None

pub none_read : (found : List (Option Entry)) (p : ℕ) (o : Option Entry) → p < length found → o ≡ get_or found p o → is_some o ≡ false → found_at found p ≡ None
none_read found p None there read none = sym (entry_read found p None there read)
none_read found p (Some e) there read none = absurd cc

pub some_read : (found : List (Option Entry)) (p : ℕ) (o : Option Entry) → p < length found → o ≡ get_or found p o → is_some o ≡ true → IsReached found p
some_read found p o there read some = ap is_some (sym (entry_read found p o there read)) ∙ some

-- The point `near` of the queue is visited: of its in-neighbours the first k are reached.
pub record IsVisit (web : List Joint) (found : List (Option Entry)) (queue : List ℕ) (next near distance : ℕ) (row : List ℕ) (k : ℕ) : Type 0 where
  pub search : IsSearch web (length web) found queue next
  pub more : next < length queue
  pub waits : get_or queue next 0 ≡ near
  pub nearer : IsNearer found near distance
  pub met : (m : ℕ) → m < k → IsReached found (get_or row m 0)

-- the point that the queue has next is reached
pub next_reached : (web : List Joint) (limit : ℕ) (found : List (Option Entry)) (queue : List ℕ) (next near : ℕ) → IsSearch web limit found queue next → next < length queue → near ≡ get_or queue next near → IsReached found near
next_reached web limit found queue next near s more read =
    let P : ℕ → Type 0 = λ p. IsReached found p in
    subst P (sym (get_or_read queue next near more read 0)) (s.queued next more)

pub next_there : (web : List Joint) (limit : ℕ) (found : List (Option Entry)) (queue : List ℕ) (next near : ℕ) → IsSearch web limit found queue next → next < length queue → near ≡ get_or queue next near → near < length web
next_there web limit found queue next near s more read =
    omega (arith, there_if_reached found near (next_reached web limit found queue next near s more read), s.sound.all)

module _ (web : List Joint) (found : List (Option Entry)) (queue : List ℕ) (next near : ℕ) (row : List ℕ) where
  pub IsVisit-start : IsSearch web (length web) found queue next → next < length queue → near ≡ get_or queue next near → (e : Entry) → found_at found near ≡ Some e → IsVisit web found queue next near (e.distance + 1) row 0
  IsVisit-start s more read e known = record {
    search = s;
    more = more;
    waits = sym (get_or_read queue next near more read 0);
    nearer = (e, known, refl);
    met = λ m h. absurd (omega arith);
  }

  module _ (distance k : ℕ) (v : IsVisit web found queue next near distance row k) where
    pub visited_there : near < length web
    visited_there =
        let reached : IsReached found near = rw v.nearer.1 refl in
        omega (arith, there_if_reached found near reached, v.search.sound.all)

    pub IsVisit-skip : IsReached found (get_or row k 0) → IsVisit web found queue next near distance row (k + 1)
    IsVisit-skip reached = record {
      search = v.search;
      more = v.more;
      waits = v.waits;
      nearer = v.nearer;
      met = below_more (λ m. IsReached found (get_or row m 0)) k v.met reached;
    }

    pub IsVisit-add : get_or row k 0 < length web → IsNeighbour web (get_or row k 0) near → found_at found (get_or row k 0) ≡ None → IsVisit web (set found (get_or row k 0) (Some (record { toward = Some near; distance = distance }))) (queue ++ get_or row k 0 ∷ []) next near distance row (k + 1)
    IsVisit-add there leads free =
        let far = get_or row k 0 in
        let e : Entry = record { toward = Some near; distance = distance } in
        let there' : far < length found = omega (arith, there, v.search.sound.all) in
        let not_anchored : IsAnchored web far → ⊥ = λ a. (let r = v.search.anchored far there a in cc) in
        let short = v.search.sound.short near v.nearer.0 v.nearer.1 in
        record {
          search = IsSearch-add found far e free there' web (length web) queue next v.search (not_anchored, leads, v.nearer) (omega (arith, short, v.nearer.2));
          more = omega (arith, v.more, length_push queue far);
          waits = get_or_append_left queue (far ∷ []) 0 next v.more ∙ v.waits;
          nearer = (v.nearer.0, found_at-kept found far e free there' near v.nearer.0 v.nearer.1, v.nearer.2);
          met = below_more (λ m. IsReached (set found far (Some e)) (get_or row m 0)) k (λ m h. IsReached-kept found far e free there' (get_or row m 0) (v.met m h)) (IsReached-new found far e free there');
        }

    pub IsVisit-added : get_or row k 0 < length web → IsNeighbour web (get_or row k 0) near → found_at found (get_or row k 0) ≡ None → (found' : List (Option Entry)) (queue' : List ℕ) → found' ≡ set found (get_or row k 0) (Some (record { toward = Some near; distance = distance })) → queue' ≡ queue ++ get_or row k 0 ∷ [] → IsVisit web found' queue' next near distance row (k + 1)
    IsVisit-added there leads free found' queue' found_is queue_is =
        let P : List (Option Entry) → Type 0 = λ f. IsVisit web f (queue ++ get_or row k 0 ∷ []) next near distance row (k + 1) in
        let Q : List ℕ → Type 0 = λ q. IsVisit web found' q next near distance row (k + 1) in
        subst Q (sym queue_is) (subst P (sym found_is) (IsVisit-add there leads free))

    -- once all its in-neighbours are reached, the point is done
    pub IsVisit-end : length row ≤ k → ((p : ℕ) → p < length web → IsNeighbour web p near → (m : ℕ) × (m < length row) × (get_or row m 0 ≡ p)) → IsSearch web (length web) found queue (next + 1)
    IsVisit-end whole complete =
        let P : ℕ → Type 0 = λ p. IsReached found p in
        IsSearch-next web (length web) found queue next v.search v.more (λ p hp leads.
        let Q : ℕ → Type 0 = λ q. IsNeighbour web p q in
        let m = complete p hp (subst Q v.waits leads) in
        subst P m.2 (v.met m.0 (omega (arith, m.1))))

-- The anchored points before i are reached, and no point from i on.
pub record IsBegun (web : List Joint) (i : ℕ) (found : List (Option Entry)) (queue : List ℕ) : Type 0 where
  pub search : IsSearch web i found queue 0
  pub fresh : (p : ℕ) → i ≤ p → found_at found p ≡ None

pub IsBegun-start : (web : List Joint) (found : List (Option Entry)) (queue : List ℕ) → found ≡ replicate (length web) None → queue ≡ [] → IsBegun web 0 found queue
IsBegun-start web found queue found_is queue_is =
    let P : List (Option Entry) → Type 0 = λ f. IsBegun web 0 f queue in
    let Q : List ℕ → Type 0 = λ q. IsBegun web 0 (replicate (length web) None) q in
    subst P (sym found_is) (subst Q (sym queue_is) (record { search = IsSearch-start web; fresh = λ p _. found_at-none (length web) p }))

module _ (web : List Joint) (i : ℕ) (found : List (Option Entry)) (queue : List ℕ) (b : IsBegun web i found queue) where
  pub IsBegun-skip : (IsAnchored web i → ⊥) → IsBegun web (i + 1) found queue
  IsBegun-skip loose = record { search = IsSearch-limit web i found queue 0 b.search (λ a. absurd (loose a)); fresh = λ p h. b.fresh p (omega arith) }

  pub IsBegun-added : i < length web → IsAnchored web i → (found' : List (Option Entry)) (queue' : List ℕ) → found' ≡ set found i (Some (record { toward = None; distance = 0 })) → queue' ≡ queue ++ i ∷ [] → IsBegun web (i + 1) found' queue'
  IsBegun-added there a found' queue' found_is queue_is =
      let e : Entry = record { toward = None; distance = 0 } in
      let there' : i < length found = omega (arith, there, b.search.sound.all) in
      let free = b.fresh i (omega arith) in
      let P : List (Option Entry) → Type 0 = λ f. IsBegun web (i + 1) f (queue ++ i ∷ []) in
      let Q : List ℕ → Type 0 = λ q. IsBegun web (i + 1) found' q in
      let added = IsSearch-add found i e free there' web i queue 0 b.search (a, refl) (omega (arith, b.search.counted)) in
      subst Q (sym queue_is) (subst P (sym found_is) (record {
        search = IsSearch-limit web i (set found i (Some e)) (queue ++ i ∷ []) 0 added (λ _. IsReached-new found i e free there');
        fresh = λ p h. let n : p ≢ i = omega arith in get_or-set_other found i p (Some e) None n ∙ b.fresh p (omega arith);
      }))
