-- The trail call, from its steps to its outcome: which walk leads through the words of a dictionary, that it starts where the key sits, and what is answered and
-- written. The contracts of the functions cite `seat_in`, `Traceable` and what is told: of a trail, of a set, of a call. Assumes nothing.
use Rattle.std.specs.Prelude.{ℕ, zero, suc, ◌+◌, ◌-◌, ◌≤◌, ◌<◌, ◌≡◌, refl, true, false, cond, eqb, ltb, length, take, replicate, Result, Ok, Err}
use Rattle.std.proofs.Common.{sym, ◌∙◌, inl, inr, arith, eq-eqb, ne_eqb, lt-ltb, le-ltb, length-take-le}
use Rattle.std.proofs.Math.Path.{ap}
use mathlib.Core.List.{List, [], ◌∷◌, ◌++◌}
use Rattle.std.proofs.Math.ListN.{get_or}
use borrow.Rule.Slice.PartMut.{mid_of}
use Rattle.basics.specs.Tests.{test}
use Rattle.basics.specs.Sets.{member, Asc}
use Rattle.cuckoo.specs.Graph.{seated, occupant, slot_key}
use Rattle.cuckoo.specs.Settling.{Settled}
use Rattle.cuckoo.proofs.Settling.{seated_asc, seated_stops}
use Rattle.cuckoo.specs.Seating.{Ends, from_a, from_b}
use Rattle.cuckoo.specs.Places.{Seat}
use Rattle.cuckoo.proofs.Places.{seat_ends, seat_occupant}
use Rattle.cuckoo.proofs.Places.{occupant_seat}
use Rattle.cuckoo.specs.Trail.{seat}
use Rattle.cuckoo.proofs.Trail.{seat_holds, trail_none}
use Rattle.cuckoo.specs.Round.{path}
use Rattle.cuckoo.proofs.Round.{path_none, path_step}
use Rattle.refusals.specs.Refusal.{done, blank_key, key_absent, short_trail, first_refusal}
use Rattle.refusals.specs.declared.Refusal.{Refusal}
use Rattle.refusals.specs.declared.Refusal.TheVariants.{BlankKey, KeyAbsent, ShortTrail}
use Rattle.refusals.specs.Answer.{number, number_of}
use Rattle.refusals.proofs.Answer.{refused}
use Rattle.hashing.specs.Hash.{tables, blank}
use Rattle.hashing.specs.Slots.{slot_0, slot_1}
use Rattle.hashing.proofs.Slots.{slot_0_lt, slot_1_le, slot_1_lt}
use Rattle.layout.specs.Entries.{keys_of}
use Rattle.layout.proofs.Entries.{keys_tiered}
use Rattle.layout.specs.Layout.{Params, family, family_of, header_of, params_of, slots_of, image, keys_in, tier_in, set_in, key_at}
use Rattle.layout.specs.Canonical.{canonical}
use Rattle.layout.proofs.Canonical.{canonical_true}
use Rattle.layout.proofs.Image.{image_key}
use Rattle.layout.specs.declared.Header.{Header}
use Rattle.layout.proofs.Shape.{same_header, by_own_family}
use Rattle.layout.proofs.Standing.{keys_in_valid, not_blank}
use Rattle.outcome.specs.Trail.{values, trail_of, trail_in, trail_refusals, trail_refusal, trail_outcome}
use Rattle.gateway.specs.Loading.{LoadedSet, LoadTold, loaded_refused, refused_first, loaded_passes}
use Rattle.gateway.specs.LoadedSet.{loaded_shape, loaded_range}
use Rattle.walking.specs.Walk.{key_of, across, Readable, Closed}
use Rattle.walking.proofs.WalkLaws.{across_lt}
use Rattle.walking.specs.Cut.{Cut, met_keys, first_visit}
use Rattle.walking.proofs.CutLaws.{cut_trail}

-- What is told of a trail L, where n is the number: how many keys it has, and its keys with zeros behind them over the old words; refused, these stay.
pub record TrailTold (n : ℕ) (L old : List ℕ) (t : Result ℕ Refusal) (new : List ℕ) : Type 0 where
  pub numbered : number t ≡ n
  pub valued : values t ≡ cond (eqb n done) (length L ∷ []) []
  pub written : new ≡ cond (eqb n done) (L ++ replicate (length old - length L) 0) old

-- what is told of the trail of a key of the set: 11 is all that can be refused
abbrev pub ToldOfTrail : List ℕ → List ℕ → ℕ → List ℕ → (Result ℕ Refusal → List ℕ → Type 0)
ToldOfTrail tabulation ws key old t new =
    TrailTold (first_refusal ((short_trail, ltb (length old) (length (trail_in tabulation ws key))) ∷ [])) (trail_in tabulation ws key) old t new

-- the slot in which a key is looked for: that of table 0, if it stands there, and else that of table 1
abbrev pub seat_in : List ℕ → List ℕ → ℕ → ℕ
seat_in tabulation ws key =
    let F = family_of tabulation ws in
    cond (eqb (key_of ws (slot_0 F key)) key) (slot_0 F key) (slot_1 F key)

-- The words are an image, there is room for the walk, and the key is none that stands for an empty slot: its trail can be looked for.
pub record Traceable (tabulation ws scratch : List ℕ) (r station key : ℕ) : Type 0 where
  pub readable : Readable tabulation ws r station
  pub image : canonical tabulation ws ≡ true
  pub room : r + r + (r + r) ≤ length scratch
  pub some_key : key ≡ 0 → ⊥

-- The laws. What is told
pub told_refused : (refusal : Refusal) {m : ℕ} {L old : List ℕ} → number_of refusal ≡ m → TrailTold m L old (Err refusal) old
told_refused refusal e =
    let t = ne_eqb (number_of refusal) done (refused refusal) in
    rw (← e) (record { numbered = refl; valued = rw t; written = rw t })

pub told_length : {k m : ℕ} {L old new : List ℕ} → m ≡ done → k ≡ length L → new ≡ L ++ replicate (length old - length L) 0 → TrailTold m L old (Ok k) new
told_length {m = m} e q w =
    let t = eq-eqb m done e in
    record { numbered = sym e; valued = rw (t, q); written = rw t w }

pub told_as : {n m : ℕ} {L old new : List ℕ} {t : Result ℕ Refusal} → n ≡ m → TrailTold n L old t new → TrailTold m L old t new
told_as e R = rw (← e) R

-- of a trail that is empty, too long, or written from the keys K of a walk
pub told_empty : {L old new : List ℕ} → L ≡ [] → new ≡ replicate (length old) 0
    → TrailTold (first_refusal ((short_trail, ltb (length old) (length L)) ∷ [])) L old (Ok 0) new
told_empty {old = old} e w =
    let z : length old - 0 ≡ length old = omega arith in
    rw e (told_length (rw (le-ltb (length old) 0 (omega arith))) refl (rw z w))

pub told_short : {q : ℕ} {L old : List ℕ} → length L ≡ q → length old < q
    → TrailTold (first_refusal ((short_trail, ltb (length old) (length L)) ∷ [])) L old (Err ShortTrail) old
told_short {L = L} {old} e l = told_refused ShortTrail (rw (lt-ltb (length old) (length L) (omega arith)))

pub told_found : {q : ℕ} {L K M old new : List ℕ} → L ≡ take q K → length L ≡ q → M ≡ K → q ≤ length old
    → new ≡ mid_of 0 (q - 0) M ++ replicate (length old - length (mid_of 0 (q - 0) M)) 0
    → TrailTold (first_refusal ((short_trail, ltb (length old) (length L)) ∷ [])) L old (Ok q) new
told_found {q} {L} {K} {M} {old} e n m l w =
    let z : q - 0 ≡ q = omega arith in
    let k : mid_of 0 (q - 0) M ≡ L = rw (z, m) (sym e) in
    told_length (rw (le-ltb (length old) (length L) (omega arith))) (sym n) (rw k at w)

-- scratch that was cleared
pub cleared : {n : ℕ} (X : List ℕ) {Y : List ℕ} → Y ≡ replicate (length X) 0 → length Y ≡ length X → n ≤ length X → (n ≤ length Y) × (Y ≡ replicate (length Y) 0)
cleared X e q l = (omega arith, rw q e)

-- is the outcome.
pub told_outcome : (tabulation ws scratch : List ℕ) (key : ℕ) {old new left : List ℕ} {t : Result ℕ Refusal}
    → TrailTold (trail_refusal tabulation ws scratch key (length old)) (trail_in tabulation ws key) old t new → left ≡ replicate (length scratch) 0
    → record { number = number t; values = values t; words = ws; scratch = left; trail = new } ≡ trail_outcome tabulation ws scratch key old
unfolding trail_outcome
told_outcome tabulation ws scratch key R e = rw (R.numbered, R.valued, R.written, e)

-- What code reads: the key in a slot,
pub slot_readable : {tabulation ws : List ℕ} {r station v : ℕ} → Readable tabulation ws r station → v < r + r → (key_at v < length ws) × (v < 4096)
slot_readable A l = (omega (arith, A.shaped.size, A.slots), omega (arith, A.hashing.slots_bound))

-- and where a key is looked for.
module _ {tabulation ws : List ℕ} {r station : ℕ} (A : Readable tabulation ws r station) (key : ℕ) {v k : ℕ}
    (first : v ≡ slot_0 (tables tabulation r station) key) (read : k ≡ key_of ws v) where
  pub first_lt : v < r + r
  first_lt = omega (arith, slot_0_lt (tables tabulation r station) A.hashing.has_slots key)

  pub seat_first : k ≡ key → v ≡ seat_in tabulation ws key
  seat_first e =
      let p = by_own_family (λ F. slot_0 F key) tabulation ws A.slots A.stationed first in
      let t : eqb (key_of ws (slot_0 (family_of tabulation ws) key)) key ≡ true = eq-eqb _ key (ap (key_of ws) (sym p) ∙ sym read ∙ e) in
      rw t p

  pub seat_second : {w : ℕ} → (k ≡ key → ⊥) → w ≡ slot_1 (tables tabulation r station) key → w ≡ seat_in tabulation ws key
  seat_second n q =
      let p = by_own_family (λ F. slot_0 F key) tabulation ws A.slots A.stationed first in
      let t : eqb (key_of ws (slot_0 (family_of tabulation ws) key)) key ≡ false =
      ne_eqb _ key (λ e. n (read ∙ ap (key_of ws) p ∙ e)) in
      rw t (by_own_family (λ F. slot_1 F key) tabulation ws A.slots A.stationed q)

-- In the words of a dictionary the walk goes as the trail does.
module _ {tabulation ws : List ℕ} {r station : ℕ} (A : Readable tabulation ws r station) (image : canonical tabulation ws ≡ true) where
  abbrev P : Params
  P = params_of tabulation ws

  abbrev a : ℕ → ℕ
  a = slot_0 (family P)

  abbrev b : ℕ → ℕ
  b = slot_1 (family P)

  abbrev T : List ℕ
  T = seated a b (keys_in ws)

  asc : Asc T
  asc = seated_asc a b (keys_in ws) (keys_in_valid ws).asc

  stop : Settled a b T
  stop = seated_stops a b (keys_in ws) (keys_in_valid ws).asc

  some : 0 < slots_of ws
  some = omega (arith, A.slots, A.hashing.has_slots)

  -- what a slot holds
  held : (v : ℕ) → v < slots_of ws + slots_of ws → key_of ws v ≡ occupant a b T v
  unfolding slot_key
  held v l =
      ap (λ (us : List ℕ). get_or us (key_at v) 0) (canonical_true tabulation ws image).is
      ∙ image_key P (set_in tabulation ws) v l
      ∙ ap (λ (S : List ℕ). slot_key a b S v) (keys_tiered (tier_in tabulation ws) (keys_in ws))

  -- each step crosses over to the other slot of the key that sits there
  crosses : (v c : ℕ) → Seat a b T v c → Ends a b c v (across tabulation ws v)
  unfolding across
  crosses v c Z = go (seat_ends a b Z).1
    where
      here : v < slots_of ws + slots_of ws → key_of ws v ≡ c
      here l = held v l ∙ seat_occupant a b Z

      go : {w : ℕ} → Ends a b c v w → Ends a b c v (cond (ltb v (slots_of ws)) (b (key_of ws v)) (a (key_of ws v)))
      go (from_a p q) =
          let l : v < slots_of ws = omega (arith, slot_0_lt (family P) some c) in
          rw (lt-ltb v (slots_of ws) l, here (omega arith)) (from_a p refl)
      go (from_b p q) =
          let l : slots_of ws ≤ v = omega (arith, slot_1_le (family P) some c) in
          rw (le-ltb v (slots_of ws) l, here (omega (arith, slot_1_lt (family P) some c))) (from_b p refl)

  -- it stays among the slots
  inside : {v : ℕ} → v < r + r → v < slots_of ws + slots_of ws
  inside l = omega (arith, A.slots)

  path_lt : {u : ℕ} → u < r + r → (i : ℕ) → path (across tabulation ws) u i < r + r
  path_lt {u} l zero = rw (path_none (across tabulation ws) u) l
  path_lt {u} l (suc i) = rw (path_step (across tabulation ws) u i) (across_lt A (path (across tabulation ws) u i))

  -- and starts in the slot in which the key is looked for
  module _ (key : ℕ) where
    seat_is : seat_in tabulation ws key ≡ seat a b T key
    unfolding seat
    seat_is = rw (held (a key) (omega (arith, slot_0_lt (family P) some key)))

    pub seat_lt : seat_in tabulation ws key < r + r
    seat_lt = elim (test (eqb (key_of ws (a key)) key)) [
      | inl e ↦ rw e (omega (arith, slot_0_lt (family P) some key, A.slots))
      | inr e ↦ rw e (omega (arith, slot_1_lt (family P) some key, A.slots))
    ]

    module _ {s : ℕ} (at : s ≡ seat_in tabulation ws key) where
      pub seated_lt : s < r + r
      seated_lt = rw at seat_lt

      -- a key that does not stand there is not seated, and its trail is empty
      pub not_seated : (key_of ws s ≡ key → ⊥) → trail_of P (keys_in ws) key ≡ []
      not_seated n = trail_none a b T key (λ i. n (held s (inside seated_lt) ∙ ap (occupant a b T) (at ∙ seat_is) ∙ seat_holds a b stop i))

      -- of one that stands there the walk finds the trail
      module _ (there : key_of ws s ≡ key) (nonzero : key ≡ 0 → ⊥) where
        sits : Seat a b T s key
        sits =
            let e : occupant a b T s ≡ key = sym (held s (inside seated_lt)) ∙ there in
            elim (occupant_seat a b T s) [ inl z ↦ absurd (nonzero (sym e ∙ z)) | inr Z ↦ rw e at Z ]

        module _ {n v q : ℕ} {X : List ℕ} (C : Closed (across tabulation ws) (key_of ws) s r X n v)
            (D : Cut (met_keys r X n) (first_visit X v) q) where
          pub trail_found : trail_of P (keys_in ws) key ≡ take q (met_keys r X n)
          trail_found =
              cut_trail a b asc stop crosses C (λ i. held (path (across tabulation ws) s i) (inside (path_lt seated_lt i))) sits D

          pub trail_count : length (trail_of P (keys_in ws) key) ≡ q
          trail_count = ap length trail_found ∙ length-take-le q (met_keys r X n) (omega (arith, D.count, D.first.inside))

-- a key that is not blank, where the set of the words was loaded and h is their heading
pub loaded_traceable : {tabulation ws scratch : List ℕ} {h : Header} {key : ℕ} → LoadedSet tabulation ws scratch → h ≡ header_of ws → blank key ≡ false
    → Traceable tabulation ws scratch h.slots h.station key
loaded_traceable {key = key} Z e b =
    let g = same_header e in
    record {
      readable = record { hashing = (loaded_range Z e refl).0; shaped = loaded_shape Z; slots = g.slots; stationed = g.station };
      image = Z.image;
      room = omega (arith, Z.ready.room, g.slots);
      some_key = not_blank key b;
    }

-- What a set that was loaded leads to: 5,
module _ (tabulation ws : List ℕ) (key : ℕ) (old : List ℕ) where
  abbrev pub ToldOfSet : Result ℕ Refusal → List ℕ → Type 0
  ToldOfSet t new = TrailTold (first_refusal (trail_refusals tabulation ws key (length old))) (trail_in tabulation ws key) old t new

  pub told_blank : blank key ≡ true → ToldOfSet (Err BlankKey) old
  told_blank b = told_refused BlankKey (rw b)

  -- 7,
  pub told_absent : blank key ≡ false → member key (keys_of (set_in tabulation ws)) ≡ false → ToldOfSet (Err KeyAbsent) old
  told_absent b m = told_refused KeyAbsent (rw (b, m))

  -- and then the trail: 11, or nothing.
  pub told_listed : blank key ≡ false → member key (keys_of (set_in tabulation ws)) ≡ true → {t : Result ℕ Refusal} {new : List ℕ}
      → ToldOfTrail tabulation ws key old t new → ToldOfSet t new
  told_listed b m = told_as (rw (b, m))

-- The whole call: 1 to 4, as load refuses,
module _ (tabulation ws scratch : List ℕ) (key : ℕ) (old : List ℕ) where
  abbrev pub ToldOfCall : Result ℕ Refusal → List ℕ → Type 0
  ToldOfCall t new = TrailTold (trail_refusal tabulation ws scratch key (length old)) (trail_in tabulation ws key) old t new

  module _ {left : List ℕ} {l : Result Header Refusal} (T : LoadTold tabulation ws scratch left l) where
    pub told_load : {refusal : Refusal} → l ≡ Err refusal → ToldOfCall (Err refusal) old
    unfolding trail_refusal
    told_load {refusal} e = told_refused refusal (refused_first tabulation ws scratch T e (trail_refusals tabulation ws key (length old)))

    -- and what a set that was loaded leads to.
    pub told_set : {h : Header} → l ≡ Ok h → {t : Result ℕ Refusal} {new : List ℕ} → ToldOfSet tabulation ws key old t new → ToldOfCall t new
    unfolding trail_refusal
    told_set e = told_as (sym (loaded_passes tabulation ws scratch T e (trail_refusals tabulation ws key (length old))))
