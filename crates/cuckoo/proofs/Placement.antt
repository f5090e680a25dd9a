-- The laws of what specs/Placement.antt defines.
use Rattle.std.specs.Prelude.{ℕ, ◌+◌, ◌<◌, ◌≤◌, ◌≡◌, refl, cond, ◌⊎◌, ◌↔◌, eqb, length}
use Rattle.std.proofs.Common.{sym, ◌∙◌, ap, arith, eqb-true, length-append}
use Rattle.std.proofs.Math.Bool.{true, true≢false}
use Rattle.std.proofs.Math.Logic.{inl, inr}
use mathlib.Core.List.Memᴰ
use mathlib.Core.List.{List, ◌++◌, map, Memᴰ as In}
use Rattle.std.proofs.lemmas.Bool.{eqb-false}
use Rattle.std.proofs.lemmas.List.{length-map}
use Rattle.basics.specs.Tests.{test}
use Rattle.basics.proofs.Tests.{le?}
use Rattle.basics.specs.Sets.{member, without, Sub, below, Asc}
use Rattle.basics.proofs.Sets.{in?, in_member, no_member, out_in, asc_out}
use Rattle.basics.proofs.Lists.{pigeonhole, length_upto, in_upto, rank_below, rank_apart}
use Rattle.basics.specs.Lists.{upto}
use Rattle.cuckoo.specs.Graph.{cyclic, seated, stash, occupant}
use Rattle.cuckoo.proofs.Joined.{jsym, edge}
use Rattle.cuckoo.specs.Settling.{Cyclic}
use Rattle.cuckoo.proofs.Settling.{cyclic_true, true_cyclic, cyclic_near, seated_sub, seated_asc, seated_joined, seated_stops}
use Rattle.cuckoo.proofs.Seating.{look}
use Rattle.cuckoo.proofs.Places.{seat_near, seat_occupant, slot_seat}
use Rattle.cuckoo.proofs.Filled.{occupant_injective, seated_or_stash, not_seated_and_stash, seated_stash_length}
use Rattle.cuckoo.proofs.Kruskal.{stashed_cyclic}
use Rattle.cuckoo.specs.Placement.{Place, MaySit, Placement, slot, place, table_0, table_1, aside}

-- the slots of K, and s places aside
spots : List ℕ → ℕ → List Place
spots K s = map slot K ++ map place (upto s)

length_spots : (K : List ℕ) (s : ℕ) → length (spots K s) ≡ length K + s
unfolding spots
length_spots K s = simp (length-append, length-map, length_upto)

slot_in : {K : List ℕ} (s : ℕ) {v : ℕ} {p : Place} → p ≡ slot v → In v K → In p (spots K s)
unfolding spots
slot_in s e i = rw e (Memᴰ.append_left (map place (upto s)) (Memᴰ.map slot i))

place_in : (K : List ℕ) {s i : ℕ} {p : Place} → p ≡ place i → i < s → In p (spots K s)
unfolding spots
place_in K {s} e l = rw e (Memᴰ.append_right (map slot K) (Memᴰ.map place (in_upto s l)))

slot_place : {p q : Place} {v i : ℕ} → p ≡ slot v → q ≡ place i → p ≡ q → ⊥
slot_place e f m = let z : ◌≡◌ {A = ℕ} 0 1 = cc in omega arith

module _ (a b : ℕ → ℕ) where
  -- a part of a set is placed as in the whole
  restrict : {s : ℕ} {R S : List ℕ} → Sub R S → (Placement a b) s S → (Placement a b) s R
  restrict f P = record { at = P.at; allowed = λ c i. P.allowed c (f c i); apart = λ c d i j. P.apart c d (f c i) (f d j) }

  module _ {S : List ℕ} (h : Asc S) where
    abbrev T : List ℕ
    T = seated a b S

    abbrev D : List ℕ
    D = stash a b S

    -- the canonical placement: a seated key in a slot that holds it, a stashed one at its rank in the stash
    canonical_place : ℕ → Place
    canonical_place c = cond (member c T) (slot (cond (eqb (occupant a b T (a c)) c) (a c) (b c))) (place (length (below c D)))

    data Put (c : ℕ) : Type 0 where
      sits : (v : ℕ) → canonical_place c ≡ slot v → (v ≡ a c) ⊎ (v ≡ b c) → occupant a b T v ≡ c → Put c
      goes : In c D → canonical_place c ≡ place (length (below c D)) → Put c

    put : (c : ℕ) → In c S → Put c
    unfolding canonical_place
    put c i = elim (seated_or_stash a b S i) [
      | inl k ↦ elim (test (eqb (occupant a b T (a c)) c)) [
        | inl e ↦ sits (a c) (rw (in_member k, e)) (inl refl) (eqb-true (occupant a b T (a c)) c e)
        | inr e ↦ sits (b c) (rw (in_member k, e)) (inr refl) (elim (look a b T (seated_stops a b S h) c k) [
          | inl q ↦ absurd (eqb-false (occupant a b T (a c)) c e q)
          | inr q ↦ q
        ])
      ]
      | inr k ↦ goes k (rw (no_member c T (λ i. not_seated_and_stash a b S i k)))
    ]

    -- The canonical image is a placement: a set whose stash has at most s keys can be placed.
    pub fits_placed : {s : ℕ} → length D ≤ s → (Placement a b) s S
    fits_placed {s} l = record { at = canonical_place; allowed = λ c i. allow (put c i); apart = λ c d i j. part (put c i) (put d j) }
      where
        allow : {c : ℕ} → Put c → (MaySit a b) s c (canonical_place c)
        allow (sits v e (inl q) o) = table_0 (e ∙ ap slot q)
        allow (sits v e (inr q) o) = table_1 (e ∙ ap slot q)
        allow {c} (goes i e) = aside (length (below c D)) (omega (arith, rank_below D i)) e

        part : {c d : ℕ} → Put c → Put d → canonical_place c ≡ canonical_place d → c ≡ d
        part (sits v e p o) (sits w f q r) m = cc
        part (sits v e p o) (goes j f) m = absurd (slot_place e f m)
        part (goes i e) (sits w f q r) m = absurd (slot_place f e (sym m))
        part (goes i e) (goes j f) m = rank_apart D i j (cc)

    -- A key goes to the one that holds the slot where the placement has it, or to its place aside; in a component without a cycle, where no key
    -- is stashed, to itself. No two keys go to one: in a component with a cycle no two slots have the same key.
    module _ (nonzero : In 0 S → ⊥) {s : ℕ} (P : (Placement a b) s S) where
      abbrev to : Place → Place
      to (slot u) = slot (occupant a b T u)
      to (place i) = place i

      goal : ℕ → Place
      goal c = cond (cyclic a b T (a c)) (to (P.at c)) (slot c)

      data Goal (c : ℕ) : Type 0 where
        holder : (u d : ℕ) → P.at c ≡ slot u → goal c ≡ slot d → Cyclic a b T u → occupant a b T u ≡ d → In d T → Cyclic a b T (a d) → Goal c
        same : (i : ℕ) → i < s → P.at c ≡ place i → goal c ≡ place i → Goal c
        itself : goal c ≡ slot c → In c T → (Cyclic a b T (a c) → ⊥) → Goal c

      goal_is : (c : ℕ) → In c S → Goal c
      unfolding goal
      goal_is c i = elim (test (cyclic a b T (a c))) [
        | inl e ↦ let L = cyclic_true e in elim (P.allowed c i) [
          | table_0 q ↦ held e q L
          | table_1 q ↦ held e q (cyclic_near ((seated_joined a b S h).1 (jsym (edge i))) L)
          | aside j l q ↦ same j l q (rw (e, q))
        ]
        | inr e ↦ let flat : Cyclic a b T (a c) → ⊥ = λ L. true≢false (sym (true_cyclic L) ∙ e) in
            itself (rw e) (elim (in? c T) [ inl k ↦ k | inr n ↦ absurd (flat (stashed_cyclic a b h c i n)) ]) flat
      ]
        where
          held : {u : ℕ} → cyclic a b T (a c) ≡ true → P.at c ≡ slot u → Cyclic a b T u → Goal c
          held {u} e q L =
              let r = slot_seat a b (seated_stops a b S h) L.cycle.on L.near in
              let o = seat_occupant a b r.1 in
              holder u r.0 q (rw (e, q, o)) L o r.1.c_in (cyclic_near (jsym (seat_near a b r.1)) L)

      into : {c : ℕ} → Goal c → In (goal c) (spots T s)
      into (holder u d q e L o i M) = slot_in s e i
      into (same i l q e) = place_in T e l
      into (itself e i n) = slot_in s e i

      goal_apart : {c d : ℕ} → In c S → In d S → Goal c → Goal d → goal c ≡ goal d → c ≡ d
      goal_apart {c} {d} i j (holder u x q e L o k M) (holder w y r f L' p l M') m =
          let eq = occupant_injective a b (seated_stops a b S h) (seated_asc a b S h) (λ z. nonzero (seated_sub a b S h 0 z)) {w = w} L (cc) in
          P.apart c d i j (cc)
      goal_apart i j (holder u x q e L o k M) (same y l r f) m = absurd (slot_place e f m)
      goal_apart {c} {d} i j (holder u x q e L o k M) (itself f l n) m = let z : x ≡ d = cc in absurd (n (rw z at M))
      goal_apart i j (same x l q e) (holder w y r f L p k M) m = absurd (slot_place f e (sym m))
      goal_apart {c} {d} i j (same x l q e) (same y k r f) m = P.apart c d i j (cc)
      goal_apart i j (same x l q e) (itself f k n) m = absurd (slot_place f e (sym m))
      goal_apart {c} {d} i j (itself e k n) (holder w y r f L p l M) m = let z : y ≡ c = cc in absurd (n (rw z at M))
      goal_apart i j (itself e k n) (same y l r f) m = absurd (slot_place e f m)
      goal_apart i j (itself e k n) (itself f l o) m = cc

      -- No rule does better: a set that can be placed at all, with s places aside, has at most s keys in its canonical stash.
      pub placed_fits : length D ≤ s
      placed_fits =
          let l = pigeonhole goal (spots T s) h (λ c i. into (goal_is c i)) (λ c d i j. goal_apart i j (goal_is c i) (goal_is d j)) in
          omega (arith, length_spots T s, seated_stash_length a b S h)

    -- A set fits, its stash has at most s keys, exactly if it can be placed.
    pub placement : (s : ℕ) → (In 0 S → ⊥) → (length D ≤ s) ↔ (Placement a b) s S
    placement s nonzero = (fits_placed, placed_fits nonzero)

    -- "Full drawer": the stash would have more than s keys exactly when no placement of the set exists.
    pub full : (s : ℕ) → (In 0 S → ⊥) → (s < length D) ↔ ((Placement a b) s S → ⊥)
    full s nonzero = (
      λ l P. omega (arith, placed_fits nonzero P),
      λ n. elim (le? (length D) s) [ inl l ↦ absurd (n (fits_placed l)) | inr l ↦ l ],
    )

    -- A placed set has at most as many keys as there are slots and places: n slots, and s places aside.
    pub placed_bound : {s : ℕ} (n : ℕ) → ((c : ℕ) → In c S → a c < n) → ((c : ℕ) → In c S → b c < n) → (Placement a b) s S → length S ≤ n + s
    placed_bound {s} n la lb P =
        let l = pigeonhole P.at (spots (upto n) s) h (λ c i. within c i (P.allowed c i)) P.apart in
        omega (arith, length_spots (upto n) s, length_upto n)
      where
        within : (c : ℕ) → In c S → (MaySit a b) s c (P.at c) → In (P.at c) (spots (upto n) s)
        within c i (table_0 e) = slot_in s e (in_upto n (la c i))
        within c i (table_1 e) = slot_in s e (in_upto n (lb c i))
        within c i (aside j k e) = place_in (upto n) e k

    -- So a set that fits has at most n + s keys, where the slots are below n.
    pub fits_bound : {s : ℕ} (n : ℕ) → ((c : ℕ) → In c S → a c < n) → ((c : ℕ) → In c S → b c < n) → length D ≤ s → length S ≤ n + s
    fits_bound n la lb l = placed_bound n la lb (fits_placed l)

  -- Every part of a set that fits, fits: its stash is no larger. So a set that fits can be reached by inserting its keys in any order.
  pub subset_fits : {R S : List ℕ} → Asc R → Asc S → (In 0 S → ⊥) → Sub R S → length (stash a b R) ≤ length (stash a b S)
  subset_fits h k nonzero f = placed_fits h (λ z. nonzero (f 0 z)) (restrict f (fits_placed k (omega arith)))

  -- Removing a key never enlarges the stash.
  pub remove_fits : {S : List ℕ} → Asc S → (In 0 S → ⊥) → (c : ℕ) → length (stash a b (without c S)) ≤ length (stash a b S)
  remove_fits {S} h nonzero c = subset_fits (asc_out c h) h nonzero (λ d. out_in c S)
