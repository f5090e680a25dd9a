-- A list of keys is fed in some order, the refused ones skipped. Which keys are listed at the end depends on the order;
-- how many does not: as many as any part of the list that fits has at most (`feed_length`, `any_order`, `feed_most`).
-- Assumes nothing.
use Rattle.std.specs.Prelude.{ℕ, ◌+◌, ◌≤◌, ◌<◌, min, ◌≡◌, refl, ◌⊎◌, leb}
use Rattle.std.proofs.Common.{sym, ◌∙◌, arith, leb-true, leb-false}
use Rattle.std.proofs.Math.Logic.{inl, inr}
use mathlib.Core.List.Memᴰ.{head as here}
use mathlib.Core.List.Memᴰ.{tail as there}
use mathlib.Core.List.{List, [], ◌∷◌, Memᴰ as In}
use Rattle.std.proofs.Math.ListN.{length}
use Rattle.basics.specs.Tests.{test}
use Rattle.basics.specs.Sets.{below, without, Sub, Asc, none}
use Rattle.basics.proofs.Sets.{in?, not?, asc_ext, some_or_all}
use Rattle.basics.proofs.Lists.{pigeonhole}
use Rattle.ordered.specs.Keys.{with_key, above}
use Rattle.ordered.proofs.Place.{with_cases, with_here, with_there, asc_with}
use Rattle.ordered.proofs.Distinct.{distinct_sorted_asc, distinct_sorted_in, in_distinct_sorted}
use Rattle.cuckoo.specs.Graph.{label, joined, component, is_on_cycle, cyclic, spare, settle, seated, stash}
use Rattle.cuckoo.proofs.Settling.{seated_sub, seated_asc, seated_stops}
use Rattle.cuckoo.proofs.Filled.{seated_stash_length}
use Rattle.cuckoo.proofs.Placement.{subset_fits}
use Rattle.feeding.specs.Feed.{fed, feed_on, feed, set_of}
use Rattle.feeding.specs.Rank.{BothCyclic}
use Rattle.feeding.proofs.Rank.{both_cyclic?, both_mono}
use Rattle.feeding.proofs.RankBound.{rank_most, rank_least}
use Rattle.feeding.proofs.RankBound.{cyclic_grows, other_keeps}

-- the set of all keys of a list
pub set_of_asc : (xs : List ℕ) → Asc (set_of xs)
unfolding set_of
set_of_asc xs = distinct_sorted_asc xs

pub set_of_in : (xs : List ℕ) → Sub (set_of xs) xs
unfolding set_of
set_of_in xs = distinct_sorted_in xs

pub in_set_of : (xs : List ℕ) → Sub xs (set_of xs)
unfolding set_of
in_set_of xs = in_distinct_sorted xs

-- lists with the same members have one set
pub set_of_same : {xs ys : List ℕ} → Sub xs ys → Sub ys xs → set_of xs ≡ set_of ys
set_of_same {xs} {ys} p q =
    asc_ext (set_of xs) (set_of ys) (set_of_asc xs) (set_of_asc ys)
    (λ u i. in_set_of ys u (p u (set_of_in xs u i)))
    (λ u i. in_set_of xs u (q u (set_of_in ys u i)))

-- a part of a set has no more keys
pub sub_length : {K S : List ℕ} → Asc K → Sub K S → length K ≤ length S
sub_length {K} {S} h s = pigeonhole (λ c. c) S h s (λ c d i j e. e)

module _ (a b : ℕ → ℕ) (s : ℕ) where
  -- a set of keys that fits
  record FittingSet (X : List ℕ) : Type 0 where
    asc : Asc X
    nonzero : In 0 X → ⊥
    fits : length (stash a b X) ≤ s

  -- what became of a key that was fed: it is in the set, or both its slots lie in components with a cycle and the stash
  -- is full
  data KeptOrRefused (X : List ℕ) (u : ℕ) : Type 0 where
    listed : In u X → KeptOrRefused X u
    refused : BothCyclic a b X u → length (stash a b X) ≡ s → KeptOrRefused X u

  -- one key
  data FeedStep (X : List ℕ) (c : ℕ) : Type 0 where
    accepted : fed a b s X c ≡ with_key c X → length (stash a b (with_key c X)) ≤ s → FeedStep X c
    skipped : fed a b s X c ≡ X → s < length (stash a b (with_key c X)) → FeedStep X c

  fed_is : (X : List ℕ) (c : ℕ) → FeedStep X c
  unfolding fed
  fed_is X c =
      let n = length (stash a b (with_key c X)) in
      elim (test (leb n s)) [ inl e ↦ accepted (rw e) (leb-true n s e) | inr e ↦ skipped (rw e) (leb-false n s e) ]

  with_zero : {X : List ℕ} {c : ℕ} → FittingSet X → (0 ≡ c → ⊥) → In 0 (with_key c X) → ⊥
  with_zero {X} {c} G nz i = elim (with_cases c X i) [ inl q ↦ nz q | inr k ↦ G.nonzero k ]

  fed_good : {X : List ℕ} {c : ℕ} → FittingSet X → (0 ≡ c → ⊥) → FittingSet (fed a b s X c)
  fed_good {X} {c} G nz =
      elim (fed_is X c) [
        | accepted e l ↦ rw e (record { asc = asc_with c G.asc; nonzero = with_zero G nz; fits = l })
        | skipped e l ↦ rw e G
      ]

  -- a key that was kept or refused stays so
  fed_keeps : {X : List ℕ} {c u : ℕ} → FittingSet X → (0 ≡ c → ⊥) → KeptOrRefused X u → KeptOrRefused (fed a b s X c) u
  fed_keeps {X} {c} {u} G nz k =
      elim (fed_is X c) [
        | accepted e l ↦ rw e (elim k [
          | listed i ↦ listed (with_there c X i)
          | refused m q ↦
              let r = subset_fits a b G.asc (asc_with c G.asc) (with_zero G nz) (λ d. with_there c X) in
              refused (both_mono (λ d. with_there c X) m) (omega arith)
        ])
        | skipped e l ↦ rw e k
      ]

  -- a key with which the stash is too long: both its slots lie in components with a cycle, and the stash is full
  stuck : {X : List ℕ} {c : ℕ} → FittingSet X → (0 ≡ c → ⊥) → (In c X → ⊥) → s < length (stash a b (with_key c X))
      → KeptOrRefused X c
  stuck {X} {c} G nz n l =
      let f = G.fits in
      elim (both_cyclic? a b X c) [
        | inl m ↦ refused m (omega (arith, cyclic_grows a b G.asc G.nonzero nz n m))
        | inr o ↦ absurd (omega (arith, other_keeps a b G.asc G.nonzero nz n o))
      ]

  -- so the key that is fed is one or the other
  fed_kept : {X : List ℕ} {c : ℕ} → FittingSet X → (0 ≡ c → ⊥) → KeptOrRefused (fed a b s X c) c
  fed_kept {X} {c} G nz =
      elim (fed_is X c) [
        | accepted e l ↦ rw e (listed (with_here c X))
        | skipped e l ↦ rw e (elim (in? c X) [ inl i ↦ listed i | inr n ↦ stuck G nz n l ])
      ]

  fed_in : {X : List ℕ} {c u : ℕ} → In u (fed a b s X c) → (u ≡ c) ⊎ In u X
  fed_in {X} {c} i = elim (fed_is X c) [ accepted e l ↦ with_cases c X (rw e at i) | skipped e l ↦ inr (rw e at i) ]

  -- all keys of a list
  on_good : {X : List ℕ} (cs : List ℕ) → FittingSet X → (In 0 cs → ⊥) → FittingSet (feed_on a b s X cs)
  unfolding feed_on
  on_good [] G z = G
  on_good {X = X} (c ∷ cs) G z = on_good {X = fed a b s X c} cs (fed_good G (λ q. z (here q))) (λ i. z (there i))

  on_keeps : {X : List ℕ} (cs : List ℕ) {u : ℕ} → FittingSet X → (In 0 cs → ⊥) → KeptOrRefused X u
      → KeptOrRefused (feed_on a b s X cs) u
  unfolding feed_on
  on_keeps [] G z k = k
  on_keeps {X = X} (c ∷ cs) {u = u} G z k =
      let nz : 0 ≡ c → ⊥ = λ q. z (here q) in
      on_keeps {X = fed a b s X c} cs (fed_good G nz) (λ i. z (there i)) (fed_keeps G nz k)

  on_kept : {X : List ℕ} (cs : List ℕ) {u : ℕ} → FittingSet X → (In 0 cs → ⊥) → In u cs
      → KeptOrRefused (feed_on a b s X cs) u
  unfolding feed_on
  on_kept (c ∷ cs) {u} G z (here q) =
      let nz : 0 ≡ c → ⊥ = λ q. z (here q) in
      on_keeps cs (fed_good G nz) (λ i. z (there i)) (rw q (fed_kept G nz))
  on_kept {X = X} (c ∷ cs) {u = u} G z (there i) = on_kept {X = fed a b s X c} cs (fed_good G (λ q. z (here q))) (λ i. z (there i)) i
  on_kept {X = X} [] {u = u} G z x3 = elim x3 [ ]

  on_in : {X : List ℕ} (cs : List ℕ) {u : ℕ} → In u (feed_on a b s X cs) → In u X ⊎ In u cs
  unfolding feed_on
  on_in [] i = inl i
  on_in {X = X} (c ∷ cs) {u = u} i = elim (on_in {X = fed a b s X c} cs i) [
    | inl k ↦ elim (fed_in k) [ inl q ↦ inr (here q) | inr m ↦ inl m ]
    | inr k ↦ inr (there k)
  ]

  empty_good : FittingSet []
  empty_good = record { asc = none; nonzero = λ i. elim i [ ]; fits = omega (arith, seated_stash_length a b [] none) }

  module _ (xs : List ℕ) (z : In 0 xs → ⊥) where
    pub set_nonzero : In 0 (set_of xs) → ⊥
    set_nonzero i = z (set_of_in xs 0 i)

    -- A set of keys of the list that fits, and to which no other of them can be added, has a number of keys that
    -- depends on the list alone: all, or as many as are seated of all and s more, whichever is less.
    pub maximal_length : {X : List ℕ} → Asc X → Sub X xs → length (stash a b X) ≤ s
        → ((u : ℕ) → In u xs → (In u X → ⊥) → s < length (stash a b (with_key u X)))
        → length X ≡ min (length (set_of xs)) (length (seated a b (set_of xs)) + s)
    maximal_length {X} h sub f no_more =
        let S = set_of xs in
        let hS = set_of_asc xs in
        let zX : In 0 X → ⊥ = λ i. z (sub 0 i) in
        let in_S : Sub X S = λ u i. in_set_of xs u (sub u i) in
        let kept : (u : ℕ) → In u xs → KeptOrRefused X u = λ u i.
        elim (in? u X) [
          | inl k ↦ listed k
          | inr n ↦ stuck (record { asc = h; nonzero = zX; fits = f }) (λ q. z (rw q i)) n (no_more u i n)
        ] in
        let few = sub_length h in_S in
        let eX = seated_stash_length a b X h in
        let eS = seated_stash_length a b S hS in
        elim (some_or_all {P = λ u. In u X → ⊥} {Q = λ u. (In u X → ⊥) → ⊥} (λ u. not? (in? u X)) xs) [
          | inl r ↦ elim (kept r.0 r.1) [
            | listed k ↦ absurd (r.2 k)
            | refused m e ↦
                let up = rank_most a b (seated_asc a b X h) (seated_stops a b X h) hS set_nonzero
                (λ u i. in_S u (seated_sub a b X h u i)) in
                let down = rank_least a b h zX hS
                (λ u i. elim (kept u (set_of_in xs u i)) [ listed k ↦ inl k | refused k q ↦ inr k ]) in
                omega arith
          ]
          | inr n ↦
              let all : Sub S X = λ u i. elim (in? u X) [ inl k ↦ k | inr o ↦ absurd (n u (set_of_in xs u i) o) ] in
              let q = asc_ext X S h hS in_S all in
              let g : length (stash a b S) ≤ s = rw q at f in
              omega (arith, sub_length hS all)
        ]

    -- What is listed at the end is a set of keys of the list that fits.
    good : FittingSet (feed a b s xs)
    unfolding feed
    good = on_good xs empty_good z

    pub feed_asc : Asc (feed a b s xs)
    feed_asc = good.asc

    pub feed_sub : Sub (feed a b s xs) xs
    unfolding feed
    feed_sub u i = elim (on_in xs i) [ inl k ↦ elim k [ ] | inr k ↦ k ]

    pub feed_fits : length (stash a b (feed a b s xs)) ≤ s
    feed_fits = good.fits

    feed_set : Sub (feed a b s xs) (set_of xs)
    feed_set u i = in_set_of xs u (feed_sub u i)

    -- A key that was refused is refused at the end, too: with it the stash would be too long.
    pub refused_still : (u : ℕ) → In u xs → (In u (feed a b s xs) → ⊥)
        → s < length (stash a b (with_key u (feed a b s xs)))
    unfolding feed
    refused_still u i n =
        elim (on_kept xs empty_good z i) [
          | listed k ↦ absurd (n k)
          | refused m e ↦ omega (arith, cyclic_grows a b feed_asc good.nonzero (λ q. z (rw q i)) n m)
        ]

    -- How many are listed.
    pub feed_length : length (feed a b s xs) ≡ min (length (set_of xs)) (length (seated a b (set_of xs)) + s)
    feed_length = maximal_length feed_asc feed_sub feed_fits refused_still

    -- Where all fit, all are listed, in whatever order they were fed.
    pub feed_all : length (stash a b (set_of xs)) ≤ s → feed a b s xs ≡ set_of xs
    feed_all l = asc_ext (feed a b s xs) (set_of xs) feed_asc (set_of_asc xs) feed_set (λ u i.
        elim (in? u (feed a b s xs)) [
          | inl k ↦ k
          | inr n ↦
              let m = refused_still u (set_of_in xs u i) n in
              let r = subset_fits a b (asc_with u feed_asc) (set_of_asc xs) set_nonzero
              (λ v j. elim (with_cases u (feed a b s xs) j) [ inl q ↦ rw q i | inr k ↦ feed_set v k ]) in
              absurd (omega arith)
        ])
