-- The laws of what specs/Rising.antt defines.
use Rattle.std.specs.Prelude.{ℕ, ◌≡◌, Bool, false, ◌||◌, ◌↔◌, eqb}
use Rattle.std.proofs.Math.Path.{sym, ap}
use Rattle.std.proofs.Common.{◌∙◌, arith}
use Rattle.std.proofs.Math.Bool.{true, not, true≢false}
use Rattle.std.proofs.Math.Logic.{inl, inr}
use mathlib.Core.List.{List, Memᴰ as In}
use borrow.Author.Tests.{eqb-true, eq-eqb, not-true, not-false}
use Rattle.basics.specs.Tests.{test}
use Rattle.basics.proofs.Tests.{or_cases, bool_ext}
use Rattle.basics.specs.Sets.{keep, first, member, below, Asc}
use Rattle.basics.proofs.Sets.{member_in, in_member}
use Rattle.basics.proofs.Sets.{asc_keep, keep_in, keep_test, in_keep, first_in}
use Rattle.basics.proofs.Lists.{keep_ext, first_low}
use Rattle.cuckoo.specs.Graph.{joined, component, seated, stash}
use Rattle.cuckoo.specs.Joined.{Joined}
use Rattle.cuckoo.proofs.Joined.{jrefl, jsym, joined_true, true_joined, no_joined}
use Rattle.cuckoo.specs.Forest.{forest}
use Rattle.cuckoo.proofs.Forest.{forest_no, in_forest}
use Rattle.cuckoo.specs.Settling.{Stays, tree, smallest}
use Rattle.cuckoo.proofs.Components.{in_component, component_in, component_near, asc_component}
use Rattle.cuckoo.proofs.Kruskal.{kruskal_keep}
use Rattle.cuckoo.specs.Rising.{joins_groups, loop_closers, rises_seated, rising_seated, rising_stash}

module _ (a b : ℕ → ℕ) where
  -- The laws. The keys that join groups, going up, are Kruskal's forest.

  closes_off : (S : List ℕ) {x : ℕ} → not ((joins_groups a b) S x) ≡ true → In x (forest a b S) → ⊥
  unfolding joins_groups
  closes_off S {x} t i = forest_no S i (joined_true (not-false _ (not-true _ t)))

  off_closes : (S : List ℕ) {x : ℕ} → In x S → (In x (forest a b S) → ⊥) → not ((joins_groups a b) S x) ≡ true
  unfolding joins_groups
  off_closes S {x} i n = elim (test (joined a b (below x S) (a x) (b x))) [
    | inl t ↦ rw t
    | inr t ↦ absurd (n (in_forest S i (λ j. true≢false (sym (true_joined j) ∙ t))))
  ]

  module _ {S : List ℕ} (asc : Asc S) where
    abbrev others : ℕ → Bool
    others x = not ((joins_groups a b) S x)

    -- a key of c's component that closes a loop is one of those among which the smallest is seated, and these are such
    in_closers : {c x : ℕ} → In x S → others x ≡ true → Joined a b S (a x) (a c) → In x ((loop_closers a b) S (a c))
    unfolding loop_closers
    in_closers {c} i t j = in_keep others (component a b S (a c)) t (in_component a b S (a c) i (jsym j))

    closer_is : {c x : ℕ} → In x ((loop_closers a b) S (a c)) → In x S × ((others x ≡ true) × Joined a b S (a x) (a c))
    unfolding loop_closers
    closer_is {c} i =
        let C = component a b S (a c) in
        let k = keep_in others C i in
        (component_in a b S (a c) k, (keep_test others C i, jsym (component_near a b S (a c) k)))

    closers_asc : (c : ℕ) → Asc ((loop_closers a b) S (a c))
    unfolding loop_closers
    closers_asc c = asc_keep others (asc_component a b S (a c) asc)

    seated_stays : (c : ℕ) → In c S → ((rises_seated a b) S c ≡ true) ↔ Stays a b S c
    unfolding rises_seated joins_groups
    seated_stays c i = (to, from)
      where
        to : (rises_seated a b) S c ≡ true → Stays a b S c
        to t = elim (or_cases ((joins_groups a b) S c) (eqb c (first ((loop_closers a b) S (a c)))) t) [
          | inl j ↦ tree (in_forest S i (λ k. true≢false (sym (true_joined k) ∙ not-true _ j)))
          | inr f ↦ smallest (λ x ix nx k.
              let l = first_low (closers_asc c) (in_closers ix (off_closes S ix nx) k) in
              omega (arith, eqb-true c (first ((loop_closers a b) S (a c))) f))
        ]

        from : Stays a b S c → (rises_seated a b) S c ≡ true
        from (tree f) = rw (no_joined (forest_no S f))
        from (smallest h) = elim (test ((joins_groups a b) S c)) [
          | inl j ↦ rw j
          | inr j ↦
              let L = (loop_closers a b) S (a c) in
              let k : In c L = in_closers i (rw j) jrefl in
              let x = closer_is (first_in L k) in
              let low = h (first L) x.0 (closes_off S x.1.0) x.1.1 in
              rw (j, eq-eqb c (first L) (omega (arith, first_low (closers_asc c) k)))
        ]

    -- What the rule seats is what document 01's rule seats,
    pub rising_seats : (rising_seated a b) S ≡ seated a b S
    unfolding rising_seated
    rising_seats = sym (kruskal_keep a b asc ((rises_seated a b) S) seated_stays)

    -- and the drawer is the same.
    pub rising_stashes : (rising_stash a b) S ≡ stash a b S
    unfolding rising_stash rising_seated stash
    rising_stashes =
        let p = (rises_seated a b) S in
        let same : (c : ℕ) → In c S → p c ≡ member c (seated a b S) = λ c i.
        bool_ext (p c) (member c (keep p S)) (λ t. in_member (in_keep p S t i))
        (λ t. keep_test p S (member_in c (keep p S) t)) ∙ ap (member c) rising_seats in
        keep_ext (λ c. not (p c)) (λ c. not (member c (seated a b S))) S (λ c i. ap not (same c i))
