-- The laws of what specs/Link.antt defines.
use Rattle.std.specs.Prelude.{ℕ, suc, ◌<◌, ◌≤◌, ◌≡◌, eqb, ltb, length, set}
use Rattle.std.proofs.Math.Path.{refl}
use Rattle.std.proofs.Common.{◌∙◌, arith, get_or-set_same, get_or-set_other, eq-eqb, ne_eqb}
use Rattle.std.proofs.Math.Logic.{inl, inr}
use mathlib.Core.List.Memᴰ.{head as here}
use mathlib.Core.List.Memᴰ.{tail as there}
use mathlib.Core.List.{List, [], ◌∷◌, Memᴰ as In}
use Rattle.std.proofs.Math.ListN.{length-set, length-replicate}
use Rattle.basics.specs.Tests.{test}
use Rattle.basics.proofs.Tests.{eq?}
use Rattle.basics.specs.Sets.{Sub, Asc, some}
use Rattle.cuckoo.specs.Joined.{Joined}
use Rattle.cuckoo.proofs.Joined.{joined?, jrefl, edge, mono}
use Rattle.cuckoo.specs.Seating.{Ends, from_a, from_b}
use Rattle.cuckoo.specs.Forest.{forest}
use Rattle.forest.proofs.Oriented.{forest_sub, recast}
use Rattle.forest.specs.Reroot.{reroot}
use Rattle.forest.proofs.RerootLaws.{length_reroot}
use Rattle.forest.proofs.Link.{forest_none, grow_none, grow_pass, grow_link, grow_is, links, forest_fits, keys_fit}
use Rattle.forest.specs.Link.{grow, Once, no_key, one_more}
use Rattle.partition.specs.Words.{max_points, rep_of, size_of, united}
use Rattle.partition.specs.Partition.{Partition}
use Rattle.partition.proofs.Partition.{start}
use Rattle.partition.proofs.United.{add_between}
use Rattle.build.specs.Link.{Linking, smaller_end, link_key, link_keys, unlinked, Marked, Linked, Sound}

module _ (a b : ℕ → ℕ) (other : ℕ → ℕ → ℕ) (m : ℕ) where
  pub link_length : (R : List ℕ) (P : Linking) → length ((link_keys a b other m) R P).next ≡ length P.next
  unfolding link_keys link_key
  link_length [] P = refl
  link_length (c ∷ R) P = link_length R ((link_key a b other m) c P) ∙ elim (test (eqb (rep_of P.sets (a c)) (rep_of P.sets (b c)))) [
    | inl t ↦ rw t (length-set P.next c m)
    | inr t ↦ rw t (length-set P.next c 0)
  ]

mark_old : {m c : ℕ} {F R next : List ℕ} (x : ℕ) → (In x R → ⊥) → (In c F → ⊥) → x < length next → ((In x (c ∷ R) → ⊥) → Marked m F next x)
    → Marked m F (set next c m) x
mark_old {m} {c} {F} {R} {next} x n out l h = elim (eq? x c) [
  | inl q ↦ record { on = λ i. absurd (out (rw q at i)); off = λ k. rw q (get_or-set_same next c m 0 (rw q at l)) }
  | inr ne ↦
      let k = h (λ i. elim i [ here q ↦ ne q | there y ↦ n y ]) in
      let e = get_or-set_other next c x m 0 ne in
      record { on = λ i. e ∙ k.on i; off = λ o. e ∙ k.off o }
]

mark_new : {m c : ℕ} {F R next : List ℕ} (x : ℕ) → (In x R → ⊥) → x < length next → ((In x (c ∷ R) → ⊥) → Marked m F next x)
    → Marked m (c ∷ F) (set next c 0) x
mark_new {m} {c} {F} {R} {next} x n l h = elim (eq? x c) [
  | inl q ↦ record { on = λ i. rw q (get_or-set_same next c 0 0 (rw q at l)); off = λ k. absurd (k (here q)) }
  | inr ne ↦
      let k = h (λ i. elim i [ here q ↦ ne q | there y ↦ n y ]) in
      let e = get_or-set_other next c x 0 0 ne in
      record { on = λ i. e ∙ k.on (elim i [ here q ↦ absurd (ne q) | there y ↦ y ]); off = λ o. e ∙ k.off (λ i. o (there i)) }
]

module _ {a b : ℕ → ℕ} where
  linked_none : {m : ℕ} (words : List ℕ) → m ≤ max_points → Linked a b m [] (unlinked m words)
  unfolding unlinked
  linked_none {m} words few = record { size = length-replicate m 0; whole = forest_none a b m; parts = start m few }

  pub sound_start : {m : ℕ} (words : List ℕ) → m ≤ max_points → Sound a b m (unlinked m words)
  sound_start words few = record { keys = []; linked = linked_none words few; once = no_key }

  -- the forest has no more keys than there are slots
  pub forest_few : {m : ℕ} {S : List ℕ} {P : Linking} → Asc S → Linked a b m (forest a b S) P → length (forest a b S) ≤ m
  forest_few asc K = omega (arith, forest_fits a b asc K.whole, K.size)

  -- only the set of keys counts
  linked_same : {m : ℕ} {F G : List ℕ} {P : Linking} → Sub F G → Sub G F → Linked a b m F P → Linked a b m G P
  linked_same f g K = record {
    size = K.size;
    whole = record { forest = forest_sub g K.whole.forest; each = λ p. recast (λ c i k. f c i) (λ c i k. g c i) jrefl (λ x k. refl) (K.whole.each p) };
    parts = record {
      long = K.parts.long;
      points_bound = K.parts.points_bound;
      reached = K.parts.reached;
      honest = K.parts.honest;
      law = λ u v lu lv. (λ e. mono f ((K.parts.law u v lu lv).0 e), λ j. (K.parts.law u v lu lv).1 (mono g j));
    };
  }

module _ {a b : ℕ → ℕ} {other : ℕ → ℕ → ℕ} (turn : (c v w : ℕ) → Ends a b c v w → other v c ≡ w) (m : ℕ) (fits : (c : ℕ) → (a c < m) × (b c < m)) where
  -- a key between two trees links them, whichever end v it is put into
  link_between : {F : List ℕ} {P : Linking} {c v w : ℕ} → Linked a b m F P → Once F → (c ≡ 0 → ⊥) → (Joined a b F (a c) (b c) → ⊥) → Ends a b c v w
      → Partition a b (c ∷ F) m (united P.sets (rep_of P.sets (a c)) (rep_of P.sets (b c)))
      → Linked a b m (c ∷ F) (record { held = reroot other (suc m) P.held c v; sets = united P.sets (rep_of P.sets (a c)) (rep_of P.sets (b c)); next = set P.next c 0 })
  link_between {P = P} {c = c} {v = v} K o nz apart e parts = record {
    size = length_reroot other (suc m) P.held c v ∙ K.size;
    whole = links turn m fits (suc m) (omega (arith, keys_fit K.whole o, K.size)) K.whole K.size nz e apart;
    parts = parts;
  }

  -- and is marked by 0
  link_new : {F : List ℕ} {P : Linking} {c : ℕ} → Linked a b m F P → Once F → (c ≡ 0 → ⊥) → (Joined a b F (a c) (b c) → ⊥)
      → Linked a b m (c ∷ F) (link_key a b other m c P) × ((link_key a b other m c P).next ≡ set P.next c 0)
  unfolding link_key smaller_end
  link_new {F} {P} {c} K o nz apart =
      let u = rep_of P.sets (a c) in
      let v = rep_of P.sets (b c) in
      let n : u ≡ v → ⊥ = λ e. apart ((K.parts.law (a c) (b c) (fits c).0 (fits c).1).0 e) in
      let parts = add_between K.parts c (fits c).0 (fits c).1 n in
      rw (ne_eqb u v n) (elim (test (ltb (size_of P.sets u) (size_of P.sets v))) [
        | inl t ↦ rw t (link_between K o nz apart (from_a refl refl) parts, refl)
        | inr t ↦ rw t (link_between K o nz apart (from_b refl refl) parts, refl)
      ])

  -- a key within a tree is marked by m, and changes nothing else
  link_old : {F : List ℕ} {P : Linking} {c : ℕ} → Linked a b m F P → Joined a b F (a c) (b c)
      → Linked a b m F (link_key a b other m c P) × ((link_key a b other m c P).next ≡ set P.next c m)
  unfolding link_key
  link_old {P = P} {c = c} K j =
      rw (eq-eqb (rep_of P.sets (a c)) (rep_of P.sets (b c)) ((K.parts.law (a c) (b c) (fits c).0 (fits c).1).1 j))
      (record { size = K.size; whole = K.whole; parts = K.parts }, refl)

  -- what code has to know is kept from key to key
  pub sound_key : {P : Linking} (c : ℕ) → (c ≡ 0 → ⊥) → Sound a b m P → Sound a b m (link_key a b other m c P)
  sound_key c nz Q = elim (joined? a b Q.keys (a c) (b c)) [
    | inl j ↦ record { keys = Q.keys; linked = (link_old Q.linked j).0; once = Q.once }
    | inr n ↦ record { keys = c ∷ Q.keys; linked = (link_new Q.linked Q.once nz n).0; once = one_more (λ i. n (edge i)) Q.once }
  ]

  module _ (few : m ≤ max_points) {S : List ℕ} (asc : Asc S) (nonzero : (c : ℕ) → In c S → c ≡ 0 → ⊥) where
    -- the keys of S that are not among R have been through, and F are those of them that are linked
    record LinkedSoFar (R F : List ℕ) (P : Linking) : Type 0 where
      linked : Linked a b m F P
      once : Once F
      marked : (x : ℕ) → In x S → (In x R → ⊥) → x < length P.next → Marked m F P.next x
      ahead : (x : ℕ) → In x R → In x F → ⊥

    -- so the keys are linked as `grow` says
    link_grow : (R : List ℕ) {F : List ℕ} {P : Linking} → Asc R → Sub R S → LinkedSoFar R F P → LinkedSoFar [] (grow a b R F) (link_keys a b other m R P)
    unfolding link_keys
    link_grow [] {F} ordered sub Q = rw (grow_none a b F) Q
    link_grow (c ∷ R) {F} {P} (some up ordered) sub Q =
        let sub' : Sub R S = λ x i. sub x (there i) in
        elim (joined? a b F (a c) (b c)) [
          | inl j ↦
              let K = link_old Q.linked j in
              rw (grow_pass a b c R F j) (link_grow R ordered sub' (record {
                linked = K.0;
                once = Q.once;
                marked = λ x i n l. rw K.1 (mark_old x n (Q.ahead c (here refl)) (rw (K.1, length-set P.next c m) at l)
                    (λ k. Q.marked x i k (rw (K.1, length-set P.next c m) at l)));
                ahead = λ x i. Q.ahead x (there i);
              }))
          | inr n ↦
              let K = link_new Q.linked Q.once (nonzero c (sub c (here refl))) n in
              rw (grow_link a b c R F n) (link_grow R ordered sub' (record {
                linked = K.0;
                once = one_more (λ i. n (edge i)) Q.once;
                marked = λ x i n l. rw K.1 (mark_new x n (rw (K.1, length-set P.next c 0) at l)
                    (λ k. Q.marked x i k (rw (K.1, length-set P.next c 0) at l)));
                ahead = λ x i k. elim k [ here q ↦ omega (arith, up x i) | there y ↦ Q.ahead x (there i) y ];
              }))
        ]

    -- Law of step 1: the held words are an oriented forest of Kruskal's forest of S, the sets are its trees, and the keys off it are marked.
    pub link_all : (words : List ℕ) → Linked a b m (forest a b S) (link_keys a b other m S (unlinked m words))
        × ((x : ℕ) → In x S → x < length words → Marked m (forest a b S) (link_keys a b other m S (unlinked m words)).next x)
    unfolding unlinked
    link_all words =
        let g = grow_is a b asc in
        let Q = link_grow S asc (λ x i. i) (record {
          linked = linked_none words few;
          once = no_key;
          marked = λ x i n. absurd (n i);
          ahead = λ x i k. elim k [ ];
        }) in (
          linked_same g.0 g.1 Q.linked,
          λ x i l.
              let k = Q.marked x i (λ y. elim y [ ]) (rw (link_length a b other m S (unlinked m words)) l) in
              record { on = λ f. k.on (g.1 x f); off = λ n. k.off (λ f. n (g.0 x f)) },
        )
