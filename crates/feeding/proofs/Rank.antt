-- The laws of what specs/Rank.antt defines.
use Rattle.std.specs.Prelude.{ℕ, suc, ◌+◌, ◌≤◌, ◌≡◌, cond, ◌⊎◌, ◌↔◌, eqb, length}
use Rattle.std.proofs.Common.{sym, ◌∙◌, arith, eqb-true}
use Rattle.std.proofs.Math.Bool.{true≢false}
use Rattle.std.proofs.Math.Logic.{inl, inr}
use mathlib.Core.List.Memᴰ.{head as here}
use mathlib.Core.List.Memᴰ.{tail as there}
use mathlib.Core.List.{List, ◌∷◌, Memᴰ as In}
use Rattle.std.proofs.lemmas.Bool.{eqb-false}
use Rattle.basics.specs.Tests.{test}
use Rattle.basics.specs.Sets.{without, Sub, Asc}
use Rattle.basics.proofs.Sets.{in?, out_in, in_out, out_ne, out_sub}
use Rattle.basics.proofs.Lists.{pigeonhole}
use Rattle.ordered.specs.Keys.{with_key}
use Rattle.ordered.proofs.Place.{with_cases, with_here, with_there, asc_with, length_with}
use Rattle.cuckoo.specs.Graph.{cyclic, seated, stash, occupant}
use Rattle.cuckoo.specs.Joined.{Joined, past, along, back}
use Rattle.cuckoo.proofs.Joined.{jrefl, jsym, jtrans, edge, mono, split, joined?}
use Rattle.cuckoo.specs.Settling.{OnCycle, Cyclic, Spare, Settled}
use Rattle.cuckoo.proofs.Settling.{cyclic_true, true_cyclic, cyclic_near, cyclic?}
use Rattle.cuckoo.proofs.Settling.{moves, cycle_mono, cyclic_mono, seated_sub, seated_asc, seated_joined, seated_stops}
use Rattle.cuckoo.proofs.Seating.{look}
use Rattle.cuckoo.proofs.Places.{seat_near, seat_occupant, slot_seat}
use Rattle.cuckoo.proofs.Filled.{occupant_injective, seated_stash_length}
use Rattle.cuckoo.proofs.Kruskal.{stashed_cyclic}
use Rattle.cuckoo.proofs.Cycles.{seated_cyclic}
use Rattle.cuckoo.proofs.Placement.{subset_fits}
use Rattle.feeding.specs.Rank.{BothCyclic}

module _ (a b : ℕ → ℕ) where
  pub both_cyclic? : (R : List ℕ) (c : ℕ) → (BothCyclic a b) R c ⊎ ((BothCyclic a b) R c → ⊥)
  both_cyclic? R c =
      elim (cyclic? a b R (a c)) [
        | inl l ↦ elim (cyclic? a b R (b c)) [
          | inl r ↦ inl (record { left = l; right = r })
          | inr n ↦ inr (λ k. n k.right)
        ]
        | inr n ↦ inr (λ k. n k.left)
      ]

  -- A settled set K whose keys are of the settled set T, or have both slots in components of T with a cycle, has no
  -- more keys than T: each key goes to the one that T has in its slot; in a component without a cycle to itself.
  module _ {K T : List ℕ} (stop : Settled a b K) (stopT : Settled a b T) (asc : Asc T) (nonzero : In 0 T → ⊥)
      (covered : (c : ℕ) → In c K → In c T ⊎ (BothCyclic a b) T c) where
    pub counterpart : ℕ → ℕ
    counterpart c = cond (cyclic a b T (a c)) (occupant a b T (cond (eqb (occupant a b K (a c)) c) (a c) (b c))) c

    pub data Counterpart (c : ℕ) : Type 0 where
      holder : (u d : ℕ) → occupant a b K u ≡ c → counterpart c ≡ d → Cyclic a b T u → occupant a b T u ≡ d → In d T
          → Cyclic a b T (a d) → Counterpart c
      itself : counterpart c ≡ c → In c T → (Cyclic a b T (a c) → ⊥) → Counterpart c

    pub counterpart_is : (c : ℕ) → In c K → Counterpart c
    unfolding counterpart
    counterpart_is c i = elim (test (cyclic a b T (a c))) [
      | inl e ↦
          let L = cyclic_true e in
          let R : Cyclic a b T (b c) = elim (covered c i) [
            | inl k ↦ cyclic_near (jsym (edge k)) L
            | inr m ↦ m.right
          ] in
          elim (test (eqb (occupant a b K (a c)) c)) [
            | inl f ↦ held (eqb-true (occupant a b K (a c)) c f) (rw (e, f)) L
            | inr f ↦ elim (look a b K stop c i) [
              | inl q ↦ absurd (eqb-false (occupant a b K (a c)) c f q)
              | inr q ↦ held q (rw (e, f)) R
            ]
          ]
      | inr e ↦
          let flat : Cyclic a b T (a c) → ⊥ = λ L. true≢false (sym (true_cyclic L) ∙ e) in
          elim (covered c i) [ inl k ↦ itself (rw e) k flat | inr m ↦ absurd (flat m.left) ]
    ]
      where
        held : {u : ℕ} → occupant a b K u ≡ c → counterpart c ≡ occupant a b T u → Cyclic a b T u → Counterpart c
        held {u} q e L =
            let r = slot_seat a b stopT L.cycle.on L.near in
            let o = seat_occupant a b r.1 in
            holder u r.0 q (e ∙ o) L o r.1.c_in (cyclic_near (jsym (seat_near a b r.1)) L)

    pub into : {c : ℕ} → Counterpart c → In (counterpart c) T
    into (holder u d q e L o i M) = rw e i
    into (itself e i n) = rw e i

    pub apart : {c d : ℕ} → Counterpart c → Counterpart d → counterpart c ≡ counterpart d → c ≡ d
    apart {c} {d} (holder u x q e L o k M) (holder w y r f L' p l M') m =
        let eq = occupant_injective a b stopT asc nonzero {w = w} L (cc) in
        cc
    apart {c} {d} (holder u x q e L o k M) (itself f l n) m = let z : x ≡ d = cc in absurd (n (rw z at M))
    apart {c} {d} (itself e k n) (holder w y r f L p l M) m = let z : y ≡ c = cc in absurd (n (rw z at M))
    apart (itself e k n) (itself f l o) m = cc

module _ {a b : ℕ → ℕ} where
  pub both_mono : {R R' : List ℕ} {c : ℕ} → Sub R R' → BothCyclic a b R c → BothCyclic a b R' c
  both_mono s k = record { left = cyclic_mono s k.left; right = cyclic_mono s k.right }

module _ (a b : ℕ → ℕ) where
  -- a key of a set is seated, or both its slots are in components with a cycle of the seated keys
  pub seated_both : {S : List ℕ} {c : ℕ} → Asc S → In c S → In c (seated a b S) ⊎ BothCyclic a b (seated a b S) c
  seated_both {S} {c} h i =
      elim (in? c (seated a b S)) [
        | inl k ↦ inl k
        | inr n ↦
            let l = stashed_cyclic a b h c i n in
            inr (record { left = l; right = cyclic_near ((seated_joined a b S h).1 (jsym (edge i))) l })
      ]

module _ {a b : ℕ → ℕ} where
  -- A settled set T, and T', the same with one key c more. If a key is spare then, both slots of c are in components of
  -- T with a cycle.
  module _ {T T' : List ℕ} {c : ℕ} (on : In c T') (new : In c T → ⊥) (up : Sub T T') (down : Sub T' (c ∷ T))
      (stop : Settled a b T) where
    old : {d : ℕ} → In d T' → (c ≡ d → ⊥) → In d T
    old {d} i n = elim (down d i) [ here q ↦ absurd (n (sym q)) | there k ↦ k ]

    rest_sub : Sub (without c T') T
    rest_sub d i = old (out_in c T' i) (out_ne c T' i)

    out_down : (d : ℕ) {R R' : List ℕ} → Sub R' (c ∷ R) → Sub (without d R') (c ∷ without d R)
    out_down d {R} {R'} s x i =
        elim (s x (out_in d R' i)) [ here q ↦ here q | there k ↦ there (in_out d R (out_ne d R' i) k) ]

    out_T : (d : ℕ) → Sub (without d T) T
    out_T d x = out_in d T

    -- from a slot that is not near c
    away : {R R' : List ℕ} {u v : ℕ} → Sub R T → Sub R' (c ∷ R) → (Joined a b T' u (a c) → ⊥) → Joined a b R' u v
        → Joined a b R u v
    away {R} r s n j =
        let r' : Sub R T' = λ x i. up x (r x i) in
        elim (split c R (mono s j)) [
          | past p ↦ p
          | along p q ↦ absurd (n (mono r' p))
          | back p q ↦ absurd (n (jtrans (mono r' p) (jsym (edge on))))
        ]

    spare_away : {d : ℕ} → (Joined a b T' (a d) (a c) → ⊥) → Spare a b T' d → Spare a b T d
    spare_away {d} n s =
        let L = s.rest in
        let e = L.d in
        let near : Joined a b T' (a d) (a e) = mono (λ x. out_in d T') L.near in
        let ne : Joined a b T' (a e) (a c) → ⊥ = λ j. n (jtrans near j) in
        let e≢c : c ≡ e → ⊥ = λ q. ne (rw q jrefl) in
        record {
          cycle = record {
            on = old s.cycle.on (λ q. n (rw q jrefl));
            closed = away (out_T d) (out_down d down) n s.cycle.closed;
          };
          rest = record {
            d = e;
            cycle = record {
              on = in_out d T (out_ne d T' L.cycle.on) (old (out_in d T' L.cycle.on) e≢c);
              closed =
                  away (λ x i. out_in d T (out_in e (without d T) i)) (out_down e (out_down d down)) ne
                  L.cycle.closed;
            };
            near = away (out_T d) (out_down d down) n L.near;
          };
        }

    -- where c joins what was not joined, no key but c
    bridge : {R R' : List ℕ} {x : ℕ} → (Joined a b T (a c) (b c) → ⊥) → Sub R T → Sub R' (c ∷ R) → In x T
        → Joined a b R' (a x) (b x) → Joined a b R (a x) (b x)
    bridge {R} {R'} {x} n r s i j =
        let k : Joined a b T (a x) (b x) = edge i in
        elim (split c R (mono s j)) [
          | past p ↦ p
          | along p q ↦ let p' = mono r p in let q' = mono r q in absurd (n (record { same = cc }))
          | back p q ↦ let p' = mono r p in let q' = mono r q in absurd (n (record { same = cc }))
        ]

    spare_bridge : {d : ℕ} → (Joined a b T (a c) (b c) → ⊥) → Spare a b T' d → BothCyclic a b T c
    spare_bridge {d} n s =
        let L = s.rest in
        let e = L.d in
        let R = without d T in
        let c≢d : c ≡ d → ⊥ = λ q. n (mono rest_sub (rw (← q) at s.cycle.closed)) in
        let c≢e : c ≡ e → ⊥ = λ q.
        n (mono (λ x i. rest_sub x (out_sub c (λ y. out_in d T') x i)) (rw (← q) at L.cycle.closed)) in
        let dT = old s.cycle.on c≢d in
        let eT = old (out_in d T' L.cycle.on) c≢e in
        let cd : OnCycle a b T d = record {
          on = dT;
          closed = bridge n (out_T d) (out_down d down) dT s.cycle.closed;
        } in
        let ce : OnCycle a b R e = record {
          on = in_out d T (out_ne d T' L.cycle.on) eT;
          closed = bridge n (λ x i. out_in d T (out_in e R i)) (out_down e (out_down d down)) eT L.cycle.closed;
        } in
        let ce' : OnCycle a b T e = cycle_mono (out_T d) ce in
        elim (split c R (mono (out_down d down) L.near)) [
          | past p ↦ absurd (stop d (record { cycle = cd; rest = record { d = e; cycle = ce; near = p } }))
          | along p q ↦ record {
            left = record { d = d; cycle = cd; near = jsym (mono (out_T d) p) };
            right = record { d = e; cycle = ce'; near = mono (out_T d) q };
          }
          | back p q ↦ record {
            left = record { d = e; cycle = ce'; near = mono (out_T d) q };
            right = record { d = d; cycle = cd; near = jsym (mono (out_T d) p) };
          }
        ]

    pub spare_both : {d : ℕ} → Spare a b T' d → BothCyclic a b T c
    spare_both {d} s =
        elim (joined? a b T (a c) (b c)) [
          | inl k ↦ elim (joined? a b T' (a d) (a c)) [
            | inl j ↦
                let r : OnCycle a b T' c = record {
                  on = on;
                  closed = mono (λ x i. in_out c T' (λ q. new (rw q i)) (up x i)) k;
                } in
                let t = moves s r j in
                let l = cyclic_mono rest_sub t.rest in
                record { left = l; right = cyclic_near (jsym k) l }
            | inr n ↦ absurd (stop d (spare_away n s))
          ]
          | inr n ↦ spare_bridge n s
        ]

module _ (a b : ℕ → ℕ) {X : List ℕ} {c : ℕ} (h : Asc X) (z : In 0 X → ⊥) (nz : 0 ≡ c → ⊥) (new : In c X → ⊥) where
  pub with_nonzero : In 0 (with_key c X) → ⊥
  with_nonzero i = elim (with_cases c X i) [ inl q ↦ nz q | inr k ↦ z k ]

  pub lengths : (length (seated a b X) + length (stash a b X) ≡ length X)
      × (length (seated a b (with_key c X)) + length (stash a b (with_key c X)) ≡ suc (length X))
  lengths = (seated_stash_length a b X h, seated_stash_length a b (with_key c X) (asc_with c h) ∙ length_with c X h new)
