-- The laws of what specs/Round.antt defines.
use Prim.Native.Nat.{ℕ, zero, suc, ◌+◌, ◌-◌, ◌<◌, ◌≤◌}
use Rattle.std.specs.Prelude.{◌≡◌, List, [], ◌∷◌}
use Rattle.std.proofs.Math.Path.{refl, sym, ap}
use Rattle.std.proofs.Common.{◌∙◌}
use Rattle.std.proofs.Math.Logic.{inl, inr}
use native.Mathlib.Omega.{arith}
use Rattle.basics.proofs.Tests.{eq?, le?}
use Rattle.basics.specs.Sets.{without, Asc}
use Rattle.basics.proofs.Sets.{in_out, out_sub}
use Rattle.basics.specs.Lists.{passes, fails}
use Rattle.basics.proofs.Lists.{picked}
use Rattle.cuckoo.specs.Graph.{is_on_cycle, root, occupant}
use Rattle.cuckoo.specs.Joined.{Joined}
use Rattle.cuckoo.proofs.Joined.{jrefl, jsym, jtrans, mono}
use Rattle.cuckoo.specs.Settling.{OnCycle, Settled}
use Rattle.cuckoo.proofs.Settling.{true_is_on_cycle}
use Rattle.cuckoo.specs.Seating.{Ends, from_a, from_b}
use Rattle.cuckoo.proofs.Seating.{ends_edge, ends_near, ends_flip, ends_cycle, root_same}
use Rattle.cuckoo.proofs.Tree.{far_near}
use Rattle.cuckoo.proofs.Components.{in_component, asc_component}
use Rattle.cuckoo.proofs.Places.{hung_sub, seat_near, seat_occupant, slot_seat}
use Rattle.cuckoo.specs.Places.{Seat}
use Rattle.cuckoo.specs.Trail.{seat, other, trail, Trail, ends, hands_on}
use Rattle.cuckoo.proofs.Trail.{seat_other, seat_once, hangs, hung_near, whole_only, trail_whole}
use Rattle.cuckoo.specs.Round.{path, along, held, Under}

-- A walk by steps g from the slot v: the slot after n steps,
module _ (g : ℕ → ℕ) where
  pub path_none : (v : ℕ) → (path g) v 0 ≡ v
  unfolding path
  path_none v = refl

  -- one step more
  pub path_step : (v n : ℕ) → (path g) v (suc n) ≡ g ((path g) v n)
  unfolding path
  path_step v zero = refl
  path_step v (suc n) = path_step (g v) n

  pub path_shift : (v m n : ℕ) → (path g) ((path g) v m) n ≡ (path g) v (m + n)
  unfolding path
  path_shift v zero n = let e : 0 + n ≡ n = omega arith in rw e
  path_shift v (suc m) n = let e : suc m + n ≡ suc (m + n) = omega arith in rw e (path_shift (g v) m n)

  -- a walk that is back after m steps is after i more where it was after i
  module _ (v m : ℕ) (back : (path g) v m ≡ v) where
    path_round : (i : ℕ) → (path g) v (m + i) ≡ (path g) v i
    path_round i = sym (path_shift v m i) ∙ ap (λ (u : ℕ). (path g) u i) back

    -- from each of its slots it comes to each
    path_on : (q i : ℕ) → q < m → (e : ℕ) × ((path g) ((path g) v q) e ≡ (path g) v i)
    path_on q i l = elim (le? q i) [
      | inl k ↦ (i - q, path_shift v q (i - q) ∙ ap ((path g) v) (omega arith))
      | inr k ↦ (m - q + i, path_shift v q (m - q + i) ∙ ap ((path g) v) (omega arith) ∙ path_round i)
    ]

module _ (a b : ℕ → ℕ) {T : List ℕ} (asc : Asc T) (stop : Settled a b T) where
  -- the root is no larger than any key of its component that lies on a cycle
  root_least : {v x : ℕ} → OnCycle a b T x → Joined a b T v (a x) → root a b T v ≤ x
  unfolding root
  root_least {v} {x} o j =
      let i = in_component a b T v o.on j in
      elim (picked (is_on_cycle a b T) (asc_component a b T v asc) i) [ passes k t low ↦ low x i (true_is_on_cycle o) | fails k n low ↦ low x i ]

  -- g leads from a slot to the other slot of the key that sits there
  module _ (g : ℕ → ℕ) (crosses : (v c : ℕ) → Seat a b T v c → Ends a b c v (g v)) where
    pub under : {v c : ℕ} → Seat a b T v c → (Under a b asc stop g crosses) (root a b T (a c)) v
    under S = let e = seat_occupant a b S in record { key = rw e S; of = rw e }

    under_next : {z v : ℕ} → (Under a b asc stop g crosses) z v → (Under a b asc stop g crosses) z (g v)
    under_next {z} {v} U =
        let c = (held a b asc stop) v in
        let i = U.key.c_in in
        let near = ends_near (ends_flip (crosses _ _ U.key)) i in
        let r = slot_seat a b stop i near in
        let S : Seat a b T (g v) ((held a b asc stop) (g v)) = rw (seat_occupant a b r.1) r.1 in
        record { key = S; of = sym (root_same a b T (jtrans (jsym near) (seat_near a b S))) ∙ U.of }

    pub under_path : {z v : ℕ} → (Under a b asc stop g crosses) z v → (n : ℕ) → (Under a b asc stop g crosses) z (path g v n)
    unfolding path
    under_path U zero = U
    under_path {z = z} {v = v} U (suc n) = under_path {v = g v} (under_next U) n

    ends_one : {c v w w' : ℕ} → Ends a b c v w → Ends a b c v w' → w ≡ w'
    ends_one (from_a p q) (from_a r s) = cc
    ends_one (from_a p q) (from_b r s) = cc
    ends_one (from_b p q) (from_a r s) = cc
    ends_one (from_b p q) (from_b r s) = cc

    -- a key that is not the root hands on to the key in the slot to which g leads
    not_root : {z v : ℕ} → (Under a b asc stop g crosses) z v → ((held a b asc stop) v ≡ z → ⊥) → (held a b asc stop) v ≡ root a b T (a ((held a b asc stop) v)) → ⊥
    not_root U n q = n (q ∙ U.of)

    goes_other : {z v : ℕ} → (Under a b asc stop g crosses) z v → ((held a b asc stop) v ≡ z → ⊥) → other a b T ((held a b asc stop) v) ≡ g v
    goes_other {z} {v} U n =
        let e : Ends a b ((held a b asc stop) v) v (other a b T ((held a b asc stop) v)) = rw (seat_once a b stop U.key (not_root U n)) at (seat_other a b T ((held a b asc stop) v)) in
        ends_one e (crosses _ _ U.key)

    -- The trail: the keys that the walk meets as far as the root.
    whole_along : (p : ℕ) {z v : ℕ} → (Under a b asc stop g crosses) z v → (held a b asc stop) (path g v p) ≡ z → ((i : ℕ) → i < p → (held a b asc stop) (path g v i) ≡ z → ⊥)
        → Trail a b T ((held a b asc stop) v) (along g (held a b asc stop) v (suc p))
    unfolding path along
    whole_along zero U e before = ends (e ∙ sym U.of)
    whole_along (suc p) {z} {v} U e before =
        let n = before 0 (omega arith) in
        let t = whole_along p (under_next U) e (λ i l. before (suc i) (omega arith)) in
        hands_on {L = along g (held a b asc stop) (g v) (suc p)} (not_root U n) (rw (goes_other U n) t)

    pub trail_along : {z v c : ℕ} (p : ℕ) → (Under a b asc stop g crosses) z v → (held a b asc stop) v ≡ c → (held a b asc stop) (path g v p) ≡ z → ((i : ℕ) → i < p → (held a b asc stop) (path g v i) ≡ z → ⊥)
        → trail a b T c ≡ along g (held a b asc stop) v (suc p)
    trail_along p U q e before = rw (← q) (whole_only a b (trail_whole a b stop U.key.c_in) (whole_along p U e before))

    -- a key other than the root that the root's slot is joined to without it lies on a cycle
    cycle_key : {z x y s : ℕ} → Seat a b T y x → root a b T (a x) ≡ z → (x ≡ z → ⊥) → Seat a b T s z → Joined a b (without x T) s y → OnCycle a b T x
    cycle_key {z} {x} S r n Z j =
        let F = hangs a b S (λ q. n (q ∙ r)) in
        let up = mono (out_sub x (hung_sub a b T (root a b T (a x)))) (far_near F (hung_near a b S)) in
        let far_end = ends_near (crosses _ _ Z) (in_out x T n Z.c_in) in
        record { on = S.c_in; closed = ends_cycle F.ends (jtrans (jsym j) (jtrans (rw (← r) at far_end) (jsym up))) }

    -- A walk that comes back to its first slot
    module _ {z v : ℕ} (m : ℕ) (U : (Under a b asc stop g crosses) z v) (some : 0 < m) (back : path g v m ≡ v) where
      -- meets the root,
      meets : {c : ℕ} {L : List ℕ} → Trail a b T c L → (k : ℕ) → k < m → (held a b asc stop) (path g v k) ≡ c → (i : ℕ) × (i < m) × ((held a b asc stop) (path g v i) ≡ z)
      meets (ends q) k l e = (k, l, e ∙ q ∙ ap (λ (d : ℕ). root a b T (a d)) (sym e) ∙ (under_path U k).of)
      meets {c} (hands_on n t) k l e =
          let At = under_path U k in
          let o : (held a b asc stop) (path g v k) ≡ z → ⊥ = λ q. n (sym e ∙ q ∙ sym At.of ∙ ap (λ (d : ℕ). root a b T (a d)) e) in
          let s : other a b T c ≡ path g v (suc k) = ap (other a b T) (sym e) ∙ goes_other At o ∙ sym (path_step g v k) in
          elim (eq? (suc k) m) [
            | inl q ↦ meets t 0 some (ap (held a b asc stop) (path_none g v ∙ sym back ∙ ap (path g v) (sym q) ∙ sym s))
            | inr d ↦ meets t (suc k) (omega arith) (ap (held a b asc stop) (sym s))
          ]

      pub root_met : (i : ℕ) × (i < m) × ((held a b asc stop) (path g v i) ≡ z)
      root_met = meets (trail_whole a b stop U.key.c_in) 0 some (ap (held a b asc stop) (path_none g v))

      -- and no smaller key: each that it meets but the root lies on a cycle.
      module _ {x : ℕ} (n : x ≡ z → ⊥) where
        -- without x, too, the walk leads to x
        reach : (e : ℕ) {s : ℕ} → (Under a b asc stop g crosses) z s → (held a b asc stop) (path g s e) ≡ x → Joined a b (without x T) s (path g s e)
        unfolding path
        reach zero At q = jrefl
        reach (suc e) {s} At q = elim (eq? ((held a b asc stop) s) x) [
          | inl h ↦
              let On = under_path (under_next At) e in
              let one : s ≡ path g (g s) e =
              sym (seat_once a b stop At.key (not_root At (λ r. n (sym h ∙ r)))) ∙ ap (λ (d : ℕ). seat a b T d) (h ∙ sym q)
              ∙ seat_once a b stop On.key (not_root On (λ r. n (sym q ∙ r))) in
              rw (← one) jrefl
          | inr d ↦ jtrans (ends_edge (crosses _ _ At.key) (in_out x T (λ r. d (sym r)) At.key.c_in)) (reach e (under_next At) q)
        ]

        met_cycle : {i : ℕ} → i < m → (held a b asc stop) (path g v i) ≡ x → OnCycle a b T x
        met_cycle {i} l e =
            let M = root_met in
            let At = under_path U i in
            let way = path_on g v m back M.0 i M.1 in
            let j = reach way.0 (under_path U M.0) (ap (held a b asc stop) way.1 ∙ e) in
            cycle_key (rw e at At.key) (ap (λ (d : ℕ). root a b T (a d)) (sym e) ∙ At.of) n (rw M.2 at (under_path U M.0).key) (rw way.1 at j)

      pub root_least_met : (i : ℕ) → i < m → z ≤ (held a b asc stop) (path g v i)
      root_least_met i l =
          let At = under_path U i in
          elim (eq? ((held a b asc stop) (path g v i)) z) [
            | inl q ↦ omega arith
            | inr n ↦ rw At.of at (root_least (met_cycle n l refl) jrefl)
          ]
