-- A re-rooted tree shows the seats of the definitions: when the keys that hang from the root z of a component are re-rooted at z's slot in table 0, and z is
-- left there, every slot of the component holds its occupant. Assumes nothing.
use Rattle.std.specs.Prelude.{ℕ, ◌≡◌, refl, get_or, set}
use Rattle.std.proofs.Common.{sym, ◌∙◌, inl, inr}
use mathlib.Core.List.{List, Memᴰ as In}
use Rattle.basics.specs.Tests.{test}
use Rattle.basics.proofs.Tests.{eq?}
use Rattle.basics.specs.Sets.{without, Sub}
use Rattle.basics.proofs.Sets.{out_in, in_out, out_ne}
use Rattle.cuckoo.specs.Graph.{is_on_cycle, root, occupant}
use Rattle.cuckoo.specs.Joined.{Joined}
use Rattle.cuckoo.proofs.Joined.{jrefl, jsym, jtrans, edge, confine}
use Rattle.cuckoo.specs.Settling.{OnCycle}
use Rattle.cuckoo.proofs.Settling.{is_on_cycle_true}
use Rattle.cuckoo.proofs.Seating.{root_same}
use Rattle.cuckoo.specs.Places.{hung, at_root, at_far}
use Rattle.cuckoo.proofs.Places.{hung_sub, hung_joins, seat_occupant}
use Rattle.forest.proofs.Oriented.{off_set, emptied, end_near, move, leads, one_root, not_below}
use Rattle.forest.specs.Oriented.{Forest}
use Rattle.forest.specs.Reroot.{Rerooted}

-- where there is no cycle all keys hang
pub hung_tree : {a b : ℕ → ℕ} (K : List ℕ) (z : ℕ) → (OnCycle a b K z → ⊥) → Sub K (hung a b K z)
unfolding hung
hung_tree {a} {b} K z n c i = elim (test (is_on_cycle a b K z)) [ inl e ↦ absurd (n (is_on_cycle_true e)) | inr e ↦ rw e i ]

-- T has the keys of K that hang from z, in z's component; `out` shows T re-rooted at z's slot in table 0, with z there
module _ {a b : ℕ → ℕ} {K T h out : List ℕ} {z : ℕ} (f : Forest a b T) (iz : In z K) (top : root a b K (a z) ≡ z)
    (s : (c : ℕ) → In c (hung a b K z) → Joined a b (hung a b K z) (a z) (a c) → In c T)
    (t : (c : ℕ) → In c T → Joined a b T (a z) (a c) → In c (hung a b K z)) (I : Rerooted a b T h z (a z) out) where
  seat_root : occupant a b K (a z) ≡ z
  seat_root = seat_occupant a b (record { c_in = iz; place = rw top (at_root refl refl) })

  seat_hung : (v : ℕ) → Joined a b K (a z) v → (v ≡ a z → ⊥) → (occupant a b K v ≡ get_or out v 0) × (get_or out v 0 ≡ 0 → ⊥)
  seat_hung v j n =
      let X = hung a b K z in
      let k = set out (a z) 0 in
      let bare : get_or k (a z) 0 ≡ 0 = emptied out (a z) in
      let jX = hung_joins a b K z j in
      let jT : Joined a b T (a z) v = confine X (λ c i. i) (λ c i l. edge (s c i l)) jX in
      let c = get_or k v 0 in
      let nz : c ≡ 0 → ⊥ = λ e. n (sym (one_root f I.turned jT bare e)) in
      let o = move jT I.turned in
      let w = leads f o refl nz in
      let iX = t c w.mem (jtrans jT (jsym (end_near w.ends w.mem jrefl))) in
      let iK = hung_sub a b K z c iX in
      let cut : Joined a b (without c X) v (a z) → ⊥ = λ l. not_below f o w bare
      (confine X (λ d i. out_in c X i) (λ d i q. edge (in_out c T (out_ne c X i) (s d (out_in c X i) (jtrans jX q)))) l) in
      let e : root a b K (a c) ≡ z = root_same a b K (jsym (jtrans j (jsym (end_near w.ends iK jrefl)))) ∙ top in
      let q = off_set out (a z) 0 v n in
      (seat_occupant a b (record { c_in = iK; place = rw e (at_far (record { c_in = iX; w = w.w; ends = w.ends; cut = cut })) }) ∙ q, λ u. nz (q ∙ u))

  pub seats : (z ≡ 0 → ⊥) → (v : ℕ) → Joined a b K (a z) v → (occupant a b K v ≡ get_or out v 0) × (get_or out v 0 ≡ 0 → ⊥)
  seats nz v j = elim (eq? v (a z)) [ inl q ↦ rw q (seat_root ∙ sym I.put, λ u. nz (sym I.put ∙ u)) | inr n ↦ seat_hung v j n ]
