-- The laws of what specs/Looked.antt defines.
use Prim.Native.Nat.{ℕ, zero, suc, ◌+◌, ◌-◌, ◌≤◌, ◌<◌}
use Rattle.std.specs.Prelude.{◌≡◌, Bool, true, false, not, cond, ◌&&◌, ◌⊎◌, eqb, leb, length}
use Rattle.std.proofs.Math.Path.{refl}
use Rattle.std.proofs.Common.{sym, ◌∙◌, ap}
use Rattle.std.proofs.Math.Bool.{or-true}
use Rattle.std.proofs.Math.Logic.{inl, inr}
use mathlib.Core.List.Memᴰ.{head as here}
use mathlib.Core.List.{List, [], ◌∷◌, ◌++◌, append_assoc, Memᴰ as In}
use mathlib.Core.List.Memᴰ.{tail as there}
use native.Mathlib.Omega.{arith}
use borrow.Author.Tests.{eqb-true, eq-eqb, ne_eqb, leb-true}
use Rattle.basics.specs.Tests.{test}
use Rattle.basics.proofs.Tests.{eq?, and_true, or_cases}
use Rattle.basics.specs.Sets.{keep}
use Rattle.basics.proofs.Sets.{keep_in, keep_test}
use Rattle.basics.proofs.Lists.{keep_append, keep_keep, length_split, keep_ext}
use Rattle.cuckoo.specs.Placement.{slot}
use Rattle.hashing.specs.Hash.{Family, first_part, blank}
use Rattle.hashing.proofs.Issues.{issues_slots}
use Rattle.hashing.specs.Slots.{slot_0, slot_1}
use Rattle.hashing.proofs.Slots.{slot_0_lt, slot_1_le, slot_1_lt}
use Rattle.layout.specs.Entries.{Entry, max_tier, no_entry}
use Rattle.layout.specs.Layout.{family_of, slots_of, slot_entry, stash_entries, Spot, slot_spots, place_spots, spots}
use Rattle.layout.specs.Layout.{spot_key, looked_at}
use Rattle.layout.proofs.Standing.{not_blank}
use Rattle.survivors.specs.Salvage.{own_place, counts, counting, standing, occupied, lost_in}
use Rattle.survivors.specs.Spots.{slot_spot}
use Rattle.survivors.proofs.Spots.{in_slot_spots}
use Rattle.survivors.proofs.Surviving.{counts_sound}
use Rattle.survivors.specs.Looked.{sound, is_issue, sound_issue}

-- The laws.

-- a tier that is found is 0 to 7
pub issue_small : (L : List Entry) (c : ℕ) → (sound_issue L c).tier ≤ max_tier
unfolding sound_issue is_issue
issue_small [] c = omega arith
issue_small (e ∷ L) c = elim (test (is_issue e (first_part c))) [
  | inl t ↦
      let p = and_true (sound e) (eqb (first_part e.key) (first_part c)) t in
      rw t (leb-true _ _ (and_true (not (blank e.key)) (leb e.tier max_tier) p.0).1)
  | inr t ↦ rw t (issue_small L c)
]

-- what has another first part is passed over
standing_skip : (A B : List Spot) (c : ℕ) → ((x : Spot) → In x A → first_part (spot_key x) ≡ first_part c → ⊥)
    → standing (A ++ B) c ≡ standing B c
unfolding standing
standing_skip [] B c h = refl
standing_skip (x ∷ A) B c h = rw (ne_eqb _ _ (h x (here refl)), standing_skip A B c (λ y i. h y (there i)))

cond_entry : (t : Bool) (x y : Spot) → (cond t x y).entry ≡ cond t x.entry y.entry
cond_entry true x y = refl
cond_entry false x y = refl

module _ (F : Family) (ws : List ℕ) (c : ℕ) where
  -- the spots that count, and of them the first of the first part
  abbrev that_count : List Spot → List Spot
  that_count X = keep (counts F) X

  -- in the stash every place is tried
  standing_places : (i : ℕ) (L : List Entry) → (standing (that_count (place_spots i L)) c).entry ≡ sound_issue L c
  unfolding standing sound_issue is_issue
  standing_places i [] = refl
  standing_places i (e ∷ L) = elim (test (sound e)) [
    | inl t ↦ elim (test (eqb (first_part e.key) (first_part c))) [
      | inl q ↦ rw (t, q)
      | inr q ↦ rw (t, q, standing_places (suc i) L)
    ]
    | inr t ↦ rw (t, standing_places (suc i) L)
  ]

  spots_split : (v m n : ℕ) → slot_spots ws v (m + n) ≡ slot_spots ws v m ++ slot_spots ws (v + m) n
  unfolding slot_spots
  spots_split v zero n = let e : 0 + n ≡ n = omega arith in let f : v + 0 ≡ v = omega arith in rw (e, f)
  spots_split v (suc m) n =
      let e : suc m + n ≡ suc (m + n) = omega arith in
      let f : v + suc m ≡ suc v + m = omega arith in
      rw (e, f, spots_split (suc v) m n)

  -- slots that are not the key's are passed over,
  slots_skip : (v m : ℕ) (B : List Spot)
      → ((u : ℕ) → v ≤ u → u < v + m → (u ≡ slot_0 F c → ⊥) × (u ≡ slot_1 F c → ⊥))
      → standing (that_count (slot_spots ws v m) ++ B) c ≡ standing B c
  slots_skip v m B far = standing_skip (that_count (slot_spots ws v m)) B c (λ x i q.
      let s = in_slot_spots ws v m (keep_in (counts F) (slot_spots ws v m) i) in
      let n = far s.0 s.1 s.2 in
      let o = (counts_sound F x (keep_test (counts F) (slot_spots ws v m) i)).own in
      let p : own_place F (slot s.0) (spot_key x) ≡ true =
      ap (λ (y : Spot). own_place F y.at (spot_key x)) (sym s.3) ∙ o in
      elim (or_cases (eqb s.0 (slot_0 F (spot_key x))) (eqb s.0 (slot_1 F (spot_key x))) p) [
        | inl t ↦ n.0 (eqb-true _ _ t ∙ (issues_slots F (spot_key x) c q).0)
        | inr t ↦ n.1 (eqb-true _ _ t ∙ (issues_slots F (spot_key x) c q).1)
      ])

  -- what a slot of its own gives, or else the rest
  abbrev pick : ℕ → Spot → Spot
  pick v rest = cond (is_issue (slot_entry ws v) (first_part c)) (slot_spot ws v) rest

  -- in one of its own its issue counts, if it is sound
  slot_own : (v : ℕ) (X B : List Spot) → (v ≡ slot_0 F c) ⊎ (v ≡ slot_1 F c)
      → standing (that_count (slot_spot ws v ∷ X) ++ B) c ≡ pick v (standing (that_count X ++ B) c)
  unfolding standing is_issue
  slot_own v X B own = elim (test (sound e)) [
    | inr t ↦ rw t
    | inl t ↦ elim (eq? (first_part e.key) (first_part c)) [
      | inl q ↦ rw (t, mine q, eq-eqb _ _ q)
      | inr n ↦ elim (test (own_place F (slot v) e.key)) [
        | inl o ↦ rw (t, o, ne_eqb _ _ n)
        | inr o ↦ rw (t, o, ne_eqb _ _ n)
      ]
    ]
  ]
    where
      e : Entry
      e = slot_entry ws v

      mine : first_part e.key ≡ first_part c → own_place F (slot v) e.key ≡ true
      mine q = elim own [
        | inl k ↦ rw (eq-eqb v (slot_0 F e.key) (k ∙ sym (issues_slots F e.key c q).0))
        | inr k ↦
            rw (eq-eqb v (slot_1 F e.key) (k ∙ sym (issues_slots F e.key c q).1))
            (or-true (eqb v (slot_0 F e.key)))
      ]

  -- the next slot of its own, d slots on
  reach : (v d u n : ℕ) (B : List Spot) → v + d ≡ u → (u ≡ slot_0 F c) ⊎ (u ≡ slot_1 F c)
      → ((w : ℕ) → v ≤ w → w < v + d → (w ≡ slot_0 F c → ⊥) × (w ≡ slot_1 F c → ⊥))
      → standing (that_count (slot_spots ws v (d + suc n)) ++ B) c
      ≡ pick u (standing (that_count (slot_spots ws (suc u) n) ++ B) c)
  unfolding slot_spots
  reach v d u n B e own far =
      rw (
        spots_split v d (suc n),
        e,
        keep_append (counts F) (slot_spots ws v d) (slot_spots ws u (suc n)),
        append_assoc (that_count (slot_spots ws v d)) (that_count (slot_spots ws u (suc n))) B,
        slots_skip v d (that_count (slot_spots ws u (suc n)) ++ B) far,
      )
      (slot_own u (slot_spots ws (suc u) n) B own)

  -- all slots: those two decide
  slots_standing : 0 < F.slots → (B : List Spot)
      → standing (that_count (slot_spots ws 0 (F.slots + F.slots)) ++ B) c
      ≡ pick (slot_0 F c) (pick (slot_1 F c) (standing B c))
  slots_standing some B =
      between (slot_0 F c) (slot_1 F c) refl refl (slot_0_lt F some c) (slot_1_le F some c) (slot_1_lt F some c)
    where
      between : (i j : ℕ) → i ≡ slot_0 F c → j ≡ slot_1 F c → i < F.slots → F.slots ≤ j → j < F.slots + F.slots
          → standing (that_count (slot_spots ws 0 (F.slots + F.slots)) ++ B) c ≡ pick i (pick j (standing B c))
      between i j qi qj li kj lj =
          let d = j - suc i in
          let d' = F.slots + F.slots - suc j in
          let e : F.slots + F.slots ≡ i + suc (d + suc d') = omega arith in
          let tail = slots_skip (suc j) d' B (λ w l m. (λ q. omega (arith, qi, q), λ q. omega (arith, qj, q))) in
          ap (λ (n : ℕ). standing (that_count (slot_spots ws 0 n) ++ B) c) e
          ∙ reach 0 i i (d + suc d') B (omega arith) (inl qi)
          (λ w l m. (λ q. omega (arith, qi, q), λ q. omega (arith, qj, q)))
          ∙ ap (pick i) (reach (suc i) d j d' B (omega arith) (inr qj)
          (λ w l m. (λ q. omega (arith, qi, q), λ q. omega (arith, qj, q))))
          ∙ ap (λ (x : Spot). pick i (pick j x)) tail

-- So the first that counts of a first part stands in its slot of table 0, else in that of table 1, else in the stash.
pub standing_looked : (tabulation ws : List ℕ) → 0 < slots_of ws → (c : ℕ)
    → (standing (counting tabulation ws) c).entry ≡ sound_issue (looked_at tabulation ws c) c
unfolding counting sound_issue
standing_looked tabulation ws some c =
    let F = family_of tabulation ws in
    let A = slot_spots ws 0 (slots_of ws + slots_of ws) in
    let B = place_spots 0 (stash_entries ws) in
    ap (λ (X : List Spot). (standing X c).entry) (keep_append (counts F) A B)
    ∙ ap (λ (x : Spot). x.entry) (slots_standing F ws c some (keep (counts F) B))
    ∙ cond_entry (is_issue (slot_entry ws (slot_0 F c)) (first_part c)) (slot_spot ws (slot_0 F c))
    (pick F ws c (slot_1 F c) (standing (keep (counts F) B) c))
    ∙ ap (cond (is_issue (slot_entry ws (slot_0 F c)) (first_part c)) (slot_entry ws (slot_0 F c)))
    (cond_entry (is_issue (slot_entry ws (slot_1 F c)) (first_part c)) (slot_spot ws (slot_1 F c))
    (standing (keep (counts F) B) c)
    ∙ ap (cond (is_issue (slot_entry ws (slot_1 F c)) (first_part c)) (slot_entry ws (slot_1 F c)))
    (standing_places F ws c 0 (stash_entries ws)))

-- What is occupied counts or is lost.
pub occupied_split : (tabulation ws : List ℕ)
    → length (keep occupied (spots ws)) ≡ length (counting tabulation ws) + lost_in tabulation ws
unfolding counting lost_in
occupied_split tabulation ws =
    let F = family_of tabulation ws in
    let X = keep occupied (spots ws) in
    let a : keep (counts F) X ≡ keep (counts F) (spots ws) =
    keep_keep (counts F) occupied (spots ws) ∙ keep_ext (λ x. occupied x && counts F x) (counts F) (spots ws) (λ x i.
    elim (test (counts F x)) [
      | inl t ↦ let f : occupied x ≡ true = ap not (ne_eqb _ _ (not_blank (spot_key x) (counts_sound F x t).not_blank))
          in rw f
      | inr t ↦ elim (test (occupied x)) [ inl f ↦ rw f | inr f ↦ rw (f, t) ]
    ]) in
    let b = keep_keep (λ x. not (counts F x)) occupied (spots ws) in
    sym (length_split (counts F) X) ∙ (rw (a, b))
