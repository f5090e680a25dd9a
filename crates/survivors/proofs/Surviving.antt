-- The laws of what specs/Surviving.antt defines.
use Rattle.std.specs.Prelude.{ℕ, ◌+◌, ◌≤◌, ◌≡◌, refl, Bool, false, not, ◌&&◌, ◌⊎◌, ◌↔◌, eqb, leb}
use Rattle.std.proofs.Common.{sym, ◌∙◌, true≢false}
use Rattle.std.proofs.Math.Path.{ap}
use Rattle.std.proofs.Math.Bool.{true}
use Rattle.std.proofs.Math.Logic.{inl, inr}
use mathlib.Core.List.Memᴰ.{head as here}
use mathlib.Core.List.Memᴰ.{tail as there}
use mathlib.Core.List.{List, [], ◌∷◌, ◌++◌, map, Memᴰ as In}
use mathlib.Core.List.Memᴰ
use borrow.Author.Tests.{eqb-true, eq-eqb, ne_eqb, leb-true, not-true}
use Rattle.basics.specs.Tests.{test}
use Rattle.basics.proofs.Tests.{eq?, and_true, or_cases}
use Rattle.basics.specs.Sets.{keep}
use Rattle.basics.proofs.Sets.{keep_in, keep_test, in_keep, asc_keep}
use Rattle.ordered.specs.Keys.{sorted, distinct}
use Rattle.ordered.proofs.Distinct.{distinct_sorted_asc, distinct_sorted_in, in_distinct_sorted}
use Rattle.cuckoo.specs.Placement.{slot, MaySit, table_0, table_1, aside, Placement}
use Rattle.hashing.specs.Hash.{Family, first_part, blank}
use Rattle.hashing.specs.Slots.{slot_0, slot_1}
use Rattle.layout.specs.Entries.{Entry, max_tier, keys_of}
use Rattle.layout.proofs.Entries.{key_in, keys_tiered, tiered_in, in_tiered}
use Rattle.layout.specs.Layout.{ValidKeys, ValidSet, params_of, family_of, places_of, fits, Spot, spots, spot_key}
use Rattle.layout.proofs.Fitting.{fits_placement}
use Rattle.survivors.specs.Salvage.{own_place, counts, counting, standing, standing_keys, survivors}
use Rattle.survivors.specs.Spots.{SpotOf, at_slot, at_place}
use Rattle.survivors.proofs.Spots.{spot_of, one_spot}
use Rattle.survivors.specs.Surviving.{FirstThatCounts, SoundSpot, Split, F, X}

pub counts_sound : (F : Family) (x : Spot) → counts F x ≡ true → SoundSpot F x
counts_sound F x e =
    let p = and_true (not (blank (spot_key x)) && leb x.entry.tier max_tier) (own_place F x.at (spot_key x)) e in
    let q = and_true (not (blank (spot_key x))) (leb x.entry.tier max_tier) p.0 in
    record { not_blank = not-true _ q.0; small_tier = leb-true _ _ q.1; own = p.1 }

-- Of these spots the first with a first part: it is the same for all issues,
pub standing_part : (X : List Spot) (c d : ℕ) → first_part c ≡ first_part d → standing X c ≡ standing X d
unfolding standing
standing_part [] c d q = refl
standing_part (x ∷ X) c d q = rw (q, standing_part X c d q)

-- and it is one of them, where one of them has it.
pub standing_in : (X : List Spot) (c : ℕ) {x : Spot} → In x X → first_part (spot_key x) ≡ first_part c
    → In (standing X c) X × (first_part (spot_key (standing X c)) ≡ first_part c)
unfolding standing
standing_in (y ∷ X) c i e = elim (eq? (first_part (spot_key y)) (first_part c)) [
  | inl q ↦ rw (eq-eqb _ _ q) (here refl, q)
  | inr n ↦ elim i [
    | here q ↦ absurd (n (ap (λ (z : Spot). first_part (spot_key z)) (sym q) ∙ e))
    | there j ↦ let r = standing_in X c j e in rw (ne_eqb _ _ n) (there r.0, r.1)
  ]
]
standing_in [] c i e = elim i [ ]

from_spots : (X : List Spot) {c : ℕ} → In c (map spot_key X) → (x : Spot) × In x X × (spot_key x ≡ c)
from_spots (x ∷ X) (here q) = (x, here refl, sym q)
from_spots (x ∷ X) (there i) = let r = from_spots X i in (r.0, there r.1, r.2)
from_spots [] {c = c} x' = elim x' [ ]

-- a key that stands
module _ (X : List Spot) where
  abbrev stands : ℕ → Bool
  stands d = eqb (spot_key (standing X d)) d

  pub stands_key : {c : ℕ} → In c (standing_keys X) → spot_key (standing X c) ≡ c
  stands_key i = eqb-true _ _ (keep_test stands (distinct (sorted (map spot_key X))) i)

  pub stands_in : {c : ℕ} → In c (standing_keys X) → In (standing X c) X
  stands_in {c} i =
      let k = distinct_sorted_in (map spot_key X) c (keep_in stands (distinct (sorted (map spot_key X))) i) in
      let r = from_spots X k in
      (standing_in X c r.1 (ap first_part r.2)).0

  pub in_stands : (c : ℕ) → spot_key (standing X c) ≡ c → In (standing X c) X → In c (standing_keys X)
  in_stands c e i =
      in_keep stands (distinct (sorted (map spot_key X))) (eq-eqb _ _ e)
      (in_distinct_sorted (map spot_key X) c (rw e at (Memᴰ.map spot_key i)))

-- The first of all spots that counts with a first part.
module _ (F : Family) (c : ℕ) where
  abbrev Some : List Spot → Type 0
  Some X = (x : Spot) × In x X × (counts F x ≡ true) × (first_part (spot_key x) ≡ first_part c)

  pub split : (X : List Spot) → Some X → (Split F c) X
  unfolding standing
  split [] h = elim h.1 [ ]
  split (x ∷ X) h = go (test (counts F x)) (eq? (first_part (spot_key x)) (first_part c)) (split X)
    where
      -- x is passed over
      on : (counts F x ≡ true → first_part (spot_key x) ≡ first_part c → ⊥)
          → standing (keep (counts F) (x ∷ X)) c ≡ standing (keep (counts F) X) c → (Some X → (Split F c) X) → (Split F c) (x ∷ X)
      on n e more =
          let s = more (elim h.1 [
            | here z ↦ absurd (n (ap (counts F) (sym z) ∙ h.2) (ap (λ (w : Spot). first_part (spot_key w)) (sym z)
                ∙ h.3))
            | there k ↦ (h.0, k, h.2, h.3)
          ]) in
          record {
            before = x ∷ s.before;
            behind = s.behind;
            is = rw e (ap (λ (Y : List Spot). x ∷ Y) s.is);
            none = λ y j t p. elim j [
              | here z ↦ n (ap (counts F) (sym z) ∙ t) (ap (λ (w : Spot). first_part (spot_key w)) (sym z) ∙ p)
              | there k ↦ s.none y k t p
            ];
          }

      go : (counts F x ≡ true) ⊎ (counts F x ≡ false)
          → (first_part (spot_key x) ≡ first_part c) ⊎ (first_part (spot_key x) ≡ first_part c → ⊥)
          → (Some X → (Split F c) X) → (Split F c) (x ∷ X)
      go (inl t) (inl p) more = record {
        before = [];
        behind = X;
        is = rw (t, eq-eqb _ _ p);
        none = λ y j t p. elim j [ ];
      }
      go (inl t) (inr n) more = on (λ t p. n p) (rw (t, ne_eqb _ _ n)) more
      go (inr t) d more = on (λ u p. true≢false (sym u ∙ t)) (rw t) more

  -- and so it is found: before it none counts with the first part
  pub split_standing : (A : List Spot) (x : Spot) (B : List Spot) → counts F x ≡ true
      → first_part (spot_key x) ≡ first_part c
      → ((y : Spot) → In y A → counts F y ≡ true → first_part (spot_key y) ≡ first_part c → ⊥)
      → standing (keep (counts F) (A ++ (x ∷ B))) c ≡ x
  unfolding standing
  split_standing [] x B t p n = rw (t, eq-eqb _ _ p)
  split_standing (y ∷ A) x B t p n = elim (test (counts F y)) [
    | inl u ↦ rw (u, ne_eqb _ _ (n y (here refl) u), split_standing A x B t p (λ z i. n z (there i)))
    | inr u ↦ rw (u, split_standing A x B t p (λ z i. n z (there i)))
  ]

-- What survives.
module _ (tabulation ws : List ℕ) where
  pub survivor_keys : keys_of (survivors tabulation ws) ≡ standing_keys (X tabulation ws)
  unfolding survivors
  survivor_keys = keys_tiered (λ c. (standing (X tabulation ws) c).entry.tier) (standing_keys (X tabulation ws))

  pub survivor_stands : {c : ℕ} → In c (keys_of (survivors tabulation ws)) → In c (standing_keys (X tabulation ws))
  survivor_stands i = rw survivor_keys at i

  -- where a survivor was found
  pub found_spot : {c : ℕ} → In c (standing_keys (X tabulation ws)) → In (standing (X tabulation ws) c) (spots ws)
  unfolding counting
  found_spot i = keep_in (counts (F tabulation ws)) (spots ws) (stands_in (X tabulation ws) i)

  pub found_counts : {c : ℕ} → In c (standing_keys (X tabulation ws)) → counts (F tabulation ws) (standing (X tabulation ws) c) ≡ true
  unfolding counting
  found_counts i = keep_test (counts (F tabulation ws)) (spots ws) (stands_in (X tabulation ws) i)

  found_sound : {c : ℕ} → In c (standing_keys (X tabulation ws)) → SoundSpot (F tabulation ws) (standing (X tabulation ws) c)
  found_sound {c} i = counts_sound (F tabulation ws) (standing (X tabulation ws) c) (found_counts i)

  -- its entry is that of the spot
  pub survivor_entry : {e : Entry} → In e (survivors tabulation ws)
      → In e.key (standing_keys (X tabulation ws)) × ((standing (X tabulation ws) e.key).entry ≡ e)
  unfolding survivors
  survivor_entry {e} i =
      let k = survivor_stands (key_in (survivors tabulation ws) i) in
      let t = tiered_in (λ c. (standing (X tabulation ws) c).entry.tier) (standing_keys (X tabulation ws)) i in
      (k, same_entry (stands_key (X tabulation ws) k) (sym t))
    where
      same_entry : {f g : Entry} → f.key ≡ g.key → f.tier ≡ g.tier → f ≡ g
      same_entry {f} {g} p q =
          ap (λ (k : ℕ). record { key = k; tier = f.tier }) p ∙ ap (λ (t : ℕ). record { key = g.key; tier = t }) q

  pub entry_survives : (c : ℕ) → In c (standing_keys (X tabulation ws)) → In (standing (X tabulation ws) c).entry (survivors tabulation ws)
  unfolding survivors
  entry_survives c i =
      let t : Entry = record { key = c; tier = (standing (X tabulation ws) c).entry.tier } in
      let q : (standing (X tabulation ws) c).entry
      ≡ t = ap (λ (k : ℕ). record { key = k; tier = (standing (X tabulation ws) c).entry.tier }) (stands_key (X tabulation ws) i) in
      rw q (in_tiered (λ c. (standing (X tabulation ws) c).entry.tier) (standing_keys (X tabulation ws)) i)

  -- "Of several issues or copies of a card the first that counts stands, with its tier."
  pub survives_iff : (e : Entry) → In e (survivors tabulation ws) ↔ FirstThatCounts tabulation ws e
  unfolding counting
  survives_iff e = (
    λ i.
        let r = survivor_entry i in
        let s = split (F tabulation ws) e.key (spots ws)
        (standing (X tabulation ws) e.key, found_spot r.0, found_counts r.0, ap first_part (stands_key (X tabulation ws) r.0)) in
        record {
          before = s.before;
          spot = standing (X tabulation ws) e.key;
          behind = s.behind;
          is = s.is;
          entry = r.1;
          counted = found_counts r.0;
          first = s.none;
        },
    λ h.
        let x = h.spot in
        let k : spot_key x ≡ e.key = ap (λ (f : Entry). f.key) h.entry in
        let s : standing (X tabulation ws) e.key ≡ x =
        (rw h.is (split_standing (F tabulation ws) e.key h.before x h.behind h.counted (ap first_part k) h.first)) in
        let i : In x (spots ws) = rw h.is (Memᴰ.append_right h.before (here refl)) in
        let j : In e.key (standing_keys (X tabulation ws)) =
        in_stands (X tabulation ws) e.key (ap spot_key s ∙ k) (rw s (in_keep (counts (F tabulation ws)) (spots ws) h.counted i)) in
        rw (s, h.entry) at (entry_survives e.key j),
  )

  -- The survivors are a set.
  pub standing_valid : ValidKeys (standing_keys (X tabulation ws))
  standing_valid = record {
    asc = asc_keep (stands (X tabulation ws)) (distinct_sorted_asc (map spot_key (X tabulation ws)));
    none_blank = λ c i. rw (stands_key (X tabulation ws) i) at (found_sound i).not_blank;
  }

  pub survivors_valid : ValidSet (survivors tabulation ws)
  survivors_valid = record {
    keys = rw survivor_keys standing_valid;
    issues = rw survivor_keys (λ c d i j q.
        sym (stands_key (X tabulation ws) i) ∙ ap spot_key (standing_part (X tabulation ws) c d q) ∙ stands_key (X tabulation ws) j);
    tiers = λ e i.
        let r = survivor_entry i in
        rw r.1 at (found_sound r.0).small_tier;
  }

  -- "The survivors always fit: show that." Each was found in a slot that is one of its two, or in a place of the stash,
  found_allowed : {c : ℕ} → In c (standing_keys (X tabulation ws)) → MaySit (slot_0 (F tabulation ws)) (slot_1 (F tabulation ws)) (places_of ws) c (standing (X tabulation ws) c).at
  found_allowed {c} i = go (standing (X tabulation ws) c) (stands_key (X tabulation ws) i) (found_sound i).own (spot_of ws (found_spot i))
    where
      go : (x : Spot) → spot_key x ≡ c → own_place (F tabulation ws) x.at (spot_key x) ≡ true → SpotOf ws x
          → MaySit (slot_0 (F tabulation ws)) (slot_1 (F tabulation ws)) (places_of ws) c x.at
      go x k o (at_slot v l q) =
          let p : x.at ≡ slot v = ap (λ (y : Spot). y.at) q in
          elim (or_cases (eqb v (slot_0 (F tabulation ws) c)) (eqb v (slot_1 (F tabulation ws) c)) (rw (p, k) at o)) [
            | inl t ↦ table_0 (p ∙ ap slot (eqb-true v _ t))
            | inr t ↦ table_1 (p ∙ ap slot (eqb-true v _ t))
          ]
      go x k o (at_place j l q) = aside j l (ap (λ (y : Spot). y.at) q)

  -- and no two in one.
  found_apart : {c d : ℕ} → In c (standing_keys (X tabulation ws)) → In d (standing_keys (X tabulation ws)) → (standing (X tabulation ws) c).at ≡ (standing (X tabulation ws) d).at → c
      ≡ d
  found_apart i j e =
      sym (stands_key (X tabulation ws) i) ∙ ap spot_key (one_spot ws (found_spot i) (found_spot j) e) ∙ stands_key (X tabulation ws) j

  pub survivors_placed : Placement (slot_0 (F tabulation ws)) (slot_1 (F tabulation ws)) (places_of ws) (keys_of (survivors tabulation ws))
  survivors_placed = rw survivor_keys (record {
    at = λ c. (standing (X tabulation ws) c).at;
    allowed = λ c i. found_allowed i;
    apart = λ c d i j e. found_apart i j e;
  })

  pub survivors_fit : fits (params_of tabulation ws) (keys_of (survivors tabulation ws)) ≡ true
  survivors_fit = (fits_placement (params_of tabulation ws) survivors_valid.keys).1 survivors_placed
