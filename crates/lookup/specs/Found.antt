-- What is looked at for a key, one after the other, and what is found there. Assumes nothing.
use Rattle.std.specs.Prelude.{ℕ, ◌+◌, ◌*◌, ◌-◌, ◌≡◌, refl, Bool, true, false, cond, ◌||◌, ◌⊎◌, List, [], ◌∷◌, eqb, length, get_or, Option, Some, None}
use Rattle.std.proofs.Common.{sym, ◌∙◌, ap, true≢false, inl, inr, arith}
use borrow.Rule.Slice.PartMut.{mid_of}
use Rattle.basics.specs.Tests.{test}
use Rattle.basics.specs.Sets.{member}
use Rattle.basics.proofs.Sets.{in_member}
use Rattle.layout.specs.Entries.{Entry, keys_of, tier_of}
use Rattle.layout.proofs.Entries.{tier_absent}
use Rattle.hashing.specs.Hash.{Family}
use Rattle.hashing.specs.Slots.{slot_0, slot_1}
use Rattle.layout.specs.Layout.{family_of, place_width, stash_at, slots_of, places_of, place_entries, slot_entry, stash_entries, looked_at}
use Rattle.layout.proofs.Standing.{stash_lent}
use Rattle.layout.specs.Answers.{found, looked_up}

-- what is looked up always says something
never_silent : (L : List Entry) (key : ℕ) → [] ≡ looked_up L key → ⊥
never_silent L key = go (member key (keys_of L))
  where
    go : (m : Bool) → [] ≡ cond m (1 ∷ tier_of L key ∷ []) (0 ∷ []) → ⊥
    go true e = absurd (omega (arith, ap length e))
    go false e = absurd (omega (arith, ap length e))

-- what is looked at for a key, one after the other: its two slots,
module _ (tabulation ws : List ℕ) (key : ℕ) where
  abbrev F : Family
  F = family_of tabulation ws

  abbrev pub own_slots : List Entry
  own_slots = slot_entry ws (slot_0 F key) ∷ slot_entry ws (slot_1 F key) ∷ []

  pub found_first : eqb key (slot_entry ws (slot_0 F key)).key ≡ true → {t : ℕ} → t ≡ (slot_entry ws (slot_0 F key)).tier
      → 1 ∷ t ∷ [] ≡ looked_up own_slots key
  found_first e q = rw (e, q)

  module _ (e : eqb key (slot_entry ws (slot_0 F key)).key ≡ false) where
    pub found_second : eqb key (slot_entry ws (slot_1 F key)).key ≡ true → {t : ℕ} → t ≡ (slot_entry ws (slot_1 F key)).tier
        → 1 ∷ t ∷ [] ≡ looked_up own_slots key
    found_second f q = rw (e, f, q)

    pub found_neither : eqb key (slot_entry ws (slot_1 F key)).key ≡ false → 0 ∷ [] ≡ looked_up own_slots key
    found_neither f = rw (e, f)

-- and the stash, lent as a part of the words
pub found_stash : (ws : List ℕ) (key : ℕ) {start count : ℕ} {vs : List ℕ} → start ≡ stash_at (slots_of ws) → count ≡ places_of ws
    → vs ≡ looked_up (place_entries count (mid_of start (start + place_width * count - start) ws)) key
    → vs ≡ looked_up (stash_entries ws) key
found_stash ws key a n q = q ∙ (rw (stash_lent ws a n))

-- Two entries before others: what is found in them counts, and where nothing is, what is found behind them.
module _ (c d : Entry) (L : List Entry) (key : ℕ) where
  two_missed : 0 ∷ [] ≡ looked_up (c ∷ d ∷ []) key → looked_up L key ≡ looked_up (c ∷ d ∷ L) key
  two_missed = go (eqb key c.key) (eqb key d.key)
    where
      go : (x y : Bool) → 0 ∷ [] ≡ cond (x || (y || false)) (1 ∷ cond x c.tier (cond y d.tier 0) ∷ []) (0 ∷ [])
          → looked_up L key ≡ cond (x || (y || member key (keys_of L))) (1 ∷ cond x c.tier (cond y d.tier (tier_of L key)) ∷ []) (0 ∷ [])
      go true y e = absurd (omega (arith, ap length e))
      go false true e = absurd (omega (arith, ap length e))
      go false false e = refl

  two_found : {t : ℕ} → 1 ∷ t ∷ [] ≡ looked_up (c ∷ d ∷ []) key → 1 ∷ t ∷ [] ≡ looked_up (c ∷ d ∷ L) key
  two_found {t} = go (eqb key c.key) (eqb key d.key)
    where
      go : (x y : Bool) → 1 ∷ t ∷ [] ≡ cond (x || (y || false)) (1 ∷ cond x c.tier (cond y d.tier 0) ∷ []) (0 ∷ [])
          → 1 ∷ t ∷ [] ≡ cond (x || (y || member key (keys_of L))) (1 ∷ cond x c.tier (cond y d.tier (tier_of L key)) ∷ []) (0 ∷ [])
      go true y e = e
      go false true e = e
      go false false e = absurd (omega (arith, ap length e))

-- So it is with the slots before the stash, whatever was answered of the slots, f.
module _ (tabulation ws : List ℕ) (key : ℕ) (f : Option ℕ) (told : found f ≡ looked_up (own_slots tabulation ws key) key) where
  abbrev first_slot : Entry
  first_slot = slot_entry ws (slot_0 (family_of tabulation ws) key)

  abbrev second_slot : Entry
  second_slot = slot_entry ws (slot_1 (family_of tabulation ws) key)

  -- listed in one of them
  pub slots_listed : {t : ℕ} → f ≡ Some t → 1 ∷ t ∷ [] ≡ looked_up (looked_at tabulation ws key) key
  slots_listed q = two_found first_slot second_slot (stash_entries ws) key (sym (ap found q) ∙ told)

  -- or else in the stash
  pub slots_absent : f ≡ None → looked_up (stash_entries ws) key ≡ looked_up (looked_at tabulation ws key) key
  slots_absent q = two_missed first_slot second_slot (stash_entries ws) key (sym (ap found q) ∙ told)

  -- there is no third answer
  answers : (f : Option ℕ) → ((t : ℕ) × (f ≡ Some t)) ⊎ (f ≡ None)
  answers (Some t) = inl (t, refl)
  answers None = inr refl

  pub slots_first : (f ≡ None → ⊥) → found f ≡ looked_up (looked_at tabulation ws key) key
  slots_first n = elim (answers f) [ inl l ↦ ap found l.1 ∙ slots_listed l.1 | inr a ↦ absurd (n a) ]

-- what is looked up says the tier
looked_tier : (L : List Entry) (key : ℕ) → get_or (looked_up L key) 1 0 ≡ tier_of L key
looked_tier L key = elim (test (member key (keys_of L))) [
  | inl m ↦ rw m
  | inr m ↦ rw m (sym (tier_absent L (λ i. true≢false (sym (in_member i) ∙ m))))
]

-- The tier of a key by its two slots v and w, each tested, and behind them by what is in the stash.
module _ (ws : List ℕ) (v w key : ℕ) {x y : Bool} (first : x ≡ eqb key (slot_entry ws v).key) (second : y ≡ eqb key (slot_entry ws w).key) where
  abbrev Found_tier : ℕ → Type 0
  Found_tier t = t ≡ tier_of (slot_entry ws v ∷ slot_entry ws w ∷ stash_entries ws) key

  pub tier_chosen : (x || y) ≡ true → {one other t : ℕ} → one ≡ (slot_entry ws v).tier → other ≡ (slot_entry ws w).tier → t ≡ cond x one other → Found_tier t
  tier_chosen h p q e = e ∙ (rw (← first, ← second, p, q) (go x y h _ _ _))
    where
      go : (x y : Bool) → (x || y) ≡ true → (a b z : ℕ) → cond x a b ≡ cond x a (cond y b z)
      go true y h a b z = refl
      go false true h a b z = refl
      go false false h a b z = absurd (true≢false (sym h))

  pub tier_passed : (x || y) ≡ false → {vs : List ℕ} {t : ℕ} → vs ≡ looked_up (stash_entries ws) key → t ≡ get_or vs 1 0 → Found_tier t
  tier_passed h p e = e ∙ ap (λ (vs : List ℕ). get_or vs 1 0) p ∙ looked_tier (stash_entries ws) key ∙ (rw (← first, ← second) (go x y h _ _ _))
    where
      go : (x y : Bool) → (x || y) ≡ false → (a b z : ℕ) → z ≡ cond x a (cond y b z)
      go true y h a b z = absurd (true≢false h)
      go false true h a b z = absurd (true≢false h)
      go false false h a b z = refl

-- What is found by the two slots, i and j, each tested, and behind them in the stash.
module _ (ws : List ℕ) (i j key : ℕ) {x y : Bool} (first : x ≡ eqb key (slot_entry ws i).key) (second : y ≡ eqb key (slot_entry ws j).key) where
  both_listed : (x || y) ≡ true → {t : ℕ} → t ≡ tier_of (slot_entry ws i ∷ slot_entry ws j ∷ stash_entries ws) key
      → 1 ∷ t ∷ [] ≡ looked_up (slot_entry ws i ∷ slot_entry ws j ∷ stash_entries ws) key
  both_listed h {t} e = rw (sym e, ← first, ← second) (go x y h (member key (keys_of (stash_entries ws))))
    where
      go : (x y : Bool) → (x || y) ≡ true → (m : Bool) → 1 ∷ t ∷ [] ≡ cond (x || (y || m)) (1 ∷ t ∷ []) (0 ∷ [])
      go true y h m = refl
      go false true h m = refl
      go false false h m = absurd (true≢false (sym h))

  neither_listed : (x || y) ≡ false → looked_up (stash_entries ws) key ≡ looked_up (slot_entry ws i ∷ slot_entry ws j ∷ stash_entries ws) key
  neither_listed h = two_missed (slot_entry ws i) (slot_entry ws j) (stash_entries ws) key (rw (← first, ← second) (go x y h))
    where
      go : (x y : Bool) → (x || y) ≡ false → 0 ∷ [] ≡ cond (x || (y || false)) (1 ∷ cond x (slot_entry ws i).tier (cond y (slot_entry ws j).tier 0) ∷ []) (0 ∷ [])
      go true y h = absurd (true≢false h)
      go false true h = absurd (true≢false h)
      go false false h = refl

  -- These are the key's own slots.
  module _ (tabulation : List ℕ) (p : i ≡ slot_0 (family_of tabulation ws) key) (q : j ≡ slot_1 (family_of tabulation ws) key) where
    looked : looked_up (slot_entry ws i ∷ slot_entry ws j ∷ stash_entries ws) key ≡ looked_up (looked_at tabulation ws key) key
    looked = λ k. looked_up (slot_entry ws (p k) ∷ slot_entry ws (q k) ∷ stash_entries ws) key

    pub own_listed : (x || y) ≡ true → {t : ℕ} → t ≡ tier_of (slot_entry ws i ∷ slot_entry ws j ∷ stash_entries ws) key
        → 1 ∷ t ∷ [] ≡ looked_up (looked_at tabulation ws key) key
    own_listed h e = both_listed h e ∙ looked

    pub own_missed : (x || y) ≡ false → looked_up (stash_entries ws) key ≡ looked_up (looked_at tabulation ws key) key
    own_missed h = neither_listed h ∙ looked
