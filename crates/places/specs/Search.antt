-- A key is looked up among the places of the stash: it is none of their words, or they are gone through from the first on. Assumes nothing.
use Prim.Native.Nat.{ℕ, zero, suc, ◌*◌, ◌-◌, ◌≤◌, ◌<◌, ◌+◌}
use Rattle.std.specs.Prelude.{◌≡◌, refl, Bool, false, true, ◌||◌, eqb, length, get_or, take, drop}
use Rattle.std.proofs.Common.{sym, ◌∙◌, true≢false, inl, inr, add-one, eq-eqb, ne_eqb, take-append-drop, drop-cons}
use mathlib.Core.List.Memᴰ
use mathlib.Core.List.Memᴰ.{head as here}
use mathlib.Core.List.Memᴰ.{tail as there}
use mathlib.Core.List.{List, [], ◌∷◌, ◌++◌, Memᴰ as In}
use native.Mathlib.Omega.{arith}
use Rattle.std.proofs.Math.Seq.{get_or-drop, drop-drop}
use Rattle.basics.specs.Tests.{test}
use Rattle.basics.specs.Sets.{member}
use Rattle.basics.proofs.Sets.{in_member}
use Rattle.basics.proofs.Sets.{no_member}
use Rattle.basics.proofs.Parts.{to_end}
use Rattle.layout.specs.Entries.{Entry, keys_of}
use Rattle.layout.specs.Layout.{place_width, place_entries}
use Rattle.layout.specs.Answers.{looked_up}

-- a word is among two stretches: found already, or in what is left of either
regroup : (f a b x y : Bool) → (f || ((a || x) || (b || y))) ≡ (((f || a) || b) || (x || y))
regroup true a b x y = refl
regroup false true b x y = refl
regroup false false true true y = refl
regroup false false true false y = refl
regroup false false false x y = refl

pub among_turn : (front back : List ℕ) (word : ℕ) {i : ℕ} → i < length front → i < length back → (found : Bool)
    → (found || (member word (drop i front) || member word (drop i back)))
    ≡ (((found || eqb word (get_or front i 0)) || eqb word (get_or back i 0)) || (member word (drop (i + 1) front) || member word (drop (i + 1) back)))
among_turn front back word {i} h k found =
    rw (drop-cons front i 0 h, drop-cons back i 0 k, add-one)
    (regroup found (eqb word (get_or front i 0)) (eqb word (get_or back i 0)) (member word (drop (suc i) front)) (member word (drop (suc i) back)))

-- the keys of places are some of their words
place_key_word : (n : ℕ) (us : List ℕ) → place_width * n ≤ length us → {c : ℕ} → In c (keys_of (place_entries n us)) → In c us
unfolding place_entries
place_key_word zero us l i = elim i [ ]
place_key_word (suc n) [] l i = absurd (omega arith)
place_key_word (suc n) (x ∷ []) l i = absurd (omega arith)
place_key_word (suc n) (x ∷ y ∷ us) l i = elim i [ here q ↦ here q | there j ↦ there (there (place_key_word n us (omega arith) j)) ]

module _ (places : List ℕ) (count key : ℕ) where
  -- a key that is no word of either half is in no place
  pub not_among : place_width * count ≤ length places
      → (member key (take count places) || member key (take (length places - count) (drop count places))) ≡ false
      → 0 ∷ [] ≡ looked_up (place_entries count places) key
  not_among l t =
      let e = rw (to_end count places) at t in
      let out : In key (keys_of (place_entries count places)) → ⊥ = λ i.
      let k : In key (take count places ++ drop count places) = rw (take-append-drop count places) (place_key_word count places l i) in
      elim (Memᴰ.append_cases (take count places) k) [
        | inl j ↦ true≢false (sym (rw (in_member j)) ∙ e)
        | inr j ↦ elim (test (member key (take count places))) [
          | inl m ↦ true≢false (sym (rw m) ∙ e)
          | inr m ↦ true≢false (sym (rw (m, in_member j)) ∙ e)
        ]
      ] in
      rw (no_member key (keys_of (place_entries count places)) out)

  -- the places from i on
  abbrev pub from_place : ℕ → List Entry
  from_place i = place_entries (count - i) (drop (place_width * i) places)

  pub all_places : looked_up (place_entries count places) key ≡ looked_up (from_place 0) key
  all_places = let e : count - 0 ≡ count = omega arith in rw e

  pub no_place : 0 ∷ [] ≡ looked_up (from_place count) key
  unfolding place_entries
  no_place = let e : count - count ≡ 0 = omega arith in rw e

  module _ {i : ℕ} (l : i < count) where
    place_first : from_place i
        ≡ record { key = get_or places (place_width * i) 0; tier = get_or places (place_width * i + 1) 0 } ∷ from_place (suc i)
    unfolding place_entries
    place_first =
        let e : count - i ≡ suc (count - suc i) = omega arith in
        let f : place_width * i + 0 ≡ place_width * i = omega arith in
        let g : place_width * i + place_width ≡ place_width * suc i = omega arith in
        rw (e, get_or-drop (place_width * i) places 0 0, get_or-drop (place_width * i) places 1 0, drop-drop place_width (place_width * i) places, f, g)

    -- it is in the first of them, or in a later one
    pub place_here : key ≡ get_or places (place_width * i) 0 → 1 ∷ get_or places (place_width * i + 1) 0 ∷ [] ≡ looked_up (from_place i) key
    place_here q = rw (place_first, eq-eqb key (get_or places (place_width * i) 0) q)

    pub place_later : (key ≡ get_or places (place_width * i) 0 → ⊥) → looked_up (from_place i) key ≡ looked_up (from_place (suc i)) key
    place_later n = rw (place_first, ne_eqb key (get_or places (place_width * i) 0) n)
