-- The laws of what specs/Smallest.antt defines.
use Rattle.std.specs.Prelude.{ℕ, ◌+◌, ◌<◌, ◌≡◌, refl, true, false, List, [], ◌∷◌, eqb, length}
use Rattle.std.proofs.Common.{◌∙◌, inl, inr, arith}
use Rattle.std.proofs.Math.Bool.{and-false}
use mathlib.Core.List.Memᴰ.{head as here}
use mathlib.Core.List.Memᴰ.{tail as there}
use borrow.Author.Tests.{eq-eqb, ne_eqb, lt-ltb, le-ltb}
use Rattle.basics.specs.Tests.{test}
use Rattle.basics.specs.Sets.{without, Asc, none, some}
use Rattle.cuckoo.specs.Graph.{label, joined, component, is_on_cycle, cyclic, spare, settle, seated, stash, root, sits, occupant, next, slot_key, slot_next}
use Rattle.hashing.proofs.Hash.{hash_lt}
use Rattle.layout.specs.Entries.{Entry, tier_of}
use Rattle.layout.specs.Layout.{Params, family, fits, image, fits_by, slot_words_by, image_by}
use Rattle.layout.proofs.Fitting.{fits_length}
use Rattle.layout.specs.Ends.{Known}
use Rattle.layout.proofs.Ends.{fits_known, image_known}
use Rattle.layout.specs.Smallest.{smallest, two}

-- more keys than slots and stash places do not fit
crowded : (P : Params) {S : List ℕ} → Asc S → 0 < P.slots → P.slots + P.slots + P.places < length S → fits P S ≡ false
crowded P {S} h pos more = elim (test (fits P S)) [ inl t ↦ absurd (omega (arith, fits_length P h pos t)) | inr t ↦ t ]

-- a smaller key in front
above : {c d : ℕ} {R : List ℕ} → c < d → Asc (d ∷ R) → Asc (c ∷ d ∷ R)
above {c} {d} {R} l (some h k) = some {c = c} {R = d ∷ R} (λ x i. elim i [ here q ↦ omega arith | there j ↦ omega (arith, h x j) ]) (some h k)

-- the ends of every key where a table has one slot
abbrev left : ℕ → ℕ
left c = 0

abbrev right : ℕ → ℕ
right c = 1

module _ (tabulation : List ℕ) (station : ℕ) where
  -- every key has slot 0 in table 0 and slot 1 in table 1, whatever the tabulation
  one_slot : (S : List ℕ) → Known (smallest tabulation station) left right S
  one_slot S =
      let F = family (smallest tabulation station) in
      record { at_0 = λ c i. omega (arith, hash_lt F 0 c (omega arith)); at_1 = λ c i. omega (arith, hash_lt F 1 c (omega arith)) }

-- one key is no cycle, so a key with one other is not spare
out_lone : (c : ℕ) → without c (c ∷ []) ≡ []
unfolding without
out_lone c = rw (eq-eqb c c refl)

lone : (c : ℕ) → is_on_cycle left right (c ∷ []) c ≡ false
unfolding is_on_cycle joined label
lone c = rw (out_lone c, and-false)

not_spare : (R : List ℕ) (c d : ℕ) → without c R ≡ d ∷ [] → spare left right R c ≡ false
unfolding spare cyclic component joined label
not_spare R c d e = rw (e, lone d, and-false)

-- the set {c, d}
module _ (c d : ℕ) (l : c < d) where
  c_c : eqb c c ≡ true
  c_c = eq-eqb c c refl

  d_d : eqb d d ≡ true
  d_d = eq-eqb d d refl

  c_d : eqb c d ≡ false
  c_d = ne_eqb c d (omega arith)

  d_c : eqb d c ≡ false
  d_c = ne_eqb d c (omega arith)

  out_c : without c (c ∷ d ∷ []) ≡ d ∷ []
  unfolding without
  out_c = rw (c_c, c_d)

  out_d : without d (c ∷ d ∷ []) ≡ c ∷ []
  unfolding without
  out_d = rw (d_d, d_c)

  both_seated : seated left right (c ∷ d ∷ []) ≡ c ∷ d ∷ []
  unfolding seated settle
  both_seated = rw (settle, not_spare (c ∷ d ∷ []) c d out_c, not_spare (c ∷ d ∷ []) d c out_d)

  no_stash : stash left right (c ∷ d ∷ []) ≡ []
  unfolding stash
  no_stash = rw (both_seated, c_c, d_d, d_c)

  cycle : is_on_cycle left right (c ∷ d ∷ []) c ≡ true
  unfolding is_on_cycle joined label
  cycle = rw (c_c, out_c)

  root_c : root left right (c ∷ d ∷ []) 0 ≡ c
  unfolding root component joined label
  root_c = rw cycle

  in_0 : occupant left right (c ∷ d ∷ []) 0 ≡ c
  unfolding occupant sits
  in_0 = rw (root_c, cycle, c_c)

  in_1 : occupant left right (c ∷ d ∷ []) 1 ≡ d
  unfolding occupant sits joined label
  in_1 = rw (root_c, cycle, c_c, d_c, out_c, out_lone d)

  next_c : next left right (c ∷ d ∷ []) c ≡ d
  unfolding next component joined label
  next_c = rw (le-ltb c c (omega arith), lt-ltb c d l)

  next_d : next left right (c ∷ d ∷ []) d ≡ c
  unfolding next component joined label
  next_d = rw (le-ltb d c (omega arith), le-ltb d d (omega arith))

  two_words : 0 < c → (t : ℕ → ℕ) (station : ℕ) → image_by left right t 1 0 station (c ∷ d ∷ []) ≡ 1 ∷ 0 ∷ 2 ∷ 0 ∷ station ∷ c ∷ d ∷ t c ∷ d ∷ c ∷ t d ∷ []
  unfolding image_by slot_words_by slot_key slot_next
  two_words h t station = rw (no_stash, both_seated, in_0, in_1, ne_eqb c 0 (omega arith), ne_eqb d 0 (omega arith), next_c, next_d)

-- K12, whatever the tabulation (any list at all), the station and the tiers
module _ (tabulation : List ℕ) (station : ℕ) where
  -- "two cards fit, the smaller in rack 0": r, s, two keys, none stashed, the station; c, its next d and its tier in table 0, d, its next c and its tier in table 1
  pub two_image : (c x d y : ℕ) → 0 < c → c < d → image (smallest tabulation station) (two c x d y) ≡ 1 ∷ 0 ∷ 2 ∷ 0 ∷ station ∷ c ∷ d ∷ x ∷ d ∷ c ∷ y ∷ []
  two_image c x d y h l =
      image_known (smallest tabulation station) (two c x d y) (one_slot tabulation station (c ∷ d ∷ []))
      ∙ two_words c d l h (tier_of (two c x d y)) station
      ∙ (rw (c_c c d l, d_c c d l, d_d c d l))

  pub two_fit : (c d : ℕ) → c < d → fits (smallest tabulation station) (c ∷ d ∷ []) ≡ true
  unfolding fits_by
  two_fit c d l = fits_known (smallest tabulation station) (one_slot tabulation station (c ∷ d ∷ [])) ∙ rw (no_stash c d l)

  -- "a third is refused 8"
  pub three_full : (c d e : ℕ) → c < d → d < e → fits (smallest tabulation station) (c ∷ d ∷ e ∷ []) ≡ false
  three_full c d e l k = crowded (smallest tabulation station) (above l (above k (some (λ x i. elim i [ ]) none))) (omega arith) (omega arith)
