-- The words that `gather` picks out of given words; that those picked from a dictionary are the words at which a key can stand; and that there are
-- never more keys than slots and places, so that scratch has room. Assumes nothing.
use Prim.Native.Nat.{ℕ, zero, suc, ◌+◌, ◌*◌, ◌-◌, ◌≤◌, ◌<◌}
use Rattle.std.specs.Prelude.{◌≡◌, refl, Bool, not, cond, List, [], ◌∷◌, ◌++◌, map, length, get_or, set, take, drop}
use Rattle.std.proofs.Common.{sym, ◌∙◌, append_assoc, append-nil, le_refl, add-zero, add-one, length-append, length-take, get_or-drop, drop-drop, take-suc-set, take-take, length-take-le}
use Rattle.std.proofs.Math.Path.{ap}
use Rattle.std.proofs.Math.Bool.{true, false}
use Rattle.std.proofs.Math.Logic.{inl, inr}
use native.Mathlib.Omega.{arith}
use Rattle.std.proofs.lemmas.List.{take-set-le, take-append-le}
use borrow.Rule.Slice.PartMut.{mid_of, put_mid}
use Rattle.basics.specs.Tests.{test}
use Rattle.basics.proofs.Tests.{zero_one}
use Rattle.basics.specs.Sets.{keep}
use Rattle.basics.proofs.Sets.{length_keep}
use Rattle.basics.proofs.Lists.{keep_append}
use Rattle.ordered.specs.Keys.{sorted, distinct}
use Rattle.ordered.proofs.Sorting.{sorted_length}
use Rattle.ordered.proofs.Distinct.{distinct_length}
use Rattle.hashing.specs.Hash.{blank}
use Rattle.layout.specs.Entries.{keys_of}
use Rattle.layout.specs.Layout.{header_length, slot_width, place_width, key_at, stash_at, slots_of, places_of, place_entries, stash_entries, slot_spots, spot_key, key_words, keys_in}
use Rattle.layout.specs.Shape.{Shaped}
use Rattle.layout.proofs.Standing.{key_words_parts}
use Rattle.records.specs.Columns.{picked, picked_length}

-- those that are not blank
abbrev pub non_blank : List ℕ → List ℕ
non_blank xs = keep (λ w. not (blank w)) xs

-- the picked words of a dictionary

-- no more are gathered than picked
pub non_blank_few : (ws : List ℕ) (from step count : ℕ) → length (non_blank (picked ws from step count)) ≤ count
non_blank_few ws from step count =
    let xs = picked ws from step count in
    let l = length_keep (λ w. not (blank w)) xs in omega (arith, picked_length ws from step count)

pub picked_slots : (ws : List ℕ) (v count : ℕ) → picked ws (key_at v) slot_width count
    ≡ map spot_key (slot_spots ws v count)
unfolding picked slot_spots
picked_slots ws v zero = refl
picked_slots ws v (suc count) =
    let e : key_at v + slot_width ≡ key_at (suc v) = omega arith in
    rw (e, picked_slots ws (suc v) count)

pub picked_places : (ws : List ℕ) (from count : ℕ) → picked ws from place_width count
    ≡ keys_of (place_entries count (drop from ws))
unfolding picked place_entries
picked_places ws from zero = refl
picked_places ws from (suc count) =
    let e : from + 0 ≡ from = omega arith in
    rw (picked_places ws (from + place_width) count, get_or-drop from ws 0 0, drop-drop place_width from ws, e)

-- the loop of `gather`: what is gathered, and what is still to be gathered
unfoldable pub gathering : (ws : List ℕ) (step : ℕ) (scratch : List ℕ) (end at left : ℕ) → List ℕ
gathering ws step scratch end at left = take end scratch ++ non_blank (picked ws at step left)

-- a word that is written in any case behind what is gathered, and stays if t says so
pub gathered_word : (t : Bool) (scratch : List ℕ) (end word : ℕ) (more : List ℕ) → end < length scratch
    → take end scratch ++ cond t (word ∷ more) more ≡ take (end + cond t 1 0) (set scratch end word) ++ more
gathered_word true scratch end word more h =
    rw (add-one end, take-suc-set) (sym (append_assoc (take end scratch) (word ∷ []) more))
gathered_word false scratch end word more h = rw (add-zero, take-set-le end scratch end word (le_refl end))

-- where such a loop ends: what is gathered, and how many words that is
pub gathered_ends : (before after xs : List ℕ) {n end : ℕ} → take n before ++ xs ≡ take end after → n ≤ length before
    → end ≤ length after → (take end after ≡ take n before ++ xs) × (end ≡ n + length xs)
gathered_ends before after xs {n} {end} e l m = (
  sym e,
  omega (
    arith,
    ap length e,
    length-append (take n before) xs,
    length-take-le n before l,
    length-take-le end after m,
  ),
)

module _ (ws : List ℕ) (step at left : ℕ) (l : 0 < left) where
  pub picked_next : picked ws at step left ≡ get_or ws at 0 ∷ picked ws (at + step) step (left - 1)
  unfolding picked
  picked_next = let e : left ≡ suc (left - 1) = omega arith in ap (picked ws at step) e

  -- the word is written in any case, and stays if it is not blank
  pub gathering_step :
      (scratch : List ℕ) (end : ℕ) → end < length scratch
      → gathering ws step scratch end at left
      ≡ gathering ws step (set scratch end (get_or ws at 0)) (end + cond (blank (get_or ws at 0)) 0 1) (at + step) (left - 1)
  unfolding gathering
  gathering_step scratch end h =
      let more = non_blank (picked ws (at + step) step (left - 1)) in
      rw picked_next (elim (test (blank (get_or ws at 0))) [
        | inl e ↦ rw e (gathered_word false scratch end (get_or ws at 0) more h)
        | inr n ↦ rw n (gathered_word true scratch end (get_or ws at 0) more h)
      ])

pub gathering_end :
    (ws : List ℕ) (step : ℕ) (scratch : List ℕ) (end at left : ℕ) → left ≡ 0 → gathering ws step scratch end at left ≡ take end scratch
unfolding gathering picked
gathering_end ws step scratch end at left e = rw e (append-nil (take end scratch))

-- all the words that are gathered from a dictionary, and what is made of them

module _ (ws : List ℕ) (h : Shaped ws) where
  abbrev r : ℕ
  r = slots_of ws

  abbrev s : ℕ
  s = places_of ws

  pub gathered_keys :
      non_blank (picked ws header_length slot_width (2 * r)) ++ non_blank (picked ws (stash_at r) place_width s) ≡ non_blank (key_words ws)
  gathered_keys =
      let e : 2 * r ≡ r + r = omega arith in
      rw (e, picked_slots ws 0 (r + r), picked_places ws (stash_at r) s, key_words_parts ws)
      (sym (keep_append (λ w. not (blank w)) (map spot_key (slot_spots ws 0 (r + r))) (keys_of (stash_entries ws))))

  pub gathered_count :
      length (non_blank (picked ws header_length slot_width (2 * r))) + length (non_blank (picked ws (stash_at r) place_width s))
      ≡ length (non_blank (key_words ws))
  gathered_count =
      sym (length-append (non_blank (picked ws header_length slot_width (2 * r))) (non_blank (picked ws (stash_at r) place_width s))) ∙ ap length gathered_keys

  -- gathered in two goes, behind a word 0
  pub gathered_front :
      (scratch zs : List ℕ) (end : ℕ) → 0 < length scratch
      → take end zs ≡ (take 1 (set scratch 0 0) ++ non_blank (picked ws header_length slot_width (2 * r))) ++ non_blank (picked ws (stash_at r) place_width s)
      → end ≡ 1 + length (non_blank (picked ws header_length slot_width (2 * r))) + length (non_blank (picked ws (stash_at r) place_width s))
      → (take (end - 1 + 1) zs ≡ 0 ∷ non_blank (key_words ws)) × (end - 1 ≡ length (non_blank (key_words ws)))
  gathered_front scratch zs end l f e =
      let g : end - 1 + 1 ≡ end = omega arith in
      (rw g (f ∙ rw (take-suc-set scratch 0 0 l) (ap (λ (xs : List ℕ). 0 ∷ xs) gathered_keys)), omega (arith, gathered_count))

  -- a dictionary has no more keys than slots and places, counted with doubles or without
  pub gathered_few : length (non_blank (key_words ws)) ≤ 2 * r + s
  gathered_few = omega (arith, gathered_count, non_blank_few ws header_length slot_width (2 * r), non_blank_few ws (stash_at r) place_width s)

  pub keys_in_few : length (keys_in ws) ≤ 2 * r + s
  unfolding keys_in
  keys_in_few =
      let xs = non_blank (key_words ws) in
      let l = distinct_length (sorted xs) in omega (arith, sorted_length xs, gathered_few)

-- of a front that begins with 0, the 0 and the words behind it
front_split : (n : ℕ) (xs zs : List ℕ) → take (n + 1) xs ≡ 0 ∷ zs → (take 1 xs ≡ 0 ∷ []) × (take n (drop 1 xs) ≡ zs)
front_split n [] zs e = let f = rw (add-one n) at e in absurd (zero_one (cc))
front_split n (x ∷ xs) zs e = let f = rw (add-one n) at e in (cc, cc)

-- What `make_set` makes of words that were gathered behind word 0: all but the word 0 is lent to it.
module _ (zs scratch : List ℕ) (n : ℕ) (room : n < length scratch) (gathered : take (n + 1) scratch ≡ 0 ∷ zs) where
  abbrev lent : List ℕ
  lent = mid_of 1 (length scratch - 1) scratch

  lent_keys : take n lent ≡ zs
  lent_keys = take-take n (length scratch - 1) (drop 1 scratch) (omega arith) ∙ (front_split n scratch zs gathered).1

  pub collected :
      (ys : List ℕ) (k : ℕ) → length ys ≡ length lent → k ≡ length (distinct (sorted (take n lent))) → take k ys ≡ distinct (sorted (take n lent))
      → (take (k + 1) (put_mid 1 (length scratch - 1) scratch ys) ≡ 0 ∷ distinct (sorted zs))
      × (k ≡ length (distinct (sorted zs)))
  collected ys k l c f =
      let d = distinct_length (sorted (take n lent)) in
      let g : distinct (sorted (take n lent))
      ≡ distinct (sorted zs) = ap (λ (l : List ℕ). distinct (sorted l)) lent_keys in
      let few : k ≤ length ys = omega (arith, sorted_length (take n lent), length-take n lent) in (
        rw (
          (front_split n scratch zs gathered).0,
          add-one k,
          take-append-le k ys (drop (length scratch - 1) (drop 1 scratch)) few,
        ) (ap (λ (l : List ℕ). 0 ∷ l) (f ∙ g)),
        c ∙ ap length g,
      )
