-- The laws of what specs/Damage.antt defines.
use Prim.Native.Nat.{ℕ, zero, suc, ◌+◌, ◌*◌, ◌-◌, ◌/◌, ◌≤◌, ◌<◌}
use Rattle.std.specs.Prelude.{◌≡◌, refl, true, false, cond, ◌&&◌, eqb, ltb, length, get_or, drop}
use Rattle.std.proofs.Math.Path.{sym, ap}
use Rattle.std.proofs.Common.{◌∙◌, true≢false, inl, inr, eqb-true, eq-eqb, ne_eqb, lt-ltb, le-ltb, get_or-drop}
use Rattle.std.proofs.Math.Bool.{Bool, not}
use mathlib.Core.List.Memᴰ
use mathlib.Core.List.Memᴰ.{head as here}
use mathlib.Core.List.{List, [], ◌∷◌, ◌++◌, map, map-append, Memᴰ as In}
use mathlib.Core.List.Memᴰ.{tail as there}
use native.Mathlib.Omega.{arith}
use Rattle.std.proofs.lemmas.Bool.{eqb-false, not-true}
use Rattle.std.proofs.Math.ListN.{length-map}
use Rattle.basics.specs.Tests.{test}
use Rattle.basics.proofs.Tests.{eq?, and_true}
use Rattle.basics.specs.Sets.{keep, any, Asc, none, some}
use Rattle.basics.proofs.Sets.{keep_in, keep_test, in_keep, any_true, true_any}
use Rattle.basics.proofs.Lists.{pigeonhole, in_upto, length_split}
use Rattle.basics.specs.Lists.{upto}
use Rattle.cuckoo.specs.Placement.{Place, slot, place}
use Rattle.hashing.specs.Hash.{Family, first_part}
use Rattle.layout.specs.Entries.{Entry, keys_of, no_entry}
use Rattle.layout.proofs.Entries.{in_key, key_in, length_keys}
use Rattle.layout.specs.Layout.{Params, ValidSet, family, params_of, family_of, slots_of, places_of, words_length}
use Rattle.layout.specs.Layout.{key_at, tier_at, stash_at, place_at, place_width, place_entries, stash_entries}
use Rattle.layout.specs.Layout.{Spot, slot_spots, place_spots, spots, spot_key}
use Rattle.layout.proofs.Shape.{shape}
use Rattle.layout.proofs.Standing.{not_blank}
use Rattle.outcome.specs.Held.{Holds}
use Rattle.outcome.proofs.Held.{held_params, held_shaped}
use Rattle.survivors.specs.Salvage.{counts, counting, standing, standing_keys, survivors, occupied, lost_in}
use Rattle.survivors.specs.Spots.{slot_spot, place_spot, at_slot, at_place}
use Rattle.survivors.proofs.Spots.{spot_of, slot_in_spots}
use Rattle.survivors.proofs.Spots.{place_in_spots, one_spot}
use Rattle.survivors.proofs.Surviving.{counts_sound, standing_in, standing_part, stands_in, in_stands, stands_key}
use Rattle.survivors.proofs.Surviving.{survivor_entry, found_spot, found_counts, entry_survives, survivors_valid}
use Rattle.survivors.proofs.Untampered.{one_entry, member_survives}
use Rattle.survivors.proofs.Laws.{held_spot, held_survivors}
use Rattle.survivors.specs.Damage.{changed_words, entry_listed, part_listed}

-- The laws. The tests:
listed_in : (L : List Entry) (e : Entry) → entry_listed L e ≡ true → In e L
listed_in L e t =
    let r = any_true (λ d. eqb d.key e.key && eqb d.tier e.tier) L t in
    let d = r.0 in
    let p = and_true (eqb d.key e.key) (eqb d.tier e.tier) r.2 in
    let q : d ≡ e = ap (λ (k : ℕ). record { key = k; tier = d.tier }) (eqb-true _ _ p.0)
    ∙ ap (λ (x : ℕ). record { key = e.key; tier = x }) (eqb-true _ _ p.1) in
    rw q at r.1

in_listed : (L : List Entry) (e : Entry) → In e L → entry_listed L e ≡ true
in_listed L e i =
    true_any (λ d. eqb d.key e.key && eqb d.tier e.tier) i
    (rw (eq-eqb e.key e.key refl, eq-eqb e.tier e.tier refl))

-- what is kept of a set still ascends
keep_asc : (p : Entry → Bool) (L : List Entry) → Asc (keys_of L) → Asc (keys_of (keep p L))
keep_asc p [] asc = none
keep_asc p (e ∷ L) (some h asc) = elim (test (p e)) [
  | inl t ↦ rw t (some (λ d i. h d (kept d i)) (keep_asc p L asc))
  | inr t ↦ rw t (keep_asc p L asc)
]
  where
    kept : (d : ℕ) → In d (keys_of (keep p L)) → In d (keys_of L)
    kept d i = let r = in_key (keep p L) i in rw r.2 at (key_in L (keep_in p L r.1))

-- the words of a place of the stash
place_at_entry : (n : ℕ) (zs : List ℕ) (i : ℕ) → i < n
    → get_or (place_entries n zs) i no_entry
    ≡ record { key = get_or zs (place_width * i) 0; tier = get_or zs (place_width * i + 1) 0 }
unfolding place_entries
place_at_entry zero zs i l = absurd (omega arith)
place_at_entry (suc n) zs zero l = refl
place_at_entry (suc n) zs (suc i) l =
    let e : place_width * suc i ≡ place_width + place_width * i = omega arith in
    let f : place_width * suc i + 1 ≡ place_width + (place_width * i + 1) = omega arith in
    place_at_entry n (drop place_width zs) i (omega arith)
    ∙ (rw (f, e, get_or-drop place_width zs (place_width * i) 0, get_or-drop place_width zs (place_width * i + 1) 0))

place_words_at : (ws : List ℕ) (i : ℕ) → i < places_of ws
    → get_or (stash_entries ws) i no_entry
    ≡ record { key = get_or ws (place_at (slots_of ws) i) 0; tier = get_or ws (place_at (slots_of ws) i + 1) 0 }
place_words_at ws i l =
    let a = stash_at (slots_of ws) in
    let e : a + (place_width * i + 1) ≡ place_at (slots_of ws) i + 1 = omega arith in
    place_at_entry (places_of ws) (drop a ws) i l
    ∙ (rw (get_or-drop a ws (place_width * i) 0, get_or-drop a ws (place_width * i + 1) 0, e))

-- Words that hold a set, and others with the same r, s and station.
module _ {P : Params} {L : List Entry} {ws : List ℕ} (h : Holds P L ws) (vs : List ℕ)
    (same : params_of P.tabulation vs ≡ P) where
  abbrev t : List ℕ
  t = P.tabulation

  abbrev F : Family
  F = family_of t vs

  abbrev valid : ValidSet L
  valid = h.is.valid

  both : params_of t vs ≡ params_of t ws
  both = same ∙ sym (held_params h)

  slots_same : slots_of vs ≡ slots_of ws
  slots_same = ap (λ (Q : Params). Q.slots) both

  places_same : places_of vs ≡ places_of ws
  places_same = ap (λ (Q : Params). Q.places) both

  counts_same : (x : Spot) → counts F x ≡ counts (family_of t ws) x
  counts_same x = ap (λ (Q : Params). counts (family Q) x) both

  -- what counts and stood there before is of the old set
  old_entry : (x : Spot) → In x (spots ws) → counts F x ≡ true → In x.entry L
  old_entry x i c = elim (held_spot h x i) [
    | inl z ↦ absurd (not_blank (spot_key x) (counts_sound F x c).not_blank z)
    | inr k ↦ k.1
  ]

  -- "every card of the old list whose place was not touched, and of whose first part nothing else was written, survives"
  pub untouched_survives : (x : Spot) → In x (spots ws) → In x (spots vs) → (spot_key x ≡ 0 → ⊥)
      → ((y : Spot) → In y (spots vs) → counts F y ≡ true → first_part (spot_key y) ≡ first_part (spot_key x)
      → In y (spots ws))
      → In x.entry (survivors t vs)
  untouched_survives x i j n else = elim (held_spot h x i) [
    | inl z ↦ absurd (n z)
    | inr k ↦
        member_survives t vs valid x j (counts_same x ∙ k.0) k.1 (λ y m c q. old_entry y (else y m c q) c)
  ]

  -- the spot of the same place in other words
  abbrev there_in : List ℕ → Place → Spot
  there_in us (slot v) = slot_spot us v
  there_in us (place i) = place_spot us i

  -- of a place the word that was changed: its key word, or else its tier word
  abbrev touched : Place → ℕ
  touched (slot v) = cond (eqb (get_or ws (key_at v) 0) (get_or vs (key_at v) 0)) (tier_at v) (key_at v)
  touched (place i) =
      cond (eqb (get_or ws (place_at (slots_of ws) i) 0) (get_or vs (place_at (slots_of ws) i) 0))
      (place_at (slots_of ws) i + 1) (place_at (slots_of ws) i)

  -- a place of these words
  data Inside : Place → Type 0 where
    in_slot : (v : ℕ) → v < slots_of ws + slots_of ws → Inside (slot v)
    in_place : (i : ℕ) → i < places_of ws → Inside (place i)

  inside_new : (x : Spot) → In x (spots vs) → Inside x.at
  inside_new x i = elim (spot_of vs i) [
    | at_slot v l q ↦ rw q (in_slot v (omega (arith, slots_same)))
    | at_place j l q ↦ rw q (in_place j (omega (arith, places_same)))
  ]

  inside_old : (x : Spot) → In x (spots ws) → Inside x.at
  inside_old x i = elim (spot_of ws i) [
    | at_slot v l q ↦ rw q (in_slot v l)
    | at_place j l q ↦ rw q (in_place j l)
  ]

  slot_touched : (v : ℕ) → (key_at v ≤ touched (slot v)) × (touched (slot v) ≤ tier_at v)
  slot_touched v = elim (test (eqb (get_or ws (key_at v) 0) (get_or vs (key_at v) 0))) [
    | inl e ↦ rw e (omega arith, omega arith)
    | inr e ↦ rw e (omega arith, omega arith)
  ]

  place_touched : (i : ℕ) → (place_at (slots_of ws) i ≤ touched (place i))
      × (touched (place i) ≤ place_at (slots_of ws) i + 1)
  place_touched i = elim (test (eqb (get_or ws (place_at (slots_of ws) i) 0) (get_or vs (place_at (slots_of ws) i) 0))) [
    | inl e ↦ rw e (omega arith, omega arith)
    | inr e ↦ rw e (omega arith, omega arith)
  ]

  -- no word is of two places
  touched_apart : {p q : Place} → Inside p → Inside q → touched p ≡ touched q → p ≡ q
  touched_apart (in_slot v l) (in_slot u m) e = ap slot (omega (arith, slot_touched v, slot_touched u, e))
  touched_apart (in_slot v l) (in_place i m) e = absurd (omega (arith, slot_touched v, place_touched i, e))
  touched_apart (in_place i m) (in_slot v l) e = absurd (omega (arith, slot_touched v, place_touched i, e))
  touched_apart (in_place i l) (in_place j m) e = ap place (omega (arith, place_touched i, place_touched j, e))

  size : length ws ≡ words_length (slots_of ws) (places_of ws)
  size = (shape ws (held_shaped h)).size

  word_changed : (w : ℕ) → w < length ws → (get_or ws w 0 ≡ get_or vs w 0 → ⊥) → In w (changed_words ws vs)
  word_changed w l n =
      in_keep (λ i. not (eqb (get_or ws i 0) (get_or vs i 0))) (upto (length ws)) (ap not (ne_eqb _ _ n))
      (in_upto (length ws) l)

  -- a place whose spots differ has a word that was changed
  touched_changed : {p : Place} → Inside p → (there_in ws p ≡ there_in vs p → ⊥) → In (touched p) (changed_words ws vs)
  touched_changed (in_slot v l) n = elim (eq? (get_or ws (key_at v) 0) (get_or vs (key_at v) 0)) [
    | inr k ↦ rw (ne_eqb _ _ k) (word_changed (key_at v) (omega (arith, size)) k)
    | inl k ↦ rw (eq-eqb _ _ k) (word_changed (tier_at v) (omega (arith, size)) (λ e. n (rw (k, e))))
  ]
  touched_changed (in_place i l) n =
      let a = place_at (slots_of ws) i in
      let m : i < places_of vs = omega (arith, places_same) in
      elim (eq? (get_or ws a 0) (get_or vs a 0)) [
        | inr k ↦ rw (ne_eqb _ _ k) (word_changed a (omega (arith, size)) k)
        | inl k ↦ rw (eq-eqb _ _ k)
            (word_changed (a + 1) (omega (arith, size))
            (λ e. n (rw (place_words_at ws i l, place_words_at vs i m, slots_same, k, e))))
      ]

  -- a spot of one of the lists is where it is,
  spot_there : (us : List ℕ) (x : Spot) → In x (spots us) → x ≡ there_in us x.at
  spot_there us x i = elim (spot_of us i) [
    | at_slot v l q ↦ rw q
    | at_place j l q ↦ rw q
  ]

  there_spot : (us : List ℕ) → slots_of us ≡ slots_of ws → places_of us ≡ places_of ws → {p : Place} → Inside p
      → In (there_in us p) (spots us)
  there_spot us r s (in_slot v l) = slot_in_spots us v (omega (arith, r))
  there_spot us r s (in_place i l) = place_in_spots us i (omega (arith, s))

  -- and one that is not of the other has a word that was changed.
  new_changed : (x : Spot) → In x (spots vs) → (In x (spots ws) → ⊥) → In (touched x.at) (changed_words ws vs)
  new_changed x i n =
      touched_changed (inside_new x i) (λ e.
      n (rw (sym (spot_there vs x i ∙ sym e)) at (there_spot ws refl refl (inside_new x i))))

  old_changed : (x : Spot) → In x (spots ws) → (In x (spots vs) → ⊥) → In (touched x.at) (changed_words ws vs)
  old_changed x i n =
      touched_changed (inside_old x i) (λ e.
      n (rw (sym (spot_there ws x i ∙ e)) at (there_spot vs slots_same places_same (inside_old x i))))

  -- So entries of which each has a place of its own that was changed are no more than the words that were.
  by_places : (A : List Entry) → Asc (keys_of A) → (at : ℕ → Place) → ((c : ℕ) → In c (keys_of A) → Inside (at c))
      → ((c : ℕ) → In c (keys_of A) → In (touched (at c)) (changed_words ws vs))
      → ((c d : ℕ) → In c (keys_of A) → In d (keys_of A) → at c ≡ at d → c ≡ d)
      → length A ≤ length (changed_words ws vs)
  by_places A asc at in_it hit apart =
      omega (
        arith,
        length_keys A,
        pigeonhole (λ c. touched (at c)) (changed_words ws vs) asc hit
            (λ c d i j e. apart c d i j (touched_apart (in_it c i) (in_it d j) e)),
      )

  abbrev X : List Spot
  X = counting t vs

  abbrev new : List Entry
  new = keep (λ e. not (entry_listed L e)) (survivors t vs)

  -- a new survivor was written
  new_spot : (c : ℕ) → In c (keys_of new) → In c (standing_keys X) × (In (standing X c) (spots ws) → ⊥)
  new_spot c i =
      let r = in_key new i in
      let e = r.0 in
      let p : Entry → Bool = λ e. not (entry_listed L e) in
      let s = survivor_entry t vs (keep_in p (survivors t vs) r.1) in
      let k : In c (standing_keys X) = rw r.2 at s.0 in
      let x : (standing X c).entry ≡ e = ap (λ (k : ℕ). (standing X k).entry) (sym r.2) ∙ s.1 in (
        k,
        λ o. true≢false (sym (in_listed L e (rw x at (old_entry (standing X c) o (found_counts t vs k))))
            ∙ not-true _ (keep_test p (survivors t vs) r.1)),
      )

  -- "add": the survivors that the old list did not have with this tier,
  pub few_new : length (keep (λ e. not (entry_listed L e)) (survivors t vs)) ≤ length (changed_words ws vs)
  few_new =
      by_places new (keep_asc (λ e. not (entry_listed L e)) (survivors t vs) (survivors_valid t vs).keys.asc)
      (λ c. (standing X c).at)
      (λ c i. inside_new (standing X c) (found_spot t vs (new_spot c i).0))
      (λ c i. let s = new_spot c i in new_changed (standing X c) (found_spot t vs s.0) s.1)
      (λ c d i j e.
      let a = (new_spot c i).0 in
      let b = (new_spot d j).0 in
      sym (stands_key X a) ∙ ap spot_key (one_spot vs (found_spot t vs a) (found_spot t vs b) e) ∙ stands_key X b)

  -- where an entry of the old list stood
  abbrev Y : List Spot
  Y = counting t ws

  old_spot : {e : Entry} → In e L → In e.key (standing_keys Y) × ((standing Y e.key).entry ≡ e)
  old_spot {e} i = survivor_entry t ws (rw (held_survivors h) i)

  -- entries of the old list of whose first part nothing survives: each was overwritten
  parts_gone : (A : List Entry) → Asc (keys_of A) → ((e : Entry) → In e A → In e L)
      → ((e : Entry) → In e A → part_listed (survivors t vs) e ≡ false) → length A ≤ length (changed_words ws vs)
  unfolding counting
  parts_gone A asc old gone =
      by_places A asc (λ c. (standing Y c).at)
      (λ c i. inside_old (standing Y c) (found_spot t ws (stood c i)))
      (λ c i. old_changed (standing Y c) (found_spot t ws (stood c i)) (λ j. absurd (overwritten c i j)))
      (λ c d i j e.
      let a = stood c i in
      let b = stood d j in
      sym (stands_key Y a) ∙ ap spot_key (one_spot ws (found_spot t ws a) (found_spot t ws b) e) ∙ stands_key Y b)
    where
      stood : (c : ℕ) → In c (keys_of A) → In c (standing_keys (counting t ws))
      stood c i = let r = in_key A i in rw r.2 at (old_spot (old r.0 r.1)).0

      -- if it still stood there, the first that counts of its first part would survive
      overwritten : (c : ℕ) → In c (keys_of A) → In (standing (counting t ws) c) (spots vs) → ⊥
      overwritten c i j =
          let r = in_key A i in
          let a = stood c i in
          let x = standing (counting t ws) c in
          let k = in_keep (counts F) (spots vs) (counts_same x ∙ found_counts t ws a) j in
          let s = standing_in (counting t vs) c k (ap first_part (stands_key (counting t ws) a)) in
          let d = spot_key (standing (counting t vs) c) in
          let q = standing_part (counting t vs) d c s.1 in
          let m : In d (standing_keys (counting t vs)) =
          in_stands (counting t vs) d (ap spot_key q) (rw q s.0) in
          let u : In (standing (counting t vs) d).entry (survivors t vs) = entry_survives t vs d m in
          let g = gone r.0 r.1 in
          true≢false (sym (true_any (λ f. eqb (first_part f.key) (first_part r.0.key)) u
          (eq-eqb _ _ (ap (λ (z : Spot). first_part (spot_key z)) q ∙ s.1 ∙ ap first_part (sym r.2)))) ∙ g)

  -- "lose": the first parts of which nothing survives,
  pub few_parts_gone : length (keep (λ e. not (part_listed (survivors t vs) e)) L) ≤ length (changed_words ws vs)
  few_parts_gone =
      let p : Entry → Bool = λ e. not (part_listed (survivors t vs) e) in
      parts_gone (keep p L) (keep_asc p L valid.keys.asc) (λ e i. keep_in p L i)
      (λ e i. not-true _ (keep_test p L i))

  -- entries of the old list that do not survive, though another issue or copy of their first part does: that was written
  parts_taken : (A : List Entry) → Asc (keys_of A) → ((e : Entry) → In e A → In e L)
      → ((e : Entry) → In e A → entry_listed (survivors t vs) e ≡ false)
      → ((e : Entry) → In e A → part_listed (survivors t vs) e ≡ true) → length A ≤ length (changed_words ws vs)
  unfolding counting
  parts_taken A asc old gone part =
      by_places A asc (λ c. (standing X c).at)
      (λ c i. inside_new (standing X c) (stands c i).0)
      (λ c i. new_changed (standing X c) (stands c i).0 (λ j. absurd (written c i j)))
      (λ c d i j e.
      let q = ap (λ (z : Spot). first_part (spot_key z)) (one_spot vs (stands c i).0 (stands d j).0 e) in
      valid.issues c d (key_old c i) (key_old d j) (sym (stands c i).2 ∙ q ∙ (stands d j).2))
    where
      key_old : (c : ℕ) → In c (keys_of A) → In c (keys_of L)
      key_old c i = let r = in_key A i in rw r.2 at (key_in L (old r.0 r.1))

      -- the first that counts of its first part
      stands : (c : ℕ) → In c (keys_of A) → In (standing (counting t vs) c) (spots vs)
          × (counts F (standing (counting t vs) c) ≡ true)
          × (first_part (spot_key (standing (counting t vs) c)) ≡ first_part c)
      stands c i =
          let r = in_key A i in
          let u = any_true (λ f. eqb (first_part f.key) (first_part r.0.key)) (survivors t vs)
          (part r.0 r.1) in
          let d = survivor_entry t vs u.1 in
          let q : first_part (spot_key (standing (counting t vs) u.0.key)) ≡ first_part c =
          ap first_part (stands_key (counting t vs) d.0) ∙ eqb-true _ _ u.2 ∙ ap first_part r.2 in
          let s = standing_in (counting t vs) c (stands_in (counting t vs) d.0) q in
          (keep_in (counts F) (spots vs) s.0, keep_test (counts F) (spots vs) s.0, s.1)

      -- if it had stood there before, it would be the entry itself
      written : (c : ℕ) → In c (keys_of A) → In (standing (counting t vs) c) (spots ws) → ⊥
      written c i j =
          let r = in_key A i in
          let x = standing (counting t vs) c in
          let s = stands c i in
          let o = old_entry x j s.1 in
          let k : spot_key x ≡ c = valid.issues (spot_key x) c (key_in L o) (key_old c i) s.2 in
          let e : x.entry ≡ r.0 = one_entry valid.keys.asc o (old r.0 r.1) (k ∙ sym r.2) in
          let m : In c (standing_keys (counting t vs)) =
          in_stands (counting t vs) c k (in_keep (counts F) (spots vs) s.1 s.0) in
          let u : In x.entry (survivors t vs) = entry_survives t vs c m in
          true≢false (sym (in_listed (survivors t vs) r.0 (rw e at u)) ∙ gone r.0 r.1)

  -- and with them all that no longer stand, with the tier that they had.
  pub few_gone : length (keep (λ e. not (entry_listed (survivors t vs) e)) L) ≤ 2 * length (changed_words ws vs)
  few_gone =
      let p : Entry → Bool = λ e. not (entry_listed (survivors t vs) e) in
      let q : Entry → Bool = part_listed (survivors t vs) in
      let n : Entry → Bool = λ e. not (q e) in
      let G = keep p L in
      let asc = keep_asc p L valid.keys.asc in
      let a = parts_taken (keep q G) (keep_asc q G asc) (λ e i. keep_in p L (keep_in q G i))
      (λ e i. not-true _ (keep_test p L (keep_in q G i))) (λ e i. keep_test q G i) in
      let b = parts_gone (keep n G) (keep_asc n G asc) (λ e i. keep_in p L (keep_in n G i))
      (λ e i. not-true _ (keep_test n G i)) in
      omega (arith, a, b, length_split q G)

  -- How many are lost is told: no more than were changed. The spots, by their key words, ascend;
  abbrev word_of : Place → ℕ
  word_of (slot v) = key_at v
  word_of (place i) = place_at (slots_of ws) i

  from_words : (Z : List Spot) {w : ℕ} → In w (map (λ (x : Spot). word_of x.at) Z)
      → (x : Spot) × In x Z × (word_of x.at ≡ w)
  from_words (x ∷ Z) (here q) = (x, here refl, sym q)
  from_words (x ∷ Z) (there i) = let r = from_words Z i in (r.0, there r.1, r.2)
  from_words [] {w = w} x' = elim x' [ ]

  slots_ascend : (v n : ℕ) (M : List ℕ) → Asc M → ((w : ℕ) → In w M → key_at (v + n) ≤ w)
      → Asc (map (λ (x : Spot). word_of x.at) (slot_spots vs v n) ++ M)
      × ((w : ℕ) → In w (map (λ (x : Spot). word_of x.at) (slot_spots vs v n) ++ M) → key_at v ≤ w)
  unfolding slot_spots
  slots_ascend v zero M asc low = let e : v + 0 ≡ v = omega arith in (asc, rw e at low)
  slots_ascend v (suc n) M asc low =
      let e : v + suc n ≡ suc v + n = omega arith in
      let r = slots_ascend (suc v) n M asc (rw e at low) in (
        some {c = key_at v} (λ w i. omega (arith, r.1 w i)) r.0,
        λ w i. elim i [ here q ↦ omega arith | there j ↦ omega (arith, r.1 w j) ],
      )

  places_ascend : (i : ℕ) (E : List Entry) → Asc (map (λ (x : Spot). word_of x.at) (place_spots i E))
      × ((w : ℕ) → In w (map (λ (x : Spot). word_of x.at) (place_spots i E)) → place_at (slots_of ws) i ≤ w)
  places_ascend i [] = (none, λ w j. elim j [ ])
  places_ascend i (e ∷ E) =
      let r = places_ascend (suc i) E in (
        some {c = place_at (slots_of ws) i} (λ w j. omega (arith, r.1 w j)) r.0,
        λ w j. elim j [ here q ↦ omega arith | there k ↦ omega (arith, r.1 w k) ],
      )

  spots_ascend : Asc (map (λ (x : Spot). word_of x.at) (spots vs))
  spots_ascend =
      let f : Spot → ℕ = λ x. word_of x.at in
      let n = slots_of vs + slots_of vs in
      let r = places_ascend 0 (stash_entries vs) in
      rw (map-append f (slot_spots vs 0 n) (place_spots 0 (stash_entries vs)))
      (slots_ascend 0 n (map f (place_spots 0 (stash_entries vs))) r.0
      (λ w i. omega (arith, r.1 w i, slots_same))).0

  kept_ascend : (p : Spot → Bool) (Z : List Spot) → Asc (map (λ (x : Spot). word_of x.at) Z)
      → Asc (map (λ (x : Spot). word_of x.at) (keep p Z))
  kept_ascend p [] asc = none
  kept_ascend p (x ∷ Z) (some g asc) = elim (test (p x)) [
    | inl e ↦ rw e (some {c = word_of x.at} (λ w i. g w (still w i)) (kept_ascend p Z asc))
    | inr e ↦ rw e (kept_ascend p Z asc)
  ]
    where
      still : (w : ℕ) → In w (map (λ (x : Spot). word_of x.at) (keep p Z))
          → In w (map (λ (x : Spot). word_of x.at) Z)
      still w i = let r = from_words (keep p Z) i
          in rw r.2 at (Memᴰ.map (λ (x : Spot). word_of x.at) (keep_in p Z r.1))

  -- and a key word tells where it is.
  abbrev place_of : ℕ → Place
  place_of w = cond (ltb w (stash_at (slots_of ws))) (slot ((w - 5) / 3)) (place ((w - stash_at (slots_of ws)) / 2))

  place_word : {p : Place} → Inside p → place_of (word_of p) ≡ p
  place_word (in_slot v l) =
      let e : (key_at v - 5) / 3 ≡ v = omega arith in
      rw (lt-ltb (key_at v) (stash_at (slots_of ws)) (omega arith), e)
  place_word (in_place i l) =
      let e : (place_at (slots_of ws) i - stash_at (slots_of ws)) / 2 ≡ i = omega arith in
      rw (le-ltb (place_at (slots_of ws) i) (stash_at (slots_of ws)) (omega arith), e)

  pub few_lost : lost_in t vs ≤ length (changed_words ws vs)
  unfolding lost_in
  few_lost =
      let Z = keep lost (spots vs) in
      omega (
        arith,
        length-map Z (λ (x : Spot). word_of x.at),
        pigeonhole (λ w. touched (place_of w)) (changed_words ws vs) (kept_ascend lost (spots vs) spots_ascend)
            (λ w i. let r = from_words Z i in let j = keep_in lost (spots vs) r.1 in
            rw (← r.2, place_word (inside_new r.0 j))
            (new_changed r.0 j (λ o. absurd (not_old r.0 r.1 o))))
            (λ w u i j e.
            let a = from_words Z i in
            let b = from_words Z j in
            let x = inside_new a.0 (keep_in lost (spots vs) a.1) in
            let y = inside_new b.0 (keep_in lost (spots vs) b.1) in
            let q : touched a.0.at ≡ touched b.0.at =
            ap touched (sym (ap place_of (sym a.2) ∙ place_word x)) ∙ e
            ∙ ap touched (ap place_of (sym b.2) ∙ place_word y) in
            sym a.2 ∙ ap word_of (touched_apart x y q) ∙ b.2),
      )
    where
      lost : Spot → Bool
      lost x = occupied x && not (counts F x)

      -- in the old list every number counts
      not_old : (x : Spot) → In x (keep lost (spots vs)) → In x (spots ws) → ⊥
      not_old x i o =
          let p = and_true (occupied x) (not (counts F x)) (keep_test lost (spots vs) i) in
          elim (held_spot h x o) [
            | inl z ↦ eqb-false _ _ (not-true _ p.0) z
            | inr k ↦ true≢false (sym (counts_same x ∙ k.0) ∙ not-true _ p.1)
          ]
