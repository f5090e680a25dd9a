-- A set that stands in scratch, with its edges, is built: it does not fit, or the columns of its image stand there.
-- Then words are alike exactly if they are that
-- image, and what is written over words of the right length is that image. Assumes nothing.
use Rattle.std.specs.Prelude.{ℕ, ◌+◌, ◌*◌, ◌≤◌, ◌<◌, ◌≡◌, refl, true, false, List, length, Option, Some, None}
use Rattle.std.proofs.Common.{arith}
use Rattle.std.proofs.lemmas.Bool.{lt-leb}
use Rattle.basics.specs.Lists.{same}
use Rattle.layout.specs.Entries.{tier_of, tiered}
use Rattle.layout.proofs.Entries.{keys_tiered, tier_absent}
use Rattle.layout.specs.Layout.{Params, ValidKeys, params_of, slots_of, places_of, words_length, stash_of, fits}
use Rattle.layout.specs.Layout.{fits_by, image}
use Rattle.layout.specs.Shape.{Shaped, Sized}
use Rattle.layout.proofs.Image.{le_fits}
use Rattle.layout.proofs.Standing.{zero_outside}
use Rattle.build.specs.Scratch.{parts, used}
use Rattle.build.specs.Build.{full, made, Built, Buildable}
use Rattle.image.specs.Image.{alike_image, written_image}
use Rattle.scratch_set.specs.Edges.{Lined, lined_built}
use Rattle.gateway.specs.Columns.{SetColumns, alike_in, written_in, RanksReadable, standing_readable, stash_count}
use Rattle.gateway.specs.Columns.{set_columns}

-- a set whose stash is too long does not fit
full_fits : (P : Params) (S : List ℕ) → P.places < length (stash_of P S) → fits P S ≡ false
unfolding fits fits_by
full_fits P S l = lt-leb (length (stash_of P S)) P.places l

-- 0 has no tier
no_tier : {S : List ℕ} (t : ℕ → ℕ) → ValidKeys S → tier_of (tiered t S) 0 ≡ 0
no_tier {S} t valid = tier_absent (tiered t S) (λ i. zero_outside valid (rw (keys_tiered t S) at i))

-- A build that has room leaves what can be read by rank.
pub built_readable : {r s n : ℕ} {before after : List ℕ} {count : Option ℕ} {k : ℕ} → Sized r s
    → Buildable r s n before → length after ≡ length before
    → Built r s n before after count → count ≡ Some k → RanksReadable r s n after
built_readable sizes b same B e = elim B.built [
  | full l q ↦ absurd (omega (arith, rw e at q))
  | made l q v W ↦ standing_readable sizes b.few (omega (arith, b.room)) W
]

module _ {P : Params} {t : ℕ → ℕ} {S before after : List ℕ} {count : Option ℕ} (valid : ValidKeys S)
    (sizes : Sized P.slots P.places)
    (few : length S ≤ 2 * P.slots + P.places) (room : used P.slots P.places ≤ length before)
    (D : Lined P t S before)
    (same_room : length after ≡ length before) (B : Built P.slots P.places (length S) before after count) where
  pub set_kept : Lined P t S after
  set_kept = lined_built D same_room room few B

  room_after : used P.slots P.places ≤ length after
  room_after = omega arith

  pub set_full : count ≡ None → fits P S ≡ false
  set_full e = elim B.built [
    | full l q ↦ full_fits P S (rw (stash_count valid sizes few room_after set_kept) at l)
    | made l q v W ↦ absurd (omega (arith, rw e at q))
  ]

  module _ {k : ℕ} (e : count ≡ Some k) where
    -- it fits, its stash has k keys, and its columns stand there
    pub record Made : Type 0 where
      pub fit : fits P S ≡ true
      pub stashed : length (stash_of P S) ≡ k
      pub columns : SetColumns P.slots after (parts P.slots P.places (length S) after) P (tiered t S)

    pub set_made : Made
    set_made = elim B.built [
      | full l q ↦ absurd (omega (arith, rw e at q))
      | made l q v W ↦
          let c = stash_count valid sizes few room_after set_kept in
          let w = rw e at v in
          record {
            fit = le_fits P S (rw c at l);
            stashed = cc;
            columns =
                set_columns valid sizes few room_after set_kept W;
          }
    ]

    -- what is written over words of the right length is its image
    pub set_written : (ws : List ℕ) → length ws ≡ words_length P.slots P.places
        → written_in ws
        (record { slots = P.slots; places = P.places; keys = length S; stashed = k; station = P.station }) after ≡ image P (tiered t S)
    set_written ws size =
        let i = written_image set_made.columns (rw (keys_tiered t S) set_made.fit) (no_tier t valid) ws
        sizes.has_slots size in
        rw (← set_made.stashed) (rw (keys_tiered t S) at i)

-- and words are alike exactly if they are its image
module _ (tabulation ws : List ℕ) (formed : Shaped ws) {t : ℕ → ℕ} {S before after : List ℕ} {count : Option ℕ}
    (valid : ValidKeys S)
    (few : length S ≤ 2 * slots_of ws + places_of ws) (room : used (slots_of ws) (places_of ws) ≤ length before)
    (D : Lined (params_of tabulation ws) t S before) (same_room : length after ≡ length before)
    (B : Built (slots_of ws) (places_of ws) (length S) before after count) {k : ℕ} (e : count ≡ Some k) where
  pub set_alike : alike_in (slots_of ws) (places_of ws) (length S) ws k after ≡ same ws
      (image (params_of tabulation ws) (tiered t S))
  set_alike =
      let M = set_made valid formed.sizes few room D same_room B e in
      let a = alike_image M.columns (rw (keys_tiered t S) M.fit) (no_tier t valid) formed refl refl refl in
      rw (← M.stashed) (rw (keys_tiered t S) at a)
