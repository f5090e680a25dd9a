-- Salvage (document 02, "Eight": reading a head that got wet): who survives in words of the right shape, whatever they
-- hold, and the whole outcome of the call for every tabulation, words, target and scratch. The contracts are equalities
-- with these definitions. This file is what a reader must believe; the others say what it means.
use Rattle.std.specs.Prelude.{ℕ, Bool, true, not, cond, ◌&&◌, ◌||◌, List, [], ◌∷◌, ◌++◌, map, eqb, ltb, leb, length, replicate, Result, Ok, Err}
use Rattle.basics.specs.Sets.{keep, any}
use Rattle.refusals.specs.Refusal.{done, wrong_tabulation, wrong_shape, short_scratch, none_counts, first_refusal}
use Rattle.refusals.specs.declared.Refusal.{Refusal}
use Rattle.cuckoo.specs.Placement.{Place, slot, place}
use Rattle.ordered.specs.Keys.{sorted, distinct}
use Rattle.hashing.specs.Hash.{Family, tabulation_length, first_part, blank}
use Rattle.hashing.specs.Slots.{slot_0, slot_1}
use Rattle.layout.specs.Entries.{Entry, max_tier, tiered, no_entry}
use Rattle.layout.specs.Layout.{params_of, family_of, slots_of, places_of, scratch_length, shaped, image}
use Rattle.layout.specs.Layout.{Spot, spots, spot_key}

-- who survives

-- "the pocket is its place": a slot that is one of the key's own two. Of a place of the stash nothing is asked.
abbrev pub own_place : Family → Place → ℕ → Bool
own_place F (slot v) key = eqb v (slot_0 F key) || eqb v (slot_1 F key)
own_place F (place i) key = true

-- "A pocket's card counts if it is 10 or more, its tier is at most 7 and the pocket is its place; a drawer card needs
-- only the first two."
abbrev pub counts : Family → Spot → Bool
counts F x = not (blank (spot_key x)) && leb x.entry.tier max_tier && own_place F x.at (spot_key x)

-- "A list of the right shape is gone over in word order": the spots that count
unfoldable pub counting : List ℕ → List ℕ → List Spot
counting tabulation ws = keep (counts (family_of tabulation ws)) (spots ws)

-- "Of several issues or copies of a card the first that counts stands": of these spots the first with the first part of
-- the key; where there is none, a spot that holds nothing
unfoldable pub standing : List Spot → ℕ → Spot
standing [] key = record { at = place 0; entry = no_entry }
standing (x ∷ X) key = cond (eqb (first_part (spot_key x)) (first_part key)) x (standing X key)

-- the keys of these spots, ascending, each once, and of them those that stand
abbrev pub standing_keys : List Spot → List ℕ
standing_keys X = keep (λ c. eqb (spot_key (standing X c)) c) (distinct (sorted (map spot_key X)))

-- The survivors: the keys that stand, each "with its tier".
unfoldable pub survivors : List ℕ → List ℕ → List Entry
survivors tabulation ws =
    let X = counting tabulation ws in
    tiered (λ c. (standing X c).entry.tier) (standing_keys X)

-- "a card number other than zero"
abbrev pub occupied : Spot → Bool
occupied x = not (eqb (spot_key x) 0)

-- "how many pockets and drawer places held a card number other than zero that doesn't count"
unfoldable pub lost_in : List ℕ → List ℕ → ℕ
lost_in tabulation ws = length (keep (λ x. occupied x && not (counts (family_of tabulation ws) x)) (spots ws))

-- the call

-- the values of the answer: how many are lost
abbrev pub values : Result ℕ Refusal → List ℕ
values (Ok lost) = lost ∷ []
values (Err refusal) = []

-- "Checks are 1, 2 for the first area, 2 for the second's length, and 3", of a second area, the target, of n words and
-- scratch of m;
abbrev pub area_refusals : List ℕ → List ℕ → ℕ → ℕ → List (ℕ × Bool)
area_refusals tabulation ws n m =
    (wrong_tabulation, not (eqb (length tabulation) tabulation_length))
    ∷ (wrong_shape, not (shaped ws))
    ∷ (wrong_shape, not (eqb n (length ws)))
    ∷ (short_scratch, ltb m (scratch_length (slots_of ws) (places_of ws)))
    ∷ []

-- "15 (some pocket or drawer place holds a card number other than zero, yet no card counts) last"
abbrev pub nothing_counts : List ℕ → List ℕ → Bool
nothing_counts tabulation ws = any occupied (spots ws) && not (any (counts (family_of tabulation ws)) (spots ws))

abbrev pub salvage_refusals : List ℕ → List ℕ → ℕ → ℕ → List (ℕ × Bool)
salvage_refusals tabulation ws n m =
    area_refusals tabulation ws n m ++ ((none_counts, nothing_counts tabulation ws) ∷ [])

unfoldable pub salvage_refusal : List ℕ → List ℕ → ℕ → ℕ → ℕ
salvage_refusal tabulation ws n m = first_refusal (salvage_refusals tabulation ws n m)

-- number and values, the first area, the second, and scratch
pub record SalvageOutcome : Type 0 where
  pub number : ℕ
  pub values : List ℕ
  pub words : List ℕ
  pub target : List ℕ
  pub scratch : List ℕ

-- "The tool writes their canonical list, with the same r, s and station, to a second lent area of the same length and
-- tells how many"; "every refusal leaves the second area unchanged". The first area is only read; the scratch is zero
-- over its full length either way.
unfoldable pub salvage_outcome : List ℕ → List ℕ → List ℕ → List ℕ → SalvageOutcome
salvage_outcome tabulation ws target scratch =
    let n = salvage_refusal tabulation ws (length target) (length scratch) in
    record {
      number = n;
      values = cond (eqb n done) (lost_in tabulation ws ∷ []) [];
      words = ws;
      target = cond (eqb n done) (image (params_of tabulation ws) (survivors tabulation ws)) target;
      scratch = replicate (length scratch) 0;
    }
