-- A set that stands in scratch is committed to words: the answer and the words are those that the set leads to,
-- whatever the words were. Assumes nothing.
use Rattle.std.specs.Prelude.{ℕ, ◌+◌, ◌*◌, ◌≤◌, ◌≡◌, cond, List, length, Option, Some, None}
use Rattle.std.proofs.Common.{◌∙◌, arith}
use Rattle.refusals.specs.Refusal.{done, stash_full}
use Rattle.layout.specs.declared.Header.{Header}
use Rattle.layout.specs.Entries.{Entry, keys_of, tiered}
use Rattle.layout.proofs.Entries.{keys_tiered}
use Rattle.layout.specs.Layout.{Params, ValidKeys, params_with, with_stashed, words_length, fits, image}
use Rattle.layout.specs.Shape.{Sized}
use Rattle.build.specs.Build.{Built, Buildable}
use Rattle.scratch_set.specs.Edges.{Lined}
use Rattle.gateway.specs.Columns.{RanksReadable, written_in}
use Rattle.gateway.specs.Building.{built_readable, set_full, set_made, set_written}

-- the answer and the words that a new set leads to: "full drawer", and the words stay, or the image of the set
abbrev pub new_answer : Params → List ℕ → ℕ
new_answer P S = cond (fits P S) done stash_full

abbrev pub new_words : Params → List Entry → List ℕ → List ℕ
new_words P L ws = cond (fits P (keys_of L)) (image P L) ws

-- What can be committed under a heading: its r and s are in their ranges, the words have the length that they ask for,
-- and as many keys as it tells stand in
-- scratch, with their edges. What it tells of stashed keys has no say.
pub record Committable (h : Header) (ws scratch : List ℕ) : Type 0 where
  pub sizes : Sized h.slots h.places
  pub size : length ws ≡ words_length h.slots h.places
  pub buildable : Buildable h.slots h.places h.keys scratch

-- Whichever set stands in scratch, with tiers t: the answer and the words are those that it leads to.
pub record Committed (h : Header) (ws scratch : List ℕ) (answer : ℕ) (us : List ℕ) : Type 0 where
  pub by : (tabulation : List ℕ) (t : ℕ → ℕ) (S : List ℕ) → ValidKeys S → h.keys ≡ length S
      → Lined (params_with tabulation h) t S scratch
      → (answer ≡ new_answer (params_with tabulation h) S) × (us ≡ new_words (params_with tabulation h) (tiered t S) ws)

-- The laws. The set is built, n being the number of keys that the heading tells:
module _ (h : Header) (ws : List ℕ) {scratch : List ℕ} (C : Committable h ws scratch) {n : ℕ}
    (count : n ≡ h.keys) where
  pub committable_built : Buildable h.slots h.places n scratch
  committable_built = rw count C.buildable

  module _ {after : List ℕ} {c : Option ℕ} (same : length after ≡ length scratch)
      (B : Built h.slots h.places n scratch after c) where
    built_keys : (S : List ℕ) → h.keys ≡ length S → Built h.slots h.places (length S) scratch after c
    built_keys S q = let e : n ≡ length S = count ∙ q in rw (← e) B

    few_keys : (S : List ℕ) → h.keys ≡ length S → length S ≤ 2 * h.slots + h.places
    few_keys S q = omega (arith, C.buildable.few)

    -- it does not fit,
    pub committed_full : c ≡ None → Committed h ws scratch stash_full ws
    committed_full o = record {
      by = λ tabulation t S valid q D.
          let g = set_full {P = params_with tabulation h} valid C.sizes (few_keys S q) C.buildable.room D same
          (built_keys S q) o in
          (rw g, rw (keys_tiered t S, g));
    }

    -- or its image is written.
    module _ {k : ℕ} (o : c ≡ Some k) where
      pub committed_readable : (length ws ≡ words_length h.slots h.places)
          × RanksReadable h.slots h.places h.keys after
      committed_readable = (C.size, built_readable C.sizes C.buildable same (rw (← count) B) o)

      pub committed_made : {us : List ℕ}
          → us ≡ written_in ws (with_stashed h k) after
          → Committed h ws scratch done us
      committed_made w = record {
        by = λ tabulation t S valid q D.
            let P = params_with tabulation h in
            let g = (set_made {P = P} valid C.sizes (few_keys S q) C.buildable.room D same
            (built_keys S q) o).fit in
            let i = set_written {P = P} valid C.sizes (few_keys S q) C.buildable.room D same
            (built_keys S q) o ws C.size in
            (rw g, rw (keys_tiered t S, g) ((rw q at w) ∙ i));
      }
