-- The laws of what specs/Answers.antt defines.
use Rattle.std.specs.Prelude.{ℕ, ◌≡◌, Bool, not, cond, ◌&&◌, eqb, length, replicate}
use mathlib.Core.List.{List, [], ◌∷◌, ◌++◌, Memᴰ as In}
use Rattle.std.proofs.Common.{eq-eqb, ne_eqb}
use Rattle.basics.specs.Sets.{member, any}
use Rattle.basics.specs.Lists.{same}
use Rattle.ordered.specs.Keys.{with_key}
use Rattle.refusals.specs.Refusal.{done, wrong_tabulation, wrong_shape, not_canonical, blank_key, key_present}
use Rattle.refusals.specs.Refusal.{table_full}
use Rattle.refusals.specs.Refusal.{first_refusal}
use Rattle.refusals.proofs.Refusals.{first_refusal_in}
use Rattle.hashing.specs.Hash.{tabulation_length, slots_in_range, station_in_range, blank, Family, tables}
use Rattle.hashing.specs.Slots.{slot_0}
use Rattle.probing.specs.Rule.{table_image, look, table_keys}
use Rattle.stolen.specs.Answers.{stolen_family, stolen_image, stolen_init_refusal, stolen_init_words, stolen_lookup_refusals, stolen_lookup_refusal, says, stolen_lookup_values, stolen_insert_refusals, stolen_insert_refusal, stolen_insert_words}

-- The laws. Which numbers each call can answer, in the order in which it tries them.
pub stolen_init_answer_in : (ws : List ℕ) → In (stolen_init_refusal ws) (0 ∷ 2 ∷ [])
unfolding stolen_init_refusal
stolen_init_answer_in ws = first_refusal_in ((wrong_shape, not (slots_in_range (length ws))) ∷ [])

-- a refused init leaves the words
pub init_refused : (ws : List ℕ) → (stolen_init_refusal ws ≡ done → ⊥) → stolen_init_words ws ≡ ws
unfolding stolen_init_words
init_refused ws n = rw (ne_eqb (stolen_init_refusal ws) done n)

module _ (tabulation ws : List ℕ) (station key : ℕ) where
  pub stolen_lookup_answer_in : In (stolen_lookup_refusal tabulation ws station key) (0 ∷ 1 ∷ 2 ∷ 5 ∷ [])
  unfolding stolen_lookup_refusal
  stolen_lookup_answer_in = first_refusal_in (stolen_lookup_refusals tabulation ws station key)

  pub stolen_insert_answer_in : In (stolen_insert_refusal tabulation ws station key) (0 ∷ 1 ∷ 2 ∷ 4 ∷ 5 ∷ 6 ∷ 16 ∷ [])
  unfolding stolen_insert_refusal
  stolen_insert_answer_in = first_refusal_in (stolen_insert_refusals tabulation ws station key)

  -- What lookup gives and insert leaves, by their numbers.
  pub lookup_refused : (stolen_lookup_refusal tabulation ws station key ≡ done → ⊥)
      → stolen_lookup_values tabulation ws station key ≡ []
  unfolding stolen_lookup_values
  lookup_refused n = rw (ne_eqb (stolen_lookup_refusal tabulation ws station key) done n)

  pub lookup_accepted : stolen_lookup_refusal tabulation ws station key ≡ done
      → stolen_lookup_values tabulation ws station key
      ≡ says (look (slot_0 (stolen_family tabulation ws station)) (length ws) ws key)
  unfolding stolen_lookup_values
  lookup_accepted e = rw (eq-eqb (stolen_lookup_refusal tabulation ws station key) done e)

  pub insert_refused : (stolen_insert_refusal tabulation ws station key ≡ done → ⊥)
      → stolen_insert_words tabulation ws station key ≡ ws
  unfolding stolen_insert_words
  insert_refused n = rw (ne_eqb (stolen_insert_refusal tabulation ws station key) done n)

  pub insert_accepted : stolen_insert_refusal tabulation ws station key ≡ done
      → stolen_insert_words tabulation ws station key
      ≡ stolen_image (stolen_family tabulation ws station) (with_key key (table_keys ws))
  unfolding stolen_insert_words
  insert_accepted e = rw (eq-eqb (stolen_insert_refusal tabulation ws station key) done e)
