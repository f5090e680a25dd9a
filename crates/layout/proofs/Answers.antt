-- The laws of what specs/Answers.antt defines.
use Rattle.std.specs.Prelude.{ℕ, ◌*◌, ◌-◌, Bool, not, cond, ◌&&◌, eqb, ltb, length, take, drop, replicate}
use mathlib.Core.List.{List, [], ◌∷◌, ◌++◌, Memᴰ as In}
use Rattle.basics.specs.Sets.{member}
use Rattle.refusals.specs.Refusal.{done, wrong_tabulation, wrong_shape, not_canonical, blank_key, first_refusal}
use Rattle.refusals.proofs.Refusals.{first_refusal_in}
use Rattle.hashing.specs.Hash.{tabulation_length, blank}
use Rattle.layout.specs.Entries.{Entry, keys_of, tier_of}
use Rattle.layout.specs.Layout.{header_words, header_length, shaped, params_in_range, slots_of, places_of, stash_count, place_width, stash_at, words_length, looked_at}
use Rattle.layout.specs.declared.Header.{Header}
use Rattle.layout.specs.Answers.{lookup_refusals, lookup_refusal, view_refusals, view_refusal, fresh_refusals, fresh_refusal}

-- The laws. Which numbers each call can answer: "It gives 1, 2, 5, or else yes exactly when ..", "gives only 2, or 4 ..", "gives only 2".
pub lookup_answer_in : (tabulation ws : List ℕ) (key : ℕ) → In (lookup_refusal tabulation ws key) (0 ∷ 1 ∷ 2 ∷ 5 ∷ [])
unfolding lookup_refusal
lookup_answer_in tabulation ws key = first_refusal_in (lookup_refusals tabulation ws key)

pub view_answer_in : (ws : List ℕ) → In (view_refusal ws) (0 ∷ 2 ∷ 4 ∷ [])
unfolding view_refusal
view_answer_in ws = first_refusal_in (view_refusals ws)

pub fresh_answer_in : (len r s station : ℕ) → In (fresh_refusal len r s station) (0 ∷ 2 ∷ [])
unfolding fresh_refusal
fresh_answer_in len r s station = first_refusal_in (fresh_refusals len r s station)
