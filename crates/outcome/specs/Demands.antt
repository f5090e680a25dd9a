-- The user's demands 1 and 2 of insert, remove, check and init, each as one statement and one theorem for all inputs. Demand 1 of trail is `trail_harmless`
-- (TrailLaws), demand 3 `no_trace` of the crate `history`. That memory is never touched outside its ends and that every call returns is the check of the code
-- itself. Assumes nothing.
use Rattle.std.specs.Prelude.{ℕ, ◌≡◌, refl, ◌↔◌, length, replicate}
use Rattle.std.proofs.Common.{inl, ne_eqb}
use mathlib.Core.List.{List, [], ◌∷◌, Memᴰ as In}
use Rattle.refusals.specs.Refusal.{done}
use Rattle.layout.specs.Entries.{Entry}
use Rattle.layout.specs.Layout.{params_of, set_in}
use Rattle.layout.specs.Canonical.{ImageOf}
use Rattle.layout.specs.Answers.{lookup_values, fresh_refusal, fresh_words}
use Rattle.outcome.specs.declared.Change.{Change}
use Rattle.outcome.specs.Outcome.{Outcome, changed, change_outcome, check_outcome}
use Rattle.outcome.specs.Laws.{change_answers, check_answers}

-- Demand 1: "Each refusal is one of document 01's numbers and leaves the list and the book unchanged and the work sheet
-- all zeros." (Document 02's numbers "join document 01's table".) Of a call that may answer `answers`, on words ws with
-- scratch: the book is lent as `&[u16]` and cannot be written.
pub record Harmless (answers ws scratch : List ℕ) (o : Outcome) : Type 0 where
  pub numbered : In o.answer answers
  pub unchanged : (o.answer ≡ done → ⊥) → o.words ≡ ws
  pub cleared : o.scratch ≡ replicate (length scratch) 0

-- Demand 2: "After an accepted add or withdrawal the list is, in every word, the canonical image that document 01 takes
-- from Naor, Segev and Wieder for the new set of cards. On such a list, with the same book, a look-up says yes exactly
-- for the cards in the set.", with the tier of each.
pub record Renewed (tabulation ws : List ℕ) (L : List Entry) (us : List ℕ) : Type 0 where
  -- the old set, of which L is the change, is the one whose image the words were
  pub was : ImageOf (params_of tabulation ws) (set_in tabulation ws) ws
  pub image : ImageOf (params_of tabulation ws) L us
  pub looked : (c t : ℕ) → (lookup_values tabulation us c ≡ 1 ∷ t ∷ []) ↔ In (record { key = c; tier = t }) L
