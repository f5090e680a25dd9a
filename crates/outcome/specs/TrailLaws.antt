-- What the trail call answers and leaves, row by row, for all inputs: the table's refusals, "as for withdraw" and then 11; what a refusal leaves; that the
-- scratch and the old words of the trail have no say. Then the trail of a dictionary that holds a set: what document 02 says of it. Assumes nothing.
use Rattle.std.specs.Prelude.{ℕ, suc, ◌+◌, ◌-◌, ◌≤◌, ◌<◌, ◌≡◌, true, false, cond, ◌↔◌, length, get_or, replicate}
use Rattle.std.proofs.Math.Path.{refl}
use Rattle.std.proofs.Common.{sym, ◌∙◌, ap, inl, inr}
use Rattle.std.proofs.Math.Bool.{not}
use mathlib.Core.List.Memᴰ.{head as here}
use mathlib.Core.List.Memᴰ.{tail as there}
use mathlib.Core.List.{List, [], ◌∷◌, ◌++◌, Memᴰ as In}
use native.Mathlib.Omega.{arith}
use borrow.Author.Tests.{eq-eqb, ne_eqb, le-ltb}
use Rattle.std.proofs.Math.Dec.{ltb}
use Rattle.basics.specs.Sets.{member, first, last, Sub}
use Rattle.basics.specs.Lists.{Picked}
use Rattle.cuckoo.specs.Graph.{component, is_on_cycle, seated, stash, occupant}
use Rattle.cuckoo.specs.Walks.{Distinct}
use Rattle.cuckoo.specs.Trail.{other}
use Rattle.refusals.specs.Refusal.{done, wrong_tabulation, wrong_shape, short_scratch, not_canonical, blank_key, key_absent, short_trail, first_refusal}
use Rattle.hashing.specs.Hash.{tabulation_length, blank}
use Rattle.hashing.specs.Slots.{slot_0, slot_1}
use Rattle.layout.specs.Entries.{Entry, keys_of}
use Rattle.layout.specs.Layout.{Params, ValidKeys, family, slots_of, places_of, scratch_length, shaped, keys_in}
use Rattle.layout.specs.Canonical.{canonical}
use Rattle.outcome.specs.declared.Change.TheVariants.{Remove}
use Rattle.layout.specs.Ready.{first_refusals, Ready, Tampered}
use Rattle.outcome.specs.Outcome.{change_refusal, change_outcome}
use Rattle.outcome.specs.Laws.{later_refusals}
use Rattle.outcome.specs.Held.{Holds}
use Rattle.outcome.specs.Demands.{Harmless}
use Rattle.outcome.specs.Trail.{trail_of, trail_in, trail_refusals, trail_refusal, TrailOutcome, trail_outcome}

-- the numbers that it can answer: those of a removal, and 11
abbrev pub trail_answers : List ℕ
trail_answers = 0 ∷ 1 ∷ 2 ∷ 3 ∷ 4 ∷ 5 ∷ 7 ∷ 11 ∷ []

module _ (tabulation ws scratch : List ℕ) (key : ℕ) where
  abbrev pub L : List ℕ
  L = trail_in tabulation ws key

  module _ (sheet : List ℕ) where
    abbrev pub o : TrailOutcome
    o = trail_outcome tabulation ws scratch key sheet

    -- The words are only read, "and the borrowed work sheet is zeroed".
    pub trail_words : o.words ≡ ws
    unfolding trail_outcome
    trail_words = refl

-- The trail in a set of keys, as document 02 tells it.
module _ (P : Params) (S : List ℕ) where
  abbrev pub a : ℕ → ℕ
  a = slot_0 (family P)

  abbrev pub b : ℕ → ℕ
  b = slot_1 (family P)

  abbrev pub T : List ℕ
  T = seated a b S

  -- L is the trail of a seated key
  pub record Leads (key : ℕ) (L : List ℕ) : Type 0 where
    -- "The trail starts with a seated card";
    pub starts : first L ≡ key
    -- "each next one is the card sitting in the last one's other pocket".
    pub next : (k : ℕ) → suc k < length L → get_or L (suc k) 0 ≡ occupant a b T (other a b T (get_or L k 0))
    -- "It ends with the root: the smallest of a group without a loop, otherwise the smallest on the one loop that its seated cards form."
    pub ends : Picked (is_on_cycle a b T) (component a b T (a key)) (last L)
    -- "Every trail ends without a repeated card."
    pub once : Distinct L
    -- It stays in its component.
    pub near : Sub L (component a b T (a key))
