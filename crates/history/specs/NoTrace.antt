-- Demand 3 as one statement, the record NoTrace, and one theorem, `no_trace`: all of it holds of every sequence of
-- calls from an accepted init or bulk load on. Document 01: "All this is a single claim about the whole sequence and
-- not one for each call." The two records and `step_after` are what a reader must believe, with Calls.antt, Model.antt
-- and `Follows` of History.antt; the proofs stand below them. Assumes nothing.
use Rattle.std.specs.Prelude.{ℕ, ◌≤◌, ◌≡◌, refl, Bool, false, not, ◌&&◌, ◌⊎◌, ◌↔◌, List, [], ◌∷◌, ◌++◌, eqb, ltb, length}
use Rattle.std.proofs.Common.{sym, ◌∙◌, ap, true≢false, inl, inr, ltb-false, le-ltb}
use Rattle.basics.specs.Tests.{test}
use Rattle.basics.specs.Sets.{member}
use Rattle.cuckoo.specs.Placement.{Placement}
use Rattle.ordered.specs.Keys.{with_key}
use Rattle.refusals.specs.Refusal.{None, done, wrong_tabulation, short_scratch, blank_key, key_present, stash_full, wrong_tier, other_tier, other_issue}
use Rattle.refusals.specs.Refusal.{first_refusal, none, and}
use Rattle.hashing.specs.Hash.{blank}
use Rattle.hashing.specs.Slots.{slot_0, slot_1}
use Rattle.layout.specs.Entries.{Entry, max_tier, keys_of, tier_of}
use Rattle.layout.specs.Layout.{Params, another_issue, family, scratch_length, fits, image}
use Rattle.outcome.specs.declared.Change.TheVariants.{Insert}
use Rattle.counters.specs.declared.Counters.{Counters}
use Rattle.outcome.specs.Held.{Holds}
use Rattle.history.specs.Calls.{Lent, own, wrong, Call, Step, step, run, words_after, words_left}
use Rattle.history.specs.Calls.{Allowed, none, more, Sequence, Like, Alike, end, then}
use Rattle.history.specs.Model.{request, requests, wrong_length, too_short, before_full, full_test, change_tests, reply, model}
use Rattle.history.specs.Model.{set_after, set_left}
use Rattle.history.specs.History.{Follows}

-- "Where a call comes to the rule of the full drawer": an insert to which none of the register's refusals before 8
-- applies, L being the register's set. They are 1, 3, 5, 9, 13, 10 and 6, the last two for a key of the set; "2 and 4
-- never do". By the law `comes_answers` these are exactly the inserts that answer 0 or 8.
pub record ComesToFull (P : Params) (L : List Entry) (l : Lent) (scratch_size key tier : ℕ) : Type 0 where
  pub right_length : wrong_length P l ≡ false
  pub long_enough : too_short P scratch_size ≡ false
  pub not_blank : blank key ≡ false
  pub small_tier : tier ≤ max_tier
  pub no_other : another_issue key (keys_of L) ≡ false
  pub absent : member key (keys_of L) ≡ false

-- What the call c answers and leaves that comes after the calls cs: that step of the run, by the law `run_at`.
abbrev pub step_after : Params → List ℕ → List Call → Call → Step
step_after P ws cs c = step P.tabulation (words_left P ws cs) c

-- Demand 3, of the sequence of calls cs that starts with words ws and the set L₀.
pub record NoTrace (P : Params) (L₀ : List Entry) (ws : List ℕ) (cs : List Call) : Type 0 where
  -- "Every call answers as document 01's plain register does, and the words after it are the canonical image of the
  -- register's set."
  pub follows : Follows P L₀ ws cs
  -- "Two such sequences with the same book and the same rack and drawer sizes leave the same words exactly when they
  -- end in one set": those of one P, which has the station, too. They may start with two sets.
  pub same_words : {L₀' : List Entry} {ws' : List ℕ} {cs' : List Call} → Sequence P L₀' ws' cs'
      → (words_left P ws cs ≡ words_left P ws' cs') ↔ (set_left P L₀ ws cs ≡ set_left P L₀' ws' cs')
  -- "and any later call with like arguments then answers the same.": so do all later calls, of any kind, accepted or
  -- not, and they leave the same words. They may lend any book t, that of the sequence or another.
  pub same_later : {L₀' : List Entry} {ws' : List ℕ} {cs' : List Call} → Sequence P L₀' ws' cs'
      → set_left P L₀ ws cs ≡ set_left P L₀' ws' cs'
      → {t : List ℕ} {ds ds' : List Call} → Alike t ds ds'
      → run t (words_left P ws cs) ds ≡ run t (words_left P ws' cs') ds'
  -- "Where a call comes to the rule of the full drawer, it is refused by it exactly when no placement of the new set
  -- exists, each card in one of its two pockets or in one of the drawer's places, one card to a pocket or place.": at
  -- every insert of the sequence, after the calls cs₁ and before the calls cs₂.
  pub full : (cs₁ cs₂ : List Call) (l : Lent) (scratch : List ℕ) (counters : Counters) (key tier : ℕ)
      → cs ≡ cs₁ ++ (Call.change (Insert tier) l scratch counters key ∷ cs₂)
      → ComesToFull P (set_left P L₀ ws cs₁) l (length scratch) key tier
      → ((step_after P ws cs₁ (Call.change (Insert tier) l scratch counters key)).answer.number ≡ stash_full)
      ↔ (Placement (slot_0 (family P)) (slot_1 (family P)) P.places
      (with_key key (keys_of (set_left P L₀ ws cs₁))) → ⊥)

-- the test of 8

module _ {P : Params} {L₀ : List Entry} {ws : List ℕ} {cs : List Call} (q : Sequence P L₀ ws cs)
    (l : Lent) (scratch : List ℕ) (counters : Counters) (key tier : ℕ) where
  abbrev pub L : List Entry
  L = set_left P L₀ ws cs

  abbrev pub answer : ℕ
  answer = (step_after P ws cs (Call.change (Insert tier) l scratch counters key)).answer.number
