-- More laws, which rest on those of NoTrace.antt.
use Rattle.std.specs.Prelude.{ℕ, ◌≤◌, ◌≡◌, refl, Bool, false, not, ◌&&◌, ◌⊎◌, ◌↔◌, List, [], ◌∷◌, ◌++◌, eqb, ltb, length}
use Rattle.std.proofs.Common.{sym, ◌∙◌, ap, true≢false, inl, inr, ltb-false, le-ltb}
use Rattle.basics.specs.Tests.{test}
use Rattle.basics.specs.Sets.{member}
use Rattle.cuckoo.specs.Placement.{Placement}
use Rattle.ordered.specs.Keys.{with_key}
use Rattle.refusals.specs.Refusal.{None, done, wrong_tabulation, short_scratch, blank_key, key_present, stash_full, wrong_tier, other_tier, other_issue}
use Rattle.refusals.specs.Refusal.{first_refusal, none, and}
use Rattle.refusals.proofs.Refusals.{front_passes, front_none}
use Rattle.hashing.specs.Hash.{blank}
use Rattle.hashing.specs.Slots.{slot_0, slot_1}
use Rattle.layout.specs.Entries.{Entry, max_tier, keys_of, tier_of}
use Rattle.layout.specs.Layout.{Params, another_issue, family, scratch_length, fits, image}
use Rattle.layout.proofs.Canonical.{image_one}
use Rattle.outcome.specs.declared.Change.TheVariants.{Insert}
use Rattle.counters.specs.declared.Counters.{Counters}
use Rattle.outcome.specs.Held.{Holds}
use Rattle.outcome.proofs.Held.{held_some}
use Rattle.outcome.proofs.HeldNew.{held_full}
use Rattle.history.specs.Calls.{Lent, own, wrong, Call, Step, step, run, words_after, words_left}
use Rattle.history.specs.Calls.{Allowed, none, more, Sequence, Like, Alike, end, then}
use Rattle.history.specs.Model.{request, requests, wrong_length, too_short, before_full, full_test, change_tests, reply, model}
use Rattle.history.specs.Model.{set_after, set_left}
use Rattle.history.proofs.Agrees.{wrong_lent}
use Rattle.history.proofs.Changes.{change_number, change_like}
use Rattle.history.proofs.ReadsLaws.{lookup_like, check_like}
use Rattle.history.proofs.Others.{other_like}
use Rattle.history.specs.History.{Follows}
use Rattle.history.proofs.History.{history}
use Rattle.history.specs.NoTrace.{ComesToFull, step_after, NoTrace, L, answer}
use Rattle.history.proofs.NoTrace.{part, words_say_set, set_says_words, like_step, like_self, full_insert}

-- and so do sequences of them.
alike_run : (t ws : List ℕ) {cs cs' : List Call} → Alike t cs cs' → run t ws cs ≡ run t ws cs'
unfolding run
alike_run t ws end = refl
alike_run t ws (then {c} {c'} {cs} {cs'} l a) = rw (like_step t ws l, alike_run t (step t ws c').words a)

pub alike_self : (t : List ℕ) (cs : List Call) → Alike t cs cs
alike_self t [] = end
alike_self t (c ∷ cs) = then (like_self t c) (alike_self t cs)

-- THE theorem of demand 3: no past leaves a trace.
pub no_trace : {P : Params} {L₀ : List Entry} {ws : List ℕ} {cs : List Call} → Sequence P L₀ ws cs → NoTrace P L₀ ws cs
no_trace {P} q = record {
  follows = history q;
  same_words = λ q'. (words_say_set q q', set_says_words q q');
  same_later = λ {L₀'} {ws'} {cs'} q' e {t} a. rw (set_says_words q q' e) (alike_run t (words_left P ws' cs') a);
  full = λ cs₁ cs₂ l scratch counters key tier e h.
      full_insert (part cs₁ (Call.change (Insert tier) l scratch counters key ∷ cs₂) (rw e at q)) l scratch counters key tier h;
}
