-- The laws of what specs/Demands.antt defines.
use Rattle.std.specs.Prelude.{ℕ, ◌≡◌, refl, ◌↔◌, length, replicate}
use Rattle.std.proofs.Common.{inl, ne_eqb}
use mathlib.Core.List.{List, [], ◌∷◌, Memᴰ as In}
use Rattle.refusals.specs.Refusal.{done}
use Rattle.layout.specs.Entries.{Entry}
use Rattle.layout.specs.Layout.{params_of, set_in}
use Rattle.layout.specs.Canonical.{ImageOf}
use Rattle.layout.proofs.Canonical.{canonical_true}
use Rattle.layout.specs.Answers.{lookup_values, fresh_refusal, fresh_words}
use Rattle.layout.proofs.Answers.{fresh_answer_in}
use Rattle.outcome.specs.declared.Change.{Change}
use Rattle.outcome.specs.Outcome.{Outcome, changed, change_outcome, check_outcome}
use Rattle.outcome.specs.Laws.{change_answers, check_answers}
use Rattle.outcome.proofs.Laws.{change_answer_in, check_answer_in, change_passed, change_refused, change_scratch, check_words, check_scratch}
use Rattle.outcome.proofs.HeldAfter.{change_accepted, change_lookup}
use Rattle.outcome.specs.Demands.{Harmless, Renewed}

-- The laws: every call is harmless, and an accepted change renews the words.
pub change_harmless : (kind : Change) (tabulation ws scratch : List ℕ) (key : ℕ)
    → Harmless (change_answers kind) ws scratch (change_outcome kind tabulation ws scratch key)
change_harmless kind tabulation ws scratch key = record {
  numbered = change_answer_in kind tabulation ws scratch key;
  unchanged = change_refused tabulation ws scratch kind key;
  cleared = change_scratch tabulation ws scratch kind key;
}

pub check_harmless : (tabulation ws scratch : List ℕ) → Harmless check_answers ws scratch (check_outcome tabulation ws scratch)
check_harmless tabulation ws scratch = record {
  numbered = check_answer_in tabulation ws scratch;
  unchanged = λ n. check_words tabulation ws scratch;
  cleared = check_scratch tabulation ws scratch;
}

-- init borrows no scratch; as an outcome with an empty one
pub init_harmless : (ws : List ℕ) (r s station : ℕ)
    → Harmless (0 ∷ 2 ∷ []) ws [] (record { answer = fresh_refusal (length ws) r s station; words = fresh_words ws r s station; scratch = [] })
unfolding fresh_words
init_harmless ws r s station = record {
  numbered = fresh_answer_in (length ws) r s station;
  unchanged = λ n. rw (ne_eqb (fresh_refusal (length ws) r s station) done n);
  cleared = refl;
}

pub change_renewed : (kind : Change) (tabulation ws scratch : List ℕ) (key : ℕ) → (change_outcome kind tabulation ws scratch key).answer ≡ done
    → Renewed tabulation ws (changed kind key (set_in tabulation ws)) (change_outcome kind tabulation ws scratch key).words
change_renewed kind tabulation ws scratch key e = record {
  was = canonical_true tabulation ws (change_passed tabulation ws scratch kind key (inl e)).1;
  image = (change_accepted kind tabulation ws scratch key e).is;
  looked = change_lookup kind tabulation ws scratch key e;
}
