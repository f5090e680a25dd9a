-- The theorem about whole sequences from which all of demand 3 follows (NoTrace.antt): for every sequence of calls the
-- answers are those of the reference model, and after every call the words are the canonical image of the model's set.
-- Assumes nothing.
use Rattle.std.specs.Prelude.{ℕ, ◌≡◌, refl, true, length}
use mathlib.Core.List.Memᴰ.{head as here}
use mathlib.Core.List.Memᴰ.{tail as there}
use mathlib.Core.List.{List, [], ◌∷◌, map, Memᴰ as In}
use Rattle.hashing.specs.Hash.{tabulation_length}
use Rattle.layout.specs.Entries.{Entry, keys_of}
use Rattle.layout.specs.Layout.{Params, ValidSet, fits, image}
use Rattle.outcome.specs.Held.{Holds}
use Rattle.history.specs.Calls.{Call, Step, step, run, words_after, MayStand, Allowed, none, more, Sequence}
use Rattle.history.specs.Model.{request, requests, Reply, reply, model, set_after}
use Rattle.history.specs.Agrees.{Agrees}

-- a reply of the model, its set as words
abbrev pub pictured : Params → Reply → Step
pictured P m = record { answer = m.answer; words = image P m.set }

-- What holds of a sequence that starts with the words ws of a dictionary that holds L.
pub record Follows (P : Params) (L : List Entry) (ws : List ℕ) (cs : List Call) : Type 0 where
  -- "With no call at all the words are the image";
  pub start : ws ≡ image P L
  -- each call answers what the model answers, and the words after it are the image of the model's set;
  pub trace : run P.tabulation ws cs ≡ map (pictured P) (model P L (requests P.tabulation ws cs))
  -- which is always a set, keys with tiers, that fits, so the image is canonical.
  pub sets : (m : Reply) → In m (model P L (requests P.tabulation ws cs)) → ValidSet m.set × (fits P (keys_of m.set) ≡ true)
  -- The same after the whole sequence.
  pub final : Holds P (set_after P L (requests P.tabulation ws cs)) (words_after P.tabulation ws cs)
