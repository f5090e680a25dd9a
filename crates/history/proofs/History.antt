-- The laws of what specs/History.antt defines.
use Rattle.std.specs.Prelude.{ℕ, ◌≡◌, refl, true, length}
use mathlib.Core.List.Memᴰ.{head as here}
use mathlib.Core.List.Memᴰ.{tail as there}
use mathlib.Core.List.{List, [], ◌∷◌, map, Memᴰ as In}
use Rattle.hashing.specs.Hash.{tabulation_length}
use Rattle.layout.specs.Entries.{Entry, keys_of}
use Rattle.layout.specs.Layout.{Params, ValidSet, fits, image}
use Rattle.outcome.specs.Held.{Holds}
use Rattle.history.specs.Calls.{Call, Step, step, run, words_after, MayStand, Allowed, none, more, Sequence}
use Rattle.history.specs.Model.{request, requests, Reply, reply, model, set_after}
use Rattle.history.proofs.Starts.{start_holds}
use Rattle.history.specs.Agrees.{Agrees}
use Rattle.history.proofs.Changes.{change_agrees}
use Rattle.history.proofs.ReadsLaws.{lookup_agrees, check_agrees, view_agrees}
use Rattle.history.proofs.Others.{other_agrees}
use Rattle.history.specs.History.{Follows}

-- one call

-- On words that hold the model's set each call agrees with the model: one line for each kind of call, with its lemma.
step_agrees : {P : Params} {L : List Entry} {ws : List ℕ} → Holds P L ws → length P.tabulation ≡ tabulation_length
    → (c : Call) → MayStand ws c
    → Agrees P (step P.tabulation ws c) (reply P L (request c (step P.tabulation ws c).answer))
step_agrees h full_length (Call.change kind l scratch counters key) stand = change_agrees h full_length kind l scratch counters key
step_agrees h full_length (Call.lookup l key) stand = lookup_agrees h full_length l key
step_agrees h full_length (Call.check l scratch) stand = check_agrees h full_length l scratch
step_agrees h full_length Call.view stand = view_agrees h full_length
step_agrees h full_length (Call.other x) stand = other_agrees h x stand

-- whole sequences

follows : {P : Params} {L : List Entry} {ws : List ℕ} → Holds P L ws → length P.tabulation ≡ tabulation_length
    → {cs : List Call} → Allowed P.tabulation ws cs → Follows P L ws cs
unfolding run model requests set_after words_after
follows h full_length {cs = []} none =
    record { start = h.is.is; trace = refl; sets = λ m i. elim i [ ]; final = h }
follows {P = P} {L = L} {ws = ws} h full_length {cs = c ∷ cs} (more stand rest) =
    let a = step_agrees h full_length c stand in
    let f = follows {L = (reply P L (request c (step P.tabulation ws c).answer)).set} a.holds full_length rest in
    record {
      start = h.is.is;
      trace = λ i. record { answer = a.answer i; words = a.holds.is.is i } ∷ f.trace i;
      sets = λ m i. elim i [ here q ↦ rw q (a.holds.is.valid, a.holds.is.fit) | there j ↦ f.sets m j ];
      final = f.final;
    }

-- Every sequence of calls from an accepted init or bulk load on follows the model, which starts with the empty set, or
-- with the set that was loaded.
pub history : {P : Params} {L₀ : List Entry} {ws : List ℕ} {cs : List Call} → Sequence P L₀ ws cs → Follows P L₀ ws cs
history q = follows (start_holds q.start) q.full_length q.allowed
