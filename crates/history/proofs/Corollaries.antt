-- What else follows from the theorem about whole sequences: the answers alone; which runs are sequences; a lookup tells
-- the set; another issue of a key excludes the key; a refused call of another kind leaves words and set; a removal undoes
-- an insert; what a trail answers, and a salvage; a sequence may start where another has ended; stations stay apart.
-- Assumes nothing.
use Rattle.std.specs.Prelude.{ℕ, ◌-◌, ◌≤◌, ◌≡◌, refl, true, false, not, ◌↔◌, ltb, length, replicate}
use Rattle.std.proofs.Common.{sym, ◌∙◌, ap, arith, eq-eqb}
use mathlib.Core.List.Memᴰ.{head as here}
use mathlib.Core.List.Memᴰ.{tail as there}
use mathlib.Core.List.{List, [], ◌∷◌, ◌++◌, map, map-map, Memᴰ as In}
use Rattle.basics.specs.Sets.{member, Asc}
use Rattle.refusals.specs.Refusal.{done, short_scratch, blank_key, key_absent, short_trail, first_refusal}
use Rattle.hashing.specs.Hash.{first_part, blank}
use Rattle.layout.specs.Entries.{Entry, keys_of}
use Rattle.layout.specs.Layout.{Params, another_issue, station_of, scratch_length}
use Rattle.layout.proofs.Image.{image_station}
use Rattle.layout.proofs.Canonical.{image_of_keys}
use Rattle.layout.specs.Answers.{looked_up}
use Rattle.layout.proofs.Look.{looked_entry, looked_none}
use Rattle.outcome.specs.declared.Change.TheVariants.{Insert, Remove}
use Rattle.counters.specs.declared.Counters.{Counters}
use Rattle.outcome.proofs.Laws.{change_tabulation}
use Rattle.outcome.specs.Trail.{trail_of, trail_outcome}
use Rattle.outcome.proofs.TrailLaws.{trail_done, held_asked, held_trail}
use Rattle.survivors.specs.Salvage.{salvage_outcome}
use Rattle.survivors.proofs.LawsAfter.{untampered_number, untampered_target, untampered_values}
use Rattle.outcome.proofs.Held.{issue_absent, held_some}
use Rattle.outcome.proofs.HeldAfter.{held_undone, insert_kept, held_reissued}
use Rattle.history.specs.Calls.{Lent, own, wrong, lent_of, Other, Call, Answer, Step, step, run, words_left}
use Rattle.history.specs.Calls.{MayStand, Allowed, none, more, Sequence}
use Rattle.history.specs.Model.{Request, request, requests, Reply, lookup_tests, reply, model, set_left}
use Rattle.history.proofs.ReadsLaws.{lookup_number, lookup_value}
use Rattle.history.proofs.Starts.{holds_start}
use Rattle.history.specs.History.{pictured}
use Rattle.history.proofs.History.{history}

-- the answers alone
pub same_answers : {P : Params} {L₀ : List Entry} {ws : List ℕ} {cs : List Call} → Sequence P L₀ ws cs
    → map (λ (o : Step). o.answer) (run P.tabulation ws cs)
    ≡ map (λ (m : Reply). m.answer) (model P L₀ (requests P.tabulation ws cs))
same_answers {P} {L₀} {ws} {cs} q =
    ap (map (λ (o : Step). o.answer)) (history q).trace
    ∙ map-map (λ (o : Step). o.answer) (pictured P) (model P L₀ (requests P.tabulation ws cs))

-- What the next two laws need of a call of one of the five kinds: nothing is asked of the words where it stands, and
-- nothing that it answered is fed to the model. One line for each kind of call.
record KnownKind (c : Call) : Type 0 where
  stands : (ws : List ℕ) → MayStand ws c
  fed : (a a' : Answer) → request c a ≡ request c a'

known : (c : Call) → ((x : Other) → Call.other x ≡ c → ⊥) → KnownKind c
known (Call.change kind l scratch counters key) n = record { stands = λ ws. tt; fed = λ a a'. refl }
known (Call.lookup l key) n = record { stands = λ ws. tt; fed = λ a a'. refl }
known (Call.check l scratch) n = record { stands = λ ws. tt; fed = λ a a'. refl }
known Call.view n = record { stands = λ ws. tt; fed = λ a a'. refl }
known (Call.other x) n = absurd (n x refl)

-- Any run of the five kinds of calls is a sequence, refused ones included: only calls of another kind are asked about.
pub any_run : (t ws : List ℕ) (cs : List Call) → ((x : Other) → In (Call.other x) cs → ⊥) → Allowed t ws cs
any_run t ws [] n = none
any_run t ws (c ∷ cs) n =
    more ((known c (λ x e. n x (here e))).stands ws) (any_run t (step t ws c).words cs (λ x i. n x (there i)))

-- "of the list it knows only what lay was given": what the model is fed of the five kinds of calls does not depend on
-- the words, nor on what was answered (a may be any answer).
pub fed_alike : (t ws : List ℕ) (cs : List Call) (a : Answer) → ((x : Other) → In (Call.other x) cs → ⊥)
    → requests t ws cs ≡ map (λ c. request c a) cs
unfolding requests
fed_alike t ws [] a n = refl
fed_alike t ws (c ∷ cs) a n =
    let o = step t ws c in
    rw ((known c (λ x e. n x (here e))).fed o.answer a, fed_alike t o.words cs a (λ x i. n x (there i)))

-- the next call of a sequence

module _ {P : Params} {L₀ : List Entry} {ws : List ℕ} {cs : List Call} (q : Sequence P L₀ ws cs) where
  abbrev t : List ℕ
  t = P.tabulation

  abbrev L : List Entry
  L = set_left P L₀ ws cs

  abbrev W : List ℕ
  W = words_left P ws cs

  asc : Asc (keys_of L)
  asc = (history q).final.is.valid.keys.asc

  -- A lookup that is not refused says the tier of a key of the set, and of another that it is not listed.
  pub lookup_says : (l : Lent) (key : ℕ) → (step t W (Call.lookup l key)).answer.number ≡ done
      → (step t W (Call.lookup l key)).answer.values ≡ looked_up L key
  unfolding step
  lookup_says l key e =
      let f = (history q).final in
      lookup_value f q.full_length l key
      ∙ (rw (eq-eqb (first_refusal (lookup_tests P l key)) done (sym (lookup_number f q.full_length l key) ∙ e)))

  pub lookup_listed : (l : Lent) (key tier : ℕ) → (step t W (Call.lookup l key)).answer.number ≡ done
      → ((step t W (Call.lookup l key)).answer.values ≡ 1 ∷ tier ∷ []) ↔ In (record { key = key; tier = tier }) L
  lookup_listed l key tier e = (
    λ v. (looked_entry L asc key tier).0 (sym (lookup_says l key e) ∙ v),
    λ i. lookup_says l key e ∙ (looked_entry L asc key tier).1 i,
  )

  pub lookup_absent : (l : Lent) (key : ℕ) → (step t W (Call.lookup l key)).answer.number ≡ done
      → ((step t W (Call.lookup l key)).answer.values ≡ 0 ∷ []) ↔ (In key (keys_of L) → ⊥)
  lookup_absent l key e = (
    λ v. (looked_none L key).0 (sym (lookup_says l key e) ∙ v),
    λ n. lookup_says l key e ∙ (looked_none L key).1 n,
  )

  -- Document 01's case of a call of another kind, a refused one: "the register is fed the refusal, answers it, and the
  -- set stays." So do the words.
  pub refused_next : (x : Other) → ((x.answer W).number ≡ done → ⊥)
      → (reply P L (Request.other (x.answer W)) ≡ record { answer = (step t W (Call.other x)).answer; set = L })
      × ((step t W (Call.other x)).words ≡ W)
  unfolding step reply
  refused_next x n = (refl, x.leaves W n)

  -- An insert of a key of the set, with whatever tier, leaves the words, and so the tier.
  pub tier_stays : (l : Lent) (scratch : List ℕ) (counters : Counters) (key tier : ℕ) → In key (keys_of L)
      → (step t W (Call.change (Insert tier) l scratch counters key)).words ≡ W
  unfolding step
  tier_stays l scratch counters key tier i =
      let h = (history q).final in
      insert_kept (lent_of t l) W scratch tier key (rw (image_of_keys h.is (held_some h)) i)

  -- A removal straight after the accepted insert of the same key, with the sequence's tabulation and a long enough scratch, is accepted and brings
  -- back every word.
  pub undone : (l : Lent) (scratch scratch' : List ℕ) (counters counters' : Counters) (key tier : ℕ)
      → (step t W (Call.change (Insert tier) l scratch counters key)).answer.number ≡ done
      → scratch_length P.slots P.places ≤ length scratch'
      → ((step t (step t W (Call.change (Insert tier) l scratch counters key)).words (Call.change Remove own scratch' counters' key)).answer.number ≡ done)
      × ((step t (step t W (Call.change (Insert tier) l scratch counters key)).words (Call.change Remove own scratch' counters' key)).words ≡ W)
  unfolding step
  undone own scratch scratch' counters counters' key tier e room = held_undone (history q).final q.full_length scratch scratch' tier key e room
  undone (wrong u n) scratch scratch' counters counters' key tier e room = absurd (omega (arith, change_tabulation u W scratch (Insert tier) key n))

  -- "A reissued card is the same card": after a removal of a key of the set an insert of another issue of it, with whatever tier, is accepted: never 8. Both
  -- calls are lent the sequence's tabulation and a long enough scratch.
  pub reissue : (scratch scratch' : List ℕ) (counters counters' : Counters) {old : ℕ} (key tier : ℕ) → In old (keys_of L) → first_part key ≡ first_part old
      → tier ≤ 7 → scratch_length P.slots P.places ≤ length scratch → scratch_length P.slots P.places ≤ length scratch'
      → (step t (step t W (Call.change Remove own scratch counters old)).words (Call.change (Insert tier) own scratch' counters' key)).answer.number ≡ done
  unfolding step
  reissue scratch scratch' counters counters' key tier i e small room room' =
      held_reissued (history q).final q.full_length key tier i e small scratch scratch' room room'

-- "13 (another issue is listed) .. never together with 10 or 6": where the register's set has another issue of a key, it does not have the key.
pub issue_excludes : {P : Params} {L₀ : List Entry} {ws : List ℕ} {cs : List Call} → Sequence P L₀ ws cs → (key : ℕ)
    → another_issue key (keys_of (set_left P L₀ ws cs)) ≡ true → member key (keys_of (set_left P L₀ ws cs)) ≡ false
issue_excludes q key a = issue_absent (history q).final key a

-- What a trail answers at the end of a sequence: it tries its refusals as the register would, "the set" being the register's, and shows the trail of that set. So
-- two sequences that end in one set show the same trails.
module _ {P : Params} {L₀ : List Entry} {ws : List ℕ} {cs : List Call} (q : Sequence P L₀ ws cs) (key : ℕ) where
  pub trail_number : (scratch sheet : List ℕ)
      → (trail_outcome P.tabulation (words_left P ws cs) scratch key sheet).number
      ≡ first_refusal
      ((short_scratch, ltb (length scratch) (scratch_length P.slots P.places)) ∷ (blank_key, blank key)
      ∷ (key_absent, not (member key (keys_of (set_left P L₀ ws cs))))
      ∷ (short_trail, ltb (length sheet) (length (trail_of P (keys_of (set_left P L₀ ws cs)) key))) ∷ [])
  unfolding trail_outcome
  trail_number scratch sheet = held_trail (history q).final key q.full_length scratch (length sheet)

  pub trail_shown : (scratch sheet : List ℕ) → (trail_outcome P.tabulation (words_left P ws cs) scratch key sheet).number ≡ done
      → let L = trail_of P (keys_of (set_left P L₀ ws cs)) key in
      (trail_outcome P.tabulation (words_left P ws cs) scratch key sheet).trail ≡ L ++ replicate (length sheet - length L) 0
  trail_shown scratch sheet e =
      (trail_done P.tabulation (words_left P ws cs) scratch key sheet e).1
      ∙ ap (λ (L : List ℕ). L ++ replicate (length sheet - length L) 0) (held_asked (history q).final key)

-- starts

-- What a salvage of the words answers at the end of a sequence, with a target of their length and scratch that is long
-- enough: none is lost, and the target gets the very words.
module _ {P : Params} {L₀ : List Entry} {ws : List ℕ} {cs : List Call} (q : Sequence P L₀ ws cs)
    (target scratch : List ℕ)
    (size : length target ≡ length (words_left P ws cs))
    (room : scratch_length P.slots P.places ≤ length scratch) where
  pub nothing_lost :
      let o = salvage_outcome P.tabulation (words_left P ws cs) target scratch in
      (o.number ≡ done) × (o.values ≡ 0 ∷ []) × (o.target ≡ words_left P ws cs)
  nothing_lost =
      let h = (history q).final in (
        untampered_number h q.full_length target scratch size room,
        untampered_values h q.full_length target scratch size room,
        untampered_target h q.full_length target scratch size room,
      )

-- A sequence may start where another has ended: with the words that it left, and with its set.
pub goes_on : {P : Params} {L₀ : List Entry} {ws : List ℕ} {cs ds : List Call} → Sequence P L₀ ws cs
    → Allowed P.tabulation (words_left P ws cs) ds → Sequence P (set_left P L₀ ws cs) (words_left P ws cs) ds
goes_on q more-calls = record {
  full_length = q.full_length;
  start = holds_start (history q).final q.full_length;
  allowed = more-calls;
}

-- stations

-- No call changes the station number: word 4 stays what init or bulk load was given,
pub station_stays : {P : Params} {L₀ : List Entry} {ws : List ℕ} {cs : List Call} → Sequence P L₀ ws cs
    → station_of (words_left P ws cs) ≡ P.station
station_stays {P} {L₀} {ws} {cs} q = ap station_of (history q).final.is.is ∙ image_station P (set_left P L₀ ws cs)

-- and lists of two stations never have the same words: "Identical words are now promised for lists of one station number."
pub stations_apart : {P P' : Params} {L₀ L₀' : List Entry} {ws ws' : List ℕ} {cs cs' : List Call}
    → Sequence P L₀ ws cs → Sequence P' L₀' ws' cs' → (P.station ≡ P'.station → ⊥)
    → words_left P ws cs ≡ words_left P' ws' cs' → ⊥
stations_apart q q' n e = n (sym (station_stays q) ∙ ap station_of e ∙ station_stays q')
