-- Sequences of calls on the words of one dictionary, as document 01 tells them ("The plain register"): which calls may
-- stand there, what they answer and leave, by the very definitions that the contracts cite, and which calls are like.
-- This file, Model.antt and the records of History.antt and NoTrace.antt are what a reader must believe.
use Rattle.std.specs.Prelude.{ℕ, ◌≡◌, List, [], ◌∷◌, length}
use Rattle.refusals.specs.Refusal.{done}
use Rattle.hashing.specs.Hash.{tabulation_length}
use Rattle.layout.specs.Entries.{Entry}
use Rattle.layout.specs.Layout.{Params, params_of}
use Rattle.layout.specs.Answers.{lookup_refusal, lookup_values, view_refusal, view_of, fresh_refusal, fresh_words}
use Rattle.outcome.specs.declared.Change.{Change}
use Rattle.counters.specs.declared.Counters.{Counters}
use Rattle.outcome.specs.Outcome.{change_outcome, check_outcome}
use Rattle.bulk.specs.Bulk.{input_set, bulk_outcome}
use Rattle.survivors.specs.Salvage.{survivors, salvage_outcome}

-- "One book of the right length goes through it; a call may lend one of a wrong length instead."
pub data Lent : Type 0 where
  own : Lent
  wrong : (tabulation : List ℕ) → (length tabulation ≡ tabulation_length → ⊥) → Lent

-- the tabulation that a call lends, where t is that of the sequence
abbrev pub lent_of : List ℕ → Lent → List ℕ
lent_of t own = t
lent_of t (wrong tabulation n) = tabulation

-- an answer: document 01's number, and values (a lookup's 1 and the tier, or 0; the words of a view; what a call of
-- another kind gives; otherwise none)
pub record Answer : Type 0 where
  pub number : ℕ
  pub values : List ℕ

-- A call of another kind on the words: its real outcome, an answer and the words, for all words. "Every refusal leaves
-- list and book unchanged."
pub record Other : Type 0 where
  pub answer : List ℕ → Answer
  pub words : List ℕ → List ℕ
  pub leaves : (ws : List ℕ) → ((answer ws).number ≡ done → ⊥) → words ws ≡ ws

-- A call with its arguments, the words aside. "Sheets have any length and content, the meter any counts."
pub data Call : Type 0 where
  change : (kind : Change) (tabulation : Lent) (scratch : List ℕ) (counters : Counters) (key : ℕ) → Call
  lookup : (tabulation : Lent) (key : ℕ) → Call
  check : (tabulation : Lent) (scratch : List ℕ) → Call
  view : Call
  other : Other → Call

-- what a call answers and leaves
pub record Step : Type 0 where
  pub answer : Answer
  pub words : List ℕ

-- One call on words ws. The counters are not looked at: "nothing else depends on it".
unfoldable pub step : List ℕ → List ℕ → Call → Step
step t ws (change kind l scratch counters key) =
    let o = change_outcome kind (lent_of t l) ws scratch key in
    record { answer = record { number = o.answer; values = [] }; words = o.words }
step t ws (lookup l key) =
    record { answer = record { number = lookup_refusal (lent_of t l) ws key; values = lookup_values (lent_of t l) ws key }; words = ws }
step t ws (check l scratch) =
    let o = check_outcome (lent_of t l) ws scratch in
    record { answer = record { number = o.answer; values = [] }; words = o.words }
step t ws view = record { answer = record { number = view_refusal ws; values = view_of ws }; words = ws }
step t ws (other x) = record { answer = x.answer ws; words = x.words ws }

-- "Each call gets all the words that the last one left": the answer of each call, and the words after it
unfoldable pub run : List ℕ → List ℕ → List Call → List Step
run t ws [] = []
run t ws (c ∷ cs) = let o = step t ws c in o ∷ run t o.words cs

-- the words after the whole sequence
unfoldable pub words_after : List ℕ → List ℕ → List Call → List ℕ
words_after t ws [] = ws
words_after t ws (c ∷ cs) = words_after t (step t ws c).words cs

-- Where a call of another kind may stand: on words that it leaves as they are.
pub data OtherStands (ws : List ℕ) (x : Other) : Type 0 where
  -- "any other call on it may stand there if it is refused", for then it leaves them (`leaves`);
  refused : ((x.answer ws).number ≡ done → ⊥) → OtherStands ws x
  -- and so may one that does not change them, above all an accepted one that only reads
  unchanged : x.words ws ≡ ws → OtherStands ws x

-- "any run .. of adds, withdrawals, look-ups, checks and views": of these five kinds nothing is asked.
abbrev pub MayStand : List ℕ → Call → Type 0
MayStand ws (change kind l scratch counters key) = Unit {0}
MayStand ws (lookup l key) = Unit {0}
MayStand ws (check l scratch) = Unit {0}
MayStand ws view = Unit {0}
MayStand ws (other x) = OtherStands ws x

-- whether a call may stand is asked on the words that it gets
pub data Allowed (t : List ℕ) : List ℕ → List Call → Type 0 where
  none : {ws : List ℕ} → Allowed t ws []
  more : {ws : List ℕ} {c : Call} {cs : List Call} → MayStand ws c → Allowed t (step t ws c).words cs → Allowed t ws (c ∷ cs)

-- How a sequence starts, and with which set: "It starts with the words of an accepted lay, whatever they were before",
-- which hold no key; or with those of an accepted bulk load (document 02, "Seven"), which hold its input; or with those
-- that an accepted salvage wrote (document 02, "Eight"), with the r, s and station of the damaged words: they hold the
-- survivors.
pub data Start (P : Params) (L : List Entry) (ws : List ℕ) : Type 0 where
  laid : (before : List ℕ) → fresh_refusal (length before) P.slots P.places P.station ≡ done
      → L ≡ [] → ws ≡ fresh_words before P.slots P.places P.station → Start P L ws
  loaded : (input before scratch : List ℕ) → (bulk_outcome P input before scratch).answer ≡ done
      → L ≡ input_set input → ws ≡ (bulk_outcome P input before scratch).words → Start P L ws
  salvaged : (damaged before scratch : List ℕ) → params_of P.tabulation damaged ≡ P
      → (salvage_outcome P.tabulation damaged before scratch).number ≡ done → L ≡ survivors P.tabulation damaged
      → ws ≡ (salvage_outcome P.tabulation damaged before scratch).target → Start P L ws

-- A sequence of demand 3, with the tabulation, r, s and station of P, that starts with words ws and the set L₀.
pub record Sequence (P : Params) (L₀ : List Entry) (ws : List ℕ) (cs : List Call) : Type 0 where
  pub full_length : length P.tabulation ≡ tabulation_length
  pub start : Start P L₀ ws
  pub allowed : Allowed P.tabulation ws cs

-- the words that the sequence leaves
abbrev pub words_left : Params → List ℕ → List Call → List ℕ
words_left P ws cs = words_after P.tabulation ws cs

-- What "any later call with like arguments" is. "Like arguments are equal ones, what the work sheet and the meter hold
-- aside." A call of another kind is like one with the same outcome: number, values and words.
pub data Like (t : List ℕ) : Call → Call → Type 0 where
  change : (kind : Change) {l l' : Lent} {scratch scratch' : List ℕ} (counters counters' : Counters) (key : ℕ)
      → lent_of t l ≡ lent_of t l' → length scratch ≡ length scratch'
      → Like t (Call.change kind l scratch counters key) (Call.change kind l' scratch' counters' key)
  lookup : {l l' : Lent} (key : ℕ) → lent_of t l ≡ lent_of t l' → Like t (Call.lookup l key) (Call.lookup l' key)
  check : {l l' : Lent} {scratch scratch' : List ℕ} → lent_of t l ≡ lent_of t l' → length scratch ≡ length scratch'
      → Like t (Call.check l scratch) (Call.check l' scratch')
  view : Like t Call.view Call.view
  other : (x x' : Other) → ((ws : List ℕ) → x.answer ws ≡ x'.answer ws) → ((ws : List ℕ) → x.words ws ≡ x'.words ws)
      → Like t (Call.other x) (Call.other x')

-- sequences of like calls
pub data Alike (t : List ℕ) : List Call → List Call → Type 0 where
  end : Alike t [] []
  then : {c c' : Call} {cs cs' : List Call} → Like t c c' → Alike t cs cs' → Alike t (c ∷ cs) (c' ∷ cs')
