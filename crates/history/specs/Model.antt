-- The reference model (document 01's 'plain register'): a set, keys with their tiers, in place of words. "It tries that call's refusals in their order, "the set"
-- being its own, and answers the first that applies; 2 and 4 never do."
use Rattle.std.specs.Prelude.{ℕ, Bool, not, cond, ◌&&◌, List, [], ◌∷◌, ◌++◌, eqb, ltb, length}
use Rattle.basics.specs.Sets.{member}
use Rattle.ordered.specs.Keys.{with_key}
use Rattle.refusals.specs.Refusal.{done, wrong_tabulation, short_scratch, blank_key, key_present, key_absent, stash_full, wrong_tier, other_tier, other_issue}
use Rattle.refusals.specs.Refusal.{first_refusal}
use Rattle.hashing.specs.Hash.{tabulation_length, blank}
use Rattle.layout.specs.Entries.{Entry, max_tier, keys_of, tier_of}
use Rattle.layout.specs.Layout.{Params, another_issue, stash_of, scratch_length, fits, place_words}
use Rattle.outcome.specs.declared.Change.{Change}
use Rattle.outcome.specs.declared.Change.TheVariants.{Insert, Remove}
use Rattle.history.specs.Calls.{Lent, lent_of, Call, Answer, step}

-- What the model is fed: "each call's kind and arguments, what the sheet and the meter hold aside"; so of the scratch
-- its length. For a call of another kind "the register is fed the refusal", and its answer where it is not refused.
pub data Request : Type 0 where
  change : (kind : Change) (tabulation : Lent) (scratch_size key : ℕ) → Request
  lookup : (tabulation : Lent) (key : ℕ) → Request
  check : (tabulation : Lent) (scratch_size : ℕ) → Request
  view : Request
  other : (met : Answer) → Request

-- a call that met the answer a, as it is fed: only of a call of another kind does it hold a
abbrev pub request : Call → Answer → Request
request (Call.change kind l scratch counters key) a = Request.change kind l (length scratch) key
request (Call.lookup l key) a = Request.lookup l key
request (Call.check l scratch) a = Request.check l (length scratch)
request Call.view a = Request.view
request (Call.other x) a = Request.other a

-- a sequence as it is fed: the answers of calls of another kind are those that they met
unfoldable pub requests : List ℕ → List ℕ → List Call → List Request
requests t ws [] = []
requests t ws (c ∷ cs) = let o = step t ws c in request c o.answer ∷ requests t o.words cs

-- what the model answers, and its set afterwards
pub record Reply : Type 0 where
  pub answer : Answer
  pub set : List Entry

-- "On 0 an add puts its card in", before the first that is larger,
abbrev pub put_in : Entry → List Entry → List Entry
put_in e [] = e ∷ []
put_in e (f ∷ L) = cond (ltb e.key f.key) (e ∷ f ∷ L) (f ∷ put_in e L)

-- "and a withdrawal takes its card out."
abbrev pub take_out : ℕ → List Entry → List Entry
take_out key [] = []
take_out key (f ∷ L) = cond (eqb key f.key) (take_out key L) (f ∷ take_out key L)

abbrev pub new_set : Change → ℕ → List Entry → List Entry
new_set (Insert tier) key L = put_in (record { key = key; tier = tier }) L
new_set Remove key L = take_out key L

-- It knows the sequence's tabulation, r, s and station: P.
module _ (P : Params) where
  abbrev pub wrong_length : Lent → Bool
  wrong_length l = not (eqb (length (lent_of P.tabulation l)) tabulation_length)

  abbrev pub too_short : ℕ → Bool
  too_short n = ltb n (scratch_length P.slots P.places)

  -- What is tried of an add before 8: "9 (tier above 7) after 5; 10 (add of a listed card with another tier) just before
  -- 6"; "13 (another issue is listed) just before 10",
  abbrev pub before_full : Lent → ℕ → ℕ → ℕ → List Entry → List (ℕ × Bool)
  before_full l n key tier L =
      (wrong_tabulation, wrong_length l)
      ∷ (short_scratch, too_short n)
      ∷ (blank_key, blank key)
      ∷ (wrong_tier, ltb max_tier tier)
      ∷ (other_issue, another_issue key (keys_of L))
      ∷ (other_tier, member key (keys_of L) && not (eqb (tier_of L key) tier))
      ∷ (key_present, member key (keys_of L))
      ∷ []

  -- and 8, the last
  abbrev pub full_test : ℕ → List Entry → List (ℕ × Bool)
  full_test key L = (stash_full, not (fits P (with_key key (keys_of L)))) ∷ []

  abbrev pub change_tests : Change → Lent → ℕ → ℕ → List Entry → List (ℕ × Bool)
  change_tests (Insert tier) l n key L = before_full l n key tier L ++ full_test key L
  change_tests Remove l n key L =
      (wrong_tabulation, wrong_length l)
      ∷ (short_scratch, too_short n)
      ∷ (blank_key, blank key)
      ∷ (key_absent, not (member key (keys_of L)))
      ∷ []

  abbrev pub lookup_tests : Lent → ℕ → List (ℕ × Bool)
  lookup_tests l key = (wrong_tabulation, wrong_length l) ∷ (blank_key, blank key) ∷ []

  abbrev pub check_tests : Lent → ℕ → List (ℕ × Bool)
  check_tests l n = (wrong_tabulation, wrong_length l) ∷ (short_scratch, too_short n) ∷ []

  -- "Where none applies it answers 0, look-up and view as below. .. Nothing else changes the set."
  unfoldable pub reply : List Entry → Request → Reply
  reply L (Request.change kind l n key) =
      let a = first_refusal (change_tests kind l n key L) in
      record { answer = record { number = a; values = [] }; set = cond (eqb a done) (new_set kind key L) L }
  -- "Look-up answers the tier or that the card isn't listed, in the plain register too": 1 and the tier, or 0.
  reply L (Request.lookup l key) =
      let a = first_refusal (lookup_tests l key) in
      let says = cond (member key (keys_of L)) (1 ∷ tier_of L key ∷ []) (0 ∷ []) in
      record { answer = record { number = a; values = cond (eqb a done) says [] }; set = L }
  reply L (Request.check l n) =
      record { answer = record { number = first_refusal (check_tests l n); values = [] }; set = L }
  -- "A view gives the words of the filled drawer places in the set's canonical image": "both words of each filled place".
  reply L Request.view =
      record { answer = record { number = done; values = place_words (tier_of L) (stash_of P (keys_of L)) }; set = L }
  -- "For a call of another kind nothing is tried: the register is fed the refusal, answers it, and the set stays." One
  -- that is accepted and leaves the words is treated alike: the register is fed its answer. What is fed is the answer
  -- that was met, so nothing is claimed of that answer here: only that the set stays.
  reply L (Request.other met) = record { answer = met; set = L }

  -- the answer to each request, and the set after it
  unfoldable pub model : List Entry → List Request → List Reply
  model L [] = []
  model L (q ∷ qs) = let o = reply L q in o ∷ model o.set qs

  -- the set after the whole sequence
  unfoldable pub set_after : List Entry → List Request → List Entry
  set_after L [] = L
  set_after L (q ∷ qs) = set_after (reply L q).set qs

-- the set with which the register ends that starts with the set L₀, fed the sequence cs of calls that starts with words
-- ws
abbrev pub set_left : Params → List Entry → List ℕ → List Call → List Entry
set_left P L₀ ws cs = set_after P L₀ (requests P.tabulation ws cs)
