-- Insert and remove in a sequence: on words that hold the model's set they agree with the model, and like ones answer
-- and leave the same. Assumes nothing.
use Rattle.std.specs.Prelude.{ℕ, ◌<◌, ◌≡◌, cond, eqb, length}
use Rattle.std.proofs.Math.Path.{refl}
use Rattle.std.proofs.Common.{sym, ◌∙◌, ap, true≢false, arith}
use Rattle.std.proofs.Math.Logic.{inl, inr}
use mathlib.Core.List.Memᴰ.{head as here}
use mathlib.Core.List.Memᴰ.{tail as there}
use mathlib.Core.List.{List, [], ◌∷◌, Memᴰ as In}
use borrow.Author.Tests.{eq-eqb, ne_eqb, lt-ltb, le-ltb}
use Rattle.std.proofs.Math.Dec.{ltb}
use Rattle.basics.specs.Tests.{test}
use Rattle.basics.proofs.Tests.{eq?, le?}
use Rattle.basics.specs.Sets.{Asc, some, keep, without, below}
use Rattle.basics.proofs.Sets.{in_member, asc_out, out_ne}
use Rattle.basics.proofs.Lists.{keep_all, keep_none}
use Rattle.ordered.specs.Keys.{with_key, above}
use Rattle.ordered.proofs.Place.{asc_with}
use Rattle.refusals.specs.Refusal.{done, wrong_tabulation, short_scratch, blank_key, first_refusal, and}
use Rattle.refusals.proofs.Refusals.{front_none}
use Rattle.hashing.specs.Hash.{tabulation_length, blank}
use Rattle.layout.specs.Entries.{Entry, keys_of, tier_of, tiered}
use Rattle.layout.proofs.Entries.{tiered_agree, tiered_self}
use Rattle.layout.specs.Layout.{Params}
use Rattle.outcome.specs.declared.Change.{Change}
use Rattle.outcome.specs.declared.Change.TheVariants.{Insert, Remove}
use Rattle.counters.specs.declared.Counters.{Counters}
use Rattle.outcome.specs.Outcome.{changed, set_refusals, change_outcome}
use Rattle.outcome.proofs.Laws.{change_answer, change_refused, change_tabulation, change_any_scratch}
use Rattle.outcome.specs.Held.{Holds}
use Rattle.outcome.proofs.Held.{held_refusal}
use Rattle.outcome.proofs.HeldAfter.{held_changed}
use Rattle.history.specs.Calls.{Lent, own, wrong, lent_of, Call, step}
use Rattle.history.specs.Model.{Request, put_in, take_out, new_set, wrong_length, too_short, change_tests, reply}
use Rattle.history.specs.Agrees.{Agrees}
use Rattle.history.proofs.Agrees.{own_lent, wrong_lent}

-- The model's plain changes of its set, on a list whose keys ascend, give the set of the outcome, its keys with their
-- tiers: two such lists are equal if their keys are, and the tier of each.
by_tiers : (M : List Entry) {t : ℕ → ℕ} {S : List ℕ} → Asc (keys_of M) → S ≡ keys_of M
    → ((c : ℕ) → In c (keys_of M) → t c ≡ tier_of M c) → tiered t S ≡ M
by_tiers M {t} a e f = ap (tiered t) e ∙ (tiered_agree (keys_of M) f ∙ tiered_self M a)

module _ (e : Entry) where
  pub put_in_keys : (L : List Entry) → Asc (keys_of L) → (In e.key (keys_of L) → ⊥)
      → keys_of (put_in e L) ≡ with_key e.key (keys_of L)
  unfolding with_key below above
  put_in_keys [] a n = refl
  put_in_keys (f ∷ L) (some h a) n = elim (le? f.key e.key) [
    | inr l ↦
        let low : keep (λ d. ltb d e.key) (keys_of L) ≡ [] = keep_none (λ d. ltb d e.key) (keys_of L)
        (λ d i. le-ltb d e.key (omega (arith, h d i))) in
        let high : keep (λ d. ltb e.key d) (keys_of L) ≡ keys_of L = keep_all (λ d. ltb e.key d) (keys_of L)
        (λ d i. lt-ltb e.key d (omega (arith, h d i))) in
        rw (lt-ltb e.key f.key l, le-ltb f.key e.key (omega arith), low, high)
    | inl l ↦
        let other : e.key ≡ f.key → ⊥ = λ q. n (here q) in
        let m : f.key < e.key = omega (arith, other) in
        rw (le-ltb e.key f.key l, lt-ltb f.key e.key m) (ap (λ (R : List ℕ). f.key ∷ R) (put_in_keys L a (λ i. n (there i))))
  ]

  put_in_tier : (L : List Entry) → (In e.key (keys_of L) → ⊥) → (c : ℕ)
      → cond (eqb c e.key) e.tier (tier_of L c) ≡ tier_of (put_in e L) c
  put_in_tier [] n c = refl
  put_in_tier (f ∷ L) n c = elim (test (ltb e.key f.key)) [
    | inl l ↦ rw l
    | inr l ↦ elim (eq? c e.key) [
      | inl q ↦
          rw (l, eq-eqb c e.key q, ne_eqb c f.key (λ z. n (here (sym q ∙ z))))
          (rw (eq-eqb c e.key q) at (put_in_tier L (λ i. n (there i)) c))
      | inr m ↦ rw (l, ne_eqb c e.key m) (ap (cond (eqb c f.key) f.tier) (rw (ne_eqb c e.key m) at (put_in_tier L (λ i. n (there i)) c)))
    ]
  ]

put_in_changed : (tier key : ℕ) (L : List Entry) → Asc (keys_of L) → (In key (keys_of L) → ⊥)
    → changed (Insert tier) key L ≡ put_in (record { key = key; tier = tier }) L
put_in_changed tier key L a n =
    let e : Entry = record { key = key; tier = tier } in
    let k = put_in_keys e L a n in
    by_tiers (put_in e L) (rw k (asc_with key a)) (sym k) (λ c i. put_in_tier e L n c)

module _ (key : ℕ) where
  take_out_keys : (L : List Entry) → keys_of (take_out key L) ≡ without key (keys_of L)
  unfolding without
  take_out_keys [] = refl
  take_out_keys (f ∷ L) = elim (test (eqb key f.key)) [
    | inl t ↦ rw t (take_out_keys L)
    | inr t ↦ rw t (ap (λ (R : List ℕ). f.key ∷ R) (take_out_keys L))
  ]

  take_out_tier : (L : List Entry) (c : ℕ) → (key ≡ c → ⊥) → tier_of L c ≡ tier_of (take_out key L) c
  take_out_tier [] c n = refl
  take_out_tier (f ∷ L) c n = elim (eq? key f.key) [
    | inl q ↦ rw (eq-eqb key f.key q, ne_eqb c f.key (λ z. n (q ∙ sym z))) (take_out_tier L c n)
    | inr m ↦ rw (ne_eqb key f.key m) (ap (cond (eqb c f.key) f.tier) (take_out_tier L c n))
  ]

  take_out_changed : (L : List Entry) → Asc (keys_of L) → changed Remove key L ≡ take_out key L
  take_out_changed L a =
      let k = take_out_keys L in
      by_tiers (take_out key L) (rw k (asc_out key a)) (sym k) (λ c i. take_out_tier L c (out_ne key (keys_of L) (rw k at i)))

module _ {P : Params} {L : List Entry} {ws : List ℕ} (h : Holds P L ws) (full_length : length P.tabulation ≡ tabulation_length) where
  abbrev t : List ℕ
  t = P.tabulation

  -- the model's tests of a change are those of the outcome, with L as "the set", but for 2 and 4
  tests_are : (kind : Change) (l : Lent) (n key : ℕ)
      → first_refusal (change_tests P kind l n key L)
      ≡ first_refusal
      ((wrong_tabulation, wrong_length P l)
      ∷ (short_scratch, too_short P n)
      ∷ (blank_key, blank key)
      ∷ set_refusals kind P key L)
  tests_are (Insert tier) l n key = refl
  tests_are Remove l n key = refl

  -- a change answers what the model answers
  pub change_number : (kind : Change) (l : Lent) (scratch : List ℕ) (key : ℕ)
      → (change_outcome kind (lent_of t l) ws scratch key).answer
      ≡ first_refusal (change_tests P kind l (length scratch) key L)
  change_number kind own scratch key =
      change_answer t ws scratch kind key
      ∙ (held_refusal h full_length kind scratch key
      ∙ (rw (tests_are kind own (length scratch) key, own_lent P full_length)))
  change_number kind (wrong u n) scratch key =
      change_tabulation u ws scratch kind key n
      ∙ (rw (tests_are kind (wrong u n) (length scratch) key, wrong_lent P u n))

  -- accepted, the model's new set is that of the outcome: an insert that is accepted is of a new key
  new_is : (kind : Change) (n key : ℕ) → first_refusal (change_tests P kind own n key L) ≡ done
      → changed kind key L ≡ new_set kind key L
  new_is (Insert tier) n key e =
      elim (front_none (change_tests P (Insert tier) own n key L) [] e refl) [
        | and a (and b (and c (and d (and i (and o (and m f)))))) ↦
            put_in_changed tier key L h.is.valid.keys.asc (λ i. true≢false (sym (in_member i) ∙ m))
      ]
  new_is Remove n key e = take_out_changed key L h.is.valid.keys.asc

  -- and the words that it leaves hold it
  new_holds : (kind : Change) (l : Lent) (scratch : List ℕ) (key : ℕ)
      → (change_outcome kind (lent_of t l) ws scratch key).answer ≡ done
      → Holds P (new_set kind key L) (change_outcome kind (lent_of t l) ws scratch key).words
  new_holds kind own scratch key e =
      rw (new_is kind (length scratch) key (sym (change_number kind own scratch key) ∙ e)) at (held_changed h kind scratch key e)
  new_holds kind (wrong u n) scratch key e = absurd (omega (arith, change_tabulation u ws scratch kind key n))

  -- and refused, the words stay, and so does the model's set
  change_holds : (kind : Change) (l : Lent) (scratch : List ℕ) (key : ℕ)
      → Holds P
      (cond (eqb (first_refusal (change_tests P kind l (length scratch) key L)) done) (new_set kind key L) L)
      (change_outcome kind (lent_of t l) ws scratch key).words
  change_holds kind l scratch key =
      let a = first_refusal (change_tests P kind l (length scratch) key L) in
      let e = change_number kind l scratch key in
      elim (eq? a done) [
        | inl z ↦ rw (eq-eqb a done z) (new_holds kind l scratch key (e ∙ z))
        | inr n ↦ rw (ne_eqb a done n, change_refused (lent_of t l) ws scratch kind key (λ z. n (sym e ∙ z))) h
      ]

  pub change_agrees : (kind : Change) (l : Lent) (scratch : List ℕ) (counters : Counters) (key : ℕ)
      → Agrees P
      (step t ws (Call.change kind l scratch counters key))
      (reply P L (Request.change kind l (length scratch) key))
  unfolding step reply
  change_agrees kind l scratch counters key =
      record { answer = rw (change_number kind l scratch key); holds = change_holds kind l scratch key }

-- "Like arguments are equal ones, what the work sheet and the meter hold aside."
pub change_like : (t ws : List ℕ) (kind : Change) (l l' : Lent) (scratch scratch' : List ℕ)
    (counters counters' : Counters) (key : ℕ) → lent_of t l ≡ lent_of t l' → length scratch ≡ length scratch'
    → step t ws (Call.change kind l scratch counters key) ≡ step t ws (Call.change kind l' scratch' counters' key)
unfolding step
change_like t ws kind l l' scratch scratch' counters counters' key e f =
    rw (e, change_any_scratch (lent_of t l') ws scratch scratch' f kind key)
