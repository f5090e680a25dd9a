-- The steps of insert and remove as definitions: what a set that was loaded leads to. The contracts of the inner
-- functions cite them, and the laws at the
-- end put them together with load and commit to the outcomes. Assumes nothing.
use Rattle.std.specs.Prelude.{ℕ, ◌+◌, ◌*◌, ◌-◌, ◌≤◌, ◌<◌, ◌≡◌, refl, Bool, true, false, not, cond, eqb, ltb, length, get_or, Result, Ok, Err}
use Rattle.std.proofs.Math.Path.{sym}
use Rattle.std.proofs.Common.{◌∙◌, ap, true≢false, arith, eq-eqb, ne_eqb, lt-ltb, le-ltb, get_or-take}
use mathlib.Core.List.{List, ◌∷◌, Memᴰ as In}
use Rattle.basics.specs.Sets.{member, without, Asc}
use Rattle.basics.proofs.Sets.{member_in, in_member, out_in}
use Rattle.ordered.proofs.Place.{bound_le, bound_found, length_with, length_without}
use Rattle.ordered.specs.Keys.{lower_bound, with_key}
use Rattle.refusals.specs.Refusal.{done, blank_key, key_present, key_absent, stash_full, wrong_tier, other_tier}
use Rattle.refusals.proofs.Refusals.{last_turned}
use Rattle.refusals.specs.Refusal.{other_issue, first_refusal}
use Rattle.hashing.specs.Hash.{Hashing, blank, tables}
use Rattle.layout.specs.declared.Header.{Header}
use Rattle.layout.specs.Entries.{max_tier, keys_of, tier_of, tiered}
use Rattle.layout.specs.Layout.{Params, ValidKeys, another_issue, header_of, with_keys, params_of, params_with, fits}
use Rattle.layout.specs.Layout.{image, keys_in, set_in}
use Rattle.layout.proofs.Canonical.{canonical_true}
use Rattle.layout.proofs.Shape.{same_header}
use Rattle.layout.proofs.Standing.{keys_in_valid}
use Rattle.layout.proofs.IssuesAfter.{listed_alone}
use Rattle.layout.proofs.Fitting.{without_fits}
use Rattle.build.specs.Scratch.{used}
use Rattle.outcome.specs.declared.Change.{Change}
use Rattle.outcome.specs.declared.Change.TheVariants.{Insert, Remove}
use Rattle.outcome.specs.Outcome.{keys_changed, tier_changed, changed, set_refusals, change_refusal, change_outcome}
use Rattle.outcome.specs.Laws.{later_refusals}
use Rattle.outcome.proofs.Laws.{change_refused}
use Rattle.outcome.proofs.Held.{one_too_many, changed_keys, keys_changed_valid}
use Rattle.scratch_set.specs.Edges.{edge_with, Lined, lined_buildable}
use Rattle.scratch_set.specs.Members.{keys_at, KeyPlaced, tier_placed, put_at, taken_out, lined_agree, lined_tier}
use Rattle.scratch_set.specs.Members.{lined_put, lined_taken}
use Rattle.refusals.specs.declared.Refusal.{Refusal}
use Rattle.refusals.specs.Answer.{number_of}
use Rattle.gateway.specs.Loading.{LoadedSet, LoadTold, loaded_refused, refused_first, loaded_passes}
use Rattle.gateway.specs.LoadedSet.{loaded_shape, set_keys, set_tier, loaded_issues, loaded_count, loaded_few}
use Rattle.gateway.specs.LoadedSet.{loaded_room, loaded_range, loaded_keys, loaded_searchable}
use Rattle.gateway.specs.Committing.{new_answer, new_words, Committable, Committed}

-- The set of the words was loaded, h is their heading and n their number of keys, and the key is not blank.
pub record Settable (tabulation ws scratch : List ℕ) (h : Header) (n key : ℕ) : Type 0 where
  pub loaded : LoadedSet tabulation ws scratch
  pub heading : h ≡ header_of ws
  pub count : n ≡ h.keys
  pub not_blank : blank key ≡ false

-- An answer and words are what these refusals lead to: the first that applies, and the words stay; or the image of the
-- changed set.
abbrev pub Resolved : List (ℕ × Bool) → Change → List ℕ → List ℕ → ℕ → (ℕ → List ℕ → Type 0)
Resolved rs kind tabulation ws key n us =
    (n ≡ first_refusal rs)
    × (us ≡ cond (eqb (first_refusal rs) done)
    (image (params_of tabulation ws) (changed kind key (set_in tabulation ws))) ws)

-- what the set leads to, and with 5 before it what a set that was loaded leads to
abbrev pub Decided : Change → List ℕ → List ℕ → ℕ → (ℕ → List ℕ → Type 0)
Decided kind tabulation ws key =
    Resolved (set_refusals kind (params_of tabulation ws) key (set_in tabulation ws)) kind tabulation ws key

abbrev pub AfterLoad : Change → List ℕ → List ℕ → ℕ → (ℕ → List ℕ → Type 0)
AfterLoad kind tabulation ws key = Resolved (later_refusals kind tabulation ws key) kind tabulation ws key

-- The laws. The words stay where the set does not fit, which is 8.
words_turned : (f : Bool) (us ws : List ℕ) → cond f us ws ≡ cond (eqb (cond (not f) stash_full done) done) us ws
words_turned true us ws = refl
words_turned false us ws = refl

-- word 0 is 0
front_zero : {P : Params} {t : ℕ → ℕ} {S scratch : List ℕ} → Lined P t S scratch → get_or scratch 0 0 ≡ 0
front_zero {S = S} {scratch} D =
    let l : 0 < length S + 1 = omega arith in
    sym (get_or-take (length S + 1) scratch 0 0 l) ∙ ap (λ (xs : List ℕ). get_or xs 0 0) D.keys

-- The set changes.
module _ {tabulation ws scratch : List ℕ} {h : Header} {n key : ℕ} (Z : Settable tabulation ws scratch h n key) where
  abbrev P : Params
  P = params_of tabulation ws

  abbrev K : List ℕ
  K = keys_in ws

  abbrev valid : ValidKeys K
  valid = keys_in_valid ws

  -- the heading tells r, s and the station, and how many keys there are
  abbrev own : params_with tabulation h ≡ P
  own = ap (params_with tabulation) Z.heading

  key_count : n ≡ length K
  key_count = loaded_count Z.loaded Z.heading Z.count

  keys_are : keys_of (set_in tabulation ws) ≡ K
  keys_are = set_keys Z.loaded

  room : used P.slots P.places ≤ length scratch
  room = rw Z.heading at (loaded_room Z.loaded Z.heading Z.count)

  keys_stand : keys_at n scratch ≡ K
  keys_stand = loaded_keys Z.loaded Z.heading Z.count

  pub searchable : (n < length scratch) × Asc (keys_at n scratch)
  searchable = loaded_searchable Z.loaded Z.heading Z.count

  pub in_range : Hashing tabulation h.slots h.station ×
      ((h.places ≤ 64) × ((n ≤ 2 * h.slots + h.places) × (used h.slots h.places ≤ length scratch)))
  in_range =
      let g = loaded_range Z.loaded Z.heading Z.count in
      (g.0, (g.1, (loaded_few Z.loaded Z.heading Z.count, loaded_room Z.loaded Z.heading Z.count)))

  -- a set that stands in `mid` can be committed
  committable : {t : ℕ → ℕ} {S mid : List ℕ} {m : ℕ} → length mid ≡ length scratch → Lined P t S mid → m ≡ length S
      → m ≤ 2 * h.slots + h.places
      → Committable (with_keys h m) ws mid
  committable same_room D q few =
      let g = same_header Z.heading in
      let formed = loaded_shape Z.loaded in
      record {
        sizes = rw (g.slots, g.places) formed.sizes;
        size = rw (g.slots, g.places) formed.size;
        buildable =
            rw (g.slots, g.places, q)
            (lined_buildable D (omega (arith, room)) formed.sizes (omega (arith, g.slots, g.places)));
      }

  pub insert_large : {tier : ℕ} → max_tier < tier → Decided (Insert tier) tabulation ws key wrong_tier ws
  insert_large {tier} l = let t = lt-ltb max_tier tier l in (rw t, rw t)

  -- what a change does, where a set that stands in `mid` is committed: a key is put in or taken out, with its tier
  changed_committed : (kind : Change) {mid : List ℕ} {m a : ℕ} {us : List ℕ} → Committed (with_keys h m) ws mid a us
      → m ≡ length (keys_changed kind key K)
      → Lined P (tier_changed kind key (tier_of (set_in tabulation ws))) (keys_changed kind key K) mid
      → Decided kind tabulation ws key (new_answer P (keys_changed kind key K))
      (new_words P (changed kind key (set_in tabulation ws)) ws)
      → Decided kind tabulation ws key a us
  changed_committed kind R q D decided =
      let u = tier_changed kind key (tier_of (set_in tabulation ws)) in
      let w = R.by tabulation u (keys_changed kind key K) (keys_changed_valid kind key Z.not_blank valid) q
      (rw own D) in (
        (rw own at w.0) ∙ decided.0,
        (rw own at w.1) ∙ ap (λ (S : List ℕ). new_words P (tiered u (keys_changed kind key S)) ws) (sym keys_are)
            ∙ decided.1,
      )

  -- Where the key belongs.
  module _ {at : ℕ} (place : at ≡ lower_bound (keys_at n scratch) key) where
    at_rank : at ≡ lower_bound K key
    at_rank = rw keys_stand at place

    pub at_le : at ≤ n
    at_le = omega (arith, at_rank, bound_le key K, key_count)

    pub placed : KeyPlaced scratch n at key
    placed = record {
      long = searchable.0;
      front = front_zero Z.loaded.lined;
      asc = searchable.1;
      issues = rw keys_stand (loaded_issues Z.loaded);
      place = place;
      not_blank = Z.not_blank;
    }

    -- another issue is there
    pub insert_issue : {b : Bool} → b ≡ another_issue key (keys_at n scratch) → b ≡ true → {tier : ℕ} → tier ≤ max_tier
        → Decided (Insert tier) tabulation ws key other_issue ws
    insert_issue e q {tier} small =
        let x = le-ltb max_tier tier small in
        let y : another_issue key K ≡ true = rw keys_stand at (sym e ∙ q) in
        (rw (x, keys_are, y), rw (x, keys_are, y))

    -- it is there
    module _ {b : Bool} (found : b ≡ member key (keys_at n scratch)) (yes : b ≡ true) where
      listed : member key K ≡ true
      listed = rw keys_stand at (sym found ∙ yes)

      here : In key K
      here = member_in key K listed

      alone : another_issue key K ≡ false
      alone = listed_alone (loaded_issues Z.loaded) key here

      pub at_lt : at < n
      at_lt = omega (arith, at_rank, (bound_found key K valid.asc here).1, key_count)

      module _ {t : ℕ} (read : t ≡ tier_placed h.slots h.places at scratch) where
        tier_is : tier_of (set_in tabulation ws) key ≡ t
        tier_is =
            let g = same_header Z.heading in
            sym (read ∙ (rw (at_rank, g.slots, g.places)
            (lined_tier Z.loaded.lined room valid.asc key (loaded_shape Z.loaded).sizes here
            ∙ set_tier Z.loaded here)))

        module _ {tier : ℕ} (small : tier ≤ max_tier) where
          pub insert_other : (t ≡ tier → ⊥) → Decided (Insert tier) tabulation ws key other_tier ws
          insert_other d =
              let x = le-ltb max_tier tier small in
              let y = ne_eqb t tier d in
              (rw (x, keys_are, alone, listed, tier_is, y), rw (x, keys_are, alone, listed, tier_is, y))

          pub insert_present : t ≡ tier → Decided (Insert tier) tabulation ws key key_present ws
          insert_present q =
              let x = le-ltb max_tier tier small in
              let y = eq-eqb t tier q in
              (rw (x, keys_are, alone, listed, tier_is, y), rw (x, keys_are, alone, listed, tier_is, y))

      -- and is taken out
      module _ {mid : List ℕ} (out : mid ≡ taken_out h.slots h.places n at scratch)
          (same_room : length mid ≡ length scratch) where
        one_less : h.keys - 1 ≡ length (without key K)
        one_less = omega (arith, length_without key K valid.asc here, key_count, Z.count)

        taken : Lined P (tier_changed Remove key (tier_of (set_in tabulation ws))) (without key K) mid
        taken =
            let g = same_header Z.heading in
            let D = lined_taken Z.loaded.lined room valid.asc key here
            (omega (arith, in_range.1.1.0, g.slots, g.places, key_count)) in
            rw (out, at_rank, g.slots, g.places, key_count)
            (lined_agree D _ (λ c i. set_tier Z.loaded (out_in key K i)))

        pub remove_committable : Committable (with_keys h (h.keys - 1)) ws mid
        remove_committable = committable same_room taken one_less (omega (arith, in_range, Z.count))

        pub remove_committed : {a : ℕ} {us : List ℕ} → Committed (with_keys h (h.keys - 1)) ws mid a us
            → Decided Remove tabulation ws key a us
        remove_committed R =
            let g = rw keys_are at (canonical_true tabulation ws Z.loaded.image).fit in
            let f = without_fits P valid key g in
            let k : keys_of (changed Remove key (set_in tabulation ws)) ≡ without key K =
            changed_keys Remove key (set_in tabulation ws) ∙ ap (without key) keys_are in
            changed_committed Remove R one_less taken (rw (keys_are, listed, f), rw (k, keys_are, listed, f))

    -- it is not there
    module _ {b : Bool} (found : b ≡ member key (keys_at n scratch)) (no : b ≡ false) where
      absent : member key K ≡ false
      absent = rw keys_stand at (sym found ∙ no)

      gone : In key K → ⊥
      gone i = true≢false (sym (in_member i) ∙ absent)

      pub remove_absent : Decided Remove tabulation ws key key_absent ws
      remove_absent = (rw (keys_are, absent), rw (keys_are, absent))

      -- nor is another issue
      module _ {o : Bool} (other : o ≡ another_issue key (keys_at n scratch)) (none : o ≡ false) {tier : ℕ}
          (small : tier ≤ max_tier) where
        new : another_issue key K ≡ false
        new = rw keys_stand at (sym other ∙ none)

        small_test : ltb max_tier tier ≡ false
        small_test = le-ltb max_tier tier small

        pub insert_crowded : 2 * h.slots + h.places ≤ n → Decided (Insert tier) tabulation ws key stash_full ws
        insert_crowded l =
            let g = same_header Z.heading in
            let f = one_too_many P key (loaded_shape Z.loaded).sizes.has_slots valid Z.not_blank absent
            (omega (arith, key_count, g.slots, g.places)) in
            (rw (small_test, keys_are, new, absent, f), rw (small_test, keys_are, new, absent, f))

        -- and is put in
        module _ (few : n < 2 * h.slots + h.places) {mid : List ℕ}
            (in_it : mid ≡ put_at h.slots h.places n at key
            (edge_with (tables tabulation h.slots h.station) key tier) scratch)
            (same_room : length mid ≡ length scratch) where
          one_more : h.keys + 1 ≡ length (with_key key K)
          one_more = omega (arith, length_with key K valid.asc gone, key_count, Z.count)

          put : Lined P (tier_changed (Insert tier) key (tier_of (set_in tabulation ws))) (with_key key K) mid
          put =
              let g = same_header Z.heading in
              rw (in_it, at_rank, g.slots, g.places, g.station, key_count)
              (lined_put Z.loaded.lined room valid.asc key
              (tier_changed (Insert tier) key (tier_of (set_in tabulation ws)))
              (λ c i. rw (ne_eqb c key (λ q. gone (rw q at i))) (set_tier Z.loaded i)) gone
              (omega (arith, key_count, g.slots, g.places))
              (rw (eq-eqb key key refl)))

          pub insert_committable : Committable (with_keys h (h.keys + 1)) ws mid
          insert_committable = committable same_room put one_more (omega (arith, Z.count))

          pub insert_committed : {a : ℕ} {us : List ℕ} → Committed (with_keys h (h.keys + 1)) ws mid a us
              → Decided (Insert tier) tabulation ws key a us
          insert_committed R =
              let L = changed (Insert tier) key (set_in tabulation ws) in
              let g : fits P (keys_of L) ≡ fits P (with_key key K) =
              ap (fits P) (changed_keys (Insert tier) key (set_in tabulation ws) ∙ ap (with_key key) keys_are) in
              let e : first_refusal (set_refusals (Insert tier) P key (set_in tabulation ws)) ≡ cond
              (not (fits P (with_key key K))) stash_full done =
              rw (small_test, keys_are, new, absent) in
              changed_committed (Insert tier) R one_more put (
                sym (last_turned stash_full (fits P (with_key key K))) ∙ sym e,
                ap (λ (f : Bool). cond f (image P L) ws) g ∙ words_turned (fits P (with_key key K)) (image P L) ws
                    ∙ ap (λ (n : ℕ). cond (eqb n done) (image P L) ws) (sym e),
              )

-- From the steps to the outcomes.

-- 5, or what the set decides
pub after_blank : (tabulation ws : List ℕ) (kind : Change) (key : ℕ) {b : Bool} → b ≡ blank key → b ≡ true
    → AfterLoad kind tabulation ws key blank_key ws
after_blank tabulation ws kind key e q = let t = sym e ∙ q in (rw t, rw t)

pub after_set : (tabulation ws : List ℕ) (kind : Change) (key : ℕ) → blank key ≡ false → {a : ℕ} {us : List ℕ}
    → Decided kind tabulation ws key a us → AfterLoad kind tabulation ws key a us
after_set tabulation ws kind key t e = rw t e

-- insert and remove
module _ (tabulation ws scratch : List ℕ) (kind : Change) (key : ℕ) where
  -- an answer and words are those of the outcome
  abbrev pub Concluded : ℕ → List ℕ → Type 0
  Concluded n us = (n ≡ (change_outcome kind tabulation ws scratch key).answer)
      × (us ≡ (change_outcome kind tabulation ws scratch key).words)

  module _ {left : List ℕ} {l : Result Header Refusal} (T : LoadTold tabulation ws scratch left l) where
    -- 1 to 4: a refusal leaves the words
    refused_answer : {n : Refusal} → l ≡ Err n → number_of n ≡ (change_outcome kind tabulation ws scratch key).answer
    unfolding change_outcome change_refusal
    refused_answer e = refused_first tabulation ws scratch T e (later_refusals kind tabulation ws key)

    pub left_refused : {n : Refusal} → l ≡ Err n → Concluded (number_of n) ws
    left_refused e =
        let a = refused_answer e in
        (a, sym (change_refused tabulation ws scratch kind key (λ q. (loaded_refused tabulation ws scratch T e).1 (a ∙ q))))

    -- what a set that was loaded leads to
    pub left_set : {h : Header} → l ≡ Ok h → {a : ℕ} {us : List ℕ} → AfterLoad kind tabulation ws key a us
        → Concluded a us
    unfolding change_outcome change_refusal
    left_set q e =
        let r = sym (loaded_passes tabulation ws scratch T q (later_refusals kind tabulation ws key)) in
        (e.0 ∙ r, rw (← r) e.1)
