-- The laws of what specs/Held.antt defines.
use Rattle.std.specs.Prelude.{ℕ, ◌+◌, ◌≤◌, ◌<◌, ◌≡◌, refl, Bool, true, false, not, cond, ◌&&◌, ◌⊎◌, ◌↔◌, eqb, ltb, length}
use Rattle.std.proofs.Common.{sym, ◌∙◌, ap, true≢false, inl, inr, arith}
use mathlib.Core.List.Memᴰ.{head as here}
use mathlib.Core.List.Memᴰ.{tail as there}
use mathlib.Core.List.{List, [], ◌∷◌, ◌++◌, Memᴰ as In}
use borrow.Author.Tests.{eq-eqb, ne_eqb, lt-ltb, le-ltb, ltb-false, not-false}
use Rattle.basics.specs.Tests.{test}
use Rattle.basics.proofs.Tests.{eq?}
use Rattle.basics.specs.Sets.{Asc, without, member}
use Rattle.basics.proofs.Sets.{member_in, in_member, out_in, out_ne, in_out, no_member}
use Rattle.cuckoo.specs.Placement.{Placement}
use Rattle.ordered.specs.Keys.{with_key}
use Rattle.ordered.proofs.Place.{with_cases, with_here, with_there, asc_with, with_same, without_with, length_with}
use Rattle.refusals.specs.Refusal.{done, short_scratch, blank_key, key_present, key_absent, stash_full, wrong_tier, other_tier, other_issue, first_refusal, None, none, and}
use Rattle.refusals.proofs.Refusals.{front_none, last_turned}
use Rattle.hashing.specs.Hash.{tabulation_length, first_part, blank}
use Rattle.hashing.proofs.Issues.{not_blank_iff}
use Rattle.hashing.specs.Slots.{slot_0, slot_1}
use Rattle.layout.specs.Entries.{Entry, max_tier, keys_of, tier_of, tiered}
use Rattle.layout.proofs.Entries.{key_in, keys_tiered, tiered_agree, tier_tiered, tiered_self, tiered_in}
use Rattle.layout.specs.Layout.{Params, ValidKeys, another_issue, OneIssue, ValidSet, family, params_of, slots_of, places_of, scratch_length, params_in_range, station_of, shaped, fits, image, keys_in, tier_in, set_in}
use Rattle.layout.proofs.Shape.{ranged, ranged_true, shape}
use Rattle.layout.proofs.Image.{image_shaped}
use Rattle.layout.proofs.Issues.{one_issue_part}
use Rattle.layout.proofs.IssuesAfter.{no_other, listed_alone, one_issue_with}
use Rattle.layout.proofs.Reissued.{reissued_fits, instead_reissues, instead_is}
use Rattle.layout.specs.Canonical.{canonical, ImageOf}
use Rattle.layout.proofs.Canonical.{canonical_true, image_canonical, image_of_params, image_of_set}
use Rattle.layout.specs.Answers.{lookup_values, looked_up}
use Rattle.layout.proofs.Look.{looked_entry, image_lookup_values}
use Rattle.layout.proofs.Fitting.{without_valid, without_fits, fits_placement, full_answer, crowded_unfit}
use Rattle.outcome.specs.declared.Change.{Change}
use Rattle.outcome.specs.declared.Change.TheVariants.{Insert, Remove}
use Rattle.layout.specs.Ready.{first_refusals, Ready}
use Rattle.outcome.specs.Outcome.{keys_changed, tier_changed, changed, set_refusals, change_refusal, change_outcome, check_outcome}
use Rattle.outcome.proofs.Laws.{change_done, change_refused, change_set, change_passed}
use Rattle.outcome.specs.Held.{Holds, SmallTier, NewIssue, S}

module _ {P : Params} {L : List Entry} {ws : List ℕ} (h : Holds P L ws) where
  pub held_some : 0 < P.slots
  held_some = (ranged P.slots P.places P.station h.range).0.has_slots

  -- such words say r, s and the station, and their set
  pub held_params : params_of P.tabulation ws ≡ P
  held_params = image_of_params h.is

  pub held_set_in : set_in P.tabulation ws ≡ L
  held_set_in = image_of_set h.is held_some

  pub held_shaped : shaped ws ≡ true
  held_shaped = rw h.is.is (image_shaped P L h.range h.is.fit)

  held_canonical : canonical P.tabulation ws ≡ true
  held_canonical = rw h.is.is (image_canonical P L h.range h.is.valid h.is.fit)

  pub held_scratch : scratch_length (slots_of ws) (places_of ws) ≡ scratch_length P.slots P.places
  held_scratch = ap (λ (Q : Params). scratch_length Q.slots Q.places) held_params

  -- "13 .. never together with 10 or 6": a set that has the exact issue has no other, and one that has another does not have it
  listed_only : (key : ℕ) → member key (keys_of L) ≡ true → another_issue key (keys_of L) ≡ false
  listed_only key m = listed_alone h.is.valid.issues key (member_in key (keys_of L) m)

  pub issue_absent : (key : ℕ) → another_issue key (keys_of L) ≡ true → member key (keys_of L) ≡ false
  issue_absent key a = elim (test (member key (keys_of L))) [ inl m ↦ absurd (true≢false (sym a ∙ listed_only key m)) | inr m ↦ m ]

-- Words that pass hold the set of the keys that stand in them.
pub passed_holds : (tabulation ws : List ℕ) → shaped ws ≡ true → canonical tabulation ws ≡ true → Holds (params_of tabulation ws) (set_in tabulation ws) ws
passed_holds tabulation ws formed c = record { range = ranged_true (slots_of ws) (places_of ws) (station_of ws) (shape ws formed).sizes (shape ws formed).station; is = canonical_true tabulation ws c }

-- the new set

-- its keys
pub changed_keys : (kind : Change) (key : ℕ) (L : List Entry) → keys_of (changed kind key L) ≡ keys_changed kind key (keys_of L)
changed_keys kind key L = keys_tiered (tier_changed kind key (tier_of L)) (keys_changed kind key (keys_of L))

-- "an add puts its card in and a withdrawal takes its card out", and nothing else
pub inserted_in : (tier key : ℕ) (L : List Entry) (d : ℕ) → In d (keys_of (changed (Insert tier) key L)) ↔ ((d ≡ key) ⊎ In d (keys_of L))
inserted_in tier key L d =
    rw (changed_keys (Insert tier) key L)
    (λ i. with_cases key (keys_of L) i, λ c. elim c [ inl e ↦ rw e (with_here key (keys_of L)) | inr i ↦ with_there key (keys_of L) i ])

pub removed_in : (key : ℕ) (L : List Entry) (d : ℕ) → In d (keys_of (changed Remove key L)) ↔ (In d (keys_of L) × (key ≡ d → ⊥))
removed_in key L d =
    rw (changed_keys Remove key L)
    (λ i. (out_in key (keys_of L) i, out_ne key (keys_of L) i), λ p. in_out key (keys_of L) p.1 p.0)

-- its tiers: the card that comes in has the one that is given, the others keep theirs
pub changed_tier : (kind : Change) (key : ℕ) (L : List Entry) {c : ℕ} → In c (keys_of (changed kind key L))
    → tier_of (changed kind key L) c ≡ tier_changed kind key (tier_of L) c
changed_tier kind key L i = tier_tiered (tier_changed kind key (tier_of L)) (keys_changed kind key (keys_of L)) (rw (changed_keys kind key L) at i)

pub with_valid : (key : ℕ) {S : List ℕ} → blank key ≡ false → ValidKeys S → ValidKeys (with_key key S)
with_valid key {S} b valid = record {
  asc = asc_with key valid.asc;
  none_blank = λ d i. elim (with_cases key S i) [ inl e ↦ rw e b | inr k ↦ valid.none_blank d k ];
}

pub keys_changed_valid : (kind : Change) (key : ℕ) {S : List ℕ} → blank key ≡ false → ValidKeys S → ValidKeys (keys_changed kind key S)
keys_changed_valid (Insert tier) key b valid = with_valid key b valid
keys_changed_valid Remove key b valid = without_valid key valid

tier_bound : (kind : Change) (key : ℕ) (L : List Entry) → SmallTier kind → ((c : ℕ) → tier_of L c ≤ max_tier) → (c : ℕ)
    → tier_changed kind key (tier_of L) c ≤ max_tier
tier_bound (Insert tier) key L small h c = elim (eq? c key) [ inl e ↦ rw (eq-eqb c key e) small | inr n ↦ rw (ne_eqb c key n) (h c) ]
tier_bound Remove key L small h c = h c

pub tier_of_bound : (L : List Entry) → ((e : Entry) → In e L → e.tier ≤ max_tier) → (c : ℕ) → tier_of L c ≤ max_tier
tier_of_bound [] h c = omega arith
tier_of_bound (e ∷ L) h c = elim (eq? c e.key) [
  | inl q ↦ rw (eq-eqb c e.key q) (h e (here refl))
  | inr n ↦ rw (ne_eqb c e.key n) (tier_of_bound L (λ f i. h f (there i)) c)
]

issues_changed : (kind : Change) (key : ℕ) {S : List ℕ} → NewIssue kind key S → OneIssue S → OneIssue (keys_changed kind key S)
issues_changed (Insert tier) key new one = one_issue_with key new one
issues_changed Remove key {S} new one = one_issue_part (λ d i. out_in key S i) one

pub changed_valid : (kind : Change) (key : ℕ) {L : List Entry} → blank key ≡ false → SmallTier kind → NewIssue kind key (keys_of L) → ValidSet L
    → ValidSet (changed kind key L)
changed_valid kind key {L} b small new valid = record {
  keys = rw (changed_keys kind key L) (keys_changed_valid kind key b valid.keys);
  issues = rw (changed_keys kind key L) (issues_changed kind key new valid.issues);
  tiers = λ e i.
      rw (tiered_in (tier_changed kind key (tier_of L)) (keys_changed kind key (keys_of L)) i) (tier_bound kind key L small (tier_of_bound L valid.tiers) e.key);
}

-- 6 and 8 never apply both, nor 10 and 8: a set that fits, with a key that it has, fits.
pub present_fits : (P : Params) (key : ℕ) {S : List ℕ} → ValidKeys S → fits P S ≡ true → member key S ≡ true → fits P (with_key key S) ≡ true
present_fits P key {S} valid e m = rw (with_same key S valid.asc (member_in key S m)) e

-- a key that comes in and goes again leaves the set as it was
pub changed_back : (tier key : ℕ) (L : List Entry) → Asc (keys_of L) → member key (keys_of L) ≡ false → changed Remove key (changed (Insert tier) key L) ≡ L
changed_back tier key L asc m =
    let out : In key (keys_of L) → ⊥ = λ i. true≢false (sym (in_member i) ∙ m) in
    let back : keys_changed Remove key (keys_of (changed (Insert tier) key L)) ≡ keys_of L =
    ap (without key) (changed_keys (Insert tier) key L) ∙ without_with key (keys_of L) asc out in
    ap (tiered (tier_of (changed (Insert tier) key L))) back
    ∙ tiered_agree (keys_of L) (λ c i.
    changed_tier (Insert tier) key L ((inserted_in tier key L c).1 (inr i)) ∙ (rw (ne_eqb c key (λ q. out (rw q at i)))))
    ∙ tiered_self L asc

-- A set that has as many keys as there are slots and places does not fit with one more.
pub one_too_many : (P : Params) (key : ℕ) {S : List ℕ} → 0 < P.slots → ValidKeys S → blank key ≡ false → member key S ≡ false
    → P.slots + P.slots + P.places ≤ length S → fits P (with_key key S) ≡ false
one_too_many P key {S} some valid b m l =
    crowded_unfit P (with_valid key b valid).asc some
    (omega (arith, length_with key S valid.asc (λ i. true≢false (sym (in_member i) ∙ m))))

-- each of five refusals, or of six, of which none applies
none_five : {p q r s t : ℕ × Bool} → None (p ∷ q ∷ r ∷ s ∷ t ∷ [])
    → (p.1 ≡ false) × (q.1 ≡ false) × (r.1 ≡ false) × (s.1 ≡ false) × (t.1 ≡ false)
none_five (and b (and c (and d (and e (and f none))))) = (b, c, d, e, f)

none_six : {p q r s t u : ℕ × Bool} → None (p ∷ q ∷ r ∷ s ∷ t ∷ u ∷ [])
    → (p.1 ≡ false) × (q.1 ≡ false) × (r.1 ≡ false) × (s.1 ≡ false) × (t.1 ≡ false) × (u.1 ≡ false)
none_six (and b (and c (and d (and e (and f (and g none)))))) = (b, c, d, e, f, g)

-- what is known where no refusal of the set is given, or 8
module _ (P : Params) (key : ℕ) (L : List Entry) where
  pub insert_tried : (tier : ℕ) {n : ℕ} → first_refusal ((blank_key, blank key) ∷ set_refusals (Insert tier) P key L) ≡ n → (n ≡ done) ⊎ (n ≡ stash_full)
      → (blank key ≡ false) × (tier ≤ max_tier) × (another_issue key (keys_of L) ≡ false) × (member key (keys_of L) ≡ false)
  insert_tried tier e d =
      let tried = none_five (front_none
      ((blank_key, blank key) ∷ (wrong_tier, ltb max_tier tier) ∷ (other_issue, another_issue key (keys_of L))
      ∷ (other_tier, member key (keys_of L) && not (eqb (tier_of L key) tier)) ∷ (key_present, member key (keys_of L)) ∷ [])
      ((stash_full, not (fits P (with_key key (keys_of L)))) ∷ []) e
      (elim d [ inl z ↦ rw z | inr z ↦ rw z ])) in
      (tried.0, ltb-false max_tier tier tried.1, tried.2, tried.4)

  pub insert_accepts : (tier : ℕ) → first_refusal ((blank_key, blank key) ∷ set_refusals (Insert tier) P key L) ≡ done
      → (blank key ≡ false) × (tier ≤ max_tier) × (another_issue key (keys_of L) ≡ false) × (fits P (with_key key (keys_of L)) ≡ true)
  insert_accepts tier e =
      let tried = none_six (front_none ((blank_key, blank key) ∷ set_refusals (Insert tier) P key L) [] e refl) in
      (tried.0, ltb-false max_tier tier tried.1, tried.2, not-false _ tried.5)

  pub remove_accepts : first_refusal ((blank_key, blank key) ∷ set_refusals Remove P key L) ≡ done
      → (blank key ≡ false) × (member key (keys_of L) ≡ true)
  remove_accepts e = elim (front_none ((blank_key, blank key) ∷ set_refusals Remove P key L) [] e refl) [ and b (and m none) ↦ (b, not-false _ m) ]

module _ {P : Params} {L : List Entry} {ws : List ℕ} (h : Holds P L ws) (full_length : length P.tabulation ≡ tabulation_length) where
  -- what a call on a dictionary that holds L answers: 1, 2 and 4 never, and the rest comes after 3
  pub held_head : (scratch : List ℕ) (rest : List (ℕ × Bool))
      → first_refusal (first_refusals P.tabulation ws scratch ++ rest)
      ≡ first_refusal ((short_scratch, ltb (length scratch) (scratch_length P.slots P.places)) ∷ rest)
  held_head scratch rest =
      rw (eq-eqb (length P.tabulation) tabulation_length full_length, held_shaped h, held_canonical h, held_scratch h)

  -- of a change: with L as "the set"
  pub held_refusal : (kind : Change) (scratch : List ℕ) (key : ℕ)
      → change_refusal kind P.tabulation ws scratch key
      ≡ first_refusal
      ((short_scratch, ltb (length scratch) (scratch_length P.slots P.places)) ∷ (blank_key, blank key) ∷ set_refusals kind P key L)
  unfolding change_refusal
  held_refusal kind scratch key =
      held_head scratch ((blank_key, blank key) ∷ set_refusals kind (params_of P.tabulation ws) key (set_in P.tabulation ws))
      ∙ (rw (held_params h, held_set_in h))

  pub held_check : (scratch : List ℕ)
      → (check_outcome P.tabulation ws scratch).answer
      ≡ first_refusal ((short_scratch, ltb (length scratch) (scratch_length P.slots P.places)) ∷ [])
  unfolding check_outcome
  held_check scratch = held_head scratch []

  module _ (scratch : List ℕ) (room : scratch_length P.slots P.places ≤ length scratch) (key : ℕ) where
    held_set : (kind : Change)
        → change_refusal kind P.tabulation ws scratch key ≡ first_refusal ((blank_key, blank key) ∷ set_refusals kind P key L)
    held_set kind = held_refusal kind scratch key ∙ (rw (le-ltb (length scratch) (scratch_length P.slots P.places) room))

    -- row 5
    pub held_blank : (kind : Change) → blank key ≡ true → (change_outcome kind P.tabulation ws scratch key).answer ≡ blank_key
    unfolding change_outcome
    held_blank kind b = held_set kind ∙ (rw b)

    -- row 9
    pub held_tier : (tier : ℕ) → blank key ≡ false → 7 < tier → (change_outcome (Insert tier) P.tabulation ws scratch key).answer ≡ wrong_tier
    unfolding change_outcome
    held_tier tier b l = held_set (Insert tier) ∙ (rw (b, lt-ltb max_tier tier l))

    module _ (b : blank key ≡ false) where
      module _ (tier : ℕ) (small : tier ≤ 7) where
        -- row 13, whatever the tiers, and whether the new set would fit or not
        pub held_issue : another_issue key (keys_of L) ≡ true → (change_outcome (Insert tier) P.tabulation ws scratch key).answer ≡ other_issue
        unfolding change_outcome
        held_issue a = held_set (Insert tier) ∙ (rw (b, le-ltb max_tier tier small, a))

        -- rows 10 and 6: an insert of a key of the set is refused, and so never changes its tier
        pub held_other : member key (keys_of L) ≡ true → (tier_of L key ≡ tier → ⊥)
            → (change_outcome (Insert tier) P.tabulation ws scratch key).answer ≡ other_tier
        unfolding change_outcome
        held_other m n = held_set (Insert tier) ∙ (rw (b, le-ltb max_tier tier small, listed_only h key m, m, ne_eqb (tier_of L key) tier n))

        pub held_present : member key (keys_of L) ≡ true → tier_of L key ≡ tier
            → (change_outcome (Insert tier) P.tabulation ws scratch key).answer ≡ key_present
        unfolding change_outcome
        held_present m e = held_set (Insert tier) ∙ (rw (b, le-ltb max_tier tier small, listed_only h key m, m, eq-eqb (tier_of L key) tier e))

        -- row 8: an insert of a new key, of which there is no other issue, is refused exactly when no placement of the new set exists,
        module _ (new : another_issue key (keys_of L) ≡ false) (m : member key (keys_of L) ≡ false) where
          pub held_new : (change_outcome (Insert tier) P.tabulation ws scratch key).answer ≡ cond (not (fits P (with_key key (keys_of L)))) stash_full done
          unfolding change_outcome
          held_new = held_set (Insert tier) ∙ (rw (b, le-ltb max_tier tier small, new, m))

      -- row 7
      pub held_absent : member key (keys_of L) ≡ false → (change_outcome Remove P.tabulation ws scratch key).answer ≡ key_absent
      unfolding change_outcome
      held_absent m = held_set Remove ∙ (rw (b, m))

      -- a removal of a key of the set is never refused
      pub held_remove : member key (keys_of L) ≡ true → (change_outcome Remove P.tabulation ws scratch key).answer ≡ done
      unfolding change_outcome
      held_remove m = held_set Remove ∙ (rw (b, m))

-- lookup

-- On words that hold L a lookup with the same tabulation says what L says, but for a blank key, which is refused: so it finds exactly the entries of L.
pub held_lookup : {P : Params} {L : List Entry} {ws : List ℕ} → Holds P L ws → length P.tabulation ≡ tabulation_length → (c : ℕ)
    → lookup_values P.tabulation ws c ≡ cond (blank c) [] (looked_up L c)
held_lookup {P} {L} {ws} h full_length c =
    ap (λ (us : List ℕ). lookup_values P.tabulation us c) h.is.is ∙ image_lookup_values P L h.is.fit full_length h.range c h.is.valid

pub held_entry : {P : Params} {L : List Entry} {ws : List ℕ} → Holds P L ws → length P.tabulation ≡ tabulation_length → (c t : ℕ)
    → (lookup_values P.tabulation ws c ≡ 1 ∷ t ∷ []) ↔ In (record { key = c; tier = t }) L
held_entry {P} {L} {ws} h full_length c t =
    let e = held_lookup h full_length c in
    let found = looked_entry L h.is.valid.keys.asc c t in (
      λ v. elim (test (blank c)) [
        | inl b ↦ absurd (omega (arith, ap length (rw b at (sym e ∙ v))))
        | inr b ↦ found.0 (rw b at (sym e ∙ v))
      ],
      λ i. e ∙ (rw (h.is.valid.keys.none_blank c (key_in L i)) (found.1 i)),
    )

-- A card that is issued anew: the old issue goes, and the new one comes in, with whatever tier. That is never refused with 8: the set fits as it did.
module _ {P : Params} {L : List Entry} {ws : List ℕ} (h : Holds P L ws) (full_length : length P.tabulation ≡ tabulation_length)
    {old : ℕ} (key tier : ℕ) (i : In old (keys_of L)) (q : first_part key ≡ first_part old) (small : tier ≤ 7)
    (scratch scratch' : List ℕ) (room : scratch_length P.slots P.places ≤ length scratch) (room' : scratch_length P.slots P.places ≤ length scratch') where
  abbrev pub valid : ValidSet L
  valid = h.is.valid

  -- what is left has no issue of it
  pub left_ne : (d : ℕ) → In d (without old (S h full_length key tier i q small scratch scratch' room room')) → first_part d ≡ first_part key → ⊥
  left_ne d j e = out_ne old (S h full_length key tier i q small scratch scratch' room room') j (valid.issues old d i (out_in old (S h full_length key tier i q small scratch scratch' room room') j) (sym (e ∙ q)))
