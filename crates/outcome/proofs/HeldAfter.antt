-- More laws, which rest on those of Held.antt.
use Rattle.std.specs.Prelude.{ℕ, ◌+◌, ◌≤◌, ◌<◌, ◌≡◌, refl, Bool, true, false, not, cond, ◌&&◌, ◌⊎◌, ◌↔◌, eqb, ltb, length}
use Rattle.std.proofs.Common.{sym, ◌∙◌, ap, true≢false, inl, inr, arith}
use mathlib.Core.List.Memᴰ.{head as here}
use mathlib.Core.List.Memᴰ.{tail as there}
use mathlib.Core.List.{List, [], ◌∷◌, ◌++◌, Memᴰ as In}
use borrow.Author.Tests.{eq-eqb, ne_eqb, lt-ltb, le-ltb, ltb-false, not-false}
use Rattle.basics.specs.Tests.{test}
use Rattle.basics.proofs.Tests.{eq?}
use Rattle.basics.specs.Sets.{Asc, without, member}
use Rattle.basics.proofs.Sets.{member_in, in_member, out_in, out_ne, in_out, no_member}
use Rattle.cuckoo.specs.Placement.{Placement}
use Rattle.ordered.specs.Keys.{with_key}
use Rattle.ordered.proofs.Place.{with_cases, with_here, with_there, asc_with, with_same, without_with, length_with}
use Rattle.refusals.specs.Refusal.{done, short_scratch, blank_key, key_present, key_absent, stash_full, wrong_tier, other_tier, other_issue, first_refusal, None, none, and}
use Rattle.refusals.proofs.Refusals.{front_none, last_turned}
use Rattle.hashing.specs.Hash.{tabulation_length, first_part, blank}
use Rattle.hashing.proofs.Issues.{not_blank_iff}
use Rattle.hashing.specs.Slots.{slot_0, slot_1}
use Rattle.layout.specs.Entries.{Entry, max_tier, keys_of, tier_of, tiered}
use Rattle.layout.proofs.Entries.{key_in, keys_tiered, tiered_agree, tier_tiered, tiered_self, tiered_in}
use Rattle.layout.specs.Layout.{Params, ValidKeys, another_issue, OneIssue, ValidSet, family, params_of, slots_of, places_of, scratch_length, params_in_range, station_of, shaped, fits, image, keys_in, tier_in, set_in}
use Rattle.layout.proofs.Shape.{ranged, ranged_true, shape}
use Rattle.layout.proofs.Image.{image_shaped}
use Rattle.layout.proofs.Issues.{one_issue_part}
use Rattle.layout.proofs.IssuesAfter.{no_other, listed_alone, one_issue_with}
use Rattle.layout.proofs.Reissued.{reissued_fits, instead_reissues, instead_is}
use Rattle.layout.specs.Canonical.{canonical, ImageOf}
use Rattle.layout.proofs.Canonical.{canonical_true, image_canonical, image_of_params, image_of_set}
use Rattle.layout.specs.Answers.{lookup_values, looked_up}
use Rattle.layout.proofs.Look.{looked_entry, image_lookup_values}
use Rattle.layout.proofs.Fitting.{without_valid, without_fits, fits_placement, full_answer, crowded_unfit}
use Rattle.outcome.specs.declared.Change.{Change}
use Rattle.outcome.specs.declared.Change.TheVariants.{Insert, Remove}
use Rattle.layout.specs.Ready.{first_refusals, Ready}
use Rattle.outcome.specs.Outcome.{keys_changed, tier_changed, changed, set_refusals, change_refusal, change_outcome, check_outcome}
use Rattle.outcome.proofs.Laws.{change_done, change_refused, change_set, change_passed}
use Rattle.outcome.specs.Held.{Holds, SmallTier, NewIssue, S}
use Rattle.outcome.proofs.Held.{held_params, held_set_in, held_scratch, passed_holds, changed_keys, changed_valid, changed_back, insert_tried, insert_accepts, remove_accepts, held_new, held_remove, held_entry, valid, left_ne}
use Rattle.outcome.proofs.HeldNew.{held_full}

-- A change that is not refused leads to a set that fits: an insert since 8 was tried, a removal in any case.
accepts_fits : (kind : Change) (P : Params) (key : ℕ) (L : List Entry) → ValidKeys (keys_of L) → fits P (keys_of L) ≡ true
    → first_refusal ((blank_key, blank key) ∷ set_refusals kind P key L) ≡ done
    → (blank key ≡ false) × SmallTier kind × NewIssue kind key (keys_of L) × (fits P (keys_changed kind key (keys_of L)) ≡ true)
accepts_fits (Insert tier) P key L valid e a = insert_accepts P key L tier a
accepts_fits Remove P key L valid e a = let p = remove_accepts P key L a in (p.0, tt, tt, without_fits P valid key e)

-- the same for all inputs: the set is that of the keys that stand in the words, with their tiers

-- After an accepted change the words are a dictionary that holds the new set.
pub change_accepted : (kind : Change) (tabulation ws scratch : List ℕ) (key : ℕ) → (change_outcome kind tabulation ws scratch key).answer ≡ done
    → Holds (params_of tabulation ws) (changed kind key (set_in tabulation ws)) (change_outcome kind tabulation ws scratch key).words
change_accepted kind tabulation ws scratch key e =
    let P = params_of tabulation ws in
    let L = set_in tabulation ws in
    let p = change_passed tabulation ws scratch kind key (inl e) in
    let held = passed_holds tabulation ws p.0.shape p.1 in
    let passed = sym (change_set tabulation ws scratch kind key p.0 p.1) ∙ e in
    let a = accepts_fits kind P key L held.is.valid.keys held.is.fit passed in
    record {
      range = held.range;
      is = record {
        valid = changed_valid kind key a.0 a.1 a.2 held.is.valid;
        fit = rw (changed_keys kind key L) a.3;
        is = change_done tabulation ws scratch kind key e;
      };
    }

-- so, where they held L, L with the key or without it
pub held_changed : {P : Params} {L : List Entry} {ws : List ℕ} → Holds P L ws → (kind : Change) (scratch : List ℕ) (key : ℕ)
    → (change_outcome kind P.tabulation ws scratch key).answer ≡ done
    → Holds P (changed kind key L) (change_outcome kind P.tabulation ws scratch key).words
held_changed {P} {L} {ws} h kind scratch key e = rw (held_params h, held_set_in h) at (change_accepted kind P.tabulation ws scratch key e)

-- Demand 2, "On such a list, with the same book, a look-up says yes exactly for the cards in the set.", with their
-- tiers: after an accepted insert or remove, for the new set.
pub change_lookup : (kind : Change) (tabulation ws scratch : List ℕ) (key : ℕ) → (change_outcome kind tabulation ws scratch key).answer ≡ done → (c t : ℕ)
    → (lookup_values tabulation (change_outcome kind tabulation ws scratch key).words c ≡ 1 ∷ t ∷ [])
    ↔ In (record { key = c; tier = t }) (changed kind key (set_in tabulation ws))
change_lookup kind tabulation ws scratch key e c t =
    held_entry (change_accepted kind tabulation ws scratch key e) (change_passed tabulation ws scratch kind key (inl e)).0.full_length c t

-- placement

-- An insert that comes to the test of 8 is one of a new key, of which there is no other issue,
held_tried : {P : Params} {L : List Entry} {ws : List ℕ} → Holds P L ws → (scratch : List ℕ) (tier key : ℕ)
    → ((change_outcome (Insert tier) P.tabulation ws scratch key).answer ≡ done)
    ⊎ ((change_outcome (Insert tier) P.tabulation ws scratch key).answer ≡ stash_full)
    → Ready P.tabulation ws scratch × (blank key ≡ false) × (tier ≤ max_tier) × (another_issue key (keys_of L) ≡ false) × (member key (keys_of L) ≡ false)
held_tried {P} {L} {ws} h scratch tier key d =
    let t = P.tabulation in
    let p = change_passed t ws scratch (Insert tier) key (elim d [ inl e ↦ inl e | inr e ↦ inr (omega arith) ]) in
    let e = sym (change_set t ws scratch (Insert tier) key p.0 p.1) in
    let q = insert_tried (params_of t ws) key (set_in t ws) tier e d in
    (p.0, q.0, q.1, rw (held_set_in h) at q.2, rw (held_set_in h) at q.3)

-- and is refused by it exactly when no placement of the new set exists;
pub held_eight : {P : Params} {L : List Entry} {ws : List ℕ} → Holds P L ws → (scratch : List ℕ) (tier key : ℕ)
    → ((change_outcome (Insert tier) P.tabulation ws scratch key).answer ≡ done)
    ⊎ ((change_outcome (Insert tier) P.tabulation ws scratch key).answer ≡ stash_full)
    → ((change_outcome (Insert tier) P.tabulation ws scratch key).answer ≡ stash_full)
    ↔ (Placement (slot_0 (family P)) (slot_1 (family P)) P.places (with_key key (keys_of L)) → ⊥)
held_eight h scratch tier key d =
    let p = held_tried h scratch tier key d in
    held_full h p.0.full_length scratch (rw (held_scratch h) at p.0.room) key p.1 tier p.2 p.3 p.4

-- on whatever words.
pub insert_eight : (tabulation ws scratch : List ℕ) (tier key : ℕ)
    → ((change_outcome (Insert tier) tabulation ws scratch key).answer ≡ done) ⊎ ((change_outcome (Insert tier) tabulation ws scratch key).answer ≡ stash_full)
    → ((change_outcome (Insert tier) tabulation ws scratch key).answer ≡ stash_full)
    ↔ (Placement (slot_0 (family (params_of tabulation ws))) (slot_1 (family (params_of tabulation ws))) (places_of ws) (with_key key (keys_in ws)) → ⊥)
insert_eight tabulation ws scratch tier key d =
    let p = change_passed tabulation ws scratch (Insert tier) key (elim d [ inl e ↦ inl e | inr e ↦ inr (omega arith) ]) in
    rw (keys_tiered (tier_in tabulation ws) (keys_in ws)) at (held_eight (passed_holds tabulation ws p.0.shape p.1) scratch tier key d)

-- An insert of a key that stands in the words, with whatever tier, leaves them: so it never changes a tier.
pub insert_kept : (tabulation ws scratch : List ℕ) (tier key : ℕ) → In key (keys_in ws)
    → (change_outcome (Insert tier) tabulation ws scratch key).words ≡ ws
insert_kept tabulation ws scratch tier key i =
    change_refused tabulation ws scratch (Insert tier) key (λ e.
    let p = change_passed tabulation ws scratch (Insert tier) key (inl e) in
    let f = sym (change_set tabulation ws scratch (Insert tier) key p.0 p.1) in
    let m = (insert_tried (params_of tabulation ws) key (set_in tabulation ws) tier f (inl e)).3 in
    true≢false (sym (in_member i) ∙ (rw (keys_tiered (tier_in tabulation ws) (keys_in ws)) at m)))

-- A removal straight after the accepted insert of the same key is accepted, and brings back every word.
pub held_undone : {P : Params} {L : List Entry} {ws : List ℕ} → Holds P L ws → length P.tabulation ≡ tabulation_length
    → (scratch scratch' : List ℕ) (tier key : ℕ)
    → (change_outcome (Insert tier) P.tabulation ws scratch key).answer ≡ done → scratch_length P.slots P.places ≤ length scratch'
    → ((change_outcome Remove P.tabulation (change_outcome (Insert tier) P.tabulation ws scratch key).words scratch' key).answer ≡ done)
    × ((change_outcome Remove P.tabulation (change_outcome (Insert tier) P.tabulation ws scratch key).words scratch' key).words ≡ ws)
held_undone {P} {L} {ws} h full_length scratch scratch' tier key e room =
    let n = held_tried h scratch tier key (inl e) in
    let g = held_changed h (Insert tier) scratch key e in
    let m : member key (keys_of (changed (Insert tier) key L)) ≡ true = rw (changed_keys (Insert tier) key L) (in_member (with_here key (keys_of L))) in
    let d = held_remove g full_length scratch' room key n.1 m in
    (d, (held_changed g Remove scratch' key d).is.is ∙ ap (image P) (changed_back tier key L h.is.valid.keys.asc n.4) ∙ sym h.is.is)

-- A card that is issued anew: the old issue goes, and the new one comes in, with whatever tier. That is never refused with 8: the set fits as it did.
module _ {P : Params} {L : List Entry} {ws : List ℕ} (h : Holds P L ws) (full_length : length P.tabulation ≡ tabulation_length)
    {old : ℕ} (key tier : ℕ) (i : In old (keys_of L)) (q : first_part key ≡ first_part old) (small : tier ≤ 7)
    (scratch scratch' : List ℕ) (room : scratch_length P.slots P.places ≤ length scratch) (room' : scratch_length P.slots P.places ≤ length scratch') where
  pub held_reissued : (change_outcome (Insert tier) P.tabulation (change_outcome Remove P.tabulation ws scratch old).words scratch' key).answer ≡ done
  held_reissued =
      let b : blank old ≡ false = (valid h full_length key tier i q small scratch scratch' room room').keys.none_blank old i in
      let gone = held_changed h Remove scratch old (held_remove h full_length scratch room old b (in_member i)) in
      let b' : blank key ≡ false = (not_blank_iff key).1 (rw q ((not_blank_iff old).0 b)) in
      let new : another_issue key (without old (S h full_length key tier i q small scratch scratch' room room')) ≡ false = no_other key (without old (S h full_length key tier i q small scratch scratch' room room')) (λ a. (left_ne h full_length key tier i q small scratch scratch' room room') a.0 a.1.0 a.1.1.0) in
      let out : member key (without old (S h full_length key tier i q small scratch scratch' room room')) ≡ false = no_member key (without old (S h full_length key tier i q small scratch scratch' room room')) (λ j. (left_ne h full_length key tier i q small scratch scratch' room room') key j refl) in
      let fit : fits P (with_key key (without old (S h full_length key tier i q small scratch scratch' room room'))) ≡ true = rw (instead_is (valid h full_length key tier i q small scratch scratch' room room').keys (valid h full_length key tier i q small scratch scratch' room room').issues key i q)
      (reissued_fits P (valid h full_length key tier i q small scratch scratch' room room').keys (valid h full_length key tier i q small scratch scratch' room room').issues (instead_reissues (valid h full_length key tier i q small scratch scratch' room room').keys (valid h full_length key tier i q small scratch scratch' room room').issues key i q) ∙ h.is.fit) in
      held_new gone full_length scratch' room' key b' tier small (rw (changed_keys Remove old L) new) (rw (changed_keys Remove old L) out)
      ∙ (rw (changed_keys Remove old L, fit))
