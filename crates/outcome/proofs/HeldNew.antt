-- More laws, which rest on those of Held.antt.
use Rattle.std.specs.Prelude.{ℕ, ◌+◌, ◌≤◌, ◌<◌, ◌≡◌, refl, Bool, true, false, not, cond, ◌&&◌, ◌⊎◌, ◌↔◌, eqb, ltb, length}
use Rattle.std.proofs.Common.{sym, ◌∙◌, ap, true≢false, inl, inr, arith}
use mathlib.Core.List.Memᴰ.{head as here}
use mathlib.Core.List.Memᴰ.{tail as there}
use mathlib.Core.List.{List, [], ◌∷◌, ◌++◌, Memᴰ as In}
use borrow.Author.Tests.{eq-eqb, ne_eqb, lt-ltb, le-ltb, ltb-false, not-false}
use Rattle.basics.specs.Tests.{test}
use Rattle.basics.proofs.Tests.{eq?}
use Rattle.basics.specs.Sets.{Asc, without, member}
use Rattle.basics.proofs.Sets.{member_in, in_member, out_in, out_ne, in_out, no_member}
use Rattle.cuckoo.specs.Placement.{Placement}
use Rattle.ordered.specs.Keys.{with_key}
use Rattle.ordered.proofs.Place.{with_cases, with_here, with_there, asc_with, with_same, without_with, length_with}
use Rattle.refusals.specs.Refusal.{done, short_scratch, blank_key, key_present, key_absent, stash_full, wrong_tier, other_tier, other_issue, first_refusal, None, none, and}
use Rattle.refusals.proofs.Refusals.{front_none, last_turned}
use Rattle.hashing.specs.Hash.{tabulation_length, first_part, blank}
use Rattle.hashing.proofs.Issues.{not_blank_iff}
use Rattle.hashing.specs.Slots.{slot_0, slot_1}
use Rattle.layout.specs.Entries.{Entry, max_tier, keys_of, tier_of, tiered}
use Rattle.layout.proofs.Entries.{key_in, keys_tiered, tiered_agree, tier_tiered, tiered_self, tiered_in}
use Rattle.layout.specs.Layout.{Params, ValidKeys, another_issue, OneIssue, ValidSet, family, params_of, slots_of, places_of, scratch_length, params_in_range, station_of, shaped, fits, image, keys_in, tier_in, set_in}
use Rattle.layout.proofs.Shape.{ranged, ranged_true, shape}
use Rattle.layout.proofs.Image.{image_shaped}
use Rattle.layout.proofs.Issues.{one_issue_part}
use Rattle.layout.proofs.IssuesAfter.{no_other, listed_alone, one_issue_with}
use Rattle.layout.proofs.Reissued.{reissued_fits, instead_reissues, instead_is}
use Rattle.layout.specs.Canonical.{canonical, ImageOf}
use Rattle.layout.proofs.Canonical.{canonical_true, image_canonical, image_of_params, image_of_set}
use Rattle.layout.specs.Answers.{lookup_values, looked_up}
use Rattle.layout.proofs.Look.{looked_entry, image_lookup_values}
use Rattle.layout.proofs.Fitting.{without_valid, without_fits, fits_placement, full_answer, crowded_unfit}
use Rattle.outcome.specs.declared.Change.{Change}
use Rattle.outcome.specs.declared.Change.TheVariants.{Insert, Remove}
use Rattle.layout.specs.Ready.{first_refusals, Ready}
use Rattle.outcome.specs.Outcome.{keys_changed, tier_changed, changed, set_refusals, change_refusal, change_outcome, check_outcome}
use Rattle.outcome.proofs.Laws.{change_done, change_refused, change_set, change_passed}
use Rattle.outcome.specs.Held.{Holds, SmallTier, NewIssue, S}
use Rattle.outcome.proofs.Held.{with_valid, held_new, valid}

module _ {P : Params} {L : List Entry} {ws : List ℕ} (h : Holds P L ws) (full_length : length P.tabulation ≡ tabulation_length) where
  module _ (scratch : List ℕ) (room : scratch_length P.slots P.places ≤ length scratch) (key : ℕ) where
    module _ (b : blank key ≡ false) where
      module _ (tier : ℕ) (small : tier ≤ 7) where
        -- row 8: an insert of a new key, of which there is no other issue, is refused exactly when no placement of the new set exists,
        module _ (new : another_issue key (keys_of L) ≡ false) (m : member key (keys_of L) ≡ false) where
          pub held_full : ((change_outcome (Insert tier) P.tabulation ws scratch key).answer ≡ stash_full)
              ↔ (Placement (slot_0 (family P)) (slot_1 (family P)) P.places (with_key key (keys_of L)) → ⊥)
          held_full =
              full_answer P (with_valid key b h.is.valid.keys)
              ((held_new h full_length scratch room key b tier small new m) ∙ last_turned stash_full (fits P (with_key key (keys_of L))))

          -- and accepted exactly when there is one.
          pub held_insert : ((change_outcome (Insert tier) P.tabulation ws scratch key).answer ≡ done)
              ↔ Placement (slot_0 (family P)) (slot_1 (family P)) P.places (with_key key (keys_of L))
          held_insert =
              let F = fits_placement P (with_valid key b h.is.valid.keys) in (
                λ e. F.0 (elim (test (fits P (with_key key (keys_of L)))) [
                  | inl f ↦ f
                  | inr f ↦ absurd (let z = rw f at (sym (held_new h full_length scratch room key b tier small new m) ∙ e) in omega arith)
                ]),
                λ p. let f = F.1 p in (held_new h full_length scratch room key b tier small new m) ∙ (rw f),
              )
