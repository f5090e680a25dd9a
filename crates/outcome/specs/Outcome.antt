-- The whole outcome of insert, remove and check, for every tabulation, words, scratch and key: answer, words and scratch (document 01, "What a call
-- gives back"). The contracts are equalities with these definitions, and the theorem about whole sequences is about them too.
use Rattle.std.specs.Prelude.{ℕ, Bool, not, cond, ◌&&◌, List, [], ◌∷◌, ◌++◌, eqb, ltb, length, replicate}
use Rattle.basics.specs.Sets.{member, without}
use Rattle.ordered.specs.Keys.{with_key}
use Rattle.refusals.specs.Refusal.{done, blank_key, key_present, key_absent, stash_full, wrong_tier, other_tier, other_issue, first_refusal}
use Rattle.hashing.specs.Hash.{blank}
use Rattle.layout.specs.Entries.{Entry, max_tier, keys_of, tier_of, tiered}
use Rattle.layout.specs.Layout.{Params, another_issue, params_of, fits, image, set_in}
use Rattle.layout.specs.Ready.{first_refusals}
use Rattle.outcome.specs.declared.Change.{Change}
use Rattle.outcome.specs.declared.Change.TheVariants.{Insert, Remove}

pub record Outcome : Type 0 where
  pub answer : ℕ
  pub words : List ℕ
  pub scratch : List ℕ

-- the keys after a change, and the tier of each: "an add puts its card in and a withdrawal takes its card out"
abbrev pub keys_changed : Change → ℕ → List ℕ → List ℕ
keys_changed (Insert tier) key S = with_key key S
keys_changed Remove key S = without key S

abbrev pub tier_changed : Change → ℕ → (ℕ → ℕ) → ℕ → ℕ
tier_changed (Insert tier) key t c = cond (eqb c key) tier (t c)
tier_changed Remove key t c = t c

-- the set after a change
abbrev pub changed : Change → ℕ → List Entry → List Entry
changed kind key L = tiered (tier_changed kind key (tier_of L)) (keys_changed kind key (keys_of L))

-- the refusals that look at the tier and at the set: "tier above 7", "another issue is listed", "listed .. with another tier", "listed" and "full drawer"; or
-- "not listed"
abbrev pub set_refusals : Change → Params → ℕ → List Entry → List (ℕ × Bool)
set_refusals (Insert tier) P key L =
    (wrong_tier, ltb max_tier tier)
    ∷ (other_issue, another_issue key (keys_of L))
    ∷ (other_tier, member key (keys_of L) && not (eqb (tier_of L key) tier))
    ∷ (key_present, member key (keys_of L))
    ∷ (stash_full, not (fits P (with_key key (keys_of L))))
    ∷ []
set_refusals Remove P key L = (key_absent, not (member key (keys_of L))) ∷ []

-- "the set": the keys that stand in the words, with the tiers at which they are found. Where it is looked at, the words are its image (the law `canonical_iff` of layout).
unfoldable pub change_refusal : Change → List ℕ → List ℕ → List ℕ → ℕ → ℕ
change_refusal kind tabulation ws scratch key =
    first_refusal
    (first_refusals tabulation ws scratch
    ++ ((blank_key, blank key) ∷ set_refusals kind (params_of tabulation ws) key (set_in tabulation ws)))

-- Accepted, the words are the image of the new set; refused, they are what they were. The scratch is zero over its full length either way.
unfoldable pub change_outcome : Change → List ℕ → List ℕ → List ℕ → ℕ → Outcome
change_outcome kind tabulation ws scratch key =
    let n = change_refusal kind tabulation ws scratch key in
    record {
      answer = n;
      words = cond (eqb n done) (image (params_of tabulation ws) (changed kind key (set_in tabulation ws))) ws;
      scratch = replicate (length scratch) 0;
    }

-- check: 1 to 4; the words never change
unfoldable pub check_outcome : List ℕ → List ℕ → List ℕ → Outcome
check_outcome tabulation ws scratch =
    record {
      answer = first_refusal (first_refusals tabulation ws scratch);
      words = ws;
      scratch = replicate (length scratch) 0;
    }
