-- Words loaded as a set: what load answers, as definitions, and that the code answers it, by way of the keys and edges
-- in scratch, the build and the comparison.
-- Assumes nothing.
use Rattle.std.specs.Prelude.{ℕ, ◌+◌, ◌*◌, ◌≤◌, ◌<◌, ◌≡◌, refl, Bool, true, cond, eqb, length, Option, Some, None, Result, Ok, Err}
use Rattle.std.proofs.Math.Path.{sym, ap}
use Rattle.std.proofs.Common.{◌∙◌, arith, eq-eqb, ne_eqb}
use Rattle.std.proofs.Math.Bool.{false, not}
use mathlib.Core.List.{List, [], ◌∷◌, ◌++◌, Memᴰ as In}
use Rattle.basics.proofs.Tests.{bool_ext}
use Rattle.basics.specs.Lists.{same}
use Rattle.basics.proofs.Lists.{same_true, true_same}
use Rattle.refusals.specs.declared.Refusal.{Refusal}
use Rattle.refusals.specs.declared.Refusal.TheVariants.{NotCanonical}
use Rattle.refusals.specs.Refusal.{done, not_canonical, first_refusal}
use Rattle.refusals.specs.Answer.{number, number_of}
use Rattle.refusals.proofs.Answer.{refused}
use Rattle.refusals.proofs.Refusals.{front_applies, front_passes, front_none}
use Rattle.layout.specs.declared.Header.{Header}
use Rattle.layout.specs.Layout.{Params, ValidKeys, one_issue, header_of, params_of, slots_of, places_of}
use Rattle.layout.specs.Layout.{shaped, fits, image, keys_in, tier_in}
use Rattle.layout.specs.Entries.{tiered}
use Rattle.layout.proofs.Entries.{keys_tiered, tiered_agree, tiered_in, in_tiered}
use Rattle.layout.specs.Canonical.{canonical}
use Rattle.layout.proofs.Canonical.{canonical_tier, canonical_true, image_of_canonical}
use Rattle.layout.specs.Ready.{early_refusals, first_refusals, Ready}
use Rattle.layout.proofs.Ready.{none_ready, head_ready}
use Rattle.layout.proofs.IssuesAfter.{one_issue_iff}
use Rattle.layout.proofs.Standing.{keys_in_valid}
use Rattle.build.specs.Scratch.{used}
use Rattle.build.specs.Build.{Built, Buildable}
use Rattle.scratch_set.specs.Edges.{tier_found, small_le, small_same, Lined, lined_buildable}
use Rattle.scratch_set.specs.Collected.{Collected, Listed, formed, collected_few}
use Rattle.scratch_set.specs.Members.{keys_at, lined_agree, lined_keys}
use Rattle.gateway.specs.Columns.{alike_in}
use Rattle.gateway.specs.Building.{set_kept, set_full, set_made, set_alike}

-- 1, 2 and 3, which need no set
unfoldable pub early_refusal : List ℕ → List ℕ → ℕ → ℕ
early_refusal tabulation ws len = first_refusal (early_refusals tabulation ws len)

-- 1 to 4, in their order
abbrev pub load_refusal : List ℕ → List ℕ → List ℕ → ℕ
load_refusal tabulation ws scratch = first_refusal (first_refusals tabulation ws scratch)

-- the value of what load answers, the heading of the words
abbrev pub headings : Result Header Refusal → List Header
headings (Ok h) = h ∷ []
headings (Err refusal) = []

abbrev pub load_headings : List ℕ → List ℕ → List ℕ → List Header
load_headings tabulation ws scratch = cond (eqb (load_refusal tabulation ws scratch) done) (header_of ws ∷ []) []

-- The words have passed: they can be read, they are canonical, and their keys stand in scratch with their edges.
pub record LoadedSet (tabulation ws scratch : List ℕ) : Type 0 where
  pub ready : Ready tabulation ws scratch
  pub image : canonical tabulation ws ≡ true
  pub lined : Lined (params_of tabulation ws) (tier_in tabulation ws) (keys_in ws) scratch

-- The laws. Where none of 1 to 3 applies, the words can be read.
early_none : (tabulation ws scratch : List ℕ) → early_refusal tabulation ws (length scratch) ≡ done
    → Ready tabulation ws scratch
unfolding early_refusal
early_none tabulation ws scratch e =
    none_ready tabulation ws scratch (front_none (early_refusals tabulation ws (length scratch)) [] e refl)

pub early_ready : (tabulation ws scratch : List ℕ) {n : ℕ} → n ≡ early_refusal tabulation ws (length scratch) → n ≡ 0
    → Ready tabulation ws scratch
early_ready tabulation ws scratch e z = early_none tabulation ws scratch (sym e ∙ z)

-- Reading words as a set. Words whose keys are one issue of each first part and fit are canonical exactly if they are
-- the image of their set, with 0 for every tier above 7: if they are, then that
-- set is theirs; and if they are canonical, then no tier is above 7.
module _ (tabulation ws : List ℕ) where
  abbrev P : Params
  P = params_of tabulation ws

  abbrev t : ℕ → ℕ
  t = tier_found tabulation ws

  pub canonical_small : canonical tabulation ws ≡ true → {c : ℕ} → In c (keys_in ws) → t c ≡ tier_in tabulation ws c
  canonical_small e i =
      small_same _ (canonical_tier tabulation ws e _ (in_tiered (tier_in tabulation ws) (keys_in ws) i))

  canonical_same : shaped ws ≡ true → one_issue (keys_in ws) ≡ true → fits P (keys_in ws) ≡ true
      → canonical tabulation ws ≡ same ws (image P (tiered t (keys_in ws)))
  canonical_same formed one fit =
      bool_ext (canonical tabulation ws) (same ws (image P (tiered t (keys_in ws))))
      (λ e. true_same ws (image P (tiered t (keys_in ws)))
      (rw (tiered_agree {t = t} (keys_in ws) (λ c. canonical_small e)) (canonical_true tabulation ws e).is))
      (λ e. (image_of_canonical tabulation ws formed refl (record {
        valid = record {
          keys = rw (keys_tiered t (keys_in ws)) (keys_in_valid ws);
          issues = rw (keys_tiered t (keys_in ws)) ((one_issue_iff (keys_in ws)).0 one);
          tiers = λ x i. rw (tiered_in t (keys_in ws) i) (small_le (tier_in tabulation ws x.key));
        };
        fit = rw (keys_tiered t (keys_in ws)) fit;
        is = same_true ws (image P (tiered t (keys_in ws))) e;
      })).2)

-- Keys that are collected and listed can be read.
module _ {tabulation ws scratch mid : List ℕ} {r s station n : ℕ} (C : Collected tabulation ws scratch r s station n)
    (same_room : length mid ≡ length scratch)
    (D : Listed tabulation ws mid) where
  room_mid : used (slots_of ws) (places_of ws) ≤ length mid
  room_mid = omega (arith, C.ready.room, (formed C).sizes)

  -- what the comparison promises, of scratch as it is left
  abbrev Compared : List ℕ → Bool → Type 0
  Compared left b = (b ≡ canonical tabulation ws) × Listed tabulation ws left

  -- their issues can be looked at,
  keys_stand : keys_at n mid ≡ keys_in ws
  keys_stand = rw C.count (lined_keys D room_mid)

  pub collected_searchable : (n < length mid) × ValidKeys (keys_at n mid)
  collected_searchable = (omega (arith, C.count, collected_few C, room_mid), rw keys_stand (keys_in_valid ws))

  pub collected_issues : {b : Bool} → b ≡ one_issue (keys_at n mid) → b ≡ true → one_issue (keys_in ws) ≡ true
  collected_issues e q = sym (e ∙ ap one_issue keys_stand) ∙ q

  pub read_twice : {b : Bool} → b ≡ one_issue (keys_at n mid) → b ≡ false → Compared mid false
  unfolding canonical
  read_twice e q = let o : one_issue (keys_in ws) ≡ false = sym (e ∙ ap one_issue keys_stand) ∙ q in (rw o, D)

  -- and they can be built
  pub collected_buildable : Buildable r s n mid
  collected_buildable =
      rw (C.slots, C.places, C.count) (lined_buildable D room_mid (formed C).sizes (collected_few C))

  module _ (one : one_issue (keys_in ws) ≡ true) {after : List ℕ} {count : Option ℕ}
      (same : length after ≡ length mid) (B : Built r s n mid after count) where
    built_set : Built (slots_of ws) (places_of ws) (length (keys_in ws)) mid after count
    built_set = rw (← C.slots, ← C.places, ← C.count) B

    kept : Listed tabulation ws after
    kept = set_kept (keys_in_valid ws) (formed C).sizes (collected_few C) room_mid D same built_set

    pub read_full : count ≡ None → Compared after false
    unfolding canonical
    read_full e = let f = set_full (keys_in_valid ws) (formed C).sizes
        (collected_few C) room_mid D same built_set e in (rw (one, f), kept)

    module _ {k : ℕ} (e : count ≡ Some k) {b : Bool} (compared : b ≡ alike_in r s n ws k after) where
      read_compared : canonical tabulation ws ≡ b
      read_compared =
          let valid = keys_in_valid ws in
          canonical_same tabulation ws C.ready.shape one
          (set_made valid (formed C).sizes (collected_few C) room_mid D same built_set e).fit
          ∙ sym (set_alike tabulation ws (formed C) valid (collected_few C) room_mid D same built_set e)
          ∙ sym (rw (C.slots, C.places, C.count) at compared)

      pub read_told : Compared after b
      read_told = (sym read_compared, kept)

-- What load promises, of scratch as it is left: `before` is how it was lent.
module _ (tabulation ws before : List ℕ) where
  abbrev pub LoadTold : List ℕ → Result Header Refusal → Type 0
  LoadTold left l =
      (number l ≡ load_refusal tabulation ws before)
      × ((headings l ≡ load_headings tabulation ws before)
      × (load_refusal tabulation ws before ≡ done → LoadedSet tabulation ws left))

  -- 1, 2 or 3,
  refused_told : (refusal : Refusal) (left : List ℕ) → number_of refusal ≡ load_refusal tabulation ws before
      → LoadTold left (Err refusal)
  refused_told refusal left e =
      let t : eqb (load_refusal tabulation ws before) done ≡ false = ne_eqb _ done (λ q. refused refusal (e ∙ q)) in
      (e, (rw t, λ q. absurd (refused refusal (e ∙ q))))

  pub told_early : (refusal : Refusal) (left : List ℕ) → number_of refusal ≡ early_refusal tabulation ws (length before)
      → LoadTold left (Err refusal)
  unfolding early_refusal
  told_early refusal left e =
      refused_told refusal left
      (e ∙ sym (front_applies (early_refusals tabulation ws (length before)) ((not_canonical, not (canonical tabulation ws)) ∷ [])
      (λ q. refused refusal (e ∙ q))))

  module _ (ready : Ready tabulation ws before) {b : Bool} (compared : b ≡ canonical tabulation ws) where
    refusal_is : load_refusal tabulation ws before ≡ cond (not (canonical tabulation ws)) not_canonical done
    refusal_is = head_ready tabulation ws before [] ready

    -- 4,
    pub told_tampered : (left : List ℕ) → b ≡ false → LoadTold left (Err NotCanonical)
    told_tampered left q = refused_told NotCanonical left (sym (refusal_is ∙ (rw (sym compared ∙ q))))

    -- or the set.
    pub told_set : {left : List ℕ} {h : Header} → b ≡ true → h ≡ header_of ws → length left ≡ length before
        → Listed tabulation ws left → LoadTold left (Ok h)
    told_set q e same_room D =
        let c : canonical tabulation ws ≡ true = sym compared ∙ q in
        let n : load_refusal tabulation ws before ≡ done = refusal_is ∙ (rw c) in
        let t = eq-eqb (load_refusal tabulation ws before) done n in (
          sym n,
          (
            rw (t, e),
            λ z. record {
              ready = record
                  { full_length = ready.full_length; shape = ready.shape; room = omega (arith, ready.room) };
              image = c;
              lined = lined_agree D (tier_in tabulation ws) (λ k. canonical_small tabulation ws c);
            },
          ),
        )

  -- What a caller is told: a refusal,
  module _ {left : List ℕ} {l : Result Header Refusal} (T : LoadTold left l) where
    pub loaded_refused : {n : Refusal} → l ≡ Err n
        → (number_of n ≡ load_refusal tabulation ws before) × (number_of n ≡ done → ⊥)
    loaded_refused {n} e = (rw e at T.0, refused n)

    -- which is that of a call that tries other refusals behind 1 to 4;
    pub refused_first : {n : Refusal} → l ≡ Err n → (rest : List (ℕ × Bool))
        → number_of n ≡ first_refusal (first_refusals tabulation ws before ++ rest)
    refused_first e rest =
        let r = loaded_refused e in
        r.0 ∙ sym (front_applies (first_refusals tabulation ws before) rest (λ q. r.1 (r.0 ∙ q)))

    -- or the heading of the words, and their set stands in scratch;
    pub loaded_set : {h : Header} → l ≡ Ok h → LoadedSet tabulation ws left × (h ≡ header_of ws)
    loaded_set {h} e = (T.1.1 passed, heading_is)
      where
        passed : load_refusal tabulation ws before ≡ done
        passed = sym (rw e at T.0)

        headings_are : h ∷ [] ≡ header_of ws ∷ []
        headings_are = rw (e, passed) at T.1.0

        heading_is : h ≡ header_of ws
        heading_is = cc headings_are

    -- then none of 1 to 4 applies, and other refusals are tried.
    pub loaded_passes : {h : Header} → l ≡ Ok h → (rest : List (ℕ × Bool))
        → first_refusal (first_refusals tabulation ws before ++ rest) ≡ first_refusal rest
    loaded_passes e rest =
        let passed : load_refusal tabulation ws before ≡ done = sym (rw e at T.0) in
        front_passes (first_refusals tabulation ws before) rest
        (front_none (first_refusals tabulation ws before) [] passed refl)
