-- The set that an input is, brought to scratch: its keys, then their edges. And from there to the outcome, by what the
-- tests told and by what is committed. Assumes nothing.
use Rattle.std.specs.Prelude.{ℕ, ◌+◌, ◌*◌, ◌≤◌, ◌<◌, ◌≡◌, refl, Bool, List, [], ◌∷◌, ◌++◌, length, get_or, set, take}
use Rattle.std.proofs.Common.{sym, ◌∙◌, ap, inl, inr, arith, take-add}
use Rattle.std.proofs.Math.Seq.{paste}
use Rattle.basics.specs.Tests.{test}
use Rattle.basics.proofs.Lists.{get_or_in}
use Rattle.basics.proofs.Parts.{pasted_front, pasted_all}
use Rattle.refusals.specs.Refusal.{done, stash_full, first_refusal}
use Rattle.refusals.proofs.Refusals.{front_none}
use Rattle.hashing.specs.Hash.{Hashing, tables}
use Rattle.layout.specs.declared.Header.{Header}
use Rattle.layout.specs.Entries.{max_tier, tier_of, tiered}
use Rattle.layout.proofs.Entries.{tiered_self}
use Rattle.layout.specs.Layout.{Params, with_keys, fits}
use Rattle.layout.specs.Answers.{fresh_header}
use Rattle.layout.specs.Shape.{Sized}
use Rattle.layout.proofs.Shape.{ranged}
use Rattle.layout.proofs.Fitting.{crowded_unfit}
use Rattle.build.specs.Scratch.{edges_at, used}
use Rattle.scratch_set.specs.Edges.{edge_with, edge_of, Lined, EdgesTo, edges_start, edges_turn, edges_lined}
use Rattle.scratch_set.specs.Edges.{lined_buildable}
use Rattle.gateway.specs.Committing.{new_answer, new_words, Committable, Committed}
use Rattle.bulk.specs.Bulk.{params_for, input_keys, input_tiers, input_set, target_refusals}
use Rattle.bulk.specs.Bulk.{input_refusals, bulk_refusal, bulk_outcome}
use Rattle.bulk.specs.Input.{SoundInput}
use Rattle.bulk.proofs.Input.{none_sound, even_size, even_keys, tier_count, input_key, input_tier}
use Rattle.bulk.proofs.Input.{tier_given}
use Rattle.bulk.specs.Laws.{Layable, bulk_refused}
use Rattle.bulk.proofs.Laws.{none_layable, bulk_answer, bulk_done, bulk_target, bulk_input}
use Rattle.bulk.proofs.Laws.{bulk_fits}

-- the input can be brought to scratch
pub record Fillable (tabulation input scratch : List ℕ) (r s station n : ℕ) : Type 0 where
  pub hashing : Hashing tabulation r station
  pub places : s ≤ 64
  pub sound : SoundInput input
  pub count : n ≡ length (input_keys input)
  pub few : n ≤ 2 * r + s
  pub room : used r s ≤ length scratch

-- its keys stand there with their edges, which have the tiers that are given;
abbrev pub InputLined : List ℕ → ℕ → ℕ → ℕ → List ℕ → List ℕ → Type 0
InputLined tabulation r s station input scratch =
    Lined (params_for tabulation r s station) (tier_of (input_set input)) (input_keys input) scratch

-- these are being made
abbrev pub EdgesGiven : List ℕ → ℕ → ℕ → List ℕ → (before after : List ℕ) → (start i : ℕ) → Type 0
EdgesGiven tabulation r station input before after start i =
    EdgesTo (tables tabulation r station) (tier_of (input_set input)) (input_keys input) before after start i

-- what the call answers and leaves but for scratch
abbrev pub BulkLoaded : Params → List ℕ → List ℕ → List ℕ → ℕ → List ℕ → Type 0
BulkLoaded P input ws scratch n us =
    (n ≡ (bulk_outcome P input ws scratch).answer) × (us ≡ (bulk_outcome P input ws scratch).words)

-- The laws. The keys, behind word 0.
pub keys_brought : (K before after : List ℕ) {n : ℕ} → after ≡ paste before 1 K n → n ≡ length K → n < length before
    → get_or before 0 0 ≡ 0 → take (n + 1) after ≡ 0 ∷ K
keys_brought K before after {n} T e l z =
    let a : n + 1 ≡ 1 + n = omega arith in
    rw (a, take-add 1 n after, pasted_all before 1 K n T (omega arith) (omega arith) e)
    (ap (λ (xs : List ℕ). xs ++ K)
    (pasted_front before 1 K n T (omega arith) (omega arith) 1 (omega arith) ∙ word_0 before l z))
  where
    word_0 : (xs : List ℕ) → n < length xs → get_or xs 0 0 ≡ 0 → take 1 xs ≡ 0 ∷ []
    word_0 [] m q = absurd (omega arith)
    word_0 (x ∷ xs) m q = rw q

module _ {tabulation input scratch : List ℕ} {r s station n : ℕ}
    (h : Fillable tabulation input scratch r s station n) where
  pub fill_size : length input ≡ 2 * n
  fill_size = omega (arith, h.count, even_size input h.sound.even)

  pub fill_tier : (i : ℕ) → i < n → get_or input (2 * i + 1) 0 ≤ max_tier
  fill_tier i l =
      h.sound.tiers _
      (rw (input_tier input i) at (get_or_in (input_tiers input) i (omega (arith, fill_size, tier_count input))))

  -- their edges, one by one
  module _ {start : ℕ} (e : start ≡ edges_at r s) where
    pub fill_start : EdgesGiven tabulation r station input scratch scratch start 0
    fill_start = edges_start (omega (arith, h.count, h.few, h.room))

    module _ {after : List ℕ} {i : ℕ} (T : EdgesGiven tabulation r station input scratch after start i) where
      pub fill_turn : {x : ℕ} → i < n
          → x ≡ edge_with (tables tabulation r station) (get_or input (2 * i) 0) (get_or input (2 * i + 1) 0)
          → EdgesGiven tabulation r station input scratch (set after (start + i) x) start (i + 1)
      unfolding edge_of
      fill_turn l q =
          let t = tier_given input h.sound.valid.asc i (omega (arith, fill_size, tier_count input)) in
          edges_turn T (omega (arith, h.count)) (q ∙ (rw (t, input_key input i, input_tier input i)))

      pub fill_lined : i ≡ n → take (n + 1) scratch ≡ 0 ∷ input_keys input
          → InputLined tabulation r s station input after
      fill_lined k front =
          edges_lined {P = params_for tabulation r s station} (rw h.count at front) (rw e at T) (k ∙ h.count)
          (omega (arith, h.count, h.few))

-- The target and the input passed their tests: the input has room, or it has more keys than there are slots and places.
module _ {tabulation input : List ℕ} (ws scratch : List ℕ) {r s station : ℕ}
    (Y : Layable (params_for tabulation r s station) (length ws) (length scratch)) (S : SoundInput input) where
  abbrev P : Params
  P = params_for tabulation r s station

  abbrev K : List ℕ
  K = input_keys input

  pub load_sized : Sized r s × (station ≤ 255)
  load_sized = ranged r s station Y.range

  pub load_crowded : 2 * r + s < length K → (stash_full ≡ new_answer P K) × (ws ≡ new_words P (input_set input) ws)
  load_crowded l =
      let f = crowded_unfit P S.valid.asc load_sized.0.has_slots (omega arith) in
      (rw f, rw (even_keys input S.even, f))

  pub load_fillable : {n : ℕ} → n ≡ length K → n ≤ 2 * r + s → Fillable tabulation input scratch r s station n
  load_fillable e l = record {
    hashing = record {
      full_length = Y.full_length;
      has_slots = load_sized.0.has_slots;
      slots_bound = load_sized.0.slots_bound;
      station_bound = load_sized.1;
    };
    places = load_sized.0.places_bound;
    sound = S;
    count = e;
    few = l;
    room = omega (arith, Y.room, load_sized.0);
  }

  -- its set stands in scratch, and is committed under the heading of a fresh list with its number of keys
  module _ {n : ℕ} (e : n ≡ length K) (l : n ≤ 2 * r + s) {mid : List ℕ} (same : length mid ≡ length scratch)
      (D : InputLined tabulation r s station input mid) {h : Header}
      (q : h ≡ with_keys (fresh_header r s station) n) where
    pub load_committable : Committable h ws mid
    load_committable = rw (q, e) (record {
      sizes = load_sized.0;
      size = Y.size;
      buildable = lined_buildable D (omega (arith, Y.room, load_sized.0)) load_sized.0 (omega arith);
    })

    pub load_committed : {a : ℕ} {us : List ℕ} → Committed h ws mid a us
        → (a ≡ new_answer P K) × (us ≡ new_words P (input_set input) ws)
    load_committed c =
        let w = (rw q at c).by tabulation (tier_of (input_set input)) K S.valid e D in
        let k = even_keys input S.even in
        let L : tiered (tier_of (input_set input)) K ≡ input_set input =
        rw (← k) (tiered_self (input_set input) (rw k S.valid.asc)) in
        (w.0, rw L at w.1)

pub input_sound : (input : List ℕ) {n : ℕ} → n ≡ first_refusal (input_refusals input) → n ≡ 0 → SoundInput input
input_sound input e z = none_sound input (front_none (input_refusals input) [] (sym e ∙ z) refl)

-- What the call answers and leaves,
module _ (P : Params) (input ws scratch : List ℕ) where
  abbrev tests : List (ℕ × Bool)
  tests = target_refusals P (length ws) (length scratch)

  refused : {n : ℕ} → n ≡ bulk_refusal P input (length ws) (length scratch) → (n ≡ 0 → ⊥)
      → BulkLoaded P input ws scratch n ws
  refused e z =
      let a = e ∙ sym (bulk_answer P input ws scratch) in
      (a, sym (bulk_refused P input ws scratch (λ q. z (a ∙ q))))

  -- 1, 2 or 3;
  pub loaded_early : {n : ℕ} → n ≡ first_refusal tests → (n ≡ 0 → ⊥) → BulkLoaded P input ws scratch n ws
  loaded_early e z = refused (e ∙ sym (bulk_target P input (length ws) (length scratch) (λ q. z (e ∙ q)))) z

  pub early_layable : {n : ℕ} → n ≡ first_refusal tests → n ≡ 0 → Layable P (length ws) (length scratch)
  early_layable e z = none_layable P (length ws) (length scratch) (front_none tests [] (sym e ∙ z) refl)

  -- 5, 9, 14 or 13;
  pub loaded_input : {m n : ℕ} → m ≡ first_refusal tests → m ≡ 0
      → n ≡ first_refusal (input_refusals input) → (n ≡ 0 → ⊥) → BulkLoaded P input ws scratch n ws
  loaded_input d y e z =
      refused (e ∙ sym (bulk_input P input (length ws) (length scratch) (early_layable d y) (λ q. z (e ∙ q)))) z

  -- 8, or the image.
  pub loaded_set : {l m n : ℕ} {us : List ℕ} → l ≡ first_refusal tests → l ≡ 0
      → m ≡ first_refusal (input_refusals input) → m ≡ 0
      → (n ≡ new_answer P (input_keys input)) × (us ≡ new_words P (input_set input) ws)
      → BulkLoaded P input ws scratch n us
  loaded_set {n = n} {us} d y e z h =
      let S = input_sound input e z in
      let a = bulk_answer P input ws scratch
      ∙ bulk_fits P input (length ws) (length scratch) (early_layable d y) S in
      let k = even_keys input S.even in (
        h.0 ∙ sym a,
        h.1 ∙ (elim (test (fits P (input_keys input))) [
          | inl f ↦ rw (k, f) (sym (bulk_done P input ws scratch (a ∙ (rw f))))
          | inr f ↦ rw (k, f) (sym (bulk_refused P input ws scratch (λ q. full_done (sym (a ∙ (rw f)) ∙ q))))
        ]),
      )
    where
      full_done : stash_full ≡ done → ⊥
      full_done q = omega arith
