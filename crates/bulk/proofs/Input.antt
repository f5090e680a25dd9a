-- The laws of what specs/Input.antt defines.
use Rattle.std.specs.Prelude.{ℕ, zero, suc, ◌+◌, ◌*◌, ◌/◌, ◌%◌, ◌≤◌, ◌<◌, ◌≡◌, refl, Bool, true, false, not, ◌&&◌, ◌||◌, ◌↔◌, ltb, length, get_or, drop}
use Rattle.std.proofs.Common.{sym, ◌∙◌, ap, true≢false, add-one, arith, eq-eqb, ne_eqb, ltb-false, lt-ltb, le-ltb, drop-cons}
use mathlib.Core.List.Memᴰ.{head as here}
use mathlib.Core.List.Memᴰ.{tail as there}
use mathlib.Core.List.{List, [], ◌∷◌, Memᴰ as In}
use Rattle.std.proofs.lemmas.Bool.{not-false}
use Rattle.std.proofs.Math.Seq.{drop-length}
use Rattle.basics.proofs.Tests.{or_false}
use Rattle.basics.specs.Sets.{any, Asc, none, some}
use Rattle.basics.proofs.Sets.{any_false, false_any}
use Rattle.basics.proofs.Lists.{get_or_in, rises_asc, asc_rises}
use Rattle.basics.specs.Lists.{rises}
use Rattle.refusals.specs.Refusal.{None, and}
use Rattle.refusals.specs.Refusal as Refusal
use Rattle.hashing.specs.Hash.{blank}
use Rattle.hashing.proofs.Issues.{not_blank_iff}
use Rattle.layout.specs.Entries.{Entry, max_tier, keys_of, tier_of}
use Rattle.layout.specs.Layout.{ValidKeys, ValidSet, OneIssue}
use Rattle.layout.proofs.IssuesAfter.{one_issue_iff}
use Rattle.bulk.specs.Bulk.{input_keys, input_tiers, input_set, odd_length, rising, input_refusals}
use Rattle.bulk.specs.Input.{SoundInput, input_of}

-- The laws. Key i is word 2i and its tier the word after it.
pub input_count : (input : List ℕ) → length (input_keys input) ≡ (length input + 1) / 2
unfolding input_keys
input_count [] = refl
input_count (c ∷ []) = refl
input_count (c ∷ t ∷ ws) = omega (arith, input_count ws)

pub tier_count : (input : List ℕ) → length (input_tiers input) ≡ length input / 2
unfolding input_tiers
tier_count [] = refl
tier_count (c ∷ []) = refl
tier_count (c ∷ t ∷ ws) = omega (arith, tier_count ws)

twice_next : (i : ℕ) → 2 * suc i ≡ suc (suc (2 * i))
twice_next i = omega arith

pub input_key : (input : List ℕ) (i : ℕ) → get_or (input_keys input) i 0 ≡ get_or input (2 * i) 0
unfolding input_keys
input_key [] i = refl
input_key (c ∷ []) zero = refl
input_key (c ∷ []) (suc i) = rw (twice_next i)
input_key (c ∷ t ∷ ws) zero = refl
input_key (c ∷ t ∷ ws) (suc i) = rw (twice_next i) (input_key ws i)

pub input_tier : (input : List ℕ) (i : ℕ) → get_or (input_tiers input) i 0 ≡ get_or input (2 * i + 1) 0
unfolding input_tiers
input_tier [] i = refl
input_tier (c ∷ []) i = rw (add-one (2 * i))
input_tier (c ∷ t ∷ ws) zero = refl
input_tier (c ∷ t ∷ ws) (suc i) = rw (twice_next i, add-one, ← add-one (2 * i)) (input_tier ws i)

-- "odd number of words": two words fewer are as odd
odd_next : (c t : ℕ) (ws : List ℕ) → odd_length (c ∷ t ∷ ws) ≡ odd_length ws
odd_next c t ws = let e : suc (suc (length ws)) % 2 ≡ length ws % 2 = omega arith in rw e

pub even_size : (input : List ℕ) → odd_length input ≡ false → length input ≡ 2 * length (input_keys input)
even_size input e =
    let n : length input % 2 ≡ 1 → ⊥ = λ q. true≢false (sym (eq-eqb (length input % 2) 1 q) ∙ e) in
    omega (arith, input_count input, n)

-- in an input of even length every key has its tier
pub even_keys : (input : List ℕ) → odd_length input ≡ false → keys_of (input_set input) ≡ input_keys input
unfolding input_keys input_set
even_keys [] e = refl
even_keys (c ∷ []) e = absurd (true≢false e)
even_keys (c ∷ t ∷ ws) e = ap (λ (S : List ℕ). c ∷ S) (even_keys ws (sym (odd_next c t ws) ∙ e))

pub entry_tier : (input : List ℕ) {x : Entry} → In x (input_set input) → In x.tier (input_tiers input)
unfolding input_tiers input_set
entry_tier (c ∷ t ∷ ws) (here q) = here (ap (λ (y : Entry). y.tier) q)
entry_tier (c ∷ t ∷ ws) (there i) = there (entry_tier ws i)
entry_tier [] x5 = elim x5 [ ]
entry_tier (c ∷ []) x9 = elim x9 [ ]

-- the tier of key i, where the keys ascend
pub tier_given : (input : List ℕ) → Asc (input_keys input) → (i : ℕ) → i < length (input_tiers input)
    → tier_of (input_set input) (get_or (input_keys input) i 0) ≡ get_or (input_tiers input) i 0
unfolding input_keys input_tiers input_set
tier_given [] asc i l = absurd (omega arith)
tier_given (c ∷ []) asc i l = absurd (omega arith)
tier_given (c ∷ t ∷ ws) asc zero l = rw (eq-eqb c c refl)
tier_given (c ∷ t ∷ ws) (some h asc) (suc i) l =
    let m : i < length (input_keys ws) = omega (arith, input_count ws, tier_count ws) in
    let d = h (get_or (input_keys ws) i 0) (get_or_in (input_keys ws) i m) in
    rw (ne_eqb (get_or (input_keys ws) i 0) c (λ q. omega arith)) (tier_given ws asc i (omega arith))

-- "strictly rising": as a test of one key after the other,
pub rising_next : (c : ℕ) (S : List ℕ) → rising (c ∷ S) ≡ rises c S
unfolding rising
rising_next c [] = refl
rising_next c (d ∷ S) = rw (rising_next d S)

-- and it means that the keys ascend, equal neighbours excluded
pub rising_iff : (S : List ℕ) → (rising S ≡ true) ↔ Asc S
unfolding rising
rising_iff [] = (λ e. none, λ a. refl)
rising_iff (c ∷ S) = (
  λ e. let r = rises_asc c S (sym (rising_next c S) ∙ e) in some r.1 r.0,
  λ a. elim a [ some h asc ↦ rising_next c S ∙ asc_rises c S asc h ],
)

-- keys of which none is blank rise from 0
pub rising_start : (K : List ℕ) → any blank K ≡ false → rising K ≡ rises 0 K
unfolding rising
rising_start [] b = refl
rising_start (c ∷ K) b =
    let l : 0 < c = omega (arith, (not_blank_iff c).0 (any_false blank (c ∷ K) b c (here refl))) in
    rw (lt-ltb 0 c l) (rising_next c K)

pub tested_valid : (K : List ℕ) → any blank K ≡ false → rising K ≡ true → ValidKeys K
tested_valid K b r = record { asc = (rising_iff K).0 r; none_blank = any_false blank K b }

-- An input that passes is sound, and a sound one passes.
pub none_sound : (input : List ℕ) → None (input_refusals input) → SoundInput input
none_sound input (and b (and t (and r (and o Refusal.none)))) =
    let K = input_keys input in
    let p = or_false (odd_length input) (not (rising K)) r in
    record {
      even = p.0;
      valid = tested_valid K b (not-false _ p.1);
      issues = (one_issue_iff K).0 (not-false _ o);
      tiers = λ x i. ltb-false max_tier x (any_false (ltb max_tier) (input_tiers input) t x i);
    }

pub sound_none : (input : List ℕ) → SoundInput input → None (input_refusals input)
sound_none input h =
    let K = input_keys input in
    let r : (odd_length input || not (rising K)) ≡ false = rw (h.even, (rising_iff K).1 h.valid.asc) in
    and (false_any blank K h.valid.none_blank)
    (and (false_any (ltb max_tier) (input_tiers input) (λ x i. le-ltb max_tier x (h.tiers x i)))
    (and r (and (ap not ((one_issue_iff K).1 h.issues)) Refusal.none)))

-- It is a set.
pub sound_set : (input : List ℕ) → SoundInput input → ValidSet (input_set input)
sound_set input h =
    let k = even_keys input h.even in
    record { keys = rw k h.valid; issues = rw k h.issues; tiers = λ x i. h.tiers x.tier (entry_tier input i) }

-- Every set is an input, and a sound one.
pub input_of_keys : (L : List Entry) → input_keys (input_of L) ≡ keys_of L
unfolding input_of input_keys
input_of_keys [] = refl
input_of_keys (e ∷ L) = ap (λ (S : List ℕ). e.key ∷ S) (input_of_keys L)

pub input_of_set : (L : List Entry) → input_set (input_of L) ≡ L
unfolding input_of input_set
input_of_set [] = refl
input_of_set (e ∷ L) = ap (λ (M : List Entry). e ∷ M) (input_of_set L)

of_even : (L : List Entry) → odd_length (input_of L) ≡ false
unfolding input_of
of_even [] = refl
of_even (e ∷ L) = odd_next e.key e.tier (input_of L) ∙ of_even L

of_tier : (L : List Entry) {t : ℕ} → In t (input_tiers (input_of L)) → (e : Entry) × In e L × (e.tier ≡ t)
unfolding input_of input_tiers
of_tier (e ∷ L) (here q) = (e, here refl, sym q)
of_tier (e ∷ L) (there i) = let r = of_tier L i in (r.0, there r.1, r.2)
of_tier [] {t = t} x' = elim x' [ ]

pub input_of_sound : (L : List Entry) → ValidSet L → SoundInput (input_of L)
input_of_sound L valid = record {
  even = of_even L;
  valid = rw (input_of_keys L) valid.keys;
  issues = rw (input_of_keys L) valid.issues;
  tiers = λ t i. let r = of_tier L i in rw (← r.2) (valid.tiers r.0 r.1);
}

-- a test of one key after the other, for code
module _ (p : ℕ → Bool) (K : List ℕ) (i : ℕ) where
  pub any_next : i < length K → any p (drop i K) ≡ (p (get_or K i 0) || any p (drop (i + 1) K))
  any_next l = rw (add-one i, drop-cons K i 0 l)

  pub any_end : i ≡ length K → any p (drop i K) ≡ false
  any_end e = rw (e, drop-length K)

module _ (last : ℕ) (K : List ℕ) (i : ℕ) where
  pub from_next : i < length K
      → rises last (drop i K) ≡ (ltb last (get_or K i 0) && rises (get_or K i 0) (drop (i + 1) K))
  from_next l = rw (add-one i, drop-cons K i 0 l)

  pub from_end : i ≡ length K → rises last (drop i K) ≡ true
  from_end e = rw (e, drop-length K)
