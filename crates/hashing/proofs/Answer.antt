-- The laws of what specs/Answer.antt defines.
use Rattle.std.specs.Prelude.{ℕ, Bool, not, ◌&&◌, eqb, length}
use Rattle.std.proofs.Math.Bool.{true, false, cond}
use Rattle.std.proofs.Math.Path.{◌≡◌, refl}
use Rattle.std.proofs.Common.{arith, eq-eqb, ne_eqb}
use mathlib.Core.List.{List, [], ◌∷◌, Memᴰ as In}
use Rattle.refusals.specs.Refusal.{done, wrong_tabulation, wrong_shape, blank_key, first_refusal}
use Rattle.refusals.proofs.Refusals.{first_refusal_in}
use Rattle.hashing.specs.Hash.{tabulation_length, slots_in_range, station_in_range, blank, Family, hash}
use Rattle.hashing.specs.Answer.{hashes_refusals, hashes_refusal, hashes_values, written}

-- The laws. They are tried "in that order": 1 for every tabulation of another length, whatever else applies,
pub hashes_tabulation_first : (F : Family) (key : ℕ) → (length F.tabulation ≡ tabulation_length → ⊥)
    → hashes_refusal F key ≡ wrong_tabulation
unfolding hashes_refusal
hashes_tabulation_first F key n = rw (ne_eqb _ _ n)

-- and then 2 wherever r or the station is out of its range, for a blank key, too
pub hashes_shape_second : (F : Family) (key : ℕ) → length F.tabulation ≡ tabulation_length
    → slots_in_range F.slots && station_in_range F.station ≡ false → hashes_refusal F key ≡ wrong_shape
unfolding hashes_refusal
hashes_shape_second F key e out = rw (eq-eqb _ _ e, out)

-- "it gives both places, or 1, 2 .. or 5", and nothing else:
pub hashes_answer_in : (F : Family) (key : ℕ) → In (hashes_refusal F key) (0 ∷ 1 ∷ 2 ∷ 5 ∷ [])
unfolding hashes_refusal
hashes_answer_in F key = first_refusal_in (hashes_refusals F key)

-- Those that the code's proofs use.

module _ (F : Family) (key old : ℕ) where
  -- what the values of an answer say of the out-parameters
  pub written_at : {h0 h1 : ℕ} → h0 ∷ h1 ∷ [] ≡ hashes_values F key → (h0 ≡ written F key 0 old) × (h1 ≡ written F key 1 old)
  unfolding hashes_values written
  written_at {h0} {h1} = go (eqb (hashes_refusal F key) done)
    where
      go : (t : Bool) → h0 ∷ h1 ∷ [] ≡ cond t (hash F 0 key ∷ hash F 1 key ∷ []) []
          → (h0 ≡ cond t (hash F 0 key) old) × (h1 ≡ cond t (hash F 1 key) old)
      go true e = (cc, cc)
      go false e = absurd (let z : ◌≡◌ {A = ℕ} 0 1 = cc in omega arith)

  pub written_refused : [] ≡ hashes_values F key → (table : ℕ) → old ≡ written F key table old
  unfolding hashes_values written
  written_refused e table = go (eqb (hashes_refusal F key) done) e
    where
      go : (t : Bool) → [] ≡ cond t (hash F 0 key ∷ hash F 1 key ∷ []) [] → old ≡ cond t (hash F table key) old
      go true e = absurd (let z : ◌≡◌ {A = ℕ} 0 1 = cc in omega arith)
      go false e = refl
