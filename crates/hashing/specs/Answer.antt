-- What a request for both hashes of a key answers, for every tabulation, r and key (document 01: "Called alone it gives both places, or 1, 2
-- (only for r outside its range) or 5 from the table below, in that order"; document 02: "a station above 255 .. is a 2, also where places are
-- worked out alone").
use Rattle.std.specs.Prelude.{ℕ, Bool, not, ◌&&◌, eqb, length, Result, Ok, Err}
use Rattle.std.proofs.Math.Bool.{true, false, cond}
use Rattle.std.proofs.Math.Path.{◌≡◌, refl}
use Rattle.std.proofs.Common.{arith, eq-eqb, ne_eqb}
use mathlib.Core.List.{List, [], ◌∷◌, Memᴰ as In}
use Rattle.refusals.specs.Refusal.{done, wrong_tabulation, wrong_shape, blank_key, first_refusal}
use Rattle.refusals.specs.declared.Refusal.{Refusal}
use Rattle.hashing.specs.Hash.{tabulation_length, slots_in_range, station_in_range, blank, Family, hash}

-- the values of an answer: the hash in table 0, then in table 1
abbrev pub values : Result (ℕ × ℕ) Refusal → List ℕ
values (Ok hashes) = hashes.0 ∷ hashes.1 ∷ []
values (Err refusal) = []

abbrev pub hashes_refusals : Family → ℕ → List (ℕ × Bool)
hashes_refusals F key =
    (wrong_tabulation, not (eqb (length F.tabulation) tabulation_length))
    ∷ (wrong_shape, not (slots_in_range F.slots && station_in_range F.station))
    ∷ (blank_key, blank key)
    ∷ []

unfoldable pub hashes_refusal : Family → ℕ → ℕ
hashes_refusal F key = first_refusal (hashes_refusals F key)

unfoldable pub hashes_values : Family → ℕ → List ℕ
hashes_values F key = cond (eqb (hashes_refusal F key) done) (hash F 0 key ∷ hash F 1 key ∷ []) []

-- what the out-parameter for a table holds after the exported call: the hash there, and after a refusal what it held before
unfoldable pub written : Family → ℕ → ℕ → ℕ → ℕ
written F key table old = cond (eqb (hashes_refusal F key) done) (hash F table key) old
