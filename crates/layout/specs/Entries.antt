-- A set is keys, each with what travels with it, its tier: a list of entries, ascending in the key. Seats, stash and next go by the keys alone. The definitions
-- come first: a reader must believe them. Assumes nothing.
use Rattle.std.specs.Prelude.{ℕ, zero, suc, ◌≡◌, refl, cond, eqb, length, replicate}
use Rattle.std.proofs.Common.{sym, ap, inl, inr, arith, eq-eqb, ne_eqb}
use mathlib.Core.List.Memᴰ.{head as here}
use mathlib.Core.List.Memᴰ.{tail as there}
use mathlib.Core.List.{List, [], ◌∷◌, ◌++◌, Memᴰ as In}
use Rattle.basics.specs.Sets.{Asc, some}

-- a key and its tier
pub record Entry : Type 0 where
  pub key : ℕ
  pub tier : ℕ

-- "Each card gets a tier, 0 to 7"
abbrev pub max_tier : ℕ
max_tier = 7

abbrev pub keys_of : List Entry → List ℕ
keys_of [] = []
keys_of (e ∷ L) = e.key ∷ keys_of L

-- the tier of the first entry with this key, 0 where there is none
abbrev pub tier_of : List Entry → ℕ → ℕ
tier_of [] c = 0
tier_of (e ∷ L) c = cond (eqb c e.key) e.tier (tier_of L c)

-- the keys S, each with the tier that t gives
abbrev pub tiered : (ℕ → ℕ) → List ℕ → List Entry
tiered t [] = []
tiered t (c ∷ S) = record { key = c; tier = t c } ∷ tiered t S

-- an empty slot or place
abbrev pub no_entry : Entry
no_entry = record { key = 0; tier = 0 }
