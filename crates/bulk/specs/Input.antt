-- The input of a bulk load: what the tests over it mean, word by word and as a whole. An input that passes is a set,
-- and every set is an input. Assumes nothing.
use Rattle.std.specs.Prelude.{ℕ, zero, suc, ◌+◌, ◌*◌, ◌/◌, ◌%◌, ◌≤◌, ◌<◌, ◌≡◌, refl, Bool, true, false, not, ◌&&◌, ◌||◌, ◌↔◌, ltb, length, get_or, drop}
use Rattle.std.proofs.Common.{sym, ◌∙◌, ap, true≢false, add-one, arith, eq-eqb, ne_eqb, ltb-false, lt-ltb, le-ltb, drop-cons}
use mathlib.Core.List.Memᴰ.{head as here}
use mathlib.Core.List.Memᴰ.{tail as there}
use mathlib.Core.List.{List, [], ◌∷◌, Memᴰ as In}
use Rattle.std.proofs.lemmas.Bool.{not-false}
use Rattle.std.proofs.Math.Seq.{drop-length}
use Rattle.basics.specs.Sets.{any, Asc, none, some}
use Rattle.basics.specs.Lists.{rises}
use Rattle.refusals.specs.Refusal.{None, and}
use Rattle.refusals.specs.Refusal as Refusal
use Rattle.hashing.specs.Hash.{blank}
use Rattle.layout.specs.Entries.{Entry, max_tier, keys_of, tier_of}
use Rattle.layout.specs.Layout.{ValidKeys, ValidSet, OneIssue}
use Rattle.bulk.specs.Bulk.{input_keys, input_tiers, input_set, odd_length, rising, input_refusals}

-- an input of which none of 5, 9, 14 and 13 is given
pub record SoundInput (input : List ℕ) : Type 0 where
  pub even : odd_length input ≡ false
  pub valid : ValidKeys (input_keys input)
  pub issues : OneIssue (input_keys input)
  pub tiers : (t : ℕ) → In t (input_tiers input) → t ≤ max_tier

-- a set as an input
unfoldable pub input_of : List Entry → List ℕ
input_of [] = []
input_of (e ∷ L) = e.key ∷ e.tier ∷ input_of L
