-- Whether given words are the canonical image of a set, decided by a computation: the keys that stand in the words make a set, and the words must be
-- its image. The definitions come first; the theorems say that no other set has to be tried, and that differing sets have differing images.
-- Assumes nothing.
use Rattle.std.specs.Prelude.{ℕ, suc, ◌+◌, ◌≤◌, ◌<◌, ◌≡◌, refl, Bool, true, ◌&&◌, ◌↔◌, ltb, get_or}
use Rattle.std.proofs.Common.{sym, ◌∙◌, ap, true≢false, arith}
use Rattle.std.proofs.Math.Bool.{false, not}
use Rattle.std.proofs.Math.Logic.{inl, inr}
use mathlib.Core.List.{List, Memᴰ as In}
use borrow.Author.Tests.{ltb-true, ltb-false, not-true}
use Rattle.basics.specs.Tests.{test}
use Rattle.basics.specs.Sets.{any}
use Rattle.basics.specs.Lists.{same}
use Rattle.layout.specs.Entries.{Entry, max_tier, keys_of}
use Rattle.hashing.specs.Hash.{first_part, blank}
use Rattle.layout.specs.Layout.{Params, ValidKeys, ValidSet, OneIssue, one_issue, key_at, slots_of, params_of, params_in_range, shaped, fits, image, keys_in, tier_in, set_in}
use Rattle.layout.specs.Standing.{KeyWord}

-- The words are a canonical image: the keys that stand in them are one issue of each first part, they fit, the tiers at which they are found are 0 to 7, and the
-- words are the image of the set of these keys with these tiers (`same`, of basics/specs/Lists, is equality of lists).
unfoldable pub canonical : List ℕ → List ℕ → Bool
canonical tabulation ws =
    one_issue (keys_in ws) && fits (params_of tabulation ws) (keys_in ws) && not (any (λ c. ltb max_tier (tier_in tabulation ws c)) (keys_in ws))
    && same ws (image (params_of tabulation ws) (set_in tabulation ws))

-- The laws. First the same as a statement: the words are the image of L, a set that fits.
pub record ImageOf (P : Params) (L : List Entry) (ws : List ℕ) : Type 0 where
  pub valid : ValidSet L
  pub fit : fits P (keys_of L) ≡ true
  pub is : ws ≡ image P L

-- the computation decides

module _ (tabulation ws : List ℕ) where
  abbrev pub P : Params
  P = params_of tabulation ws
