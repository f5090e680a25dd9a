-- A reissued card is the same card (document 02, "Six"): the issue digit has no part in where keys sit. The list of a set is that of its first parts, each with
-- the issue put in that the set has of it: tiers and station aside, document 01's image of the first parts. So the test board, "every card multiplied by ten",
-- is document 01's, and a card that is issued anew sits where it sat. Assumes nothing.
use Prim.Native.Nat.{ℕ, zero, suc, ◌+◌, ◌*◌, ◌-◌, ◌<◌}
use Rattle.std.specs.Prelude.{◌≡◌, Bool, true, cond, eqb, length, take, drop, replicate}
use Rattle.std.proofs.Math.Path.{refl}
use Rattle.std.proofs.Common.{sym, ◌∙◌, ap, inl, inr, arith, eqb-true, eq-eqb, ne_eqb}
use mathlib.Core.List.Memᴰ.{head as here}
use mathlib.Core.List.Memᴰ.{tail as there}
use mathlib.Core.List.{List, [], ◌∷◌, ◌++◌, map, map-append, map-map, map-id, Memᴰ as In}
use Rattle.std.proofs.Math.ListN.{length-map}
use Rattle.basics.specs.Sets.{keep, first, without}
use Rattle.ordered.specs.Keys.{with_key}
use Rattle.cuckoo.specs.Graph.{stash, slot_key, slot_next}
use Rattle.cuckoo.specs.Renaming.{Renames}
use Rattle.hashing.specs.Hash.{first_part}
use Rattle.hashing.specs.Slots.{slot_0, slot_1}
use Rattle.hashing.specs.Stations.{Moved}
use Rattle.layout.specs.Entries.{Entry, keys_of}
use Rattle.layout.specs.Layout.{Params, ValidKeys, OneIssue, ValidSet, family, fits, fits_by, image}
use Rattle.layout.specs.Bare.{key_slots, key_image, bare, slot_0_01, slot_1_01, old_0, old_1}

-- document 01's words with another number in the place of each key: the first four words count, all others are keys, next numbers and zeros
abbrev pub renumbered : (ℕ → ℕ) → List ℕ → List ℕ
renumbered f ws = take 4 ws ++ map f (drop 4 ws)

-- f gives each key another issue of its first part, or the same
pub record Reissues (f : ℕ → ℕ) (S : List ℕ) : Type 0 where
  pub no_key : f 0 ≡ 0
  pub same_part : (c : ℕ) → In c S → first_part (f c) ≡ first_part c

-- One key issued anew: the set without it and with the new issue is the set, renumbered.
abbrev pub instead : ℕ → ℕ → ℕ → ℕ
instead c d x = cond (eqb x c) d x

-- The same of first parts, and with document 01's hash.

-- f gives each first part of T an issue of it
pub record Issued (f : ℕ → ℕ) (T : List ℕ) : Type 0 where
  pub no_part : f 0 ≡ 0
  pub issue_of : (part : ℕ) → In part T → first_part (f part) ≡ part

-- Every set is such a list of issues: each first part has the issue that the set has of it.
abbrev pub issue_in : List ℕ → ℕ → ℕ
issue_in S part = first (keep (λ c. eqb (first_part c) part) S)
