-- The image of a set: it is the one arrangement of its keys (`image_arranged`, `arranged_image`); look-up on it says
-- yes exactly for the set (`look_arranged`); and adding a key gives the image of the set with the key (`add_image`).
use Rattle.std.specs.Prelude.{ℕ, zero, suc, ◌+◌, ◌<◌, ◌≤◌, ◌≡◌, refl, ◌⊎◌, eqb, ltb, length, get_or, replicate}
use Rattle.std.proofs.Common.{sym, ◌∙◌, ap}
use Rattle.std.proofs.Math.Logic.{inl, inr}
use mathlib.Core.List.Memᴰ.{head as here}
use mathlib.Core.List.Memᴰ.{tail as there}
use mathlib.Core.List.{List, [], ◌∷◌, Memᴰ as In}
use native.Mathlib.Omega.{arith}
use Rattle.std.proofs.lemmas.List.{length-replicate}
use Rattle.std.proofs.Math.ListN.{get_or-eq_default}
use borrow.Author.Tests.{eq-eqb, ne_eqb, eqb-true, lt-ltb, ltb-true}
use Rattle.basics.specs.Sets.{member, Sub, Asc, none, some}
use Rattle.basics.specs.Lists.{upto}
use Rattle.ordered.specs.Keys.{with_key}
use Rattle.probing.specs.Rule.{after, place, placed, table_image, look}
use Rattle.probing.specs.Moves.{stop, displace, add}
use Rattle.probing.specs.Adding.{Arranged}

-- a set of keys, none of them below `low`
pub record KeySet (low : ℕ) (S : List ℕ) : Type 0 where
  pub asc : Asc S
  pub least : (c : ℕ) → In c S → low ≤ c
