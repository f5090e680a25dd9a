-- The image of a set depends on its keys only through their order and their slots. Where f gives every key another number, larger to larger, and the two
-- slots stay, it is renamed by f: labels are the same; the seated keys, the stash, what a slot holds and what it points to are those of the set, renamed.
-- So an image can be made on ranks, 1 for the smallest key up to n for the largest, and the keys put in at the end (`ranked`). Assumes nothing.
use Prim.Native.Nat.{ℕ, zero, suc, ◌+◌, ◌<◌, ◌≤◌}
use Rattle.std.specs.Prelude.{◌≡◌, Bool, not, cond, eqb, ltb, length, get_or}
use Rattle.std.proofs.Math.Path.{refl}
use Rattle.std.proofs.Common.{sym, ap, arith, not-suc-le-zero}
use Rattle.std.proofs.Math.Bool.{true, false}
use Rattle.std.proofs.Math.Logic.{inl, inr}
use mathlib.Core.List.Memᴰ.{head as here}
use mathlib.Core.List.Memᴰ.{tail as there}
use mathlib.Core.List.{List, [], ◌∷◌, ◌++◌, map, map-append, Memᴰ as In}
use borrow.Author.Tests.{eqb-true, eq-eqb, ne_eqb, ltb-true, lt-ltb}
use Rattle.std.proofs.lemmas.List.{length-map}
use Rattle.basics.specs.Tests.{test}
use Rattle.basics.specs.Sets.{member, keep, any, first, last, without, Sub, Asc, none, some}
use Rattle.cuckoo.specs.Graph.{label, joined, component, is_on_cycle, cyclic, spare, settle, seated, stash, root, sits, occupant, next, slot_key, slot_next}

-- f renames the keys of S: the order stays (and no key becomes 0, which is no key), and so do the slots, which a and b give to new names, a' and b' to old
pub record Renames (f a b a' b' : ℕ → ℕ) (S : List ℕ) : Type 0 where
  pub no_key : f 0 ≡ 0
  pub up : (c d : ℕ) → In c (0 ∷ S) → In d S → c < d → f c < f d
  pub at_0 : (c : ℕ) → In c S → a (f c) ≡ a' c
  pub at_1 : (c : ℕ) → In c S → b (f c) ≡ b' c

-- ranks

-- the n numbers from i on
unfoldable pub from : ℕ → ℕ → List ℕ
from i zero = []
from i (suc n) = i ∷ from (suc i) n

-- The ranks of n keys, 1 .. n, and the key of each rank: 0 for 0, then the keys of K in their order.
abbrev pub ranks : ℕ → List ℕ
ranks n = from 1 n

abbrev pub ranked : List ℕ → ℕ → ℕ
ranked K i = get_or (0 ∷ K) i 0
