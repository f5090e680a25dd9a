-- `next` runs through the keys of a component, ascending, and round. "The next number of a seated card is the next larger seated card of its group; the
-- largest points to the smallest; a lone card points to itself." Assumes nothing.
use Rattle.std.specs.Prelude.{ℕ, ◌+◌, ◌%◌, ◌<◌, ◌≤◌, ◌≡◌, ltb, length}
use Rattle.std.proofs.Math.Path.{sym}
use mathlib.Core.List.{List, Memᴰ as In}
use Rattle.std.proofs.Common.{arith, ltb-true, lt-ltb}
use Rattle.std.proofs.Math.ListN.{get_or}
use Rattle.cuckoo.specs.Graph.{component, next, seated, stash}
use Rattle.basics.specs.Sets.{Asc}
use Rattle.basics.specs.Lists.{passes, fails}
use Rattle.cuckoo.specs.Joined.{Joined}

module _ (a b : ℕ → ℕ) where
  -- x is a key of c's component: the smallest that is larger than c, or, if none is larger, the smallest of all
  pub data IsNext (T : List ℕ) (c x : ℕ) : Type 0 where
    larger : In x T → Joined a b T (a c) (a x) → c < x → ((d : ℕ) → In d T → Joined a b T (a c) (a d) → c < d → x ≤ d) → IsNext T c x
    around : In x T → Joined a b T (a c) (a x) → ((d : ℕ) → In d T → Joined a b T (a c) (a d) → c < d → ⊥)
        → ((d : ℕ) → In d T → Joined a b T (a c) (a d) → x ≤ d) → IsNext T c x
