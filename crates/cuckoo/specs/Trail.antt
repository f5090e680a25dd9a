-- The trail of a key: why it sits where it sits (document 02, "Two"). `other`, `trail_from` and `trail` are definitions that compute, and what a reader must
-- believe; the rest is theorems: the trail of a key of a settled set is never cut short, ends with the root, has no key twice, and stays
-- in the key's component. Assumes nothing.
use Rattle.std.specs.Prelude.{ℕ, zero, suc, ◌<◌, ◌≤◌, ◌≡◌, Bool, true, false, not, cond, ◌&&◌, ◌⊎◌, eqb, length, get_or}
use Rattle.std.proofs.Common.{zero-le, sym, ◌∙◌, ap, arith, not-suc-le-zero, eqb-true, eq-eqb, ne_eqb}
use Rattle.std.proofs.Math.Path.{refl}
use Rattle.std.proofs.Math.Bool.{true≢false, false≢true}
use Rattle.std.proofs.Math.Logic.{inl, inr}
use mathlib.Core.List.Memᴰ.{head as here}
use mathlib.Core.List.Memᴰ.{tail as there}
use mathlib.Core.List.{List, [], ◌∷◌, ◌++◌, Memᴰ as In}
use mathlib.Core.List.Memᴰ.{eq_of_singleton as in-singleton}
use mathlib.Core.List.Memᴰ.{not-nil as in-nil}
use Rattle.std.proofs.lemmas.Bool.{eqb-false}
use Rattle.std.proofs.Math.Dec.{T}
use Rattle.basics.specs.Tests.{test}
use Rattle.basics.specs.Sets.{member, keep, without, first, last, Sub, Asc}
use Rattle.basics.specs.Lists.{same, Picked, upto}
use Rattle.cuckoo.specs.Graph.{label, joined, component, is_on_cycle, cyclic, spare, settle, seated, stash, root, sits, occupant}
use Rattle.cuckoo.specs.Joined.{Joined}
use Rattle.cuckoo.specs.Settling.{Settled}
use Rattle.cuckoo.specs.Seating.{Ends, from_a, from_b}
use Rattle.cuckoo.specs.Walks.{Distinct, nil, new}
use Rattle.cuckoo.specs.Tree.{Far}
use Rattle.cuckoo.specs.Places.{hung, at_root, at_far, Seat}
use Rattle.cuckoo.specs.Rows.{board_0, board_1}

module _ (a b : ℕ → ℕ) where
  -- The other slot of the key c: the one in which it does not sit. (Of a tree's root, which sits in both, it is never asked: there the trail ends.)
  unfoldable pub other : List ℕ → ℕ → ℕ
  other T c = cond (eqb (occupant a b T (a c)) c) (b c) (a c)

  -- "each next one is the card sitting in the last one's other pocket. It ends with the root": at most n keys, from c on
  unfoldable pub trail_from : ℕ → List ℕ → ℕ → List ℕ
  trail_from zero T c = []
  trail_from (suc n) T c = c ∷ cond (eqb c (root a b T (a c))) [] (trail_from n T (occupant a b T (other T c)))

  -- "The trail starts with a seated card": T is a set that has settled, and a key that is not in it has an empty trail. As many steps as T has keys are
  -- enough (`trail_whole`).
  unfoldable pub trail : List ℕ → ℕ → List ℕ
  trail T c = cond (member c T) (trail_from (length T) T c) []

  -- The laws. The keys L are the whole trail from c on: the root ends it, and any other key hands on to the key in its other slot.
  pub data Trail (T : List ℕ) : ℕ → List ℕ → Type 0 where
    ends : {c : ℕ} → c ≡ root a b T (a c) → Trail T c (c ∷ [])
    hands_on : {c : ℕ} {L : List ℕ} → (c ≡ root a b T (a c) → ⊥) → Trail T (occupant a b T (other T c)) L → Trail T c (c ∷ L)

  -- the slot in which a key of T sits (table 0 for one that sits in both)
  unfoldable pub seat : List ℕ → ℕ → ℕ
  seat T c = cond (eqb (occupant a b T (a c)) c) (a c) (b c)
