-- The laws of what specs/Chain.antt defines.
use Rattle.std.specs.Prelude.{ℕ, suc, ◌+◌, ◌-◌, ◌≤◌, ◌<◌, ◌≡◌, List, length, get_or, set}
use Rattle.std.proofs.Common.{◌∙◌, ap, inl, inr, arith}
use Rattle.std.proofs.Math.ListN.{length-set}
use Rattle.std.proofs.Math.Seq.{get_or-set_same, get_or-set_other}
use Rattle.basics.proofs.Tests.{eq?}
use Rattle.partition.specs.Words.{Representative, walk, size_of, Mergeable, linked}
use Rattle.partition.proofs.Words.{walk_stop, walk_step}
use Rattle.partition.specs.Chain.{Chain, top, up}

pub chain_rep : {words : List ℕ} {v k r : ℕ} → Chain words v k r → v < length words → Representative words r
chain_rep (top h) l = record { inside = l; marked = h }
chain_rep (up e h ch) l = chain_rep ch h

-- a walk of so many steps, or of more, ends at the representative
pub chain_walk : {words : List ℕ} {v k r : ℕ} → Chain words v k r → (j : ℕ) → k ≤ j → walk words j v ≡ r
chain_walk {words} {v} (top h) j l = walk_stop words j v h
chain_walk {words} {v} (up e h ch) j l = rw (walk_step words j v (omega arith) (omega arith), e) (chain_walk ch (j - 1) (omega arith))

-- one of two different representatives, the child, goes under the other, the parent
module _ {words : List ℕ} {child parent : ℕ} (two : Mergeable words child parent) where
  pub linked_length : length (linked words child parent) ≡ length words
  unfolding linked
  linked_length = simp length-set

  pub linked_child : get_or (linked words child parent) child 0 ≡ parent
  unfolding linked
  linked_child =
      get_or-set_other (set words child parent) parent child (get_or words parent 0 + size_of words child) 0 two.differ
      ∙ get_or-set_same words child parent 0 two.one.inside

  linked_parent : get_or (linked words child parent) parent 0 ≡ get_or words parent 0 + size_of words child
  unfolding linked
  linked_parent =
      get_or-set_same (set words child parent) parent (get_or words parent 0 + size_of words child) 0 (simp length-set two.other.inside)

  pub linked_other : (v : ℕ) → (v ≡ child → ⊥) → (v ≡ parent → ⊥) → get_or (linked words child parent) v 0 ≡ get_or words v 0
  unfolding linked
  linked_other v nc np =
      get_or-set_other (set words child parent) parent v (get_or words parent 0 + size_of words child) 0 np ∙ get_or-set_other words child v parent 0 nc

  pub size_parent : size_of (linked words child parent) parent ≡ size_of words parent + size_of words child
  unfolding size_of
  size_parent = omega (arith, linked_parent, linked_length, two.other.marked)

  pub size_other : (v : ℕ) → (v ≡ child → ⊥) → (v ≡ parent → ⊥) → size_of (linked words child parent) v ≡ size_of words v
  unfolding size_of
  size_other v nc np = omega (arith, linked_other v nc np, linked_length)

  -- a slot that has a parent keeps it
  has_parent : (v : ℕ) {p : ℕ} → get_or words v 0 ≡ p → p < length words → get_or (linked words child parent) v 0 ≡ p
  has_parent v e h =
      linked_other v
      (λ q. omega (arith, ap (λ (x : ℕ). get_or words x 0) q, two.one.marked))
      (λ q. omega (arith, ap (λ (x : ℕ). get_or words x 0) q, two.other.marked))
      ∙ e

  climb :
      {v p k r : ℕ} → get_or words v 0 ≡ p → p < length words → Chain (linked words child parent) p k r
      → Chain (linked words child parent) v (suc k) r
  climb {v} e h ch = up (has_parent v e h) (omega (arith, linked_length)) ch

  -- a chain to another representative stays as it is
  pub chain_other : {v k r : ℕ} → Chain words v k r → (r ≡ child → ⊥) → Chain (linked words child parent) v k r
  chain_other {v} (top h) ne =
      elim (eq? v parent) [
        | inl e ↦ top {v = v} (rw e (omega (arith, linked_parent, linked_length, two.other.marked)))
        | inr np ↦ top {v = v} (omega (arith, linked_other v ne np, linked_length))
      ]
  chain_other (up e h ch) ne = climb e h (chain_other ch ne)

  -- a chain to the child goes one step further, to the parent
  pub chain_child : {v k r : ℕ} → Chain words v k r → r ≡ child → Chain (linked words child parent) v (suc k) parent
  chain_child {v} (top h) e =
      let last : Chain (linked words child parent) parent 0 parent = top {v = parent} (omega (arith, linked_parent, linked_length, two.other.marked)) in
      rw e (up linked_child (omega (arith, linked_length, two.other.inside)) last)
  chain_child (up q h ch) e = climb q h (chain_child ch e)
