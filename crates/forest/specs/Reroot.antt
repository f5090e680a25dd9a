-- Re-rooting: a slot of a tree is made its root, and a key left there. Every key on the way from the slot to the old root moves to its other
-- slot, so that it leads the other way. (Sleator and Tarjan call it "evert".)
-- First the loop as a function that computes, with its steps; then the law that it does what is said. Assumes nothing.
use Rattle.std.specs.Prelude.{ℕ, zero, suc, ◌≡◌, cond, List, eqb, length, get_or, set}
use Rattle.cuckoo.specs.Joined.{Joined}
use Rattle.forest.specs.Oriented.{Oriented}

-- `other v c` is the other slot of the key c that stands in slot v
module _ (other : ℕ → ℕ → ℕ) where
  -- at most n steps: the carried key goes into slot v, and the key that was there is carried on to its other slot; a bare slot ends it
  unfoldable pub reroot : ℕ → List ℕ → ℕ → ℕ → List ℕ
  reroot zero h carry v = h
  reroot (suc n) h carry v =
      cond (eqb (get_or h v 0) 0) (set h v carry) (reroot n (set h v carry) (get_or h v 0) (other v (get_or h v 0)))

module _ (a b : ℕ → ℕ) where
  -- `out` is h with the tree of slot v re-rooted there, and `carry` put into v: but for that key v is the root, and the other trees stay
  pub record Rerooted (F h : List ℕ) (carry v : ℕ) (out : List ℕ) : Type 0 where
    pub put : get_or out v 0 ≡ carry
    pub turned : Oriented a b F (set out v 0) v
    pub frame : (x : ℕ) → (Joined a b F v x → ⊥) → get_or out x 0 ≡ get_or h x 0
    pub size : length out ≡ length h
