-- Step 6 over the parts of scratch: what the function of seating/src/next.rt leaves there, and why each turn of its loop is one step of the pass on lists
-- (Next). Assumes nothing.
use Rattle.std.specs.Prelude.{ℕ, ◌*◌, ◌≡◌}
use Rattle.cuckoo.specs.Renaming.{ranks}
use Rattle.build.specs.Next.{Chaining, chained, nexts}
use Rattle.build.specs.Scratch.{Parts, with_sets, with_next}

-- the notes and the words of the ranks, as they stand in the parts; and the parts with others
abbrev pub chaining_in : Parts → Chaining
chaining_in P = record { notes = P.sets; next = P.next }

abbrev pub with_chaining : Parts → Chaining → Parts
with_chaining P C = with_next (with_sets P C.notes) C.next

-- the parts after all ranks, and with 0 for no rank
abbrev pub chained_parts : (r n : ℕ) → Parts → Parts
chained_parts r n P = with_next (with_chaining P (chained (2 * r) (ranks n) (chaining_in P))) (nexts (2 * r) (ranks n) (chaining_in P))

-- The parts when the ranks to `rank` are still to come.
pub record Linked (r n : ℕ) (before : Parts) (rank : ℕ) (now : Parts) : Type 0 where
  pub rest : now ≡ with_chaining before (chaining_in now)
  pub to_come : chained (2 * r) (ranks n) (chaining_in before) ≡ chained (2 * r) (ranks rank) (chaining_in now)
