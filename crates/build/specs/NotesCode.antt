-- Steps 3 and 4 over the parts of scratch: what the functions of noting/src/lib.rt leave there, and why each call and each turn of their loops is one step of
-- the passes on lists (Notes). Assumes nothing.
use Prim.Native.Nat.{ℕ, suc, ◌*◌, ◌-◌, ◌<◌, ◌≤◌}
use Rattle.std.specs.Prelude.{◌≡◌, get_or, replicate, Option, Some, None}
use mathlib.Core.List.{List, [], ◌∷◌}
use Rattle.std.proofs.Math.Bool.{false, cond}
use Rattle.cuckoo.specs.Renaming.{from, ranks}
use Rattle.build.specs.Notes.{lows, Noting, noted}
use Rattle.build.specs.Scratch.{Parts, with_stash, with_sets, with_next}

-- no note, and no rank in the stash; then the smallest rank of each label
abbrev pub cleared_parts : (r s : ℕ) → Parts → Parts
cleared_parts r s P = with_stash (with_sets P (replicate (2 * r) 0)) (replicate s 0)

abbrev pub smallest_parts : (r n : ℕ) → Parts → Parts
smallest_parts r n P = with_sets P (lows (2 * r) P.next (ranks n) P.sets)

-- the notes, the words of the ranks and the stash, as they stand in the parts; and the parts with others
abbrev pub noting_in : Parts → ℕ → Noting
noting_in P count = record { notes = P.sets; next = P.next; stash = P.stash; count = count; overflow = false }

abbrev pub with_noting : Parts → Noting → Parts
with_noting P N = with_next (with_sets (with_stash P N.stash) N.notes) N.next

-- how many ranks the stash has, or that there was no room for one more
abbrev pub answer : Noting → Option ℕ
answer N = cond N.overflow None (Some N.count)

-- one rank, where the stash has `count` so far; and those after i, n in all
abbrev pub rank_noted : (r rank count : ℕ) → Parts → Noting
rank_noted r rank count P = noted (2 * r) (rank ∷ []) (noting_in P count)

abbrev pub ranks_noted : (r n i count : ℕ) → Parts → Noting
ranks_noted r n i count P = noted (2 * r) (from (suc i) (n - i)) (noting_in P count)

-- the words of n ranks are labels, or labels and 2r more
pub record Labelled (r n : ℕ) (next : List ℕ) : Type 0 where
  pub low : (x : ℕ) → 0 < x → x ≤ n → get_or next x 0 < 4 * r

-- The parts when the ranks to `rank` are still to come in step 3.
pub record Lowing (r n : ℕ) (before : Parts) (rank : ℕ) (now : Parts) : Type 0 where
  pub rest : now ≡ with_sets before now.sets
  pub to_come : lows (2 * r) before.next (ranks n) before.sets ≡ lows (2 * r) before.next (ranks rank) now.sets

-- The parts when the ranks after i are still to come in step 4, and the stash has `count` so far.
pub record Closing (r n : ℕ) (before : Parts) (i count : ℕ) (now : Parts) : Type 0 where
  pub rest : now ≡ with_noting before (noting_in now count)
  pub to_come : ranks_noted r n 0 0 before ≡ ranks_noted r n i count now
  pub labelled : Labelled r n now.next
