-- Step 6 of the build: next ranks, by rank. One pass, descending; the note of a label is the rank of that label last seen, and at the start the smallest, so that
-- the largest gets the smallest, and each smaller rank the one before it. A rank's word is its label until its turn. Assumes nothing.
use Rattle.std.specs.Prelude.{ℕ, ◌%◌, cond, ltb, get_or, set}
use mathlib.Core.List.{List, [], ◌∷◌}
use Rattle.build.specs.Notes.{pair_base}

-- the notes, and the words of the ranks, each a label or already a next rank
pub record Chaining : Type 0 where
  pub notes : List ℕ
  pub next : List ℕ

unfoldable pub chained : ℕ → List ℕ → Chaining → Chaining
chained m [] P = P
chained m (c ∷ R) P =
    let Q = chained m R P in
    let l = get_or Q.next c 0 in
    cond (ltb l m) (record { notes = set Q.notes l c; next = set Q.next c (get_or Q.notes l 0 % pair_base) }) Q

-- at the end no rank, 0, gets 0, so that an empty slot needs no test
unfoldable pub nexts : ℕ → List ℕ → Chaining → List ℕ
nexts m S P = set (chained m S P).next 0 0
