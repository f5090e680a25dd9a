-- Step 5 of the build: each component is brought to its seats once, at its smallest rank: a tree by that rank, a cycle by the rank that closes it, which is noted
-- there too. Assumes nothing.
use Rattle.std.specs.Prelude.{ℕ, suc, ◌%◌, ◌/◌, ◌<◌, ◌≤◌, ◌≡◌, cond, eqb, ltb, length}
use mathlib.Core.List.{List, [], ◌∷◌, Memᴰ as In}
use Rattle.std.proofs.Math.ListN.{get_or}
use Rattle.cuckoo.specs.Graph.{seated, occupant}
use Rattle.basics.specs.Sets.{Asc}
use Rattle.cuckoo.specs.Forest.{forest}
use Rattle.cuckoo.specs.Seating.{Ends}
use Rattle.forest.specs.Oriented.{OrientedForest}
use Rattle.forest.specs.Finish.{finish_tree, finish_cycle}
use Rattle.build.specs.Labels.{Labels, Words}
use Rattle.build.specs.Notes.{pair_base, Noting, Going, Lows}

-- the m held words are the occupants of the slots
pub record Occupied (a b : ℕ → ℕ) (T : List ℕ) (m : ℕ) (held : List ℕ) : Type 0 where
  pub size : length held ≡ m
  pub is : (v : ℕ) → v < m → get_or held v 0 ≡ occupant a b T v

module _ (a b : ℕ → ℕ) (other : ℕ → ℕ → ℕ) (m : ℕ) (next notes : List ℕ) where
  -- one rank: only the smallest of its label, of a rank that is not in the stash
  unfoldable pub finish_rank : ℕ → List ℕ → List ℕ
  finish_rank c held =
      let l = get_or next c 0 in
      let x = get_or notes l 0 in
      cond (ltb l m) (cond (eqb (x % pair_base) c) (cond (ltb x pair_base) (finish_tree a b other (suc m) held c) (finish_cycle a b other (suc m) held (x / pair_base))) held) held

  -- ascending over the ranks
  unfoldable pub finish_ranks : List ℕ → List ℕ → List ℕ
  finish_ranks [] held = held
  finish_ranks (c ∷ R) held = finish_ranks R (finish_rank c held)

module _ {a b : ℕ → ℕ} {other : ℕ → ℕ → ℕ} (turn : (c v w : ℕ) → Ends a b c v w → other v c ≡ w) (m : ℕ) (fits : (c : ℕ) → (a c < m) × (b c < m))
    {S : List ℕ} (asc : Asc S) (two : (c : ℕ) → In c S → a c ≡ b c → ⊥)
    {h₀ : List ℕ} (W : OrientedForest a b (forest a b S) h₀) (few : length (forest a b S) ≤ m)
    {lab : ℕ → ℕ} (L : Labels a b S m lab) {words : List ℕ} (X : Words a b S m lab words) {low : List ℕ} (lowest : Lows m S words low)
    (inside : (x : ℕ) → In x S → (0 < x) × (x < pair_base)) {N : Noting} (G : Going a b m S lab words low [] N) where
  abbrev pub T : List ℕ
  T = seated a b S
