-- Steps 3 and 4 of the build: what is noted at each label, and the stash. First, descending over the ranks of the forest, the smallest of each label. Then,
-- ascending over the others, the first of each label, which is noted beside it; the rest of them are the stash. Assumes nothing.
use Rattle.std.specs.Prelude.{ℕ, suc, ◌+◌, ◌-◌, ◌*◌, ◌<◌, ◌≤◌, ◌≡◌, Bool, true, false, cond, ltb, set, drop}
use mathlib.Core.List.{List, [], ◌∷◌, ◌++◌, Memᴰ as In}
use Rattle.std.proofs.Math.ListN.{length, get_or}
use Rattle.std.proofs.lemmas.List.Edits.{sets}
use Rattle.cuckoo.specs.Graph.{seated, stash}
use Rattle.cuckoo.specs.Forest.{forest}

-- Step 3, and the notes of step 6: descending over the ranks whose word is a label, each is noted there. Of R the larger come first.
unfoldable pub lows : ℕ → List ℕ → List ℕ → List ℕ → List ℕ
lows m next [] notes = notes
lows m next (c ∷ R) notes = let s = lows m next R notes in cond (ltb (get_or next c 0) m) (set s (get_or next c 0) c) s

-- y is the smallest of R whose word is k, and `old` where there is none
pub data Least (next R : List ℕ) (k old y : ℕ) : Type 0 where
  found : In y R → get_or next y 0 ≡ k → ((x : ℕ) → In x R → get_or next x 0 ≡ k → y ≤ x) → Least next R k old y
  none_of : y ≡ old → ((x : ℕ) → In x R → get_or next x 0 ≡ k → ⊥) → Least next R k old y

-- the words `low` have the smallest for each label, and 0 where there is none
pub record Lows (m : ℕ) (S next low : List ℕ) : Type 0 where
  pub size : length low ≡ m
  pub at : (l : ℕ) → l < m → Least next S l 0 (get_or low l 0)

-- A word of the notes has two ranks: the smallest of the forest, and `pair_base` times the first of the others.
abbrev pub pair_base : ℕ
pair_base = 4096

-- the notes, a word for each label; the words of the ranks; the stash words, of which the first `count` are written; and whether one more was wanted
pub record Noting : Type 0 where
  pub notes : List ℕ
  pub next : List ℕ
  pub stash : List ℕ
  pub count : ℕ
  pub overflow : Bool

-- the rank c is noted at label l, and its word is the label
abbrev pub note_at : ℕ → ℕ → Noting → Noting
note_at l c N = record { notes = set N.notes l (get_or N.notes l 0 + pair_base * c); next = set N.next c l; stash = N.stash; count = N.count; overflow = N.overflow }

-- the rank c goes to the stash, and its word is m
abbrev pub stash_rank : ℕ → ℕ → Noting → Noting
stash_rank m c N = record { notes = N.notes; next = set N.next c m; stash = set N.stash N.count c; count = suc N.count; overflow = N.overflow }

abbrev pub overflowed : Noting → Noting
overflowed N = record { notes = N.notes; next = N.next; stash = N.stash; count = N.count; overflow = true }

-- before the first rank
abbrev pub nothing_noted : List ℕ → List ℕ → List ℕ → Noting
nothing_noted low next words = record { notes = low; next = next; stash = words; count = 0; overflow = false }

-- Step 4, ascending over the ranks. It ends at once where the stash words are full and one more rank is wanted there.
unfoldable pub noted : ℕ → List ℕ → Noting → Noting
noted m [] N = N
noted m (c ∷ R) N =
    let w = get_or N.next c 0 in
    cond (ltb w m) (noted m R N)
    (cond (ltb (get_or N.notes (w - m) 0) pair_base) (noted m R (note_at (w - m) c N))
    (cond (ltb N.count (length N.stash)) (noted m R (stash_rank m c N)) (overflowed N)))

-- What stands at label l when the ranks R are still to come.
pub data SeenAt (m : ℕ) (S next low R : List ℕ) (l x : ℕ) : Type 0 where
  none_yet : x ≡ get_or low l 0 → ((y : ℕ) → In y S → get_or next y 0 ≡ m + l → In y R) → SeenAt m S next low R l x
  one_seen : (d : ℕ) → x ≡ get_or low l 0 + pair_base * d → In d S → get_or next d 0 ≡ m + l → ((y : ℕ) → In y S → get_or next y 0 ≡ m + l → d ≤ y) → (In d R → ⊥)
      → SeenAt m S next low R l x

-- the word of a rank after this step
pub record RankPlaced (a b : ℕ → ℕ) (S : List ℕ) (m : ℕ) (lab : ℕ → ℕ) (next : List ℕ) (x : ℕ) : Type 0 where
  pub on : In x (seated a b S) → get_or next x 0 ≡ lab (a x)
  pub off : (In x (seated a b S) → ⊥) → get_or next x 0 ≡ m

module _ (a b : ℕ → ℕ) (m : ℕ) (S : List ℕ) (lab : ℕ → ℕ) (next low : List ℕ) where
  pub record Going (R : List ℕ) (N : Noting) : Type 0 where
    pub notes_size : length N.notes ≡ m
    pub next_size : length N.next ≡ length next
    pub seen : (l : ℕ) → l < m → SeenAt m S next low R l (get_or N.notes l 0)
    pub ahead : (x : ℕ) → In x R → get_or N.next x 0 ≡ get_or next x 0
    pub placed : (x : ℕ) → In x S → (In x R → ⊥) → RankPlaced a b S m lab N.next x

  -- what the pass makes of N, where the ranks D are to go to the stash
  pub data NotedAs (D : List ℕ) (N out : Noting) : Type 0 where
    full : length N.stash < N.count + length D → out.overflow ≡ true → NotedAs D N out
    done : N.count + length D ≤ length N.stash → out.overflow ≡ N.overflow → out.count ≡ N.count + length D
        → out.stash ≡ sets N.stash N.count D → Going [] out → NotedAs D N out

  -- what it gives over S, from stash words of any content
  pub data Stashed (words : List ℕ) (out : Noting) : Type 0 where
    over : length words < length (stash a b S) → out.overflow ≡ true → Stashed words out
    fit : length (stash a b S) ≤ length words → out.overflow ≡ false → out.count ≡ length (stash a b S)
        → out.stash ≡ stash a b S ++ drop (length (stash a b S)) words → Going [] out → Stashed words out

-- the smallest rank of a label, of all its ranks
pub data Smallest (a b : ℕ → ℕ) (S : List ℕ) (lab : ℕ → ℕ) (l z : ℕ) : Type 0 where
  empty : z ≡ 0 → ((x : ℕ) → In x S → lab (a x) ≡ l → ⊥) → Smallest a b S lab l z
  rank : In z (forest a b S) → lab (a z) ≡ l → ((x : ℕ) → In x S → lab (a x) ≡ l → z ≤ x) → Smallest a b S lab l z
