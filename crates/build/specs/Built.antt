-- The whole build on ranks: the passes one after the other, and the theorem that they give what the definitions of `cuckoo` say of the ranks 1..n. Assumes nothing.
use Rattle.std.specs.Prelude.{ℕ, ◌-◌, ◌<◌, ◌≤◌, ◌≡◌, Bool, true, false, cond, replicate}
use mathlib.Core.List.{List, [], ◌++◌, Memᴰ as In}
use Rattle.std.proofs.Math.ListN.{length, get_or}
use Rattle.cuckoo.specs.Graph.{seated, stash, next, slot_key, slot_next}
use Rattle.cuckoo.specs.Seating.{Ends}
use Rattle.cuckoo.specs.Renaming.{ranks}
use Rattle.partition.specs.Words.{max_points}
use Rattle.build.specs.EachSlot.{listed}
use Rattle.build.specs.Link.{Linking, unlinked, link_keys}
use Rattle.build.specs.Labels.{labelled}
use Rattle.build.specs.Notes.{pair_base, lows, Noting, nothing_noted, noted}
use Rattle.build.specs.Finish.{finish_ranks}
use Rattle.build.specs.Next.{nexts}

-- what the build answers: that the stash has no room; or the held words, the next words by rank and the stash words, and how many ranks the stash has
pub data Built : Type 0 where
  overflow : Built
  made : (held next stash : List ℕ) (count : ℕ) → Built

-- its parts
abbrev pub held_of : Built → List ℕ
held_of overflow = []
held_of (made held next stash count) = held

abbrev pub next_of : Built → List ℕ
next_of overflow = []
next_of (made held next stash count) = next

abbrev pub built_stash : Built → List ℕ
built_stash overflow = []
built_stash (made held next stash count) = stash

abbrev pub count_of : Built → ℕ
count_of overflow = 0
count_of (made held next stash count) = count

abbrev pub is_made : Built → Bool
is_made overflow = false
is_made (made held next stash count) = true

-- m slots, the ranks 1..n; `words`: what stands in the next words before
module _ (a b : ℕ → ℕ) (other : ℕ → ℕ → ℕ) (m n : ℕ) (words : List ℕ) where
  unfoldable pub linking : Linking
  linking = link_keys a b other m (ranks n) (unlinked m words)

  unfoldable pub labels : List ℕ
  labels = labelled a linking.sets n linking.next

  unfoldable pub low : List ℕ
  low = lows m labels (ranks n) (replicate m 0)

  -- s stash words
  module _ (s : ℕ) where
    unfoldable pub noting : Noting
    noting = noted m (ranks n) (nothing_noted low labels (replicate s 0))

    unfoldable pub held : List ℕ
    held = finish_ranks a b other m noting.next noting.notes (ranks n) linking.held

    unfoldable pub chain : List ℕ
    chain = nexts m (ranks n) (record { notes = noting.notes; next = noting.next })

    -- The build. Code stops after step 4 where there is no room in the stash.
    unfoldable pub built : Built
    built = cond noting.overflow overflow (made held chain noting.stash noting.count)

-- What the definitions say, for m slots and s stash words: there is no room for the stash; or the held words are the slots' ranks, the stash words are the stash,
-- filled up with zeros, and the word of each seated rank is its next, and so each slot's next is that of the rank that it holds.
pub data Right (a b : ℕ → ℕ) (S : List ℕ) (m s : ℕ) (out : Built) : Type 0 where
  full : s < length (stash a b S) → out ≡ overflow → Right a b S m s out
  right : (nx : List ℕ) → length (stash a b S) ≤ s
      → out ≡ made (listed (slot_key a b S) m 0) nx (stash a b S ++ replicate (s - length (stash a b S)) 0) (length (stash a b S))
      → ((c : ℕ) → In c (seated a b S) → get_or nx c 0 ≡ next a b (seated a b S) c)
      → ((v : ℕ) → v < m → get_or nx (slot_key a b S v) 0 ≡ slot_next a b S v) → Right a b S m s out

module _ {a b : ℕ → ℕ} {other : ℕ → ℕ → ℕ} (turn : (c v w : ℕ) → Ends a b c v w → other v c ≡ w) {m : ℕ} (few : m ≤ max_points)
    (fits : (c : ℕ) → (a c < m) × (b c < m)) (two : (c : ℕ) → a c ≡ b c → ⊥) (n : ℕ) (small : n < pair_base) (words : List ℕ) (long : n < length words) where
  abbrev pub S : List ℕ
  S = ranks n
