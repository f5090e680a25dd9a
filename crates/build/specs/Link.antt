-- Step 1 of the build: Kruskal's forest, key by key. A key whose ends are in one set of slots is passed over; any other links two trees: the tree of the
-- smaller set is turned towards the key's end in it, the key goes there, and the two sets become one. Assumes nothing.
use Rattle.std.specs.Prelude.{ℕ, suc, ◌≡◌, cond, eqb, ltb, length, get_or, set, replicate}
use mathlib.Core.List.{List, [], ◌∷◌, Memᴰ as In}
use Rattle.forest.specs.Oriented.{OrientedForest}
use Rattle.forest.specs.Reroot.{reroot}
use Rattle.forest.specs.Link.{Once}
use Rattle.partition.specs.Words.{singletons_of, rep_of, size_of, united}
use Rattle.partition.specs.Partition.{Partition}

-- the held words, the words of the partition of the slots, and a word for each rank: m if it closes a cycle, 0 if it is of the forest
pub record Linking : Type 0 where
  pub held : List ℕ
  pub sets : List ℕ
  pub next : List ℕ

-- the end of the key c in the smaller set, of two as large `b c`: the end whose set goes under the other
unfoldable pub smaller_end : (a b : ℕ → ℕ) → List ℕ → ℕ → ℕ
smaller_end a b sets c = cond (ltb (size_of sets (rep_of sets (a c))) (size_of sets (rep_of sets (b c)))) (a c) (b c)

module _ (a b : ℕ → ℕ) (other : ℕ → ℕ → ℕ) (m : ℕ) where
  -- one key
  unfoldable pub link_key : ℕ → Linking → Linking
  link_key c P =
      let u = rep_of P.sets (a c) in
      let v = rep_of P.sets (b c) in
      cond (eqb u v) (record { held = P.held; sets = P.sets; next = set P.next c m })
      (record { held = reroot other (suc m) P.held c (smaller_end a b P.sets c); sets = united P.sets u v; next = set P.next c 0 })

  -- ascending over the keys
  unfoldable pub link_keys : List ℕ → Linking → Linking
  link_keys [] P = P
  link_keys (c ∷ R) P = link_keys R (link_key c P)

-- before the first key: m slots, all empty, each alone in its set
unfoldable pub unlinked : ℕ → List ℕ → Linking
unlinked m words = record { held = replicate m 0; sets = singletons_of m; next = words }

-- the word of a key tells whether it is of F
pub record Marked (m : ℕ) (F next : List ℕ) (x : ℕ) : Type 0 where
  pub on : In x F → get_or next x 0 ≡ 0
  pub off : (In x F → ⊥) → get_or next x 0 ≡ m

-- the held words are an oriented forest of the keys F, and the sets are its trees
pub record Linked (a b : ℕ → ℕ) (m : ℕ) (F : List ℕ) (P : Linking) : Type 0 where
  pub size : length P.held ≡ m
  pub whole : OrientedForest a b F P.held
  pub parts : Partition a b F m P.sets

-- The same for some keys, none twice: all that code has to know of the words when it comes to the next key.
pub record Sound (a b : ℕ → ℕ) (m : ℕ) (P : Linking) : Type 0 where
  pub keys : List ℕ
  pub linked : Linked a b m keys P
  pub once : Once keys
