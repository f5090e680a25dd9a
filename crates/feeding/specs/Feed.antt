-- Feeding keys one by one, as definitions that compute: this file is what a reader must believe, Feeding.antt has the
-- theorems. Each key in turn is put into the set if the new set fits, its stash at most s, and else refused and
-- skipped. A key that is there already changes nothing.
use Rattle.std.specs.Prelude.{ℕ, cond, List, [], ◌∷◌, leb, length}
use Rattle.ordered.specs.Keys.{with_key, sorted, distinct}
use Rattle.cuckoo.specs.Graph.{stash}

module _ (a b : ℕ → ℕ) (s : ℕ) where
  -- the set X after one more key was fed
  unfoldable pub fed : List ℕ → ℕ → List ℕ
  fed X c = cond (leb (length (stash a b (with_key c X))) s) (with_key c X) X

  unfoldable pub feed_on : List ℕ → List ℕ → List ℕ
  feed_on X [] = X
  feed_on X (c ∷ cs) = feed_on (fed X c) cs

  -- the set that is listed at the end, the keys fed in the order of the list, the empty set at first
  unfoldable pub feed : List ℕ → List ℕ
  feed cs = feed_on [] cs

-- the set of all keys of a list
unfoldable pub set_of : List ℕ → List ℕ
set_of xs = distinct (sorted xs)
