-- Linking: a key whose slots lie in two trees makes one of them. Its tree is re-rooted at the one slot, whichever of the two, and the key is left there.
-- Keys linked in ascending order, those passed over whose slots are joined already (Kruskal's algorithm), make the forest of the definitions.
-- How it is tested whether slots are joined is not said here. Assumes nothing.
use Rattle.std.specs.Prelude.{ℕ, cond}
use mathlib.Core.List.{List, [], ◌∷◌, Memᴰ as In}
use Rattle.cuckoo.specs.Graph.{joined}

-- a list that has no key twice
pub data Once : List ℕ → Type 0 where
  no_key : Once []
  one_more : {c : ℕ} {R : List ℕ} → (In c R → ⊥) → Once R → Once (c ∷ R)

-- Kruskal's algorithm, and that it gives the forest of the definitions
module _ (a b : ℕ → ℕ) where
  -- the keys of a list are linked to the forest F one after the other, those passed over whose slots it joins
  unfoldable pub grow : List ℕ → List ℕ → List ℕ
  grow [] F = F
  grow (c ∷ S) F = grow S (cond (joined a b F (a c) (b c)) F (c ∷ F))
