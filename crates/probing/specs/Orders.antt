-- Keys that are added one after the other, in any order: they give the image of the set with them (`add_all_image`), so
-- the order does not matter (`any_order`; source document 003, Theorem 1 and Corollary 2, for one global priority and
-- steps of one). Assumes nothing.
use Rattle.std.specs.Prelude.{ℕ, ◌<◌, ◌≡◌, ◌⊎◌, length}
use Rattle.std.proofs.Math.Path.{refl}
use Rattle.std.proofs.Common.{sym, ◌∙◌, ap}
use Rattle.std.proofs.Math.Logic.{inl, inr}
use mathlib.Core.List.Memᴰ.{head as here}
use mathlib.Core.List.Memᴰ.{tail as there}
use mathlib.Core.List.{List, [], ◌∷◌, Memᴰ as In}
use Rattle.basics.specs.Sets.{Sub, Asc}
use Rattle.ordered.specs.Keys.{with_key}
use Rattle.probing.specs.Rule.{table_image}
use Rattle.probing.specs.Moves.{add}
use Rattle.probing.specs.Image.{KeySet}

-- keys added one after the other; the set with them; and that each is a key, absent and with room when its turn comes
unfoldable pub add_all : (ℕ → ℕ) → ℕ → List ℕ → List ℕ → List ℕ
add_all h m [] ws = ws
add_all h m (c ∷ L) ws = add_all h m L (add h m ws c)

unfoldable pub with_all : List ℕ → List ℕ → List ℕ
with_all [] S = S
with_all (c ∷ L) S = with_all L (with_key c S)

pub data Turns (m : ℕ) : List ℕ → List ℕ → Type 0 where
  over : {S : List ℕ} → Turns m [] S
  turn : {c : ℕ} {L S : List ℕ} → 0 < c → (In c S → ⊥) → length S < m → Turns m L (with_key c S) → Turns m (c ∷ L) S
