-- Chains of parents, and what linking one representative under another does to them. Assumes nothing.
use Rattle.std.specs.Prelude.{ℕ, suc, ◌≤◌, ◌<◌, ◌≡◌, List, length, get_or}

-- from v, k parents lead to the representative r
pub data Chain (words : List ℕ) : ℕ → ℕ → ℕ → Type 0 where
  top : {v : ℕ} → length words ≤ get_or words v 0 → Chain words v 0 v
  up : {v p k r : ℕ} → get_or words v 0 ≡ p → p < length words → Chain words p k r → Chain words v (suc k) r
