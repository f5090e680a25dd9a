-- What a pass asks of scratch, and the parts of scratch as code reads, writes and lends them. Each law says that the parts are as they were but for one,
-- so that the passes are followed part by part. Assumes nothing.
use Rattle.std.specs.Prelude.{ℕ, ◌+◌, ◌*◌, ◌≤◌, ◌≡◌, List, length}
use Rattle.basics.specs.Parts.{PartAt}
use Rattle.build.specs.Scratch.{Parts, glue, used, PartsSized}

-- what every pass asks of scratch: sizes in range, enough words for the parts, and no more ranks than there is room for
pub record Enough (r s n : ℕ) (scratch : List ℕ) : Type 0 where
  pub slots_bound : r ≤ 1024
  pub places_bound : s ≤ 64
  pub long : used r s ≤ length scratch
  pub few : n ≤ 2 * r + s

-- a part of the words xs: k words X, from `at` to `end`; `new ys` are the parts of scratch with ys in its place
pub record Part (r s n : ℕ) (xs : List ℕ) (at end k : ℕ) (X : List ℕ) (new : List ℕ → Parts) : Type 0 where
  pub place : PartAt at (λ ys. glue (new ys))
  pub whole : glue (new X) ≡ xs
  pub size : length X ≡ k
  pub ends : end ≡ at + k
  pub sized : (ys : List ℕ) → length ys ≡ k → PartsSized r s n (new ys)
