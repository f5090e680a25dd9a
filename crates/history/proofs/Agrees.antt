-- The laws of what specs/Agrees.antt defines.
use Rattle.std.specs.Prelude.{ℕ, ◌≡◌, true, false, not, List, length}
use Rattle.std.proofs.Common.{ap, eq-eqb, ne_eqb}
use Rattle.hashing.specs.Hash.{tabulation_length}
use Rattle.layout.specs.Layout.{Params}
use Rattle.outcome.specs.Held.{Holds}
use Rattle.history.specs.Calls.{own, wrong, Step}
use Rattle.history.specs.Model.{Reply, wrong_length}

-- Of the lent tabulations only those in place of the sequence's have a wrong length.
pub own_lent : (P : Params) → length P.tabulation ≡ tabulation_length → wrong_length P own ≡ false
own_lent P full_length = ap not (eq-eqb (length P.tabulation) tabulation_length full_length)

pub wrong_lent : (P : Params) (t : List ℕ) (n : length t ≡ tabulation_length → ⊥) → wrong_length P (wrong t n) ≡ true
wrong_lent P t n = ap not (ne_eqb (length t) tabulation_length n)
