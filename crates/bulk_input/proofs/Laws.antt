-- The laws by which the loops over an input are proved: key i, or tier i, is tested or compared, and then those after
-- it.
use Rattle.std.proofs.Common.{List, ℕ, ◌≡◌, ◌+◌, ◌*◌, ◌<◌, length, get_or, drop, ap, sym}
use mathlib.Core.Bool.{not, ◌&&◌}
use lib.Dec.{eqb}
use Rattle.hashing.specs.Hash.{first_part}
use Rattle.layout.specs.Issues.{parts_apart}
use Rattle.layout.proofs.Issues.{apart_next, apart_end}
use Rattle.layout.proofs.IssuesAfter.{apart_one_issue}
use Rattle.bulk.specs.Bulk.{input_keys}
use Rattle.bulk.proofs.Input.{input_count, input_key, tier_count, input_tier}
use Rattle.bulk.proofs.Input.{any_next, any_end, from_next, from_end, rising_start}

-- the first parts that are left to compare from key i on
pub parts_next : (last : ℕ) (g : List ℕ) (i : ℕ) → i < length (input_keys g)
    → parts_apart last (drop i (input_keys g))
    ≡ (not (eqb (first_part (get_or g (2 * i) 0)) last)
    && parts_apart (first_part (get_or g (2 * i) 0)) (drop (i + 1) (input_keys g)))
parts_next last g i l = apart_next last (input_keys g) i l _ (ap first_part (sym (input_key g i)))

pub ruleset tests = (input_count, input_key, tier_count, input_tier, any_next, any_end)

pub ruleset neighbours = (input_count, input_key, from_next, from_end, rising_start)

pub ruleset parts = (input_count, parts_next, apart_end, apart_one_issue)
