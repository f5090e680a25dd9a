-- Refusals, document 01's "What a call gives back": the numbers of the table, and that "they are tried in this order". Every call lists
-- its refusals as pairs of a number and a test; what it answers is the first of them that applies. Assumes nothing.
use Rattle.std.specs.Prelude.{ℕ, ◌≡◌, refl, Bool, true, false, not, cond}
use Rattle.std.proofs.Common.{sym, ◌∙◌, true≢false, inl, inr}
use mathlib.Core.List.Memᴰ.{head as here}
use mathlib.Core.List.Memᴰ.{tail as there}
use mathlib.Core.List.{List, [], ◌∷◌, ◌++◌, map, Memᴰ as In}
use Rattle.basics.specs.Tests.{test}
use Rattle.basics.specs.Sets.{member}

-- 0, "done": accepted
abbrev pub done : ℕ
done = 0

-- 1, "wrong book": the tabulation does not have its length
abbrev pub wrong_tabulation : ℕ
wrong_tabulation = 1

-- 2, "wrong shape": the words are not laid out as a dictionary; of the hashes of a key alone, r or the station outside its range
abbrev pub wrong_shape : ℕ
wrong_shape = 2

-- 3, "short sheet": the scratch is too short
abbrev pub short_scratch : ℕ
short_scratch = 3

-- 4, "tampered": the words are the canonical image of no set
abbrev pub not_canonical : ℕ
not_canonical = 4

-- 5, "blank card"
abbrev pub blank_key : ℕ
blank_key = 5

-- 6, "listed": insert of a key that is in the set
abbrev pub key_present : ℕ
key_present = 6

-- 7, "not listed": removal of a key that is not in the set
abbrev pub key_absent : ℕ
key_absent = 7

-- 8, "full drawer": the stash of the new set would have more than s keys
abbrev pub stash_full : ℕ
stash_full = 8

-- 9, "tier above 7"
abbrev pub wrong_tier : ℕ
wrong_tier = 9

-- 10, "add of a listed card with another tier"
abbrev pub other_tier : ℕ
other_tier = 10

-- 11, "trail sheet shorter than the trail"
abbrev pub short_trail : ℕ
short_trail = 11

-- 12, "base or a step outside its range, or this card's price below 1"
abbrev pub wrong_price : ℕ
wrong_price = 12

-- 13, "another issue is listed"
abbrev pub other_issue : ℕ
other_issue = 13

-- 14, "odd number of words, or cards not strictly rising"
abbrev pub not_rising : ℕ
not_rising = 14

-- 15, "some pocket or drawer place holds a card number other than zero, yet no card counts"
abbrev pub none_counts : ℕ
none_counts = 15

-- 16, "all pockets filled"
abbrev pub table_full : ℕ
table_full = 16

-- the number of the first refusal whose test holds, or done
abbrev pub first_refusal : List (ℕ × Bool) → ℕ
first_refusal [] = done
first_refusal (r ∷ rs) = cond r.1 r.0 (first_refusal rs)

-- what is answered is 0 or the number of one of the refusals, "and none is given otherwise"
abbrev pub numbers : List (ℕ × Bool) → List ℕ
numbers rs = map (λ (r : ℕ × Bool). r.0) rs

-- no refusal of the list applies
pub data None : List (ℕ × Bool) → Type 0 where
  none : None []
  and : {r : ℕ × Bool} {rs : List (ℕ × Bool)} → r.1 ≡ false → None rs → None (r ∷ rs)
