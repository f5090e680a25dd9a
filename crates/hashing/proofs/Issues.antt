-- Issues of a key (document 02, "Six"): what the last decimal digit leaves alone. Two issues of one first part have the same hashes; a blank key is one without
-- a first part; and first parts rise with the keys, so that in ascending order issues of one first part are neighbours. Assumes nothing.
use Rattle.std.specs.Prelude.{ℕ, ◌+◌, ◌*◌, ◌/◌, ◌%◌, ◌≤◌, ◌<◌, ◌≡◌, refl, true, false, ◌↔◌}
use Rattle.std.proofs.Common.{ap, arith, ltb-true, ltb-false, lt-ltb, le-ltb}
use Rattle.hashing.specs.Hash.{blank, first_part, Family, hash}
use Rattle.hashing.specs.Slots.{slot_0, slot_1}

-- A key is its first part and its issue, a decimal digit: ten issues of each first part.
pub issues_of : (key part digit : ℕ) → digit < 10 → (key ≡ 10 * part + digit) ↔ ((first_part key ≡ part) × (key % 10 ≡ digit))
issues_of key part digit l = (λ e. (omega arith, omega arith), λ p. omega (arith, p.0, p.1))

-- first parts rise with the keys
pub part_le : (c d : ℕ) → c ≤ d → first_part c ≤ first_part d
part_le c d l = omega arith

-- so a key that stands between two issues of one first part is a third
pub part_between : (c d e : ℕ) → c ≤ d → d ≤ e → first_part c ≡ first_part e → first_part d ≡ first_part e
part_between c d e l m q = omega arith

-- The blank keys are those below 10,
pub blank_iff : (key : ℕ) → (blank key ≡ true) ↔ (key < 10)
unfolding blank
blank_iff key = (λ e. ltb-true key 10 e, λ l. lt-ltb key 10 l)

-- and the others those that have a first part.
pub not_blank_iff : (key : ℕ) → (blank key ≡ false) ↔ (0 < first_part key)
unfolding blank
not_blank_iff key = (λ e. omega (arith, ltb-false key 10 e), λ l. le-ltb key 10 (omega arith))

-- Two issues of one first part have the same hash in each table,
pub issues_hash : (F : Family) (table c d : ℕ) → first_part c ≡ first_part d → hash F table c ≡ hash F table d
unfolding hash
issues_hash F table c d e = rw e

-- and the same two slots: a pair of them would be a cycle of two. The definition of a set rules it out, and not the graph.
pub issues_slots : (F : Family) (c d : ℕ) → first_part c ≡ first_part d → (slot_0 F c ≡ slot_0 F d) × (slot_1 F c ≡ slot_1 F d)
issues_slots F c d e = (issues_hash F 0 c d e, ap (λ (h : ℕ). F.slots + h) (issues_hash F 1 c d e))
