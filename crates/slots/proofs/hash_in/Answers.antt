use Rattle.std.proofs.Common.{ℕ, List, ◌≡◌, ◌∙◌, ◌<◌, ◌+◌, ◌*◌, ◌-◌, ◌%◌, arith, rules, get_or, take, drop, get_or-drop, get_or-take, add_assoc}
use Rattle.hashing.specs.Hash.{first_part, entry, turned}
use Rattle.hashing.specs.Sum.{total}
use Rattle.hashing.proofs.Sum.{total_step, total_hash}
use Rattle.slots.proofs.hash_in.Goals as goal

-- an entry of a table's half is the tabulation's entry for that table
half-entry : (tabulation : List ℕ) (table i b : ℕ) → i < 5 → b < 256 → get_or (take (1280 * table + 1280 - 1280 * table) (drop (1280 * table) tabulation)) (256 * i + b) 0 ≡ entry tabulation table i b
half-entry tabulation table i b low byte =
    let within : 256 * i + b < 1280 * table + 1280 - 1280 * table = omega arith in
    rw (get_or-take, get_or-drop, add_assoc)

pub loop-i-preserved : goal.loop-i-preserved
loop-i-preserved c =
    let a = c.args in
    let l = c.loop-i in
    let low = c.loop-i-test.true in
    let e = c.from-sum.ensures ∙ half-entry a.tabulation.now a.table l.i (l.rest % 256) (omega arith) (omega arith) in
    (search rules, rw e (total_step _ _ l.sum l.rest l.i low ∙ l.invariant.1))

pub returns : goal.returns
unfolding total
returns c =
    let l = c.loop-i in
    let a = c.args in
    let part = first_part a.key in
    let n : 4 - l.i ≡ 0 = omega arith in
    let b : turned a.station (part % 256) < 256 = omega arith in
    let p = c.first_part-part.ensures in
    let e = (rw p at c.from.ensures) ∙ half-entry a.tabulation.now a.table 4 (turned a.station (part % 256)) (omega arith) b in
    rw (e, rw (n, p) at l.invariant.1) (total_hash _ _ _)
