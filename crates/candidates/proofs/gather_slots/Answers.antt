use Rattle.std.proofs.Common.{◌≡◌, ◌+◌, ◌-◌, ◌∙◌, arith, length-set}
use Rattle.hashing.specs.Hash.{tables}
use Rattle.candidates.specs.Candidates.{slots_counting, slots_sifted, slots_sift, slots_end, as_number, at_most_one}
use Rattle.collect.specs.Collect.{gathered_ends}
use Rattle.candidates.proofs.gather_slots.Goals as goal

pub loop-v-preserved : goal.loop-v-preserved
loop-v-preserved c =
    let a = c.args in
    let F = tables a.tabulation.now a.r a.station in
    let n = c.from-end.ensures ∙ as_number _ (rw (c.key_in-key.ensures, c.slot_tier-tier.ensures) at c.counts_in_slot.ensures) in
    let few = at_most_one _ n in (
      simp length-set (omega arith),
      simp length-set (omega arith),
      c.loop-v.invariant.2
          ∙ slots_sift F a.words.now c.loop-v.scratch c.loop-v.end c.loop-v.v (a.r + a.r) (omega arith) (omega arith)
          c.key_in-key.ensures n,
    )

pub returns : goal.returns
unfolding slots_sifted
returns c =
    let a = c.args in
    let F = tables a.tabulation.now a.r a.station in
    let e = c.loop-v.invariant.2
    ∙ slots_end F a.words.now c.loop-v.scratch c.loop-v.end c.loop-v.v (a.r + a.r) (omega arith) in
    let z : a.r + a.r - 0 ≡ a.r + a.r = omega arith in
    let xs = slots_counting F a.words.now 0 (a.r + a.r) in
    let all = gathered_ends a.scratch.now c.loop-v.scratch xs (rw z at e) (omega arith) (omega arith) in
    record { front = all.0; counted = all.1 }
