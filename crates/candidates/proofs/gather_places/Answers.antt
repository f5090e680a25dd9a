use Rattle.std.proofs.Common.{◌∙◌, arith, length-set}
use Rattle.layout.specs.Layout.{place_entries}
use Rattle.candidates.specs.Candidates.{places_counting, places_start, places_sifted, places_sift, places_end, as_number, at_most_one}
use Rattle.collect.specs.Collect.{gathered_ends}
use Rattle.candidates.proofs.gather_places.Goals as goal

pub loop-i-preserved : goal.loop-i-preserved
loop-i-preserved c =
    let a = c.args in
    let n = c.from-end.ensures ∙ as_number _ c.is_sound.ensures in
    let few = at_most_one _ n in (
      simp length-set (omega arith),
      simp length-set (omega arith),
      c.loop-i.invariant.2
          ∙ places_sift a.places.now c.loop-i.scratch c.loop-i.end a.count c.loop-i.i (omega arith) (omega arith) n,
    )

pub returns : goal.returns
unfolding places_sifted
returns c =
    let a = c.args in
    let e = c.loop-i.invariant.2
    ∙ places_end a.places.now c.loop-i.scratch c.loop-i.end a.count c.loop-i.i (omega arith) in
    let f = rw (places_start a.places.now a.count) at e in
    let xs = places_counting (place_entries a.count a.places.now) in
    let all = gathered_ends a.scratch.now c.loop-i.scratch xs f (omega arith) (omega arith) in
    record { front = all.0; counted = all.1 }
