-- The counters (document 01's 'meter'): "one more done if accepted, one more refused if not; a count at 4,294,967,295 stays there".
use Rattle.std.specs.Prelude.{ℕ, ◌+◌, cond, eqb, ltb}
use Rattle.refusals.specs.Refusal.{done}
use Rattle.counters.specs.declared.Counters.{Counters}

-- the largest count
abbrev pub max_count : ℕ
max_count = 4294967295

-- one more, but a count at the limit stays
unfoldable pub one_more : ℕ → ℕ
one_more n = cond (ltb n max_count) (n + 1) n

-- the counters after a call that answered n
unfoldable pub counted : Counters → ℕ → Counters
counted c n =
    cond (eqb n done) (record { done = one_more c.done; refused = c.refused })
    (record { done = c.done; refused = one_more c.refused })
