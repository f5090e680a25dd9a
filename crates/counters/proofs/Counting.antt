-- How the counters move: one of the two counts goes up by one, unless it stands at its limit, and the other stays. Assumes nothing.
use Rattle.std.specs.Prelude.{ℕ, ◌+◌, ◌≤◌, ◌<◌, ◌≡◌, ◌⊎◌}
use Rattle.std.proofs.Math.Path.{refl}
use Rattle.std.proofs.Common.{inl, inr, arith, ne_eqb, lt-ltb, le-ltb}
use Rattle.basics.proofs.Tests.{eq?, le?}
use Rattle.refusals.specs.Refusal.{done}
use Rattle.counters.specs.declared.Counters.{Counters}
use Rattle.counters.specs.Counters.{max_count, one_more, counted}

module _ (n : ℕ) where
  pub one_more_moves : n < max_count → one_more n ≡ n + 1
  unfolding one_more
  one_more_moves l = rw (lt-ltb n max_count l)

  -- "a count at 4,294,967,295 stays there"
  pub one_more_stays : max_count ≤ n → one_more n ≡ n
  unfolding one_more
  one_more_stays l = rw (le-ltb n max_count l)

  -- so a count of 32 bits stays one
  pub one_more_fits : n ≤ max_count → one_more n ≤ max_count
  one_more_fits l = elim (le? max_count n) [ inl m ↦ rw (one_more_stays m) l | inr m ↦ rw (one_more_moves m) (omega arith) ]

module _ (c : Counters) where
  -- "one more done if accepted,
  pub counted_accepted : counted c done ≡ record { done = one_more c.done; refused = c.refused }
  unfolding counted
  counted_accepted = refl

  -- one more refused if not"
  pub counted_refused : {n : ℕ} → (n ≡ done → ⊥) → counted c n ≡ record { done = c.done; refused = one_more c.refused }
  unfolding counted
  counted_refused {n} ne = rw (ne_eqb n done ne)

  -- never both
  pub counted_one : (n : ℕ) → ((counted c n).refused ≡ c.refused) ⊎ ((counted c n).done ≡ c.done)
  counted_one n = elim (eq? n done) [ inl e ↦ inl (rw (e, counted_accepted)) | inr ne ↦ inr (rw (counted_refused ne)) ]
