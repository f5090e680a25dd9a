-- More laws, which rest on those of Feeding.antt.
use Rattle.std.specs.Prelude.{ℕ, ◌+◌, ◌≤◌, ◌<◌, min, ◌≡◌, refl, ◌⊎◌, leb}
use Rattle.std.proofs.Common.{sym, ◌∙◌, arith, leb-true, leb-false}
use Rattle.std.proofs.Math.Logic.{inl, inr}
use mathlib.Core.List.Memᴰ.{head as here}
use mathlib.Core.List.Memᴰ.{tail as there}
use mathlib.Core.List.{List, [], ◌∷◌, Memᴰ as In}
use Rattle.std.proofs.Math.ListN.{length}
use Rattle.basics.specs.Tests.{test}
use Rattle.basics.specs.Sets.{below, without, Sub, Asc, none}
use Rattle.basics.proofs.Sets.{in?, not?, asc_ext, some_or_all}
use Rattle.basics.proofs.Lists.{pigeonhole}
use Rattle.ordered.specs.Keys.{with_key, above}
use Rattle.ordered.proofs.Place.{with_cases, with_here, with_there, asc_with}
use Rattle.ordered.proofs.Distinct.{distinct_sorted_asc, distinct_sorted_in, in_distinct_sorted}
use Rattle.cuckoo.specs.Graph.{label, joined, component, is_on_cycle, cyclic, spare, settle, seated, stash}
use Rattle.cuckoo.proofs.Settling.{seated_sub, seated_asc, seated_stops}
use Rattle.cuckoo.proofs.Filled.{seated_stash_length}
use Rattle.cuckoo.proofs.Placement.{subset_fits}
use Rattle.feeding.specs.Feed.{fed, feed_on, feed, set_of}
use Rattle.feeding.specs.Rank.{BothCyclic}
use Rattle.feeding.proofs.Rank.{both_cyclic?, both_mono}
use Rattle.feeding.proofs.RankBound.{rank_most, rank_least}
use Rattle.feeding.proofs.RankBound.{cyclic_grows, other_keeps}
use Rattle.feeding.proofs.Feeding.{set_of_asc, in_set_of, set_of_same, sub_length, set_nonzero, feed_length}

module _ (a b : ℕ → ℕ) (s : ℕ) where
  module _ (xs : List ℕ) (z : In 0 xs → ⊥) where
    -- No choice lists more: a part of the list that fits has at most as many keys.
    pub feed_most : {K : List ℕ} → Asc K → Sub K xs → length (stash a b K) ≤ s → length K ≤ length (feed a b s xs)
    feed_most {K} h k l =
        let up : Sub K (set_of xs) = λ u i. in_set_of xs u (k u i) in
        let r = rank_most a b (seated_asc a b K h) (seated_stops a b K h) (set_of_asc xs) (set_nonzero a b s xs z)
        (λ u i. up u (seated_sub a b K h u i)) in
        omega (arith, (feed_length a b s xs z), seated_stash_length a b K h, sub_length h up)

  -- The number does not depend on the order: two lists with the same members, whatever their order and however often
  -- each comes, list equally many.
  pub any_order : (xs ys : List ℕ) → (In 0 xs → ⊥) → Sub xs ys → Sub ys xs
      → length (feed a b s xs) ≡ length (feed a b s ys)
  any_order xs ys z p q = (feed_length a b s) xs z ∙ rw (set_of_same p q) (sym ((feed_length a b s) ys (λ i. z (q 0 i))))
