-- The laws of what specs/Partition.antt defines.
use Rattle.std.specs.Prelude.{ℕ, ◌+◌, ◌≤◌, ◌<◌, ◌≡◌, List, [], ◌∷◌, length, get_or}
use Rattle.std.proofs.Math.Path.{sym, ap}
use Rattle.std.proofs.Common.{◌∙◌, inl, inr, arith, pow_mono}
use Rattle.std.proofs.Math.ListN.{length-replicate, get_or-replicate}
use Rattle.cuckoo.specs.Graph.{label}
use Rattle.basics.proofs.Tests.{le?}
use Rattle.cuckoo.specs.Joined.{Joined, past, along, back}
use Rattle.cuckoo.proofs.Joined.{jrefl, more, split}
use Rattle.partition.specs.Words.{max_points, max_steps, singletons_of, Representative, rep_of, size_of, Mergeable}
use Rattle.partition.proofs.Words.{walk_stop}
use Rattle.partition.proofs.Tally.{tally_le, tally_two, tally_ext, tally_one}
use Rattle.partition.specs.Chain.{top}
use Rattle.partition.proofs.Chain.{chain_rep, chain_walk}
use Rattle.partition.specs.Partition.{Reached, Partition}

-- a representative is its own
rep_self : (words : List ℕ) {r : ℕ} → Representative words r → rep_of words r ≡ r
unfolding rep_of
rep_self words {r} h = walk_stop words max_steps r h.marked

-- the walk's budget suffices, since no set has more than 2 to the 11th slots
pub reached_rep : {words : List ℕ} {v : ℕ} (h : Reached words v) → size_of words h.rep ≤ max_points → rep_of words v ≡ h.rep
unfolding rep_of
reached_rep h l =
    elim (le? h.steps max_steps) [
      | inl k ↦ chain_walk h.chain max_steps k
      | inr k ↦ absurd (omega (arith, pow_mono k, h.short))
    ]

-- what is alike along R, and at the two ends of one key more, is alike along both
pub alike_more :
    {a b : ℕ → ℕ} {R : List ℕ} {n : ℕ} (f : ℕ → ℕ) (c : ℕ) → ((u v : ℕ) → u < n → v < n → Joined a b R u v → f u ≡ f v)
    → a c < n → b c < n → f (a c) ≡ f (b c) → (u v : ℕ) → u < n → v < n → Joined a b (c ∷ R) u v → f u ≡ f v
alike_more {a} {b} {R} f c h la lb e u v lu lv j =
    elim (split c R j) [
      | past k ↦ h u v lu lv k
      | along k l ↦ h u (a c) lu la k ∙ e ∙ h (b c) v lb lv l
      | back k l ↦ h u (b c) lu lb k ∙ sym e ∙ h (a c) v la lv l
    ]

-- what a caller has
module _ {a b : ℕ → ℕ} {R : List ℕ} {n : ℕ} {words : List ℕ} (P : Partition a b R n words) where
  pub size_le : {r : ℕ} → Representative words r → size_of words r ≤ n
  size_le {r} h = omega (arith, P.honest r h, tally_le (rep_of words) r (length words), P.long)

  is_rep : (v : ℕ) (l : v < n) → Representative words (P.reached v l).rep
  is_rep v l = chain_rep (P.reached v l).chain (omega (arith, P.long))

  pub rep_is : (v : ℕ) (l : v < n) → rep_of words v ≡ (P.reached v l).rep
  rep_is v l = reached_rep (P.reached v l) (omega (arith, size_le (is_rep v l), P.points_bound))

  pub rep_marked : (v : ℕ) → v < n → Representative words (rep_of words v)
  rep_marked v l = rw (rep_is v l) (is_rep v l)

  pub rep_lt : (v : ℕ) → v < n → rep_of words v < n
  rep_lt v l = omega (arith, (rep_marked v l).inside, P.long)

  -- two different representatives may be united
  pub mergeable : {r s : ℕ} → Representative words r → Representative words s → (r ≡ s → ⊥) → Mergeable words r s
  mergeable {r} {s} h k ne = record {
    one = h;
    other = k;
    differ = ne;
    fit = omega (arith, P.honest r h, P.honest s k, tally_two (rep_of words) r s (length words) ne);
  }

  -- a key whose ends have one representative changes nothing
  pub add_within : (c : ℕ) → a c < n → b c < n → rep_of words (a c) ≡ rep_of words (b c) → Partition a b (c ∷ R) n words
  add_within c la lb e = record {
    long = P.long;
    points_bound = P.points_bound;
    reached = P.reached;
    honest = P.honest;
    law = λ u v lu lv. (
      λ q. more ((P.law u v lu lv).0 q),
      alike_more (rep_of words) c (λ x y lx ly. (P.law x y lx ly).1) la lb e u v lu lv,
    );
  }

-- with no key each slot is alone
module _ (n : ℕ) where
  length_singletons : length (singletons_of n) ≡ n
  unfolding singletons_of
  length_singletons = length-replicate n (n + 1)

  word : (v : ℕ) → v < n → get_or (singletons_of n) v 0 ≡ n + 1
  unfolding singletons_of
  word v l = get_or-replicate n v (n + 1) 0 l

  alone : (v : ℕ) → v < n → rep_of (singletons_of n) v ≡ v
  alone v l = rep_self (singletons_of n) record { inside = omega (arith, length_singletons); marked = omega (arith, length_singletons, word v l) }

  one_slot : (v : ℕ) → v < n → size_of (singletons_of n) v ≡ 1
  unfolding size_of
  one_slot v l = omega (arith, length_singletons, word v l)

  pub start : {a b : ℕ → ℕ} → n ≤ max_points → Partition a b [] n (singletons_of n)
  unfolding label
  start few = record {
    long = length_singletons;
    points_bound = few;
    reached = λ v l. record { steps = 0; rep = v; chain = top {v = v} (omega (arith, length_singletons, word v l)); short = omega (arith, one_slot v l) };
    honest = λ r h.
        let l : r < n = omega (arith, h.inside, length_singletons) in
        one_slot r l ∙ sym (rw length_singletons (tally_ext (rep_of (singletons_of n)) (λ v. v) r n alone ∙ tally_one r n l));
    law = λ u v lu lv. (
      λ q. let e : u ≡ v = sym (alone u lu) ∙ q ∙ alone v lv in rw e jrefl,
      λ j. ap (rep_of (singletons_of n)) j.same,
    );
  }
