-- The laws of what specs/Edges.antt defines.
use Rattle.std.specs.Prelude.{ℕ, zero, suc, ◌*◌, ◌<◌, ◌≡◌, refl, List, [], ◌∷◌, length, get_or}
use Rattle.std.proofs.Common.{sym, lt-ltb, le-ltb}
use Rattle.std.proofs.Math.Logic.{inl, inr}
use native.Mathlib.Omega.{arith}
use Rattle.std.proofs.Math.ListN.{get_or-eq_default}
use Rattle.basics.proofs.Tests.{le?}
use Rattle.cuckoo.specs.Seating.{Ends, from_a, from_b}
use Rattle.edges.specs.Edge.{Edge, no_edge, no_edge_between}
use Rattle.forest.specs.Edges.{Edges, edge_at, end_0, end_1, other_end}

default_free : (l : List ℕ) (i d e : ℕ) → i < length l → get_or l i d ≡ get_or l i e
default_free [] i d e l = absurd (omega arith)
default_free (x ∷ xs) zero d e l = refl
default_free (x ∷ xs) (suc i) d e l = default_free xs i d e (omega arith)

-- what code reads
pub edge_read : (r : ℕ) (edges : List ℕ) (rank : ℕ) → rank < length edges → edge_at r edges rank ≡ get_or edges rank 0
unfolding edge_at
edge_read r edges rank l = default_free edges rank (no_edge r) 0 l

module _ {r : ℕ} {edges : List ℕ} (P : Edges r edges) where
  edge_good : (rank : ℕ) → Edge r (edge_at r edges rank)
  unfolding edge_at
  edge_good rank = elim (le? (length edges) rank) [
    | inl l ↦ rw (get_or-eq_default edges (no_edge r) l) (no_edge_between P.most P.some)
    | inr l ↦ rw (default_free edges rank (no_edge r) 0 l) (P.each rank l)
  ]

  pub ends_fit : (rank : ℕ) → (end_0 r edges rank < 2 * r) × (end_1 r edges rank < 2 * r)
  unfolding end_0 end_1
  ends_fit rank = let k = edge_good rank in (omega arith, omega arith)

  pub ends_apart : (rank : ℕ) → end_0 r edges rank ≡ end_1 r edges rank → ⊥
  unfolding end_0 end_1
  ends_apart rank e = let k = edge_good rank in omega arith

  pub ends_turn : (rank v w : ℕ) → Ends (end_0 r edges) (end_1 r edges) rank v w → other_end r edges v rank ≡ w
  unfolding other_end end_0 end_1
  ends_turn rank v w (from_a p q) = let k = edge_good rank in rw (lt-ltb v r (omega arith)) (sym q)
  ends_turn rank v w (from_b p q) = let k = edge_good rank in rw (le-ltb v r (omega arith)) (sym q)
