-- The laws of what specs/NextCode.antt defines.
use Rattle.std.specs.Prelude.{ℕ, suc, ◌*◌, ◌-◌, ◌%◌, ◌<◌, ◌≤◌, ◌≡◌, get_or, set}
use Rattle.std.proofs.Math.Path.{refl}
use Rattle.std.proofs.Common.{sym, ◌∙◌, ap, arith}
use mathlib.Core.List.{List, [], ◌∷◌, ◌++◌}
use borrow.Author.Tests.{lt-ltb, le-ltb}
use Rattle.cuckoo.specs.Renaming.{from, ranks}
use Rattle.cuckoo.proofs.Renaming.{ranks_more}
use Rattle.build.specs.Notes.{pair_base}
use Rattle.build.specs.Next.{Chaining, chained, nexts}
use Rattle.build.specs.Scratch.{Parts, with_sets, with_next}
use Rattle.build.specs.NextCode.{chaining_in, with_chaining, chained_parts, Linked}

module _ (m : ℕ) where
  chained_append : (R Q : List ℕ) (C : Chaining) → chained m (R ++ Q) C ≡ chained m R (chained m Q C)
  unfolding chained
  chained_append [] Q C = refl
  chained_append (c ∷ R) Q C = rw (chained_append R Q C)

  chained_none : (C : Chaining) → chained m (ranks 0) C ≡ C
  unfolding chained from
  chained_none C = refl

  chained_skip_last : (k : ℕ) (C : Chaining) → m ≤ get_or C.next (suc k) 0 → chained m (ranks (suc k)) C ≡ chained m (ranks k) C
  unfolding chained
  chained_skip_last k C l = rw (ranks_more k, chained_append (ranks k) (suc k ∷ []) C, chained, le-ltb (get_or C.next (suc k) 0) m l)

  chained_put_last : (k : ℕ) (C : Chaining) → get_or C.next (suc k) 0 < m → chained m (ranks (suc k)) C
      ≡ chained m (ranks k)
      (record { notes = set C.notes (get_or C.next (suc k) 0) (suc k); next = set C.next (suc k) (get_or C.notes (get_or C.next (suc k) 0) 0 % pair_base) })
  unfolding chained
  chained_put_last k C l = rw (ranks_more k, chained_append (ranks k) (suc k ∷ []) C, chained, lt-ltb (get_or C.next (suc k) 0) m l)

-- what chaining does not touch is as it was
rest_kept : {P Q : Parts} (P₀ : Parts) (C : Chaining) → P ≡ with_chaining P₀ (chaining_in P) → Q ≡ with_chaining P C → Q ≡ with_chaining P₀ (chaining_in Q)
rest_kept P₀ C h q = q ∙ ap (λ (Z : Parts). with_chaining Z C) h ∙ ap (with_chaining P₀) (sym (ap chaining_in q))

module _ {r n : ℕ} {P₀ : Parts} where
  pub chain_start : Linked r n P₀ n P₀
  chain_start = record { rest = refl; to_come = refl }

  module _ {rank : ℕ} {P : Parts} (L : Linked r n P₀ rank P) where
    -- at the end no rank gets no next
    pub chain_done : rank ≡ 0 → {Q : Parts} → Q ≡ with_next P (set P.next 0 0) → Q ≡ chained_parts r n P₀
    unfolding nexts
    chain_done e q =
        let c : chained (2 * r) (ranks n) (chaining_in P₀) ≡ chaining_in P = L.to_come ∙ (rw e (chained_none (2 * r) (chaining_in P))) in
        q ∙ rw c (ap (λ (Z : Parts). with_next Z (set P.next 0 0)) L.rest)

    module _ (some : 0 < rank) where
      last : rank ≡ suc (rank - 1)
      last = omega arith

      by_last : chained (2 * r) (ranks n) (chaining_in P₀) ≡ chained (2 * r) (ranks (suc (rank - 1))) (chaining_in P)
      by_last = L.to_come ∙ ap (λ (k : ℕ). chained (2 * r) (ranks k) (chaining_in P)) last

      pub chain_skip : 2 * r ≤ get_or P.next rank 0 → Linked r n P₀ (rank - 1) P
      chain_skip l = record { rest = L.rest; to_come = by_last ∙ chained_skip_last (2 * r) (rank - 1) (chaining_in P) (rw (← last) l) }

      module _ (label note : ℕ) (is_label : label ≡ get_or P.next rank 0) (low : label < 2 * r) (is_note : note ≡ get_or P.sets label 0) where
        pub chain_put : {M Q : Parts} → M ≡ with_next P (set P.next rank (note % pair_base)) → Q ≡ with_sets M (set M.sets label rank)
            → Linked r n P₀ (rank - 1) Q
        chain_put {M} {Q} e f =
            let all : Q ≡ with_sets (with_next P (set P.next rank (note % pair_base))) (set P.sets label rank) = f ∙ (rw e) in
            record {
              rest = rest_kept P₀ (record { notes = set P.sets label rank; next = set P.next rank (note % pair_base) }) L.rest all;
              to_come =
                  by_last ∙ chained_put_last (2 * r) (rank - 1) (chaining_in P) (rw (← last, ← is_label) low)
                  ∙ rw (all, ← last, ← is_label, ← is_note) refl;
            }
