-- The laws of what specs/Issues.antt defines.
use Rattle.std.specs.Prelude.{ℕ, ◌+◌, ◌-◌, ◌≤◌, ◌<◌, ◌≡◌, refl, Bool, true, false, not, ◌&&◌, ◌⊎◌, ◌↔◌, eqb, length, get_or, drop}
use Rattle.std.proofs.Common.{sym, ◌∙◌, ap, true≢false, inl, inr, add-one, arith, drop-cons}
use mathlib.Core.List.Memᴰ.{head as here}
use mathlib.Core.List.Memᴰ.{tail as there}
use mathlib.Core.List.{List, [], ◌∷◌, Memᴰ as In}
use borrow.Author.Tests.{eqb-true, eqb-false, eq-eqb, ne_eqb, not-true}
use Rattle.std.proofs.Math.Seq.{drop-length}
use Rattle.basics.specs.Tests.{test}
use Rattle.basics.proofs.Tests.{eq?, le?, and_true, bool_ext}
use Rattle.basics.specs.Sets.{any, Sub, Asc, some}
use Rattle.basics.proofs.Sets.{any_true, true_any}
use Rattle.basics.proofs.Lists.{get_or_in}
use Rattle.ordered.specs.Keys.{lower_bound, with_key}
use Rattle.ordered.proofs.Place.{with_cases, bound_le, before_rank, smaller_before, at_rank, larger_at}
use Rattle.hashing.specs.Hash.{first_part, blank}
use Rattle.hashing.proofs.Issues.{part_le, part_between, not_blank_iff}
use Rattle.layout.specs.Layout.{ValidKeys, another_issue, OneIssue, one_issue}
use Rattle.layout.specs.Issues.{Another, parts_apart}

-- The test finds it.
module _ (key : ℕ) (S : List ℕ) where
  abbrev pub issue : ℕ → Bool
  issue c = eqb (first_part c) (first_part key) && not (eqb c key)

-- A part of a set has one issue of each first part; and so has a set with a key of which it has no other issue.
pub one_issue_part : {R S : List ℕ} → Sub R S → OneIssue S → OneIssue R
one_issue_part sub one c d i j q = one c d (sub c i) (sub d j) q

-- "Order still goes by the full number": within a set, order by first parts would be no other.
pub order_parts : {S : List ℕ} → OneIssue S → (c d : ℕ) → In c S → In d S → (c < d) ↔ (first_part c < first_part d)
order_parts one c d i j = (
  λ l. let n : first_part c ≡ first_part d → ⊥ = λ q. omega (arith, one c d i j q) in omega (arith, part_le c d (omega arith), n),
  λ l. omega arith,
)

-- Keys of one first part are neighbours in ascending order: another issue of a key stands before its rank or at it.
module _ (key : ℕ) {S : List ℕ} (asc : Asc S) where
  abbrev pub at : ℕ
  at = lower_bound S key

pub apart_next : (last : ℕ) (S : List ℕ) (i : ℕ) → i < length S → (part : ℕ) → part ≡ first_part (get_or S i 0)
    → parts_apart last (drop i S) ≡ (not (eqb part last) && parts_apart part (drop (i + 1) S))
unfolding parts_apart
apart_next last S i l part e = rw (e, drop-cons S i 0 l, add-one)

pub apart_end : (last : ℕ) (S : List ℕ) (i : ℕ) → i ≡ length S → parts_apart last (drop i S) ≡ true
unfolding parts_apart
apart_end last S i e = rw (e, drop-length S)

pub apart_rises : (last : ℕ) (S : List ℕ) → Asc S → ((c : ℕ) → In c S → last ≤ first_part c) → parts_apart last S ≡ true
    → ((c : ℕ) → In c S → last < first_part c) × OneIssue S
unfolding parts_apart
apart_rises last [] asc low e = (λ c i. elim i [ ], λ c d i j q. elim i [ ])
apart_rises last (c ∷ S) (some h asc) low e =
    let p = and_true (not (eqb (first_part c) last)) (parts_apart (first_part c) S) e in
    let n = eqb-false (first_part c) last (not-true _ p.0) in
    let l : last < first_part c = omega (arith, low c (here refl), n) in
    let r = apart_rises (first_part c) S asc (λ d i. part_le c d (omega (arith, h d i))) p.1 in (
      λ d i. elim i [ here q ↦ rw q l | there k ↦ omega (arith, r.0 d k) ],
      λ x y i j q. elim i [
        | here a ↦ elim j [ here b ↦ a ∙ sym b | there k ↦ absurd (omega (arith, r.0 y k, ap first_part a)) ]
        | there k ↦ elim j [ here b ↦ absurd (omega (arith, r.0 x k, ap first_part b)) | there m ↦ r.1 x y k m q ]
      ],
    )

pub rises_apart : (last : ℕ) (S : List ℕ) → Asc S → ((c : ℕ) → In c S → last < first_part c) → OneIssue S → parts_apart last S ≡ true
unfolding parts_apart
rises_apart last [] asc low one = refl
rises_apart last (c ∷ S) (some h asc) low one =
    let l = low c (here refl) in
    rw (ne_eqb (first_part c) last (λ e. omega arith)) (rises_apart (first_part c) S asc
    (λ d i. elim (eq? (first_part c) (first_part d)) [
      | inl q ↦ absurd (omega (arith, h d i, one c d (here refl) (there i) q))
      | inr n ↦ omega (arith, part_le c d (omega (arith, h d i)), n)
    ])
    (λ x y i j q. one x y (there i) (there j) q))
