-- More laws, which rest on those of Issues.antt.
use Rattle.std.specs.Prelude.{ℕ, ◌+◌, ◌-◌, ◌≤◌, ◌<◌, ◌≡◌, refl, Bool, true, false, not, ◌&&◌, ◌⊎◌, ◌↔◌, eqb, length, get_or, drop}
use Rattle.std.proofs.Common.{sym, ◌∙◌, ap, true≢false, inl, inr, add-one, arith, drop-cons}
use mathlib.Core.List.Memᴰ.{head as here}
use mathlib.Core.List.Memᴰ.{tail as there}
use mathlib.Core.List.{List, [], ◌∷◌, Memᴰ as In}
use borrow.Author.Tests.{eqb-true, eqb-false, eq-eqb, ne_eqb, not-true}
use Rattle.std.proofs.Math.Seq.{drop-length}
use Rattle.basics.specs.Tests.{test}
use Rattle.basics.proofs.Tests.{eq?, le?, and_true, bool_ext}
use Rattle.basics.specs.Sets.{any, Sub, Asc, some}
use Rattle.basics.proofs.Sets.{any_true, true_any}
use Rattle.basics.proofs.Lists.{get_or_in}
use Rattle.ordered.specs.Keys.{lower_bound, with_key}
use Rattle.ordered.proofs.Place.{with_cases, bound_le, before_rank, smaller_before, at_rank, larger_at}
use Rattle.hashing.specs.Hash.{first_part, blank}
use Rattle.hashing.proofs.Issues.{part_le, part_between, not_blank_iff}
use Rattle.layout.specs.Layout.{ValidKeys, another_issue, OneIssue, one_issue}
use Rattle.layout.specs.Issues.{Another, parts_apart}
use Rattle.layout.proofs.Issues.{issue, at, apart_rises, rises_apart}

-- The test finds it.
module _ (key : ℕ) (S : List ℕ) where
  pub another_iff : (another_issue key S ≡ true) ↔ Another key S
  unfolding another_issue
  another_iff = (
    λ e.
        let r = any_true (issue key S) S e in
        let p = and_true (eqb (first_part r.0) (first_part key)) (not (eqb r.0 key)) r.2 in
        (r.0, (r.1, (eqb-true _ _ p.0, eqb-false r.0 key (not-true _ p.1)))),
    λ a. true_any (issue key S) a.1.0 (rw (eq-eqb (first_part a.0) (first_part key) a.1.1.0, ne_eqb a.0 key a.1.1.1)),
  )

  pub no_other : (Another key S → ⊥) → another_issue key S ≡ false
  no_other n = elim (test (another_issue key S)) [ inl e ↦ absurd (n (another_iff.0 e)) | inr e ↦ e ]

  pub none_other : another_issue key S ≡ false → Another key S → ⊥
  none_other e a = true≢false (sym (another_iff.1 a) ∙ e)

-- A set that has the exact issue has no other: 13 never applies together with 10 or 6.
pub listed_alone : {S : List ℕ} → OneIssue S → (key : ℕ) → In key S → another_issue key S ≡ false
listed_alone {S} one key i = no_other key S (λ a. a.1.1.1 (one a.0 key a.1.0 i a.1.1.0))

-- The test of a whole set means what it says.
pub one_issue_iff : (S : List ℕ) → (one_issue S ≡ true) ↔ OneIssue S
unfolding one_issue
one_issue_iff S = (
  λ e c d i j q. elim (eq? c d) [
    | inl k ↦ k
    | inr n ↦ absurd (true≢false (sym (true_any (λ (c : ℕ). another_issue c S) j ((another_iff d S).1 (c, (i, (q, n))))) ∙ not-true _ e))
  ],
  λ one. elim (test (any (λ (c : ℕ). another_issue c S) S)) [
    | inl t ↦ let r = any_true (λ (c : ℕ). another_issue c S) S t in absurd (true≢false (sym r.2 ∙ listed_alone one r.0 r.1))
    | inr f ↦ rw f
  ],
)

pub one_issue_with : (key : ℕ) {S : List ℕ} → another_issue key S ≡ false → OneIssue S → OneIssue (with_key key S)
one_issue_with key {S} e one c d i j q = elim (with_cases key S i) [
  | inl a ↦ elim (with_cases key S j) [ inl b ↦ a ∙ sym b | inr k ↦ a ∙ sym (alone d k (sym q ∙ ap first_part a)) ]
  | inr k ↦ elim (with_cases key S j) [ inl b ↦ alone c k (q ∙ ap first_part b) ∙ sym b | inr l ↦ one c d k l q ]
]
  where
    alone : (d : ℕ) → In d S → first_part d ≡ first_part key → d ≡ key
    alone d i q = elim (eq? d key) [ inl k ↦ k | inr n ↦ absurd (none_other key S e (d, (i, (q, n)))) ]

-- Keys of one first part are neighbours in ascending order: another issue of a key stands before its rank or at it.
module _ (key : ℕ) {S : List ℕ} (asc : Asc S) where
  pub issue_before : 0 < (at key asc) → first_part (get_or S ((at key asc) - 1) 0) ≡ first_part key → another_issue key S ≡ true
  issue_before l q =
      let d = get_or S ((at key asc) - 1) 0 in
      (another_iff key S).1 (d, (get_or_in S ((at key asc) - 1) (omega (arith, bound_le key S)), (q, λ e. omega (arith, before_rank key asc l))))

  pub issue_at : (at key asc) < length S → (get_or S (at key asc) 0 ≡ key → ⊥) → first_part (get_or S (at key asc) 0) ≡ first_part key → another_issue key S ≡ true
  issue_at l n q = (another_iff key S).1 (get_or S (at key asc) 0, (get_or_in S (at key asc) l, (q, n)))

  pub issue_nowhere : OneIssue S → (0 < (at key asc) → first_part (get_or S ((at key asc) - 1) 0) ≡ first_part key → ⊥)
      → ((at key asc) < length S → (get_or S (at key asc) 0 ≡ key → ⊥) → first_part (get_or S (at key asc) 0) ≡ first_part key → ⊥) → another_issue key S ≡ false
  issue_nowhere one before here-not = no_other key S (λ a.
      let d = a.0 in
      let q = a.1.1.0 in
      elim (le? key d) [
        | inr l ↦
            let p = smaller_before key asc a.1.0 l in
            before p.0 (part_between d (get_or S ((at key asc) - 1) 0) key p.1 (omega (arith, before_rank key asc p.0)) q)
        | inl l ↦
            let p = larger_at key asc a.1.0 l in
            let x = get_or S (at key asc) 0 in
            let part : first_part x ≡ first_part key = part_between key x d (at_rank key asc p.0) p.1 (sym q) ∙ q in
            elim (eq? x key) [
              | inl e ↦ a.1.1.1 (one d key a.1.0 (rw e at (get_or_in S (at key asc) p.0)) q)
              | inr n ↦ here-not p.0 n part
            ]
      ])

-- Of the keys of a set, none of which has the first part 0, that is the test.
pub apart_one_issue : {S : List ℕ} → ValidKeys S → parts_apart 0 S ≡ one_issue S
apart_one_issue {S} valid =
    bool_ext (parts_apart 0 S) (one_issue S)
    (λ e. (one_issue_iff S).1 (apart_rises 0 S valid.asc (λ c i. omega arith) e).1)
    (λ e. rises_apart 0 S valid.asc (λ c i. (not_blank_iff c).0 (valid.none_blank c i)) ((one_issue_iff S).0 e))
