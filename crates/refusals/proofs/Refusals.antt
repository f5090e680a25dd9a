-- The laws of what specs/Refusal.antt defines.
use Rattle.std.specs.Prelude.{ℕ, ◌≡◌, refl, Bool, true, false, not, cond}
use Rattle.std.proofs.Common.{sym, ◌∙◌, true≢false, inl, inr}
use mathlib.Core.List.Memᴰ.{head as here}
use mathlib.Core.List.Memᴰ.{tail as there}
use mathlib.Core.List.{List, [], ◌∷◌, ◌++◌, map, Memᴰ as In}
use Rattle.basics.specs.Tests.{test}
use Rattle.basics.specs.Sets.{member}
use Rattle.basics.proofs.Sets.{member_in, in_member}
use Rattle.refusals.specs.Refusal.{done, wrong_tabulation, wrong_shape, short_scratch, not_canonical, blank_key, key_present, key_absent, stash_full, wrong_tier, other_tier, short_trail, wrong_price, other_issue, not_rising, none_counts, table_full, first_refusal, numbers, None, none, and}

-- The laws. The numbers are those of document 01's table, and after them those of document 02.
pub table : done ∷ wrong_tabulation ∷ wrong_shape ∷ short_scratch ∷ not_canonical ∷ blank_key ∷ key_present ∷ key_absent
    ∷ stash_full ∷ wrong_tier ∷ other_tier ∷ short_trail ∷ wrong_price ∷ other_issue ∷ not_rising ∷ none_counts ∷ table_full ∷ []
    ≡ 0 ∷ 1 ∷ 2 ∷ 3 ∷ 4 ∷ 5 ∷ 6 ∷ 7 ∷ 8 ∷ 9 ∷ 10 ∷ 11 ∷ 12 ∷ 13 ∷ 14 ∷ 15 ∷ 16 ∷ []
table = refl

-- The first that applies is given: the first of the list, if its test holds,
pub first_applies : {t : Bool} (n : ℕ) (rs : List (ℕ × Bool)) → t ≡ true → first_refusal ((n, t) ∷ rs) ≡ n
first_applies n rs e = rw e

-- and one of the others, if it does not
pub first_passes : {t : Bool} (n : ℕ) (rs : List (ℕ × Bool)) → t ≡ false → first_refusal ((n, t) ∷ rs) ≡ first_refusal rs
first_passes n rs e = rw e

-- and of a last one that applies where a test fails, done or its number
pub last_turned : (n : ℕ) (f : Bool) → cond (not f) n done ≡ cond f done n
last_turned n true = refl
last_turned n false = refl

pub first_refusal_in : (rs : List (ℕ × Bool)) → In (first_refusal rs) (done ∷ numbers rs)
first_refusal_in [] = here refl
first_refusal_in (r ∷ rs) = go r.1 (first_refusal_in rs)
  where
    go : (t : Bool) → In (first_refusal rs) (done ∷ numbers rs) → In (cond t r.0 (first_refusal rs)) (done ∷ r.0 ∷ numbers rs)
    go true i = there (here refl)
    go false (here q) = here q
    go false (there i) = there (there i)

-- a list of refusals in front of others: the first that applies there,
pub front_applies : (rs ts : List (ℕ × Bool)) → (first_refusal rs ≡ done → ⊥) → first_refusal (rs ++ ts) ≡ first_refusal rs
front_applies [] ts n = absurd (n refl)
front_applies (r ∷ rs) ts n = go r.1 (front_applies rs ts) n
  where
    go : (t : Bool) → ((first_refusal rs ≡ done → ⊥) → first_refusal (rs ++ ts) ≡ first_refusal rs)
        → (cond t r.0 (first_refusal rs) ≡ done → ⊥) → cond t r.0 (first_refusal (rs ++ ts)) ≡ cond t r.0 (first_refusal rs)
    go true more n = refl
    go false more n = more n

-- or, where none does, the first of the others
pub front_passes : (rs ts : List (ℕ × Bool)) → None rs → first_refusal (rs ++ ts) ≡ first_refusal ts
front_passes [] ts none = refl
front_passes (r ∷ rs) ts (and e h) = rw e (front_passes rs ts h)

-- none applies
pub none_applies : (rs : List (ℕ × Bool)) → None rs → first_refusal rs ≡ done
none_applies [] none = refl
none_applies (r ∷ rs) (and e h) = rw e (none_applies rs h)

-- and where the answer is none of their numbers, none of the front did
pub front_none : (rs ts : List (ℕ × Bool)) {n : ℕ} → first_refusal (rs ++ ts) ≡ n → member n (numbers rs) ≡ false → None rs
front_none [] ts e m = none
front_none (r ∷ rs) ts {n} e m = elim (test r.1) [
  | inl t ↦ let here_is : In n (numbers (r ∷ rs)) = here (sym (rw t at e)) in absurd (true≢false (sym (in_member here_is) ∙ m))
  | inr f ↦ and f (front_none rs ts (rw f at e) (elim (test (member n (numbers rs))) [
    | inl i ↦ let later : In n (numbers (r ∷ rs)) = there (member_in n (numbers rs) i) in absurd (true≢false (sym (in_member later) ∙ m))
    | inr o ↦ o
  ]))
]
