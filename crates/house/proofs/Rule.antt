-- The laws of what specs/Rule.antt defines.
use Rattle.std.specs.Prelude.{◌≡◌, refl, Bool, true, false, not, cond, ◌&&◌, ◌||◌, List, [], ◌∷◌, ℕ, zero, suc, ◌+◌, ◌*◌, ◌%◌, ◌<◌, ltb, eqb, length, get_or}
use Rattle.std.proofs.Common.{sym, ap, ◌∙◌, true≢false, le_of_suc-le-suc, not-suc-le-zero, add-zero, add-suc, suc-add, zero-add, arith, eqb-true, eq-eqb}
use Rattle.std.proofs.lemmas.Bool.{false≢true, not-true}
use Rattle.basics.proofs.Tests.{and_true}
use Rattle.house.specs.Rule.{house_entry, rule_entries, house_table, House, Tree, has, grown, test_from, house_test, leaf, node}

or_true : (p q : Bool) → q ≡ true → (p || q) ≡ true
or_true true q e = refl
or_true false q e = e

-- what is put into the tree is in it
has_put_same : (x : ℕ) (t : Tree) → has x (grown x t) ≡ true
unfolding has grown
has_put_same x leaf = rw (eq-eqb x x refl)
has_put_same x (node l y r) = go (ltb x y) refl (has_put_same x l) (has_put_same x r)
  where
    go : (b : Bool) → ltb x y ≡ b → has x (grown x l) ≡ true → has x (grown x r) ≡ true
        → has x (cond b (node (grown x l) y r) (node l y (grown x r))) ≡ true
    go true e hl hr = or_true (eqb x y) _ (rw e hl)
    go false e hl hr = or_true (eqb x y) _ (rw e hr)

-- and what was in it stays
has_put_other : (x z : ℕ) (t : Tree) → has z t ≡ true → has z (grown x t) ≡ true
unfolding has grown
has_put_other x z leaf h = absurd (false≢true h)
has_put_other x z (node l y r) h = go (ltb x y) (eqb z y) (ltb z y) refl refl (has_put_other x z l) (has_put_other x z r) h
  where
    go : (b c d : Bool) → eqb z y ≡ c → ltb z y ≡ d → (has z l ≡ true → has z (grown x l) ≡ true) → (has z r ≡ true → has z (grown x r) ≡ true)
        → (c || cond d (has z l) (has z r)) ≡ true → has z (cond b (node (grown x l) y r) (node l y (grown x r))) ≡ true
    go true true d ec ed hl hr h = rw ec
    go false true d ec ed hl hr h = rw ec
    go true false true ec ed hl hr h = rw (ec, ed) (hl h)
    go true false false ec ed hl hr h = rw (ec, ed) h
    go false false true ec ed hl hr h = rw (ec, ed) h
    go false false false ec ed hl hr h = rw (ec, ed) (hr h)

-- what one entry's part of the test says
record EntryTested (n i x : ℕ) (seen : Tree) (xs : List ℕ) : Type 0 where
  ruled : x ≡ house_entry i
  fresh : has x seen ≡ false
  rest : test_from n (suc i) (grown x seen) xs ≡ true

entry : (n i x : ℕ) (seen : Tree) (xs : List ℕ) → test_from (suc n) i seen (x ∷ xs) ≡ true → EntryTested n i x seen xs
unfolding test_from
entry n i x seen xs e =
    let p = and_true _ _ e in
    let q = and_true _ _ p.0 in
    record { ruled = eqb-true x (house_entry i) q.0; fresh = not-true (has x seen) q.1; rest = p.1 }

-- the rule at each place
ruled_at : (n i : ℕ) (seen : Tree) (xs : List ℕ) → test_from n i seen xs ≡ true → (k : ℕ) → k < length xs → get_or xs k 0 ≡ house_entry (i + k)
unfolding test_from
ruled_at n i seen [] e k l = absurd (not-suc-le-zero l)
ruled_at zero i seen (x ∷ xs) e k l = absurd (false≢true e)
ruled_at (suc n) i seen (x ∷ xs) e zero l = (entry n i x seen xs e).ruled ∙ ap house_entry (sym (add-zero i))
ruled_at (suc n) i seen (x ∷ xs) e (suc k) l =
    ruled_at n (suc i) (grown x seen) xs (entry n i x seen xs e).rest k (le_of_suc-le-suc l)
    ∙ ap house_entry (suc-add i k ∙ sym (add-suc i k))

-- nothing that was seen before stands in the rest
apart : (n i : ℕ) (seen : Tree) (xs : List ℕ) → test_from n i seen xs ≡ true → (z : ℕ) → has z seen ≡ true
    → (k : ℕ) → k < length xs → get_or xs k 0 ≡ z → ⊥
unfolding test_from
apart n i seen [] e z h k l q = not-suc-le-zero l
apart zero i seen (x ∷ xs) e z h k l q = false≢true e
apart (suc n) i seen (x ∷ xs) e z h zero l q = true≢false (sym (rw (← q) at h) ∙ (entry n i x seen xs e).fresh)
apart (suc n) i seen (x ∷ xs) e z h (suc k) l q =
    apart n (suc i) (grown x seen) xs (entry n i x seen xs e).rest z (has_put_other x z seen h) k (le_of_suc-le-suc l) q

differ_from : (n i : ℕ) (seen : Tree) (xs : List ℕ) → test_from n i seen xs ≡ true
    → (j k : ℕ) → j < k → k < length xs → get_or xs j 0 ≡ get_or xs k 0 → ⊥
unfolding test_from
differ_from n i seen [] e j k h l q = not-suc-le-zero l
differ_from zero i seen (x ∷ xs) e j k h l q = false≢true e
differ_from (suc n) i seen (x ∷ xs) e j zero h l q = not-suc-le-zero h
differ_from (suc n) i seen (x ∷ xs) e zero (suc k) h l q =
    apart n (suc i) (grown x seen) xs (entry n i x seen xs e).rest x (has_put_same x seen) k (le_of_suc-le-suc l) (sym q)
differ_from (suc n) i seen (x ∷ xs) e (suc j) (suc k) h l q =
    differ_from n (suc i) (grown x seen) xs (entry n i x seen xs e).rest j k (le_of_suc-le-suc h) (le_of_suc-le-suc l) q

long : (n i : ℕ) (seen : Tree) (xs : List ℕ) → test_from n i seen xs ≡ true → length xs ≡ n
unfolding test_from
long n i seen [] e = sym (eqb-true n 0 e)
long zero i seen (x ∷ xs) e = absurd (false≢true e)
long (suc n) i seen (x ∷ xs) e = ap suc (long n (suc i) (grown x seen) xs (entry n i x seen xs e).rest)

-- the test means just that
pub house : (t : List ℕ) → house_test t ≡ true → House t
unfolding house_test
house t e =
    let l = long 2560 0 leaf t e in
    record {
      long = l;
      ruled = λ i h. ruled_at 2560 0 leaf t e i (omega arith) ∙ ap house_entry (zero-add i);
      distinct = λ i j h k. differ_from 2560 0 leaf t e i j h (omega arith);
    }

-- so it is the list that the rule gives,
rule_list : (n i : ℕ) (seen : Tree) (xs : List ℕ) → test_from n i seen xs ≡ true → xs ≡ rule_entries i n
unfolding test_from rule_entries
rule_list n i seen [] e = rw (eqb-true n 0 e)
rule_list zero i seen (x ∷ xs) e = absurd (false≢true e)
rule_list (suc n) i seen (x ∷ xs) e =
    let p = entry n i x seen xs e in
    rw (p.ruled, ← rule_list n (suc i) (grown x seen) xs p.rest)

pub house_is : (t : List ℕ) → house_test t ≡ true → t ≡ house_table
unfolding house_test house_table
house_is t e = rule_list 2560 0 leaf t e

-- and that list passes the test: the rule gives 2,560 numbers, all different.
pub house_table_is : House house_table
unfolding house_test test_from has grown house_table rule_entries
house_table_is = house house_table refl
