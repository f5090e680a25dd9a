-- The house tabulation: its rule, and that all its entries differ; then ONE test that goes once through the table, and the law that a table that
-- passes it is as said (document 01: "Entry i is (25,173 × i × i + 13,849) modulo 65,521 .. All entries differ"; document 02: "The house book keeps
-- its rule to entry 2,559").
use Rattle.std.specs.Prelude.{◌≡◌, refl, Bool, true, false, not, cond, ◌&&◌, ◌||◌, List, [], ◌∷◌, ℕ, zero, suc, ◌+◌, ◌*◌, ◌%◌, ◌<◌, ltb, eqb, length, get_or}
use Rattle.std.proofs.Common.{sym, ap, ◌∙◌, true≢false, le_of_suc-le-suc, not-suc-le-zero, add-zero, add-suc, suc-add, zero-add, arith, eqb-true, eq-eqb}
use Rattle.std.proofs.lemmas.Bool.{false≢true, not-true}

-- "Entry i is (25,173 × i × i + 13,849) modulo 65,521"
abbrev pub house_entry : ℕ → ℕ
house_entry i = (25173 * i * i + 13849) % 65521

-- n entries from entry i on, as the rule gives them
unfoldable pub rule_entries : ℕ → ℕ → List ℕ
rule_entries i zero = []
rule_entries i (suc n) = house_entry i ∷ rule_entries (suc i) n

-- the list that the rule gives: "The book becomes 2,560 numbers"
unfoldable pub house_table : List ℕ
house_table = rule_entries 0 2560

-- What is said of it: 2,560 entries, each as the rule says, and no two equal.
pub record House (t : List ℕ) : Type 0 where
  pub long : length t ≡ 2560
  pub ruled : (i : ℕ) → i < 2560 → get_or t i 0 ≡ house_entry i
  pub distinct : (i j : ℕ) → i < j → j < 2560 → get_or t i 0 ≡ get_or t j 0 → ⊥

-- The laws: a table that passes the test below is the house tabulation. The test goes through the table once.

-- the entries seen so far, in a binary search tree
pub data Tree : Type 0 where
  leaf : Tree
  node : Tree → ℕ → Tree → Tree

unfoldable pub has : ℕ → Tree → Bool
has x leaf = false
has x (node l y r) = eqb x y || cond (ltb x y) (has x l) (has x r)

unfoldable pub grown : ℕ → Tree → Tree
grown x leaf = node leaf x leaf
grown x (node l y r) = cond (ltb x y) (node (grown x l) y r) (node l y (grown x r))

-- each entry from place i on is as the rule says, and is none of those seen before it; there are n
unfoldable pub test_from : ℕ → ℕ → Tree → List ℕ → Bool
test_from n i seen [] = eqb n 0
test_from zero i seen (x ∷ xs) = false
test_from (suc n) i seen (x ∷ xs) = eqb x (house_entry i) && not (has x seen) && test_from n (suc i) (grown x seen) xs

-- the whole test of a table of 2,560 entries
unfoldable pub house_test : List ℕ → Bool
house_test t = test_from 2560 0 leaf t
