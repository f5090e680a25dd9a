-- An edge: one word with the slot of a key in table 0, 2,048 times its slot in table 1, and 4,194,304 times its tier.
-- The definitions come first; the laws say that an edge is read back. Assumes nothing.
use Rattle.std.specs.Prelude.{ℕ, ◌+◌, ◌*◌, ◌/◌, ◌%◌, ◌≤◌, ◌<◌, ◌≡◌}
use Rattle.std.proofs.Common.{arith}

-- what the slot in table 1 counts, and the tier
abbrev pub second_base : ℕ
second_base = 2048

abbrev pub tier_base : ℕ
tier_base = 4194304

abbrev pub packed : ℕ → ℕ → ℕ → ℕ
packed first second tier = first + second_base * second + tier_base * tier

abbrev pub first_of : ℕ → ℕ
first_of edge = edge % second_base

abbrev pub second_of : ℕ → ℕ
second_of edge = edge / second_base % second_base

-- all that stands above the slots
abbrev pub tier_of_edge : ℕ → ℕ
tier_of_edge edge = edge / tier_base

-- two slots and a tier for which a word of 32 bits has room
pub record Packable (first second tier : ℕ) : Type 0 where
  pub first_bound : first < second_base
  pub second_bound : second < second_base
  pub tier_bound : tier < 1024

-- an edge between the tables, with r slots to a table
pub record Edge (r edge : ℕ) : Type 0 where
  pub in_0 : first_of edge < r
  pub from_1 : r ≤ second_of edge
  pub in_1 : second_of edge < 2 * r

-- the edge of no key: between the first slots of the tables
unfoldable pub no_edge : ℕ → ℕ
no_edge r = packed 0 r 0

-- The laws. An edge is read back:
module _ {first second : ℕ} (f : first < second_base) (g : second < second_base) (tier : ℕ) where
  pub packed_first : first_of (packed first second tier) ≡ first
  packed_first = omega arith

  pub packed_second : second_of (packed first second tier) ≡ second
  packed_second =
      let e : packed first second tier / second_base ≡ second + second_base * tier = omega arith in
      rw e (omega arith)

  pub packed_tier : tier_of_edge (packed first second tier) ≡ tier
  packed_tier = omega arith

-- what is no larger than a slot, as a rank, has no tier;
pub low_tier : {word : ℕ} → word < tier_base → tier_of_edge word ≡ 0
low_tier l = omega arith

-- and an edge is one between the tables where its slots are theirs.
module _ {r : ℕ} (most : r ≤ 1024) where
  pub packed_edge : {first second : ℕ} → first < r → r ≤ second → second < 2 * r → (tier : ℕ)
      → Edge r (packed first second tier)
  packed_edge {first} {second} f g h tier =
      let a : first < second_base = omega arith in
      let b : second < second_base = omega arith in
      record {
        in_0 = rw (packed_first a b tier) f;
        from_1 = rw (packed_second a b tier) g;
        in_1 = rw (packed_second a b tier) h;
      }

  pub no_edge_between : 0 < r → Edge r (no_edge r)
  unfolding no_edge
  no_edge_between some = packed_edge some (omega arith) (omega arith) 0

pub no_edge_first : (r : ℕ) → first_of (no_edge r) ≡ 0
unfolding no_edge
no_edge_first r = omega arith
