-- From the walk to the trail: the smallest key since the walk first came to the slot where it stands is the root, and the trail is the keys as far as it is
-- first met. What the searches through the keys give, and why that is the trail of the definition. Assumes nothing.
use Prim.Native.Nat.{ℕ, ◌+◌, ◌-◌, ◌<◌, ◌≤◌}
use Rattle.std.specs.Prelude.{◌≡◌, ◌⊎◌, List, length, get_or, take, drop}
use Rattle.basics.specs.Sets.{Asc}
use Rattle.cuckoo.specs.Graph.{occupant}
use Rattle.cuckoo.specs.Settling.{Settled}
use Rattle.cuckoo.specs.Seating.{Ends}
use Rattle.cuckoo.specs.Places.{Seat}
use Rattle.cuckoo.specs.Round.{path}
use Rattle.walking.specs.Walk.{Closed}

-- m is the smallest of the first n keys of K, and of all of them
pub record SmallestTo (K : List ℕ) (n m : ℕ) : Type 0 where
  pub place : ℕ
  pub inside : place < n
  pub met : get_or K place 0 ≡ m
  pub low : (i : ℕ) → i < n → m ≤ get_or K i 0

abbrev pub SmallestIn : List ℕ → ℕ → Type 0
SmallestIn K m = SmallestTo K (length K) m

-- m is the smaller of x and y
pub record Lesser (x y m : ℕ) : Type 0 where
  pub one : (m ≡ x) ⊎ (m ≡ y)
  pub low : m ≤ x
  pub also : m ≤ y

-- the key stands among K, and p is its first place
pub record Stands (K : List ℕ) (key : ℕ) : Type 0 where
  pub place : ℕ
  pub inside : place < length K
  pub met : get_or K place 0 ≡ key

pub record First (K : List ℕ) (key p : ℕ) : Type 0 where
  pub inside : p < length K
  pub met : get_or K p 0 ≡ key
  pub before : (i : ℕ) → i < p → get_or K i 0 ≡ key → ⊥

-- The keys K are cut off after the first n: behind the first of them that is the smallest from place j on.
pub record Cut (K : List ℕ) (j n : ℕ) : Type 0 where
  pub root : ℕ
  pub smallest : SmallestIn (drop j K) root
  pub place : ℕ
  pub first : First K root place
  pub count : n ≡ place + 1

-- the keys that the walk met, and the place at which it first was in v
abbrev pub met_keys : (r : ℕ) → List ℕ → ℕ → List ℕ
met_keys r X n = take n (drop (r + r) X)

abbrev pub first_visit : List ℕ → ℕ → ℕ
first_visit X v = get_or X v 0 - 1

-- they are there to be read
pub record Stretch (r : ℕ) (X : List ℕ) (n : ℕ) : Type 0 where
  pub slots_bound : r ≤ 1024
  pub long : r + r + (r + r) ≤ length X
  pub few : n ≤ r + r

-- and the slot v in which the walk stands was visited before
pub record Met (r : ℕ) (X : List ℕ) (n v : ℕ) : Type 0 where
  pub stretch : Stretch r X n
  pub inside : v < r + r
  pub visited : get_or X v 0 ≡ first_visit X v + 1
  pub earlier : first_visit X v < n

-- a key that stands among K is looked for from place i on
pub record Sought (K : List ℕ) (key i : ℕ) : Type 0 where
  pub stands : Stands K key
  pub ahead : i ≤ stands.place
  pub before : (k : ℕ) → k < i → get_or K k 0 ≡ key → ⊥

-- Where g crosses over and h tells the keys of a settled set T in the slots below b: the cut is the trail.
module _ (a b : ℕ → ℕ) {T : List ℕ} (asc : Asc T) (stop : Settled a b T) {g h : ℕ → ℕ} (crosses : (v c : ℕ) → Seat a b T v c → Ends a b c v (g v))
    {u r n v : ℕ} {X : List ℕ} (C : Closed g h u r X n v) (tells : (i : ℕ) → h (path g u i) ≡ occupant a b T (path g u i))
    {c : ℕ} (S : Seat a b T u c) where
  abbrev pub K : List ℕ
  K = met_keys r X n

  abbrev pub j : ℕ
  j = first_visit X v
