-- The walk by which code finds a trail: from slot to slot, each time along the key in it to that key's other slot, until it comes to a slot where it was. The
-- first 2r words of scratch note, for each slot, after how many steps it was visited; the keys that are met stand in the 2r words behind. What a step
-- does to these words, and what they say when the walk is over. Assumes nothing.
use Rattle.std.specs.Prelude.{ℕ, zero, suc, ◌+◌, ◌<◌, ◌≤◌, ◌≡◌, cond, ◌⊎◌, List, eqb, ltb, length, get_or, set}
use Rattle.cuckoo.specs.Round.{path}
use Rattle.hashing.specs.Hash.{Hashing}
use Rattle.hashing.specs.Slots.{slot_0, slot_1}
use Rattle.layout.specs.Layout.{family_of, slots_of, station_of, slot_entry}
use Rattle.layout.specs.Shape.{Shaped}

-- the key in a slot of the words
abbrev pub key_of : List ℕ → ℕ → ℕ
key_of ws v = (slot_entry ws v).key

-- "The step out of rack 0 hands on to the step out of rack 1 and back": from a slot to the slot of its key in the other table
unfoldable pub across : List ℕ → List ℕ → ℕ → ℕ
across tabulation ws v =
    let F = family_of tabulation ws in
    cond (ltb v (slots_of ws)) (slot_1 F (key_of ws v)) (slot_0 F (key_of ws v))

-- how many of the first n slots are not yet visited: their word is 0
unfoldable pub unvisited : ℕ → List ℕ → ℕ
unvisited zero X = 0
unvisited (suc n) X = cond (eqb (get_or X n 0) 0) 1 0 + unvisited n X

-- scratch with slot v noted as visited after n steps, and its key
abbrev pub with_visit : (r v n key : ℕ) → List ℕ → List ℕ
with_visit r v n key X = set (set X v (n + 1)) (r + r + n) key

-- the most steps of one run, and whether a run goes on
abbrev pub run_length : ℕ
run_length = 16

-- A walk may stand in slot v after n steps: the words are there, and as many slots are visited as steps were made.
pub record WalkRoom (r : ℕ) (X : List ℕ) (n v : ℕ) : Type 0 where
  pub long : r + r + (r + r) ≤ length X
  pub inside : v < r + r
  pub count : n + unvisited (r + r) X ≡ r + r

-- and this slot is not yet visited
pub record New (r : ℕ) (X : List ℕ) (n v : ℕ) : Type 0 where
  pub room : WalkRoom r X n v
  pub fresh : get_or X v 0 ≡ 0

-- the slots of keys can be worked out, and the words be read, where r and the station number are the words' own
pub record Readable (tabulation ws : List ℕ) (r station : ℕ) : Type 0 where
  pub hashing : Hashing tabulation r station
  pub shaped : Shaped ws
  pub slots : r ≡ slots_of ws
  pub stationed : station ≡ station_of ws

-- By steps g it came from slot u to v in n steps, and X has what is noted on the way: of a visited slot the step, and the keys, as h tells them.
module _ (g h : ℕ → ℕ) where
  pub record Walked (u r : ℕ) (X : List ℕ) (n v : ℕ) : Type 0 where
    pub at : v ≡ path g u n
    pub visits : (w : ℕ) → w < r + r → (get_or X w 0 ≡ 0) ⊎ ((i : ℕ) × (i < n) × (get_or X w 0 ≡ i + 1) × (path g u i ≡ w))
    pub keys : (i : ℕ) → i < n → get_or X (r + r + i) 0 ≡ h (path g u i)

  -- From slot v after n steps, with X, the walk went on to slot w after m steps, with Y.
  pub record Onward (r : ℕ) (X : List ℕ) (n v : ℕ) (Y : List ℕ) (m w : ℕ) : Type 0 where
    pub room : WalkRoom r Y m w
    pub more : n < m
    pub walked : (u : ℕ) → Walked u r X n v → Walked u r Y m w

  -- The walk from slot u is over: it stands in a slot v where it was.
  pub record Closed (u r : ℕ) (X : List ℕ) (n v : ℕ) : Type 0 where
    pub room : WalkRoom r X n v
    pub walked : Walked u r X n v
    pub visited : get_or X v 0 ≡ 0 → ⊥

-- what it leaves, in Y, and where it leads
pub record Stepped (tabulation ws : List ℕ) (r : ℕ) (X : List ℕ) (n v : ℕ) (Y : List ℕ) (w : ℕ) : Type 0 where
  pub onward : Onward (across tabulation ws) (key_of ws) r X n v Y (n + 1) w
  pub falls : unvisited (r + r) Y < unvisited (r + r) X
  pub small : n + 1 ≤ 2048
