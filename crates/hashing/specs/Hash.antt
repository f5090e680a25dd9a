-- The hash of a key in a table, by simple tabulation (document 01, "Where a card may sit"; document 02, "Five" and "Six"; their 'place' of a card in a rack).
-- What callers use of `hash` are its laws, `hash_lt` and those of Issues and Stations; its text may change behind its name. The worked rows K1 to K12 alone
-- compute with it.
use Rattle.std.specs.Prelude.{ℕ, zero, suc, ◌+◌, ◌*◌, ◌/◌, ◌%◌, ◌<◌, ◌≤◌, ◌≡◌, Bool, true, ◌&&◌, List, leb, ltb, length, get_or}
use Rattle.std.proofs.Common.{mod-lt, leb-true, le-leb}

-- the tabulation (document 01's 'spread book') is "2,560 numbers, 1,280 for each rack in five stretches of 256"
abbrev pub tabulation_length : ℕ
tabulation_length = 2560

-- r, the number of slots of a table, is 1 to 1,024
abbrev pub max_slots : ℕ
max_slots = 1024

unfoldable pub slots_in_range : ℕ → Bool
slots_in_range r = leb 1 r && leb r max_slots

-- "A station number, 0 to 255"
abbrev pub max_station : ℕ
max_station = 255

unfoldable pub station_in_range : ℕ → Bool
station_in_range station = leb station max_station

-- "The card makers now use the last decimal digit as issue digit": what stands before it is the key's first part, "the number divided by ten and rounded down"
abbrev pub first_part : ℕ → ℕ
first_part key = key / 10

-- "A blank card is any number below 10": a blank key is the key of no element
unfoldable pub blank : ℕ → Bool
blank key = ltb key 10

-- what the hash of a key depends on besides the table and the key
pub record Family : Type 0 where
  pub tabulation : List ℕ
  pub slots : ℕ
  pub station : ℕ

-- the family of a tabulation, with r slots to a table, at a station
abbrev pub tables : List ℕ → ℕ → ℕ → Family
tables tabulation r station = record { tabulation = tabulation; slots = r; station = station }

-- byte i of a number, b0 the lowest
abbrev pub byte : ℕ → ℕ → ℕ
byte zero n = n % 256
byte (suc i) n = byte i (n / 256)

-- entry b of stretch i of a table's half, and where it stands: each rack has 1,280 numbers "in five stretches of 256"
abbrev pub entry_at : ℕ → ℕ → ℕ → ℕ
entry_at table i b = 1280 * table + 256 * i + b

abbrev pub entry : List ℕ → ℕ → ℕ → ℕ → ℕ
entry tabulation table i b = get_or tabulation (entry_at table i b) 0

-- where the fifth stretch is read: "at (b0 + station number) modulo 256"
abbrev pub turned : ℕ → ℕ → ℕ
turned station b0 = (b0 + station) % 256

-- "Its place in rack k is the sum over i = 0 to 3 of" the entry of byte i in stretch i, "and a place's sum adds the fifth stretch's entry at
-- (b0 + station number) modulo 256"; "taken modulo r". The bytes are those of the first part: "The places come from the number divided by ten".
unfoldable pub hash : Family → ℕ → ℕ → ℕ
hash F table key =
    let e = entry F.tabulation table in
    let b : ℕ → ℕ = λ i. byte i (first_part key) in
    (e 0 (b 0) + e 1 (b 1) + e 2 (b 2) + e 3 (b 3) + e 4 (turned F.station (b 0))) % F.slots

-- what hashing needs: a tabulation of its length, r and the station number in their ranges
pub record Hashing (tabulation : List ℕ) (r station : ℕ) : Type 0 where
  pub full_length : length tabulation ≡ tabulation_length
  pub has_slots : 0 < r
  pub slots_bound : r ≤ max_slots
  pub station_bound : station ≤ max_station
