-- The laws of what specs/Hash.antt defines.
use Rattle.std.specs.Prelude.{ℕ, zero, suc, ◌+◌, ◌*◌, ◌/◌, ◌%◌, ◌<◌, ◌≤◌, ◌≡◌, Bool, true, ◌&&◌, List, leb, ltb, length, get_or}
use Rattle.std.proofs.Common.{mod-lt, leb-true, le-leb}
use Rattle.basics.proofs.Tests.{and_true}
use Rattle.hashing.specs.Hash.{tabulation_length, max_slots, slots_in_range, max_station, station_in_range, Family, hash, Hashing}

-- The laws that callers use.

pub in_range_pos : (r : ℕ) → slots_in_range r ≡ true → 0 < r
unfolding slots_in_range
in_range_pos r e = leb-true 1 r (and_true (leb 1 r) (leb r max_slots) e).0

pub in_range_max : (r : ℕ) → slots_in_range r ≡ true → r ≤ max_slots
unfolding slots_in_range
in_range_max r e = leb-true r max_slots (and_true (leb 1 r) (leb r max_slots) e).1

pub range_in : (r : ℕ) → 0 < r → r ≤ max_slots → slots_in_range r ≡ true
unfolding slots_in_range
range_in r some most = rw (le-leb 1 r some) (le-leb r max_slots most)

pub station_max : (station : ℕ) → station_in_range station ≡ true → station ≤ max_station
unfolding station_in_range
station_max station e = leb-true station max_station e

pub station_in : (station : ℕ) → station ≤ max_station → station_in_range station ≡ true
unfolding station_in_range
station_in station l = le-leb station max_station l

-- it is had where neither 1 nor 2 applies
pub hashing : {tabulation : List ℕ} {r station : ℕ} → length tabulation ≡ tabulation_length → slots_in_range r ≡ true → station_in_range station ≡ true
    → Hashing tabulation r station
hashing {tabulation} {r} {station} e range at =
    record { full_length = e; has_slots = in_range_pos r range; slots_bound = in_range_max r range; station_bound = station_max station at }

-- a hash is a slot of its table
pub hash_lt : (F : Family) (table key : ℕ) → 0 < F.slots → hash F table key < F.slots
unfolding hash
hash_lt F table key h = mod-lt _ h
