-- What a station does to the hash, and what it leaves: where the fifth stretch is read, that two stations read it apart, that first parts with one lowest byte
-- stay together, and that with zeros in it the hash is document 01's own, of 2,048 numbers (document 02, "Five"). Assumes nothing.
use Rattle.std.specs.Prelude.{ℕ, zero, suc, ◌+◌, ◌*◌, ◌/◌, ◌%◌, ◌≤◌, ◌<◌, ◌≡◌, refl, List, ◌++◌, length, get_or, take, drop, replicate}
use Rattle.std.proofs.Common.{sym, ◌∙◌, ap, add-zero, zero-add, suc-mul, arith, length-append, length-take, length-drop, get_or-drop, get_or-take, drop_at, length-take-le}
use Rattle.std.proofs.Math.Nat.{mod-add-mod, add-mul-mod_self_left}
use Rattle.std.proofs.lemmas.List.{length-replicate, get_or-replicate}
use Rattle.std.proofs.Math.ListN.{get_or-append}
use Rattle.hashing.specs.Hash.{max_station, tabulation_length, first_part, Family, tables, byte, entry_at, entry, turned, hash}

-- "Its place in rack k is the sum over i = 0 to 3 of book entry 1,024k + 256i + bi, taken modulo r": the hash of document 01
abbrev pub hash_01 : List ℕ → ℕ → ℕ → ℕ → ℕ
hash_01 old r table key =
    let e : ℕ → ℕ = λ i. get_or old (1024 * table + 256 * i + byte i key) 0 in
    (e 0 + e 1 + e 2 + e 3) % r

-- A tabulation of document 01 is moved: "its rack 1 entries moved to 1,280 and its new stretches zero".
pub record Moved (old new : List ℕ) : Type 0 where
  pub same : (table i b : ℕ) → table < 2 → i < 4 → b < 256 → entry new table i b ≡ get_or old (1024 * table + 256 * i + b) 0
  pub zeros : (table b : ℕ) → table < 2 → b < 256 → entry new table 4 b ≡ 0

-- Every tabulation of document 01 can be moved.
abbrev pub moved : List ℕ → List ℕ
moved old = take 1024 old ++ (replicate 256 0 ++ (take 1024 (drop 1024 old) ++ replicate 256 0))
