-- The laws of what specs/Stations.antt defines.
use Rattle.std.specs.Prelude.{ℕ, zero, suc, ◌+◌, ◌*◌, ◌/◌, ◌%◌, ◌≤◌, ◌<◌, ◌≡◌, refl, List, ◌++◌, length, get_or, take, drop, replicate}
use Rattle.std.proofs.Common.{sym, ◌∙◌, ap, add-zero, zero-add, suc-mul, arith, length-append, length-take, length-drop, get_or-drop, get_or-take, drop_at, length-take-le}
use Rattle.std.proofs.Math.Nat.{mod-add-mod, add-mul-mod_self_left}
use Rattle.std.proofs.lemmas.List.{length-replicate, get_or-replicate}
use Rattle.std.proofs.Math.ListN.{get_or-append}
use Rattle.hashing.specs.Hash.{max_station, tabulation_length, first_part, Family, tables, byte, entry_at, entry, turned, hash}
use Rattle.hashing.specs.Stations.{hash_01, Moved, moved}

-- The laws. The five stretches of both halves lie in the tabulation, and no two of their entries are one.
pub entry_inside : (table i b : ℕ) → table < 2 → i < 5 → b < 256 → entry_at table i b < tabulation_length
entry_inside table i b t l m = omega arith

pub entry_apart : (table i b table' i' b' : ℕ) → i < 5 → b < 256 → i' < 5 → b' < 256
    → entry_at table i b ≡ entry_at table' i' b' → (table ≡ table') × ((i ≡ i') × (b ≡ b'))
entry_apart table i b table' i' b' l m l' m' e = (omega arith, (omega arith, omega arith))

-- The fifth is read inside its stretch, at another entry for each station.
pub turned_lt : (station b0 : ℕ) → turned station b0 < 256
turned_lt station b0 = omega arith

pub turned_apart : (station station' b0 : ℕ) → station ≤ max_station → station' ≤ max_station → turned station b0 ≡ turned station' b0 → station ≡ station'
turned_apart station station' b0 l m e = omega arith

byte_lt : (i key : ℕ) → byte i key < 256
byte_lt zero key = omega arith
byte_lt (suc i) key = byte_lt i (key / 256)

-- Where the four stretches of the bytes are zeros, the hash is the fifth stretch's entry at (part + station) modulo 256, b0 being the first part modulo 256.
pub hash_fifth : (F : Family) (table key : ℕ) → ((i b : ℕ) → i < 4 → b < 256 → entry F.tabulation table i b ≡ 0)
    → hash F table key ≡ entry F.tabulation table 4 ((first_part key + F.station) % 256) % F.slots
unfolding hash
hash_fifth F table key z =
    let part = first_part key in
    let at : turned F.station (byte 0 part) ≡ (part + F.station) % 256 = omega arith in
    rw (
      z 0 (byte 0 part) (omega arith) (byte_lt 0 part),
      z 1 (byte 1 part) (omega arith) (byte_lt 1 part),
      z 2 (byte 2 part) (omega arith) (byte_lt 2 part),
      z 3 (byte 3 part) (omega arith) (byte_lt 3 part),
      at,
      zero-add,
    )

-- Where the fifth stretches are zeros, it is document 01's of the first part, at station 0 and at any other.
pub moved_hash : {old new : List ℕ} → Moved old new → (r station table key : ℕ) → table < 2
    → hash (tables new r station) table key ≡ hash_01 old r table (first_part key)
unfolding hash
moved_hash {old} {new} m r station table key t =
    let part = first_part key in
    rw (
      m.same table 0 (byte 0 part) t (omega arith) (byte_lt 0 part),
      m.same table 1 (byte 1 part) t (omega arith) (byte_lt 1 part),
      m.same table 2 (byte 2 part) t (omega arith) (byte_lt 2 part),
      m.same table 3 (byte 3 part) t (omega arith) (byte_lt 3 part),
      m.zeros table (turned station (byte 0 part)) t (turned_lt station (byte 0 part)),
      add-zero,
    )

-- What a station does not part: keys whose first parts have one lowest byte, and that share a slot at one station, share it at every station.
same_left : (q a b f : ℕ) → (a + f) % suc q ≡ (b + f) % suc q → a % suc q ≡ b % suc q
same_left q a b f e = sym (cancel a) ∙ ap (λ (n : ℕ). (n + q * f) % suc q) e ∙ cancel b
  where
    cancel : (a : ℕ) → ((a + f) % suc q + q * f) % suc q ≡ a % suc q
    cancel a =
        let k : a + f + q * f ≡ a + suc q * f = omega (arith, suc-mul q f) in
        mod-add-mod (a + f) (suc q) (q * f) ∙ ap (λ (n : ℕ). n % suc q) k ∙ add-mul-mod_self_left a (suc q) f

same_shifted : (r a b f g : ℕ) → 0 < r → (a + f) % r ≡ (b + f) % r → (a + g) % r ≡ (b + g) % r
same_shifted zero a b f g l e = absurd (omega arith)
same_shifted (suc q) a b f g l e =
    sym (mod-add-mod a (suc q) g) ∙ ap (λ (n : ℕ). (n + g) % suc q) (same_left q a b f e) ∙ mod-add-mod b (suc q) g

pub low_byte_together : (tabulation : List ℕ) (r station station' table c d : ℕ) → 0 < r → byte 0 (first_part c) ≡ byte 0 (first_part d)
    → hash (tables tabulation r station) table c ≡ hash (tables tabulation r station) table d
    → hash (tables tabulation r station') table c ≡ hash (tables tabulation r station') table d
unfolding hash
low_byte_together tabulation r station station' table c d some low e =
    let E = entry tabulation table in
    let p = first_part c in
    let q = first_part d in
    let four : ℕ → ℕ = λ part. E 0 (byte 0 part) + E 1 (byte 1 part) + E 2 (byte 2 part) + E 3 (byte 3 part) in
    let fifth : ℕ → ℕ → ℕ = λ at part. E 4 (turned at (byte 0 part)) in
    let same : (at : ℕ) → fifth at q ≡ fifth at p = λ at. ap (λ (b : ℕ). E 4 (turned at b)) (sym low) in
    same_shifted r (four p) (four q) (fifth station p) (fifth station' p) some (e ∙ ap (λ (x : ℕ). (four q + x) % r) (same station))
    ∙ ap (λ (x : ℕ). (four q + x) % r) (sym (same station'))

-- an entry behind the first n
behind : (xs ys : List ℕ) (n i : ℕ) → length xs ≡ n → get_or (xs ++ ys) (n + i) 0 ≡ get_or ys i 0
behind xs ys n i l = sym (get_or-drop n (xs ++ ys) i 0) ∙ ap (λ (zs : List ℕ). get_or zs i 0) (drop_at xs ys n l)

module _ (old : List ℕ) (long : length old ≡ 2048) where
  pub moved_length : length (moved old) ≡ tabulation_length
  moved_length = simp (length-append, length-take, length-drop, length-replicate) (omega arith)

  first_length : length (take 1024 old) ≡ 1024
  first_length = length-take-le 1024 old (omega arith)

  second_length : length (take 1024 (drop 1024 old)) ≡ 1024
  second_length = length-take-le 1024 (drop 1024 old) (omega (arith, length-drop 1024 old))

  -- what stands behind the first stretches of table 0, then behind its fifth, and behind those of table 1
  fifth : (b : ℕ) → get_or (moved old) (1024 + b) 0 ≡ get_or (replicate 256 0 ++ (take 1024 (drop 1024 old) ++ replicate 256 0)) b 0
  fifth b = behind (take 1024 old) (replicate 256 0 ++ (take 1024 (drop 1024 old) ++ replicate 256 0)) 1024 b first_length

  half : (j : ℕ) → get_or (moved old) (1024 + (256 + j)) 0 ≡ get_or (take 1024 (drop 1024 old) ++ replicate 256 0) j 0
  half j = fifth (256 + j) ∙ behind (replicate 256 0) (take 1024 (drop 1024 old) ++ replicate 256 0) 256 j (length-replicate {A = ℕ} 256 0)

  pub moved_is : Moved old (moved old)
  moved_is = record { same = same; zeros = zeros }
    where
      same : (table i b : ℕ) → table < 2 → i < 4 → b < 256 → entry (moved old) table i b ≡ get_or old (1024 * table + 256 * i + b) 0
      same zero i b t l m =
          let j : 256 * i + b < 1024 = omega arith in
          let p : entry_at 0 i b ≡ 256 * i + b = omega arith in
          let q : 256 * i + b ≡ 1024 * 0 + 256 * i + b = omega arith in
          ap (λ (k : ℕ). get_or (moved old) k 0) p
          ∙ get_or-append (take 1024 old) (replicate 256 0 ++ (take 1024 (drop 1024 old) ++ replicate 256 0)) 0 (256 * i + b) (omega (arith, first_length))
          ∙ get_or-take 1024 old (256 * i + b) 0 j
          ∙ ap (λ (k : ℕ). get_or old k 0) q
      same (suc zero) i b t l m =
          let j : 256 * i + b < 1024 = omega arith in
          let p : entry_at 1 i b ≡ 1024 + (256 + (256 * i + b)) = omega arith in
          let q : 1024 + (256 * i + b) ≡ 1024 * 1 + 256 * i + b = omega arith in
          ap (λ (k : ℕ). get_or (moved old) k 0) p ∙ half (256 * i + b)
          ∙ get_or-append (take 1024 (drop 1024 old)) (replicate 256 0) 0 (256 * i + b) (omega (arith, second_length))
          ∙ get_or-take 1024 (drop 1024 old) (256 * i + b) 0 j
          ∙ get_or-drop 1024 old (256 * i + b) 0
          ∙ ap (λ (k : ℕ). get_or old k 0) q
      same (suc (suc k)) i b t l m = absurd (omega arith)

      zeros : (table b : ℕ) → table < 2 → b < 256 → entry (moved old) table 4 b ≡ 0
      zeros zero b t m =
          let p : entry_at 0 4 b ≡ 1024 + b = omega arith in
          ap (λ (k : ℕ). get_or (moved old) k 0) p ∙ fifth b
          ∙ get_or-append (replicate 256 0) (take 1024 (drop 1024 old) ++ replicate 256 0) 0 b (rw (length-replicate {A = ℕ} 256 0) m) ∙ get_or-replicate 256 b 0 0 m
      zeros (suc zero) b t m =
          let p : entry_at 1 4 b ≡ 1024 + (256 + (1024 + b)) = omega arith in
          ap (λ (k : ℕ). get_or (moved old) k 0) p ∙ half (1024 + b)
          ∙ behind (take 1024 (drop 1024 old)) (replicate 256 0) 1024 b second_length ∙ get_or-replicate 256 b 0 0 m
      zeros (suc (suc k)) b t m = absurd (omega arith)
