-- The laws of what specs/Cut.antt defines.
use Prim.Native.Nat.{ℕ, zero, suc, ◌+◌, ◌*◌, ◌-◌, ◌<◌, ◌≤◌}
use Rattle.std.specs.Prelude.{◌≡◌, ◌⊎◌, List, ◌++◌, length, get_or, set, take, drop, replicate}
use Rattle.std.proofs.Math.Path.{refl, ap}
use Rattle.std.proofs.Common.{sym, ◌∙◌, inl, inr, arith, length-drop, get_or-take, get_or-drop, length-take-le, ext_get_or}
use borrow.Rule.Slice.PartMut.{mid_of}
use Rattle.std.proofs.Math.Seq.{take-length, paste}
use Rattle.basics.proofs.Tests.{eq?}
use Rattle.basics.specs.Sets.{Asc}
use Rattle.basics.proofs.Lists.{drop_zeros}
use Rattle.basics.proofs.Parts.{part_lent, to_end, pasted_more}
use Rattle.basics.proofs.Parts.{part_length}
use Rattle.cuckoo.specs.Graph.{root, occupant}
use Rattle.cuckoo.specs.Settling.{Settled}
use Rattle.cuckoo.specs.Seating.{Ends}
use Rattle.cuckoo.specs.Places.{Seat}
use Rattle.cuckoo.proofs.Places.{seat_occupant}
use Rattle.cuckoo.specs.Trail.{trail}
use Rattle.cuckoo.specs.Round.{path, along}
use Rattle.cuckoo.proofs.Round.{path_shift, under, under_path, trail_along, root_met, root_least_met}
use Rattle.walking.specs.Walk.{Closed}
use Rattle.walking.specs.Cut.{SmallestTo, SmallestIn, Lesser, Stands, First, Cut, met_keys, first_visit, Met, Sought, K, j}

-- The laws. One key more
pub smallest_one : (K : List ℕ) → SmallestTo K 1 (get_or K 0 0)
smallest_one K = record { place = 0; inside = omega arith; met = refl; low = λ i l. let e : i ≡ 0 = omega arith in rw e (omega arith) }

pub smallest_more : {K : List ℕ} {n m k : ℕ} → SmallestTo K n m → Lesser m (get_or K n 0) k → SmallestTo K (n + 1) k
smallest_more {K} {n} {m} {k} S L = go L.one
  where
    low : (i : ℕ) → i < n + 1 → k ≤ get_or K i 0
    low i l = elim (eq? i n) [ inl e ↦ rw e L.also | inr d ↦ omega (arith, L.low, S.low i (omega arith)) ]

    go : (k ≡ m) ⊎ (k ≡ get_or K n 0) → SmallestTo K (n + 1) k
    go (inl e) = record { place = S.place; inside = omega (arith, S.inside); met = S.met ∙ sym e; low = low }
    go (inr e) = record { place = n; inside = omega arith; met = sym e; low = low }

pub smallest_all : {K : List ℕ} {n m : ℕ} → n ≡ length K → SmallestTo K n m → SmallestIn K m
smallest_all e S = rw (← e) S

pub sought_here : {K : List ℕ} {key i : ℕ} → Sought K key i → i < length K
sought_here Q = omega (arith, Q.ahead, Q.stands.inside)

pub sought_start : {K : List ℕ} {key : ℕ} → Stands K key → Sought K key 0
sought_start S = record { stands = S; ahead = omega arith; before = λ k l. absurd (omega arith) }

pub sought_turn : {K : List ℕ} {key i : ℕ} → Sought K key i → (get_or K i 0 ≡ key → ⊥) → Sought K key (i + 1)
sought_turn {K} {key} {i} Q n = record {
  stands = Q.stands;
  ahead = elim (eq? i Q.stands.place) [ inl e ↦ absurd (n (rw e Q.stands.met)) | inr d ↦ omega (arith, Q.ahead) ];
  before = λ k l. elim (eq? k i) [ inl e ↦ rw e n | inr d ↦ Q.before k (omega arith) ];
}

pub sought_end : {K : List ℕ} {key i : ℕ} → Sought K key i → get_or K i 0 ≡ key → First K key i
sought_end Q e = record { inside = sought_here Q; met = e; before = Q.before }

-- a copy of n keys that is begun, ended, and over zeros
pub copied_more : {u : List ℕ} {i : ℕ} (d s : List ℕ) → u ≡ paste d 0 s i → i < length d → i < length s → set u i (get_or s i 0) ≡ paste d 0 s (i + 1)
copied_more {i = i} d s e l k =
    let z : 0 + i ≡ i = omega arith in rw z at (pasted_more d 0 s i e k (omega arith) refl)

pub copied_all : (d s : List ℕ) → paste d 0 s (length s) ≡ s ++ drop (length s) d
copied_all d s = let e : 0 + length s ≡ length s = omega arith in rw (e, take-length s)

pub copied_zeros : (k : ℕ) (s : List ℕ) → s ++ drop (length s) (replicate k 0) ≡ s ++ replicate (k - length s) 0
copied_zeros k s = rw (drop_zeros (length s) k)

-- as many keys as steps
met_size : (r n : ℕ) (X : List ℕ) → r + r + (r + r) ≤ length X → n ≤ r + r → length (met_keys r X n) ≡ n
met_size r n X long few = part_length (r + r) n X (omega arith)

-- What a walk that is over knows: it stands where it was after j steps.
module _ {g h : ℕ → ℕ} {u r n v : ℕ} {X : List ℕ} (C : Closed g h u r X n v) where
  pub few : n ≤ r + r
  few = omega (arith, C.room.count)

  pub met_length : length (met_keys r X n) ≡ n
  met_length = met_size r n X C.room.long few

  met_at : (i : ℕ) → i < n → get_or (met_keys r X n) i 0 ≡ h (path g u i)
  met_at i l = rw (get_or-take n (drop (r + r) X) i 0 l, get_or-drop (r + r) X i 0) (C.walked.keys i l)

  record Back : Type 0 where
    earlier : first_visit X v < n
    noted : get_or X v 0 ≡ first_visit X v + 1
    same : path g u (first_visit X v) ≡ path g u n

  back : Back
  back = elim (C.walked.visits v C.room.inside) [
    | inl e ↦ absurd (C.visited e)
    | inr k ↦
        let e : first_visit X v ≡ k.0 = omega (arith, k.2) in
        record { earlier = omega (arith, k.1); noted = omega (arith, k.2); same = ap (path g u) e ∙ k.3 ∙ C.walked.at }
  ]

pub met_lent : (X : List ℕ) {r n i k : ℕ} → i ≡ r → k ≡ n → mid_of (2 * i) (2 * i + k - 2 * i) X ≡ met_keys r X n
met_lent X {r} {n} {i} {k} p q = part_lent X {a = 2 * i} {e = 2 * i + k} (r + r) n (omega arith) (omega arith)

-- code reads the keys as a part of scratch, K, and the visit of v as a word, x
pub visited_at : {r n v i x : ℕ} {X : List ℕ} → Met r X n v → i ≡ v → x ≡ get_or X i 0 → x ≡ first_visit X v + 1
visited_at {X = X} M q e = e ∙ ap (λ (k : ℕ). get_or X k 0) q ∙ M.visited

module _ {r n v x : ℕ} {X K : List ℕ} (M : Met r X n v) (part : K ≡ met_keys r X n) (e : x ≡ first_visit X v + 1) where
  met_count : length K ≡ n
  met_count = ap length part ∙ met_size r n X M.stretch.long M.stretch.few

  pub behind : x - 1 < length K
  behind = omega (arith, met_count, M.earlier)

  rest_is : mid_of (x - 1) (length K - (x - 1)) K ≡ drop (x - 1) K
  rest_is = to_end (x - 1) K

  pub rest_some : 0 < length (mid_of (x - 1) (length K - (x - 1)) K)
  rest_some = rw rest_is (simp length-drop (omega (arith, behind)))

  module _ {m : ℕ} (low : SmallestIn (mid_of (x - 1) (length K - (x - 1)) K) m) where
    lowest : SmallestIn (drop (x - 1) K) m
    lowest = rw rest_is at low

    pub root_stands : Stands K m
    root_stands =
        let l : lowest.place < length K - (x - 1) = rw (← length-drop (x - 1) K) lowest.inside in
        record { place = x - 1 + lowest.place; inside = omega arith; met = sym (get_or-drop (x - 1) K lowest.place 0) ∙ lowest.met }

    pub cut_of : {p : ℕ} → First K m p → Cut (met_keys r X n) (first_visit X v) (p + 1)
    cut_of {p} F =
        let q : x - 1 ≡ first_visit X v = omega arith in
        record { root = m; smallest = rw (q, part) at lowest; place = p; first = rw part at F; count = refl }

pub closed_met : {g h : ℕ → ℕ} {u r n v : ℕ} {X : List ℕ} → r ≤ 1024 → Closed g h u r X n v → Met r X n v
closed_met l C = record {
  stretch = record { slots_bound = l; long = C.room.long; few = few C };
  inside = C.room.inside;
  visited = (back C).noted;
  earlier = (back C).earlier;
}

-- Where g crosses over and h tells the keys of a settled set T in the slots below b: the cut is the trail.
module _ (a b : ℕ → ℕ) {T : List ℕ} (asc : Asc T) (stop : Settled a b T) {g h : ℕ → ℕ} (crosses : (v c : ℕ) → Seat a b T v c → Ends a b c v (g v))
    {u r n v : ℕ} {X : List ℕ} (C : Closed g h u r X n v) (tells : (i : ℕ) → h (path g u i) ≡ occupant a b T (path g u i))
    {c : ℕ} (S : Seat a b T u c) where
  key_at : (i : ℕ) → i < n → get_or (K a b asc stop crosses C tells S) i 0 ≡ occupant a b T (path g u i)
  key_at i l = met_at C i l ∙ tells i

  -- the smallest from place j on is the root
  cut_root : {m : ℕ} → SmallestIn (drop (j a b asc stop crosses C tells S) (K a b asc stop crosses C tells S)) m → m ≡ root a b T (a c)
  cut_root {m} L =
      let B = back C in
      let z = root a b T (a c) in
      let U = under_path a b asc stop g crosses (under a b asc stop g crosses S) (j a b asc stop crosses C tells S) in
      let round : path g (path g u (j a b asc stop crosses C tells S)) (n - (j a b asc stop crosses C tells S)) ≡ path g u (j a b asc stop crosses C tells S) = path_shift g u (j a b asc stop crosses C tells S) (n - (j a b asc stop crosses C tells S)) ∙ ap (path g u) (omega (arith, B.earlier)) ∙ sym B.same in
      let size : length (drop (j a b asc stop crosses C tells S) (K a b asc stop crosses C tells S)) ≡ n - (j a b asc stop crosses C tells S) = simp (length-drop, met_length C) in
      let there : (i : ℕ) → i < n - (j a b asc stop crosses C tells S) → get_or (drop (j a b asc stop crosses C tells S) (K a b asc stop crosses C tells S)) i 0 ≡ occupant a b T (path g (path g u (j a b asc stop crosses C tells S)) i) =
      λ i l. get_or-drop (j a b asc stop crosses C tells S) (K a b asc stop crosses C tells S) i 0 ∙ key_at ((j a b asc stop crosses C tells S) + i) (omega arith) ∙ ap (occupant a b T) (sym (path_shift g u (j a b asc stop crosses C tells S) i)) in
      let M = root_met a b asc stop g crosses (n - (j a b asc stop crosses C tells S)) U (omega (arith, B.earlier)) round in
      let low = root_least_met a b asc stop g crosses (n - (j a b asc stop crosses C tells S)) U (omega (arith, B.earlier)) round in
      let one : z ≤ m = omega (arith, low L.place (omega (arith, L.inside, size)), there L.place (omega (arith, L.inside, size)), L.met) in
      let two : m ≤ z = omega (arith, L.low M.0 (omega (arith, M.1, size)), there M.0 M.1, M.2) in
      omega arith

  along_length : (v k : ℕ) → length (along g (occupant a b T) v k) ≡ k
  unfolding along
  along_length v zero = refl
  along_length v (suc k) = ap suc (along_length (g v) k)

  along_at : (v k i : ℕ) → i < k → get_or (along g (occupant a b T) v k) i 0 ≡ occupant a b T (path g v i)
  unfolding along path
  along_at v zero i l = absurd (omega arith)
  along_at v (suc k) zero l = refl
  along_at v (suc k) (suc i) l = along_at (g v) k i (omega arith)

  pub cut_trail : {q : ℕ} → Cut (K a b asc stop crosses C tells S) (j a b asc stop crosses C tells S) q → trail a b T c ≡ take q (K a b asc stop crosses C tells S)
  cut_trail {q} D =
      let z = root a b T (a c) in
      let e = cut_root D.smallest in
      let p = D.place in
      let l : p < n = omega (arith, D.first.inside, met_length C) in
      let U = under a b asc stop g crosses S in
      let t = trail_along a b asc stop g crosses p U (seat_occupant a b S) (sym (key_at p l) ∙ D.first.met ∙ e)
      (λ i k f. D.first.before i k (key_at i (omega arith) ∙ f ∙ sym e)) in
      let s : length (take q (K a b asc stop crosses C tells S)) ≡ suc p = length-take-le q (K a b asc stop crosses C tells S) (omega (arith, met_length C, D.count)) ∙ omega (arith, D.count) in
      t ∙ ext_get_or 0 (along g (occupant a b T) u (suc p)) (take q (K a b asc stop crosses C tells S)) (along_length u (suc p) ∙ sym s)
      (λ i k. let m : i < suc p = omega (arith, along_length u (suc p)) in
      along_at u (suc p) i m ∙ sym (get_or-take q (K a b asc stop crosses C tells S) i 0 (omega (arith, D.count)) ∙ key_at i (omega arith)))
