-- The survivors chosen from the candidates in scratch: they move to the front, each with its edge. Assumes nothing.
use Rattle.std.specs.Prelude.{ℕ, zero, suc, ◌+◌, ◌*◌, ◌≤◌, ◌<◌, ◌≡◌, refl, Bool, true, false, List, [], ◌∷◌, ◌++◌, map, eqb, length, get_or, set, take, drop}
use Rattle.std.proofs.Common.{sym, ◌∙◌, inl, inr, append-nil, arith, add-one, eq-eqb, ne_eqb, length-set, length-take, length-drop, length-append, take-suc, get_or-take, get_or-drop, get_or-set_same, get_or-set_other, get_or-append-add, ext_get_or}
use Rattle.std.proofs.Math.Path.{ap}
use Rattle.std.proofs.Math.ListN.{length-map, get_or-append}
use Rattle.std.proofs.Math.Seq.{take-length}
use Rattle.basics.proofs.Tests.{eq?}
use Rattle.basics.specs.Sets.{keep}
use Rattle.basics.proofs.Sets.{length_keep}
use Rattle.basics.proofs.Lists.{keep_append, at_map}
use Rattle.ordered.specs.Keys.{sorted, distinct}
use Rattle.ordered.proofs.Sorting.{sorted_length}
use Rattle.ordered.proofs.Distinct.{distinct_length}
use Rattle.hashing.specs.Hash.{tables, Hashing}
use Rattle.hashing.specs.Slots.{slot_0, slot_1}
use Rattle.layout.specs.Entries.{Entry}
use Rattle.layout.specs.Layout.{params_of, family_of, slots_of, places_of, station_of, slot_entry, stash_entries}
use Rattle.layout.specs.Layout.{Spot, spot_key, looked_at}
use Rattle.layout.specs.Shape.{Shaped, Sized}
use Rattle.layout.proofs.Shape.{shape}
use Rattle.layout.proofs.Shape.{by_own_family}
use Rattle.layout.specs.Ready.{Ready}
use Rattle.edges.specs.Edge.{packed, Packable}
use Rattle.build.specs.Scratch.{edges_at, used}
use Rattle.scratch_set.specs.Edges.{edge_of, Lined, slots_in, packable}
use Rattle.survivors.specs.Salvage.{counting, standing, standing_keys}
use Rattle.survivors.proofs.Spots.{counting_few}
use Rattle.survivors.specs.Looked.{sound_issue}
use Rattle.survivors.proofs.Looked.{issue_small, standing_looked}
use Rattle.candidates.specs.Candidates.{entry_of}

-- the candidates: the keys that count, ascending, each once
unfoldable pub candidates : List ℕ → List ℕ → List ℕ
candidates tabulation ws = distinct (sorted (map spot_key (counting tabulation ws)))

-- the tier of the issue that stands
abbrev pub standing_tier : List ℕ → List ℕ → ℕ → ℕ
standing_tier tabulation ws c = (standing (counting tabulation ws) c).entry.tier

-- The n candidates of the words stand in scratch from word 1 on. r, s and the station number are those of the words.
pub record CandidatesStand (tabulation ws scratch : List ℕ) (r s station n : ℕ) : Type 0 where
  pub ready : Ready tabulation ws scratch
  pub slots : r ≡ slots_of ws
  pub places : s ≡ places_of ws
  pub stationed : station ≡ station_of ws
  pub count : n ≡ length (candidates tabulation ws)
  pub front : take (n + 1) scratch ≡ 0 ∷ candidates tabulation ws

-- After i turns: m keys are kept, at the front, with their edges from `to` on; the keys from i on are where they were.
pub record ChosenTo (p : ℕ → Bool) (f : ℕ → ℕ) (K before after : List ℕ) (to i m : ℕ) : Type 0 where
  pub same_length : length after ≡ length before
  pub front : get_or after 0 0 ≡ 0
  pub few : m ≤ i
  pub count : m ≡ length (keep p (take i K))
  pub keys : (j : ℕ) → j < m → get_or after (j + 1) 0 ≡ get_or (keep p (take i K)) j 0
  pub edges : (j : ℕ) → j < m → get_or after (to + j) 0 ≡ f (get_or (keep p (take i K)) j 0)
  pub rest : (k : ℕ) → i ≤ k → k < length K → get_or after (k + 1) 0 ≡ get_or K k 0

-- The laws. One candidate after the other.
module _ (p : ℕ → Bool) (f : ℕ → ℕ) (K before : List ℕ) (to : ℕ) where
  pub chosen_start : take (length K + 1) before ≡ 0 ∷ K → ChosenTo p f K before before to 0 0
  chosen_start e =
      let at : (k : ℕ) → k < length K + 1 → get_or before k 0
      ≡ get_or (0 ∷ K) k 0 = λ k l. sym (get_or-take (length K + 1) before k 0 l) ∙ ap (λ (X : List ℕ). get_or X k 0) e in
      record {
        same_length = refl;
        front = at 0 (omega arith);
        few = omega arith;
        count = refl;
        keys = λ j l. absurd (omega arith);
        edges = λ j l. absurd (omega arith);
        rest = λ k l m. let q : k + 1 ≡ suc k = omega arith in at (k + 1) (omega arith) ∙ (rw q);
      }

  kept_next : (i : ℕ) → i < length K → keep p (take (i + 1) K) ≡ keep p (take i K) ++ keep p (get_or K i 0 ∷ [])
  kept_next i l = rw (add-one i, take-suc K i 0 l) (keep_append p (take i K) (get_or K i 0 ∷ []))

  module _ {after : List ℕ} {i m : ℕ} (T : ChosenTo p f K before after to i m) (l : i < length K) where
    abbrev A : List ℕ
    A = keep p (take i K)

    pub chosen_skip : p (get_or K i 0) ≡ false → ChosenTo p f K before after to (i + 1) m
    chosen_skip t =
        let e : keep p (take (i + 1) K) ≡ A = kept_next i l ∙ (rw t (append-nil A)) in
        record {
          same_length = T.same_length;
          front = T.front;
          few = omega (arith, T.few);
          count = T.count ∙ ap length (sym e);
          keys = λ j q. T.keys j q ∙ ap (λ (X : List ℕ). get_or X j 0) (sym e);
          edges = λ j q. T.edges j q ∙ ap (λ (X : List ℕ). f (get_or X j 0)) (sym e);
          rest = λ k q r. T.rest k (omega arith) r;
        }

    -- the key at i is kept: it goes behind the m kept ones, and its edge behind theirs
    pub chosen_take : {x y : ℕ} → p (get_or K i 0) ≡ true → y ≡ get_or K i 0 → x ≡ f (get_or K i 0) → length K + 1 ≤ to
        → to + length K ≤ length before
        → ChosenTo p f K before (set (set after (m + 1) y) (to + m) x) to (i + 1) (m + 1)
    chosen_take {x} {y} t ey ex a b =
        let c = get_or K i 0 in
        let mid = set after (m + 1) y in
        let long : length mid ≡ length before = length-set after (m + 1) y ∙ T.same_length in
        let e : keep p (take (i + 1) K) ≡ A ++ (c ∷ []) = kept_next i l ∙ (rw t) in
        let few = T.few in
        let count = T.count in
        let old : (j : ℕ) → j < m → get_or (keep p (take (i + 1) K)) j 0 ≡ get_or A j 0 = λ j q.
        ap (λ (X : List ℕ). get_or X j 0) e ∙ get_or-append A (c ∷ []) 0 j (omega arith) in
        let new : get_or (keep p (take (i + 1) K)) m 0 ≡ c =
        let q : m ≡ length A + 0 = omega arith in ap (λ (X : List ℕ). get_or X m 0) e
        ∙ ap (λ (k : ℕ). get_or (A ++ (c ∷ [])) k 0) q ∙ get_or-append-add A (c ∷ []) 0 0 in
        let far : (k : ℕ) → (k ≡ to + m → ⊥) → (k ≡ m + 1 → ⊥) → get_or (set mid (to + m) x) k 0
        ≡ get_or after k 0 = λ k n o.
        get_or-set_other mid (to + m) k x 0 (λ z. n z) ∙ get_or-set_other after (m + 1) k y 0 (λ z. o z) in
        record {
          same_length = length-set mid (to + m) x ∙ long;
          front = far 0 (λ z. omega arith) (λ z. omega arith) ∙ T.front;
          few = omega arith;
          count = let q = length-append A (c ∷ []) in omega (arith, ap length e);
          keys = λ j q. elim (eq? j m) [
            | inl z ↦ rw z (get_or-set_other mid (to + m) (m + 1) x 0 (λ z. omega arith)
                ∙ get_or-set_same after (m + 1) y 0 (omega (arith, T.same_length)) ∙ ey ∙ sym new)
            | inr n ↦ far (j + 1) (λ z. omega arith) (λ z. n (omega arith)) ∙ T.keys j (omega arith)
                ∙ sym (old j (omega arith))
          ];
          edges = λ j q. elim (eq? j m) [
            | inl z ↦ rw z (get_or-set_same mid (to + m) x 0 (omega arith) ∙ ex ∙ ap f (sym new))
            | inr n ↦ far (to + j) (λ z. n (omega arith)) (λ z. omega arith) ∙ T.edges j (omega arith)
                ∙ ap f (sym (old j (omega arith)))
          ];
          rest = λ k q r. far (k + 1) (λ z. omega arith) (λ z. omega arith) ∙ T.rest k (omega arith) r;
        }

  -- all of them
  pub chosen_all : {after : List ℕ} {i m : ℕ} → i ≡ length K → ChosenTo p f K before after to i m → length K + 1 ≤ to
      → to + length K ≤ length before
      → (m ≡ length (keep p K))
      × ((take (length (keep p K) + 1) after ≡ 0 ∷ keep p K)
      × (take (length (keep p K)) (drop to after) ≡ map f (keep p K)))
  chosen_all {after} {i} {m} z T a b =
      let B = keep p K in
      let all : take i K ≡ K = ap (λ (k : ℕ). take k K) z ∙ take-length K in
      let n : m ≡ length B = T.count ∙ ap (λ (X : List ℕ). length (keep p X)) all in
      let some = length_keep p K in
      let long : length (take (length B + 1) after) ≡ suc (length B) = simp length-take (omega (arith, T.same_length))
      in
      let size : length (take (length B) (drop to after))
      ≡ length (map f B) = simp (length-take, length-drop, length-map) (omega (arith, T.same_length)) in (
        n,
        (
          ext_get_or 0 (take (length B + 1) after) (0 ∷ B) long (λ k l. get_or-take (length B + 1) after k 0 (omega arith)
              ∙ key k (omega arith)),
          ext_get_or 0 (take (length B) (drop to after)) (map f B) size (λ k l.
              let q : k < length B = omega (arith, length-map B f) in
              get_or-take (length B) (drop to after) k 0 q ∙ get_or-drop to after k 0 ∙ T.edges k (omega arith)
              ∙ ap (λ (X : List ℕ). f (get_or (keep p X) k 0)) all ∙ sym (at_map f B k q)),
        ),
      )
    where
      key : (k : ℕ) → k < length (keep p K) + 1 → get_or after k 0 ≡ get_or (0 ∷ keep p K) k 0
      key zero l = T.front
      key (suc k) l =
          let q : suc k ≡ k + 1 = omega arith in
          let all : take i K ≡ K = ap (λ (k : ℕ). take k K) z ∙ take-length K in
          let n : m ≡ length (keep p K) = T.count ∙ ap (λ (X : List ℕ). length (keep p X)) all in
          ap (λ (j : ℕ). get_or after j 0) q ∙ T.keys k (omega arith) ∙ ap (λ (X : List ℕ). get_or (keep p X) k 0) all

-- In scratch: the candidates and their edges have room,
module _ {tabulation ws scratch : List ℕ} {r s station n : ℕ}
    (C : CandidatesStand tabulation ws scratch r s station n) where
  abbrev X : List Spot
  X = counting tabulation ws

  abbrev pub stays : ℕ → Bool
  stays c = eqb (spot_key (standing X c)) c

  abbrev pub edge : ℕ → ℕ
  edge = edge_of (family_of tabulation ws) (standing_tier tabulation ws)

  abbrev pub Choosing : List ℕ → ℕ → ℕ → ℕ → Type 0
  Choosing after to i m = ChosenTo stays edge (candidates tabulation ws) scratch after to i m

  abbrev pub choosing_shaped : Shaped ws
  choosing_shaped = shape ws C.ready.shape

  pub choosing_hashing : Hashing tabulation r station
  choosing_hashing = record {
    full_length = C.ready.full_length;
    has_slots = rw C.slots choosing_shaped.sizes.has_slots;
    slots_bound = rw C.slots choosing_shaped.sizes.slots_bound;
    station_bound = rw C.stationed choosing_shaped.station;
  }

  pub candidates_few : length (candidates tabulation ws) ≤ 2 * slots_of ws + places_of ws
  unfolding candidates
  candidates_few =
      let d = distinct_length (sorted (map spot_key X)) in
      omega (arith, sorted_length (map spot_key X), length-map X spot_key, counting_few tabulation ws)

  pub choosing_room : Sized r s × ((n ≤ 2 * r + s) × (used r s ≤ length scratch))
  choosing_room = (
    rw (C.slots, C.places) choosing_shaped.sizes,
    (
      omega (arith, C.count, C.slots, C.places, candidates_few),
      omega (arith, C.slots, C.places, C.ready.room, choosing_shaped.sizes),
    ),
  )

  -- the issue that stands, as code finds it: by the key's slots,
  module _ (key : ℕ) {first second : ℕ} (f : first ≡ slot_0 (tables tabulation r station) key)
      (h : second ≡ slot_1 (tables tabulation r station) key) where
    own_looked : slot_entry ws first ∷ slot_entry ws second ∷ stash_entries ws ≡ looked_at tabulation ws key
    own_looked =
        let a = by_own_family (λ F. slot_0 F key) tabulation ws C.slots C.stationed f in
        let b = by_own_family (λ F. slot_1 F key) tabulation ws C.slots C.stationed h in
        rw (a, b)

    pub own_slots_in : (first < 2 * slots_of ws) × (second < 2 * slots_of ws)
    own_slots_in =
        let z = choosing_room.0 in
        let w = slots_in tabulation r station key z.has_slots z.slots_bound f h in
        (omega (arith, w, C.slots), omega (arith, w, C.slots))

    module _ {k t : ℕ} (e : entry_of k t
        ≡ sound_issue (slot_entry ws first ∷ slot_entry ws second ∷ stash_entries ws) key) where
      issue_stands : entry_of k t ≡ (standing X key).entry
      issue_stands = e ∙ (rw own_looked (sym (standing_looked tabulation ws choosing_shaped.sizes.has_slots key)))

      pub issue_packable : Packable first second t
      issue_packable =
          let z = choosing_room.0 in
          packable tabulation r station key z.has_slots z.slots_bound f h
          (rw (ap (λ (x : Entry). x.tier) e)
          (issue_small (slot_entry ws first ∷ slot_entry ws second ∷ stash_entries ws) key))

      pub issue_edge : {x : ℕ} → x ≡ packed first second t → x ≡ edge key
      unfolding edge_of
      issue_edge q =
          let a = by_own_family (λ F. slot_0 F key) tabulation ws C.slots C.stationed f in
          let b = by_own_family (λ F. slot_1 F key) tabulation ws C.slots C.stationed h in
          let c : t ≡ standing_tier tabulation ws key = ap (λ (x : Entry). x.tier) issue_stands in
          q ∙ (rw (a, b, c))

      pub issue_stays : k ≡ key → stays key ≡ true
      issue_stays q = eq-eqb _ _ (sym (ap (λ (x : Entry). x.key) issue_stands) ∙ q)

      pub issue_goes : (k ≡ key → ⊥) → stays key ≡ false
      issue_goes q = ne_eqb _ _ (λ z. q (ap (λ (x : Entry). x.key) issue_stands ∙ z))

  -- and where it begins and where it ends.
  pub choosing_start : (to : ℕ) → Choosing scratch to 0 0
  choosing_start to = chosen_start stays edge (candidates tabulation ws) scratch to (rw C.count at C.front)

  pub choosing_parts : {to : ℕ} → to ≡ edges_at r s
      → (length (candidates tabulation ws) + 1 ≤ to) × (to + length (candidates tabulation ws) ≤ length scratch)
  choosing_parts e = let c = choosing_room in (omega (arith, c, C.count), omega (arith, c, C.count))

  pub choosing_end : {after : List ℕ} {to i m : ℕ} → to ≡ edges_at r s → i ≡ n → Choosing after to i m
      → (m ≡ length (standing_keys X))
      × Lined (params_of tabulation ws) (standing_tier tabulation ws) (standing_keys X) after
  unfolding candidates
  choosing_end {to = to} e q T =
      let c = choosing_parts e in
      let h = chosen_all stays edge (candidates tabulation ws) scratch to (q ∙ C.count) T c.0 c.1 in
      (h.0, record { keys = h.1.0; edges = rw (e, C.slots, C.places) at h.1.1 })
