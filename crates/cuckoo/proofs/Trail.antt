-- The laws of what specs/Trail.antt defines.
use Rattle.std.specs.Prelude.{ℕ, zero, suc, ◌<◌, ◌≤◌, ◌≡◌, Bool, true, false, not, cond, ◌&&◌, ◌⊎◌, eqb, length, get_or}
use Rattle.std.proofs.Common.{zero-le, sym, ◌∙◌, ap, arith, not-suc-le-zero, eqb-true, eq-eqb, ne_eqb}
use Rattle.std.proofs.Math.Path.{refl}
use Rattle.std.proofs.Math.Bool.{true≢false, false≢true}
use Rattle.std.proofs.Math.Logic.{inl, inr}
use mathlib.Core.List.Memᴰ.{head as here}
use mathlib.Core.List.Memᴰ.{tail as there}
use mathlib.Core.List.{List, [], ◌∷◌, ◌++◌, Memᴰ as In}
use mathlib.Core.List.Memᴰ.{eq_of_singleton as in-singleton}
use mathlib.Core.List.Memᴰ.{not-nil as in-nil}
use Rattle.std.proofs.lemmas.Bool.{eqb-false}
use Rattle.std.proofs.Math.Dec.{T}
use Rattle.basics.specs.Tests.{test}
use Rattle.basics.proofs.Tests.{eq?}
use Rattle.basics.specs.Sets.{member, keep, without, first, last, Sub, Asc}
use Rattle.basics.proofs.Sets.{in?, keep_in, keep_test, in_keep, in_member, no_member, in_out, out_shorter, length_keep, length_drop}
use Rattle.basics.specs.Lists.{same, Picked, upto}
use Rattle.basics.proofs.Lists.{keep_both, picked, pigeonhole, length_upto, in_upto}
use Rattle.cuckoo.specs.Graph.{label, joined, component, is_on_cycle, cyclic, spare, settle, seated, stash, root, sits, occupant}
use Rattle.cuckoo.specs.Joined.{Joined}
use Rattle.cuckoo.proofs.Joined.{jrefl, jsym, jtrans, true_joined, no_joined}
use Rattle.cuckoo.specs.Settling.{Settled}
use Rattle.cuckoo.proofs.Settling.{spare_mono, seated_stops, seated_joined}
use Rattle.cuckoo.specs.Seating.{Ends, from_a, from_b}
use Rattle.cuckoo.proofs.Seating.{ends_edge, ends_near, ends_flip, rooted, root_same, look}
use Rattle.cuckoo.specs.Walks.{Distinct, nil, new}
use Rattle.cuckoo.specs.Tree.{Far}
use Rattle.cuckoo.proofs.Tree.{far_near, far_once}
use Rattle.cuckoo.proofs.Components.{in_component, component_in, component_near, asc_component, component_same}
use Rattle.cuckoo.specs.Places.{hung, at_root, at_far, Seat}
use Rattle.cuckoo.proofs.Places.{hung_sub, hung_joins, seat_near, seat_occupant, slot_seat}
use Rattle.cuckoo.proofs.Filled.{not_seated_and_stash}
use Rattle.cuckoo.proofs.Locality.{root_component, occupant_component, same_image}
use Rattle.cuckoo.specs.Rows.{board_0, board_1}
use Rattle.cuckoo.specs.Trail.{other, trail_from, trail, Trail, seat, ends, hands_on}

module _ (a b : ℕ → ℕ) where
  -- one step at a time
  pub stops_at : (n : ℕ) (T : List ℕ) (c : ℕ) → c ≡ root a b T (a c) → (trail_from a b) (suc n) T c ≡ c ∷ []
  unfolding trail_from
  stops_at n T c q = rw (eq-eqb c (root a b T (a c)) q)

  pub steps_to : (n : ℕ) (T : List ℕ) (c : ℕ) → (c ≡ root a b T (a c) → ⊥) → (trail_from a b) (suc n) T c ≡ c ∷ (trail_from a b) n T (occupant a b T ((other a b) T c))
  unfolding trail_from
  steps_to n T c m = rw (ne_eqb c (root a b T (a c)) m)

  trail_some : {T : List ℕ} {c : ℕ} → In c T → (trail a b) T c ≡ (trail_from a b) (length T) T c
  unfolding trail
  trail_some i = rw (in_member i)

  -- A key that is not in T has an empty trail.
  pub trail_none : (T : List ℕ) (c : ℕ) → (In c T → ⊥) → (trail a b) T c ≡ []
  unfolding trail
  trail_none T c n = rw (no_member c T n)

  -- "a drawer card's trail is empty"
  pub stash_trail : (S : List ℕ) {c : ℕ} → In c (stash a b S) → (trail a b) (seated a b S) c ≡ []
  stash_trail S {c} i = trail_none (seated a b S) c (λ k. not_seated_and_stash a b S k i)

module _ (a b : ℕ → ℕ) {T : List ℕ} where
  -- No other keys are the trail.
  pub whole_only : {c : ℕ} {K L : List ℕ} → Trail a b T c K → Trail a b T c L → K ≡ L
  whole_only (ends q) (ends p) = refl
  whole_only (ends q) (hands_on n t) = absurd (n q)
  whole_only (hands_on n t) (ends q) = absurd (n q)
  whole_only {c} (hands_on n t) (hands_on m s) = ap (λ (L : List ℕ). c ∷ L) (whole_only t s)

  whole_first : {c : ℕ} {L : List ℕ} → Trail a b T c L → first L ≡ c
  whole_first (ends q) = refl
  whole_first (hands_on n t) = refl

  whole_next : {c : ℕ} {L : List ℕ} (k : ℕ) → Trail a b T c L → suc k < length L → get_or L (suc k) 0 ≡ occupant a b T (other a b T (get_or L k 0))
  whole_next k (ends q) l = absurd (omega arith)
  whole_next zero (hands_on n (ends q)) l = refl
  whole_next zero (hands_on n (hands_on m t)) l = refl
  whole_next (suc k) (hands_on n t) l = whole_next k t (omega arith)

-- a list without repetitions is no longer than one that has its members
distinct_length : {L : List ℕ} (M : List ℕ) → Distinct L → Sub L M → length L ≤ length M
distinct_length M nil s = zero-le
distinct_length M (new {c} {cs} n h) s =
    omega (arith, out_shorter c M (s c (here refl)), distinct_length (without c M) h (λ d i. in_out c M (λ q. n (rw q i)) (s d (there i))))

module _ (a b : ℕ → ℕ) (T : List ℕ) (z : ℕ) where
  parts : ℕ → ℕ → Bool
  parts v d = not (joined a b (without d (hung a b T z)) v (a z))

  -- the keys on the way from the slot v to the root's slot, but the root z: without one of them the two are not joined by the keys that hang there
  way : ℕ → List ℕ
  way v = keep (parts v) (without z T)

  in_way : {v d : ℕ} → In d T → (d ≡ z → ⊥) → (Joined a b (without d (hung a b T z)) v (a z) → ⊥) → In d (way v)
  unfolding way parts
  in_way {v} i n o = in_keep (parts v) (without z T) (no_joined o) (in_out z T (λ q. n (sym q)) i)

  -- the key c at v is on the way from v, and not on the way from its other slot w; the other keys on the way from v are those on the way from w
  module _ {c v : ℕ} (n : c ≡ z → ⊥) (F : Far a b (hung a b T z) (a z) c v) (j : Joined a b (hung a b T z) (a z) v) where
    near_w : Joined a b (without c (hung a b T z)) F.w (a z)
    near_w = far_near F j

    way_here : In c (way v)
    way_here = in_way (hung_sub a b T z c F.c_in) n F.cut

    way_off : parts F.w c ≡ false
    unfolding parts
    way_off = rw (true_joined near_w)

    way_parts : (d : ℕ) → parts F.w d ≡ true → parts v d ≡ true
    unfolding parts
    way_parts d e = no_joined (λ k. elim (eq? d c) [
      | inl q ↦ F.cut (rw q at k)
      | inr m ↦
          let l = jtrans (jsym (ends_edge F.ends (in_out d (hung a b T z) m F.c_in))) k in
          false≢true (rw (true_joined l) at e)
    ])

    way_sub : Sub (way F.w) (way v)
    unfolding way
    way_sub d i = in_keep (parts v) (without z T) (way_parts d (keep_test (parts F.w) (without z T) i)) (keep_in (parts F.w) (without z T) i)

    way_not : In c (way F.w) → ⊥
    unfolding way
    way_not i = true≢false (sym (keep_test (parts F.w) (without z T) i) ∙ way_off)

    way_shorter : length (way F.w) < length (way v)
    unfolding way
    way_shorter =
        rw (keep_both (parts F.w) (parts v) (parts F.w) (without z T) (λ d i e. way_parts d e) (λ d i e. refl))
        (length_drop (parts F.w) (keep (parts v) (without z T)) way_here way_off)

module _ (a b : ℕ → ℕ) where
  -- `seat` and `other` are the two slots of a key.
  pub seat_other : (T : List ℕ) (c : ℕ) → Ends a b c (seat a b T c) (other a b T c)
  unfolding seat other
  seat_other T c = elim (test (eqb (occupant a b T (a c)) c)) [ inl e ↦ rw e (from_a refl refl) | inr e ↦ rw e (from_b refl refl) ]

  -- what the induction shows of the trail L from the key c on, which sits in v; z is the root
  record Followed (T : List ℕ) (z v c : ℕ) (L : List ℕ) : Type 0 where
    whole : Trail a b T c L
    once : Distinct L
    on : (d : ℕ) → In d L → (d ≡ z) ⊎ In d (way a b T z v)

  -- a key that is not the root sits where it hangs,
  pub hangs : {T : List ℕ} {v c : ℕ} → Seat a b T v c → (c ≡ root a b T (a c) → ⊥) → Far a b (hung a b T (root a b T (a c))) (a (root a b T (a c))) c v
  hangs S n = elim S.place [ at_root q p ↦ absurd (n q) | at_far F ↦ F ]

  -- and that slot is joined to the root's by the keys that hang
  pub hung_near : {T : List ℕ} {v c : ℕ} → Seat a b T v c → Joined a b (hung a b T (root a b T (a c))) (a (root a b T (a c))) v
  hung_near {T} {v} {c} S = hung_joins a b T (root a b T (a c)) (jsym (jtrans (seat_near a b S) (rooted a b T S.c_in jrefl).near))

module _ (a b : ℕ → ℕ) {T : List ℕ} (stop : Settled a b T) where
  -- a key that is the occupant of a slot of its component sits there
  sits_at : {v c : ℕ} → In c T → Joined a b T v (a c) → occupant a b T v ≡ c → Seat a b T v c
  sits_at {v} i j e = let r = slot_seat a b stop i j in rw (sym (seat_occupant a b r.1) ∙ e) at r.1

  -- Each key of T sits in `seat`,
  pub seat_holds : {c : ℕ} → In c T → occupant a b T (seat a b T c) ≡ c
  unfolding seat
  seat_holds {c} i =
      elim (test (eqb (occupant a b T (a c)) c)) [
        | inl e ↦ rw e (eqb-true (occupant a b T (a c)) c e)
        | inr e ↦ rw e (elim (look a b T stop c i) [ inl q ↦ absurd (eqb-false (occupant a b T (a c)) c e q) | inr q ↦ q ])
      ]

  pub sits_seat : {c : ℕ} → In c T → Seat a b T (seat a b T c) c
  sits_seat {c} i = sits_at i (ends_near (seat_other a b T c) i) (seat_holds i)

  -- and if it is not the root, nowhere else.
  pub seat_once : {v c : ℕ} → Seat a b T v c → (c ≡ root a b T (a c) → ⊥) → seat a b T c ≡ v
  seat_once S n = far_once (hangs a b S n) (hangs a b (sits_seat S.c_in) n) (hung_near a b S)

  -- The next key of the trail sits in the other slot, and is of the same component.
  pub next_seat : {c : ℕ} → In c T → Seat a b T (other a b T c) (occupant a b T (other a b T c))
  next_seat {c} i =
      let r = slot_seat a b stop i (ends_near (ends_flip (seat_other a b T c)) i) in
      rw (seat_occupant a b r.1) r.1

  pub next_near : {c : ℕ} → In c T → Joined a b T (a c) (a (occupant a b T (other a b T c)))
  next_near {c} i = jtrans (jsym (ends_near (ends_flip (seat_other a b T c)) i)) (seat_near a b (next_seat i))

  -- one step: c is on the way from v, and not on the way from its other slot
  step : {z v c : ℕ} {L : List ℕ} → Seat a b T v c → root a b T (a c) ≡ z → (c ≡ root a b T (a c) → ⊥)
      → (length (way a b T z (other a b T c)) < length (way a b T z v)
      → Followed a b T z (other a b T c) (occupant a b T (other a b T c)) L) → Followed a b T z v c (c ∷ L)
  step {z} {v} {c} {L} S r n f = record {
    whole = hands_on n G.whole;
    once = new (λ i. elim (G.on c i) [ inl q ↦ m q | inr k ↦ way_not a b T z m F j k ]) G.once;
    on = λ d i. elim i [ here q ↦ inr (rw q (way_here a b T z m F j)) | there k ↦ elim (G.on d k) [ inl q ↦ inl q | inr l ↦ inr (way_sub a b T z m F j d l) ] ];
  }
    where
      m : c ≡ z → ⊥
      m q = n (q ∙ sym r)

      e : Ends a b c v (other a b T c)
      e = rw (← seat_once S n) (seat_other a b T c)

      H : Far a b (hung a b T z) (a z) c v
      H = rw (← r) (hangs a b S n)

      F : Far a b (hung a b T z) (a z) c v
      F = record { c_in = H.c_in; w = other a b T c; ends = e; cut = H.cut }

      j : Joined a b (hung a b T z) (a z) v
      j = rw (← r) (hung_near a b S)

      G : Followed a b T z (other a b T c) (occupant a b T (other a b T c)) L
      G = f (way_shorter a b T z m F j)

  -- n keys are enough, if fewer are on the way to the root, without the root
  follow : (n : ℕ) {z v c : ℕ} → Seat a b T v c → root a b T (a c) ≡ z → length (way a b T z v) < n → Followed a b T z v c (trail_from a b n T c)
  follow zero S r l = absurd (not-suc-le-zero l)
  follow (suc n) {c = c} S r l =
      elim (eq? c (root a b T (a c))) [
        | inl q ↦ rw (stops_at a b n T c q) (record { whole = ends q; once = new in-nil nil; on = λ d i. inl (in-singleton i ∙ q ∙ r) })
        | inr m ↦
            let i = S.c_in in
            rw (steps_to a b n T c m) (step S r m (λ s. follow n (next_seat i) (sym (root_same a b T (next_near i)) ∙ r) (omega arith)))
      ]

  followed : {c : ℕ} → In c T → Followed a b T (root a b T (a c)) (seat a b T c) c (trail a b T c)
  unfolding way
  followed {c} i =
      let z = root a b T (a c) in
      let s = out_shorter z T (rooted a b T i jrefl).z_in in
      let l = length_keep (parts a b T z (seat a b T c)) (without z T) in
      rw (trail_some a b i) (follow (length T) (sits_seat i) refl (omega arith))

  -- what a whole trail says of its members
  whole_near : {c : ℕ} {L : List ℕ} → In c T → Trail a b T c L → Sub L (component a b T (a c))
  whole_near {c} i (ends q) d k = rw (in-singleton k) (in_component a b T (a c) i jrefl)
  whole_near {c} i (hands_on n t) d (here q) = rw q (in_component a b T (a c) i jrefl)
  whole_near {c} i (hands_on n t) d (there k) = rw (component_same a b T (a c) (next_near i)) (whole_near (next_seat i).c_in t d k)

  whole_last : {c : ℕ} {L : List ℕ} → In c T → Trail a b T c L → last L ≡ root a b T (a c)
  whole_last i (ends q) = q
  whole_last i (hands_on n (ends q)) = q ∙ sym (root_same a b T (next_near i))
  whole_last i (hands_on n (hands_on m t)) = whole_last (next_seat i).c_in (hands_on m t) ∙ sym (root_same a b T (next_near i))

  -- In what follows c is a key of T. Its trail is never cut short: the root ends it, and each key before hands on to the key in its other slot.
  pub trail_whole : {c : ℕ} → In c T → Trail a b T c (trail a b T c)
  trail_whole i = (followed i).whole

  -- "The trail starts with a seated card",
  pub trail_first : {c : ℕ} → In c T → first (trail a b T c) ≡ c
  trail_first i = whole_first a b (trail_whole i)

  -- "It ends with the root",
  pub trail_last : {c : ℕ} → In c T → last (trail a b T c) ≡ root a b T (a c)
  trail_last i = whole_last i (trail_whole i)

  -- and that is "the smallest of a group without a loop, otherwise the smallest on the one loop that its seated cards form";
  pub trail_ends : {c : ℕ} → Asc T → In c T → Picked (is_on_cycle a b T) (component a b T (a c)) (last (trail a b T c))
  unfolding root
  trail_ends {c} asc i = rw (trail_last i) (picked (is_on_cycle a b T) (asc_component a b T (a c) asc) (in_component a b T (a c) i jrefl))

  -- "without a repeated card",
  pub trail_once : {c : ℕ} → In c T → Distinct (trail a b T c)
  trail_once i = (followed i).once

  -- stays in the component,
  pub trail_component : {c : ℕ} → In c T → Sub (trail a b T c) (component a b T (a c))
  trail_component i = whole_near i (trail_whole i)

  -- and so is no longer than it,
  pub trail_length : {c : ℕ} → In c T → length (trail a b T c) ≤ length (component a b T (a c))
  trail_length {c} i = distinct_length (component a b T (a c)) (trail_once i) (trail_component i)

  -- nor than there are slots, where they are below n.
  pub trail_slots : {c : ℕ} (n : ℕ) → Asc T → ((d : ℕ) → In d T → a d < n) → ((d : ℕ) → In d T → b d < n) → In c T → length (trail a b T c) ≤ n
  trail_slots {c} n h la lb i =
      let at : (d : ℕ) → In d (component a b T (a c)) → In d T = λ d. component_in a b T (a c) in
      omega (
        arith,
        trail_length i,
        length_upto n,
        pigeonhole (seat a b T) (upto n) (asc_component a b T (a c) h)
            (λ d k. in_upto n (elim (seat_other a b T d) [ from_a p q ↦ rw p (la d (at d k)) | from_b p q ↦ rw p (lb d (at d k)) ]))
            (λ d e k l q. sym (seat_holds (at d k)) ∙ ap (occupant a b T) q ∙ seat_holds (at e l)),
      )

  -- "each next one is the card sitting in the last one's other pocket", told by places
  pub trail_next : {c : ℕ} (k : ℕ) → In c T → suc k < length (trail a b T c)
      → get_or (trail a b T c) (suc k) 0 ≡ occupant a b T (other a b T (get_or (trail a b T c) k 0))
  trail_next k i l = whole_next a b k (trail_whole i) l

  -- The root's trail is the root alone.
  pub trail_root : {z : ℕ} → In z T → z ≡ root a b T (a z) → trail a b T z ≡ z ∷ []
  trail_root {z} i q = whole_only a b (trail_whole i) (ends q)

  -- "The step out of rack 0 hands on to the step out of rack 1 and back": where the slots of the two tables differ, of two keys in turn, neither of them
  -- the root, one sits in table 0 and one in table 1.
  pub trail_turns : {c d : ℕ} → ((x y : ℕ) → a x ≡ b y → ⊥) → In c T → occupant a b T (other a b T c) ≡ d → (d ≡ root a b T (a d) → ⊥)
      → (seat a b T c ≡ a c → seat a b T d ≡ b d) × (seat a b T c ≡ b c → seat a b T d ≡ a d)
  trail_turns {c} {d} apart i e n =
      let s : seat a b T d ≡ other a b T c = seat_once (rw e at (next_seat i)) n in
      go (seat_other a b T c) (seat_other a b T d) s
    where
      go : {x y v w : ℕ} → Ends a b c v w → Ends a b d x y → x ≡ w → (v ≡ a c → x ≡ b d) × (v ≡ b c → x ≡ a d)
      go (from_a p q) (from_a r s) t = absurd (apart d c (cc))
      go (from_a p q) (from_b r s) t = (λ u. r, λ u. absurd (apart c c (cc)))
      go (from_b p q) (from_a r s) t = (λ u. absurd (apart c c (cc)), λ u. r)
      go (from_b p q) (from_b r s) t = absurd (apart c d (cc))

module _ (a b : ℕ → ℕ) where
  -- with the keys of a component alone each of them hands on to the same key
  other_alone : {T : List ℕ} (v : ℕ) {c : ℕ} → Joined a b T v (a c) → other a b T c ≡ other a b (component a b T v) c
  unfolding other
  other_alone {T} v k = rw (occupant_component a b T v k)

  next_alone : {T : List ℕ} (v : ℕ) {c : ℕ} → In c T → Joined a b T v (a c)
      → occupant a b T (other a b T c) ≡ occupant a b (component a b T v) (other a b (component a b T v) c)
  next_alone {T} v {c} i k =
      rw (← other_alone v k) (occupant_component a b T v (jtrans k (jsym (ends_near (ends_flip (seat_other a b T c)) i))))

  whole_alone : {T : List ℕ} (v : ℕ) {c : ℕ} {L : List ℕ} → Settled a b T → In c T → Joined a b T v (a c) → Trail a b T c L → Trail a b (component a b T v) c L
  whole_alone {T} v stop i k (ends q) = ends (q ∙ root_component a b T v k)
  whole_alone {T} v stop i k (hands_on n t) = hands_on
      (λ q. n (q ∙ sym (root_component a b T v k)))
      (rw (next_alone v i k) at (whole_alone v stop (next_seat a b stop i).c_in (jtrans k (next_near a b stop i)) t))

  -- The trail depends on the keys of the component alone,
  pub trail_alone : {T : List ℕ} (v : ℕ) {c : ℕ} → Settled a b T → In c T → Joined a b T v (a c) → trail a b T c ≡ trail a b (component a b T v) c
  trail_alone {T} v stop i k =
      let flat : Settled a b (component a b T v) = λ d s. stop d (spare_mono (λ x. component_in a b T v) s) in
      whole_only a b (whole_alone v stop i k (trail_whole a b stop i)) (trail_whole a b flat (in_component a b T v i k))

  -- so it is the same in two settled sets that have the same component,
  pub same_trail : {T T' : List ℕ} (v : ℕ) {c : ℕ} → Settled a b T → Settled a b T' → component a b T v ≡ component a b T' v
      → In c T → Joined a b T v (a c) → trail a b T c ≡ trail a b T' c
  same_trail {T} {T'} v stop stop' e i k =
      let l = rw e at (in_component a b T v i k) in
      trail_alone v stop i k ∙ rw e (sym (trail_alone v stop' (component_in a b T' v l) (component_near a b T' v l)))

  -- and in the images of two sets that have it.
  pub image_trail : {S S' : List ℕ} (v : ℕ) {c : ℕ} → Asc S → Asc S' → component a b S v ≡ component a b S' v
      → In c (component a b S v) → trail a b (seated a b S) c ≡ trail a b (seated a b S') c
  image_trail {S} {S'} v {c} h h' e i =
      let I = same_image a b h h' v e in
      let k : Joined a b (seated a b S) v (a c) = (seated_joined a b S h).1 (component_near a b S v i) in
      let k' : Joined a b (seated a b S') v (a c) = (seated_joined a b S' h').1 (component_near a b S' v (rw e at i)) in
      elim (in? c (seated a b S)) [
        | inl m ↦ same_trail v (seated_stops a b S h) (seated_stops a b S' h') I.seats m k
        | inr n ↦
            let n' : In c (seated a b S') → ⊥ = λ m. n (component_in a b (seated a b S) v (rw I.seats (in_component a b (seated a b S') v m k'))) in
            trail_none a b (seated a b S) c n ∙ sym (trail_none a b (seated a b S') c n')
      ]

-- Worked examples, on the test board of Rows: the trail of each key of K3, K8 and K9, with 0 after it (98 is stashed)
abbrev trails : List ℕ → List ℕ → List ℕ
trails S [] = []
trails S (c ∷ R) = trail board_0 board_1 (seated board_0 board_1 S) c ++ (0 ∷ trails S R)

abbrev follows : List ℕ → List ℕ → Bool
follows S L = same (trails S S) L

examples : T (
    follows (1 ∷ 17 ∷ []) (1 ∷ 0 ∷ 17 ∷ 1 ∷ 0 ∷ [])
    && follows (17 ∷ 65 ∷ 129 ∷ []) (17 ∷ 65 ∷ 0 ∷ 65 ∷ 0 ∷ 129 ∷ 65 ∷ 0 ∷ [])
    && follows (1 ∷ 33 ∷ 34 ∷ 65 ∷ 98 ∷ []) (1 ∷ 0 ∷ 33 ∷ 1 ∷ 0 ∷ 34 ∷ 33 ∷ 1 ∷ 0 ∷ 65 ∷ 1 ∷ 0 ∷ 0 ∷ [])
    )
unfolding same without label joined component is_on_cycle cyclic spare settle seated root sits occupant seat other trail_from trail
examples = tt
