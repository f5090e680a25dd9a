-- The laws of what specs/Agree.antt defines.
use Rattle.std.specs.Prelude.{ℕ, ◌≡◌, refl}
use Rattle.std.proofs.Common.{sym, ◌∙◌, ap, inl, inr}
use mathlib.Core.List.Memᴰ.{head as here}
use mathlib.Core.List.Memᴰ.{tail as there}
use mathlib.Core.List.{List, [], ◌∷◌, map-id, Memᴰ as In}
use Rattle.basics.proofs.Sets.{in?}
use Rattle.basics.specs.Sets.{Asc}
use Rattle.basics.proofs.Lists.{keep_ext}
use Rattle.cuckoo.specs.Graph.{component, is_on_cycle, seated, stash, root, occupant, slot_key, slot_next}
use Rattle.cuckoo.specs.Settling.{Settled}
use Rattle.cuckoo.proofs.Settling.{seated_sub, seated_stops}
use Rattle.cuckoo.proofs.Components.{component_in}
use Rattle.cuckoo.specs.Renaming.{Renames}
use Rattle.cuckoo.proofs.Renaming.{component_map, is_on_cycle_map, seated_map, stash_map, slot_key_map, slot_next_map}
use Rattle.cuckoo.specs.Trail.{other, trail, Trail, ends, hands_on}
use Rattle.cuckoo.proofs.Trail.{whole_only, next_seat, trail_whole, trail_none}
use Rattle.cuckoo.specs.Agree.{Agree, R}

module _ {a b a' b' : ℕ → ℕ} where
  -- key by key, and for every part of a set
  pub agree_none : Agree a b a' b' []
  agree_none = record { at_0 = λ c i. elim i [ ]; at_1 = λ c i. elim i [ ] }

  pub agree_some : {c : ℕ} {R : List ℕ} → a c ≡ a' c → b c ≡ b' c → Agree a b a' b' R → Agree a b a' b' (c ∷ R)
  agree_some p q g = record {
    at_0 = λ d i. elim i [ here e ↦ rw e p | there k ↦ g.at_0 d k ];
    at_1 = λ d i. elim i [ here e ↦ rw e q | there k ↦ g.at_1 d k ];
  }

  same_names : {S : List ℕ} → Agree a b a' b' S → Renames (λ c. c) a b a' b' S
  same_names g = record { no_key = refl; up = λ c d i j l. l; at_0 = g.at_0; at_1 = g.at_1 }

  pub stash_agree : {S : List ℕ} → Agree a b a' b' S → stash a b S ≡ stash a' b' S
  stash_agree {S} g = rw (map-id S, map-id (stash a' b' S)) at (stash_map (same_names g))

  -- what a slot holds in the image of S: its key, and its next number
  pub slot_key_agree : {S : List ℕ} → Agree a b a' b' S → (v : ℕ) → slot_key a b S v ≡ slot_key a' b' S v
  slot_key_agree {S} g v = rw (map-id S) at (slot_key_map (same_names g) v)

  pub slot_next_agree : {S : List ℕ} → Agree a b a' b' S → (v : ℕ) → slot_next a b S v ≡ slot_next a' b' S v
  slot_next_agree {S} g v = rw (map-id S) at (slot_next_map (same_names g) v)

-- and the trail of a key.
module _ {a b a' b' : ℕ → ℕ} {S : List ℕ} (asc : Asc S) (g : Agree a b a' b' S) where
  seated_agree : seated a' b' S ≡ (R asc g)
  seated_agree = sym (rw (map-id S, map-id (seated a' b' S)) at (seated_map (same_names g)))

  part : Agree a b a' b' (R asc g)
  part = record { at_0 = λ c i. g.at_0 c (seated_sub a b S asc c i); at_1 = λ c i. g.at_1 c (seated_sub a b S asc c i) }

  component_agree : (v : ℕ) → component a b (R asc g) v ≡ component a' b' (R asc g) v
  component_agree v = rw (map-id (R asc g), map-id (component a' b' (R asc g) v)) at (component_map (same_names part) v)

  cycle_agree : {c : ℕ} → In c (R asc g) → is_on_cycle a b (R asc g) c ≡ is_on_cycle a' b' (R asc g) c
  cycle_agree i = rw (map-id (R asc g)) at (is_on_cycle_map (same_names part) i)

  root_agree : (v : ℕ) → root a b (R asc g) v ≡ root a' b' (R asc g) v
  unfolding root
  root_agree v =
      rw (component_agree v, keep_ext (is_on_cycle a b (R asc g)) (is_on_cycle a' b' (R asc g)) (component a' b' (R asc g) v) (λ c i. cycle_agree (component_in a' b' (R asc g) v i)))

  occupant_agree : (v : ℕ) → occupant a b (R asc g) v ≡ occupant a' b' (R asc g) v
  unfolding slot_key
  occupant_agree v = rw seated_agree at (slot_key_agree g v)

  other_agree : {c : ℕ} → In c (R asc g) → other a b (R asc g) c ≡ other a' b' (R asc g) c
  unfolding other
  other_agree {c} i = rw (part.at_0 c i, part.at_1 c i, occupant_agree (a' c))

  whole_agree : {c : ℕ} {L : List ℕ} → In c (R asc g) → Trail a b (R asc g) c L → Trail a' b' (R asc g) c L
  whole_agree {c} i (ends q) = ends (q ∙ root_agree (a c) ∙ ap (root a' b' (R asc g)) (part.at_0 c i))
  whole_agree {c} i (hands_on {L = L} n t) =
      let stop = seated_stops a b S asc in
      let next : occupant a b (R asc g) (other a b (R asc g) c) ≡ occupant a' b' (R asc g) (other a' b' (R asc g) c) =
      occupant_agree (other a b (R asc g) c) ∙ ap (occupant a' b' (R asc g)) (other_agree i) in
      hands_on {L = L} (λ q. n (q ∙ sym (root_agree (a c) ∙ ap (root a' b' (R asc g)) (part.at_0 c i))))
      (rw next at (whole_agree (next_seat a b stop i).c_in t))

  pub trail_agree : (c : ℕ) → trail a b (seated a b S) c ≡ trail a' b' (seated a' b' S) c
  trail_agree c = rw seated_agree (elim (in? c (R asc g)) [
    | inl i ↦
        let stop' : Settled a' b' (R asc g) = rw seated_agree at (seated_stops a' b' S asc) in
        whole_only a' b' (whole_agree i (trail_whole a b (seated_stops a b S asc) i)) (trail_whole a' b' stop' i)
    | inr n ↦ trail_none a b (R asc g) c n ∙ sym (trail_none a' b' (R asc g) c n)
  ])
