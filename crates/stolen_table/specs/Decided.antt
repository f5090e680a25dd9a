-- What the tests of lookup and insert come to, in the terms of the definitions that they promise. Assumes nothing.
use Rattle.std.specs.Prelude.{ℕ, ◌-◌, ◌<◌, ◌≡◌, true, false, ◌&&◌, length, get_or}
use Rattle.std.proofs.Math.Path.{refl}
use Rattle.std.proofs.Common.{sym, ◌∙◌, arith, ltb-true}
use mathlib.Core.List.{List, Memᴰ as In}
use Rattle.basics.proofs.Tests.{and_true}
use Rattle.basics.specs.Sets.{member}
use Rattle.basics.proofs.Sets.{in_member}
use Rattle.basics.proofs.Sets.{no_member}
use Rattle.basics.proofs.Lists.{get_or_in}
use Rattle.ordered.specs.Keys.{with_key}
use Rattle.ordered.proofs.Sorting.{in_at}
use Rattle.hashing.specs.Hash.{tabulation_length, slots_in_range, station_in_range, blank, Hashing}
use Rattle.hashing.proofs.Hash.{hashing}
use Rattle.hashing.specs.Slots.{slot_0}
use Rattle.probing.specs.Rule.{looks, look, table_keys}
use Rattle.probing.specs.Moves.{displace, add, all_settled}
use Rattle.probing.specs.Walls.{Barrier, empty, largest}
use Rattle.stolen.specs.Answers.{stolen_family, stolen_image, stolen_canonical}
use Rattle.stolen.proofs.Canonical.{not_blank, canonical_true, canonical_settled, look_listed, room_left, inserted}

-- neither 1 nor 2 applies
pub shaped_hashing : (tabulation ws : List ℕ) (station : ℕ) → length tabulation ≡ tabulation_length
    → (slots_in_range (length ws) && station_in_range station) ≡ true → Hashing tabulation (length ws) station
shaped_hashing tabulation ws station e s =
    let r = and_true (slots_in_range (length ws)) (station_in_range station) s in
    hashing e r.0 r.1

pub key_positive : (key : ℕ) → blank key ≡ false → 0 < key
key_positive key b = omega (arith, not_blank key b)

-- a slot is empty exactly if the one that no key passes is
pub room_at : (ws : List ℕ) (b : ℕ) → b < length ws → get_or ws b 0 ≡ 0 → member 0 ws ≡ true
room_at ws b l e = let i : In (get_or ws b 0) ws = get_or_in ws b l in in_member (rw e at i)

pub no_room_at : (ws : List ℕ) (b : ℕ) → Barrier (length ws) ws b → (get_or ws b 0 ≡ 0 → ⊥) → member 0 ws ≡ false
no_room_at ws b (empty e) n = absurd (n e)
no_room_at ws b (largest f) n =
    no_member 0 ws (λ i. let p = in_at i in omega (arith, (f p.0 p.1).0, p.2))

module _ (tabulation ws : List ℕ) (station : ℕ) (h : Hashing tabulation (length ws) station) where
  -- the round tells what 4 asks
  pub settled_canonical : (b : ℕ) → b < length ws → Barrier (length ws) ws b
      → all_settled (length ws) ws b (slot_0 (stolen_family tabulation ws station)) 10 (length ws - 0) 0
      ≡ stolen_canonical (stolen_family tabulation ws station) ws
  settled_canonical b l w =
      let e : length ws - 0 ≡ length ws = omega arith in
      rw e (sym (canonical_settled (stolen_family tabulation ws station) h.has_slots ws refl b l w))

  module _ (key : ℕ) (c : stolen_canonical (stolen_family tabulation ws station) ws ≡ true) (b : blank key ≡ false) where
    -- a way comes to the key exactly if it is listed
    pub found_member : looks (length ws) (length ws) ws key (slot_0 (stolen_family tabulation ws station) key)
        ≡ member key (table_keys ws)
    unfolding look
    found_member =
        let F = stolen_family tabulation ws station in
        look_listed F h.has_slots ws (canonical_true F h.has_slots ws refl c) key b

    -- a key that is carried in gives the image of the set with it
    pub carried : member key (table_keys ws) ≡ false → member 0 ws ≡ true
        → displace (length ws) (length ws) ws key (slot_0 (stolen_family tabulation ws station) key)
        ≡ stolen_image (stolen_family tabulation ws station) (with_key key (table_keys ws))
    unfolding add
    carried n e =
        let F = stolen_family tabulation ws station in
        let v = canonical_true F h.has_slots ws refl c in
        inserted F h.has_slots ws v key b n
        (ltb-true (length (table_keys ws)) (length ws) (sym (room_left F h.has_slots ws v) ∙ e))
