-- The laws of what specs/Shape.antt defines.
use Rattle.std.specs.Prelude.{ℕ, ◌≤◌, ◌<◌, ◌≡◌, refl, true, not, ◌&&◌, List, [], leb, ltb, length}
use Rattle.std.proofs.Common.{ap, ◌∙◌, arith, leb-true, eqb-true, le-leb, eq-eqb, ltb-false}
use Rattle.std.proofs.lemmas.Bool.{not-false}
use Rattle.basics.proofs.Tests.{and_true}
use Rattle.refusals.specs.Refusal.{none, and}
use Rattle.refusals.proofs.Refusals.{front_none}
use Rattle.hashing.specs.Hash.{Family, tables, slots_in_range, station_in_range, max_slots, max_station}
use Rattle.hashing.proofs.Hash.{in_range_pos, in_range_max, range_in, station_max, station_in}
use Rattle.layout.specs.Layout.{family_of, header_length, slots_of, places_of, stash_count, station_of, max_places, sizes_in_range, params_in_range, shaped, words_length}
use Rattle.layout.specs.Answers.{view_refusals, view_refusal}
use Rattle.layout.specs.declared.Header.{Header}
use Rattle.layout.specs.Shape.{Sized, Shaped, SameHeader, Viewed}

pub sized : (r s : ℕ) → sizes_in_range r s ≡ true → Sized r s
unfolding sizes_in_range
sized r s e =
    let p = and_true (slots_in_range r) _ e in
    record { has_slots = in_range_pos r p.0; slots_bound = in_range_max r p.0; places_bound = leb-true s max_places p.1 }

pub sized_true : (r s : ℕ) → Sized r s → sizes_in_range r s ≡ true
unfolding sizes_in_range
sized_true r s z = rw (range_in r z.has_slots z.slots_bound) (le-leb s max_places z.places_bound)

-- with the station number
pub ranged : (r s station : ℕ) → params_in_range r s station ≡ true → Sized r s × (station ≤ max_station)
unfolding params_in_range
ranged r s station e =
    let p = and_true (sizes_in_range r s) (station_in_range station) e in
    (sized r s p.0, station_max station p.1)

pub ranged_true : (r s station : ℕ) → Sized r s → station ≤ max_station → params_in_range r s station ≡ true
unfolding params_in_range
ranged_true r s station z l = rw (sized_true r s z) (station_in station l)

pub shape : (ws : List ℕ) → shaped ws ≡ true → Shaped ws
unfolding shaped
shape ws e =
    let p = and_true (leb header_length (length ws) && params_in_range (slots_of ws) (places_of ws) (station_of ws)) _ e in
    let q = and_true (leb header_length (length ws)) _ p.0 in
    let t = ranged _ _ _ q.1 in
    record { sizes = t.0; station = t.1; size = eqb-true (length ws) _ p.1 }

pub shape_true : (ws : List ℕ) → Shaped ws → shaped ws ≡ true
unfolding shaped
shape_true ws h =
    rw (le-leb header_length (length ws) (omega arith), ranged_true (slots_of ws) (places_of ws) (station_of ws) h.sizes h.station)
    (eq-eqb (length ws) (words_length (slots_of ws) (places_of ws)) h.size)

pub same_header : {h g : Header} → h ≡ g → SameHeader h g
same_header e =
    record {
      slots = ap (λ (x : Header). x.slots) e;
      places = ap (λ (x : Header). x.places) e;
      keys = ap (λ (x : Header). x.keys) e;
      stashed = ap (λ (x : Header). x.stashed) e;
      station = ap (λ (x : Header). x.station) e;
    }

-- What is worked out with r and the station number as they are read off the words, is worked out by the family of the words.
pub by_own_family : (f : Family → ℕ) (tabulation ws : List ℕ) {r station x : ℕ} → r ≡ slots_of ws → station ≡ station_of ws
    → x ≡ f (tables tabulation r station) → x ≡ f (family_of tabulation ws)
by_own_family f tabulation ws {r} {station} e k q = q ∙ (λ i. f (tables tabulation (e i) (k i)))

pub viewed : (ws : List ℕ) → view_refusal ws ≡ 0 → Viewed ws
unfolding view_refusal
viewed ws e =
    elim (front_none (view_refusals ws) [] e refl) [ and a (and b none) ↦ record { shape = shape ws (not-false _ a); filled = ltb-false _ _ b } ]
