-- The laws of what specs/OneBook.antt defines.
use Rattle.std.specs.Prelude.{ℕ, ◌<◌, ◌≡◌, refl, Bool, true, false, not, cond, ◌↔◌, eqb, length, replicate}
use Rattle.std.proofs.Common.{sym, ◌∙◌, ap, inl, inr, arith, eq-eqb, ne_eqb}
use mathlib.Core.List.Memᴰ.{head as here}
use mathlib.Core.List.Memᴰ.{tail as there}
use mathlib.Core.List.{List, [], ◌∷◌, Memᴰ as In}
use Rattle.std.proofs.lemmas.Bool.{lt-leb}
use Rattle.basics.proofs.Tests.{eq?, zero_one}
use Rattle.basics.specs.Sets.{member}
use Rattle.basics.specs.Lists.{same}
use Rattle.basics.proofs.Lists.{true_same}
use Rattle.refusals.specs.Refusal.{done, wrong_tabulation, wrong_shape, blank_key, key_present, table_full}
use Rattle.refusals.specs.Refusal.{first_refusal}
use Rattle.hashing.specs.Hash.{tabulation_length, max_station, station_in_range, blank, Family}
use Rattle.hashing.proofs.Hash.{in_range_pos}
use Rattle.probing.specs.Rule.{table_keys}
use Rattle.stolen.specs.Answers.{stolen_image}
use Rattle.stolen.proofs.Canonical.{image_keys}
use Rattle.stolen.specs.Calls.{StolenCall, stolen_run, stolen_left, Register, named, register_lookup_tests}
use Rattle.stolen.specs.Calls.{register_insert_tests, hears, stolen_reply, register_left}
use Rattle.stolen.specs.Calls.{NamesOne, own, wrong_book, no_station, Ours}
use Rattle.stolen.specs.Sequences.{StolenKept, empty_register, Ranged}
use Rattle.stolen.proofs.Sequences.{stolen_history}
use Rattle.stolen.specs.OneBook.{plain_insert_tests, StolenNoTrace}

beyond : (station : ℕ) → max_station < station → station_in_range station ≡ false
unfolding station_in_range
beyond station l = lt-leb station max_station l

-- what 1 or 2 refuses is not done
never_done : (t : Bool) → cond t wrong_tabulation wrong_shape ≡ done → ⊥
never_done true e = let q : ◌≡◌ {A = ℕ} 1 0 = e in omega arith
never_done false e = let q : ◌≡◌ {A = ℕ} 2 0 = e in omega arith

-- A register under F's book and station, and a call that names them, or is refused for its own.
module _ (F : Family) (R : Register) (e : R.family ≡ F) (tabulation : List ℕ) (station key : ℕ)
    (one : NamesOne F tabulation station) where
  pub plain_insert : first_refusal (register_insert_tests R tabulation station key) ≡ first_refusal (plain_insert_tests F R e tabulation station key one)
  plain_insert = elim one [
    | own t u ↦ rw (t, u, e, true_same (stolen_image F R.keys) (stolen_image F R.keys) refl)
    | wrong_book n ↦ rw (ne_eqb (length tabulation) tabulation_length n)
    | no_station l ↦ rw (beyond station l)
  ]

  -- a lookup that is not refused says yes exactly for the set
  pub plain_lookup : first_refusal (register_lookup_tests R tabulation station key) ≡ done
      → hears R tabulation station key ≡ member key R.keys
  plain_lookup d = elim one [
    | own t u ↦ rw (t, u, e, true_same F.tabulation F.tabulation refl, eq-eqb F.station F.station refl)
    | wrong_book n ↦ absurd (zero_one (sym (rw (ne_eqb (length tabulation) tabulation_length n) at d)))
    | no_station l ↦ absurd (never_done (not (eqb (length tabulation) tabulation_length)) (rw (beyond station l) at d))
  ]

  -- and an accepted insert leaves the register under F
  stays : first_refusal (register_insert_tests R tabulation station key) ≡ done → named R tabulation station ≡ F
  stays d = elim one [
    | own t u ↦ rw (t, u, e)
    | wrong_book n ↦ absurd (zero_one (sym (rw (ne_eqb (length tabulation) tabulation_length n) at d)))
    | no_station l ↦ absurd (never_done (not (eqb (length tabulation) tabulation_length)) (rw (beyond station l) at d))
  ]

one_step : (F : Family) (R : Register) → R.family ≡ F → (c : StolenCall) → Ours F c
    → (stolen_reply R c).register.family ≡ F
unfolding stolen_reply
one_step F R e (StolenCall.lookup tabulation station key) o = e
one_step F R e (StolenCall.insert tabulation station key) o =
    elim (eq? (first_refusal (register_insert_tests R tabulation station key)) done) [
      | inl d ↦ rw (eq-eqb (first_refusal (register_insert_tests R tabulation station key)) done d)
          (stays F R e tabulation station key o d)
      | inr n ↦ rw (ne_eqb (first_refusal (register_insert_tests R tabulation station key)) done n) e
    ]

-- The list stays with its book and station.
pub one_family : (F : Family) (R : Register) → R.family ≡ F → (cs : List StolenCall)
    → ((c : StolenCall) → In c cs → Ours F c)
    → (register_left R cs).family ≡ F
unfolding register_left
one_family F R e [] o = e
one_family F R e (c ∷ cs) o =
    one_family F (stolen_reply R c).register (one_step F R e c (o c (here refl))) cs (λ d i. o d (there i))

module _ (F : Family) (z : Ranged F) where
  -- Whatever books and stations the calls of two sequences name: the words tell the set.
  pub words_keys : (cs ds : List StolenCall)
      → stolen_left (replicate F.slots 0) cs ≡ stolen_left (replicate F.slots 0) ds
      → (register_left (empty_register F) cs).keys ≡ (register_left (empty_register F) ds).keys
  words_keys cs ds e =
      let v = (stolen_history F z cs).final in
      let w = (stolen_history F z ds).final in
      sym (image_keys _ (in_range_pos _ v.slots) _ v.image)
      ∙ ap table_keys e ∙ image_keys _ (in_range_pos _ w.slots) _ w.image

  pub stolen_no_trace : (cs ds : List StolenCall) → ((c : StolenCall) → In c cs → Ours F c)
      → ((c : StolenCall) → In c ds → Ours F c) → StolenNoTrace F cs ds
  stolen_no_trace cs ds o p =
      let v = (stolen_history F z cs).final in
      let w = (stolen_history F z ds).final in
      let f = one_family F (empty_register F) refl cs o in
      let g = one_family F (empty_register F) refl ds p in
      let same : (register_left (empty_register F) cs).keys ≡ (register_left (empty_register F) ds).keys
      → stolen_left (replicate F.slots 0) cs ≡ stolen_left (replicate F.slots 0) ds =
      λ e. v.image.is ∙ (rw (f, g, e)) ∙ sym w.image.is in
      record { same_words = (words_keys cs ds, same); later = λ e es. ap (λ (ws : List ℕ). stolen_run ws es) (same e) }
