-- The laws of what specs/Sequences.antt defines.
use Rattle.std.specs.Prelude.{ℕ, ◌<◌, ◌≤◌, ◌≡◌, refl, Bool, true, false, not, cond, ◌&&◌, ◌↔◌, eqb, length, replicate}
use Rattle.std.proofs.Common.{sym, ◌∙◌, true≢false, arith, eq-eqb, ne_eqb, eqb-true, lt-ltb, le-ltb}
use Rattle.std.proofs.Math.Path.{ap}
use Rattle.std.proofs.Math.Logic.{inl, inr}
use mathlib.Core.List.Memᴰ.{head as here}
use mathlib.Core.List.Memᴰ.{tail as there}
use mathlib.Core.List.{List, [], ◌∷◌, map, Memᴰ as In}
use Rattle.std.proofs.lemmas.Bool.{lt-leb, not-false}
use Rattle.basics.specs.Tests.{test}
use Rattle.basics.proofs.Tests.{eq?, and_true}
use Rattle.basics.specs.Sets.{member}
use Rattle.basics.proofs.Sets.{false_any}
use Rattle.basics.specs.Lists.{same}
use Rattle.basics.proofs.Lists.{same_true, true_same}
use Rattle.ordered.specs.Keys.{with_key}
use Rattle.refusals.specs.Refusal.{done, first_refusal, None, none, and}
use Rattle.hashing.specs.Hash.{tabulation_length, max_station, slots_in_range, station_in_range, blank}
use Rattle.hashing.proofs.Hash.{in_range_pos}
use Rattle.hashing.specs.Hash.{Family, tables}
use Rattle.hashing.specs.Slots.{slot_0}
use Rattle.probing.specs.Rule.{table_keys, look}
use Rattle.stolen.specs.Answers.{stolen_image, stolen_family, stolen_canonical, says}
use Rattle.stolen.specs.Answers.{stolen_lookup_refusal, stolen_lookup_refusals, stolen_lookup_values}
use Rattle.stolen.proofs.Answers.{lookup_refused, lookup_accepted}
use Rattle.stolen.specs.Answers.{stolen_insert_refusal, stolen_insert_refusals, stolen_insert_words}
use Rattle.stolen.proofs.Answers.{insert_refused}
use Rattle.stolen.specs.Canonical.{StolenImage}
use Rattle.stolen.proofs.Canonical.{image_length, image_keys, room_left, look_listed}
use Rattle.stolen.proofs.Demands.{zeros_image, lookup_passes, insert_passes, stolen_insert_image}
use Rattle.stolen.specs.Calls.{StolenCall, StolenStep, stolen_step, stolen_run, stolen_left, Register}
use Rattle.stolen.specs.Calls.{StolenReply}
use Rattle.stolen.specs.Calls.{named, names_own, register_lookup_tests, register_insert_tests, hears}
use Rattle.stolen.specs.Calls.{stolen_reply}
use Rattle.stolen.specs.Calls.{stolen_model, register_left}
use Rattle.stolen.specs.Sequences.{StolenKept, StolenFollows, empty_register, Ranged}

-- One call: what it answers is the reply's, and the reply's register keeps the words.
record StolenReplies (o : StolenStep) (m : StolenReply) : Type 0 where
  number : o.number ≡ m.number
  values : o.values ≡ m.values
  keeps : StolenKept m.register o.words

module _ (R : Register) (ws : List ℕ) (h : StolenKept R ws) where
  positive : 0 < R.family.slots
  positive = in_range_pos R.family.slots h.slots

  long : length ws ≡ R.family.slots
  long = image_length R.family positive ws h.image

  listed : table_keys ws ≡ R.keys
  listed = image_keys R.family positive ws h.image

  filled : not (member 0 ws) ≡ eqb (length R.keys) R.family.slots
  filled =
      rw (room_left R.family positive ws h.image) (elim (eq? (length R.keys) R.family.slots) [
        | inl e ↦ rw (eq-eqb (length R.keys) R.family.slots e, le-ltb (length R.keys) R.family.slots (omega arith))
        | inr n ↦ rw (
          ne_eqb (length R.keys) R.family.slots n,
          lt-ltb (length R.keys) R.family.slots (omega (arith, h.image.fits)),
        )
      ])

  module _ (tabulation : List ℕ) (station key : ℕ) where
    -- the words are the image of a set under the call's book and station exactly if it is that of the register's own
    canonical_named : stolen_canonical (named R tabulation station) ws
        ≡ same (stolen_image R.family R.keys) (stolen_image (named R tabulation station) R.keys)
    unfolding stolen_canonical
    canonical_named =
        rw (listed, false_any blank R.keys h.image.keys)
        (ap (λ (l : List ℕ). same l (stolen_image (named R tabulation station) R.keys)) h.image.is)

    -- so the tests of the calls are the register's
    insert_tests : stolen_insert_refusals tabulation ws station key ≡ register_insert_tests R tabulation station key
    insert_tests = rw (long, h.slots, canonical_named, listed, filled)

    lookup_tests : stolen_lookup_refusals tabulation ws station key ≡ register_lookup_tests R tabulation station key
    lookup_tests = rw (long, h.slots)

    insert_number : stolen_insert_refusal tabulation ws station key
        ≡ first_refusal (register_insert_tests R tabulation station key)
    unfolding stolen_insert_refusal
    insert_number = ap first_refusal insert_tests

    lookup_number : stolen_lookup_refusal tabulation ws station key
        ≡ first_refusal (register_lookup_tests R tabulation station key)
    unfolding stolen_lookup_refusal
    lookup_number = ap first_refusal lookup_tests

    accepted : stolen_insert_refusal tabulation ws station key ≡ done
        → StolenKept (record {
          family =
              named R tabulation station;
          keys = with_key key R.keys;
        }) (stolen_insert_words tabulation ws station key)
    accepted e = go (insert_passes tabulation ws station key e)
      where
        go : None (stolen_insert_refusals tabulation ws station key)
            → StolenKept (record {
              family =
                  named R tabulation station;
              keys =
                  with_key key R.keys;
            }) (stolen_insert_words tabulation ws station key)
        go (and a (and b more)) =
            let v = stolen_insert_image tabulation ws station key e in
            record {
              full_length = eqb-true (length tabulation) tabulation_length (not-false _ a);
              slots = h.slots;
              station = (and_true (slots_in_range (length ws)) (station_in_range station) (not-false _ b)).1;
              image = rw (long, listed) at v;
            }

    insert_replies : let c = StolenCall.insert tabulation station key in StolenReplies (stolen_step ws c) (stolen_reply R c)
    unfolding stolen_step stolen_reply
    insert_replies =
        let n = first_refusal (register_insert_tests R tabulation station key) in
        record {
          number = insert_number;
          values = refl;
          keeps = elim (eq? n done) [
            | inl e ↦ rw (eq-eqb n done e) (accepted (insert_number ∙ e))
            | inr d ↦
                let stay = insert_refused tabulation ws station key (λ q. d (sym insert_number ∙ q)) in
                rw (ne_eqb n done d, stay) h
          ];
        }

    -- a lookup says what the register does
    heard : blank key ≡ false
        → look (slot_0 (stolen_family tabulation ws station)) (length ws) ws key ≡ hears R tabulation station key
    heard b =
        rw long (elim (test (names_own R tabulation station)) [
          | inl own ↦
              let o = and_true (same R.family.tabulation tabulation) (eqb R.family.station station) own in
              let t : R.family.tabulation ≡ tabulation = same_true R.family.tabulation tabulation o.0 in
              let u : R.family.station ≡ station = eqb-true R.family.station station o.1 in
              let e : named R tabulation station ≡ R.family =
              λ i. record { tabulation = sym t i; slots = R.family.slots; station = sym u i } in
              rw (own, e) (look_listed R.family positive ws h.image key b)
          | inr other ↦ rw other (ap (λ (l : List ℕ). look (slot_0 (named R tabulation station)) R.family.slots l key) h.image.is)
        ])

    lookup_replies : let c = StolenCall.lookup tabulation station key in StolenReplies (stolen_step ws c) (stolen_reply R c)
    unfolding stolen_step stolen_reply
    lookup_replies =
        let n = first_refusal (register_lookup_tests R tabulation station key) in
        record {
          number = lookup_number;
          values = elim (eq? n done) [
            | inl e ↦ rw (eq-eqb n done e) (go (lookup_passes tabulation ws station key (lookup_number ∙ e)) (lookup_number ∙ e))
            | inr d ↦ rw (ne_eqb n done d) (lookup_refused tabulation ws station key (λ q. d (sym lookup_number ∙ q)))
          ];
          keeps = h;
        }
      where
        go : None (stolen_lookup_refusals tabulation ws station key)
            → stolen_lookup_refusal tabulation ws station key ≡ done
            → stolen_lookup_values tabulation ws station key ≡ says (hears R tabulation station key)
        go (and a (and b (and c none))) e = lookup_accepted tabulation ws station key e ∙ ap says (heard c)

  replies : (c : StolenCall) → StolenReplies (stolen_step ws c) (stolen_reply R c)
  replies (StolenCall.insert tabulation station key) = insert_replies tabulation station key
  replies (StolenCall.lookup tabulation station key) = lookup_replies tabulation station key

pub stolen_follows : (R : Register) (ws : List ℕ) → StolenKept R ws → (cs : List StolenCall) → StolenFollows R ws cs
unfolding stolen_run stolen_model stolen_left register_left
stolen_follows R ws h [] = record { trace = refl; registers = λ m i. elim i [ ]; final = h }
stolen_follows R ws h (c ∷ cs) =
    let a = replies R ws h c in
    let k = a.keeps in
    let f = stolen_follows (stolen_reply R c).register (stolen_step ws c).words k cs in
    record {
      trace = λ i. record { number = a.number i; values = a.values i; words = k.image.is i } ∷ f.trace i;
      registers = λ m i. elim i [
        | here q ↦ rw q (record {
          full_length = k.full_length;
          slots = k.slots;
          station = k.station;
          image = rw k.image.is at k.image;
        })
        | there j ↦ f.registers m j
      ];
      final = f.final;
    }

module _ (F : Family) (z : Ranged F) where
  -- Every sequence of calls on zeros follows the register, which starts with the empty set.
  pub stolen_history : (cs : List StolenCall) → StolenFollows (empty_register F) (replicate F.slots 0) cs
  stolen_history cs =
      stolen_follows (empty_register F) (replicate F.slots 0)
      (record { full_length = z.full_length; slots = z.slots; station = z.station; image = zeros_image F }) cs
