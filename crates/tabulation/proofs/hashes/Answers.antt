-- `tabulation::hashes` meets its contract: each `return` is the first refusal whose test holds, or both hashes.
use borrow.Author.Tests.{eq-eqb, ne_eqb, not-true, not-false}
use mathlib.Core.Path.{◌≡◌, ◌∙◌, sym}
use mathlib.Core.Bool.{true}
use native.Mathlib.Omega.{arith}
use lib.ListN.{length}
use Rattle.hashing.specs.Hash.{tabulation_length, slots_in_range, station_in_range, Hashing}
use Rattle.hashing.proofs.Hash.{hashing}
use Rattle.hashing.specs.Answer.{hashes_refusal, hashes_values}
use borrow.Author.Rules.{rules}
use Rattle.tabulation.proofs.hashes.Goals as goal

pub returns-then-tabulation-ne-TABULATION_LENGTH : goal.returns-then-tabulation-ne-TABULATION_LENGTH
unfolding hashes_refusal hashes_values
returns-then-tabulation-ne-TABULATION_LENGTH c = let t = ne_eqb _ _ c.if-tabulation-ne-TABULATION_LENGTH.true in record {
  numbered = simp t;
  valued = simp t;
}

pub returns-then-not-in_range : goal.returns-then-not-in_range
unfolding hashes_refusal hashes_values
returns-then-not-in_range c =
    let t = eq-eqb _ _ c.if-tabulation-ne-TABULATION_LENGTH.false in
    let u = sym c.in_range.ensures ∙ c.if-not-in_range.true in
    record {
      numbered = simp (t, u);
      valued = simp (t, u);
    }

pub returns-then-not-is_station : goal.returns-then-not-is_station
unfolding hashes_refusal hashes_values
returns-then-not-is_station c =
    let t = eq-eqb _ _ c.if-tabulation-ne-TABULATION_LENGTH.false in
    let u = sym c.in_range.ensures ∙ c.if-not-in_range.false in
    let v = sym c.is_station.ensures ∙ c.if-not-is_station.true in
    record {
      numbered = simp (t, u, v);
      valued = simp (t, u, v);
    }

pub returns-then-is_blank : goal.returns-then-is_blank
unfolding hashes_refusal hashes_values
returns-then-is_blank c =
    let full : length c.args.tabulation.now ≡ tabulation_length = c.if-tabulation-ne-TABULATION_LENGTH.false in
    let ranged : slots_in_range c.args.r ≡ true = sym c.in_range.ensures ∙ c.if-not-in_range.false in
    let placed : station_in_range c.args.station ≡ true = sym c.is_station.ensures ∙ c.if-not-is_station.false in
    let t = eq-eqb _ _ (full) in
    let v = sym c.is_blank.ensures ∙ c.if-is_blank.true in
    record {
      numbered = simp (t, ranged, placed, v);
      valued = simp (t, ranged, placed, v);
    }

pub hash_in-requires : goal.hash_in-requires
hash_in-requires c =
    let can-hash : Hashing c.args.tabulation.now c.args.r c.args.station = let full : length c.args.tabulation.now ≡ tabulation_length = c.if-tabulation-ne-TABULATION_LENGTH.false in
    let ranged : slots_in_range c.args.r ≡ true = sym c.in_range.ensures ∙ c.if-not-in_range.false in
    let placed : station_in_range c.args.station ≡ true = sym c.is_station.ensures ∙ c.if-not-is_station.false in
    hashing (full) (ranged) (placed) in
    (can-hash, search rules)

pub hash_in-requires-2 : goal.hash_in-requires-2
hash_in-requires-2 c =
    let can-hash : Hashing c.args.tabulation.now c.args.r c.args.station = let full : length c.args.tabulation.now ≡ tabulation_length = c.if-tabulation-ne-TABULATION_LENGTH.false in
    let ranged : slots_in_range c.args.r ≡ true = sym c.in_range.ensures ∙ c.if-not-in_range.false in
    let placed : station_in_range c.args.station ≡ true = sym c.is_station.ensures ∙ c.if-not-is_station.false in
    hashing (full) (ranged) (placed) in
    (can-hash, search rules)

pub returns : goal.returns
unfolding hashes_refusal hashes_values
returns c =
    let full : length c.args.tabulation.now ≡ tabulation_length = c.if-tabulation-ne-TABULATION_LENGTH.false in
    let ranged : slots_in_range c.args.r ≡ true = sym c.in_range.ensures ∙ c.if-not-in_range.false in
    let placed : station_in_range c.args.station ≡ true = sym c.is_station.ensures ∙ c.if-not-is_station.false in
    let t = eq-eqb _ _ (full) in
    let v = sym c.is_blank.ensures ∙ c.if-is_blank.false in
    record {
      numbered = simp (t, ranged, placed, v);
      valued = simp (t, ranged, placed, v, c.hash_in.ensures, c.hash_in-2.ensures);
    }
