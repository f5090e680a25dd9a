-- Opening a sale, row by row, for all inputs: "as look-up does", by what look-up says, and 12 exactly where a price is not fair; what the record of an opened
-- sale holds. Then on a dictionary that holds a set: the tier is the set's. Assumes nothing.
use Rattle.std.specs.Prelude.{ℕ, zero, suc, ◌+◌, ◌≤◌, ◌<◌, ◌≡◌, Bool, true, false, not, ◌||◌, ◌↔◌, eqb, leb, ltb, ℤ, pos, negsuc, neg_ℤ, nat_abs, ◌+ℤ◌, get_or, ◌≤ℤ◌}
use Rattle.std.proofs.Math.Path.{refl, ap}
use Rattle.std.proofs.Common.{sym, ◌∙◌, true≢false, arith}
use Rattle.std.proofs.Math.Logic.{inl, inr}
use mathlib.Core.List.{List, [], ◌∷◌, Memᴰ as In}
use borrow.Author.Tests.{eq-eqb, ne_eqb, eqb-true, leb-true, le-leb, le-ltb, ltb-false, not-false}
use Rattle.std.proofs.Math.ListN.{length}
use Rattle.std.specs.Int.Signed.{mag, le_z, lt_z, lt_z_yes, lt_z_no, clash_ℤ}
use Rattle.basics.specs.Tests.{test}
use Rattle.basics.specs.Sets.{member}
use Rattle.refusals.specs.Refusal.{done, not_canonical, blank_key, key_absent, wrong_price, first_refusal, None, none, and}
use Rattle.hashing.specs.Hash.{tabulation_length, blank}
use Rattle.layout.specs.Entries.{Entry, max_tier, keys_of, tier_of}
use Rattle.layout.specs.Layout.{Params, looked_at, tier_in}
use Rattle.layout.specs.Answers.{lookup_refusals, lookup_refusal, lookup_values, looked_up}
use Rattle.outcome.specs.declared.Sale.{Sale}
use Rattle.outcome.specs.Held.{Holds}
use Rattle.outcome.specs.Sale.{record_values, max_base, base_in_range, max_step, step_in_range, all_in_range, steps_in_range, litre_price, unpriced}
use Rattle.outcome.specs.Sale.{found_refusals, sale_refusals, sale_refusal, sale_of, sale_values, sale_left, closed}

-- 12

-- What a base price and steps must be for a key of this tier: "a base price of 1 to 99,999 tenths of a cent and eight signed steps, .. each from -500 to 500",
-- and the key's price not below 1.
pub record Fair (base : ℕ) (steps : List ℤ) (tier : ℕ) : Type 0 where
  pub base_least : 1 ≤ base
  pub base_most : base ≤ 99999
  pub eight : length steps ≡ 8
  pub each : (i : ℕ) → i < 8 → (negsuc 499 ≤ℤ get_or steps i (pos 0)) × (get_or steps i (pos 0) ≤ℤ pos 500)
  pub price_least : pos 1 ≤ℤ (pos base +ℤ get_or steps tier (pos 0))

-- an opened sale

-- What the record of a sale that was opened holds, of a base price and steps.
pub record Priced (base : ℕ) (steps : List ℤ) (s : Sale) : Type 0 where
  pub small_tier : s.tier ≤ 7
  -- "litre price, which is base plus the tier's step": on whole numbers, nothing wraps and nothing is cut off.
  pub price : pos s.price ≡ pos base +ℤ get_or steps s.tier (pos 0)
  pub least : 1 ≤ s.price
  pub most : s.price ≤ 100499

module _ (tabulation ws : List ℕ) (key base : ℕ) (steps : List ℤ) (e : sale_refusal tabulation ws key base steps ≡ done) where
  abbrev pub tier : ℕ
  tier = tier_in tabulation ws key
