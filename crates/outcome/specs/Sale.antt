-- What opening a sale answers, for every tabulation, words, key, base price and steps, and what closing one gives (document 02, "Four"). Both only read.
-- The contracts are equalities with `sale_refusal`, `sale_values` and `closed`; SaleLaws.antt has the laws.
use Rattle.std.specs.Prelude.{ℕ, ◌+◌, Bool, true, not, cond, ◌&&◌, ◌||◌, List, [], ◌∷◌, ◌++◌, eqb, leb, ltb, ℤ, pos, neg_ℤ, nat_abs, ◌+ℤ◌, length, get_or, Result, Ok, Err}
use Rattle.std.specs.Int.Signed.{le_z, lt_z}
use Rattle.basics.specs.Sets.{member}
use Rattle.refusals.specs.Refusal.{done, not_canonical, key_absent, wrong_price, first_refusal}
use Rattle.refusals.specs.declared.Refusal.{Refusal}
use Rattle.layout.specs.Entries.{max_tier, keys_of}
use Rattle.layout.specs.Layout.{looked_at, tier_in}
use Rattle.layout.specs.Answers.{lookup_refusals}
use Rattle.outcome.specs.declared.Sale.{Sale}

-- "The sale record holds card, tier and litre price": these values, of a sale that was opened
abbrev pub record_values : Sale → List ℕ
record_values s = s.key ∷ s.tier ∷ s.price ∷ []

abbrev pub values : Result Sale Refusal → List ℕ
values (Ok s) = record_values s
values (Err refusal) = []

-- "a base price of 1 to 99,999 tenths of a cent"
abbrev pub max_base : ℕ
max_base = 99999

abbrev pub base_in_range : ℕ → Bool
base_in_range base = leb 1 base && leb base max_base

-- "and eight signed steps, one for each tier, each from -500 to 500": a step is a whole number, below 0, too
abbrev pub max_step : ℤ
max_step = pos 500

abbrev pub step_in_range : ℤ → Bool
step_in_range step = le_z (neg_ℤ max_step) step && le_z step max_step

unfoldable pub all_in_range : List ℤ → Bool
all_in_range [] = true
all_in_range (step ∷ steps) = step_in_range step && all_in_range steps

abbrev pub steps_in_range : List ℤ → Bool
steps_in_range steps = eqb (length steps) (max_tier + 1) && all_in_range steps

-- "litre price, which is base plus the tier's step"
abbrev pub litre_price : ℕ → List ℤ → ℕ → ℤ
litre_price base steps tier = pos base +ℤ get_or steps tier (pos 0)

-- "base or a step outside its range, or this card's price below 1"
unfoldable pub unpriced : ℕ → List ℤ → ℕ → Bool
unpriced base steps tier = not (base_in_range base) || not (steps_in_range steps) || lt_z (litre_price base steps tier) (pos 1)

-- "Opening checks as look-up does, then 7, then 4 if the tier found is above 7. Answers: 12 .. after that."
abbrev pub found_refusals : List ℕ → List ℕ → ℕ → ℕ → List ℤ → List (ℕ × Bool)
found_refusals tabulation ws key base steps =
    (key_absent, not (member key (keys_of (looked_at tabulation ws key))))
    ∷ (not_canonical, ltb max_tier (tier_in tabulation ws key))
    ∷ (wrong_price, unpriced base steps (tier_in tabulation ws key))
    ∷ []

abbrev pub sale_refusals : List ℕ → List ℕ → ℕ → ℕ → List ℤ → List (ℕ × Bool)
sale_refusals tabulation ws key base steps = lookup_refusals tabulation ws key ++ found_refusals tabulation ws key base steps

unfoldable pub sale_refusal : List ℕ → List ℕ → ℕ → ℕ → List ℤ → ℕ
sale_refusal tabulation ws key base steps = first_refusal (sale_refusals tabulation ws key base steps)

-- the record: the card, the tier found, and the price, a whole number that is at least 1 where the sale is opened
unfoldable pub sale_of : List ℕ → List ℕ → ℕ → ℕ → List ℤ → Sale
sale_of tabulation ws key base steps =
    let tier = tier_in tabulation ws key in
    record { key = key; tier = tier; price = nat_abs (litre_price base steps tier) }

unfoldable pub sale_values : List ℕ → List ℕ → ℕ → ℕ → List ℤ → List ℕ
sale_values tabulation ws key base steps =
    cond (eqb (sale_refusal tabulation ws key base steps) done) (record_values (sale_of tabulation ws key base steps)) []

-- what a lent record holds afterwards: refused, what stood there
unfoldable pub sale_left : List ℕ → List ℕ → ℕ → ℕ → List ℤ → Sale → Sale
sale_left tabulation ws key base steps old =
    cond (eqb (sale_refusal tabulation ws key base steps) done) (sale_of tabulation ws key base steps) old

-- "closing gives the record's price, though the card may have gone": it takes the record alone
unfoldable pub closed : Sale → ℕ
closed s = s.price
