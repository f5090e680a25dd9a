-- Sales in a sequence of calls (document 02, "Four"): the opening of a sale and its closing are calls that only read the words. Closing gives the price of
-- the opening, whatever was called in between; and "The list never shows that a sale is open": a run with sales and the run without them leave the same words
-- and give the same answers. The definitions, which a reader must believe with those of outcome/specs/Sale.antt, come first.
-- Assumes nothing.
use Rattle.std.specs.Prelude.{ℕ, ◌≡◌, refl, not, ℤ}
use Rattle.std.proofs.Common.{sym, ◌∙◌, ap}
use mathlib.Core.List.{List, [], ◌∷◌, ◌++◌, Memᴰ as In}
use Rattle.basics.specs.Sets.{member}
use Rattle.refusals.specs.Refusal.{done, blank_key, key_absent, wrong_price, first_refusal}
use Rattle.hashing.specs.Hash.{blank}
use Rattle.layout.specs.Entries.{Entry, keys_of, tier_of}
use Rattle.layout.specs.Layout.{Params}
use Rattle.outcome.specs.declared.Sale.{Sale}
use Rattle.outcome.specs.Sale.{record_values, unpriced, sale_refusal, sale_of, sale_values, closed}
use Rattle.outcome.specs.SaleLaws.{Priced}
use Rattle.history.specs.Calls.{Answer, Other, Call, Step, step, run, words_after, words_left, Allowed, none, more, Sequence, Like}
use Rattle.history.specs.Model.{set_left}
use Rattle.history.specs.Others.{reads}
use Rattle.history.specs.NoTrace.{step_after}

-- Opening a sale, with any tabulation, key, base price and steps; its values are those of the record, none if it is refused.
abbrev pub opening : (tabulation : List ℕ) (key base : ℕ) (steps : List ℤ) → Other
opening tabulation key base steps =
    reads (λ ws. record { number = sale_refusal tabulation ws key base steps; values = sale_values tabulation ws key base steps })

-- "closing gives the record's price": it is never refused, and it is not even lent the words.
abbrev pub closing : Sale → Other
closing s = reads (λ ws. record { number = done; values = closed s ∷ [] })

-- A call, an opening or a closing.
pub data Act : Type 0 where
  call : Call → Act
  opens : (tabulation : List ℕ) (key base : ℕ) (steps : List ℤ) → Act
  closes : Sale → Act

-- An act of a sequence in which sales are opened and closed, as a call; `all_calls` of proofs/Sales.antt is the sequence,
abbrev pub as_call : Act → Call
as_call (call c) = c
as_call (opens tabulation key base steps) = Call.other (opening tabulation key base steps)
as_call (closes s) = Call.other (closing s)

-- and the calls of it that are no opening and no closing
unfoldable pub without_sales : List Act → List Call
without_sales [] = []
without_sales (call c ∷ acts) = c ∷ without_sales acts
without_sales (opens tabulation key base steps ∷ acts) = without_sales acts
without_sales (closes s ∷ acts) = without_sales acts

-- of what the calls of a sequence answered and left, the part of those
unfoldable pub others : List Act → List Step → List Step
others [] os = []
others (a ∷ acts) [] = []
others (call c ∷ acts) (o ∷ os) = o ∷ others acts os
others (opens tabulation key base steps ∷ acts) (o ∷ os) = others acts os
others (closes s ∷ acts) (o ∷ os) = others acts os

-- A sale that is opened after the calls cs of a sequence, and what becomes of its record s.
pub record SaleOf (P : Params) (L₀ : List Entry) (ws : List ℕ) (cs : List Call) (key base : ℕ) (steps : List ℤ)
    (s : Sale) : Type 0 where
  -- "The sale record holds card, tier and litre price": the card, listed, with the tier of the register's set,
  pub of_key : s.key ≡ key
  pub of_set : In (record { key = key; tier = s.tier }) (set_left P L₀ ws cs)
  -- and the price, which is base plus the tier's step.
  pub priced : Priced base steps s
  -- "Adds and withdrawals are allowed while sales are open; closing gives the record's price, though the card may have gone": after whatever calls ds.
  pub closing_says : (ds : List Call)
      → (step_after P ws (cs ++ (Call.other (opening P.tabulation key base steps) ∷ ds)) (Call.other (closing s))).answer
      ≡ record { number = done; values = s.price ∷ [] }
