-- The opening of a sale in the steps of the code: the price for a tier, then the answer for a key that was found at a tier, then the whole, by what lookup
-- found. Assumes nothing.
use Rattle.std.specs.Prelude.{ℕ, zero, suc, ◌+◌, ◌≤◌, ◌<◌, ◌≡◌, refl, Bool, true, false, not, ◌&&◌, List, [], ◌∷◌, T, Option, Some, None, Result, Ok, Err, eqb, leb, ltb, ℤ, pos, negsuc, nat_abs, ◌+ℤ◌, length, get_or, drop}
use Rattle.std.proofs.Math.Path.{sym, ap}
use Rattle.std.proofs.Common.{◌∙◌, true≢false, add-one, arith, drop-cons, Fits, SFits, to_z, of_z}
use Rattle.std.proofs.Math.Bool.{cond, or-true, and-false}
use Rattle.std.proofs.Math.Logic.{inl, inr}
use borrow.Author.Tests.{eq-eqb, ne_eqb, lt-ltb, le-ltb, leb-true}
use Rattle.std.specs.Int.Signed.{mag, non_neg, lt_z}
use Rattle.std.specs.Int.{w32}
use Rattle.std.proofs.lemmas.Int.{to_z-of_z}
use Rattle.basics.specs.Tests.{test}
use Rattle.basics.proofs.Tests.{and_true}
use Rattle.refusals.specs.declared.Refusal.{Refusal}
use Rattle.refusals.specs.Refusal.{done, not_canonical, key_absent, wrong_price, first_refusal}
use Rattle.layout.specs.Entries.{max_tier}
use Rattle.layout.specs.Answers.{lookup_refusal, lookup_values}
use Rattle.outcome.specs.Sale.{record_values, base_in_range, step_in_range, all_in_range, litre_price, unpriced}
use Rattle.outcome.specs.Sale.{sale_refusal, sale_values, sale_of, sale_left}
use Rattle.outcome.specs.declared.Sale.{Sale}
use Rattle.outcome.proofs.SaleLaws.{same_record, in_order, all_at, fair_iff, whole, sum_bound, untold, sale_refused, sale_done, sale_as_lookup, sale_absent, sale_listed}

-- the price for a tier, 0 where 12 applies
unfoldable pub price_or_0 : ℕ → List ℤ → ℕ → ℕ
price_or_0 base steps tier = cond (unpriced base steps tier) 0 (nat_abs (litre_price base steps tier))

-- and as the code gives it: none where it is 0
abbrev pub positive : ℕ → Option ℕ
positive zero = None
positive (suc n) = Some (suc n)

none_zero : (n : ℕ) → None ≡ positive n → n ≡ 0
none_zero zero e = refl
none_zero (suc n) e = absurd (cc)

some_itself : (n : ℕ) {p : ℕ} → Some p ≡ positive n → (p ≡ n) × (n ≡ 0 → ⊥)
some_itself zero e = absurd (cc)
some_itself (suc n) e = (cc, λ q. omega arith)

at_least_1 : (n : ℕ) → 1 ≤ n → Some n ≡ positive n
at_least_1 zero l = absurd (omega arith)
at_least_1 (suc n) l = refl

-- the answer for a key that was found at this tier
unfoldable pub tier_refusal : ℕ → ℕ → List ℤ → ℕ
tier_refusal tier base steps = first_refusal ((not_canonical, ltb max_tier tier) ∷ (wrong_price, unpriced base steps tier) ∷ [])

unfoldable pub tier_values : ℕ → ℕ → ℕ → List ℤ → List ℕ
tier_values key tier base steps =
    cond (eqb (tier_refusal tier base steps) done) (key ∷ tier ∷ nat_abs (litre_price base steps tier) ∷ []) []

-- one step after the other is in its range
pub all_none : (steps : List ℤ) (i : ℕ) → length steps ≤ i → all_in_range (drop i steps) ≡ true
unfolding all_in_range
all_none [] zero l = refl
all_none [] (suc i) l = refl
all_none (z ∷ zs) zero l = absurd (omega arith)
all_none (z ∷ zs) (suc i) l = all_none zs i (omega arith)

pub all_next : (steps : List ℤ) (i : ℕ) → i < length steps
    → all_in_range (drop i steps) ≡ (step_in_range (get_or steps i (pos 0)) && all_in_range (drop (suc i) steps))
unfolding all_in_range
all_next steps i l = rw (drop-cons steps i (pos 0) l)

-- what the machine reads back from a step's bits is the step
pub read_step : (steps : List ℤ) (i : ℕ) → mag (get_or steps i (pos 0)) < 2147483648 → to_z w32 (of_z w32 (get_or steps i (pos 0))) ≡ get_or steps i (pos 0)
read_step steps i m = to_z-of_z w32 (get_or steps i (pos 0)) (record { sfits = m })

-- the loop over the steps: those from i on decide; at one that is not in its range it ends, otherwise those from i + 1 on decide
module _ (steps : List ℤ) (i : ℕ) {b : Bool} (l : i < length steps) (v : all_in_range steps ≡ all_in_range (drop i steps))
    (m : mag (get_or steps i (pos 0)) < 2147483648) (e : b ≡ step_in_range (to_z w32 (of_z w32 (get_or steps i (pos 0))))) where
  tested : b ≡ step_in_range (get_or steps i (pos 0))
  tested = e ∙ ap step_in_range (read_step steps i m)

  pub all_stops : b ≡ false → false ≡ all_in_range steps
  all_stops f = sym (v ∙ all_next steps i l ∙ (rw (sym tested ∙ f)))

  pub all_goes : b ≡ true → all_in_range steps ≡ all_in_range (drop (i + 1) steps)
  all_goes f = v ∙ all_next steps i l ∙ (rw (sym tested ∙ f, add-one i))

-- a price that is not below 1
fair_least : (base : ℕ) (steps : List ℤ) (tier : ℕ) → unpriced base steps tier ≡ false → 1 ≤ nat_abs (litre_price base steps tier)
fair_least base steps tier e = (whole (litre_price base steps tier) ((fair_iff base steps tier).0 e).price_least).1.0

-- a sum that is not below 1 can be cast to a number
casts : (z : ℤ) → lt_z z (pos 1) ≡ false → mag z < 2147483648 → T (non_neg z) × Fits w32 (nat_abs z)
casts (pos n) e l = (tt, record { fits = omega arith })
casts (negsuc n) e l = absurd (true≢false e)

above_0 : (z : ℤ) → lt_z z (pos 1) ≡ false → 1 ≤ nat_abs z
above_0 (pos zero) e = absurd (true≢false e)
above_0 (pos (suc n)) e = omega arith
above_0 (negsuc n) e = absurd (true≢false e)

-- The sum, as the machine makes it: it reads the step back from its bits, adds, and reads the sum back from its bits. Nothing is lost.
module _ (base : ℕ) (step : ℤ) (b : base_in_range base ≡ true) (s : step_in_range step ≡ true) where
  base_most : base ≤ 99999
  base_most = leb-true base 99999 (and_true (leb 1 base) (leb base 99999) b).1

  pub base_fits : SFits w32 (pos base)
  base_fits = record { sfits = omega (arith, base_most) }

  pub sum_fits : SFits w32 (pos base +ℤ step)
  sum_fits = let t = in_order step s in record { sfits = omega (arith, sum_bound base step base_most t.0 t.1) }

  module _ (step_fits : SFits w32 step) where
    pub summed : to_z w32 base +ℤ to_z w32 (of_z w32 step) ≡ pos base +ℤ step
    summed = λ i. to_z-of_z w32 (pos base) base_fits i +ℤ to_z-of_z w32 step step_fits i

    pub read_sum : to_z w32 (of_z w32 (to_z w32 base +ℤ to_z w32 (of_z w32 step))) ≡ pos base +ℤ step
    read_sum = ap (λ (z : ℤ). to_z w32 (of_z w32 z)) summed ∙ to_z-of_z w32 (pos base +ℤ step) sum_fits

    -- the two tests of the sum: it is below 1, and it is not, and then it is a number
    pub below_one : lt_z (to_z w32 (of_z w32 (to_z w32 base +ℤ to_z w32 (of_z w32 step)))) (pos 1) ≡ true
        → None ≡ positive (cond (lt_z (pos base +ℤ step) (pos 1)) 0 (nat_abs (pos base +ℤ step)))
    below_one e = rw (ap (λ (z : ℤ). lt_z z (pos 1)) (sym read_sum) ∙ e)

    module _ (e : lt_z (to_z w32 (of_z w32 (to_z w32 base +ℤ to_z w32 (of_z w32 step)))) (pos 1) ≡ false) where
      above : lt_z (pos base +ℤ step) (pos 1) ≡ false
      above = ap (λ (z : ℤ). lt_z z (pos 1)) (sym read_sum) ∙ e

      pub from_one : Some (nat_abs (to_z w32 (of_z w32 (to_z w32 base +ℤ to_z w32 (of_z w32 step)))))
          ≡ positive (cond (lt_z (pos base +ℤ step) (pos 1)) 0 (nat_abs (pos base +ℤ step)))
      from_one = rw (read_sum, above) (at_least_1 (nat_abs (pos base +ℤ step)) (above_0 (pos base +ℤ step) above))

      pub sum_casts : let z = to_z w32 (of_z w32 (to_z w32 base +ℤ to_z w32 (of_z w32 step))) in T (non_neg z) × Fits w32 (nat_abs z)
      sum_casts = rw read_sum (casts (pos base +ℤ step) above sum_fits.sfits)

-- the price for a tier: 0 where base or steps are not in their ranges,
module _ (base : ℕ) (steps : List ℤ) (tier : ℕ) where
  pub no_base : base_in_range base ≡ false → None ≡ positive (price_or_0 base steps tier)
  unfolding price_or_0 unpriced
  no_base e = rw e

  pub no_eight : (length steps ≡ 8 → ⊥) → None ≡ positive (price_or_0 base steps tier)
  unfolding price_or_0 unpriced
  no_eight n = rw (ne_eqb (length steps) 8 n, or-true (not (base_in_range base)))

  pub no_step : all_in_range steps ≡ false → None ≡ positive (price_or_0 base steps tier)
  unfolding price_or_0 unpriced
  no_step e = rw (e, and-false (eqb (length steps) 8), or-true (not (base_in_range base)))

  -- and else the sum, or 0 where that is below 1; i is the tier, as an index
  module _ (b : base_in_range base ≡ true) (n : length steps ≡ 8) (a : all_in_range steps ≡ true) (l : tier ≤ 7)
      (i : ℕ) (q : i ≡ tier) (m : mag (get_or steps i (pos 0)) < 2147483648) where
    pub step_ready : step_in_range (to_z w32 (of_z w32 (get_or steps i (pos 0)))) ≡ true
    step_ready = rw (read_step steps i m) (all_at steps a i (rw (n, q) (omega arith)))

    pub priced : {p : Option ℕ} → let z = pos base +ℤ to_z w32 (of_z w32 (get_or steps i (pos 0))) in
        p ≡ positive (cond (lt_z z (pos 1)) 0 (nat_abs z)) → p ≡ positive (price_or_0 base steps tier)
    unfolding price_or_0 unpriced
    priced e =
        e ∙ ap (λ (s : ℤ). positive (cond (lt_z (pos base +ℤ s) (pos 1)) 0 (nat_abs (pos base +ℤ s)))) (read_step steps i m)
        ∙ (rw (b, eq-eqb (length steps) 8 n, a, q))

-- the answer for a key that was found at a tier: 4,
module _ (key tier base : ℕ) (steps : List ℤ) where
  pub high_tier : max_tier < tier → (not_canonical ≡ tier_refusal tier base steps) × ([] ≡ tier_values key tier base steps)
  unfolding tier_refusal tier_values
  high_tier l = let t = lt-ltb max_tier tier l in (rw t, rw t)

  -- 12,
  module _ {p : Option ℕ} (l : tier ≤ max_tier) (e : p ≡ positive (price_or_0 base steps tier)) where
    pub not_priced : p ≡ None → (wrong_price ≡ tier_refusal tier base steps) × ([] ≡ tier_values key tier base steps)
    unfolding tier_refusal tier_values price_or_0
    not_priced z = elim (test (unpriced base steps tier)) [
      | inl t ↦ let f = le-ltb max_tier tier l in (rw (f, t), rw (f, t))
      | inr t ↦ absurd (omega (arith, none_zero _ (sym z ∙ rw t at e), fair_least base steps tier t))
    ]

    -- or the record
    pub is_priced : {price : ℕ} → p ≡ Some price
        → (done ≡ tier_refusal tier base steps) × (key ∷ tier ∷ price ∷ [] ≡ tier_values key tier base steps)
    unfolding tier_refusal tier_values price_or_0
    is_priced q = elim (test (unpriced base steps tier)) [
      | inl t ↦ absurd ((some_itself 0 (sym q ∙ rw t at e)).1 refl)
      | inr t ↦
          let f = le-ltb max_tier tier l in
          (rw (f, t), rw (f, t, sym (some_itself _ (sym q ∙ rw t at e)).0))
    ]

-- The answer for a key, by what lookup found: its own refusal,
module _ (tabulation ws : List ℕ) (key base : ℕ) (steps : List ℤ) where
  abbrev Answers : ℕ → List ℕ → Type 0
  Answers n vs = (n ≡ sale_refusal tabulation ws key base steps) × (vs ≡ sale_values tabulation ws key base steps)

  refusal_answers : {n : ℕ} → (n ≡ done → ⊥) → sale_refusal tabulation ws key base steps ≡ n → Answers n []
  refusal_answers n e = (sym e, sym (sale_refused tabulation ws key base steps (λ d. n (sym e ∙ d))).0)

  pub refused_answers : {n : ℕ} → n ≡ lookup_refusal tabulation ws key → [] ≡ lookup_values tabulation ws key → Answers n []
  refused_answers e v =
      let n = untold tabulation ws key (sym v) in
      refusal_answers (λ d. n (sym e ∙ d)) (sale_as_lookup tabulation ws key base steps n ∙ sym e)

  -- 7,
  pub absent_answers : 0 ∷ [] ≡ lookup_values tabulation ws key → Answers key_absent []
  absent_answers v = refusal_answers (λ d. omega arith) (sale_absent tabulation ws key base steps (sym v))

  -- or what the tier decides.
  pub listed_answers : {tier n : ℕ} {vs : List ℕ} → 1 ∷ tier ∷ [] ≡ lookup_values tabulation ws key
      → n ≡ tier_refusal tier base steps → vs ≡ tier_values key tier base steps → Answers n vs
  unfolding tier_refusal tier_values sale_values sale_of
  listed_answers {tier} v e f =
      let l = sale_listed tabulation ws key base steps tier (sym v) in
      (e ∙ sym l.0, f ∙ (rw (l.0, l.1)))

-- A lookup's answer that is neither a tier nor a refusal is that the key is not there.
pub is_absent : (f : Result (Option ℕ) Refusal) → ((tier : ℕ) → f ≡ Ok (Some tier) → ⊥) → ((n : Refusal) → f ≡ Err n → ⊥) → f ≡ Ok None
is_absent (Ok (Some tier)) p q = absurd (p tier refl)
is_absent (Ok None) p q = refl
is_absent (Err n) p q = absurd (q n refl)

-- What a lent record holds, by what the opening answered.
module _ (tabulation ws : List ℕ) (key base : ℕ) (steps : List ℤ) (old : Sale) where
  pub open_left : {s : Sale} → done ≡ sale_refusal tabulation ws key base steps → record_values s ≡ sale_values tabulation ws key base steps
      → (done ≡ sale_refusal tabulation ws key base steps) × (s ≡ sale_left tabulation ws key base steps old)
  open_left e v =
      let d = sale_done tabulation ws key base steps (sym e) in
      (e, same_record (v ∙ d.0) ∙ sym (d.1 old))

  pub refused_left : {n : ℕ} → n ≡ sale_refusal tabulation ws key base steps → [] ≡ sale_values tabulation ws key base steps
      → (n ≡ sale_refusal tabulation ws key base steps) × (old ≡ sale_left tabulation ws key base steps old)
  refused_left e v =
      let some : sale_refusal tabulation ws key base steps ≡ done → ⊥ =
      λ d. omega (arith, ap length (v ∙ (sale_done tabulation ws key base steps d).0)) in
      (e, sym ((sale_refused tabulation ws key base steps some).1 old))
