-- The laws of what specs/SaleLaws.antt defines.
use Rattle.std.specs.Prelude.{ℕ, zero, suc, ◌+◌, ◌≤◌, ◌<◌, ◌≡◌, Bool, true, false, not, ◌||◌, ◌↔◌, eqb, leb, ltb, ℤ, pos, negsuc, neg_ℤ, nat_abs, ◌+ℤ◌, get_or, ◌≤ℤ◌}
use Rattle.std.proofs.Math.Path.{refl, ap}
use Rattle.std.proofs.Common.{sym, ◌∙◌, true≢false, arith}
use Rattle.std.proofs.Math.Logic.{inl, inr}
use mathlib.Core.List.{List, [], ◌∷◌, Memᴰ as In}
use borrow.Author.Tests.{eq-eqb, ne_eqb, eqb-true, leb-true, le-leb, le-ltb, ltb-false, not-false}
use Rattle.std.proofs.Math.ListN.{length}
use Rattle.std.specs.Int.Signed.{mag, le_z, lt_z, lt_z_yes, lt_z_no, clash_ℤ}
use Rattle.basics.specs.Tests.{test}
use Rattle.basics.proofs.Tests.{eq?, and_true, T_true, zero_one}
use Rattle.basics.specs.Sets.{member}
use Rattle.refusals.specs.Refusal.{done, not_canonical, blank_key, key_absent, wrong_price, first_refusal, None, none, and}
use Rattle.refusals.proofs.Refusals.{first_refusal_in, front_applies, front_passes, front_none}
use Rattle.hashing.specs.Hash.{tabulation_length, blank}
use Rattle.layout.specs.Entries.{Entry, max_tier, keys_of, tier_of}
use Rattle.layout.specs.Layout.{Params, looked_at, tier_in}
use Rattle.layout.specs.Answers.{lookup_refusals, lookup_refusal, lookup_values, looked_up}
use Rattle.layout.proofs.Look.{looked_entry, image_found}
use Rattle.outcome.specs.declared.Sale.{Sale}
use Rattle.outcome.specs.Held.{Holds}
use Rattle.outcome.proofs.Held.{held_some, held_shaped, tier_of_bound}
use Rattle.outcome.specs.Sale.{record_values, max_base, base_in_range, max_step, step_in_range, all_in_range, steps_in_range, litre_price, unpriced}
use Rattle.outcome.specs.Sale.{found_refusals, sale_refusals, sale_refusal, sale_of, sale_values, sale_left, closed}
use Rattle.outcome.specs.SaleLaws.{Fair, Priced, tier}

-- the numbers that it can answer
pub sale_answer_in : (tabulation ws : List ℕ) (key base : ℕ) (steps : List ℤ)
    → In (sale_refusal tabulation ws key base steps) (0 ∷ 1 ∷ 2 ∷ 5 ∷ 7 ∷ 4 ∷ 12 ∷ [])
unfolding sale_refusal
sale_answer_in tabulation ws key base steps = first_refusal_in (sale_refusals tabulation ws key base steps)

-- The values of a record say the record.
pub same_record : {s u : Sale} → record_values s ≡ record_values u → s ≡ u
same_record e = λ i. record { key = get_or (e i) 0 0; tier = get_or (e i) 1 0; price = get_or (e i) 2 0 }

-- "closing gives the record's price"
pub closed_price : (s : Sale) → s.price ≡ closed s
unfolding closed
closed_price s = refl

-- What a lookup among entries says of them: it finds the key, and its tier, or it does not.
looked_listed : (L : List Entry) (key tier : ℕ) → looked_up L key ≡ 1 ∷ tier ∷ [] → (member key (keys_of L) ≡ true) × (tier_of L key ≡ tier)
looked_listed L key tier e = elim (test (member key (keys_of L))) [
  | inl m ↦ (m, cc (rw m at e))
  | inr m ↦ absurd (zero_one (cc (rw m at e)))
]

looked_absent : (L : List Entry) (key : ℕ) → looked_up L key ≡ 0 ∷ [] → member key (keys_of L) ≡ false
looked_absent L key e = elim (test (member key (keys_of L))) [ inl m ↦ absurd (zero_one (sym (cc (rw m at e)))) | inr m ↦ m ]

looked_some : (L : List Entry) (key : ℕ) → looked_up L key ≡ [] → ⊥
looked_some L key e = elim (test (member key (keys_of L))) [
  | inl m ↦ omega (arith, ap length (rw m at e))
  | inr m ↦ omega (arith, ap length (rw m at e))
]

module _ (tabulation ws : List ℕ) (key : ℕ) where
  -- A lookup that says something was not refused, and the entries that it looks at say it;
  told : {v : ℕ} {vs : List ℕ} → lookup_values tabulation ws key ≡ v ∷ vs
      → (lookup_refusal tabulation ws key ≡ done) × (looked_up (looked_at tabulation ws key) key ≡ v ∷ vs)
  unfolding lookup_values
  told e = elim (eq? (lookup_refusal tabulation ws key) done) [
    | inl q ↦ (q, rw (eq-eqb (lookup_refusal tabulation ws key) done q) at e)
    | inr n ↦ absurd (omega (arith, ap length (rw (ne_eqb (lookup_refusal tabulation ws key) done n) at e)))
  ]

  -- one that says nothing was.
  pub untold : lookup_values tabulation ws key ≡ [] → lookup_refusal tabulation ws key ≡ done → ⊥
  unfolding lookup_values
  untold e q = looked_some (looked_at tabulation ws key) key (rw (eq-eqb (lookup_refusal tabulation ws key) done q) at e)

module _ (tabulation ws : List ℕ) (key base : ℕ) (steps : List ℤ) where
  -- Refused, there is no value, and a lent record stays;
  pub sale_refused : (sale_refusal tabulation ws key base steps ≡ done → ⊥)
      → (sale_values tabulation ws key base steps ≡ []) × ((old : Sale) → sale_left tabulation ws key base steps old ≡ old)
  unfolding sale_values sale_left
  sale_refused n = let t = ne_eqb (sale_refusal tabulation ws key base steps) done n in (rw t, λ old. rw t)

  -- done, the values are those of the record, which is what a lent record then holds.
  pub sale_done : sale_refusal tabulation ws key base steps ≡ done
      → (sale_values tabulation ws key base steps ≡ record_values (sale_of tabulation ws key base steps))
      × ((old : Sale) → sale_left tabulation ws key base steps old ≡ sale_of tabulation ws key base steps)
  unfolding sale_values sale_left
  sale_done e = let t = eq-eqb (sale_refusal tabulation ws key base steps) done e in (rw t, λ old. rw t)

  -- "Opening checks as look-up does": what a lookup is refused with, the opening is refused with,
  pub sale_as_lookup : (lookup_refusal tabulation ws key ≡ done → ⊥) → sale_refusal tabulation ws key base steps ≡ lookup_refusal tabulation ws key
  unfolding sale_refusal lookup_refusal
  sale_as_lookup n = front_applies (lookup_refusals tabulation ws key) (found_refusals tabulation ws key base steps) n

  looked : lookup_refusal tabulation ws key ≡ done → sale_refusal tabulation ws key base steps ≡ first_refusal (found_refusals tabulation ws key base steps)
  unfolding sale_refusal lookup_refusal
  looked e =
      front_passes (lookup_refusals tabulation ws key) (found_refusals tabulation ws key base steps)
      (front_none (lookup_refusals tabulation ws key) [] e refl)

  -- then, by what look-up says: 7 where it says that the key is not listed,
  pub sale_absent : lookup_values tabulation ws key ≡ 0 ∷ [] → sale_refusal tabulation ws key base steps ≡ key_absent
  sale_absent e = let l = told tabulation ws key e in looked l.0 ∙ (rw (looked_absent (looked_at tabulation ws key) key l.1))

  -- and else 4, "if the tier found is above 7", and 12.
  pub sale_listed : (tier : ℕ) → lookup_values tabulation ws key ≡ 1 ∷ tier ∷ []
      → (sale_refusal tabulation ws key base steps
      ≡ first_refusal ((not_canonical, ltb max_tier tier) ∷ (wrong_price, unpriced base steps tier) ∷ []))
      × (tier_in tabulation ws key ≡ tier)
  unfolding tier_in
  sale_listed tier e =
      let l = told tabulation ws key e in
      let f = looked_listed (looked_at tabulation ws key) key tier l.1 in
      (looked l.0 ∙ (rw (f.0, f.1)), f.1)

-- a test of order, and the order
le_true : {a b : ℤ} → a ≤ℤ b → le_z a b ≡ true
le_true {a} {b} h = T_true (le_z a b) h.le

true_le : {a b : ℤ} → le_z a b ≡ true → a ≤ℤ b
true_le e = record { le = rw e tt }

not_less : (a b : ℤ) → (lt_z a b ≡ false) ↔ (b ≤ℤ a)
not_less a b = (
  λ e. lt_z_no (rw e tt),
  λ h. elim (test (lt_z a b)) [ inl t ↦ clash_ℤ (lt_z_yes (rw t tt)) h | inr f ↦ f ],
)

or_none : (p q : Bool) → (p || q) ≡ false → (p ≡ false) × (q ≡ false)
or_none true q e = absurd (true≢false e)
or_none false q e = (refl, e)

-- a step in its range, and all are exactly if each is
pub in_order : (z : ℤ) → step_in_range z ≡ true → (negsuc 499 ≤ℤ z) × (z ≤ℤ pos 500)
in_order z e = let g = and_true (le_z (neg_ℤ max_step) z) (le_z z max_step) e in (true_le g.0, true_le g.1)

pub all_at : (steps : List ℤ) → all_in_range steps ≡ true → (i : ℕ) → i < length steps → step_in_range (get_or steps i (pos 0)) ≡ true
unfolding all_in_range
all_at [] e i l = absurd (omega arith)
all_at (z ∷ zs) e zero l = (and_true (step_in_range z) (all_in_range zs) e).0
all_at (z ∷ zs) e (suc i) l = all_at zs (and_true (step_in_range z) (all_in_range zs) e).1 i (omega arith)

each_all : (steps : List ℤ) → ((i : ℕ) → i < length steps → (negsuc 499 ≤ℤ get_or steps i (pos 0)) × (get_or steps i (pos 0) ≤ℤ pos 500)) → all_in_range steps ≡ true
unfolding all_in_range
each_all [] h = refl
each_all (z ∷ zs) h =
    let f = h 0 (omega arith) in
    rw (le_true f.0, le_true f.1) (each_all zs (λ i l. h (suc i) (omega arith)))

-- 12 is answered, where it is tried, exactly if they are not so.
pub fair_iff : (base : ℕ) (steps : List ℤ) (tier : ℕ) → (unpriced base steps tier ≡ false) ↔ Fair base steps tier
unfolding unpriced
fair_iff base steps tier = (
  λ e.
      let f = or_none (not (base_in_range base) || not (steps_in_range steps)) (lt_z (litre_price base steps tier) (pos 1)) e in
      let g = or_none (not (base_in_range base)) (not (steps_in_range steps)) f.0 in
      let b = and_true (leb 1 base) (leb base max_base) (not-false (base_in_range base) g.0) in
      let s = and_true (eqb (length steps) (max_tier + 1)) (all_in_range steps) (not-false (steps_in_range steps) g.1) in
      let n : length steps ≡ 8 = eqb-true (length steps) (max_tier + 1) s.0 in
      record {
        base_least = leb-true 1 base b.0;
        base_most = leb-true base max_base b.1;
        eight = n;
        each = λ i l. in_order (get_or steps i (pos 0)) (all_at steps s.1 i (rw n l));
        price_least = (not_less (litre_price base steps tier) (pos 1)).0 f.1;
      },
  λ h.
      rw (
        le-leb 1 base h.base_least,
        le-leb base max_base h.base_most,
        eq-eqb (length steps) (max_tier + 1) h.eight,
        each_all steps (λ i l. h.each i (rw h.eight at l)),
        (not_less (litre_price base steps tier) (pos 1)).1 h.price_least,
      ),
)

-- a whole number that is at least 1, as a number; how large the sum of a base and a step can be
pub whole : (z : ℤ) → pos 1 ≤ℤ z → (pos (nat_abs z) ≡ z) × ((1 ≤ nat_abs z) × (nat_abs z ≡ mag z))
whole (pos n) h = (refl, (leb-true 1 n (le_true h), refl))
whole (negsuc n) h = absurd h.le

pub sum_bound : (base : ℕ) (z : ℤ) → base ≤ 99999 → negsuc 499 ≤ℤ z → z ≤ℤ pos 500 → mag (pos base +ℤ z) ≤ 100499
sum_bound base (pos n) b l h = omega (arith, leb-true n 500 (le_true h))
sum_bound base (negsuc n) b l h = elim (test (ltb base (suc n))) [
  | inl t ↦ rw t (omega (arith, leb-true n 499 (le_true l)))
  | inr f ↦ rw f (omega arith)
]

-- where none of three refusals applies, each test fails
three : {a b c : ℕ × Bool} → None (a ∷ b ∷ c ∷ []) → (a.1 ≡ false) × ((b.1 ≡ false) × (c.1 ≡ false))
three (and p (and q (and r none))) = (p, (q, r))

module _ (tabulation ws : List ℕ) (key base : ℕ) (steps : List ℤ) (e : sale_refusal tabulation ws key base steps ≡ done) where
  looked_done : lookup_refusal tabulation ws key ≡ done
  looked_done = elim (eq? (lookup_refusal tabulation ws key) done) [
    | inl q ↦ q
    | inr n ↦ absurd (n (sym (sale_as_lookup tabulation ws key base steps n) ∙ e))
  ]

  passed : (not (member key (keys_of (looked_at tabulation ws key))) ≡ false) × ((ltb max_tier (tier tabulation ws key base steps e) ≡ false) × (unpriced base steps (tier tabulation ws key base steps e) ≡ false))
  passed = three (front_none (found_refusals tabulation ws key base steps) [] (sym (looked tabulation ws key base steps looked_done) ∙ e) refl)

  -- A sale is opened where the key is listed, at a tier up to 7, and all is fair.
  pub opened_listed : lookup_values tabulation ws key ≡ 1 ∷ (tier tabulation ws key base steps e) ∷ []
  unfolding lookup_values tier_in
  opened_listed = rw (eq-eqb (lookup_refusal tabulation ws key) done looked_done, not-false (member key (keys_of (looked_at tabulation ws key))) passed.0)

  pub opened_fair : Fair base steps (tier tabulation ws key base steps e)
  opened_fair = (fair_iff base steps (tier tabulation ws key base steps e)).0 passed.1.1

  -- Its record holds the key, the tier that look-up tells, and the price.
  pub opened_key : (sale_of tabulation ws key base steps).key ≡ key
  unfolding sale_of
  opened_key = refl

  pub opened_tier : (sale_of tabulation ws key base steps).tier ≡ (tier tabulation ws key base steps e)
  unfolding sale_of
  opened_tier = refl

  pub opened_priced : Priced base steps (sale_of tabulation ws key base steps)
  unfolding sale_of
  opened_priced =
      let f = opened_fair in
      let small : (tier tabulation ws key base steps e) ≤ max_tier = ltb-false max_tier (tier tabulation ws key base steps e) passed.1.0 in
      let w = whole (litre_price base steps (tier tabulation ws key base steps e)) f.price_least in
      record {
        small_tier = small;
        price = w.0;
        least = w.1.0;
        most = let step = f.each (tier tabulation ws key base steps e) (omega arith) in rw w.1.1 (sum_bound base (get_or steps (tier tabulation ws key base steps e) (pos 0)) f.base_most step.0 step.1);
      }

-- on a dictionary that holds a set

module _ {P : Params} {L : List Entry} {ws : List ℕ} (h : Holds P L ws) (full_length : length P.tabulation ≡ tabulation_length)
    (key base : ℕ) (steps : List ℤ) where
  -- what is found there is the set's
  found : blank key ≡ false → looked_up (looked_at P.tabulation ws key) key ≡ looked_up L key
  found b = rw h.is.is (image_found P L h.is.fit h.is.valid (held_some h) key b)

  -- 1, 2 and 4 never apply, and the rest with L as "the set".
  pub held_sale : sale_refusal P.tabulation ws key base steps
      ≡ first_refusal ((blank_key, blank key) ∷ (key_absent, not (member key (keys_of L))) ∷ (wrong_price, unpriced base steps (tier_of L key)) ∷ [])
  unfolding sale_refusal tier_in
  held_sale = rw (eq-eqb (length P.tabulation) tabulation_length full_length, held_shaped h) (elim (test (blank key)) [
    | inl b ↦ rw b
    | inr b ↦ elim (test (member key (keys_of L))) [
      | inl m ↦
          let f = looked_listed (looked_at P.tabulation ws key) key (tier_of L key) (found b ∙ (rw m)) in
          rw (b, m, f.0, f.1, le-ltb max_tier (tier_of L key) (tier_of_bound L h.is.valid.tiers key))
      | inr m ↦ rw (b, m, looked_absent (looked_at P.tabulation ws key) key (found b ∙ (rw m)))
    ]
  ])

  -- "Opening a sale takes a listed card": its key stands in the set with the tier of the record.
  pub held_tier : sale_refusal P.tabulation ws key base steps ≡ done
      → In (record { key = key; tier = (sale_of P.tabulation ws key base steps).tier }) L
  unfolding sale_of
  held_tier e = elim (test (blank key)) [
    | inl b ↦ absurd (omega (arith, rw b at (sym e ∙ held_sale)))
    | inr b ↦ (looked_entry L h.is.valid.keys.asc key (tier_in P.tabulation ws key)).0
        (sym (found b) ∙ (told P.tabulation ws key (opened_listed P.tabulation ws key base steps e)).1)
  ]
