-- The laws of what specs/Joined.antt defines.
use Rattle.std.specs.Prelude.{ℕ, ◌≡◌, refl, true, false, not, ◌⊎◌, eqb}
use Rattle.std.proofs.Math.Path.{sym, ap}
use Rattle.std.proofs.Common.{◌∙◌, inl, inr}
use Rattle.std.proofs.Math.Bool.{cond}
use mathlib.Core.List.Memᴰ.{head as here}
use mathlib.Core.List.Memᴰ.{tail as there}
use mathlib.Core.List.{List, [], ◌∷◌, Memᴰ as In}
use borrow.Author.Tests.{eqb-true, eqb-false, eq-eqb, ne_eqb}
use Rattle.basics.specs.Tests.{test}
use Rattle.basics.proofs.Tests.{eq?}
use Rattle.basics.specs.Sets.{without, Sub}
use Rattle.basics.proofs.Sets.{in_out, around}
use Rattle.cuckoo.specs.Graph.{label, joined}
use Rattle.cuckoo.specs.Joined.{Joined, Way, past, along, back}

module _ (a b : ℕ → ℕ) where
  hit : (c : ℕ) (R : List ℕ) (v : ℕ) → label a b R v ≡ label a b R (a c) → label a b (c ∷ R) v ≡ label a b R (b c)
  unfolding label
  hit c R v e = rw (eq-eqb (label a b R v) (label a b R (a c)) e)

  miss : (c : ℕ) (R : List ℕ) (v : ℕ) → eqb (label a b R v) (label a b R (a c)) ≡ false → label a b (c ∷ R) v ≡ label a b R v
  unfolding label
  miss c R v e = rw e

  pub joined? : (R : List ℕ) (u v : ℕ) → (Joined a b) R u v ⊎ ((Joined a b) R u v → ⊥)
  joined? R u v =
      elim (test (eqb (label a b R u) (label a b R v))) [
        | inl e ↦ inl (record { same = eqb-true (label a b R u) (label a b R v) e })
        | inr e ↦ inr (λ j. eqb-false (label a b R u) (label a b R v) e j.same)
      ]

module _ {a b : ℕ → ℕ} where
  -- an equivalence
  pub jrefl : {R : List ℕ} {u : ℕ} → Joined a b R u u
  jrefl = record { same = refl }

  pub jsym : {R : List ℕ} {u v : ℕ} → Joined a b R u v → Joined a b R v u
  jsym j = record { same = cc }

  pub jtrans : {R : List ℕ} {u v w : ℕ} → Joined a b R u v → Joined a b R v w → Joined a b R u w
  jtrans j k = record { same = cc }

  -- with one key more, what was joined still is
  pub more : {c : ℕ} {R : List ℕ} {u v : ℕ} → Joined a b R u v → Joined a b (c ∷ R) u v
  unfolding label
  more {c} {R} j = record { same = ap (λ (x : ℕ). cond (eqb x (label a b R (a c))) (label a b R (b c)) x) j.same }

  -- a key joins its two slots
  pub edge_head : {c : ℕ} {R : List ℕ} → Joined a b (c ∷ R) (a c) (b c)
  edge_head {c} {R} = record { same = go (test (eqb (label a b R (b c)) (label a b R (a c)))) }
    where
      go : (eqb (label a b R (b c)) (label a b R (a c)) ≡ true) ⊎ (eqb (label a b R (b c)) (label a b R (a c)) ≡ false) → label a b (c ∷ R) (a c) ≡ label a b (c ∷ R) (b c)
      go (inl e) = cc (hit a b c R (a c) refl, hit a b c R (b c) (eqb-true (label a b R (b c)) (label a b R (a c)) e))
      go (inr e) = cc (hit a b c R (a c) refl, miss a b c R (b c) e)

  pub edge : {c : ℕ} {R : List ℕ} → In c R → Joined a b R (a c) (b c)
  edge {c} (here {x = d} {xs = R} e) = rw e edge_head
  edge (there h) = more (edge h)

  -- and nothing is joined but past the new key or along it
  pub split : (c : ℕ) (R : List ℕ) {u v : ℕ} → Joined a b (c ∷ R) u v → Way a b c R u v
  split c R {u} {v} j = go (test (eqb (label a b R u) (label a b R (a c)))) (test (eqb (label a b R v) (label a b R (a c))))
    where
      go : (eqb (label a b R u) (label a b R (a c)) ≡ true) ⊎ (eqb (label a b R u) (label a b R (a c)) ≡ false)
          → (eqb (label a b R v) (label a b R (a c)) ≡ true) ⊎ (eqb (label a b R v) (label a b R (a c)) ≡ false) → Way a b c R u v
      go (inl e) (inl f) = past (record { same = cc (eqb-true (label a b R u) (label a b R (a c)) e, eqb-true (label a b R v) (label a b R (a c)) f) })
      go (inl e) (inr f) =
          let e' = eqb-true (label a b R u) (label a b R (a c)) e in
          along (record { same = e' }) (record { same = cc (hit a b c R u e', miss a b c R v f) })
      go (inr e) (inl f) =
          let f' = eqb-true (label a b R v) (label a b R (a c)) f in
          back (record { same = cc (hit a b c R v f', miss a b c R u e) }) (record { same = cc })
      go (inr e) (inr f) = past (record { same = cc (miss a b c R u e, miss a b c R v f) })

  -- nothing else joins: whatever colours the two ends of each key alike colours joined slots alike
  pub least {ℓ} : {A : Type ℓ} (f : ℕ → A) (R : List ℕ) {u v : ℕ} → ((c : ℕ) → In c R → f (a c) ≡ f (b c)) → Joined a b R u v → f u ≡ f v
  unfolding label
  least f [] h j = ap f j.same
  least f (c ∷ R) h j =
      let h' : (d : ℕ) → In d R → f (a d) ≡ f (b d) = λ d i. h d (there i) in
      let e = h c (here refl) in
      elim (split c R j) [
        | past k ↦ least f R h' k
        | along k l ↦ least f R h' k ∙ e ∙ least f R h' l
        | back k l ↦ least f R h' k ∙ sym e ∙ least f R h' l
      ]

  -- only the set of keys counts
  pub mono : {R R' : List ℕ} {u v : ℕ} → Sub R R' → Joined a b R u v → Joined a b R' u v
  mono {R} {R'} s j = record { same = least (label a b R') R (λ c i. (edge (s c i)).same) j }

  -- keys whose ends are joined without them join nothing more
  pub within : {R R' : List ℕ} {u v : ℕ} → ((c : ℕ) → In c R → Joined a b R' (a c) (b c)) → Joined a b R u v → Joined a b R' u v
  within {R} {R'} s j = record { same = least (label a b R') R (λ c i. (s c i).same) j }

  -- the definition that computes says the same
  pub joined_true : {R : List ℕ} {u v : ℕ} → joined a b R u v ≡ true → Joined a b R u v
  unfolding joined
  joined_true {R} {u} {v} e = record { same = eqb-true (label a b R u) (label a b R v) e }

  pub true_joined : {R : List ℕ} {u v : ℕ} → Joined a b R u v → joined a b R u v ≡ true
  unfolding joined
  true_joined {R} {u} {v} j = eq-eqb (label a b R u) (label a b R v) j.same

  pub false_joined : {R : List ℕ} {u v : ℕ} → (Joined a b R u v → ⊥) → joined a b R u v ≡ false
  unfolding joined
  false_joined {R} {u} {v} n = ne_eqb (label a b R u) (label a b R v) (λ e. n (record { same = e }))

  pub no_joined : {R : List ℕ} {u v : ℕ} → (Joined a b R u v → ⊥) → not (joined a b R u v) ≡ true
  no_joined n = rw (false_joined n)

  -- a key on a cycle joins nothing that the others do not join
  pub cut : (c : ℕ) (R : List ℕ) {u v : ℕ} → Joined a b (without c R) (a c) (b c) → Joined a b R u v → Joined a b (without c R) u v
  cut c R l j =
      within (λ d i. elim (eq? c d) [ inl e ↦ rw (← e) l | inr ne ↦ edge (in_out c R ne i) ]) j

  -- as `split`, for a key of the set
  pub split_out : (c : ℕ) (R : List ℕ) {u v : ℕ} → Joined a b R u v → Way a b c (without c R) u v
  split_out c R j = split c (without c R) (mono (around c R) j)

  -- only the keys of its own component join a slot to another: R lies in S, and R' joins the ends of those keys of R that are in u's component of S
  pub confine : {R R' : List ℕ} (S : List ℕ) {u v : ℕ} → Sub R S
      → ((c : ℕ) → In c R → Joined a b S u (a c) → Joined a b R' (a c) (b c)) → Joined a b R u v → Joined a b R' u v
  confine {R} {R'} S {u} {v} s h j =
      let e : cond (joined a b S u u) (label a b R' u ∷ []) [] ≡ cond (joined a b S u v) (label a b R' v ∷ []) [] = least colour R alike j in
      let e' = rw (true_joined {R = S} {u = u} {v = u} jrefl, true_joined (mono s j)) at e in
      record { same = cc }
    where
      colour : ℕ → List ℕ
      colour w = cond (joined a b S u w) (label a b R' w ∷ []) []

      alike : (c : ℕ) → In c R → colour (a c) ≡ colour (b c)
      alike c i =
          let e : Joined a b S (a c) (b c) = edge (s c i) in
          elim (joined? a b S u (a c)) [
            | inl k ↦ let l = h c i k in rw (true_joined k, true_joined (jtrans k e), l.same)
            | inr n ↦ rw (false_joined n, false_joined (λ k. n (jtrans k (jsym e))))
          ]
