-- The laws of what specs/Ready.antt defines.
use Rattle.std.specs.Prelude.{ℕ, ◌≤◌, ◌<◌, ◌≡◌, refl, Bool, true, false, not, ◌⊎◌, ◌↔◌, eqb, ltb, length}
use Rattle.std.proofs.Common.{sym, ◌∙◌, ap, true≢false, inl, inr, arith, eqb-true, eq-eqb, ne_eqb, ltb-false, lt-ltb, le-ltb}
use mathlib.Core.List.Memᴰ.{head as here}
use mathlib.Core.List.Memᴰ.{tail as there}
use mathlib.Core.List.{List, [], ◌∷◌, ◌++◌, Memᴰ as In}
use Rattle.std.proofs.lemmas.Bool.{not-false}
use Rattle.basics.specs.Tests.{test}
use Rattle.basics.specs.Sets.{member}
use Rattle.refusals.specs.Refusal.{done, wrong_tabulation, wrong_shape, short_scratch, not_canonical, first_refusal}
use Rattle.refusals.specs.Refusal.{None, none, and, numbers}
use Rattle.refusals.proofs.Refusals.{first_refusal_in}
use Rattle.refusals.proofs.Refusals.{front_passes, front_none}
use Rattle.hashing.specs.Hash.{tabulation_length}
use Rattle.layout.specs.Entries.{Entry}
use Rattle.layout.specs.Layout.{Params, slots_of, places_of, scratch_length, shaped}
use Rattle.layout.specs.Canonical.{canonical, ImageOf}
use Rattle.layout.proofs.Canonical.{not_canonical_iff}
use Rattle.layout.specs.Ready.{early_refusals, first_refusals, Ready, Tampered, Late, head}

pub late_other : {n : ℕ} → Late n
    → member n (wrong_tabulation ∷ wrong_shape ∷ short_scratch ∷ not_canonical ∷ []) ≡ false
late_other (inl e) = rw e
late_other {n} (inr l) =
    rw (ne_eqb n 1 (omega arith), ne_eqb n 2 (omega arith), ne_eqb n 3 (omega arith), ne_eqb n 4 (omega arith))

module _ (tabulation ws scratch : List ℕ) where
  pub ready_none : Ready tabulation ws scratch → None (early_refusals tabulation ws (length scratch))
  ready_none h = and (ap not (eq-eqb _ _ h.full_length)) (and (ap not h.shape) (and (le-ltb _ _ h.room) none))

  pub none_ready : None (early_refusals tabulation ws (length scratch)) → Ready tabulation ws scratch
  none_ready (and a (and b (and c none))) =
      record { full_length = eqb-true _ _ (not-false _ a); shape = not-false _ b; room = ltb-false _ _ c }

  -- nor does 4
  pub none_canonical : None (first_refusals tabulation ws scratch) → Ready tabulation ws scratch
      × (canonical tabulation ws ≡ true)
  none_canonical (and a (and b (and c (and d none)))) = (none_ready (and a (and b (and c none))), not-false _ d)

  pub canonical_none : Ready tabulation ws scratch → canonical tabulation ws ≡ true
      → None (first_refusals tabulation ws scratch)
  canonical_none h c = elim (ready_none h) [ and x (and y (and z none)) ↦ and x (and y (and z (and (ap not c) none))) ]

  -- 1 to 3, and what comes after them, where `rest` comes after 4
  module _ (rest : List (ℕ × Bool)) where
    pub head_tabulation : (length tabulation ≡ tabulation_length → ⊥) → (head tabulation ws scratch rest) ≡ wrong_tabulation
    head_tabulation n = rw (ne_eqb (length tabulation) tabulation_length n)

    pub head_shape : length tabulation ≡ tabulation_length → shaped ws ≡ false → (head tabulation ws scratch rest) ≡ wrong_shape
    head_shape e f = rw (eq-eqb (length tabulation) tabulation_length e, f)

    pub head_scratch : length tabulation ≡ tabulation_length → shaped ws ≡ true
        → length scratch < scratch_length (slots_of ws) (places_of ws)
        → (head tabulation ws scratch rest) ≡ short_scratch
    head_scratch e f l =
        rw (
          eq-eqb (length tabulation) tabulation_length e,
          f,
          lt-ltb (length scratch)
              (scratch_length (slots_of ws) (places_of ws)) l,
        )

    pub head_ready : Ready tabulation ws scratch → (head tabulation ws scratch rest) ≡ first_refusal
        ((not_canonical, not (canonical tabulation ws)) ∷ rest)
    head_ready h =
        front_passes (early_refusals tabulation ws (length scratch))
        ((not_canonical, not (canonical tabulation ws)) ∷ rest) (ready_none h)

    -- where none of 1 to 4 is given, none of them applies
    pub head_passed : Late (head tabulation ws scratch rest) → Ready tabulation ws scratch × (canonical tabulation ws ≡ true)
    head_passed late = none_canonical (front_none (first_refusals tabulation ws scratch) rest refl (late_other late))

-- none of 1 to 4 is among refusals that come after them
pub late_first : (rs : List (ℕ × Bool)) → ((n : ℕ) → In n (numbers rs) → not_canonical < n) → Late (first_refusal rs)
late_first rs f = elim (first_refusal_in rs) [ here q ↦ inl q | there i ↦ inr (f (first_refusal rs) i) ]

-- 4 is given exactly for the image of no set, whatever comes after it, if that is none of 1 to 4
pub head_tampered : (tabulation ws scratch : List ℕ) (rest : List (ℕ × Bool)) → Late (first_refusal rest)
    → Ready tabulation ws scratch
    → (head tabulation ws scratch rest ≡ not_canonical) ↔ Tampered tabulation ws
head_tampered tabulation ws scratch rest late h = (
  λ e. (not_canonical_iff tabulation ws h.shape).0 (elim (test (canonical tabulation ws)) [
    | inl c ↦ absurd
        (true≢false (late_other (rw (rw c at (sym (head_ready tabulation ws scratch rest h) ∙ e)) at late)))
    | inr c ↦ c
  ]),
  λ n. let c = (not_canonical_iff tabulation ws h.shape).1 n in head_ready tabulation ws scratch rest h ∙ (rw c),
)
