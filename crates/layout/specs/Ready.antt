-- What every call on a whole dictionary tries first, whatever it does then: 1 to 4, in this order. The definitions come
-- first; the laws say, row by row, when each is
-- given, and that words which pass are the image of a set. Assumes nothing.
use Rattle.std.specs.Prelude.{ℕ, ◌≤◌, ◌<◌, ◌≡◌, refl, Bool, true, false, not, ◌⊎◌, ◌↔◌, eqb, ltb, length}
use Rattle.std.proofs.Common.{sym, ◌∙◌, ap, true≢false, inl, inr, arith, eqb-true, eq-eqb, ne_eqb, ltb-false, lt-ltb, le-ltb}
use mathlib.Core.List.Memᴰ.{head as here}
use mathlib.Core.List.Memᴰ.{tail as there}
use mathlib.Core.List.{List, [], ◌∷◌, ◌++◌, Memᴰ as In}
use Rattle.std.proofs.lemmas.Bool.{not-false}
use Rattle.basics.specs.Tests.{test}
use Rattle.basics.specs.Sets.{member}
use Rattle.refusals.specs.Refusal.{done, wrong_tabulation, wrong_shape, short_scratch, not_canonical, first_refusal}
use Rattle.refusals.specs.Refusal.{None, none, and, numbers}
use Rattle.hashing.specs.Hash.{tabulation_length}
use Rattle.layout.specs.Entries.{Entry}
use Rattle.layout.specs.Layout.{Params, slots_of, places_of, scratch_length, shaped}
use Rattle.layout.specs.Canonical.{canonical, ImageOf}

-- the refusals that need no set: "wrong book", "wrong shape", and "short sheet", of scratch of n words
abbrev pub early_refusals : List ℕ → List ℕ → ℕ → List (ℕ × Bool)
early_refusals tabulation ws n =
    (wrong_tabulation, not (eqb (length tabulation) tabulation_length))
    ∷ (wrong_shape, not (shaped ws))
    ∷ (short_scratch, ltb n (scratch_length (slots_of ws) (places_of ws)))
    ∷ []

-- those that all such calls have in common: these, and "tampered"
abbrev pub first_refusals : List ℕ → List ℕ → List ℕ → List (ℕ × Bool)
first_refusals tabulation ws scratch =
    early_refusals tabulation ws (length scratch) ++ ((not_canonical, not (canonical tabulation ws)) ∷ [])

-- none of 1 to 3 applies
pub record Ready (tabulation ws scratch : List ℕ) : Type 0 where
  pub full_length : length tabulation ≡ tabulation_length
  pub shape : shaped ws ≡ true
  pub room : scratch_length (slots_of ws) (places_of ws) ≤ length scratch

-- "the list is the canonical image of no set"
abbrev pub Tampered : List ℕ → List ℕ → Type 0
Tampered tabulation ws = (P : Params) (L : List Entry) → P.tabulation ≡ tabulation → ImageOf P L ws → ⊥

-- The laws. An answer other than 1 to 4:
abbrev pub Late : ℕ → Type 0
Late n = (n ≡ done) ⊎ (not_canonical < n)

module _ (tabulation ws scratch : List ℕ) where
  -- 1 to 3, and what comes after them, where `rest` comes after 4
  module _ (rest : List (ℕ × Bool)) where
    abbrev pub head : ℕ
    head = first_refusal (first_refusals tabulation ws scratch ++ rest)
