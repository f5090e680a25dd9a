-- The laws of what specs/Orders.antt defines.
use Rattle.std.specs.Prelude.{ℕ, ◌<◌, ◌≡◌, ◌⊎◌, length}
use Rattle.std.proofs.Math.Path.{refl}
use Rattle.std.proofs.Common.{sym, ◌∙◌, ap}
use Rattle.std.proofs.Math.Logic.{inl, inr}
use mathlib.Core.List.Memᴰ.{head as here}
use mathlib.Core.List.Memᴰ.{tail as there}
use mathlib.Core.List.{List, [], ◌∷◌, Memᴰ as In}
use Rattle.basics.specs.Sets.{Sub, Asc}
use Rattle.basics.proofs.Sets.{asc_ext}
use Rattle.ordered.specs.Keys.{with_key}
use Rattle.ordered.proofs.Place.{with_cases, with_here, with_there, asc_with}
use Rattle.probing.specs.Rule.{table_image}
use Rattle.probing.specs.Moves.{add}
use Rattle.probing.specs.Image.{KeySet}
use Rattle.probing.proofs.Image.{add_image}
use Rattle.probing.specs.Orders.{add_all, with_all, Turns, over, turn}

asc_all : (L : List ℕ) {S : List ℕ} → Asc S → Asc (with_all L S)
unfolding with_all
asc_all [] a = a
asc_all (c ∷ L) a = asc_all L (asc_with c a)

all_cases : (L S : List ℕ) {d : ℕ} → In d (with_all L S) → In d L ⊎ In d S
unfolding with_all
all_cases [] S i = inr i
all_cases (c ∷ L) S i =
    elim (all_cases L (with_key c S) i) [
      | inl j ↦ inl (there j)
      | inr j ↦ elim (with_cases c S j) [ inl q ↦ inl (here q) | inr k ↦ inr k ]
    ]

in_all : (L S : List ℕ) {d : ℕ} → In d L ⊎ In d S → In d (with_all L S)
unfolding with_all
in_all [] S (inl i) = elim i [ ]
in_all [] S (inr i) = i
in_all (c ∷ L) S (inl (here q)) = in_all L (with_key c S) (inr (rw q (with_here c S)))
in_all (c ∷ L) S (inl (there i)) = in_all L (with_key c S) (inl i)
in_all (c ∷ L) S (inr i) = in_all L (with_key c S) (inr (with_there c S i))

all_sub : (K L S : List ℕ) → Sub K L → Sub (with_all K S) (with_all L S)
all_sub K L S s d i = in_all L S (elim (all_cases K S i) [ inl j ↦ inl (s d j) | inr j ↦ inr j ])

module _ {h : ℕ → ℕ} {m : ℕ} (r : (c : ℕ) → h c < m) where
  -- keys added one after the other, in any order, each absent when its turn comes
  pub add_all_image : {L S : List ℕ} → Turns m L S → KeySet 1 S
      → add_all h m L (table_image h m S) ≡ table_image h m (with_all L S)
  unfolding add_all with_all
  add_all_image over v = refl
  add_all_image {S = S} (turn {c} {L} k n l t) v =
      rw (add_image r v k n l)
      (add_all_image t (record {
        asc = asc_with c v.asc;
        least = λ d i. elim (with_cases c S i) [ inl q ↦ rw q k | inr j ↦ v.least d j ];
      }))

  -- two orders of adding the same keys give the same words
  pub any_order : {K L S : List ℕ} → Turns m K S → Turns m L S → Sub K L → Sub L K → KeySet 1 S
      → add_all h m K (table_image h m S) ≡ add_all h m L (table_image h m S)
  any_order {K} {L} {S} k l s t v =
      let e : with_all K S ≡ with_all L S =
      asc_ext (with_all K S) (with_all L S) (asc_all K v.asc) (asc_all L v.asc) (all_sub K L S s) (all_sub L K S t) in
      add_all_image k v ∙ ap (table_image h m) e ∙ sym (add_all_image l v)
