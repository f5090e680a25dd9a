-- The laws of what specs/Sizes.antt defines.
use Rattle.std.specs.Prelude.{Option, Some, None, ℕ, suc, ◌≤◌, ◌<◌, ◌≡◌, refl, List, ◌∷◌, ◌++◌, length, take, drop}
use Rattle.std.proofs.Common.{◌∙◌, ap, inl, inr, arith, length-append}
use Rattle.std.proofs.Math.Seq.{split_at}
use Rattle.basics.proofs.Tests.{le?}
use Rattle.grammar.specs.Decimal.{decimal}
use Rattle.grammar.proofs.Decimal.{digits_32}
use Rattle.grammar.specs.Number.{number_of, largest}
use Rattle.grammar.proofs.NumberLaws.{number_decimal, number_largest, decimal_number, decimal_digits}
use Rattle.grammar.specs.Parted.{comma, place_of}
use Rattle.grammar.proofs.Parted.{parted_one, parted_first, parted_append, place_le, place_at}
use Rattle.grammar.specs.Command.{longest, pair_of, pair_text, Pair_text}
use Rattle.grammar.proofs.CommandLaws.{pair_given, pair_exact, pair_none, pair_length, digits_place}
use Rattle.grammar.specs.declared.Sizes.{Sizes}
use Rattle.grammar.specs.Sizes.{sizes, sizes_in, sizes_of, sizes_text, Sizes_text}

-- The laws. What `sizes_of` tests:
sizes_right : (x : Option ℕ) → sizes x None ≡ None
sizes_right (Some r) = refl
sizes_right None = refl

pub sizes_none : (l : List ℕ) → place_of comma l ≡ length l → sizes_of l ≡ None
unfolding sizes_of
sizes_none l e = ap sizes_in (parted_one comma l e) ∙ sizes_right (number_of l)

pub sizes_split : (l : List ℕ) → place_of comma l < length l
    → sizes_of l ≡ sizes (number_of (take (place_of comma l) l)) (pair_of (drop (suc (place_of comma l)) l))
unfolding sizes_of pair_of
sizes_split l h = ap sizes_in (parted_first comma l h)

-- exactly the writings
behind_first : (r : ℕ) (t : List ℕ) → sizes_of (decimal r ++ (comma ∷ t)) ≡ sizes (number_of (decimal r)) (pair_of t)
unfolding sizes_of pair_of
behind_first r t = ap sizes_in (parted_append comma (decimal r) t (digits_place (decimal r) (decimal_digits r)))

pub sizes_given : (r s station : ℕ) → r ≤ largest → s ≤ largest → station ≤ largest → sizes_of (sizes_text r s station) ≡ Some (record { r = r; s = s; station = station })
sizes_given r s station h k l = behind_first r (pair_text s station) ∙ rw (decimal_number r h, pair_given s station k l)

-- a line without a station is of another form
pub sizes_stationless : (r s : ℕ) → sizes_of (pair_text r s) ≡ None
sizes_stationless r s =
    behind_first r (decimal s)
    ∙ ap (sizes (number_of (decimal r))) (pair_none (decimal s) (digits_place (decimal s) (decimal_digits s)))
    ∙ sizes_right (number_of (decimal r))

pub sizes_exact : (l : List ℕ) → Sizes_text (sizes_of l) l
sizes_exact l =
    elim (le? (length l) (place_of comma l)) [
      | inl h ↦ rw (sizes_none l (omega (arith, place_le comma l))) tt
      | inr h ↦ rw (sizes_split l h) (each (number_of (take k l)) (pair_of (drop (suc k) l)) refl (pair_exact (drop (suc k) l)) h)
    ]
  where
    k : ℕ
    k = place_of comma l

    each : (x : Option ℕ) (y : Option (ℕ × ℕ)) → number_of (take k l) ≡ x → Pair_text y (drop (suc k) l) → k < length l → Sizes_text (sizes x y) l
    each (Some r) (Some (s, station)) e t h =
        let p = number_decimal (take k l) e in
        let q = t.0 in
        let d = split_at l k 0 h in
        let g = place_at comma l h in
        (cc, number_largest (take k l) e, t.1, t.2)
    each (Some r) None e t h = tt
    each None y e t h = tt

-- a longer line is of another form
pub sizes_long : (l : List ℕ) → longest < length l → sizes_of l ≡ None
sizes_long l h = go (sizes_of l) refl (sizes_exact l)
  where
    go : (x : Option Sizes) → sizes_of l ≡ x → Sizes_text x l → sizes_of l ≡ None
    go (Some z) e t =
        absurd (omega (
          arith,
          ap length t.0,
          length-append (decimal z.r) (comma ∷ pair_text z.s z.station),
          digits_32 z.r t.1,
          pair_length z.s z.station t.2 t.3,
        ))
    go None e t = e
