-- The laws of what specs/Command.antt defines.
use Rattle.std.specs.Prelude.{Option, Some, None, ℕ, suc, ◌≤◌, ◌<◌, ◌≡◌, refl, true, false, List, [], ◌∷◌, length, take, drop, get_or}
use Rattle.std.proofs.Common.{sym, ◌∙◌, ap, inl, inr, arith, eq-eqb, ne_eqb, length-append}
use Rattle.std.proofs.lemmas.Bool.{false≢true}
use Rattle.std.proofs.Math.Seq.{split_at}
use Rattle.basics.proofs.Tests.{eq?, le?, and_true, and_false}
use Rattle.grammar.specs.Decimal.{decimal}
use Rattle.grammar.proofs.Decimal.{digits_32}
use Rattle.grammar.specs.Number.{number_of, is_digit, all_digits, largest}
use Rattle.grammar.proofs.NumberLaws.{not_digits, number_decimal, number_largest, decimal_number, decimal_digits}
use Rattle.grammar.specs.Parted.{comma, fields, parted, place_of}
use Rattle.grammar.proofs.Parted.{parted_some, parted_one, parted_first, parted_append, place_le, place_at}
use Rattle.grammar.specs.declared.Command.{Command}
use Rattle.grammar.specs.declared.Command.TheVariants.{Insert, Remove, Lookup}
use Rattle.grammar.specs.Command.{letter_A, letter_W, letter_L, pair, pair_in, pair_of, by_letter, command_with, insertion, command, command_of, pair_text, key_text, add_text, Pair_text, Command_text, longest}

-- The laws. A text is one field, or several, and then it is no number.
data Fielded (t : List ℕ) : Type 0 where
  one : fields t ≡ t ∷ [] → Fielded t
  several : (f g : List ℕ) (fs : List (List ℕ)) → fields t ≡ f ∷ g ∷ fs → all_digits t ≡ false → Fielded t

fielded : (t : List ℕ) → Fielded t
unfolding parted all_digits
fielded [] = one refl
fielded (b ∷ t) =
    elim (eq? b comma) [
      | inl e ↦ let (p, (ps, f)) = parted_some comma t in several [] p ps (rw (eq-eqb b comma e, f)) (rw e)
      | inr n ↦ elim (fielded t) [
        | one e ↦ one (rw (ne_eqb b comma n, e))
        | several f g fs e d ↦ several (b ∷ f) g fs (rw (ne_eqb b comma n, e)) (and_false (is_digit b) (all_digits t) d)
      ]
    ]

pair_right : (x : Option ℕ) → pair x None ≡ None
pair_right (Some a) = refl
pair_right None = refl

-- what comes behind the first comma is the second field, or no number
pair_behind : (f t : List ℕ) → pair_in (f ∷ fields t) ≡ pair (number_of f) (number_of t)
pair_behind f t =
    elim (fielded t) [
      | one e ↦ ap (λ (fs : List (List ℕ)). pair_in (f ∷ fs)) e
      | several g h gs e d ↦
          ap (λ (fs : List (List ℕ)). pair_in (f ∷ fs)) e
          ∙ sym (ap (pair (number_of f)) (not_digits t d) ∙ pair_right (number_of f))
    ]

-- ---- what `pair_of` tests
pub pair_none : (l : List ℕ) → place_of comma l ≡ length l → pair_of l ≡ None
unfolding pair_of
pair_none l e = ap pair_in (parted_one comma l e)

pub pair_split : (l : List ℕ) → place_of comma l < length l
    → pair_of l ≡ pair (number_of (take (place_of comma l) l)) (number_of (drop (suc (place_of comma l)) l))
unfolding pair_of
pair_split l h =
    ap pair_in (parted_first comma l h) ∙ pair_behind (take (place_of comma l) l) (drop (suc (place_of comma l)) l)

-- ---- what `command_of` tests
-- the first field has one byte
no_field : (fs : List (List ℕ)) → command ([] ∷ fs) ≡ None
no_field [] = refl
no_field (q ∷ []) = refl
no_field (q ∷ r ∷ []) = refl
no_field (q ∷ r ∷ s ∷ fs) = refl

long_field : (a b : ℕ) (p : List ℕ) (fs : List (List ℕ)) → command ((a ∷ b ∷ p) ∷ fs) ≡ None
long_field a b p [] = refl
long_field a b p (q ∷ []) = refl
long_field a b p (q ∷ r ∷ []) = refl
long_field a b p (q ∷ r ∷ s ∷ fs) = refl

pub command_short : (l : List ℕ) → length l < 2 → command_of l ≡ None
unfolding command_of parted
command_short [] h = refl
command_short (a ∷ []) h = elim (eq? a comma) [ inl e ↦ rw (eq-eqb a comma e) | inr n ↦ rw (ne_eqb a comma n) ]
command_short (a ∷ b ∷ l) h = absurd (omega arith)

pub command_none : (l : List ℕ) → 1 < length l → (get_or l 1 0 ≡ comma → ⊥) → command_of l ≡ None
unfolding command_of parted
command_none [] h n = absurd (omega arith)
command_none (a ∷ []) h n = absurd (omega arith)
command_none (a ∷ b ∷ t) h n =
    let (p, (ps, f)) = parted_some comma t in
    elim (eq? a comma) [
      | inl e ↦ rw (eq-eqb a comma e) (no_field (fields (b ∷ t)))
      | inr m ↦ rw (ne_eqb a comma m, ne_eqb b comma n, f) (long_field a b p ps)
    ]

-- behind an A comes a key and a tier, behind any other letter a key
add_behind : (t : List ℕ) → command ((letter_A ∷ []) ∷ fields t) ≡ insertion (pair_of t)
unfolding pair_of
add_behind t =
    elim (fielded t) [
      | one e ↦ alike (fields t) e
      | several f g [] e d ↦ rw e
      | several f g (h ∷ fs) e d ↦ rw e
    ]
  where
    one_number : (x : Option ℕ) → command_with (letter_A ∷ []) x ≡ None
    one_number (Some key) = refl
    one_number None = refl

    alike : (fs : List (List ℕ)) → fs ≡ t ∷ [] → command ((letter_A ∷ []) ∷ fs) ≡ insertion (pair_in fs)
    alike fs e = rw e (one_number (number_of t))

key_behind : (a : ℕ) (t : List ℕ) → (a ≡ letter_A → ⊥) → command ((a ∷ []) ∷ fields t) ≡ command_with (a ∷ []) (number_of t)
key_behind a t n =
    elim (fielded t) [
      | one e ↦ rw e
      | several f g [] e d ↦ rw (e, ne_eqb a letter_A n, not_digits t d)
      | several f g (h ∷ fs) e d ↦ rw (e, not_digits t d)
    ]

pub command_add : (l : List ℕ) → 1 < length l → get_or l 1 0 ≡ comma → get_or l 0 0 ≡ letter_A
    → command_of l ≡ insertion (pair_of (drop 2 l))
unfolding command_of parted
command_add [] h e a = absurd (omega arith)
command_add (b ∷ []) h e a = absurd (omega arith)
command_add (b ∷ c ∷ t) h e a = rw (a, eq-eqb c comma e) (add_behind t)

pub command_key : (l : List ℕ) → 1 < length l → get_or l 1 0 ≡ comma → (get_or l 0 0 ≡ letter_A → ⊥)
    → command_of l ≡ command_with (get_or l 0 0 ∷ []) (number_of (drop 2 l))
unfolding command_of parted
command_key [] h e n = absurd (omega arith)
command_key (a ∷ []) h e n = absurd (omega arith)
command_key (a ∷ b ∷ t) h e n =
    elim (eq? a comma) [
      | inl q ↦ rw (eq-eqb a comma q) (no_field (fields (b ∷ t)) ∙ sym (rw q (not_letter (number_of t))))
      | inr m ↦ rw (ne_eqb a comma m, eq-eqb b comma e) (key_behind a t n)
    ]
  where
    not_letter : (x : Option ℕ) → command_with (comma ∷ []) x ≡ None
    not_letter (Some n) = refl
    not_letter None = refl

-- behind a letter that is none of A, W and L
pub command_lettered : (l : List ℕ) → 1 < length l → get_or l 1 0 ≡ comma → (get_or l 0 0 ≡ letter_A → ⊥)
    → (get_or l 0 0 ≡ letter_W → ⊥) → (get_or l 0 0 ≡ letter_L → ⊥) → command_of l ≡ None
command_lettered l h e n o m = command_key l h e n ∙ other (number_of (drop 2 l))
  where
    other : (x : Option ℕ) → command_with (get_or l 0 0 ∷ []) x ≡ None
    other (Some key) = rw (ne_eqb (get_or l 0 0) letter_W o, ne_eqb (get_or l 0 0) letter_L m)
    other None = refl

-- ---- exactly the writings
-- digits are one field
pub digits_place : (t : List ℕ) → all_digits t ≡ true → place_of comma t ≡ length t
unfolding all_digits place_of
digits_place [] e = refl
digits_place (b ∷ t) e =
    elim (eq? b comma) [
      | inl q ↦ absurd (false≢true (rw q at e))
      | inr n ↦ rw (ne_eqb b comma n) (ap suc (digits_place t (and_true (is_digit b) (all_digits t) e).1))
    ]

pub pair_given : (a b : ℕ) → a ≤ largest → b ≤ largest → pair_of (pair_text a b) ≡ Some (a, b)
unfolding pair_of
pair_given a b h l =
    ap pair_in (parted_append comma (decimal a) (decimal b) (digits_place (decimal a) (decimal_digits a)))
    ∙ pair_behind (decimal a) (decimal b)
    ∙ rw (decimal_number a h, decimal_number b l)

pub add_given : (key tier : ℕ) → key ≤ largest → tier ≤ largest → command_of (add_text key tier) ≡ Some (Insert key tier)
add_given key tier h l = command_add (add_text key tier) (omega arith) refl refl ∙ ap insertion (pair_given key tier h l)

-- an add without its tier is of another form
pub add_untiered : (key : ℕ) → command_of (key_text letter_A key) ≡ None
add_untiered key =
    command_add (key_text letter_A key) (omega arith) refl refl
    ∙ ap insertion (pair_none (decimal key) (digits_place (decimal key) (decimal_digits key)))

pub key_given : (letter key : ℕ) → key ≤ largest → command_of (key_text letter key) ≡ by_letter letter key
key_given letter key h =
    elim (eq? letter letter_A) [
      | inl e ↦ rw e (add_untiered key)
      | inr n ↦ command_key (key_text letter key) (omega arith) refl n ∙ rw (decimal_number key h)
    ]

pub pair_exact : (l : List ℕ) → Pair_text (pair_of l) l
pair_exact l =
    elim (le? (length l) (place_of comma l)) [
      | inl h ↦ rw (pair_none l (omega (arith, place_le comma l))) tt
      | inr h ↦ rw (pair_split l h) (both (number_of (take k l)) (number_of (drop (suc k) l)) refl refl h)
    ]
  where
    k : ℕ
    k = place_of comma l

    both : (x y : Option ℕ) → number_of (take k l) ≡ x → number_of (drop (suc k) l) ≡ y → k < length l → Pair_text (pair x y) l
    both (Some a) (Some b) e f h =
        let p = number_decimal (take k l) e in
        let q = number_decimal (drop (suc k) l) f in
        let d = split_at l k 0 h in
        let g = place_at comma l h in
        (cc, number_largest (take k l) e, number_largest (drop (suc k) l) f)
    both (Some a) None e f h = tt
    both None y e f h = tt

two_heads : (l : List ℕ) → 1 < length l → l ≡ get_or l 0 0 ∷ get_or l 1 0 ∷ drop 2 l
two_heads [] h = absurd (omega arith)
two_heads (a ∷ []) h = absurd (omega arith)
two_heads (a ∷ b ∷ l) h = refl

letters : (l : List ℕ) (b key : ℕ) → l ≡ key_text b key → key ≤ largest → Command_text (by_letter b key) l
letters l b key e h =
    elim (eq? b letter_W) [
      | inl q ↦ rw (eq-eqb b letter_W q) (rw q at e, h)
      | inr o ↦ elim (eq? b letter_L) [
        | inl q ↦ rw (ne_eqb b letter_W o, eq-eqb b letter_L q) (rw q at e, h)
        | inr p ↦ rw (ne_eqb b letter_W o, ne_eqb b letter_L p) tt
      ]
    ]

pub command_exact : (l : List ℕ) → Command_text (command_of l) l
command_exact l =
    elim (le? 2 (length l)) [
      | inr h ↦ rw (command_short l h) tt
      | inl h ↦ elim (eq? (get_or l 1 0) comma) [
        | inr n ↦ rw (command_none l h n) tt
        | inl e ↦ elim (eq? (get_or l 0 0) letter_A) [
          | inl a ↦ rw (command_add l h e a) (add h e a (pair_of (drop 2 l)) (pair_exact (drop 2 l)))
          | inr n ↦ rw (command_key l h e n) (key h e (number_of (drop 2 l)) refl)
        ]
      ]
    ]
  where
    add : 1 < length l → get_or l 1 0 ≡ comma → get_or l 0 0 ≡ letter_A → (x : Option (ℕ × ℕ)) → Pair_text x (drop 2 l) → Command_text (insertion x) l
    add h e a (Some (key, tier)) t =
        let b = two_heads l h in
        let d = t.0 in
        (cc, t.1, t.2)
    add h e a None t = tt

    key : 1 < length l → get_or l 1 0 ≡ comma → (x : Option ℕ) → number_of (drop 2 l) ≡ x → Command_text (command_with (get_or l 0 0 ∷ []) x) l
    key h e (Some n) f =
        let a = two_heads l h in
        let d = number_decimal (drop 2 l) f in
        letters l (get_or l 0 0) n (cc) (number_largest (drop 2 l) f)
    key h e None f = tt

pub pair_length : (a b : ℕ) → a ≤ largest → b ≤ largest → length (pair_text a b) ≤ 21
pair_length a b h l = omega (arith, length-append (decimal a) (comma ∷ decimal b), digits_32 a h, digits_32 b l)

pub command_long : (l : List ℕ) → longest < length l → command_of l ≡ None
command_long l h = go (command_of l) refl (command_exact l)
  where
    go : (x : Option Command) → command_of l ≡ x → Command_text x l → command_of l ≡ None
    go (Some (Insert key tier)) e t = absurd (omega (arith, ap length t.0, pair_length key tier t.1 t.2))
    go (Some (Remove key)) e t = absurd (omega (arith, ap length t.0, digits_32 key t.1))
    go (Some (Lookup key)) e t = absurd (omega (arith, ap length t.0, digits_32 key t.1))
    go None e t = e
