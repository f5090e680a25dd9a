-- The laws of what specs/EachSlot.antt defines.
use Rattle.std.specs.Prelude.{ℕ, zero, suc, ◌+◌, ◌≤◌, ◌<◌, ◌≡◌, refl, List, length, get_or, set}
use Rattle.std.proofs.Common.{sym, ◌∙◌, ap, inl, inr, arith, length-set, get_or-set_same, get_or-set_other, ext_get_or}
use Rattle.basics.proofs.Tests.{eq?}
use Rattle.build.specs.EachSlot.{each_slot, listed}

pub each_slot_none : (f : ℕ → ℕ → ℕ) (v : ℕ) (words : List ℕ) → each_slot f 0 v words ≡ words
unfolding each_slot
each_slot_none f v words = refl

pub each_slot_step : (f : ℕ → ℕ → ℕ) (n v : ℕ) (words : List ℕ) → each_slot f (suc n) v words ≡ each_slot f n (suc v) (set words v (f v (get_or words v 0)))
unfolding each_slot
each_slot_step f n v words = refl

pub each_slot_length : (f : ℕ → ℕ → ℕ) (n v : ℕ) (words : List ℕ) → length (each_slot f n v words) ≡ length words
unfolding each_slot
each_slot_length f zero v words = refl
each_slot_length f (suc n) v words = each_slot_length f n (suc v) (set words v (f v (get_or words v 0))) ∙ length-set words v (f v (get_or words v 0))

each_slot_before : (f : ℕ → ℕ → ℕ) (n v : ℕ) (words : List ℕ) (u : ℕ) → u < v → get_or (each_slot f n v words) u 0 ≡ get_or words u 0
unfolding each_slot
each_slot_before f zero v words u l = refl
each_slot_before f (suc n) v words u l =
    let x = f v (get_or words v 0) in
    each_slot_before f n (suc v) (set words v x) u (omega arith) ∙ get_or-set_other words v u x 0 (omega arith)

pub each_slot_at : (f : ℕ → ℕ → ℕ) (n v : ℕ) (words : List ℕ) (u : ℕ) → v ≤ u → u < v + n → v + n ≤ length words
    → get_or (each_slot f n v words) u 0 ≡ f u (get_or words u 0)
unfolding each_slot
each_slot_at f zero v words u l k fit = absurd (omega arith)
each_slot_at f (suc n) v words u l k fit =
    let x = f v (get_or words v 0) in
    let sz : length (set words v x) ≡ length words = length-set words v x in
    elim (eq? u v) [
      | inl e ↦ rw e (each_slot_before f n (suc v) (set words v x) v (omega arith) ∙ get_or-set_same words v x 0 (omega arith))
      | inr ne ↦ each_slot_at f n (suc v) (set words v x) u (omega arith) (omega arith) (omega arith) ∙ ap (f u) (get_or-set_other words v u x 0 ne)
    ]

pub listed_length : (f : ℕ → ℕ) (n v : ℕ) → length (listed f n v) ≡ n
unfolding listed
listed_length f zero v = refl
listed_length f (suc n) v = ap suc (listed_length f n (suc v))

pub listed_at : (f : ℕ → ℕ) (n v i : ℕ) → i < n → get_or (listed f n v) i 0 ≡ f (v + i)
unfolding listed
listed_at f zero v i l = absurd (omega arith)
listed_at f (suc n) v zero l = let e : v + 0 ≡ v = omega arith in rw e
listed_at f (suc n) v (suc i) l = let e : v + suc i ≡ suc v + i = omega arith in rw e (listed_at f n (suc v) i (omega arith))

listed_slot : (f : ℕ → ℕ) (m v : ℕ) → v < m → get_or (listed f m 0) v 0 ≡ f v
listed_slot f m v l = let e : 0 + v ≡ v = omega arith in rw (listed_at f m 0 v l, e)

-- a list of m words is the list of what they are
pub is_listed : (f : ℕ → ℕ) (m : ℕ) (words : List ℕ) → length words ≡ m → ((v : ℕ) → v < m → get_or words v 0 ≡ f v) → words ≡ listed f m 0
is_listed f m words sz h =
    ext_get_or 0 words (listed f m 0) (sz ∙ sym (listed_length f m 0)) (λ v l. h v (omega arith) ∙ sym (listed_slot f m v (omega arith)))
