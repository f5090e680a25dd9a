-- What the out-parameters of the exported calls hold afterwards. The documents decide the values of an accepted call; what a refusal leaves, and the tier of a
-- key that is not listed, are ours to say: lookups, trail and salvage leave what stood there, the view gives an empty stretch. (What a refused opening leaves of its record is
-- `sale_left`, of outcome.)
use Rattle.std.specs.Prelude.{ℕ, ◌*◌, ◌≡◌, refl, Bool, cond, true, false, eqb, take, drop, Result, Ok, Err}
use Rattle.std.proofs.Common.{sym, ◌∙◌}
use Rattle.std.proofs.Math.Path.{ap}
use mathlib.Core.List.{List, []}
use Rattle.std.proofs.Math.ListN.{get_or}
use Rattle.refusals.specs.Refusal.{done}
use Rattle.refusals.specs.declared.Refusal.{Refusal}
use Rattle.refusals.specs.Answer.{number}
use Rattle.layout.specs.Layout.{slots_of, stash_count, stash_at, place_width}
use Rattle.layout.specs.Answers.{lookup_values, view_refusal, view_of}
use Rattle.outcome.specs.Trail.{values, TrailOutcome, trail_outcome}
use Rattle.survivors.specs.Salvage.{SalvageOutcome, salvage_outcome}
use Rattle.survivors.specs.Salvage as Salvage
use Rattle.stolen.specs.Answers.{stolen_lookup_refusal, stolen_lookup_values}
use Rattle.stolen.specs.Answers as Stolen

-- the values of a lookup, 1 and the tier or 0, each in its place; where there is none, what stood there before
unfoldable pub listed_out : List ℕ → List ℕ → ℕ → ℕ → ℕ
listed_out tabulation ws key old = get_or (lookup_values tabulation ws key) 0 old

unfoldable pub tier_out : List ℕ → List ℕ → ℕ → ℕ → ℕ
tier_out tabulation ws key old = get_or (lookup_values tabulation ws key) 1 old

-- where the view begins and how many words it has; 0 and 0 when it is refused
unfoldable pub offset_out : List ℕ → ℕ
offset_out ws = cond (eqb (view_refusal ws) done) (stash_at (slots_of ws)) 0

unfoldable pub length_out : List ℕ → ℕ
length_out ws = cond (eqb (view_refusal ws) done) (place_width * stash_count ws) 0

-- how many keys a trail has; refused, what stood there before
unfoldable pub count_out : List ℕ → List ℕ → List ℕ → ℕ → List ℕ → ℕ → ℕ
count_out tabulation ws scratch key sheet old = get_or (trail_outcome tabulation ws scratch key sheet).values 0 old

-- how many numbers a salvage lost; refused, what stood there before
unfoldable pub lost_out : List ℕ → List ℕ → List ℕ → List ℕ → ℕ → ℕ
lost_out tabulation ws target scratch old = get_or (salvage_outcome tabulation ws target scratch).values 0 old

-- whether a key is reported stolen; refused, what stood there before
unfoldable pub reported_out : List ℕ → List ℕ → ℕ → ℕ → ℕ → ℕ
reported_out tabulation ws station key old = get_or (stolen_lookup_values tabulation ws station key) 0 old

-- The laws: offset and length name the very words that the view is
pub stretch : (ws : List ℕ) → take (length_out ws) (drop (offset_out ws) ws) ≡ view_of ws
unfolding offset_out length_out view_of
stretch ws = go (eqb (view_refusal ws) done)
  where
    go : (t : Bool) → take (cond t (place_width * stash_count ws) 0) (drop (cond t (stash_at (slots_of ws)) 0) ws)
        ≡ cond t (take (place_width * stash_count ws) (drop (stash_at (slots_of ws)) ws)) []
    go true = refl
    go false = refl

-- what the values of an answer say of the out-parameters
module _ (tabulation ws : List ℕ) (key old : ℕ) {vs : List ℕ} (e : vs ≡ lookup_values tabulation ws key) where
  pub listed_value : get_or vs 0 old ≡ listed_out tabulation ws key old
  unfolding listed_out
  listed_value = ap (λ (l : List ℕ). get_or l 0 old) e

  pub tier_value : get_or vs 1 old ≡ tier_out tabulation ws key old
  unfolding tier_out
  tier_value = ap (λ (l : List ℕ). get_or l 1 old) e

-- what is handed on of a trail's answer f, which was found to be g
pub handed_trail : (tabulation ws scratch : List ℕ) (key : ℕ) (sheet : List ℕ) (old : ℕ) {us left new : List ℕ} {f g : Result ℕ Refusal} → f ≡ g
    → record { number = number f; values = values f; words = us; scratch = left; trail = new } ≡ trail_outcome tabulation ws scratch key sheet
    → let o = trail_outcome tabulation ws scratch key sheet in
    (number g ≡ o.number)
    × ((left ≡ o.scratch) × ((new ≡ o.trail) × (get_or (values g) 0 old ≡ count_out tabulation ws scratch key sheet old)))
unfolding count_out
handed_trail tabulation ws scratch key sheet old q e = (
  ap number (sym q) ∙ ap (λ (o : TrailOutcome). o.number) e,
  (
    ap (λ (o : TrailOutcome). o.scratch) e,
    (ap (λ (o : TrailOutcome). o.trail) e, ap (λ (t : Result ℕ Refusal). get_or (values t) 0 old) (sym q) ∙ ap (λ (o : TrailOutcome). get_or o.values 0 old) e),
  ),
)

-- what is handed on of a salvage's answer f, which was found to be g
pub handed_salvage : (tabulation ws target scratch : List ℕ) (old : ℕ) {us new left : List ℕ} {f g : Result ℕ Refusal} → f ≡ g
    → record { number = number f; values = Salvage.values f; words = us; target = new; scratch = left }
    ≡ salvage_outcome tabulation ws target scratch
    → let o = salvage_outcome tabulation ws target scratch in
    (number g ≡ o.number)
    × ((new ≡ o.target) × ((left ≡ o.scratch)
    × (get_or (Salvage.values g) 0 old ≡ lost_out tabulation ws target scratch old)))
unfolding lost_out
handed_salvage tabulation ws target scratch old q e = (
  ap number (sym q) ∙ ap (λ (o : SalvageOutcome). o.number) e,
  (
    ap (λ (o : SalvageOutcome). o.target) e,
    (
      ap (λ (o : SalvageOutcome). o.scratch) e,
      ap (λ (t : Result ℕ Refusal). get_or (Salvage.values t) 0 old) (sym q)
          ∙ ap (λ (o : SalvageOutcome). get_or o.values 0 old) e,
    ),
  ),
)

-- what is handed on of a lookup's answer f, which was found to be g
pub handed_reported : (tabulation ws : List ℕ) (station key old : ℕ) {f g : Result Bool Refusal} → f ≡ g
    → (number f ≡ stolen_lookup_refusal tabulation ws station key)
    × (Stolen.values f ≡ stolen_lookup_values tabulation ws station key)
    → (number g ≡ stolen_lookup_refusal tabulation ws station key)
    × (get_or (Stolen.values g) 0 old ≡ reported_out tabulation ws station key old)
unfolding reported_out
handed_reported tabulation ws station key old q e =
    (sym (ap number q) ∙ e.0, ap (λ (l : List ℕ). get_or l 0 old) (sym (ap Stolen.values q) ∙ e.1))
