-- From what was gathered and chosen to the outcome. Assumes nothing.
use Rattle.std.specs.Prelude.{ℕ, ◌+◌, ◌-◌, ◌*◌, ◌≤◌, ◌<◌, ◌≡◌, refl, Bool, false, not, ◌&&◌, List, [], ◌∷◌, map, take, replicate, Result, Ok, Err}
use Rattle.std.proofs.Common.{sym, ◌∙◌, inl, inr, arith, ne_eqb}
use Rattle.std.proofs.Math.Bool.{true}
use Rattle.std.proofs.Math.Dec.{eqb}
use borrow.Rule.Slice.PartMut.{mid_of, put_mid, same_len_mid}
use Rattle.std.proofs.Math.ListN.{length}
use Rattle.basics.specs.Tests.{test}
use Rattle.basics.specs.Sets.{keep, any}
use Rattle.basics.proofs.Sets.{length_keep}
use Rattle.refusals.specs.Refusal.{done, none_counts, first_refusal}
use Rattle.refusals.specs.declared.Refusal.{Refusal}
use Rattle.refusals.specs.declared.Refusal.TheVariants.{NoneCounts}
use Rattle.refusals.specs.Answer.{number, number_of}
use Rattle.refusals.proofs.Answer as Answer
use Rattle.refusals.proofs.Refusals.{front_none}
use Rattle.hashing.specs.Hash.{Hashing}
use Rattle.layout.specs.declared.Header.{Header}
use Rattle.layout.specs.Entries.{keys_of, tiered}
use Rattle.layout.specs.Layout.{params_of, header_of, with_keys, family_of, slots_of, places_of, station_of}
use Rattle.layout.specs.Layout.{fits, image, spots, spot_key}
use Rattle.layout.proofs.Shape.{shape}
use Rattle.layout.proofs.Shape.{same_header}
use Rattle.ordered.specs.Keys.{sorted, distinct}
use Rattle.collect.specs.Collect.{collected}
use Rattle.scratch_set.specs.Edges.{Lined, lined_buildable}
use Rattle.gateway.specs.Committing.{Committable, Committed}
use Rattle.survivors.specs.Salvage.{counts, counting, standing, standing_keys, survivors, occupied, lost_in}
use Rattle.survivors.specs.Salvage.{values}
use Rattle.survivors.specs.Salvage.{area_refusals, nothing_counts, salvage_refusal, salvage_outcome}
use Rattle.survivors.proofs.Spots.{counting_few}
use Rattle.survivors.proofs.Surviving.{standing_valid, survivors_fit}
use Rattle.survivors.specs.Laws.{Salvable}
use Rattle.survivors.proofs.Laws.{salvage_refused}
use Rattle.survivors.proofs.Laws.{none_salvable, salvage_number, salvage_done, salvage_told}
use Rattle.survivors.proofs.Laws.{salvage_untold, salvage_area}
use Rattle.survivors.proofs.LawsAfter.{salvage_passed}
use Rattle.survivors.proofs.Looked.{occupied_split}
use Rattle.salvage.specs.Chosen.{candidates, standing_tier, CandidatesStand, candidates_few}

-- The m keys that count stand in scratch behind word 0, in word order, and h is the heading of the words.
pub record Gathered (tabulation ws target scratch : List ℕ) (h : Header) (m : ℕ) : Type 0 where
  pub salvable : Salvable tabulation ws (length target) (length scratch)
  pub heading : h ≡ header_of ws
  pub count : m ≡ length (counting tabulation ws)
  pub front : take (m + 1) scratch ≡ 0 ∷ map spot_key (counting tabulation ws)

-- What is told where 1 to 3 passed, and the target: 15, and it stays; or how many are lost, and the survivors' image.
pub data Told (tabulation ws target : List ℕ) (t : Result ℕ Refusal) (us : List ℕ) : Type 0 where
  hopeless : nothing_counts tabulation ws ≡ true → t ≡ Err NoneCounts → us ≡ target
      → Told tabulation ws target t us
  saved : nothing_counts tabulation ws ≡ false → t ≡ Ok (lost_in tabulation ws)
      → us ≡ image (params_of tabulation ws) (survivors tabulation ws) → Told tabulation ws target t us

-- what the call tells and leaves but for scratch
abbrev pub ToldOfSalvage : (tabulation ws target scratch : List ℕ) → Result ℕ Refusal → List ℕ → Type 0
ToldOfSalvage tabulation ws target scratch t us =
    let o = salvage_outcome tabulation ws target scratch in
    (number t ≡ o.number) × ((values t ≡ o.values) × (us ≡ o.target))

-- The laws. 15 by the two numbers: how many spots are occupied, and how many count.
any_counted : {A : Type 0} (p : A → Bool) (R : List A) → any p R ≡ not (eqb (length (keep p R)) 0)
any_counted p [] = refl
any_counted p (x ∷ R) = elim (test (p x)) [
  | inl t ↦ rw (t, ne_eqb (length (x ∷ keep p R)) 0 (λ z. omega arith))
  | inr t ↦ rw t (any_counted p R)
]

not_not : (b : Bool) → not (not b) ≡ b
not_not true = refl
not_not false = refl

pub hopeless_test : (tabulation ws : List ℕ) {f m : ℕ} → f ≡ length (keep occupied (spots ws))
    → m ≡ length (counting tabulation ws) → nothing_counts tabulation ws ≡ (not (eqb f 0) && eqb m 0)
unfolding counting
hopeless_test tabulation ws e g =
    let F = family_of tabulation ws in
    rw (
      any_counted occupied (spots ws),
      any_counted (counts F) (spots ws),
      e,
      g,
      not_not (eqb (length (keep (counts F) (spots ws))) 0),
    )

-- how many are lost
pub lost_left : (tabulation ws : List ℕ) {f m : ℕ} → f ≡ length (keep occupied (spots ws))
    → m ≡ length (counting tabulation ws) → (m ≤ f) × (f - m ≡ lost_in tabulation ws)
lost_left tabulation ws e g = (omega (arith, occupied_split tabulation ws), omega (arith, occupied_split tabulation ws))

-- words that passed 1 to 3 can be hashed
pub salvable_hashing : {tabulation ws : List ℕ} {n m r station : ℕ} → Salvable tabulation ws n m → r ≡ slots_of ws
    → station ≡ station_of ws → Hashing tabulation r station
salvable_hashing {tabulation} {ws} h e d =
    let z = shape ws h.shape in
    record {
      full_length = h.full_length;
      has_slots = rw e z.sizes.has_slots;
      slots_bound = rw e z.sizes.slots_bound;
      station_bound = rw d z.station;
    }

-- The keys that count stand in scratch: they have room,
module _ {tabulation ws target scratch : List ℕ} {h : Header} {m : ℕ}
    (G : Gathered tabulation ws target scratch h m) where
  pub gathered_room : m < length scratch
  gathered_room =
      let z = shape ws G.salvable.shape in
      omega (arith, G.count, counting_few tabulation ws, G.salvable.room, z.sizes)

  -- and sorted, each once, they are the candidates;
  pub gathered_candidates : (ys : List ℕ) {k : ℕ} (same : length ys ≡ length (mid_of 1 (length scratch - 1) scratch))
      → k ≡ length (distinct (sorted (take m (mid_of 1 (length scratch - 1) scratch))))
      → take k ys ≡ distinct (sorted (take m (mid_of 1 (length scratch - 1) scratch)))
      → CandidatesStand tabulation ws (put_mid 1 (length scratch - 1) scratch ys) h.slots h.places h.station k
  unfolding candidates
  gathered_candidates ys {k} same c f =
      let s = same_header G.heading in
      let w = collected (map spot_key (counting tabulation ws)) scratch m gathered_room G.front ys k same c f in
      let long : length (put_mid 1 (length scratch - 1) scratch ys) ≡ length scratch =
      same_len_mid 1 (length scratch - 1) scratch ys same in
      record {
        ready = record {
          full_length = G.salvable.full_length;
          shape = G.salvable.shape;
          room = omega (arith, long, G.salvable.room);
        };
        slots = s.slots;
        places = s.places;
        stationed = s.station;
        count = w.1;
        front = w.0;
      }

-- no more are chosen than there are candidates
module _ {tabulation ws scratch : List ℕ} {r s station n : ℕ}
    (C : CandidatesStand tabulation ws scratch r s station n) where
  stay_few : length (standing_keys (counting tabulation ws)) ≤ length (candidates tabulation ws)
  unfolding candidates
  stay_few =
      length_keep (λ c. eqb (spot_key (standing (counting tabulation ws) c)) c) (candidates tabulation ws)

  pub chosen_few : {m : ℕ} → m ≡ length (standing_keys (counting tabulation ws)) → m ≤ 2 * slots_of ws + places_of ws
  chosen_few e = omega (arith, e, stay_few, candidates_few C)

-- The survivors stand in scratch, m of them, and are committed under the heading of the words with that number of keys:
-- "The survivors always fit", so what is written is their image.
module _ {tabulation ws scratch : List ℕ} {r s station n : ℕ} (C : CandidatesStand tabulation ws scratch r s station n)
    (target : List ℕ) (size : length target ≡ length ws) {m : ℕ} {mid : List ℕ} (same : length mid ≡ length scratch)
    (e : m ≡ length (standing_keys (counting tabulation ws)))
    (D : Lined (params_of tabulation ws) (standing_tier tabulation ws) (standing_keys (counting tabulation ws)) mid)
    {h g : Header} (q : h ≡ header_of ws) (k : g ≡ with_keys h m) where
  pub chosen_committable : Committable g target mid
  chosen_committable =
      let z = shape ws C.ready.shape in
      rw (k, q) (record {
        sizes = z.sizes;
        size = size ∙ z.size;
        buildable = rw e (lined_buildable D (omega (arith, same, C.ready.room, z.sizes)) z.sizes
            (omega (arith, e, chosen_few C e)));
      })

  pub chosen_committed : {a : ℕ} {us : List ℕ} → Committed g target mid a us
      → us ≡ image (params_of tabulation ws) (survivors tabulation ws)
  unfolding survivors
  chosen_committed c =
      let P = params_of tabulation ws in
      let S = standing_keys (counting tabulation ws) in
      let t = standing_tier tabulation ws in
      let w = (rw (k, q) at c).by tabulation t S (standing_valid tabulation ws) e D in
      let f : fits P (keys_of (tiered t S)) ≡ true = survivors_fit tabulation ws in
      w.1 ∙ (rw f)

-- What the call tells:
module _ (tabulation ws target scratch : List ℕ) where
  abbrev tests : List (ℕ × Bool)
  tests = area_refusals tabulation ws (length target) (length scratch)

  refused : (r : Refusal) → number_of r ≡ salvage_refusal tabulation ws (length target) (length scratch)
      → ToldOfSalvage tabulation ws target scratch (Err r) target
  refused r e =
      let a = e ∙ sym (salvage_number tabulation ws target scratch) in
      let b : (salvage_outcome tabulation ws target scratch).number ≡ done → ⊥ = λ q. Answer.refused r (a ∙ q) in (
        a,
        (sym (salvage_untold tabulation ws target scratch b), sym (salvage_refused tabulation ws target scratch b)),
      )

  -- 1, 2, 2 or 3;
  pub told_early : (r : Refusal) → number_of r ≡ first_refusal tests
      → ToldOfSalvage tabulation ws target scratch (Err r) target
  told_early r e =
      refused r (e ∙ sym (salvage_area tabulation ws (length target) (length scratch) (λ q. Answer.refused r (e ∙ q))))

  pub early_salvable : {n : ℕ} → n ≡ first_refusal tests → n ≡ 0
      → Salvable tabulation ws (length target) (length scratch)
  early_salvable e z =
      none_salvable tabulation ws (length target) (length scratch) (front_none tests [] (sym e ∙ z) refl)

  -- then 15, or how many are lost.
  pub told_set : Salvable tabulation ws (length target) (length scratch) → {t : Result ℕ Refusal} {us : List ℕ}
      → Told tabulation ws target t us → ToldOfSalvage tabulation ws target scratch t us
  told_set h {t} {us} (hopeless b e f) =
      let a : salvage_refusal tabulation ws (length target) (length scratch) ≡ none_counts =
      salvage_passed tabulation ws (length target) (length scratch) h ∙ (rw b) in
      rw (e, f) (refused NoneCounts (sym a))
  told_set h {t} {us} (saved b e f) =
      let a : (salvage_outcome tabulation ws target scratch).number ≡ done =
      salvage_number tabulation ws target scratch
      ∙ salvage_passed tabulation ws (length target) (length scratch) h ∙ (rw b) in
      rw (e, f) (
        sym a,
        (
          sym (salvage_told tabulation ws target scratch a),
          sym (salvage_done tabulation ws target scratch a),
        ),
      )

  -- and with scratch cleared that is its outcome
  pub told_cleared : (t : Result ℕ Refusal) {us sheet : List ℕ} → ToldOfSalvage tabulation ws target scratch t us
      → sheet ≡ replicate (length scratch) 0
      → record { number = number t; values = values t; words = ws; target = us; scratch = sheet }
      ≡ salvage_outcome tabulation ws target scratch
  unfolding salvage_outcome
  told_cleared t h e = rw (h.0, h.1.0, h.1.1, e)
