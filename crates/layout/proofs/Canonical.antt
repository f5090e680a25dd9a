-- The laws of what specs/Canonical.antt defines.
use Rattle.std.specs.Prelude.{ℕ, suc, ◌+◌, ◌≤◌, ◌<◌, ◌≡◌, refl, Bool, true, ◌&&◌, ◌↔◌, ltb, get_or}
use Rattle.std.proofs.Common.{sym, ◌∙◌, ap, true≢false, arith}
use Rattle.std.proofs.Math.Bool.{false, not}
use Rattle.std.proofs.Math.Logic.{inl, inr}
use mathlib.Core.List.{List, Memᴰ as In}
use borrow.Author.Tests.{ltb-true, ltb-false, not-true}
use Rattle.basics.specs.Tests.{test}
use Rattle.basics.proofs.Tests.{and_true}
use Rattle.basics.specs.Sets.{any}
use Rattle.basics.proofs.Sets.{any_true, true_any}
use Rattle.basics.specs.Lists.{same}
use Rattle.basics.proofs.Lists.{same_true, true_same}
use Rattle.layout.specs.Entries.{Entry, max_tier, keys_of}
use Rattle.layout.proofs.Entries.{keys_tiered, key_in, tiered_in, in_tiered}
use Rattle.hashing.specs.Hash.{first_part, blank}
use Rattle.hashing.proofs.Issues.{not_blank_iff}
use Rattle.layout.specs.Layout.{Params, ValidKeys, ValidSet, OneIssue, one_issue, key_at, slots_of, params_of, params_in_range, shaped, fits, image, keys_in, tier_in, set_in}
use Rattle.layout.proofs.Shape.{shape}
use Rattle.layout.proofs.Image.{image_shaped, image_params}
use Rattle.layout.proofs.IssuesAfter.{one_issue_iff}
use Rattle.layout.specs.Standing.{KeyWord}
use Rattle.layout.proofs.Standing.{keys_in_valid, keys_in_words, image_key_in, image_next_in}
use Rattle.layout.proofs.StandingAfter.{keys_in_image, set_in_image}
use Rattle.layout.specs.Canonical.{canonical, ImageOf, P}

-- an image has one set

module _ {P : Params} {L : List Entry} {ws : List ℕ} (h : ImageOf P L ws) where
  -- the words say the parameters
  pub image_of_params : params_of P.tabulation ws ≡ P
  image_of_params = rw h.is (image_params P L)

  -- and the set: its keys, and with their tiers
  pub image_of_keys : 0 < P.slots → keys_in ws ≡ keys_of L
  image_of_keys some = rw h.is (keys_in_image P L h.fit h.valid.keys some)

  pub image_of_set : 0 < P.slots → set_in P.tabulation ws ≡ L
  image_of_set some = rw h.is (set_in_image P L h.fit h.valid.keys some)

-- Differing sets have differing images, also with other r, s and station: "Two lists are now equal only when cards and tiers agree".
pub image_one : {P P' : Params} {L L' : List Entry} {ws : List ℕ} → ImageOf P L ws → ImageOf P' L' ws → P.tabulation ≡ P'.tabulation → 0 < P.slots
    → (P ≡ P') × (L ≡ L')
image_one {P} {P'} {L} {L'} {ws} h h' t some =
    let p : P ≡ P' = sym (image_of_params h) ∙ ap (λ (t : List ℕ). params_of t ws) t ∙ image_of_params h' in (
      p,
      sym (image_of_set h some) ∙ ap (λ (t : List ℕ). set_in t ws) t ∙ image_of_set h' (omega (arith, ap (λ (Q : Params). Q.slots) p)),
    )

pub image_injective : (P : Params) (L L' : List Entry) → 0 < P.slots → ValidSet L → ValidSet L' → fits P (keys_of L) ≡ true → fits P (keys_of L') ≡ true
    → image P L ≡ image P L' → L ≡ L'
image_injective P L L' some valid valid' e e' q =
    let h : ImageOf P L (image P L) = record { valid = valid; fit = e; is = refl } in
    let h' : ImageOf P L' (image P L) = record { valid = valid'; fit = e'; is = q } in
    (image_one h h' refl some).1

-- the computation decides

module _ (tabulation ws : List ℕ) where
  abbrev large : ℕ → Bool
  large c = ltb max_tier (tier_in tabulation ws c)

  set_keys : keys_of (set_in tabulation ws) ≡ keys_in ws
  set_keys = keys_tiered (tier_in tabulation ws) (keys_in ws)

  pub canonical_true : canonical tabulation ws ≡ true → ImageOf (P tabulation ws) (set_in tabulation ws) ws
  unfolding canonical
  canonical_true e =
      let q = and_true (one_issue (keys_in ws) && fits (P tabulation ws) (keys_in ws) && not (any large (keys_in ws))) (same ws (image (P tabulation ws) (set_in tabulation ws))) e in
      let p = and_true (one_issue (keys_in ws) && fits (P tabulation ws) (keys_in ws)) (not (any large (keys_in ws))) q.0 in
      let o = and_true (one_issue (keys_in ws)) (fits (P tabulation ws) (keys_in ws)) p.0 in
      record {
        valid = record {
          keys = rw set_keys (keys_in_valid ws);
          issues = rw set_keys ((one_issue_iff (keys_in ws)).0 o.0);
          tiers = λ x i.
              let t = tiered_in (tier_in tabulation ws) (keys_in ws) i in
              let k : In x.key (keys_in ws) = rw set_keys at (key_in (set_in tabulation ws) i) in
              elim (test (large x.key)) [
                | inl l ↦ absurd (true≢false (sym (true_any large k l) ∙ not-true _ p.1))
                | inr l ↦ rw t (ltb-false max_tier (tier_in tabulation ws x.key) l)
              ];
        };
        fit = rw set_keys o.1;
        is = same_true ws (image (P tabulation ws) (set_in tabulation ws)) q.1;
      }

  true_canonical : ImageOf (P tabulation ws) (set_in tabulation ws) ws → canonical tabulation ws ≡ true
  unfolding canonical
  true_canonical h =
      let fit = rw set_keys at h.fit in
      let one : OneIssue (keys_in ws) = rw set_keys at h.valid.issues in
      let small : any large (keys_in ws) ≡ false = elim (test (any large (keys_in ws))) [
        | inl t ↦
            let r = any_true large (keys_in ws) t in
            let i = in_tiered (tier_in tabulation ws) (keys_in ws) r.1 in
            absurd (omega (arith, h.valid.tiers _ i, ltb-true max_tier (tier_in tabulation ws r.0) r.2))
        | inr f ↦ f
      ] in
      rw ((one_issue_iff (keys_in ws)).1 one, fit, small) (true_same ws (image (P tabulation ws) (set_in tabulation ws)) h.is)

  module _ (formed : shaped ws ≡ true) where
    -- If the words are the image of some set, with whatever r, s and station, then these are those in the header, and the set is that of the keys that stand.
    pub image_of_canonical : {Q : Params} {L : List Entry} → Q.tabulation ≡ tabulation → ImageOf Q L ws
        → (Q ≡ (P tabulation ws)) × (L ≡ set_in tabulation ws) × (canonical tabulation ws ≡ true)
    image_of_canonical {Q} {L} t h =
        let p : Q ≡ (P tabulation ws) = sym (image_of_params h) ∙ ap (λ (t : List ℕ). params_of t ws) t in
        let r : Q.slots ≡ slots_of ws = ap (λ (R : Params). R.slots) p in
        let some : 0 < Q.slots = omega (arith, (shape ws formed).sizes.has_slots) in
        let s : L ≡ set_in tabulation ws = sym (image_of_set h some) ∙ ap (λ (t : List ℕ). set_in t ws) t in
        (p, s, true_canonical (rw (p, s) at h))

    -- Words of the right shape pass exactly if they are the image of a set that fits;
    pub canonical_iff : (canonical tabulation ws ≡ true) ↔ ((L : List Entry) × ImageOf (P tabulation ws) L ws)
    canonical_iff = (λ e. (set_in tabulation ws, canonical_true e), λ h. (image_of_canonical refl h.1).2)

    -- they are refused, "the list is the canonical image of no set", exactly if they are the image of none, with whatever r, s and station.
    pub not_canonical_iff : (canonical tabulation ws ≡ false) ↔ ((Q : Params) (L : List Entry) → Q.tabulation ≡ tabulation → ImageOf Q L ws → ⊥)
    not_canonical_iff = (
      λ e Q L t h. true≢false (sym (image_of_canonical t h).2 ∙ e),
      λ n. elim (test (canonical tabulation ws)) [ inl e ↦ absurd (n (P tabulation ws) (set_in tabulation ws) refl (canonical_true e)) | inr e ↦ e ],
    )

-- "Each card gets a tier, 0 to 7": no canonical words have another.
pub canonical_tier : (tabulation ws : List ℕ) → canonical tabulation ws ≡ true → (e : Entry) → In e (set_in tabulation ws) → e.tier ≤ 7
canonical_tier tabulation ws c e i = (canonical_true tabulation ws c).valid.tiers e i

-- "a set has at most one issue of each such first part": where two stand in the words, however neatly, these are the image of no set.
pub two_issues : (tabulation ws : List ℕ) (c d : ℕ) → In c (keys_in ws) → In d (keys_in ws) → first_part c ≡ first_part d → (c ≡ d → ⊥)
    → canonical tabulation ws ≡ false
two_issues tabulation ws c d i j q n = elim (test (canonical tabulation ws)) [
  | inl e ↦
      let one : OneIssue (keys_in ws) = rw (set_keys tabulation ws) at (canonical_true tabulation ws e).valid.issues in
      absurd (n (one c d i j q))
  | inr e ↦ e
]

-- So is the image, word for word, that a set with two issues of one first part would have: keys and stash would fit, and the graph finds nothing wrong.
pub neat_issues : (P : Params) (L : List Entry) → ValidKeys (keys_of L) → fits P (keys_of L) ≡ true → 0 < P.slots → (OneIssue (keys_of L) → ⊥)
    → canonical P.tabulation (image P L) ≡ false
neat_issues P L valid fit some two = elim (test (canonical P.tabulation (image P L))) [
  | inl e ↦
      let one = (canonical_true P.tabulation (image P L) e).valid.issues in
      absurd (two (rw (set_in_image P L fit valid some) at one))
  | inr e ↦ e
]

-- "A blank card is any number below 10": where one of 1 to 9 stands as a key, these are the image of no set;
set_not_below : {P : Params} {L : List Entry} {ws : List ℕ} → ImageOf P L ws → {c : ℕ} → In c (keys_of L) → c < 10 → ⊥
set_not_below h {c} i high = omega (arith, (not_blank_iff c).0 (h.valid.keys.none_blank c i))

pub below_ten : (tabulation ws : List ℕ) (c : ℕ) → KeyWord ws c → 0 < c → c < 10 → canonical tabulation ws ≡ false
below_ten tabulation ws c k low high = elim (test (canonical tabulation ws)) [
  | inl e ↦
      let h = canonical_true tabulation ws e in
      let i = image_key_in (params_of tabulation ws) (set_in tabulation ws) h.fit h.valid.keys (rw h.is at k) (λ q. omega arith) in
      absurd (set_not_below h i high)
  | inr e ↦ e
]

-- and so where one stands as a next number.
pub next_below_ten : (tabulation ws : List ℕ) (v c : ℕ) → v < slots_of ws + slots_of ws → get_or ws (suc (key_at v)) 0 ≡ c → 0 < c → c < 10
    → canonical tabulation ws ≡ false
next_below_ten tabulation ws v c l k low high = elim (test (canonical tabulation ws)) [
  | inl e ↦
      let h = canonical_true tabulation ws e in
      let q : get_or (image (params_of tabulation ws) (set_in tabulation ws)) (suc (key_at v)) 0 ≡ c = ap (λ (us : List ℕ). get_or us (suc (key_at v)) 0) (sym h.is) ∙ k in
      let i = image_next_in (params_of tabulation ws) (set_in tabulation ws) h.fit h.valid.keys v l q (λ z. omega arith) in
      absurd (set_not_below h i high)
  | inr e ↦ e
]

-- every image passes
pub image_canonical : (P : Params) (L : List Entry) → params_in_range P.slots P.places P.station ≡ true → ValidSet L → fits P (keys_of L) ≡ true
    → canonical P.tabulation (image P L) ≡ true
image_canonical P L range valid e =
    (image_of_canonical P.tabulation (image P L) (image_shaped P L range e) refl (record { valid = valid; fit = e; is = refl })).2
