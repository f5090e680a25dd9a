-- The laws of what specs/Reissued.antt defines.
use Prim.Native.Nat.{ℕ, zero, suc, ◌+◌, ◌*◌, ◌-◌, ◌<◌}
use Rattle.std.specs.Prelude.{◌≡◌, Bool, true, cond, eqb, length, take, drop, replicate}
use Rattle.std.proofs.Math.Path.{refl}
use Rattle.std.proofs.Common.{sym, ◌∙◌, ap, inl, inr, arith, eqb-true, eq-eqb, ne_eqb}
use mathlib.Core.List.Memᴰ.{head as here}
use mathlib.Core.List.Memᴰ.{tail as there}
use mathlib.Core.List.{List, [], ◌∷◌, ◌++◌, map, map-append, map-map, map-id, Memᴰ as In}
use Rattle.std.proofs.Math.ListN.{length-map}
use Rattle.basics.proofs.Tests.{eq?}
use Rattle.basics.specs.Sets.{keep, first, without}
use Rattle.basics.proofs.Sets.{keep_in, keep_test, in_keep, first_in, out_in, out_ne, in_out, asc_out, asc_ext}
use Rattle.basics.proofs.Lists.{keep_none, from_map, in_map, asc_map, map_same, map_zeros}
use Rattle.ordered.specs.Keys.{with_key}
use Rattle.ordered.proofs.Place.{with_cases, with_here, with_there, asc_with}
use Rattle.cuckoo.specs.Graph.{stash, slot_key, slot_next}
use Rattle.cuckoo.specs.Renaming.{Renames}
use Rattle.cuckoo.proofs.Renaming.{stash_map, slot_key_map, slot_next_map}
use Rattle.hashing.specs.Hash.{first_part}
use Rattle.hashing.proofs.Issues.{not_blank_iff, issues_slots}
use Rattle.hashing.specs.Slots.{slot_0, slot_1}
use Rattle.hashing.specs.Stations.{Moved}
use Rattle.layout.specs.Entries.{Entry, keys_of}
use Rattle.layout.specs.Layout.{Params, ValidKeys, OneIssue, ValidSet, family, fits, fits_by, image}
use Rattle.layout.proofs.Issues.{order_parts}
use Rattle.layout.specs.Bare.{key_slots, key_image, bare, slot_0_01, slot_1_01, old_0, old_1}
use Rattle.layout.proofs.Bare.{bare_image, bare_old}
use Rattle.layout.specs.Reissued.{renumbered, Reissues, instead, Issued, issue_in}

-- where keys are renamed, larger to larger, and keep their slots, document 01's words are renumbered
module _ {f a b a' b' : ℕ → ℕ} {T : List ℕ} (g : Renames f a b a' b' T) where
  slots_map : (v n : ℕ) → key_slots a b (map f T) v n ≡ map f (key_slots a' b' T v n)
  unfolding key_slots
  slots_map v zero = refl
  slots_map v (suc n) = rw (slot_key_map g v, slot_next_map g v, slots_map (suc v) n)

  key_image_map : (r s : ℕ) → key_image a b r s (map f T) ≡ renumbered f (key_image a' b' r s T)
  key_image_map r s =
      let rest : List ℕ = replicate (s - length (stash a' b' T)) 0 in
      rw (slots_map 0 (r + r), stash_map g, length-map T f, length-map (stash a' b' T) f, map-append f (key_slots a' b' T 0 (r + r)) (stash a' b' T ++ rest))
      (rw (map-append f (stash a' b' T) rest, map_zeros f g.no_key (s - length (stash a' b' T))))

-- "A reissued card is the same card": where keys of a set are issued anew, the set fits as it did,
module _ (P : Params) {S : List ℕ} (valid : ValidKeys S) (one : OneIssue S) {f : ℕ → ℕ} (h : Reissues f S) where
  reissue_renames : Renames f (slot_0 (family P)) (slot_1 (family P)) (slot_0 (family P)) (slot_1 (family P)) S
  reissue_renames = record {
    no_key = h.no_key;
    up = λ c d i j l. elim i [
      | here e ↦ omega (arith, h.same_part d j, (not_blank_iff d).0 (valid.none_blank d j), h.no_key, ap f e)
      | there k ↦ omega (arith, h.same_part c k, h.same_part d j, (order_parts one c d k j).0 l)
    ];
    at_0 = λ c i. (issues_slots (family P) (f c) c (h.same_part c i)).0;
    at_1 = λ c i. (issues_slots (family P) (f c) c (h.same_part c i)).1;
  }

  pub reissued_fits : fits P (map f S) ≡ fits P S
  unfolding fits fits_by
  reissued_fits = rw (stash_map reissue_renames, length-map (stash (slot_0 (family P)) (slot_1 (family P)) S) f)

-- and every word is what it was, with the new number in the place of the old one: each key sits where it sat. (Of words without tiers and station: a key's tier
-- goes with it.)
pub reissued_image : (P : Params) {L : List Entry} (M : List Entry) {f : ℕ → ℕ} → ValidSet L → Reissues f (keys_of L) → keys_of M ≡ map f (keys_of L)
    → fits P (keys_of L) ≡ true → bare (image P M) ≡ renumbered f (bare (image P L))
reissued_image P {L} M {f} valid h k e =
    let same = ap (fits P) k ∙ reissued_fits P valid.keys valid.issues h in
    bare_image P M (same ∙ e) ∙ (rw (k, bare_image P L e) (key_image_map (reissue_renames P valid.keys valid.issues h) P.slots P.places))

module _ {S : List ℕ} (valid : ValidKeys S) (one : OneIssue S) {c : ℕ} (d : ℕ) (i : In c S) (q : first_part d ≡ first_part c) where
  pub instead_reissues : Reissues (instead c d) S
  instead_reissues = record {
    no_key = rw (ne_eqb 0 c (λ e. omega (arith, (not_blank_iff c).0 (valid.none_blank c i))));
    same_part = λ x j. elim (eq? x c) [ inl e ↦ rw (eq-eqb x c e) (q ∙ ap first_part (sym e)) | inr n ↦ rw (ne_eqb x c n) ];
  }

  pub instead_is : with_key d (without c S) ≡ map (instead c d) S
  instead_is = asc_ext (with_key d (without c S)) (map (instead c d) S) (asc_with d (asc_out c valid.asc))
      (asc_map (instead c d) valid.asc (λ x y j k l. rises x y j k l))
      (λ y j. elim (with_cases d (without c S) j) [
        | inl e ↦ let k = in_map (instead c d) i in rw e (rw taken at k)
        | inr k ↦
            let n : y ≡ c → ⊥ = λ e. out_ne c S k (sym e) in
            rw (left y n) at (in_map (instead c d) (out_in c S k))
      ])
      (λ y j.
      let r = from_map (instead c d) S j in
      elim (eq? r.0 c) [
        | inl e ↦ rw (r.1.1, ap (instead c d) e, taken) (with_here d (without c S))
        | inr n ↦ rw (r.1.1, left r.0 n) (with_there d (without c S) (in_out c S (λ e. n (sym e)) r.1.0))
      ])
    where
      taken : instead c d c ≡ d
      taken = rw (eq-eqb c c refl)

      left : (x : ℕ) → (x ≡ c → ⊥) → instead c d x ≡ x
      left x n = rw (ne_eqb x c n)

      rises : (x y : ℕ) → In x S → In y S → x < y → instead c d x < instead c d y
      rises x y j k l =
          let h = instead_reissues in
          omega (arith, h.same_part x j, h.same_part y k, (order_parts one x y j k).0 l)

-- Issues of first parts are such a renaming: they rise with their first parts.
issued_renames : (old : List ℕ) (r : ℕ) {f : ℕ → ℕ} {T : List ℕ} → Issued f T
    → Renames f (old_0 old r) (old_1 old r) (slot_0_01 old r) (slot_1_01 old r) T
issued_renames old r {f} {T} h = record {
  no_key = h.no_part;
  up = λ c d i j l. elim i [
    | here e ↦ omega (arith, h.issue_of d j, h.no_part, ap f e)
    | there k ↦ omega (arith, h.issue_of c k, h.issue_of d j)
  ];
  at_0 = λ c i. ap (slot_0_01 old r) (h.issue_of c i);
  at_1 = λ c i. ap (slot_1_01 old r) (h.issue_of c i);
}

-- "The places come from the number divided by ten": with a tabulation of document 01, moved, the words of a set, tiers and station aside, are document 01's words
-- of its first parts, renumbered by its issues.
pub issued_image : (P : Params) (L : List Entry) {old : List ℕ} {f : ℕ → ℕ} {T : List ℕ} → Moved old P.tabulation → Issued f T → keys_of L ≡ map f T
    → fits P (keys_of L) ≡ true → bare (image P L) ≡ renumbered f (key_image (slot_0_01 old P.slots) (slot_1_01 old P.slots) P.slots P.places T)
issued_image P L {old} {f} {T} m h k e =
    bare_old P L m e ∙ (rw k (key_image_map (issued_renames old P.slots h) P.slots P.places))

-- "every card multiplied by ten": each gets the issue 0.
pub tenfold : (T : List ℕ) → Issued (λ part. 10 * part) T
tenfold T = record { no_part = refl; issue_of = λ part i. omega arith }

module _ {S : List ℕ} (valid : ValidKeys S) (one : OneIssue S) where
  issue_there : (c : ℕ) → In c S → In (issue_in S (first_part c)) S × (first_part (issue_in S (first_part c)) ≡ first_part c)
  issue_there c i =
      let p : ℕ → Bool = λ d. eqb (first_part d) (first_part c) in
      let k = first_in (keep p S) (in_keep p S (eq-eqb (first_part c) (first_part c) refl) i) in
      (keep_in p S k, eqb-true _ _ (keep_test p S k))

  issue_is : (c : ℕ) → In c S → issue_in S (first_part c) ≡ c
  issue_is c i = let t = issue_there c i in one (issue_in S (first_part c)) c t.0 i t.1

  pub set_issued : Issued (issue_in S) (map first_part S)
  set_issued = record {
    no_part = rw (keep_none (λ (c : ℕ). eqb (first_part c) 0) S (λ c i.
        ne_eqb (first_part c) 0 (λ e. omega (arith, (not_blank_iff c).0 (valid.none_blank c i)))));
    issue_of = λ part i. let r = from_map first_part S i in rw r.1.1 (issue_there r.0 r.1.0).1;
  }

  pub set_issues : S ≡ map (issue_in S) (map first_part S)
  set_issues =
      sym (map-map (issue_in S) first_part S ∙ map_same (λ (c : ℕ). issue_in S (first_part c)) (λ (c : ℕ). c) S issue_is ∙ map-id S)
