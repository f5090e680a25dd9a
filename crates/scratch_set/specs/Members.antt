-- A set in scratch, its keys and their edges: two columns that move together. Where a key stands in it, or another issue of it, its tier, and the set with a key
-- put in or taken out. The definitions come first: contracts cite them. Assumes nothing.
use Rattle.std.specs.Prelude.{ℕ, ◌+◌, ◌*◌, ◌-◌, ◌≤◌, ◌<◌, ◌≡◌, refl, Bool, true, false, cond, eqb, get_or, Option, Some, None}
use Rattle.std.proofs.Common.{sym, ◌∙◌, inl, inr, arith, eq-eqb, ne_eqb, take-take, drop-drop, drop_at, take-add, get_or-take, get_or-drop, length-take-le}
use Rattle.std.proofs.Math.Path.{ap}
use mathlib.Core.List.{List, [], ◌∷◌, ◌++◌, map, map-append, Memᴰ as In}
use Rattle.std.proofs.Math.Numerals.{add-one}
use Rattle.std.proofs.Math.ListN.{length, take, drop, length-drop}
use Rattle.std.proofs.lemmas.List.{take-append-le}
use Rattle.basics.specs.Tests.{test}
use Rattle.basics.proofs.Tests.{eq?}
use Rattle.basics.proofs.Tests.{zero_one}
use Rattle.basics.specs.Sets.{member, first, Asc, without}
use Rattle.basics.proofs.Sets.{member_in}
use Rattle.basics.proofs.Lists.{at_map, map_same, map_take, map_drop}
use Rattle.basics.proofs.Parts.{part_length}
use Rattle.ordered.specs.Keys.{lower_bound, with_key}
use Rattle.ordered.proofs.Place.{bound_le, bound_found, member_at, member_past, with_parts, without_parts, length_with, length_without}
use Rattle.ordered.specs.Shift.{shifted_in, shifted_out}
use Rattle.ordered.proofs.Shift.{shifted_in_column, shifted_out_column, shifted_in_length, shifted_out_length, shifted_in_behind, shifted_out_behind}
use Rattle.edges.specs.Edge.{tier_of_edge}
use Rattle.hashing.specs.Hash.{first_part, blank}
use Rattle.hashing.proofs.Issues.{not_blank_iff}
use Rattle.layout.specs.Layout.{Params, another_issue, OneIssue, family}
use Rattle.layout.proofs.IssuesAfter.{issue_before, issue_at, issue_nowhere}
use Rattle.layout.specs.Shape.{Sized}
use Rattle.layout.specs.Answers.{found}
use Rattle.build.specs.Scratch.{edges_at, used}
use Rattle.scratch_set.specs.Edges.{edge_with, edge_of, Lined, edge_tier}

-- the n keys from word 1 on
abbrev pub keys_at : ℕ → List ℕ → List ℕ
keys_at n scratch = take n (drop 1 scratch)

-- the tier of the key whose place is `at`: it stands in its edge
abbrev pub tier_placed : (r s at : ℕ) → List ℕ → ℕ
tier_placed r s at scratch = tier_of_edge (get_or scratch (edges_at r s + at) 0)

-- what a lookup gives of a key whose place is `at`: 1 and the tier, or 0
abbrev pub looked_in : (r s n at key : ℕ) → List ℕ → List ℕ
looked_in r s n at key scratch = cond (member key (keys_at n scratch)) (1 ∷ tier_placed r s at scratch ∷ []) (0 ∷ [])

-- n keys and their edges, with a key and its edge put in at a place, and with those at a place taken out
abbrev pub put_at : (r s n at key edge : ℕ) → List ℕ → List ℕ
put_at r s n at key edge scratch = shifted_in (shifted_in scratch (at + 1) (n + 1) key) (edges_at r s + at) (edges_at r s + n) edge

abbrev pub taken_out : (r s n at : ℕ) → List ℕ → List ℕ
taken_out r s n at scratch = shifted_out (shifted_out scratch (at + 1) (n + 1)) (edges_at r s + at) (edges_at r s + n)

-- The n keys behind word 0, which is 0, are one issue of each first part, and `at` is the place among them of a key that is not blank.
pub record KeyPlaced (scratch : List ℕ) (n at key : ℕ) : Type 0 where
  pub long : n < length scratch
  pub front : get_or scratch 0 0 ≡ 0
  pub asc : Asc (keys_at n scratch)
  pub issues : OneIssue (keys_at n scratch)
  pub place : at ≡ lower_bound (keys_at n scratch) key
  pub not_blank : blank key ≡ false

-- The laws. Where a key stands among n keys: they are lent to the search, and what stands at its rank says whether it is there.
pub key_read : (scratch : List ℕ) (n i : ℕ) → i < n → get_or scratch (i + 1) 0 ≡ get_or (keys_at n scratch) i 0
key_read scratch n i l =
    let e : i + 1 ≡ 1 + i = omega arith in
    rw (e, ← get_or-drop 1 scratch i 0, ← get_or-take n (drop 1 scratch) i 0 l)

module _ (scratch : List ℕ) (n : ℕ) (long : n < length scratch) where
  pub keys_lent : {e : ℕ} → e ≡ n + 1 → take (e - 1) (drop 1 scratch) ≡ keys_at n scratch
  keys_lent {e} q = let k : e - 1 ≡ n = omega arith in rw k

  pub keys_length : length (keys_at n scratch) ≡ n
  keys_length = part_length 1 n scratch (omega arith)

  module _ (key : ℕ) (asc : Asc (keys_at n scratch)) {at : ℕ} (q : at ≡ lower_bound (keys_at n scratch) key) where
    pub stands_at : at < n → eqb (get_or scratch (at + 1) 0) key ≡ member key (keys_at n scratch)
    stands_at l =
        rw (key_read scratch n at l) (rw (← q) at (member_at key (keys_at n scratch) asc (omega (arith, keys_length))))

    pub stands_nowhere : n ≤ at → false ≡ member key (keys_at n scratch)
    stands_nowhere l = member_past key (keys_at n scratch) asc (omega (arith, keys_length))

-- another issue of a key: before its place, or at it
module _ {scratch : List ℕ} {n at key : ℕ} (Q : KeyPlaced scratch n at key) where
  abbrev K : List ℕ
  K = keys_at n scratch

  pub placed_le : at ≤ n
  placed_le = omega (arith, Q.place, bound_le key K, keys_length scratch n Q.long)

  -- the first part of a key is none of word 0
  some_part : 0 < first_part key
  some_part = (not_blank_iff key).0 Q.not_blank

  before : 0 < at → get_or scratch at 0 ≡ get_or K (lower_bound K key - 1) 0
  before l =
      let e : at - 1 + 1 ≡ at = omega arith in
      ap (λ (i : ℕ). get_or scratch i 0) (sym e) ∙ key_read scratch n (at - 1) (omega (arith, placed_le)) ∙ ap (λ (i : ℕ). get_or K (i - 1) 0) Q.place

  here : at < n → get_or scratch (at + 1) 0 ≡ get_or K (lower_bound K key) 0
  here l = key_read scratch n at l ∙ ap (λ (i : ℕ). get_or K i 0) Q.place

  pub issue_below : first_part (get_or scratch at 0) ≡ first_part key → true ≡ another_issue key K
  issue_below q = elim (eq? at 0) [
    | inl z ↦ absurd (omega (arith, some_part, Q.front, rw z at q))
    | inr n ↦
        let l : 0 < at = omega (arith, n) in
        sym (issue_before key Q.asc (omega (arith, Q.place)) (ap first_part (sym (before l)) ∙ q))
  ]

  module _ (low : first_part (get_or scratch at 0) ≡ first_part key → ⊥) where
    not_below : 0 < lower_bound K key → first_part (get_or K (lower_bound K key - 1) 0) ≡ first_part key → ⊥
    not_below l q = low (ap first_part (before (omega (arith, Q.place))) ∙ q)

    pub issue_past : n ≤ at → false ≡ another_issue key K
    issue_past l =
        sym (issue_nowhere key Q.asc Q.issues not_below (λ m. absurd (omega (arith, Q.place, keys_length scratch n Q.long))))

    module _ (l : at < n) where
      pub issue_exact : get_or scratch (at + 1) 0 ≡ key → false ≡ another_issue key K
      issue_exact e = sym (issue_nowhere key Q.asc Q.issues not_below (λ m d q. d (sym (here l) ∙ e)))

      pub issue_next : (get_or scratch (at + 1) 0 ≡ key → ⊥) → eqb (first_part (get_or scratch (at + 1) 0)) (first_part key) ≡ another_issue key K
      issue_next d = elim (eq? (first_part (get_or scratch (at + 1) 0)) (first_part key)) [
        | inl q ↦
            eq-eqb _ _ q
            ∙ sym (issue_at key Q.asc (omega (arith, Q.place, keys_length scratch n Q.long)) (λ e. d (here l ∙ e)) (ap first_part (sym (here l)) ∙ q))
        | inr x ↦
            ne_eqb _ _ x ∙ sym (issue_nowhere key Q.asc Q.issues not_below (λ m e q. x (ap first_part (here l) ∙ q)))
      ]

-- both columns moved, one after the other: start is where the edges begin, and mid are the words in between
module _ (r s n at : ℕ) (scratch : List ℕ) {mid out : List ℕ} {start : ℕ} (e : start ≡ edges_at r s) where
  pub put_both : (key : ℕ) {edge word : ℕ} → word ≡ edge → mid ≡ shifted_in scratch (at + 1) (n + 1) key → out ≡ shifted_in mid (start + at) (start + n) word
      → out ≡ put_at r s n at key edge scratch
  put_both key q f g = g ∙ (rw (f, e, q))

  pub taken_both : mid ≡ shifted_out scratch (at + 1) (n + 1) → out ≡ shifted_out mid (start + at) (start + n) → out ≡ taken_out r s n at scratch
  taken_both f g = g ∙ (rw (f, e))

-- Words whose first ones are m keys of a new set, and whose edges are then moved: the new set stands there.
lined_moved : {P : Params} {u : ℕ → ℕ} {S : List ℕ} (mid column : List ℕ) → length S ≤ 2 * P.slots + P.places → used P.slots P.places ≤ length mid
    → take (length S + 1) mid ≡ 0 ∷ S → take (length S) column ≡ map (edge_of (family P) u) S
    → Lined P u S (take (edges_at P.slots P.places) mid ++ column)
lined_moved {P} {u} {S} mid column few room front edges =
    let to = edges_at P.slots P.places in
    let long : length (take to mid) ≡ to = length-take-le to mid (omega arith) in
    record {
      keys = take-append-le (length S + 1) (take to mid) column (omega arith) ∙ take-take (length S + 1) to mid (omega arith) ∙ front;
      edges = ap (take (length S)) (drop_at (take to mid) column to long) ∙ edges;
    }

-- A set that stands in scratch.
module _ {P : Params} {t : ℕ → ℕ} {S scratch : List ℕ} (D : Lined P t S scratch) where
  abbrev r : ℕ
  r = P.slots

  abbrev s : ℕ
  s = P.places

  abbrev n : ℕ
  n = length S

  abbrev to : ℕ
  to = edges_at r s

  abbrev f : (ℕ → ℕ) → ℕ → ℕ
  f = edge_of (family P)

  -- only the tiers of its keys matter
  edge_agree : (u : ℕ → ℕ) → ((c : ℕ) → In c S → t c ≡ u c) → (c : ℕ) → In c S → f t c ≡ f u c
  unfolding edge_of
  edge_agree u h c i = rw (h c i)

  pub lined_agree : (u : ℕ → ℕ) → ((c : ℕ) → In c S → t c ≡ u c) → Lined P u S scratch
  lined_agree u h = record { keys = D.keys; edges = D.edges ∙ map_same (f t) (f u) S (edge_agree u h) }

  -- words that are the same from k on have the same edges
  rest_same : (mid : List ℕ) (k : ℕ) → k ≤ to → drop k mid ≡ drop k scratch → drop to mid ≡ drop to scratch
  rest_same mid k l e =
      let q : k + (to - k) ≡ to = omega arith in
      rw q at (sym (drop-drop (to - k) k mid) ∙ ap (drop (to - k)) e ∙ drop-drop (to - k) k scratch)

  module _ (room : used r s ≤ length scratch) where
    pub lined_keys : keys_at n scratch ≡ S
    lined_keys =
        let e : n + 1 ≡ 1 + n = omega arith in
        let long : length (take 1 scratch) ≡ 1 = length-take-le 1 scratch (omega arith) in
        sym (ap (drop 1) (ap (λ (k : ℕ). take k scratch) e ∙ take-add 1 n scratch) ∙ drop_at (take 1 scratch) (keys_at n scratch) 1 long) ∙ ap (drop 1) D.keys

    module _ (asc : Asc S) (key : ℕ) where
      abbrev at : ℕ
      at = lower_bound S key

      -- the tier of one of its keys is in the edge at its rank
      pub lined_tier : Sized r s → In key S → tier_placed r s at scratch ≡ t key
      lined_tier z i =
          let k = bound_found key S asc i in
          ap tier_of_edge
          (sym (get_or-take n (drop (edges_at r s) scratch) at 0 k.1 ∙ get_or-drop (edges_at r s) scratch at 0)
          ∙ ap (λ (X : List ℕ). get_or X at 0) D.edges ∙ at_map (f t) S at k.1 ∙ ap (f t) k.0)
          ∙ edge_tier (family P) z.has_slots z.slots_bound t key

      -- a key is put in, with its edge
      pub lined_put : (u : ℕ → ℕ) → ((c : ℕ) → In c S → t c ≡ u c) → (In key S → ⊥) → n < 2 * r + s → {tier : ℕ} → tier ≡ u key
          → Lined P u (with_key key S) (put_at r s n at key (edge_with (family P) key tier) scratch)
      unfolding edge_of
      lined_put u h out few {tier} q =
          let edge = edge_with (family P) key tier in
          let mid = shifted_in scratch (at + 1) (n + 1) key in
          let l = bound_le key S in
          let m : length (with_key key S) ≡ n + 1 = omega (arith, length_with key S asc out) in
          let long = shifted_in_length scratch (at + 1) (n + 1) key (omega arith) (omega arith) in
          let o = shifted_in_column scratch (at + 1) (n + 1) key (omega arith) (omega arith) in
          let c = rest_same mid (n + 1 + 1) (omega arith) o.1 in
          let p = shifted_in_column (drop to mid) at n edge l (omega (arith, length-drop to mid)) in
          let keys : take (n + 1 + 1) mid ≡ 0 ∷ with_key key S =
          o.0 ∙ (rw (D.keys, add-one at) (ap (λ (X : List ℕ). 0 ∷ X) (with_parts key S asc out))) in
          let edges : take (n + 1) (shifted_in (drop to mid) at n edge) ≡ map (f u) (with_key key S) =
          p.0 ∙ (rw (c, D.edges, map_same (f t) (f u) S (edge_agree u h), ← map_take (f u) at S, ← map_drop (f u) at S, q)
          (sym (map-append (f u) (take at S) (key ∷ drop at S)) ∙ ap (map (f u)) (with_parts key S asc out))) in
          rw (shifted_in_behind mid to at n (omega arith) edge)
          (lined_moved mid (shifted_in (drop to mid) at n edge) (omega arith) (omega arith) (rw m keys) (rw m edges))

      -- a key is taken out, and its edge
      pub lined_taken : In key S → n ≤ 2 * r + s → Lined P t (without key S) (taken_out r s n at scratch)
      lined_taken i few =
          let mid = shifted_out scratch (at + 1) (n + 1) in
          let l = (bound_found key S asc i).1 in
          let m : length (without key S) ≡ n - 1 = omega (arith, length_without key S asc i) in
          let long = shifted_out_length scratch (at + 1) (n + 1) (omega arith) (omega arith) in
          let o = shifted_out_column scratch (at + 1) (n + 1) (omega arith) (omega arith) in
          let c = rest_same mid (n + 1 - 1) (omega arith) o.1 in
          let p = shifted_out_column (drop to mid) at n l (omega (arith, length-drop to mid)) in
          let e : n - 1 + 1 ≡ n + 1 - 1 = omega arith in
          let keys : take (n + 1 - 1) mid ≡ 0 ∷ without key S =
          o.0 ∙ (rw (D.keys, add-one (at + 1), add-one at) (ap (λ (X : List ℕ). 0 ∷ X) (rw (add-one at) at (without_parts key S asc i)))) in
          let edges : take (n - 1) (shifted_out (drop to mid) at n) ≡ map (f t) (without key S) =
          p.0 ∙ (rw (c, D.edges, ← map_take (f t) at S, ← map_drop (f t) (at + 1) S)
          (sym (map-append (f t) (take at S) (drop (at + 1) S)) ∙ ap (map (f t)) (without_parts key S asc i))) in
          rw (shifted_out_behind mid to at n (omega arith) (omega arith))
          (lined_moved mid (shifted_out (drop to mid) at n) (omega arith) (omega arith) (rw (m, e) keys) (rw m edges))

-- the place of a key that is one of the n
pub place_lt : (scratch : List ℕ) (n key at : ℕ) → n < length scratch → Asc (keys_at n scratch) → at ≡ lower_bound (keys_at n scratch) key
    → member key (keys_at n scratch) ≡ true → at < n
place_lt scratch n key at long asc q t = omega (arith, (bound_found key (keys_at n scratch) asc (member_in key (keys_at n scratch) t)).1, keys_length scratch n long)

-- What is told of a key says whether it is one of the n.
module _ (r s n at key : ℕ) (scratch : List ℕ) (f : Option ℕ) (told : found f ≡ looked_in r s n at key scratch) where
  pub looked_listed : {t : ℕ} → f ≡ Some t → member key (keys_at n scratch) ≡ true
  looked_listed e = elim (test (member key (keys_at n scratch))) [
    | inl t ↦ t
    | inr t ↦ let q = sym (ap found e) ∙ told in let z = rw t at q in absurd (zero_one (sym (ap first z)))
  ]

  pub looked_absent : ((t : ℕ) → f ≡ Some t → ⊥) → member key (keys_at n scratch) ≡ false
  looked_absent no' = elim (test (member key (keys_at n scratch))) [ inl t ↦ absurd (missed f no' (rw t at told)) | inr t ↦ t ]
    where
      missed : (f : Option ℕ) → ((t : ℕ) → f ≡ Some t → ⊥) → {t : ℕ} → found f ≡ 1 ∷ t ∷ [] → ⊥
      missed (Some t) n e = n t refl
      missed None n e = zero_one (ap first e)
