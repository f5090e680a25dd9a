-- Union by size keeps the invariant of specs/Partition.antt: a key whose ends have different representatives unites their sets. With it what the
-- words say afterwards of sizes and representatives. Assumes nothing.
use Rattle.std.specs.Prelude.{ℕ, suc, ◌≤◌, ◌<◌, ◌≡◌, ◌⊎◌, List, ◌∷◌, length, get_or}
use Rattle.std.proofs.Common.{sym, ◌∙◌, ap, inl, inr, arith, lt-ltb, le-ltb}
use Rattle.basics.proofs.Tests.{eq?, le?}
use Rattle.cuckoo.specs.Joined.{Joined}
use Rattle.cuckoo.proofs.Joined.{jsym, jtrans, more, edge_head}
use Rattle.partition.specs.Words.{Representative, rep_of, size_of, Mergeable, linked, smaller, larger, united}
use Rattle.partition.specs.Tally.{tally, tally_moved}
use Rattle.partition.proofs.Tally.{moved_child, moved_other, tally_ext, tally_parent, tally_other}
use Rattle.partition.specs.Partition.{members, Reached, Partition}
use Rattle.partition.proofs.Partition.{reached_rep, alike_more, size_le, rep_is, rep_marked, mergeable}
use Rattle.partition.proofs.Chain.{chain_rep, chain_other, chain_child, linked_length, linked_child, linked_other, size_parent, size_other}

-- the words after a link
module _
    {a b : ℕ → ℕ} {R : List ℕ} {n : ℕ} {words : List ℕ} {child parent : ℕ} (P : Partition a b R n words) (two : Mergeable words child parent)
    (order : size_of words child ≤ size_of words parent)
  where
    -- from v the parents lead to the same representative, or by one step more from the child to the parent
    reached_linked : {v : ℕ} (h : Reached words v) → (k : Reached (linked words child parent) v) × (k.rep ≡ tally_moved child parent h.rep)
    reached_linked h =
        elim (eq? h.rep child) [
          | inl e ↦ (
            record {
              steps = suc h.steps;
              rep = parent;
              chain = chain_child two h.chain e;
              short = omega (arith, h.short, ap (size_of words) e, size_parent two);
            },
            sym (moved_child child parent h.rep e),
          )
          | inr nc ↦ (
            record {
              steps = h.steps;
              rep = h.rep;
              chain = chain_other two h.chain nc;
              short = elim (eq? h.rep parent) [
                | inl e ↦ omega (arith, h.short, ap (size_of words) e, ap (size_of (linked words child parent)) e, size_parent two)
                | inr np ↦ omega (arith, h.short, size_other two h.rep nc np)
              ];
            },
            sym (moved_other child parent h.rep nc),
          )
        ]

    -- a representative after the link is one before it, and not the child
    still : {r : ℕ} → Representative (linked words child parent) r → Representative words r × (r ≡ child → ⊥)
    still {r} h =
        let word : r ≡ child → get_or (linked words child parent) r 0 ≡ parent = λ e. rw e (linked_child two) in
        let nc : r ≡ child → ⊥ = λ e. omega (arith, word e, two.other.inside, h.marked, linked_length two) in
        elim (eq? r parent) [
          | inl e ↦ (rw e two.other, nc)
          | inr np ↦ (
            record {
              inside = omega (arith, h.inside, linked_length two);
              marked = omega (arith, h.marked, linked_other two r nc np, linked_length two);
            },
            nc,
          )
        ]

    linked_size_le : {r : ℕ} → Representative (linked words child parent) r → size_of (linked words child parent) r ≤ n
    linked_size_le {r} h =
        let k = still h in
        elim (eq? r parent) [
          | inl e ↦ omega (arith, ap (size_of (linked words child parent)) e, size_parent two, two.fit, P.long)
          | inr np ↦ omega (arith, size_other two r k.1 np, size_le P k.0)
        ]

    -- who had the child for a representative has the parent
    rep_linked : (v : ℕ) → v < n → rep_of (linked words child parent) v ≡ tally_moved child parent (rep_of words v)
    rep_linked v l =
        let h = reached_linked (P.reached v l) in
        let k : Representative (linked words child parent) h.0.rep = chain_rep h.0.chain (omega (arith, linked_length two, P.long)) in
        reached_rep h.0 (omega (arith, linked_size_le k, P.points_bound)) ∙ h.1 ∙ ap (tally_moved child parent) (sym (rep_is P v l))

    members_linked : (r : ℕ) → members (linked words child parent) r ≡ tally (λ v. tally_moved child parent (rep_of words v)) r (length words)
    members_linked r =
        let alike : (v : ℕ) → v < length words → rep_of (linked words child parent) v ≡ tally_moved child parent (rep_of words v) =
        λ v l. rep_linked v (omega (arith, P.long)) in
        rw (linked_length two) (tally_ext (rep_of (linked words child parent)) (λ v. tally_moved child parent (rep_of words v)) r (length words) alike)

    honest_linked :
        (r : ℕ) → Representative (linked words child parent) r → size_of (linked words child parent) r ≡ members (linked words child parent) r
    honest_linked r h =
        let k = still h in
        let n = length words in
        elim (eq? r parent) [
          | inl e ↦
              let sum = tally_parent (rep_of words) child parent n two.differ in
              rw e (omega (arith, size_parent two, P.honest child two.one, P.honest parent two.other, sum, members_linked parent))
          | inr np ↦
              let same = tally_other (rep_of words) child parent r n k.1 np in
              size_other two r k.1 np ∙ P.honest r k.0 ∙ sym (members_linked r ∙ same)
        ]

    -- A key c between the two sets: x is in the child's and y in the parent's, and c joins them.
    add_linked : (c x y : ℕ) → a c < n → b c < n → x < n → y < n → rep_of words x ≡ child → rep_of words y ≡ parent → Joined a b (c ∷ R) x y
        → tally_moved child parent (rep_of words (a c)) ≡ tally_moved child parent (rep_of words (b c)) → Partition a b (c ∷ R) n (linked words child parent)
    add_linked c x y la lb lx ly ex ey j e = record {
      long = linked_length two ∙ P.long;
      points_bound = P.points_bound;
      reached = λ v l. (reached_linked (P.reached v l)).0;
      honest = honest_linked;
      law = λ u v lu lv. (
        λ q. joins u v lu lv (sym (rep_linked u lu) ∙ q ∙ rep_linked v lv),
        alike_more (rep_of (linked words child parent)) c alike_old la lb (rep_linked (a c) la ∙ e ∙ sym (rep_linked (b c) lb)) u v lu lv,
      );
    }
      where
        -- what was together stays together
        alike_old :
            (u v : ℕ) → u < n → v < n → Joined a b R u v → rep_of (linked words child parent) u ≡ rep_of (linked words child parent) v
        alike_old u v lu lv k = rep_linked u lu ∙ ap (tally_moved child parent) ((P.law u v lu lv).1 k) ∙ sym (rep_linked v lv)

        -- u was the child's, and v is the parent's
        across : (u v : ℕ) → u < n → v < n → rep_of words u ≡ child → rep_of words v ≡ parent → Joined a b (c ∷ R) u v
        across u v lu lv eu ev =
            jtrans (more ((P.law u x lu lx).0 (eu ∙ sym ex))) (jtrans j (more ((P.law y v ly lv).0 (ey ∙ sym ev))))

        joins : (u v : ℕ) → u < n → v < n → tally_moved child parent (rep_of words u) ≡ tally_moved child parent (rep_of words v) → Joined a b (c ∷ R) u v
        joins u v lu lv q =
            elim (eq? (rep_of words u) child) [
              | inl eu ↦ elim (eq? (rep_of words v) child) [
                | inl ev ↦ more ((P.law u v lu lv).0 (eu ∙ sym ev))
                | inr nv ↦
                    across u v lu lv eu (sym (moved_other child parent (rep_of words v) nv) ∙ sym q ∙ moved_child child parent (rep_of words u) eu)
              ]
              | inr nu ↦
                  let same = moved_other child parent (rep_of words u) nu in
                  elim (eq? (rep_of words v) child) [
                    | inl ev ↦ jsym (across v u lv lu ev (sym same ∙ q ∙ moved_child child parent (rep_of words v) ev))
                    | inr nv ↦ more ((P.law u v lu lv).0 (sym same ∙ q ∙ moved_other child parent (rep_of words v) nv))
                  ]
            ]

-- the smaller and the larger of two are the two
sorted : (words : List ℕ) (first second : ℕ)
    → ((smaller words first second ≡ first) × (larger words first second ≡ second) × (size_of words first ≤ size_of words second))
    ⊎ ((smaller words first second ≡ second) × (larger words first second ≡ first) × (size_of words second ≤ size_of words first))
unfolding smaller larger
sorted words first second =
    elim (le? (size_of words second) (size_of words first)) [
      | inl l ↦ let e = le-ltb (size_of words first) (size_of words second) l in inr (rw e, rw e, l)
      | inr l ↦ let e = lt-ltb (size_of words first) (size_of words second) l in inl (rw e, rw e, omega arith)
    ]

module _ {words : List ℕ} {first second : ℕ} (two : Mergeable words first second) where
  by_size : Mergeable words (smaller words first second) (larger words first second)
  by_size =
      elim (sorted words first second) [
        | inl q ↦ rw (q.0, q.1) two
        | inr q ↦ rw (q.0, q.1) record { one = two.other; other = two.one; differ = λ e. two.differ (sym e); fit = omega (arith, two.fit) }
      ]

  ordered : size_of words (smaller words first second) ≤ size_of words (larger words first second)
  ordered = elim (sorted words first second) [ inl q ↦ rw (q.0, q.1) q.2 | inr q ↦ rw (q.0, q.1) q.2 ]

  -- both go to the larger
  first_moved : tally_moved (smaller words first second) (larger words first second) first ≡ larger words first second
  first_moved =
      elim (sorted words first second) [
        | inl q ↦ moved_child (smaller words first second) (larger words first second) first (sym q.0)
        | inr q ↦ moved_other (smaller words first second) (larger words first second) first (λ e. two.differ (e ∙ q.0)) ∙ sym q.1
      ]

  second_moved : tally_moved (smaller words first second) (larger words first second) second ≡ larger words first second
  second_moved =
      elim (sorted words first second) [
        | inl q ↦ moved_other (smaller words first second) (larger words first second) second (λ e. two.differ (sym (e ∙ q.0))) ∙ sym q.1
        | inr q ↦ moved_child (smaller words first second) (larger words first second) second (sym q.0)
      ]

-- a key whose ends have different representatives unites their sets
pub add_between : {a b : ℕ → ℕ} {R : List ℕ} {n : ℕ} {words : List ℕ} → Partition a b R n words → (c : ℕ) → a c < n → b c < n
    → (rep_of words (a c) ≡ rep_of words (b c) → ⊥) → Partition a b (c ∷ R) n (united words (rep_of words (a c)) (rep_of words (b c)))
unfolding united
add_between {a} {b} {R} {n} {words} P c la lb ne =
    let two = mergeable P (rep_marked P (a c) la) (rep_marked P (b c) lb) ne in
    let e = first_moved two ∙ sym (second_moved two) in
    elim (sorted words (rep_of words (a c)) (rep_of words (b c))) [
      | inl q ↦ add_linked P (by_size two) (ordered two) c (a c) (b c) la lb la lb (sym q.0) (sym q.1) edge_head e
      | inr q ↦ add_linked P (by_size two) (ordered two) c (b c) (a c) la lb lb la (sym q.0) (sym q.1) (jsym edge_head) e
    ]
