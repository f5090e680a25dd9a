-- The laws of what specs/Built.antt defines.
use Rattle.std.specs.Prelude.{ℕ, ◌+◌, ◌*◌, ◌%◌, ◌/◌, ◌<◌, ◌≤◌, ◌≡◌, Bool, false, cond, replicate}
use Rattle.std.proofs.Common.{sym, ◌∙◌, inl, inr}
use Rattle.std.proofs.Math.Path.{ap}
use mathlib.Core.List.{List, [], Memᴰ as In}
use native.Mathlib.Omega.{arith}
use Rattle.std.proofs.Math.ListN.{length, get_or, length-replicate}
use Rattle.basics.proofs.Tests.{zero_one}
use Rattle.basics.proofs.Lists.{drop_zeros}
use Rattle.cuckoo.specs.Graph.{seated, stash, next, slot_key, slot_next}
use Rattle.basics.specs.Sets.{Asc}
use Rattle.basics.proofs.Sets.{in?}
use Rattle.cuckoo.specs.Forest.{forest}
use Rattle.cuckoo.specs.Seating.{Ends}
use Rattle.cuckoo.proofs.Renaming.{from_in, in_from, from_asc}
use Rattle.cuckoo.specs.Renaming.{ranks}
use Rattle.partition.specs.Words.{rep_of, max_points}
use Rattle.forest.specs.Edges.{Edges, end_0, end_1, other_end}
use Rattle.forest.proofs.Edges.{ends_fit, ends_apart, ends_turn}
use Rattle.build.proofs.EachSlot.{is_listed}
use Rattle.build.specs.Link.{unlinked, Linked, Marked}
use Rattle.build.proofs.Link.{link_length, link_all, forest_few}
use Rattle.build.specs.Labels.{Labels, Words}
use Rattle.build.proofs.Labels.{labelled_length, labels_all, words_all, label_fit}
use Rattle.build.specs.Notes.{pair_base, Lows, found, none_of, Noting, Going, none_yet, one_seen, Stashed, over, fit, Smallest}
use Rattle.build.proofs.Notes.{split_pair, lows_all, stashed}
use Rattle.build.specs.Finish.{Occupied}
use Rattle.build.proofs.Finish.{note_smallest, finish_all}
use Rattle.build.specs.Next.{Chaining}
use Rattle.build.proofs.Next.{next_all, next_held}
use Rattle.build.specs.Built.{linking, labels, low, noting, held, chain, built, Right, S, full, right}

module _ {a b : ℕ → ℕ} {other : ℕ → ℕ → ℕ} (turn : (c v w : ℕ) → Ends a b c v w → other v c ≡ w) {m : ℕ} (few : m ≤ max_points)
    (fits : (c : ℕ) → (a c < m) × (b c < m)) (two : (c : ℕ) → a c ≡ b c → ⊥) (n : ℕ) (small : n < pair_base) (words : List ℕ) (long : n < length words) where
  asc : Asc (S turn few fits two n small words long)
  asc = from_asc 1 n

  within : (x : ℕ) → In x (S turn few fits two n small words long) → (0 < x) × (x ≤ n)
  within x i = let k = from_in 1 n i in (omega arith, omega arith)

  linking_is : Linked a b m (forest a b (S turn few fits two n small words long)) (linking a b other m n words)
      × ((x : ℕ) → In x (S turn few fits two n small words long) → x < length words → Marked m (forest a b (S turn few fits two n small words long)) (linking a b other m n words).next x)
  unfolding linking
  linking_is = link_all turn m fits few asc (λ c i e. omega (arith, within c i)) words

  pub linking_size : length (linking a b other m n words).held ≡ m
  linking_size = linking_is.0.size

  labels_is : Labels a b (S turn few fits two n small words long) m (rep_of (linking a b other m n words).sets)
  labels_is = labels_all linking_is.0

  next_long : n < length (linking a b other m n words).next
  unfolding linking unlinked
  next_long = rw (link_length a b other m (S turn few fits two n small words long) (unlinked m words)) long

  words_is : Words a b (S turn few fits two n small words long) m (rep_of (linking a b other m n words).sets) (labels a b other m n words)
  unfolding labels
  words_is = words_all n (linking a b other m n words).sets (linking a b other m n words).next next_long within
      (λ x i. linking_is.1 x i (omega (arith, within x i)))

  labels_long : n < length (labels a b other m n words)
  unfolding labels
  labels_long = rw (labelled_length a (linking a b other m n words).sets n (linking a b other m n words).next) next_long

  low_is : Lows m (S turn few fits two n small words long) (labels a b other m n words) (low a b other m n words)
  unfolding low
  low_is = lows_all m (labels a b other m n words) asc

  -- the words of the ranks are marks after step 1, and labels, or labels and m more, after step 2
  module _ (x : ℕ) (some : 0 < x) (most : x ≤ n) where
    rank_in : In x (S turn few fits two n small words long)
    rank_in = in_from 1 n (omega arith) (omega arith)

    pub marks_low : get_or (linking a b other m n words).next x 0 ≤ m
    marks_low =
        let k = linking_is.1 x rank_in (omega arith) in
        elim (in? x (forest a b (S turn few fits two n small words long))) [ inl i ↦ omega (arith, k.on i) | inr o ↦ omega (arith, k.off o) ]

    pub labels_low : get_or (labels a b other m n words) x 0 < m + m
    labels_low =
        let l = label_fit labels_is fits x in
        elim (in? x (forest a b (S turn few fits two n small words long))) [ inl i ↦ omega (arith, words_is.on x rank_in i) | inr o ↦ omega (arith, words_is.off x rank_in o) ]

  module _ (s : ℕ) where
    abbrev lab : ℕ → ℕ
    lab = rep_of (linking a b other m n words).sets

    abbrev N : Noting
    N = noting a b other m n words s

    noting_is : Stashed a b m (S turn few fits two n small words long) lab (labels a b other m n words) (low a b other m n words) (replicate s 0) N
    unfolding noting
    noting_is = stashed m fits asc labels_is words_is (λ x i. let k = within x i in (k.0, omega arith, omega (arith, labels_long))) low_is (replicate s 0)

    module _ (G : Going a b m (S turn few fits two n small words long) lab (labels a b other m n words) (low a b other m n words) [] N) where
      inner : (x : ℕ) → In x (S turn few fits two n small words long) → (0 < x) × (x < pair_base)
      inner x i = let k = within x i in (k.0, omega arith)

      held_is : Occupied a b (seated a b (S turn few fits two n small words long)) m (held a b other m n words s)
      unfolding held
      held_is = finish_all turn m fits asc (λ c i. two c) linking_is.0.whole (forest_few asc linking_is.0) labels_is words_is low_is inner G linking_is.0.size

      notes_are : (l : ℕ) → l < m → Smallest a b (S turn few fits two n small words long) lab l (get_or N.notes l 0 % pair_base)
      notes_are = note_smallest turn m fits asc (λ c i. two c) linking_is.0.whole (forest_few asc linking_is.0) labels_is words_is low_is inner G

      abbrev before : Chaining
      before = record { notes = N.notes; next = N.next }

      in_next : (x : ℕ) → In x (S turn few fits two n small words long) → (0 < x) × (x < pair_base) × (x < length N.next)
      in_next x i = let k = within x i in (k.0, omega arith, omega (arith, G.next_size, labels_long))

      chain_is : (c : ℕ) → In c (seated a b (S turn few fits two n small words long)) → get_or (chain a b other m n words s) c 0 ≡ next a b (seated a b (S turn few fits two n small words long)) c
      unfolding chain
      chain_is = next_all m fits asc labels_is before G.notes_size in_next (λ x i. G.placed x i (λ k. elim k [ ])) notes_are

      chain_held : (v : ℕ) → v < m → get_or (chain a b other m n words s) (get_or (held a b other m n words s) v 0) 0 ≡ slot_next a b (S turn few fits two n small words long) v
      unfolding chain
      chain_held v f = next_held m fits asc labels_is before G.notes_size in_next (λ x i. G.placed x i (λ k. elim k [ ])) notes_are
          held_is (omega (arith, G.next_size, labels_long)) v f

    -- a rank that is noted as closing a cycle is one of them
    pub closing_few : N.overflow ≡ false → (l : ℕ) → l < m → get_or N.notes l 0 / pair_base ≤ n
    closing_few e l f = elim noting_is [
      | over k o ↦ absurd (zero_one (ap (λ (t : Bool). cond t 1 0) (sym e ∙ o)))
      | fit k o c w G ↦
          let small_low : get_or (low a b other m n words) l 0 < pair_base = elim (low_is.at l f) [ found i q h ↦ omega (arith, within _ i) | none_of q h ↦ omega arith ] in
          elim (G.seen l f) [
            | none_yet q h ↦ omega arith
            | one_seen d q i t h o' ↦ omega (arith, within d i, split_pair (get_or (low a b other m n words) l 0) d small_low)
          ]
    ]

    -- Theorem: the build gives what the definitions say of the ranks, whatever stood in the next words.
    pub built_is : Right a b (S turn few fits two n small words long) m s (built a b other m n words s)
    unfolding built slot_key
    built_is =
        let zeros : length {A = ℕ} (replicate s 0) ≡ s = length-replicate s 0 in
        let D = stash a b (S turn few fits two n small words long) in
        elim noting_is [
          | over l e ↦ full (omega arith) (rw e)
          | fit l e k t G ↦
              let O = held_is G in
              let h = is_listed (slot_key a b (S turn few fits two n small words long)) m (held a b other m n words s) O.size O.is in
              right (chain a b other m n words s) (omega arith) (rw (e, k, t, drop_zeros (length D) s, h)) (chain_is G)
              (λ v f. ap (λ (c : ℕ). get_or (chain a b other m n words s) c 0) (sym (O.is v f)) ∙ chain_held G v f)
        ]

-- The same for edges in a list, one for each rank.
module _ {r : ℕ} {edges : List ℕ} (P : Edges r edges) (n : ℕ) (small : n < pair_base) (words : List ℕ) (long : n < length words) (s : ℕ) where
  pub built_edges : Right (end_0 r edges) (end_1 r edges) (ranks n) (2 * r) s (built (end_0 r edges) (end_1 r edges) (other_end r edges) (2 * r) n words s)
  built_edges = built_is (ends_turn P) (omega (arith, P.most)) (ends_fit P) (ends_apart P) n small words long s
