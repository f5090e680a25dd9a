-- The laws of what specs/Labels.antt defines.
use Rattle.std.specs.Prelude.{ℕ, ◌+◌, ◌<◌, ◌≤◌, ◌≡◌, length, get_or}
use mathlib.Core.List.{List, Memᴰ as In}
use Rattle.std.proofs.Common.{arith}
use Rattle.cuckoo.specs.Joined.{Joined}
use Rattle.cuckoo.proofs.Joined.{mono}
use Rattle.cuckoo.specs.Forest.{forest}
use Rattle.cuckoo.proofs.Forest.{forest_in, spans}
use Rattle.partition.specs.Words.{rep_of}
use Rattle.partition.proofs.Partition.{rep_lt}
use Rattle.build.proofs.EachSlot.{each_slot_at, each_slot_length}
use Rattle.build.specs.Link.{Linking, Linked, Marked}
use Rattle.build.specs.Labels.{Labels, Words, add_label, labelled}

-- keys of one component have one label, and only they
module _ {a b : ℕ → ℕ} {S : List ℕ} {m : ℕ} {lab : ℕ → ℕ} (L : Labels a b S m lab) (fits : (c : ℕ) → (a c < m) × (b c < m)) where
  pub same_label : {c d : ℕ} → Joined a b S (a c) (a d) → lab (a c) ≡ lab (a d)
  same_label {c} {d} j = L.alike (a c) (a d) (fits c).0 (fits d).0 j

  pub label_joined : (c d : ℕ) → lab (a c) ≡ lab (a d) → Joined a b S (a c) (a d)
  label_joined c d e = L.joined (a c) (a d) (fits c).0 (fits d).0 e

  pub label_fit : (c : ℕ) → lab (a c) < m
  label_fit c = L.fit (a c) (fits c).0

-- Laws of step 2
pub labels_all : {a b : ℕ → ℕ} {S : List ℕ} {m : ℕ} {P : Linking} → Linked a b m (forest a b S) P → Labels a b S m (rep_of P.sets)
labels_all {a} {b} {S} K = record {
  fit = λ v l. rep_lt K.parts v l;
  joined = λ u v lu lv e. mono (forest_in a b S) ((K.parts.law u v lu lv).0 e);
  alike = λ u v lu lv j. (K.parts.law u v lu lv).1 (spans S j);
}

label_at : (a : ℕ → ℕ) (n : ℕ) (sets next : List ℕ) → n < length next → (x : ℕ) → 0 < x → x ≤ n
    → get_or (labelled a sets n next) x 0 ≡ get_or next x 0 + rep_of sets (a x)
unfolding labelled
label_at a n sets next sz x l k = each_slot_at (add_label a sets) n 1 next x (omega arith) (omega arith) (omega arith)

pub labelled_length : (a : ℕ → ℕ) (sets : List ℕ) (n : ℕ) (next : List ℕ) → length (labelled a sets n next) ≡ length next
unfolding labelled
labelled_length a sets n next = each_slot_length (add_label a sets) n 1 next

pub words_all : {a b : ℕ → ℕ} {S : List ℕ} {m : ℕ} (n : ℕ) (sets next : List ℕ) → n < length next → ((x : ℕ) → In x S → (0 < x) × (x ≤ n))
    → ((x : ℕ) → In x S → Marked m (forest a b S) next x) → Words a b S m (rep_of sets) (labelled a sets n next)
words_all {a} n sets next sz inside M = record {
  on = λ x i f. let k = inside x i in omega (arith, label_at a n sets next sz x k.0 k.1, (M x i).on f);
  off = λ x i o. let k = inside x i in omega (arith, label_at a n sets next sz x k.0 k.1, (M x i).off o);
}
