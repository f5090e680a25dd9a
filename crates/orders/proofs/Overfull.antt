-- The laws of what specs/Overfull.antt defines.
use Rattle.std.specs.Prelude.{ℕ, ◌+◌, ◌≤◌, min, ◌≡◌, refl, length}
use Rattle.std.proofs.Common.{sym, ◌∙◌, ap, arith}
use mathlib.Core.List.{List, [], ◌∷◌, Memᴰ as In}
use Rattle.basics.specs.Sets.{without, below, Sub}
use Rattle.basics.proofs.Sets.{asc_ext}
use Rattle.ordered.specs.Keys.{with_key, above}
use Rattle.cuckoo.specs.Graph.{label, joined, component, is_on_cycle, cyclic, spare, settle, seated, stash}
use Rattle.feeding.specs.Feed.{fed, feed_on, feed, set_of}
use Rattle.feeding.proofs.Feeding.{set_of_asc, set_of_in, in_set_of, feed_length}
use Rattle.feeding.proofs.FeedingAfter.{feed_most}
use Rattle.hashing.specs.Hash.{hash}
use Rattle.hashing.specs.Slots.{slot_0, slot_1}
use Rattle.layout.specs.Entries.{Entry, keys_of}
use Rattle.layout.proofs.Entries.{length_keys, key_in, in_key}
use Rattle.layout.specs.Layout.{Params, ValidSet, family, key_count}
use Rattle.layout.proofs.Image.{fits_le, image_keys}
use Rattle.layout.proofs.Standing.{not_blank}
use Rattle.layout.specs.Board.{board_tabulation, board}
use Rattle.outcome.specs.Held.{Holds}
use Rattle.history.specs.Calls.{Call, words_left, Sequence}
use Rattle.history.specs.Model.{set_left}
use Rattle.history.proofs.History.{history}
use Rattle.orders.specs.Inserts.{Inserts, Order}
use Rattle.orders.proofs.Orders.{fed_keys}
use Rattle.orders.specs.Overfull.{listed_most}

module _ {P : Params} {ws : List ℕ} {cs : List Call} (q : Sequence P [] ws cs) {M L : List Entry} (i : Inserts P M cs)
    (order : Order M L) (valid : ValidSet L) where
  keys_there : Sub (keys_of L) (keys_of M)
  keys_there c j = let r = in_key L j in rw r.2 at (key_in M (order.all r.0 r.1))

  keys_back : Sub (keys_of M) (keys_of L)
  keys_back c j = let r = in_key M j in rw r.2 at (key_in L (order.each r.0 r.1))

  nonzero : In 0 (keys_of M) → ⊥
  nonzero j = not_blank 0 (valid.keys.none_blank 0 (keys_back 0 j)) refl

  one_set_of : set_of (keys_of M) ≡ keys_of L
  one_set_of =
      asc_ext (set_of (keys_of M)) (keys_of L) (set_of_asc (keys_of M)) valid.keys.asc
      (λ c j. keys_back c (set_of_in (keys_of M) c j)) (λ c j. in_set_of (keys_of M) c (keys_there c j))

  listed_fed : length (set_left P [] ws cs)
      ≡ length (feed (slot_0 (family P)) (slot_1 (family P)) P.places (keys_of M))
  listed_fed = sym (length_keys (set_left P [] ws cs)) ∙ ap length (fed_keys q i order valid)

  -- the register's set, and word 2 of the words
  pub listed_length : length (set_left P [] ws cs) ≡ listed_most P L
  listed_length =
      listed_fed ∙ feed_length (slot_0 (family P)) (slot_1 (family P)) P.places (keys_of M) nonzero
      ∙ (rw (one_set_of, length_keys L))

  pub listed_count : key_count (words_left P ws cs) ≡ listed_most P L
  listed_count =
      ap key_count (history q).final.is.is ∙ image_keys P (set_left P [] ws cs)
      ∙ length_keys (set_left P [] ws cs) ∙ listed_length

  -- No choice lists more: a list that holds keys of the set alone holds at most as many.
  pub none_lists_more : {K : List Entry} {us : List ℕ} → Holds P K us → Sub (keys_of K) (keys_of L)
      → length K ≤ length (set_left P [] ws cs)
  none_lists_more {K} h sub =
      let m = feed_most (slot_0 (family P)) (slot_1 (family P)) P.places (keys_of M) nonzero
      h.is.valid.keys.asc (λ c j. keys_there c (sub c j)) (fits_le P (keys_of K) h.is.fit) in
      omega (arith, listed_fed, length_keys K)

-- Two orders of one set list equally many.
pub equally_many : {P : Params} {ws ws' : List ℕ} {cs cs' : List Call} {M M' L : List Entry} → ValidSet L
    → Sequence P [] ws cs → Inserts P M cs → Order M L → Sequence P [] ws' cs' → Inserts P M' cs' → Order M' L
    → key_count (words_left P ws cs) ≡ key_count (words_left P ws' cs')
equally_many valid q i order q' i' order' =
    listed_count q i order valid ∙ sym (listed_count q' i' order' valid)

-- Which keys are listed does depend on the order: on document 01's test board the four keys of K6, one too many.
abbrev board_feed : List ℕ → List ℕ
board_feed = feed (slot_0 (family (board 4 1))) (slot_1 (family (board 4 1))) 1

pub other_keys : (board_feed (10 ∷ 650 ∷ 1290 ∷ 1930 ∷ []) ≡ 10 ∷ 650 ∷ 1290 ∷ [])
    × (board_feed (1930 ∷ 1290 ∷ 650 ∷ 10 ∷ []) ≡ 650 ∷ 1290 ∷ 1930 ∷ [])
unfolding feed feed_on fed with_key below above stash seated settle spare cyclic is_on_cycle component joined label without
    hash board_tabulation
other_keys = (refl, refl)
