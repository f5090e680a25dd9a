-- Where not all keys fit: two orders of one set, its entries inserted one by one and the refused ones (8) skipped, list
-- equally many (`equally_many`), though not the same (`other_keys`), and no choice lists more (`none_lists_more`). The
-- number is told by the set (`listed_length`). Assumes nothing.
use Rattle.std.specs.Prelude.{ℕ, ◌+◌, ◌≤◌, min, ◌≡◌, refl, length}
use Rattle.std.proofs.Common.{sym, ◌∙◌, ap, arith}
use mathlib.Core.List.{List, [], ◌∷◌, Memᴰ as In}
use Rattle.basics.specs.Sets.{without, below, Sub}
use Rattle.ordered.specs.Keys.{with_key, above}
use Rattle.cuckoo.specs.Graph.{label, joined, component, is_on_cycle, cyclic, spare, settle, seated, stash}
use Rattle.feeding.specs.Feed.{fed, feed_on, feed, set_of}
use Rattle.hashing.specs.Hash.{hash}
use Rattle.hashing.specs.Slots.{slot_0, slot_1}
use Rattle.layout.specs.Entries.{Entry, keys_of}
use Rattle.layout.specs.Layout.{Params, ValidSet, family, key_count}
use Rattle.layout.specs.Board.{board_tabulation, board}
use Rattle.outcome.specs.Held.{Holds}
use Rattle.history.specs.Calls.{Call, words_left, Sequence}
use Rattle.history.specs.Model.{set_left}
use Rattle.orders.specs.Inserts.{Inserts, Order}

-- How many keys of the set are listed, in whatever order: all, or as many as are seated of all and s more.
abbrev pub listed_most : Params → List Entry → ℕ
listed_most P L =
    min (length L) (length (seated (slot_0 (family P)) (slot_1 (family P)) (keys_of L)) + P.places)
