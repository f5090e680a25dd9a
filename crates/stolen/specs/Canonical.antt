-- When words are the image of a set (`stolen_canonical_iff`, `stolen_ordered_iff`); that it is decided in one round
-- over the slots (`canonical_settled`); what a lookup says on such words (`look_listed`), that an empty slot is room
-- (`room_left`), and what adding by displacement comes to (`inserted`). Assumes nothing.
use Rattle.std.specs.Prelude.{ℕ, ◌<◌, ◌≤◌, ◌≡◌, refl, true, false, not, ◌↔◌, ltb, length, get_or}
use Rattle.std.proofs.Common.{sym, ◌∙◌, true≢false, inl, inr, arith}
use mathlib.Core.List.{List, Memᴰ as In}
use Rattle.std.proofs.lemmas.Bool.{not-true}
use Rattle.basics.specs.Tests.{test}
use Rattle.basics.specs.Sets.{member, any, Asc}
use Rattle.basics.specs.Lists.{same}
use Rattle.ordered.specs.Keys.{with_key}
use Rattle.hashing.specs.Hash.{blank, Family}
use Rattle.hashing.specs.Slots.{slot_0}
use Rattle.probing.specs.Rule.{look, table_keys}
use Rattle.probing.specs.Moves.{add, all_settled}
use Rattle.probing.specs.Unique.{Ordered}
use Rattle.probing.specs.Adding.{Arranged}
use Rattle.probing.specs.Walls.{Barrier}
use Rattle.probing.specs.Image.{KeySet}
use Rattle.stolen.specs.Answers.{stolen_image, stolen_canonical}

-- the words are the image of the set S in a list of this family
pub record StolenImage (F : Family) (S ws : List ℕ) : Type 0 where
  pub ascending : Asc S
  pub keys : (c : ℕ) → In c S → blank c ≡ false
  pub fits : length S ≤ F.slots
  pub is : ws ≡ stolen_image F S
