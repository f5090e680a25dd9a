-- What is left to compare is the slots of the ranks that are left.
use Rattle.std.proofs.Common.{◌≡◌, ◌+◌, ◌*◌, drop}
use Rattle.layout.specs.Layout.{header_length, slot_width}
use Rattle.image.specs.Ranks.{ranked_slots_alike}
use Rattle.image.proofs.same_slots.Given as goal

abbrev pub invariant-loop-v : goal.invariant-loop-v
invariant-loop-v l =
    ranked_slots_alike l.words header_length l.r l.keys l.graph l.next l.held
    ≡ ranked_slots_alike l.words (header_length + slot_width * l.v) l.r l.keys l.graph l.next (drop l.v l.held)
