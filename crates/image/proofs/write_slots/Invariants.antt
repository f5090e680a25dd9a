-- What is written, and the slots of the ranks that are left, are together the slots.
use Rattle.std.proofs.Common.{◌≡◌, ◌+◌, ◌*◌, drop}
use Rattle.layout.specs.Layout.{header_length, slot_width}
use Rattle.image.specs.Ranks.{ranked_slots_put}
use Rattle.image.proofs.write_slots.Given as goal

abbrev pub invariant-loop-v : goal.invariant-loop-v
invariant-loop-v l =
    ranked_slots_put l.initial.words header_length l.r l.keys l.graph l.next l.held
    ≡ ranked_slots_put l.words (header_length + slot_width * l.v) l.r l.keys l.graph l.next (drop l.v l.held)
