-- The image depends on the hashes only at the keys of the set: where the hashes of these keys are known, it is the image over any end functions with the
-- same values there. Assumes nothing.
use Prim.Native.Nat.{ℕ, zero, suc, ◌+◌}
use Rattle.std.specs.Prelude.{◌≡◌, List}
use Rattle.std.proofs.Math.Path.{refl}
use Rattle.cuckoo.specs.Agree.{Agree}
use Rattle.hashing.specs.Slots.{slot_0, slot_1}
use Rattle.layout.specs.Entries.{Entry, keys_of, tier_of}
use Rattle.layout.specs.Layout.{Params, family, fits_by, slot_words_by, image_by, fits, slot_words, image}

-- a and b are the slots of every key of S
abbrev pub Known : Params → (ℕ → ℕ) → (ℕ → ℕ) → List ℕ → Type 0
Known P a b S = Agree (slot_0 (family P)) (slot_1 (family P)) a b S
