-- What a set that was loaded has: its keys are those of the words, ascending, one issue of each first part, as many as
-- the heading tells, and they stand in scratch
-- with their edges. Every call on a whole dictionary goes on from here. Assumes nothing.
use Rattle.std.specs.Prelude.{ℕ, ◌+◌, ◌*◌, ◌≤◌, ◌<◌, ◌≡◌, refl, Bool, length}
use Rattle.std.proofs.Common.{sym, ◌∙◌, ap, arith}
use mathlib.Core.List.{List, Memᴰ as In}
use Rattle.basics.specs.Sets.{member, Asc}
use Rattle.hashing.specs.Hash.{Hashing}
use Rattle.layout.specs.declared.Header.{Header}
use Rattle.layout.specs.Entries.{keys_of, tier_of}
use Rattle.layout.proofs.Entries.{keys_tiered, tier_tiered}
use Rattle.layout.specs.Layout.{Params, OneIssue, header_of, params_of, key_count}
use Rattle.layout.specs.Layout.{image, image_by, keys_in, tier_in, set_in}
use Rattle.layout.proofs.Canonical.{canonical_true}
use Rattle.layout.specs.Shape.{Shaped}
use Rattle.layout.proofs.Shape.{shape}
use Rattle.layout.proofs.Standing.{keys_in_valid}
use Rattle.collect.specs.Collect.{keys_in_few}
use Rattle.build.specs.Scratch.{used}
use Rattle.scratch_set.specs.Members.{keys_at, lined_keys}
use Rattle.gateway.specs.Loading.{LoadedSet}

-- an image tells in word 2 how many keys it has
image_count : (P : Params) (L : List _) → key_count (image P L) ≡ length (keys_of L)
unfolding image image_by
image_count P L = refl

module _ {tabulation ws scratch : List ℕ} (Z : LoadedSet tabulation ws scratch) where
  abbrev pub loaded_shape : Shaped ws
  loaded_shape = shape ws Z.ready.shape

  -- the set's keys and tiers
  pub set_keys : keys_of (set_in tabulation ws) ≡ keys_in ws
  set_keys = keys_tiered (tier_in tabulation ws) (keys_in ws)

  pub set_tier : {c : ℕ} → In c (keys_in ws) → tier_in tabulation ws c ≡ tier_of (set_in tabulation ws) c
  set_tier i = sym (tier_tiered (tier_in tabulation ws) (keys_in ws) i)

  -- they are one issue of each first part, as those of a set are
  pub loaded_issues : OneIssue (keys_in ws)
  loaded_issues = rw set_keys at (canonical_true tabulation ws Z.image).valid.issues

  -- A call knows the heading h of the words, and takes from it how many keys there are: n.
  module _ {h : Header} {n : ℕ} (heading : h ≡ header_of ws) (count : n ≡ h.keys) where
    pub loaded_count : n ≡ length (keys_in ws)
    loaded_count =
        let i = (canonical_true tabulation ws Z.image).is in
        (rw heading at count) ∙ ap key_count i ∙ image_count (params_of tabulation ws) (set_in tabulation ws)
        ∙ ap length set_keys

    -- their slots and places have room for them, and so has scratch
    pub loaded_few : n ≤ 2 * h.slots + h.places
    loaded_few = rw heading (omega (arith, loaded_count, keys_in_few ws loaded_shape))

    pub loaded_room : used h.slots h.places ≤ length scratch
    loaded_room = rw heading (omega (arith, Z.ready.room, loaded_shape.sizes))

    pub loaded_range : Hashing tabulation h.slots h.station × (h.places ≤ 64)
    loaded_range = rw heading (
      record {
        full_length = Z.ready.full_length;
        has_slots = loaded_shape.sizes.has_slots;
        slots_bound = loaded_shape.sizes.slots_bound;
        station_bound = loaded_shape.station;
      },
      omega (arith, loaded_shape.sizes),
    )

    -- they stand there, and can be searched
    pub loaded_keys : keys_at n scratch ≡ keys_in ws
    loaded_keys = rw loaded_count (lined_keys Z.lined (rw heading at loaded_room))

    pub loaded_searchable : (n < length scratch) × Asc (keys_at n scratch)
    loaded_searchable = (omega (arith, loaded_few, loaded_room), rw loaded_keys (keys_in_valid ws).asc)

    -- a key that stands there is one of the set
    pub loaded_listed : (key : ℕ) {t : Bool} → t ≡ member key (keys_at n scratch)
        → t ≡ member key (keys_of (set_in tabulation ws))
    loaded_listed key e = e ∙ ap (member key) (loaded_keys ∙ sym set_keys)
