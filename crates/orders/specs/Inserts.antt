-- Entries inserted one by one in a sequence of calls, and orders of a set, as definitions: this file is what a reader
-- must believe, with Calls.antt and Model.antt of crate history and Feed.antt of crate feeding. Orders.antt,
-- Overfull.antt and AnyList.antt have the theorems.
use Rattle.std.specs.Prelude.{ℕ, ◌*◌, ◌≤◌, Bool, not, cond, ◌&&◌, eqb, ltb, length}
use mathlib.Core.List.{List, [], ◌∷◌, Memᴰ as In}
use Rattle.refusals.specs.Refusal.{done}
use Rattle.hashing.specs.Hash.{first_part, blank}
use Rattle.counters.specs.declared.Counters.{Counters}
use Rattle.layout.specs.Entries.{Entry, max_tier, keys_of}
use Rattle.layout.specs.Layout.{Params, scratch_length}
use Rattle.outcome.specs.declared.Change.TheVariants.{Insert}
use Rattle.history.specs.Calls.{own, Call, Step}

-- The calls are the inserts of the entries of M in their order, "the same cards with their tiers": each "under the same
-- book", the sequence's own, with scratch that is long enough, and with any counters.
pub data Inserts (P : Params) : List Entry → List Call → Type 0 where
  none : Inserts P [] []
  more : {e : Entry} {M : List Entry} {cs : List Call} (scratch : List ℕ) (counters : Counters)
      → scratch_length P.slots P.places ≤ length scratch → Inserts P M cs
      → Inserts P (e ∷ M) (Call.change (Insert e.tier) own scratch counters e.key ∷ cs)

-- what a run of calls comes to: the first answer other than 0, or 0
unfoldable pub came_to : List Step → ℕ
came_to [] = done
came_to (o ∷ os) = cond (eqb o.answer.number done) (came_to os) o.answer.number

-- no key stands twice
pub data NoRepeat : List Entry → Type 0 where
  empty : NoRepeat []
  new : {e : Entry} {M : List Entry} → (In e.key (keys_of M) → ⊥) → NoRepeat M → NoRepeat (e ∷ M)

-- M has the entries of L, each once, "in any order"
pub record Order (M L : List Entry) : Type 0 where
  pub each : (e : Entry) → In e M → In e L
  pub all : (e : Entry) → In e L → In e M
  pub once : NoRepeat M

-- Of any list of entries, those that no insert refuses for themselves alone: neither 5 nor 9 applies.
unfoldable pub lawful : Entry → Bool
lawful e = not (blank e.key) && not (ltb max_tier e.tier)

-- a first part, as a key: its issue 0
abbrev pub part_key : ℕ → ℕ
part_key key = 10 * first_part key

-- the first parts of which an issue comes, in the order of the entries
unfoldable pub parts_come : List Entry → List ℕ
parts_come [] = []
parts_come (e ∷ M) = cond (lawful e) (part_key e.key ∷ parts_come M) (parts_come M)
