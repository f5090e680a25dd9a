-- The canonical image of a set of keys, as definitions that compute. This file is what a reader must believe of the
-- image; every other file of this crate is theorems, with what they speak of: walks, placements, the trail of a key. The
-- rule is section 3.1 of "History-Independent Cuckoo Hashing" (Naor, Segev, Wieder) in the words of document 01, "The
-- canonical image".
--
-- The cuckoo graph: slots (document 01's 'pockets') are points, and each key c (a 'card') is a line between its two slots, `a c` in
-- table 0 and `b c` in table 1. A set of keys is a strictly ascending list of numbers, none of them 0; 0 stands for "no key".
-- Nothing here knows how slots are numbered, how keys are hashed or how a dictionary lies in words.
use Rattle.std.specs.Prelude.{ℕ, zero, suc, Bool, false, not, cond, ◌&&◌, ◌||◌, List, [], ◌∷◌, ◌++◌, eqb, ltb, length}
use Rattle.basics.specs.Sets.{member, keep, any, first, last, without}

module _ (a b : ℕ → ℕ) where
  -- Connected slots have one label: each key in turn gives the label of its end in table 1 to all that have that of its end in table 0.
  unfoldable pub label : List ℕ → ℕ → ℕ
  label [] v = v
  label (c ∷ R) v = cond (eqb (label R v) (label R (a c))) (label R (b c)) (label R v)

  -- "A group is a connected set of pockets and its cards": u and v are in one.
  unfoldable pub joined : List ℕ → ℕ → ℕ → Bool
  joined R u v = eqb (label R u) (label R v)

  -- the keys of v's component (document 01's 'group')
  unfoldable pub component : List ℕ → ℕ → List ℕ
  component R v = keep (λ d. joined R v (a d)) R

  -- c lies on a cycle (document 01's 'loop'): the other keys join its two slots as well.
  unfoldable pub is_on_cycle : List ℕ → ℕ → Bool
  is_on_cycle R c = member c R && joined (without c R) (a c) (b c)

  -- v's component has a cycle
  unfoldable pub cyclic : List ℕ → ℕ → Bool
  cyclic R v = any (is_on_cycle R) (component R v)

  -- "More loops": c lies on a cycle, and without c its component still has one.
  unfoldable pub spare : List ℕ → ℕ → Bool
  spare R c = is_on_cycle R c && cyclic (without c R) (a c)

  -- "the largest card that lies on a loop goes to the drawer, and again, until one loop is left", for at most n rounds
  unfoldable pub settle : ℕ → List ℕ → List ℕ
  settle zero R = R
  settle (suc n) R = elim (keep (spare R) R) [ [] ↦ R | c ∷ D ↦ settle n (without (last (c ∷ D)) R) ]

  -- the keys that sit in slots: those that settling leaves
  unfoldable pub seated : List ℕ → List ℕ
  seated S = settle (length S) S

  -- the stash (document 01's 'drawer'), "ascending": the keys that settling takes away
  unfoldable pub stash : List ℕ → List ℕ
  stash S = let T = seated S in keep (λ c. not (member c T)) S

  -- In what follows T is a set that has settled: no component has two cycles.

  -- the key that decides how v's component sits: "the smallest card on the loop", and with no loop "its smallest card"
  unfoldable pub root : List ℕ → ℕ → ℕ
  root T v = let C = component T v in first (keep (is_on_cycle T) C ++ C)

  -- The key c sits in v, one of its two slots. The root sits "in both its pockets" where there is no loop, and on a loop "in rack 0". "That
  -- fixes every other card's pocket": it sits at the end that is cut off from the root's slot in table 0 when c is taken away (and on a
  -- loop the root's own line, too).
  unfoldable pub sits : List ℕ → ℕ → ℕ → Bool
  sits T v c =
      let z = root T (a c) in
      let cycle = is_on_cycle T z in
      cond (eqb c z) (not cycle || eqb v (a z)) (not (joined (without c (cond cycle (without z T) T)) v (a z)))

  -- the key in slot v, 0 where it is empty
  unfoldable pub occupant : List ℕ → ℕ → ℕ
  occupant T v = first (keep (λ c. (eqb v (a c) || eqb v (b c)) && sits T v c) T)

  -- "the next larger seated card of its group; the largest points to the smallest; a lone card points to itself"
  unfoldable pub next : List ℕ → ℕ → ℕ
  next T c = let C = component T (a c) in first (keep (ltb c) C ++ C)

  -- What slot v holds in the image of a set S: its key and its next number, "0, 0" where it is empty. Next numbers run through the seated keys
  -- alone.
  unfoldable pub slot_key : List ℕ → ℕ → ℕ
  slot_key S v = occupant (seated S) v

  unfoldable pub slot_next : List ℕ → ℕ → ℕ
  slot_next S v = let c = slot_key S v in cond (eqb c 0) 0 (next (seated S) c)
