-- The first sound issue of a first part, looked for one entry after the other. Assumes nothing.
use Rattle.std.specs.Prelude.{ℕ, ◌+◌, ◌*◌, ◌<◌, ◌≡◌, Bool, true, false, eqb, get_or}
use Rattle.std.proofs.Common.{sym, ◌∙◌}
use Rattle.std.proofs.Math.Path.{ap}
use mathlib.Core.List.{List, ◌∷◌}
use Rattle.hashing.specs.Hash.{first_part}
use Rattle.layout.specs.Entries.{Entry}
use Rattle.layout.specs.Layout.{place_width, slot_entry}
use Rattle.survivors.specs.Looked.{sound, is_issue, sound_issue}
use Rattle.candidates.specs.Candidates.{entry_of, places_left, places_next, places_done}

-- an entry that is unsound is no issue, and of a sound one the first part decides
module _ (key tier part : ℕ) where
  pub issue_unsound : sound (entry_of key tier) ≡ false → false ≡ is_issue (entry_of key tier) part
  unfolding is_issue
  issue_unsound b = rw b

  pub issue_sound : sound (entry_of key tier) ≡ true → eqb (first_part key) part ≡ is_issue (entry_of key tier) part
  unfolding is_issue
  issue_sound b = rw b

-- one entry is tried, and then the others
module _ (x : Entry) (L : List Entry) (key : ℕ) {part : ℕ} {b : Bool} (p : part ≡ first_part key)
    (e : b ≡ is_issue x part) where
  pub issue_here : b ≡ true → sound_issue (x ∷ L) key ≡ x
  unfolding sound_issue
  issue_here t = let q = rw p at (sym e ∙ t) in rw q

  pub issue_further : b ≡ false → sound_issue (x ∷ L) key ≡ sound_issue L key
  unfolding sound_issue
  issue_further t = let q = rw p at (sym e ∙ t) in rw q

-- the places from i on
unfoldable pub issue_left : List ℕ → (count key i : ℕ) → Entry
issue_left ps count key i = sound_issue (places_left ps count i) key

module _ (ps : List ℕ) (count key i : ℕ) where
  module _ (l : i < count) {part : ℕ} {b : Bool} (p : part ≡ first_part key)
      (e : b ≡ is_issue (entry_of (get_or ps (place_width * i) 0) (get_or ps (place_width * i + 1) 0)) part) where
    pub left_here : b ≡ true → issue_left ps count key i
        ≡ entry_of (get_or ps (place_width * i) 0) (get_or ps (place_width * i + 1) 0)
    unfolding issue_left
    left_here t =
        ap (λ (L : List Entry). sound_issue L key) (places_next ps count i l)
        ∙ issue_here _ (places_left ps count (i + 1)) key p e t

    pub left_further : b ≡ false → issue_left ps count key i ≡ issue_left ps count key (i + 1)
    unfolding issue_left
    left_further t =
        ap (λ (L : List Entry). sound_issue L key) (places_next ps count i l)
        ∙ issue_further _ (places_left ps count (i + 1)) key p e t

  pub left_none : i ≡ count → issue_left ps count key i ≡ entry_of 0 0
  unfolding issue_left sound_issue
  left_none q = rw (places_done ps count i q)

-- a slot, and then the others
module _ (ws : List ℕ) (slot key : ℕ) (L : List Entry) {c t part : ℕ} {b : Bool} (k : c ≡ (slot_entry ws slot).key)
    (q : t ≡ (slot_entry ws slot).tier) (p : part ≡ first_part key) (e : b ≡ is_issue (entry_of c t) part) where
  pub slot_here : b ≡ true → entry_of c t ≡ sound_issue (slot_entry ws slot ∷ L) key
  slot_here y =
      let f = rw (k, q) at e in
      (rw (k, q) (sym (issue_here (slot_entry ws slot) L key p f y)))

  pub slot_further : b ≡ false → sound_issue (slot_entry ws slot ∷ L) key ≡ sound_issue L key
  slot_further y = let f = rw (k, q) at e in issue_further (slot_entry ws slot) L key p f y
