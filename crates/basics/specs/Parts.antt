-- A part of words: k of them from a place on. How it is lent (`&words[a..e]` is `mid_of a (e - a)`), read, written and
-- put back; and a part that a loop writes word by word. Nothing here knows what the words are. Assumes nothing.
use Rattle.std.specs.Prelude.{ℕ, ◌+◌, ◌-◌, ◌≤◌, ◌<◌, ◌≡◌, refl, List, ◌++◌, length, get_or, set, take, drop}
use Rattle.std.proofs.Common.{sym, ◌∙◌, ap, inl, inr, append_assoc, add-one, arith, length-take, length-drop, get_or-take, get_or-drop, get_or-append-add, take_at, drop_at, take_all, take-take, length-take-le, drop-set-lt}
use Rattle.std.proofs.Math.ListN.{get_or-append}
use Rattle.std.proofs.lemmas.List.{take-append-le, drop-append-le, take-set-le, drop-set-add}
use Rattle.std.proofs.Math.Seq.{take-set-lt, paste, paste-suc, length_paste_head}
use Rattle.std.proofs.lemmas.List.Edits.{length-paste}
use borrow.Rule.Slice.PartMut.{mid_of, put_mid, set_mid_at}

-- k words from `at` on
abbrev pub part : ℕ → ℕ → List ℕ → List ℕ
part at k xs = take k (drop at xs)

-- a part that begins at `at`: `of ys` are the words with ys in its place
pub record PartAt (at : ℕ) (of : List ℕ → List ℕ) : Type 0 where
  pub front : List ℕ
  pub back : List ℕ
  pub long : length front ≡ at
  pub is : (ys : List ℕ) → of ys ≡ front ++ (ys ++ back)
