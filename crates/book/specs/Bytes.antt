-- Document 01: book.bin is read "low byte first"; document 02: "book.bin has 5,120 bytes". The definitions, that reading undoes writing, and how the loops go on. Assumes nothing.
use Rattle.std.specs.Prelude.{ℕ, ◌+◌, ◌*◌, ◌/◌, ◌%◌, List, [], ◌∷◌}

-- each entry as two bytes, the low byte first
unfoldable pub bytes_of : List ℕ → List ℕ
bytes_of [] = []
bytes_of (e ∷ es) = e % 256 ∷ e / 256 ∷ bytes_of es

-- each two bytes as an entry
unfoldable pub entries_of : List ℕ → List ℕ
entries_of [] = []
entries_of (l ∷ []) = []
entries_of (l ∷ h ∷ bs) = (256 * h + l) ∷ entries_of bs
