-- The laws of what specs/Board.antt defines.
use Rattle.std.specs.Prelude.{ℕ, zero, suc, ◌+◌, ◌*◌, ◌-◌, ◌/◌, ◌%◌, ◌<◌, ◌≤◌, ◌≡◌, refl, Bool, true, false, not, cond, ◌&&◌, T, eqb, ltb, leb, length, get_or}
use Rattle.std.proofs.Common.{sym, ◌∙◌, ap, arith, eqb-true, leb-true, le-leb, lt-ltb, le-ltb, inl, inr}
use mathlib.Core.List.Memᴰ.{head as here}
use mathlib.Core.List.Memᴰ.{tail as there}
use mathlib.Core.List.{List, [], ◌∷◌, Memᴰ as In}
use Rattle.std.proofs.lemmas.Bool.{not-true, lt-leb}
use Rattle.basics.proofs.Tests.{le?, and_true, T_true}
use Rattle.basics.specs.Sets.{without}
use Rattle.basics.specs.Lists.{same, rises}
use Rattle.basics.proofs.Lists.{same_true, rises_asc}
use Rattle.cuckoo.specs.Graph.{label, joined, component, is_on_cycle, cyclic, spare, settle, seated, stash, root, sits, occupant, next, slot_key, slot_next}
use Rattle.cuckoo.proofs.Agree.{agree_none, agree_some}
use Rattle.hashing.specs.Hash.{Family, first_part, entry, hash, blank, tabulation_length}
use Rattle.hashing.specs.Stations.{Moved}
use Rattle.hashing.specs.Slots.{slot_0, slot_1}
use Rattle.layout.specs.Entries.{Entry, max_tier, keys_of, tier_of, tiered}
use Rattle.layout.specs.Layout.{Params, family, ValidSet, another_issue, one_issue, fits, image, fits_by, slot_words_by, image_by}
use Rattle.layout.proofs.IssuesAfter.{one_issue_iff}
use Rattle.layout.specs.Ends.{Known}
use Rattle.layout.proofs.Ends.{fits_known, image_known}
use Rattle.layout.specs.Board.{board_entry, entries, board_tabulation, old_board, board, plain_0, plain_1, Row, RowHolds, rows, shows, full}

-- it has the length of a tabulation
pub board_length : length board_tabulation ≡ tabulation_length
unfolding board_tabulation
board_length = refl

-- and it is document 01's, moved
entries_at : (f : ℕ → ℕ) (i n k : ℕ) → k < n → get_or (entries f i n) k 0 ≡ f (i + k)
entries_at f i zero k l = absurd (omega arith)
entries_at f i (suc n) zero l = let e : i ≡ i + 0 = omega arith in ap f e
entries_at f i (suc n) (suc k) l = let e : suc i + k ≡ i + suc k = omega arith in entries_at f (suc i) n k (omega arith) ∙ ap f e

module _ (start : ℕ) (far : 256 ≤ start) where
  -- an entry of table 0's half, and one of table 1's
  near : (k : ℕ) → k < start → board_entry start k ≡ cond (ltb k 256) k 0
  near k l = rw (lt-leb start k l)

  beyond : (k : ℕ) → board_entry start (start + k) ≡ cond (ltb k 256) (k / 16) 0
  beyond k =
      let a = le-ltb (start + k) 256 (omega arith) in
      let b = le-leb start (start + k) (omega arith) in
      let c : start + k - start ≡ k = omega arith in
      elim (le? 256 k) [
        | inl l ↦ rw (a, b, le-ltb (start + k) (start + 256) (omega arith), le-ltb k 256 l)
        | inr l ↦ rw (a, b, lt-ltb (start + k) (start + 256) (omega arith), lt-ltb k 256 l, c)
      ]

pub board_moved : Moved old_board board_tabulation
unfolding board_tabulation old_board
board_moved = record { same = same; zeros = zeros }
  where
    new_at : (k : ℕ) → k < 2560 → get_or (entries (board_entry 1280) 0 2560) k 0 ≡ board_entry 1280 k
    new_at k l = let e : 0 + k ≡ k = omega arith in entries_at (board_entry 1280) 0 2560 k l ∙ ap (board_entry 1280) e

    old_at : (k : ℕ) → k < 2048 → get_or (entries (board_entry 1024) 0 2048) k 0 ≡ board_entry 1024 k
    old_at k l = let e : 0 + k ≡ k = omega arith in entries_at (board_entry 1024) 0 2048 k l ∙ ap (board_entry 1024) e

    same : (table i b : ℕ) → table < 2 → i < 4 → b < 256
        → entry (entries (board_entry 1280) 0 2560) table i b ≡ get_or (entries (board_entry 1024) 0 2048) (1024 * table + 256 * i + b) 0
    same zero i b t l m =
        let e : 1280 * 0 + 256 * i + b ≡ 1024 * 0 + 256 * i + b = omega arith in
        new_at (1280 * 0 + 256 * i + b) (omega arith)
        ∙ ap (board_entry 1280) e
        ∙ near 1280 (omega arith) (1024 * 0 + 256 * i + b) (omega arith)
        ∙ sym (near 1024 (omega arith) (1024 * 0 + 256 * i + b) (omega arith))
        ∙ sym (old_at (1024 * 0 + 256 * i + b) (omega arith))
    same (suc zero) i b t l m =
        let e : 1280 * 1 + 256 * i + b ≡ 1280 + (256 * i + b) = omega arith in
        let f : 1024 + (256 * i + b) ≡ 1024 * 1 + 256 * i + b = omega arith in
        new_at (1280 * 1 + 256 * i + b) (omega arith)
        ∙ ap (board_entry 1280) e
        ∙ beyond 1280 (omega arith) (256 * i + b)
        ∙ sym (beyond 1024 (omega arith) (256 * i + b))
        ∙ ap (board_entry 1024) f
        ∙ sym (old_at (1024 * 1 + 256 * i + b) (omega arith))
    same (suc (suc k)) i b t l m = absurd (omega arith)

    zeros : (table b : ℕ) → table < 2 → b < 256 → entry (entries (board_entry 1280) 0 2560) table 4 b ≡ 0
    zeros zero b t m =
        new_at (1280 * 0 + 256 * 4 + b) (omega arith)
        ∙ near 1280 (omega arith) (1280 * 0 + 256 * 4 + b) (omega arith)
        ∙ (rw (le-ltb (1280 * 0 + 256 * 4 + b) 256 (omega arith)))
    zeros (suc zero) b t m =
        let e : 1280 * 1 + 256 * 4 + b ≡ 1280 + (1024 + b) = omega arith in
        new_at (1280 * 1 + 256 * 4 + b) (omega arith)
        ∙ ap (board_entry 1280) e
        ∙ beyond 1280 (omega arith) (1024 + b)
        ∙ (rw (le-ltb (1024 + b) 256 (omega arith)))
    zeros (suc (suc k)) b t m = absurd (omega arith)

-- the test of a row

-- each key of S hashes to its plain ends, through the tabulation
abbrev hashed : Family → List ℕ → Bool
hashed F [] = true
hashed F (c ∷ S) = eqb (slot_0 F c) (plain_0 F.slots c) && eqb (slot_1 F c) (plain_1 F.slots c) && hashed F S

-- the tiers are 0 to 7
abbrev small : List Entry → Bool
small [] = true
small (e ∷ L) = leb e.tier max_tier && small L

-- L is a set, and its keys hash to their plain ends
abbrev ready : ℕ → ℕ → List Entry → Bool
ready r s L = small L && (one_issue (keys_of L) && (rises 9 (keys_of L) && hashed (family (board r s)) (keys_of L)))

abbrev follows : Row → Bool
follows (shows r s L words) =
    ready r s L && (fits_by (plain_0 r) (plain_1 r) s (keys_of L)
    && same (image_by (plain_0 r) (plain_1 r) (tier_of L) r s 0 (keys_of L)) words)
follows (full r s L) = ready r s L && not (fits_by (plain_0 r) (plain_1 r) s (keys_of L))

abbrev all : List Row → Bool
all [] = true
all (R ∷ Rs) = follows R && all Rs

-- the rows follow from the image rule, all at once
rows_follow : T (all rows)
unfolding another_issue one_issue same without label joined component is_on_cycle cyclic spare settle seated stash root sits occupant next slot_key slot_next hash board_tabulation fits_by slot_words_by image_by
rows_follow = tt

-- what the test means

hashed_known : (r s : ℕ) (S : List ℕ) → hashed (family (board r s)) S ≡ true → Known (board r s) (plain_0 r) (plain_1 r) S
hashed_known r s [] e = agree_none
hashed_known r s (c ∷ S) e =
    let F = family (board r s) in
    let p = and_true (eqb (slot_0 F c) (plain_0 r c) && eqb (slot_1 F c) (plain_1 r c)) (hashed F S) e in
    let q = and_true (eqb (slot_0 F c) (plain_0 r c)) (eqb (slot_1 F c) (plain_1 r c)) p.0 in
    agree_some (eqb-true (slot_0 F c) (plain_0 r c) q.0) (eqb-true (slot_1 F c) (plain_1 r c) q.1) (hashed_known r s S p.1)

small_tiers : (L : List Entry) → small L ≡ true → (e : Entry) → In e L → e.tier ≤ max_tier
small_tiers (f ∷ L) t e (here q) = rw q (leb-true f.tier max_tier (and_true (leb f.tier max_tier) (small L) t).0)
small_tiers (f ∷ L) t e (there i) = small_tiers L (and_true (leb f.tier max_tier) (small L) t).1 e i
small_tiers [] t e x'' = elim x'' [ ]

record RowReady (r s : ℕ) (L : List Entry) : Type 0 where
  valid : ValidSet L
  known : Known (board r s) (plain_0 r) (plain_1 r) (keys_of L)

ready_is : (r s : ℕ) (L : List Entry) → ready r s L ≡ true → RowReady r s L
unfolding blank
ready_is r s L e =
    let S = keys_of L in
    let t = and_true (small L) (one_issue S && (rises 9 S && hashed (family (board r s)) S)) e in
    let o = and_true (one_issue S) (rises 9 S && hashed (family (board r s)) S) t.1 in
    let p = and_true (rises 9 S) (hashed (family (board r s)) S) o.1 in
    let v = rises_asc 9 S p.0 in
    record {
      valid = record {
        keys = record { asc = v.0; none_blank = λ c i. le-ltb c 10 (v.1 c i) };
        issues = (one_issue_iff S).0 o.0;
        tiers = small_tiers L t.0;
      };
      known = hashed_known r s S p.1;
    }

holds : (R : Row) → follows R ≡ true → RowHolds R
holds (shows r s L words) e =
    let F = fits_by (plain_0 r) (plain_1 r) s (keys_of L) in
    let W = image_by (plain_0 r) (plain_1 r) (tier_of L) r s 0 (keys_of L) in
    let p = and_true (ready r s L) (F && same W words) e in
    let q = and_true F (same W words) p.1 in
    let d = ready_is r s L p.0 in
    record {
      valid = d.valid;
      fit = fits_known (board r s) d.known ∙ q.0;
      words_are = image_known (board r s) L d.known ∙ same_true W words q.1;
      known = d.known;
    }
holds (full r s L) e =
    let F = fits_by (plain_0 r) (plain_1 r) s (keys_of L) in
    let p = and_true (ready r s L) (not F) e in
    let d = ready_is r s L p.0 in
    record { valid = d.valid; unfit = fits_known (board r s) d.known ∙ not-true F p.1 }

all_hold : (Rs : List Row) → all Rs ≡ true → (R : Row) → In R Rs → RowHolds R
all_hold (R ∷ Rs) e Q (here q) = rw q (holds R (and_true (follows R) (all Rs) e).0)
all_hold (R ∷ Rs) e Q (there i) = all_hold Rs (and_true (follows R) (all Rs) e).1 Q i
all_hold [] e Q x'' = elim x'' [ ]

-- Every row holds: K1 to K12 and the console listing follow from the image rule.
pub board_rows : (R : Row) → In R rows → RowHolds R
board_rows = all_hold rows (T_true (all rows) rows_follow)
