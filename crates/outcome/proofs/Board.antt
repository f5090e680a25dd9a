-- Document 01's board as calls, every card multiplied by ten: the rows of K1 to K12 that are an add or a withdrawal, with the answer and with every word that is
-- left; an add of another issue; and document 02's trails there. They follow from the table of images (layout/specs/Board.antt) and from what a call does to a dictionary that holds a set. Assumes nothing.
use Rattle.std.specs.Prelude.{ℕ, zero, suc, ◌-◌, ◌≤◌, ◌<◌, ◌≡◌, true, false, cond, ltb, length, replicate}
use Rattle.std.proofs.Math.Path.{refl}
use Rattle.std.proofs.Common.{sym, ◌∙◌, ap, arith, ne_eqb, le-ltb}
use mathlib.Core.List.Memᴰ.{head as here}
use mathlib.Core.List.Memᴰ.{tail as there}
use mathlib.Core.List.{List, [], ◌∷◌, ◌++◌, Memᴰ as In}
use Rattle.basics.specs.Sets.{member, without, below, none, some}
use Rattle.cuckoo.specs.Graph.{label, joined, component, is_on_cycle, cyclic, spare, settle, seated, root, sits, occupant}
use Rattle.cuckoo.specs.Trail.{other, trail_from, trail}
use Rattle.cuckoo.proofs.Agree.{trail_agree}
use Rattle.ordered.specs.Keys.{with_key, above}
use Rattle.refusals.specs.Refusal.{done, stash_full, short_trail}
use Rattle.hashing.specs.Hash.{tabulation_length, max_station, slots_in_range, station_in_range, first_part, blank}
use Rattle.layout.specs.Entries.{Entry, max_tier, keys_of}
use Rattle.layout.specs.Layout.{ValidKeys, another_issue, ValidSet, scratch_length, sizes_in_range, params_in_range}
use Rattle.layout.proofs.Shape.{ranged_true}
use Rattle.layout.specs.Board.{plain_0, plain_1, Row, rows, plain, Shown, Full, board, board_tabulation}
use Rattle.layout.proofs.Board.{board_length, board_rows}
use Rattle.layout.specs.Board as Board
use Rattle.layout.specs.Smallest.{smallest, two}
use Rattle.layout.proofs.Smallest.{two_image, two_fit}
use Rattle.outcome.specs.declared.Change.TheVariants.{Insert, Remove}
use Rattle.outcome.specs.Outcome.{changed, change_outcome}
use Rattle.outcome.specs.Held.{Holds}
use Rattle.outcome.proofs.Held.{one_too_many, held_issue, held_new, held_absent, held_remove}
use Rattle.outcome.proofs.HeldAfter.{held_changed}
use Rattle.outcome.specs.Trail.{trail_of, trail_in, trail_refusal, trail_outcome}
use Rattle.outcome.proofs.TrailLaws.{held_asked, held_trail}

-- the words of a row are a dictionary that holds its set
shown_holds : {r s : ℕ} {L : List Entry} {ws : List ℕ} → params_in_range r s 0 ≡ true → Shown r s L ws → Holds (board r s) L ws
shown_holds range h = record { range = range; is = record { valid = h.valid; fit = h.fit; is = sym h.words_are } }

module _ {r s : ℕ} {L : List Entry} {ws : List ℕ} (range : params_in_range r s 0 ≡ true) (h : Shown r s L ws) (scratch : List ℕ)
    (room : scratch_length r s ≤ length scratch) (key : ℕ) (b : blank key ≡ false) where
  -- an insert that leads to a set which does not fit
  insert_full : (tier : ℕ) → tier ≤ max_tier → {R : List Entry} → another_issue key (keys_of L) ≡ false → member key (keys_of L) ≡ false → with_key key (keys_of L) ≡ keys_of R → Full r s R
      → (change_outcome (Insert tier) board_tabulation ws scratch key).answer ≡ stash_full
  insert_full tier small new m e f = held_new (shown_holds range h) board_length scratch room key b tier small new m ∙ (rw (e, f.unfit))

  -- a removal that leads to the set of another row
  remove_shown : {R : List Entry} {us : List ℕ} → member key (keys_of L) ≡ true → changed Remove key L ≡ R → Shown r s R us
      → ((change_outcome Remove board_tabulation ws scratch key).answer ≡ done) × ((change_outcome Remove board_tabulation ws scratch key).words ≡ us)
  remove_shown m e g =
      let d = held_remove (shown_holds range h) board_length scratch room key b m in
      (d, (held_changed (shown_holds range h) Remove scratch key d).is.is ∙ (rw e g.words_are))

-- the rows of the table, by their place in it
abbrev row : List Row → ℕ → Row
row [] n = Row.full 0 0 []
row (R ∷ Rs) zero = R
row (R ∷ Rs) (suc n) = row Rs n

row_in : (Rs : List Row) (n : ℕ) → n < length Rs → In (row Rs n) Rs
row_in [] n l = absurd (omega arith)
row_in (R ∷ Rs) zero l = here refl
row_in (R ∷ Rs) (suc n) l = there (row_in Rs n (omega arith))

row_holds : (n : ℕ) → n < length rows → Board.RowHolds (row rows n)
row_holds n l = board_rows (row rows n) (row_in rows n l)

range : params_in_range 4 1 0 ≡ true
unfolding params_in_range sizes_in_range slots_in_range station_in_range
range = refl

-- r = 4, s = 1, and scratch that is long enough
module _ (scratch : List ℕ) (room : scratch_length 4 1 ≤ length scratch) where
  k5 : Shown 4 1 (plain (10 ∷ 650 ∷ 1290 ∷ [])) (4 ∷ 1 ∷ 3 ∷ 1 ∷ 0 ∷ 0 ∷ 0 ∷ 0 ∷ 10 ∷ 650 ∷ 0 ∷ 0 ∷ 0 ∷ 0 ∷ 0 ∷ 0 ∷ 0 ∷ 650 ∷ 10 ∷ 0 ∷ 0 ∷ 0 ∷ 0 ∷ 0 ∷ 0 ∷ 0 ∷ 0 ∷ 0 ∷ 0 ∷ 1290 ∷ 0 ∷ [])
  k5 = row_holds 4 (omega arith)

  k9 : Shown 4 1 (plain (10 ∷ 330 ∷ 340 ∷ 650 ∷ 980 ∷ [])) (4 ∷ 1 ∷ 5 ∷ 1 ∷ 0 ∷ 0 ∷ 0 ∷ 0 ∷ 10 ∷ 330 ∷ 0 ∷ 340 ∷ 650 ∷ 0 ∷ 0 ∷ 0 ∷ 0 ∷ 650 ∷ 10 ∷ 0 ∷ 0 ∷ 0 ∷ 0 ∷ 330 ∷ 340 ∷ 0 ∷ 0 ∷ 0 ∷ 0 ∷ 980 ∷ 0 ∷ [])
  k9 = row_holds 11 (omega arith)

  -- "K6 K5 plus 193: refused 8.", times ten
  pub k6 : (change_outcome (Insert 0) board_tabulation
      (4 ∷ 1 ∷ 3 ∷ 1 ∷ 0 ∷ 0 ∷ 0 ∷ 0 ∷ 10 ∷ 650 ∷ 0 ∷ 0 ∷ 0 ∷ 0 ∷ 0 ∷ 0 ∷ 0 ∷ 650 ∷ 10 ∷ 0 ∷ 0 ∷ 0 ∷ 0 ∷ 0 ∷ 0 ∷ 0 ∷ 0 ∷ 0 ∷ 0 ∷ 1290 ∷ 0 ∷ []) scratch 1930).answer ≡ 8
  unfolding blank another_issue with_key below above
  k6 = insert_full range k5 scratch room 1930 refl 0 (omega arith) {R = plain (10 ∷ 650 ∷ 1290 ∷ 1930 ∷ [])} refl refl refl (row_holds 7 (omega arith))

  -- K5 plus 651, with the tier of 650 or another: another issue is listed, and 13 is given before 8.
  pub k5_issue : (tier : ℕ) → tier ≤ 7 → (change_outcome (Insert tier) board_tabulation
      (4 ∷ 1 ∷ 3 ∷ 1 ∷ 0 ∷ 0 ∷ 0 ∷ 0 ∷ 10 ∷ 650 ∷ 0 ∷ 0 ∷ 0 ∷ 0 ∷ 0 ∷ 0 ∷ 0 ∷ 650 ∷ 10 ∷ 0 ∷ 0 ∷ 0 ∷ 0 ∷ 0 ∷ 0 ∷ 0 ∷ 0 ∷ 0 ∷ 0 ∷ 1290 ∷ 0 ∷ []) scratch 651).answer ≡ 13
  unfolding blank another_issue
  k5_issue tier small = held_issue (shown_holds range k5) board_length scratch room 651 refl tier small refl

  -- A removal wants the exact issue.
  pub k5_exact : (change_outcome Remove board_tabulation
      (4 ∷ 1 ∷ 3 ∷ 1 ∷ 0 ∷ 0 ∷ 0 ∷ 0 ∷ 10 ∷ 650 ∷ 0 ∷ 0 ∷ 0 ∷ 0 ∷ 0 ∷ 0 ∷ 0 ∷ 650 ∷ 10 ∷ 0 ∷ 0 ∷ 0 ∷ 0 ∷ 0 ∷ 0 ∷ 0 ∷ 0 ∷ 0 ∷ 0 ∷ 1290 ∷ 0 ∷ []) scratch 651).answer ≡ 7
  unfolding blank
  k5_exact = held_absent (shown_holds range k5) board_length scratch room 651 refl refl

  -- "K7 K5 less 65: 0.1 holds 1, 1.0 holds 129, drawer empty.", times ten
  pub k7 : ((change_outcome Remove board_tabulation
      (4 ∷ 1 ∷ 3 ∷ 1 ∷ 0 ∷ 0 ∷ 0 ∷ 0 ∷ 10 ∷ 650 ∷ 0 ∷ 0 ∷ 0 ∷ 0 ∷ 0 ∷ 0 ∷ 0 ∷ 650 ∷ 10 ∷ 0 ∷ 0 ∷ 0 ∷ 0 ∷ 0 ∷ 0 ∷ 0 ∷ 0 ∷ 0 ∷ 0 ∷ 1290 ∷ 0 ∷ []) scratch 650).answer ≡ 0)
      × ((change_outcome Remove board_tabulation
      (4 ∷ 1 ∷ 3 ∷ 1 ∷ 0 ∷ 0 ∷ 0 ∷ 0 ∷ 10 ∷ 650 ∷ 0 ∷ 0 ∷ 0 ∷ 0 ∷ 0 ∷ 0 ∷ 0 ∷ 650 ∷ 10 ∷ 0 ∷ 0 ∷ 0 ∷ 0 ∷ 0 ∷ 0 ∷ 0 ∷ 0 ∷ 0 ∷ 0 ∷ 1290 ∷ 0 ∷ []) scratch 650).words
      ≡ 4 ∷ 1 ∷ 2 ∷ 0 ∷ 0 ∷ 0 ∷ 0 ∷ 0 ∷ 10 ∷ 1290 ∷ 0 ∷ 0 ∷ 0 ∷ 0 ∷ 0 ∷ 0 ∷ 0 ∷ 1290 ∷ 10 ∷ 0 ∷ 0 ∷ 0 ∷ 0 ∷ 0 ∷ 0 ∷ 0 ∷ 0 ∷ 0 ∷ 0 ∷ 0 ∷ 0 ∷ [])
  unfolding blank without
  k7 = remove_shown range k5 scratch room 650 refl refl refl (row_holds 9 (omega arith))

  -- "K10 K9 less 33: 1.2 holds 98, the drawer is empty.", times ten
  pub k10 : ((change_outcome Remove board_tabulation
      (4 ∷ 1 ∷ 5 ∷ 1 ∷ 0 ∷ 0 ∷ 0 ∷ 0 ∷ 10 ∷ 330 ∷ 0 ∷ 340 ∷ 650 ∷ 0 ∷ 0 ∷ 0 ∷ 0 ∷ 650 ∷ 10 ∷ 0 ∷ 0 ∷ 0 ∷ 0 ∷ 330 ∷ 340 ∷ 0 ∷ 0 ∷ 0 ∷ 0 ∷ 980 ∷ 0 ∷ []) scratch 330).answer ≡ 0)
      × ((change_outcome Remove board_tabulation
      (4 ∷ 1 ∷ 5 ∷ 1 ∷ 0 ∷ 0 ∷ 0 ∷ 0 ∷ 10 ∷ 330 ∷ 0 ∷ 340 ∷ 650 ∷ 0 ∷ 0 ∷ 0 ∷ 0 ∷ 650 ∷ 10 ∷ 0 ∷ 0 ∷ 0 ∷ 0 ∷ 330 ∷ 340 ∷ 0 ∷ 0 ∷ 0 ∷ 0 ∷ 980 ∷ 0 ∷ []) scratch 330).words
      ≡ 4 ∷ 1 ∷ 4 ∷ 0 ∷ 0 ∷ 0 ∷ 0 ∷ 0 ∷ 10 ∷ 650 ∷ 0 ∷ 340 ∷ 980 ∷ 0 ∷ 0 ∷ 0 ∷ 0 ∷ 650 ∷ 10 ∷ 0 ∷ 0 ∷ 0 ∷ 0 ∷ 980 ∷ 340 ∷ 0 ∷ 0 ∷ 0 ∷ 0 ∷ 0 ∷ 0 ∷ [])
  unfolding blank without
  k10 = remove_shown range k9 scratch room 330 refl refl refl (row_holds 12 (omega arith))

-- "K12 r = 1, s = 0: two cards fit, the smaller in rack 0; a third is refused 8": for every tabulation, every station, every two keys in it of two first parts,
-- and every third of another, whatever their tiers.
pub k12 : (tabulation scratch : List ℕ) (station : ℕ) → length tabulation ≡ tabulation_length → station ≤ max_station → scratch_length 1 0 ≤ length scratch
    → (c x d y tier key : ℕ) → 9 < c → first_part c < first_part d → x ≤ max_tier → y ≤ max_tier → tier ≤ max_tier → 9 < key
    → (first_part key ≡ first_part c → ⊥) → (first_part key ≡ first_part d → ⊥)
    → (change_outcome (Insert tier) tabulation (1 ∷ 0 ∷ 2 ∷ 0 ∷ station ∷ c ∷ d ∷ x ∷ d ∷ c ∷ y ∷ []) scratch key).answer ≡ 8
unfolding blank another_issue
k12 tabulation scratch station full_length at room c x d y tier key z parts small-x small-y small n nc nd =
    let P = smallest tabulation station in
    let S : List ℕ = c ∷ d ∷ [] in
    let l : c < d = omega arith in
    let keys : ValidKeys S = record {
      asc = some {c = c} {R = d ∷ []} (λ x i. elim i [ here q ↦ omega arith | there j ↦ elim j [ ] ]) (some {c = d} {R = []} (λ x i. elim i [ ]) none);
      none_blank = λ x i. elim i [ here q ↦ le-ltb x 10 (omega arith) | there j ↦ elim j [ here q ↦ le-ltb x 10 (omega arith) | there k ↦ elim k [ ] ] ];
    } in
    let valid : ValidSet (two c x d y) = record {
      keys = keys;
      issues = λ u v i j q. elim i [
        | here e ↦ elim j [ here f ↦ e ∙ sym f | there k ↦ elim k [ here f ↦ absurd (omega (arith, ap first_part e, ap first_part f)) | there m ↦ elim m [ ] ] ]
        | there k ↦ elim k [
          | here e ↦ elim j [ here f ↦ absurd (omega (arith, ap first_part e, ap first_part f)) | there m ↦ elim m [ here f ↦ e ∙ sym f | there o ↦ elim o [ ] ] ]
          | there m ↦ elim m [ ]
        ]
      ];
      tiers = λ e i. elim i [ here q ↦ rw q small-x | there j ↦ elim j [ here q ↦ rw q small-y | there k ↦ elim k [ ] ] ];
    } in
    let h : Holds P (two c x d y) (1 ∷ 0 ∷ 2 ∷ 0 ∷ station ∷ c ∷ d ∷ x ∷ d ∷ c ∷ y ∷ []) = record {
      range = ranged_true 1 0 station (record { has_slots = omega arith; slots_bound = omega arith; places_bound = omega arith }) at;
      is = record { valid = valid; fit = two_fit tabulation station c d l; is = sym (two_image tabulation station c x d y (omega arith) l) };
    } in
    let b = le-ltb key 10 n in
    let new : another_issue key S ≡ false = rw (ne_eqb (first_part c) (first_part key) (λ q. nc (sym q)), ne_eqb (first_part d) (first_part key) (λ q. nd (sym q))) in
    let m : member key S ≡ false = rw (ne_eqb key c (λ q. nc (ap first_part q)), ne_eqb key d (λ q. nd (ap first_part q))) in
    held_new h full_length scratch room key b tier small new m ∙ (rw (one_too_many P key (omega arith) keys b m (omega arith)))

-- Document 02's trails on the board. The trail of a key of a row is that over the plain ends.
module _ {r s : ℕ} {L : List Entry} {ws : List ℕ} (range : params_in_range r s 0 ≡ true) (h : Shown r s L ws) (scratch : List ℕ)
    (room : scratch_length r s ≤ length scratch) (key : ℕ) (b : blank key ≡ false) (m : member key (keys_of L) ≡ true) where
  abbrev pub plainly : List ℕ
  plainly = trail (plain_0 r) (plain_1 r) (seated (plain_0 r) (plain_1 r) (keys_of L)) key

  trail_plainly : trail_of (board r s) (keys_of L) key ≡ plainly
  trail_plainly = trail_agree h.valid.keys.asc h.known key

  -- the trail, and whether n words do for it
  pub shown_trail : {K : List ℕ} → plainly ≡ K
      → (trail_in board_tabulation ws key ≡ K)
      × ((n : ℕ) → trail_refusal board_tabulation ws scratch key n ≡ cond (ltb n (length K)) short_trail done)
  shown_trail {K} e =
      let H = shown_holds range h in
      let t = le-ltb (length scratch) (scratch_length r s) room in
      (held_asked H key ∙ trail_plainly ∙ e, λ n. held_trail H key board_length scratch n ∙ (rw (t, b, m, trail_plainly, e)))

  trail_on_board : {K : List ℕ} → plainly ≡ K → (sheet : List ℕ) → length K ≤ length sheet
      → let o = trail_outcome board_tabulation ws scratch key sheet in
      (o.number ≡ done) × ((o.values ≡ length K ∷ []) × (o.trail ≡ K ++ replicate (length sheet - length K) 0))
  unfolding trail_outcome
  trail_on_board {K} e sheet l =
      let p = shown_trail e in
      let n : trail_refusal board_tabulation ws scratch key (length sheet) ≡ done = p.1 (length sheet) ∙ (rw (le-ltb (length sheet) (length K) l)) in
      (n, (rw (n, p.0), rw (n, p.0)))

-- three words are lent for each
module _ (scratch : List ℕ) (room : scratch_length 4 1 ≤ length scratch) (x y z : ℕ) where
  k8 : Shown 4 1 (plain (170 ∷ 650 ∷ 1290 ∷ [])) (4 ∷ 1 ∷ 3 ∷ 0 ∷ 0 ∷ 0 ∷ 0 ∷ 0 ∷ 650 ∷ 1290 ∷ 0 ∷ 0 ∷ 0 ∷ 0 ∷ 0 ∷ 0 ∷ 0 ∷ 1290 ∷ 170 ∷ 0 ∷ 170 ∷ 650 ∷ 0 ∷ 0 ∷ 0 ∷ 0 ∷ 0 ∷ 0 ∷ 0 ∷ 0 ∷ 0 ∷ [])
  k8 = row_holds 10 (omega arith)

  abbrev shown : ℕ → List ℕ → List ℕ → Type 0
  shown key ws K =
      let o = trail_outcome board_tabulation ws scratch key (x ∷ y ∷ z ∷ []) in
      (o.number ≡ done) × ((o.values ≡ length K ∷ []) × (o.trail ≡ K ++ replicate (3 - length K) 0))

  -- 1290 sits in 1.0 because 650, the smallest on the cycle, sits in 0.1;
  pub k8_1290 : shown 1290 (4 ∷ 1 ∷ 3 ∷ 0 ∷ 0 ∷ 0 ∷ 0 ∷ 0 ∷ 650 ∷ 1290 ∷ 0 ∷ 0 ∷ 0 ∷ 0 ∷ 0 ∷ 0 ∷ 0 ∷ 1290 ∷ 170 ∷ 0 ∷ 170 ∷ 650 ∷ 0 ∷ 0 ∷ 0 ∷ 0 ∷ 0 ∷ 0 ∷ 0 ∷ 0 ∷ 0 ∷ []) (1290 ∷ 650 ∷ [])
  unfolding blank without label joined component is_on_cycle cyclic spare settle seated root sits occupant other trail_from trail
  k8_1290 = trail_on_board range k8 scratch room 1290 refl refl refl (x ∷ y ∷ z ∷ []) (omega arith)

  -- and so does 170, smaller than both, in 1.1.
  pub k8_170 : shown 170 (4 ∷ 1 ∷ 3 ∷ 0 ∷ 0 ∷ 0 ∷ 0 ∷ 0 ∷ 650 ∷ 1290 ∷ 0 ∷ 0 ∷ 0 ∷ 0 ∷ 0 ∷ 0 ∷ 0 ∷ 1290 ∷ 170 ∷ 0 ∷ 170 ∷ 650 ∷ 0 ∷ 0 ∷ 0 ∷ 0 ∷ 0 ∷ 0 ∷ 0 ∷ 0 ∷ 0 ∷ []) (170 ∷ 650 ∷ [])
  unfolding blank without label joined component is_on_cycle cyclic spare settle seated root sits occupant other trail_from trail
  k8_170 = trail_on_board range k8 scratch room 170 refl refl refl (x ∷ y ∷ z ∷ []) (omega arith)

  -- In K9 the trail of 340 goes over 330 to 10, the smallest on the cycle; 980 is stashed, and its trail is empty.
  pub k9_340 : shown 340 (4 ∷ 1 ∷ 5 ∷ 1 ∷ 0 ∷ 0 ∷ 0 ∷ 0 ∷ 10 ∷ 330 ∷ 0 ∷ 340 ∷ 650 ∷ 0 ∷ 0 ∷ 0 ∷ 0 ∷ 650 ∷ 10 ∷ 0 ∷ 0 ∷ 0 ∷ 0 ∷ 330 ∷ 340 ∷ 0 ∷ 0 ∷ 0 ∷ 0 ∷ 980 ∷ 0 ∷ []) (340 ∷ 330 ∷ 10 ∷ [])
  unfolding blank without label joined component is_on_cycle cyclic spare settle seated root sits occupant other trail_from trail
  k9_340 = trail_on_board range (k9 scratch room) scratch room 340 refl refl refl (x ∷ y ∷ z ∷ []) (omega arith)

  pub k9_980 : shown 980 (4 ∷ 1 ∷ 5 ∷ 1 ∷ 0 ∷ 0 ∷ 0 ∷ 0 ∷ 10 ∷ 330 ∷ 0 ∷ 340 ∷ 650 ∷ 0 ∷ 0 ∷ 0 ∷ 0 ∷ 650 ∷ 10 ∷ 0 ∷ 0 ∷ 0 ∷ 0 ∷ 330 ∷ 340 ∷ 0 ∷ 0 ∷ 0 ∷ 0 ∷ 980 ∷ 0 ∷ []) []
  unfolding blank without label joined component is_on_cycle cyclic spare settle seated root sits occupant other trail_from trail
  k9_980 = trail_on_board range (k9 scratch room) scratch room 980 refl refl refl (x ∷ y ∷ z ∷ []) (omega arith)
