-- Any list of entries at all, inserted one by one: with several issues of a card, an entry more than once, blank keys
-- and wrong tiers among them, which are refused (13, 6, 10, 5 and 9). How many keys are listed at the end depends on
-- which first parts come, and on nothing else: issues of one first part have the same two slots, so that feeding the
-- first parts tells it. Assumes nothing.
use Rattle.std.specs.Prelude.{ℕ, ◌+◌, ◌*◌, ◌≤◌, min, ◌≡◌, refl, true, false, not, cond, length}
use Rattle.std.proofs.Math.Path.{sym, ap}
use Rattle.std.proofs.Common.{◌∙◌, arith}
use Rattle.std.proofs.Math.Bool.{true≢false}
use Rattle.std.proofs.Math.Logic.{inl, inr}
use mathlib.Core.List.Memᴰ.{head as here}
use mathlib.Core.List.Memᴰ.{tail as there}
use mathlib.Core.List.{List, [], ◌∷◌, map, Memᴰ as In}
use borrow.Author.Tests.{eq-eqb, ne_eqb, ltb-false, not-true, not-false}
use Rattle.std.proofs.lemmas.List.{length-map}
use Rattle.basics.specs.Tests.{test}
use Rattle.basics.proofs.Tests.{eq?, and_true}
use Rattle.basics.specs.Sets.{Asc, Sub}
use Rattle.basics.proofs.Sets.{asc_ext, in?, in_member, no_member}
use Rattle.basics.proofs.Lists.{from_map, in_map, asc_map}
use Rattle.ordered.specs.Keys.{with_key}
use Rattle.ordered.proofs.Place.{with_cases, with_here, with_there, asc_with, with_same}
use Rattle.cuckoo.specs.Graph.{seated}
use Rattle.feeding.specs.Feed.{fed, feed_on, feed, set_of}
use Rattle.feeding.proofs.Feeding.{feed_length}
use Rattle.feeding.proofs.FeedingAfter.{feed_most, any_order}
use Rattle.refusals.specs.Refusal.{done, first_refusal, and}
use Rattle.refusals.proofs.Refusals.{front_none}
use Rattle.refusals.specs.Refusal as Refusal
use Rattle.hashing.specs.Hash.{tabulation_length, first_part, blank}
use Rattle.hashing.proofs.Issues.{not_blank_iff}
use Rattle.hashing.specs.Slots.{slot_0, slot_1}
use Rattle.layout.specs.Entries.{Entry, max_tier, keys_of}
use Rattle.layout.proofs.Entries.{length_keys}
use Rattle.layout.specs.Layout.{Params, OneIssue, another_issue, family, scratch_length, fits, key_count}
use Rattle.layout.proofs.Image.{fits_le, image_keys}
use Rattle.layout.proofs.Issues.{order_parts}
use Rattle.layout.proofs.IssuesAfter.{no_other, one_issue_with}
use Rattle.layout.specs.Reissued.{Reissues}
use Rattle.layout.proofs.Reissued.{reissued_fits}
use Rattle.outcome.specs.declared.Change.TheVariants.{Insert}
use Rattle.outcome.specs.Held.{Holds}
use Rattle.outcome.proofs.Held.{held_new, keys_changed_valid}
use Rattle.history.specs.Calls.{own, Call, words_left, Sequence}
use Rattle.history.specs.Model.{requests, put_in, change_tests, reply, set_after, set_left}
use Rattle.history.proofs.Starts.{start_holds}
use Rattle.history.proofs.Changes.{put_in_keys, change_number, change_agrees}
use Rattle.history.proofs.History.{history}
use Rattle.orders.specs.Inserts.{Inserts, none, more, lawful, part_key, parts_come}
use Rattle.orders.proofs.Orders.{fed_in, fed_out}
use Rattle.orders.specs.Orders.{set_with}

-- The keys of a set, each by its first part: an issue of each, so that they ascend and fit as the set does.
part_same : (c : ℕ) → first_part (part_key c) ≡ first_part c
part_same c = omega arith

reissues : (S : List ℕ) → Reissues part_key S
reissues S = record { no_key = refl; same_part = λ c i. part_same c }

parts_asc : {S : List ℕ} → OneIssue S → Asc S → Asc (map part_key S)
parts_asc one asc = asc_map part_key asc (λ x y i j l. omega (arith, (order_parts one x y i j).0 l))

parts_with : (c : ℕ) {S : List ℕ} → Asc S → OneIssue S → OneIssue (with_key c S)
    → map part_key (with_key c S) ≡ with_key (part_key c) (map part_key S)
parts_with c {S} asc one one' =
    asc_ext (map part_key (with_key c S)) (with_key (part_key c) (map part_key S))
    (parts_asc one' (asc_with c asc)) (asc_with (part_key c) (parts_asc one asc))
    (λ y i.
    let r = from_map part_key (with_key c S) i in
    elim (with_cases c S r.1.0) [
      | inl q ↦ rw (r.1.1, q) (with_here (part_key c) (map part_key S))
      | inr j ↦ rw r.1.1 (with_there (part_key c) (map part_key S) (in_map part_key j))
    ])
    (λ y i. elim (with_cases (part_key c) (map part_key S) i) [
      | inl q ↦ rw q (in_map part_key (with_here c S))
      | inr j ↦
          let r = from_map part_key S j in
          rw r.1.1 (in_map part_key (with_there c S r.1.0))
    ])

fed_same : (P : Params) {X : List ℕ} {c : ℕ} → Asc X → In c X
    → fed (slot_0 (family P)) (slot_1 (family P)) P.places X c ≡ X
fed_same P {X} {c} asc i = elim (test (fits P (with_key c X))) [
  | inl f ↦ fed_in P X c f ∙ with_same c X asc i
  | inr f ↦ fed_out P X c f
]

-- one insert

-- the register's answer, and what feeding makes of the first parts
abbrev number : Params → List Entry → Entry → List ℕ → ℕ
number P K e scratch = first_refusal (change_tests P (Insert e.tier) own (length scratch) e.key K)

abbrev fed_part : Params → List Entry → Entry → List ℕ
fed_part P K e =
    fed (slot_0 (family P)) (slot_1 (family P)) P.places (map part_key (keys_of K)) (part_key e.key)

module _ {P : Params} {K : List Entry} {ws : List ℕ} (h : Holds P K ws) (e : Entry) where
  abbrev S : List ℕ
  S = keys_of K

  one : OneIssue S
  one = h.is.valid.issues

  asc : Asc S
  asc = h.is.valid.keys.asc

  -- a new key of which no other issue is there
  module _ (b : blank e.key ≡ false) (alone : another_issue e.key S ≡ false) where
    one_with : OneIssue (with_key e.key S)
    one_with = one_issue_with e.key alone one

    part_with : map part_key (with_key e.key S) ≡ with_key (part_key e.key) (map part_key S)
    part_with = parts_with e.key asc one one_with

    part_fits : fits P (with_key (part_key e.key) (map part_key S)) ≡ fits P (with_key e.key S)
    part_fits =
        ap (fits P) (sym part_with)
        ∙ reissued_fits P (keys_changed_valid (Insert e.tier) e.key b h.is.valid.keys) one_with
        (reissues (with_key e.key S))

  -- accepted: none of the refusals applies
  part_done : (scratch : List ℕ) → number P K e scratch ≡ done
      → (lawful e ≡ true) × (map part_key (keys_of (put_in e K)) ≡ fed_part P K e)
  unfolding lawful
  part_done scratch z =
      elim (front_none (change_tests P (Insert e.tier) own (length scratch) e.key K) [] z refl) [
        | and x (and y (and b (and t (and alone (and o (and m (and f Refusal.none))))))) ↦ (
          simp (b, t),
          ap (map part_key) (put_in_keys e K asc (λ i. true≢false (sym (in_member i) ∙ m))) ∙ part_with b alone
              ∙ sym (fed_in P (map part_key S) (part_key e.key) (part_fits b alone ∙ not-false _ f)),
        )
      ]

  -- refused, though it is lawful: an issue is there, or it does not fit
  part_refused : length P.tabulation ≡ tabulation_length → (scratch : List ℕ)
      → scratch_length P.slots P.places ≤ length scratch → (number P K e scratch ≡ done → ⊥) → lawful e ≡ true
      → map part_key S ≡ fed_part P K e
  unfolding lawful
  part_refused full_length scratch room n l =
      elim (in? (part_key e.key) (map part_key S)) [
        | inl i ↦ sym (fed_same P (parts_asc one asc) i)
        | inr out ↦
            let p = and_true (not (blank e.key)) _ l in
            let b = not-true (blank e.key) p.0 in
            let small = ltb-false max_tier e.tier (not-true _ p.1) in
            let far : (d : ℕ) → In d S → first_part d ≡ first_part e.key → ⊥ = λ d i q.
            out (rw (ap (λ (x : ℕ). 10 * x) q) at (in_map part_key i)) in
            let alone = no_other e.key S (λ a. far a.0 a.1.0 a.1.1.0) in
            let absent = no_member e.key S (λ i. far e.key i refl) in
            let says = sym (change_number h full_length (Insert e.tier) own scratch e.key)
            ∙ held_new h full_length scratch room e.key b e.tier small alone absent in
            elim (test (fits P (with_key e.key S))) [
              | inl f ↦ absurd (n (says ∙ (rw f)))
              | inr f ↦ sym (fed_out P (map part_key S) (part_key e.key) (part_fits b alone ∙ f))
            ]
      ]

  -- So the first parts of the set become what feeding makes of them.
  part_step : length P.tabulation ≡ tabulation_length → (scratch : List ℕ)
      → scratch_length P.slots P.places ≤ length scratch
      → map part_key (keys_of (set_with P K e scratch)) ≡ cond (lawful e) (fed_part P K e) (map part_key S)
  unfolding reply
  part_step full_length scratch room = elim (eq? (number P K e scratch) done) [
    | inl z ↦ let p = part_done scratch z in rw (eq-eqb (number P K e scratch) done z, p.0) p.1
    | inr n ↦ elim (test (lawful e)) [
      | inl l ↦ rw (ne_eqb (number P K e scratch) done n, l) (part_refused full_length scratch room n l)
      | inr l ↦ rw (ne_eqb (number P K e scratch) done n, l)
    ]
  ]

parts_entered : {P : Params} → length P.tabulation ≡ tabulation_length → (K : List Entry) {M : List Entry}
    {ws : List ℕ} {cs : List Call} → Holds P K ws → Inserts P M cs
    → map part_key (keys_of (set_after P K (requests P.tabulation ws cs)))
    ≡ feed_on (slot_0 (family P)) (slot_1 (family P)) P.places (map part_key (keys_of K)) (parts_come M)
unfolding requests set_after feed_on parts_come
parts_entered full_length K h none = refl
parts_entered {P} full_length K h (more {e} {M} {cs} scratch counters room rest) =
    let a = change_agrees h full_length (Insert e.tier) own scratch counters e.key in
    let r = parts_entered full_length (set_with P K e scratch) a.holds rest in
    let s = part_step h e full_length scratch room in
    let on : List ℕ → List ℕ = λ X. feed_on (slot_0 (family P)) (slot_1 (family P)) P.places X (parts_come M) in
    elim (test (lawful e)) [
      | inl l ↦ rw l (r ∙ ap on (s ∙ (rw l)))
      | inr l ↦ rw l (r ∙ ap on (s ∙ (rw l)))
    ]

-- No first part that comes is 0,
parts_nonzero : (M : List Entry) → In 0 (parts_come M) → ⊥
unfolding parts_come lawful
parts_nonzero (e ∷ M) i = elim (test (lawful e)) [
  | inl l ↦
      let b = not-true (blank e.key) (and_true (not (blank e.key)) _ l).0 in
      elim (rw l at i) [
        | here q ↦ omega (arith, (not_blank_iff e.key).0 b)
        | there j ↦ parts_nonzero M j
      ]
  | inr l ↦ parts_nonzero M (rw l at i)
]
parts_nonzero [] i = elim i [ ]

-- each is that of an entry that comes, and lists with the same entries have the same first parts.
from_part : (M : List Entry) {c : ℕ} → In c (parts_come M)
    → (e : Entry) × In e M × ((lawful e ≡ true) × (c ≡ part_key e.key))
unfolding parts_come
from_part (e ∷ M) i = elim (test (lawful e)) [
  | inl l ↦ elim (rw l at i) [
    | here q ↦ (e, here refl, (l, q))
    | there j ↦ let r = from_part M j in (r.0, there r.1, r.2)
  ]
  | inr l ↦ let r = from_part M (rw l at i) in (r.0, there r.1, r.2)
]
from_part [] {c = c} i = elim i [ ]

in_part : (N : List Entry) {e : Entry} → In e N → lawful e ≡ true → In (part_key e.key) (parts_come N)
unfolding parts_come
in_part (g ∷ N) {e} i l = elim i [
  | here q ↦ let m : lawful g ≡ true = rw q at l in rw m (here (ap (λ (x : Entry). part_key x.key) q))
  | there j ↦ elim (test (lawful g)) [ inl m ↦ rw m (there (in_part N j l)) | inr m ↦ rw m (in_part N j l) ]
]
in_part [] {e = e} i l = elim i [ ]

parts_sub : {M N : List Entry} → ((e : Entry) → In e M → In e N) → Sub (parts_come M) (parts_come N)
parts_sub {M} {N} f c i =
    let r = from_part M i in
    rw r.2.1 (in_part N (f r.0 r.1) r.2.0)

-- Any list of inserts, from a list freshly laid on: the first parts that are listed are those that feeding lists,
module _ {P : Params} {ws : List ℕ} {cs : List Call} (q : Sequence P [] ws cs) {M : List Entry}
    (i : Inserts P M cs) where
  pub parts_fed : map part_key (keys_of (set_left P [] ws cs))
      ≡ feed (slot_0 (family P)) (slot_1 (family P)) P.places (parts_come M)
  unfolding feed
  parts_fed = parts_entered q.full_length [] (start_holds q.start) i

  listed_parts : key_count (words_left P ws cs)
      ≡ length (feed (slot_0 (family P)) (slot_1 (family P)) P.places (parts_come M))
  listed_parts =
      ap key_count (history q).final.is.is ∙ image_keys P (set_left P [] ws cs)
      ∙ sym (length-map (keys_of (set_left P [] ws cs)) part_key) ∙ ap length parts_fed

  -- and their number, word 2 of the words, is told by which first parts come.
  pub any_list_count : key_count (words_left P ws cs)
      ≡ min (length (set_of (parts_come M)))
      (length (seated (slot_0 (family P)) (slot_1 (family P)) (set_of (parts_come M))) + P.places)
  any_list_count =
      listed_parts
      ∙ feed_length (slot_0 (family P)) (slot_1 (family P)) P.places (parts_come M) (parts_nonzero M)

  -- No choice lists more: a list with issues of these first parts alone holds at most as many keys.
  pub any_list_most : {K : List Entry} {us : List ℕ} → Holds P K us
      → ((c : ℕ) → In c (keys_of K) → In (part_key c) (parts_come M)) → length K ≤ key_count (words_left P ws cs)
  any_list_most {K} h sub =
      let S = keys_of K in
      let one = h.is.valid.issues in
      let fit = reissued_fits P h.is.valid.keys one (reissues S) ∙ h.is.fit in
      let m = feed_most (slot_0 (family P)) (slot_1 (family P)) P.places (parts_come M) (parts_nonzero M)
      (parts_asc one h.is.valid.keys.asc)
      (λ c i. let r = from_map part_key S i in rw r.1.1 (sub r.0 r.1.0))
      (fits_le P (map part_key S) fit) in
      omega (arith, listed_parts, length_keys K, length-map S part_key)

-- Two lists of inserts with the same entries, in whatever order and however often each comes, list equally many.
pub any_list : {P : Params} {ws ws' : List ℕ} {cs cs' : List Call} {M M' : List Entry}
    → Sequence P [] ws cs → Inserts P M cs → Sequence P [] ws' cs' → Inserts P M' cs'
    → ((e : Entry) → In e M → In e M') → ((e : Entry) → In e M' → In e M)
    → key_count (words_left P ws cs) ≡ key_count (words_left P ws' cs')
any_list {P} {M = M} {M'} q i q' i' f g =
    listed_parts q i
    ∙ any_order (slot_0 (family P)) (slot_1 (family P)) P.places (parts_come M) (parts_come M') (parts_nonzero M)
    (parts_sub f) (parts_sub g)
    ∙ sym (listed_parts q' i')
