-- The laws of what specs/Orders.antt defines.
use Rattle.std.specs.Prelude.{ℕ, ◌≤◌, ◌≡◌, refl, true, false, cond, ◌⊎◌, eqb, ltb, length, replicate}
use Rattle.std.proofs.Common.{sym, ◌∙◌, ap, true≢false, inl, inr, arith, eq-eqb, ne_eqb}
use mathlib.Core.List.Memᴰ.{head as here}
use mathlib.Core.List.Memᴰ.{tail as there}
use mathlib.Core.List.{List, [], ◌∷◌, Memᴰ as In}
use Rattle.std.proofs.lemmas.List.{length-replicate}
use Rattle.basics.specs.Tests.{test}
use Rattle.basics.specs.Sets.{Asc, Sub}
use Rattle.basics.proofs.Sets.{asc_ext, no_member}
use Rattle.ordered.specs.Keys.{with_key}
use Rattle.ordered.proofs.Place.{with_cases, asc_with}
use Rattle.feeding.specs.Feed.{fed, feed_on, feed}
use Rattle.refusals.specs.Refusal.{done, stash_full, first_refusal}
use Rattle.hashing.specs.Hash.{tabulation_length, blank}
use Rattle.hashing.specs.Slots.{slot_0, slot_1}
use Rattle.layout.specs.Entries.{Entry, max_tier, keys_of, tier_of}
use Rattle.layout.proofs.Entries.{key_in, in_key}
use Rattle.layout.specs.Entries.{tiered}
use Rattle.layout.proofs.Entries.{tiered_self, tiered_agree, tiered_in}
use Rattle.layout.specs.Layout.{Params, ValidSet, another_issue, family, scratch_length, fits, fits_by, image}
use Rattle.layout.proofs.IssuesAfter.{no_other}
use Rattle.layout.proofs.Fitting.{part_fits}
use Rattle.counters.specs.declared.Counters.{Counters}
use Rattle.outcome.specs.declared.Change.TheVariants.{Insert}
use Rattle.outcome.specs.Held.{Holds}
use Rattle.outcome.proofs.Held.{held_new}
use Rattle.bulk.specs.Bulk.{input_set, bulk_outcome}
use Rattle.bulk.specs.Input.{SoundInput}
use Rattle.bulk.proofs.Input.{sound_set, even_keys}
use Rattle.bulk.specs.Laws.{Layable}
use Rattle.bulk.proofs.Laws.{bulk_answer, bulk_fits, bulk_accepted}
use Rattle.history.specs.Calls.{own, Call, Step, step, run, words_left, Allowed, Sequence}
use Rattle.history.specs.Calls as Calls
use Rattle.history.specs.Model.{Request, requests, put_in, change_tests, reply, set_after, set_left}
use Rattle.history.proofs.Starts.{start_holds}
use Rattle.history.proofs.Changes.{put_in_keys, change_number, change_agrees}
use Rattle.history.proofs.History.{history}
use Rattle.orders.specs.Inserts.{Inserts, none, more, came_to, NoRepeat, empty, new, Order}
use Rattle.orders.specs.Orders.{set_with}

-- entries of a set

-- an entry is put in, and nothing else
put_cases : (e : Entry) (K : List Entry) {x : Entry} → In x (put_in e K) → (x ≡ e) ⊎ In x K
put_cases e [] (here q) = inl q
put_cases e (f ∷ K) i = elim (test (ltb e.key f.key)) [
  | inl l ↦ elim (rw l at i) [ here q ↦ inl q | there j ↦ inr j ]
  | inr l ↦ elim (rw l at i) [
    | here q ↦ inr (here q)
    | there j ↦ elim (put_cases e K j) [ inl q ↦ inl q | inr k ↦ inr (there k) ]
  ]
]
put_cases e [] (there x7) = elim x7 [ ]

put_here : (e : Entry) (K : List Entry) → In e (put_in e K)
put_here e [] = here refl
put_here e (f ∷ K) = elim (test (ltb e.key f.key)) [
  | inl l ↦ rw l (here refl)
  | inr l ↦ rw l (there (put_here e K))
]

put_there : (e : Entry) (K : List Entry) {x : Entry} → In x K → In x (put_in e K)
put_there e (f ∷ K) i = elim (test (ltb e.key f.key)) [
  | inl l ↦ rw l (there i)
  | inr l ↦ rw l (elim i [ here q ↦ here q | there j ↦ there (put_there e K j) ])
]
put_there e [] i = elim i [ ]

-- two sets with the same entries are one
entry_tier : (L : List Entry) → Asc (keys_of L) → {e : Entry} → In e L → e.tier ≡ tier_of L e.key
entry_tier L asc i = tiered_in (tier_of L) (keys_of L) (rw (tiered_self L asc) i)

keys_sub : {K L : List Entry} → ((e : Entry) → In e K → In e L) → Sub (keys_of K) (keys_of L)
keys_sub {K} {L} f c i = let r = in_key K i in rw r.2 at (key_in L (f r.0 r.1))

pub set_ext : (K L : List Entry) → Asc (keys_of K) → Asc (keys_of L)
    → ((e : Entry) → In e K → In e L) → Sub (keys_of L) (keys_of K) → K ≡ L
set_ext K L asc asc' f g =
    let keys = asc_ext (keys_of K) (keys_of L) asc asc' (keys_sub f) g in
    sym (tiered_self K asc)
    ∙ tiered_agree {t = tier_of K} {u = tier_of L} (keys_of K) (λ c i.
    let r = in_key K i in
    rw r.2 at (sym (entry_tier K asc r.1) ∙ entry_tier L asc' (f r.0 r.1)))
    ∙ ap (tiered (tier_of L)) keys ∙ tiered_self L asc'

-- one insert

-- feeding takes a key where the new set fits, and skips it where not
pub fed_in : (P : Params) (X : List ℕ) (c : ℕ) → fits P (with_key c X) ≡ true
    → fed (slot_0 (family P)) (slot_1 (family P)) P.places X c ≡ with_key c X
unfolding fed fits fits_by
fed_in P X c f = rw f

pub fed_out : (P : Params) (X : List ℕ) (c : ℕ) → fits P (with_key c X) ≡ false
    → fed (slot_0 (family P)) (slot_1 (family P)) P.places X c ≡ X
unfolding fed fits fits_by
fed_out P X c f = rw f

-- the call, and the register's set after it
abbrev inserting : Entry → List ℕ → Counters → Call
inserting e scratch counters = Call.change (Insert e.tier) own scratch counters e.key

-- What an insert of a new key e makes of the register's set K: n is its answer, and R the set afterwards.
data Tried (P : Params) (K : List Entry) (e : Entry) (R : List Entry) (n : ℕ) : Type 0 where
  put : n ≡ done → R ≡ put_in e K → fits P (with_key e.key (keys_of K)) ≡ true → Tried P K e R n
  full : n ≡ stash_full → R ≡ K → fits P (with_key e.key (keys_of K)) ≡ false → Tried P K e R n

tried : {P : Params} {K : List Entry} {ws : List ℕ} → Holds P K ws → length P.tabulation ≡ tabulation_length
    → (e : Entry) → blank e.key ≡ false → e.tier ≤ max_tier
    → another_issue e.key (keys_of K) ≡ false → (In e.key (keys_of K) → ⊥)
    → (scratch : List ℕ) (counters : Counters) → scratch_length P.slots P.places ≤ length scratch
    → Tried P K e (set_with P K e scratch) (step P.tabulation ws (inserting e scratch counters)).answer.number
unfolding step reply
tried {P} {K} {ws} h full_length e b small alone out scratch counters room =
    let n = first_refusal (change_tests P (Insert e.tier) own (length scratch) e.key K) in
    let is = change_number h full_length (Insert e.tier) own scratch e.key in
    let absent = no_member e.key (keys_of K) out in
    let says = held_new h full_length scratch room e.key b e.tier small alone absent in
    elim (test (fits P (with_key e.key (keys_of K)))) [
      | inl f ↦
          let d : n ≡ done = sym is ∙ says ∙ (rw f) in
          put (says ∙ (rw f)) (rw (eq-eqb n done d)) f
      | inr f ↦
          let d : n ≡ stash_full = sym is ∙ says ∙ (rw f) in
          full (says ∙ (rw f)) (rw (ne_eqb n done (λ z. omega arith))) f
    ]

-- the keys are those that feeding gives
tried_keys : {P : Params} {K R : List Entry} {e : Entry} {n : ℕ} → Asc (keys_of K) → (In e.key (keys_of K) → ⊥)
    → Tried P K e R n → keys_of R ≡ fed (slot_0 (family P)) (slot_1 (family P)) P.places (keys_of K) e.key
tried_keys {P} {K} {e = e} asc out (put d q f) =
    rw q (put_in_keys e K asc out ∙ sym (fed_in P (keys_of K) e.key f))
tried_keys {P} {K} {e = e} asc out (full d q f) = rw q (sym (fed_out P (keys_of K) e.key f))

tried_from : {P : Params} {K R : List Entry} {e : Entry} {n : ℕ} → Tried P K e R n → {x : Entry} → In x R
    → (x ≡ e) ⊎ In x K
tried_from {K = K} {e = e} (put d q f) i = put_cases e K (rw q at i)
tried_from (full d q f) i = inr (rw q at i)

-- all of an order

-- An order of L, partly inserted: the register's set is K, and M is what is to come.
record ToCome (L M K : List Entry) : Type 0 where
  each : (e : Entry) → In e M → In e L
  part : (e : Entry) → In e K → In e L
  apart : (e : Entry) → In e M → In e.key (keys_of K) → ⊥

to_come_next : {P : Params} {L : List Entry} {e : Entry} {M K R : List Entry} {n : ℕ} → (In e.key (keys_of M) → ⊥)
    → ToCome L (e ∷ M) K → Tried P K e R n → ToCome L M R
to_come_next {e = e} {M} {K} {R} fresh h s = record {
  each = λ x i. h.each x (there i);
  part = λ x i. elim (tried_from s i) [ inl q ↦ rw q (h.each e (here refl)) | inr j ↦ h.part x j ];
  apart = λ x i k.
      let r = in_key R k in
      elim (tried_from s r.1) [
        | inl q ↦ fresh (rw (← r.2, q) at (key_in M i))
        | inr j ↦ h.apart x (there i) (rw r.2 at (key_in K j))
      ];
}

-- What the inserts of M come to, n, where the register's set is K at first and S at the end: all are accepted, or 8.
data CameTo (P : Params) (L K M S : List Entry) (n : ℕ) : Type 0 where
  all_in : n ≡ done → ((x : Entry) → In x K ⊎ In x M → In x S) → CameTo P L K M S n
  too_many : n ≡ stash_full → fits P (keys_of L) ≡ false → CameTo P L K M S n

came_next : {P : Params} {L : List Entry} {e : Entry} {K M R S : List Entry} {n m : ℕ} → ValidSet L → Asc (keys_of K)
    → ToCome L (e ∷ M) K → Tried P K e R n → CameTo P L R M S m → CameTo P L K (e ∷ M) S (cond (eqb n done) m n)
came_next {e = e} {K} {n = n} valid asc h (put d q f) (all_in z g) = rw (eq-eqb n done d) (all_in z (λ x i.
    elim i [
      | inl j ↦ g x (inl (rw q (put_there e K j)))
      | inr (here w) ↦ g x (inl (rw (w, q) (put_here e K)))
      | inr (there j) ↦ g x (inr j)
    ]))
came_next {n = n} valid asc h (put d q f) (too_many z g) = rw (eq-eqb n done d) (too_many z g)
came_next {P} {L} {e} {K} {n = n} valid asc h (full d q f) c =
    let k = e.key in
    let sub : Sub (with_key k (keys_of K)) (keys_of L) = λ c j. elim (with_cases k (keys_of K) j) [
      | inl q ↦ rw q (key_in L (h.each e (here refl)))
      | inr m ↦ keys_sub h.part c m
    ] in
    rw (ne_eqb n done (λ z. omega arith)) (too_many d (elim (test (fits P (keys_of L))) [
      | inl g ↦ absurd (true≢false (sym (part_fits P valid.keys (asc_with k asc) sub g) ∙ f))
      | inr g ↦ g
    ]))

-- What is proved of the inserts cs of M on words ws that hold K.
record Entered (P : Params) (L K M : List Entry) (ws : List ℕ) (cs : List Call) : Type 0 where
  keys : keys_of (set_after P K (requests P.tabulation ws cs))
      ≡ feed_on (slot_0 (family P)) (slot_1 (family P)) P.places (keys_of K) (keys_of M)
  from : (x : Entry) → In x (set_after P K (requests P.tabulation ws cs)) → In x L
  answers : (o : Step) → In o (run P.tabulation ws cs)
      → (o.answer.number ≡ done) ⊎ (o.answer.number ≡ stash_full)
  came : CameTo P L K M (set_after P K (requests P.tabulation ws cs)) (came_to (run P.tabulation ws cs))

entered : {P : Params} {L : List Entry} → length P.tabulation ≡ tabulation_length → ValidSet L → (K : List Entry)
    {M : List Entry} {ws : List ℕ} {cs : List Call} → Holds P K ws → Inserts P M cs → NoRepeat M → ToCome L M K
    → Entered P L K M ws cs
unfolding requests set_after run came_to feed_on
entered full_length valid K held none empty h = record {
  keys = refl;
  from = h.part;
  answers = λ o i. elim i [ ];
  came = all_in refl (λ x i. elim i [ inl j ↦ j | inr j ↦ elim j [ ] ]);
}
entered {P} {L} full_length valid K {ws = ws} held (more {e} {M} {cs} scratch counters room rest) (new fresh once) h =
    let i = h.each e (here refl) in
    let k = key_in L i in
    let asc = held.is.valid.keys.asc in
    let out = h.apart e (here refl) in
    let alone : another_issue e.key (keys_of K) ≡ false = no_other e.key (keys_of K) (λ a.
    a.1.1.1 (valid.issues a.0 e.key (keys_sub h.part a.0 a.1.0) k a.1.1.0)) in
    let b = valid.keys.none_blank e.key k in
    let s = tried held full_length e b (valid.tiers e i) alone out scratch counters room in
    let a = change_agrees held full_length (Insert e.tier) own scratch counters e.key in
    let r = entered full_length valid (set_with P K e scratch) a.holds rest once (to_come_next fresh h s) in
    record {
      keys =
          r.keys ∙ ap (λ (X : List ℕ). feed_on (slot_0 (family P)) (slot_1 (family P)) P.places X (keys_of M))
          (tried_keys asc out s);
      from = r.from;
      answers = λ o j. elim j [
        | here q ↦ rw q (elim s [ put d w f ↦ inl d | full d w f ↦ inr d ])
        | there m ↦ r.answers o m
      ];
      came = came_next valid asc h s r.came;
    }

-- Of every list of entries there are inserts, and they may stand anywhere: every order is that of a sequence.
pub all_inserts : (P : Params) (M : List Entry) → (cs : List Call) × Inserts P M cs
all_inserts P [] = ([], none)
all_inserts P (e ∷ M) =
    let n = scratch_length P.slots P.places in
    let counters : Counters = record { done = 0; refused = 0 } in
    let r = all_inserts P M in (
      inserting e (replicate n 0) counters ∷ r.0,
      more (replicate n 0) counters (omega (arith, length-replicate {A = ℕ} n 0)) r.1,
    )

pub inserts_allowed : {P : Params} (ws : List ℕ) {M : List Entry} {cs : List Call} → Inserts P M cs
    → Allowed P.tabulation ws cs
inserts_allowed ws none = Calls.none
inserts_allowed {P} ws (more {e} {M} {cs} scratch counters room rest) =
    Calls.more tt (inserts_allowed (step P.tabulation ws (inserting e scratch counters)).words rest)

-- The inserts of a set in whatever order, from a list freshly laid on.
module _ {P : Params} {ws : List ℕ} {cs : List Call} (q : Sequence P [] ws cs) {M L : List Entry} (i : Inserts P M cs)
    (order : Order M L) (valid : ValidSet L) where
  whole : Entered P L [] M ws cs
  whole = entered q.full_length valid [] (start_holds q.start) i order.once (record {
    each = order.each;
    part = λ e j. elim j [ ];
    apart = λ e j k. elim k [ ];
  })

  -- The bridge: the register's keys are those that feeding lists, with the entries of the set,
  pub fed_keys : keys_of (set_left P [] ws cs) ≡ feed (slot_0 (family P)) (slot_1 (family P)) P.places (keys_of M)
  unfolding feed
  fed_keys = whole.keys

  pub fed_entries : (e : Entry) → In e (set_left P [] ws cs) → In e L
  fed_entries = whole.from

  -- and no call answers other than 0 and 8.
  pub only_full : (o : Step) → In o (run P.tabulation ws cs)
      → (o.answer.number ≡ done) ⊎ (o.answer.number ≡ stash_full)
  only_full = whole.answers

  held : Holds P (set_left P [] ws cs) (words_left P ws cs)
  held = (history q).final

  -- all were accepted: the register has the whole set
  all_listed : ((x : Entry) → In x [] ⊎ In x M → In x (set_left P [] ws cs)) → set_left P [] ws cs ≡ L
  all_listed g =
      set_ext (set_left P [] ws cs) L held.is.valid.keys.asc valid.keys.asc fed_entries
      (keys_sub (λ e j. g e (inr (order.all e j))))

  -- Every order is accepted if the set fits, and each comes to 8 if it does not;
  pub order_answer : came_to (run P.tabulation ws cs) ≡ cond (fits P (keys_of L)) done stash_full
  order_answer = elim whole.came [
    | all_in d g ↦
        let fit : fits P (keys_of L) ≡ true = rw (all_listed g) at held.is.fit in
        rw fit d
    | too_many d f ↦ rw f d
  ]

  -- accepted, it leaves the set's image.
  pub order_set : fits P (keys_of L) ≡ true → set_left P [] ws cs ≡ L
  order_set fit = elim whole.came [
    | all_in d g ↦ all_listed g
    | too_many d f ↦ absurd (true≢false (sym fit ∙ f))
  ]

  pub order_words : fits P (keys_of L) ≡ true → words_left P ws cs ≡ image P L
  order_words fit = held.is.is ∙ ap (image P) (order_set fit)

-- The same beside a bulk load of the set, whose input passes, into a target that passes.
module _ {P : Params} {ws : List ℕ} {cs : List Call} (q : Sequence P [] ws cs) {M : List Entry} (i : Inserts P M cs)
    {input : List ℕ} (sound : SoundInput input) (order : Order M (input_set input)) (target scratch : List ℕ)
    (layable : Layable P (length target) (length scratch)) where
  -- Either every order is accepted, and bulk load is, or each comes to 8, and bulk load answers 8;
  pub bulk_order_answer : came_to (run P.tabulation ws cs) ≡ (bulk_outcome P input target scratch).answer
  bulk_order_answer =
      order_answer q i order (sound_set input sound)
      ∙ ap (λ (S : List ℕ). cond (fits P S) done stash_full) (even_keys input sound.even)
      ∙ sym (bulk_answer P input target scratch ∙ bulk_fits P input (length target) (length scratch) layable sound)

  -- "The image equals, word by word, that of adding the same cards with their tiers to a list laid alike, under the
  -- same book, in any order that 01's calls accept."
  pub bulk_order_words : (bulk_outcome P input target scratch).answer ≡ done
      → words_left P ws cs ≡ (bulk_outcome P input target scratch).words
  bulk_order_words e =
      let h = bulk_accepted P input target scratch e in
      order_words q i order (sound_set input sound) h.is.fit ∙ sym h.is.is

  pub accepted_order : came_to (run P.tabulation ws cs) ≡ done
      → ((bulk_outcome P input target scratch).answer ≡ done)
      × (words_left P ws cs ≡ (bulk_outcome P input target scratch).words)
  accepted_order e = let d = sym bulk_order_answer ∙ e in (d, bulk_order_words d)
