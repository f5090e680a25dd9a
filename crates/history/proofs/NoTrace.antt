-- The laws of what specs/NoTrace.antt defines.
use Rattle.std.specs.Prelude.{ℕ, ◌≤◌, ◌≡◌, refl, Bool, false, not, ◌&&◌, ◌⊎◌, ◌↔◌, List, [], ◌∷◌, ◌++◌, eqb, ltb, length}
use Rattle.std.proofs.Common.{sym, ◌∙◌, ap, true≢false, inl, inr, ltb-false, le-ltb}
use Rattle.basics.specs.Tests.{test}
use Rattle.basics.specs.Sets.{member}
use Rattle.cuckoo.specs.Placement.{Placement}
use Rattle.ordered.specs.Keys.{with_key}
use Rattle.refusals.specs.Refusal.{None, done, wrong_tabulation, short_scratch, blank_key, key_present, stash_full, wrong_tier, other_tier, other_issue}
use Rattle.refusals.specs.Refusal.{first_refusal, none, and}
use Rattle.refusals.proofs.Refusals.{front_passes, front_none}
use Rattle.hashing.specs.Hash.{blank}
use Rattle.hashing.specs.Slots.{slot_0, slot_1}
use Rattle.layout.specs.Entries.{Entry, max_tier, keys_of, tier_of}
use Rattle.layout.specs.Layout.{Params, another_issue, family, scratch_length, fits, image}
use Rattle.layout.proofs.Canonical.{image_one}
use Rattle.outcome.specs.declared.Change.TheVariants.{Insert}
use Rattle.counters.specs.declared.Counters.{Counters}
use Rattle.outcome.specs.Held.{Holds}
use Rattle.outcome.proofs.Held.{held_some}
use Rattle.outcome.proofs.HeldNew.{held_full}
use Rattle.history.specs.Calls.{Lent, own, wrong, Call, Step, step, run, words_after, words_left}
use Rattle.history.specs.Calls.{Allowed, none, more, Sequence, Like, Alike, end, then}
use Rattle.history.specs.Model.{request, requests, wrong_length, too_short, before_full, full_test, change_tests, reply, model}
use Rattle.history.specs.Model.{set_after, set_left}
use Rattle.history.proofs.Agrees.{wrong_lent}
use Rattle.history.proofs.Changes.{change_number, change_like}
use Rattle.history.proofs.ReadsLaws.{lookup_like, check_like}
use Rattle.history.proofs.Others.{other_like}
use Rattle.history.specs.History.{Follows}
use Rattle.history.proofs.History.{history}
use Rattle.history.specs.NoTrace.{ComesToFull, step_after, NoTrace, L, answer}

-- The laws. First, parts of a sequence:

-- a part of a sequence from its beginning is a sequence,
allowed_part : (t : List ℕ) {ws : List ℕ} (cs ds : List Call) → Allowed t ws (cs ++ ds) → Allowed t ws cs
allowed_part t [] ds a = none
allowed_part t {ws = ws} (c ∷ cs) ds (more stand a) = more stand (allowed_part t {ws = (step t ws c).words} cs ds a)

pub part : {P : Params} {L₀ : List Entry} {ws : List ℕ} (cs ds : List Call) → Sequence P L₀ ws (cs ++ ds)
    → Sequence P L₀ ws cs
part {P} cs ds q = record {
  full_length = q.full_length;
  start = q.start;
  allowed = allowed_part P.tabulation cs ds q.allowed;
}

-- and the next call of the run goes on with the words that it left.
pub run_at : (P : Params) (ws : List ℕ) (cs : List Call) (c : Call) (ds : List Call)
    → run P.tabulation ws (cs ++ (c ∷ ds))
    ≡ run P.tabulation ws cs ++ (step_after P ws cs c ∷ run P.tabulation (step_after P ws cs c).words ds)
unfolding run words_after
run_at P ws [] c ds = refl
run_at P ws (b ∷ cs) c ds = rw (run_at P (step P.tabulation ws b).words cs c ds)

-- As the register goes on with the set that it had then.
pub model_at : (P : Params) (L : List Entry) (ws : List ℕ) (cs ds : List Call)
    → model P L (requests P.tabulation ws (cs ++ ds))
    ≡ model P L (requests P.tabulation ws cs)
    ++ model P (set_after P L (requests P.tabulation ws cs)) (requests P.tabulation (words_left P ws cs) ds)
unfolding model requests set_after words_after
model_at P L ws [] ds = refl
model_at P L ws (c ∷ cs) ds =
    let o = step P.tabulation ws c in
    rw (model_at P (reply P L (request c o.answer)).set o.words cs ds)

-- two sequences

-- Words that hold one set are equal: they are its image.
one_image : {P : Params} {L L' : List Entry} {ws ws' : List ℕ} → Holds P L ws → Holds P L' ws' → L ≡ L' → ws ≡ ws'
one_image {P} h h' e = h.is.is ∙ (ap (image P) e ∙ sym h'.is.is)

-- Equal words hold one set: differing sets have differing images.
one_set : {P : Params} {L L' : List Entry} {ws ws' : List ℕ} → Holds P L ws → Holds P L' ws' → ws ≡ ws' → L ≡ L'
one_set h h' e = (image_one (rw e at h.is) h'.is refl (held_some h)).1

module _ {P : Params} {L₀ L₀' : List Entry} {ws ws' : List ℕ} {cs cs' : List Call}
    (q : Sequence P L₀ ws cs) (q' : Sequence P L₀' ws' cs') where
  pub words_say_set : words_left P ws cs ≡ words_left P ws' cs' → set_left P L₀ ws cs ≡ set_left P L₀' ws' cs'
  words_say_set e = one_set (history q).final (history q').final e

  pub set_says_words : set_left P L₀ ws cs ≡ set_left P L₀' ws' cs' → words_left P ws cs ≡ words_left P ws' cs'
  set_says_words e = one_image (history q).final (history q').final e

-- later calls

-- Like calls answer and leave the same on the same words, one line for each kind of call, with its lemma;
pub like_step : (t ws : List ℕ) {c c' : Call} → Like t c c' → step t ws c ≡ step t ws c'
like_step t ws (Like.change kind {l} {l'} {scratch} {scratch'} counters counters' key e f) =
    change_like t ws kind l l' scratch scratch' counters counters' key e f
like_step t ws (Like.lookup {l} {l'} key e) = lookup_like t ws l l' e key
like_step t ws (Like.check {l} {l'} {scratch} {scratch'} e f) = check_like t ws l l' e scratch scratch' f
like_step t ws Like.view = refl
like_step t ws (Like.other x x' f g) = other_like t ws x x' (f ws) (g ws)

-- Every call is like itself, one line for each kind again, and so is every sequence of calls.
pub like_self : (t : List ℕ) (c : Call) → Like t c c
like_self t (Call.change kind l scratch counters key) = Like.change kind counters counters key refl refl
like_self t (Call.lookup l key) = Like.lookup key refl
like_self t (Call.check l scratch) = Like.check refl refl
like_self t Call.view = Like.view
like_self t (Call.other x) = Like.other x x (λ ws. refl) (λ ws. refl)

-- each of seven refusals of which none applies
none_seven : {p q r s t u v : ℕ × Bool} → None (p ∷ q ∷ r ∷ s ∷ t ∷ u ∷ v ∷ [])
    → (p.1 ≡ false) × (q.1 ≡ false) × (r.1 ≡ false) × (s.1 ≡ false) × (t.1 ≡ false) × (u.1 ≡ false) × (v.1 ≡ false)
none_seven (and a (and b (and c (and d (and e (and f (and g none))))))) = (a, b, c, d, e, f, g)

-- the test of 8

module _ {P : Params} {L₀ : List Entry} {ws : List ℕ} {cs : List Call} (q : Sequence P L₀ ws cs)
    (l : Lent) (scratch : List ℕ) (counters : Counters) (key tier : ℕ) where
  -- the register's answer
  insert_number : (answer q l scratch counters key tier) ≡ first_refusal (change_tests P (Insert tier) l (length scratch) key (L q l scratch counters key tier))
  unfolding step
  insert_number = change_number (history q).final q.full_length (Insert tier) l scratch key

  -- its refusals before 8, and 8
  abbrev before : List (ℕ × Bool)
  before = before_full P l (length scratch) key tier (L q l scratch counters key tier)

  come : ComesToFull P (L q l scratch counters key tier) l (length scratch) key tier → (answer q l scratch counters key tier) ≡ first_refusal (full_test P key (L q l scratch counters key tier))
  come h =
      insert_number
      ∙ front_passes before (full_test P key (L q l scratch counters key tier)) (and h.right_length (and h.long_enough (and h.not_blank
      (and (le-ltb max_tier tier h.small_tier) (and h.no_other (and (rw h.absent) (and h.absent none)))))))

  came : ((answer q l scratch counters key tier) ≡ done) ⊎ ((answer q l scratch counters key tier) ≡ stash_full) → ComesToFull P (L q l scratch counters key tier) l (length scratch) key tier
  came d =
      let tried = none_seven (front_none before (full_test P key (L q l scratch counters key tier)) (sym insert_number) (elim d [ inl e ↦ rw e | inr e ↦ rw e ])) in
      record {
        right_length = tried.0;
        long_enough = tried.1;
        not_blank = tried.2;
        small_tier = ltb-false max_tier tier tried.3;
        no_other = tried.4;
        absent = tried.6;
      }

  -- An insert comes to the test of 8 exactly if it answers 0 or 8: if none of the refusals before 8 is given.
  pub comes_answers : ComesToFull P (L q l scratch counters key tier) l (length scratch) key tier ↔ (((answer q l scratch counters key tier) ≡ done) ⊎ ((answer q l scratch counters key tier) ≡ stash_full))
  comes_answers = (
    λ h. elim (test (fits P (with_key key (keys_of (L q l scratch counters key tier))))) [ inl f ↦ inl (come h ∙ (rw f)) | inr f ↦ inr (come h ∙ (rw f)) ],
    came,
  )

-- It then answers 8 exactly if no placement of the new set exists.
pub full_insert : {P : Params} {L₀ : List Entry} {ws : List ℕ} {cs : List Call} → Sequence P L₀ ws cs
    → (l : Lent) (scratch : List ℕ) (counters : Counters) (key tier : ℕ)
    → ComesToFull P (set_left P L₀ ws cs) l (length scratch) key tier
    → ((step_after P ws cs (Call.change (Insert tier) l scratch counters key)).answer.number ≡ stash_full)
    ↔ (Placement (slot_0 (family P)) (slot_1 (family P)) P.places (with_key key (keys_of (set_left P L₀ ws cs))) → ⊥)
unfolding step
full_insert {P} q own scratch counters key tier h =
    let room : scratch_length P.slots P.places ≤ length scratch = ltb-false (length scratch) _ h.long_enough in
    held_full (history q).final q.full_length scratch room key h.not_blank tier h.small_tier h.no_other h.absent
full_insert {P} q (wrong t n) scratch counters key tier h = absurd (true≢false (sym (wrong_lent P t n) ∙ h.right_length))
