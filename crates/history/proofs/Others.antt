-- The laws of what specs/Others.antt defines.
use Rattle.std.specs.Prelude.{ℕ, ◌≡◌, refl, List, [], ◌++◌, length}
use Rattle.std.proofs.Common.{ne_eqb}
use Rattle.refusals.specs.Refusal.{done}
use Rattle.hashing.specs.Hash.{Family}
use Rattle.hashing.specs.Answer.{hashes_refusal, hashes_values}
use Rattle.layout.specs.Entries.{Entry}
use Rattle.layout.specs.Layout.{Params}
use Rattle.layout.specs.Answers.{fresh_refusal, fresh_words}
use Rattle.outcome.specs.Held.{Holds}
use Rattle.outcome.specs.Trail.{trail_outcome}
use Rattle.outcome.specs.TrailLaws.{trail_words}
use Rattle.outcome.proofs.TrailLaws.{trail_any_scratch}
use Rattle.bulk.specs.Bulk.{params_for, bulk_outcome}
use Rattle.bulk.specs.Laws.{bulk_refused}
use Rattle.bulk.proofs.Laws.{bulk_any_scratch}
use Rattle.survivors.specs.Salvage.{salvage_outcome}
use Rattle.survivors.proofs.Laws.{salvage_words, salvage_refused, salvage_any_scratch}
use Rattle.history.specs.Calls.{Answer, Other, Call, step, OtherStands, refused, unchanged, Like}
use Rattle.history.specs.Model.{Request, reply}
use Rattle.history.specs.Agrees.{Agrees}
use Rattle.history.specs.Others.{init, loading, salvaging_over, reads, tracing, salvaging}

-- Where it may stand, it leaves the words: refused, by its own law, and otherwise because just that is asked.
pub stands_leaves : {ws : List ℕ} {x : Other} → OtherStands ws x → x.words ws ≡ ws
stands_leaves {ws} {x} (refused n) = x.leaves ws n
stands_leaves (unchanged e) = e

pub other_agrees : {P : Params} {L : List Entry} {ws : List ℕ} → Holds P L ws → (x : Other) → OtherStands ws x
    → Agrees P
    (step P.tabulation ws (Call.other x))
    (reply P L (Request.other (step P.tabulation ws (Call.other x)).answer))
unfolding step reply
other_agrees h x stand = record { answer = refl; holds = rw (stands_leaves stand) h }

pub other_like : (t ws : List ℕ) (x x' : Other) → x.answer ws ≡ x'.answer ws → x.words ws ≡ x'.words ws
    → step t ws (Call.other x) ≡ step t ws (Call.other x')
unfolding step
other_like t ws x x' f g = rw (f, g)

-- Two inits with equal arguments are like: what the meter holds has no say, since an init's answer and words are made without it.
pub init_like : (t : List ℕ) {r r' s s' station station' : ℕ} → r ≡ r' → s ≡ s' → station ≡ station'
    → Like t (Call.other (init r s station)) (Call.other (init r' s' station'))
init_like t {r} {r'} {s} {s'} {station} {station'} e f g =
    Like.other (init r s station) (init r' s' station') (λ ws. rw (e, f, g)) (λ ws. rw (e, f, g))

-- "Like arguments are equal ones, what the work sheet and the meter hold aside": two bulk loads that differ only in
-- what the scratch holds are like.
pub loading_like : (t tabulation : List ℕ) (r s station : ℕ) (input scratch scratch' : List ℕ)
    → length scratch ≡ length scratch'
    → Like t (Call.other (loading tabulation r s station input scratch))
    (Call.other (loading tabulation r s station input scratch'))
loading_like t tabulation r s station input scratch scratch' e =
    let P = params_for tabulation r s station in
    Like.other (loading tabulation r s station input scratch) (loading tabulation r s station input scratch')
    (λ ws. rw (bulk_any_scratch P input ws scratch scratch' e))
    (λ ws. rw (bulk_any_scratch P input ws scratch scratch' e))

pub salvaging_over_like : (t tabulation damaged scratch scratch' : List ℕ) → length scratch ≡ length scratch'
    → Like t (Call.other (salvaging_over tabulation damaged scratch))
    (Call.other (salvaging_over tabulation damaged scratch'))
salvaging_over_like t tabulation damaged scratch scratch' e =
    Like.other (salvaging_over tabulation damaged scratch) (salvaging_over tabulation damaged scratch')
    (λ ws. rw (salvage_any_scratch tabulation damaged ws scratch scratch' e))
    (λ ws. rw (salvage_any_scratch tabulation damaged ws scratch scratch' e))

-- Such a call may stand on any words, accepted or refused, whatever it answers.
pub reads_stands : (answer : List ℕ → Answer) (ws : List ℕ) → OtherStands ws (reads answer)
reads_stands answer ws = unchanged refl

-- It may stand on any words, too.
pub trail_stands : (tabulation ws scratch : List ℕ) (key : ℕ) (sheet : List ℕ) → OtherStands ws (tracing tabulation scratch key sheet)
trail_stands tabulation ws scratch key sheet = unchanged (trail_words tabulation ws scratch key sheet)

-- "Like arguments are equal ones, what the work sheet and the meter hold aside": two trails that differ only in what the scratch holds are like.
pub trail_like : (t tabulation scratch scratch' : List ℕ) (key : ℕ) (sheet : List ℕ) → length scratch ≡ length scratch'
    → Like t (Call.other (tracing tabulation scratch key sheet)) (Call.other (tracing tabulation scratch' key sheet))
trail_like t tabulation scratch scratch' key sheet e =
    Like.other (tracing tabulation scratch key sheet) (tracing tabulation scratch' key sheet)
    (λ ws. rw (trail_any_scratch tabulation ws scratch scratch' key sheet e))
    (λ ws. rw (trail_any_scratch tabulation ws scratch scratch' key sheet e))

-- It may stand on any words, too,
pub salvage_stands : (tabulation ws target scratch : List ℕ) → OtherStands ws (salvaging tabulation target scratch)
salvage_stands tabulation ws target scratch = unchanged (salvage_words tabulation ws target scratch)

-- and two that differ only in what the scratch holds are like.
pub salvaging_like : (t tabulation target scratch scratch' : List ℕ) → length scratch ≡ length scratch'
    → Like t (Call.other (salvaging tabulation target scratch)) (Call.other (salvaging tabulation target scratch'))
salvaging_like t tabulation target scratch scratch' e =
    Like.other (salvaging tabulation target scratch) (salvaging tabulation target scratch')
    (λ ws. rw (salvage_any_scratch tabulation ws target scratch scratch' e))
    (λ ws. rw (salvage_any_scratch tabulation ws target scratch scratch' e))
