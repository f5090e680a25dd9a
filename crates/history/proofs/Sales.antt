-- The laws of what specs/Sales.antt defines.
use Rattle.std.specs.Prelude.{ℕ, ◌≡◌, refl, not, ℤ}
use Rattle.std.proofs.Common.{sym, ◌∙◌, ap}
use mathlib.Core.List.{List, [], ◌∷◌, ◌++◌, Memᴰ as In}
use Rattle.basics.specs.Sets.{member}
use Rattle.refusals.specs.Refusal.{done, blank_key, key_absent, wrong_price, first_refusal}
use Rattle.hashing.specs.Hash.{blank}
use Rattle.layout.specs.Entries.{Entry, keys_of, tier_of}
use Rattle.layout.specs.Layout.{Params}
use Rattle.outcome.specs.declared.Sale.{Sale}
use Rattle.outcome.specs.Sale.{record_values, unpriced, sale_refusal, sale_of, sale_values, closed}
use Rattle.outcome.specs.SaleLaws.{Priced}
use Rattle.outcome.proofs.SaleLaws.{same_record, sale_done, opened_key, opened_priced, held_sale, held_tier}
use Rattle.history.specs.Calls.{Answer, Other, Call, Step, step, run, words_after, words_left, Allowed, none, more, Sequence, Like}
use Rattle.history.specs.Model.{set_left}
use Rattle.history.specs.Others.{reads}
use Rattle.history.proofs.Others.{reads_stands}
use Rattle.history.proofs.History.{history}
use Rattle.history.specs.NoTrace.{step_after}
use Rattle.history.proofs.NoTraceAfter.{no_trace}
use Rattle.history.specs.Sales.{opening, closing, Act, as_call, without_sales, others, SaleOf, call, opens, closes}

-- a sequence in which sales are opened and closed, as a sequence of calls
unfoldable pub all_calls : List Act → List Call
all_calls [] = []
all_calls (a ∷ acts) = as_call a ∷ all_calls acts

-- The laws

-- "Like arguments are equal ones": an opening and a closing borrow no work sheet and move no meter, so that like ones have equal arguments.
pub opening_like : (t : List ℕ) {tabulation tabulation' : List ℕ} {key key' base base' : ℕ} {steps steps' : List ℤ}
    → tabulation ≡ tabulation' → key ≡ key' → base ≡ base' → steps ≡ steps'
    → Like t (Call.other (opening tabulation key base steps)) (Call.other (opening tabulation' key' base' steps'))
opening_like t {tabulation} {tabulation'} {key} {key'} {base} {base'} {steps} {steps'} e f g h =
    Like.other (opening tabulation key base steps) (opening tabulation' key' base' steps') (λ ws. rw (e, f, g, h)) (λ ws. refl)

-- Of the record a closing looks at the price alone.
pub closing_like : (t : List ℕ) (s s' : Sale) → s.price ≡ s'.price → Like t (Call.other (closing s)) (Call.other (closing s'))
unfolding closed
closing_like t s s' e =
    Like.other (closing s) (closing s') (λ ws. ap (λ (p : ℕ). record { number = done; values = p ∷ [] }) e) (λ ws. refl)

-- "The list never shows that a sale is open": on any words, the same words are left, and each other call answers and leaves the same.
pub same_words_left : (t ws : List ℕ) (acts : List Act) → words_after t ws (all_calls acts) ≡ words_after t ws (without_sales acts)
unfolding words_after all_calls without_sales step
same_words_left t ws [] = refl
same_words_left t ws (call c ∷ acts) = same_words_left t (step t ws c).words acts
same_words_left t ws (opens tabulation key base steps ∷ acts) = same_words_left t ws acts
same_words_left t ws (closes s ∷ acts) = same_words_left t ws acts

pub same_run : (t ws : List ℕ) (acts : List Act) → others acts (run t ws (all_calls acts)) ≡ run t ws (without_sales acts)
unfolding run all_calls without_sales others step
same_run t ws [] = refl
same_run t ws (call c ∷ acts) = ap (λ (os : List Step). step t ws c ∷ os) (same_run t (step t ws c).words acts)
same_run t ws (opens tabulation key base steps ∷ acts) = same_run t ws acts
same_run t ws (closes s ∷ acts) = same_run t ws acts

-- So sales may stand in any sequence of demand 3: all that holds of sequences (NoTrace.antt) holds with sales in them,
pub sales_allowed : (t ws : List ℕ) (acts : List Act) → Allowed t ws (without_sales acts) → Allowed t ws (all_calls acts)
unfolding all_calls without_sales step
sales_allowed t ws [] none = none
sales_allowed t ws (call c ∷ acts) (more stand rest) = more stand (sales_allowed t (step t ws c).words acts rest)
sales_allowed t ws (opens tabulation key base steps ∷ acts) h = more (reads_stands _ ws) (sales_allowed t ws acts h)
sales_allowed t ws (closes s ∷ acts) h = more (reads_stands _ ws) (sales_allowed t ws acts h)

pub with_sales : {P : Params} {L₀ : List Entry} {ws : List ℕ} (acts : List Act) → Sequence P L₀ ws (without_sales acts)
    → Sequence P L₀ ws (all_calls acts)
with_sales {P} {L₀} {ws} acts q = record {
  full_length = q.full_length;
  start = q.start;
  allowed = sales_allowed P.tabulation ws acts q.allowed;
}

-- and two sequences that differ in sales alone end in one set.
pub same_set_left : {P : Params} {L₀ : List Entry} {ws : List ℕ} (acts : List Act)
    → Sequence P L₀ ws (without_sales acts) → set_left P L₀ ws (all_calls acts) ≡ set_left P L₀ ws (without_sales acts)
same_set_left {P} {L₀} {ws} acts q =
    ((no_trace (with_sales acts q)).same_words q).0 (same_words_left P.tabulation ws acts)

-- What an opening answers at the end of a sequence: it tries its refusals as the register would, "the set" being the register's.
pub opening_number : {P : Params} {L₀ : List Entry} {ws : List ℕ} {cs : List Call} → Sequence P L₀ ws cs
    → (key base : ℕ) (steps : List ℤ)
    → let L = set_left P L₀ ws cs in
    (step_after P ws cs (Call.other (opening P.tabulation key base steps))).answer.number
    ≡ first_refusal ((blank_key, blank key) ∷ (key_absent, not (member key (keys_of L))) ∷ (wrong_price, unpriced base steps (tier_of L key)) ∷ [])
unfolding step
opening_number q key base steps = held_sale (history q).final q.full_length key base steps

-- Every opening of a sequence that is not refused gives such a sale (`SaleOf`).
pub sale_stays : {P : Params} {L₀ : List Entry} {ws : List ℕ} {cs : List Call} → Sequence P L₀ ws cs
    → (key base : ℕ) (steps : List ℤ) (s : Sale)
    → (step_after P ws cs (Call.other (opening P.tabulation key base steps))).answer ≡ record { number = done; values = record_values s }
    → SaleOf P L₀ ws cs key base steps s
unfolding step closed
sale_stays {P} {L₀} {ws} {cs} q key base steps s e =
    let W = words_left P ws cs in
    let t = P.tabulation in
    let d : sale_refusal t W key base steps ≡ done = ap (λ (a : Answer). a.number) e in
    let v : record_values (sale_of t W key base steps) ≡ record_values s =
    sym (sale_done t W key base steps d).0 ∙ ap (λ (a : Answer). a.values) e in
    let is : sale_of t W key base steps ≡ s = same_record v in
    record {
      of_key = sym (ap (λ (x : Sale). x.key) is) ∙ opened_key t W key base steps d;
      of_set = rw is at (held_tier (history q).final q.full_length key base steps d);
      priced = rw is at (opened_priced t W key base steps d);
      closing_says = λ ds. refl;
    }
