-- The keys of a component, which `root` and `next` choose from (`picked` of Lists). Assumes nothing.
use Rattle.std.specs.Prelude.{ℕ, ◌≡◌}
use mathlib.Core.List.{List, Memᴰ as In}
use Rattle.cuckoo.specs.Graph.{joined, component}
use Rattle.basics.proofs.Sets.{keep_in, keep_test, in_keep, asc_keep}
use Rattle.basics.specs.Sets.{Asc}
use Rattle.cuckoo.specs.Joined.{Joined}
use Rattle.cuckoo.proofs.Joined.{joined_true, true_joined}

module _ (a b : ℕ → ℕ) (T : List ℕ) (v : ℕ) where
  -- a key of T is in the component of v exactly if its slots are joined to v
  pub in_component : {d : ℕ} → In d T → Joined a b T v (a d) → In d (component a b T v)
  unfolding component
  in_component i j = in_keep (λ d. joined a b T v (a d)) T (true_joined j) i

  pub component_in : {d : ℕ} → In d (component a b T v) → In d T
  unfolding component
  component_in i = keep_in (λ d. joined a b T v (a d)) T i

  pub component_near : {d : ℕ} → In d (component a b T v) → Joined a b T v (a d)
  unfolding component
  component_near i = joined_true (keep_test (λ d. joined a b T v (a d)) T i)

  -- joined slots have one component
  pub component_same : {u : ℕ} → Joined a b T v u → component a b T v ≡ component a b T u
  unfolding component joined
  component_same j = rw j.same

  -- the keys of a component of an ascending set are ascending
  pub asc_component : Asc T → Asc (component a b T v)
  unfolding component
  asc_component h = asc_keep (λ d. joined a b T v (a d)) h
