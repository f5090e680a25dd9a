-- Joined slots: `joined` of Graph as a statement, `Joined`. It is an equivalence; more keys join more (`mono`), one key more joins in one of three ways
-- (`split`), and nothing else joins (`least`). So a key on a cycle can be left out (`cut`), and only a component's own keys join it (`confine`).
-- Assumes nothing.
use Rattle.std.specs.Prelude.{ℕ, ◌≡◌, refl, true, false, not, ◌⊎◌, eqb}
use Rattle.std.proofs.Math.Path.{sym, ap}
use Rattle.std.proofs.Common.{◌∙◌, inl, inr}
use Rattle.std.proofs.Math.Bool.{cond}
use mathlib.Core.List.Memᴰ.{head as here}
use mathlib.Core.List.Memᴰ.{tail as there}
use mathlib.Core.List.{List, [], ◌∷◌, Memᴰ as In}
use borrow.Author.Tests.{eqb-true, eqb-false, eq-eqb, ne_eqb}
use Rattle.basics.specs.Tests.{test}
use Rattle.basics.specs.Sets.{without, Sub}
use Rattle.cuckoo.specs.Graph.{label, joined}

module _ (a b : ℕ → ℕ) where
  -- u and v have one label
  pub record Joined (R : List ℕ) (u v : ℕ) : Type 0 where
    pub same : label a b R u ≡ label a b R v

  -- how u and v may be joined by R and one key more: without the key, or along it, one way or the other
  pub data Way (c : ℕ) (R : List ℕ) (u v : ℕ) : Type 0 where
    past : Joined R u v → Way c R u v
    along : Joined R u (a c) → Joined R (b c) v → Way c R u v
    back : Joined R u (b c) → Joined R (a c) v → Way c R u v
