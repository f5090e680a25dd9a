-- The laws of what specs/Cycles.antt defines.
use Prim.Native.Nat.{ℕ, zero, suc, ◌≤◌}
use Rattle.std.specs.Prelude.{◌≡◌, refl, true, ◌⊎◌, ◌↔◌, length}
use Rattle.std.proofs.Common.{inl, inr}
use mathlib.Core.List.Memᴰ.{head as here}
use mathlib.Core.List.{List, [], ◌∷◌, Memᴰ as In}
use mathlib.Core.List.Memᴰ.{eq_of_singleton as in-singleton}
use mathlib.Core.List.Memᴰ.{not-nil as in-nil}
use Rattle.basics.specs.Sets.{without, Sub, Asc}
use Rattle.basics.proofs.Sets.{in?, out_in, out_ne, asc_out}
use Rattle.cuckoo.specs.Graph.{cyclic, spare, settle, seated}
use Rattle.cuckoo.specs.Joined.{Joined}
use Rattle.cuckoo.proofs.Joined.{jrefl, jsym, jtrans, mono, cut}
use Rattle.cuckoo.specs.Settling.{OnCycle, Cyclic, Spare, Settled, Goes, stop, go_on}
use Rattle.cuckoo.proofs.Settling.{moves, round, seated_stops, seated_joined}
use Rattle.cuckoo.proofs.Settling.{cyclic_true, true_cyclic, spare_true, true_spare}
use Rattle.cuckoo.specs.Seating.{Ends}
use Rattle.cuckoo.proofs.Seating.{ends_flip}
use Rattle.cuckoo.specs.Walks.{Distinct, nil, new, stay, step, reached, ClosedWalk}
use Rattle.cuckoo.proofs.Walks.{reached_rekey}
use Rattle.cuckoo.proofs.Walks.{walk_near, walk_mono, walk_keys, walk_out, closed_on, simple_cycle, cycle_walk}
use Rattle.cuckoo.specs.Cycles.{Cycle, keys, Simple, CycleAt, TwoCycles, LargestOnCycle, first_only, second_only}

module _ {a b : ℕ → ℕ} where
  -- Every key of a cycle lies on a cycle in the sense of `is_on_cycle`.
  pub on_cycle : {R : List ℕ} {d : ℕ} (γ : Cycle a b R) → In d (keys a b γ) → OnCycle a b R d
  on_cycle γ i = closed_on γ.closed.walk γ.closed.once i

  abbrev closed_at : {R : List ℕ} {c v : ℕ} → ClosedWalk a b R c → Joined a b R v (a c) → CycleAt a b R v
  closed_at {c = c} w j =
      let k = w.walk in
      record { cycle = record { key = c; closed = w }; near = λ d i. jtrans j (jtrans (jsym (walk_near k (here refl))) (walk_near k i)) }

  -- a key of R that lies on a cycle starts one, and it is in no slot twice
  cycle_at : {R : List ℕ} {c v : ℕ} → OnCycle a b R c → Joined a b R v (a c)
      → (γ : CycleAt a b R v) × In c (keys a b γ.cycle) × Simple a b γ.cycle
  cycle_at l j = let w = simple_cycle l in (closed_at w.0 j, here refl, w.1)

  -- "No loop in the group", the other way: a component is cyclic exactly if there is a cycle in it.
  pub cyclic_cycle : {R : List ℕ} {v : ℕ} → Cyclic a b R v ↔ CycleAt a b R v
  cyclic_cycle = (
    λ l. (cycle_at l.cycle l.near).0,
    λ γ. record { d = γ.cycle.key; cycle = on_cycle γ.cycle (here refl); near = γ.near _ (here refl) },
  )

  -- a cycle is still there when a key that is not on it, and lies on another, is taken away
  remains : {R : List ℕ} {x u : ℕ} (γ : Cycle a b R) → OnCycle a b R x → (In x (keys a b γ) → ⊥)
      → Joined a b R u (a γ.key) → Cyclic a b (without x R) u
  remains {R} {x} γ l n j =
      let w = γ.closed in
      record { d = γ.key; cycle = closed_on (walk_out n w.walk) w.once (here refl); near = cut x R l.closed j }

  -- two cycles in one component: a key that lies on the one only is spare
  apart : {R : List ℕ} {v : ℕ} (γ δ : CycleAt a b R v) (x : ℕ) → In x (keys a b γ.cycle) → (In x (keys a b δ.cycle) → ⊥) → Spare a b R x
  apart γ δ x i n =
      let l = on_cycle γ.cycle i in
      record { cycle = l; rest = remains δ.cycle l n (jtrans (jsym (γ.near x i)) (δ.near _ (here refl))) }

  two_spare : {R : List ℕ} {v : ℕ} → TwoCycles a b R v → (c : ℕ) × Spare a b R c × Joined a b R v (a c)
  two_spare t =
      elim t.differ [
        | first_only x i n ↦ (x, apart t.one t.two x i n, t.one.near x i)
        | second_only x i n ↦ (x, apart t.two t.one x i n, t.two.near x i)
      ]

  -- Where a component has a spare key it has two different cycles, neither of which is in any slot twice.
  pub two_simple : {R : List ℕ} {c v : ℕ} → Spare a b R c → Joined a b R v (a c)
      → (t : TwoCycles a b R v) × Simple a b t.one.cycle × Simple a b t.two.cycle
  two_simple {R} {c} s j =
      let γ = cycle_at s.cycle j in
      let r = simple_cycle s.rest.cycle in
      let w = r.0 in
      let up : Sub (without c R) R = λ d. out_in c R in
      let w' : ClosedWalk a b R s.rest.d = record { start = w.start; rest = w.rest; walk = walk_mono up w.walk; once = w.once } in
      let δ = closed_at w' (jtrans j (mono up s.rest.near)) in
      (record { one = γ.0; two = δ; differ = first_only c γ.1 (λ i. out_ne c R (walk_keys w.walk c i) refl) }, γ.2, rw reached_rekey r.1)

  -- "More loops": a component has a spare key exactly if it has two different cycles.
  pub spare_cycles : {R : List ℕ} {v : ℕ} → ((c : ℕ) × Spare a b R c × Joined a b R v (a c)) ↔ TwoCycles a b R v
  spare_cycles = (λ s. (two_simple s.1 s.2).0, two_spare)

  -- In a component with two different cycles every key on a cycle is spare,
  pub every_spare : {R : List ℕ} {c v : ℕ} → TwoCycles a b R v → OnCycle a b R c → Joined a b R v (a c) → Spare a b R c
  every_spare t l j = let s = two_spare t in moves s.1 l (jtrans (jsym s.2) j)

  -- so a key is spare exactly if it lies on a cycle and its component has two different ones.
  pub spare_key : {R : List ℕ} {c : ℕ} → Spare a b R c ↔ (OnCycle a b R c × TwoCycles a b R (a c))
  spare_key = (λ s. (s.cycle, (two_simple s jrefl).0), λ p. every_spare p.1 p.0 jrefl)

  -- "the largest card that lies on a loop goes to the drawer": such is the key that a round takes.
  pub goes_largest : {R : List ℕ} {c : ℕ} → Goes a b R c → LargestOnCycle a b R c
  goes_largest g = record { cycle = g.spare.cycle; two = (two_simple g.spare jrefl).0; largest = λ d l j. g.largest d (moves g.spare l j) }

  -- Where nothing is spare:
  module _ {R : List ℕ} (none_spare : Settled a b R) {v : ℕ} where
    -- no component has two different cycles;
    pub not_two : TwoCycles a b R v → ⊥
    not_two t = let s = two_spare t in none_spare s.0 s.1

    -- any two cycles in one component have the same keys;
    pub same_keys : (γ δ : CycleAt a b R v) (x : ℕ) → In x (keys a b γ.cycle) ↔ In x (keys a b δ.cycle)
    same_keys γ δ x = (half γ δ, half δ γ)
      where
        half : (γ δ : CycleAt a b R v) → In x (keys a b γ.cycle) → In x (keys a b δ.cycle)
        half γ δ i = elim (in? x (keys a b δ.cycle)) [ inl k ↦ k | inr n ↦ absurd (none_spare x (apart γ δ x i n)) ]

    -- and the keys on a cycle in a component are those of its one cycle.
    pub one_cycle : (γ : CycleAt a b R v) (d : ℕ) → In d (keys a b γ.cycle) ↔ (OnCycle a b R d × Joined a b R v (a d))
    one_cycle γ d = (λ i. (on_cycle γ.cycle i, γ.near d i), λ p. let δ = cycle_at p.0 p.1 in (same_keys δ.0 γ d).0 δ.1)

  -- a component with a cycle keeps one when a spare key goes
  keeps_one : {R : List ℕ} {c v : ℕ} → Spare a b R c → Cyclic a b R v → Cyclic a b (without c R) v
  keeps_one {R} {c} s l =
      let γ = cyclic_cycle.0 l in
      let r = s.rest in
      elim (in? c (keys a b γ.cycle)) [
        | inl i ↦ record { d = r.d; cycle = r.cycle; near = jtrans (cut c R s.cycle.closed (γ.near c i)) r.near }
        | inr n ↦ remains γ.cycle s.cycle n (γ.near _ (here refl))
      ]

  -- "Two cards with the same two places form a loop of two."
  pub cycle_of_two : {R : List ℕ} {c d v w : ℕ} → (c ≡ d → ⊥) → In c R → In d R → Ends a b c v w → Ends a b d v w
      → (γ : Cycle a b R) × (keys a b γ ≡ c ∷ d ∷ [])
  cycle_of_two {c = c} {d} {v} n i j e f = (
    record {
      key = c;
      closed = record {
        start = v;
        rest = d ∷ [];
        walk = step i e (step j (ends_flip f) (stay refl));
        once = new (λ m. n (in-singleton m)) (new in-nil nil);
      };
    },
    refl,
  )

module _ (a b : ℕ → ℕ) where
  -- The same of the definitions that compute: `cyclic` is that there is a cycle in the component,
  pub cyclic_cycle_true : (R : List ℕ) (v : ℕ) → (cyclic a b R v ≡ true) ↔ CycleAt a b R v
  cyclic_cycle_true R v = (λ e. cyclic_cycle.0 (cyclic_true e), λ γ. true_cyclic (cyclic_cycle.1 γ))

  -- and `spare` that a closed walk goes along c and uses no key twice, and that c's component has two different cycles.
  pub spare_key_true : (R : List ℕ) (c : ℕ) → (spare a b R c ≡ true) ↔ (ClosedWalk a b R c × TwoCycles a b R (a c))
  spare_key_true R c =
      (λ e. let p = spare_key.0 (spare_true e) in (cycle_walk.0 p.0, p.1), λ p. true_spare (spare_key.1 (cycle_walk.1 p.0, p.1)))

  -- "the largest card that lies on a loop goes to the drawer, and again, until one loop is left": a round ends the settling where no component
  -- has two different cycles, and takes else the largest key on a cycle of a component that has.
  pub settle_round : (n : ℕ) {R : List ℕ} → Asc R → ((settle a b (suc n) R ≡ R) × ((v : ℕ) → TwoCycles a b R v → ⊥))
      ⊎ ((c : ℕ) × LargestOnCycle a b R c × (settle a b (suc n) R ≡ settle a b n (without c R)))
  settle_round n h = elim (round a b n h) [ stop t e ↦ inl (e, λ v. not_two t) | go_on c g e ↦ inr (c, goes_largest g, e) ]

  settle_cyclic : (n : ℕ) {R : List ℕ} {v : ℕ} → Asc R → Cyclic a b R v → Cyclic a b (settle a b n R) v
  unfolding settle
  settle_cyclic zero h l = l
  settle_cyclic (suc n) h l = elim (round a b n h) [ stop t e ↦ rw e l | go_on c g e ↦ rw e (settle_cyclic n (asc_out c h) (keeps_one g.spare l)) ]

  module _ (S : List ℕ) (asc : Asc S) where
    -- "until one loop is left": among the seated keys no component has two different cycles,
    pub seated_not_two : {v : ℕ} → TwoCycles a b (seated a b S) v → ⊥
    seated_not_two = not_two (seated_stops a b S asc)

    -- one that had a cycle keeps one,
    pub seated_cyclic : {v : ℕ} → Cyclic a b S v → Cyclic a b (seated a b S) v
    unfolding seated
    seated_cyclic = settle_cyclic (length S) asc

    -- and exactly one: the keys of that cycle are all keys of the component that lie on a cycle.
    pub seated_one : {v : ℕ} → Cyclic a b S v
        → (γ : CycleAt a b (seated a b S) v) × ((d : ℕ) → In d (keys a b γ.cycle) ↔ (OnCycle a b (seated a b S) d × Joined a b S v (a d)))
    seated_one l =
        let γ = cyclic_cycle.0 (seated_cyclic l) in
        let o = one_cycle (seated_stops a b S asc) γ in
        (γ, λ d. (λ i. let p = (o d).0 i in (p.0, (seated_joined a b S asc).0 p.1), λ p. (o d).1 (p.0, (seated_joined a b S asc).1 p.1)))
