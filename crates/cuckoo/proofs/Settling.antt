-- The laws of what specs/Settling.antt defines.
use Prim.Native.Nat.{ℕ, zero, suc, ◌<◌, ◌≤◌}
use Rattle.std.specs.Prelude.{◌≡◌, true, ◌⊎◌, ◌↔◌, length}
use Rattle.std.proofs.Math.Path.{refl}
use Rattle.std.proofs.Common.{sym, ◌∙◌, true≢false, arith, le_of_eq}
use Rattle.std.proofs.Math.Logic.{inl, inr}
use mathlib.Core.List.{List, [], ◌∷◌, Memᴰ as In}
use Rattle.basics.specs.Tests.{test}
use Rattle.basics.proofs.Tests.{eq?, and_true}
use Rattle.basics.specs.Sets.{member, keep, without, last, Sub, Asc}
use Rattle.basics.proofs.Sets.{keep_test, in_keep, in?, out_in, in_out, out_ne, outs, out_sub, below_out, member_in, in_member, any_true, true_any, asc_keep, last_in, last_max, out_shorter, asc_out, in_length, some_or_all, both?, not?}
use Rattle.cuckoo.specs.Graph.{joined, is_on_cycle, component, cyclic, spare, settle, seated}
use Rattle.cuckoo.specs.Joined.{Joined, past, along, back}
use Rattle.cuckoo.proofs.Joined.{jrefl, jsym, jtrans, edge, mono, split_out, cut, joined?, joined_true, true_joined, confine}
use Rattle.cuckoo.specs.Forest.{forest}
use Rattle.cuckoo.proofs.Forest.{forest_in, spans, acyclic, not_largest}
use Rattle.cuckoo.specs.Settling.{OnCycle, Cyclic, Spare, Settled, Goes, Round, F, Stand, Stays, stop, go_on, tree, smallest}

module _ (a b : ℕ → ℕ) where
  pub is_on_cycle? : (R : List ℕ) (c : ℕ) → (OnCycle a b) R c ⊎ ((OnCycle a b) R c → ⊥)
  is_on_cycle? R c =
      elim (in? c R) [
        | inl i ↦ elim (joined? a b (without c R) (a c) (b c)) [ inl j ↦ inl (record { on = i; closed = j }) | inr n ↦ inr (λ l. n l.closed) ]
        | inr n ↦ inr (λ l. n l.on)
      ]

module _ {a b : ℕ → ℕ} where
  -- the definitions that compute say the same
  pub is_on_cycle_true : {R : List ℕ} {c : ℕ} → is_on_cycle a b R c ≡ true → OnCycle a b R c
  unfolding is_on_cycle
  is_on_cycle_true {R} {c} e = let p = and_true (member c R) _ e in record { on = member_in c R p.0; closed = joined_true p.1 }

  pub true_is_on_cycle : {R : List ℕ} {c : ℕ} → OnCycle a b R c → is_on_cycle a b R c ≡ true
  unfolding is_on_cycle
  true_is_on_cycle {R} {c} l = rw (in_member l.on) (true_joined l.closed)

  pub cyclic_true : {R : List ℕ} {v : ℕ} → cyclic a b R v ≡ true → Cyclic a b R v
  unfolding cyclic component
  cyclic_true {R} {v} e =
      let r = any_true (is_on_cycle a b R) _ e in
      record { d = r.0; cycle = is_on_cycle_true r.2; near = joined_true (keep_test (λ d. joined a b R v (a d)) R r.1) }

  pub true_cyclic : {R : List ℕ} {v : ℕ} → Cyclic a b R v → cyclic a b R v ≡ true
  unfolding cyclic component
  true_cyclic {R} {v} l = true_any (is_on_cycle a b R) (in_keep (λ d. joined a b R v (a d)) R (true_joined l.near) l.cycle.on) (true_is_on_cycle l.cycle)

  pub spare_true : {R : List ℕ} {c : ℕ} → spare a b R c ≡ true → Spare a b R c
  unfolding spare
  spare_true {R} {c} e = let p = and_true (is_on_cycle a b R c) _ e in record { cycle = is_on_cycle_true p.0; rest = cyclic_true p.1 }

  pub true_spare : {R : List ℕ} {c : ℕ} → Spare a b R c → spare a b R c ≡ true
  unfolding spare
  true_spare {R} {c} s = rw (true_is_on_cycle s.cycle) (true_cyclic s.rest)

  -- joined slots have cycles in their component alike
  pub cyclic_near : {R : List ℕ} {u v : ℕ} → Joined a b R u v → Cyclic a b R v → Cyclic a b R u
  cyclic_near j L = record { d = L.d; cycle = L.cycle; near = jtrans j L.near }

  -- a key on a cycle is on one in every larger set,
  pub cycle_mono : {R R' : List ℕ} {c : ℕ} → Sub R R' → OnCycle a b R c → OnCycle a b R' c
  cycle_mono {c = c} s l = record { on = s c l.on; closed = mono (out_sub c s) l.closed }

  -- a component with a cycle has one in every larger set,
  pub cyclic_mono : {R R' : List ℕ} {v : ℕ} → Sub R R' → Cyclic a b R v → Cyclic a b R' v
  cyclic_mono s l = record { d = l.d; cycle = cycle_mono s l.cycle; near = mono s l.near }

  -- and a spare key is spare in every larger set
  pub spare_mono : {R R' : List ℕ} {c : ℕ} → Sub R R' → Spare a b R c → Spare a b R' c
  spare_mono {c = c} s l = record { cycle = cycle_mono s l.cycle; rest = cyclic_mono (out_sub c s) l.rest }

  -- the case that a key m is on a cycle of R only with c, and c only with m
  moves_both : {R : List ℕ} {c m : ℕ} → (c ≡ m → ⊥) → OnCycle a b R m → Joined a b R (a c) (a m) → OnCycle a b R c
      → (Joined a b (without c (without m R)) (a c) (b c) → ⊥) → Cyclic a b (without c R) (a c) → Cyclic a b (without m R) (a m)
  moves_both {R} {c} {m} ne lm j lc n L =
      let d = L.d in
      let X = without c R in
      let not_m : Joined a b (without m X) (a m) (b m) → ⊥ = λ k. n (mono (λ e h. search outs) (cut m X k lc.closed)) in
      let m≢d : m ≡ d → ⊥ = λ q. not_m (rw (← q) at L.cycle.closed) in
      let dX = L.cycle.on in
      let dR = out_in c R dX in
      let e : Joined a b (without m X) (a d) (b d) = edge (in_out m X m≢d dX) in
      let up : Sub (without m (without d X)) (without m X) = λ e h. search outs in
      let near : Joined a b R (a c) (a d) = mono (λ e h. search outs) L.near in
      record {
        d = d;
        cycle = record {
          on = in_out m R m≢d dR;
          closed = elim (split_out m (without d X) L.cycle.closed) [
            | past k ↦ mono (λ e h. search outs) k
            | along k l ↦ let k' = mono up k in let l' = mono up l in absurd (not_m (record { same = cc }))
            | back k l ↦ let k' = mono up k in let l' = mono up l in absurd (not_m (record { same = cc }))
          ];
        };
        near = cut m R lm.closed (record { same = cc });
      }

  -- in a component with a spare key every key on a cycle is spare
  pub moves : {R : List ℕ} {c m : ℕ} → Spare a b R c → OnCycle a b R m → Joined a b R (a c) (a m) → Spare a b R m
  moves {R} {c} {m} s lm j =
      elim (eq? c m) [
        | inl q ↦ rw q at s
        | inr ne ↦ record {
          cycle = lm;
          rest = elim (joined? a b (without c (without m R)) (a c) (b c)) [
            | inl k ↦ record {
              d = c;
              cycle = record { on = in_out m R (λ q. ne (sym q)) s.cycle.on; closed = k };
              near = cut m R lm.closed (jsym j);
            }
            | inr n ↦ moves_both ne lm j s.cycle n s.rest
          ];
        }
      ]

module _ (a b : ℕ → ℕ) where
  -- whether a slot's component has a cycle
  pub cyclic? : (R : List ℕ) (v : ℕ) → Cyclic a b R v ⊎ (Cyclic a b R v → ⊥)
  cyclic? R v =
      elim (test (cyclic a b R v)) [ inl e ↦ inl (cyclic_true e) | inr e ↦ inr (λ L. true≢false (sym (true_cyclic L) ∙ e)) ]

  -- each round stops or goes on
  pub round : (n : ℕ) {R : List ℕ} → Asc R → Round a b R n
  unfolding settle
  round n {R} h = go (keep (spare a b R) R) refl
    where
      in_spare : (d : ℕ) → Spare a b R d → In d (keep (spare a b R) R)
      in_spare d s = in_keep (spare a b R) R (true_spare s) s.cycle.on

      go : (L : List ℕ) → keep (spare a b R) R ≡ L → Round a b R n
      go [] e = stop (λ d s. elim (rw e at (in_spare d s)) [ ]) (rw (e, settle))
      go (c ∷ D) e =
          let f = last (c ∷ D) in
          let i : In f (keep (spare a b R) R) = rw e (last_in c D) in
          let asc : Asc (c ∷ D) = rw e at (asc_keep (spare a b R) h) in
          go_on f (record { spare = spare_true (keep_test (spare a b R) R i); largest = λ d s. last_max (c ∷ D) asc (rw e at (in_spare d s)) }) (rw (e, settle))

  -- settling only takes away
  pub settle_sub : (n : ℕ) (R : List ℕ) → Sub (settle a b n R) R
  unfolding settle
  settle_sub zero R c i = i
  settle_sub (suc n) R c i = go (keep (spare a b R) R) (λ d k. out_in d R (settle_sub n (without d R) c k)) i
    where
      go : (D : List ℕ) → ((d : ℕ) → In c (settle a b n (without d R)) → In c R)
          → In c (elim D [ [] ↦ R | d ∷ D ↦ settle a b n (without (last (d ∷ D)) R) ]) → In c R
      go [] h k = k
      go (d ∷ D) h k = h (last (d ∷ D)) k

  -- and keeps the order
  settle_asc : (n : ℕ) {R : List ℕ} → Asc R → Asc (settle a b n R)
  unfolding settle
  settle_asc zero h = h
  settle_asc (suc n) {R} h = elim (round n h) [ stop s e ↦ rw e h | go_on c g e ↦ rw e (settle_asc n (asc_out c h)) ]

  -- once it has gone on long enough nothing is spare
  settle_stops : (n : ℕ) {R : List ℕ} → Asc R → length R ≤ n → Settled a b (settle a b n R)
  unfolding settle
  settle_stops zero h l d s = omega (arith, in_length s.cycle.on)
  settle_stops (suc n) {R} h l d s =
      elim (round n h) [
        | stop t e ↦ t d (rw e at s)
        | go_on c g e ↦ settle_stops n (asc_out c h) (omega (arith, out_shorter c R g.spare.cycle.on)) d (rw e at s)
      ]

  module _ (S : List ℕ) where
    -- what is taken away is not of the forest
    goes_off : {R : List ℕ} {c : ℕ} → Sub R S → Goes a b R c → In c (F a b S) → ⊥
    goes_off {R} {c} s g f =
        let L = not_largest S R s f g.spare.cycle.on g.spare.cycle.closed in
        let t = moves g.spare (record { on = L.m_in; closed = mono (below_out L.m R) L.cycle }) L.near in
        omega (arith, g.largest L.m t, L.c<m)

    stays : {R : List ℕ} {c : ℕ} → (In c (F a b S) → ⊥) → Sub (F a b S) R → Sub (F a b S) (without c R)
    stays {R} {c} n s d i = in_out c R (λ q. n (rw (← q) at i)) (s d i)

    -- so the forest stays
    settle_forest : (n : ℕ) {R : List ℕ} → Asc R → Sub R S → Sub (F a b S) R → Sub (F a b S) (settle a b n R)
    unfolding settle
    settle_forest zero h s f d i = f d i
    settle_forest (suc n) {R} h s f d i =
        elim (round n h) [
          | stop t e ↦ rw e (f d i)
          | go_on c g e ↦ rw e (settle_forest n (asc_out c h) (λ x k. s x (out_in c R k)) (stays (goes_off s g) f) d i)
        ]

    -- a key off the forest closes a cycle with it
    off_cycle : {R : List ℕ} {c : ℕ} → Sub (F a b S) R → In c S → (In c (F a b S) → ⊥) → Joined a b (without c R) (a c) (b c)
    off_cycle f i n = mono (stays n f) (spans S (edge i))

    -- what is taken away is larger than what stays off the forest in its component
    settle_min : (n : ℕ) {R : List ℕ} → Asc R → Sub R S → Sub (F a b S) R → (x y : ℕ) → In x R → (In x (settle a b n R) → ⊥)
        → In y (settle a b n R) → (In y (F a b S) → ⊥) → Joined a b S (a x) (a y) → y < x
    unfolding settle
    settle_min zero h s f x y ix nx iy ny j = absurd (nx ix)
    settle_min (suc n) {R} h s f x y ix nx iy ny j =
        elim (round n h) [
          | stop t e ↦ absurd (nx (rw e ix))
          | go_on c g e ↦
              let s' : Sub (without c R) S = λ z k. s z (out_in c R k) in
              let f' = stays (goes_off s g) f in
              let iy' = rw e at iy in
              let iyc = settle_sub n (without c R) y iy' in
              elim (eq? c x) [
                | inl q ↦
                    let iyR = out_in c R iyc in
                    let t = moves g.spare (record { on = iyR; closed = off_cycle f (s y iyR) ny }) (mono f (spans S (rw (← q) at j))) in
                    omega (arith, g.largest y t, out_ne c R iyc)
                | inr ne ↦ settle_min n (asc_out c h) s' f' x y (in_out c R ne ix) (λ k. nx (rw e k)) iy' ny j
              ]
        ]

    -- where nothing is spare, a component has at most one key off the forest
    pub one : {K : List ℕ} → Settled a b K → Sub K S → Sub (F a b S) K → (x y : ℕ) → In x K → In y K
        → (In x (F a b S) → ⊥) → (In y (F a b S) → ⊥) → Joined a b S (a x) (a y) → x ≡ y
    one {K} t s f x y ix iy nx ny j =
        elim (eq? x y) [
          | inl q ↦ q
          | inr ne ↦ absurd (t x (record {
            cycle = record { on = ix; closed = off_cycle f (s x ix) nx };
            rest = record {
              d = y;
              cycle = record { on = in_out x K ne iy; closed = off_cycle (stays nx f) (s y iy) ny };
              near = mono (stays nx f) (spans S j);
            };
          }))
        ]

    abbrev OffNear : ℕ → ℕ → Type 0
    OffNear x y = Joined a b S (a x) (a y) × (In y (F a b S) → ⊥)

    stand? : (K : List ℕ) (x : ℕ) → (Stand a b S) K x ⊎ ((y : ℕ) → In y K → Joined a b S (a x) (a y) → In y (F a b S))
    stand? K x =
        elim (some_or_all {P = OffNear x} {Q = λ y. OffNear x y → ⊥} (λ y. both? (joined? a b S (a x) (a y)) (not? (in? y (F a b S)))) K) [
          | inl r ↦ inl (record { y = r.0; y_in = r.1; y_off = r.2.1; near = r.2.0 })
          | inr n ↦ inr (λ y i j. elim (in? y (F a b S)) [ inl k ↦ k | inr o ↦ absurd (n y i (j, o)) ])
        ]

    -- a cycle has a key off the forest in its component
    off_near : {X : List ℕ} {v x : ℕ} → Sub X S → Joined a b S (a x) v → Cyclic a b X v → (Stand a b S) X x
    off_near {X} {v} {x} s j L =
        elim (stand? X x) [
          | inl r ↦ r
          | inr h ↦
              let d = L.d in
              let dF = h d L.cycle.on (jtrans j (mono s L.near)) in
              let t : Sub (without d X) S = λ y i. s y (out_in d X i) in
              absurd (acyclic S dF (confine S t (λ y i k. edge (in_out d (F a b S) (out_ne d X i) (h y (out_in d X i) (jtrans j (jtrans (mono s L.near) k))))) L.cycle.closed))
        ]

    -- each key off the forest has one that stays in its component
    settle_some : (n : ℕ) {R : List ℕ} → Asc R → Sub R S → Sub (F a b S) R → (x : ℕ) → In x R → (In x (F a b S) → ⊥) → (Stand a b S) (settle a b n R) x
    unfolding settle
    settle_some zero h s f x i o = record { y = x; y_in = i; y_off = o; near = jrefl }
    settle_some (suc n) {R} h s f x i o =
        elim (round n h) [
          | stop t e ↦ rw e (record { y = x; y_in = i; y_off = o; near = jrefl })
          | go_on c g e ↦
              let s' : Sub (without c R) S = λ z k. s z (out_in c R k) in
              let f' = stays (goes_off s g) f in
              elim (eq? c x) [
                | inl q ↦
                    let u = off_near {x = x} s' (rw q jrefl) g.spare.rest in
                    let w = settle_some n (asc_out c h) s' f' u.y u.y_in u.y_off in
                    rw e (record { y = w.y; y_in = w.y_in; y_off = w.y_off; near = jtrans u.near w.near })
                | inr ne ↦ rw e (settle_some n (asc_out c h) s' f' x (in_out c R ne i) o)
              ]
        ]

    module _ (asc : Asc S) where
      -- all this of the seated keys
      pub seated_sub : Sub (seated a b S) S
      unfolding seated
      seated_sub = settle_sub (length S) S

      pub seated_asc : Asc (seated a b S)
      unfolding seated
      seated_asc = settle_asc (length S) asc

      pub seated_forest : Sub (F a b S) (seated a b S)
      unfolding seated
      seated_forest = settle_forest (length S) asc (λ c i. i) (forest_in a b S)

      -- "A group is a connected set of pockets and its cards", drawer cards included: the seated keys join exactly what all keys join.
      pub seated_joined : {u v : ℕ} → Joined a b (seated a b S) u v ↔ Joined a b S u v
      seated_joined = (mono seated_sub, λ j. mono seated_forest (spans S j))

      pub seated_stops : Settled a b (seated a b S)
      unfolding seated
      seated_stops = settle_stops (length S) asc (omega arith)

      seated_min : (x y : ℕ) → In x S → (In x (seated a b S) → ⊥) → In y (seated a b S) → (In y (F a b S) → ⊥) → Joined a b S (a x) (a y) → y < x
      unfolding seated
      seated_min = settle_min (length S) asc (λ c i. i) (forest_in a b S)

      pub seated_some : (x : ℕ) → In x S → (In x (F a b S) → ⊥) → (Stand a b S) (seated a b S) x
      unfolding seated
      seated_some = settle_some (length S) asc (λ c i. i) (forest_in a b S)

      -- and so they are the keys that stay by the rule above
      pub seated_is : (c : ℕ) → In c (seated a b S) → (Stays a b S) c
      seated_is c i =
          elim (in? c (F a b S)) [
            | inl f ↦ tree f
            | inr n ↦ smallest (λ x ix nx j.
                elim (in? x (seated a b S)) [
                  | inl k ↦ le_of_eq (sym (one seated_stops seated_sub seated_forest x c k i nx n j))
                  | inr nk ↦ let l = seated_min x c ix nk i n j in omega arith
                ])
          ]

      pub is_seated : (c : ℕ) → In c S → (Stays a b S) c → In c (seated a b S)
      is_seated c i (tree f) = seated_forest c f
      is_seated c i (smallest h) =
          elim (in? c (seated a b S)) [
            | inl k ↦ k
            | inr nk ↦
                let w = seated_some c i (λ f. nk (seated_forest c f)) in
                let l = seated_min c w.y i nk w.y_in w.y_off w.near in
                let r = h w.y (seated_sub w.y w.y_in) w.y_off (jsym w.near) in
                absurd (omega arith)
          ]
