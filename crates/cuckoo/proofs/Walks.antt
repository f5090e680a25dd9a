-- The laws of what specs/Walks.antt defines.
use Rattle.std.specs.Prelude.{ℕ, ◌≡◌, true, ◌↔◌}
use Rattle.std.proofs.Math.Path.{refl}
use Rattle.std.proofs.Math.Logic.{inl, inr}
use mathlib.Core.List.Memᴰ.{head as here}
use mathlib.Core.List.Memᴰ.{tail as there}
use mathlib.Core.List.{List, [], ◌∷◌, ◌++◌, Memᴰ as In}
use mathlib.Core.List.Memᴰ.{append_cases as in-append}
use mathlib.Core.List.Memᴰ.{not-nil as in-nil}
use Rattle.basics.specs.Sets.{without, Sub}
use Rattle.basics.proofs.Sets.{out_in, in_out, out_ne}
use Rattle.cuckoo.specs.Graph.{label, joined, is_on_cycle}
use Rattle.cuckoo.specs.Joined.{Joined, past, along, back}
use Rattle.cuckoo.proofs.Joined.{jrefl, jsym, jtrans, split, joined?, joined_true, true_joined}
use Rattle.cuckoo.specs.Settling.{OnCycle}
use Rattle.cuckoo.proofs.Settling.{is_on_cycle_true, true_is_on_cycle}
use Rattle.cuckoo.specs.Seating.{Ends, from_a, from_b}
use Rattle.cuckoo.proofs.Seating.{ends_edge, ends_cycle, ends_near}
use Rattle.cuckoo.specs.Walks.{Distinct, Walk, reached, SimpleWalk, ClosedWalk, nil, new, stay, step}

distinct_append : {cs ds : List ℕ} → Distinct cs → Distinct ds → ((x : ℕ) → In x cs → In x ds → ⊥) → Distinct (cs ++ ds)
distinct_append nil k n = k
distinct_append {ds = ds} (new {c} {cs} m h) k n =
    new (λ i. elim (in-append {a = c} cs {t = ds} i) [ inl j ↦ m j | inr j ↦ n c (here refl) j ]) (distinct_append h k (λ x i. n x (there i)))

module _ (a b : ℕ → ℕ) where
  -- how a walk from u to v goes along d, from x to y, if it does so only once
  record Passes (R : List ℕ) (d u v : ℕ) : Type 0 where
    x : ℕ
    y : ℕ
    ends : Ends a b d x y
    before : Joined a b (without d R) u x
    after : Joined a b (without d R) y v

module _ {a b : ℕ → ℕ} where
  -- a walk is over keys of R
  pub walk_keys : {R cs : List ℕ} {u v : ℕ} → Walk a b R cs u v → Sub cs R
  walk_keys (step i e k) d (here q) = rw q i
  walk_keys (step i e k) d (there m) = walk_keys k d m
  walk_keys {R = R} (stay {u = u} {v = v} _) d x6 = elim x6 [ ]

  -- a walk joins
  walk_joined : {R cs : List ℕ} {u v : ℕ} → Walk a b R cs u v → Joined a b R u v
  walk_joined (stay e) = rw e jrefl
  walk_joined (step i e k) = jtrans (ends_edge e i) (walk_joined k)

  -- it is a walk of every set that has its keys
  pub rekey : {R R' cs : List ℕ} {u v : ℕ} → Sub cs R' → Walk a b R cs u v → Walk a b R' cs u v
  rekey s (stay e) = stay e
  rekey s (step {c = c} i e k) = step (s c (here refl)) e (rekey (λ d m. s d (there m)) k)

  -- and it reaches the same slots there
  pub reached_rekey : {R R' cs : List ℕ} {u v : ℕ} (s : Sub cs R') (k : Walk a b R cs u v) → reached a b (rekey s k) ≡ reached a b k
  unfolding reached rekey
  reached_rekey s (stay e) = refl
  reached_rekey s (step i e k) = rw (reached_rekey (λ d m. s d (there m)) k)

  -- so a walk of R is one of every larger set
  abbrev pub walk_mono : {R R' cs : List ℕ} {u v : ℕ} → Sub R R' → Walk a b R cs u v → Walk a b R' cs u v
  walk_mono s k = rekey (λ d i. s d (walk_keys k d i)) k

  -- along a first walk, then along the key c, then along a second
  through : {R cs ds : List ℕ} {c u x y v : ℕ} → Walk a b R cs u x → In c R → Ends a b c x y → Walk a b R ds y v → Walk a b R (cs ++ (c ∷ ds)) u v
  through (stay p) i e l = let f = rw (← p) at e in step i f l
  through (step j f k) i e l = step j f (through k i e l)

  reached_through : {R cs ds : List ℕ} {c u x y v : ℕ} (k : Walk a b R cs u x) (i : In c R) (e : Ends a b c x y) (l : Walk a b R ds y v)
      → reached a b (through k i e l) ≡ reached a b k ++ (y ∷ reached a b l)
  unfolding reached through
  reached_through (stay p) i e l = refl
  reached_through (step j f k) i e l = rw (reached_through k i e l)

  -- the keys of a walk are of the component of its start
  pub walk_near : {R cs : List ℕ} {d u v : ℕ} → Walk a b R cs u v → In d cs → Joined a b R u (a d)
  walk_near (step i e k) (here q) = rw q (ends_near e i)
  walk_near (step i e k) (there m) = jtrans (ends_edge e i) (walk_near k m)
  walk_near {R = R} {d = d} (stay {u = u} {v = v} _) x6 = elim x6 [ ]

  -- and so are its slots
  near_reached : {R cs vs : List ℕ} {s u v : ℕ} (k : Walk a b R cs u v) → vs ≡ reached a b k → In s (u ∷ vs) → Joined a b R u s
  unfolding reached
  near_reached k r (here q) = rw q jrefl
  near_reached (step i e k) r (there m) = jtrans (ends_edge e i) (near_reached k refl (rw r at m))
  near_reached (stay p) r (there m) = elim (rw r at m) [ ]

  reached_near : {R cs : List ℕ} {s u v : ℕ} (k : Walk a b R cs u v) → In s (u ∷ reached a b k) → Joined a b R u s
  reached_near k m = near_reached k refl m

  -- two simple walks and a key between them, where the key alone makes the join
  bridge : {R : List ℕ} {c u x y v : ℕ} → (Joined a b R u v → ⊥) → Ends a b c x y
      → SimpleWalk a b R u x → SimpleWalk a b R y v → SimpleWalk a b (c ∷ R) u v
  bridge {R} {c} {u} {y = y} n e s t =
      let k = s.walk in
      let l = t.walk in
      let fresh : In c R → ⊥ = λ i. n (jtrans (walk_joined k) (jtrans (ends_edge e i) (walk_joined l))) in
      let met : (p : ℕ) → Joined a b R u p → Joined a b R y p → ⊥ = λ p i j. n (jtrans i (jtrans (jsym j) (walk_joined l))) in
      record {
        keys = s.keys ++ (c ∷ t.keys);
        walk = through (walk_mono (λ d. there) k) (here refl) e (walk_mono (λ d. there) l);
        keys_once = distinct_append s.keys_once (new (λ i. fresh (walk_keys l c i)) t.keys_once)
            (λ d i j. elim j [ here q ↦ fresh (walk_keys k c (rw q at i)) | there m ↦ met (a d) (walk_near k i) (walk_near l m) ]);
        slots_once = simp (reached_through, reached_rekey)
            (distinct_append s.slots_once t.slots_once (λ p i j. met p (reached_near k i) (reached_near l j)));
      }

  wider : {R : List ℕ} {c u v : ℕ} → SimpleWalk a b R u v → SimpleWalk a b (c ∷ R) u v
  wider s =
      record { keys = s.keys; walk = walk_mono (λ d. there) s.walk; keys_once = s.keys_once; slots_once = rw reached_rekey s.slots_once }

  -- Joined slots have a walk from the one to the other that uses no key twice; nor is it in any slot twice.
  pub simple_walk : (R : List ℕ) {u v : ℕ} → Joined a b R u v → SimpleWalk a b R u v
  unfolding label reached
  simple_walk [] j = record { keys = []; walk = stay j.same; keys_once = nil; slots_once = new in-nil nil }
  simple_walk (c ∷ R) {u} {v} j =
      elim (joined? a b R u v) [
        | inl k ↦ wider (simple_walk R k)
        | inr n ↦ elim (split c R j) [
          | past k ↦ absurd (n k)
          | along k l ↦ bridge n (from_a refl refl) (simple_walk R k) (simple_walk R l)
          | back k l ↦ bridge n (from_b refl refl) (simple_walk R k) (simple_walk R l)
        ]
      ]

  -- "A group is a connected set of pockets": two slots are joined exactly if a walk along keys of R leads from the one to the other.
  pub joined_walk : {R : List ℕ} {u v : ℕ} → Joined a b R u v ↔ ((cs : List ℕ) × Walk a b R cs u v)
  joined_walk {R} = (λ j. let s = simple_walk R j in (s.keys, s.walk), λ w. walk_joined w.1)

  -- a walk without the key d, if d is not on it
  pub walk_out : {R cs : List ℕ} {d u v : ℕ} → (In d cs → ⊥) → Walk a b R cs u v → Walk a b (without d R) cs u v
  walk_out {R} {d = d} n k = rekey (λ x i. in_out d R (λ q. n (rw q i)) (walk_keys k x i)) k

  passes : {R cs : List ℕ} {d u v : ℕ} → Walk a b R cs u v → Distinct cs → In d cs → Passes a b R d u v
  passes (step {u = u} {w = w} i e k) (new n h) (here q) =
      record { x = u; y = w; ends = rw q e; before = jrefl; after = walk_joined (walk_out (rw (← q) at n) k) }
  passes {R} {d = d} (step i e k) (new n h) (there m) =
      let p = passes k h m in
      record { x = p.x; y = p.y; ends = p.ends; before = jtrans (ends_edge e (in_out d R (λ q. n (rw (← q) m)) i)) p.before; after = p.after }
  passes {R = R} {d = d} (stay {u = u} {v = v} _) _ x11 = elim x11 [ ]

  -- every key of a closed walk that uses no key twice lies on a cycle
  pub closed_on : {R cs : List ℕ} {d v : ℕ} → Walk a b R cs v v → Distinct cs → In d cs → OnCycle a b R d
  closed_on {d = d} k h i =
      let p = passes k h i in
      record { on = walk_keys k d i; closed = ends_cycle p.ends (jtrans (jsym p.before) (jsym p.after)) }

  -- a key on a cycle starts a closed walk that uses no key twice; nor is it in any slot twice
  pub simple_cycle : {R : List ℕ} {c : ℕ} → OnCycle a b R c → (γ : ClosedWalk a b R c) × Distinct (reached a b γ.walk)
  unfolding reached
  simple_cycle {R} {c} l =
      let s = simple_walk (without c R) (jsym l.closed) in (
        record {
          start = a c;
          rest = s.keys;
          walk = step l.on (from_a refl refl) (walk_mono (λ d. out_in c R) s.walk);
          once = new (λ i. out_ne c R (walk_keys s.walk c i) refl) s.keys_once;
        },
        rw reached_rekey s.slots_once,
      )

  -- "lies on a loop": c lies on a cycle exactly if a closed walk goes along it that uses no key twice.
  pub cycle_walk : {R : List ℕ} {c : ℕ} → OnCycle a b R c ↔ ClosedWalk a b R c
  cycle_walk = (λ l. (simple_cycle l).0, λ γ. closed_on γ.walk γ.once (here refl))

module _ (a b : ℕ → ℕ) where
  -- The same of the definitions that compute: `joined` is that a walk leads from u to v,
  pub joined_walk_true : (R : List ℕ) (u v : ℕ) → (joined a b R u v ≡ true) ↔ ((cs : List ℕ) × Walk a b R cs u v)
  joined_walk_true R u v = (λ e. joined_walk.0 (joined_true e), λ w. true_joined (joined_walk.1 w))

  -- and `is_on_cycle` that a closed walk goes along c and uses no key twice.
  pub cycle_walk_true : (R : List ℕ) (c : ℕ) → (is_on_cycle a b R c ≡ true) ↔ ClosedWalk a b R c
  cycle_walk_true R c = (λ e. cycle_walk.0 (is_on_cycle_true e), λ γ. true_is_on_cycle (cycle_walk.1 γ))
