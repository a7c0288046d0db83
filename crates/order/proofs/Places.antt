-- A place holds one event, a node has one last event, and a number flies once: by matching on how the cut was built.
-- Assumes nothing.
use mathlib.Core.Path.{◌≡◌, refl, sym, subst}
use mathlib.Core.Logic.{◌⊎◌, inl, inr, ◌≢◌, ⊎_elim}
use mathlib.Core.List.{List, ◌∷◌}
use Prim.Native.Nat.{ℕ, ◌<◌}
use native.Mathlib.Nat.{le_refl}
use native.Mathlib.Omega.{arith}
use lib.ListN.{length}
use Rattle.order.specs.Order.{Event, send, receipt, node_of, Names, At, at_head, at_tail, Last, last_head, last_tail, Flying, flying_head, flying_tail, Link, link_node, link_message, link_tail}

-- ---- the event at a place

pub at_bound : {es : List Event} {p : ℕ} {e : Event} → At es p e → p < length es
at_bound at_head = le_refl _
at_bound (at_tail a) = let h = at_bound a in omega arith

pub at_cases : {x e : Event} {past : List Event} {p : ℕ} → At (x ∷ past) p e → ((p ≡ length past) × (x ≡ e)) ⊎ At past p e
at_cases at_head = inl (refl, refl)
at_cases (at_tail a) = inr a

pub at_down : {x e : Event} {past : List Event} {p : ℕ} → p < length past → At (x ∷ past) p e → At past p e
at_down h a = ⊎_elim (λ c. absurd (omega arith)) (λ b. b) (at_cases a)

pub at_unique : {es : List Event} {p : ℕ} {e f : Event} → At es p e → At es p f → e ≡ f
at_unique at_head b = ⊎_elim (λ c. c.1) (λ c. let h = at_bound c in absurd (omega arith)) (at_cases b)
at_unique (at_tail a) b = at_unique a (at_down (at_bound a) b)

-- ---- the last event of a node

pub last_bound : {i : ℕ} {es : List Event} {p : ℕ} → Last i es p → p < length es
last_bound (last_head h) = le_refl _
last_bound (last_tail h l) = let b = last_bound l in omega arith

pub last_unique : {i : ℕ} {es : List Event} {p q : ℕ} → Last i es p → Last i es q → p ≡ q
last_unique (last_head h) (last_head k) = refl
last_unique (last_head h) (last_tail k l) = absurd (k h)
last_unique (last_tail h l) (last_head k) = absurd (h k)
last_unique (last_tail h l) (last_tail k r) = last_unique l r

-- ---- a message in flight

pub flying_bound : {m i j : ℕ} {es : List Event} {p : ℕ} → Flying m i j es p → p < length es
flying_bound flying_head = le_refl _
flying_bound (flying_tail h f) = let b = flying_bound f in omega arith

pub flying_cases : {m i j : ℕ} {e : Event} {past : List Event} {p : ℕ} → Flying m i j (e ∷ past) p
    → ((e ≡ send i j m) × (p ≡ length past)) ⊎ ((¬ Names e m) × Flying m i j past p)
flying_cases flying_head = inl (refl, refl)
flying_cases (flying_tail h f) = inr (h, f)

-- an event that sends nothing starts no flight
pub flying_down : {m i j : ℕ} {e : Event} {past : List Event} {p : ℕ} → ((a b l : ℕ) → e ≢ send a b l) → Flying m i j (e ∷ past) p → Flying m i j past p
flying_down {m} {i} {j} silent f = ⊎_elim (λ c. absurd (silent i j m c.0)) (λ c. c.1) (flying_cases f)

-- one flight of a number: its ends and the place of its send
pub flying_unique : {m i j a b : ℕ} {es : List Event} {p q : ℕ} → Flying m i j es p → Flying m a b es q → (i ≡ a) × (j ≡ b) × (p ≡ q)
flying_unique flying_head g = ⊎_elim (λ c. let h = c.0 in (cc, cc, sym c.1)) (λ c. absurd (c.0 refl)) (flying_cases g)
flying_unique {m} (flying_tail h f) g =
    ⊎_elim (λ c. absurd (h (subst (λ (e : Event). Names e m) (sym c.0) refl))) (λ c. flying_unique f c.1) (flying_cases g)

-- ---- what directly precedes what

pub link_cases : {e : Event} {past : List Event} {a b : ℕ} → Link (e ∷ past) a b
    → Link past a b ⊎ ((b ≡ length past) × (Last (node_of e) past a ⊎ ((m i j : ℕ) × (e ≡ receipt j m) × Flying m i j past a)))
link_cases (link_node l) = inr (refl, inl l)
link_cases (link_message {m = m} {i = i} {j = j} f) = inr (refl, inr (m, i, j, refl, f))
link_cases (link_tail l) = inl l

-- a link goes forward in the log
pub link_forward : {es : List Event} {a b : ℕ} → Link es a b → (a < b) × (b < length es)
link_forward (link_node l) = let h = last_bound l in omega arith
link_forward (link_message f) = let h = flying_bound f in omega arith
link_forward (link_tail l) = let h = link_forward l in omega arith

pub link_down : {e : Event} {past : List Event} {a b : ℕ} → b < length past → Link (e ∷ past) a b → Link past a b
link_down h l = ⊎_elim (λ k. k) (λ c. absurd (omega arith)) (link_cases l)
