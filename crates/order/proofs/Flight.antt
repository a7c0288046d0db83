-- The list of messages in flight holds just those that fly, and no number twice: by induction on the cut, since an event
-- that names a number drops it from the list, as it ends its flight.
-- Assumes nothing.
use mathlib.Core.Path.{◌≡◌, refl, sym, ap, ◌∙◌}
use mathlib.Core.Logic.{◌↔◌, ◌≢◌, ⊎_elim}
use mathlib.Core.Bool.{Bool, true, false, cond}
use mathlib.Core.List.Memᴰ
use mathlib.Core.List.{List, [], ◌∷◌, Memᴰ}
use Prim.Native.Nat.{ℕ, suc, ◌≤◌}
use native.Mathlib.Nat.{le_refl}
use native.Mathlib.Omega.{arith}
use lib.Dec.{eqb}
use lib.ListN.{length}
use borrow.Author.Tests.{ne_eqb, eqb-true, eqb-false}
use Rattle.order.specs.Order.{Event, idle, mark, send, receipt, Names, Flying, flying_head, flying_tail}
use Rattle.order.specs.Flight.{Message, without, in_flight}

-- no two messages of the list have one number
pub data Distinct : List Message → Type 0 where
  distinct_nil : Distinct []
  distinct_cons : {x : Message} {xs : List Message} → ((y : Message) → Memᴰ y xs → y.number ≢ x.number) → Distinct xs → Distinct (x ∷ xs)

-- ---- without a number

without_in : (m : ℕ) (xs : List Message) (y : Message) → Memᴰ y xs → y.number ≢ m → Memᴰ y (without m xs)
unfolding without
without_in m [] y h n = h
without_in m (x ∷ xs) y h n = go (eqb x.number m) refl (without_in m xs y)
  where
    go : (b : Bool) → eqb x.number m ≡ b → (Memᴰ y xs → y.number ≢ m → Memᴰ y (without m xs))
        → Memᴰ y (cond b (without m xs) (x ∷ without m xs))
    go true e rec =
        ⊎_elim (λ q. absurd (n (ap (λ (z : Message). z.number) q ∙ eqb-true _ _ e))) (λ t. rec t n) (Memᴰ.cases_cons h)
    go false e rec = ⊎_elim (λ q. Memᴰ.head q) (λ t. Memᴰ.tail (rec t n)) (Memᴰ.cases_cons h)

without_out : (m : ℕ) (xs : List Message) (y : Message) → Memᴰ y (without m xs) → Memᴰ y xs × (y.number ≢ m)
unfolding without
without_out m [] y h = absurd (Memᴰ.not-nil h)
without_out m (x ∷ xs) y h = go (eqb x.number m) refl (without_out m xs y) h
  where
    go : (b : Bool) → eqb x.number m ≡ b → (Memᴰ y (without m xs) → Memᴰ y xs × (y.number ≢ m))
        → Memᴰ y (cond b (without m xs) (x ∷ without m xs)) → Memᴰ y (x ∷ xs) × (y.number ≢ m)
    go true e rec h = let r = rec h in (Memᴰ.tail r.0, r.1)
    go false e rec h =
        ⊎_elim (λ q. (Memᴰ.head q, λ k. eqb-false _ _ e (ap (λ (z : Message). z.number) (sym q) ∙ k)))
        (λ t. let r = rec t in (Memᴰ.tail r.0, r.1)) (Memᴰ.cases_cons h)

without_distinct : (m : ℕ) (xs : List Message) → Distinct xs → Distinct (without m xs)
unfolding without
without_distinct m [] d = d
without_distinct m (x ∷ xs) (distinct_cons a d) = go (eqb x.number m) (without_distinct m xs d)
  where
    go : (b : Bool) → Distinct (without m xs) → Distinct (cond b (without m xs) (x ∷ without m xs))
    go true r = r
    go false r = distinct_cons (λ y h. a y (without_out m xs y h).0) r

pub without_length : (m : ℕ) (xs : List Message) → length (without m xs) ≤ length xs
unfolding without
without_length m [] = le_refl _
without_length m (x ∷ xs) = go (eqb x.number m) (without_length m xs)
  where
    go : (b : Bool) → length (without m xs) ≤ length xs → length (cond b (without m xs) (x ∷ without m xs)) ≤ suc (length xs)
    go true h = omega arith
    go false h = omega arith

-- a number that no message has takes none away
pub without_none : (m : ℕ) (xs : List Message) → ((x : Message) → Memᴰ x xs → x.number ≢ m) → without m xs ≡ xs
unfolding without
without_none m [] h = refl
without_none m (x ∷ xs) h = rw (ne_eqb x.number m (h x (Memᴰ.head refl)), without_none m xs (λ y k. h y (Memᴰ.tail k)))

-- ---- the list and the flights

-- the message that flies from i to j with number m since place p
abbrev pub message : ℕ → ℕ → ℕ → ℕ → Message
message m i j p = record { number = m; from = i; to = j; sent = p }

pub flying_listed : {m i j p : ℕ} {es : List Event} → Flying m i j es p → Memᴰ (message m i j p) (in_flight es)
unfolding in_flight
flying_listed flying_head = Memᴰ.head refl
flying_listed {m} {i} {j} {p} (flying_tail {e = e} {past = past} h f) = go e h (flying_listed f)
  where
    go : (e : Event) → ¬ Names e m → Memᴰ (message m i j p) (in_flight past) → Memᴰ (message m i j p) (in_flight (e ∷ past))
    go (idle k) h r = r
    go (mark k) h r = r
    go (send a b l) h r = Memᴰ.tail (without_in l _ _ r (λ q. h (sym q)))
    go (receipt b l) h r = without_in l _ _ r (λ q. h (sym q))

pub listed_flying : (es : List Event) (x : Message) → Memᴰ x (in_flight es) → Flying x.number x.from x.to es x.sent
unfolding in_flight
listed_flying [] x h = absurd (Memᴰ.not-nil h)
listed_flying (idle k ∷ past) x h = flying_tail (λ z. z) (listed_flying past x h)
listed_flying (mark k ∷ past) x h = flying_tail (λ z. z) (listed_flying past x h)
listed_flying (send a b l ∷ past) x h =
    ⊎_elim (λ q. rw q flying_head)
    (λ t. let r = without_out l _ _ t in flying_tail (λ q. r.1 (sym q)) (listed_flying past x r.0))
    (Memᴰ.cases_cons h)
listed_flying (receipt b l ∷ past) x h = let r = without_out l _ _ h in flying_tail (λ q. r.1 (sym q)) (listed_flying past x r.0)

-- the list holds a message exactly if it is in flight
pub in_flight_exact : (es : List Event) (x : Message) → Memᴰ x (in_flight es) ↔ Flying x.number x.from x.to es x.sent
in_flight_exact es x = (listed_flying es x, flying_listed)

-- and holds no number twice
pub in_flight_distinct : (es : List Event) → Distinct (in_flight es)
unfolding in_flight
in_flight_distinct [] = distinct_nil
in_flight_distinct (idle i ∷ past) = in_flight_distinct past
in_flight_distinct (mark i ∷ past) = in_flight_distinct past
in_flight_distinct (send i j m ∷ past) = distinct_cons (λ y h. (without_out m _ y h).1) (without_distinct m _ (in_flight_distinct past))
in_flight_distinct (receipt j m ∷ past) = without_distinct m _ (in_flight_distinct past)
