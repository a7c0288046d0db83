-- A letter in flight is the one that was sent: it names its sender, and no count that the sender does not have. By induction
-- on the cut, whatever the knowledge.
-- Assumes nothing.
use mathlib.Core.Path.{◌≡◌, refl, ◌∙◌}
use mathlib.Core.Logic.{◌≢◌, ⊎_elim}
use mathlib.Core.Bool.{Bool}
use mathlib.Core.List.{List, [], ◌∷◌, ◌++◌}
use Prim.Native.Nat.{ℕ, ◌≤◌}
use native.Mathlib.Omega.{arith}
use lib.ListN.{length, length-append}
use Rattle.order.specs.Order.{Event, idle, mark, send, receipt, Names, Flying}
use Rattle.order.proofs.Places.{flying_bound, flying_cases, flying_down}
use Rattle.machine.specs.Machine.{Entry, present, Letter, State, marked, received, step}
use Rattle.machine.specs.Short.{Knowledge, Short, brief, short}
use Rattle.machine.proofs.Small.{offer_present, differ, put_same, put_other}
use Rattle.machine.proofs.Flights.{flights_sent}
use Rattle.machine.proofs.Honest.{rises}

-- a letter names its sender, and no count that the sender does not have
abbrev pub Truthful : List Event → State → Type 0
Truthful es s = (m i j a : ℕ) → Flying m i j es a
    → ((s.letter m).from ≡ i) × ((k d : ℕ) (y : Bool) → (s.letter m).entry k ≡ present d y → d ≤ s.count i k)

module _ {past : List Event} (s : State) (t : Truthful past s) where
  truthful_kept : (says : ℕ → ℕ → ℕ → Entry) (e : Event) → ((i j m : ℕ) → e ≢ send i j m) → (m i j a : ℕ) → Flying m i j (e ∷ past) a
      → ((s.letter m).from ≡ i) × ((k d : ℕ) (y : Bool) → (s.letter m).entry k ≡ present d y → d ≤ (step says e s).count i k)
  truthful_kept says e silent m i j a f =
      let l = t m i j a (flying_down silent f) in
      (l.0, λ k d y h. omega (arith, l.1 k d y h, rises says e s i k))

  truthful_send : (says : ℕ → ℕ → ℕ → Entry) (i j m : ℕ) → ((k d : ℕ) (y : Bool) → says i j k ≡ present d y → d ≤ s.count i k)
      → Truthful (send i j m ∷ past) (step says (send i j m) s)
  unfolding step
  truthful_send says i j m h =
      flights_sent (λ l a b p x y. (x.from ≡ a) × ((k d : ℕ) (y : Bool) → x.entry k ≡ present d y → d ≤ s.count a k)) i j m
      (record { from = i; entry = says i j }) s.letter (record { from = i; entry = says i j }) s.letter (refl, h) t

pub truthful : (K : Knowledge) (es : List Event) → Truthful es (short K es).state
unfolding short step brief marked received
truthful K [] = λ m i j a f. let h = flying_bound f in absurd (omega arith)
truthful K (e ∷ past) = go e (truthful K past)
  where
    s : Short K
    s = short K past

    go : (e : Event) → Truthful past s.state → Truthful (e ∷ past) (step (brief s) e s.state)
    go (idle i) t = truthful_kept s.state t (brief s) (idle i) (λ a b m. differ (λ z. omega arith))
    go (mark i) t = truthful_kept s.state t (brief s) (mark i) (λ a b m. differ (λ z. omega arith))
    go (send i j m) t = truthful_send s.state t (brief s) i j m (λ k d y h. let o = (offer_present _ _ _ h).0 in omega arith)
    go (receipt j m) t = truthful_kept s.state t (brief s) (receipt j m) (λ a b m. differ (λ z. omega arith))

-- a letter in flight is the one that was sent
pub flight_kept : (K : Knowledge) (later past : List Event) {m i j : ℕ} → Flying m i j (later ++ (send i j m ∷ past)) (length past)
    → (short K (later ++ (send i j m ∷ past))).state.letter m ≡ record { from = i; entry = brief (short K past) i j }
unfolding short step marked received
flight_kept K [] past {m} f = put_same m _ _
flight_kept K (x ∷ later) past {m} {i} {j} f =
    ⊎_elim (λ c. absurd (omega (arith, length-append later (send i j m ∷ past)))) (λ c. go x c.0 (flight_kept K later past c.1)) (flying_cases f)
  where
    es : List Event
    es = later ++ (send i j m ∷ past)

    L : Letter
    L = record { from = i; entry = brief (short K past) i j }

    go : (x : Event) → ¬ Names x m → (short K es).state.letter m ≡ L → (short K (x ∷ es)).state.letter m ≡ L
    go (idle a) h r = r
    go (mark a) h r = r
    go (send a b l) h r = put_other l _ _ m h ∙ r
    go (receipt b l) h r = r
