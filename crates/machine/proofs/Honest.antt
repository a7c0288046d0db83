-- An honest knowledge is fair: an entry is spared only if its flag is set and the other node has that count or a larger one,
-- so the entry is idle when it arrives, whenever that is, for counts only rise.
-- Assumes nothing.
use mathlib.Core.Path.{◌≡◌, refl, ◌∙◌, ap}
use mathlib.Core.Logic.{◌⊎◌, inl, inr, ◌≢◌}
use mathlib.Core.Bool.{Bool, true, false, and-true}
use mathlib.Mathlib.Data.Bool.Basic.{eq-false_of_not-eq-true}
use mathlib.Core.List.{List, ◌∷◌}
use Prim.Native.Nat.{ℕ, suc, ◌≤◌}
use native.Mathlib.Nat.{le_refl}
use native.Mathlib.Omega.{arith}
use Rattle.order.specs.Order.{Event, idle, mark, send, receipt, Flying, Sound, sound_nil, sound_cons, Allowed}
use Rattle.order.proofs.Places.{flying_bound, flying_down}
use Rattle.machine.specs.Machine.{put, Entry, absent, present, State, marked, meet, take_count, take_flag, received, step, whole, full}
use Rattle.machine.specs.Short.{Knowledge, Short, brief, short}
use Rattle.machine.proofs.Small.{offer_absent, kind, differ, put_cases, Meets, larger, smaller, equal, meets, take_rises}
use Rattle.machine.proofs.Flights.{flights_sent}
use Rattle.machine.proofs.Full.{Faithful, faithful}
use Rattle.machine.proofs.Agree.{Idle, Harmless, Fair, fair_nil, fair_cons, Agrees, agree}

-- who is spared an entry has the count, and the flag is set
abbrev pub Honest : Knowledge → List Event → Type 0
Honest K es =
    let s = short K es in
    (i j k : ℕ) → K.spares s.state s.held i j k ≡ true → (s.state.flag i k ≡ true) × (s.state.count i k ≤ s.state.count j k)

-- ---- counts only rise

pub rises : (says : ℕ → ℕ → ℕ → Entry) (e : Event) (s : State) (j k : ℕ) → s.count j k ≤ (step says e s).count j k
unfolding step marked received
rises says (idle i) s j k = le_refl _
rises says (mark i) s j k =
    put_cases (λ (r : ℕ → ℕ). s.count j k ≤ r k) i (put i (suc (s.count i i)) (s.count i)) s.count j
    (λ h. rw (← h) (put_cases (λ c. s.count i k ≤ c) i (suc (s.count i i)) (s.count i) k (λ h. rw (← h) (omega arith)) (λ h. le_refl _)))
    (λ h. le_refl _)
rises says (send i l m) s j k = le_refl _
rises says (receipt i m) s j k =
    put_cases (λ (r : ℕ → ℕ). s.count j k ≤ r k) i (λ k. take_count (s.count i k) ((s.letter m).entry k)) s.count j
    (λ h. rw (← h) (take_rises (s.count i k) ((s.letter m).entry k))) (λ h. le_refl _)

-- ---- what a letter leaves out

-- the full letter's entry x, left out of the short one, where the receiver's count is h: its count is zero or its flag is
-- set, and the receiver has the count
record Owed (x : Entry) (h : ℕ) : Type 0 where
  count : ℕ
  flag : Bool
  told : x ≡ present count flag
  had : count ≤ h
  light : (count ≡ 0) ⊎ (flag ≡ true)

owed_rises : {x : Entry} {h l : ℕ} → h ≤ l → Owed x h → Owed x l
owed_rises r o = record { count = o.count; flag = o.flag; told = o.told; had = omega arith; light = o.light }

-- a flag is clear where the count is 0
pub clear : {es : List Event} {t : State} → Faithful es t → (j k : ℕ) → t.count j k ≡ 0 → t.flag j k ≡ false
clear v j k h = eq-false_of_not-eq-true (λ e. let l = (((v.rows j).flags k).0 e).0 in omega arith)

-- such an entry is idle
owed_idle : {es : List Event} {t : State} → Faithful es t → (j m k : ℕ) → Owed ((t.letter m).entry k) (t.count j k) → Idle t j m k
unfolding take_count take_flag
owed_idle {t = t} v j m k o = rw o.told (omega arith, go (meets (t.count j k) (t.flag j k) o.count o.flag) o.light)
  where
    go : Meets (t.count j k) (t.flag j k) o.count o.flag → (o.count ≡ 0) ⊎ (o.flag ≡ true)
        → meet (t.count j k) (t.flag j k) o.count o.flag ≡ t.flag j k
    go (larger l e) a = absurd (omega arith)
    go (smaller l e) a = e
    go (equal l e) (inl a) = let z = clear v j k (l ∙ a) in e ∙ rw z
    go (equal l e) (inr a) = e ∙ rw a (and-true (t.flag j k))

-- ---- by induction on the cut

module _ (K : Knowledge) where
  -- what a letter in flight leaves out, the receiver is owed no more
  abbrev Owing : List Event → Type 0
  Owing es = (m i j a : ℕ) → Flying m i j es a → (k : ℕ) → ((short K es).state.letter m).entry k ≡ absent → Owed (((full es).letter m).entry k) ((full es).count j k)

  module _ {past : List Event} (g : Agrees (short K past).state (full past)) (w : Owing past) where
    abbrev s : Short K
    s = short K past

    abbrev t : State
    t = full past

    -- an event that sends nothing
    owing_kept : (e : Event) → ((i j m : ℕ) → e ≢ send i j m) → (m i j a : ℕ) → Flying m i j (e ∷ past) a
        → (k : ℕ) → (s.state.letter m).entry k ≡ absent → Owed ((t.letter m).entry k) ((step (whole t) e t).count j k)
    owing_kept e silent m i j a f k h = owed_rises (rises (whole t) e t j k) (w m i j a (flying_down silent f) k h)

    owing_send : Honest K past → (i j m : ℕ) → Owing (send i j m ∷ past)
    unfolding short full step brief whole
    owing_send honest i j m =
        flights_sent (λ l a b p x y. (k : ℕ) → x.entry k ≡ absent → Owed (y.entry k) (t.count b k)) i j m
        (record { from = i; entry = brief s i j }) s.state.letter (record { from = i; entry = whole t i j }) t.letter
        (λ k h. sent k (offer_absent _ _ _ h)) w
      where
        sent : (k : ℕ) → (s.state.count i k ≡ 0) ⊎ (K.spares s.state s.held i j k ≡ true) → Owed (present (t.count i k) (t.flag i k)) (t.count j k)
        sent k (inl z) =
            let z = rw g.counts at z in
            record { count = t.count i k; flag = t.flag i k; told = refl; had = omega arith; light = inl z }
        sent k (inr q) =
            let o = rw (g.counts, g.flags) at (honest i j k q) in
            record { count = t.count i k; flag = t.flag i k; told = refl; had = o.1; light = inr o.0 }

  harmless_other : (past : List Event) (e : Event) → kind e ≢ 3 → Harmless K past e
  harmless_other past e h j m q = absurd (h (ap kind q))

  harmless_receipt : {past : List Event} (j m : ℕ) → Faithful past (full past) → (i : ℕ) × (p : ℕ) × Flying m i j past p → Owing past → Harmless K past (receipt j m)
  harmless_receipt j m v f w b l q k e =
      let x : j ≡ b = cc in let y : m ≡ l = cc in
      let o = w m f.0 j f.1 f.2 k (rw (← y) at e) in
      rw (← x, ← y) (owed_idle v j m k o)

  module _ {n : ℕ} (honest : (es : List Event) → Sound n es → Honest K es) where
    fair_owing : {es : List Event} → Sound n es → Fair K es × Owing es
    unfolding short full step marked received
    fair_owing sound_nil = (fair_nil, λ m i j a f k h. let z = flying_bound f in absurd (omega arith))
    fair_owing (sound_cons {e = e} {past = past} a h) = go e a (fair_owing h)
      where
        go : (e : Event) → Allowed n past e → Fair K past × Owing past → Fair K (e ∷ past) × Owing (e ∷ past)
        go (idle i) a r = (
          fair_cons (harmless_other past (idle i) (λ z. omega arith)) r.0,
          owing_kept (agree K r.0) r.1 (idle i) (λ a b m. differ (λ z. omega arith)),
        )
        go (mark i) a r = (
          fair_cons (harmless_other past (mark i) (λ z. omega arith)) r.0,
          owing_kept (agree K r.0) r.1 (mark i) (λ a b m. differ (λ z. omega arith)),
        )
        go (send i j m) a r = (
          fair_cons (harmless_other past (send i j m) (λ z. omega arith)) r.0,
          owing_send (agree K r.0) r.1 (honest past h) i j m,
        )
        go (receipt j m) a r = (
          fair_cons (harmless_receipt j m (faithful h) a.1 r.1) r.0,
          owing_kept (agree K r.0) r.1 (receipt j m) (λ a b m. differ (λ z. omega arith)),
        )

    -- demand 3, first half, for any honest knowledge
    pub honest_fair : {es : List Event} → Sound n es → Fair K es
    honest_fair ok = (fair_owing ok).0
