-- The totals are what their names say: events, marks and sends are counted over the cut, a full send carries n entries, and
-- a short one as many as are due.
-- Assumes nothing.
use mathlib.Core.Path.{◌≡◌, refl, sym, ◌∙◌, ap, ap₂}
use mathlib.Core.Logic.{◌≢◌, ⊎_elim, ◌↔◌}
use mathlib.Core.Bool.{Bool}
use mathlib.Core.List.{List, [], ◌∷◌}
use Prim.Native.Nat.{ℕ, zero, suc, ◌+◌, ◌*◌}
use native.Mathlib.Nat.{mul-zero}
use native.Mathlib.Omega.{arith}
use lib.ListN.{length, length-append}
use Rattle.order.specs.Order.{Event, idle, mark, send, receipt, At, at_head, at_tail, Sound, sound_nil, sound_cons, Counts, counts_zero, counts_yes, counts_no}
use Rattle.order.proofs.Places.{at_bound, at_cases, at_down}
use Rattle.order.proofs.Counts.{counts_unique, counts_same}
use Rattle.machine.specs.Machine.{Entry, absent, present, State, whole, full}
use Rattle.machine.specs.Short.{Knowledge, brief, short, columns}
use Rattle.machine.specs.History.{Due, DueInAll, none_due, send_due, other_due, InAll, in_none, in_send, in_other}
use Rattle.machine.specs.Answer.{answer, answers, weight, entries, Totals, more, totals}
use Rattle.machine.proofs.Small.{differ, absent_present}
use Rattle.machine.proofs.ShortMessages.{carried_exactly}

-- ---- the entries of one message

entries_counted : (n : ℕ) (entry : ℕ → Entry) → Counts (λ k. (c : ℕ) × (x : Bool) × (entry k ≡ present c x)) n (entries n entry)
unfolding entries weight
entries_counted zero entry = counts_zero
entries_counted (suc n) entry = go (entry n) refl (entries_counted n entry)
  where
    go : (y : Entry) → entry n ≡ y → Counts (λ k. (c : ℕ) × (x : Bool) × (entry k ≡ present c x)) n (entries n entry)
        → Counts (λ k. (c : ℕ) × (x : Bool) × (entry k ≡ present c x)) (suc n) (entries n entry + weight (entry n))
    go absent e r =
        let z : entries n entry + 0 ≡ entries n entry = omega arith in
        rw (e, z) (counts_no (λ h. absent_present (sym e ∙ h.2)) r)
    go (present c x) e r =
        let z : entries n entry + 1 ≡ suc (entries n entry) = omega arith in
        rw (e, z) (counts_yes (c, x, e) r)

-- as many as there are nodes with an entry that a rule gives
pub entries_given : {n : ℕ} {entry : ℕ → Entry} {Given : ℕ → ℕ → Bool → Type 0} → ((k c : ℕ) (x : Bool) → (entry k ≡ present c x) ↔ Given k c x)
    → Counts (λ k. (c : ℕ) × (x : Bool) × Given k c x) n (entries n entry)
entries_given {n} {entry} rule =
    counts_same (λ k l h. (h.0, h.1, (rule k h.0 h.1).0 h.2)) (λ k l h. (h.0, h.1, (rule k h.0 h.1).1 h.2)) (entries_counted n entry)

-- a short message carries as many entries as are due
pub short_entries : {n : ℕ} {past : List Event} → Sound n past → (i j : ℕ) → Counts (λ k. (c : ℕ) × (x : Bool) × Due columns past i j k c x) n (entries n (brief (short columns past) i j))
short_entries ok i j = entries_given (carried_exactly ok i j)

-- and a full one all n
pub full_entries : (n : ℕ) (s : State) (i j : ℕ) → entries n (whole s i j) ≡ n
unfolding entries weight whole
full_entries zero s i j = refl
full_entries (suc n) s i j = let h = full_entries n s i j in omega arith

-- ---- the totals of a cut

pub total_events : (n : ℕ) (says : List Event → ℕ → ℕ → ℕ → Entry) (es : List Event) → (totals n says es).events ≡ length es
unfolding totals more
total_events n says [] = refl
total_events n says (idle i ∷ past) = ap suc (total_events n says past)
total_events n says (mark i ∷ past) = ap suc (total_events n says past)
total_events n says (send i j m ∷ past) = ap suc (total_events n says past)
total_events n says (receipt j m ∷ past) = ap suc (total_events n says past)

-- the place holds one of these events
abbrev Holds : {A : Type 0} → (A → Event) → List Event → ℕ → Type 0
Holds {A} events es p = (a : A) × At es p (events a)

module _ {A : Type 0} (events : A → Event) {past : List Event} {c : ℕ} (r : Counts (Holds events past) (length past) c) where
  earlier : (e : Event) → Counts (Holds events (e ∷ past)) (length past) c
  earlier e = counts_same (λ p l h. (h.0, at_tail h.1)) (λ p l h. (h.0, at_down l h.1)) r

  one_more : (a : A) → Counts (Holds events (events a ∷ past)) (suc (length past)) (suc c)
  one_more a = counts_yes (a, at_head) (earlier (events a))

  no_more : (e : Event) → ((a : A) → e ≢ events a) → Counts (Holds events (e ∷ past)) (suc (length past)) c
  no_more e other =
      counts_no {m = length past} (λ h. ⊎_elim (λ q. other h.0 q.1) (λ a. let l = at_bound a in omega arith) (at_cases h.1)) (earlier e)

module _ (n : ℕ) (says : List Event → ℕ → ℕ → ℕ → Entry) where
  pub total_marks : (es : List Event) → Counts (λ p. (i : ℕ) × At es p (mark i)) (length es) (totals n says es).marks
  unfolding totals more
  total_marks [] = counts_zero
  total_marks (idle i ∷ past) = no_more mark (total_marks past) (idle i) (λ k. differ (λ z. omega arith))
  total_marks (mark i ∷ past) = one_more mark (total_marks past) i
  total_marks (send i j m ∷ past) = no_more mark (total_marks past) (send i j m) (λ k. differ (λ z. omega arith))
  total_marks (receipt j m ∷ past) = no_more mark (total_marks past) (receipt j m) (λ k. differ (λ z. omega arith))

  abbrev sending : ℕ × ℕ × ℕ → Event
  sending (i, j, m) = send i j m

  sends_counted : (es : List Event) → Counts (Holds sending es) (length es) (totals n says es).sends
  unfolding totals more
  sends_counted [] = counts_zero
  sends_counted (idle i ∷ past) = no_more sending (sends_counted past) (idle i) (λ a. differ (λ z. omega arith))
  sends_counted (mark i ∷ past) = no_more sending (sends_counted past) (mark i) (λ a. differ (λ z. omega arith))
  sends_counted (send i j m ∷ past) = one_more sending (sends_counted past) (i, j, m)
  sends_counted (receipt j m ∷ past) = no_more sending (sends_counted past) (receipt j m) (λ a. differ (λ z. omega arith))

  pub total_sends : (es : List Event) → Counts (λ p. (i j m : ℕ) × At es p (send i j m)) (length es) (totals n says es).sends
  total_sends es =
      counts_same (λ p l h. (h.0.0, h.0.1, h.0.2, h.1)) (λ p l h. ((h.0, h.1, h.2), h.3)) (sends_counted es)

-- there are as many answers as marks
pub answers_many : (n : ℕ) (says : List Event → ℕ → ℕ → ℕ → Entry) (state : List Event → State) (es : List Event)
    → length (answers n state es) ≡ (totals n says es).marks
unfolding answers totals more
answers_many n says state [] = refl
answers_many n says state (idle i ∷ past) = answers_many n says state past
answers_many n says state (mark i ∷ past) =
    let h = answers_many n says state past in
    omega (arith, length-append (answers n state past) (answer n i (state past) ∷ []))
answers_many n says state (send i j m ∷ past) = answers_many n says state past
answers_many n says state (receipt j m ∷ past) = answers_many n says state past

-- full messages carry n entries for each send
pub full_carried : (n : ℕ) (es : List Event) → (totals n (λ past. whole (full past)) es).carried ≡ n * (totals n (λ past. whole (full past)) es).sends
unfolding totals more
full_carried n [] = sym (mul-zero n)
full_carried n (idle i ∷ past) = full_carried n past
full_carried n (mark i ∷ past) = full_carried n past
full_carried n (send i j m ∷ past) =
    omega (arith, full_carried n past, full_entries n (full past) i j)
full_carried n (receipt j m ∷ past) = full_carried n past

-- short messages carry what is due, in all
pub short_carried : {n : ℕ} {es : List Event} → Sound n es → DueInAll columns n es (totals n (λ past. brief (short columns past)) es).carried
unfolding totals more
short_carried sound_nil = none_due
short_carried {n} (sound_cons {e = e} {past = past} a ok) = go e (short_carried ok)
  where
    T : List Event → Totals
    T es = totals n (λ past. brief (short columns past)) es

    go : (e : Event) → DueInAll columns n past (T past).carried → DueInAll columns n (e ∷ past) (T (e ∷ past)).carried
    go (idle i) r = other_due {e = idle i} (λ a b l. differ (λ z. omega arith)) r
    go (mark i) r = other_due {e = mark i} (λ a b l. differ (λ z. omega arith)) r
    go (send i j m) r = send_due (short_entries ok i j) r
    go (receipt j m) r = other_due {e = receipt j m} (λ a b l. differ (λ z. omega arith)) r

-- which is one number
pub due_unique : {K : Knowledge} {n : ℕ} {es : List Event} {t u : ℕ} → DueInAll K n es t → DueInAll K n es u → t ≡ u
due_unique none_due none_due = refl
due_unique (send_due c r) (send_due d s) = ap₂ ◌+◌ (due_unique r s) (counts_unique c d)
due_unique (send_due {i = i} {j = j} {m = m} c r) (other_due h s) = absurd (h i j m refl)
due_unique (other_due h r) (send_due {i = i} {j = j} {m = m} c s) = absurd (h i j m refl)
due_unique (other_due h r) (other_due k s) = due_unique r s

-- ---- the same for every rule of what counts in a message

-- where each message of a sound cut has as many entries as count in it, the messages carry those in all
pub carried_in_all : {n : ℕ} (says : List Event → ℕ → ℕ → ℕ → Entry) {Goes : List Event → ℕ → ℕ → ℕ → Type 0}
    → ((past : List Event) → Sound n past → (i j : ℕ) → Counts (Goes past i j) n (entries n (says past i j)))
    → {es : List Event} → Sound n es → InAll Goes n es (totals n says es).carried
unfolding totals more
carried_in_all says each sound_nil = in_none
carried_in_all {n} says {Goes} each (sound_cons {e = e} {past = past} a ok) = go e (carried_in_all says each ok)
  where
    go : (e : Event) → InAll Goes n past (totals n says past).carried → InAll Goes n (e ∷ past) (totals n says (e ∷ past)).carried
    go (idle i) r = in_other {e = idle i} (λ a b l. differ (λ z. omega arith)) r
    go (mark i) r = in_other {e = mark i} (λ a b l. differ (λ z. omega arith)) r
    go (send i j m) r = in_send (each past ok i j) r
    go (receipt j m) r = in_other {e = receipt j m} (λ a b l. differ (λ z. omega arith)) r

-- which is one number
pub in_all_unique : {Goes : List Event → ℕ → ℕ → ℕ → Type 0} {n : ℕ} {es : List Event} {t u : ℕ} → InAll Goes n es t → InAll Goes n es u → t ≡ u
in_all_unique in_none in_none = refl
in_all_unique (in_send c r) (in_send d s) = ap₂ ◌+◌ (in_all_unique r s) (counts_unique c d)
in_all_unique (in_send {i = i} {j = j} {m = m} c r) (in_other h s) = absurd (h i j m refl)
in_all_unique (in_other h r) (in_send {i = i} {j = j} {m = m} c s) = absurd (h i j m refl)
in_all_unique (in_other h r) (in_other k s) = in_all_unique r s

-- what is due in all is such a sum
pub due_in_all : {K : Knowledge} {n : ℕ} {es : List Event} {t : ℕ} → DueInAll K n es t → InAll (λ past i j k. (c : ℕ) × (x : Bool) × Due K past i j k c x) n es t
due_in_all none_due = in_none
due_in_all (send_due c r) = in_send c (due_in_all r)
due_in_all (other_due h r) = in_other h (due_in_all r)
