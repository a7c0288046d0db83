-- The first broken rule of a record's list is just the row of the table that the record breaks: each test is decided, and
-- its outcome is the fact that the row states.
-- Assumes nothing.
use mathlib.Core.Path.{◌≡◌, refl, sym, ◌∙◌, ap}
use mathlib.Core.Logic.{◌≢◌, ⊎_elim}
use mathlib.Core.Bool.{Bool, true, false, not, ◌&&◌, ◌||◌, true≢false, false≢true, not-eq-not, and-eq-true_iff}
use mathlib.Core.Option.{Option, none, some}
use mathlib.Core.List.Memᴰ
use mathlib.Core.List.{List, [], ◌∷◌, Memᴰ}
use Prim.Native.Nat.{ℕ, ◌+◌, ◌<◌, ◌≤◌}
use lib.Dec.{eqb, leb}
use lib.ListN.{length}
use borrow.Author.Tests.{le-leb, lt-leb, leb-true, leb-false, eq-eqb, ne_eqb, eqb-true, eqb-false, not-true, not-false}
use Rattle.order.specs.Order.{Event, node_of, Flying, Allowed}
use Rattle.order.specs.Flight.{Message, in_flight}
use Rattle.order.proofs.Places.{flying_unique}
use Rattle.order.proofs.Flight.{flying_listed, listed_flying, message}
use Rattle.logs.specs.declared.Node.{Node}
use Rattle.logs.specs.declared.MessageNumber.{MessageNumber}
use Rattle.logs.specs.declared.Record.{Record}
use Rattle.logs.specs.declared.Record.TheVariants.{Idle, Mark, Send, Receipt}
use Rattle.verdict.specs.Verdict.{event_of, any, filled, crowded, flies, flies_elsewhere, Rule, rule, rules, first_broken}
use Rattle.verdict.specs.Table.{Breaks, breaks_12, breaks_6, breaks_6_to, breaks_7, breaks_8, breaks_9, breaks_10, breaks_11, Space, Passes}

-- ---- tests over the messages in flight

module _ (test : Message → Bool) where
  any_true : (xs : List Message) → any test xs ≡ true → (x : Message) × Memᴰ x xs × (test x ≡ true)
  any_true [] e = absurd (false≢true e)
  any_true (x ∷ xs) e = go (test x) refl (any_true xs) e
    where
      go : (b : Bool) → test x ≡ b → (any test xs ≡ true → (y : Message) × Memᴰ y xs × (test y ≡ true)) → (b || any test xs) ≡ true
          → (y : Message) × Memᴰ y (x ∷ xs) × (test y ≡ true)
      go true t rec e = (x, Memᴰ.head refl, t)
      go false t rec e = let r = rec e in (r.0, Memᴰ.tail r.1, r.2)

  any_false : (xs : List Message) → any test xs ≡ false → (x : Message) → Memᴰ x xs → test x ≡ false
  any_false [] e y m = absurd (Memᴰ.not-nil m)
  any_false (x ∷ xs) e y m = go (test x) refl (λ f. any_false xs f y) e
    where
      go : (b : Bool) → test x ≡ b → (any test xs ≡ false → Memᴰ y xs → test y ≡ false) → (b || any test xs) ≡ false → test y ≡ false
      go true t rec e = absurd (true≢false e)
      go false t rec e = ⊎_elim (λ q. ap test q ∙ t) (rec e) (Memᴰ.cases_cons m)

module _ (m : ℕ) (cut : List Event) where
  flies_true : flies m cut ≡ true → (a b q : ℕ) × Flying m a b cut q
  flies_true e =
      let r = any_true (λ x. eqb x.number m) (in_flight cut) e in
      let x = r.0 in
      (x.from, x.to, x.sent, rw (eqb-true x.number m r.2) at (listed_flying cut x r.1))

  flies_false : flies m cut ≡ false → (a b q : ℕ) → ¬ Flying m a b cut q
  flies_false e a b q f =
      true≢false (sym (eq-eqb m m refl) ∙ any_false (λ x. eqb x.number m) (in_flight cut) e (message m a b q) (flying_listed f))

  flies_yes : {a b q : ℕ} → Flying m a b cut q → flies m cut ≡ true
  flies_yes f = not-eq-not.0 (λ e. flies_false e _ _ _ f)

  flies_no : ((a b q : ℕ) → ¬ Flying m a b cut q) → flies m cut ≡ false
  flies_no h = not-eq-not.0 (λ e. let r = flies_true e in h r.0 r.1 r.2 r.3)

module _ (m j : ℕ) (cut : List Event) where
  elsewhere_true : flies_elsewhere m j cut ≡ true → (a b q : ℕ) × Flying m a b cut q × (b ≢ j)
  elsewhere_true e =
      let r = any_true (λ x. eqb x.number m && not (eqb x.to j)) (in_flight cut) e in
      let x = r.0 in
      let t = (and-eq-true_iff (eqb x.number m) _).0 r.2 in
      (x.from, x.to, x.sent, rw (eqb-true x.number m t.0) at (listed_flying cut x r.1), eqb-false x.to j (not-true _ t.1))

  elsewhere_false : flies_elsewhere m j cut ≡ false → {a b q : ℕ} → Flying m a b cut q → b ≡ j
  elsewhere_false e {a} {b} {q} f =
      let t = any_false (λ x. eqb x.number m && not (eqb x.to j)) (in_flight cut) e (message m a b q) (flying_listed f) in
      eqb-true b j (not-false _ (rw (eq-eqb m m refl) at t))

  elsewhere_yes : {a b q : ℕ} → Flying m a b cut q → b ≢ j → flies_elsewhere m j cut ≡ true
  elsewhere_yes f s = not-eq-not.0 (λ e. s (elsewhere_false e f))

  elsewhere_no : {a q : ℕ} → Flying m a j cut q → flies_elsewhere m j cut ≡ false
  elsewhere_no f = not-eq-not.0 (λ e. let r = elsewhere_true e in r.4 (sym (flying_unique f r.3).1))

-- ---- the list of rules and the rows of the table

-- the first broken rule is a row of the table, and where none is broken the record passes
pub data Judged (n : ℕ) (cut : List Event) (p : ℕ) (r : Record) : Option Rule → Type 0 where
  judged_breaks : {x q : ℕ} → Breaks n cut p r x q → Judged n cut p r (some (rule x q true))
  judged_passes : Passes n cut r → Judged n cut p r none

module _ (n : ℕ) (cut : List Event) (p : ℕ) where
  -- an event that neither sends nor receives
  judge_quiet : (r : Record) → (node_of (event_of r) < n → Allowed n cut (event_of r) × Space cut (event_of r))
      → (b₁ b₂ : Bool) → filled cut ≡ b₁ → leb n (node_of (event_of r)) ≡ b₂
      → Judged n cut p r (first_broken (rule 12 p b₁ ∷ rule 6 (p + 1) b₂ ∷ []))
  judge_quiet r allowed true b₂ e₁ e₂ = judged_breaks (breaks_12 (leb-true _ _ e₁))
  judge_quiet r allowed false true e₁ e₂ = judged_breaks (breaks_6 (leb-false _ _ e₁) (leb-true _ _ e₂))
  judge_quiet r allowed false false e₁ e₂ =
      let a = allowed (leb-false _ _ e₂) in judged_passes (leb-false _ _ e₁, a.0, a.1)

  judge_send : (i j : Node) (m : MessageNumber) (b₁ b₂ b₃ b₄ b₅ b₆ : Bool)
      → filled cut ≡ b₁ → leb n i.0 ≡ b₂ → leb n j.0 ≡ b₃ → eqb i.0 j.0 ≡ b₄ → flies m.0 cut ≡ b₅
      → crowded cut ≡ b₆
      → Judged n cut p (Send i j m)
      (first_broken (rule 12 p b₁ ∷ rule 6 (p + 1) b₂ ∷ rule 6 (p + 2) b₃ ∷ rule 7 (p + 2) b₄ ∷ rule 8 (p + 3) b₅ ∷ rule 9 p b₆ ∷ []))
  judge_send i j m true b₂ b₃ b₄ b₅ b₆ e₁ e₂ e₃ e₄ e₅ e₆ = judged_breaks (breaks_12 (leb-true _ _ e₁))
  judge_send i j m false true b₃ b₄ b₅ b₆ e₁ e₂ e₃ e₄ e₅ e₆ = judged_breaks (breaks_6 (leb-false _ _ e₁) (leb-true _ _ e₂))
  judge_send i j m false false true b₄ b₅ b₆ e₁ e₂ e₃ e₄ e₅ e₆ =
      judged_breaks (breaks_6_to (leb-false _ _ e₁) (leb-false _ _ e₂) (leb-true _ _ e₃))
  judge_send i j m false false false true b₅ b₆ e₁ e₂ e₃ e₄ e₅ e₆ =
      judged_breaks (breaks_7 (leb-false _ _ e₁) (leb-false _ _ e₂) (leb-false _ _ e₃) (eqb-true _ _ e₄))
  judge_send i j m false false false false true b₆ e₁ e₂ e₃ e₄ e₅ e₆ =
      judged_breaks (breaks_8 (leb-false _ _ e₁) (leb-false _ _ e₂) (leb-false _ _ e₃) (eqb-false _ _ e₄) (flies_true m.0 cut e₅).3)
  judge_send i j m false false false false false true e₁ e₂ e₃ e₄ e₅ e₆ =
      judged_breaks (breaks_9 (leb-false _ _ e₁)
      (leb-false _ _ e₂, leb-false _ _ e₃, eqb-false _ _ e₄, flies_false m.0 cut e₅) (leb-true _ _ e₆))
  judge_send i j m false false false false false false e₁ e₂ e₃ e₄ e₅ e₆ =
      judged_passes (leb-false _ _ e₁, (leb-false _ _ e₂, leb-false _ _ e₃, eqb-false _ _ e₄, flies_false m.0 cut e₅), leb-false _ _ e₆)

  judge_receipt : (j : Node) (m : MessageNumber) (b₁ b₂ b₃ b₄ : Bool)
      → filled cut ≡ b₁ → leb n j.0 ≡ b₂ → flies m.0 cut ≡ b₃ → flies_elsewhere m.0 j.0 cut ≡ b₄
      → Judged n cut p (Receipt j m) (first_broken (rule 12 p b₁ ∷ rule 6 (p + 1) b₂ ∷ rule 10 (p + 2) (not b₃) ∷ rule 11 (p + 2) b₄ ∷ []))
  judge_receipt j m true b₂ b₃ b₄ e₁ e₂ e₃ e₄ = judged_breaks (breaks_12 (leb-true _ _ e₁))
  judge_receipt j m false true b₃ b₄ e₁ e₂ e₃ e₄ = judged_breaks (breaks_6 (leb-false _ _ e₁) (leb-true _ _ e₂))
  judge_receipt j m false false false b₄ e₁ e₂ e₃ e₄ =
      judged_breaks (breaks_10 (leb-false _ _ e₁) (leb-false _ _ e₂) (flies_false m.0 cut e₃))
  judge_receipt j m false false true true e₁ e₂ e₃ e₄ =
      let r = elsewhere_true m.0 j.0 cut e₄ in
      judged_breaks (breaks_11 (leb-false _ _ e₁) (leb-false _ _ e₂) r.3 r.4)
  judge_receipt j m false false true false e₁ e₂ e₃ e₄ =
      let r = flies_true m.0 cut e₃ in
      judged_passes (
        leb-false _ _ e₁,
        (leb-false _ _ e₂, (r.0, r.2, rw (elsewhere_false m.0 j.0 cut e₄ r.3) at r.3)),
        tt,
      )

  -- every record is judged by the table
  pub judged : (r : Record) → Judged n cut p r (first_broken (rules n cut p r))
  unfolding rules
  judged (Idle i) = judge_quiet (Idle i) (λ h. (h, tt)) _ _ refl refl
  judged (Mark i) = judge_quiet (Mark i) (λ h. (h, tt)) _ _ refl refl
  judged (Send i j m) = judge_send i j m _ _ _ _ _ _ refl refl refl refl refl refl
  judged (Receipt j m) = judge_receipt j m _ _ _ _ refl refl refl refl

  -- ---- and the table's row is the first broken rule

  filled_first : 4096 ≤ length cut → (r : Record) → first_broken (rules n cut p r) ≡ some (rule 12 p true)
  unfolding rules
  filled_first h (Idle i) = simp (le-leb _ _ h)
  filled_first h (Mark i) = simp (le-leb _ _ h)
  filled_first h (Send i j m) = simp (le-leb _ _ h)
  filled_first h (Receipt j m) = simp (le-leb _ _ h)

  stranger_first : length cut < 4096 → (r : Record) → n ≤ node_of (event_of r) → first_broken (rules n cut p r) ≡ some (rule 6 (p + 1) true)
  unfolding rules
  stranger_first h (Idle i) k = simp (lt-leb _ _ h, le-leb _ _ k)
  stranger_first h (Mark i) k = simp (lt-leb _ _ h, le-leb _ _ k)
  stranger_first h (Send i j m) k = simp (lt-leb _ _ h, le-leb _ _ k)
  stranger_first h (Receipt j m) k = simp (lt-leb _ _ h, le-leb _ _ k)

  pub breaks_first : {r : Record} {x q : ℕ} → Breaks n cut p r x q → first_broken (rules n cut p r) ≡ some (rule x q true)
  unfolding rules
  breaks_first (breaks_12 {r = r} h) = filled_first h r
  breaks_first (breaks_6 {r = r} h k) = stranger_first h r k
  breaks_first (breaks_6_to h a b) = simp (lt-leb _ _ h, lt-leb _ _ a, le-leb _ _ b)
  breaks_first (breaks_7 h a b s) = simp (lt-leb _ _ h, lt-leb _ _ a, lt-leb _ _ b, eq-eqb _ _ s)
  breaks_first (breaks_8 {m = m} h a b s f) = simp (lt-leb _ _ h, lt-leb _ _ a, lt-leb _ _ b, ne_eqb _ _ s, flies_yes m.0 cut f)
  breaks_first (breaks_9 {m = m} h a s) =
      simp (lt-leb _ _ h, lt-leb _ _ a.0, lt-leb _ _ a.1, ne_eqb _ _ a.2, flies_no m.0 cut a.3, le-leb _ _ s)
  breaks_first (breaks_10 {m = m} h a s) = simp (lt-leb _ _ h, lt-leb _ _ a, flies_no m.0 cut s)
  breaks_first (breaks_11 {j = j} {m = m} h a f s) =
      simp (lt-leb _ _ h, lt-leb _ _ a, flies_yes m.0 cut f, elsewhere_yes m.0 j.0 cut f s)

  pub passes_first : (r : Record) → Passes n cut r → first_broken (rules n cut p r) ≡ none
  unfolding rules
  passes_first (Idle i) h = simp (lt-leb _ _ h.0, lt-leb _ _ h.1)
  passes_first (Mark i) h = simp (lt-leb _ _ h.0, lt-leb _ _ h.1)
  passes_first (Send i j m) (h, a, s) =
      simp (lt-leb _ _ h, lt-leb _ _ a.0, lt-leb _ _ a.1, ne_eqb _ _ a.2, flies_no m.0 cut a.3, lt-leb _ _ s)
  passes_first (Receipt j m) (h, a, s) =
      simp (lt-leb _ _ h, lt-leb _ _ a.0, flies_yes m.0 cut a.1.2, elsewhere_no m.0 j.0 cut a.1.2)
