-- The list of the marks of a cut: it has just their places, in log order, and the machine's answers are right for them one by one, and
-- no others are; so their groups are the one report of the cut.
-- Assumes nothing.
use mathlib.Core.Path.{◌≡◌, refl, sym, ◌∙◌, ap, ap₂}
use mathlib.Core.Logic.{◌↔◌, ◌≢◌, ⊎_elim}
use mathlib.Core.List.Memᴰ
use mathlib.Core.List.{List, [], ◌∷◌, ◌++◌, Memᴰ}
use Prim.Native.Nat.{ℕ, ◌<◌}
use native.Mathlib.Omega.{arith}
use lib.ListN.{length}
use Rattle.order.specs.Order.{Event, idle, mark, send, receipt, At, at_head, at_tail, Sound, sound_nil, sound_cons, Allowed}
use Rattle.order.proofs.Places.{at_bound, at_cases}
use Rattle.machine.specs.Machine.{full}
use Rattle.machine.specs.Answer.{Answer, answers, Right}
use Rattle.machine.proofs.Small.{kind}
use Rattle.machine.proofs.Answers.{right_grown, mark_right, right_unique}
use Rattle.groups.specs.Groups.{groups_of}
use Rattle.passes.specs.Report.{report_of}
use Rattle.demands.specs.Demands.{marks_of, Each, each_nil, each_cons, Reports, Rising, rising_nil, rising_cons}

-- ---- the places

-- the place has a mark
abbrev Marked : List Event → ℕ → Type 0
Marked cut p = (i : ℕ) × At cut p (mark i)

-- an event that is no mark adds none
other_marks : {cut : List Event} {p : ℕ} {places : List ℕ} (e : Event) → kind e ≢ 1 → Memᴰ p places ↔ Marked cut p → Memᴰ p places ↔ Marked (e ∷ cut) p
other_marks e other h = (
  λ m. let a = h.0 m in (a.0, at_tail a.1),
  λ a. h.1 (a.0, ⊎_elim (λ c. absurd (other (rw c.1 refl))) (λ b. b) (at_cases a.1)),
)

-- the list has just the places of the marks
pub marks_listed : (cut : List Event) (p : ℕ) → Memᴰ p (marks_of cut) ↔ ((i : ℕ) × At cut p (mark i))
unfolding marks_of
marks_listed [] p = (λ m. absurd (Memᴰ.not-nil m), λ a. let h = at_bound a.1 in absurd (omega arith))
marks_listed (idle i ∷ past) p = other_marks (idle i) (λ z. omega arith) (marks_listed past p)
marks_listed (mark i ∷ past) p = (
  λ m. ⊎_elim (λ o. let a = (marks_listed past p).0 o in (a.0, at_tail a.1)) (λ o. let e : p ≡ length past = Memᴰ.eq_of_singleton o in (i, rw e at_head)) (Memᴰ.append_cases (marks_of past) m),
  λ a. ⊎_elim (λ c. Memᴰ.append_right (marks_of past) (Memᴰ.head c.0)) (λ b. Memᴰ.append_left _ ((marks_listed past p).1 (a.0, b))) (at_cases a.1),
)
marks_listed (send i j m ∷ past) p = other_marks (send i j m) (λ z. omega arith) (marks_listed past p)
marks_listed (receipt j m ∷ past) p = other_marks (receipt j m) (λ z. omega arith) (marks_listed past p)

-- a place behind all others
rising_last : {places : List ℕ} {p : ℕ} → ((q : ℕ) → Memᴰ q places → q < p) → Rising places → Rising (places ++ (p ∷ []))
rising_last h rising_nil = rising_cons (λ y m. absurd (Memᴰ.not-nil m)) rising_nil
rising_last {p = p} h (rising_cons {x = x} {xs = xs} o r) =
    rising_cons
    (λ y m. ⊎_elim (o y) (λ m. let e : y ≡ p = Memᴰ.eq_of_singleton m in rw e (h x (Memᴰ.head refl))) (Memᴰ.append_cases xs m))
    (rising_last (λ q m. h q (Memᴰ.tail m)) r)

-- they are in log order, and so none twice
pub marks_rising : (cut : List Event) → Rising (marks_of cut)
unfolding marks_of
marks_rising [] = rising_nil
marks_rising (idle i ∷ past) = marks_rising past
marks_rising (mark i ∷ past) = rising_last (λ q m. at_bound ((marks_listed past q).0 m).1) (marks_rising past)
marks_rising (send i j m ∷ past) = marks_rising past
marks_rising (receipt j m ∷ past) = marks_rising past

-- ---- lists that are related one by one

module _ {A B : Type 0} {R S : A → B → Type 0} where
  each_more : {xs : List A} {ys : List B} → ((x : A) (y : B) → R x y → S x y) → Each R xs ys → Each S xs ys
  each_more f each_nil = each_nil
  each_more f (each_cons {x = x} {y = y} h r) = each_cons (f x y h) (each_more f r)

module _ {A B : Type 0} {R : A → B → Type 0} where
  each_last : {xs : List A} {ys : List B} {x : A} {y : B} → Each R xs ys → R x y → Each R (xs ++ (x ∷ [])) (ys ++ (y ∷ []))
  each_last each_nil h = each_cons h each_nil
  each_last (each_cons k r) h = each_cons k (each_last r h)

  -- an element on the left has its partner on the right
  pub each_partner : {xs : List A} {ys : List B} {x : A} → Each R xs ys → Memᴰ x xs → (y : B) × Memᴰ y ys × R x y
  each_partner each_nil m = absurd (Memᴰ.not-nil m)
  each_partner (each_cons {y = y} h r) m =
      ⊎_elim (λ e. (y, Memᴰ.head refl, rw e h)) (λ o. let p = each_partner r o in (p.0, Memᴰ.tail p.1, p.2)) (Memᴰ.cases_cons m)

-- ---- the answers

-- the machine's answers are right for the marks, one by one
pub answers_right : {n : ℕ} {cut : List Event} → Sound n cut → Each (Right cut) (marks_of cut) (answers n full cut)
unfolding marks_of answers
answers_right sound_nil = each_nil
answers_right {n} (sound_cons {e = e} {past = past} h ok) = go e h (answers_right ok)
  where
    old : (x : Event) → Each (Right past) (marks_of past) (answers n full past) → Each (Right (x ∷ past)) (marks_of past) (answers n full past)
    old x r = each_more (λ p a right. right_grown past (x ∷ []) (at_bound right.numbered.0) right) r

    go : (x : Event) → Allowed n past x → Each (Right past) (marks_of past) (answers n full past) → Each (Right (x ∷ past)) (marks_of (x ∷ past)) (answers n full (x ∷ past))
    go (idle i) h r = old (idle i) r
    go (mark i) h r = each_last (old (mark i) r) (mark_right [] past i (sound_cons h ok))
    go (send i j m) h r = old (send i j m) r
    go (receipt j m) h r = old (receipt j m) r

-- and no others are
pub answers_only : {cut : List Event} {places : List ℕ} {told said : List Answer} → Each (Right cut) places told → Each (Right cut) places said → told ≡ said
answers_only each_nil each_nil = refl
answers_only (each_cons h r) (each_cons k s) = ap₂ ◌∷◌ (right_unique h k) (answers_only r s)

-- ---- the report

-- the groups of right answers to all marks are the report
pub reports_told : {n : ℕ} {cut : List Event} {told : List Answer} → Each (Right cut) (marks_of cut) told → Reports n cut (groups_of n told)
reports_told {told = told} right = record { told = told; right = right; grouped = refl }

-- so a sound cut has a report, the machine's
pub reports_some : {n : ℕ} {cut : List Event} → Sound n cut → Reports n cut (report_of n cut)
unfolding report_of
reports_some ok = reports_told (answers_right ok)

-- and a cut has one only
pub reports_one : {n : ℕ} {cut : List Event} {bytes other : List ℕ} → Reports n cut bytes → Reports n cut other → bytes ≡ other
reports_one {n} r s = r.grouped ∙ ap (groups_of n) (answers_only r.right s.right) ∙ sym s.grouped

-- so its length is that of the machine's
pub reports_long : {n : ℕ} {cut : List Event} {bytes : List ℕ} → Sound n cut → Reports n cut bytes → length bytes ≡ length (report_of n cut)
reports_long ok r = ap length (reports_one r (reports_some ok))
