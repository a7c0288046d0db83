-- The contracts of the steps have one result: what a step does is named element by element, and what follows the machine is a
-- state's room, of which there is one.
-- Assumes nothing.
use mathlib.Core.Path.{◌≡◌, sym, ap, ◌∙◌}
use mathlib.Core.Logic.{inl, inr}
use mathlib.Core.List.{List}
use Prim.Native.Nat.{ℕ, zero, suc, ◌+◌, ◌-◌, ◌*◌, ◌<◌}
use native.Mathlib.Decide.{dec_lt, ℕ_discrete}
use native.Mathlib.Omega.{arith}
use lib.ListN.{length, get_or}
use lib.Seq.{ext_get_or}
use Rattle.order.specs.Order.{Event}
use Rattle.bits.proofs.Laws.{same_bits}
use Rattle.cells.specs.declared.Cell.{Cell}
use Rattle.room.specs.declared.Mode.{Mode}
use Rattle.room.specs.Room.{Outside}
use Rattle.room.proofs.OneRoom.{one_room}
use Rattle.steps.specs.Steps.{held, Marked, Posted, Sent, Received, Ready, Follows}

-- lists of one length are equal if they agree on the k places from a on, and outside them
same_lists : (a k : ℕ) (xs ys : List ℕ) → length xs ≡ length ys → ((x : ℕ) → x < k → get_or xs (a + x) 0 ≡ get_or ys (a + x) 0)
    → ((p : ℕ) → Outside a k p → get_or xs p 0 ≡ get_or ys p 0) → xs ≡ ys
same_lists a k xs ys size inside outside = ext_get_or 0 xs ys size (λ p h. go p (dec_lt p a) (dec_lt p (a + k)))
  where
    go : (p : ℕ) → Dec (p < a) → Dec (p < a + k) → get_or xs p 0 ≡ get_or ys p 0
    go p (yes h) l = outside p (inl h)
    go p (no h) (no l) = outside p (inr (omega arith))
    go p (no h) (yes l) = let there : p ≡ a + (p - a) = omega arith in rw there (inside (p - a) (omega arith))

-- ---- a mark

-- Two results of a mark in one room are equal: the counts and the words.
pub marked_unique : {n i : ℕ} {counts words counts₁ words₁ counts₂ words₂ : List ℕ}
    → Marked n i counts words counts₁ words₁ → Marked n i counts words counts₂ words₂ → (counts₁ ≡ counts₂) × (words₁ ≡ words₂)
marked_unique a b = (a.counts_are ∙ sym b.counts_are, a.words_are ∙ sym b.words_are)

-- ---- a send

-- two letters posted in one slot are equal at each of its elements
posted_same : {n i j m slot spared : ℕ} {counts words mail mail₁ mail₂ : List ℕ}
    → Posted n i j m slot spared counts words mail mail₁ → Posted n i j m slot spared counts words mail mail₂
    → (x : ℕ) → x < 3 + n → get_or mail₁ (35 * slot + x) 0 ≡ get_or mail₂ (35 * slot + x) 0
posted_same {slot = slot} a b zero h = let first : 35 * slot + 0 ≡ 35 * slot = omega arith in rw first (a.from ∙ sym b.from)
posted_same a b (suc zero) h = a.to ∙ sym b.to
posted_same a b (suc (suc zero)) h = a.number ∙ sym b.number
posted_same {slot = slot} a b (suc (suc (suc k))) h =
    let place : 35 * slot + suc (suc (suc k)) ≡ 35 * slot + 3 + k = omega arith in
    rw place (a.written k (omega arith) ∙ sym (b.written k (omega arith)))

-- Two results of a send in one room are equal: how many entries it carries, and the mail.
pub sent_unique : {mode : Mode} {n i j m slot : ℕ} {counts words mail mail₁ mail₂ : List ℕ} {carried₁ carried₂ : ℕ}
    → length mail₁ ≡ 4480 → Sent mode n i j m slot counts words mail mail₁ carried₁
    → length mail₂ ≡ 4480 → Sent mode n i j m slot counts words mail mail₂ carried₂
    → (carried₁ ≡ carried₂) × (mail₁ ≡ mail₂)
sent_unique {n = n} {slot = slot} {mail₁ = mail₁} {mail₂} size a size₂ b = (
  a.counted ∙ sym b.counted,
  same_lists (35 * slot) (3 + n) mail₁ mail₂ (size ∙ sym size₂) (posted_same a.posted b.posted)
      (λ p out. a.posted.mail_else p out ∙ sym (b.posted.mail_else p out)),
)

-- ---- a receipt

-- Two results of a receipt in one room are equal: the three slices.
pub received_unique : {n i slot : ℕ} {counts words mail counts₁ words₁ mail₁ counts₂ words₂ mail₂ : List ℕ}
    → (length counts₁ ≡ 1024) × (length words₁ ≡ 1056) × (length mail₁ ≡ 4480) → Received n i slot counts words mail counts₁ words₁ mail₁
    → (length counts₂ ≡ 1024) × (length words₂ ≡ 1056) × (length mail₂ ≡ 4480) → Received n i slot counts words mail counts₂ words₂ mail₂
    → (counts₁ ≡ counts₂) × (words₁ ≡ words₂) × (mail₁ ≡ mail₂)
received_unique {n} {i} {slot} {counts₁ = counts₁} {words₁} {mail₁} {counts₂} {words₂} {mail₂} size a size₂ b = (
  same_lists (n * i) n counts₁ counts₂ (size.0 ∙ sym size₂.0) (λ k h. ap (λ (x : Cell). x.count) (cells k h))
      (λ p out. a.counts_else p out ∙ sym (b.counts_else p out)),
  same_lists (32 + n * i) n words₁ words₂ (size.1 ∙ sym size₂.1) (λ k h. ap (λ (x : Cell). x.column) (cells k h)) (λ p out. else p out (ℕ_discrete p i)),
  same_lists (35 * slot) (3 + n) mail₁ mail₂ (size.2 ∙ sym size₂.2) (λ x h. a.freed x h ∙ sym (b.freed x h))
      (λ p out. a.mail_else p out ∙ sym (b.mail_else p out)),
)
  where
    cells : (k : ℕ) → k < n → held n counts₁ words₁ i k ≡ held n counts₂ words₂ i k
    cells k h = a.cells k h ∙ sym (b.cells k h)

    flags : get_or words₁ i 0 ≡ get_or words₂ i 0
    flags = same_bits (get_or words₁ i 0) (get_or words₂ i 0) (λ k. go k (dec_lt k n))
      where
        go : (k : ℕ) → Dec (k < n) → (held n counts₁ words₁ i k).direct ≡ (held n counts₂ words₂ i k).direct
        go k (yes h) = ap (λ (x : Cell). x.direct) (cells k h)
        go k (no h) = a.flags_above k (omega arith) ∙ sym (b.flags_above k (omega arith))

    else : (p : ℕ) → Outside (32 + n * i) n p → Dec (p ≡ i) → get_or words₁ p 0 ≡ get_or words₂ p 0
    else p out (yes own) = rw own flags
    else p out (no other) = a.words_else p other out ∙ sym (b.words_else p other out)

-- ---- an event that is ready

-- Two results of an event that is ready are equal: the three slices, and how many entries went along.
pub follows_unique : {mode : Mode} {n : ℕ} {cut : List Event} {e : Event} {slot : ℕ}
    {counts words mail counts₁ words₁ mail₁ counts₂ words₂ mail₂ : List ℕ} {carried₁ carried₂ : ℕ}
    → Ready mode n cut e slot counts words mail → Follows mode n e slot counts words mail counts₁ words₁ mail₁ carried₁
    → Follows mode n e slot counts words mail counts₂ words₂ mail₂ carried₂
    → (carried₁ ≡ carried₂) × (counts₁ ≡ counts₂) × (words₁ ≡ words₂) × (mail₁ ≡ mail₂)
follows_unique {cut = cut} ready f g =
    let one = f cut ready in
    let other = g cut ready in
    let same = one_room one.0 other.0 in
    (one.1 ∙ sym other.1, same.0, same.1, same.2)
