-- What the bytes are where the reader gives an answer, case by case and both ways, and from it: reading goes forward, stays
-- within the log, and sees only the bytes of the record. By deciding the kind and the length.
-- Assumes nothing.
use mathlib.Core.Path.{◌≡◌, refl, sym, ◌∙◌, ap, subst}
use mathlib.Core.Logic.{◌⊎◌, inl, inr, ◌↔◌}
use mathlib.Core.List.{List}
use Prim.Native.Nat.{ℕ, ◌+◌, ◌-◌, ◌<◌, ◌≤◌}
use native.Mathlib.Decide.{ℕ_discrete, dec_le}
use native.Mathlib.Omega.{arith}
use lib.ListN.{length, get_or}
use Rattle.logs.specs.declared.Cursor.{Cursor}
use Rattle.logs.specs.declared.Record.{Record}
use Rattle.logs.specs.declared.Refusal.{Refusal}
use Rattle.logs.specs.declared.Record.TheVariants.{Idle, Mark, Send, Receipt}
use Rattle.logs.specs.Record.{Step}
use Rattle.logs.specs.Record.{place, node_at, number_at, whole_at, record_at}
use Rattle.logs.proofs.Reader.{record_end, record_idle, record_mark, record_send, record_receipt, record_unknown, whole_read, whole_short}
use Rattle.std.specs.Prelude.{Some, None, Ok, Err}
use Rattle.logs.specs.Record.{refusal}
use Rattle.logs.specs.declared.Reason.TheVariants.{UnknownKind, CutShort}

-- 01's table of kinds: the kind byte of an event, and how many bytes its record has
pub data Kind : ℕ → ℕ → Type 0 where
  kind_idle : Kind 0x11 2
  kind_mark : Kind 0x12 2
  kind_send : Kind 0x13 5
  kind_receipt : Kind 0x14 4

no_kind : {k size : ℕ} → ¬ (k ≡ 0x11) → ¬ (k ≡ 0x12) → ¬ (k ≡ 0x13) → ¬ (k ≡ 0x14) → ¬ Kind k size
no_kind a b c d kind_idle = a refl
no_kind a b c d kind_mark = b refl
no_kind a b c d kind_send = c refl
no_kind a b c d kind_receipt = d refl

-- the bytes at place p behind an answer
pub data Stands (log : List ℕ) (p : ℕ) : Step → Type 0 where
  stands_end : length log ≤ p → Stands log p (Ok None)
  stands_unknown : p < length log → ((size : ℕ) → ¬ Kind (get_or log p 0) size) → Stands log p (Err (refusal UnknownKind p))
  stands_short : {size : ℕ} → p < length log → Kind (get_or log p 0) size → length log < p + size → Stands log p (Err (refusal CutShort p))
  stands_idle : get_or log p 0 ≡ 0x11 → p + 2 ≤ length log → Stands log p (Ok (Some (Idle (node_at log (p + 1)), place (p + 2))))
  stands_mark : get_or log p 0 ≡ 0x12 → p + 2 ≤ length log → Stands log p (Ok (Some (Mark (node_at log (p + 1)), place (p + 2))))
  stands_send : get_or log p 0 ≡ 0x13 → p + 5 ≤ length log
      → Stands log p (Ok (Some (Send (node_at log (p + 1)) (node_at log (p + 2)) (number_at log (p + 3)), place (p + 5))))
  stands_receipt : get_or log p 0 ≡ 0x14 → p + 4 ≤ length log
      → Stands log p (Ok (Some (Receipt (node_at log (p + 1)) (number_at log (p + 2)), place (p + 4))))

module _ (log : List ℕ) (p : ℕ) where
  -- a record of a known kind is whole or cut short
  sized : (inside : p < length log) (size : ℕ) (r : Record) → Kind (get_or log p 0) size → record_at log p ≡ whole_at log p size r
      → (p + size ≤ length log → Stands log p (Ok (Some (r, place (p + size))))) → Stands log p (record_at log p)
  sized inside size r k e f = go (dec_le size (length log - p))
    where
      go : Dec (size ≤ length log - p) → Stands log p (record_at log p)
      go (yes h) = rw (e ∙ whole_read log p inside size r h) (f (omega arith))
      go (no h) = rw (e ∙ whole_short log p inside size r (omega arith)) (stands_short inside k (omega arith))

  kind : ℕ
  kind = get_or log p 0

  by_kind : p < length log → Dec (kind ≡ 0x11) → Dec (kind ≡ 0x12) → Dec (kind ≡ 0x13) → Dec (kind ≡ 0x14) → Stands log p (record_at log p)
  unfolding kind
  by_kind h (yes k) b c d = sized h 2 _ (rw k kind_idle) (record_idle log p h k) (stands_idle k)
  by_kind h (no a) (yes k) c d = sized h 2 _ (rw k kind_mark) (record_mark log p h k) (stands_mark k)
  by_kind h (no a) (no b) (yes k) d = sized h 5 _ (rw k kind_send) (record_send log p h k) (stands_send k)
  by_kind h (no a) (no b) (no c) (yes k) = sized h 4 _ (rw k kind_receipt) (record_receipt log p h k) (stands_receipt k)
  by_kind h (no a) (no b) (no c) (no d) = rw (record_unknown log p h a b c d) (stands_unknown h (λ size. no_kind a b c d))

  -- every place has its case
  pub stands : Stands log p (record_at log p)
  stands = go (dec_le (length log) p)
    where
      go : Dec (length log ≤ p) → Stands log p (record_at log p)
      go (yes h) = rw (record_end log p h) (stands_end h)
      go (no h) = by_kind (omega arith) (ℕ_discrete kind 0x11) (ℕ_discrete kind 0x12) (ℕ_discrete kind 0x13) (ℕ_discrete kind 0x14)

  -- a record of a known kind of which the log lacks bytes
  short_read : p < length log → {k size : ℕ} → get_or log p 0 ≡ k → Kind k size → length log < p + size → record_at log p ≡ Err (refusal CutShort p)
  short_read b e kind_idle h = record_idle log p b e ∙ whole_short log p b 2 _ (omega arith)
  short_read b e kind_mark h = record_mark log p b e ∙ whole_short log p b 2 _ (omega arith)
  short_read b e kind_send h = record_send log p b e ∙ whole_short log p b 5 _ (omega arith)
  short_read b e kind_receipt h = record_receipt log p b e ∙ whole_short log p b 4 _ (omega arith)

  -- where the bytes of an answer stand, it is given
  pub stands_given : {s : Step} → Stands log p s → record_at log p ≡ s
  stands_given (stands_end h) = record_end log p h
  stands_given (stands_unknown h none) =
      record_unknown log p h (λ e. none 2 (rw e kind_idle)) (λ e. none 2 (rw e kind_mark)) (λ e. none 5 (rw e kind_send)) (λ e. none 4 (rw e kind_receipt))
  stands_given (stands_short b k h) = short_read b refl k h
  stands_given (stands_idle k h) = let b : p < length log = omega arith in record_idle log p b k ∙ whole_read log p b 2 _ (omega arith)
  stands_given (stands_mark k h) = let b : p < length log = omega arith in record_mark log p b k ∙ whole_read log p b 2 _ (omega arith)
  stands_given (stands_send k h) = let b : p < length log = omega arith in record_send log p b k ∙ whole_read log p b 5 _ (omega arith)
  stands_given (stands_receipt k h) = let b : p < length log = omega arith in record_receipt log p b k ∙ whole_read log p b 4 _ (omega arith)

  -- and where the bytes of a record stand, it is read
  pub stands_read : {r : Record} {c : Cursor} → Stands log p (Ok (Some (r, c))) → record_at log p ≡ Ok (Some (r, c))
  stands_read h = stands_given h

-- how many bytes a record has
abbrev pub size_of : Record → ℕ
size_of (Idle i) = 2
size_of (Mark i) = 2
size_of (Send i j m) = 5
size_of (Receipt j m) = 4

-- ---- what the answers tell

module _ (log : List ℕ) (p : ℕ) where
  -- a record that is read ends past its start and within the log
  pub read_size : {r : Record} {c : Cursor} → record_at log p ≡ Ok (Some (r, c)) → (c.at ≡ p + size_of r) × (c.at ≤ length log)
  read_size e = go (subst (Stands log p) e (stands log p))
    where
      go : {r : Record} {c : Cursor} → Stands log p (Ok (Some (r, c))) → (c.at ≡ p + size_of r) × (c.at ≤ length log)
      go (stands_idle k h) = (refl, h)
      go (stands_mark k h) = (refl, h)
      go (stands_send k h) = (refl, h)
      go (stands_receipt k h) = (refl, h)

  -- a place has one record
  pub read_one : {r s : Record} {c d : Cursor} → record_at log p ≡ Ok (Some (r, c)) → record_at log p ≡ Ok (Some (s, d)) → (r ≡ s) × (c ≡ d)
  read_one {r} {s} {c} {d} e f =
      let both : (r, c) ≡ (s, d) = cc in
      (ap (λ (w : Record × Cursor). w.0) both, ap (λ (w : Record × Cursor). w.1) both)

  pub read_forward : {r : Record} {c : Cursor} → record_at log p ≡ Ok (Some (r, c)) → (p < c.at) × (c.at ≤ length log)
  read_forward {r} e = let h = read_size e in let s = size_positive r in omega arith
    where
      size_positive : (r : Record) → 0 < size_of r
      size_positive (Idle i) = omega arith
      size_positive (Mark i) = omega arith
      size_positive (Send i j m) = omega arith
      size_positive (Receipt j m) = omega arith

  -- the end is the log's length or behind it
  pub end_there : record_at log p ≡ Ok None → length log ≤ p
  end_there e = go (subst (Stands log p) e (stands log p))
    where
      go : Stands log p (Ok None) → length log ≤ p
      go (stands_end h) = h

  -- 4 is given at a byte of the log that is no kind
  pub unknown_there : {q : ℕ} → record_at log p ≡ Err (refusal UnknownKind q) → (q ≡ p) × (p < length log) × ((size : ℕ) → ¬ Kind (get_or log p 0) size)
  unknown_there e = go (subst (Stands log p) e (stands log p))
    where
      go : {q : ℕ} → Stands log p (Err (refusal UnknownKind q)) → (q ≡ p) × (p < length log) × ((size : ℕ) → ¬ Kind (get_or log p 0) size)
      go (stands_unknown h none) = (refl, h, none)

  -- 5 is given at the kind byte of a record of which the log lacks bytes
  pub short_there : {q : ℕ} → record_at log p ≡ Err (refusal CutShort q) → (q ≡ p) × (p < length log) × ((size : ℕ) × Kind (get_or log p 0) size × (length log < p + size))
  short_there e = go (subst (Stands log p) e (stands log p))
    where
      go : {q : ℕ} → Stands log p (Err (refusal CutShort q)) → (q ≡ p) × (p < length log) × ((size : ℕ) × Kind (get_or log p 0) size × (length log < p + size))
      go (stands_short {size = size} h k l) = (refl, h, (size, k, l))

  -- a record that is not read is of no kind, or cut short
  pub refused_there : {f : Refusal} → record_at log p ≡ Err f → (f ≡ refusal UnknownKind p) ⊎ (f ≡ refusal CutShort p)
  refused_there e = go (subst (Stands log p) e (stands log p))
    where
      go : {f : Refusal} → Stands log p (Err f) → (f ≡ refusal UnknownKind p) ⊎ (f ≡ refusal CutShort p)
      go (stands_unknown h none) = inl refl
      go (stands_short h k l) = inr refl

  -- a byte of the log that is no kind
  pub unknown_exactly : {q : ℕ} → (record_at log p ≡ Err (refusal UnknownKind q)) ↔ ((q ≡ p) × (p < length log) × ((size : ℕ) → ¬ Kind (get_or log p 0) size))
  unknown_exactly = (λ e. unknown_there e, λ h. rw h.0 (stands_given log p (stands_unknown h.1 h.2)))

  -- the kind byte of a record of which the log lacks bytes
  pub short_exactly : {q : ℕ}
      → (record_at log p ≡ Err (refusal CutShort q)) ↔ ((q ≡ p) × (p < length log) × ((size : ℕ) × Kind (get_or log p 0) size × (length log < p + size)))
  short_exactly = (λ e. short_there e, λ h. rw h.0 (stands_given log p (stands_short h.1 h.2.1 h.2.2)))

-- ---- the bytes of a record decide it

-- a log that has the same bytes up to m, and that many at least, has the same record where it ends by m
module _ (log other : List ℕ) (m : ℕ) (long : m ≤ length other) (same : (i : ℕ) → i < m → get_or log i 0 ≡ get_or other i 0) where
  pub read_same : (p : ℕ) {r : Record} {c : Cursor} → record_at log p ≡ Ok (Some (r, c)) → c.at ≤ m → record_at other p ≡ Ok (Some (r, c))
  read_same p e b = stands_read other p (go (subst (Stands log p) e (stands log p)) b)
    where
      kind_same : {k : ℕ} → get_or log p 0 ≡ k → p < m → get_or other p 0 ≡ k
      kind_same e h = sym (same p h) ∙ e

      go : {r : Record} {c : Cursor} → Stands log p (Ok (Some (r, c))) → c.at ≤ m → Stands other p (Ok (Some (r, c)))
      go (stands_idle k h) b = rw (same (p + 1) (omega arith)) (stands_idle (kind_same k (omega arith)) (omega arith))
      go (stands_mark k h) b = rw (same (p + 1) (omega arith)) (stands_mark (kind_same k (omega arith)) (omega arith))
      go (stands_send k h) b =
          rw (same (p + 1) (omega arith), same (p + 2) (omega arith), same (p + 3) (omega arith), same (p + 3 + 1) (omega arith))
          (stands_send (kind_same k (omega arith)) (omega arith))
      go (stands_receipt k h) b =
          rw (same (p + 1) (omega arith), same (p + 2) (omega arith), same (p + 2 + 1) (omega arith))
          (stands_receipt (kind_same k (omega arith)) (omega arith))
