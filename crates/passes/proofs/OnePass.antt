-- A pass has one result: after so many events one place and one cut are reached, and none further than where the log is refused.
-- Assumes nothing.
use mathlib.Core.Path.{◌≡◌, refl, sym, ◌∙◌, ap}
use mathlib.Core.Bool.{false≢true}
use mathlib.Core.List.{List}
use Prim.Native.Nat.{ℕ, suc, ◌≤◌}
use native.Mathlib.Decide.{dec_le}
use native.Mathlib.Omega.{arith}
use lib.ListN.{length}
use Rattle.order.specs.Order.{Event}
use Rattle.logs.specs.Record.{record_at}
use Rattle.logs.specs.declared.Record.{Record}
use Rattle.logs.specs.declared.Cursor.{Cursor}
use Rattle.logs.specs.declared.Refusal.{Refusal}
use Rattle.logs.specs.Record.{number_of}
use Rattle.logs.proofs.FirstRecord.{opened_one}
use Rattle.logs.proofs.Stands.{read_one}
use Rattle.logs.proofs.Reasons.{number_same, refusal_same}
use Rattle.std.specs.Prelude.{Some, Result, Ok, Err}
use Rattle.verdict.specs.Table.{Reached, reached_first, reached_next, Passes, row_accepted, row_refused}
use Rattle.verdict.proofs.Rules.{breaks_first, passes_first}
use Rattle.verdict.proofs.Verdict.{row_unique, not_accepted}
use Rattle.room.specs.declared.Mode.{Mode}
use Rattle.room.proofs.OneRoom.{one_room}
use Rattle.passes.specs.declared.Tally.{Tally}
use Rattle.passes.specs.Pass.{Stands, Halts, halts_4, halts_5, halts_rule, Passing, whole, halted}
use Rattle.passes.proofs.Turns.{halts_refused}

-- after so many events one place and one cut are reached
reached_one : {log : List ℕ} {n p p₂ : ℕ} {cut cut₂ : List Event} → Reached log n p cut → Reached log n p₂ cut₂ → length cut ≡ length cut₂
    → (p ≡ p₂) × (cut ≡ cut₂)
reached_one {log} (reached_first {c = c} e) (reached_first {c = d} f) h =
    let same : c ≡ d = (opened_one log e f).1 in
    (ap (λ (c : Cursor). c.at) same, refl)
reached_one (reached_first e) (reached_next b f k) h = absurd (omega arith)
reached_one (reached_next b e k) (reached_first f) h = absurd (omega arith)
reached_one {log} (reached_next {r = r} {c = c} b e k) (reached_next {p = p₂} {r = s} {c = d} b₂ f k₂) h =
    let before = reached_one b b₂ (omega arith) in
    let one = read_one log p₂ (rw before.0 at e) f in
    (ap (λ (c : Cursor). c.at) one.1, rw (one.0, before.1))

-- a record that is refused does not pass
halts_last : {log : List ℕ} {n p x q : ℕ} {cut : List Event} {r : Record} {c : Cursor} → Halts log n p cut x q → record_at log p ≡ Ok (Some (r, c)) → ¬ Passes n cut r
halts_last {r = r} {c} (halts_4 e) f k = absurd (false≢true (cc))
halts_last {r = r} {c} (halts_5 e) f k = absurd (false≢true (cc))
halts_last {log} {n} {p} {cut = cut} {r} {c} (halts_rule {r = s} e b) f k =
    let same : s ≡ r = (read_one log p e f).0 in
    let first = rw same at (breaks_first n cut p b) in
    absurd (let clash = sym (passes_first n cut p r k) ∙ first in false≢true (cc))

-- and nothing is reached behind it
halts_most : {log : List ℕ} {n p x q p₂ : ℕ} {cut cut₂ : List Event} → Reached log n p cut → Halts log n p cut x q → Reached log n p₂ cut₂
    → length cut₂ ≤ length cut
halts_most here stop (reached_first e) = omega arith
halts_most {cut = cut} here stop (reached_next {cut = past} {r = r} {c = c} b e k) = go (halts_most here stop b) (dec_le (length cut) (length past))
  where
    go : length past ≤ length cut → Dec (length cut ≤ length past) → suc (length past) ≤ length cut
    go h (yes l) = let same = reached_one here b (omega arith) in absurd (halts_last {r = r} {c = c} stop (rw same.0 e) (rw same.1 k))
    go h (no l) = omega arith

-- ---- one result

module _ {mode : Mode} {log : List ℕ} {n : ℕ} {room : List ℕ} where
  -- what stands at a place after a cut is one tally and one content of each room
  stands_one : {p p₂ : ℕ} {cut cut₂ : List Event} {counts words mail report counts₂ words₂ mail₂ report₂ : List ℕ} {t t₂ : Tally}
      → cut ≡ cut₂ → Stands mode log n p cut room counts words mail report t → Stands mode log n p₂ cut₂ room counts₂ words₂ mail₂ report₂ t₂
      → (t ≡ t₂) × (counts ≡ counts₂) × (words ≡ words₂) × (mail ≡ mail₂) × (report ≡ report₂)
  stands_one same a b₀ =
      let b = rw (← same) at b₀ in
      let rooms = one_room a.noted.holds b.noted.holds in
      (a.noted.tallied ∙ sym b.noted.tallied, rooms.0, rooms.1, rooms.2, a.noted.shown ∙ sym b.noted.shown)

  pub passing_unique : {counts words mail report counts₂ words₂ mail₂ report₂ : List ℕ} {r s : Result Tally Refusal}
      → Passing mode log n room counts words mail report r → Passing mode log n room counts₂ words₂ mail₂ report₂ s
      → (r ≡ s) × (counts ≡ counts₂) × (words ≡ words₂) × (mail ≡ mail₂) × (report ≡ report₂)
  passing_unique (whole {cut = cut} a) (whole {cut = cut₂} b) =
      let one = row_unique log (row_accepted a.reached) (row_accepted b.reached) in
      let same : cut ≡ cut₂ = cc in
      let all = stands_one same a b in
      (ap Ok all.0, all.1, all.2, all.3, all.4)
  passing_unique (whole a) (halted b h) = not_accepted (row_unique log (row_refused (halts_refused b.reached h)) (row_accepted a.reached))
  passing_unique (halted a h) (whole b) = not_accepted (row_unique log (row_refused (halts_refused a.reached h)) (row_accepted b.reached))
  passing_unique (halted {f = f} a h) (halted {f = g} b k) =
      let one = row_unique log (row_refused (halts_refused a.reached h)) (row_refused (halts_refused b.reached k)) in
      let number : number_of f.reason ≡ number_of g.reason = cc in
      let reason : f.reason ≡ g.reason = number_same number in
      let place : f.place ≡ g.place = cc in
      let size = reached_one a.reached b.reached (omega (arith, halts_most a.reached h b.reached, halts_most b.reached k a.reached)) in
      let all = stands_one size.1 a b in
      (ap Err (refusal_same reason place), all.1, all.2, all.3, all.4)
