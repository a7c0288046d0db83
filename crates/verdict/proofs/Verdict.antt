-- The verdict is the table's: one row for every log, and no two at once. By the walk, whose every turn adds a record to
-- what was reached or ends in a row.
-- Assumes nothing.
use mathlib.Core.Path.{◌≡◌, refl, sym, ◌∙◌, subst}
use mathlib.Core.Logic.{◌⊎◌, inl, inr, ◌↔◌}
use mathlib.Core.Bool.{false≢true}
use mathlib.Core.List.{List, [], ◌∷◌}
use mathlib.Core.Option.{Option}
use Prim.Native.Nat.{ℕ, zero, suc, ◌+◌, ◌≤◌}
use native.Mathlib.Nat.{le_refl}
use native.Mathlib.Omega.{arith}
use lib.ListN.{length}
use Rattle.order.specs.Order.{Event}
use Rattle.logs.specs.declared.Cursor.{Cursor}
use Rattle.logs.specs.declared.Record.{Record}
use Rattle.logs.specs.Record.{record_at, opening_of}
use Rattle.verdict.specs.Verdict.{Verdict, refused, accepted, event_of, Rule, rules, first_broken, after_opening, after_step, after_rules, walk, verdict}
use Rattle.verdict.specs.Table.{Passes, Reached, reached_first, reached_next, Refused, refused_2, refused_3, refused_4, refused_5, refused_rule, Row, row_accepted, row_refused}
use Rattle.logs.proofs.Reader.{record_end}
use Rattle.logs.proofs.Stands.{read_forward, end_there, refused_there}
use Rattle.logs.proofs.FirstRecord.{nodes_there, unopened_there}
use Rattle.verdict.proofs.Rules.{Judged, judged_breaks, judged_passes, judged, breaks_first}
use Rattle.verdict.proofs.Walk.{reached_walk}
use Rattle.std.specs.Prelude.{Some, None, Ok, Err}
use Rattle.logs.specs.declared.Refusal.{Refusal}
use Rattle.logs.specs.Record.{refusal, number_of, Step, Opening}
use Rattle.logs.specs.declared.Reason.TheVariants.{NoOpening, NodeCount, UnknownKind, CutShort}

-- what is refused is not accepted
pub not_accepted : {A : Type 0} {x q n : ℕ} {cut : List Event} → refused x q ≡ accepted n cut → A
not_accepted e = absurd (false≢true (cc))

-- what was reached lies within the log
pub reached_bound : {log : List ℕ} {n p : ℕ} {cut : List Event} → Reached log n p cut → (2 ≤ p) × (p ≤ length log)
reached_bound {log} (reached_first e) = let h = nodes_there log e in omega arith
reached_bound {log} (reached_next {p = p} before e h) = let b = reached_bound before in let f = read_forward log p e in omega arith

-- ---- the verdict is a row

module _ {log : List ℕ} {n p : ℕ} {cut : List Event} (here : Reached log n p cut) where
  -- the end of the records is the end of the log
  row_here : length log ≤ p → Row log (accepted n cut)
  row_here h =
      let b = reached_bound here in
      let e : p ≡ length log = omega arith in
      row_accepted (rw e at here)

  -- a record that is read breaks a row or leads on
  row_rules : {r : Record} {c : Cursor} {o : Option Rule} {v : Verdict} → record_at log p ≡ Ok (Some (r, c)) → Judged n cut p r o → (Passes n cut r → Row log v)
      → Row log (after_rules o v)
  row_rules e (judged_breaks b) more = row_refused (refused_rule here e b)
  row_rules e (judged_passes h) more = more h

  row_step : (s : Step) → record_at log p ≡ s → (go : Record → ℕ → Verdict)
      → ((r : Record) (c : Cursor) → record_at log p ≡ Ok (Some (r, c)) → Passes n cut r → Row log (go r c.at))
      → Row log (after_step s n cut (λ r q. after_rules (first_broken (rules n cut p r)) (go r q)))
  row_step (Ok None) e go more = row_here (end_there log p e)
  row_step (Err f) e go more = by_reason (refused_there log p e)
    where
      by_reason : (f ≡ refusal UnknownKind p) ⊎ (f ≡ refusal CutShort p) → Row log (refused (number_of f.reason) f.place)
      by_reason (inl h) = rw h (row_refused (refused_4 here (rw h at e)))
      by_reason (inr h) = rw h (row_refused (refused_5 here (rw h at e)))
  row_step (Ok (Some (r, c))) e go more = row_rules e (judged n cut p r) (more r c e)

module _ (log : List ℕ) where
  -- from a place that was reached, enough turns come to a row
  walk_row : (turns n p : ℕ) (cut : List Event) → length log ≤ p + turns → Reached log n p cut → Row log (walk turns log n p cut)
  unfolding walk
  walk_row zero n p cut long here = row_here here (omega arith)
  walk_row (suc turns) n p cut long here =
      row_step here (record_at log p) refl (λ r q. walk turns log n q (event_of r ∷ cut))
      (λ r c e h. let f = read_forward log p e in walk_row turns n c.at (event_of r ∷ cut) (omega arith) (reached_next here e h))

  -- every log has a row: the verdict is one of the table's cases
  pub verdict_row : Row log (verdict log)
  unfolding verdict
  verdict_row = go (opening_of log) refl
    where
      by_reason : {f : Refusal} → opening_of log ≡ Err f → (f ≡ refusal NoOpening 0) ⊎ (f ≡ refusal NodeCount 1) → Row log (refused (number_of f.reason) f.place)
      by_reason e (inl h) = rw h (row_refused (refused_2 (rw h at e)))
      by_reason e (inr h) = rw h (row_refused (refused_3 (rw h at e)))

      go : (o : Opening) → opening_of log ≡ o → Row log (after_opening o (λ n p. walk (length log) log n p []))
      go (Err f) e = by_reason e (unopened_there log e)
      go (Ok (n, c)) e = walk_row (length log) n c.at [] (omega arith) (reached_first e)

  -- ---- and the row is the verdict

  reached_stops : {n p : ℕ} {cut : List Event} {s : Step} → Reached log n p cut → record_at log p ≡ s
      → verdict log ≡ after_step s n cut (λ r q. after_rules (first_broken (rules n cut p r)) (walk (length log) log n q (event_of r ∷ cut)))
  unfolding walk
  reached_stops {n} {p} {cut} here e =
      let w : verdict log ≡ walk (suc (length log)) log n p cut = reached_walk log n here (suc (length log)) (omega arith) in
      w ∙ rw e

  pub row_verdict : {v : Verdict} → Row log v → verdict log ≡ v
  unfolding verdict
  row_verdict (row_accepted here) = reached_stops here (record_end log (length log) (le_refl _))
  row_verdict (row_refused (refused_2 e)) = rw e
  row_verdict (row_refused (refused_3 e)) = rw e
  row_verdict (row_refused (refused_4 here e)) = reached_stops here e
  row_verdict (row_refused (refused_5 here e)) = reached_stops here e
  row_verdict (row_refused (refused_rule {n = n} {p = p} {cut = cut} here e b)) = reached_stops here e ∙ rw (breaks_first n cut p b)

  -- no two cases at once
  pub row_unique : {v w : Verdict} → Row log v → Row log w → v ≡ w
  row_unique a b = sym (row_verdict a) ∙ row_verdict b

  -- acceptance and refusal, both ways
  pub verdict_accepted : {n : ℕ} {cut : List Event} → (verdict log ≡ accepted n cut) ↔ Reached log n (length log) cut
  verdict_accepted = (λ e. go (subst (Row log) e verdict_row), λ h. row_verdict (row_accepted h))
    where
      go : {n : ℕ} {cut : List Event} → Row log (accepted n cut) → Reached log n (length log) cut
      go (row_accepted h) = h

  pub verdict_refused : {x q : ℕ} → (verdict log ≡ refused x q) ↔ Refused log x q
  verdict_refused = (λ e. go (subst (Row log) e verdict_row), λ h. row_verdict (row_refused h))
    where
      go : {x q : ℕ} → Row log (refused x q) → Refused log x q
      go (row_refused h) = h
