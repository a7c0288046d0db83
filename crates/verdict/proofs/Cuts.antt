-- Every cut of an accepted log after a whole record is an accepted log, with the shorter cut of events: what was reached at
-- a place depends on the bytes before it alone.
-- Assumes nothing.
use mathlib.Core.Path.{◌≡◌, sym, ◌∙◌, subst}
use mathlib.Core.List.{List, [], ◌∷◌, ◌++◌, append_assoc}
use mathlib.Core.Option.{Option, none, some}
use Prim.Native.Nat.{ℕ, zero, suc, ◌<◌, ◌≤◌}
use native.Mathlib.Nat.{le_refl}
use native.Mathlib.Omega.{arith}
use lib.ListN.{length, get_or, take}
use lib.Seq.{length-take-le, get_or-take}
use Rattle.order.specs.Order.{Event}
use Rattle.logs.specs.declared.Cursor.{Cursor}
use Rattle.logs.specs.declared.Record.{Record}
use Rattle.logs.proofs.FirstRecord.{opened_one}
use Rattle.logs.specs.Record.{record_at, opening_of}
use Rattle.verdict.specs.Verdict.{Verdict, accepted, event_of, Rule, rules, first_broken, after_step, after_rules, walk, verdict}
use Rattle.verdict.specs.Table.{Reached, reached_first, reached_next, Ends, ends_first, ends_next, refused_rule}
use Rattle.logs.proofs.Stands.{read_forward, read_same}
use Rattle.logs.proofs.FirstRecord.{nodes_there, nodes_same}
use Rattle.verdict.proofs.Rules.{Judged, judged_breaks, judged_passes, judged}
use Rattle.verdict.proofs.Walk.{reached_walk}
use Rattle.verdict.proofs.Verdict.{not_accepted, reached_bound, verdict_accepted, verdict_refused}
use Rattle.std.specs.Prelude.{Some, None, Ok, Err}
use Rattle.logs.specs.Record.{Step}

-- ---- the bytes before a place decide what was reached there

module _ (log other : List ℕ) (m : ℕ) (long : m ≤ length other) (same : (i : ℕ) → i < m → get_or log i 0 ≡ get_or other i 0) where
  pub reached_same : {n p : ℕ} {cut : List Event} → Reached log n p cut → p ≤ m → Reached other n p cut
  reached_same (reached_first e) h =
      let k = nodes_there log e in
      reached_first (nodes_same log other (omega arith) (same 0 (omega arith)) (same 1 (omega arith)) e)
  reached_same (reached_next {p = p} before e h) k =
      let f = read_forward log p e in
      reached_next (reached_same before (omega arith)) (read_same log other m long same p e k) h

-- the log cut at a place that was reached is accepted with the events before it
pub reached_accepted : {log : List ℕ} {n p : ℕ} {cut : List Event} → Reached log n p cut → verdict (take p log) ≡ accepted n cut
reached_accepted {log} {n} {p} {cut} here =
    let b = reached_bound here in
    let l : length (take p log) ≡ p = length-take-le p log b.1 in
    let r = reached_same log (take p log) p (omega arith) (λ i h. sym (get_or-take p log i 0 h)) here (le_refl p) in
    (verdict_accepted (take p log)).1 (subst (λ (q : ℕ). Reached (take p log) n q cut) (sym l) r)

-- ---- every earlier cut of the events

-- what is reached is a place after a whole record
reached_ends : {log : List ℕ} {n p : ℕ} {cut : List Event} → Reached log n p cut → Ends log p
reached_ends (reached_first e) = ends_first e
reached_ends (reached_next before e h) = ends_next (reached_ends before) e

pub reached_cut : {log : List ℕ} {n p : ℕ} (later : List Event) {past : List Event} → Reached log n p (later ++ past) → (q : ℕ) × (q ≤ p) × Reached log n q past
reached_cut [] here = (_, le_refl _, here)
reached_cut {log} (x ∷ later) (reached_next {p = p} before e h) =
    let f = read_forward log p e in
    let (q, l, here) = reached_cut later before in
    (q, omega arith, here)

-- ---- every place after a whole record

-- the node count is read once
reached_nodes : {log : List ℕ} {n p : ℕ} {cut : List Event} → Reached log n p cut → (c : Cursor) × (opening_of log ≡ Ok (n, c))
reached_nodes (reached_first {c = c} e) = (c, e)
reached_nodes (reached_next before e h) = reached_nodes before

module _ (log : List ℕ) (n : ℕ) where
  -- what a walk accepts, it adds to what it began with
  walk_adds : (turns p : ℕ) (past cut : List Event) → walk turns log n p past ≡ accepted n cut → (later : List Event) × (cut ≡ later ++ past)
  unfolding walk
  walk_adds zero p past cut e = ([], cc)
  walk_adds (suc turns) p past cut e = by_step (record_at log p) (λ r c. walk_adds turns c.at (event_of r ∷ past) cut) e
    where
      Adds : Type 0
      Adds = (later : List Event) × (cut ≡ later ++ past)

      by_rules : (o : Option Rule) (r : Record) (v : Verdict) → (v ≡ accepted n cut → (later : List Event) × (cut ≡ later ++ event_of r ∷ past))
          → after_rules o v ≡ accepted n cut → Adds
      by_rules (some x) r v more e = not_accepted e
      by_rules none r v more e = let m = more e in (m.0 ++ (event_of r ∷ []), m.1 ∙ sym (append_assoc m.0 (event_of r ∷ []) past))

      by_step : (s : Step) → ((r : Record) (c : Cursor) → walk turns log n c.at (event_of r ∷ past) ≡ accepted n cut → (later : List Event) × (cut ≡ later ++ event_of r ∷ past))
          → after_step s n past (λ r q. after_rules (first_broken (rules n past p r)) (walk turns log n q (event_of r ∷ past))) ≡ accepted n cut → Adds
      by_step (Ok None) more e = ([], cc)
      by_step (Err f) more e = not_accepted e
      by_step (Ok (Some (r, c))) more e = by_rules (first_broken (rules n past p r)) r _ (more r c) e

module _ (log : List ℕ) (n : ℕ) (cut : List Event) (ok : verdict log ≡ accepted n cut) where
  -- each place after a whole record is reached
  ends_reached : {p : ℕ} → Ends log p → (past : List Event) × Reached log n p past
  ends_reached (ends_first {c = c} e) =
      let f = reached_nodes ((verdict_accepted log).0 ok) in
      let same : c ≡ f.0 = (opened_one log e f.1).1 in
      ([], rw same (reached_first f.1))
  ends_reached (ends_next {p = p} {r = r} {c = c} before e) =
      let a = ends_reached before in
      go a.0 a.1 (judged n a.0 p r)
    where
      go : (past : List Event) → Reached log n p past → {o : Option Rule} → Judged n past p r o → (more : List Event) × Reached log n c.at more
      go past here (judged_breaks b) = not_accepted (sym ((verdict_refused log).1 (refused_rule here e b)) ∙ ok)
      go past here (judged_passes h) = (_, reached_next here e h)

  -- the log cut after any whole record is accepted, with an earlier cut of the events
  pub ends_accepted : {p : ℕ} → Ends log p → (later past : List Event) × (cut ≡ later ++ past) × (verdict (take p log) ≡ accepted n past)
  ends_accepted {p} h =
      let a = ends_reached h in
      let w = reached_walk log n a.1 (length log) (omega arith) in
      let b = walk_adds log n (length log) p a.0 cut (sym w ∙ ok) in
      (b.0, a.0, b.1, reached_accepted a.1)

  -- and every earlier cut of the events is that of the log cut after some record
  pub accepted_cut : (later past : List Event) → cut ≡ later ++ past → (p : ℕ) × Ends log p × (verdict (take p log) ≡ accepted n past)
  accepted_cut later past e =
      let r = reached_cut later (rw e at ((verdict_accepted log).0 ok)) in
      (r.0, reached_ends r.2, reached_accepted r.2)
