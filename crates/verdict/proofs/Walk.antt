-- The walk over the records gives the same verdict with any number of turns that is enough, and from any place that was
-- reached: by induction on the turns, since each record ends past its start.
-- Assumes nothing.
use mathlib.Core.Path.{◌≡◌, refl, sym, ◌∙◌, ap}
use mathlib.Core.List.{List, [], ◌∷◌}
use Prim.Native.Nat.{ℕ, zero, suc, ◌+◌, ◌≤◌}
use native.Mathlib.Omega.{arith}
use lib.ListN.{length}
use Rattle.order.specs.Order.{Event}
use Rattle.logs.specs.declared.Cursor.{Cursor}
use Rattle.logs.specs.declared.Record.{Record}
use Rattle.logs.specs.Record.{record_at}
use Rattle.verdict.specs.Verdict.{Verdict, accepted, event_of, rules, first_broken, after_step, after_rules, walk, verdict}
use Rattle.verdict.specs.Table.{Passes, Reached, reached_first, reached_next}
use Rattle.logs.proofs.Reader.{record_end}
use Rattle.logs.proofs.Stands.{read_forward}
use Rattle.verdict.proofs.Rules.{passes_first}
use Rattle.std.specs.Prelude.{Some, None, Ok, Err}
use Rattle.logs.specs.Record.{Step}

-- what follows a step depends on what is done with the record that it read
step_same : (s : Step) (n : ℕ) (cut : List Event) (f g : Record → ℕ → Verdict) → ((r : Record) (c : Cursor) → s ≡ Ok (Some (r, c)) → f r c.at ≡ g r c.at)
    → after_step s n cut f ≡ after_step s n cut g
step_same (Ok None) n cut f g h = refl
step_same (Err f') n cut f g h = refl
step_same (Ok (Some (r, c))) n cut f g h = h r c refl

-- behind the log nothing is read
walk_end : (turns : ℕ) (log : List ℕ) (n p : ℕ) (cut : List Event) → length log ≤ p → walk turns log n p cut ≡ accepted n cut
unfolding walk
walk_end zero log n p cut h = refl
walk_end (suc turns) log n p cut h = rw (record_end log p h)

-- any two numbers of turns that are enough give the same verdict
pub walk_turns : (t u : ℕ) (log : List ℕ) (n p : ℕ) (cut : List Event) → length log ≤ p + t → length log ≤ p + u → walk t log n p cut ≡ walk u log n p cut
unfolding walk
walk_turns zero u log n p cut h k = sym (walk_end u log n p cut (omega arith))
walk_turns (suc t) zero log n p cut h k = walk_end (suc t) log n p cut (omega arith)
walk_turns (suc t) (suc u) log n p cut h k =
    step_same (record_at log p) n cut _ _
    (λ r c e. let f = read_forward log p e in
    ap (after_rules (first_broken (rules n cut p r))) (walk_turns t u log n c.at (event_of r ∷ cut) (omega arith) (omega arith)))

module _ (log : List ℕ) (n : ℕ) where
  -- a record that passes is one turn
  walk_next : (turns p : ℕ) (cut : List Event) (r : Record) (c : Cursor) → record_at log p ≡ Ok (Some (r, c)) → Passes n cut r
      → walk (suc turns) log n p cut ≡ walk turns log n c.at (event_of r ∷ cut)
  unfolding walk
  walk_next turns p cut r c e h = rw (e, passes_first n cut p r h)

  -- the verdict is that of the walk from any place that was reached
  pub reached_walk : {p : ℕ} {cut : List Event} → Reached log n p cut → (turns : ℕ) → length log ≤ p + turns → verdict log ≡ walk turns log n p cut
  unfolding verdict
  reached_walk (reached_first {c = c} e) turns h = rw e (walk_turns (length log) turns log n c.at [] (omega arith) h)
  reached_walk (reached_next {p = p} {cut = cut} {r = r} {c = c} before e h) turns k =
      reached_walk before (suc (length log)) (omega arith)
      ∙ walk_next (length log) p cut r c e h
      ∙ walk_turns (length log) turns log n c.at (event_of r ∷ cut) (omega arith) k
