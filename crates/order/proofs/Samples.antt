-- 01's logs A and B as cuts of events, the latest first; crates/verdict shows that they are what the bytes say.
-- Assumes nothing.
use mathlib.Core.List.{List, [], ◌∷◌}
use Rattle.order.specs.Order.{Event, mark, send, receipt}

abbrev pub cut_a : List Event
cut_a = mark 2 ∷ receipt 2 3 ∷ receipt 2 2 ∷ send 1 2 3 ∷ mark 1 ∷ receipt 1 1 ∷ send 0 2 2 ∷ send 0 1 1 ∷ mark 0 ∷ []

abbrev pub cut_b : List Event
cut_b = receipt 0 2 ∷ mark 0 ∷ receipt 0 3 ∷ send 1 0 3 ∷ mark 1 ∷ send 1 0 2 ∷ receipt 1 1 ∷ send 0 1 1 ∷ mark 0 ∷ []
