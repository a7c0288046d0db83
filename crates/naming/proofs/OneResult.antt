-- The contract of `name` has one result, since it is said by equations.
-- Assumes nothing.
use mathlib.Core.Path.{◌≡◌, sym, ◌∙◌}
use mathlib.Core.List.{List}
use Prim.Native.Nat.{ℕ}
use Rattle.naming.specs.Names.{Named}

-- Two results of laying one name into one text are equal: its letters, and the text.
pub named_unique : {name text t u : List ℕ} {r s : ℕ} → Named name text t r → Named name text u s → (r ≡ s) × (t ≡ u)
named_unique a b = (a.letters_are ∙ sym b.letters_are, a.text_is ∙ sym b.text_is)
