-- The types of a lent report and of a view, at the one lifetime of a signature: that what each owns is had twice, since both are Copy, and that their machine values are of their types.
-- Assumes nothing.
use Prim.Native.Nat.{ℕ}
use mathlib.Core.List.{List, [], ◌∷◌}
use lib.ListN.{length}
use seplogic.Ra.Ura.{Ura}
use mir.Syntax.{named, w8}
use mir.Val.{Val}
use base.Logic.{ent, sep}
use base.Fml.{Lft, Fml}
use types.Logic.{Logic, sem}
use denote.RattleType.{RattleType}
use denote.Laws.{Is, Typed}
use denote.Builtin.{u8}
use denote.Plain.{uint_row_laws}
use denote.Ref.{Bor, NamedLft}
use denote.Signature.{named_lft}
use denote.Slice.{slice_val, ShrSlice, shr_slice_Lawful, shr_slice_copy}
use denote.Struct.Declared.{Declared}
use denote.Struct.Laws as LL
use Rattle.view.specs.declared.View.{View}
use Rattle.view.specs.contracts.View as T
use Rattle.view.proofs.View.TheLaws as T'

-- ---- a report

abbrev pub report_row : Lft → RattleType
report_row κ = ShrSlice (named 0) κ u8

-- its machine value
abbrev pub report_val : Bor (List ℕ) → Val
report_val s = slice_val s.ref_ptr (length s.now)

-- what it owns
abbrev pub report_own : Lft → Bor (List ℕ) → Fml
report_own κ s = (report_row κ).own_val s (report_val s ∷ [])

-- ---- a view

abbrev lifetime : Lft → NamedLft
lifetime κ = named_lft 1 0 tt (κ, tt)

abbrev pub view_type : Lft → Declared
view_type κ = T.the_type (lifetime κ)

abbrev pub view_laws : (κ : Lft) → LL.Laws (view_type κ)
view_laws κ = T'.the_laws (lifetime κ)

abbrev pub view_row : Lft → RattleType
view_row κ = T.the_row (lifetime κ)

-- its machine value
abbrev pub view_val : View → Val
view_val d = T'.lowered d

-- what it owns
abbrev pub view_own : Lft → View → Fml
view_own κ d = (view_row κ).own_val d (view_val d ∷ [])

module _ {M : Type 1} {𝓤 : Ura M} (𝓛 : Logic 𝓤) (κ : Lft) where
  -- what a report owns is had twice
  pub report_twice : (s : Bor (List ℕ)) → ent 𝓤 (sem 𝓛 (report_own κ s)) (sep 𝓤 (sem 𝓛 (report_own κ s)) (sem 𝓛 (report_own κ s)))
  report_twice s = (shr_slice_copy 𝓛 (named 0) κ u8 (uint_row_laws w8)).twice s (report_val s ∷ [])

  -- its machine value is of its type
  pub report_typed : (s : Bor (List ℕ)) → Is (report_row κ) s (report_val s ∷ []) → Typed (report_row κ).mir (report_val s ∷ [])
  report_typed s = (shr_slice_Lawful 𝓛 (named 0) κ u8).typed s (report_val s ∷ [])

  -- what a view owns is had twice
  pub view_twice : (d : View) → ent 𝓤 (sem 𝓛 (view_own κ d)) (sep 𝓤 (sem 𝓛 (view_own κ d)) (sem 𝓛 (view_own κ d)))
  view_twice d = (LL.copy (view_type κ) (T'.the_copy (lifetime κ)) 𝓛).twice d (view_val d ∷ [])

  -- its machine value is of its type
  pub view_typed : (d : View) → Is (view_row κ) d (view_val d ∷ []) → Typed (view_row κ).mir (view_val d ∷ [])
  view_typed d = (LL.lawful (view_type κ) (view_laws κ) 𝓛).typed d (view_val d ∷ [])
