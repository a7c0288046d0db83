-- What the steps make of the whole slices, from what their loops make of the parts that were lent: a row, its columns, a letter.
-- The parts' lengths are as the code has them, e - a, so they stand here as numbers that equal n.
-- Assumes nothing.
use mathlib.Core.Path.{◌≡◌, refl, sym, ap, ap₂, ◌∙◌, subst}
use mathlib.Core.Logic.{inl, inr, ⊎_elim}
use mathlib.Core.Bool.{Bool}
use mathlib.Core.List.{List}
use Prim.Native.Nat.{ℕ, zero, suc, ◌+◌, ◌-◌, ◌*◌, ◌^◌, ◌≤◌, ◌<◌}
use native.Mathlib.Numerals.{add-one}
use native.Mathlib.Omega.{arith}
use borrow.Rule.Slice.PartMut.{mid_of, put_mid, same_len_mid}
use lib.ListN.{length, get_or, set, length-set}
use lib.Seq.{get_or-set_same, get_or-set_other}
use Rattle.machine.specs.Answer.{entries}
use Rattle.bits.specs.Bits.{bit}
use Rattle.cells.specs.declared.Cell.{Cell}
use Rattle.cells.specs.Cells.{code_of, entry_of, said_of, merged, cell_at, Packed, Joined}
use Rattle.room.specs.Room.{Outside}
use Rattle.steps.specs.Steps.{held, Posted, Received}
use Rattle.room.proofs.Places.{row_within}
use Rattle.steps.proofs.Parts.{part_at, part_length, back_in, back_out}
use Rattle.cells.proofs.Entries.{entries_same}

-- cells with equal parts are equal
same_cell : {a a' b b' : ℕ} {d d' : Bool} → a ≡ a' → b ≡ b' → d ≡ d'
    → ◌≡◌ {A = Cell} (record { count = a; column = b; direct = d }) (record { count = a'; column = b'; direct = d' })
same_cell p q r = λ i. record { count = p i; column = q i; direct = r i }

-- ---- a slot whose first three elements are written and whose letter was then lent

-- three stores, one after another
abbrev headed : List ℕ → ℕ → ℕ → ℕ → ℕ → List ℕ
headed mail at x y z = set (set (set mail at x) (at + 1) y) (at + 2) z

module _ (n slot : ℕ) (few : n ≤ 32) (hs : slot < 128) (mail : List ℕ) (lm : length mail ≡ 4480) (x y z k : ℕ) (ek : k ≡ n) where
  abbrev Headed : List ℕ
  Headed = headed mail (35 * slot) x y z

  headed_length : length Headed ≡ 4480
  headed_length = simp length-set lm

  letter_in : 35 * slot + 3 + k ≤ length Headed
  letter_in = omega (arith, headed_length)

  headed_else : (p : ℕ) → Outside (35 * slot) 3 p → get_or Headed p 0 ≡ get_or mail p 0
  headed_else p out =
      get_or-set_other (set (set mail (35 * slot) x) (35 * slot + 1) y) (35 * slot + 2) p z 0 (λ q. ⊎_elim (λ l. omega arith) (λ l. omega arith) out)
      ∙ get_or-set_other (set mail (35 * slot) x) (35 * slot + 1) p y 0 (λ q. ⊎_elim (λ l. omega arith) (λ l. omega arith) out)
      ∙ get_or-set_other mail (35 * slot) p x 0 (λ q. ⊎_elim (λ l. omega arith) (λ l. omega arith) out)

  -- the letter that is lent is the slot's
  lent_entry : (m : ℕ) → m < n → get_or (mid_of (35 * slot + 3) k Headed) m 0 ≡ get_or mail (35 * slot + 3 + m) 0
  lent_entry m h = part_at Headed (35 * slot + 3) k m (omega arith) ∙ headed_else (35 * slot + 3 + m) (inr (omega arith))

  module _ (letter : List ℕ) (ll : length letter ≡ length (mid_of (35 * slot + 3) k Headed)) where
    abbrev Whole : List ℕ
    Whole = put_mid (35 * slot + 3) k Headed letter

    letter_length : length letter ≡ k
    letter_length = ll ∙ part_length Headed (35 * slot + 3) k letter_in

    ahead : (p : ℕ) → p < 35 * slot + 3 → get_or Whole p 0 ≡ get_or Headed p 0
    ahead p h = back_out Headed (35 * slot + 3) k letter letter_in letter_length p (inl h)

    whole_first : get_or Whole (35 * slot) 0 ≡ x
    whole_first =
        ahead (35 * slot) (omega arith)
        ∙ get_or-set_other (set (set mail (35 * slot) x) (35 * slot + 1) y) (35 * slot + 2) (35 * slot) z 0 (λ q. omega arith)
        ∙ get_or-set_other (set mail (35 * slot) x) (35 * slot + 1) (35 * slot) y 0 (λ q. omega arith) ∙ get_or-set_same mail (35 * slot) x 0 (omega arith)

    whole_second : get_or Whole (35 * slot + 1) 0 ≡ y
    whole_second =
        ahead (35 * slot + 1) (omega arith)
        ∙ get_or-set_other (set (set mail (35 * slot) x) (35 * slot + 1) y) (35 * slot + 2) (35 * slot + 1) z 0 (λ q. omega arith)
        ∙ get_or-set_same (set mail (35 * slot) x) (35 * slot + 1) y 0 (omega (arith, length-set mail (35 * slot) x))

    whole_third : get_or Whole (35 * slot + 2) 0 ≡ z
    whole_third =
        ahead (35 * slot + 2) (omega arith)
        ∙ get_or-set_same (set (set mail (35 * slot) x) (35 * slot + 1) y) (35 * slot + 2) z 0
        (omega (arith, length-set mail (35 * slot) x, length-set (set mail (35 * slot) x) (35 * slot + 1) y))

    whole_entry : (m : ℕ) → m < n → get_or Whole (35 * slot + 3 + m) 0 ≡ get_or letter m 0
    whole_entry m h = back_in Headed (35 * slot + 3) k letter letter_in letter_length m (omega arith)

    whole_else : (p : ℕ) → Outside (35 * slot) (3 + n) p → get_or Whole p 0 ≡ get_or mail p 0
    whole_else p out =
        back_out Headed (35 * slot + 3) k letter letter_in letter_length p (⊎_elim (λ l. inl (omega arith)) (λ l. inr (omega arith)) out)
        ∙ headed_else p (⊎_elim (λ l. inl (omega arith)) (λ l. inr (omega arith)) out)

-- ---- node i's row and columns, lent

module _ (n i : ℕ) (counts words : List ℕ) (lc : length counts ≡ 1024) (lw : length words ≡ 1056) (few : n ≤ 32) (hi : i < n)
    (kc kw : ℕ) (ec : kc ≡ n) (ew : kw ≡ n) where
  abbrev Row : List ℕ
  Row = mid_of (n * i) kc counts

  abbrev RowColumns : List ℕ
  RowColumns = mid_of (32 + n * i) kw words

  row_in : n * i + kc ≤ length counts
  row_in = omega (arith, row_within n i few hi)

  columns_in : 32 + n * i + kw ≤ length words
  columns_in = omega (arith, row_within n i few hi)

  row_length : length Row ≡ n
  row_length = part_length counts (n * i) kc row_in ∙ ec

  -- the cells of the parts are the node's
  lent_cell : (k : ℕ) → k < n → cell_at Row RowColumns (get_or words i 0) k ≡ held n counts words i k
  lent_cell k h = same_cell (part_at counts (n * i) kc k (omega arith)) (part_at words (32 + n * i) kw k (omega arith)) refl

  module _ (slot : ℕ) (hs : slot < 128) (mail : List ℕ) (lm : length mail ≡ 4480) (km : ℕ) (em : km ≡ n) where
    -- ---- a letter written

    module _ (j m spared : ℕ) (letter : List ℕ) (carried : ℕ)
        (ll : length letter ≡ length (mid_of (35 * slot + 3) km (headed mail (35 * slot) (i + 1) j m)))
        (P : Packed spared Row RowColumns (get_or words i 0) (length Row) letter carried) where
      letter_written : Posted n i j m slot spared counts words mail (put_mid (35 * slot + 3) km (headed mail (35 * slot) (i + 1) j m) letter)
      letter_written = record {
        from = whole_first n slot few hs mail lm (i + 1) j m km em letter ll ∙ add-one i;
        to = whole_second n slot few hs mail lm (i + 1) j m km em letter ll;
        number = whole_third n slot few hs mail lm (i + 1) j m km em letter ll;
        written = λ k h.
            whole_entry n slot few hs mail lm (i + 1) j m km em letter ll k h
            ∙ P.written k (omega (arith, row_length)) ∙ ap (λ x. code_of (said_of spared x)) (lent_cell k h);
        mail_else = whole_else n slot few hs mail lm (i + 1) j m km em letter ll;
      }

      letter_counted : carried ≡ entries n (λ k. said_of spared (held n counts words i k))
      letter_counted =
          P.counted ∙ ap (λ k. entries k (λ k. said_of spared (cell_at Row RowColumns (get_or words i 0) k))) row_length
          ∙ entries_same n _ _ (λ k h. ap (said_of spared) (lent_cell k h))

      -- the slot has the letter, and so many entries went along
      pub letter_posted : Posted n i j m slot spared counts words mail (put_mid (35 * slot + 3) km (headed mail (35 * slot) (i + 1) j m) letter)
          × (carried ≡ entries n (λ k. said_of spared (held n counts words i k)))
      letter_posted = (letter_written, letter_counted)

    -- ---- a letter taken

    module _ (sender : ℕ) (letter' row' columns' : List ℕ) (flags' : ℕ) (lr : length row' ≡ length Row) (lk : length columns' ≡ length RowColumns)
        (ll : length letter' ≡ length (mid_of (35 * slot + 3) km (headed mail (35 * slot) 0 0 0)))
        (named : sender ≡ 2 ^ (get_or mail (35 * slot) 0 - 1))
        (J : Joined sender (mid_of (35 * slot + 3) km (headed mail (35 * slot) 0 0 0)) Row RowColumns (get_or words i 0) (length Row) letter' row' columns' flags') where
      abbrev Counts : List ℕ
      Counts = put_mid (n * i) kc counts row'

      abbrev Columns : List ℕ
      Columns = put_mid (32 + n * i) kw words columns'

      abbrev Words : List ℕ
      Words = set Columns i flags'

      abbrev Mail : List ℕ
      Mail = put_mid (35 * slot + 3) km (headed mail (35 * slot) 0 0 0) letter'

      row_back : length row' ≡ kc
      row_back = lr ∙ part_length counts (n * i) kc row_in

      columns_back : length columns' ≡ kw
      columns_back = lk ∙ part_length words (32 + n * i) kw columns_in

      new_flags : get_or Words i 0 ≡ flags'
      new_flags = get_or-set_same Columns i flags' 0 (omega (arith, same_len_mid (32 + n * i) kw words columns' lk))

      new_cell : (k : ℕ) → k < n → held n Counts Words i k ≡ cell_at row' columns' flags' k
      new_cell k h =
          same_cell (back_in counts (n * i) kc row' row_in row_back k (omega arith))
          (get_or-set_other Columns i (32 + n * i + k) flags' 0 (λ q. omega arith) ∙ back_in words (32 + n * i) kw columns' columns_in columns_back k (omega arith))
          (ap (λ (f : ℕ). bit f k) new_flags)

      freed_at : (x : ℕ) → x < 3 + n → get_or Mail (35 * slot + x) 0 ≡ 0
      freed_at zero h = ap (λ p. get_or Mail p 0) (omega arith) ∙ whole_first n slot few hs mail lm 0 0 0 km em letter' ll
      freed_at (suc zero) h = whole_second n slot few hs mail lm 0 0 0 km em letter' ll
      freed_at (suc (suc zero)) h = whole_third n slot few hs mail lm 0 0 0 km em letter' ll
      freed_at (suc (suc (suc x))) h =
          ap (λ p. get_or Mail p 0) (omega arith) ∙ whole_entry n slot few hs mail lm 0 0 0 km em letter' ll x (omega arith)
          ∙ J.emptied x (omega (arith, row_length))

      pub letter_received : Received n i slot counts words mail Counts Words Mail
      letter_received = record {
        cells = λ k h.
            new_cell k h ∙ J.within k (omega (arith, row_length))
            ∙ ap₂ (λ w e. merged w (entry_of e) (cell_at Row RowColumns (get_or words i 0) k)) named (lent_entry n slot few hs mail lm 0 0 0 km em k h)
            ∙ ap (merged (2 ^ (get_or mail (35 * slot) 0 - 1)) (entry_of (get_or mail (35 * slot + 3 + k) 0))) (lent_cell k h);
        flags_above = λ k h. ap (λ (f : ℕ). bit f k) new_flags ∙ ap (λ (x : Cell). x.direct) (J.above k (omega (arith, row_length)));
        counts_else = λ p out. back_out counts (n * i) kc row' row_in row_back p (subst (λ (k : ℕ). Outside (n * i) k p) (sym ec) out);
        words_else = λ p ne out.
            get_or-set_other Columns i p flags' 0 ne
            ∙ back_out words (32 + n * i) kw columns' columns_in columns_back p (subst (λ (k : ℕ). Outside (32 + n * i) k p) (sym ew) out);
        freed = freed_at;
        mail_else = whole_else n slot few hs mail lm 0 0 0 km em letter' ll;
      }
