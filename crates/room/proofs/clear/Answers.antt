-- `room::clear` meets its contract: a front that is filled with zeros is that many zeros.
use native.Mathlib.Omega.{arith}
use borrow.Author.Rules.{rules}
use Rattle.std.proofs.lemmas.Bool.Decides.{nat_tests}
use Rattle.room.proofs.Zeroed.{zeroed_filled}
use Rattle.room.proofs.clear.Goals as goal

pub returns : goal.returns
returns c = record {
  answer = grind (arith, nat_tests);
  counts_are = zeroed_filled 1024 _ _ (search rules) (c.fill.ensures.after (λ y e. e));
  words_are = zeroed_filled 1056 _ _ (search rules) (c.fill-2.ensures.after (λ y e. e));
  mail_is = zeroed_filled 4480 _ _ (search rules) (c.fill-3.ensures.after (λ y e. e));
}
