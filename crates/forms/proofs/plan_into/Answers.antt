-- Three words, each behind those before it. Assumes nothing.
use native.Mathlib.Omega.{arith}
use borrow.Author.Rules.{rules}
use Rattle.forms.proofs.Into.{plan_put}
use Rattle.forms.proofs.plan_into.Goals as goal

pub returns : goal.returns
returns c =
    let a = c.args in
    plan_put a.p.mask a.p.sum a.bytes.now _ _ _ (omega arith) (λ i. search rules) c.put_word.ensures
    c.put_word-2.ensures c.put_word-3.ensures
