-- A buffer of one sample takes that of one octet. Assumes nothing.
use mathlib.Core.Path.{◌≡◌, refl, ap}
use native.Mathlib.Omega.{arith}
use Rattle.std.specs.Prelude.{Result, Ok, Err}
use Rattle.std.specs.Result.{IsOk}
use Rattle.standard.specs.First.{Answer, bare, first}
use Rattle.standard.specs.Refusals.{refusal_answer, outcome_answer}
use Rattle.standard.specs.Calls.{linear_refusal}
use Rattle.standard.specs.declared.Refusal.{Refusal}
use Rattle.standard.proofs.Stages.{refused_positive}
use Rattle.vectors_pcm.proofs.print_row.Goals as goal

done : {X : Type 0} (o : Result X Refusal) → outcome_answer o ≡ bare 0 → IsOk o
done (Ok y) e = refl
done (Err x) e =
    let z : (refusal_answer x).number ≡ 0 = ap (λ (a : Answer). a.number) e in
    absurd (omega (arith, refused_positive x))

pub unwrap-requires : goal.unwrap-requires
unfolding linear_refusal first
unwrap-requires g c = done c.linear.result c.linear.ensures.refusal
