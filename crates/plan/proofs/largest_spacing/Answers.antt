-- No spacing above the one at hand is accepted. Assumes nothing.
use mathlib.Core.Path.{◌≡◌, refl, sym, ap, ◌∙◌}
use Prim.Native.Nat.{ℕ, zero, suc, ◌-◌, ◌<◌}
use mathlib.Core.Bool.{Bool, true, false}
use native.Mathlib.Nat.{not-suc-le-zero}
use native.Mathlib.Omega.{arith}
use Rattle.std.specs.Prelude.{Result, Ok, Err}
use Rattle.std.specs.Result.{is_ok}
use Rattle.standard.specs.First.{Answer}
use Rattle.standard.specs.Refusals.{outcome_answer}
use Rattle.standard.specs.Calls.{accepted}
use Rattle.standard.specs.declared.Refusal.{Refusal}
use Rattle.standard.proofs.Stages.{refused_not, done-accepted}
use Rattle.plan.specs.Spacing.{highest, is_accepted, largest_spacing}
use Rattle.plan.proofs.largest_spacing.Goals as goal

module _ (f : ℕ → Bool) where
  highest-hit : (n : ℕ) → 0 < n → f n ≡ true → highest f n ≡ n
  unfolding highest
  highest-hit zero h e = absurd (not-suc-le-zero h)
  highest-hit (suc n) h e = rw e

  highest-past : (n : ℕ) → 0 < n → f n ≡ false → highest f n ≡ highest f (n - 1)
  unfolding highest
  highest-past zero h e = absurd (not-suc-le-zero h)
  highest-past (suc n) h e = let z : suc n - 1 ≡ n = omega arith in rw (e, z)

-- whether a call is accepted
accepts : {X : Type 0} (r : Result X Refusal) {a : Answer} {b : Bool} → outcome_answer r ≡ a → is_ok r ≡ b → accepted a ≡ b
accepts {X} (Ok x) e q = done-accepted {X = X} (Ok x) _ refl e ∙ q
accepts {X} (Err x) e q = refused_not {X = X} (Err x) x _ refl e ∙ q

pub loop-spacing-init : goal.loop-spacing-init
unfolding largest_spacing
loop-spacing-init c = refl

pub returns-then-is_ok : goal.returns-then-is_ok
returns-then-is_ok c =
    let l = c.loop-spacing in
    let yes = accepts c.plan.result c.plan.ensures.refusal (sym c.is_ok.ensures.value ∙ c.if-is_ok.true) in
    (sym (l.invariant ∙ highest-hit _ (l.spacing - 1) (omega arith) yes), omega arith)

pub loop-spacing-preserved : goal.loop-spacing-preserved
loop-spacing-preserved c =
    let l = c.loop-spacing in
    let no = accepts c.plan.result c.plan.ensures.refusal (sym c.is_ok.ensures.value ∙ c.if-is_ok.false) in
    l.invariant ∙ highest-past _ (l.spacing - 1) (omega arith) no

pub returns : goal.returns
unfolding highest
returns c =
    let z : c.loop-spacing.spacing - 1 ≡ 0 = omega arith in
    (sym (c.loop-spacing.invariant ∙ ap (highest (is_accepted c.args.k c.args.law c.args.ceiling)) z), omega arith)
