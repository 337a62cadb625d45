-- Refusals in stages: a list of tests that one function answers, and what follows it. Assumes nothing.
use mathlib.Core.Path.{◌≡◌, sym, ap, subst, ◌∙◌}
use Prim.Native.Nat.{◌<◌}
use mathlib.Core.Bool.{true, false}
use mathlib.Core.List.{List, ◌++◌}
use native.Mathlib.Omega.{arith}
use borrow.Author.Tests.{eqb-true, ne_eqb}
use lib.Dec.{T, lit<}
use Rattle.std.specs.Prelude.{Result, Ok, Err}
use Rattle.standard.specs.First.{Answer, Test, first}
use Rattle.standard.specs.Refusals.{refusal_answer, outcome_answer}
use Rattle.standard.specs.Calls.{accepted}
use Rattle.standard.specs.declared.Refusal.{Refusal}
use Rattle.standard.specs.declared.Refusal.TheVariants.{CountExceedsBytes, CountTooSmall, SyncBroken, IndexTooLarge, LengthWrong}
use Rattle.standard.specs.declared.Refusal.TheVariants.{StartBitSet, CrcMismatch, FixedBitWrong, DrnTooLarge, GrantedBelowFullRate}
use Rattle.standard.specs.declared.Refusal.TheVariants.{ProductTooSmall, MaskAboveIndices, FramesAtCleardown, HistoryTooLarge}
use Rattle.standard.specs.declared.Refusal.TheVariants.{TooManyFrames, InputTooShort, OutputTooShort, DoubtfulTooLarge}
use Rattle.standard.specs.declared.Refusal.TheVariants.{PlaceTooLarge, FileBroken, SettingMissing, TooManyJunctions}
use Rattle.standard.specs.declared.Refusal.TheVariants.{IntervalEmpty, RateOrSpacingOutside, NoMask, SumExceedsCeiling}
use Rattle.standard.proofs.First.{numbered, None, none_first, first-append, first-left}

-- no refusal has the number 0
pub refused_positive : (x : Refusal) → 0 < (refusal_answer x).number
refused_positive CountExceedsBytes = lit< tt
refused_positive CountTooSmall = lit< tt
refused_positive SyncBroken = lit< tt
refused_positive IndexTooLarge = lit< tt
refused_positive LengthWrong = lit< tt
refused_positive StartBitSet = lit< tt
refused_positive CrcMismatch = lit< tt
refused_positive FixedBitWrong = lit< tt
refused_positive DrnTooLarge = lit< tt
refused_positive GrantedBelowFullRate = lit< tt
refused_positive ProductTooSmall = lit< tt
refused_positive MaskAboveIndices = lit< tt
refused_positive FramesAtCleardown = lit< tt
refused_positive HistoryTooLarge = lit< tt
refused_positive TooManyFrames = lit< tt
refused_positive InputTooShort = lit< tt
refused_positive OutputTooShort = lit< tt
refused_positive DoubtfulTooLarge = lit< tt
refused_positive PlaceTooLarge = lit< tt
refused_positive FileBroken = lit< tt
refused_positive SettingMissing = lit< tt
refused_positive TooManyJunctions = lit< tt
refused_positive (IntervalEmpty i) = lit< tt
refused_positive RateOrSpacingOutside = lit< tt
refused_positive NoMask = lit< tt
refused_positive SumExceedsCeiling = lit< tt

-- an outcome says whether the call is accepted
pub refused_not : {X : Type 0} (o : Result X Refusal) (x : Refusal) (a : Answer) → o ≡ Err x → outcome_answer o ≡ a → accepted a ≡ false
refused_not o x a q e =
    ap accepted (sym e ∙ ap outcome_answer q) ∙ ne_eqb (refusal_answer x).number 0
    (λ (z : (refusal_answer x).number ≡ 0). omega (arith, refused_positive x))

pub done-accepted : {X : Type 0} (o : Result X Refusal) {y : X} (a : Answer) → o ≡ Ok y → outcome_answer o ≡ a → accepted a ≡ true
done-accepted o a q e = ap accepted (sym e ∙ ap outcome_answer q)

-- where it is, no test applies
pub done_none : {X : Type 0} (o : Result X Refusal) {y : X} (ts : List Test) → T (numbered ts) → o ≡ Ok y → outcome_answer o ≡ first ts → None ts
done_none o ts t q e = none_first ts t (eqb-true (first ts).number 0 (done-accepted o (first ts) q e))

-- a stage that refuses answers for all
pub stage_hit : {X : Type 0} (o : Result X Refusal) (x : Refusal) (ts us : List Test) → o ≡ Err x → outcome_answer o ≡ first ts
    → outcome_answer o ≡ first (ts ++ us)
stage_hit o x ts us q e =
    let p : 0 < (first ts).number = subst (λ (a : Answer). 0 < a.number) (sym (ap outcome_answer q) ∙ e) (refused_positive x) in
    e ∙ sym (first-left ts us p)

-- a stage that does not is passed
pub stage_past : {X : Type 0} (o : Result X Refusal) {y : X} (ts us : List Test) → T (numbered ts) → o ≡ Ok y → outcome_answer o ≡ first ts
    → {a : Answer} → a ≡ first us → a ≡ first (ts ++ us)
stage_past o ts us t q e k = k ∙ sym (first-append ts us (done_none o ts t q e))
