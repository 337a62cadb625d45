-- Broken, missing, or read. Assumes nothing.
use mathlib.Core.Path.{◌≡◌, sym, ap, subst, ◌∙◌}
use Rattle.std.specs.Prelude.{IfOk}
use Rattle.standard.specs.Settings.{there}
use Rattle.standard.specs.declared.Record.{Record}
use Rattle.standard.specs.declared.Refusal.TheVariants.{SettingMissing}
use Rattle.faults.proofs.Faults.{handed_on}
use Rattle.settings.proofs.Options.{some_of, none_of, gone, kept}
use Rattle.settings.proofs.Answers.{current-shown, look-first, look-missing, look-done}
use Rattle.settings.proofs.look_up.Goals as goal

pub returns-in_err-found-clause-refusal : goal.returns-in_err-found-clause-refusal
returns-in_err-found-clause-refusal c =
    let a = c.args in
    handed_on {X = Record} c.from_residual.result _ c.from_residual.ensures.1
    ∙ look-first a.file.now a.junction _ c.in_err-found.ensures.refusal

pub returns-in_err-current-clause-refusal : goal.returns-in_err-current-clause-refusal
returns-in_err-current-clause-refusal c =
    let a = c.args in
    let f = c.in_ok-found.ensures.found in
    let q = none_of c.setting.result SettingMissing _ c.in_err-current.ensures.value in
    let m = ap there (sym (c.setting.ensures.shown ∙ current-shown a.file a.junction f.0 c.in_ok-found.found f.1)) ∙ gone _ q.0 in
    handed_on {X = Record} c.from_residual-in_err-current.result _ c.from_residual-in_err-current.ensures.1
    ∙ q.1 ∙ look-missing a.file.now a.junction f.0 m

pub returns : goal.returns
returns c =
    let a = c.args in
    let f = c.in_ok-found.ensures.found in
    let q = kept c.setting.result _ (some_of c.setting.result SettingMissing _ c.in_ok-current.ensures.value) in
    let p = sym (c.setting.ensures.shown ∙ current-shown a.file a.junction f.0 c.in_ok-found.found f.1) ∙ q in
    let d = look-done a.file.now a.junction f.0 _ p _ c.bit_count_of.ensures.value in
    let r = c.read_cp in
    record {
      refusal = r.ensures.refusal ∙ d.0;
      read = subst (λ (k : Record). IfOk r.result (λ x. x ≡ k)) d.1 r.ensures.read;
    }
