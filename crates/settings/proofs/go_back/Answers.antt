-- Broken, missing, or written afresh. Assumes nothing.
use mathlib.Core.Path.{◌≡◌, sym, ap, ◌∙◌}
use mathlib.Core.Bool.{true}
use denote.Ref.{Bor}
use Rattle.std.specs.Prelude as std
use Rattle.std.specs.Prelude.{Err, ok_or}
use Rattle.standard.specs.declared.Refusal.{Refusal}
use Rattle.laying.specs.Laying.{given}
use Rattle.places.specs.declared.Found.{Found}
use Rattle.places.specs.Finding.{FoundIn}
use Rattle.settings.specs.Putting.{number_shown}
use Prim.Native.Nat.{ℕ}
use mathlib.Core.List.{List}
use lib.ListN.{length}
use Rattle.standard.specs.Refusals.{refusal_answer}
use Rattle.standard.specs.Settings.{there, is_file, back_file}
use Rattle.standard.specs.Calls.{BackCall, back_call, back_refusal, back_length, back_out}
use Rattle.standard.specs.declared.Refusal.TheVariants.{SettingMissing}
use Rattle.faults.proofs.Faults.{handed_on}
use Rattle.rewriting.specs.Rewriting.{written_refusal}
use Rattle.settings.proofs.Options.{some_of, none_of, gone, kept}
use Rattle.settings.proofs.Answers.{refused_keeps, same_writes, previous-shown, back_is, back-first, back-missing, back-past}
use Rattle.settings.proofs.go_back.Goals as goal

pub returns-in_err-found-clause-refusal : goal.returns-in_err-found-clause-refusal
returns-in_err-found-clause-refusal c =
    let a = c.args in
    handed_on {X = ℕ} c.from_residual.result _ c.from_residual.ensures.1
    ∙ back-first a.file.now (back_call a.junction a.out.now) _ c.in_err-found.ensures.refusal

pub returns-in_err-found-clause-written : goal.returns-in_err-found-clause-written
unfolding back_out
returns-in_err-found-clause-written c =
    let a = c.args in
    refused_keeps _ _ (back_file a.file.now a.junction) a.out.now
    (back-first a.file.now (back_call a.junction a.out.now) _ c.in_err-found.ensures.refusal)

-- the previous setting is not there
missing : (b : Bor (List ℕ)) (c : BackCall) → is_file b.now ≡ true → (r : Found) → FoundIn b c.junction r → (o : std.Option (Bor (List ℕ)))
    → given o ≡ number_shown r 1 → (x : Refusal) → Err x ≡ ok_or o SettingMissing → refusal_answer x ≡ back_refusal b.now c
missing b c e r f o h x p =
    let q = none_of o SettingMissing x p in
    let m = ap there (sym (h ∙ previous-shown b c.junction e r f)) ∙ gone o q.0 in
    q.1 ∙ back-missing b.now c e m

pub returns-in_err-previous-clause-refusal : goal.returns-in_err-previous-clause-refusal
returns-in_err-previous-clause-refusal c =
    let a = c.args in
    let f = c.in_ok-found.ensures.found in
    handed_on {X = ℕ} c.from_residual-in_err-previous.result _ c.from_residual-in_err-previous.ensures.1
    ∙ missing a.file (back_call a.junction a.out.now) f.0 c.in_ok-found.found f.1 c.setting.result c.setting.ensures.shown _ c.in_err-previous.ensures.value

pub returns-in_err-previous-clause-written : goal.returns-in_err-previous-clause-written
unfolding back_out
returns-in_err-previous-clause-written c =
    let a = c.args in
    let f = c.in_ok-found.ensures.found in
    refused_keeps _ (back_refusal a.file.now (back_call a.junction a.out.now)) (back_file a.file.now a.junction) a.out.now
    (missing a.file (back_call a.junction a.out.now) f.0 c.in_ok-found.found f.1 c.setting.result c.setting.ensures.shown _ c.in_err-previous.ensures.value)

pub returns : goal.returns
unfolding back_length back_out
returns c =
    let a = c.args in
    let call = back_call a.junction a.out.now in
    let f = c.in_ok-found.ensures.found in
    let q = kept c.setting.result c.in_ok-previous.previous (some_of c.setting.result SettingMissing _ c.in_ok-previous.ensures.value) in
    let p = previous-shown a.file a.junction f.0 c.in_ok-found.found f.1 in
    let t = back_is a.file a.junction f.0 c.in_ok-found.found f.1 c.setting-current.result c.setting-current.ensures.shown
    c.from.result c.from.ensures c.in_ok-previous.previous (sym q ∙ c.setting.ensures.shown) in
    let w = c.written.ensures in
    let yes = ap there (sym (sym q ∙ c.setting.ensures.shown ∙ p)) in
    let z = same_writes _ (back_refusal a.file.now call) _ (back_file a.file.now a.junction) a.out.now c.written.result c.written.new.out
    (ap (written_refusal (length a.out.now)) t ∙ back-past a.file.now call f.0 yes) t (w.refusal, w.length, w.written) in
    record { refusal = z.0; length = z.1; written = z.2 }
