-- Broken, too many, or written afresh. Assumes nothing.
use mathlib.Core.Path.{◌≡◌, ap, ◌∙◌}
use Prim.Native.Nat.{ℕ, ◌+◌}
use native.Mathlib.Omega.{arith}
use lib.ListN.{length}
use Rattle.std.specs.Int.{from_bool}
use Rattle.standard.specs.Settings.{settings_in, put, put_file, junctions}
use Rattle.standard.specs.declared.Refusal.TheVariants.{TooManyJunctions}
use Rattle.standard.specs.declared.Version.{Version}
use Rattle.faults.proofs.Faults.{handed_on}
use Rattle.rewriting.specs.Rewriting.{written_refusal}
use Rattle.settings.specs.Putting.{cp_put_refusal}
use Rattle.std.specs.Prelude.{is_some}
use Rattle.settings.proofs.Options.{flip}
use Rattle.settings.proofs.Answers.{refused_keeps, same_writes, many_is, too_many, not-many, put_is, cp-first, cp-many, cp-past}
use Rattle.settings.proofs.put_cp.Goals as goal

pub returns-in_err-found-clause-refusal : goal.returns-in_err-found-clause-refusal
returns-in_err-found-clause-refusal c =
    let a = c.args in
    handed_on {X = ℕ} c.from_residual.result _ c.from_residual.ensures.1
    ∙ cp-first a.file.now a.junction a.cp.now (length a.out.now) _ c.in_err-found.ensures.refusal

pub returns-in_err-found-clause-written : goal.returns-in_err-found-clause-written
returns-in_err-found-clause-written c =
    let a = c.args in
    refused_keeps _ _ (put_file a.file.now a.junction a.cp.now) a.out.now
    (cp-first a.file.now a.junction a.cp.now (length a.out.now) _ c.in_err-found.ensures.refusal)

pub returns-then-version_two-many : goal.returns-then-version_two-many
returns-then-version_two-many c =
    let a = c.args in
    let f = c.in_ok-found.ensures.found in
    let n : c.from.result + c.junctions.result ≡ junctions (put a.junction a.cp.now (settings_in a.file.now))
    = many_is a.file a.junction f.0 c.in_ok-found.found f.1 c.setting-replaced.result c.setting-replaced.ensures.shown a.cp.now _ _
    (c.from.ensures ∙ ap from_bool (flip (is_some c.setting-replaced.result) c.is_none.result c.is_none.ensures)) c.junctions.ensures.value in
    let m = too_many (put a.junction a.cp.now (settings_in a.file.now)) _ n
    (omega (arith, c.if-version_two-many.true, ap (λ (v : Version). v.most) c.version_two.ensures)) in
    let e = cp-many a.file.now a.junction a.cp.now (length a.out.now) f.0 m in
    record { refusal = e; length = tt; written = refused_keeps TooManyJunctions _ (put_file a.file.now a.junction a.cp.now) a.out.now e }

pub returns : goal.returns
returns c =
    let a = c.args in
    let f = c.in_ok-found.ensures.found in
    let room = length a.out.now in
    let n : c.from.result + c.junctions.result ≡ junctions (put a.junction a.cp.now (settings_in a.file.now))
    = many_is a.file a.junction f.0 c.in_ok-found.found f.1 c.setting-replaced.result c.setting-replaced.ensures.shown a.cp.now _ _
    (c.from.ensures ∙ ap from_bool (flip (is_some c.setting-replaced.result) c.is_none.result c.is_none.ensures)) c.junctions.ensures.value in
    let m = not-many (put a.junction a.cp.now (settings_in a.file.now)) _ n
    (omega (arith, c.if-version_two-many.false, ap (λ (v : Version). v.most) c.version_two.ensures)) in
    let t = put_is a.file a.junction f.0 c.in_ok-found.found f.1 c.setting-replaced.result c.setting-replaced.ensures.shown
    c.from-2.result c.from-2.ensures a.cp _ n _ c.version_for-form.ensures.0 in
    let w = c.written.ensures in
    let z = same_writes _ (cp_put_refusal a.file.now a.junction a.cp.now room) _ (put_file a.file.now a.junction a.cp.now) a.out.now
    c.written.result c.written.new.out
    (ap (written_refusal room) t ∙ cp-past a.file.now a.junction a.cp.now room f.0 m) t (w.refusal, w.length, w.written) in
    record { refusal = z.0; length = z.1; written = z.2 }
