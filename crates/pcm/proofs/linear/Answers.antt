-- `pcm::linear` meets its contract. The loop's invariant: the first i places of `samples` hold the linear values of the first i octets.
-- Assumes nothing.
use mathlib.Core.Path.{◌≡◌, refl, ◌∙◌}
use native.Mathlib.Omega.{arith}
use lib.ListN.{length, length-set}
use mir.Facts.{to_z-of_z}
use mir.Syntax.{w32}
use Rattle.standard.proofs.Filling.{listed_none, listed_more, listed_all}
use Rattle.pcm.proofs.Calls.{sample_at, linear_refused, linear_done}
use Rattle.pcm.proofs.linear.Goals as goal

pub returns-then-samples-octets : goal.returns-then-samples-octets
returns-then-samples-octets c =
    let a = c.args in
    let refused = linear_refused a.law a.octets.now a.samples.now (omega arith) in
    record { refusal = refused.0; written = refused.1 }

pub loop-i-preserved : goal.loop-i-preserved
loop-i-preserved c =
    let a = c.args in
    let h = c.loop-i in (
      simp length-set h.invariant.0,
      listed_more (sample_at a.law a.octets.now) a.samples.now h.samples h.i _ h.invariant.1 (omega arith)
          (to_z-of_z {w = w32} {z = c.sample_of.result} (record { sfits = c.sample_of.type_inv }) ∙ c.sample_of.ensures),
    )

pub returns : goal.returns
returns c =
    let a = c.args in
    let h = c.loop-i in
    let e : h.i ≡ length a.octets.now = omega arith in
    let done = linear_done a.law a.octets.now a.samples.now (omega arith) in
    record {
      refusal = done.0;
      written = listed_all (sample_at a.law a.octets.now) a.samples.now h.samples _ (rw e at h.invariant.1) ∙ done.1;
    }

pub loop-i-init : goal.loop-i-init
loop-i-init c = (refl, listed_none _ c.args.samples.now)

pub shape_of-samples : goal.shape_of-samples
shape_of-samples c = c.loop-i.invariant.0
