-- `found_in` meets its contract. The loop's invariant is `Finding`: what is left to look at gives what is found. Assumes nothing.
use mathlib.Core.Path.{ap₂, ◌∙◌}
use native.Mathlib.Omega.{arith}
use Rattle.standard.specs.Start.{with_line}
use Rattle.start_bits.proofs.Loops.{finding_first, finding_more, finding_all}
use Rattle.start_bits.proofs.found_in.Goals as goal

pub loop-k-init : goal.loop-k-init
loop-k-init c =
    let octets = c.args.octets.now in
    finding_first octets (omega arith) c.sign_of-sign.ensures

pub loop-k-preserved : goal.loop-k-preserved
loop-k-preserved c =
    let octets = c.args.octets.now in
    let t = c.sign_of-next in
    finding_more octets c.loop-k.invariant (omega arith) t.ensures c.push-history.ensures.0

pub returns : goal.returns
returns c =
    let l = c.loop-k in
    let a = c.args in
    let found = finding_all a.octets.now l.invariant (omega arith) in
    c.with_line.ensures ∙ ap₂ (with_line a.state) found.0 found.1
