-- The register when i words, each with the start bit after it, have passed. Assumes nothing.
use mathlib.Core.Path.{◌≡◌, refl, ap, ◌∙◌}
use Prim.Native.Nat.{◌+◌, ◌*◌, ◌%◌}
use native.Mathlib.Omega.{arith}
use borrow.Author.Tests.{eq-eqb}
use Rattle.standard.specs.Bits.{bit_at}
use Rattle.standard.specs.Crc.{crc_over}
use Rattle.standard.specs.Cp.{gamma, start_bit, cp_crc}
use Rattle.standard.proofs.Crc.{crc_over_skip}
use Rattle.crc.proofs.Crc.{crc_word}
use Rattle.crc.proofs.crc_of.Goals as goal

pub loop-i-init : goal.loop-i-init
unfolding crc_over
loop-i-init c = refl

pub crc_from-register-requires : goal.crc_from-register-requires
crc_from-register-requires c = (omega arith, omega arith)

pub loop-i-preserved : goal.loop-i-preserved
loop-i-preserved c =
    let l = c.loop-i in
    crc_word (bit_at c.args.cp.now) l.i l.register c.crc_from-register.result l.invariant c.crc_from-register.ensures

pub returns : goal.returns
unfolding cp_crc
returns c =
    let a = c.args in
    let f = bit_at a.cp.now in
    let k = 254 + gamma a.g in
    let e : 17 * c.loop-i.i ≡ k + 1 = omega arith in
    c.loop-i.invariant ∙ ap (crc_over start_bit f 18) e ∙ crc_over_skip start_bit f 18 k (eq-eqb ((18 + k) % 17) 0 (omega arith))
