-- Each half has 64 Ucodes. Assumes nothing.
use mathlib.Core.Path.{◌∙◌, sym}
use Rattle.constellation.proofs.Masks.{has_low, has_above}
use Rattle.constellation.proofs.belongs.Goals as goal

pub returns-then-ucode-lt64 : goal.returns-then-ucode-lt64
returns-then-ucode-lt64 c = let b = c.before.before in c.bit_of.ensures ∙ sym (has_low b.args.m b.args.ucode c.if-ucode-lt64.true)

pub returns : goal.returns
returns c =
    let b = c.before.before in c.bit_of-2.ensures ∙ sym (has_above b.args.m b.args.ucode c.if-ucode-lt64.false b.requires)
