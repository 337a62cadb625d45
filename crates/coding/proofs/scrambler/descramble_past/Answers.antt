-- All bits at once, by the stream of bits. Assumes nothing.
use native.Mathlib.Omega.{arith}
use lib.Pow.{pow_pos}
use Rattle.standard.proofs.Words.{one_shifted}
use Rattle.coding.proofs.Stream.{descrambled}
use Rattle.coding.proofs.scrambler.descramble_past.Goals as goal

pub nonzero_rem-plain : goal.nonzero_rem-plain
nonzero_rem-plain c = rw (one_shifted c.args.count (omega arith)) (pow_pos c.args.count)

pub returns : goal.returns
returns c =
    let a = c.args in (
      rw (one_shifted a.count (omega arith)) (descrambled a.past a.line c.requires.0 a.count c.requires.2),
      c.past_after.ensures,
    )
