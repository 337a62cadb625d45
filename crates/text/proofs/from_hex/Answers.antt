-- Turn k puts byte k. Assumes nothing.
use mathlib.Core.Path.{refl}
use native.Mathlib.Omega.{arith}
use Rattle.text.proofs.Putting.{put-none, put_more, put_all}
use Rattle.text.proofs.from_hex.Goals as goal

pub loop-k-preserved : goal.loop-k-preserved
loop-k-preserved c = put_more _ c.loop-k.invariant (omega arith) (omega arith) c.byte_of.ensures

pub returns : goal.returns
returns c = (refl, put_all c.loop-k.invariant (omega arith))

pub loop-k-init : goal.loop-k-init
loop-k-init c = put-none
