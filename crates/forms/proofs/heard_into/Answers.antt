-- The kind, and behind it the bits. Assumes nothing.
use mathlib.Core.Path.{◌∙◌}
use native.Mathlib.Omega.{arith}
use lib.ListN.{length-set}
use Rattle.forms.proofs.Into.{heard-put}
use Rattle.forms.proofs.heard_into.Goals as goal

pub put_bytes-requires : goal.put_bytes-requires
put_bytes-requires c =
    (omega arith, omega (arith, length-set c.args.bytes.now 0 c.told_as-kind.result.0))

pub shape_of-bytes : goal.shape_of-bytes
shape_of-bytes c =
    c.put_bytes.auto.bytes
    ∙ length-set c.args.bytes.now 0
    c.told_as-kind.result.0

pub returns : goal.returns
returns c =
    let told = c.told_as-kind in
    heard-put c.args.said told.result.0 _ c.args.bytes.now _ (omega arith)
    (λ i. grind arith) (omega arith)
    told.ensures.0 told.ensures.1 c.put_bytes.ensures
