-- Past the entries of the junction, or one of them. Assumes nothing.
use native.Mathlib.Omega.{arith}
use Rattle.settings.proofs.Options.{not-shown, is-shown}
use Rattle.settings.proofs.setting.Goals as goal

pub returns-then-found-k-clause-shown : goal.returns-then-found-k-clause-shown
returns-then-found-k-clause-shown c = not-shown c.args.found.now c.args.number (omega arith)

pub returns-clause-shown : goal.returns-clause-shown
returns-clause-shown c = is-shown c.args.found.now c.args.number _ (omega arith) c.cp_of.ensures.bytes
