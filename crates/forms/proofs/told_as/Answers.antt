-- Each arm has its kind, and a sequence heard its bits. Assumes nothing.
use mathlib.Core.Path.{◌≡◌, sym, ap}
use Rattle.standard.specs.declared.Said.{Said}
use Rattle.forms.specs.HeardBytes.{said_kind, said_bits}
use Rattle.forms.proofs.told_as.Goals as goal

-- the arm of y
arm : {x y : Said} → x ≡ y → (said_kind y ≡ said_kind x) × (said_bits y ≡ said_bits x)
arm e = (sym (ap said_kind e), sym (ap said_bits e))

pub returns-in-Nothing : goal.returns-in-Nothing
unfolding said_kind said_bits
returns-in-Nothing c = arm c.in-Nothing.is

pub returns-in-Sequence : goal.returns-in-Sequence
unfolding said_kind said_bits
returns-in-Sequence c = arm c.in-Sequence.is

pub returns-in-FrameLost : goal.returns-in-FrameLost
unfolding said_kind said_bits
returns-in-FrameLost c = arm c.in-FrameLost.is

pub returns-in-PatternWrong : goal.returns-in-PatternWrong
unfolding said_kind said_bits
returns-in-PatternWrong c = arm c.in-PatternWrong.is

pub returns-in-CrcWrong : goal.returns-in-CrcWrong
unfolding said_kind said_bits
returns-in-CrcWrong c = arm c.in-CrcWrong.is
