-- The bits are left, or zero bits fill one frame more. Assumes nothing.
use Rattle.streams.proofs.Widths.{rest-left, rest-filled}
use Rattle.streams.proofs.cut_rest.Goals as goal

pub returns-then-exact-left : goal.returns-then-exact-left
returns-then-exact-left c = λ f e. let p = c.requires in rest-left f _ _ _ _ p.0 p.1 p.2 e c.if-exact-left.true

pub returns : goal.returns
returns c = λ f e. let p = c.requires in rest-filled f _ _ _ _ p.0 p.1 p.2 e c.if-exact-left.false
