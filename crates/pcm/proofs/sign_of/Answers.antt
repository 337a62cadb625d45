-- `pcm::sign_of` meets its contract: bit 7. Assumes nothing.
use Prim.Native.Nat.{◌/◌}
use Rattle.standard.specs.Octets.{sign_of}
use Rattle.standard.proofs.Words.{odd-test}
use Rattle.pcm.proofs.sign_of.Goals as goal

pub returns : goal.returns
unfolding sign_of
returns c = odd-test (c.args.octet / 128)
