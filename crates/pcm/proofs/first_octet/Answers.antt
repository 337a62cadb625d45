-- `pcm::first_octet` meets its contract, law by law. Assumes nothing.
use Rattle.standard.specs.Octets.{positive_octet}
use Rattle.pcm.proofs.first_octet.Goals as goal

pub returns-in-Mu : goal.returns-in-Mu
unfolding positive_octet
returns-in-Mu c = rw c.in-Mu.is

pub returns-in-A : goal.returns-in-A
unfolding positive_octet
returns-in-A c = rw c.in-A.is
