-- The same one, or version 2. Assumes nothing.
use mathlib.Core.Path.{◌≡◌, ◌∙◌}
use Prim.Native.Nat.{ℕ, ◌≤◌, ◌<◌}
use native.Mathlib.Omega.{arith}
use borrow.Author.Tests.{le-leb, lt-leb}
use Rattle.standard.specs.Settings.{version_two, version_for}
use Rattle.standard.specs.declared.Version.{Version}
use Rattle.versions.proofs.version_for.Goals as goal

keeps : (v : Version) (n : ℕ) → n ≤ v.most → v ≡ version_for v n
unfolding version_for
keeps v n h = rw (le-leb n v.most h)

turns : (v : Version) (n : ℕ) → v.most < n → version_two ≡ version_for v n
unfolding version_for
turns v n h = rw (lt-leb n v.most h)

pub returns-then-junctions-v : goal.returns-then-junctions-v
returns-then-junctions-v c = (keeps _ _ c.if-junctions-v.true, c.requires.0, c.requires.1)

pub returns : goal.returns
returns c =
    let e = c.version_two.ensures in
    (e ∙ turns _ _ c.if-junctions-v.false, rw e (omega arith), rw e (omega arith))
