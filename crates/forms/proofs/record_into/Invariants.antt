-- Each turn puts a half, behind the head and the halves before it. Assumes nothing.
use mathlib.Core.Path.{◌≡◌}
use Prim.Native.Nat.{◌+◌, ◌*◌}
use mathlib.Core.List.{◌++◌}
use lib.ListN.{length, drop}
use Rattle.standard.specs.Lists.{list_from}
use Rattle.forms.specs.RecordBytes.{record_byte}
use Rattle.forms.proofs.Into.{Bytes}
use Rattle.forms.proofs.record_into.Given as goal

abbrev pub invariant-loop-h : goal.invariant-loop-h
invariant-loop-h l =
    (length l.bytes ≡ length l.fn.bytes) × Bytes l.bytes
    × (l.bytes ≡ list_from (record_byte l.fn.r) 0 (9 + 8 * l.h) ++ drop (9 + 8 * l.h) l.fn.bytes)
