-- Lost, pattern, CRC: each is tested where those before it are not so. Assumes nothing.
use mathlib.Core.Path.{◌≡◌}
use Prim.Native.Nat.{ℕ}
use mathlib.Core.Bool.{Bool, true, false}
use native.Mathlib.Omega.{arith}
use Rattle.standard.specs.Bits.{bit_at, field}
use Rattle.standard.specs.Control.{sequence_crc}
use Rattle.standard.proofs.Bits.{field_lt}
use Rattle.control.proofs.Judging.{Read, said-lost, said_pattern, said_crc, said-bits}
use Rattle.control.proofs.judge.Goals as goal

-- what was read
read : (f : ℕ → Bool) {pattern sent crc : ℕ} → pattern ≡ field f 0 16 → sent ≡ field f 78 16 → crc ≡ sequence_crc f → Read f pattern sent crc
read f p s k = record { pattern_is = p; sent_is = s; crc_is = k }

pub returns-then-lost : goal.returns-then-lost
returns-then-lost c =
    let f = bit_at c.args.sequence.now in
    let lost : c.args.lost ≡ true = grind arith in
    said-lost f (read f c.field_at-pattern.ensures c.field_at-sent.ensures c.crc_in-crc.ensures) lost

pub returns-then-pattern-ne-SLIP_PATTERN : goal.returns-then-pattern-ne-SLIP_PATTERN
returns-then-pattern-ne-SLIP_PATTERN c =
    let f = bit_at c.args.sequence.now in
    let here : c.args.lost ≡ false = grind arith in
    let wrong : c.field_at-pattern.result ≡ 0x5fee → ⊥ = λ e. omega arith in
    said_pattern f (read f c.field_at-pattern.ensures c.field_at-sent.ensures c.crc_in-crc.ensures) here wrong

pub returns-then-crc-sent : goal.returns-then-crc-sent
returns-then-crc-sent c =
    let f = bit_at c.args.sequence.now in
    let here : c.args.lost ≡ false = grind arith in
    let right : c.field_at-pattern.result ≡ 0x5fee = omega arith in
    let wrong : c.crc_in-crc.result ≡ c.field_at-sent.result → ⊥ = λ e. omega arith in
    said_crc f (read f c.field_at-pattern.ensures c.field_at-sent.ensures c.crc_in-crc.ensures) here right wrong

pub overflow_mul-result : goal.overflow_mul-result
overflow_mul-result c = omega (arith, field_lt (bit_at c.args.sequence.now) 24 54, c.field_at-2.ensures)

pub overflow_add-result : goal.overflow_add-result
overflow_add-result c =
    let f = bit_at c.args.sequence.now in
    omega (arith, field_lt f 16 2, c.field_at.ensures, field_lt f 24 54, c.field_at-2.ensures)

pub returns : goal.returns
returns c =
    let f = bit_at c.args.sequence.now in
    let here : c.args.lost ≡ false = grind arith in
    let right : c.field_at-pattern.result ≡ 0x5fee = omega arith in
    let sent : c.crc_in-crc.result ≡ c.field_at-sent.result = omega arith in
    said-bits f (read f c.field_at-pattern.ensures c.field_at-sent.ensures c.crc_in-crc.ensures) _ _ here right sent
    c.field_at.ensures c.field_at-2.ensures
