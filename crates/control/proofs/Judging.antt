-- What is said of a sequence, test by test. Assumes nothing.
use mathlib.Core.Path.{◌≡◌, sym, ap, ◌∙◌}
use Prim.Native.Nat.{ℕ, ◌+◌, ◌*◌}
use mathlib.Core.Bool.{Bool, true, false, not}
use borrow.Author.Tests.{eq-eqb, ne_eqb}
use Rattle.standard.specs.Bits.{field}
use Rattle.standard.specs.Control.{slip_pattern, sequence_crc, pattern_wrong, crc_wrong, sequence_in, judged}
use Rattle.standard.specs.declared.Said.TheVariants.{Sequence, FrameLost, PatternWrong, CrcWrong}
use Rattle.standard.proofs.Control.{pattern_number}

module _ (f : ℕ → Bool) where
  -- pattern and CRC as code has them
  pub record Read (pattern sent crc : ℕ) : Type 0 where
    pub pattern_is : pattern ≡ field f 0 16
    pub sent_is : sent ≡ field f 78 16
    pub crc_is : crc ≡ sequence_crc f

  module _ {pattern sent crc : ℕ} (r : Read pattern sent crc) where
    pattern_right : pattern ≡ 0x5fee → pattern_wrong f ≡ false
    unfolding pattern_wrong
    pattern_right e = ap not (eq-eqb (field f 0 16) slip_pattern (sym r.pattern_is ∙ e ∙ sym pattern_number))

    pattern_bad : (pattern ≡ 0x5fee → ⊥) → pattern_wrong f ≡ true
    unfolding pattern_wrong
    pattern_bad n = ap not (ne_eqb (field f 0 16) slip_pattern (λ e. n (r.pattern_is ∙ e ∙ pattern_number)))

    crc_right : crc ≡ sent → crc_wrong f ≡ false
    unfolding crc_wrong
    crc_right e = ap not (eq-eqb (sequence_crc f) (field f 78 16) (sym r.crc_is ∙ e ∙ r.sent_is))

    crc_bad : (crc ≡ sent → ⊥) → crc_wrong f ≡ true
    unfolding crc_wrong
    crc_bad n = ap not (ne_eqb (sequence_crc f) (field f 78 16) (λ e. n (r.crc_is ∙ e ∙ sym r.sent_is)))

    -- the four answers
    module _ {lost : Bool} where
      pub said-lost : lost ≡ true → FrameLost ≡ judged lost f
      unfolding judged
      said-lost a = rw a

      pub said_pattern : lost ≡ false → (pattern ≡ 0x5fee → ⊥) → PatternWrong ≡ judged lost f
      unfolding judged
      said_pattern a b = rw (a, pattern_bad b)

      pub said_crc : lost ≡ false → pattern ≡ 0x5fee → (crc ≡ sent → ⊥) → CrcWrong ≡ judged lost f
      unfolding judged
      said_crc a b c = rw (a, pattern_right b, crc_bad c)

      pub said-bits : (x y : ℕ) → lost ≡ false → pattern ≡ 0x5fee → crc ≡ sent → x ≡ field f 16 2 → y ≡ field f 24 54
          → Sequence (x + 4 * y) ≡ judged lost f
      unfolding judged sequence_in
      said-bits x y a b c ex ey = rw (a, pattern_right b, crc_right c, ex, ey)
