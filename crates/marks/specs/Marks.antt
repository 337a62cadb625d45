-- What the marks of the frames so far come to. Assumes nothing.
use Rattle.std.specs.Prelude.{ℕ, ◌+◌, ◌%◌, ◌^◌, min, cond, ◌==◌}
use Rattle.marks.specs.declared.Report.{Report}

-- a count with k more, in 64 bits
abbrev pub plus : ℕ → ℕ → ℕ
plus n k = (n + k) % 2 ^ 64

-- one frame more, of d data bits and with mark m, where the line state's count before it is c. The run at the end are the last frames that
-- have one mark. Of a good frame's bits those below the count are doubtful (A.1)
unfoldable pub noted : ℕ → ℕ → Report → ℕ → Report
noted d c p m =
    record {
      frames = plus p.frames 1;
      marked = plus p.marked (cond (m == 0) 0 1);
      mark = m;
      first = cond (m == p.mark) p.first p.frames;
      doubtful = plus p.doubtful (cond (m == 0) (min d c) 0);
    }
