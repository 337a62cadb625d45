-- The record as far as its head says. Assumes nothing.
use Rattle.std.specs.Prelude.{ℕ, Bool, replicate}
use Rattle.standard.specs.Lists.{list_from}
use Rattle.standard.specs.Bits.{field}
use Rattle.standard.specs.Cp.{index_in}
use Rattle.standard.specs.declared.Record.{Record}

-- all but the masks, which are empty
unfoldable pub head_in : (ℕ → Bool) → Record
head_in f = record { granted = f 18; drn = field f 20 5; acknowledge = f 33; index = list_from (index_in f) 0 6; mask = replicate 12 0 }
