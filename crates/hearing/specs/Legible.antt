-- What reading six octets asks of the caller, and its parts as code has them. Assumes nothing.
use Rattle.std.specs.Prelude.{◌≡◌, ℕ, ◌≤◌, List, [], get_or}
use Rattle.standard.specs.Frame.{ucode_at}
use Rattle.standard.specs.declared.Law.{Law}
use Rattle.standard.specs.declared.Record.{Record}
use Rattle.mapping.specs.declared.Mapping.{Mapping}
use Rattle.mapping.specs.Tables.{mapping_of, label_tables}

-- six octets can be read with the record r: m and ls are drawn up of it
pub record Legible (r : Record) (m : Mapping) (ls : List (List ℕ)) : Type 0 where
  pub rate : r.drn ≤ 28
  pub mapped : m ≡ mapping_of r
  pub labels : ls ≡ label_tables r

-- what the table by Ucode has for the octet in interval i
unfoldable pub label_in : Law → List (List ℕ) → List ℕ → ℕ → ℕ
label_in l ls os i = get_or (get_or ls i []) (ucode_at l os i) 0
