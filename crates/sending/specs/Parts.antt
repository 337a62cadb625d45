-- The parts of a frame as code sends it, and what it asks of its caller. Assumes nothing.
use Rattle.std.specs.Prelude.{◌≡◌, ℕ, ◌%◌, ◌≤◌, ◌^◌, Bool, List, [], get_or}
use Rattle.standard.specs.Lists.{list_from}
use Rattle.standard.specs.Bits.{bit, bits_of}
use Rattle.standard.specs.Record.{K}
use Rattle.standard.specs.Constellation.{sizes}
use Rattle.standard.specs.Modulus.{product}
use Rattle.standard.specs.Octets.{octet}
use Rattle.standard.specs.Frame.{is_control, width, Outgoing, send_frame, send_next}
use Rattle.standard.specs.declared.Law.{Law}
use Rattle.standard.specs.declared.Record.{Record}
use Rattle.mapping.specs.declared.Mapping.{Mapping}
use Rattle.mapping.specs.Tables.{mapping_of, point_tables}
use Rattle.frame.specs.declared.Carried.{Carried}
use Rattle.frame.specs.Parts.{state_of, Bounded}
use Rattle.coding.specs.Reciprocals.{reciprocal_of}

-- a frame of the record r can be sent from the carried state x: m, its sizes' reciprocals vs and ps are drawn up of r
pub record Sendable (r : Record) (m : Mapping) (vs : List ℕ) (ps : List (List ℕ)) (x : Carried) : Type 0 where
  pub rate : r.drn ≤ 28
  pub mapped : m ≡ mapping_of r
  pub inverse : vs ≡ list_from (reciprocal_of m.sizes) 0 6
  pub points : ps ≡ point_tables r
  pub holds : 2 ^ K r ≤ product (sizes r)
  pub bounded : Bounded x

-- the frame of the lowest bits of a word that is sent from the carried state x; v is for a sequence that starts with it
abbrev pub outgoing : Record → Bool → ℕ → Carried → ℕ → Outgoing
outgoing r on v x word = record { control = on; sequence = v; bits = bits_of (width r (is_control on x.place)) word }

-- the frame f was sent as these octets from the carried state x and the sequence's bits bs, which left y and cs
pub record SentAs (r : Record) (l : Law) (f : Outgoing) (x : Carried) (bs : List ℕ) (y : Carried) (cs os : List ℕ) : Type 0 where
  pub octets : os ≡ send_frame r l (state_of x bs) f
  pub state : state_of y cs ≡ send_next (state_of x bs) f
  pub bounded : Bounded y

-- the octet in interval i, of points by label, of labels and of signs as bits of a number
unfoldable pub octet_in : Law → List (List ℕ) → List ℕ → ℕ → ℕ → ℕ
octet_in l ps labels signs i = octet l (bit signs i) (get_or (get_or ps i []) (get_or labels i 0) 0 % 128)
