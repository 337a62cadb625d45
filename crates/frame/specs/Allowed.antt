-- What the frames of a call ask, which its refusals leave. Assumes nothing.
use Rattle.std.specs.Prelude.{◌≡◌, ℕ, ◌≤◌, ◌<◌, ◌^◌, List}
use Rattle.standard.specs.Record.{index_of, K}
use Rattle.standard.specs.Constellation.{sizes}
use Rattle.standard.specs.Modulus.{product}
use Rattle.standard.specs.declared.LineState.{LineState}
use Rattle.standard.specs.declared.Record.{Record}
use Rattle.mapping.specs.declared.Mapping.{Mapping}
use Rattle.mapping.specs.Tables.{mapping_of}

pub record Allowed (r : Record) (st : LineState) (n : ℕ) : Type 0 where
  pub index : (i : ℕ) → i < 6 → index_of r i ≤ 5
  pub rate : r.drn ≤ 28
  pub history : st.history < 2 ^ 23
  pub place : st.place < 64
  pub done : st.done < 16
  pub few : n ≤ 1024
  pub holds : 0 < n → 2 ^ K r ≤ product (sizes r)

-- the record r allows a call of N frames from the state st, and m and the tables ts are drawn up of it
pub record Drawn (tables : Record → List (List ℕ)) (r : Record) (st : LineState) (N : ℕ) (m : Mapping) (ts : List (List ℕ)) : Type 0 where
  pub allowed : Allowed r st N
  pub mapped : m ≡ mapping_of r
  pub tabled : ts ≡ tables r
