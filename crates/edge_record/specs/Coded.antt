-- Which edge a record stands for (E5, E6). Believed: `flow_byte`, `letter_byte`, `coded` and `found_as`.
use Rattle.std.proofs.Math.Option as L
use Rattle.std.specs.Prelude.{ℕ, Option, None, Some}
use Rattle.spec_graph.specs.Graph as G
use Rattle.spec_graph.specs.Edge as E
use Rattle.edge_record.specs.declared.Edge.{Edge}

-- the byte of a flow: f or b
abbrev pub flow_byte : G.Flow → ℕ
flow_byte G.Flow.forward = 0x66
flow_byte G.Flow.back = 0x62

-- the byte of a letter
abbrev pub letter_byte : E.Letter → ℕ
letter_byte E.Letter.A = 0x41
letter_byte E.Letter.B = 0x42
letter_byte E.Letter.C = 0x43
letter_byte E.Letter.D = 0x44
letter_byte E.Letter.E = 0x45

-- E6: an edge as the code holds it
unfoldable pub coded : E.Edge → Edge
coded e = record {
  node = e.node;
  leaves = e.leaves;
  into = e.into;
  enters = e.enters;
  sharing = e.sharing;
  lowest = e.lowest;
  flow = flow_byte e.flow;
  letter = letter_byte e.letter;
}

-- E5: one edge asked for by its number, or that there is none
unfoldable pub found_as : L.Option E.Edge → Option Edge
found_as L.none = None
found_as (L.some e) = Some (coded e)
