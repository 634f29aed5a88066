-- Few rows are not linked; else the rows' words are held against the chains.
use lib.ListN.{length-replicate}
use Rattle.place_next.specs.ChainLaws.{rows_most}
use Rattle.place_link.specs.LinkLaws.{chains_made, told_few, told_links}
use Prim.Native.Nat.{ℕ}
use native.Mathlib.Omega.{arith}
use Rattle.place_link.proofs.rows_linked.Goals as goal

pub returns-then-n-lt-FEW : goal.returns-then-n-lt-FEW
returns-then-n-lt-FEW c = told_few _ c.row_count-n.ensures c.if-n-lt-FEW.true

pub links_held-requires : goal.links_held-requires
links_held-requires c =
    let rows = c.row_count-n.ensures in
    let few = rows_most _ rows in
    chains_made rows (let z : ℕ = 0 in omega (arith, length-replicate 512 z)) c.chain_rows-heads.ensures

pub returns : goal.returns
returns c =
    told_links _ c.row_count-n.ensures
    c.if-n-lt-FEW.false c.links_held.ensures
