-- The words of the row tell the next row on the chain (apart_next); a row of another relation adds nothing (run-apart).
use native.Mathlib.Omega.{arith}
use Rattle.place_next.specs.ChainLaws.{rows_most}
use Rattle.walk_pick.specs.Leavings.{known_of}
use Rattle.walk_pick.specs.RunLaws.{run_apart, apart_next}
use Rattle.walk_pick.proofs.run_none.Goals as goal

pub overflow_mul-j : goal.overflow_mul-j
overflow_mul-j c =
    let known = known_of c.args.s.now c.args.j c.requires.0 in
    let few = rows_most _ known.rows in
    let l = known.inside in
    record { fits = omega arith }

pub along_at-a-requires : goal.along_at-a-requires
along_at-a-requires c =
    let known = known_of c.args.s.now c.args.j c.requires.0 in
    let few = rows_most _ known.rows in
    let l = known.inside in
    let e = known.worked.size in
    omega arith

pub returns-then-a-lt-LAST : goal.returns-then-a-lt-LAST
returns-then-a-lt-LAST c =
    let known = known_of c.args.s.now c.args.j c.requires.0 in
    run_apart known c.requires.1 ((apart_next known c.along_at-a.ensures).0 c.if-a-lt-LAST.true)

pub returns : goal.returns
returns c =
    let known = known_of c.args.s.now c.args.j c.requires.0 in
    run_apart known c.requires.1 ((apart_next known c.along_at-a.ensures).1 c.if-a-lt-LAST.false)
