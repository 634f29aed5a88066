-- Counting over the lines of a program, as numbers: 0 for a statement, 1 for `lo`, 2 for `br`, 3 for `pr`, 4 for every other kind.
use Rattle.std.specs.Prelude.{cond, ◌&&◌, List, map, ℕ, zero, suc, ◌+◌, ◌^◌, eqb, leb, ltb, length, get_or}
use Rattle.spec_text.specs.declared.Line.{Line}
use Rattle.spec_text.specs.declared.LineKind.{LineKind}
use Rattle.spec_text.specs.declared.LineKind.TheVariants.{Rl, Fk, Pr, St, Lo, Br, El, En, Li}
use Rattle.spec_text.specs.declared.StatementKind.{StatementKind}
use Rattle.spec_graph.specs.Edge.{shields}
use Rattle.unfold_laws.specs.declared.Counted.{Counted}
use Rattle.unfold_laws.specs.Cap.{plus, times}

unfoldable pub code_of : LineKind → ℕ
code_of (St k) = 0
code_of Lo = 1
code_of Br = 2
code_of Pr = 3
code_of Rl = 4
code_of Fk = 4
code_of El = 4
code_of En = 4
code_of Li = 4

unfoldable pub codes_of : List Line → List ℕ
codes_of lines = map (λ l. code_of l.kind) lines

unfoldable pub ids_of : List Line → List ℕ
ids_of lines = map (λ l. l.id) lines

-- the bit of a statement's id where its kind shields (E3), and a line's: `mark_of` over lines
unfoldable pub bit_in : StatementKind → ℕ → ℕ
bit_in k id = cond (shields k && ltb id 32) (2 ^ id) 0

unfoldable pub mark_in : LineKind → ℕ → ℕ
mark_in (St k) id = bit_in k id
mark_in Rl id = 0
mark_in Fk id = 0
mark_in Pr id = 0
mark_in Lo id = 0
mark_in Br id = 0
mark_in El id = 0
mark_in En id = 0
mark_in Li id = 0

unfoldable pub marks_of : List Line → List ℕ
marks_of lines = map (λ l. mark_in l.kind l.id) lines

-- the place after a closing line, where there is one
unfoldable pub after : ℕ → ℕ → ℕ
after length e = cond (ltb e length) (e + 1) e

-- nothing, with one unfolding; a statement
unfoldable pub nothing_at : ℕ → Counted
nothing_at at = record { count = 1; statements = 0; end = at }

unfoldable pub statement_at : ℕ → Counted
statement_at at = record { count = 1; statements = 1; end = at + 1 }

-- a loop over a body, a branch of two arms, an item in front of a run
unfoldable pub loop_counted : ℕ → Counted → Counted
loop_counted lines body =
    record {
      count = plus 1 (plus body.count (times body.count body.count));
      statements = plus body.statements (plus (times body.statements body.count) (times body.count body.statements));
      end = after lines body.end;
    }

unfoldable pub branch_counted : ℕ → Counted → Counted → Counted
branch_counted lines one two =
    record {
      count = plus one.count two.count;
      statements = plus one.statements two.statements;
      end = after lines two.end;
    }

unfoldable pub next_counted : Counted → Counted → Counted
next_counted x more =
    record {
      count = times x.count more.count;
      statements = plus (times x.statements more.count) (times x.count more.statements);
      end = more.end;
    }

-- the item at a place; `run` counts the run at a place
unfoldable pub item_at : (ℕ → Counted) → List ℕ → ℕ → Counted
item_at run codes at =
    cond (eqb (get_or codes at 0) 0) (statement_at at)
    (cond (eqb (get_or codes at 0) 1) (loop_counted (length codes) (run (at + 1)))
    (branch_counted (length codes) (run (at + 1)) (run (after (length codes) (run (at + 1)).end))))

-- the run at a place; the number bounds the lines, as in `run_of`
unfoldable pub count_at : ℕ → List ℕ → ℕ → Counted
count_at zero codes at = nothing_at at
count_at (suc n) codes at =
    cond (leb (length codes) at) (nothing_at at)
    (cond (ltb 2 (get_or codes at 0)) (nothing_at at)
    (next_counted (item_at (count_at n codes) codes at) (count_at n codes (item_at (count_at n codes) codes at).end)))
