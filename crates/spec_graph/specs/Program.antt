-- The programs of a workload as trees, read off its lines. Believed.
use mathlib.Core.List.{List, [], ◌∷◌, tail}
use Rattle.std.specs.Prelude.{ℕ, zero, suc, ◌+◌, length}
use Rattle.spec_text.specs.declared.Line.{Line}
use Rattle.spec_text.specs.declared.LineKind.TheVariants.{Rl, Fk, Pr, St, Lo, Br, El, En, Li}
use Rattle.spec_text.specs.declared.StatementKind.{StatementKind}

-- T5: a statement's values
pub record Statement : Type 0 where
  pub kind : StatementKind
  pub id : ℕ
  pub relation : ℕ
  pub reads : ℕ
  pub writes : ℕ
  pub tests : ℕ

-- T5: a link of a child statement to a parent statement by a foreign key
pub record Link : Type 0 where
  pub key : ℕ
  pub child : ℕ
  pub parent : ℕ

-- T8: a run holds statements and blocks; a loop holds a run, a branch two
mutual
  pub data Item : Type 0 where
    statement : Statement → Item
    loop : Run → Item
    branch : Run → Run → Item

  pub data Run : Type 0 where
    done : Run
    next : Item → Run → Run

-- T8: on how many lines a run and an item stand: a loop has its `lo` and `en`, a branch its `br`, `el` and `en`
unfoldable mutual
  pub run_lines : Run → ℕ
  run_lines done = 0
  run_lines (next x r) = item_lines x + run_lines r

  pub item_lines : Item → ℕ
  item_lines (statement s) = 1
  item_lines (loop r) = run_lines r + 2
  item_lines (branch a b) = run_lines a + run_lines b + 3

pub record Program : Type 0 where
  pub body : Run
  pub links : List Link

-- what a line says of its statement
unfoldable pub statement_of : StatementKind → Line → Statement
statement_of k l = record { kind = k; id = l.id; relation = l.rel; reads = l.reads; writes = l.writes; tests = l.tests }

-- T8: a run and the lines after it
pub record Parsed : Type 0 where
  pub run : Run
  pub rest : List Line

-- an item in front of a run
unfoldable pub in_front_of : Item → Parsed → Parsed
in_front_of x p = record { run = next x p.run; rest = p.rest }

-- T8: the run that begins at the first line, up to the first line that is neither a statement's nor inside a block of its own.
-- After a loop's body stands its `en`, after a first arm its `el`, after a second arm its `en`. The number bounds the lines.
unfoldable pub run_of : ℕ → List Line → Parsed
run_of zero lines = record { run = done; rest = lines }
run_of (suc n) [] = record { run = done; rest = [] }
run_of (suc n) (l ∷ lines) =
    elim l.kind [
      | St k ↦ in_front_of (statement (statement_of k l)) (run_of n lines)
      | Lo ↦ let body = run_of n lines in in_front_of (loop body.run) (run_of n (tail body.rest))
      | Br ↦
          let one = run_of n lines in
          let two = run_of n (tail one.rest) in
          in_front_of (branch one.run two.run) (run_of n (tail two.rest))
      | Rl ↦ record { run = done; rest = l ∷ lines }
      | Fk ↦ record { run = done; rest = l ∷ lines }
      | Pr ↦ record { run = done; rest = l ∷ lines }
      | El ↦ record { run = done; rest = l ∷ lines }
      | En ↦ record { run = done; rest = l ∷ lines }
      | Li ↦ record { run = done; rest = l ∷ lines }
    ]

-- T6: the links of a program: its `li` lines, up to the next `pr`
unfoldable pub links_of : List Line → List Link
links_of [] = []
links_of (l ∷ lines) =
    elim l.kind [
      | Li ↦ record { key = l.id; child = l.rel; parent = l.to } ∷ links_of lines
      | Pr ↦ []
      | Rl ↦ links_of lines
      | Fk ↦ links_of lines
      | St k ↦ links_of lines
      | Lo ↦ links_of lines
      | Br ↦ links_of lines
      | El ↦ links_of lines
      | En ↦ links_of lines
    ]

-- T6: the programs: what stands after each `pr`
unfoldable pub programs_of : List Line → List Program
programs_of [] = []
programs_of (l ∷ lines) =
    elim l.kind [
      | Pr ↦ record { body = (run_of (length lines) lines).run; links = links_of lines } ∷ programs_of lines
      | Rl ↦ programs_of lines
      | Fk ↦ programs_of lines
      | St k ↦ programs_of lines
      | Lo ↦ programs_of lines
      | Br ↦ programs_of lines
      | El ↦ programs_of lines
      | En ↦ programs_of lines
      | Li ↦ programs_of lines
    ]
