-- What may be handed to standard output. Believed.
use Rattle.std.specs.Prelude.{List, ◌++◌, ℕ, length, take}
use Rattle.spec_report.specs.Report.{Report}
use Rattle.stdin.specs.declared.Input.{Input}
use Rattle.stdin.specs.declared.Input.TheVariants.{Ended, Full, Failed}
use Rattle.stdin.specs.Ends.{Ends}

-- no read failed
abbrev pub Came : Input → Type 0
Came (Ended t) = Unit {0}
Came (Full t) = Unit {0}
Came (Failed t) = ⊥

-- how many bytes of the area the reads brought
abbrev pub bytes_read : Input → ℕ
bytes_read (Ended t) = t.count
bytes_read (Full t) = t.count
bytes_read (Failed t) = t.count

-- P: the bytes are the report of the text that was read: where the input ended, of the bytes that came; where the area is full, of every
-- text that begins with it, since what follows was not read; where a read failed, of none
abbrev pub ReportRead : List ℕ → Input → List ℕ → Type 0
ReportRead area (Ended t) bytes = Report (take t.count area) bytes
ReportRead area (Full t) bytes = (rest : List ℕ) → Report (area ++ rest) bytes
ReportRead area (Failed t) bytes = ⊥

pub record Shows (area : List ℕ) (read : Input) (bytes : List ℕ) : Type 0 where
  pub ends : Ends (length area) read
  pub report : ReportRead area read bytes
