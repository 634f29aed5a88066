-- Part of a workload: some of its programs (Req 06). Believed.
use Rattle.std.specs.Prelude.{cond, List, [], ◌∷◌, ◌++◌, ℕ, suc}
use Rattle.spec_base.specs.Basic.{has}
use Rattle.spec_text.specs.declared.Line.{Line}
use Rattle.spec_text.specs.declared.LineKind.TheVariants.{Pr}
use Rattle.spec_text.specs.declared.Workload.{Workload}
use Rattle.spec_text.specs.Text.{line_with}
use Rattle.spec_text.specs.Reading.{is_program}
use Rattle.spec_text.specs.Value.{lines_of, value_of}

-- Req 06: a group is a word, and bit k chooses program k. Of a list whose first element stands at place k, the elements at chosen places, in order
unfoldable pub chosen_from : {A : Type 0} → ℕ → ℕ → List A → List A
chosen_from group k [] = []
chosen_from group k (x ∷ l) = cond (has group k) (x ∷ chosen_from group (suc k) l) (chosen_from group (suc k) l)

-- T6: the lines up to the next `pr`
unfoldable pub until_program : List Line → List Line
until_program [] = []
until_program (l ∷ lines) = cond (is_program l) [] (l ∷ until_program lines)

-- T6: of each program the lines after its `pr`: statements and flow, then links
unfoldable pub program_lines : List Line → List (List Line)
program_lines [] = []
program_lines (l ∷ lines) = cond (is_program l) (until_program lines ∷ program_lines lines) (program_lines lines)

-- T6, T7: programs one after the other, each after its `pr`, numbered from n on
unfoldable pub joined_from : ℕ → List (List Line) → List Line
joined_from n [] = []
joined_from n (own ∷ programs) = line_with Pr (n ∷ []) ∷ own ++ joined_from (suc n) programs

-- Req 06: the lines of the part: relations and keys, then the chosen programs in order, renumbered, their statements, flow and links kept
unfoldable pub part_lines : ℕ → List Line → List Line
part_lines group lines = until_program lines ++ joined_from 0 (chosen_from group 0 (program_lines lines))

-- Req 06: the value of the part
unfoldable pub part_of : ℕ → Workload → Workload
part_of group w = value_of (part_lines group (lines_of w))
