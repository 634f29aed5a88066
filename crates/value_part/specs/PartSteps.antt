-- The steps of the code that makes a part, line by line.
use Rattle.std.specs.Prelude.{true, false, cond, List, [], ◌∷◌, ◌++◌, ◌≡◌, ℕ, ◌+◌, ◌≤◌, length, drop}
use Rattle.spec_base.specs.Basic.{count, has}
use Rattle.spec_text.specs.declared.Line.{Line}
use Rattle.spec_text.specs.declared.LineKind.TheVariants.{Pr}
use Rattle.spec_text.specs.declared.Workload.{Workload}
use Rattle.spec_text.specs.Text.{line_with}
use Rattle.spec_text.specs.Reading.{is_program}
use Rattle.spec_text.specs.Value.{lines_of, value_of}
use Rattle.spec_part.specs.Group.{part_lines}
use Rattle.value_part.specs.declared.Gone.{Gone}

-- a program's `pr` with this number, any other line as it is
unfoldable pub numbered_as : ℕ → Line → Line
numbered_as number l = cond (is_program l) (line_with Pr (number ∷ [])) l

-- one line further: a `pr` is passed and its program chosen or not
unfoldable pub gone_on : ℕ → Gone → Line → Gone
gone_on group at l =
    cond (is_program l)
    (cond (has group at.passed)
    (record { passed = at.passed + 1; chosen = at.chosen + 1; keeping = true })
    (record { passed = at.passed + 1; chosen = at.chosen; keeping = false }))
    at

-- the lines that are kept from here on, each `pr` with its number in the part
unfoldable pub kept_lines : ℕ → Gone → List Line → List Line
kept_lines group at [] = []
kept_lines group at (l ∷ lines) =
    let next = gone_on group at l in
    cond next.keeping (numbered_as at.chosen l ∷ kept_lines group next lines) (kept_lines group next lines)

-- between two lines: the part so far holds these lines, and those kept from here on make it the part's; no more than 16 programs are passed
pub record Going (group : ℕ) (w part : Workload) (at : Gone) (i : ℕ) : Type 0 where
  pub before : List Line
  pub work : part ≡ value_of before
  pub few : length before ≤ i
  pub place : i ≤ w.count
  pub programs : at.passed + count is_program (drop i (lines_of w)) ≤ 16
  pub chosen : at.chosen ≤ at.passed
  pub whole : before ++ kept_lines group at (drop i (lines_of w)) ≡ part_lines group (lines_of w)
