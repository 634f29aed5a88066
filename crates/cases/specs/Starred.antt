-- G1 to G9: the starred cases, in one table with one statement over its rows.
use Rattle.std.specs.Prelude.{true, ◌≡◌, refl, ℕ}
use mathlib.Core.List.{List, [], ◌∷◌, ◌++◌, Memᴰ}
use Prim.Native.String.{String}
use Rattle.spec_text.specs.Quoted.{text}
use Rattle.spec_graph.specs.Graph.{Flow}
use Rattle.spec_graph.specs.ExampleText.{step}
use Rattle.spec_report.specs.Report.{Report}
use Rattle.law_report.specs.One.{report_unique}
use Rattle.cases.specs.Computed.{Case, Expected, expected_bytes, Holds, all_pass, table_holds}
use Rattle.cases.specs.Computed.Expected.{is_refused, is_robust, is_danger}

abbrev case : List String → Expected → Case
case lines e = record { text = text lines; expected = e }

abbrev names : List String
names = "kind id rel to reads writes tests" ∷ []

-- panel (relation 0) and contact (relation 1), a key from contact to panel, and program 0 of the base text
abbrev station : List String
station =
    "kind id rel to reads writes tests"
    ∷ "rl 0 - - 3 - -"
    ∷ "rl 1 - - 3 - -"
    ∷ "fk 0 1 0 - - -"
    ∷ "pr 0 - - - - -"
    ∷ "ku 0 0 - 2 2 -"
    ∷ "ku 1 1 - 0 2 -"
    ∷ "li 0 1 0 - - -"
    ∷ "pr 1 - - - - -"
    ∷ []

-- as many programs as numbers
abbrev programs : List String
programs =
    "pr 0 - - - - -" ∷ "pr 1 - - - - -" ∷ "pr 2 - - - - -" ∷ "pr 3 - - - - -" ∷ "pr 4 - - - - -" ∷ "pr 5 - - - - -"
    ∷ "pr 6 - - - - -" ∷ "pr 7 - - - - -" ∷ "pr 8 - - - - -" ∷ "pr 9 - - - - -" ∷ "pr 10 - - - - -" ∷ "pr 11 - - - - -"
    ∷ "pr 12 - - - - -" ∷ "pr 13 - - - - -" ∷ "pr 14 - - - - -" ∷ "pr 15 - - - - -" ∷ "pr 16 - - - - -" ∷ []

abbrev pub table : List Case
table =
    -- G1: the base text
    case (station ++ ("ps 0 1 - 2 - 2" ∷ [])) (is_robust 2 2 5 1)
    -- G2: ps twice; the walk `0 0 1 1 f`, `1 1 0 1 b` is the first
    ∷ case (station ++ ("ps 0 1 - 2 - 2" ∷ "ps 1 1 - 2 - 2" ∷ [])) (is_danger 2 2 8 2 (step 0 1 1 Flow.forward ∷ step 1 0 1 Flow.back ∷ []))
    -- G3: ku on panel, ks on contact, linked
    ∷ case (station ++ ("ku 0 0 - 2 2 -" ∷ "ks 1 1 - 2 - -" ∷ "li 0 1 0 - - -" ∷ [])) (is_robust 2 2 7 0)
    -- G4: the same, unlinked
    ∷ case (station ++ ("ku 0 0 - 2 2 -" ∷ "ks 1 1 - 2 - -" ∷ [])) (is_robust 2 2 8 1)
    -- G5: ks first, then ku, linked
    ∷ case
    (station ++ ("ks 0 1 - 2 - -" ∷ "ku 1 0 - 2 2 -" ∷ "li 0 0 1 - - -" ∷ []))
    (is_danger 2 2 8 1 (step 0 0 1 Flow.forward ∷ step 1 0 1 Flow.back ∷ []))
    -- G6: the names line alone
    ∷ case names (is_robust 0 0 0 0)
    -- G7: one program, a loop of one ku on contact
    ∷ case
    (names ++ ("rl 0 - - 3 - -" ∷ "rl 1 - - 3 - -" ∷ "pr 0 - - - - -" ∷ "lo - - - - - -" ∷ "ku 0 1 - 0 2 -" ∷ "en - - - - - -" ∷ []))
    (is_robust 1 3 9 0)
    -- G8: the empty text
    ∷ case [] (is_refused 2 0)
    -- G9: a 17th program
    ∷ case (names ++ programs) (is_refused 9 18)
    ∷ []

pub computed : all_pass table ≡ true
unfolding all_pass text
computed = refl
