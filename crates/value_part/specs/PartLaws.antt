-- The steps of the code make the part.
use Rattle.std.specs.Prelude.{Result, Bool, false, cond, ◌⊎◌, ◌≡◌, refl, ℕ, ◌+◌, ◌≤◌, ◌<◌, eqb, get_or, set}
use Rattle.std.proofs.Math.Bool.{true}
use mathlib.Core.List.{List, [], ◌∷◌, ◌++◌, append_assoc, append-nil}
use Rattle.std.proofs.Common.{inl, inr, ◌∙◌, add-one, arith, length-append, drop-cons, get_or-take, length-take-le}
use Rattle.std.proofs.Math.Path.{sym, ap}
use Rattle.std.proofs.Math.ListN.{length, drop, drop_of_length-le}
use Rattle.spec_base.specs.Basic.{count, has}
use Rattle.law_base.specs.BoolLaws.{decide}
use Rattle.spec_text.specs.declared.Line.{Line}
use Rattle.spec_text.specs.declared.LineKind.{LineKind}
use Rattle.spec_text.specs.declared.LineKind.TheVariants.{Pr}
use Rattle.spec_text.specs.declared.Workload.{Workload}
use Rattle.spec_text.specs.Text.{line_with, kinds}
use Rattle.spec_text.specs.Reading.{sort, is_program, within_bounds}
use Rattle.spec_text.specs.Value.{lines_of, value_of, Given}
use Rattle.law_text.specs.ReadingLaws.{fault_none, Taken, read_taken}
use Rattle.law_text.specs.EveryLineKind.{line_kinds_agree}
use Rattle.law_text.specs.LineCountLaws.{bounded_true}
use Rattle.law_text.specs.ValueLaws.{appended_value, given_read, given_fits, given_cells}
use Rattle.spec_part.specs.Group.{chosen_from, until_program, program_lines, joined_from, part_lines, part_of}
use Rattle.line_kinds.specs.Kinds.{line_facts, has_id}
use Rattle.value_unused.specs.Unused.{unused_cells}
use Rattle.value_part.specs.declared.Gone.{Gone}
use Rattle.value_part.specs.declared.NotGiven.{NotGiven}
use Rattle.value_part.specs.Parted.{Parted}
use Rattle.value_part.specs.Parted.Parted.{refused, part}
use Rattle.value_part.specs.PartSteps.{numbered_as, gone_on, kept_lines, Going}

-- of all kinds `pr` alone has an id and nothing else
pub only_id : (k : LineKind) → eqb (line_facts k) has_id ≡ eqb (sort k) 2
unfolding sort kinds
only_id = line_kinds_agree (λ k. eqb (line_facts k) has_id) (λ k. eqb (sort k) 2) refl

-- ---- one line further

-- at a line that is no `pr`, at the `pr` of a chosen program, at that of another
pub on_own : (group : ℕ) (at : Gone) (l : Line) → is_program l ≡ false → gone_on group at l ≡ at
unfolding gone_on
on_own group at l other = rw other

pub on_chosen : (group : ℕ) (at : Gone) (l : Line) → is_program l ≡ true → has group at.passed ≡ true
    → gone_on group at l ≡ record { passed = at.passed + 1; chosen = at.chosen + 1; keeping = true }
unfolding gone_on
on_chosen group at l begins is_in = rw (begins, is_in)

pub on_other : (group : ℕ) (at : Gone) (l : Line) → is_program l ≡ true → has group at.passed ≡ false
    → gone_on group at l ≡ record { passed = at.passed + 1; chosen = at.chosen; keeping = false }
unfolding gone_on
on_other group at l begins is_out = rw (begins, is_out)

-- a `pr` and no other line counts as a program passed, and no more programs are chosen than passed
on_passed : (group : ℕ) (at : Gone) (l : Line) → at.chosen ≤ at.passed
    → ((gone_on group at l).passed ≡ at.passed + cond (is_program l) 1 0) × ((gone_on group at l).chosen ≤ (gone_on group at l).passed)
unfolding gone_on
on_passed group at l h = go (is_program l) (has group at.passed)
  where
    go : (begins chosen : Bool)
        → let next : Gone = cond begins
        (cond chosen (record { passed = at.passed + 1; chosen = at.chosen + 1; keeping = true })
        (record { passed = at.passed + 1; chosen = at.chosen; keeping = false }))
        at
        in (next.passed ≡ at.passed + cond begins 1 0) × (next.chosen ≤ next.passed)
    go true true = (refl, omega arith)
    go true false = (refl, omega arith)
    go false chosen = (omega arith, h)

-- ---- the lines that are kept are the part's

-- what is kept from a line on: a line that is no `pr` with those before it, a `pr` if its program is chosen
kept_own : (group : ℕ) (at : Gone) (l : Line) (lines : List Line) → is_program l ≡ false
    → kept_lines group at (l ∷ lines) ≡ cond at.keeping (l ∷ kept_lines group at lines) (kept_lines group at lines)
unfolding kept_lines numbered_as
kept_own group at l lines other = rw (on_own group at l other, other)

kept_chosen : (group : ℕ) (at : Gone) (l : Line) (lines : List Line) → is_program l ≡ true → has group at.passed ≡ true
    → kept_lines group at (l ∷ lines)
    ≡ line_with Pr (at.chosen ∷ []) ∷ kept_lines group (record { passed = at.passed + 1; chosen = at.chosen + 1; keeping = true }) lines
unfolding kept_lines numbered_as
kept_chosen group at l lines begins is_in = rw (on_chosen group at l begins is_in, begins)

kept_other : (group : ℕ) (at : Gone) (l : Line) (lines : List Line) → is_program l ≡ true → has group at.passed ≡ false
    → kept_lines group at (l ∷ lines) ≡ kept_lines group (record { passed = at.passed + 1; chosen = at.chosen; keeping = false }) lines
unfolding kept_lines
kept_other group at l lines begins is_out = rw (on_other group at l begins is_out)

kept_none : (group : ℕ) (at : Gone) → kept_lines group at [] ≡ []
unfolding kept_lines
kept_none group at = refl

-- nothing, kept or not
nothing : (b : Bool) (r : List Line) → cond b [] [] ++ r ≡ r
nothing true r = refl
nothing false r = refl

-- the lines at hand up to the next `pr`, if they are kept, then the chosen ones of the programs that follow
kept_chosen_lines : (group : ℕ) (at : Gone) (lines : List Line)
    → kept_lines group at lines
    ≡ cond at.keeping (until_program lines) [] ++ joined_from at.chosen (chosen_from group at.passed (program_lines lines))
unfolding until_program program_lines chosen_from joined_from
kept_chosen_lines group at [] = kept_none group at ∙ sym (nothing at.keeping [])
kept_chosen_lines group at (l ∷ lines) =
    go (decide (is_program l)) (decide (has group at.passed)) (λ next. kept_chosen_lines group next lines)
  where
    own : (b : Bool) (until others : List Line) {kept : List Line} → kept ≡ cond b until [] ++ others
        → cond b (l ∷ kept) kept ≡ cond b (l ∷ until) [] ++ others
    own true until others e = ap (λ r. l ∷ r) e
    own false until others e = e

    go : (is_program l ≡ true) ⊎ (is_program l ≡ false) → (has group at.passed ≡ true) ⊎ (has group at.passed ≡ false)
        → ((next : Gone) → kept_lines group next lines
        ≡ cond next.keeping (until_program lines) [] ++ joined_from next.chosen (chosen_from group next.passed (program_lines lines)))
        → kept_lines group at (l ∷ lines)
        ≡ cond at.keeping (until_program (l ∷ lines)) []
        ++ joined_from at.chosen (chosen_from group at.passed (program_lines (l ∷ lines)))
    go (inl begins) (inl is_in) rest =
        let inside = rest (record { passed = at.passed + 1; chosen = at.chosen + 1; keeping = true }) in
        kept_chosen group at l lines begins is_in ∙ rw (begins, is_in, inside, nothing, add-one at.chosen, add-one at.passed)
    go (inl begins) (inr is_out) rest =
        let outside = rest (record { passed = at.passed + 1; chosen = at.chosen; keeping = false }) in
        kept_other group at l lines begins is_out ∙ rw (begins, is_out, outside, nothing, add-one)
    go (inr other) d rest = kept_own group at l lines other ∙ rw other (own at.keeping _ _ (rest at))

-- ---- between two lines

-- T12: lines that are taken have at most 16 programs
taken_programs : (before lines : List Line) → count is_program before ≤ 16 → Taken before lines → count is_program (before ++ lines) ≤ 16
unfolding within_bounds
taken_programs before [] few t = rw append-nil few
taken_programs before (l ∷ lines) few t =
    let next = bounded_true (before ++ (l ∷ [])) (fault_none before l t.1).bounds in
    rw append_assoc at (taken_programs (before ++ (l ∷ [])) lines next.programs t.2)

-- the lines of a given value: as many as it counts, and from each place on the line there and the others
given_many : {w : Workload} → Given w → length (lines_of w) ≡ w.count
unfolding lines_of
given_many {w} g = length-take-le w.count w.lines (omega (arith, given_fits g, given_cells g))

lines_at : {w : Workload} → Given w → (i : ℕ) (d : Line) → i < w.count
    → drop i (lines_of w) ≡ get_or w.lines i d ∷ drop (i + 1) (lines_of w)
unfolding lines_of
lines_at {w} g i d h =
    let here : i < length (lines_of w) = omega (arith, given_many g) in
    drop-cons (lines_of w) i d here ∙ rw (add-one, get_or-take w.count w.lines i d h)

module _ {group : ℕ} {w : Workload} (g : Given w) where
  -- at the start all lines are kept until the first program
  pub going_start : {part : Workload} → part ≡ unused_cells 0 → Going group w part (record { passed = 0; chosen = 0; keeping = true }) 0
  unfolding value_of part_lines
  going_start e =
      record {
        before = [];
        work = e;
        few = omega arith;
        place = omega arith;
        programs = omega (arith, taken_programs [] (lines_of w) (omega arith) (read_taken g.text (lines_of w) (given_read g)));
        chosen = omega arith;
        whole = kept_chosen_lines group (record { passed = 0; chosen = 0; keeping = true }) (lines_of w);
      }

  module _ {part : Workload} {at : Gone} {i : ℕ} (s : Going group w part at i) where
    -- there is a cell for one line more
    pub going_room : i < w.count → part.count < 1616
    unfolding value_of
    going_room h = let few = s.few in omega (arith, given_fits g, ap (λ (x : Workload). x.count) s.work)

    -- the numbers stay small
    pub going_small : (at.passed ≤ 16) × (at.chosen ≤ 16)
    going_small = let programs = s.programs in let chosen = s.chosen in (omega arith, omega arith)

    -- past the last line the part is the group's
    pub going_end : w.count ≤ i → part ≡ part_of group w
    unfolding part_of kept_lines
    going_end h =
        let past : length (lines_of w) ≤ i = omega (arith, given_many g) in
        let none : drop i (lines_of w) ≡ [] = drop_of_length-le (lines_of w) past in
        s.work ∙ ap value_of (sym (append-nil s.before) ∙ ap (λ rest. s.before ++ kept_lines group at rest) (sym none) ∙ s.whole)

    -- one line further
    module _ {next : Gone} (h : i < w.count) (d : Line) (e : next ≡ gone_on group at (get_or w.lines i d)) where
      on_programs : (next.passed + count is_program (drop (i + 1) (lines_of w)) ≤ 16) × (next.chosen ≤ next.passed)
      on_programs =
          let programs = rw (lines_at g i d h) at s.programs in
          let both = on_passed group at (get_or w.lines i d) s.chosen in
          rw e (omega (arith, both.0), both.1)

      on_whole : (b : Bool) → next.keeping ≡ b
          → s.before
          ++ cond b (numbered_as at.chosen (get_or w.lines i d) ∷ kept_lines group next (drop (i + 1) (lines_of w)))
          (kept_lines group next (drop (i + 1) (lines_of w)))
          ≡ part_lines group (lines_of w)
      unfolding kept_lines
      on_whole b k = sym (rw (lines_at g i d h, ← e, k)) ∙ s.whole

      -- past a line that is not kept
      pub going_past : next.keeping ≡ false → Going group w part next (i + 1)
      going_past out =
          let few = s.few in
          record {
            before = s.before;
            work = s.work;
            few = omega arith;
            place = omega arith;
            programs = on_programs.0;
            chosen = on_programs.1;
            whole = on_whole false out;
          }

      -- past one that is kept
      pub going_next : {kept : Line} → next.keeping ≡ true → kept ≡ numbered_as at.chosen (get_or w.lines i d)
          → Going group w (record { count = part.count + 1; lines = set part.lines part.count kept }) next (i + 1)
      going_next {kept} in_part_lem same =
          let few = s.few in
          record {
            before = s.before ++ (kept ∷ []);
            work =
                ap {B = Workload} (λ (x : Workload). record { count = x.count + 1; lines = set x.lines x.count kept }) s.work
                ∙ appended_value s.before kept (omega (arith, given_fits g));
            few = omega (arith, length-append s.before (kept ∷ []));
            place = omega arith;
            programs = on_programs.0;
            chosen = on_programs.1;
            whole = rw (same, append_assoc) (on_whole true in_part_lem);
          }

-- ---- the answer

-- one result is settled
pub parted_one : {w : Workload} {group : ℕ} {r s : Result Workload NotGiven} → Parted w group r → Parted w group s → r ≡ s
parted_one (refused no_text) (refused other) = refl
parted_one (refused no_text) (part g) = absurd (no_text g)
parted_one (part g) (refused no_text) = absurd (no_text g)
parted_one (part g) (part other) = refl
