-- The lines of a part of a text are sound (Req 06): each line of a program looks at the lines before it only through the relations, the
-- keys and the lines of its own program, and the part has those of the whole.
use Rattle.std.specs.Prelude.{true, false, ◌⊎◌, ◌≡◌, ℕ, suc, ◌≤◌, ◌<◌, length, get_or}
use mathlib.Core.List.{List, [], ◌∷◌, ◌++◌, append_assoc, append-nil}
use Rattle.std.proofs.Common.{inl, inr, sym, ap₂, ◌∙◌, zero-le}
use Rattle.std.proofs.Math.Path.{refl, ap}
use native.Mathlib.Omega.{arith}
use borrow.Author.Tests.{eqb-true, eqb-false, ne_eqb, lt-ltb, le-leb, eq-eqb}
use Rattle.spec_base.specs.Basic.{any, keep, count, has}
use Rattle.law_base.specs.BoolLaws.{decide, and_of, or_left, or_right}
use Rattle.law_base.specs.ListLaws.{keep_no, keep_append, count_keep, count_append}
use Rattle.spec_text.specs.declared.Line.{Line}
use Rattle.spec_text.specs.declared.LineKind.{LineKind}
use Rattle.spec_text.specs.declared.LineKind.TheVariants.{Rl, Fk, Pr, St, Lo, Br, El, En, Li}
use Rattle.spec_text.specs.Text.{forms_of, line_with, unused_line}
use Rattle.spec_text.specs.Reading.{sort, is_relation, is_key, is_program, is_link, program, relation, key}
use Rattle.spec_text.specs.Reading.{relation_set, bounded, within_bounds, in_body, none_open, innermost, ordered, named, sets_fit, link_fits}
use Rattle.spec_part.specs.Group.{chosen_from, until_program, program_lines, joined_from}
use Rattle.law_text.specs.TextLaws.{fits, all_fit, line_fits}
use Rattle.law_text.specs.ReadingLaws.{Passes, fault_none, passes_faultless}
use Rattle.law_text.specs.LineCountLaws.{Bounded, bounded_true, program_begins, program_joins, any_last, of_sort, not_begun, relations_early}
use Rattle.node_laws.specs.LineCases.{kind_program}
use Rattle.value_laws.specs.Givens.{SoundLines}
use Rattle.law_part.specs.PartLines.{until_ends, until_goes, programs_begin, programs_go, chosen_yes, chosen_no}
use Rattle.law_part.specs.PartLines.{after_program, after_other, first_program}

-- ---- the bounds and the tests, from their facts

-- T12: what the bounds ask is all that they ask
bounded_of : (lines : List Line) → Bounded lines → bounded lines ≡ true
unfolding bounded
bounded_of lines b =
    and_of (and_of (and_of (and_of (and_of (and_of (le-leb _ 32 b.relations) (le-leb _ 32 b.keys))
    (le-leb _ 16 b.programs)) (le-leb _ 32 b.statements)) (le-leb _ 64 b.body)) (le-leb _ 32 b.links))
    (le-leb _ 8 b.depth)

-- ---- lines with the relations and keys of others

-- the same relations and keys, and no more programs
record Like (before part : List Line) : Type 0 where
  relations : keep is_relation part ≡ keep is_relation before
  keys : keep is_key part ≡ keep is_key before
  programs : count is_program part ≤ count is_program before

-- lines are like themselves
like_self : (lines : List Line) → Like lines lines
like_self lines = record { relations = refl; keys = refl; programs = omega arith }

-- lines like others, after lines like others
like_append : {before part more other : List Line} → Like before part → Like more other → Like (before ++ more) (part ++ other)
like_append {before} {part} {more} {other} a b =
    record {
      relations =
          keep_append is_relation part other ∙ ap₂ {C = List Line} ◌++◌ a.relations b.relations ∙ sym (keep_append is_relation before more);
      keys = keep_append is_key part other ∙ ap₂ {C = List Line} ◌++◌ a.keys b.keys ∙ sym (keep_append is_key before more);
      programs = omega (arith, count_append is_program part other, count_append is_program before more);
    }

-- the sort of a `pr`
program_sort : (l : Line) → is_program l ≡ true → sort l.kind ≡ 2
unfolding is_program
program_sort l h = eqb-true (sort l.kind) 2 h

-- a `pr` for a `pr`
like_program : (l m : Line) → is_program l ≡ true → is_program m ≡ true → Like (l ∷ []) (m ∷ [])
like_program l m h j =
    let a = of_sort l 2 (program_sort l h) in
    let b = of_sort m 2 (program_sort m j) in
    record {
      relations = keep_no is_relation m [] b.relation ∙ sym (keep_no is_relation l [] a.relation);
      keys = keep_no is_key m [] b.key ∙ sym (keep_no is_key l [] a.key);
      programs = rw (h, j) (omega arith);
    }

-- as many relations
like_relations : {before part : List Line} → Like before part → count is_relation part ≡ count is_relation before
like_relations {before} {part} like = count_keep is_relation part ∙ ap length like.relations ∙ sym (count_keep is_relation before)

-- as many keys
like_keys : {before part : List Line} → Like before part → count is_key part ≡ count is_key before
like_keys {before} {part} like = count_keep is_key part ∙ ap length like.keys ∙ sym (count_keep is_key before)

-- lines of which some are left out keep to the bounds
bounded_like : {before part : List Line} → Like before part → program part ≡ program before → Bounded before → Bounded part
bounded_like {before} {part} like own b =
    record {
      relations = rw (like_relations like) b.relations;
      keys = rw (like_keys like) b.keys;
      programs = omega arith;
      statements = rw own b.statements;
      body = rw own b.body;
      links = rw own b.links;
      depth = rw own b.depth;
    }

-- T6: after a `pr` there are no relations and keys
line_late : (before : List Line) (l : Line) → any is_program before ≡ true → ordered before l ≡ true → 2 ≤ sort l.kind
unfolding ordered sort
line_late before l begun h = go l.kind refl
  where
    go : (k : LineKind) → l.kind ≡ k → 2 ≤ sort k
    go Rl e = absurd (not_begun before (relations_early before (rw (e, ordered) at h)) begun)
    go Fk e = absurd (not_begun before (rw (e, ordered) at h) begun)
    go Pr e = omega arith
    go (St k) e = omega arith
    go Lo e = omega arith
    go Br e = omega arith
    go El e = omega arith
    go En e = omega arith
    go Li e = omega arith

-- a line that is neither relation nor key may be left out
like_none : (l : Line) → 2 ≤ sort l.kind → Like (l ∷ []) []
unfolding is_relation is_key
like_none l late =
    record {
      relations = sym (keep_no is_relation l [] (ne_eqb (sort l.kind) 0 (λ e. omega arith)));
      keys = sym (keep_no is_key l [] (ne_eqb (sort l.kind) 1 (λ e. omega arith)));
      programs = zero-le;
    }

-- ---- a line of a program passes after the part as it does after the whole

-- the part has begun the program at hand and has its lines
record Inside (before part : List Line) : Type 0 where
  like : Like before part
  begun : any is_program before ≡ true
  begun_too : any is_program part ≡ true
  own : program part ≡ program before

-- the same blocks are open
same_open : {before part : List Line} → Inside before part → none_open part ≡ none_open before
unfolding none_open
same_open inside = rw inside.own

module _ {before part : List Line} (inside : Inside before part) (l : Line) (other : is_program l ≡ false) where
  -- with the line too
  inside_more : Inside (before ++ (l ∷ [])) (part ++ (l ∷ []))
  inside_more =
      record {
        like = like_append inside.like (like_self (l ∷ []));
        begun = any_last is_program before l ∙ or_left (is_program l) inside.begun;
        begun_too = any_last is_program part l ∙ or_left (is_program l) inside.begun_too;
        own =
            program_joins part l other inside.begun_too
            ∙ ap (λ (own : List Line). own ++ (l ∷ [])) inside.own
            ∙ sym (program_joins before l other inside.begun);
      }

  -- both are in the program's body, or neither is
  same_body : in_body part ≡ in_body before
  unfolding in_body
  same_body = rw (inside.begun, inside.begun_too, inside.own)

  -- the same block is innermost
  same_innermost : (n : ℕ) → innermost part n ≡ innermost before n
  unfolding innermost
  same_innermost n = rw (innermost, inside.own)

  -- the line stands where it may
  same_ordered : 2 < sort l.kind → ordered part l ≡ ordered before l
  unfolding ordered sort
  same_ordered late = go l.kind refl late
    where
      go : (k : LineKind) → l.kind ≡ k → 2 < sort k → ordered part l ≡ ordered before l
      go Rl e h = absurd (omega arith)
      go Fk e h = absurd (omega arith)
      go Pr e h = absurd (omega arith)
      go (St k) e h = rw (e, ordered) same_body
      go Lo e h = rw (e, ordered) same_body
      go Br e h = rw (e, ordered) same_body
      go El e h = rw (e, ordered, same_body, same_innermost)
      go En e h = rw (e, ordered, same_body, same_innermost 0, same_innermost 2)
      go Li e h = rw (e, ordered, inside.begun, inside.begun_too) (same_open inside)

  -- as many relations
  same_relations : count is_relation part ≡ count is_relation before
  same_relations = like_relations inside.like

  -- as many keys
  same_keys : count is_key part ≡ count is_key before
  same_keys = like_keys inside.like

  -- the line names what is there
  same_named : 2 < sort l.kind → named part l ≡ named before l
  unfolding named sort
  same_named late = go l.kind refl late
    where
      go : (k : LineKind) → l.kind ≡ k → 2 < sort k → named part l ≡ named before l
      go Rl e h = absurd (omega arith)
      go Fk e h = absurd (omega arith)
      go Pr e h = absurd (omega arith)
      go (St k) e h = rw (e, named, inside.own, same_relations)
      go Lo e h = rw (e, named)
      go Br e h = rw (e, named)
      go El e h = rw (e, named)
      go En e h = rw (e, named)
      go Li e h = rw (e, named, inside.own, same_keys)

  -- its relation has the same attributes
  same_attributes : relation_set part l.rel ≡ relation_set before l.rel
  unfolding relation_set relation
  same_attributes = ap (λ (lines : List Line). (get_or lines l.rel unused_line).reads) inside.like.relations

  -- its sets fit
  same_sets : sets_fit part l ≡ sets_fit before l
  unfolding sets_fit
  same_sets = go l.kind refl
    where
      go : (k : LineKind) → l.kind ≡ k → sets_fit part l ≡ sets_fit before l
      go (St k) e = rw (e, sets_fit, same_attributes)
      go Rl e = rw (e, sets_fit)
      go Fk e = rw (e, sets_fit)
      go Pr e = rw (e, sets_fit)
      go Lo e = rw (e, sets_fit)
      go Br e = rw (e, sets_fit)
      go El e = rw (e, sets_fit)
      go En e = rw (e, sets_fit)
      go Li e = rw (e, sets_fit)

  -- a link fits
  same_link : link_fits part l ≡ link_fits before l
  unfolding link_fits key
  same_link = rw (inside.own, inside.like.keys)

  -- the line passes
  inside_passes : Passes before l → Passes part l
  unfolding within_bounds is_program
  inside_passes p =
      let apart = eqb-false (sort l.kind) 2 other in
      let least = line_late before l inside.begun p.order in
      let late : 2 < sort l.kind = omega arith in
      record {
        bounds =
            bounded_of (part ++ (l ∷ []))
            (bounded_like inside_more.like inside_more.own (bounded_true (before ++ (l ∷ [])) p.bounds));
        order = same_ordered late ∙ p.order;
        names = same_named late ∙ p.names;
        sets = same_sets ∙ p.sets;
        link = same_link ∙ p.link;
      }

-- ---- a `pr` of the part, numbered by those before it

-- the next `pr`
abbrev next_program : List Line → Line
next_program part = line_with Pr (count is_program part ∷ [])

-- with it there is one program more
next_counted_lem : (part : List Line) → count is_program (part ++ (next_program part ∷ [])) ≡ suc (count is_program part)
next_counted_lem part = after_program part (next_program part) (first_program (count is_program part))

module _ {before part : List Line} (like : Like before part) (closed : none_open part ≡ true) (l : Line) (begins : is_program l ≡ true)
    (bounds : Bounded (before ++ (l ∷ []))) where
  -- after it the program at hand has no lines yet, as after the one of the whole
  program_inside : Inside (before ++ (l ∷ [])) (part ++ (next_program part ∷ []))
  program_inside =
      let next = first_program (count is_program part) in
      record {
        like = like_append like (like_program l (next_program part) begins next);
        begun = any_last is_program before l ∙ or_right (any is_program before) begins;
        begun_too = any_last is_program part (next_program part) ∙ or_right (any is_program part) next;
        own = program_begins part (next_program part) next ∙ sym (program_begins before l begins);
      }

  -- it keeps to the bounds
  program_bounded : Bounded (part ++ (next_program part ∷ []))
  program_bounded = bounded_like program_inside.like program_inside.own bounds

  -- it passes
  program_passes : Passes part (next_program part)
  unfolding within_bounds ordered named sets_fit link_fits is_link sort line_with
  program_passes =
      record {
        bounds = bounded_of (part ++ (next_program part ∷ [])) program_bounded;
        order = closed;
        names = eq-eqb (count is_program part) (count is_program part) refl;
        sets = refl;
        link = refl;
      }

  -- its number is below 256
  program_fits : line_fits (next_program part) ≡ true
  unfolding line_fits all_fit fits forms_of line_with
  program_fits =
      and_of (lt-ltb (count is_program part) 256 (omega (arith, program_bounded.programs, next_counted_lem part))) refl

-- ---- the lines of a part are sound

-- lines that may end a text after these: sound, and no block is open at the end
abbrev pub Ending : List Line → List Line → Type 0
Ending before lines = SoundLines before lines × (none_open (before ++ lines) ≡ true)

-- a line in front
ending_more : (before : List Line) (l : Line) (lines : List Line) → line_fits l ≡ true → Passes before l → Ending (before ++ (l ∷ [])) lines
    → Ending before (l ∷ lines)
ending_more before l lines f p e = ((f, passes_faultless before l p, e.0), rw append_assoc at e.1)

-- without the line in front
ending_less : (before : List Line) (l : Line) (lines : List Line) → Ending before (l ∷ lines) → Ending (before ++ (l ∷ [])) lines
ending_less before l lines e = (e.0.2, rw append_assoc e.1)

-- a line left out
like_less : {before part : List Line} → Like before part → (l : Line) → 2 ≤ sort l.kind → Like (before ++ (l ∷ [])) part
like_less {before} {part} like l late = rw append-nil at (like_append like (like_none l late))

-- the lines of the chosen programs among these, from number n on, where the first has place k
abbrev chosen_lines : ℕ → ℕ → ℕ → List Line → List Line
chosen_lines group n k lines = joined_from n (chosen_from group k (program_lines lines))

-- lines end a text after a part that is in the program at hand, but for the programs that are not chosen
abbrev EndInside : ℕ → List Line → Type 0
EndInside group lines =
    (before part : List Line) (k : ℕ) → Inside before part → Ending before lines
    → Ending part (until_program lines ++ chosen_lines group (count is_program part) k lines)

-- and after a part that is not
abbrev EndOutside : ℕ → List Line → Type 0
EndOutside group lines =
    (before part : List Line) (k : ℕ) → Like before part → any is_program before ≡ true → none_open part ≡ true → Ending before lines
    → Ending part (chosen_lines group (count is_program part) k lines)

-- so at a `pr`: it is chosen and stands in the part with its new number, or the part stays as it is
end_program : (group : ℕ) (l : Line) (lines : List Line) → EndInside group lines → EndOutside group lines
    → (before part : List Line) (k : ℕ) → is_program l ≡ true → Like before part → none_open part ≡ true → Ending before (l ∷ lines)
    → Ending part (chosen_lines group (count is_program part) k (l ∷ lines))
unfolding joined_from within_bounds
end_program group l lines inside outside before part k begins like closed e =
    rw (programs_begin l lines begins) (go (decide (has group k)))
  where
    n : ℕ
    n = count is_program part

    bounds : Bounded (before ++ (l ∷ []))
    bounds = bounded_true (before ++ (l ∷ [])) (fault_none before l e.0.1).bounds

    go : (has group k ≡ true) ⊎ (has group k ≡ false)
        → Ending part (joined_from n (chosen_from group k (until_program lines ∷ program_lines lines)))
    go (inl h) =
        rw (chosen_yes group k (until_program lines) (program_lines lines) h)
        (ending_more part (next_program part) _ (program_fits like closed l begins bounds) (program_passes like closed l begins bounds)
        (rw (next_counted_lem part) at
        (inside (before ++ (l ∷ [])) (part ++ (next_program part ∷ [])) (suc k) (program_inside like closed l begins bounds)
        (ending_less before l lines e))))
    go (inr h) =
        let begun = any_last is_program before l ∙ or_right (any is_program before) begins in
        rw (chosen_no group k (until_program lines) (program_lines lines) h)
        (outside (before ++ (l ∷ [])) part (suc k) (like_less like l (omega (arith, program_sort l begins))) begun closed
        (ending_less before l lines e))

-- T8: at a `pr` no block is open
program_closed : (before : List Line) (l : Line) → is_program l ≡ true → ordered before l ≡ true → none_open before ≡ true
unfolding ordered
program_closed before l begins h = rw (kind_program l begins, ordered) at h

-- a line of a program that the part has
end_inside : (group : ℕ) (l : Line) (lines : List Line) → EndInside group lines → EndOutside group lines → EndInside group (l ∷ lines)
end_inside group l lines inside outside before part k within e = go (decide (is_program l))
  where
    passes : Passes before l
    passes = fault_none before l e.0.1

    go : (is_program l ≡ true) ⊎ (is_program l ≡ false)
        → Ending part (until_program (l ∷ lines) ++ chosen_lines group (count is_program part) k (l ∷ lines))
    go (inl begins) =
        rw (until_ends l lines begins)
        (end_program group l lines inside outside before part k begins within.like
        (same_open within ∙ program_closed before l begins passes.order) e)
    go (inr other) =
        rw (until_goes l lines other, programs_go l lines other)
        (ending_more part l _ e.0.0 (inside_passes within l other passes)
        (rw (after_other part l other) at
        (inside (before ++ (l ∷ [])) (part ++ (l ∷ [])) k (inside_more within l other) (ending_less before l lines e))))

-- a line of a program that it has not
end_outside : (group : ℕ) (l : Line) (lines : List Line) → EndInside group lines → EndOutside group lines → EndOutside group (l ∷ lines)
end_outside group l lines inside outside before part k like begun closed e = go (decide (is_program l))
  where
    go : (is_program l ≡ true) ⊎ (is_program l ≡ false) → Ending part (chosen_lines group (count is_program part) k (l ∷ lines))
    go (inl begins) = end_program group l lines inside outside before part k begins like closed e
    go (inr other) =
        let late = line_late before l begun (fault_none before l e.0.1).order in
        rw (programs_go l lines other)
        (outside (before ++ (l ∷ [])) part k (like_less like l late) (any_last is_program before l ∙ or_left (is_program l) begun) closed
        (ending_less before l lines e))

-- lines after a part, line by line
ends : (group : ℕ) (lines : List Line) → EndInside group lines × EndOutside group lines
unfolding until_program program_lines chosen_from joined_from
ends group [] = (
  λ before part k within e. (tt, rw (append-nil part) (same_open within ∙ (rw append-nil at e.1))),
  λ before part k like begun closed e. (tt, rw append-nil closed),
)
ends group (l ∷ lines) =
    let rest = ends group lines in
    (end_inside group l lines rest.0 rest.1, end_outside group l lines rest.0 rest.1)

-- the relations and keys are those of the whole; from the first `pr` on the part goes its own way
pub part_ending : (group : ℕ) (before lines : List Line) → Ending before lines
    → Ending before (until_program lines ++ joined_from (count is_program before) (chosen_from group 0 (program_lines lines)))
unfolding until_program program_lines chosen_from joined_from
part_ending group before [] e = e
part_ending group before (l ∷ lines) e = go (decide (is_program l)) (part_ending group (before ++ (l ∷ [])) lines (ending_less before l lines e))
  where
    passes : Passes before l
    passes = fault_none before l e.0.1

    go : (is_program l ≡ true) ⊎ (is_program l ≡ false)
        → Ending (before ++ (l ∷ [])) (until_program lines ++ chosen_lines group (count is_program (before ++ (l ∷ []))) 0 lines)
        → Ending before (until_program (l ∷ lines) ++ chosen_lines group (count is_program before) 0 (l ∷ lines))
    go (inl begins) rest =
        let both = ends group lines in
        rw (until_ends l lines begins)
        (end_program group l lines both.0 both.1 before before 0 begins (like_self before)
        (program_closed before l begins passes.order) e)
    go (inr other) rest =
        rw (until_goes l lines other, programs_go l lines other)
        (ending_more before l _ e.0.0 passes (rw (after_other before l other) at rest))
