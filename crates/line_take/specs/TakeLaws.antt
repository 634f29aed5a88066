-- The stores that taking a line makes give the state after it.
use Rattle.std.specs.Prelude.{◌≡◌, refl, List, [], ◌∷◌, ℕ, ◌-◌, ◌+◌, ◌%◌, get_or}
use Rattle.std.proofs.Common.{sym, ap, ◌∙◌}
use Rattle.std.specs.Int.Bits.{bit_or}
use Rattle.spec_text.specs.declared.Line.{Line}
use Rattle.spec_text.specs.declared.LineKind.{LineKind}
use Rattle.line_state.specs.StateSteps.{next_of, mark_of, pushed_of, popped_of, second_of, taken_relation, taken_key, taken_program}
use Rattle.line_state.specs.StateSteps.{taken_statement, taken_flow, taken_link, take_as, take_of}
use Rattle.line_state.specs.StateWords.{state_in, Taken}
use Rattle.line_state.specs.StateWordsLaws.{cell_at}
use Rattle.line_take.specs.Stores.{fits, stores_in, state_after_stores, array_after_stores, count_after_stores, array_after, count_after, at_depth, Took}
use Rattle.line_take.specs.Stores.Store.{cell, count, step}
use Rattle.line_take.specs.StoreLaws.{took_stores}

pub took_relation : {before after : List ℕ} (reads : ℕ)
    → after ≡ stores_in before (cell 0 (get_or before 422 0) reads ∷ count 6 (next_of (get_or before 422 0)) ∷ step 4 ∷ [])
    → Took before after (taken_relation (state_in before) reads)
unfolding state_in state_after_stores array_after_stores count_after_stores array_after count_after fits
took_relation {before} reads e = took_stores before _ refl e

pub took_key : {before after : List ℕ} (child parent : ℕ)
    → after
    ≡ stores_in before
    (cell 1 (get_or before 423 0) child ∷ cell 2 (get_or before 423 0) parent ∷ count 7 (next_of (get_or before 423 0)) ∷ step 4 ∷ [])
    → Took before after (taken_key (state_in before) child parent)
unfolding state_in state_after_stores array_after_stores count_after_stores array_after count_after fits
took_key {before} child parent e = took_stores before _ refl e

pub took_program : {before after : List ℕ}
    → after ≡ stores_in before (count 0 0 ∷ count 1 0 ∷ count 2 0 ∷ count 3 0 ∷ step 5 ∷ step 4 ∷ [])
    → Took before after (taken_program (state_in before))
unfolding state_in state_after_stores array_after_stores count_after_stores array_after count_after fits
took_program {before} e = took_stores before _ refl e

-- cells that the code reads as words
pub took_statement : {before after : List ℕ} {fit kept : ℕ} (rel : ℕ) → kept ≡ fit
    → after
    ≡ stores_in before
    (cell 8 (get_or before 419 0) rel
    ∷ cell 9 (get_or before 419 0) kept
    ∷ cell 10 (get_or before 419 0) (get_or before (160 + get_or before 418 0 % 32) 0)
    ∷ cell 11 (get_or before 419 0) (get_or before (192 + get_or before 418 0 % 32) 0)
    ∷ cell 12 (get_or before 419 0) (get_or before (224 + get_or before 418 0 % 32) 0)
    ∷ count 3 (next_of (get_or before 419 0))
    ∷ step 0
    ∷ step 4
    ∷ [])
    → Took before after (taken_statement (state_in before) rel fit)
unfolding state_in state_after_stores array_after_stores count_after_stores array_after count_after fits
took_statement {before} rel f e =
    let depth = get_or before 418 0 in
    rw (cell_at before 160 depth, cell_at before 192 depth, cell_at before 224 depth, ← f) (took_stores before _ refl e)

pub took_push : {before after : List ℕ} {loops firsts seconds : ℕ} (below place part : ℕ)
    → loops ≡ mark_of part 0 place → firsts ≡ mark_of part 1 place → seconds ≡ mark_of part 2 place
    → after
    ≡ stores_in before
    (cell 3 (next_of below) place
    ∷ cell 4 (next_of below) part
    ∷ cell 5 (next_of below) (bit_or loops (get_or before (160 + below % 32) 0))
    ∷ cell 6 (next_of below) (bit_or firsts (get_or before (192 + below % 32) 0))
    ∷ cell 7 (next_of below) (bit_or seconds (get_or before (224 + below % 32) 0))
    ∷ step 0
    ∷ step 4
    ∷ count 2 (next_of below)
    ∷ [])
    → Took before after (taken_flow (state_in before) (pushed_of (at_depth (state_in before).stack below) place part))
unfolding state_in state_after_stores array_after_stores count_after_stores array_after count_after fits
took_push {before} below place part k l m e =
    rw (cell_at before 160 below, cell_at before 192 below, cell_at before 224 below, ← k, ← l, ← m) (took_stores before _ refl e)

pub took_closing : {before after : List ℕ} {below : ℕ} → below ≡ get_or before 418 0 - 1
    → after ≡ stores_in before (step 0 ∷ step 4 ∷ count 2 below ∷ [])
    → Took before after (taken_flow (state_in before) (popped_of (state_in before).stack))
unfolding state_in state_after_stores array_after_stores count_after_stores array_after count_after fits
took_closing {before} k e = rw (← k) (took_stores before _ refl e)

pub took_link : {before after : List ℕ} → after ≡ stores_in before (step 1 ∷ step 4 ∷ []) → Took before after (taken_link (state_in before))
unfolding state_in state_after_stores array_after_stores count_after_stores array_after count_after fits
took_link {before} e = took_stores before _ refl e

-- the second arm begins where the first is left
pub took_second : {before after : List ℕ} {below : ℕ} → below ≡ get_or before 418 0 - 1
    → Took before after
    (taken_flow (state_in before) (pushed_of (at_depth (state_in before).stack below) (get_or before (96 + get_or before 418 0 % 32) 0) 2))
    → Took before after (taken_flow (state_in before) (second_of (state_in before).stack))
unfolding state_in
took_second {before} e t = rw (cell_at before 96 (get_or before 418 0)) (rw e at t)

-- what a line of one kind takes, a line of the same kind takes
pub took_kind : {before after : List ℕ} (l : Line) {kind as_told : LineKind} → kind ≡ as_told → Took before after (take_as (state_in before) l as_told)
    → Took before after (take_as (state_in before) l kind)
took_kind {before} l e t = record { size = t.size; state = λ n. t.state n ∙ ap (take_as (state_in before) l) (sym e) }

pub taken : {before after : List ℕ} {l : Line} → Took before after (take_of (state_in before) l) → Taken before l after
taken t = record { size = t.size; state = t.state }
