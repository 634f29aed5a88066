-- The pieces of all lines are the nodes, the totals their number and that of their statements.
use Rattle.std.specs.Prelude.{Bool, true, false, cond, ◌≡◌, get_or, drop, eqb, ltb}
use mathlib.Core.List.{List, [], ◌∷◌, ◌++◌, map, append_assoc, append-nil}
use Rattle.std.proofs.Math.Option.{some}
use Rattle.std.proofs.Math.Path.{refl, sym, ap}
use Rattle.std.proofs.Common.{◌∙◌, zero-add, add-one, length-drop, eq-eqb, ne_eqb, eqb-true, ltb-true, lt-ltb}
use Prim.Native.Nat.{ℕ, zero, suc, ◌+◌, ◌-◌, ◌<◌, ◌≤◌}
use Rattle.std.proofs.Math.Nat.{add-zero}
use native.Mathlib.Omega.{arith}
use Rattle.std.proofs.Math.ListN.{length, get_elem?, length-map, length-append}
use Rattle.std.proofs.Math.Seq.{drop-length}
use Rattle.law_base.specs.BoolLaws.{same_test}
use Rattle.law_base.specs.ListLaws.{get_elem?_map_some, some_injective}
use Rattle.spec_text.specs.declared.Line.{Line}
use Rattle.spec_text.specs.declared.LineKind.{LineKind}
use Rattle.spec_text.specs.declared.LineKind.TheVariants.{Rl, Fk, Pr, St, Lo, Br, El, En, Li}
use Rattle.spec_graph.specs.Program.{Statement, Run, Program, Link, run_of, links_of, programs_of}
use Rattle.spec_graph.specs.Unfolding.{Execution, Node, occurrences, unfoldings, nodes_of_program, nodes_from, nodes_of}
use Rattle.spec_report.specs.State.{statements_in}
use Rattle.unfold_laws.specs.declared.UnfoldingTotals.{UnfoldingTotals}
use Rattle.unfold_laws.specs.Pairs.{sum_of}
use Rattle.unfold_laws.specs.Cap.{cap, plus, Alike, alike_refl, stopped, plus_alike, cap_small, cap_add}
use Rattle.unfold_laws.specs.Choosing.{count_run, statements_run}
use Rattle.unfold_laws.specs.ChoosingLaws.{length_unfoldings, chosen, statements_run_lem}
use Rattle.unfold_laws.specs.Codes.{code_of, codes_of, count_at}
use Rattle.unfold_laws.specs.CodesLaws.{counts_run, length_codes, first_line_lem}
use Rattle.unfold_laws.specs.Along.{Along}
use Rattle.unfold_laws.specs.PlaceWords.{PlaceWords}
use Rattle.unfold_laws.specs.PlaceWordsLaws.{words_length}
use Rattle.unfold_laws.specs.WritingLaws.{Tables, written_whole}
use Rattle.unfold_laws.specs.Pieces.{
  Piece,
  flat,
  tabulate,
  row,
  counted_after,
  line_totals,
  line_programs,
  line_pieces,
  totals_before,
  programs_before,
  pieces_before,
}

-- the piece of a node: its program, and words for its places; `Word` may ask for the program too
module _ (Word : ℕ → Statement → ℕ → Type 0) (mark : Statement → ℕ) where
  pub record PieceFor (n : Node) (p : Piece) : Type 0 where
    pub program : p.program ≡ n.program
    pub words : PlaceWords (Word n.program) mark 0 [] n.places p.words

  -- a piece for each node
  unfoldable pub PiecesFor : List Node → List Piece → Type 0
  PiecesFor [] [] = Unit {0}
  PiecesFor [] (p ∷ pieces) = ⊥
  PiecesFor (n ∷ nodes) [] = ⊥
  PiecesFor (n ∷ nodes) (p ∷ pieces) = PieceFor n p × PiecesFor nodes pieces

  pieces_append : (l r : List Node) (p q : List Piece) → PiecesFor l p → PiecesFor r q → PiecesFor (l ++ r) (p ++ q)
  unfolding PiecesFor
  pieces_append [] r [] q h g = g
  pieces_append [] r (x ∷ p) q h g = absurd h
  pieces_append (n ∷ l) r [] q h g = absurd h
  pieces_append (n ∷ l) r (x ∷ p) q h g = (h.0, pieces_append l r p q h.1 g)

  -- nodes whose pieces a function gives
  tabulated : (nodes : List Node) (f : ℕ → Piece) (k : ℕ)
      → ((j : ℕ) → j < length nodes → (n : Node) × (get_elem? nodes j ≡ some n) × PieceFor n (f (k + j)))
      → PiecesFor nodes (tabulate f k (length nodes))
  unfolding tabulate PiecesFor
  tabulated [] f k h = _
  tabulated (x ∷ nodes) f k h =
      let first = h 0 (omega arith) in (
        rw (some_injective first.1) (rw add-zero at first.2),
        tabulated nodes f (k + 1) (λ j p. let c = h (suc j) (omega arith) in
            let same : k + suc j ≡ k + 1 + j = omega arith in
            (c.0, c.1, rw (← same) c.2)),
      )

-- the nodes of a program: how many, and how many statements in them
module _ (lines : List Line) (number at left : ℕ) (links : List Link) where
  abbrev run_there : Run
  run_there = (run_of left (drop at lines)).run

  pub program_counts : length (nodes_of_program number (record { body = run_there; links = links })) ≡ count_run run_there
  unfolding nodes_of_program
  program_counts =
      length-map (unfoldings run_there) (λ e. record { program = number; links = links; places = occurrences e 0 }) ∙ length_unfoldings run_there

  pub program_statements : statements_in (nodes_of_program number (record { body = run_there; links = links })) ≡ statements_run run_there
  unfolding nodes_of_program statements_in sum_of
  program_statements =
      summed (unfoldings run_there) ∙ statements_run_lem run_there 0
    where
      summed : (es : List (Execution run_there))
          → statements_in (map (λ e. record { program = number; links = links; places = occurrences e 0 }) es) ≡ sum_of
          (λ e. length (occurrences e 0)) es
      summed [] = refl
      summed (e ∷ es) = omega (arith, summed es)

-- their pieces, by number
module _ (P : List Line → Type 0) (Word : ℕ → Statement → ℕ → Type 0) (mark : Statement → ℕ) (lines : List Line) (words marks : List ℕ)
    (number at left : ℕ) (links : List Link) (fit : Tables P (Word number) mark lines words marks) (along : Along P left (drop at lines)) where
  abbrev run_here : Run
  run_here = (run_of left (drop at lines)).run

  program_pieces : count_run run_here ≤ 512
      → PiecesFor Word mark (nodes_of_program number (record { body = run_here; links = links }))
      (tabulate (row number (codes_of lines) words marks at left) 0 (count_run run_here))
  unfolding nodes_of_program row
  program_pieces small =
      rw (← many) (tabulated Word mark nodes (row number (codes_of lines) words marks at left) 0 at_number)
    where
      node_here : Execution run_here → Node
      node_here e = record { program = number; links = links; places = occurrences e 0 }

      nodes : List Node
      nodes = map node_here (unfoldings run_here)

      many : length nodes ≡ count_run run_here
      many = length-map (unfoldings run_here) node_here ∙ length_unfoldings run_here

      at_number : (j : ℕ) → j < length nodes
          → (n : Node) × (get_elem? nodes j ≡ some n) × PieceFor Word mark n (row number (codes_of lines) words marks at left (0 + j))
      at_number j h =
          let c = chosen run_here j (omega (arith, many)) in (
            node_here c.execution,
            get_elem?_map_some node_here (unfoldings run_here) j c.member,
            record {
              program = refl;
              words = rw (c.places 0, zero-add)
                  (written_whole P (Word number) mark lines words marks fit left at j along small (omega (arith, many)));
            },
          )

-- nodes one after the other
statements_append : (l r : List Node) → statements_in (l ++ r) ≡ statements_in l + statements_in r
unfolding statements_in
statements_append [] r = sym (zero-add (statements_in r))
statements_append (n ∷ l) r = omega (arith, statements_append l r)

-- the nodes of the programs from a place on
unfoldable nodes_after : List Line → ℕ → List Node
nodes_after lines i = nodes_from (programs_before (codes_of lines) i) (programs_of (drop i lines))

-- the program after a `pr` line
unfoldable program_after : List Line → ℕ → Program
program_after lines i =
    record { body = (run_of (length (codes_of lines) - (i + 1)) (drop (i + 1) lines)).run; links = links_of (drop (suc i) lines) }

-- the nodes that a line begins: those of its program at a `pr` line, else none
unfoldable new_nodes : List Line → ℕ → List Node
new_nodes lines i = cond (eqb (get_or (codes_of lines) i 0) 3) (nodes_of_program (programs_before (codes_of lines) i) (program_after lines i)) []

-- the nodes that the lines before a place begin
unfoldable nodes_before : List Line → ℕ → List Node
nodes_before lines zero = []
nodes_before lines (suc i) = nodes_before lines i ++ new_nodes lines i

programs_there : (l : Line) (lines : List Line) → l.kind ≡ Pr
    → programs_of (l ∷ lines) ≡ record { body = (run_of (length lines) lines).run; links = links_of lines } ∷ programs_of lines
unfolding programs_of
programs_there l lines e = rw (e, programs_of)

programs_none : (l : Line) (lines : List Line) (k : LineKind) → l.kind ≡ k → (code_of k ≡ 3 → ⊥) → programs_of (l ∷ lines) ≡ programs_of lines
unfolding programs_of code_of
programs_none l lines Pr e n = absurd (n refl)
programs_none l lines (St s) e n = rw (e, programs_of)
programs_none l lines Lo e n = rw (e, programs_of)
programs_none l lines Br e n = rw (e, programs_of)
programs_none l lines Rl e n = rw (e, programs_of)
programs_none l lines Fk e n = rw (e, programs_of)
programs_none l lines El e n = rw (e, programs_of)
programs_none l lines En e n = rw (e, programs_of)
programs_none l lines Li e n = rw (e, programs_of)

new_after : (lines : List Line) (i : ℕ) → i < length lines → nodes_after lines i ≡ new_nodes lines i ++ nodes_after lines (suc i)
unfolding nodes_after nodes_from programs_before line_programs new_nodes program_after code_of
new_after lines i h = go l.kind refl
  where
    l : Line
    l = (first_line_lem lines i h).0

    d : drop i lines ≡ l ∷ drop (suc i) lines
    d = (first_line_lem lines i h).1

    c : get_or (codes_of lines) i 0 ≡ code_of l.kind
    c = (first_line_lem lines i h).2

    body_same : run_of (length (drop (suc i) lines)) (drop (suc i) lines) ≡ run_of (length (codes_of lines) - (i + 1)) (drop (i + 1) lines)
    body_same = rw (add-one, length-drop, length_codes)

    other : (k : LineKind) → l.kind ≡ k → (code_of k ≡ 3 → ⊥) → nodes_after lines i ≡ new_nodes lines i ++ nodes_after lines (suc i)
    other k e n =
        let none : eqb (get_or (codes_of lines) i 0) 3 ≡ false = ne_eqb (get_or (codes_of lines) i 0) 3 (λ z. n (ap code_of (sym e) ∙ sym c ∙ z)) in
        rw d (rw (programs_none l (drop (suc i) lines) k e n, none, programs_before))

    go : (k : LineKind) → l.kind ≡ k → nodes_after lines i ≡ new_nodes lines i ++ nodes_after lines (suc i)
    go Pr e =
        rw d (rw (
          programs_there l (drop (suc i) lines) e,
          eq-eqb (get_or (codes_of lines) i 0) 3 (c ∙ ap code_of e),
          programs_before,
          body_same,
          add-one (programs_before (codes_of lines) i),
        ))
    go (St s) e = other (St s) e (λ z. omega arith)
    go Lo e = other Lo e (λ z. omega arith)
    go Br e = other Br e (λ z. omega arith)
    go Rl e = other Rl e (λ z. omega arith)
    go Fk e = other Fk e (λ z. omega arith)
    go El e = other El e (λ z. omega arith)
    go En e = other En e (λ z. omega arith)
    go Li e = other Li e (λ z. omega arith)

module _ (lines : List Line) where
  nodes_parts : (i : ℕ) → i ≤ length lines → nodes_of lines ≡ nodes_before lines i ++ nodes_after lines i
  unfolding nodes_before nodes_after programs_before nodes_of
  nodes_parts zero h = refl
  nodes_parts (suc i) h =
      nodes_parts i (omega arith) ∙ rw (new_after lines i (omega arith))
      (sym (append_assoc (nodes_before lines i) (new_nodes lines i) (nodes_after lines (suc i))))

  -- the nodes are those that all lines begin
  nodes_whole : nodes_of lines ≡ nodes_before lines (length lines)
  unfolding nodes_after programs_of nodes_from
  nodes_whole = nodes_parts (length lines) (omega arith) ∙ rw drop-length (append-nil (nodes_before lines (length lines)))

  -- a line's part in the totals
  new_count : (i : ℕ) (t : UnfoldingTotals) → Alike (line_totals (codes_of lines) i t).count (t.count + length (new_nodes lines i))
  unfolding line_totals new_nodes counted_after program_after
  new_count i t = go (eqb (get_or (codes_of lines) i 0) 3)
    where
      left : ℕ
      left = length (codes_of lines) - (i + 1)

      program : List Node
      program = nodes_of_program (programs_before (codes_of lines) i) (program_after lines i)

      counts : (count_at left (codes_of lines) (i + 1)).count ≡ cap (length program)
      counts = (counts_run lines left (i + 1)).counts
          ∙ ap cap (sym (program_counts lines (programs_before (codes_of lines) i) (i + 1) left (links_of (drop (suc i) lines))))

      go : (b : Bool)
          → Alike (cond b (record {
            count = plus t.count (count_at left (codes_of lines) (i + 1)).count;
            statements = plus t.statements (count_at left (codes_of lines) (i + 1)).statements;
          }) t).count
          (t.count + length (cond b program []))
      go true = plus_alike (alike_refl t.count) (stopped counts)
      go false = rw add-zero (alike_refl t.count)

  new_statements : (i : ℕ) (t : UnfoldingTotals)
      → Alike (line_totals (codes_of lines) i t).statements (t.statements + statements_in (new_nodes lines i))
  unfolding line_totals new_nodes counted_after program_after statements_in
  new_statements i t = go (eqb (get_or (codes_of lines) i 0) 3)
    where
      left : ℕ
      left = length (codes_of lines) - (i + 1)

      program : List Node
      program = nodes_of_program (programs_before (codes_of lines) i) (program_after lines i)

      states : (count_at left (codes_of lines) (i + 1)).statements ≡ cap (statements_in program)
      states = (counts_run lines left (i + 1)).states
          ∙ ap cap (sym (program_statements lines (programs_before (codes_of lines) i) (i + 1) left (links_of (drop (suc i) lines))))

      go : (b : Bool)
          → Alike (cond b (record {
            count = plus t.count (count_at left (codes_of lines) (i + 1)).count;
            statements = plus t.statements (count_at left (codes_of lines) (i + 1)).statements;
          }) t).statements
          (t.statements + statements_in (cond b program []))
      go true = plus_alike (alike_refl t.statements) (stopped states)
      go false = rw add-zero (alike_refl t.statements)

  counts_before : (i : ℕ) → Alike (totals_before (codes_of lines) i).count (length (nodes_before lines i))
  unfolding totals_before nodes_before
  counts_before zero = alike_refl 0
  counts_before (suc i) =
      record {
        same = (new_count i (totals_before (codes_of lines) i)).same
            ∙ sym (cap_add (totals_before (codes_of lines) i).count (length (new_nodes lines i)))
            ∙ ap (λ (x : ℕ). cap (x + cap (length (new_nodes lines i)))) (counts_before i).same
            ∙ cap_add (length (nodes_before lines i)) (length (new_nodes lines i))
            ∙ ap cap (sym (length-append (nodes_before lines i) (new_nodes lines i)));
      }

  states_before : (i : ℕ) → Alike (totals_before (codes_of lines) i).statements (statements_in (nodes_before lines i))
  unfolding totals_before nodes_before statements_in
  states_before zero = alike_refl 0
  states_before (suc i) =
      record {
        same = (new_statements i (totals_before (codes_of lines) i)).same
            ∙ sym (cap_add (totals_before (codes_of lines) i).statements (statements_in (new_nodes lines i)))
            ∙ ap (λ (x : ℕ). cap (x + cap (statements_in (new_nodes lines i)))) (states_before i).same
            ∙ cap_add (statements_in (nodes_before lines i)) (statements_in (new_nodes lines i))
            ∙ ap cap (sym (statements_append (nodes_before lines i) (new_nodes lines i)));
      }

  -- the totals of all lines stop where the number of nodes and that of their statements stop
  pub total_count : Alike (totals_before (codes_of lines) (length lines)).count (length (nodes_of lines))
  total_count = rw nodes_whole (counts_before (length lines))

  pub total_statements : Alike (totals_before (codes_of lines) (length lines)).statements (statements_in (nodes_of lines))
  total_statements = rw nodes_whole (states_before (length lines))

-- what is so, for each program, along the run that is read off after its `pr` line
abbrev pub AlongPrograms : (ℕ → List Line → Type 0) → List Line → Type 0
AlongPrograms P lines = (i : ℕ) → get_or (codes_of lines) i 0 ≡ 3
    → Along (P (programs_before (codes_of lines) i)) (length (codes_of lines) - (i + 1)) (drop (i + 1) lines)

module _ (P : ℕ → List Line → Type 0) (Word : ℕ → Statement → ℕ → Type 0) (mark : Statement → ℕ) (lines : List Line) (words marks : List ℕ)
    (fit : (number : ℕ) → Tables (P number) (Word number) mark lines words marks) (along : AlongPrograms P lines) where
  new_pieces : (i : ℕ) → length (new_nodes lines i) ≤ 512
      → PiecesFor Word mark (new_nodes lines i) (line_pieces (codes_of lines) words marks i (programs_before (codes_of lines) i))
  unfolding new_nodes line_pieces counted_after program_after PiecesFor
  new_pieces i = go (eqb (get_or (codes_of lines) i 0) 3) refl
    where
      number : ℕ
      number = programs_before (codes_of lines) i

      left : ℕ
      left = length (codes_of lines) - (i + 1)

      links : List Link
      links = links_of (drop (suc i) lines)

      program : List Node
      program = nodes_of_program number (program_after lines i)

      rows : List Piece
      rows = tabulate (row number (codes_of lines) words marks (i + 1) left) 0 (count_at left (codes_of lines) (i + 1)).count

      for_rows : get_or (codes_of lines) i 0 ≡ 3 → length program ≤ 512 → PiecesFor Word mark program rows
      for_rows begins small =
          let few : count_run (run_of left (drop (i + 1) lines)).run ≤ 512 = omega (arith, program_counts lines number (i + 1) left links) in
          let exact : (count_at left (codes_of lines) (i + 1)).count ≡ count_run (run_of left (drop (i + 1) lines)).run =
          (counts_run lines left (i + 1)).counts ∙ cap_small (omega arith) in
          rw exact (program_pieces (P number) Word mark lines words marks number (i + 1) left links (fit number) (along i begins) few)

      go : (b : Bool) → eqb (get_or (codes_of lines) i 0) 3 ≡ b → length (cond b program []) ≤ 512
          → PiecesFor Word mark (cond b program []) (cond b rows [])
      go true e small = for_rows (eqb-true (get_or (codes_of lines) i 0) 3 e) small
      go false e small = _

  pieces_before_lem : (i : ℕ) → length (nodes_before lines i) ≤ 512 → PiecesFor Word mark (nodes_before lines i)
      (pieces_before (codes_of lines) words marks i)
  unfolding nodes_before pieces_before PiecesFor
  pieces_before_lem zero small = _
  pieces_before_lem (suc i) small =
      let both = length-append (nodes_before lines i) (new_nodes lines i) in
      pieces_append Word mark (nodes_before lines i) (new_nodes lines i) _ _ (pieces_before_lem i (omega (arith, both)))
      (new_pieces i (omega (arith, both)))

  -- the pieces of all lines are those of the nodes
  pub all_pieces : length (nodes_of lines) ≤ 512 → PiecesFor Word mark (nodes_of lines) (pieces_before (codes_of lines) words marks (length lines))
  all_pieces small = rw (nodes_whole lines) (pieces_before_lem (length lines) (rw (nodes_whole lines) at small))

-- numbers that stop alike are over a limit together
over_too : (a b limit : ℕ) → limit < 513 → cap a ≡ cap b → limit < a → limit < b
unfolding cap
over_too a b limit h p q = omega arith

pub over_alike : (a b limit : ℕ) → limit < 513 → Alike a b → ltb limit a ≡ ltb limit b
over_alike a b limit h p =
    same_test (ltb limit a) (ltb limit b)
    (λ e. lt-ltb limit b (over_too a b limit h p.same (ltb-true limit a e)))
    (λ e. lt-ltb limit a (over_too b a limit h (sym p.same) (ltb-true limit b e)))

-- as many pieces as nodes, as many words as statements; the programs, starts and lengths
module _ (Word : ℕ → Statement → ℕ → Type 0) (mark : Statement → ℕ) where
  pub length_words : (n : Node) (p : Piece) → PieceFor Word mark n p → length p.words ≡ length n.places
  length_words n p h = words_length (Word n.program) mark 0 [] n.places p.words h.words

  pub length_pieces : (nodes : List Node) (pieces : List Piece) → PiecesFor Word mark nodes pieces → length pieces ≡ length nodes
  unfolding PiecesFor
  length_pieces [] [] h = refl
  length_pieces [] (p ∷ pieces) h = absurd h
  length_pieces (n ∷ nodes) [] h = absurd h
  length_pieces (n ∷ nodes) (p ∷ pieces) h = ap suc (length_pieces nodes pieces h.1)

  pub flat_length : (nodes : List Node) (pieces : List Piece) → PiecesFor Word mark nodes pieces → length (flat pieces) ≡ statements_in nodes
  unfolding PiecesFor flat statements_in
  flat_length [] [] h = refl
  flat_length [] (p ∷ pieces) h = absurd h
  flat_length (n ∷ nodes) [] h = absurd h
  flat_length (n ∷ nodes) (p ∷ pieces) h =
      length-append p.words (flat pieces) ∙ omega (arith, flat_length nodes pieces h.1, length_words n p h.0)

  pub piece_programs : (nodes : List Node) (pieces : List Piece) → PiecesFor Word mark nodes pieces
      → map (λ p. p.program) pieces ≡ map (λ n. n.program) nodes
  unfolding PiecesFor
  piece_programs [] [] h = refl
  piece_programs [] (p ∷ pieces) h = absurd h
  piece_programs (n ∷ nodes) [] h = absurd h
  piece_programs (n ∷ nodes) (p ∷ pieces) h = rw (h.0.program, piece_programs nodes pieces h.1)

  pub piece_lengths : (nodes : List Node) (pieces : List Piece) → PiecesFor Word mark nodes pieces
      → map (λ p. length p.words) pieces ≡ map (λ n. length n.places) nodes
  unfolding PiecesFor
  piece_lengths [] [] h = refl
  piece_lengths [] (p ∷ pieces) h = absurd h
  piece_lengths (n ∷ nodes) [] h = absurd h
  piece_lengths (n ∷ nodes) (p ∷ pieces) h = rw (length_words n p h.0, piece_lengths nodes pieces h.1)
