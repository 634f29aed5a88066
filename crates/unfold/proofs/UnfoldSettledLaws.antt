-- What is written over the tables of a given workload value settles the open functions' promises.
use mathlib.Core.Bool.{Bool, true, false}
use mathlib.Core.List.{List, [], ◌∷◌, ◌++◌}
use mathlib.Core.Option.{none, some}
use mathlib.Core.Path.{◌≡◌, refl, sym, ap, ◌∙◌}
use Prim.Native.Nat.{ℕ, ◌+◌, ◌≤◌}
use native.Mathlib.Omega.{arith}
use lib.ListN.{length, get_or, drop, replicate, length-take}
use Rattle.spec_base.specs.Basic.{numbers}
use Rattle.law_base.specs.ListLaws.{get_elem?_member}
use Rattle.spec_text.specs.declared.Line.{Line}
use Rattle.spec_text.specs.declared.Workload.{Workload}
use Rattle.spec_text.specs.Value.{Given, lines_of, value_of}
use Rattle.law_text.specs.ValueLaws.{given_read, given_fits, lines_of_value}
use Rattle.spec_graph.specs.Program.{Statement, statement_of}
use Rattle.spec_graph.specs.Unfolding.{Node, nodes_of}
use Rattle.spec_report.specs.State.{StateRefusal, statements_in, is_too_many, short_for_unfoldings}
use Rattle.spec_report.specs.State.StateRefusal.{not_given, too_many, too_short, taken}
use Rattle.unfold_laws.specs.Cap.{cap}
use Rattle.unfold_laws.specs.Codes.{codes_of}
use Rattle.unfold_laws.specs.CodesLaws.{length_codes}
use Rattle.unfold_laws.specs.Seen.{mark_of}
use Rattle.unfold_laws.specs.WritingLaws.{Tables}
use Rattle.unfold_laws.specs.Pieces.{Piece, flat, totals_before}
use Rattle.unfold_laws.specs.PiecesLaws.{PiecesFor, AlongPrograms, length_words, total_count, total_statements, all_pieces, over_alike}
use Rattle.unfold_laws.specs.PiecesLaws.{length_pieces, flat_length}
use Rattle.unfold_laws.specs.Along.{OwnHere}
use Rattle.unfold_laws.specs.Places.{place_words}
use Rattle.unfold_laws.specs.PlacesLaws.{IdWord, no_mark, AnyLines, any_along, id_words, OwnWord, own_tables, flat_own}
use Rattle.unfold.specs.declared.Unfolded.{Unfolded}
use Rattle.unfold.specs.declared.Unfolding.{Unfolding}
use Rattle.unfold.specs.UnfoldTold.{place_ids, ids_in, no_unfolding, unfoldings_in, nodes_told}
use Rattle.unfold.specs.PieceTable.{unfoldings_from, table}
use Rattle.unfold.specs.UnfoldSteps.{table_told, over_many, is_too_short, pieces_over, Ready, Tabled, ValueTabled}
use Rattle.unfold.specs.UnfoldSteps.ValueTabled.{value_refused, value_tabled}
use Rattle.unfold.specs.UnfoldSettled.{Settled, PlacesSettled}
use Rattle.unfold.specs.OwnLaws.{own_along}
use Rattle.unfold.specs.Stand.{few_nodes}
use Rattle.unfold.specs.LineWords.{words_by, marks_by}
use Rattle.unfold.specs.UnfoldLines.{LinesSettled, LinePlacesSettled, last_of, LastSettled}
use Rattle.std.specs.Prelude.{Result, Ok, Err}
use Rattle.refusal.specs.declared.Fault.{Fault}
use Rattle.refusal.specs.declared.Fault.TheVariants.{Area, NotGiven, Unfoldings}
use Rattle.refusal.specs.Numbers.{number_of}
use Rattle.refusal.specs.Refusing.{refusal_in}
use Rattle.unfold.specs.UnfoldInto.{Into}
use Rattle.unfold.specs.IntoLaws.{into_value, into_refusal}
use Rattle.node_laws.specs.GivenNodes.{accepted_lines}
use Rattle.value_tables.specs.Lines.{line_table, lines_in, table_codes, table_ids, table_marks}
use Rattle.value_tables.specs.TableLaws.{lines_many, table_codes_lem, table_marks_lem, id_told, some_lines, some_codes, some_ids}
use Rattle.value_tables.proofs.CellLaws.{number_at}

-- the promise, whatever stands in the area where nothing is refused
record SettledAs (Full : List ℕ → Type 0) (w : Workload) (before : List ℕ) (r : Result Unfolded Fault) (area : List ℕ) : Type 0 where
  refusal : StateRefusal w (short_for_unfoldings (lines_of w) (length before)) (refusal_in r)
  refused : (f : Fault) → r ≡ Err f → area ≡ before
  unfolded : (u : Unfolded) → r ≡ Ok u → (u ≡ nodes_told (nodes_of (lines_of w))) × Full area

module _ (Full : List ℕ → Type 0) (w : Workload) (before : List ℕ) where
  settled_refused : (r : Result Unfolded Fault) (area : List ℕ) (f : Fault)
      → StateRefusal w (short_for_unfoldings (lines_of w) (length before)) (some (number_of f)) → r ≡ Err f → area ≡ before
      → SettledAs Full w before r area
  settled_refused r area f h e d =
      rw (e, d) (record {
        refusal = h;
        refused = λ g p. refl;
        unfolded = λ u p. let never : ⊥ = cc in absurd never;
      })

  settled_taken : (r : Result Unfolded Fault) (area : List ℕ) → StateRefusal w (short_for_unfoldings (lines_of w) (length before)) none
      → r ≡ Ok (nodes_told (nodes_of (lines_of w))) → Full area → SettledAs Full w before r area
  settled_taken r area h e full =
      rw e (record {
        refusal = h;
        refused = λ g p. let never : ⊥ = cc in absurd never;
        unfolded = λ u p. let same : u ≡ nodes_told (nodes_of (lines_of w)) = cc in (same, full);
      })

-- the table of the nodes' pieces
module _ (Word : ℕ → Statement → ℕ → Type 0) (mark : Statement → ℕ) where
  unfoldings_nodes : (s : ℕ) (nodes : List Node) (pieces : List Piece) → PiecesFor Word mark nodes pieces
      → unfoldings_from s pieces ≡ unfoldings_in s nodes
  unfolding PiecesFor unfoldings_from unfoldings_in
  unfoldings_nodes s [] [] h = refl
  unfoldings_nodes s [] (p ∷ pieces) h = absurd h
  unfoldings_nodes s (n ∷ nodes) [] h = absurd h
  unfoldings_nodes s (n ∷ nodes) (p ∷ pieces) h =
      rw (h.0.program, length_words Word mark n p h.0, unfoldings_nodes (s + length n.places) nodes pieces h.1)

  table_nodes : (nodes : List Node) (pieces : List Piece) → PiecesFor Word mark nodes pieces → table_told (table pieces) ≡ nodes_told nodes
  unfolding table_told table nodes_told
  table_nodes nodes pieces h = rw (length_pieces Word mark nodes pieces h, unfoldings_nodes 0 nodes pieces h)

-- the lines count as many nodes and statements as they have
module _ (lines : List Line) where
  pub over_nodes : over_many (codes_of lines) ≡ is_too_many lines
  unfolding over_many is_too_many
  over_nodes =
      rw (length_codes lines, over_alike _ _ 64 (omega arith) (total_count lines), over_alike _ _ 512 (omega arith) (total_statements lines))

  exact_statements : is_too_many lines ≡ false
      → (totals_before (codes_of lines) (length (codes_of lines))).statements ≡ statements_in (nodes_of lines)
  unfolding cap
  exact_statements h = rw (length_codes lines) (omega (arith, (total_statements lines).same, (few_nodes lines h).1))

module _ (P : ℕ → List Line → Type 0) (Word : ℕ → Statement → ℕ → Type 0) (mark : Statement → ℕ) (lines : List Line) (words marks : List ℕ)
    (fit : (number : ℕ) → Tables (P number) (Word number) mark lines words marks) (along : AlongPrograms P lines) where
  pieces_for : is_too_many lines ≡ false → PiecesFor Word mark (nodes_of lines) (pieces_over (codes_of lines) words marks)
  pieces_for h = rw (length_codes lines) (all_pieces P Word mark lines words marks fit along (omega (arith, (few_nodes lines h).0)))

  ready : Ready (codes_of lines) words marks
  ready =
      record {
        few = λ o. let u : is_too_many lines ≡ false = sym (over_nodes lines) ∙ o in
            omega (arith, length_pieces Word mark (nodes_of lines) _ (pieces_for u), (few_nodes lines u).0);
        short = λ o. let u : is_too_many lines ≡ false = sym (over_nodes lines) ∙ o in
            omega (arith, flat_length Word mark (nodes_of lines) _ (pieces_for u), exact_statements lines u);
      }

-- a given workload value: over its tables the promise holds
module _ (P : ℕ → List Line → Type 0) (Word : ℕ → Statement → ℕ → Type 0) (mark : Statement → ℕ) (w : Workload) (g : Given w) (words marks : List ℕ)
    (fit : (number : ℕ) → Tables (P number) (Word number) mark (lines_of w) words marks) (along : AlongPrograms P (lines_of w))
    (before : List ℕ) (Full : List ℕ → Type 0)
    (full : (pieces : List Piece) → PiecesFor Word mark (nodes_of (lines_of w)) pieces → Full
    (flat pieces ++ drop (length (flat pieces)) before)) where
  settled_tables : (r : Result Unfolded Fault) (area : List ℕ) → Tabled (codes_of (lines_of w)) words marks before r area
      → SettledAs Full w before r area
  unfolding is_too_short short_for_unfoldings
  settled_tables r area u = go (is_too_many (lines_of w)) refl (short_for_unfoldings (lines_of w) (length before)) refl
    where
      lines : List Line
      lines = lines_of w

      over : over_many (codes_of (lines_of w)) ≡ is_too_many (lines_of w)
      over = over_nodes (lines_of w)

      short : is_too_many (lines_of w) ≡ false
          → is_too_short (codes_of (lines_of w)) (length before) ≡ short_for_unfoldings (lines_of w) (length before)
      short h = rw (exact_statements (lines_of w) h)

      go : (a : Bool) → is_too_many (lines_of w) ≡ a → (b : Bool) → short_for_unfoldings (lines_of w) (length before) ≡ b
          → SettledAs Full w before r area
      go true p b q = settled_refused Full w before r area Unfoldings (too_many g p) (u.tells ∙ rw (over, p)) (u.stands ∙ rw (over, p))
      go false p true q =
          settled_refused Full w before r area Area (too_short g p q) (u.tells ∙ rw (over, p, short p, q)) (u.stands ∙ rw (over, p, short p, q))
      go false p false q =
          let pieces = pieces_over (codes_of (lines_of w)) words marks in
          let for = pieces_for P Word mark (lines_of w) words marks fit along p in
          let written : area ≡ flat pieces ++ drop (length (flat pieces)) before = u.stands ∙ rw (over, p, short p, q) in
          settled_taken Full w before r area (taken g p q)
          (u.tells ∙ rw (over, p, short p, q) (ap (λ (t : Unfolded). Ok t) (table_nodes Word mark (nodes_of (lines_of w)) pieces for)))
          (rw written (full pieces for))

-- a workload value that no text gives
not_given_ids : (w : Workload) (before : List ℕ) → (Given w → ⊥) → Settled w before (Err NotGiven) before
not_given_ids w before h =
    let s = settled_refused (λ area. ⊥) w before (Err NotGiven) before NotGiven (not_given h) refl refl in
    record { refusal = s.refusal; refused = s.refused; unfolded = λ u p. absurd (s.unfolded u p).1 }

not_given_places : (w : Workload) (before : List ℕ) → (Given w → ⊥) → PlacesSettled w before (Err NotGiven) before
not_given_places w before h =
    let s = settled_refused (λ area. ⊥) w before (Err NotGiven) before NotGiven (not_given h) refl refl in
    record { refusal = s.refusal; refused = s.refused; unfolded = λ u p. absurd (s.unfolded u p).1 }

flat_ids : (nodes : List Node) (pieces : List Piece) → PiecesFor (λ number. IdWord) no_mark nodes pieces → flat pieces ≡ ids_in nodes
unfolding PiecesFor flat ids_in place_ids
flat_ids [] [] h = refl
flat_ids [] (p ∷ pieces) h = absurd h
flat_ids (n ∷ nodes) [] h = absurd h
flat_ids (n ∷ nodes) (p ∷ pieces) h = rw (id_words [] n.places p.words h.0.words, flat_ids nodes pieces h.1)

-- ---- over a table of lines

-- whatever the words are: their codes are those of some lines whose ids are their numbers, so each line has a mark
pub ready_lines : (ids : Bool) (words : List ℕ) → Ready (table_codes words) (words_by ids words) (marks_by ids words)
unfolding statement_of
ready_lines ids words =
    let marks = marks_by ids words in
    rw (some_codes words) (ready (λ number. AnyLines) (λ number s own. Unit {0}) (λ s. get_or marks s.id 0) (some_lines words)
    (words_by ids words) marks
    (λ number. record {
      word = λ at l k there e any. _;
      marked = λ at l k there e. ap (λ (i : ℕ). get_or marks i 0) (sym (some_ids words at there));
    })
    (λ i begins. any_along _ _))

-- the words of a given value's lines
module _ (w : Workload) (g : Given w) (words : List ℕ) (e : words ≡ line_table (lines_of w)) where
  lines_length : length (lines_of w) ≤ 1616
  unfolding lines_of
  lines_length = omega (arith, length-take w.count w.lines, given_fits g)

  codes_told : table_codes words ≡ codes_of (lines_of w)
  codes_told = ap table_codes e ∙ table_codes_lem (lines_of w)

  -- ids, with nothing marked
  id_fit : Tables AnyLines IdWord no_mark (lines_of w) (table_ids words) []
  unfolding statement_of
  id_fit =
      record {
        word = λ at l k there st any.
            let lawful = accepted_lines g.text (lines_of w) (given_read g) k l (get_elem?_member (lines_of w) at there) st in
            ap (λ (t : List ℕ). get_or (table_ids t) at 0) e ∙ id_told (lines_of w) at there (omega (arith, lawful.id));
        marked = λ at l k there st. refl;
      }

  pub settled_ids : (before : List ℕ) (r : Result Unfolded Fault) (area : List ℕ)
      → Tabled (table_codes words) (table_ids words) [] before r area → Settled w before r area
  settled_ids before r area u =
      let s = settled_tables (λ number. AnyLines) (λ number. IdWord) no_mark w g (table_ids words) []
      (λ number. id_fit) (λ i begins. any_along _ _) before
      (λ end. end ≡ ids_in (nodes_of (lines_of w)) ++ drop (length (ids_in (nodes_of (lines_of w)))) before)
      (λ pieces h. rw (flat_ids (nodes_of (lines_of w)) pieces h) refl) r area (rw codes_told at u) in
      record { refusal = s.refusal; refused = s.refused; unfolded = s.unfolded }

  -- line numbers, with the kinds marked that shield
  many_lines : lines_in words ≡ length (lines_of w)
  many_lines = ap lines_in e ∙ lines_many (lines_of w)

  place_fit : (number : ℕ)
      → Tables (OwnHere (lines_of w) number) (OwnWord (lines_of w) number) mark_of (lines_of w) (numbers (lines_in words)) (table_marks words)
  place_fit number =
      rw (ap table_marks e ∙ table_marks_lem (lines_of w)) (own_tables (lines_of w) (numbers (lines_in words)) (omega (arith, lines_length))
      (λ i h. sym (number_at (lines_in words) i (omega (arith, many_lines)))) number)

  pub settled_places : (before : List ℕ) (r : Result Unfolded Fault) (area : List ℕ)
      → Tabled (table_codes words) (numbers (lines_in words)) (table_marks words) before r area → PlacesSettled w before r area
  settled_places before r area u =
      let s = settled_tables (OwnHere (lines_of w)) (OwnWord (lines_of w)) mark_of w g
      (numbers (lines_in words)) (table_marks words) place_fit (own_along g.text (lines_of w) (given_read g)) before
      (λ end. end ≡ place_words (lines_of w) (nodes_of (lines_of w)) ++ drop (length (place_words (lines_of w) (nodes_of (lines_of w)))) before)
      (λ pieces h. rw (flat_own (lines_of w) (nodes_of (lines_of w)) pieces h) refl) r area (rw codes_told at u) in
      record { refusal = s.refusal; refused = s.refused; unfolded = s.unfolded }

-- the open promises over a table
module _ (words before : List ℕ) (r : Result Unfolded Fault) (area : List ℕ) where
  pub settled_lines : Tabled (table_codes words) (table_ids words) [] before r area → LinesSettled words before r area
  settled_lines u =
      record {
        tabled = u;
        settled = λ lines e g. settled_ids (value_of lines) g words (e ∙ ap line_table (sym (lines_of_value lines))) before r area u;
      }

  pub settled_line_places : Tabled (table_codes words) (numbers (lines_in words)) (table_marks words) before r area
      → LinePlacesSettled words before r area
  settled_line_places u =
      record {
        tabled = u;
        settled = λ lines e g. settled_places (value_of lines) g words (e ∙ ap line_table (sym (lines_of_value lines))) before r area u;
      }

-- the open promises of a value, over the words of its lines
module _ {w : Workload} {before area : List ℕ} {r : Result Unfolded Fault} where
  pub value_ids : ValueTabled true w before r area → Settled w before r area
  unfolding words_by marks_by
  value_ids (value_refused never e kept) = rw (e, kept) (not_given_ids w before never)
  value_ids (value_tabled g words e t) = settled_ids w g words e before r area t

  pub value_places : ValueTabled false w before r area → PlacesSettled w before r area
  unfolding words_by marks_by
  value_places (value_refused never e kept) = rw (e, kept) (not_given_places w before never)
  value_places (value_tabled g words e t) = settled_places w g words e before r area t

-- the last unfolding that is told, over cells of zeros
module _ {words before area : List ℕ} {unfoldings : List Unfolding} {r : Result ℕ Fault}
    (i : Into (λ u. Tabled (table_codes words) (table_ids words) [] before u area) (replicate 64 no_unfolding) r unfoldings) where
  pub last_settled : {n : ℕ} → r ≡ Ok n → LastSettled words before (Ok (last_of (record { count = n; unfoldings = unfoldings }))) area
  last_settled {n} e = let t = into_value i e in record { unfolded = _; settled = settled_lines _ _ _ _ t; last = refl }

  pub last_refused : {f : Fault} → r ≡ Err f → LastSettled words before (Err f) area
  last_refused {f} e = let t = into_refusal i e in record { unfolded = Err f; settled = settled_lines _ _ _ _ t; last = refl }
