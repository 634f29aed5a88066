-- The programs of the lines: how many, where the lines and links of each begin, and which of its statements are marked.
use mathlib.Core.Bool.{Bool, true, false, cond, ◌&&◌, ◌||◌}
use mathlib.Core.List.{List, [], ◌∷◌, ◌++◌, append-nil, Memᴰ}
use mathlib.Core.Logic.{◌⊎◌, inl, inr}
use mathlib.Core.Option.{some}
use mathlib.Core.Path.{◌≡◌, refl, sym, ap, subst, ◌∙◌}
use Prim.Native.Nat.{ℕ, zero, suc, ◌+◌, ◌/◌, ◌≤◌, ◌<◌}
use native.Mathlib.Nat.{add-zero, zero-add}
use native.Mathlib.Decide.{ℕ_discrete}
use native.Mathlib.Numerals.{add-one}
use native.Mathlib.Omega.{arith}
use lib.Dec.{eqb}
use lib.ListN.{length, get_or, get_elem?, set, take, drop, length-append, length-set, length-take, get_or-append}
use lib.Seq.{take_all, append_snoc, get_or-append_seam, get_or-set_same, get_or-set_other, drop_at}
use borrow.Author.Tests.{ne_eqb}
use Rattle.spec_base.specs.Basic.{any, count, has}
use Rattle.law_base.specs.ListLaws.{some_injective, get_elem?_found, get_elem?_lt}
use Rattle.spec_text.specs.declared.Line.{Line}
use Rattle.spec_text.specs.declared.LineKind.{LineKind}
use Rattle.spec_text.specs.declared.LineKind.TheVariants.{Pr}
use Rattle.law_base.specs.SetLaws.{has_empty}
use Rattle.spec_text.specs.Reading.{sort, is_program, is_statement_of, within_bounds, read}
use Rattle.spec_text.specs.Reading.Outcome.{accepted}
use Rattle.law_text.specs.ReadingLaws.{line_passes}
use Rattle.law_text.specs.LineCountLaws.{bounded_true}
use Rattle.spec_graph.specs.Program.{Program, Link, run_of, links_of, programs_of}
use Rattle.spec_graph.specs.Unfolding.{Node, Occurrence, Execution, occurrences, nodes_of}
use Rattle.spec_graph.specs.Edge.{shields}
use Rattle.node_laws.specs.Bodies.{body_of}
use Rattle.node_laws.specs.LineCases.{LineCase, line_case, link_program, no_program, programs_here, programs_later}
use Rattle.node_laws.specs.LineCases.LineCase.{is_program_lem, is_link_lem, is_other}
use Rattle.node_laws.specs.FromLinks.{FromProgram, node_program}
use Rattle.node_laws.specs.GivenNodes.{accepted_nodes}
use Rattle.node_laws.specs.BoundParents.{own_bound, own_kinds}
use Rattle.value_tables.specs.Lines.{pr_number, line_number, line_table}
use Rattle.value_tables.specs.LineLaws.{line_table_length, number_at, number_names}
use Rattle.place_programs.specs.declared.Begun.{Begun}
use Rattle.place_programs.specs.LinePrograms.{begun_with, begun_line, begun_before, begun_in}
use Rattle.place_links.specs.LineLinks.{links_in}
use Rattle.place_table.proofs.PlaceRowLaws.{NodeBegins, element_default}
use Rattle.place_table.proofs.LinksLaws.{marks_has, links_begin}
use Rattle.place_table.proofs.NodeLaws.{take_more}

-- the lines after each `pr`, counted from the first line's number
firsts_of : ℕ → List Line → List ℕ
firsts_of i [] = []
firsts_of i (l ∷ lines) = cond (eqb (line_number l.kind) pr_number) (suc i ∷ firsts_of (suc i) lines) (firsts_of (suc i) lines)

-- a `pr` line, or another
pr_cases : (c : LineKind) → (c ≡ Pr) ⊎ (c ≡ Pr → ⊥)
pr_cases c = go (line_case c)
  where
    go : LineCase c → (c ≡ Pr) ⊎ (c ≡ Pr → ⊥)
    go (is_program_lem e) = inl e
    go (is_link_lem e) = inr (link_program e)
    go (is_other p q) = inr p

firsts_pr : (i : ℕ) (l : Line) (lines : List Line) → l.kind ≡ Pr → firsts_of i (l ∷ lines) ≡ suc i ∷ firsts_of (suc i) lines
unfolding firsts_of
firsts_pr i l lines e = rw e refl

firsts_other : (i : ℕ) (l : Line) (lines : List Line) → (l.kind ≡ Pr → ⊥) → firsts_of i (l ∷ lines) ≡ firsts_of (suc i) lines
unfolding firsts_of
firsts_other i l lines d = rw (ne_eqb (line_number l.kind) pr_number (λ e. d ((number_names l.kind).0 e))) refl

abbrev program_of : List Line → Program
program_of lines = record { body = (run_of (length lines) lines).run; links = links_of lines }

-- as many as programs
firsts_many : (i : ℕ) (lines : List Line) → length (firsts_of i lines) ≡ length (programs_of lines)
unfolding firsts_of programs_of
firsts_many i [] = refl
firsts_many i (l ∷ lines) = go (pr_cases l.kind) (firsts_many (suc i) lines)
  where
    go : (l.kind ≡ Pr) ⊎ (l.kind ≡ Pr → ⊥) → length (firsts_of (suc i) lines) ≡ length (programs_of lines)
        → length (firsts_of i (l ∷ lines)) ≡ length (programs_of (l ∷ lines))
    go (inl e) h = ap length (firsts_pr i l lines e) ∙ ap suc h ∙ sym (ap length (programs_here l lines e))
    go (inr e) h = ap length (firsts_other i l lines e) ∙ h ∙ sym (ap length (programs_later l lines e))

-- where a program's lines begin: after its `pr` line, and it is read off the lines from there
record Begins (whole : List Line) (first : ℕ) (p : Program) : Type 0 where
  inside : first ≤ length whole
  front : List Line
  line : Line
  kind : line.kind ≡ Pr
  joined : whole ≡ front ++ (line ∷ drop first whole)
  same : p ≡ program_of (drop first whole)

program_begins : (front rest : List Line) (q : ℕ) {p : Program} → get_elem? (programs_of rest) q ≡ some p
    → Begins (front ++ rest) (get_or (firsts_of (length front) rest) q 0) p
unfolding programs_of
program_begins front [] q e = let z : ◌≡◌ {A = ℕ} 0 1 = cc in absurd (omega arith)
program_begins front (l ∷ rest) q {p} e = go (pr_cases l.kind) q e (λ q e. program_begins (front ++ (l ∷ [])) rest q e)
  where
    next : suc (length front) ≡ length (front ++ (l ∷ []))
    next = omega (arith, length-append front (l ∷ []))

    whole : front ++ (l ∷ []) ++ rest ≡ front ++ (l ∷ rest)
    whole = append_snoc front l rest

    later : (q : ℕ) → Begins (front ++ (l ∷ []) ++ rest) (get_or (firsts_of (length (front ++ (l ∷ []))) rest) q 0) p
        → Begins (front ++ (l ∷ rest)) (get_or (firsts_of (suc (length front)) rest) q 0) p
    later q b =
        subst (λ (w : List Line). Begins w (get_or (firsts_of (suc (length front)) rest) q 0) p) whole
        (subst (λ (n : ℕ). Begins (front ++ (l ∷ []) ++ rest) (get_or (firsts_of n rest) q 0) p) (sym next) b)

    here : l.kind ≡ Pr → program_of rest ≡ p → Begins (front ++ (l ∷ rest)) (suc (length front)) p
    here kind d =
        let own : drop (suc (length front)) (front ++ (l ∷ rest)) ≡ rest =
        ap (drop (suc (length front))) (sym whole) ∙ drop_at (front ++ (l ∷ [])) rest (suc (length front)) (sym next) in
        record {
          inside = omega (arith, length-append front (l ∷ rest));
          front = front;
          line = l;
          kind = kind;
          joined = ap (λ (t : List Line). front ++ (l ∷ t)) (sym own);
          same = sym d ∙ ap program_of (sym own);
        }

    go : (l.kind ≡ Pr) ⊎ (l.kind ≡ Pr → ⊥) → (q : ℕ) → get_elem? (programs_of (l ∷ rest)) q ≡ some p
        → ((q : ℕ) → get_elem? (programs_of rest) q ≡ some p
        → Begins (front ++ (l ∷ []) ++ rest) (get_or (firsts_of (length (front ++ (l ∷ []))) rest) q 0) p)
        → Begins (front ++ (l ∷ rest)) (get_or (firsts_of (length front) (l ∷ rest)) q 0) p
    go (inl d) zero e again =
        rw (firsts_pr (length front) l rest d) (here d (some_injective (ap (λ (t : List Program). get_elem? t 0) (sym (programs_here l rest d)) ∙ e)))
    go (inl d) (suc q) e again =
        rw (firsts_pr (length front) l rest d) (later q (again q (ap (λ (t : List Program). get_elem? t (suc q)) (sym (programs_here l rest d)) ∙ e)))
    go (inr d) q e again =
        rw (firsts_other (length front) l rest d) (later q (again q (ap (λ (t : List Program). get_elem? t q) (sym (programs_later l rest d)) ∙ e)))

-- ---- the programs as they are gathered

record BegunAs (firsts : List ℕ) (b : Begun) : Type 0 where
  programs : b.programs ≡ length firsts
  cells : length b.firsts ≡ 16
  same : (p : ℕ) → p < length firsts → p < 16 → get_or b.firsts p 0 ≡ get_or firsts p 0

begun_more : (firsts : List ℕ) (b : Begun) (v : ℕ) → BegunAs firsts b → BegunAs (firsts ++ (v ∷ [])) (begun_with b v)
unfolding begun_with
begun_more firsts b v h =
    record {
      programs = omega (arith, length-append firsts (v ∷ []), h.programs);
      cells = length-set b.firsts b.programs v ∙ h.cells;
      same = λ p k s. go p k s (ℕ_discrete p (length firsts));
    }
  where
    go : (p : ℕ) → p < length (firsts ++ (v ∷ [])) → p < 16 → Dec (p ≡ length firsts)
        → get_or (set b.firsts b.programs v) p 0 ≡ get_or (firsts ++ (v ∷ [])) p 0
    go p k s (yes e) =
        let a = h.programs in
        let c = h.cells in
        let d : b.programs ≡ p = omega arith in
        ap (λ (n : ℕ). get_or (set b.firsts n v) p 0) d
        ∙ get_or-set_same b.firsts p v 0 (omega arith)
        ∙ sym (ap (λ (n : ℕ). get_or (firsts ++ (v ∷ [])) n 0) e ∙ get_or-append_seam firsts v [] 0)
    go p k s (no d) =
        let a = h.programs in
        let m = length-append firsts (v ∷ []) in
        let less : p < length firsts = omega arith in
        get_or-set_other b.firsts b.programs p v 0 (λ e. d (e ∙ h.programs))
        ∙ h.same p less s
        ∙ sym (get_or-append firsts (v ∷ []) 0 p less)

firsts_more : (i : ℕ) (lines : List Line) (l : Line)
    → firsts_of i (lines ++ (l ∷ [])) ≡ firsts_of i lines ++ cond (eqb (line_number l.kind) pr_number) (suc (i + length lines) ∷ []) []
unfolding firsts_of
firsts_more i [] l = go (eqb (line_number l.kind) pr_number)
  where
    go : (b : Bool) → cond b (suc i ∷ []) [] ≡ cond b (suc (i + 0) ∷ []) []
    go true = ap (λ (n : ℕ). suc n ∷ []) (sym (add-zero i))
    go false = refl
firsts_more i (x ∷ lines) l =
    go (eqb (line_number x.kind) pr_number)
    (firsts_more (suc i) lines l ∙ ap (λ (n : ℕ). firsts_of (suc i) lines ++ cond (eqb (line_number l.kind) pr_number) (suc n ∷ []) []) z)
  where
    z : suc i + length lines ≡ i + suc (length lines)
    z = omega arith

    tail_of : List ℕ
    tail_of = cond (eqb (line_number l.kind) pr_number) (suc (i + suc (length lines)) ∷ []) []

    go : (b : Bool) → firsts_of (suc i) (lines ++ (l ∷ [])) ≡ firsts_of (suc i) lines ++ tail_of
        → cond b (suc i ∷ firsts_of (suc i) (lines ++ (l ∷ []))) (firsts_of (suc i) (lines ++ (l ∷ [])))
        ≡ cond b (suc i ∷ firsts_of (suc i) lines) (firsts_of (suc i) lines) ++ tail_of
    go true h = ap (λ (t : List ℕ). suc i ∷ t) h
    go false h = h

begun_part : (lines : List Line) (i : ℕ) → i ≤ length lines → BegunAs (firsts_of 0 (take i lines)) (begun_before (line_table lines) i)
unfolding begun_before begun_line firsts_of
begun_part lines zero h = record { programs = refl; cells = refl; same = λ p k s. absurd (omega arith) }
begun_part lines (suc i) h =
    let found = get_elem?_found lines i h in
    let l = found.0 in
    let number = number_at lines i l h ∙ ap (λ (x : Line). line_number x.kind) (element_default lines i found.1 l) in
    let many : 0 + length (take i lines) ≡ i = omega (arith, length-take i lines) in
    let list =
    ap (firsts_of 0) (take_more lines i found.1) ∙ firsts_more 0 (take i lines) l
    ∙ ap (λ (n : ℕ). firsts_of 0 (take i lines) ++ cond (eqb (line_number l.kind) pr_number) (suc n ∷ []) []) many in
    rw (list, number) (go (eqb (line_number l.kind) pr_number) (begun_part lines i (omega arith)))
  where
    go : (t : Bool) → BegunAs (firsts_of 0 (take i lines)) (begun_before (line_table lines) i)
        → BegunAs (firsts_of 0 (take i lines) ++ cond t (suc i ∷ []) [])
        (cond t (begun_with (begun_before (line_table lines) i) (i + 1)) (begun_before (line_table lines) i))
    go true b = rw add-one (begun_more (firsts_of 0 (take i lines)) (begun_before (line_table lines) i) (suc i) b)
    go false b = rw append-nil b

begun_lines : (lines : List Line) → BegunAs (firsts_of 0 lines) (begun_in (line_table lines))
unfolding begun_in
begun_lines lines =
    let n : length (line_table lines) / 8 ≡ length lines = omega (arith, line_table_length lines) in
    rw n (subst (λ (t : List Line). BegunAs (firsts_of 0 t) (begun_before (line_table lines) (length lines)))
    (take_all (length lines) lines (omega arith)) (begun_part lines (length lines) (omega arith)))

pub programs_counted : (lines : List Line) → (begun_in (line_table lines)).programs ≡ length (programs_of lines)
programs_counted lines = (begun_lines lines).programs ∙ firsts_many 0 lines

-- ---- programs and nodes

-- the last line of lines, where there is one
last : (l : List Line) → (l ≡ []) ⊎ ((front : List Line) × (x : Line) × (l ≡ front ++ (x ∷ [])))
last [] = inl refl
last (x ∷ l) = inr (go x l (last l))
  where
    go : (x : Line) (l : List Line) → (l ≡ []) ⊎ ((front : List Line) × (y : Line) × (l ≡ front ++ (y ∷ [])))
        → (front : List Line) × (y : Line) × (x ∷ l ≡ front ++ (y ∷ []))
    go x l (inl e) = ([], x, ap (λ (t : List Line). x ∷ t) e)
    go x l (inr h) = (x ∷ h.0, h.1, ap (λ (t : List Line). x ∷ t) h.2)

programs_count : (lines : List Line) → length (programs_of lines) ≡ count is_program lines
unfolding programs_of is_program sort
programs_count [] = refl
programs_count (l ∷ lines) = go (pr_cases l.kind) (programs_count lines)
  where
    go : (l.kind ≡ Pr) ⊎ (l.kind ≡ Pr → ⊥) → length (programs_of lines) ≡ count is_program lines
        → length (programs_of (l ∷ lines)) ≡ cond (is_program l) 1 0 + count is_program lines
    go (inl e) h = ap length (programs_here l lines e) ∙ rw e (omega arith)
    go (inr d) h = ap length (programs_later l lines d) ∙ rw (no_program l d) (omega arith)

-- T12: at most 16 programs
programs_few : (text : List ℕ) (lines : List Line) → read text ≡ accepted lines → length (programs_of lines) ≤ 16
unfolding programs_of within_bounds
programs_few text lines h = go (last lines)
  where
    go : (lines ≡ []) ⊎ ((front : List Line) × (x : Line) × (lines ≡ front ++ (x ∷ []))) → length (programs_of lines) ≤ 16
    go (inl e) = rw e (omega arith)
    go (inr s) =
        let passed = line_passes text h s.0 s.1 [] s.2 in
        let most = (bounded_true (s.0 ++ (s.1 ∷ [])) passed.bounds).programs in
        let a = programs_count lines in
        let b = ap (count is_program) s.2 in
        omega arith

-- where the links of a node's program begin: the marks are those of its statements, and each child occurrence has its parent (T11)
pub node_begins : (text : List ℕ) (lines : List Line) → read text ≡ accepted lines → (n : Node) → Memᴰ n (nodes_of lines)
    → NodeBegins lines n (links_in (line_table lines) (get_or (begun_in (line_table lines)).firsts n.program 0))
unfolding nodes_of
node_begins text lines h n m =
    let t = node_program 0 (programs_of lines) n m in
    let q : n.program ≡ t.index = t.number ∙ zero-add t.index in
    let less = get_elem?_lt (programs_of lines) t.index t.there in
    let few = programs_few text lines h in
    let many = firsts_many 0 lines in
    let same : get_or (begun_in (line_table lines)).firsts n.program 0 ≡ get_or (firsts_of 0 lines) t.index 0 =
    ap (λ (k : ℕ). get_or (begun_in (line_table lines)).firsts k 0) q ∙ (begun_lines lines).same t.index (omega arith) (omega arith) in
    rw same (begins t (program_begins [] lines t.index t.there))
  where
    begins : (t : FromProgram 0 (programs_of lines) n) {first : ℕ} → Begins lines first t.program
        → NodeBegins lines n (links_in (line_table lines) first)
    begins t {first} b =
        let own = drop first lines in
        let links = links_begin lines first b.inside in
        let e : (e : Execution (program_of own).body) × (n.places ≡ occurrences e 0) =
        subst (λ (p : Program). (e : Execution p.body) × (n.places ≡ occurrences e 0)) b.same (t.execution, t.places) in
        let linked : n.links ≡ links_of own = t.links ∙ ap (λ (p : Program). p.links) b.same in
        let placed : (o : Occurrence) → Memᴰ o n.places → Memᴰ o (occurrences e.0 0) =
        λ o k. subst (λ (l : List Occurrence). Memᴰ o l) e.1 k in
        record {
          inside = links.inside;
          same = linked ∙ sym links.links;
          marked = record {
            kinds = λ o k.
                own_kinds text lines h b.front b.line own b.joined b.kind e.0 shields o (placed o k)
                ∙ sym (ap (λ (w : ℕ). has w o.statement.id) links.marks_are
                ∙ marks_has 0 (body_of own) o.statement.id ((accepted_nodes text lines h n m).places o k).id
                ∙ ap (λ (c : Bool). c || any (λ x. is_statement_of shields x.kind && eqb x.id o.statement.id) (body_of own))
                (has_empty o.statement.id));
            bound = λ l k child j s.
                let p =
                own_bound text lines h b.front b.line own b.joined b.kind e.0 l
                (subst (λ (x : List Link). Memᴰ l x) linked k) child (placed child j) s in
                (p.0, subst (λ (x : List Occurrence). Memᴰ p.0 x) (sym e.1) p.1, p.2);
          };
        }
