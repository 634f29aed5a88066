-- The two kinds of words that are written: statement ids with nothing seen, and line numbers with what is seen.
use Rattle.std.specs.Prelude.{Bool, true, false, cond, List, [], ◌∷◌, ◌++◌, map, ◌≡◌, refl, ℕ, zero, suc, ◌<◌, ◌≤◌, length, get_or}
use Rattle.std.proofs.Math.Option.{Option, none, some}
use Rattle.std.proofs.Common.{sym, ap, ap₂, ◌∙◌, arith, take_at, drop_at}
use Rattle.std.specs.Int.Bits.{bit_or, or_zero_l}
use Rattle.std.proofs.Math.ListN.{get_elem?}
use Rattle.law_base.specs.ListLaws.{get_elem?_lt}
use Rattle.spec_text.specs.declared.Line.{Line}
use Rattle.spec_text.specs.declared.LineKind.TheVariants.{St}
use Rattle.spec_text.specs.declared.StatementKind.{StatementKind}
use Rattle.spec_graph.specs.Program.{Statement, statement_of}
use Rattle.spec_graph.specs.Unfolding.{Around, Occurrence, Node}
use Rattle.spec_graph.specs.Edge.{leads}
use Rattle.unfold_laws.specs.WordCode.{packed, line_in, seen_in, unpacked}
use Rattle.unfold_laws.specs.Codes.{ids_of, mark_in, bit_in, marks_of}
use Rattle.unfold_laws.specs.Seen.{mark_of, seen_at, statement_in, statement_on, NodeWords, WordsFor}
use Rattle.unfold_laws.specs.PlaceWords.{shown, PlaceWords}
use Rattle.unfold_laws.specs.PlaceWordsLaws.{words_length}
use Rattle.unfold_laws.specs.Places.{own_line, place_word, node_words, place_words}
use Rattle.unfold_laws.specs.Along.{Along, OwnHere}
use Rattle.unfold_laws.specs.AlongLaws.{along_all}
use Rattle.unfold_laws.specs.WritingLaws.{Tables}
use Rattle.unfold_laws.specs.Pieces.{Piece, flat}
use Rattle.unfold_laws.specs.PiecesLaws.{PiecesFor}

-- what a function makes of a list, at a place that holds this
map_there : {A : Type 0} (f : A → ℕ) (l : List A) (i : ℕ) {x : A} → get_elem? l i ≡ some x → get_or (map f l) i 0 ≡ f x
map_there {A = A} f [] i {x} e = let z : ◌≡◌ {A = Option A} none (some x) = e in let y : ◌≡◌ {A = ℕ} 0 1 = cc in absurd (omega arith)
map_there f (y ∷ l) zero {x} e = ap f (cc)
map_there f (y ∷ l) (suc i) e = map_there f l i e

-- a statement's id is its word, and nothing is marked
abbrev pub IdWord : Statement → ℕ → Type 0
IdWord s own = own ≡ s.id

abbrev pub no_mark : Statement → ℕ
no_mark s = 0

-- nothing is asked of the lines
abbrev pub AnyLines : List Line → Type 0
AnyLines lines = Unit {0}

pub any_along : (n : ℕ) (lines : List Line) → Along AnyLines n lines
any_along n lines = along_all AnyLines (λ l. _) n lines

pub id_tables : (lines : List Line) (marks : List ℕ) → ((i : ℕ) → get_or marks i 0 ≡ 0)
    → Tables AnyLines IdWord no_mark lines (ids_of lines) marks
unfolding ids_of statement_of
id_tables lines marks h =
    record {
      word = λ at l k there e any. map_there (λ x. x.id) lines at there;
      marked = λ at l k there e. h at;
    }

none_shown : (before : List Occurrence) (path : List Around) → shown no_mark before path ≡ 0
unfolding shown
none_shown [] path = refl
none_shown (p ∷ before) path = rw (none_shown before path) (go (leads p.path path))
  where
    go : (b : Bool) → bit_or (cond b 0 0) 0 ≡ 0
    go true = or_zero_l 0
    go false = or_zero_l 0

pub id_words : (before places : List Occurrence) (words : List ℕ) → PlaceWords IdWord no_mark 0 before places words
    → words ≡ map (λ o. o.statement.id) places
unfolding PlaceWords
id_words before [] [] h = refl
id_words before [] (w ∷ words) h = absurd h
id_words before (o ∷ places) [] h = absurd h
id_words before (o ∷ places) (w ∷ words) h = rw (own, id_words (before ++ (o ∷ [])) places words h.1)
  where
    own : w ≡ o.statement.id
    own = h.0.whole ∙ rw (h.0.fits, none_shown before o.path, or_zero_l) (omega arith)

-- a line's number is its word, and the kinds that shield are marked
pub record LineWord (lines : List Line) (s : Statement) (own : ℕ) : Type 0 where
  pub small : own < 2048
  pub there : statement_on lines own ≡ some s

statement_there : (lines : List Line) (i : ℕ) (l : Line) (k : StatementKind) → get_elem? lines i ≡ some l → l.kind ≡ St k
    → statement_on lines i ≡ some (statement_of k l)
unfolding statement_on statement_in
statement_there lines i l k h e = rw (h, statement_on) (rw e refl)

mark_there : (k : StatementKind) (l : Line) → l.kind ≡ St k → mark_in l.kind l.id ≡ mark_of (statement_of k l)
unfolding mark_in bit_in mark_of statement_of
mark_there k l e = rw e

pub place_tables : (lines : List Line) (words : List ℕ) → length lines ≤ 2048 → ((i : ℕ) → i < length lines → get_or words i 0 ≡ i)
    → Tables AnyLines (LineWord lines) mark_of lines words (marks_of lines)
unfolding marks_of
place_tables lines words few h =
    record {
      word = λ at l k there e any.
          let inner : at < length lines = get_elem?_lt lines at there in
          rw (h at inner) (record { small = omega arith; there = statement_there lines at l k there e });
      marked = λ at l k there e. map_there (λ x. mark_in x.kind x.id) lines at there ∙ mark_there k l e;
    }

shown_seen : (before : List Occurrence) (o : Occurrence) → shown mark_of before o.path ≡ seen_at before o
unfolding shown seen_at
shown_seen [] o = refl
shown_seen (p ∷ before) o = rw (shown_seen before o)

pub place_words_lem : (lines : List Line) (before places : List Occurrence) (words : List ℕ)
    → PlaceWords (LineWord lines) mark_of 0 before places words → NodeWords lines before places words
unfolding PlaceWords NodeWords
place_words_lem lines before [] [] h = _
place_words_lem lines before [] (w ∷ words) h = absurd h
place_words_lem lines before (o ∷ places) [] h = absurd h
place_words_lem lines before (o ∷ places) (w ∷ words) h = (
  record {
    line = ap (statement_on lines) (ap line_in whole ∙ parts.0) ∙ h.0.fits.there;
    seen = ap seen_in whole ∙ parts.1;
  },
  place_words_lem lines (before ++ (o ∷ [])) places words h.1,
)
  where
    whole : w ≡ packed h.0.own (seen_at before o)
    whole = h.0.whole ∙ rw (shown_seen before o, or_zero_l)

    parts : (line_in (packed h.0.own (seen_at before o)) ≡ h.0.own) × (seen_in (packed h.0.own (seen_at before o)) ≡ seen_at before o)
    parts = unpacked h.0.own (seen_at before o) h.0.fits.small

-- a statement's own line in a program is its word
pub record OwnWord (lines : List Line) (number : ℕ) (s : Statement) (own : ℕ) : Type 0 where
  pub line : LineWord lines s own
  pub same : own ≡ own_line lines number s.id

pub own_tables : (lines : List Line) (words : List ℕ) → length lines ≤ 2048 → ((i : ℕ) → i < length lines → get_or words i 0 ≡ i) → (number : ℕ)
    → Tables (OwnHere lines number) (OwnWord lines number) mark_of lines words (marks_of lines)
unfolding OwnHere statement_of
own_tables lines words few h number =
    let fit = place_tables lines words few h in
    record {
      word = λ at l k there e own.
          record { line = fit.word at l k there e _; same = h at (get_elem?_lt lines at there) ∙ sym (own at l refl there) };
      marked = fit.marked;
    }

-- words of one sort are words of another
words_as : (Given Word : Statement → ℕ → Type 0) (mark : Statement → ℕ) → ((s : Statement) (own : ℕ) → Given s own → Word s own)
    → (seen : ℕ) (before places : List Occurrence) (words : List ℕ) → PlaceWords Given mark seen before places words
    → PlaceWords Word mark seen before places words
unfolding PlaceWords
words_as Given Word mark f seen before [] [] h = h
words_as Given Word mark f seen before [] (w ∷ words) h = absurd h
words_as Given Word mark f seen before (o ∷ places) [] h = absurd h
words_as Given Word mark f seen before (o ∷ places) (w ∷ words) h = (
  record { own = h.0.own; fits = f o.statement h.0.own h.0.fits; whole = h.0.whole },
  words_as Given Word mark f seen (before ++ (o ∷ [])) places words h.1,
)

-- they are the words of the places
pub own_words : (lines : List Line) (number : ℕ) (before places : List Occurrence) (words : List ℕ)
    → PlaceWords (OwnWord lines number) mark_of 0 before places words → words ≡ node_words lines number before places
unfolding PlaceWords node_words place_word
own_words lines number before [] [] h = refl
own_words lines number before [] (w ∷ words) h = absurd h
own_words lines number before (o ∷ places) [] h = absurd h
own_words lines number before (o ∷ places) (w ∷ words) h =
    ap₂ (λ (x : ℕ) (l : List ℕ). x ∷ l) word (own_words lines number (before ++ (o ∷ [])) places words h.1)
  where
    word : w ≡ packed (own_line lines number o.statement.id) (seen_at before o)
    word = h.0.whole ∙ rw (shown_seen before o, or_zero_l (seen_at before o)) (ap (λ (x : ℕ). packed x (seen_at before o)) h.0.fits.same)

pub flat_own : (lines : List Line) (nodes : List Node) (pieces : List Piece) → PiecesFor (OwnWord lines) mark_of nodes pieces
    → flat pieces ≡ place_words lines nodes
unfolding PiecesFor place_words flat
flat_own lines [] [] h = refl
flat_own lines [] (p ∷ pieces) h = absurd h
flat_own lines (n ∷ nodes) [] h = absurd h
flat_own lines (n ∷ nodes) (p ∷ pieces) h =
    ap₂ (λ (a b : List ℕ). a ++ b) (own_words lines n.program [] n.places p.words h.0.words) (flat_own lines nodes pieces h.1)

-- and each stands for its place
pub words_for : (lines : List Line) (nodes : List Node) (pieces : List Piece) → PiecesFor (OwnWord lines) mark_of nodes pieces
    → WordsFor lines nodes (flat pieces)
unfolding PiecesFor WordsFor flat
words_for lines [] [] h = _
words_for lines [] (p ∷ pieces) h = absurd h
words_for lines (n ∷ nodes) [] h = absurd h
words_for lines (n ∷ nodes) (p ∷ pieces) h =
    let plain = words_as (OwnWord lines n.program) (LineWord lines) mark_of (λ s own w. w.line) 0 [] n.places p.words h.0.words in
    let long = words_length (LineWord lines) mark_of 0 [] n.places p.words plain in (
      rw (take_at p.words (flat pieces) (length n.places) long) (place_words_lem lines [] n.places p.words plain),
      rw (drop_at p.words (flat pieces) (length n.places) long) (words_for lines nodes pieces h.1),
    )
