-- Line after line, the table is written.
use mathlib.Core.List.{List, [], ◌∷◌, ◌++◌, flat_map, append_assoc, append-nil}
use Rattle.std.specs.Prelude.{◌≡◌, refl, ℕ, ◌+◌, ◌-◌, ◌*◌, ◌/◌, ◌%◌, ◌≤◌, ◌<◌, length, get_or, take, drop}
use Rattle.std.proofs.Common.{sym, ap, ap₂, ◌∙◌, add-one, arith, length-append, length-drop, drop_of_length-le, take_all, drop-drop, take_at}
use Rattle.std.proofs.Math.Seq.{paste}
use Rattle.std.proofs.lemmas.List.Edits.{length-paste, take-paste}
use borrow.Rule.Slice.PartMut.{put_mid}
use Rattle.spec_text.specs.declared.LineKind.TheVariants.{St}
use Rattle.spec_text.specs.declared.StatementKind.{StatementKind}
use Rattle.spec_text.specs.Text.{space, newline, digit, word_of}
use Rattle.spec_graph.specs.Edge.{Letter}
use Rattle.spec_graph.specs.Edge.Letter.{A, B, C, D, E}
use Rattle.spec_kinds.specs.declared.Chance.{Chance}
use Rattle.spec_kinds.specs.Table.{digit_of, table_names, columns, table_line, table_text, KindTable}
use Rattle.law_text.specs.TextLaws.{word_two}
use Rattle.law_kinds.specs.Chances.{chance_of}
use Rattle.law_kinds.proofs.ChancesMeant.{chance_means, means_one}
use Rattle.law_kinds.proofs.TableLaws.{chances_table}
use Rattle.edge_kinds.specs.Kinds.{kind_of, kind_named}
use Rattle.kind_chances.specs.declared.Entry.{Entry}
use Rattle.kind_chances.specs.Entries.{chance_for, EntryMeans}
use Rattle.kind_print.specs.Lines.{line_at, written, Filling}

-- ---- a line

-- bytes of two are their first and their second
two_bytes : (w rest : List ℕ) → length w ≡ 2 → get_or w 0 0 ∷ get_or w 1 0 ∷ rest ≡ w ++ rest
two_bytes [] rest h = absurd (omega arith)
two_bytes (a ∷ []) rest h = absurd (omega arith)
two_bytes (a ∷ b ∷ []) rest h = refl
two_bytes (a ∷ b ∷ c ∷ w) rest h = absurd (omega arith)

-- what an entry tells of a letter is its chance
entry_chance : (k l : StatementKind) (e : Entry) → EntryMeans k l e → (x : Letter) → chance_for e x ≡ chance_of x k l
entry_chance k l e m x = means_one x k l (chance_for e x) (chance_of x k l) (m x) (chance_means x k l)

-- the bytes of a line: two of each word and the five digits, with spaces between them
abbrev line_bytes : List ℕ → List ℕ → ℕ → ℕ → ℕ → ℕ → ℕ → List ℕ
line_bytes from to a b c d e =
    get_or from 0 0 ∷ get_or from 1 0 ∷ space ∷ get_or to 0 0 ∷ get_or to 1 0
    ∷ space ∷ a ∷ space ∷ b ∷ space ∷ c ∷ space ∷ d ∷ space ∷ e ∷ newline ∷ []

-- the digit of a chance
abbrev shown : Chance → ℕ
shown c = digit (digit_of c)

line_bytes_lem : (k l : StatementKind) (f : Letter → Chance)
    → line_bytes (word_of (St k)) (word_of (St l)) (shown (f A)) (shown (f B)) (shown (f C)) (shown (f D)) (shown (f E)) ≡ table_line k l f
unfolding table_line columns flat_map
line_bytes_lem k l f =
    let first = word_of (St k) in
    let second = word_of (St l) in
    two_bytes first _ (word_two (St k))
    ∙ ap (λ (r : List ℕ). first ++ (space ∷ r)) (two_bytes second (columns f ++ (newline ∷ [])) (word_two (St l)))
    ∙ sym (append_assoc first (space ∷ second) (columns f ++ (newline ∷ [])))
    ∙ sym (append_assoc (first ++ (space ∷ second)) (columns f) (newline ∷ []))

-- line i, from the words of its kinds and the digits of what an entry tells of them
pub line_right : (i : ℕ) {k l m n : StatementKind} (e : Entry) {from to : List ℕ} {a b c d f : ℕ}
    → k ≡ kind_of (i / 8) → from ≡ word_of (St k) → l ≡ kind_of (i % 8) → to ≡ word_of (St l)
    → m ≡ kind_of (i / 8) → n ≡ kind_of (i % 8) → EntryMeans m n e
    → a ≡ shown e.a → b ≡ shown e.b → c ≡ shown e.c → d ≡ shown e.d → f ≡ shown e.e
    → line_bytes from to a b c d f ≡ line_at i
unfolding line_at
line_right i {m = m} {n} e hk first hl second hm hn means ea eb ec ed ef =
    let so = entry_chance m n e means in
    rw (first, second, hk, hl, ea, eb, ec, ed, ef, so A, so B, so C, so D, so E, hm, hn)
    (line_bytes_lem (kind_of (i / 8)) (kind_of (i % 8)) (λ x. chance_of x (kind_of (i / 8)) (kind_of (i % 8))))

at_length : (i : ℕ) → length (line_at i) ≡ 16
unfolding line_at
at_length i = ap length (sym (line_bytes_lem (kind_of (i / 8)) (kind_of (i % 8)) (λ x. chance_of x (kind_of (i / 8)) (kind_of (i % 8)))))

-- ---- a line in its place

-- a line that is copied to the front of the rest of an area stands there in the area
pub line_pasted : (out : List ℕ) (at i : ℕ) {line end : List ℕ} → line ≡ line_at i
    → end ≡ take (length line) line ++ drop (length line) (take (length out - at) (drop at out))
    → put_mid at (length out - at) out end ≡ paste out at (line_at i) 16
line_pasted out at i {line} {end} e h =
    let room : length (drop at out) ≤ length out - at = omega (arith, length-drop at out) in
    let last : drop (length out - at) (drop at out) ≡ [] = drop_of_length-le (drop at out) room in
    let rest : drop 16 (take (length out - at) (drop at out)) ≡ drop (at + 16) out =
    ap (drop 16) (take_all (length out - at) (drop at out) room) ∙ drop-drop 16 at out in
    rw (h, e, at_length i, last, rest)
    (ap (λ (l : List ℕ). take at out ++ l) (append-nil _) ∙ sym (append_assoc (take at out) (take 16 (line_at i)) (drop (at + 16) out)))

-- ---- the table

-- the names are copied to the front
pub names_first : (out : List ℕ) {after : List ℕ} → 1042 ≡ length out → after ≡ take 18 table_names ++ drop 18 out → Filling 0 after
unfolding table_names written
names_first out {after} size h = record {
  size = rw h (omega (arith, length-append (take 18 table_names) (drop 18 out), length-drop 18 out));
  lines = omega arith;
  front = rw h (take_at (take 18 table_names) (drop 18 out) 18 refl);
}

-- then line i
pub line_next : {i : ℕ} {out after : List ℕ} → i < 64 → Filling i out → after ≡ paste out (18 + i * 16) (line_at i) 16 → Filling (i + 1) after
unfolding written
line_next {i} {out} {after} below f h =
    let long = at_length i in
    record {
      size = rw h (length-paste out (18 + i * 16) (line_at i) 16 (omega (arith, f.size)) (omega (arith, long)) ∙ f.size);
      lines = omega arith;
      front =
          let place : 18 + (i + 1) * 16 ≡ 18 + i * 16 + 16 = omega arith in
          rw (h, place)
          (take-paste out (18 + i * 16) (line_at i) 16 (omega (arith, f.size)) (omega (arith, long))
          ∙ ap₂ (λ (a b : List ℕ). a ++ b) f.front (take_all 16 (line_at i) (omega (arith, long)))
          ∙ ap written (sym (add-one i)));
    }

-- after 64 of them it is whole
all_written : written 64 ≡ table_text chance_of
unfolding written line_at table_text table_line table_names columns flat_map word_of digit chance_of kind_of kind_named
all_written = refl

pub table_end : {i : ℕ} {out : List ℕ} → 64 ≤ i → Filling i out → KindTable out
table_end {i} {out} h f =
    let last : i ≡ 64 = omega (arith, f.lines) in
    let whole : 18 + i * 16 ≡ 1042 = omega arith in
    chances_table
    (sym (take_all 1042 out (omega (arith, f.size))) ∙ ap (λ (n : ℕ). take n out) (sym whole) ∙ f.front ∙ ap written last ∙ all_written)
